-- What each rank makes of the sums of all parts.
use Rattle.std.proofs.Common.{◌≡◌, ◌∙◌, refl, sym, subst, ap, arith, ℕ, suc, ◌+◌, ◌*◌, ◌<◌, ◌≤◌, ◌⊎◌, inl, inr, ℤ, pos, false, List, [], ◌∷◌, append-nil, map, length, length-set, get_or, set, take, cond, eqb, Some, None, Ok}
use Rattle.std.specs.Prelude.{flat_map, nat_lt, ◌&&◌, Option}
use Rattle.std.specs.Bool.{IsTrue}
use Rattle.std.specs.List.{All, AllByRecursion, AllZip}
use Rattle.std.proofs.lemmas.Bool.{and_parts, cases_eq, eq-eqb, ltb-true, ne_eqb}
use Rattle.std.proofs.lemmas.List.{get_or-set_other, get_or-set_same, length-map, take-map}
use Rattle.std.proofs.lemmas.List.Elements.{All-map, recursion_from_All}
use Rattle.std.proofs.lemmas.List.Folds.{flat_map-map}
use Rattle.hp_word.specs.declared.fold.FoldKind.TheVariants.{Sum}
use Rattle.hp_word.specs.declared.table.Message.{Message}
use Rattle.hp_word.specs.declared.table.Tables.{Tables}
use Rattle.hp_word.specs.Folds.{fold_of, sum_z}
use Rattle.hp_word.specs.ListRules.{prefix_sums, sums_after}
use Rattle.hp_word.specs.LoopRules.{word_at}
use Rattle.hp_word.specs.Words.{wrap}
use Rattle.hp_word.proofs.FoldLemmas.{fold_of_pieces}
use Rattle.hp_lattice.specs.declared.dist.Dist.{Dist}
use Rattle.hp_lattice.specs.declared.dist.Dist.TheVariants.{Block}
use Rattle.hp_spmd.specs.declared.code.Code.{Code}
use Rattle.hp_spmd.specs.declared.instr.Instr.{Instr}
use Rattle.hp_spmd.specs.declared.instr.Instr.TheVariants as instr
use Rattle.hp_spmd.specs.declared.instr.Packing.TheVariants.{Words}
use Rattle.hp_spmd.specs.declared.instr.Unpacking.TheVariants.{Below}
use Rattle.hp_spmd.specs.declared.store.Piece.{Piece}
use Rattle.hp_spmd.specs.declared.store.Store.{Store}
use Rattle.hp_spmd.specs.Arrays.{scan_data, with_array}
use Rattle.hp_spmd.specs.Cuts.{own_until}
use Rattle.hp_spmd.specs.Exchange.{unpacked}
use Rattle.hp_spmd.specs.Kinds.{Kind, Computes, Packs, Posts, Takes, Unpacks}
use Rattle.hp_spmd.specs.Layout.{Env, HoldsPiece, IsLaid, Layout, MayCut, Rises, Whole}
use Rattle.hp_spmd.specs.Local.{local_next, pack_done}
use Rattle.hp_spmd.specs.Lockstep.{State, state, position_of}
use Rattle.hp_spmd.specs.Loops.{cut_as}
use Rattle.hp_spmd.specs.Messages.{words_across}
use Rattle.hp_spmd.specs.Next.{Goes}
use Rattle.hp_spmd.specs.Scalars.{const_data, with_word}
use Rattle.hp_spmd.specs.Spread.{LiesAs}
use Rattle.hp_spmd.specs.Store.{Data, data_of, dist_at, instr_at, kept, no_piece, piece_at}
use Rattle.hp_spmd.specs.Unpacks.{below_data}
use Rattle.hp_spmd.proofs.ShareCuts.{block_cuts_rise}
use Rattle.hp_spmd.proofs.ShareNext.{next_placed, next_shared}
use Rattle.hp_snippet.specs.Exchanging.{IsExchange, mail_for}
use Rattle.hp_snippet.specs.Holds.{IsCut}
use Rattle.hp_snippet.specs.Leads.{Leads}
use Rattle.hp_snippet.specs.Promises.{IsNoneOf, IsRankOf, IsSound, IsStraight, IsWork, LeavesShared, Performs, StandBefore, Stays}
use Rattle.hp_snippet.proofs.Below.{cells_below}
use Rattle.hp_snippet.proofs.Exchanges.{map_map, map_some, place_on}
use Rattle.hp_snippet.proofs.Keeping.{LiesBehind, stays_layout, word_stays, zip_map}
use Rattle.hp_snippet.proofs.Leading.{leads_join}
use Rattle.hp_snippet.proofs.Naming.{named_at}
use Rattle.hp_snippet.proofs.Performing.{agree_at, all_map, behind, behind_at, behind_ranks, computed_by, computes_sound, exchange_sound, rank_same, sound_behind}
use Rattle.hp_snippet.proofs.Ranges.{from_is, until_is}
use Rattle.hp_snippet.proofs.Setting.{numbered_at, shared_count}
use Rattle.hp_coll.specs.Reducing.{words_of_all}
use Rattle.hp_coll.specs.Scanning.{MayScan, scan_code, scan_writes, scanned, summed_arrays, words_but}
use Rattle.hp_coll.proofs.Mail.{mail, mail_here, mail_of}
use Rattle.hp_coll.proofs.Sums.{sums_count, sums_kept}

-- ---- the data of a rank on the way

-- the cells of its part
abbrev own_cells : ℕ → Store → List ℤ
own_cells from x = (piece_at x.arrays from).cells

abbrev zeroed : (start : ℕ) → Store → Data
zeroed start x = with_word start (pos 0) (data_of x)

abbrev summed : (to from part start : ℕ) → Store → Data
summed to from part start x =
    let piece = piece_at x.arrays from in
    with_word part (fold_of Sum piece.cells) (with_array to (cut_as piece (sums_after (word_at x.words start) piece.cells)) (data_of x))

-- its start, of what all have told it
abbrev started : List Dist → (part start : ℕ) → List Store → Store → Data
started dists part start ranks x = with_word start (fold_of Sum (words_across 0 (take x.number (mail_for dists (Words (part ∷ [])) ranks x.number)))) (data_of x)

-- ---- the ranks on the way

abbrev once_zeroed : ℕ → List Store → List Store
once_zeroed start ranks = map (computed_by (zeroed start)) ranks

abbrev once_summed : (to from part start : ℕ) → List Store → List Store
once_summed to from part start ranks = map (computed_by (summed to from part start)) (once_zeroed start ranks)

abbrev once_started : List Dist → (to from part start : ℕ) → List Store → List Store
once_started dists to from part start ranks =
    let there = once_summed to from part start ranks in
    map (behind dists (Words (part ∷ [])) there (started dists part start there)) there

abbrev once_scanned : List Dist → (to from part start : ℕ) → List Store → List Store
once_scanned dists to from part start ranks = map (computed_by (summed to from part start)) (once_started dists to from part start ranks)

-- one rank behind it
abbrev scanned_rank : List Dist → (to from part start : ℕ) → List Store → Store → Store
scanned_rank dists to from part start ranks x =
    let there = once_summed to from part start ranks in
    computed_by (summed to from part start) (behind dists (Words (part ∷ [])) there (started dists part start there) (computed_by (summed to from part start) (computed_by (zeroed start) x)))

maps_join : (f g h j : Store → Store) (xs : List Store) → map f (map g (map h (map j xs))) ≡ map (λ x. f (g (h (j x)))) xs
maps_join f g h j [] = refl
maps_join f g h j (x ∷ xs) = ap (λ ys. f (g (h (j x))) ∷ ys) (maps_join f g h j xs)

-- ---- each instruction

zero_goes : (code : Code) (tables : Tables) (start : ℕ) (x : Store) → local_next code.arrays tables (instr.Const start (pos 0)) x ≡ Goes (computed_by (zeroed start) x)
unfolding const_data
zero_goes code tables start x = refl

sum_goes : (code : Code) (tables : Tables) (to from part start : ℕ) (x : Store) → local_next code.arrays tables (instr.Scan to from start part) x ≡ Goes (computed_by (summed to from part start) x)
unfolding scan_data
sum_goes code tables to from part start x = refl

start_makes : (dists : List Dist) (part start : ℕ) (ranks : List Store) (x : Store) → unpacked dists (Below start) x.number x.ranks (mail_for dists (Words (part ∷ [])) ranks x.number) (data_of x) ≡ Ok (started dists part start ranks x)
unfolding unpacked below_data
start_makes dists part start ranks x = refl

zeroed_rank : (code : Code) (n start : ℕ) (x : Store) → IsRankOf code n x → IsRankOf code n (computed_by (zeroed start) x)
zeroed_rank code n start x h = rank_same code n x (computed_by (zeroed start) x) refl refl refl (length-set x.words start (pos 0)) refl h

summed_rank : (code : Code) (tables : Tables) (n to from part start : ℕ) (x : Store) → 1 ≤ n → LiesAs (dist_at code.arrays from) (dist_at code.arrays to) → IsTrue (nat_lt to (length code.arrays) && nat_lt from (length code.arrays) && nat_lt start code.words && nat_lt part code.words)
    → IsRankOf code n x → IsRankOf code n (computed_by (summed to from part start) x)
unfolding scan_data
summed_rank code tables n to from part start x some lies named h =
    record {
      placed = next_placed code tables n (instr.Scan to from start part) x some lies named h.placed;
      words = length-set x.words part (fold_of Sum (own_cells from x)) ∙ h.words;
      loose = h.loose;
    }

-- the names of a Scan are there
record AreNamed (code : Code) (to from part start : ℕ) : Type 0 where
  to_there : to < length code.arrays
  from_there : from < length code.arrays
  start_there : start < code.words
  part_there : part < code.words

are_named : (code : Code) (to from part start : ℕ) → IsTrue (nat_lt to (length code.arrays) && nat_lt from (length code.arrays) && nat_lt start code.words && nat_lt part code.words) → AreNamed code to from part start
are_named code to from part start h =
    let last = and_parts (nat_lt to (length code.arrays) && nat_lt from (length code.arrays) && nat_lt start code.words) (nat_lt part code.words) h in
    let third = and_parts (nat_lt to (length code.arrays) && nat_lt from (length code.arrays)) (nat_lt start code.words) last.0 in
    let both = and_parts (nat_lt to (length code.arrays)) (nat_lt from (length code.arrays)) third.0 in
    record { to_there = ltb-true to (length code.arrays) both.0; from_there = ltb-true from (length code.arrays) both.1; start_there = ltb-true start code.words third.1; part_there = ltb-true part code.words last.1 }

-- ---- what the others tell

-- the sums of all parts
parts_told : (to from part start : ℕ) (xs : List Store) → AllByRecursion (λ (x : Store). part < length x.words) xs → words_of_all (once_summed to from part start xs) part ≡ map (λ (x : Store). fold_of Sum (own_cells from x)) xs
parts_told to from part start [] h = refl
parts_told to from part start (x ∷ xs) h =
    let value = fold_of Sum (own_cells from x) in
    let there : part < length (set x.words start (pos 0)) = subst (λ n. part < n) (sym (length-set x.words start (pos 0))) h.0 in
    ap (λ w. w ∷ words_of_all (once_summed to from part start xs) part) (get_or-set_same (set x.words start (pos 0)) part value (pos 0) there)
    ∙ ap (λ ws. value ∷ ws) (parts_told to from part start xs h.1)

-- the sum of the parts of the ranks below one
sum_below : (dists : List Dist) (to from part start n r : ℕ) (ranks : List Store) (front : List ℤ) → r < n → AllByRecursion (λ (x : Store). x.ranks ≡ n) (once_summed to from part start ranks) → AllByRecursion (λ (x : Store). part < length x.words) ranks
    → flat_map (own_cells from) (take r ranks) ≡ front
    → fold_of Sum (words_across 0 (take r (mail_for dists (Words (part ∷ [])) (once_summed to from part start ranks) r))) ≡ wrap (sum_z front)
sum_below dists to from part start n r ranks front lt counts there e =
    let all = once_summed to from part start ranks in
    let F = λ (x : Store). fold_of Sum (own_cells from x) in
    ap (λ m. fold_of Sum (words_across 0 (take r m))) (mail_of dists (part ∷ []) n r all lt counts)
    ∙ ap (fold_of Sum) (sym (take-map (λ (m : Message). word_at m.words 0) r (mail (part ∷ []) all)))
    ∙ ap (λ ws. fold_of Sum (take r ws)) (mail_here part [] all)
    ∙ ap (λ ws. fold_of Sum (take r ws)) (parts_told to from part start ranks there)
    ∙ ap (fold_of Sum) (take-map F r ranks)
    ∙ ap (fold_of Sum) (sym (map_map (fold_of Sum) (own_cells from) F (λ x. refl) (take r ranks)))
    ∙ fold_of_pieces Sum (map (own_cells from) (take r ranks))
    ∙ ap (fold_of Sum) (flat_map-map (λ (p : List ℤ). p) (own_cells from) (take r ranks))
    ∙ ap (fold_of Sum) e

-- ---- the piece of one rank

-- behind it a rank has the running sums of its part, behind this
piece_summed : (dists : List Dist) (to from part start : ℕ) (ranks : List Store) (x : Store) (value : ℤ) → (to ≡ from → ⊥) → to < length x.arrays → start < length x.words
    → fold_of Sum (words_across 0 (take x.number (mail_for dists (Words (part ∷ [])) (once_summed to from part start ranks) x.number))) ≡ value
    → piece_at (scanned_rank dists to from part start ranks x).arrays to ≡ cut_as (piece_at x.arrays from) (sums_after value (own_cells from x))
piece_summed dists to from part start ranks x value other to_there start_there e =
    let first = computed_by (summed to from part start) (computed_by (zeroed start) x) in
    let told = fold_of Sum (words_across 0 (take x.number (mail_for dists (Words (part ∷ [])) (once_summed to from part start ranks) x.number))) in
    let words = set first.words start told in
    let p = piece_at x.arrays from in
    let made = cut_as p (sums_after (word_at (set x.words start (pos 0)) start) p.cells) in
    let kept_piece : piece_at first.arrays from ≡ p = get_or-set_other x.arrays to from made no_piece (λ e. other (sym e)) in
    let there : to < length first.arrays = subst (λ n. to < n) (sym (length-set x.arrays to made)) to_there in
    let begins : start < length first.words = subst (λ n. start < n) (sym (length-set (set x.words start (pos 0)) part (fold_of Sum p.cells) ∙ length-set x.words start (pos 0))) start_there in
    get_or-set_same first.arrays to (cut_as (piece_at first.arrays from) (sums_after (word_at words start) (own_cells from first))) no_piece there
    ∙ ap (λ q. cut_as q (sums_after (word_at words start) q.cells)) kept_piece
    ∙ ap (λ v. cut_as p (sums_after v p.cells)) (get_or-set_same first.words start told (pos 0) begins ∙ e)

-- an array that may have the cuts of one in pieces lies in pieces
lies_cut : (from to : Dist) → LiesAs from to → IsCut from → IsCut to
lies_cut from to (inl same) is = subst IsCut (sym same) is
lies_cut from to (inr blocks) is = subst IsCut (sym blocks.1) tt

lies_may : (from to : Dist) (len n : ℕ) (cuts : List ℕ) → 1 ≤ n → LiesAs from to → MayCut from len n cuts → MayCut to len n cuts
lies_may from to len n cuts some (inl same) may = subst (λ d. MayCut d len n cuts) (sym same) may
lies_may from to len n cuts some (inr blocks) may =
    let block : MayCut Block len n cuts = subst (λ d. MayCut d len n cuts) blocks.0 may in
    subst (λ d. MayCut d len n cuts) (sym blocks.1) (subst (λ c. Rises c len n) (sym block) (block_cuts_rise len n some))

-- that is the rank's piece of the running sums of the whole
summed_held : (from_dist to_dist : Dist) (cuts : List ℕ) (whole : Whole) (k : ℕ) (p : Piece) → IsCut from_dist → IsCut to_dist → HoldsPiece from_dist cuts whole k p
    → HoldsPiece to_dist cuts (record { rows = whole.rows; cells = prefix_sums whole.cells }) k (cut_as p (sums_after (wrap (sum_z (take (whole.rows * get_or cuts k 0) whole.cells))) p.cells))
summed_held from_dist to_dist cuts whole k p from_cut to_cut h =
    let a = whole.rows * get_or cuts k 0 in
    let b = whole.rows * get_or cuts (suc k) 0 in
    let before = wrap (sum_z (take a whole.cells)) in
    record {
      rows_are = h.rows_are;
      cuts_are = h.cuts_are;
      cells_are =
          ap (sums_after before)
          (h.cells_are
          ∙ ap (λ f. kept (whole.rows * f) (whole.rows * own_until from_dist cuts k) 0 whole.cells) (from_is from_dist cuts k from_cut)
          ∙ ap (λ u. kept a (whole.rows * u) 0 whole.cells) (until_is from_dist cuts k from_cut))
          ∙ sums_kept a b whole.cells
          ∙ sym (ap (λ f. kept (whole.rows * f) (whole.rows * own_until to_dist cuts k) 0 (prefix_sums whole.cells)) (from_is to_dist cuts k to_cut)
          ∙ ap (λ u. kept a (whole.rows * u) 0 (prefix_sums whole.cells)) (until_is to_dist cuts k to_cut));
    }

-- ---- all ranks

scanned_stays : (dists : List Dist) (to from part start : ℕ) (ranks : List Store) (x : Store) → Stays (scan_writes to part start) x (scanned_rank dists to from part start ranks x)
unfolding pack_done
scanned_stays dists to from part start ranks x =
    let there = once_summed to from part start ranks in
    let one = computed_by (zeroed start) x in
    let two = computed_by (summed to from part start) one in
    let three = behind dists (Words (part ∷ [])) there (started dists part start there) two in
    let told = fold_of Sum (words_across 0 (take x.number (mail_for dists (Words (part ∷ [])) there x.number))) in
    record {
      number = refl;
      ranks_are = refl;
      words = λ w apart.
          get_or-set_other three.words part w (fold_of Sum (own_cells from three)) (pos 0) (λ e. apart.0 (sym e))
          ∙ get_or-set_other two.words start w told (pos 0) (λ e. apart.1.0 (sym e))
          ∙ get_or-set_other one.words part w (fold_of Sum (own_cells from one)) (pos 0) (λ e. apart.0 (sym e))
          ∙ get_or-set_other x.words start w (pos 0) (pos 0) (λ e. apart.1.0 (sym e));
      arrays = λ k apart.
          get_or-set_other two.arrays to k (cut_as (piece_at two.arrays from) (sums_after (word_at three.words start) (own_cells from two))) no_piece (λ e. apart.0 (sym e))
          ∙ get_or-set_other x.arrays to k (cut_as (piece_at x.arrays from) (sums_after (word_at one.words start) (own_cells from x))) no_piece (λ e. apart.0 (sym e));
      loose = λ k apart. refl;
      executed = refl;
      log = refl;
    }

-- ---- the way

-- the ranks at each stage are those of the code
pub record AreRanks (code : Code) (to from part start : ℕ) (ranks : List Store) : Type 0 where
  pub zeroed_each : All (IsRankOf code (length ranks)) (once_zeroed start ranks)
  pub summed_each : All (IsRankOf code (length ranks)) (once_summed to from part start ranks)
  pub started_each : All (IsRankOf code (length ranks)) (once_started code.arrays to from part start ranks)
  pub scanned_each : All (IsRankOf code (length ranks)) (once_scanned code.arrays to from part start ranks)

are_ranks : (code : Code) (tables : Tables) (to from part start : ℕ) (ranks : List Store) → 1 ≤ length ranks → LiesAs (dist_at code.arrays from) (dist_at code.arrays to)
    → IsTrue (nat_lt to (length code.arrays) && nat_lt from (length code.arrays) && nat_lt start code.words && nat_lt part code.words) → All (IsRankOf code (length ranks)) ranks → AreRanks code to from part start ranks
are_ranks code tables to from part start ranks some lies named each =
    let n = length ranks in
    let P = IsRankOf code n in
    let told = λ (x : Store). fold_of Sum (words_across 0 (take x.number (mail_for code.arrays (Words (part ∷ [])) (once_summed to from part start ranks) x.number))) in
    let one = all_map P P (computed_by (zeroed start)) (zeroed_rank code n start) ranks each in
    let two = all_map P P (computed_by (summed to from part start)) (λ x h. summed_rank code tables n to from part start x some lies named h) (once_zeroed start ranks) one in
    let three = behind_ranks code n (Words (part ∷ [])) (once_summed to from part start ranks) (started code.arrays part start (once_summed to from part start ranks)) two (λ x. refl) (λ x. length-set x.words start (told x)) (λ x. refl) in
    record {
      zeroed_each = one;
      summed_each = two;
      started_each = three;
      scanned_each = all_map P P (computed_by (summed to from part start)) (λ x h. summed_rank code tables n to from part start x some lies named h) (once_started code.arrays to from part start ranks) three;
    }

summed_some : (to from part start : ℕ) (ranks : List Store) → 1 ≤ length ranks → 1 ≤ length (once_summed to from part start ranks)
summed_some to from part start ranks some = map_some (computed_by (summed to from part start)) (once_zeroed start ranks) (map_some (computed_by (zeroed start)) ranks some)

zeroed_at : (start : ℕ) (ranks : List Store) → 1 ≤ length ranks → position_of (once_zeroed start ranks) ≡ suc (position_of ranks)
zeroed_at start ranks some = place_on (computed_by (zeroed start)) (λ x. refl) ranks some

summed_at : (to from part start : ℕ) (ranks : List Store) → 1 ≤ length ranks → position_of (once_summed to from part start ranks) ≡ suc (suc (position_of ranks))
summed_at to from part start ranks some =
    place_on (computed_by (summed to from part start)) (λ x. refl) (once_zeroed start ranks) (map_some (computed_by (zeroed start)) ranks some) ∙ ap suc (zeroed_at start ranks some)

started_at : (dists : List Dist) (to from part start : ℕ) (ranks : List Store) → 1 ≤ length ranks → position_of (once_started dists to from part start ranks) ≡ suc (suc (suc (suc (suc (suc (position_of ranks))))))
started_at dists to from part start ranks some =
    let there = once_summed to from part start ranks in
    let at = behind_at dists (Words (part ∷ [])) there (started dists part start there) (summed_some to from part start ranks some) in
    let before = summed_at to from part start ranks some in
    let six : suc (suc (position_of ranks)) + 4 ≡ suc (suc (suc (suc (suc (suc (position_of ranks)))))) = omega arith in
    at ∙ ap (λ p. p + 4) before ∙ six

scanned_at : (dists : List Dist) (to from part start : ℕ) (ranks : List Store) → 1 ≤ length ranks → position_of (once_scanned dists to from part start ranks) ≡ position_of ranks + 7
scanned_at dists to from part start ranks some =
    let there = once_summed to from part start ranks in
    let seven : suc (suc (suc (suc (suc (suc (suc (position_of ranks))))))) ≡ position_of ranks + 7 = omega arith in
    place_on (computed_by (summed to from part start)) (λ x. refl) (once_started dists to from part start ranks)
    (map_some (behind dists (Words (part ∷ [])) there (started dists part start there)) there (summed_some to from part start ranks some))
    ∙ ap suc (started_at dists to from part start ranks some) ∙ seven

-- the exchange in the middle
abbrev middle_cost : (Kind → ℕ) → (part start : ℕ) → ℕ
middle_cost price part start = price (Packs (Words (part ∷ []))) + (price Posts + (price Takes + price (Unpacks (Below start))))

scan_leads : (code : Code) (tables : Tables) (price : Kind → ℕ) (to from part start : ℕ) (s : State) (env : Env) → StandBefore code (scan_code to from part start) s env → AreRanks code to from part start s.ranks
    → Leads code tables price (IsSound code tables (length s.ranks) (position_of s.ranks + 7)) 7 (price Computes + (price Computes + (middle_cost price part start + price Computes))) s (state (once_scanned code.arrays to from part start s.ranks) s.out)
scan_leads code tables price to from part start s env h are =
    let ranks = s.ranks in
    let out = s.out in
    let n = length ranks in
    let until = position_of ranks + 7 in
    let I = IsSound code tables n until in
    let r1 = once_zeroed start ranks in
    let r2 = once_summed to from part start ranks in
    let r3 = once_started code.arrays to from part start ranks in
    let r4 = once_scanned code.arrays to from part start ranks in
    let scan = instr.Scan to from start part in
    let is1 : instr_at code.list (position_of r1) ≡ scan = ap (instr_at code.list) (zeroed_at start ranks h.some) ∙ h.stand.1.0 in
    let at2 = summed_at to from part start ranks h.some in
    let is3 : instr_at code.list (position_of r3) ≡ scan = ap (instr_at code.list) (started_at code.arrays to from part start ranks h.some) ∙ h.stand.1.1.1.1.1.1.0 in
    let exchange : IsExchange code (position_of r2) (Words (part ∷ [])) (Below start) = record {
      packs = ap (instr_at code.list) at2 ∙ h.stand.1.1.0;
      posts = ap (λ p. instr_at code.list (suc p)) at2 ∙ h.stand.1.1.1.0;
      takes = ap (λ p. instr_at code.list (suc (suc p))) at2 ∙ h.stand.1.1.1.1.0;
      unpacks = ap (λ p. instr_at code.list (suc (suc (suc p)))) at2 ∙ h.stand.1.1.1.1.1.0;
    } in
    let sound1 : I (state r1 out) = record { each = are.zeroed_each; agree = λ lt. agree_at code tables scan r1 is1 tt } in
    let sound2 : I (state r2 out) = record { each = are.summed_each; agree = λ lt. agree_at code tables (instr.Pack (Words (part ∷ []))) r2 exchange.packs tt } in
    let sound3 : I (state r3 out) = record { each = are.started_each; agree = λ lt. agree_at code tables scan r3 is3 tt } in
    let sound4 : I (state r4 out) = sound_behind code tables n until (state r4 out) are.scanned_each (scanned_at code.arrays to from part start ranks h.some) in
    leads_join code tables price I 1 (price Computes) 6 (price Computes + (middle_cost price part start + price Computes)) s (state r1 out) (state r4 out)
    (computes_sound code tables price (instr.Const start (pos 0)) ranks out n until (zeroed start) tt tt h.stand.0 h.each (λ k d lt. zero_goes code tables start (get_or ranks k d)) sound1)
    (leads_join code tables price I 1 (price Computes) 5 (middle_cost price part start + price Computes) (state r1 out) (state r2 out) (state r4 out)
    (computes_sound code tables price scan r1 out n until (summed to from part start) tt tt is1 are.zeroed_each (λ k d lt. sum_goes code tables to from part start (get_or r1 k d)) sound2)
    (leads_join code tables price I 4 (middle_cost price part start) 1 (price Computes) (state r2 out) (state r3 out) (state r4 out)
    (exchange_sound code tables price (Words (part ∷ [])) (Below start) r2 out n until (started code.arrays part start r2) (summed_some to from part start ranks h.some) exchange are.summed_each
    (λ k d lt. start_makes code.arrays part start r2 (get_or r2 k d)) sound3)
    (computes_sound code tables price scan r3 out n until (summed to from part start) tt tt is3 are.started_each (λ k d lt. sum_goes code tables to from part start (get_or r3 k d)) sound4)))

-- ---- what they stand for behind it

abbrev behind_cuts : (to from : ℕ) → (ℕ → List ℕ) → ℕ → List ℕ
behind_cuts to from old slot = cond (eqb to slot) (old from) (old slot)

-- the array of the running sums
sums_laid : (code : Code) (to from part start : ℕ) (ranks : List Store) (env : Env) → 1 ≤ length ranks → All (IsRankOf code (length ranks)) ranks → AreRanks code to from part start ranks → AreNamed code to from part start → MayScan to from part start code ranks env
    → (l : Layout code ranks env)
    → IsLaid (dist_at code.arrays to) (map (scanned_rank code.arrays to from part start ranks) ranks) to (l.cuts from) (record { rows = (env.arrays from).rows; cells = prefix_sums (env.arrays from).cells })
unfolding pack_done
sums_laid code to from part start ranks env some each are named may l =
    let n = length ranks in
    let g = scanned_rank code.arrays to from part start ranks in
    let laid = l.arrays from named.from_there in
    let whole = env.arrays from in
    let sums : Whole = record { rows = whole.rows; cells = prefix_sums whole.cells } in
    let from_dist = dist_at code.arrays from in
    let to_dist = dist_at code.arrays to in
    let cuts = l.cuts from in
    let counts : All (λ (x : Store). x.ranks ≡ n) (once_summed to from part start ranks) = λ k d lt. (are.summed_each k d lt).placed.ranks_are in
    let there : All (λ (x : Store). part < length x.words) ranks = λ k d lt. subst (λ m. part < m) (sym (each k d lt).words) named.part_there in
    record {
      columns = laid.columns;
      size = sums_count (pos 0) whole.cells ∙ laid.size;
      may = subst (λ m. MayCut to_dist laid.columns m cuts) (sym (length-map ranks g)) (lies_may from_dist to_dist laid.columns n cuts some may.lies laid.may);
      held = All-map (λ (y : Store). HoldsPiece to_dist cuts sums y.number (piece_at y.arrays to)) g ranks
          (λ k d lt.
          let x = get_or ranks k d in
          let rank = each k d lt in
          let number : x.number ≡ k = (let zero_add : 0 + k ≡ k = omega arith in numbered_at 0 ranks k d l.numbers lt ∙ zero_add) in
          let arrays = shared_count code.arrays x.ranks x.number x.arrays rank.placed.shared in
          let to_there : to < length x.arrays = subst (λ m. to < m) (sym arrays) named.to_there in
          let start_there : start < length x.words = subst (λ m. start < m) (sym rank.words) named.start_there in
          let few : k ≤ n = omega (arith, lt) in
          let front = cells_below from_dist ranks from cuts whole k may.cut some l.numbers laid few in
          let value = sum_below code.arrays to from part start n k ranks (take (whole.rows * get_or cuts k 0) whole.cells) lt (recursion_from_All (λ (x : Store). x.ranks ≡ n) (once_summed to from part start ranks) counts)
          (recursion_from_All (λ (x : Store). part < length x.words) ranks there) front in
          let told = λ (r : ℕ). fold_of Sum (words_across 0 (take r (mail_for code.arrays (Words (part ∷ [])) (once_summed to from part start ranks) r))) in
          let piece = piece_summed code.arrays to from part start ranks x (wrap (sum_z (take (whole.rows * get_or cuts k 0) whole.cells))) may.other to_there start_there (ap told number ∙ value) in
          subst (λ p. HoldsPiece to_dist cuts sums x.number p) (sym piece)
          (subst (λ r. HoldsPiece to_dist cuts sums r (cut_as (piece_at x.arrays from) (sums_after (wrap (sum_z (take (whole.rows * get_or cuts k 0) whole.cells))) (own_cells from x)))) (sym number)
          (summed_held from_dist to_dist cuts whole k (piece_at x.arrays from) may.cut (lies_cut from_dist to_dist may.lies may.cut)
          (subst (λ r. HoldsPiece from_dist cuts whole r (piece_at x.arrays from)) number (laid.held k d lt)))));
    }

none_is_not_some : (value : ℤ) → None ≡ Some value → ⊥
none_is_not_some value e = cc

own_words : (part start w : ℕ) (value : ℤ) (words : ℕ → Option ℤ) → words_but (part ∷ start ∷ []) words w ≡ Some value → IsNoneOf (part ∷ start ∷ []) w × (words w ≡ Some value)
own_words part start w value words e = elim (cases_eq part w) [
  | inl same ↦ absurd (none_is_not_some value (sym (ap (λ b. cond b None (words_but (start ∷ []) words w)) (eq-eqb part w same)) ∙ e))
  | inr other ↦
      let rest : words_but (start ∷ []) words w ≡ Some value = sym (ap (λ b. cond b None (words_but (start ∷ []) words w)) (ne_eqb part w other)) ∙ e in
      elim (cases_eq start w) [
        | inl same ↦ absurd (none_is_not_some value (sym (ap (λ b. cond b None (words w)) (eq-eqb start w same)) ∙ rest))
        | inr apart ↦ ((other, (apart, tt)), sym (ap (λ b. cond b None (words w)) (ne_eqb start w apart)) ∙ rest)
      ]
]

pub scans : (to from part start : ℕ) → Performs (MayScan to from part start) (scanned to from part start) (scan_writes to part start) (scan_code to from part start)
scans to from part start code tables price s env h may =
    let ranks = s.ranks in
    let n = length ranks in
    let scan = instr.Scan to from start part in
    let names = named_at code (suc (position_of ranks)) scan h.stand.1.0 in
    let named = are_named code to from part start names in
    let are = are_ranks code tables to from part start ranks h.some may.lies names h.each in
    let g = scanned_rank code.arrays to from part start ranks in
    let written = scan_writes to part start in
    let after : Env = record { arrays = summed_arrays to from env.arrays; words = words_but (part ∷ start ∷ []) env.words } in
    let stays = zip_map (Stays written) g ranks (λ k d lt. scanned_stays code.arrays to from part start ranks (get_or ranks k d)) in
    let there = once_summed to from part start ranks in
    let same : once_scanned code.arrays to from part start ranks ≡ map g ranks =
    maps_join (computed_by (summed to from part start)) (behind code.arrays (Words (part ∷ [])) there (started code.arrays part start there)) (computed_by (summed to from part start)) (computed_by (zeroed start)) ranks in
    let lays : Layout code (map g ranks) after = stays_layout code written ranks (map g ranks) env after h.lays (behind_cuts to from h.lays.cuts) stays
    (λ slot lt. lies slot (cases_eq to slot) (sums_laid code to from part start ranks env h.some h.each are named may h.lays))
    (λ w value e. let own = own_words part start w value env.words e in word_stays code written ranks (map g ranks) env stays h.lays w value own.0 own.1) in
    record {
      count = 7;
      cost = price Computes + (price Computes + (middle_cost price part start + price Computes));
      to = state (once_scanned code.arrays to from part start ranks) s.out;
      leads = scan_leads code tables price to from part start s env h are;
      count_within = omega arith;
      cost_within = omega arith;
      place = scanned_at code.arrays to from part start ranks h.some;
      out = sym (append-nil s.out);
      stands = λ t. record {
        lays = subst (λ ys. Layout code ys after) (sym same) lays;
        stays = subst (AllZip (Stays written) ranks) (sym same) stays;
      };
    }
  where
    lies : (slot : ℕ) → (to ≡ slot) ⊎ (to ≡ slot → ⊥)
        → IsLaid (dist_at code.arrays to) (map (scanned_rank code.arrays to from part start s.ranks) s.ranks) to (h.lays.cuts from) (record { rows = (env.arrays from).rows; cells = prefix_sums (env.arrays from).cells })
        → LiesBehind code (scan_writes to part start) (map (scanned_rank code.arrays to from part start s.ranks) s.ranks) env (record { arrays = summed_arrays to from env.arrays; words = words_but (part ∷ start ∷ []) env.words }) h.lays.cuts
        (behind_cuts to from h.lays.cuts) slot
    lies slot (inl here) laid =
        let ys = map (scanned_rank code.arrays to from part start s.ranks) s.ranks in
        let sums : Whole = record { rows = (env.arrays from).rows; cells = prefix_sums (env.arrays from).cells } in
        inr (subst (λ w. IsLaid (dist_at code.arrays slot) ys slot (behind_cuts to from h.lays.cuts slot) w) (sym (ap (λ b. cond b sums (env.arrays slot)) (eq-eqb to slot here)))
        (subst (λ c. IsLaid (dist_at code.arrays slot) ys slot c sums) (sym (ap (λ b. cond b (h.lays.cuts from) (h.lays.cuts slot)) (eq-eqb to slot here)))
        (subst (λ k. IsLaid (dist_at code.arrays k) ys k (h.lays.cuts from) sums) here laid)))
    lies slot (inr other) laid =
        let sums : Whole = record { rows = (env.arrays from).rows; cells = prefix_sums (env.arrays from).cells } in
        inl ((other, tt), ap (λ b. cond b sums (env.arrays slot)) (ne_eqb to slot other), ap (λ b. cond b (h.lays.cuts from) (h.lays.cuts slot)) (ne_eqb to slot other))

pub list_scans : (to from part start : ℕ) (list : List Instr) → list ≡ scan_code to from part start → Performs (MayScan to from part start) (scanned to from part start) (scan_writes to part start) list
list_scans to from part start list e = subst (Performs (MayScan to from part start) (scanned to from part start) (scan_writes to part start)) (sym e) (scans to from part start)

-- ---- what can be seen of it

pub scan_straight : (to from part start : ℕ) (list : List Instr) → list ≡ scan_code to from part start → IsStraight list
scan_straight to from part start list e =
    subst IsStraight (sym e)
    (record {
      leads = (refl, (refl, (refl, (refl, (refl, (refl, (refl, refl)))))));
      jumps = (tt, (tt, (tt, (tt, (tt, (tt, (tt, tt)))))));
      sizes = (tt, (tt, (tt, (tt, (tt, (tt, (tt, tt)))))));
    })

pub scan_shares : (to from part start : ℕ) (list : List Instr) → list ≡ scan_code to from part start → (code : Code) → LiesAs (dist_at code.arrays from) (dist_at code.arrays to) → AllByRecursion (LeavesShared code) list
scan_shares to from part start list e code lies =
    let scan = instr.Scan to from start part in
    subst (AllByRecursion (LeavesShared code)) (sym e) (
      (λ tables x y. next_shared code tables (instr.Const start (pos 0)) x y tt),
      (
        (λ tables x y. next_shared code tables scan x y lies),
        (
          (λ tables x y. next_shared code tables (instr.Pack (Words (part ∷ []))) x y tt),
          (
            (λ tables x y. next_shared code tables (instr.Post false) x y tt),
            ((λ tables x y. next_shared code tables (instr.Take false) x y tt), (tt, ((λ tables x y. next_shared code tables scan x y lies), tt))),
          ),
        ),
      ),
    )

pub scan_work : (to from part start : ℕ) (list : List Instr) → list ≡ scan_code to from part start → IsWork 1 list
scan_work to from part start list e = subst (IsWork 1) (sym e) (record { few = omega arith; cheap = λ ranks. omega arith })
