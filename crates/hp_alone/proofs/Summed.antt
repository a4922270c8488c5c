-- Running sums of an array that is whole on each rank.
use Rattle.std.proofs.Common.{◌≡◌, ◌∙◌, refl, sym, subst, ap, arith, cond, inl, ℕ, suc, ◌+◌, ◌<◌, ℤ, pos, List, [], ◌∷◌, length, length-set, get_or, map, Some}
use Rattle.std.specs.Prelude.{◌+ℤ◌, ◌&&◌, nat_lt}
use Rattle.std.specs.List.{All, AllByRecursion}
use Rattle.std.proofs.lemmas.Bool.{and_parts, eq-eqb, ltb-true}
use Rattle.std.proofs.lemmas.List.{get_or-set_other}
use Rattle.std.proofs.lemmas.List.Elements.{All-map}
use Rattle.hp_word.specs.declared.fold.FoldKind.TheVariants.{Sum}
use Rattle.hp_word.specs.declared.table.Tables.{Tables}
use Rattle.hp_word.specs.Folds.{fold_of}
use Rattle.hp_word.specs.ListRules.{prefix_sums, sums_after}
use Rattle.hp_word.specs.LoopRules.{word_at}
use Rattle.hp_lattice.specs.declared.dist.Dist.TheVariants.{Rep}
use Rattle.hp_spmd.specs.declared.code.Code.{Code}
use Rattle.hp_spmd.specs.declared.instr.Instr.{Instr}
use Rattle.hp_spmd.specs.declared.instr.Instr.TheVariants as instr
use Rattle.hp_spmd.specs.declared.instr.Instr.TheVariants.{Halt}
use Rattle.hp_spmd.specs.declared.store.Piece.{Piece}
use Rattle.hp_spmd.specs.declared.store.Store.{Store}
use Rattle.hp_spmd.specs.Arrays.{scan_data, with_array}
use Rattle.hp_spmd.specs.Kinds.{Kind}
use Rattle.hp_spmd.specs.Layout.{Env, IsLaid, Layout, Whole}
use Rattle.hp_spmd.specs.Local.{local_next}
use Rattle.hp_spmd.specs.Lockstep.{State, position_of, state}
use Rattle.hp_spmd.specs.Loops.{cut_as}
use Rattle.hp_spmd.specs.Next.{Goes}
use Rattle.hp_spmd.specs.Scalars.{with_word}
use Rattle.hp_spmd.specs.Spread.{LiesAs}
use Rattle.hp_spmd.specs.Store.{Data, data_of, dist_at, no_piece, piece_at}
use Rattle.hp_spmd.proofs.ShareNext.{next_shared}
use Rattle.hp_snippet.specs.Moves.{changed, silently, with_wholes}
use Rattle.hp_snippet.specs.Outcomes.{Does}
use Rattle.hp_snippet.specs.Promises.{IsRankOf, IsSound, IsStraight, IsWork, LeavesShared, Performs, Slots, StandBefore, StandBehind, Stays, price_of}
use Rattle.hp_snippet.specs.Values.{with_value}
use Rattle.hp_snippet.proofs.Keeping.{stays_layout, zip_map}
use Rattle.hp_snippet.proofs.Naming.{named_at}
use Rattle.hp_snippet.proofs.Performing.{computed_by}
use Rattle.hp_snippet.proofs.Setting.{shared_count}
use Rattle.hp_alone.specs.Scalars.{word_alone}
use Rattle.hp_alone.specs.Summing.{MaySum, summed, sums_code, sums_made, sums_written}
use Rattle.hp_alone.proofs.Alone.{alone_then, alone_went, rank_alone, stand_behind}
use Rattle.hp_alone.proofs.ArraysMade.{OnePiece, set_lies}
use Rattle.hp_alone.proofs.PieceMade.{one_set, whole_held}
use Rattle.hp_alone.proofs.WordsMade.{const_goes, set_word, whole_cells, word_of, word_set_lays, word_set_stays}

sums_count : (before : ℤ) (xs : List ℤ) → length (sums_after before xs) ≡ length xs
unfolding sums_after
sums_count before [] = refl
sums_count before (x ∷ xs) = ap suc (sums_count (before +ℤ x) xs)

-- ---- the sums themselves

abbrev own_written : (to part : ℕ) → Slots
own_written to part = record { words = part ∷ []; arrays = to ∷ []; loose = [] }

-- the piece of a rank that has all cells
abbrev sums_piece : (from : ℕ) → List ℤ → Store → Piece
sums_piece from cells x = cut_as (piece_at x.arrays from) (prefix_sums cells)

-- a rank with them, and with the sum of all cells
abbrev summed_data : (to from part : ℕ) → List ℤ → Store → Data
summed_data to from part cells x = with_word part (fold_of Sum cells) (with_array to (sums_piece from cells x) (data_of x))

summed_stays : (to from part : ℕ) (cells : List ℤ) (x : Store) → Stays (own_written to part) x (computed_by (summed_data to from part cells) x)
summed_stays to from part cells x =
    record {
      number = refl;
      ranks_are = refl;
      words = λ w apart. get_or-set_other x.words part w (fold_of Sum cells) (pos 0) (λ e. apart.0 (sym e));
      arrays = λ k apart. get_or-set_other x.arrays to k (sums_piece from cells x) no_piece (λ e. apart.0 (sym e));
      loose = λ k apart. refl;
      executed = refl;
      log = refl;
    }

sum_goes : (code : Code) (tables : Tables) (to from part start : ℕ) (x : Store) (cells : List ℤ) → (piece_at x.arrays from).cells ≡ cells → word_at x.words start ≡ pos 0
    → local_next code.arrays tables (instr.Scan to from start part) x ≡ Goes (computed_by (summed_data to from part cells) x)
unfolding scan_data
sum_goes code tables to from part start x cells e f =
    let piece = piece_at x.arrays from in
    let made : List ℤ → ℤ → Data = λ cs before. with_word part (fold_of Sum cs) (with_array to (cut_as piece (sums_after before cs)) (data_of x)) in
    ap (λ cs. Goes (computed_by (λ y. made cs (word_at x.words start)) x)) e ∙ ap (λ before. Goes (computed_by (λ y. made cells before) x)) f

module _ (code : Code) (tables : Tables) (price : Kind → ℕ) (s : State) (env : Env) (to from part start : ℕ) (h : StandBefore code (instr.Scan to from start part ∷ []) s env) (needs : MaySum to from code s.ranks env) (zeroed : env.words start ≡ Some (pos 0)) where
  abbrev scan : Instr
  scan = instr.Scan to from start part

  abbrev whole : Whole
  whole = env.arrays from

  abbrev after : Env
  after = with_value part (fold_of Sum whole.cells) (with_wholes (to ∷ []) (summed whole ∷ []) env)

  named : (to < length code.arrays) × (from < length code.arrays) × (part < code.words)
  named =
      let last = and_parts (nat_lt to (length code.arrays) && nat_lt from (length code.arrays) && nat_lt start code.words) (nat_lt part code.words) (named_at code (position_of s.ranks) scan h.stand.0) in
      let third = and_parts (nat_lt to (length code.arrays) && nat_lt from (length code.arrays)) (nat_lt start code.words) last.0 in
      let both = and_parts (nat_lt to (length code.arrays)) (nat_lt from (length code.arrays)) third.0 in
      (ltb-true to (length code.arrays) both.0, ltb-true from (length code.arrays) both.1, ltb-true part code.words last.1)

  laid : IsLaid Rep s.ranks from (h.lays.cuts from) whole
  laid = subst (λ d. IsLaid d s.ranks from (h.lays.cuts from) whole) needs.from_whole (h.lays.arrays from named.1)

  all_cells : All (λ (x : Store). (piece_at x.arrays from).cells ≡ whole.cells) s.ranks
  all_cells = whole_cells code s.ranks env from named.1 needs.from_whole h.lays

  goes : All (λ x. local_next code.arrays tables scan x ≡ Goes (computed_by (summed_data to from part whole.cells) x)) s.ranks
  goes k d lt = sum_goes code tables to from part start (get_or s.ranks k d) whole.cells (all_cells k d lt) (h.lays.words start (pos 0) zeroed k d lt)

  piece : OnePiece (dist_at code.arrays to) s.ranks (summed whole) (0 ∷ laid.columns ∷ []) (sums_piece from whole.cells)
  piece =
      let size = sums_count (pos 0) whole.cells ∙ laid.size in
      subst (λ d. OnePiece d s.ranks (summed whole) (0 ∷ laid.columns ∷ []) (sums_piece from whole.cells)) (sym needs.to_whole)
      (record {
        columns = laid.columns;
        size = size;
        may = refl;
        held = λ k d lt. let x = get_or s.ranks k d in let own = laid.held k d lt in whole_held (summed whole) laid.columns x.number (sums_piece from whole.cells x) size own.rows_are (own.cuts_are ∙ laid.may) refl;
      })

  lies : LiesAs (dist_at code.arrays from) (dist_at code.arrays to)
  lies = inl (needs.to_whole ∙ sym needs.from_whole)

  abbrev turned : Store → Store
  turned = computed_by (summed_data to from part whole.cells)

  lays : Layout code (map turned s.ranks) after
  lays =
      let written = own_written to part in
      let stays = zip_map (Stays written) turned s.ranks (λ k d lt. summed_stays to from part whole.cells (get_or s.ranks k d)) in
      stays_layout code written s.ranks (map turned s.ranks) env after h.lays (changed (to ∷ []) ((0 ∷ laid.columns ∷ []) ∷ []) h.lays.cuts) stays
      (set_lies code s.ranks env h.lays written (to ∷ []) (summed whole ∷ []) ((0 ∷ laid.columns ∷ []) ∷ []) (λ x. sums_piece from whole.cells x ∷ []) turned after refl refl (λ x. refl) (λ x. refl)
      (λ k d lt. let x = get_or s.ranks k d in shared_count code.arrays x.ranks x.number x.arrays (h.each k d lt).placed.shared)
      (one_set code to (summed whole) (0 ∷ laid.columns ∷ []) (sums_piece from whole.cells) s.ranks named.0 piece))
      (λ w v e.
      All-map (λ (y : Store). word_at y.words w ≡ v) turned s.ranks
      (λ k d lt. word_of part (fold_of Sum whole.cells) env.words (get_or s.ranks k d).words w v (subst (λ n. part < n) (sym (h.each k d lt).words) named.2) (λ held. h.lays.words w v held k d lt) e))

  sums_do : Does code tables price (IsSound code tables (length s.ranks) (position_of s.ranks + 1)) (λ t. Unit {0}) Env (StandBehind code (own_written to part) s.ranks) 1 (price_of price (scan ∷ [])) (position_of s.ranks + 1) s (silently after)
  sums_do =
      alone_went code tables price scan s env after (own_written to part) (summed_data to from part whole.cells) refl h goes
      (λ k d lt. let x = get_or s.ranks k d in
      rank_alone code tables (length s.ranks) scan (summed_data to from part whole.cells) x h.some lies (named_at code (position_of s.ranks) scan h.stand.0) (goes k d lt) (length-set x.words part (fold_of Sum whole.cells)) refl (h.each k d lt))
      (λ k d lt. summed_stays to from part whole.cells (get_or s.ranks k d))
      lays

-- ---- both instructions

sums : (to from part start : ℕ) → Performs (MaySum to from) (sums_made to from part start) (sums_written to part start) (sums_code to from part start)
sums to from part start code tables price s env h needs =
    let zero = instr.Const start (pos 0) in
    let rest = instr.Scan to from start part ∷ [] in
    let f = set_word start (pos 0) in
    let there = ltb-true start code.words (named_at code (position_of s.ranks) zero h.stand.0) in
    let goes : All (λ x. local_next code.arrays tables zero x ≡ Goes (computed_by f x)) s.ranks = λ k d lt. const_goes code tables start (pos 0) (get_or s.ranks k d) in
    let middle = with_value start (pos 0) env in
    let each : All (λ x. IsRankOf code (length s.ranks) (computed_by f x)) s.ranks = λ k d lt. (
    let x = get_or s.ranks k d in
    rank_alone code tables (length s.ranks) zero f x h.some tt (named_at code (position_of s.ranks) zero h.stand.0) (goes k d lt) (length-set x.words start (pos 0)) refl (h.each k d lt)
    ) in
    let before = stand_behind code tables price zero rest s env f h middle each (word_set_lays code start (pos 0) s.ranks env there h.each h.lays) in
    alone_then code tables price zero rest s env f h (word_alone start) (own_written to part) (sums_made to from part start s.ranks env) refl goes (λ k d lt. word_set_stays start (pos 0) (get_or s.ranks k d))
    (sums_do code tables price (state (map (computed_by f) s.ranks) s.out) middle to from part start before (record { from_whole = needs.from_whole; to_whole = needs.to_whole }) (ap (λ b. cond b (Some (pos 0)) (env.words start)) (eq-eqb start start refl)))

-- ---- what is promised of a list that is this code

pub sums_performs : (to from part start : ℕ) (list : List Instr) → list ≡ sums_code to from part start → Performs (MaySum to from) (sums_made to from part start) (sums_written to part start) list
sums_performs to from part start list e = subst (Performs (MaySum to from) (sums_made to from part start) (sums_written to part start)) (sym e) (sums to from part start)

pub sums_straight : (to from part start : ℕ) (list : List Instr) → list ≡ sums_code to from part start → IsStraight list
sums_straight to from part start list e = subst IsStraight (sym e) (record { leads = (refl, (refl, refl)); jumps = (tt, (tt, tt)); sizes = (tt, (tt, tt)) })

pub sums_shares : (to from part start : ℕ) (list : List Instr) → list ≡ sums_code to from part start → (code : Code) → LiesAs (dist_at code.arrays from) (dist_at code.arrays to) → AllByRecursion (LeavesShared code) list
sums_shares to from part start list e code lies =
    subst (AllByRecursion (LeavesShared code)) (sym e) ((λ tables x y. next_shared code tables (instr.Const start (pos 0)) x y tt), ((λ tables x y. next_shared code tables (instr.Scan to from start part) x y lies), tt))

pub sums_work : (to from part start : ℕ) (list : List Instr) → list ≡ sums_code to from part start → IsWork 2 list
sums_work to from part start list e = subst (IsWork 2) (sym e) (record { few = omega arith; cheap = λ ranks. omega arith })
