-- What each rank makes of the sizes of all.
use Rattle.std.proofs.Common.{◌≡◌, ◌∙◌, refl, sym, subst, ap, arith, ℕ, suc, ◌+◌, ◌*◌, ◌-◌, ◌<◌, ◌≤◌, ◌⊎◌, inl, inr, min, false, List, [], ◌∷◌, map, length, get_or, set, cond, eqb, Ok, Err, one-mul}
use Rattle.std.specs.Prelude.{nat_le, sum}
use Rattle.std.specs.List.{All, AllByRecursion}
use Rattle.std.proofs.Common.{lit<}
use Rattle.std.proofs.lemmas.Bool.{cases_eq, cases_lt, eq-eqb, ne_eqb, le-leb, lt-leb}
use Rattle.std.proofs.lemmas.List.{get_or-set_same, get_or-replicate, length-map, length-set}
use Rattle.std.proofs.lemmas.List.Elements.{All-map, recursion_from_All}
use Rattle.hp_word.specs.declared.place.Place.{Place}
use Rattle.hp_word.specs.declared.place.TrapKind.TheVariants.{TooLong}
use Rattle.hp_word.specs.declared.table.Message.{Message}
use Rattle.hp_word.specs.declared.table.Tables.{Tables}
use Rattle.hp_word.specs.Lengths.{longest, trap}
use Rattle.hp_lattice.specs.declared.dist.Dist.{Dist}
use Rattle.hp_lattice.specs.declared.dist.Dist.TheVariants.{Var}
use Rattle.hp_spmd.specs.declared.code.Code.{Code}
use Rattle.hp_spmd.specs.declared.instr.Instr.{Instr}
use Rattle.hp_spmd.specs.declared.instr.Instr.TheVariants as instr
use Rattle.hp_spmd.specs.declared.instr.Packing.TheVariants.{Sizes}
use Rattle.hp_spmd.specs.declared.instr.Unpacking.TheVariants.{Seal}
use Rattle.hp_spmd.specs.declared.store.Piece.{Piece}
use Rattle.hp_spmd.specs.declared.store.Store.{Store}
use Rattle.hp_spmd.specs.Arrays.{with_arrays}
use Rattle.hp_spmd.specs.Exchange.{packed, unpacked}
use Rattle.hp_spmd.specs.Kinds.{Kind}
use Rattle.hp_spmd.specs.Layout.{Env, HoldsPiece, IsLaid, IsShared, Rises, Whole, vector}
use Rattle.hp_spmd.specs.Local.{pack_done}
use Rattle.hp_spmd.specs.Lockstep.{State, position_of}
use Rattle.hp_spmd.specs.Messages.{message_of}
use Rattle.hp_spmd.specs.Packs.{sizes_packed}
use Rattle.hp_spmd.specs.Scalars.{count_word, greatest_count}
use Rattle.hp_spmd.specs.SealParts.{sealed}
use Rattle.hp_spmd.specs.Setting.{with_all}
use Rattle.hp_spmd.specs.Store.{Data, data_of, dist_at, kept, no_message, no_piece, piece_at}
use Rattle.hp_spmd.specs.Unpacks.{running, seal_data, sizes_of}
use Rattle.hp_spmd.proofs.ShareNext.{next_shared}
use Rattle.hp_snippet.specs.Exchanging.{mail_for}
use Rattle.hp_snippet.specs.Outcomes.{After, Does}
use Rattle.hp_snippet.specs.Promises.{AreOnce, IsNoneOf, IsRankOf, IsSound, IsStraight, IsWork, LeavesShared, Performs, StandBefore, StandBehind, Stays, price_of}
use Rattle.hp_snippet.proofs.Keeping.{LiesBehind, stays_layout, word_stays, zip_map}
use Rattle.hp_snippet.proofs.Performing.{behind, exchange_fails, exchange_went}
use Rattle.hp_snippet.proofs.Setting.{ShareEach, numbered_at, set_each_shared, set_other, shared_count}
use Rattle.hp_coll.specs.Sealing.{MaySeal, column_of_all, loose_at, sealed_arrays, sized, sizes_code, sizes_write}
use Rattle.hp_coll.proofs.Parts.{lengths_of, part_count, part_kept, running_rise, told_few, told_more, total_length}

-- ---- the sizes that arrive

-- what a rank gets from all
abbrev told : ℕ → List Store → List Message
told column ranks = map (λ (x : Store). message_of (count_word (length (loose_at column x)) ∷ [])) ranks

mail_of : (dists : List Dist) (column n to : ℕ) (xs : List Store) → to < n → AllByRecursion (λ (x : Store). x.ranks ≡ n) xs → mail_for dists (Sizes column) xs to ≡ told column xs
unfolding packed sizes_packed
mail_of dists column n to [] lt h = refl
mail_of dists column n to (x ∷ xs) lt h =
    let m = message_of (count_word (length (loose_at column x)) ∷ []) in
    let few : to < x.ranks = subst (λ k. to < k) (sym h.0) lt in
    ap (λ y. y ∷ mail_for dists (Sizes column) xs to) (get_or-replicate x.ranks to m no_message few)
    ∙ ap (λ ys. m ∷ ys) (mail_of dists column n to xs lt h.1)

sizes_told : (column : ℕ) (xs : List Store) → sizes_of (told column xs) ≡ map (λ n. min n greatest_count) (lengths_of (loose_at column) xs)
unfolding count_word
sizes_told column [] = refl
sizes_told column (x ∷ xs) = ap (λ ns. min (length (loose_at column x)) greatest_count ∷ ns) (sizes_told column xs)

-- ---- one rank

abbrev pieces_of : List ℕ → (cuts : List ℕ) → Store → List Piece
pieces_of loose cuts x = map (λ k. sealed x.loose cuts k) loose

seals : (to loose : List ℕ) (at : Place) (inbox : List Message) (sizes : List ℕ) (x : Store) → sizes_of inbox ≡ sizes → sum sizes ≤ longest → seal_data to loose at inbox (data_of x) ≡ Ok (with_arrays to (pieces_of loose (running sizes) x) (data_of x))
unfolding seal_data
seals to loose at inbox sizes x e le =
    let made = λ (s : List ℕ). with_arrays to (pieces_of loose (running s) x) (data_of x) in
    ap (λ s. cond (nat_le (sum s) longest) (Ok (made s)) (Err (trap at TooLong))) e ∙ ap (λ b. cond b (Ok (made sizes)) (Err (trap at TooLong))) (le-leb (sum sizes) longest le)

traps : (to loose : List ℕ) (at : Place) (inbox : List Message) (sizes : List ℕ) (x : Store) → sizes_of inbox ≡ sizes → longest < sum sizes → seal_data to loose at inbox (data_of x) ≡ Err (trap at TooLong)
unfolding seal_data
traps to loose at inbox sizes x e lt =
    let made = λ (s : List ℕ). with_arrays to (pieces_of loose (running s) x) (data_of x) in
    ap (λ s. cond (nat_le (sum s) longest) (Ok (made s)) (Err (trap at TooLong))) e ∙ ap (λ b. cond b (Ok (made sizes)) (Err (trap at TooLong))) (lt-leb (sum sizes) longest lt)

-- ---- what becomes of one array

-- the cuts of the arrays once these have new ones
abbrev new_cuts : (to : List ℕ) → (cuts : List ℕ) → (ℕ → List ℕ) → ℕ → List ℕ
new_cuts [] cuts old k = old k
new_cuts (t ∷ to) cuts old k = cond (eqb t k) cuts (new_cuts to cuts old k)

-- an array becomes a column, which meets this, on each rank
pub record IsSealed (dists : List Dist) (Level : ℕ → Type 0) (to loose : List ℕ) (ranks : List Store) (arrays : ℕ → Whole) (cuts : List ℕ) (old : ℕ → List ℕ) (slot : ℕ) : Type 0 where
  pub column : ℕ
  pub uneven : dist_at dists slot ≡ Var
  pub level : Level column
  pub whole : sealed_arrays to loose ranks arrays slot ≡ vector (column_of_all ranks column)
  pub cut : new_cuts to cuts old slot ≡ cuts
  pub piece : (x : Store) (pieces : List Piece) → slot < length pieces → piece_at (with_all to (pieces_of loose cuts x) pieces) slot ≡ sealed x.loose cuts column

-- or it is none of those
pub record IsLeft (to loose : List ℕ) (ranks : List Store) (arrays : ℕ → Whole) (cuts : List ℕ) (old : ℕ → List ℕ) (slot : ℕ) : Type 0 where
  pub apart : IsNoneOf to slot
  pub whole : sealed_arrays to loose ranks arrays slot ≡ arrays slot
  pub cut : new_cuts to cuts old slot ≡ old slot

one_of_two : (dists : List Dist) (Level : ℕ → Type 0) (to loose : List ℕ) (ranks : List Store) (arrays : ℕ → Whole) (cuts : List ℕ) (old : ℕ → List ℕ) (slot : ℕ) → length to ≡ length loose → AreOnce to
    → AllByRecursion (λ t. dist_at dists t ≡ Var) to → AllByRecursion Level loose
    → IsLeft to loose ranks arrays cuts old slot ⊎ IsSealed dists Level to loose ranks arrays cuts old slot
one_of_two dists Level [] loose ranks arrays cuts old slot same once uneven level = inl (record { apart = tt; whole = refl; cut = refl })
one_of_two dists Level (t ∷ to) [] ranks arrays cuts old slot same once uneven level = absurd (omega (arith, same))
one_of_two dists Level (t ∷ to) (c ∷ loose) ranks arrays cuts old slot same once uneven level = elim (cases_eq t slot) [
  | inl here ↦
      inr (record {
        column = c;
        uneven = subst (λ k. dist_at dists k ≡ Var) here uneven.0;
        level = level.0;
        whole = ap (λ b. cond b (vector (column_of_all ranks c)) (sealed_arrays to loose ranks arrays slot)) (eq-eqb t slot here);
        cut = ap (λ b. cond b cuts (new_cuts to cuts old slot)) (eq-eqb t slot here);
        piece = λ x pieces lt.
            set_other to (pieces_of loose cuts x) (set pieces t (sealed x.loose cuts c)) slot no_piece (subst (IsNoneOf to) here once.0)
            ∙ ap (λ k. get_or (set pieces t (sealed x.loose cuts c)) k no_piece) (sym here)
            ∙ get_or-set_same pieces t (sealed x.loose cuts c) no_piece (subst (λ k. k < length pieces) (sym here) lt);
      })
  | inr other ↦
      let rest : length to ≡ length loose = omega (arith, same) in
      left_or_sealed other (one_of_two dists Level to loose ranks arrays cuts old slot rest once.1 uneven.1 level.1)
]
  where
    left_or_sealed : (t ≡ slot → ⊥) → IsLeft to loose ranks arrays cuts old slot ⊎ IsSealed dists Level to loose ranks arrays cuts old slot
        → IsLeft (t ∷ to) (c ∷ loose) ranks arrays cuts old slot ⊎ IsSealed dists Level (t ∷ to) (c ∷ loose) ranks arrays cuts old slot
    left_or_sealed other (inl h) =
        inl (record {
          apart = (other, h.apart);
          whole = ap (λ b. cond b (vector (column_of_all ranks c)) (sealed_arrays to loose ranks arrays slot)) (ne_eqb t slot other) ∙ h.whole;
          cut = ap (λ b. cond b cuts (new_cuts to cuts old slot)) (ne_eqb t slot other) ∙ h.cut;
        })
    left_or_sealed other (inr h) =
        inr (record {
          column = h.column;
          uneven = h.uneven;
          level = h.level;
          whole = ap (λ b. cond b (vector (column_of_all ranks c)) (sealed_arrays to loose ranks arrays slot)) (ne_eqb t slot other) ∙ h.whole;
          cut = ap (λ b. cond b cuts (new_cuts to cuts old slot)) (ne_eqb t slot other) ∙ h.cut;
          piece = λ x pieces lt. h.piece x (set pieces t (sealed x.loose cuts c)) (subst (λ n. slot < n) (sym (length-set pieces t (sealed x.loose cuts c))) lt);
        })

-- ---- pieces of a column

-- on each rank a column is as long as another one
abbrev IsLevel : List Store → (first column : ℕ) → Type 0
IsLevel ranks first column = All (λ (x : Store). length (loose_at column x) ≡ length (loose_at first x)) ranks

lengths_same : (first column : ℕ) (xs : List Store) → AllByRecursion (λ (x : Store). length (loose_at column x) ≡ length (loose_at first x)) xs → lengths_of (loose_at column) xs ≡ lengths_of (loose_at first) xs
lengths_same first column [] h = refl
lengths_same first column (x ∷ xs) h = ap (λ n. n ∷ lengths_of (loose_at column) xs) h.0 ∙ ap (λ ns. length (loose_at first x) ∷ ns) (lengths_same first column xs h.1)

-- a rank's own part of a column is its piece
column_held : (ranks : List Store) (first column k : ℕ) (d : Store) → lengths_of (loose_at column) ranks ≡ lengths_of (loose_at first) ranks → k < length ranks
    → HoldsPiece Var (running (lengths_of (loose_at first) ranks)) (vector (column_of_all ranks column)) k (sealed (get_or ranks k d).loose (running (lengths_of (loose_at first) ranks)) column)
column_held ranks first column k d same lt =
    let cuts = running (lengths_of (loose_at first) ranks) in
    let whole = column_of_all ranks column in
    record {
      rows_are = refl;
      cuts_are = refl;
      cells_are =
          sym (ap (λ a. kept a (1 * get_or cuts (suc k) 0) 0 whole) (one-mul (get_or cuts k 0))
          ∙ ap (λ b. kept (get_or cuts k 0) b 0 whole) (one-mul (get_or cuts (suc k) 0))
          ∙ ap (λ ls. kept (get_or (running ls) k 0) (get_or (running ls) (suc k) 0) 0 whole) (sym same)
          ∙ part_kept (loose_at column) ranks k d lt);
    }

-- a rank's piece of it is shared as one of any lengths is
column_shared : (ranks : List Store) (first column k : ℕ) (d : Store) → lengths_of (loose_at column) ranks ≡ lengths_of (loose_at first) ranks → k < length ranks
    → IsShared Var (length ranks) k (sealed (get_or ranks k d).loose (running (lengths_of (loose_at first) ranks)) column)
column_shared ranks first column k d same lt =
    let count = λ (ls : List ℕ). get_or (running ls) (suc k) 0 - get_or (running ls) k 0 in
    record {
      some = omega arith;
      len = length (column_of_all ranks first);
      cut = running_rise (loose_at first) ranks;
      filled = sym (one-mul (count (lengths_of (loose_at first) ranks)) ∙ ap count (sym same) ∙ part_count (loose_at column) ranks k d lt);
    }

-- all that a rank makes are
columns_shared : (dists : List Dist) (ranks : List Store) (first k : ℕ) (d : Store) → k < length ranks → (to loose : List ℕ) → AllByRecursion (λ t. dist_at dists t ≡ Var) to → AllByRecursion (IsLevel ranks first) loose
    → ShareEach dists (length ranks) k to (pieces_of loose (running (lengths_of (loose_at first) ranks)) (get_or ranks k d))
columns_shared dists ranks first k d lt [] loose uneven level = tt
columns_shared dists ranks first k d lt (t ∷ to) [] uneven level = tt
columns_shared dists ranks first k d lt (t ∷ to) (c ∷ loose) uneven level =
    let same = lengths_same first c ranks (recursion_from_All (λ (x : Store). length (loose_at c x) ≡ length (loose_at first x)) ranks level.0) in
    let p = sealed (get_or ranks k d).loose (running (lengths_of (loose_at first) ranks)) c in
    (subst (λ e. IsShared e (length ranks) k p) (sym uneven.0) (column_shared ranks first c k d same lt), columns_shared dists ranks first k d lt to loose uneven.1 level.1)

-- ---- all ranks, where the columns are not too long

-- the data of a rank with the arrays that it makes
abbrev sealed_data : (to loose : List ℕ) (ranks : List Store) → Store → Data
sealed_data to loose ranks x = with_arrays to (pieces_of loose (running (lengths_of (loose_at (get_or loose 0 0)) ranks)) x) (data_of x)

sealed_stays : (dists : List Dist) (to loose : List ℕ) (ranks : List Store) (x : Store) → Stays (sizes_write to) x (behind dists (Sizes (get_or loose 0 0)) ranks (sealed_data to loose ranks) x)
unfolding pack_done
sealed_stays dists to loose ranks x =
    let cuts = running (lengths_of (loose_at (get_or loose 0 0)) ranks) in
    record {
      number = refl;
      ranks_are = refl;
      words = λ w apart. refl;
      arrays = λ k apart. set_other to (pieces_of loose cuts x) x.arrays k no_piece apart;
      loose = λ k apart. refl;
      executed = refl;
      log = refl;
    }

-- the code of a rank behind the exchange
sealed_rank : (code : Code) (to loose : List ℕ) (ranks : List Store) (k : ℕ) (d : Store) → k < length ranks → (get_or ranks k d).number ≡ k → AllByRecursion (λ t. dist_at code.arrays t ≡ Var) to
    → AllByRecursion (IsLevel ranks (get_or loose 0 0)) loose → IsRankOf code (length ranks) (get_or ranks k d)
    → IsRankOf code (length ranks) (behind code.arrays (Sizes (get_or loose 0 0)) ranks (sealed_data to loose ranks) (get_or ranks k d))
unfolding pack_done
sealed_rank code to loose ranks k d lt number uneven level h =
    let x = get_or ranks k d in
    let n = length ranks in
    let first = get_or loose 0 0 in
    let made = pieces_of loose (running (lengths_of (loose_at first) ranks)) x in
    let each = columns_shared code.arrays ranks first k d lt to loose uneven level in
    let each_here : ShareEach code.arrays x.ranks x.number to made = subst (λ r. ShareEach code.arrays x.ranks r to made) (sym number) (subst (λ m. ShareEach code.arrays m k to made) (sym h.placed.ranks_are) each) in
    record {
      placed = record {
        ranks_are = h.placed.ranks_are;
        number_below = h.placed.number_below;
        shared = set_each_shared code.arrays x.ranks x.number to made x.arrays each_here h.placed.shared;
      };
      words = h.words;
      loose = h.loose;
    }

-- one array behind the exchange
sealed_laid : (code : Code) (to loose : List ℕ) (ranks : List Store) (arrays : ℕ → Whole) (old : ℕ → List ℕ) (slot : ℕ) → All (IsRankOf code (length ranks)) ranks → ((k : ℕ) (d : Store) → k < length ranks → (get_or ranks k d).number ≡ k) → slot < length code.arrays
    → (h : IsSealed code.arrays (IsLevel ranks (get_or loose 0 0)) to loose ranks arrays (running (lengths_of (loose_at (get_or loose 0 0)) ranks)) old slot)
    → IsLaid (dist_at code.arrays slot) (map (behind code.arrays (Sizes (get_or loose 0 0)) ranks (sealed_data to loose ranks)) ranks) slot (new_cuts to (running (lengths_of (loose_at (get_or loose 0 0)) ranks)) old slot) (sealed_arrays to loose ranks arrays slot)
unfolding pack_done
sealed_laid code to loose ranks arrays old slot each numbers lt h =
    let first = get_or loose 0 0 in
    let n = length ranks in
    let cuts = running (lengths_of (loose_at first) ranks) in
    let g = behind code.arrays (Sizes first) ranks (sealed_data to loose ranks) in
    let same = lengths_same first h.column ranks (recursion_from_All (λ (x : Store). length (loose_at h.column x) ≡ length (loose_at first x)) ranks h.level) in
    let whole = vector (column_of_all ranks h.column) in
    let rise = subst (λ ls. Rises (running ls) (length (column_of_all ranks h.column)) n) same (running_rise (loose_at h.column) ranks) in
    let laid : IsLaid Var (map g ranks) slot cuts whole = record {
      columns = length (column_of_all ranks h.column);
      size = sym (one-mul (length (column_of_all ranks h.column)));
      may = subst (Rises cuts (length (column_of_all ranks h.column))) (sym (length-map ranks g)) rise;
      held = All-map (λ (y : Store). HoldsPiece Var cuts whole y.number (piece_at y.arrays slot)) g ranks
          (λ k d at.
          let x = get_or ranks k d in
          let many : length x.arrays ≡ length code.arrays = shared_count code.arrays x.ranks x.number x.arrays (each k d at).placed.shared in
          let there : slot < length x.arrays = subst (λ m. slot < m) (sym many) lt in
          subst (λ p. HoldsPiece Var cuts whole x.number p) (sym (h.piece x x.arrays there))
          (subst (λ r. HoldsPiece Var cuts whole r (sealed x.loose cuts h.column)) (sym (numbers k d at)) (column_held ranks first h.column k d same at)));
    } in
    subst (λ e. IsLaid e (map g ranks) slot (new_cuts to cuts old slot) (sealed_arrays to loose ranks arrays slot)) (sym h.uneven)
    (subst (λ c. IsLaid Var (map g ranks) slot c (sealed_arrays to loose ranks arrays slot)) (sym h.cut)
    (subst (λ w. IsLaid Var (map g ranks) slot cuts w) (sym h.whole) laid))

-- ---- the whole

-- each rank has got the same sizes
same_sizes : (code : Code) (to loose : List ℕ) (at : Place) (ranks : List Store) → All (IsRankOf code (length ranks)) ranks → (k : ℕ) (d : Store) → k < length ranks
    → sizes_of (mail_for code.arrays (Sizes (get_or loose 0 0)) ranks (get_or ranks k d).number) ≡ map (λ n. min n greatest_count) (lengths_of (loose_at (get_or loose 0 0)) ranks)
same_sizes code to loose at ranks each k d lt =
    let counts : All (λ (x : Store). x.ranks ≡ length ranks) ranks = λ j e l. (each j e l).placed.ranks_are in
    ap sizes_of (mail_of code.arrays (get_or loose 0 0) (length ranks) (get_or ranks k d).number ranks (each k d lt).placed.number_below (recursion_from_All (λ (x : Store). x.ranks ≡ length ranks) ranks counts))
    ∙ sizes_told (get_or loose 0 0) ranks

longest_is_less : longest < greatest_count
longest_is_less = lit< tt

seal_goes : (code : Code) (tables : Tables) (price : Kind → ℕ) (to loose : List ℕ) (at : Place) (s : State) (env : Env) → length to ≡ length loose → (h : StandBefore code (sizes_code to loose at) s env) → MaySeal to loose code s.ranks env
    → sum (lengths_of (loose_at (get_or loose 0 0)) s.ranks) ≤ longest
    → Does code tables price (IsSound code tables (length s.ranks) (position_of s.ranks + 4)) (λ t. Unit {0}) Env (StandBehind code (sizes_write to) s.ranks)
    4 (price_of price (sizes_code to loose at)) (position_of s.ranks + 4) s (Ok (record { env = record env { arrays = sealed_arrays to loose s.ranks env.arrays }; text = [] }))
unfolding unpacked
seal_goes code tables price to loose at s env alike h may few =
    let ranks = s.ranks in
    let first = get_or loose 0 0 in
    let lens = lengths_of (loose_at first) ranks in
    let cuts = running lens in
    let f = sealed_data to loose ranks in
    let g = behind code.arrays (Sizes first) ranks f in
    let after : Env = record env { arrays = sealed_arrays to loose ranks env.arrays } in
    let within : longest ≤ greatest_count = less_within longest greatest_count longest_is_less in
    let numbers : (k : ℕ) (d : Store) → k < length ranks → (get_or ranks k d).number ≡ k = λ k d lt. numbered_at 0 ranks k d h.lays.numbers lt ∙ zero_add k in
    let stays = zip_map (Stays (sizes_write to)) g ranks (λ k d lt. sealed_stays code.arrays to loose ranks (get_or ranks k d)) in
    exchange_went code tables price (Sizes first) (Seal to loose at) s env after (sizes_write to) f h
    (λ k d lt. seals to loose at (mail_for code.arrays (Sizes first) ranks (get_or ranks k d).number) lens (get_or ranks k d)
    (same_sizes code to loose at ranks h.each k d lt ∙ told_few greatest_count longest lens few within) few)
    (All-map (IsRankOf code (length ranks)) g ranks (λ k d lt. sealed_rank code to loose ranks k d lt (numbers k d lt) may.uneven may.level (h.each k d lt)))
    stays
    (stays_layout code (sizes_write to) ranks (map g ranks) env after h.lays (new_cuts to cuts h.lays.cuts) stays
    (λ slot lt. lies slot lt (one_of_two code.arrays (IsLevel ranks first) to loose ranks env.arrays cuts h.lays.cuts slot alike may.once may.uneven may.level))
    (λ w value e. word_stays code (sizes_write to) ranks (map g ranks) env stays h.lays w value tt e))
  where
    zero_add : (k : ℕ) → 0 + k ≡ k
    zero_add k = omega arith

    less_within : (a b : ℕ) → a < b → a ≤ b
    less_within a b h = omega (arith, h)

    lies : (slot : ℕ) → slot < length code.arrays
        → IsLeft to loose s.ranks env.arrays (running (lengths_of (loose_at (get_or loose 0 0)) s.ranks)) h.lays.cuts slot ⊎ IsSealed code.arrays (IsLevel s.ranks (get_or loose 0 0)) to loose s.ranks env.arrays (running (lengths_of (loose_at (get_or loose 0 0)) s.ranks)) h.lays.cuts slot
        → LiesBehind code (sizes_write to) (map (behind code.arrays (Sizes (get_or loose 0 0)) s.ranks (sealed_data to loose s.ranks)) s.ranks) env (record env { arrays = sealed_arrays to loose s.ranks env.arrays }) h.lays.cuts
        (new_cuts to (running (lengths_of (loose_at (get_or loose 0 0)) s.ranks)) h.lays.cuts) slot
    lies slot lt (inl left) = inl (left.apart, left.whole, left.cut)
    lies slot lt (inr made) = inr (sealed_laid code to loose s.ranks env.arrays h.lays.cuts slot h.each (λ k d l. numbered_at 0 s.ranks k d h.lays.numbers l ∙ zero_add k) lt made)

seal_trips : (code : Code) (tables : Tables) (price : Kind → ℕ) (to loose : List ℕ) (at : Place) (s : State) (env : Env) → (h : StandBefore code (sizes_code to loose at) s env)
    → longest < sum (lengths_of (loose_at (get_or loose 0 0)) s.ranks)
    → Does code tables price (IsSound code tables (length s.ranks) (position_of s.ranks + 4)) (λ t. Unit {0}) Env (StandBehind code (sizes_write to) s.ranks)
    4 (price_of price (sizes_code to loose at)) (position_of s.ranks + 4) s (Err (trap at TooLong))
unfolding unpacked
seal_trips code tables price to loose at s env h more =
    let first = get_or loose 0 0 in
    let lens = lengths_of (loose_at first) s.ranks in
    exchange_fails code tables price (Sizes first) (Seal to loose at) s env (trap at TooLong) h
    (λ k d lt. traps to loose at (mail_for code.arrays (Sizes first) s.ranks (get_or s.ranks k d).number) (map (λ n. min n greatest_count) lens) (get_or s.ranks k d)
    (same_sizes code to loose at s.ranks h.each k d lt) (told_more greatest_count longest lens more longest_is_less))

pub seals_all : (to loose : List ℕ) (at : Place) → length to ≡ length loose → Performs (MaySeal to loose) (sized to loose at) (sizes_write to) (sizes_code to loose at)
seals_all to loose at alike code tables price s env h may =
    let total = total_length (loose_at (get_or loose 0 0)) s.ranks in
    let whole = column_of_all s.ranks (get_or loose 0 0) in
    let made : After Env = record { env = record env { arrays = sealed_arrays to loose s.ranks env.arrays }; text = [] } in
    let P = Does code tables price (IsSound code tables (length s.ranks) (position_of s.ranks + 4)) (λ t. Unit {0}) Env (StandBehind code (sizes_write to) s.ranks) 4 (price_of price (sizes_code to loose at)) (position_of s.ranks + 4) s in
    elim (cases_lt longest (length whole)) [
      | inl more ↦
          subst (λ b. P (cond b (Ok made) (Err (trap at TooLong)))) (sym (lt-leb (length whole) longest more))
          (seal_trips code tables price to loose at s env h (subst (λ n. longest < n) total more))
      | inr few ↦
          subst (λ b. P (cond b (Ok made) (Err (trap at TooLong)))) (sym (le-leb (length whole) longest few))
          (seal_goes code tables price to loose at s env alike h may (subst (λ n. n ≤ longest) total few))
    ]

pub list_seals : (to loose : List ℕ) (at : Place) (list : List Instr) → length to ≡ length loose → list ≡ sizes_code to loose at → Performs (MaySeal to loose) (sized to loose at) (sizes_write to) list
list_seals to loose at list alike e = subst (Performs (MaySeal to loose) (sized to loose at) (sizes_write to)) (sym e) (seals_all to loose at alike)

-- ---- what can be seen of it

pub sizes_straight : (to loose : List ℕ) (at : Place) (list : List Instr) → list ≡ sizes_code to loose at → IsStraight list
sizes_straight to loose at list e = subst IsStraight (sym e) (record { leads = (refl, (refl, (refl, (refl, refl)))); jumps = (tt, (tt, (tt, (tt, tt)))); sizes = (tt, (tt, (tt, (tt, tt)))) })

pub sizes_shares : (to loose : List ℕ) (at : Place) (list : List Instr) → list ≡ sizes_code to loose at → (code : Code) → AllByRecursion (LeavesShared code) list
sizes_shares to loose at list e code =
    subst (AllByRecursion (LeavesShared code)) (sym e)
    ((λ tables x y. next_shared code tables (instr.Pack (Sizes (get_or loose 0 0))) x y tt), ((λ tables x y. next_shared code tables (instr.Post false) x y tt), ((λ tables x y. next_shared code tables (instr.Take false) x y tt), (tt, tt))))

pub sizes_work : (to loose : List ℕ) (at : Place) (list : List Instr) → list ≡ sizes_code to loose at → IsWork 1 list
sizes_work to loose at list e = subst (IsWork 1) (sym e) (record { few = omega arith; cheap = λ ranks. omega arith })
