-- That the instructions that put one vector behind another do what they promise.
use Rattle.std.proofs.Common.{◌≡◌, ◌∙◌, refl, sym, subst, ap, arith, true, false, cond, ℕ, suc, ◌+◌, ◌-◌, ◌<◌, ◌≤◌, ℤ, min, List, [], ◌∷◌, ◌++◌, length, map, get_or, Some, None}
use Rattle.std.specs.Prelude.{nat_le, sum}
use Rattle.std.specs.List.{All, AllZip}
use Rattle.std.proofs.lemmas.List.{length-append}
use Rattle.hp_word.specs.declared.place.Place.{Place}
use Rattle.hp_word.specs.declared.place.TrapKind.TheVariants.{TooLong}
use Rattle.hp_word.specs.declared.table.Tables.{Tables}
use Rattle.hp_word.specs.Lengths.{longest, trap}
use Rattle.hp_lattice.specs.declared.dist.Dist.{Dist}
use Rattle.hp_lattice.specs.declared.dist.Dist.TheVariants.{Rep, Var, Block}
use Rattle.hp_spmd.specs.declared.code.Code.{Code}
use Rattle.hp_spmd.specs.declared.instr.CheckRule.TheVariants.{Fits}
use Rattle.hp_spmd.specs.declared.instr.Instr.TheVariants as instr
use Rattle.hp_spmd.specs.declared.store.Piece.{Piece}
use Rattle.hp_spmd.specs.declared.store.Store.{Store}
use Rattle.hp_cuts.specs.Blocks.{block_cuts, block_start}
use Rattle.hp_spmd.specs.Cuts.{first_cuts, own_from, own_until}
use Rattle.hp_spmd.specs.Layout.{Env, HoldsPiece, Layout, vector}
use Rattle.hp_spmd.specs.Local.{local_next}
use Rattle.hp_spmd.specs.Next.{Goes, Traps, lifted}
use Rattle.hp_spmd.specs.Scalars.{check_data, greatest_count, piece_length, unless}
use Rattle.hp_spmd.specs.Store.{data_of, dealt, dist_at, kept, piece_at, piece_of}
use Rattle.hp_spmd.proofs.LocalCuts.{block_cuts_at}
use Rattle.hp_snippet.specs.Holds.{IsCut}
use Rattle.hp_snippet.specs.Moves.{IsMovable}
use Rattle.hp_snippet.specs.Promises.{Slots}
use Rattle.hp_snippet.proofs.Keeping.{zip_map}
use Rattle.hp_snippet.proofs.MoveParts.{columns_seen, length_seen}
use Rattle.hp_snippet.proofs.Performing.{computed_by}
use Rattle.hp_exchange.proofs.Haloing.{vector_length, vector_range}
use Rattle.hp_exchange.proofs.Halves.{halves}

-- ---- the look at the lengths

-- nothing is written
abbrev pub nothing : Slots
nothing = record { words = []; arrays = []; loose = [] }

pub check_goes : (dists : List Dist) (tables : Tables) (left right : ℕ) (at : Place) (x : Store) → nat_le (sum (piece_length (piece_at x.arrays left) ∷ piece_length (piece_at x.arrays right) ∷ [])) longest ≡ true
    → local_next dists tables (instr.Check (left ∷ right ∷ []) Fits at) x ≡ Goes (computed_by data_of x)
unfolding check_data
check_goes dists tables left right at x e = ap (λ b. lifted (unless (cond b None (Some (trap at TooLong))) (data_of x)) x) e

pub check_traps : (dists : List Dist) (tables : Tables) (left right : ℕ) (at : Place) (x : Store) → nat_le (sum (piece_length (piece_at x.arrays left) ∷ piece_length (piece_at x.arrays right) ∷ [])) longest ≡ false
    → local_next dists tables (instr.Check (left ∷ right ∷ []) Fits at) x ≡ Traps (trap at TooLong)
unfolding check_data
check_traps dists tables left right at x e = ap (λ b. lifted (unless (cond b None (Some (trap at TooLong))) (data_of x)) x) e

-- ---- a rank's block

-- what it has of the first vector and then of the second, as the needs say
cut_made : (number n left right : ℕ) (xs ys : List ℤ) → number < n → length xs ≡ left → length ys ≡ right
    → (let from = block_start number (left + right) n in
    let until = block_start (suc number) (left + right) n in
    ◌≡◌ {A = Piece} (record { rows = 1; cuts = block_cuts (left + right) n; cells = kept (min from left) (min until left) 0 xs ++ kept (min (from - left) right) (min (until - left) right) 0 ys })
    (let cuts = block_cuts (length (xs ++ ys)) n in
    record { rows = 1; cuts = cuts; cells = kept (get_or cuts number 0) (get_or cuts (suc number) 0) 0 (xs ++ ys) }))
cut_made number n left right xs ys below e f =
    let both = length-append xs ys in
    let total : left + right ≡ length (xs ++ ys) = omega (arith, both, e, f) in
    let le : number ≤ n = omega (arith, below) in
    let from = block_start number (left + right) n in
    let until = block_start (suc number) (left + right) n in
    let made : List ℕ → List ℤ → Piece = (λ cuts cells. record { rows = 1; cuts = cuts; cells = cells }) in
    let cuts = block_cuts (left + right) n in
    ap (made cuts) (halves from until left right xs ys e f)
    ∙ ap (λ a. made cuts (kept a until 0 (xs ++ ys))) (sym (block_cuts_at number (left + right) n le))
    ∙ ap (λ b. made cuts (kept (get_or cuts number 0) b 0 (xs ++ ys))) (sym (block_cuts_at (suc number) (left + right) n below))
    ∙ ap (λ t. made (block_cuts t n) (kept (get_or (block_cuts t n) number 0) (get_or (block_cuts t n) (suc number) 0) 0 (xs ++ ys))) total

pub block_made : (dist : Dist) (number n left right : ℕ) (xs ys : List ℤ) → IsCut dist → number < n → length xs ≡ left → length ys ≡ right
    → (let from = block_start number (left + right) n in
    let until = block_start (suc number) (left + right) n in
    ◌≡◌ {A = Piece} (record { rows = 1; cuts = block_cuts (left + right) n; cells = kept (min from left) (min until left) 0 xs ++ kept (min (from - left) right) (min (until - left) right) 0 ys })
    (dealt dist number n (xs ++ ys)))
unfolding piece_of
block_made Rep number n left right xs ys cut below e f = absurd cut
block_made Var number n left right xs ys cut below e f = cut_made number n left right xs ys below e f
block_made Block number n left right xs ys cut below e f = cut_made number n left right xs ys below e f

-- the piece that a rank makes is held of the whole
pub dealt_held : (dist : Dist) (number n ranks : ℕ) (cells : List ℤ) → n ≡ ranks → HoldsPiece dist (first_cuts dist (length cells) ranks) (vector cells) number (dealt dist number n cells)
unfolding piece_of
dealt_held dist number n ranks cells e =
    subst (λ m. HoldsPiece dist (first_cuts dist (length cells) ranks) (vector cells) number (dealt dist number m cells)) (sym e)
    (record {
      rows_are = refl;
      cuts_are = refl;
      cells_are = sym (vector_range 1 (own_from dist (first_cuts dist (length cells) ranks) number) (own_until dist (first_cuts dist (length cells) ranks) number) cells refl);
    })

-- ---- ranks one after the other

pub all_three : (R : Store → Store → Type 0) (f g h : Store → Store) (xs : List Store) → All (λ x. R x (h (g (f x)))) xs → AllZip R xs (map h (map g (map f xs)))
all_three R f g h xs a = by_turns xs (zip_map R (λ x. h (g (f x))) xs a)
  where
    by_turns : (xs : List Store) → AllZip R xs (map (λ x. h (g (f x))) xs) → AllZip R xs (map h (map g (map f xs)))
    by_turns [] z = tt
    by_turns (x ∷ xs) z = (z.0, by_turns xs z.1)

-- ---- vectors

-- a vector has as many columns as cells
pub columns_are : (code : Code) (ranks : List Store) (env : Env) (l : Layout code ranks env) (k : ℕ) (lt : k < length code.arrays) → (env.arrays k).rows ≡ 1 → (l.arrays k lt).columns ≡ length (env.arrays k).cells
columns_are code ranks env l k lt one = let laid = l.arrays k lt in sym (vector_length (env.arrays k).rows laid.columns (length (env.arrays k).cells) one laid.size)

pub vector_movable : (code : Code) (ranks : List Store) (env : Env) (l : Layout code ranks env) (k : ℕ) → k < length code.arrays → 1 ≤ length ranks → (env.arrays k).rows ≡ 1 → IsCut (dist_at code.arrays k) → length (env.arrays k).cells ≤ longest → IsMovable code ranks k
vector_movable code ranks env l k lt some one cut fits =
    record {
      cut = cut;
      short = λ i d li.
          let seen = columns_seen code ranks env l some k lt i d li in
          let count = columns_are code ranks env l k lt one in
          omega (arith, seen, count, fits);
    }

-- its length, as a rank sees it
pub vector_seen : (code : Code) (ranks : List Store) (env : Env) (l : Layout code ranks env) (k : ℕ) (lt : k < length code.arrays) → 1 ≤ length ranks → (env.arrays k).rows ≡ 1 → length (env.arrays k).cells ≤ longest → (i : ℕ) (d : Store) → i < length ranks
    → piece_length (piece_at (get_or ranks i d).arrays k) ≡ length (env.arrays k).cells
vector_seen code ranks env l k lt some one fits i d li =
    let count = columns_are code ranks env l k lt one in
    let short : (l.arrays k lt).columns ≤ greatest_count = omega (arith, count, fits) in
    length_seen code ranks env l some k lt short i d li ∙ count
