-- Where blocks begin, and the part of a list that a rank keeps.
use Rattle.std.proofs.Common.{◌≡◌, ℕ, ℤ, zero, suc, ◌+◌, ◌-◌, ◌/◌, ◌<◌, ◌≤◌, max, List, [], ◌∷◌, ◌++◌, length, map, get_or, take, drop, replicate, refl, ap, sym, ◌∙◌, inl, inr, arith}
use Rattle.std.specs.List.{range_with_len}
use Rattle.std.proofs.lemmas.Bool.{cases_lt, lt-leb, le-leb, lt-ltb, le-ltb}
use Rattle.std.proofs.lemmas.List.{take-replicate, drop-replicate, length-replicate}
use Rattle.std.proofs.lemmas.List.FromFn.{get_or-map-range_with_len, map-range_with_len_more}
use Rattle.hp_lattice.specs.declared.dist.Dist.{Dist}
use Rattle.hp_lattice.specs.declared.dist.Dist.TheVariants.{Rep, Var, Block}
use Rattle.hp_cuts.specs.Blocks.{block_start, block_cuts}
use Rattle.hp_cuts.proofs.BlockLemmas.{start_within}
use Rattle.hp_spmd.specs.Cuts.{first_cuts, own_from, own_until}
use Rattle.hp_spmd.specs.Matrices.{column_count}
use Rattle.hp_spmd.specs.Store.{kept}

-- ---- where blocks begin

pub block_cuts_at : (r len ranks : ℕ) → r ≤ ranks → get_or (block_cuts len ranks) r 0 ≡ block_start r len ranks
unfolding block_cuts
block_cuts_at r len ranks h = get_or-map-range_with_len (λ s. block_start s len ranks) 0 (suc ranks) r r 0 (omega arith) (omega arith)

-- the own places of a rank in blocks
pub own_block : (r s len ranks : ℕ) → s ≡ r + 1 → r < ranks → get_or (block_cuts len ranks) (suc r) 0 - get_or (block_cuts len ranks) r 0 ≡ block_start s len ranks - block_start r len ranks
own_block r s len ranks e h =
    let at_s = block_cuts_at (suc r) len ranks (omega arith) in
    let at_r = block_cuts_at r len ranks (omega arith) in
    let same : suc r ≡ s = omega arith in
    ap (λ a. a - get_or (block_cuts len ranks) r 0) (at_s ∙ ap (λ a. block_start a len ranks) same) ∙ ap (λ a. block_start s len ranks - a) at_r

-- ---- the part that is kept

kept_here : {X : Type 0} → (a b k : ℕ) (x : X) (xs ys : List X) → a ≤ k → k < b → ys ≡ take (b - max a (suc k)) (drop (a - suc k) xs) → x ∷ ys ≡ take (b - max a k) (drop (a - k) (x ∷ xs))
kept_here a b k x xs ys h g e =
    let zero_now : a - k ≡ 0 = omega arith in
    let zero_then : a - suc k ≡ 0 = omega arith in
    let more : b - max a k ≡ suc (b - max a (suc k)) = omega arith in
    rw (zero_now, more) (ap (λ l. x ∷ l) (rw zero_then at e))

kept_later : {X : Type 0} → (a b k : ℕ) (x : X) (xs ys : List X) → k < a → ys ≡ take (b - max a (suc k)) (drop (a - suc k) xs) → ys ≡ take (b - max a k) (drop (a - k) (x ∷ xs))
kept_later a b k x xs ys h e =
    let one_more : a - k ≡ suc (a - suc k) = omega arith in
    let same : max a k ≡ max a (suc k) = omega arith in
    rw (one_more, same) e

kept_past : {X : Type 0} → (a b k : ℕ) (x : X) (xs ys : List X) → b ≤ k → ys ≡ take (b - max a (suc k)) (drop (a - suc k) xs) → ys ≡ take (b - max a k) (drop (a - k) (x ∷ xs))
kept_past a b k x xs ys h e =
    let none_now : b - max a k ≡ 0 = omega arith in
    let none_then : b - max a (suc k) ≡ 0 = omega arith in
    rw none_now (rw none_then at e)

take_of_none : {X : Type 0} → (n m : ℕ) → [] ≡ take {A = X} n (drop m [])
take_of_none zero zero = refl
take_of_none zero (suc m) = refl
take_of_none (suc n) zero = refl
take_of_none (suc n) (suc m) = refl

-- of cells that stand from place k on
pub kept_part_from : {X : Type 0} → (a b k : ℕ) (xs : List X) → kept a b k xs ≡ take (b - max a k) (drop (a - k) xs)
kept_part_from a b k [] = take_of_none (b - max a k) (a - k)
kept_part_from a b k (x ∷ xs) =
    let rest = kept_part_from a b (suc k) xs in
    elim (cases_lt k a) [
      | inl h ↦ rw (lt-leb a k h) (kept_later a b k x xs _ h rest)
      | inr h ↦ elim (cases_lt k b) [
        | inl g ↦ rw (le-leb a k h, lt-ltb k b g) (kept_here a b k x xs _ h g rest)
        | inr g ↦ rw (le-leb a k h, le-ltb k b g) (kept_past a b k x xs _ g rest)
      ]
    ]

pub kept_part : {X : Type 0} → (a b : ℕ) (xs : List X) → kept a b 0 xs ≡ take (b - a) (drop a xs)
kept_part {X} a b xs =
    let whole : max a 0 ≡ a = omega arith in
    let all : a - 0 ≡ a = omega arith in
    rw (whole, all) at (kept_part_from {X = X} a b 0 xs)

pub kept_replicate : {X : Type 0} → (a b n : ℕ) (x : X) → b ≤ n → kept a b 0 (replicate n x) ≡ replicate (b - a) x
kept_replicate a b n x h =
    let within : b - a ≤ n - a = omega arith in
    kept_part a b (replicate n x) ∙ ap (take (b - a)) (drop-replicate a n x) ∙ take-replicate (b - a) (n - a) x within

pub own_until_within : (dist : Dist) (number ranks n : ℕ) → number < ranks → own_until dist (first_cuts dist n ranks) number ≤ n
own_until_within Rep number ranks n h = omega arith
own_until_within Var number ranks n h = let e = block_cuts_at (suc number) n ranks (omega arith) in rw e (start_within (suc number) n ranks (omega arith) (omega arith))
own_until_within Block number ranks n h = let e = block_cuts_at (suc number) n ranks (omega arith) in rw e (start_within (suc number) n ranks (omega arith) (omega arith))

-- the cells of a piece that holds one value, by its own count
pub kept_in_piece : (dist : Dist) (number ranks n count : ℕ) (x : ℤ) → number < ranks → count ≡ own_until dist (first_cuts dist n ranks) number - own_from dist (first_cuts dist n ranks) number → kept (own_from dist (first_cuts dist n ranks) number) (own_until dist (first_cuts dist n ranks) number) 0 (replicate n x) ≡ replicate count x
kept_in_piece dist number ranks n count x h e =
    kept_replicate (own_from dist (first_cuts dist n ranks) number) _ n x (own_until_within dist number ranks n h) ∙ ap (λ k. replicate k x) (sym e)

pub repeated_length : (n : ℕ) (x : ℤ) → length (replicate n x) ≡ n
repeated_length n x = length-replicate n x

-- ---- steps of loops

pub cuts_more : (len ranks r : ℕ) → map (λ s. block_start s len ranks) (range_with_len 0 (r + 1)) ≡ map (λ s. block_start s len ranks) (range_with_len 0 r) ++ block_start r len ranks ∷ []
cuts_more len ranks r = map-range_with_len_more (λ s. block_start s len ranks) 0 r r (omega arith)

pub cuts_all : (len ranks r : ℕ) (cuts : List ℕ) → cuts ≡ map (λ s. block_start s len ranks) (range_with_len 0 r) → r ≡ ranks + 1 → cuts ≡ block_cuts len ranks
unfolding block_cuts
cuts_all len ranks r cuts h e =
    let same : r ≡ suc ranks = omega arith in
    h ∙ ap (λ k. map (λ s. block_start s len ranks) (range_with_len 0 k)) same

-- ---- columns of a list of cells

pub count_none : (rows : ℕ) (cells : List ℤ) → rows ≡ 0 → 0 ≡ column_count rows cells
count_none zero cells e = refl
count_none (suc rows) cells e = absurd (omega arith)

pub count_some : (rows : ℕ) (cells : List ℤ) → 0 < rows → length cells / rows ≡ column_count rows cells
count_some zero cells lt = absurd (omega arith)
count_some (suc rows) cells lt = refl
