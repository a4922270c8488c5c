-- Arrays that are set, and what the ranks stand for then.
use Rattle.std.proofs.Common.{◌≡◌, ◌∙◌, refl, sym, subst, ap, arith, Bool, true, false, cond, ℕ, zero, suc, ◌-◌, ◌*◌, ◌<◌, ◌≤◌, ◌⊎◌, inl, inr, ℤ, List, [], ◌∷◌, length, get_or, get_or-set_same, length-set}
use Rattle.std.specs.Prelude.{◌==◌, slice_index, slice_set}
use Rattle.std.specs.List.{AllByRecursion}
use Rattle.std.proofs.lemmas.Bool.{cases_eq, eq-eqb, eqb-true}
use Rattle.hp_lattice.specs.declared.dist.Dist.{Dist}
use Rattle.hp_spmd.specs.declared.store.Piece.{Piece}
use Rattle.hp_spmd.specs.Cuts.{own_from, own_until}
use Rattle.hp_spmd.specs.Layout.{AreShared, HoldsPiece, IsShared, MayCut, Whole}
use Rattle.hp_spmd.specs.Setting.{with_all}
use Rattle.hp_spmd.specs.Store.{dist_at, no_piece, piece_at}
use Rattle.hp_snippet.specs.Moves.{changed}
use Rattle.hp_snippet.specs.Promises.{AreOnce, IsNoneOf}
use Rattle.hp_snippet.proofs.MoveLists.{range_count}
use Rattle.hp_snippet.proofs.MoveParts.{own_bounds}
use Rattle.hp_snippet.proofs.Setting.{ShareEach, set_each_shared, set_other}

-- ---- numbers

other_number : (a b : ℕ) → (b ≡ a → ⊥) → (a == b) ≡ false
other_number a b h = by_test (a == b) refl
  where
    by_test : (t : Bool) → (a == b) ≡ t → (a == b) ≡ false
    by_test true e = absurd (h (sym (eqb-true a b e)))
    by_test false e = e

none_at : (names : List ℕ) (k j : ℕ) → IsNoneOf names k → j < length names → slice_index names j ≡ k → ⊥
none_at [] k j h lt e = absurd (omega (arith, lt))
none_at (n ∷ names) k zero h lt e = h.0 e
none_at (n ∷ names) k (suc j) h lt e = let rest : j < length names = omega (arith, lt) in none_at names k j h.1 rest e

-- a number stands among some, or does not
pub record StandsAt (names : List ℕ) (k : ℕ) : Type 0 where
  pub place : ℕ
  pub within : place < length names
  pub is : slice_index names place ≡ k

pub among : (names : List ℕ) (k : ℕ) → IsNoneOf names k ⊎ StandsAt names k
among [] k = inl tt
among (n ∷ names) k =
    elim (cases_eq n k) as (λ _. IsNoneOf (n ∷ names) k ⊎ StandsAt (n ∷ names) k) [
      | inl e ↦ inr (record { place = 0; within = omega arith; is = e })
      | inr other ↦ behind (among names k) other
    ]
  where
    behind : IsNoneOf names k ⊎ StandsAt names k → (n ≡ k → ⊥) → IsNoneOf (n ∷ names) k ⊎ StandsAt (n ∷ names) k
    behind (inl none) other = inl (other, none)
    behind (inr at) other = let w = at.within in inr (record { place = suc at.place; within = omega (arith, w); is = at.is })

-- ---- what is changed

pub changed_other : {X : Type 0} (to : List ℕ) (items : List X) (f : ℕ → X) (k : ℕ) → IsNoneOf to k → changed to items f k ≡ f k
changed_other [] items f k h = refl
changed_other (t ∷ to) [] f k h = refl
changed_other {X} (t ∷ to) (x ∷ items) f k h =
    changed_other {X = X} to items (λ i. cond (i == t) x (f i)) k h.1 ∙ ap (λ b. cond b x (f k)) (other_number k t h.0)

pub changed_at : {X : Type 0} (to : List ℕ) (items : List X) (f : ℕ → X) (j : ℕ) (d : X) → AreOnce to → length to ≡ length items → j < length to → changed to items f (slice_index to j) ≡ get_or items j d
changed_at [] items f j d once e lt = absurd (omega (arith, lt))
changed_at (t ∷ to) [] f j d once e lt = absurd (omega (arith, e))
changed_at {X} (t ∷ to) (x ∷ items) f zero d once e lt =
    changed_other {X = X} to items (λ i. cond (i == t) x (f i)) t once.0 ∙ ap (λ b. cond b x (f t)) (eq-eqb t t refl)
changed_at {X} (t ∷ to) (x ∷ items) f (suc j) d once e lt =
    let same : length to ≡ length items = omega (arith, e) in
    let rest : j < length to = omega (arith, lt) in
    changed_at {X = X} to items (λ i. cond (i == t) x (f i)) j d once.1 same rest

-- ---- what is set

pub set_all_at : (to : List ℕ) (made pieces : List Piece) (j : ℕ) → AreOnce to → length to ≡ length made → j < length to → AllByRecursion (λ t. t < length pieces) to → piece_at (with_all to made pieces) (slice_index to j) ≡ piece_at made j
set_all_at [] made pieces j once e lt named = absurd (omega (arith, lt))
set_all_at (t ∷ to) [] pieces j once e lt named = absurd (omega (arith, e))
set_all_at (t ∷ to) (m ∷ made) pieces zero once e lt named = set_other {X = Piece} to made (slice_set pieces t m) t no_piece once.0 ∙ get_or-set_same pieces t m no_piece named.0
set_all_at (t ∷ to) (m ∷ made) pieces (suc j) once e lt named =
    let same : length to ≡ length made = omega (arith, e) in
    let rest : j < length to = omega (arith, lt) in
    set_all_at to made (slice_set pieces t m) j once.1 same rest (still to named.1)
  where
    still : (ns : List ℕ) → AllByRecursion (λ n. n < length pieces) ns → AllByRecursion (λ n. n < length (slice_set pieces t m)) ns
    still [] h = tt
    still (n ∷ ns) h = (subst (λ c. n < c) (sym (length-set pieces t m)) h.0, still ns h.1)

-- ---- shared pieces

-- pieces that are each shared as the array in whose place they are set
share_places : (dists : List Dist) (ranks number : ℕ) (to : List ℕ) (made : List Piece) → ((j : ℕ) → j < length to → j < length made → IsShared (dist_at dists (slice_index to j)) ranks number (piece_at made j)) → ShareEach dists ranks number to made
share_places dists ranks number [] made all = tt
share_places dists ranks number (t ∷ to) [] all = tt
share_places dists ranks number (t ∷ to) (m ∷ made) all =
    let first : 0 < length (t ∷ to) = omega arith in
    let some : 0 < length (m ∷ made) = omega arith in (
      all 0 first some,
      share_places dists ranks number to made
          (λ j lt lm.
          let in_to : suc j < length (t ∷ to) = omega (arith, lt) in
          let in_made : suc j < length (m ∷ made) = omega (arith, lm) in
          all (suc j) in_to in_made),
    )

pub set_all_shared : (dists : List Dist) (ranks number : ℕ) (to : List ℕ) (made pieces : List Piece) → ((j : ℕ) → j < length to → j < length made → IsShared (dist_at dists (slice_index to j)) ranks number (piece_at made j)) → AreShared dists ranks number pieces
    → AreShared dists ranks number (with_all to made pieces)
set_all_shared dists ranks number to made pieces all h = set_each_shared dists ranks number to made pieces (share_places dists ranks number to made all) h

-- a rank's piece of a whole, with a row or more, is shared
pub held_shared : (dist : Dist) (cuts : List ℕ) (whole : Whole) (columns ranks number : ℕ) (p : Piece) → 1 ≤ ranks → number < ranks → 1 ≤ whole.rows → length whole.cells ≡ whole.rows * columns → MayCut dist columns ranks cuts
    → HoldsPiece dist cuts whole number p → IsShared dist ranks number p
held_shared dist cuts whole columns ranks number p some below rows size may h =
    let bounds = own_bounds dist cuts columns ranks some may number below in
    let from = own_from dist cuts number in
    let until = own_until dist cuts number in
    let same = h.rows_are in
    record {
      some = omega (arith, same, rows);
      len = columns;
      cut = subst (MayCut dist columns ranks) (sym h.cuts_are) may;
      filled = ap length h.cells_are ∙ range_count {X = ℤ} whole.rows from until columns whole.cells bounds.1 size
          ∙ ap (λ r. r * (until - from)) (sym same) ∙ ap (λ cs. p.rows * (own_until dist cs number - own_from dist cs number)) (sym h.cuts_are);
    }
