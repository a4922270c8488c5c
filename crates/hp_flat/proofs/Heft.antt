-- How much a program is, counted operation by operation: so much for each operation, and so much for each word that is
-- looked at.
use Rattle.std.proofs.Common.{◌≡◌, ℕ, ◌+◌, ◌≤◌, List, [], ◌∷◌, ◌++◌, length, sum_by, Option, Some, None, refl, arith}
use Rattle.std.proofs.lemmas.List.{length-append}
use Rattle.std.proofs.lemmas.List.Sums.{sum_by-cons, sum_by-append}
use Rattle.hp_program.specs.Programs.{Prog, stop, plain, choose, loop, joined, operations, tests}
use Rattle.hp_air.specs.declared.what.Op.{Op}
use Rattle.hp_air.specs.declared.what.What.{What}
use Rattle.hp_air.specs.Unknowns.{Unknown}
use Rattle.hp_flat.specs.FlatCalls.{where_some, of_array, of_arrays, of_first}

abbrev pub heft : (test : ℕ) → (What → ℕ) → Prog Op → ℕ
heft t f stop = 0
heft t f (plain op p) = f op.what + heft t f p
heft t f (choose w first second p) = t + heft t f first + heft t f second + heft t f p
heft t f (loop test w body p) = t + heft t f test + heft t f body + heft t f p

pub heft_joined : (t : ℕ) (f : What → ℕ) (p q : Prog Op) → heft t f (joined p q) ≡ heft t f p + heft t f q
unfolding joined
heft_joined t f stop q = omega arith
heft_joined t f (plain op p) q = omega (arith, heft_joined t f p q)
heft_joined t f (choose w first second p) q = omega (arith, heft_joined t f p q)
heft_joined t f (loop test w body p) q = omega (arith, heft_joined t f p q)

-- operations and looks at words, and what stands beside each operation
pub heft_counts : (f : What → ℕ) (p : Prog Op) → length (operations p) + length (tests p) + sum_by (λ (op : Op). f op.what) (operations p) ≡ heft 1 (λ w. 1 + f w) p
unfolding operations tests
heft_counts f stop = refl
heft_counts f (plain op p) = omega (arith, sum_by-cons (λ (o : Op). f o.what) op (operations p), heft_counts f p)
heft_counts f (choose w first second p) =
    let one = operations first in
    let other = operations second in
    omega (
      arith,
      length-append (one ++ other) (operations p),
      length-append one other,
      length-append (tests first ++ tests second) (tests p),
      length-append (tests first) (tests second),
      sum_by-append (λ (o : Op). f o.what) (one ++ other) (operations p),
      sum_by-append (λ (o : Op). f o.what) one other,
      heft_counts f first,
      heft_counts f second,
      heft_counts f p,
    )
heft_counts f (loop test w body p) =
    let one = operations test in
    let other = operations body in
    omega (
      arith,
      length-append (one ++ other) (operations p),
      length-append one other,
      length-append (tests test ++ w ∷ tests body) (tests p),
      length-append (tests test) (w ∷ tests body),
      sum_by-append (λ (o : Op). f o.what) (one ++ other) (operations p),
      sum_by-append (λ (o : Op). f o.what) one other,
      heft_counts f test,
      heft_counts f body,
      heft_counts f p,
    )

-- what stands beside each operation
pub heft_sums : (f : What → ℕ) (p : Prog Op) → sum_by (λ (op : Op). f op.what) (operations p) ≡ heft 0 f p
unfolding operations
heft_sums f stop = refl
heft_sums f (plain op p) = omega (arith, sum_by-cons (λ (o : Op). f o.what) op (operations p), heft_sums f p)
heft_sums f (choose w first second p) =
    let one = operations first in
    let other = operations second in
    omega (arith, sum_by-append (λ (o : Op). f o.what) (one ++ other) (operations p), sum_by-append (λ (o : Op). f o.what) one other, heft_sums f first, heft_sums f second, heft_sums f p)
heft_sums f (loop test w body p) =
    let one = operations test in
    let other = operations body in
    omega (arith, sum_by-append (λ (o : Op). f o.what) (one ++ other) (operations p), sum_by-append (λ (o : Op). f o.what) one other, heft_sums f test, heft_sums f body, heft_sums f p)

-- ---- what is made where there is something

module _ (t : ℕ) (f : What → ℕ) (most : ℕ) where
  pub some_light : {A : Type 0} (o : Option A) (made : A → Prog Op) → ((a : A) → heft t f (made a) ≤ most) → heft t f (where_some o made) ≤ most
  some_light (Some a) made light = light a
  some_light None made light = omega arith

  pub some_light_at : {A : Type 0} (o : Option A) (made : A → Prog Op) → ((a : A) → o ≡ Some a → heft t f (made a) ≤ most) → heft t f (where_some o made) ≤ most
  some_light_at (Some a) made light = light a refl
  some_light_at None made light = omega arith

  pub array_light : (us : List Unknown) (made : Unknown → Prog Op) → ((u : Unknown) → heft t f (made u) ≤ most) → heft t f (of_array us made) ≤ most
  array_light [] made light = omega arith
  array_light (u ∷ []) made light = light u
  array_light (u ∷ v ∷ us) made light = omega arith

  pub arrays_light : (us vs : List Unknown) (made : Unknown → Unknown → Prog Op) → ((u v : Unknown) → heft t f (made u v) ≤ most) → heft t f (of_arrays us vs made) ≤ most
  arrays_light (u ∷ []) (v ∷ []) made light = light u v
  arrays_light [] vs made light = omega arith
  arrays_light (u ∷ w ∷ us) vs made light = omega arith
  arrays_light (u ∷ []) [] made light = omega arith
  arrays_light (u ∷ []) (v ∷ w ∷ vs) made light = omega arith

  pub first_light : (us : List Unknown) (made : Unknown → Prog Op) → ((u : Unknown) → heft t f (made u) ≤ most) → heft t f (of_first us made) ≤ most
  first_light [] made light = omega arith
  first_light (u ∷ us) made light = light u
