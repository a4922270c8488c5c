-- The longest front whose bytes pass a test.
use Rattle.std.proofs.Common.{◌≡◌, ℕ, suc, ◌≤◌, Bool, true, false, List, [], ◌∷◌, ◌++◌, length, take, refl, ap, ◌∙◌, arith}
use Rattle.std.specs.Prelude.{IsTrue}
use Rattle.std.specs.List.{prefix_len, AllByRecursion}

pub step_true : (p : ℕ → Bool) (x : ℕ) (xs : List ℕ) → p x ≡ true → prefix_len p (x ∷ xs) ≡ suc (prefix_len p xs)
step_true p x xs e = rw e (omega arith)

pub step_false : (p : ℕ → Bool) (x : ℕ) (xs : List ℕ) → p x ≡ false → prefix_len p (x ∷ xs) ≡ 0
step_false p x xs e = rw e refl

-- a front whose bytes pass is no longer than the longest one
pub covers : (p : ℕ → Bool) (xs rest : List ℕ) → AllByRecursion (λ x. IsTrue (p x)) xs → length xs ≤ prefix_len p (xs ++ rest)
covers p [] rest all = omega arith
covers p (x ∷ xs) rest all = omega (arith, step_true p x (xs ++ rest) all.0, covers p xs rest all.1)

-- and it is the longest one where the next byte does not pass
pub ends_at : (p : ℕ → Bool) (xs : List ℕ) (y : ℕ) (rest : List ℕ) → AllByRecursion (λ x. IsTrue (p x)) xs → p y ≡ false → prefix_len p (xs ++ y ∷ rest) ≡ length xs
ends_at p [] y rest all e = step_false p y rest e
ends_at p (x ∷ xs) y rest all e = step_true p x (xs ++ y ∷ rest) all.0 ∙ ap suc (ends_at p xs y rest all.1 e)

-- each byte of the longest front passes
passes_by : (p : ℕ → Bool) (x : ℕ) (xs : List ℕ) (b : Bool) → p x ≡ b → AllByRecursion (λ y. IsTrue (p y)) (take (prefix_len p xs) xs) → AllByRecursion (λ y. IsTrue (p y)) (take (prefix_len p (x ∷ xs)) (x ∷ xs))
passes_by p x xs true e all = rw (step_true p x xs e) (e, all)
passes_by p x xs false e all = rw (step_false p x xs e) tt

pub passes : (p : ℕ → Bool) (xs : List ℕ) → AllByRecursion (λ y. IsTrue (p y)) (take (prefix_len p xs) xs)
passes p [] = tt
passes p (x ∷ xs) = passes_by p x xs (p x) refl (passes p xs)

-- what passes one test passes another
pub weaker : {X : Type 0} (P Q : X → Type 0) → ((x : X) → P x → Q x) → (xs : List X) → AllByRecursion P xs → AllByRecursion Q xs
weaker P Q f [] all = tt
weaker P Q f (x ∷ xs) all = (f x all.0, weaker P Q f xs all.1)
