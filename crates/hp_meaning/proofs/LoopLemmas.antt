-- Loops over arrays, by the engine of loops.
use Rattle.std.proofs.Common.{◌≡◌, ℕ, zero, suc, ◌+◌, ◌<◌, ◌≤◌, ℤ, pos, ◌+ℤ◌, List, [], ◌∷◌, map, length, get_or, Result, Ok, Err, refl, ap, sym, subst, arith}
use Rattle.hp_word.specs.declared.elem.Elem.{Elem}
use Rattle.hp_word.specs.declared.place.Trap.{Trap}
use Rattle.hp_word.specs.Elem.{Sight}
use Rattle.hp_word.specs.LoopRules.{and_then, cell_at, column_of, lets_after, rows_below, sight_in}
use Rattle.hp_kernels.specs.declared.loops.made.Made.{Made}
use Rattle.hp_kernels.specs.Loops.{MakesAll}
use Rattle.hp_meaning.specs.declared.seen.Stop.{Stop}
use Rattle.hp_meaning.specs.LoopLaws.{looped}
use Rattle.hp_meaning.specs.Outcomes.{Answer, Gives, Traps, Tells, told}

pub array_there : {A : Type 0} (cells : A → List ℤ) (arrays : List A) (k : ℕ) (d : A) → k < length arrays → cells (get_or arrays k d) ≡ get_or (map cells arrays) k []
array_there cells [] k d lt = absurd (omega arith)
array_there cells (a ∷ arrays) zero d lt = refl
array_there cells (a ∷ arrays) (suc k) d lt = array_there cells arrays k d (omega arith)

pub array_none : {A : Type 0} (cells : A → List ℤ) (arrays : List A) (k : ℕ) → length arrays ≤ k → [] ≡ get_or (map cells arrays) k []
array_none cells [] k le = refl
array_none cells (a ∷ arrays) zero le = absurd (omega arith)
array_none cells (a ∷ arrays) (suc k) le = array_none cells arrays k (omega arith)

pub own_halo : (cells : List ℤ) (i : ℕ) (by : ℤ) → cell_at cells (pos i +ℤ by) ≡ cell_at cells (pos (i + 0) +ℤ by)
own_halo cells i by = let e : i ≡ i + 0 = omega arith in ap (λ n. cell_at cells (pos n +ℤ by)) e

-- ---- what a loop of one let made

pub loop_made : (rows : Result (List (List ℤ)) Trap) (made : Made) (cells : List ℤ) → MakesAll (0 ∷ []) [] rows (Ok made) → ((xs : List ℤ) → map (λ c. c.items) made.columns.items ≡ xs ∷ [] → cells ≡ xs)
    → told (and_then rows (λ rows. Ok (column_of 0 rows))) ≡ Gives cells
loop_made (Ok rows) made cells is only = ap Gives (sym (only (column_of 0 rows) is.columns))
loop_made (Err t) made cells is only = absurd is

pub loop_traps : (rows : Result (List (List ℤ)) Trap) (t : Trap) → MakesAll (0 ∷ []) [] rows (Err t) → told (and_then rows (λ rows. Ok (column_of 0 rows))) ≡ Traps t
loop_traps (Ok rows) t is = absurd is
loop_traps (Err u) t is = ap Traps is

-- the same of lets and of an answer that are known
pub ran_told : (sight : ℕ → List ℤ → Sight) (lets : List Elem) (e : Elem) (n : ℕ) (ran known : Result Made Trap) → lets ≡ e ∷ [] → ran ≡ known → MakesAll (0 ∷ []) [] (rows_below (λ i. lets_after (sight i) [] lets) n) ran
    → MakesAll (0 ∷ []) [] (rows_below (λ i. lets_after (sight i) [] (e ∷ [])) n) known
ran_told sight lets e n ran known is same t =
    subst (λ r. MakesAll (0 ∷ []) [] (rows_below (λ i. lets_after (sight i) [] (e ∷ [])) n) r) same (subst (λ (es : List Elem). MakesAll (0 ∷ []) [] (rows_below (λ i. lets_after (sight i) [] es) n) ran) is t)

-- what tells an answer tells one that is the same
pub tells_as : {A : Type 0} → (a b : Answer A) (r : Result A Stop) → a ≡ b → Tells a r → Tells b r
tells_as a b r e t = subst (λ x. Tells x r) e t

-- a loop of an element that is known, over arrays that are known
pub as_loop : (arrays known : List (List ℤ)) (e f : Elem) (n : ℕ) (a : Answer (List ℤ)) (r : Result (List ℤ) Stop) → arrays ≡ known → e ≡ f → a ≡ told (looped (sight_in known) f n) → Tells (told (looped (sight_in arrays) e n)) r → Tells a r
as_loop arrays known e f n a r same is loops t =
    tells_as _ a r (sym loops) (subst (λ (x : Elem). Tells (told (looped (sight_in known) x n)) r) is (subst (λ (ls : List (List ℤ)). Tells (told (looped (sight_in ls) e n)) r) same t))

-- what is made is what is given, of any answer that has no trap
pub gives_made : {A : Type 0} (x made : A) (r : Result A Stop) → r ≡ Ok made → Tells (Gives x) r → made ≡ x
gives_made {A} x made r e t = let same : Gives x ≡ Gives made = subst (λ (a : Result A Stop). Tells (Gives x) a) e t in cc
