-- What stands in a list of instructions from a place on.
use Rattle.std.proofs.Common.{◌≡◌, ◌∙◌, refl, sym, ap, arith, ℕ, zero, suc, ◌+◌, List, [], ◌∷◌, ◌++◌, length, drop}
use Rattle.std.proofs.Math.Seq.{drop-append_seam}
use Rattle.std.proofs.lemmas.List.{drop-drop}
use Rattle.hp_spmd.specs.declared.instr.Instr.{Instr}
use Rattle.hp_spmd.specs.Store.{instr_at}
use Rattle.hp_snippet.specs.Promises.{StandAt}

pub at_drop : (list : List Instr) (k : ℕ) → instr_at list k ≡ instr_at (drop k list) 0
at_drop [] zero = refl
at_drop [] (suc k) = refl
at_drop (i ∷ list) zero = refl
at_drop (i ∷ list) (suc k) = at_drop list k

-- what stands behind some instructions
pub drop_past : (list xs ys : List Instr) (k : ℕ) → drop k list ≡ xs ++ ys → drop (k + length xs) list ≡ ys
drop_past list xs ys k e = sym (drop-drop {A = Instr} (length xs) k list) ∙ ap (λ l. drop (length xs) l) e ∙ drop-append_seam {A = Instr} xs ys

pub drop_one : (list ys : List Instr) (i : Instr) (k m : ℕ) → m ≡ k + 1 → drop k list ≡ i ∷ ys → drop m list ≡ ys
drop_one list ys i k m same e = ap (λ n. drop n list) same ∙ drop_past list (i ∷ []) ys k e

-- the first of what stands there
pub first_there : (list ys : List Instr) (i : Instr) (k : ℕ) → drop k list ≡ i ∷ ys → instr_at list k ≡ i
first_there list ys i k e = at_drop list k ∙ ap (λ l. instr_at l 0) e

pub stand_there : (list xs ys : List Instr) (k : ℕ) → drop k list ≡ xs ++ ys → StandAt list k xs
stand_there list [] ys k e = tt
stand_there list (i ∷ xs) ys k e =
    let next : suc k ≡ k + 1 = omega arith in
    (first_there list (xs ++ ys) i k e, stand_there list xs ys (suc k) (drop_one list (xs ++ ys) i k (suc k) next e))
