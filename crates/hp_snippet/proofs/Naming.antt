-- What the instructions of a code name is within its counts.
use Rattle.std.proofs.Common.{◌≡◌, subst, ℕ, ◌<◌, List, [], ◌∷◌, length}
use Rattle.std.specs.Prelude.{nat_lt}
use Rattle.std.specs.Bool.{IsTrue}
use Rattle.std.specs.List.{AllByRecursion, list_all}
use Rattle.std.proofs.lemmas.Bool.{and_parts, ltb-true}
use Rattle.hp_spmd.specs.declared.code.Code.{Code}
use Rattle.hp_spmd.specs.declared.instr.Instr.{Instr}
use Rattle.hp_spmd.specs.Names.{instr_within}
use Rattle.hp_spmd.specs.Store.{instr_at}
use Rattle.hp_spmd.proofs.ShareRun.{within_at}

-- an instruction that stands in a code
pub named_at : (code : Code) (place : ℕ) (i : Instr) → instr_at code.list place ≡ i → IsTrue (instr_within code.words (length code.arrays) code.loose i)
named_at code place i is = subst (λ j. IsTrue (instr_within code.words (length code.arrays) code.loose j)) is (within_at code.words (length code.arrays) code.loose code.list place code.within)

-- each of some names is below a count
pub each_below : {X : Type 0} (name : X → ℕ) (count : ℕ) (xs : List X) → IsTrue (list_all (λ x. nat_lt (name x) count) xs) → AllByRecursion (λ x. name x < count) xs
each_below name count [] h = tt
each_below {X} name count (x ∷ xs) h =
    let parts = and_parts (nat_lt (name x) count) (list_all (λ x. nat_lt (name x) count) xs) h in
    (ltb-true (name x) count parts.0, each_below {X = X} name count xs parts.1)
