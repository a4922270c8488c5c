-- A code that sets a word again and again is one that all ranks may run.
use Rattle.std.proofs.Common.{◌<◌, ◌≤◌, ◌^◌, arith, ◌≡◌, ◌∙◌, refl, IsTrue, ℕ, ◌+◌, ℤ, true, ◌&&◌, List, [], ◌∷◌, ◌++◌, length, length-append}
use Rattle.std.proofs.lemmas.List.Folds.{list_all-append}
use Rattle.hp_spmd.specs.declared.instr.Instr.{Instr}
use Rattle.hp_spmd.specs.declared.instr.Instr.TheVariants as instr
use Rattle.hp_spmd.specs.Kinds.{kind_of}
use Rattle.hp_spmd.specs.Names.{ends_in_halt, instr_within, names_within, target_within, targets_within}

-- instructions that name the word 0 alone, and do not jump
pub record Sets (list : List Instr) : Type 0 where
  pub within : IsTrue (names_within 1 0 0 list)
  pub targets : (count : ℕ) → IsTrue (targets_within count list)

pub sets_none : Sets []
sets_none = record { within = refl; targets = λ count. refl }

sets_more : (list : List Instr) (i : Instr) → instr_within 1 0 0 i ≡ true → ((count : ℕ) → target_within count (kind_of i) ≡ true) → Sets list → Sets (list ++ i ∷ [])
sets_more list i within target h = record {
  within = list_all-append (instr_within 1 0 0) list (i ∷ []) ∙ (λ j. h.within j && (within j && true));
  targets = λ count. list_all-append (λ i. target_within count (kind_of i)) list (i ∷ []) ∙ (λ j. h.targets count j && (target count j && true));
}

pub sets_const : (list : List Instr) (value : ℤ) → Sets list → Sets (list ++ instr.Const 0 value ∷ [])
sets_const list value h = sets_more list (instr.Const 0 value) refl (λ count. refl) h

pub sets_halt : (list : List Instr) → Sets list → Sets (list ++ instr.Halt ∷ [])
sets_halt list h = sets_more list instr.Halt refl (λ count. refl) h

pub ends_at_halt : (list : List Instr) → IsTrue (ends_in_halt (list ++ instr.Halt ∷ []))
ends_at_halt [] = refl
ends_at_halt (i ∷ []) = refl
ends_at_halt (i ∷ j ∷ is) = ends_at_halt (j ∷ is)

pub few_longer : (list : List Instr) (i : Instr) (count : ℕ) → length list ≡ count → count ≤ 65536 → length (list ++ i ∷ []) < 2 ^ 32
few_longer list i count is few = let l = length-append list (i ∷ []) in omega (arith, l, is, few)
