use Rattle.std.proofs.Common.{◌≡◌, ◌∙◌, refl, sym, subst, ap, IsTrue, ℕ, List, ◌∷◌, [], ◌<◌, ◌^◌, length, lit<, pos, true, false, ◌&&◌}
use Rattle.hp_word.specs.declared.fold.FoldKind.{FoldKind}
use Rattle.hp_word.specs.declared.fold.FoldKind.TheVariants.{Sum}
use Rattle.hp_lattice.specs.declared.dist.Dist.{Dist}
use Rattle.hp_spmd.specs.declared.instr.Instr.{Instr}
use Rattle.hp_spmd.specs.declared.instr.Instr.TheVariants as instr
use Rattle.hp_spmd.specs.declared.instr.Loop.{Loop}
use Rattle.hp_spmd.specs.declared.instr.Output.TheVariants.{Word}
use Rattle.hp_spmd.specs.declared.instr.Packing.TheVariants.{Words, Gather}
use Rattle.hp_spmd.specs.declared.instr.Unpacking.TheVariants.{Folds}
use Rattle.hp_spmd.specs.Names.{ends_in_halt, names_within, targets_within, loop_within}
use Rattle.hp_spmd_tests.proofs.lockstep.sum.Goals as goal

abbrev instrs : Loop → List ℕ → List (ℕ × FoldKind) → List Instr
instrs total words folds =
    instr.Const 0 (pos 3)
    ∷ instr.Const 1 (pos 10)
    ∷ instr.Fill 0 0 1 (record { line = 1; col = 1 })
    ∷ instr.Loop total
    ∷ instr.Pack (Words words)
    ∷ instr.Post false
    ∷ instr.Take false
    ∷ instr.Unpack (Folds folds)
    ∷ instr.Pack (Gather (Word 2 false))
    ∷ instr.Post true
    ∷ instr.Take true
    ∷ instr.Write (Word 2 false)
    ∷ instr.Halt
    ∷ []

within_counts : (total : Loop) (words : List ℕ) (folds : List (ℕ × FoldKind)) (arrays : List Dist) (dist : Dist) → IsTrue (loop_within 3 1 0 total)
    → words ≡ 2 ∷ [] → folds ≡ (2, Sum) ∷ [] → arrays ≡ dist ∷ [] → IsTrue (names_within 3 (length arrays) 0 (instrs total words folds))
within_counts total words folds arrays dist h ws fs as' =
    ap (λ l. names_within 3 (length l) 0 (instrs total words folds)) as'
    ∙ ap (λ l. names_within 3 1 0 (instrs total l folds)) ws
    ∙ ap (λ l. names_within 3 1 0 (instrs total (2 ∷ []) l)) fs
    ∙ ap (λ b. b && true) h

pub invariant_of-result : goal.invariant_of-result
invariant_of-result c =
    let list = c.from_vec.ensures ∙ c.in_ok-list.ensures.items in
    record {
      small = subst (λ l. length l < 2 ^ 32) (sym list) (lit< tt);
      ends = subst (λ l. IsTrue (ends_in_halt l)) (sym list) refl;
      targets = subst (λ l. IsTrue (targets_within (length l) l)) (sym list) refl;
      within =
          subst (λ l. IsTrue (names_within 3 (length c.in_ok-arrays.arrays) 0 l)) (sym list)
          (within_counts c.in_ok-total.total c.in_ok-words.words c.in_ok-folds.folds c.in_ok-arrays.arrays _ c.in_ok-total.ensures
          c.in_ok-words.ensures c.in_ok-folds.ensures c.in_ok-arrays.ensures);
    }
