-- The links begin empty, behind the last row, and one row more is linked before them with each step.
use Rattle.std.proofs.Common.{rules, ◌≡◌, ◌+◌, ◌-◌, ◌∙◌, ℤ, get_or, None, length, pos, refl, ap, replicate, arith, FitsSigned, w64}
use Rattle.std.specs.Ordering.{int_eq}
use Rattle.std.proofs.lemmas.Int.{to_z-of_z}
use Rattle.std.proofs.lemmas.List.{length-replicate}
use Rattle.indexmap.specs.IndexMap.{get}
use Rattle.hp_kernels.proofs.LinkedLemmas.{linking_starts, linking_more}
use Rattle.hp_kernels.proofs.key_rows.KeyRows.of.Goals as goal

pub loop-from-init : goal.loop-from-init
loop-from-init c =
    let none : (k : ℤ) → get int_eq c.in_ok-first.first k ≡ None = search rules in
    let links : c.in_ok-next.next.items ≡ replicate (length c.args.column.now) None = c.in_ok-next.ensures.items_if_clones_equal (λ y same. search rules) in
    linking_starts c.args.column.now _ _ refl (ap length links ∙ length-replicate (length c.args.column.now) None) none

pub loop-from-preserved : goal.loop-from-preserved
loop-from-preserved c =
    let before : c.loop-from.from - 1 + 1 ≡ c.loop-from.from = omega (arith, c.loop-from-test.true) in
    let item : FitsSigned w64 (get_or c.args.column.now (c.loop-from.from - 1) (pos 0)) = search rules in
    linking_more c.args.column.now c.loop-from.from (c.loop-from.from - 1) _ _ c.add.new.self c.loop-from.invariant before (to_z-of_z w64 (get_or c.args.column.now (c.loop-from.from - 1) (pos 0)) item) c.in_ok-add.ensures
