use Rattle.std.proofs.Common.{◌≡◌, ◌∙◌, sym, List, ◌∷◌, [], Some, None}
use Rattle.std.proofs.lemmas.Result.{IfOk-weaker}
use Rattle.hp_air.specs.Placed.{dist_at}
use Rattle.hp_spmd.specs.declared.instr.Instr.{Instr}
use Rattle.hp_spmd.specs.declared.instr.Instr.TheVariants as instr
use Rattle.hp_spmd.specs.declared.instr.Need.TheVariants.{Blocks}
use Rattle.hp_exchange.specs.Ranges.{move_code}
use Rattle.hp_lowering.proofs.Copies.{copy_is}
use Rattle.hp_lowering.proofs.operations.copied_or_dealt.Goals as goal

pub returns-in-Some : goal.returns-in-Some
returns-in-Some c =
    let balanced = c.in-Some.balanced in
    let array = c.in-Some.array in
    IfOk-weaker c.rebalance.result (λ (l : List Instr). l ≡ move_code (balanced ∷ []) (array ∷ []) Blocks) _
    (λ l e. e ∙ sym (copy_is c.args.plan.now.slots.now (dist_at c.args.plan.now.dists.now) c.args.outs.now c.args.ins.now (Some (balanced, array)) (sym (rw c.as_slice.ensures at (rw c.as_slice-2.ensures at c.dealt_out.ensures)) ∙ c.in-Some.is))) c.rebalance.ensures.exact

pub returns-in-None : goal.returns-in-None
returns-in-None c =
    IfOk-weaker c.copy.result (λ (l : List Instr). l ≡ instr.Copy c.args.outs.now c.args.ins.now ∷ []) _
    (λ l e. e ∙ sym (copy_is c.args.plan.now.slots.now (dist_at c.args.plan.now.dists.now) c.args.outs.now c.args.ins.now None (sym (rw c.as_slice.ensures at (rw c.as_slice-2.ensures at c.dealt_out.ensures)) ∙ c.in-None.is))) c.copy.ensures.exact
