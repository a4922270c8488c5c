-- One more let.
use Rattle.std.proofs.Common.{◌+◌, ℕ, true, List, subst}
use Rattle.hp_word.specs.Elem.{elem_value}
use Rattle.hp_kernels.specs.declared.loops.columns.Operand.{Operand}
use Rattle.hp_kernels.specs.LoopColumns.{IsColumn, row_of}
use Rattle.hp_kernels.proofs.RowsLemmas.{computes_next}
use Rattle.hp_kernels.proofs.loops.lets_of_block.Goals as goal

pub loop-elem-preserved : goal.loop-elem-preserved
loop-elem-preserved g c =
    let is = subst
    (λ (ks : List Operand). IsColumn (λ i. true) (λ i. elem_value (g.S.Sources.sight c.args.source.now (c.args.first + i) (row_of ks i)) c.elem-item.result) c.loop-elem.reach c.let_column.new.reach c.in_ok-column.column)
    c.as_slice.ensures.value c.in_ok-column.ensures in
    computes_next (λ (i : ℕ). g.S.Sources.sight c.args.source.now (c.args.first + i)) c.args.lets.now c.loop-elem.elem-index c.elem-item.result c.args.reach.now c.loop-elem.reach c.let_column.new.reach
    c.loop-elem.kept.items c.push.new.self.items c.in_ok-column.column c.loop-elem-test.true c.elem-item.is c.loop-elem.invariant is c.in_ok-push.ensures.items
