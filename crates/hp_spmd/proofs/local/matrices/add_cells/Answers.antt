-- One more cell.
use Rattle.std.proofs.Common.{FitsSigned, rules, w64}
use Rattle.std.proofs.lemmas.Int.{to_z-of_z}
use Rattle.hp_word.specs.LoopRules.{word_at}
use Rattle.hp_spmd.proofs.MappedLemmas.{mapped_behind}
use Rattle.hp_spmd.proofs.local.matrices.add_cells.Goals as goal

pub loop-cells-preserved : goal.loop-cells-preserved
loop-cells-preserved c =
    let fits : FitsSigned w64 c.cell_in.result = search rules in
    let pushed = rw (to_z-of_z w64 c.cell_in.result fits) at c.in_ok-push.ensures.items in
    mapped_behind (λ cells. word_at cells c.args.place) (λ s. s.now) c.args.lists.now c.loop-cells.cells-index _ _ c.loop-cells.made.items _ _ c.loop-cells-test.true c.loop-cells.invariant pushed c.cell_in.ensures
