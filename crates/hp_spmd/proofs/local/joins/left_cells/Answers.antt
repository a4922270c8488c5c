-- One more cell.
use Rattle.std.proofs.Common.{FitsSigned, rules, w64}
use Rattle.std.proofs.lemmas.Int.{to_z-of_z}
use Rattle.hp_word.specs.LoopRules.{word_at}
use Rattle.hp_spmd.proofs.MappedLemmas.{mapped_more}
use Rattle.hp_spmd.proofs.local.joins.left_cells.Goals as goal

pub loop-pair-preserved : goal.loop-pair-preserved
loop-pair-preserved c =
    let fits : FitsSigned w64 c.cell_in.result = search rules in
    let pushed = rw (to_z-of_z w64 c.cell_in.result fits) at c.in_ok-push.ensures.items in
    mapped_more (λ p. word_at c.args.cells.now p.left) c.args.pairs.now c.loop-pair.pair-index _ c.loop-pair.made.items _ _ c.loop-pair-test.true c.loop-pair.invariant pushed c.cell_in.ensures
