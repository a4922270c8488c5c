-- One more cell.
use Rattle.std.proofs.Common.{FitsSigned, rules, w64}
use Rattle.std.proofs.lemmas.Int.{to_z-of_z}
use Rattle.hp_word.specs.LoopRules.{word_at}
use Rattle.hp_spmd.proofs.MappedLemmas.{mapped_more}
use Rattle.hp_spmd.proofs.local.sorting.cells_at_places.Goals as goal

pub loop-place-preserved : goal.loop-place-preserved
loop-place-preserved c =
    let fits : FitsSigned w64 c.cell_in.result = search rules in
    let pushed = rw (to_z-of_z w64 c.cell_in.result fits) at c.in_ok-push.ensures.items in
    mapped_more (word_at c.args.cells.now) c.args.places.now c.loop-place.place-index _ c.loop-place.made.items _ _ c.loop-place-test.true c.loop-place.invariant pushed c.cell_in.ensures
