-- A position without an element stops.
use Rattle.std.proofs.Common.{rules, FitsSigned, w64, get_or, pos, sym, ◌∙◌}
use Rattle.std.proofs.lemmas.Int.{to_z-of_z}
use Rattle.hp_spmd.proofs.GatherLemmas.{elements_stop}
use Rattle.hp_spmd.proofs.local.elements.elements_at.Goals as goal

pub returns-in-Err : goal.returns-in-Err
returns-in-Err c =
    let item : FitsSigned w64 (get_or c.args.positions.now c.loop-position.position-index (pos 0)) = search rules in
    let told = rw (to_z-of_z w64 (get_or c.args.positions.now c.loop-position.position-index (pos 0)) item) at c.element_at.ensures in
    elements_stop c.args.at c.args.cells.now c.args.positions.now c.loop-position.position-index c.loop-position.made _ c.loop-position-test.true c.loop-position.invariant (sym told ∙ c.in-Err.is)
