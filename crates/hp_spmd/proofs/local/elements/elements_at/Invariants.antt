-- The elements so far, before what the other positions give, are what all give.
use Rattle.hp_spmd.proofs.GatherLemmas.{GathersElements}
use Rattle.hp_spmd.proofs.local.elements.elements_at.Given as goal

abbrev pub invariant-loop-position : goal.invariant-loop-position
invariant-loop-position l = GathersElements l.at l.cells l.positions l.position-index l.made
