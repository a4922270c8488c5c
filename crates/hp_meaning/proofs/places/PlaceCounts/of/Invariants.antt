-- What was counted so far.
use Rattle.std.proofs.Common.{take}
use Rattle.hp_meaning.specs.PlaceCounts.{CountsOf}
use Rattle.hp_meaning.proofs.places.PlaceCounts.of.Given as goal

abbrev pub invariant-loop-place : goal.invariant-loop-place
invariant-loop-place l = CountsOf (take l.place-index l.places) l.made
