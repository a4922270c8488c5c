-- The cells so far.
use Rattle.std.proofs.Common.{◌≡◌, take}
use Rattle.hp_meaning.specs.FrameRules.{picked}
use Rattle.hp_meaning.proofs.sorting.picked.Given as goal

abbrev pub invariant-loop-place : goal.invariant-loop-place
invariant-loop-place l = l.made ≡ picked (take l.place-index l.places) l.cells
