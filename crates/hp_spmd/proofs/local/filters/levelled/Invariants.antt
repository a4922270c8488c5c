-- The cells so far.
use Rattle.std.proofs.Common.{◌≡◌}
use Rattle.hp_spmd.specs.Frames.{levelled}
use Rattle.hp_spmd.proofs.local.filters.levelled.Given as goal

abbrev pub invariant-loop-place : goal.invariant-loop-place
invariant-loop-place l = l.made.items ≡ levelled l.place l.cells
