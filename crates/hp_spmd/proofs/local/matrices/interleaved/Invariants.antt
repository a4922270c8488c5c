-- The cells so far.
use Rattle.std.proofs.Common.{◌≡◌, map}
use Rattle.hp_spmd.specs.Matrices.{interleaved}
use Rattle.hp_spmd.proofs.local.matrices.interleaved.Given as goal

abbrev pub invariant-loop-place : goal.invariant-loop-place
invariant-loop-place l = l.made.items ≡ interleaved l.place (map (λ c. c.now) l.lists)
