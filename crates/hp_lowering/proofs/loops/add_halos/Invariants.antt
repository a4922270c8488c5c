use Rattle.std.proofs.Common.{◌≡◌, ◌++◌, take}
use Rattle.hp_lowering.specs.PartCode.{halo_moves}
use Rattle.hp_lowering.proofs.loops.add_halos.Given as goal

abbrev pub invariant-loop-near : goal.invariant-loop-near
invariant-loop-near l = (l.number ≡ l.near-index) × (l.list ≡ l.initial.list ++ halo_moves 0 (take l.near-index l.halos))
