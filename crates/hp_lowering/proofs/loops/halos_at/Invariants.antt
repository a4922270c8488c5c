use Rattle.std.proofs.Common.{◌≡◌, take}
use Rattle.hp_lowering.specs.PartCode.{halos_at}
use Rattle.hp_lowering.proofs.loops.halos_at.Given as goal

abbrev pub invariant-loop-halo : goal.invariant-loop-halo
invariant-loop-halo l = (l.number ≡ l.halo-index) × (l.made ≡ halos_at 0 (take l.halo-index l.halos))
