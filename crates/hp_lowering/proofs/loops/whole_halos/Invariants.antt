use Rattle.std.proofs.Common.{◌≡◌, map, take}
use Rattle.hp_parfor.specs.declared.parfor.Halo.{Halo}
use Rattle.hp_spmd.specs.declared.instr.HaloFrom.TheVariants as halo_from
use Rattle.hp_lowering.proofs.loops.whole_halos.Given as goal

abbrev pub invariant-loop-halo : goal.invariant-loop-halo
invariant-loop-halo l = l.made ≡ map (λ (h : Halo). halo_from.Whole h.array) (take l.halo-index l.halos)
