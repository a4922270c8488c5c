use Rattle.std.proofs.Common.{◌≡◌, map, take}
use Rattle.hp_spmd.proofs.local.loops.out_values.Given as goal

abbrev pub invariant-loop-out : goal.invariant-loop-out
invariant-loop-out l = l.values.items ≡ map (λ o. o.value) (take l.out-index l.outs)
