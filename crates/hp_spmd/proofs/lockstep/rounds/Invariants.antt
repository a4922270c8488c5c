use Rattle.std.proofs.Common.{[], length, ◌-◌, ◌^◌}
use Rattle.hp_spmd.specs.Lockstep.{run, state}
use Rattle.hp_spmd.proofs.LockLoop.{Going}
use Rattle.hp_spmd.proofs.lockstep.rounds.Given as goal

abbrev pub invariant-loop-left : goal.invariant-loop-left
invariant-loop-left l =
    Going l.code l.tables (length l.initial.stores) (2 ^ 64 - 1) (run l.code l.tables l.fn.limit (state l.initial.stores [])) l.left l.stores l.out.items

abbrev pub decreases-loop-left : goal.decreases-loop-left
decreases-loop-left l = l.left
