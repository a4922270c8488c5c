use Rattle.hp_spmd.specs.Local.{local_next}
use Rattle.hp_spmd.specs.Store.{instr_at}
use Rattle.hp_spmd.proofs.LockCompute.{Done}
use Rattle.hp_spmd.proofs.lockstep.round.compute.Given as goal

abbrev pub invariant-loop-i : goal.invariant-loop-i
invariant-loop-i l = Done (local_next l.code.arrays l.tables (instr_at l.code.list l.at)) l.initial.stores l.stores l.i
