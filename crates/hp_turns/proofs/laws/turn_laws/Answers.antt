use Rattle.hp_turns.proofs.Clauses.{ends_only, never_stuck, one_order, shares_always, writes_front}
use Rattle.hp_turns.proofs.Over.{rounds_end, traps_only}
use Rattle.hp_turns.proofs.Passed.{rounds_pass}
use Rattle.hp_turns.proofs.Written.{logs_with_output}
use Rattle.hp_turns.proofs.laws.turn_laws.Goals as goal

pub returns-clause-stuck : goal.returns-clause-stuck
returns-clause-stuck c = never_stuck

pub returns-clause-writes : goal.returns-clause-writes
returns-clause-writes c = writes_front

pub returns-clause-orders : goal.returns-clause-orders
returns-clause-orders c = logs_with_output

pub returns-clause-ends : goal.returns-clause-ends
returns-clause-ends c = ends_only

pub returns-clause-traps : goal.returns-clause-traps
returns-clause-traps c = traps_only

pub returns-clause-shares : goal.returns-clause-shares
returns-clause-shares c = shares_always

pub returns-clause-same : goal.returns-clause-same
returns-clause-same c = one_order

pub returns-clause-rounds : goal.returns-clause-rounds
returns-clause-rounds c = rounds_end

pub returns-clause-passes : goal.returns-clause-passes
returns-clause-passes c = rounds_pass
