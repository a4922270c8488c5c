use Rattle.hp_compile.proofs.Carried.{programs_are_carried}
use Rattle.hp_compile.proofs.EndAlike.{programs_end_alike}
use Rattle.hp_compile.proofs.RanksWrite.{programs_hold_end, programs_stand, programs_write}
use Rattle.hp_compile.proofs.RoundsEnd.{programs_are_over}
use Rattle.hp_compile.proofs.RunsApart.{may_run_apart}
use Rattle.hp_compile.proofs.laws.ranks_laws.Goals as goal

pub returns-clause-apart : goal.returns-clause-apart
returns-clause-apart c = may_run_apart

pub returns-clause-stand : goal.returns-clause-stand
returns-clause-stand c = programs_stand

pub returns-clause-write : goal.returns-clause-write
returns-clause-write c = programs_write

pub returns-clause-ends : goal.returns-clause-ends
returns-clause-ends c = programs_hold_end

pub returns-clause-over : goal.returns-clause-over
returns-clause-over c = programs_are_over

pub returns-clause-alike : goal.returns-clause-alike
returns-clause-alike c = programs_end_alike

pub returns-clause-carried : goal.returns-clause-carried
returns-clause-carried c = programs_are_carried
