-- Whether the machine has trapped or ended.
use Rattle.std.proofs.Common.{ap}
use Rattle.hp_machine.specs.Machines.{trap_of}
use Rattle.hp_machine.proofs.machine.Machine.end.Goals as goal

pub returns-then-ended : goal.returns-then-ended
returns-then-ended c = λ tables some. (ap trap_of c.in-None.is, (c.ended.ensures tables some).0 c.if-ended.true)

pub returns-else-ended : goal.returns-else-ended
returns-else-ended c = λ tables some. (ap trap_of c.in-None.is, λ h. let is = (c.ended.ensures tables some).1 h in absurd cc)
