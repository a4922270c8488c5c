-- The operation's trap stands at the place.
use Rattle.std.proofs.Common.{rules}
use Rattle.hp_meaning.proofs.OperatorLemmas.{calculated_traps}
use Rattle.hp_meaning.proofs.operators.calculated.Goals as goal

pub returns-in-Err : goal.returns-in-Err
returns-in-Err c = search (rules, calculated_traps)
