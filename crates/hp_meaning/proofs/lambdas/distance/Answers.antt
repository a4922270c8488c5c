-- A minus and a number.
use Rattle.std.proofs.Common.{rules}
use Rattle.hp_meaning.proofs.LambdaLemmas.{distance_minus}
use Rattle.hp_meaning.proofs.lambdas.distance.Goals as goal

pub returns-in-Neg : goal.returns-in-Neg
returns-in-Neg c = search (rules, distance_minus)
