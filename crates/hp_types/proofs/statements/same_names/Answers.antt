-- Lists of different lengths are not equal.
use Rattle.std.proofs.Common.{arith}
use Rattle.hp_types.proofs.SameNames.{names_differ}
use Rattle.hp_types.proofs.statements.same_names.Goals as goal

pub returns-then-a-b : goal.returns-then-a-b
returns-then-a-b c = names_differ c.args.a.now c.args.b.now (omega arith)
