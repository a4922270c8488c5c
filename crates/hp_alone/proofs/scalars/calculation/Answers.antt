use Rattle.std.proofs.Common.{rules}
use Rattle.hp_alone.proofs.WordsMade.{calc_performs, calc_shares}
use Rattle.hp_alone.proofs.scalars.calculation.Goals as goal

pub returns-clause-does : goal.returns-clause-does
returns-clause-does c = calc_performs c.args.to c.args.op c.args.left c.args.right c.args.at c.in_ok-list.list (search rules)

pub returns-clause-shares : goal.returns-clause-shares
returns-clause-shares c = calc_shares c.args.to c.args.op c.args.left c.args.right c.args.at c.in_ok-list.list (search rules)
