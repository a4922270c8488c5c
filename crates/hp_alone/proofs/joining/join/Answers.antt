use Rattle.std.proofs.Common.{rules}
use Rattle.hp_alone.proofs.Joined.{join_performs, join_shares}
use Rattle.hp_alone.proofs.joining.join.Goals as goal

pub returns-clause-does : goal.returns-clause-does
returns-clause-does c = join_performs c.args.to c.args.left c.args.right c.args.at c.in_ok-list.list (search rules)

pub returns-clause-shares : goal.returns-clause-shares
returns-clause-shares c = join_shares c.args.to c.args.left c.args.right c.args.at c.in_ok-list.list (search rules)
