use Rattle.std.proofs.Common.{rules}
use Rattle.hp_alone.proofs.Looked.{check_performs, check_shares}
use Rattle.hp_alone.proofs.looking.check.Goals as goal

pub returns-clause-does : goal.returns-clause-does
returns-clause-does c = check_performs c.args.arrays.now c.args.rule c.args.at c.in_ok-list.list (search rules)

pub returns-clause-shares : goal.returns-clause-shares
returns-clause-shares c = check_shares c.args.arrays.now c.args.rule c.args.at c.in_ok-list.list (search rules)
