use Rattle.std.proofs.Common.{rules}
use Rattle.hp_alone.proofs.Dealt.{range_performs, range_shares}
use Rattle.hp_alone.proofs.dealing.range.Goals as goal

pub returns-clause-does : goal.returns-clause-does
returns-clause-does c = range_performs c.args.to c.args.first c.args.last c.args.at c.in_ok-list.list (search rules)

pub returns-clause-shares : goal.returns-clause-shares
returns-clause-shares c = range_shares c.args.to c.args.first c.args.last c.args.at c.in_ok-list.list (search rules)
