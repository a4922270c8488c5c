use Rattle.std.proofs.Common.{rules}
use Rattle.hp_alone.proofs.Dealt.{fill_performs, fill_shares}
use Rattle.hp_alone.proofs.dealing.fill.Goals as goal

pub returns-clause-does : goal.returns-clause-does
returns-clause-does c = fill_performs c.args.to c.args.value c.args.count c.args.at c.in_ok-list.list (search rules)

pub returns-clause-shares : goal.returns-clause-shares
returns-clause-shares c = fill_shares c.args.to c.args.value c.args.count c.args.at c.in_ok-list.list (search rules)
