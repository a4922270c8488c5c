use Rattle.std.proofs.Common.{rules}
use Rattle.hp_alone.proofs.Copied.{copy_performs, copy_shares}
use Rattle.hp_alone.proofs.copying.copy.Goals as goal

pub returns-clause-does : goal.returns-clause-does
returns-clause-does c = copy_performs c.args.to.now c.args.from.now c.in_ok-list.list (search rules)

pub returns-clause-shares : goal.returns-clause-shares
returns-clause-shares c = copy_shares c.args.to.now c.args.from.now c.in_ok-list.list (search rules)
