use Rattle.std.proofs.Common.{rules}
use Rattle.hp_alone.proofs.Picked.{pick_performs, pick_shares}
use Rattle.hp_alone.proofs.picking.pick.Goals as goal

pub returns-clause-does : goal.returns-clause-does
returns-clause-does c = pick_performs c.args.to c.args.array c.args.index c.args.at c.in_ok-list.list (search rules)

pub returns-clause-shares : goal.returns-clause-shares
returns-clause-shares c = pick_shares c.args.to c.args.array c.args.index c.args.at c.in_ok-list.list (search rules)
