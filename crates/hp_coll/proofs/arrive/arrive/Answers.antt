use Rattle.hp_coll.proofs.Lines.{arrive_shares}
use Rattle.hp_coll.proofs.arrive.arrive.Goals as goal

pub returns-clause-shares : goal.returns-clause-shares
returns-clause-shares c = arrive_shares c.args.what.now c.in_ok-list.list c.in_ok-list.ensures
