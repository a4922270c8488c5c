use Rattle.hp_coll.proofs.Sealing.{list_seals, sizes_shares}
use Rattle.hp_coll.proofs.sizes.sizes.Goals as goal

pub returns-clause-does : goal.returns-clause-does
returns-clause-does c = list_seals c.args.to.now c.args.loose.now c.args.at c.in_ok-list.list c.requires.alike c.in_ok-list.ensures

pub returns-clause-shares : goal.returns-clause-shares
returns-clause-shares c = sizes_shares c.args.to.now c.args.loose.now c.args.at c.in_ok-list.list c.in_ok-list.ensures
