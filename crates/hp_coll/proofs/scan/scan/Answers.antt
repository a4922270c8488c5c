use Rattle.hp_coll.proofs.Scanning.{scan_shares}
use Rattle.hp_coll.proofs.scan.scan.Goals as goal

pub returns-clause-shares : goal.returns-clause-shares
returns-clause-shares c = scan_shares c.args.to c.args.from c.args.part c.args.start c.in_ok-list.list c.in_ok-list.ensures
