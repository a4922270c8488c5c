use Rattle.std.proofs.Common.{rules}
use Rattle.hp_alone.proofs.WordsMade.{const_performs, const_shares}
use Rattle.hp_alone.proofs.scalars.constant.Goals as goal

pub returns-clause-does : goal.returns-clause-does
returns-clause-does c = const_performs c.args.to c.args.value c.in_ok-list.list (search rules)

pub returns-clause-shares : goal.returns-clause-shares
returns-clause-shares c = const_shares c.args.to c.args.value c.in_ok-list.list (search rules)
