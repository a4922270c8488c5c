use Rattle.std.proofs.Common.{rules}
use Rattle.hp_alone.proofs.WordsMade.{length_performs, length_shares}
use Rattle.hp_alone.proofs.scalars.length.Goals as goal

pub returns-clause-does : goal.returns-clause-does
returns-clause-does c = length_performs c.args.to c.args.array c.in_ok-list.list (search rules)

pub returns-clause-shares : goal.returns-clause-shares
returns-clause-shares c = length_shares c.args.to c.args.array c.in_ok-list.list (search rules)
