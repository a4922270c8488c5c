use Rattle.std.proofs.Common.{rules}
use Rattle.hp_spmd.specs.declared.instr.Need.TheVariants.{Whole}
use Rattle.hp_exchange.proofs.RangeMoves.{list_gathers, gather_delivers, move_shares}
use Rattle.hp_exchange.proofs.moves.whole.Goals as goal

pub returns-clause-does : goal.returns-clause-does
returns-clause-does c = list_gathers c.args.arrays.now c.args.to.now c.in_ok-list.list c.requires.same (search rules)

pub returns-clause-gets : goal.returns-clause-gets
returns-clause-gets c = gather_delivers c.args.arrays.now c.args.to.now c.in_ok-list.list c.requires.same (search rules)

pub returns-clause-shares : goal.returns-clause-shares
returns-clause-shares c = move_shares c.args.to.now c.args.arrays.now Whole c.in_ok-list.list (search rules)
