use Rattle.std.proofs.Common.{rules, [], ◌∷◌}
use Rattle.hp_spmd.specs.declared.instr.Need.TheVariants.{Blocks}
use Rattle.hp_exchange.proofs.RangeMoves.{list_balances, balance_delivers, move_shares}
use Rattle.hp_exchange.proofs.moves.rebalance.Goals as goal

pub returns-clause-does : goal.returns-clause-does
returns-clause-does c = list_balances c.args.array c.args.to c.in_ok-list.list (search rules)

pub returns-clause-gets : goal.returns-clause-gets
returns-clause-gets c = balance_delivers c.args.array c.args.to c.in_ok-list.list (search rules)

pub returns-clause-shares : goal.returns-clause-shares
returns-clause-shares c = move_shares (c.args.to ∷ []) (c.args.array ∷ []) Blocks c.in_ok-list.list (search rules)
