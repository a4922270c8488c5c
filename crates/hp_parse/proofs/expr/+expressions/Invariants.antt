use Rattle.std.proofs.Common.{ℕ, ◌+◌, ◌*◌, suc, length, [], ◌∷◌}
use Rattle.hp_script.specs.declared.tree.Level.TheVariants.{Disjunction}
use Rattle.hp_parse.specs.Machine.{want, expr, args, Chain, Tail, Indexed, Arguments, MoreArguments}
use Rattle.hp_parse.specs.Readers.{Reaches}
use Rattle.hp_parse.proofs.Ranks.{rank}
use Rattle.hp_parse.proofs.expr.+expressions.Given as goal

abbrev pub decreases-after_name : goal.decreases-after_name
decreases-after_name l = 16 * length l.cursor.now.rest

abbrev pub decreases-argument : goal.decreases-argument
decreases-argument l = 16 * length l.cursor.now.rest + 13

abbrev pub decreases-arguments : goal.decreases-arguments
decreases-arguments l = 16 * length l.cursor.now.rest + 14

abbrev pub decreases-bracketed : goal.decreases-bracketed
decreases-bracketed l = 16 * length l.cursor.now.rest

abbrev pub decreases-chain : goal.decreases-chain
decreases-chain l = 16 * length l.cursor.now.rest + suc (rank l.level)

abbrev pub decreases-indexed : goal.decreases-indexed
decreases-indexed l = 16 * length l.cursor.now.rest

abbrev pub decreases-operand : goal.decreases-operand
decreases-operand l = 16 * length l.cursor.now.rest + rank l.level

abbrev pub decreases-primary : goal.decreases-primary
decreases-primary l = 16 * length l.cursor.now.rest + 1

abbrev pub decreases-unary : goal.decreases-unary
decreases-unary l = 16 * length l.cursor.now.rest + 2

-- The machine is behind an argument.
abbrev pub invariant-arguments-loop-cursor : goal.invariant-arguments-loop-cursor
invariant-arguments-loop-cursor l =
    Reaches l.fn.cursor (want (Arguments l.before) ∷ []) (args [] ∷ []) l.cursor (want (MoreArguments l.before) ∷ []) (args l.args.items ∷ [])

abbrev pub decreases-arguments-loop-cursor : goal.decreases-arguments-loop-cursor
decreases-arguments-loop-cursor l = length l.cursor.rest

-- The machine is behind an operand.
abbrev pub invariant-chain-loop-op : goal.invariant-chain-loop-op
invariant-chain-loop-op l = Reaches l.fn.cursor (want (Chain l.level) ∷ []) [] l.cursor (want (Tail l.level) ∷ []) (expr l.left ∷ [])

abbrev pub decreases-chain-loop-op : goal.decreases-chain-loop-op
decreases-chain-loop-op l = length l.cursor.rest

-- The machine is behind what is indexed.
abbrev pub invariant-indexed-loop-cursor : goal.invariant-indexed-loop-cursor
invariant-indexed-loop-cursor l = Reaches l.fn.cursor (want Indexed ∷ []) (expr l.fn.first ∷ []) l.cursor (want Indexed ∷ []) (expr l.left ∷ [])

abbrev pub decreases-indexed-loop-cursor : goal.decreases-indexed-loop-cursor
decreases-indexed-loop-cursor l = length l.cursor.rest
