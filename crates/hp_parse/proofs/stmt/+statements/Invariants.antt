use Rattle.std.proofs.Common.{ℕ, ◌+◌, ◌*◌, length, [], ◌∷◌}
use Rattle.hp_parse.specs.Machine.{want, stmts, Block}
use Rattle.hp_parse.specs.Readers.{Reaches}
use Rattle.hp_parse.proofs.stmt.+statements.Given as goal

abbrev pub decreases-alternative : goal.decreases-alternative
decreases-alternative l = 4 * length l.cursor.now.rest + 3

abbrev pub decreases-block : goal.decreases-block
decreases-block l = 4 * length l.cursor.now.rest + 2

abbrev pub decreases-conditional : goal.decreases-conditional
decreases-conditional l = 4 * length l.cursor.now.rest

abbrev pub decreases-repeated : goal.decreases-repeated
decreases-repeated l = 4 * length l.cursor.now.rest

abbrev pub decreases-statement : goal.decreases-statement
decreases-statement l = 4 * length l.cursor.now.rest + 1

-- The machine is behind a statement or an empty line.
abbrev pub invariant-block-loop-cursor : goal.invariant-block-loop-cursor
invariant-block-loop-cursor l = Reaches l.fn.cursor (want Block ∷ []) (stmts [] ∷ []) l.cursor (want Block ∷ []) (stmts l.list.items ∷ [])

abbrev pub decreases-block-loop-cursor : goal.decreases-block-loop-cursor
decreases-block-loop-cursor l = length l.cursor.rest
