use Rattle.std.proofs.Common.{length, [], ◌∷◌}
use Rattle.hp_parse.specs.Machine.{want, stmts, Body}
use Rattle.hp_parse.specs.Readers.{Reaches}
use Rattle.hp_parse.proofs.stmt.body.Given as goal

-- The machine is behind a statement or an empty line.
abbrev pub invariant-loop-cursor : goal.invariant-loop-cursor
invariant-loop-cursor l = Reaches l.fn.cursor (want Body ∷ []) (stmts [] ∷ []) l.cursor (want Body ∷ []) (stmts l.list.items ∷ [])

abbrev pub decreases-loop-cursor : goal.decreases-loop-cursor
decreases-loop-cursor l = length l.cursor.rest
