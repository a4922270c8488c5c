-- The first of the board is linked, and of the table.
use Rattle.std.proofs.Common.{sym, ◌∙◌}
use Rattle.hp_infer.proofs.ChainLemmas.{first_in, none_first}
use Rattle.hp_infer.proofs.infer.settle.Goals as goal

pub turn-requires-clause-linked : goal.turn-requires-clause-linked
turn-requires-clause-linked g c = first_in c.loop-at.board.list c.in-Some.at (sym c.first.ensures.first ∙ c.in-Some.is)

pub turn-requires-clause-within : goal.turn-requires-clause-within
turn-requires-clause-within g c = c.first.ensures.board.within c.in-Some.at (first_in c.loop-at.board.list c.in-Some.at (sym c.first.ensures.first ∙ c.in-Some.is))

pub returns-clause-none : goal.returns-clause-none
returns-clause-none g c = none_first c.loop-at.board.list (sym c.first.ensures.first ∙ c.in_default.is)
