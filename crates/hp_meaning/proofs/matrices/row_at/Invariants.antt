-- The cells of the columns so far.
use Rattle.std.proofs.Common.{◌≡◌, map, take, get_or, pos}
use Rattle.hp_meaning.proofs.matrices.row_at.Given as goal

abbrev pub invariant-loop-column : goal.invariant-loop-column
invariant-loop-column l = l.row ≡ map (λ column. get_or column l.place (pos 0)) (take l.column-index l.columns)
