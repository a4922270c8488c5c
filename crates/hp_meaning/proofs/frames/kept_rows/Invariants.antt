-- The columns so far.
use Rattle.std.proofs.Common.{◌≡◌, take}
use Rattle.hp_meaning.specs.FrameRules.{changed}
use Rattle.hp_word.specs.RowRules.{filter_rows}
use Rattle.hp_meaning.proofs.frames.kept_rows.Given as goal

abbrev pub invariant-loop-column : goal.invariant-loop-column
invariant-loop-column l = l.made ≡ changed (filter_rows l.mask) (take l.column-index l.columns)
