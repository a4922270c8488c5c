-- The columns so far.
use Rattle.std.proofs.Common.{◌≡◌, ◌++◌, take}
use Rattle.hp_meaning.specs.FrameRules.{changed}
use Rattle.hp_word.specs.RowRules.{by_left}
use Rattle.hp_meaning.proofs.joins.add_left.Given as goal

abbrev pub invariant-loop-column : goal.invariant-loop-column
invariant-loop-column l = l.made ≡ l.initial.made ++ changed (λ cells. by_left cells l.places) (take l.column-index l.columns)
