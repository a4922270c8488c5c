-- The columns so far.
use Rattle.std.proofs.Common.{◌≡◌, ◌++◌, take}
use Rattle.hp_meaning.specs.FrameRules.{changed, without}
use Rattle.hp_word.specs.RowRules.{by_right}
use Rattle.hp_meaning.proofs.joins.add_right.Given as goal

abbrev pub invariant-loop-column : goal.invariant-loop-column
invariant-loop-column l = l.made ≡ l.initial.made ++ changed (λ cells. by_right cells l.places) (without l.key (take l.column-index l.columns))
