-- The cells so far.
use Rattle.std.proofs.Common.{◌≡◌, take}
use Rattle.hp_word.specs.RowRules.{by_right}
use Rattle.hp_meaning.proofs.joins.by_right.Given as goal

abbrev pub invariant-loop-p : goal.invariant-loop-p
invariant-loop-p l = l.made ≡ by_right l.cells (take l.p-index l.places)
