-- The measures so far.
use Rattle.std.proofs.Common.{◌≡◌, take}
use Rattle.hp_word.specs.RowRules.{measures_by_left}
use Rattle.hp_meaning.proofs.groups.measures_by_left.Given as goal

abbrev pub invariant-loop-p : goal.invariant-loop-p
invariant-loop-p l = l.made ≡ measures_by_left l.fn.kind l.keys l.cells (take l.p-index l.places)
