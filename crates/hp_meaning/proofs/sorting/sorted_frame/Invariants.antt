-- The columns so far.
use Rattle.std.proofs.Common.{◌≡◌, take}
use Rattle.hp_meaning.specs.FrameRules.{changed, picked}
use Rattle.hp_meaning.proofs.sorting.sorted_frame.Given as goal

abbrev pub invariant-loop-column : goal.invariant-loop-column
invariant-loop-column l = l.made ≡ changed (picked l.places.items) (take l.column-index l.columns)
