-- the columns before this one are added, but for the key
use Rattle.std.proofs.Common.{◌≡◌, ◌++◌, take}
use Rattle.hp_script.specs.Results.{without}
use Rattle.hp_types.proofs.frames.add_without.Given as goal

abbrev pub invariant-loop-column : goal.invariant-loop-column
invariant-loop-column l = l.to ≡ l.initial.to ++ without l.key (take l.column-index l.columns)
