-- None of the columns so far has the name of another.
use Rattle.std.proofs.Common.{◌≡◌, drop}
use Rattle.hp_script.specs.Breaks.{repeats}
use Rattle.hp_types.proofs.Columns.{repeats_behind}
use Rattle.hp_types.proofs.forms.repeats.Given as goal

abbrev pub invariant-loop-column : goal.invariant-loop-column
invariant-loop-column l = repeats l.columns ≡ repeats_behind l.seen.keys (drop l.column-index l.columns)
