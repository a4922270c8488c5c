use Rattle.std.proofs.Common.{◌≡◌, ◌≤◌, ◌+◌, length, map}
use Rattle.std.specs.List.{enumerate_from}
use Rattle.hp_word.specs.Lengths.{longest}
use Rattle.hp_tables.specs.Contents.{first_of}
use Rattle.hp_tables.specs.Running.{cells_after, row_bad}
use Rattle.hp_tables.proofs.read.read_rows.Given as goal

abbrev pub invariant-loop-columns : goal.invariant-loop-columns
invariant-loop-columns l =
    (map (cells_after l.records) l.columns ≡ map (cells_after l.initial.records) l.initial.columns)
    × (first_of (map (row_bad l.width l.columns) (enumerate_from l.number l.records)) ≡ first_of (map (row_bad l.width l.initial.columns) (enumerate_from 1 l.initial.records)))
    × (l.number ≤ longest + 1)

abbrev pub decreases-loop-columns : goal.decreases-loop-columns
decreases-loop-columns l = length l.records
