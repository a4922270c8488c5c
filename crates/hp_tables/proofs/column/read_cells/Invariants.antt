use Rattle.std.proofs.Common.{◌≡◌, ◌++◌, drop, map, take}
use Rattle.csv.specs.Records.{fields_of}
use Rattle.hp_tables.specs.Contents.{first_of}
use Rattle.hp_tables.specs.Running.{bad_in, grown}
use Rattle.hp_tables.proofs.column.read_cells.Given as goal

abbrev pub invariant-loop-i : goal.invariant-loop-i
invariant-loop-i l =
    (l.columns ≡ map (grown (fields_of l.row)) (take l.i l.initial.columns) ++ drop l.i l.initial.columns)
    × (first_of (map (bad_in l.number (fields_of l.row)) (drop l.i l.initial.columns)) ≡ first_of (map (bad_in l.number (fields_of l.row)) l.initial.columns))
