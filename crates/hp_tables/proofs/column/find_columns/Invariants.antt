use Rattle.std.proofs.Common.{◌≡◌, drop, map, take}
use Rattle.csv.specs.Records.{fields_of}
use Rattle.hp_tables.specs.Contents.{first_of, missing}
use Rattle.hp_tables.specs.Running.{new_column}
use Rattle.hp_tables.proofs.column.find_columns.Given as goal

abbrev pub invariant-loop-name : goal.invariant-loop-name
invariant-loop-name l =
    (l.columns.items ≡ map (new_column (fields_of l.header)) (take l.name-index l.names))
    × (first_of (map (missing (fields_of l.header)) (drop l.name-index l.names)) ≡ first_of (map (missing (fields_of l.header)) l.names))
