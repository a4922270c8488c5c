use Rattle.std.proofs.Common.{◌≡◌}
use Rattle.csv.specs.Records.{fields_of}
use Rattle.hp_tables.specs.Contents.{place_of}
use Rattle.hp_tables.proofs.ListLemmas.{place_from}
use Rattle.hp_tables.proofs.column.place_of.Given as goal

abbrev pub invariant-loop-place : goal.invariant-loop-place
invariant-loop-place l = place_from l.name.bytes (fields_of l.header) l.place ≡ place_of (fields_of l.header) l.name
