-- The columns so far.
use Rattle.std.proofs.Common.{◌≡◌, map}
use Rattle.std.specs.Prelude.{flat_map}
use Rattle.std.specs.List.{range_with_len}
use Rattle.hp_word.specs.declared.table.Message.{Message}
use Rattle.hp_spmd.specs.Outputs.{column_in}
use Rattle.hp_spmd.proofs.lockstep.output.table_columns.Given as goal

abbrev pub invariant-loop-column : goal.invariant-loop-column
invariant-loop-column l = l.made.items ≡ map (λ j. flat_map (λ (m : Message). column_in l.width j m.words) l.inbox) (range_with_len 0 l.column)
