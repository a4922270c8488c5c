-- What is added, with what is still to come, is all.
use Rattle.std.proofs.Common.{◌≡◌, ◌++◌, drop}
use Rattle.std.specs.Prelude.{flat_map}
use Rattle.hp_word.specs.declared.table.Message.{Message}
use Rattle.hp_spmd.specs.Outputs.{column_in}
use Rattle.hp_spmd.proofs.lockstep.output.table_column.Given as goal

abbrev pub invariant-loop-message : goal.invariant-loop-message
invariant-loop-message l = l.cells.items ++ flat_map (λ (m : Message). column_in l.width l.column m.words) (drop l.message-index l.inbox) ≡ flat_map (λ (m : Message). column_in l.width l.column m.words) l.inbox
