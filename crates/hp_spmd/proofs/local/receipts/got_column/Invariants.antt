-- What is added, with what is still to come, is all.
use Rattle.std.proofs.Common.{◌≡◌, ◌++◌, drop}
use Rattle.std.specs.Prelude.{flat_map}
use Rattle.hp_word.specs.declared.table.Message.{Message}
use Rattle.hp_spmd.specs.Unpacks.{row_cells}
use Rattle.hp_spmd.proofs.local.receipts.got_column.Given as goal

abbrev pub invariant-loop-message : goal.invariant-loop-message
invariant-loop-message l = l.column.items ++ flat_map (λ (m : Message). row_cells l.width l.place m.words) (drop l.message-index l.inbox) ≡ flat_map (λ (m : Message). row_cells l.width l.place m.words) l.inbox
