-- The columns so far.
use Rattle.std.proofs.Common.{◌≡◌, map}
use Rattle.std.specs.Prelude.{flat_map}
use Rattle.std.specs.List.{range_with_len}
use Rattle.hp_word.specs.declared.table.Message.{Message}
use Rattle.hp_spmd.specs.Unpacks.{row_cells}
use Rattle.hp_spmd.proofs.local.receipts.got_columns.Given as goal

abbrev pub invariant-loop-place : goal.invariant-loop-place
invariant-loop-place l = l.made.items ≡ map (λ j. flat_map (λ (m : Message). row_cells l.width j m.words) l.inbox) (range_with_len 0 l.place)
