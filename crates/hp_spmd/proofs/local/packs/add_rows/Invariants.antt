-- The rows so far.
use Rattle.std.proofs.Common.{◌≡◌, length, map}
use Rattle.hp_spmd.specs.Arrays.{cells_at}
use Rattle.hp_spmd.specs.HashParts.{messages_with, row_behind}
use Rattle.hp_spmd.proofs.local.packs.add_rows.Given as goal

abbrev pub invariant-loop-row : goal.invariant-loop-row
invariant-loop-row l = l.messages ≡ messages_with (length l.initial.messages) l.keys (row_behind l.before (map (cells_at l.pieces) l.arrays)) l.row
