-- The rows so far are added behind the names.
use Rattle.std.proofs.Common.{◌≡◌, ◌++◌}
use Rattle.std.specs.List.{range_with_len}
use Rattle.std.specs.Prelude.{flat_map}
use Rattle.hp_word.specs.Text.{row_line}
use Rattle.hp_spmd.proofs.lockstep.output.add_csv.Given as goal

abbrev pub invariant-loop-place : goal.invariant-loop-place
invariant-loop-place l = l.out.items ≡ l.initial.out.items ++ flat_map (row_line l.columns) (range_with_len 0 l.place)
