-- The cells so far.
use Rattle.std.proofs.Common.{◌≡◌, ◌+◌, ◌-◌, map}
use Rattle.std.specs.List.{range_with_len}
use Rattle.hp_spmd.specs.Unpacks.{cell_round}
use Rattle.hp_spmd.proofs.local.moves.halo_cells.Given as goal

abbrev pub invariant-loop-place : goal.invariant-loop-place
invariant-loop-place l = l.cells ≡ map (λ k. cell_round l.reach l.length (l.block.from - l.reach) l.words (l.block.from + k)) (range_with_len 0 l.place)
