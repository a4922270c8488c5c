-- The nodes so far are linked.
use Rattle.std.proofs.Common.{◌≡◌}
use Rattle.std.specs.List.{range_with_len}
use Rattle.hp_links.specs.Boards.{board}
use Rattle.hp_infer.proofs.infer.all_linked.Given as goal

abbrev pub invariant-loop-node : goal.invariant-loop-node
invariant-loop-node l = l.board ≡ board l.nodes (range_with_len 0 l.node)
