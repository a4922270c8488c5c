-- The walk along the chain of those that read the unknown.
use Rattle.std.proofs.Common.{◌≡◌, length}
use Rattle.hp_infer.specs.declared.system.Side.TheVariants.{High}
use Rattle.hp_infer.proofs.ChainLemmas.{Walked, linking, rest_of}
use Rattle.hp_infer.proofs.infer.link_readers.Given as goal

abbrev pub invariant-loop-next : goal.invariant-loop-next
invariant-loop-next l = record {
  nodes : l.board.nodes ≡ l.fn.board.nodes;
  walked : Walked linking High l.unknown l.system.constraints l.next l.fn.board.list l.board.list;
}

abbrev pub decreases-loop-next : goal.decreases-loop-next
decreases-loop-next l = rest_of (length l.system.constraints) l.next
