-- The walk along the chain of those whose low the unknown is.
use Rattle.std.proofs.Common.{◌≡◌, length}
use Rattle.hp_infer.specs.declared.system.Side.TheVariants.{Low}
use Rattle.hp_infer.proofs.ChainLemmas.{Walked, unlinking, rest_of}
use Rattle.hp_infer.proofs.infer.unlink_met.Given as goal

abbrev pub invariant-loop-next : goal.invariant-loop-next
invariant-loop-next l = record {
  nodes : l.board.nodes ≡ l.fn.board.nodes;
  walked : Walked unlinking Low l.unknown l.system.constraints l.next l.fn.board.list l.board.list;
}

abbrev pub decreases-loop-next : goal.decreases-loop-next
decreases-loop-next l = rest_of (length l.system.constraints) l.next
