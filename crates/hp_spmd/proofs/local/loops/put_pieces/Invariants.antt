use Rattle.std.proofs.Common.{◌≡◌, length, drop}
use Rattle.std.specs.Vec.Iter.{into_iter_items, into_iter_len}
use Rattle.hp_spmd.specs.LoopParts.{with_pieces}
use Rattle.hp_spmd.proofs.local.loops.put_pieces.Given as goal

abbrev pub invariant-loop-piece : goal.invariant-loop-piece
invariant-loop-piece l = record {
  rest : with_pieces (drop l.k l.outs) (into_iter_items l.piece-iterator) l.arrays ≡ with_pieces l.outs (into_iter_items l.initial.piece-iterator) l.initial.arrays;
  counted : into_iter_len l.piece-iterator ≡ length (into_iter_items l.piece-iterator);
}
