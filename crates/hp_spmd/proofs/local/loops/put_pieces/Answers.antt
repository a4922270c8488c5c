-- No piece is left at the end.
use Rattle.std.proofs.Common.{◌≡◌, [], sym, ap, ◌∙◌}
use Rattle.std.specs.Vec.Iter.{into_iter_items}
use Rattle.std.proofs.lemmas.List.{nil_from_length}
use Rattle.hp_spmd.specs.LoopParts.{with_pieces}
use Rattle.hp_spmd.proofs.LocalLoops.{no_more_pieces}
use Rattle.hp_spmd.proofs.local.loops.put_pieces.Goals as goal

pub returns : goal.returns
returns c =
    let none : into_iter_items c.loop-piece.piece-iterator ≡ [] = nil_from_length _ (sym c.loop-piece.invariant.counted ∙ c.in-None.ensures.steps.0) in
    sym (no_more_pieces _ _ c.loop-piece.arrays none) ∙ c.loop-piece.invariant.rest
    ∙ ap (λ os. with_pieces os (into_iter_items c.into_iter-piece-iterator.result) c.args.arrays.now) c.as_slice-outs.ensures
    ∙ ap (λ ps. with_pieces c.args.outs.now ps c.args.arrays.now) c.into_iter-piece-iterator.ensures.into_iter_gives.0
