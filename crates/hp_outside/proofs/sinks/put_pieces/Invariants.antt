use Rattle.std.proofs.Common.{◌≡◌, map, take}
use Rattle.std.specs.List.{concat}
use Rattle.hp_outside.specs.Outside.{Grew}
use Rattle.hp_outside.proofs.sinks.put_pieces.Given as goal

-- the pieces before this one were put, with no fault
abbrev pub invariant-loop-piece : goal.invariant-loop-piece
invariant-loop-piece g l =
    Grew (g.S.Sink.written l.fn.sink) (g.S.Sink.written l.sink) (concat (map (λ piece. piece.now) (take l.piece-index l.pieces)))
    × (g.S.Sink.faults l.sink ≡ g.S.Sink.faults l.fn.sink)
