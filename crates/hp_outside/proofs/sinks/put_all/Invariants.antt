use Rattle.std.proofs.Common.{◌≡◌, ◌≤◌, ◌-◌, length, take}
use Rattle.hp_outside.specs.Outside.{Grew}
use Rattle.hp_outside.proofs.sinks.put_all.Given as goal

-- the bytes before this one were put, with no fault
abbrev pub invariant-loop-at : goal.invariant-loop-at
invariant-loop-at g l =
    (l.at ≤ length l.bytes)
    × Grew (g.S.Sink.written l.fn.sink) (g.S.Sink.written l.sink) (take l.at l.bytes)
    × (g.S.Sink.faults l.sink ≡ g.S.Sink.faults l.fn.sink)

abbrev pub decreases-loop-at : goal.decreases-loop-at
decreases-loop-at g l = length l.bytes - l.at
