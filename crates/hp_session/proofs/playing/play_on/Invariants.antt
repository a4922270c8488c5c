use Rattle.std.proofs.Common.{◌≡◌, ◌-◌, ℕ, length}
use Rattle.hp_session.proofs.PlayLemmas.{Plays}
use Rattle.hp_session.proofs.playing.play_on.Given as goal

-- each write so far was put, with no fault
abbrev pub invariant-loop-end : goal.invariant-loop-end
invariant-loop-end g l =
    Plays l.fn.code l.fn.tables (λ k. g.T.Turns.named l.fn.turns (g.T.Turns.seed l.fn.turns) k (length l.fn.machine.ranks.items)) (g.T.Turns.asked l.fn.turns) (g.T.Turns.asked l.turns) l.bound l.fn.machine l.machine l.taken.items (g.S.Sink.written l.fn.out) (g.S.Sink.written l.out)
    × (g.S.Sink.faults l.out ≡ g.S.Sink.faults l.fn.out)
    × (g.T.Turns.seed l.turns ≡ g.T.Turns.seed l.fn.turns)
    × ((s k n : ℕ) → g.T.Turns.named l.turns s k n ≡ g.T.Turns.named l.fn.turns s k n)

abbrev pub decreases-loop-end : goal.decreases-loop-end
decreases-loop-end g l = l.bound - length l.taken.items
