use Rattle.std.proofs.Common.{◌≡◌, ◌≤◌, ◌-◌, ℕ, length}
use Rattle.hp_machine.proofs.RunLemmas.{Stays}
use Rattle.hp_machine.proofs.machine.Machine.run.Given as goal

-- the turns so far wrote nothing, and there is none too many
abbrev pub invariant-loop-self : goal.invariant-loop-self
invariant-loop-self g l =
    Stays l.fn.code l.fn.tables (λ k. g.T.Turns.named l.fn.turns (g.T.Turns.seed l.fn.turns) k (length l.fn.self.ranks.items)) (g.T.Turns.asked l.fn.turns) (g.T.Turns.asked l.turns) l.fn.self l.self l.fn.taken.items l.taken.items
    × (length l.taken.items ≤ l.bound)
    × (g.T.Turns.seed l.turns ≡ g.T.Turns.seed l.fn.turns)
    × ((s k n : ℕ) → g.T.Turns.named l.turns s k n ≡ g.T.Turns.named l.fn.turns s k n)

abbrev pub decreases-loop-self : goal.decreases-loop-self
decreases-loop-self g l = l.bound - length l.taken.items
