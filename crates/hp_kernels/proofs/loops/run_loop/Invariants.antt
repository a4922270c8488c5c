-- What was made so far is of the rows so far.
use Rattle.std.proofs.Common.{◌≡◌, ◌-◌, ◌≤◌, ℤ, List, [], Ok}
use Rattle.hp_word.specs.LoopRules.{lets_after, rows_below}
use Rattle.hp_kernels.specs.Loops.{IsMadeOf}
use Rattle.hp_kernels.proofs.loops.run_loop.Given as goal

abbrev pub invariant-loop-first : goal.invariant-loop-first
invariant-loop-first g l = (rows : List (List ℤ)) × (rows_below (λ i. lets_after (g.S.Sources.sight l.source i) [] l.lets) l.first ≡ Ok rows) × IsMadeOf l.outs l.folds rows l.made × (l.first ≤ l.count)

abbrev pub decreases-loop-first : goal.decreases-loop-first
decreases-loop-first g l = l.count - l.first
