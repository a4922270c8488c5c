-- The columns so far.
use Rattle.std.proofs.Common.{◌≡◌, ◌∷◌, map, take}
use Rattle.hp_meaning.specs.FrameRules.{cells_of, without}
use Rattle.hp_meaning.proofs.sorting.key_first.Given as goal

abbrev pub invariant-loop-column : goal.invariant-loop-column
invariant-loop-column l = map (λ c. c.now) l.made.items ≡ l.keys ∷ cells_of (without l.key (take l.column-index l.columns))
