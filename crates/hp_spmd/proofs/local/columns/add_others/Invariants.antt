-- The columns so far but for the one that is left out.
use Rattle.std.proofs.Common.{◌≡◌, ◌++◌, map, take}
use Rattle.std.specs.Prelude.{remove}
use Rattle.hp_spmd.proofs.local.columns.add_others.Given as goal

abbrev pub invariant-loop-k : goal.invariant-loop-k
invariant-loop-k l = map (λ c. c.now) l.made.items ≡ map (λ c. c.now) l.initial.made.items ++ remove (map (λ c. c.now) (take l.k l.columns)) l.at
