-- The columns so far.
use Rattle.std.proofs.Common.{◌≡◌, [], map, take}
use Rattle.std.specs.Prelude.{slice_index_or}
use Rattle.hp_spmd.proofs.local.columns.loose_columns.Given as goal

abbrev pub invariant-loop-at : goal.invariant-loop-at
invariant-loop-at l = map (λ c. c.now) l.made.items ≡ map (λ k. slice_index_or l.loose k []) (take l.at-index l.from)
