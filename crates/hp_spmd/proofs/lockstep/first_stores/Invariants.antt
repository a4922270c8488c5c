use Rattle.std.proofs.Common.{◌≡◌, map}
use Rattle.std.specs.List.{range_with_len}
use Rattle.hp_spmd.specs.Store.{first_store}
use Rattle.hp_spmd.proofs.lockstep.first_stores.Given as goal

abbrev pub invariant-loop-number : goal.invariant-loop-number
invariant-loop-number l = l.stores.items ≡ map (λ r. first_store l.fn.code r l.fn.ranks) (range_with_len 0 l.number)
