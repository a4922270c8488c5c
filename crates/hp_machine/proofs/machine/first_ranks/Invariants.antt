use Rattle.std.proofs.Common.{◌≡◌, map}
use Rattle.std.specs.List.{range_with_len}
use Rattle.hp_spmd.specs.Store.{first_store}
use Rattle.hp_machine.proofs.machine.first_ranks.Given as goal

abbrev pub invariant-loop-number : goal.invariant-loop-number
invariant-loop-number l = map (λ rank. rank.store) l.list.items ≡ map (λ r. first_store l.code r l.ranks) (range_with_len 0 l.number)
