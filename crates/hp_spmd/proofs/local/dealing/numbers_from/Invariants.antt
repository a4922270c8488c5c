-- The numbers so far.
use Rattle.std.proofs.Common.{◌≡◌, ◌+ℤ◌, map, pos}
use Rattle.std.specs.List.{range_with_len}
use Rattle.hp_spmd.proofs.local.dealing.numbers_from.Given as goal

abbrev pub invariant-loop-i : goal.invariant-loop-i
invariant-loop-i l = l.made ≡ map (λ k. l.first +ℤ pos k) (range_with_len 0 l.i)
