use Rattle.std.proofs.Common.{◌≡◌, drop}
use Rattle.std.specs.Prelude.{nat_le, sum}
use Rattle.hp_word.specs.Lengths.{longest}
use Rattle.hp_spmd.specs.Scalars.{lengths_of}
use Rattle.hp_spmd.proofs.local.check.fit.Given as goal

abbrev pub invariant-loop-at : goal.invariant-loop-at
invariant-loop-at l = nat_le (sum (lengths_of (drop l.at-index l.arrays) l.pieces)) l.left ≡ nat_le (sum (lengths_of l.arrays l.pieces)) longest
