use Rattle.std.proofs.Common.{◌≡◌, drop}
use Rattle.hp_machine.specs.Sound.{all_over}
use Rattle.hp_machine.proofs.machine.all_over.Given as goal

-- the ranks before this one have halted
abbrev pub invariant-loop-rank : goal.invariant-loop-rank
invariant-loop-rank l = all_over l.code (drop l.rank-index l.ranks) ≡ all_over l.code l.ranks
