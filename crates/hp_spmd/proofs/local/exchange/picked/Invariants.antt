use Rattle.std.proofs.Common.{◌≡◌, map, take}
use Rattle.hp_word.specs.LoopRules.{word_at}
use Rattle.hp_spmd.proofs.local.exchange.picked.Given as goal

abbrev pub invariant-loop-at : goal.invariant-loop-at
invariant-loop-at l = l.list.items ≡ map (word_at l.words) (take l.at-index l.which)
