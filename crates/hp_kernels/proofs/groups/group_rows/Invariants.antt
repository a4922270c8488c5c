-- The firsts, the numbers and the keys so far, with those that are still to come, are those of the groups.
use Rattle.std.proofs.Common.{◌≡◌, ◌++◌, drop, map}
use Rattle.hp_word.specs.RowRules.{firsts_from, firsts_from_0, group_keys, group_of}
use Rattle.hp_kernels.proofs.GroupLemmas.{added, number_in}
use Rattle.hp_kernels.proofs.groups.group_rows.Given as goal

abbrev pub invariant-loop-i : goal.invariant-loop-i
invariant-loop-i l = record {
  firsts : l.firsts.items ++ firsts_from l.i l.numbered.keys (drop l.i l.keys) ≡ firsts_from_0 l.keys;
  keys : l.numbered.keys ++ added l.numbered.keys (drop l.i l.keys) ≡ group_keys l.keys;
  numbers : l.group_of.items ++ map (number_in (group_keys l.keys)) (drop l.i l.keys) ≡ group_of l.keys;
}
