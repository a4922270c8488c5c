-- The groups of rows, as they are held.
use Rattle.std.specs.Prelude.{◌≡◌, ℤ, List}
use Rattle.hp_word.specs.RowRules.{firsts_from_0, group_of}
use Rattle.hp_kernels.specs.declared.groups.Groups.{Groups}

-- these are the groups of the rows with these keys
pub record AreGroupsOf (keys : List ℤ) (groups : Groups) : Type 0 where
  pub firsts : groups.firsts.items ≡ firsts_from_0 keys
  pub numbers : groups.group_of.items ≡ group_of keys
