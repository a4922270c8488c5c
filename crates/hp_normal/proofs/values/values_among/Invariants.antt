-- The values among the arguments so far.
use Rattle.std.proofs.Common.{◌≡◌, take}
use Rattle.hp_script.specs.Mirror.{args_of}
use Rattle.hp_normal.specs.Values.{values_among}
use Rattle.hp_normal.proofs.values.values_among.Given as goal

abbrev pub invariant-loop-arg : goal.invariant-loop-arg
invariant-loop-arg l = l.values.items ≡ values_among (args_of (take l.arg-index l.args))
