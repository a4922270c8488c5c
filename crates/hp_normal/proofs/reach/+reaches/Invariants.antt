-- The greatest distance of the arguments so far is found.
use Rattle.std.proofs.Common.{◌≡◌, take}
use Rattle.hp_script.specs.Mirror.{args_of}
use Rattle.hp_flat.specs.Elements.{reach_among}
use Rattle.hp_normal.proofs.reach.+reaches.Given as goal

abbrev pub invariant-reach_among-loop-arg : goal.invariant-reach_among-loop-arg
invariant-reach_among-loop-arg l = l.reach ≡ reach_among (args_of (take l.arg-index l.args))
