-- The least place of the arguments so far is found.
use Rattle.std.proofs.Common.{◌≡◌, take}
use Rattle.hp_script.specs.Mirror.{args_of}
use Rattle.hp_built.specs.Unbuilt.{least, unbuilt_among}
use Rattle.hp_built.proofs.unbuilt.+expressions.Given as goal

abbrev pub invariant-in_arguments-loop-arg : goal.invariant-in_arguments-loop-arg
invariant-in_arguments-loop-arg g l = l.found ≡ least (unbuilt_among (g.B.Builds.built l.built) l.shapes (args_of (take l.arg-index l.args)))
