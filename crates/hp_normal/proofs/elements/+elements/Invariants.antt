-- The elements of the arguments so far are made.
use Rattle.std.proofs.Common.{◌≡◌, take}
use Rattle.hp_script.specs.Mirror.{args_of}
use Rattle.hp_flat.specs.Elements.{elems_of}
use Rattle.hp_normal.proofs.elements.+elements.Given as goal

abbrev pub invariant-elems_of-loop-arg : goal.invariant-elems_of-loop-arg
invariant-elems_of-loop-arg l = l.made.items ≡ elems_of l.homes l.parameter (args_of (take l.arg-index l.args))
