-- The stencils in the arguments so far are added.
use Rattle.std.proofs.Common.{◌≡◌, ◌++◌, take}
use Rattle.hp_script.specs.Mirror.{args_of}
use Rattle.hp_normal.specs.Values.{copies_among}
use Rattle.hp_normal.proofs.copies.+copies.Given as goal

abbrev pub invariant-add_copies_among-loop-arg : goal.invariant-add_copies_among-loop-arg
invariant-add_copies_among-loop-arg l = l.copies.items ≡ l.initial.copies.items ++ copies_among l.shapes (args_of (take l.arg-index l.args))
