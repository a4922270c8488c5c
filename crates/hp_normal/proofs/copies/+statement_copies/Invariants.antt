-- The stencils in the statements so far are added.
use Rattle.std.proofs.Common.{◌≡◌, ◌++◌, take}
use Rattle.hp_script.specs.Mirror.{block_of}
use Rattle.hp_normal.specs.Values.{copies_of}
use Rattle.hp_normal.proofs.copies.+statement_copies.Given as goal

abbrev pub invariant-add_copies_of-loop-stmt : goal.invariant-add_copies_of-loop-stmt
invariant-add_copies_of-loop-stmt l = l.copies.items ≡ l.initial.copies.items ++ copies_of l.shapes (block_of (take l.stmt-index l.body))
