-- The statements so far are added.
use Rattle.std.proofs.Common.{◌≡◌, ◌++◌, take}
use Rattle.hp_script.specs.Mirror.{block_of}
use Rattle.hp_script.specs.Printing.{text_of}
use Rattle.hp_script.proofs.printer.+statements.Given as goal

abbrev pub invariant-add_block-loop-stmt : goal.invariant-add_block-loop-stmt
invariant-add_block-loop-stmt l = l.out.items ≡ l.initial.out.items ++ text_of l.indent (block_of (take l.stmt-index l.body))
