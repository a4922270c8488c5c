-- The arguments so far are added.
use Rattle.std.proofs.Common.{◌≡◌, ◌++◌, take}
use Rattle.hp_script.specs.Mirror.{args_of}
use Rattle.hp_script.specs.Printing.{text_among}
use Rattle.hp_script.proofs.printer.+expressions.Given as goal

abbrev pub invariant-add_args-loop-i : goal.invariant-add_args-loop-i
invariant-add_args-loop-i l = l.out.items ≡ l.initial.out.items ++ text_among (args_of (take l.i l.args))
