use Rattle.std.proofs.Common.{◌≡◌, [], drop}
use Rattle.hp_script.specs.Mirror.{block_of}
use Rattle.hp_meaning.specs.Forms.{built, behind_lines}
use Rattle.hp_meaning.proofs.forms.lines_of.Given as goal

abbrev pub invariant-loop-stmt : goal.invariant-loop-stmt
invariant-loop-stmt l = built [] (block_of l.stmt-items) ≡ behind_lines l.list (built l.list (block_of (drop l.stmt-index l.stmt-items)))
