-- The steps of the statements so far are added.
use Rattle.std.proofs.Common.{◌≡◌, take}
use Rattle.hp_script.specs.Mirror.{block_of}
use Rattle.hp_program.specs.Programs.{joined}
use Rattle.hp_flat.specs.Flat.{flat_block}
use Rattle.hp_normal.specs.Programs.{program_in}
use Rattle.hp_normal.proofs.stmts.+statements.Given as goal

abbrev pub invariant-add_block-loop-stmt : goal.invariant-add_block-loop-stmt
invariant-add_block-loop-stmt l = program_in l.steps ≡ joined (program_in l.initial.steps) (flat_block l.homes (block_of (take l.stmt-index l.body)))
