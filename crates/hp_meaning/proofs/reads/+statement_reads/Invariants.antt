-- The calls in the statements so far are added.
use Rattle.std.proofs.Common.{◌≡◌, ◌++◌, take}
use Rattle.hp_script.specs.Mirror.{block_of}
use Rattle.hp_meaning.specs.ReadCalls.{reads_of}
use Rattle.hp_meaning.proofs.reads.+statement_reads.Given as goal

abbrev pub invariant-add_reads_of-loop-stmt : goal.invariant-add_reads_of-loop-stmt
invariant-add_reads_of-loop-stmt l = l.reads.items ≡ l.initial.reads.items ++ reads_of (block_of (take l.stmt-index l.body))
