-- The calls in the arguments so far are added.
use Rattle.std.proofs.Common.{◌≡◌, ◌++◌, take}
use Rattle.hp_script.specs.Mirror.{args_of}
use Rattle.hp_meaning.specs.ReadCalls.{reads_among}
use Rattle.hp_meaning.proofs.reads.+reads.Given as goal

abbrev pub invariant-add_reads_among-loop-arg : goal.invariant-add_reads_among-loop-arg
invariant-add_reads_among-loop-arg l = l.reads.items ≡ l.initial.reads.items ++ reads_among (args_of (take l.arg-index l.args))
