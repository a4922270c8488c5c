-- The least place of the statements so far is found.
use Rattle.std.proofs.Common.{◌≡◌, take}
use Rattle.hp_script.specs.Mirror.{block_of}
use Rattle.hp_built.specs.Unbuilt.{least, unbuilt_of}
use Rattle.hp_built.proofs.unbuilt.+statements.Given as goal

abbrev pub invariant-in_statements-loop-stmt : goal.invariant-in_statements-loop-stmt
invariant-in_statements-loop-stmt g l = l.found ≡ least (unbuilt_of (g.B.Builds.built l.built) l.shapes (block_of (take l.stmt-index l.body)))
