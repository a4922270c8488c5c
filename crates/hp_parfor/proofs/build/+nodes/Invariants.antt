-- The steps so far are those of the nodes so far.
use Rattle.std.proofs.Common.{◌≡◌, take}
use Rattle.hp_program.specs.Programs.{replaced}
use Rattle.hp_air.specs.Nodes as air
use Rattle.hp_parfor.specs.Built.{built}
use Rattle.hp_parfor.specs.Parts.{program_of}
use Rattle.hp_parfor.proofs.build.+nodes.Given as goal

abbrev pub invariant-build_nodes-loop-node : goal.invariant-build_nodes-loop-node
invariant-build_nodes-loop-node l = program_of l.steps ≡ replaced built (air.program_of (take l.node-index l.nodes))
