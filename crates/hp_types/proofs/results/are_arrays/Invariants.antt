-- all arguments before this one are arrays of numbers
use Rattle.std.proofs.Common.{◌≡◌, drop}
use Rattle.hp_script.specs.Results.{are_arrays}
use Rattle.hp_types.proofs.results.are_arrays.Given as goal

abbrev pub invariant-loop-argument : goal.invariant-loop-argument
invariant-loop-argument l = are_arrays (drop l.argument-index l.arguments) ≡ are_arrays l.arguments
