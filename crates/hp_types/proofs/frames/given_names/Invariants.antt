-- the arguments before this one have fitted, by these names
use Rattle.std.proofs.Common.{◌≡◌, ◌++◌, drop}
use Rattle.std.specs.Option.{option_map}
use Rattle.hp_script.specs.Results.{given_names}
use Rattle.hp_types.proofs.frames.given_names.Given as goal

abbrev pub invariant-loop-argument : goal.invariant-loop-argument
invariant-loop-argument l = option_map (λ rest. l.names ++ rest) (given_names (drop l.argument-index l.arguments)) ≡ given_names l.arguments
