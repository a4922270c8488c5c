-- The elements so far have values.
use Rattle.std.proofs.Common.{◌≡◌, map, take, length}
use Rattle.std.specs.List.{range_with_len}
use Rattle.hp_script.specs.Mirror.{tree_of}
use Rattle.hp_meaning.specs.LambdaRules.{Around, inside, scalar, number_in}
use Rattle.hp_meaning.specs.Outcomes.{Gives, also, all_of}
use Rattle.hp_meaning.proofs.lambdas.stencil_in_turn.Given as goal

abbrev pub invariant-loop-i : goal.invariant-loop-i
invariant-loop-i l = all_of (map (λ k. also (scalar (tree_of l.body) (inside l.parameter (Around l.xs k) l.vars)) number_in) (take l.i (range_with_len 0 (length l.xs)))) ≡ Gives l.made
