-- The elements so far have values.
use Rattle.std.proofs.Common.{◌≡◌, map, take}
use Rattle.hp_script.specs.Mirror.{tree_of}
use Rattle.hp_meaning.specs.LambdaRules.{Element, inside, scalar, word_in}
use Rattle.hp_meaning.specs.Outcomes.{Gives, also, all_of}
use Rattle.hp_meaning.proofs.lambdas.mapped_in_turn.Given as goal

abbrev pub invariant-loop-x : goal.invariant-loop-x
invariant-loop-x l = all_of (map (λ x. also (scalar (tree_of l.body) (inside l.parameter (Element l.kind x) l.vars)) word_in) (take l.x-index l.xs)) ≡ Gives l.made
