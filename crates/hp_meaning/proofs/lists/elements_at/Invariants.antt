-- The positions so far have elements.
use Rattle.std.proofs.Common.{◌≡◌, map, take}
use Rattle.hp_word.specs.ListRules.{element_at}
use Rattle.hp_meaning.specs.Outcomes.{Gives, told, all_of}
use Rattle.hp_meaning.proofs.lists.elements_at.Given as goal

abbrev pub invariant-loop-i : goal.invariant-loop-i
invariant-loop-i l = all_of (map (λ i. told (element_at l.at l.xs i)) (take l.i-index l.positions)) ≡ Gives l.made
