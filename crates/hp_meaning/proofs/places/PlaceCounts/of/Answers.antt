-- Each place is counted once more where it stands, and all are at the end.
use Rattle.std.proofs.Common.{rules, List, ap, ◌∙◌}
use Rattle.std.proofs.lemmas.List.{take_all}
use Rattle.hp_word.specs.declared.order.RowPlace.{RowPlace}
use Rattle.hp_word.specs.RowRules.{times_in}
use Rattle.hp_meaning.proofs.PlaceLemmas.{counted_more}
use Rattle.hp_meaning.proofs.places.PlaceCounts.of.Goals as goal

pub loop-place-init : goal.loop-place-init
unfolding Rattle.hp_meaning.specs.PlaceCounts.times_held
loop-place-init c = search rules

pub loop-place-preserved : goal.loop-place-preserved
loop-place-preserved c =
    λ p. counted_more p c.args.places.now c.loop-place.place-index _ c.loop-place.made c.add.new.self c.loop-place-test.true c.in_ok-add.ensures.ok (c.loop-place.invariant p)

pub returns-clause-ok : goal.returns-clause-ok
returns-clause-ok c = λ p. c.loop-place.invariant p ∙ ap (λ (l : List RowPlace). times_in l p) (take_all c.loop-place.place-index c.args.places.now c.loop-place-test.false)
