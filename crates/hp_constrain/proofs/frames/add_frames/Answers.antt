-- One more slot.
use Rattle.std.proofs.Common.{◌∙◌, ap, subst, sym, List, ◌++◌, ◌∷◌, [], take, arith}
use Rattle.std.proofs.lemmas.List.{take_more, get_or_default, length-take-le}
use Rattle.hp_air.specs.declared.slot.Slot.{Slot}
use Rattle.hp_air.specs.Frames.{slot_at}
use Rattle.hp_constrain.specs.Firsts.{HasFirsts}
use Rattle.hp_constrain.proofs.ProgramLemmas.{frames_next, slot_stands}
use Rattle.hp_constrain.proofs.frames.add_frames.Goals as goal

pub loop-number-preserved : goal.loop-number-preserved
loop-number-preserved c =
    let slots = c.args.slots.now in
    let i = c.loop-number.number in
    let s = slot_at slots i in
    let here = get_or_default slots i _ s c.loop-number-test.true in
    let stands = slot_stands slots i s c.loop-number-test.true here c.requires.one in
    let long = length-take-le i slots (omega arith) in
    record {
      added = frames_next slots i c.in_ok-first.first s c.args.list.now.items c.loop-number.list.items c.add_column.new.list.items c.loop-number-test.true here stands
          (c.in_ok-first.ensures.first (take i slots) c.loop-number.invariant.held long stands) c.loop-number.invariant.added c.in_ok-add_column.ensures;
      held = subst (λ (l : List Slot). HasFirsts l c.first_of.new.self) (ap (λ (t : Slot). take i slots ++ t ∷ []) here ∙ sym (take_more slots i s c.loop-number-test.true)) (c.in_ok-first.ensures.held (take i slots) c.loop-number.invariant.held long stands);
    }
