-- What is said of a script that fits.
use Rattle.std.proofs.Common.{◌≡◌, ℕ, List, Option}
use Rattle.std.specs.Bool.{OnFalse}
use Rattle.hp_command.specs.declared.answer.Answer.{Answer}
use Rattle.hp_command.specs.declared.answer.Answer.TheVariants as answer
use Rattle.hp_outside.specs.Outside.{HasCause}
use Rattle.hp_command.specs.Reading.{FitsWhereTold}
use Rattle.hp_command.specs.Session.{is_sink_fault, Wrote, ok_line, DidCheck}

pub did_ok : (told before now : Option (List ℕ)) (faults faults2 : ℕ) (a : Answer) → FitsWhereTold told → HasCause faults faults2 (is_sink_fault a)
    → Wrote (is_sink_fault a) before now ok_line → OnFalse (is_sink_fault a) (a ≡ answer.Done) → DidCheck told before now faults faults2 a
did_ok told before now faults faults2 answer.Done fits cause wrote is = (fits, wrote, cause.kept)
did_ok told before now faults faults2 answer.SinkFault fits cause wrote is = (fits, wrote, cause)
did_ok told before now faults faults2 _ fits cause wrote is = absurd (cc)
