-- The laws of loops are lemmas.
use Rattle.hp_meaning.proofs.LoopForms.{pairs_looped, right_looped, left_looped, negated_looped, mapped_looped, stencil_looped}
use Rattle.hp_meaning.proofs.loop_laws.loop_laws.Goals as goal

pub returns : goal.returns
returns c = record {
  pairs = pairs_looped;
  right = right_looped;
  left = left_looped;
  opposite = negated_looped;
  mapped = mapped_looped;
  stencilled = stencil_looped;
}
