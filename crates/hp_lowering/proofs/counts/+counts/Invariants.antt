use Rattle.std.proofs.Common.{◌≡◌, take}
use Rattle.hp_lowering.specs.Room.{loose_of, spares_of}
use Rattle.hp_lowering.proofs.CountLemmas.{most}
use Rattle.hp_lowering.proofs.counts.+counts.Given as goal

abbrev pub invariant-counts_of-loop-step : goal.invariant-counts_of-loop-step
invariant-counts_of-loop-step l = (l.counts.spares ≡ most spares_of (take l.step-index l.steps)) × (l.counts.loose ≡ most loose_of (take l.step-index l.steps))
