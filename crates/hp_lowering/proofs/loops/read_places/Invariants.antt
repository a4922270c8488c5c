use Rattle.std.proofs.Common.{◌≡◌, ◌∷◌, take}
use Rattle.hp_lowering.proofs.loops.read_places.Given as goal

abbrev pub invariant-loop-input : goal.invariant-loop-input
invariant-loop-input l = l.list ≡ l.p.leader ∷ take l.input-index l.p.inputs
