-- What is left holds the other sizes where the longest holds all.
use Rattle.hp_spmd.proofs.SealLemmas.{AreLeft}
use Rattle.hp_spmd.proofs.local.seals.are_few.Given as goal

abbrev pub invariant-loop-size : goal.invariant-loop-size
invariant-loop-size l = AreLeft l.sizes l.size-index l.left
