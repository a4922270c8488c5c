use Rattle.std.proofs.Common.{◌≡◌, ◌≤◌, drop}
use Rattle.hp_network.specs.Network.{most}
use Rattle.hp_machine.proofs.MadeLemmas.{counted_to}
use Rattle.hp_machine.proofs.machine.cells_held.Given as goal

abbrev pub invariant-loop-piece : goal.invariant-loop-piece
invariant-loop-piece l = (counted_to l.cells (drop l.piece-index l.store.arrays) ≡ counted_to 0 l.store.arrays) × (l.cells ≤ most)
