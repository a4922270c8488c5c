-- What was taken and what may still come are together no more than at first.
use Rattle.std.proofs.Common.{◌+◌, ◌≤◌}
use Rattle.hp_infer.specs.Progress.{IsWork, steps_left}
use Rattle.hp_infer.proofs.infer.settle.Given as goal

abbrev pub invariant-loop-at : goal.invariant-loop-at
invariant-loop-at g l = record {
  work : IsWork l.system l.dists l.board;
  steps : l.steps + steps_left l.system.constraints l.dists l.board.list ≤ l.fn.steps + steps_left l.system.constraints l.fn.dists l.fn.board.list;
}

abbrev pub decreases-loop-at : goal.decreases-loop-at
decreases-loop-at g l = steps_left l.system.constraints l.dists l.board.list
