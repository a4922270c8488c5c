use Rattle.std.proofs.Common.{◌≡◌, ◌++◌}
use Rattle.hp_types.proofs.found.Found.append.Given as goal

abbrev pub invariant-loop-shape : goal.invariant-loop-shape
invariant-loop-shape l = (l.self.shapes ≡ l.initial.self.shapes ++ l.yielded) × (l.self.reads ≡ l.initial.self.reads)

abbrev pub invariant-loop-read : goal.invariant-loop-read
invariant-loop-read l = (l.self.shapes ≡ l.initial.self.shapes) × (l.self.reads ≡ l.initial.self.reads ++ l.yielded)
