-- The statements so far are tested; what is called is called for fewer statements.
use Rattle.std.proofs.Common.{◌+◌, ◌*◌, [], ◌∷◌, take, Ok}
use Rattle.hp_script.specs.Mirror.{block_of}
use Rattle.hp_script.specs.Scope.{Scope}
use Rattle.hp_types.specs.Statements.{Begins, IsAt, TellsBlock}
use Rattle.hp_types.proofs.Sizes.{size_of}
use Rattle.hp_types.proofs.statements.+statements.Given as goal

abbrev pub decreases-branches : goal.decreases-branches
decreases-branches l = 3 * (size_of l.first.now + size_of l.second.now) + 2

abbrev pub decreases-repeated : goal.decreases-repeated
decreases-repeated l = 3 * size_of l.inner.now + 2

abbrev pub decreases-statement : goal.decreases-statement
decreases-statement l = 3 * size_of (l.stmt.now ∷ [])

abbrev pub decreases-statements : goal.decreases-statements
decreases-statements l = 3 * size_of l.block.now + 1

abbrev pub invariant-statements-loop-stmt : goal.invariant-statements-loop-stmt
invariant-statements-loop-stmt l =
    ((s : Scope) → IsAt s l.assigned l.initial.variables → TellsBlock {A = Unit {0}} s l.assigned (block_of (take l.stmt-index l.block)) l.initial.found l.variables l.found (Ok tt))
    × Begins l.initial.variables.sure l.variables.sure
