use Rattle.std.proofs.Common.{arith, refl, ap}
use Rattle.hp_parse.specs.Readers.{Reader}
use Rattle.hp_parse.proofs.Cursors.{taken, are_small, view_numbered}
use Rattle.hp_parse.proofs.cursor.Cursor.head.Goals as goal

pub overflow_add-self : goal.overflow_add-self
overflow_add-self c = let small = are_small c.self.invariant in omega (arith, small.within, small.few, small.numbers)

pub overflow_add-self-2 : goal.overflow_add-self-2
overflow_add-self-2 c = let small = are_small c.self.invariant in omega (arith, small.within, small.few)

pub invariant_of-self : goal.invariant_of-self
invariant_of-self c = taken c.self.invariant c.self.view_is c.requires _ (omega arith)

pub returns-clause-id : goal.returns-clause-id
returns-clause-id c = ap (λ (r : Reader). r.number) c.self.view_is

pub returns-clause-taken : goal.returns-clause-taken
returns-clause-taken c = view_numbered c.self.invariant c.self.view_is
