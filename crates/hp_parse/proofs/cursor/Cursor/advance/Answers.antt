use Rattle.std.proofs.Common.{arith, refl, ap}
use Rattle.hp_parse.proofs.Cursors.{taken, are_small, view_behind}
use Rattle.hp_parse.proofs.cursor.Cursor.advance.Goals as goal

pub overflow_add-self : goal.overflow_add-self
overflow_add-self c = let small = are_small c.self.invariant in omega (arith, small.within, small.few)

pub invariant_of-self : goal.invariant_of-self
invariant_of-self c = taken c.self.invariant c.self.view_is c.requires _ (omega arith)

pub returns : goal.returns
returns c = view_behind c.self.invariant c.self.view_is
