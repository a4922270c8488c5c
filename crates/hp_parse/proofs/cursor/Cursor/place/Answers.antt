use Rattle.std.proofs.Common.{rules, arith, refl, sym, ap, ◌∙◌}
use Rattle.std.proofs.Common.{length}
use Rattle.hp_parse.proofs.Cursors.{placed_here, are_small}
use Rattle.hp_parse.proofs.cursor.Cursor.place.Goals as goal

pub offset_bounds-as_slice-self-inside : goal.offset_bounds-as_slice-self-inside
offset_bounds-as_slice-self-inside c = let small = are_small c.self.invariant in omega (arith, small.within, small.few)

pub bounds-as_slice-self-inside : goal.bounds-as_slice-self-inside
bounds-as_slice-self-inside c = let small = are_small c.self.invariant in omega (arith, small.within, ap length c.as_slice.ensures)

pub returns : goal.returns
returns c = placed_here _ c.self.invariant c.self.view_is c.as_slice.ensures
