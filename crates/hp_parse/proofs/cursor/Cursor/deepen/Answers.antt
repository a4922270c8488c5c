use Rattle.std.proofs.Common.{arith, refl, ap}
use Rattle.hp_parse.specs.Readers.{Reader}
use Rattle.hp_parse.proofs.Cursors.{raised_by, view_raised}
use Rattle.hp_parse.proofs.cursor.Cursor.deepen.Goals as goal

pub returns-then-self-by-gt-DEEPEST-clause-refused : goal.returns-then-self-by-gt-DEEPEST-clause-refused
returns-then-self-by-gt-DEEPEST-clause-refused c =
    let depth = ap (λ (r : Reader). r.depth) c.self.view_is in
    (c.refusal.ensures, omega (arith, raised_by c.args.by c.args.self.now.depth, c.if-self-by-gt-DEEPEST.true))

pub returns-clause-ok : goal.returns-clause-ok
returns-clause-ok c = view_raised c.args.by c.self.invariant c.self.view_is c.if-self-by-gt-DEEPEST.false
