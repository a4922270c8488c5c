use Rattle.std.proofs.Common.{rules, arith, refl, sym, ap, ◌∙◌}
use Rattle.hp_script.proofs.TokenLemmas.{are_readable}
use Rattle.hp_parse.proofs.Cursors.{peeked_next}
use Rattle.hp_parse.proofs.cursor.Cursor.peek.Goals as goal

pub lexeme-requires : goal.lexeme-requires
lexeme-requires c = are_readable _ _ c.self.invariant.has

pub returns : goal.returns
returns c = peeked_next c.self.invariant c.self.view_is c.lexeme.ensures
