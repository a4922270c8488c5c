use Rattle.std.proofs.Common.{rules, arith, refl, sym, ap, ◌∙◌}
use Rattle.hp_script.proofs.TokenLemmas.{are_readable}
use Rattle.hp_parse.proofs.Cursors.{peeked_second, are_small}
use Rattle.hp_parse.proofs.cursor.Cursor.peek_second.Goals as goal

pub overflow_add-self-inside : goal.overflow_add-self-inside
overflow_add-self-inside c = let small = are_small c.self.invariant in omega (arith, small.within, small.few)

pub lexeme-requires : goal.lexeme-requires
lexeme-requires c = are_readable _ _ c.self.invariant.has

pub returns : goal.returns
returns c = peeked_second c.self.invariant c.self.view_is c.lexeme.ensures
