use Rattle.hp_lex.proofs.Divisions.{lexed_as, refused_as, readable_as}
use Rattle.hp_lex.proofs.lexer.lex.Goals as goal

pub returns-clause-only : goal.returns-clause-only
returns-clause-only c = lexed_as c.args.bytes.now c.lexed.result c.lexed.ensures.ok c.lexed.ensures.refused

pub returns-clause-only_refused : goal.returns-clause-only_refused
returns-clause-only_refused c = refused_as c.args.bytes.now c.lexed.result c.lexed.ensures.ok c.lexed.ensures.refused

pub returns-clause-readable : goal.returns-clause-readable
returns-clause-readable c = readable_as c.args.bytes.now c.lexed.result c.lexed.ensures.ok
