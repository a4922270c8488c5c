use Rattle.hp_parse.specs.Machine.{Bracket}
use Rattle.hp_parse.proofs.Phrases.{holds, fails, read_for, stopped_for}
use Rattle.hp_parse.proofs.Lines.{bracket_brackets, no_bracket}
use Rattle.hp_parse.proofs.stmt.bracket.Goals as goal

pub returns-then-not-is_at-clause-stopped : goal.returns-then-not-is_at-clause-stopped
returns-then-not-is_at-clause-stopped c = no_bracket (fails c.is_at.result c.is_at.ensures c.if-not-is_at.true) c.syntax.ensures

pub returns-clause-read : goal.returns-clause-read
returns-clause-read c =
    read_for c.args.cursor.now _ Bracket c.bracketed.result (bracket_brackets c.args.cursor.now (holds c.is_at.result c.is_at.ensures c.if-not-is_at.false)) c.bracketed.ensures.read

pub returns-clause-stopped : goal.returns-clause-stopped
returns-clause-stopped c =
    stopped_for c.args.cursor.now Bracket c.bracketed.result (bracket_brackets c.args.cursor.now (holds c.is_at.result c.is_at.ensures c.if-not-is_at.false)) c.bracketed.ensures.stopped
