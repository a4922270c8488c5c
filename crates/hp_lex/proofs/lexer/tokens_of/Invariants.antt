use Rattle.std.proofs.Common.{◌-◌, length}
use Rattle.hp_lex.proofs.Scan.{HasScanned}
use Rattle.hp_lex.proofs.lexer.tokens_of.Given as goal

abbrev pub invariant-loop-from : goal.invariant-loop-from
invariant-loop-from l = HasScanned l.bytes l.from l.at l.list

abbrev pub decreases-loop-from : goal.decreases-loop-from
decreases-loop-from l = length l.bytes - l.from
