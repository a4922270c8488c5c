use Rattle.std.proofs.Common.{◌≡◌, ◌+◌, ◌≤◌, drop}
use Rattle.hp_script.specs.Tokens.{behind}
use Rattle.hp_lex.proofs.lexer.behind.Given as goal

abbrev pub invariant-loop-byte : goal.invariant-loop-byte
invariant-loop-byte l =
    (behind l.at (drop l.byte-index l.text) ≡ behind l.initial.at l.text) × (l.at.line ≤ l.initial.at.line + l.byte-index) × (l.at.col ≤ l.initial.at.col + l.byte-index)
