-- The machine on short scripts.
use Rattle.std.specs.Prelude.{ℕ, ◌≡◌, pos, true, false, List, [], ◌∷◌, codes, refl}
use Rattle.hp_word.specs.declared.place.Place.{Place}
use Rattle.hp_script.specs.declared.rule.Rule.TheVariants.{Syntax}
use Rattle.hp_script.specs.declared.tree.BinOp.TheVariants.{Add, Mul}
use Rattle.hp_script.specs.declared.tree.Stmt.TheVariants.{Assign}
use Rattle.hp_script.specs.declared.token.Sign.TheVariants as signs
use Rattle.hp_script.specs.Lexemes.{Identifier, Numeral, Newline, Mark, Lexed}
use Rattle.hp_script.specs.Grammar.{token, mark}
use Rattle.hp_script.specs.Trees.{named, number_node, binary_node}
use Rattle.hp_parse.specs.Machine.{run, step, enter, start, Accepted, Refused, never}

-- a column of the first line
abbrev col : ℕ → Place
col n = record { line = 1; col = n }

-- `x = 1 + 2 * 3`
sum_row : run never (col 14) 60 (start (token (Identifier (codes "x")) (col 1) ∷ mark signs.Assign (col 3) ∷ token (Numeral (pos 1)) (col 5)
    ∷ mark (signs.Operator Add false) (col 7) ∷ token (Numeral (pos 2)) (col 9) ∷ mark (signs.Operator Mul false) (col 11) ∷ token (Numeral (pos 3)) (col 13) ∷ []))
    ≡ Accepted (Assign (col 1) (named (codes "x"))
    (binary_node 1 (col 7) Add false (number_node 0 (col 5) (pos 1)) (binary_node 3 (col 11) Mul false (number_node 2 (col 9) (pos 2)) (number_node 4 (col 13) (pos 3)))) ∷ []) 5
unfolding run step enter
sum_row = refl

-- `x = )`
syntax_row : run never (col 6) 60 (start (token (Identifier (codes "x")) (col 1) ∷ mark signs.Assign (col 3) ∷ mark signs.Close (col 5) ∷ [])) ≡ Refused (col 5) Syntax
unfolding run step enter
syntax_row = refl
