-- Each step of the machine leaves less to do.
use Rattle.std.proofs.Common.{◌≡◌, ℕ, suc, ◌+◌, ◌*◌, ◌<◌, Bool, true, false, List, [], ◌∷◌, ◌++◌, length, Option, Some, None, refl, arith}
use Rattle.std.specs.Prelude.{if◌then◌else◌, nat_lt}
use Rattle.hp_word.specs.declared.place.Place.{Place}
use Rattle.hp_script.specs.declared.rule.Rule.TheVariants.{TooDeep}
use Rattle.hp_script.specs.declared.tree.UnOp.{UnOp}
use Rattle.hp_script.specs.declared.tree.BinOp.{BinOp}
use Rattle.hp_script.specs.declared.tree.Level.{Level}
use Rattle.hp_script.specs.declared.tree.Level.TheVariants.{Disjunction, Conjunction, Comparison, Sum, Product}
use Rattle.hp_script.specs.declared.token.Keyword.TheVariants as keywords
use Rattle.hp_script.specs.declared.token.Sign.TheVariants as signs
use Rattle.hp_script.specs.Lexemes.{Lexeme, Numeral, Identifier, Quoted, Word, Mark, Newline, Lexed}
use Rattle.hp_script.specs.Grammar.{level_of, unary_of}
use Rattle.hp_script.specs.Depth.{deepest}
use Rattle.hp_parse.specs.Machine as m
use Rattle.hp_parse.specs.Machine.{Phrase, Goal, Value, Move, want, make, Chain, Tail, Unary, Indexed, Primary, ColumnName, AfterName, AfterDot, Arguments, MoreArguments, Argument, AfterArgumentName, AfterArgument, Bracket, Close, CloseIndex, AssignSign, Line, Statement, AfterBlock, End, EndLine, Block, Body, AfterStatement, MakeBinary, made, Takes, Deepens, Passes, Refuses, enter, level_eq, Config, At, Refused, step, moved, moved_at_end, operand, rest_of_chain, too_deep}
use Rattle.hp_parse.proofs.Measure.{weight, load, room, size, is_light, is_light_at_end, load_joined, some_weight, some_room, size_within, below}

-- ---- moves at a token

light_if : (b : Bool) (space : ℕ) (x y : Move) → is_light space x ≡ true → is_light space y ≡ true → is_light space (if b then x else y) ≡ true
light_if true space x y f g = f
light_if false space x y f g = g

light_chain : (level : Level) (k : ℕ) → is_light (32 + weight (Chain level)) (Passes k (operand level ∷ want (Tail level) ∷ []) []) ≡ true
light_chain Disjunction k = refl
light_chain Conjunction k = refl
light_chain Comparison k = refl
light_chain Sum k = refl
light_chain Product k = refl

light_operand : (level : Level) (k d : ℕ) (at : Place) (op : BinOp) (dotted : Bool)
    → is_light 33 (Deepens (suc k) (suc d) (operand level ∷ make (MakeBinary k at op dotted) ∷ rest_of_chain level) []) ≡ true
light_operand Disjunction k d at op dotted = refl
light_operand Conjunction k d at op dotted = refl
light_operand Comparison k d at op dotted = refl
light_operand Sum k d at op dotted = refl
light_operand Product k d at op dotted = refl

light_tail : (level : Level) (what : Option Lexeme) (at : Place) (k d : ℕ) → is_light 33 (m.tail level what at k d) ≡ true
light_tail level (Some (Mark (signs.Operator op dotted))) at k d = light_if (level_eq (level_of op) level) 33 _ _ (light_operand level k d at op dotted) refl
light_tail level _ at k d = refl

light_operand_or : (x : Option (UnOp × Bool)) (at : Place) (k d : ℕ) → is_light 35 (m.operand_or x at k d) ≡ true
light_operand_or None at k d = refl
light_operand_or (Some x) at k d = refl

light_unary : (what : Option Lexeme) (at : Place) (k d : ℕ) → is_light 35 (m.unary what at k d) ≡ true
light_unary (Some (Mark sign)) at k d = light_operand_or (unary_of sign) at k d
light_unary _ at k d = refl

light_indexed : (what : Option Lexeme) (at : Place) (k d : ℕ) → is_light 33 (m.indexed what at k d) ≡ true
light_indexed (Some (Mark signs.OpenIndex)) at k d = refl
light_indexed _ at k d = refl

light_primary : (what : Option Lexeme) (at : Place) (k d : ℕ) → is_light 33 (m.primary what at k d) ≡ true
light_primary (Some (Numeral value)) at k d = refl
light_primary (Some (Quoted bytes)) at k d = refl
light_primary (Some (Word keywords.True)) at k d = refl
light_primary (Some (Word keywords.False)) at k d = refl
light_primary (Some (Mark signs.Colon)) at k d = refl
light_primary (Some (Mark signs.Open)) at k d = refl
light_primary (Some (Identifier bytes)) at k d = refl
light_primary _ at k d = refl

light_column_name : (id : ℕ) (start : Place) (what : Option Lexeme) (k d : ℕ) → is_light 33 (m.column_name id start what k d) ≡ true
light_column_name id start (Some (Identifier bytes)) k d = refl
light_column_name id start _ k d = refl

light_after_name : (id : ℕ) (start : Place) (bytes : List ℕ) (what : Option Lexeme) (k d : ℕ) → is_light 33 (m.after_name id start bytes what k d) ≡ true
light_after_name id start bytes (Some (Mark signs.Dot)) k d = refl
light_after_name id start bytes (Some (Mark signs.Open)) k d = refl
light_after_name id start bytes _ k d = refl

light_after_dot : (id : ℕ) (start : Place) (bytes : List ℕ) (what : Option Lexeme) (k d : ℕ) → is_light 33 (m.after_dot id start bytes what k d) ≡ true
light_after_dot id start bytes (Some (Identifier column)) k d = refl
light_after_dot id start bytes (Some (Mark signs.Open)) k d = refl
light_after_dot id start bytes _ k d = refl

light_arguments : (before : ℕ) (what : Option Lexeme) (k d : ℕ) → is_light 52 (m.arguments before what k d) ≡ true
light_arguments before (Some (Mark signs.Close)) k d = refl
light_arguments before _ k d = refl

light_more_arguments : (before : ℕ) (what : Option Lexeme) (k d : ℕ) → is_light 33 (m.more_arguments before what k d) ≡ true
light_more_arguments before (Some (Mark signs.Comma)) k d = refl
light_more_arguments before (Some (Mark signs.Close)) k d = refl
light_more_arguments before _ k d = refl

light_argument : (what : Option Lexeme) (at : Place) (k d : ℕ) → is_light 48 (m.argument what at k d) ≡ true
light_argument (Some (Identifier bytes)) at k d = refl
light_argument _ at k d = refl

light_after_argument_name : (at : Place) (bytes : List ℕ) (what : Option Lexeme) (k d : ℕ) → is_light 42 (m.after_argument_name at bytes what k d) ≡ true
light_after_argument_name at bytes (Some (Mark signs.Arrow)) k d = refl
light_after_argument_name at bytes (Some (Mark signs.Assign)) k d = refl
light_after_argument_name at bytes _ k d = refl

light_after_argument : (what : Option Lexeme) (k d : ℕ) → is_light 34 (m.after_argument what k d) ≡ true
light_after_argument (Some (Mark signs.Colon)) k d = refl
light_after_argument _ k d = refl

light_bracket : (what : Option Lexeme) (k d : ℕ) → is_light 33 (m.bracket what k d) ≡ true
light_bracket (Some (Mark signs.Open)) k d = refl
light_bracket _ k d = refl

light_close : (before : ℕ) (what : Option Lexeme) (k d : ℕ) → is_light 33 (m.close before what k d) ≡ true
light_close before (Some (Mark signs.Close)) k d = refl
light_close before _ k d = refl

light_close_index : (before : ℕ) (what : Option Lexeme) (k d : ℕ) → is_light 33 (m.close_index before what k d) ≡ true
light_close_index before (Some (Mark signs.CloseIndex)) k d = refl
light_close_index before _ k d = refl

light_assign_sign : (what : Option Lexeme) (k d : ℕ) → is_light 33 (m.assign_sign what k d) ≡ true
light_assign_sign (Some (Mark signs.Assign)) k d = refl
light_assign_sign _ k d = refl

light_line : (what : Option Lexeme) (k d : ℕ) → is_light 33 (m.line what k d) ≡ true
light_line (Some Newline) k d = refl
light_line _ k d = refl

light_end_line : (before : ℕ) (what : Option Lexeme) (k d : ℕ) → is_light 33 (m.end_line before what k d) ≡ true
light_end_line before (Some Newline) k d = refl
light_end_line before _ k d = refl

light_statement : (what : Option Lexeme) (at : Place) (k d : ℕ) → is_light 19 (m.statement what at k d) ≡ true
light_statement (Some (Identifier bytes)) at k d = refl
light_statement (Some (Word keywords.Println)) at k d = refl
light_statement (Some (Word keywords.WriteCsv)) at k d = refl
light_statement (Some (Word keywords.If)) at k d = refl
light_statement (Some (Word keywords.While)) at k d = refl
light_statement _ at k d = refl

light_after_block : (before : ℕ) (at : Place) (what : Option Lexeme) (k d : ℕ) → is_light 33 (m.after_block before at what k d) ≡ true
light_after_block before at (Some (Word keywords.Else)) k d = refl
light_after_block before at (Some (Word keywords.End)) k d = refl
light_after_block before at _ k d = refl

light_end_word : (before : ℕ) (what : Option Lexeme) (k d : ℕ) → is_light 33 (m.end_word before what k d) ≡ true
light_end_word before (Some (Word keywords.End)) k d = refl
light_end_word before _ k d = refl

light_block : (what : Option Lexeme) (k d : ℕ) → is_light 33 (m.block what k d) ≡ true
light_block (Some Newline) k d = refl
light_block (Some (Identifier bytes)) k d = refl
light_block (Some (Word keywords.Println)) k d = refl
light_block (Some (Word keywords.WriteCsv)) k d = refl
light_block (Some (Word keywords.If)) k d = refl
light_block (Some (Word keywords.While)) k d = refl
light_block _ k d = refl

light_body : (what : Option Lexeme) (k d : ℕ) → is_light 33 (m.body what k d) ≡ true
light_body None k d = refl
light_body (Some Newline) k d = refl
light_body _ k d = refl

light_after_statement : (before : ℕ) (what : Option Lexeme) (k d : ℕ) → is_light 34 (m.after_statement before what k d) ≡ true
light_after_statement before None k d = refl
light_after_statement before (Some Newline) k d = refl
light_after_statement before _ k d = refl

light_enter : (phrase : Phrase) (what : Option Lexeme) (at : Place) (k d : ℕ) → is_light (room phrase) (enter phrase what at k d) ≡ true
unfolding enter
light_enter (Chain level) what at k d = light_chain level k
light_enter (Tail level) what at k d = light_tail level what at k d
light_enter Unary what at k d = light_unary what at k d
light_enter Indexed what at k d = light_indexed what at k d
light_enter Primary what at k d = light_primary what at k d
light_enter (ColumnName id start) what at k d = light_column_name id start what k d
light_enter (AfterName id start bytes) what at k d = light_after_name id start bytes what k d
light_enter (AfterDot id start bytes) what at k d = light_after_dot id start bytes what k d
light_enter (Arguments before) what at k d = light_arguments before what k d
light_enter (MoreArguments before) what at k d = light_more_arguments before what k d
light_enter Argument what at k d = light_argument what at k d
light_enter (AfterArgumentName start bytes) what at k d = light_after_argument_name start bytes what k d
light_enter AfterArgument what at k d = light_after_argument what k d
light_enter Bracket what at k d = light_bracket what k d
light_enter (Close before) what at k d = light_close before what k d
light_enter (CloseIndex before) what at k d = light_close_index before what k d
light_enter AssignSign what at k d = light_assign_sign what k d
light_enter Line what at k d = light_line what k d
light_enter Statement what at k d = light_statement what at k d
light_enter (AfterBlock before start) what at k d = light_after_block before start what k d
light_enter (End before) what at k d = light_end_word before what k d
light_enter (EndLine before) what at k d = light_end_line before what k d
light_enter Block what at k d = light_block what k d
light_enter Body what at k d = light_body what k d
light_enter (AfterStatement before) what at k d = light_after_statement before what k d

-- ---- moves at the end

light_chain_at_end : (level : Level) (k : ℕ) → is_light_at_end (weight (Chain level)) (Passes k (operand level ∷ want (Tail level) ∷ []) []) ≡ true
light_chain_at_end Disjunction k = refl
light_chain_at_end Conjunction k = refl
light_chain_at_end Comparison k = refl
light_chain_at_end Sum k = refl
light_chain_at_end Product k = refl

light_end : (phrase : Phrase) (at : Place) (k d : ℕ) → is_light_at_end (weight phrase) (enter phrase None at k d) ≡ true
unfolding enter
light_end (Chain level) at k d = light_chain_at_end level k
light_end _ at k d = refl

-- ---- steps

less_if : (b : Bool) (token : Lexed) (c : Config) (n : ℕ) → size c < n → size (if b then Refused token.at TooDeep else c) < n
less_if true token c n less = omega (arith, less)
less_if false token c n less = less

taken_less : (rest : List Lexed) (k e : ℕ) (goals stack : List Goal) (values : List Value) (space : ℕ) → nat_lt (load goals) space ≡ true
    → size (At rest k e (goals ++ stack) values) < 32 * length rest + (space + load stack)
taken_less rest k e goals stack values space light =
    omega (arith, size_within rest k e (goals ++ stack) values, load_joined goals stack, below (load goals) space light)

passed_less : (token : Lexed) (rest : List Lexed) (k e : ℕ) (goals stack : List Goal) (values : List Value) (space : ℕ) → nat_lt (32 + load goals) space ≡ true
    → size (At (token ∷ rest) k e (goals ++ stack) values) < 32 * length rest + (space + load stack)
passed_less token rest k e goals stack values space light =
    omega (arith, size_within (token ∷ rest) k e (goals ++ stack) values, load_joined goals stack, below (32 + load goals) space light)

moved_less : (token : Lexed) (rest : List Lexed) (move : Move) (d : ℕ) (stack : List Goal) (values : List Value) (space : ℕ) → is_light space move ≡ true → 0 < space
    → size (moved too_deep token rest move d stack values) < 32 * length rest + (space + load stack)
moved_less token rest (Takes k e goals given) d stack values space light some = taken_less rest k e goals stack (given ++ values) space light
moved_less token rest (Deepens k e goals given) d stack values space light some =
    less_if (nat_lt deepest e) token (At rest k e (goals ++ stack) (given ++ values)) _ (taken_less rest k e goals stack (given ++ values) space light)
moved_less token rest (Passes k (want Statement ∷ goals) given) d stack values space light some =
    omega (arith, load_joined goals stack, below (19 + load goals) space light)
moved_less token rest (Passes k goals given) d stack values space light some = passed_less token rest k d goals stack (given ++ values) space light
moved_less token rest Refuses d stack values space light some = omega (arith, some)

moved_at_end_less : (end : Place) (move : Move) (d : ℕ) (stack : List Goal) (values : List Value) (space : ℕ) → is_light_at_end space move ≡ true → 0 < space
    → size (moved_at_end end move d stack values) < space + load stack
moved_at_end_less end (Passes k goals given) d stack values space light some = omega (arith, load_joined goals stack, below (load goals) space light)
moved_at_end_less end _ d stack values space light some = omega (arith, some)

made_less : (token : Lexed) (rest : List Lexed) (k d : ℕ) (stack : List Goal) (values : List Value)
    → size (At (token ∷ rest) k d stack values) < 32 * length rest + (33 + load stack)
made_less token rest k d stack values = omega (arith, size_within (token ∷ rest) k d stack values)

-- While something is left to do, a step leaves less.
pub step_less : (end : Place) (tokens : List Lexed) (k d : ℕ) (goal : Goal) (stack : List Goal) (values : List Value)
    → size (step too_deep end (At tokens k d (goal ∷ stack) values)) < size (At tokens k d (goal ∷ stack) values)
unfolding step
step_less end [] k d (make action) stack values = omega arith
step_less end (token ∷ rest) k d (make action) stack values = made_less token rest k d stack (made action values)
step_less end [] k d (want phrase) stack values =
    moved_at_end_less end (enter phrase None end k d) d stack values (weight phrase) (light_end phrase end k d) (some_weight phrase)
step_less end (token ∷ rest) k d (want phrase) stack values =
    moved_less token rest (enter phrase (Some token.what) token.at k d) d stack values (room phrase) (light_enter phrase (Some token.what) token.at k d) (some_room phrase)
