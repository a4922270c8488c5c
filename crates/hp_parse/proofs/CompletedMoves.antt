-- Each move keeps values that belong to what the machine has yet to do.
use Rattle.std.proofs.Common.{◌≡◌, ℕ, zero, suc, Bool, true, false, List, [], ◌∷◌, ◌++◌, Option, Some, None, refl, ap, sym, subst}
use Rattle.std.specs.Prelude.{if◌then◌else◌}
use Rattle.hp_word.specs.declared.place.Place.{Place}
use Rattle.hp_script.specs.declared.tree.UnOp.{UnOp}
use Rattle.hp_script.specs.declared.tree.BinOp.{BinOp}
use Rattle.hp_script.specs.declared.tree.Level.{Level}
use Rattle.hp_script.specs.declared.tree.Level.TheVariants.{Disjunction, Conjunction, Comparison, Sum, Product}
use Rattle.hp_script.specs.declared.token.Keyword.TheVariants as keywords
use Rattle.hp_script.specs.declared.token.Sign.TheVariants as signs
use Rattle.hp_script.specs.Lexemes.{Lexeme, Numeral, Identifier, Quoted, Word, Mark, Newline, Lexed}
use Rattle.hp_script.specs.Grammar.{level_of, unary_of}
use Rattle.hp_parse.specs.Machine as m
use Rattle.hp_parse.specs.Machine.{Phrase, Action, Goal, Value, Move, want, make, expr, arg, args, stmt, stmts, Chain, Tail, Unary, Indexed, Primary, ColumnName, AfterName, AfterDot, Arguments, MoreArguments, Argument, AfterArgumentName, AfterArgument, Bracket, Close, CloseIndex, AssignSign, Line, Statement, AfterBlock, End, EndLine, Block, Body, AfterStatement, MakeUnary, MakeBinary, MakeIndex, MakeCall, MakePlain, MakeRange, MakeLambda, MakeNamed, AppendArgument, MakeAssign, MakePrint, MakeExport, MakeIf, MakeWhile, EmptyBlock, AppendStatement, made, Takes, Deepens, Passes, Refuses, enter, level_eq, Config, At, Refused, Accepted, step, run, Leads, moved, moved_at_end, finished, operand, rest_of_chain}
use Rattle.hp_parse.proofs.Completed.{Sort, AnExpr, SomeArgs, AStmt, SomeStmts, sort_of, sorts, Ends, Fits}

-- what is to be done after a move, with the values that it gives
abbrev pub FitsMove : Move → List Goal → List Sort → Type 0
FitsMove (Takes k d goals given) stack ks = Fits (goals ++ stack) (sorts given ++ ks)
FitsMove (Deepens k d goals given) stack ks = Fits (goals ++ stack) (sorts given ++ ks)
FitsMove (Passes k goals given) stack ks = Fits (goals ++ stack) (sorts given ++ ks)
FitsMove Refuses stack ks = Unit {0}

fits_if : (b : Bool) (x y : Move) (stack : List Goal) (ks : List Sort) → FitsMove x stack ks → FitsMove y stack ks → FitsMove (if b then x else y) stack ks
fits_if true x y stack ks f g = f
fits_if false x y stack ks f g = g

-- nothing stands behind the statements of a script
body_ends : (stack : List Goal) → stack ≡ [] → Ends (want (AfterStatement 0) ∷ stack)
body_ends stack e = subst (λ (goals : List Goal). Ends (want (AfterStatement 0) ∷ goals)) (sym e) (tt, tt)

fits_chain : (level : Level) (k : ℕ) (stack : List Goal) (ks : List Sort) → Fits (want (Chain level) ∷ stack) ks
    → FitsMove (Passes k (operand level ∷ want (Tail level) ∷ []) []) stack ks
fits_chain Disjunction k stack ks h = ((h.0.0, tt), h)
fits_chain Conjunction k stack ks h = ((h.0.0, tt), h)
fits_chain Comparison k stack ks h = ((h.0.0, tt), h)
fits_chain Sum k stack ks h = ((h.0.0, tt), h)
fits_chain Product k stack ks h = ((h.0.0, tt), h)

fits_operand : (level : Level) (k d : ℕ) (at : Place) (op : BinOp) (dotted : Bool) (stack : List Goal) (ks : List Sort) → Fits (want (Tail level) ∷ stack) (AnExpr ∷ ks)
    → FitsMove (Deepens (suc k) (suc d) (operand level ∷ make (MakeBinary k at op dotted) ∷ rest_of_chain level) []) stack (AnExpr ∷ ks)
fits_operand Disjunction k d at op dotted stack ks h = ((h.0.0, tt), h)
fits_operand Conjunction k d at op dotted stack ks h = ((h.0.0, tt), h)
fits_operand Comparison k d at op dotted stack ks h = (h.0, h.1)
fits_operand Sum k d at op dotted stack ks h = ((h.0.0, tt), h)
fits_operand Product k d at op dotted stack ks h = ((h.0.0, tt), h)

fits_tail : (level : Level) (what : Option Lexeme) (at : Place) (k d : ℕ) (stack : List Goal) (ks : List Sort) → Fits (want (Tail level) ∷ stack) (AnExpr ∷ ks)
    → FitsMove (m.tail level what at k d) stack (AnExpr ∷ ks)
fits_tail level (Some (Mark (signs.Operator op dotted))) at k d stack ks h =
    fits_if (level_eq (level_of op) level) _ _ stack (AnExpr ∷ ks) (fits_operand level k d at op dotted stack ks h) h.1
fits_tail level _ at k d stack ks h = h.1

fits_operand_or : (x : Option (UnOp × Bool)) (at : Place) (k d : ℕ) (stack : List Goal) (ks : List Sort) → Fits (want Unary ∷ stack) ks
    → FitsMove (m.operand_or x at k d) stack ks
fits_operand_or None at k d stack ks h = ((h.0.0, tt), h)
fits_operand_or (Some x) at k d stack ks h = h

fits_unary : (what : Option Lexeme) (at : Place) (k d : ℕ) (stack : List Goal) (ks : List Sort) → Fits (want Unary ∷ stack) ks
    → FitsMove (m.unary what at k d) stack ks
fits_unary (Some (Mark sign)) at k d stack ks h = fits_operand_or (unary_of sign) at k d stack ks h
fits_unary _ at k d stack ks h = ((h.0.0, tt), h)

fits_indexed : (what : Option Lexeme) (at : Place) (k d : ℕ) (stack : List Goal) (ks : List Sort) → Fits (want Indexed ∷ stack) (AnExpr ∷ ks)
    → FitsMove (m.indexed what at k d) stack (AnExpr ∷ ks)
fits_indexed (Some (Mark signs.OpenIndex)) at k d stack ks h = ((tt, tt), (tt, h))
fits_indexed _ at k d stack ks h = h.1

fits_primary : (what : Option Lexeme) (at : Place) (k d : ℕ) (stack : List Goal) (ks : List Sort) → Fits (want Primary ∷ stack) ks
    → FitsMove (m.primary what at k d) stack ks
fits_primary (Some (Numeral value)) at k d stack ks h = h.1
fits_primary (Some (Quoted bytes)) at k d stack ks h = h.1
fits_primary (Some (Word keywords.True)) at k d stack ks h = h.1
fits_primary (Some (Word keywords.False)) at k d stack ks h = h.1
fits_primary (Some (Mark signs.Colon)) at k d stack ks h = h
fits_primary (Some (Mark signs.Open)) at k d stack ks h = ((tt, tt), (h.0.1, h.1))
fits_primary (Some (Identifier bytes)) at k d stack ks h = h
fits_primary _ at k d stack ks h = tt

fits_column_name : (id : ℕ) (start : Place) (what : Option Lexeme) (k d : ℕ) (stack : List Goal) (ks : List Sort) → Fits (want (ColumnName id start) ∷ stack) ks
    → FitsMove (m.column_name id start what k d) stack ks
fits_column_name id start (Some (Identifier bytes)) k d stack ks h = h.1
fits_column_name id start _ k d stack ks h = tt

fits_after_name : (id : ℕ) (start : Place) (bytes : List ℕ) (what : Option Lexeme) (k d : ℕ) (stack : List Goal) (ks : List Sort) → Fits (want (AfterName id start bytes) ∷ stack) ks
    → FitsMove (m.after_name id start bytes what k d) stack ks
fits_after_name id start bytes (Some (Mark signs.Dot)) k d stack ks h = h
fits_after_name id start bytes (Some (Mark signs.Open)) k d stack ks h = (h.0.1, h.1)
fits_after_name id start bytes _ k d stack ks h = h.1

fits_after_dot : (id : ℕ) (start : Place) (bytes : List ℕ) (what : Option Lexeme) (k d : ℕ) (stack : List Goal) (ks : List Sort) → Fits (want (AfterDot id start bytes) ∷ stack) ks
    → FitsMove (m.after_dot id start bytes what k d) stack ks
fits_after_dot id start bytes (Some (Identifier column)) k d stack ks h = h.1
fits_after_dot id start bytes (Some (Mark signs.Open)) k d stack ks h = (h.0.1, h.1)
fits_after_dot id start bytes _ k d stack ks h = tt

fits_arguments : (before : ℕ) (what : Option Lexeme) (k d : ℕ) (stack : List Goal) (ks : List Sort) → Fits (want (Arguments before) ∷ stack) (SomeArgs ∷ ks)
    → FitsMove (m.arguments before what k d) stack (SomeArgs ∷ ks)
fits_arguments before (Some (Mark signs.Close)) k d stack ks h = h.1
fits_arguments before _ k d stack ks h = ((tt, tt), h)

fits_more_arguments : (before : ℕ) (what : Option Lexeme) (k d : ℕ) (stack : List Goal) (ks : List Sort) → Fits (want (MoreArguments before) ∷ stack) (SomeArgs ∷ ks)
    → FitsMove (m.more_arguments before what k d) stack (SomeArgs ∷ ks)
fits_more_arguments before (Some (Mark signs.Comma)) k d stack ks h = ((tt, tt), h)
fits_more_arguments before (Some (Mark signs.Close)) k d stack ks h = h.1
fits_more_arguments before _ k d stack ks h = tt

fits_argument : (what : Option Lexeme) (at : Place) (k d : ℕ) (stack : List Goal) (ks : List Sort) → Fits (want Argument ∷ stack) ks
    → FitsMove (m.argument what at k d) stack ks
fits_argument (Some (Identifier bytes)) at k d stack ks h = h
fits_argument _ at k d stack ks h = ((h.0.0, tt), h)

fits_after_argument_name : (at : Place) (bytes : List ℕ) (what : Option Lexeme) (k d : ℕ) (stack : List Goal) (ks : List Sort) → Fits (want (AfterArgumentName at bytes) ∷ stack) ks
    → FitsMove (m.after_argument_name at bytes what k d) stack ks
fits_after_argument_name at bytes (Some (Mark signs.Arrow)) k d stack ks h = h
fits_after_argument_name at bytes (Some (Mark signs.Assign)) k d stack ks h = h
fits_after_argument_name at bytes _ k d stack ks h = ((h.0.0, tt), ((h.0.0, tt), ((h.0.0, tt), ((h.0.0, tt), ((h.0.0, tt), ((h.0.0, tt), ((h.0.0, tt), h)))))))

fits_after_argument : (what : Option Lexeme) (k d : ℕ) (stack : List Goal) (ks : List Sort) → Fits (want AfterArgument ∷ stack) (AnExpr ∷ ks)
    → FitsMove (m.after_argument what k d) stack (AnExpr ∷ ks)
fits_after_argument (Some (Mark signs.Colon)) k d stack ks h = h
fits_after_argument _ k d stack ks h = h.1

fits_bracket : (what : Option Lexeme) (k d : ℕ) (stack : List Goal) (ks : List Sort) → Fits (want Bracket ∷ stack) ks → FitsMove (m.bracket what k d) stack ks
fits_bracket (Some (Mark signs.Open)) k d stack ks h = ((tt, tt), h)
fits_bracket _ k d stack ks h = tt

fits_close : (before : ℕ) (what : Option Lexeme) (k d : ℕ) (stack : List Goal) (ks : List Sort) → Fits (want (Close before) ∷ stack) ks → FitsMove (m.close before what k d) stack ks
fits_close before (Some (Mark signs.Close)) k d stack ks h = h.1
fits_close before _ k d stack ks h = tt

fits_close_index : (before : ℕ) (what : Option Lexeme) (k d : ℕ) (stack : List Goal) (ks : List Sort) → Fits (want (CloseIndex before) ∷ stack) ks
    → FitsMove (m.close_index before what k d) stack ks
fits_close_index before (Some (Mark signs.CloseIndex)) k d stack ks h = h.1
fits_close_index before _ k d stack ks h = tt

fits_assign_sign : (what : Option Lexeme) (k d : ℕ) (stack : List Goal) (ks : List Sort) → Fits (want AssignSign ∷ stack) ks → FitsMove (m.assign_sign what k d) stack ks
fits_assign_sign (Some (Mark signs.Assign)) k d stack ks h = h.1
fits_assign_sign _ k d stack ks h = tt

fits_line : (what : Option Lexeme) (k d : ℕ) (stack : List Goal) (ks : List Sort) → Fits (want Line ∷ stack) ks → FitsMove (m.line what k d) stack ks
fits_line (Some Newline) k d stack ks h = h.1
fits_line _ k d stack ks h = tt

fits_end_line : (before : ℕ) (what : Option Lexeme) (k d : ℕ) (stack : List Goal) (ks : List Sort) → Fits (want (EndLine before) ∷ stack) ks
    → FitsMove (m.end_line before what k d) stack ks
fits_end_line before (Some Newline) k d stack ks h = h.1
fits_end_line before _ k d stack ks h = tt

fits_statement : (what : Option Lexeme) (at : Place) (k d : ℕ) (stack : List Goal) (ks : List Sort) → Fits (want Statement ∷ stack) ks
    → FitsMove (m.statement what at k d) stack ks
fits_statement (Some (Identifier bytes)) at k d stack ks h = (tt, h)
fits_statement (Some (Word keywords.Println)) at k d stack ks h = (h.0.1, h.1)
fits_statement (Some (Word keywords.WriteCsv)) at k d stack ks h = (h.0.1, h.1)
fits_statement (Some (Word keywords.If)) at k d stack ks h = ((tt, tt), (tt, ((tt, tt), (h.0.1, h.1))))
fits_statement (Some (Word keywords.While)) at k d stack ks h = ((tt, tt), (tt, ((tt, tt), (h.0.1, h.1))))
fits_statement _ at k d stack ks h = tt

fits_after_block : (before : ℕ) (start : Place) (what : Option Lexeme) (k d : ℕ) (stack : List Goal) (ks : List Sort)
    → Fits (want (AfterBlock before start) ∷ stack) (SomeStmts ∷ AnExpr ∷ ks) → FitsMove (m.after_block before start what k d) stack (SomeStmts ∷ AnExpr ∷ ks)
fits_after_block before start (Some (Word keywords.Else)) k d stack ks h = (tt, ((tt, tt), h))
fits_after_block before start (Some (Word keywords.End)) k d stack ks h = h.1
fits_after_block before start _ k d stack ks h = tt

fits_end : (before : ℕ) (what : Option Lexeme) (k d : ℕ) (stack : List Goal) (ks : List Sort) → Fits (want (End before) ∷ stack) ks → FitsMove (m.end_word before what k d) stack ks
fits_end before (Some (Word keywords.End)) k d stack ks h = h.1
fits_end before _ k d stack ks h = tt

fits_block : (what : Option Lexeme) (k d : ℕ) (stack : List Goal) (ks : List Sort) → Fits (want Block ∷ stack) (SomeStmts ∷ ks) → FitsMove (m.block what k d) stack (SomeStmts ∷ ks)
fits_block (Some Newline) k d stack ks h = h
fits_block (Some (Identifier bytes)) k d stack ks h = ((tt, tt), (tt, h))
fits_block (Some (Word keywords.Println)) k d stack ks h = ((tt, tt), (tt, h))
fits_block (Some (Word keywords.WriteCsv)) k d stack ks h = ((tt, tt), (tt, h))
fits_block (Some (Word keywords.If)) k d stack ks h = ((tt, tt), (tt, h))
fits_block (Some (Word keywords.While)) k d stack ks h = ((tt, tt), (tt, h))
fits_block _ k d stack ks h = h.1

fits_body : (what : Option Lexeme) (k d : ℕ) (stack : List Goal) (ks : List Sort) → Fits (want Body ∷ stack) (SomeStmts ∷ ks) → FitsMove (m.body what k d) stack (SomeStmts ∷ ks)
fits_body None k d stack ks h = h.1
fits_body (Some Newline) k d stack ks h = h
fits_body _ k d stack ks h = (body_ends stack h.0, h)

fits_after_statement : (before : ℕ) (what : Option Lexeme) (k d : ℕ) (stack : List Goal) (ks : List Sort) → Fits (want (AfterStatement before) ∷ stack) (AStmt ∷ SomeStmts ∷ ks)
    → FitsMove (m.after_statement before what k d) stack (AStmt ∷ SomeStmts ∷ ks)
fits_after_statement before None k d stack ks h = h.1
fits_after_statement before (Some Newline) k d stack ks h = h
fits_after_statement before _ k d stack ks h = tt

-- ---- all phrases

pub fits_enter : (phrase : Phrase) (what : Option Lexeme) (at : Place) (k d : ℕ) (stack : List Goal) (ks : List Sort) → Fits (want phrase ∷ stack) ks
    → FitsMove (enter phrase what at k d) stack ks
unfolding enter
fits_enter (Chain level) what at k d stack ks h = fits_chain level k stack ks h
fits_enter (Tail level) what at k d stack (AnExpr ∷ ks) h = fits_tail level what at k d stack ks h
fits_enter (Tail level) what at k d stack _ h = absurd h.1
fits_enter Unary what at k d stack ks h = fits_unary what at k d stack ks h
fits_enter Indexed what at k d stack (AnExpr ∷ ks) h = fits_indexed what at k d stack ks h
fits_enter Indexed what at k d stack _ h = absurd h.1
fits_enter Primary what at k d stack ks h = fits_primary what at k d stack ks h
fits_enter (ColumnName id start) what at k d stack ks h = fits_column_name id start what k d stack ks h
fits_enter (AfterName id start bytes) what at k d stack ks h = fits_after_name id start bytes what k d stack ks h
fits_enter (AfterDot id start bytes) what at k d stack ks h = fits_after_dot id start bytes what k d stack ks h
fits_enter (Arguments before) what at k d stack (SomeArgs ∷ ks) h = fits_arguments before what k d stack ks h
fits_enter (Arguments before) what at k d stack _ h = absurd h.1
fits_enter (MoreArguments before) what at k d stack (SomeArgs ∷ ks) h = fits_more_arguments before what k d stack ks h
fits_enter (MoreArguments before) what at k d stack _ h = absurd h.1
fits_enter Argument what at k d stack ks h = fits_argument what at k d stack ks h
fits_enter (AfterArgumentName start bytes) what at k d stack ks h = fits_after_argument_name start bytes what k d stack ks h
fits_enter AfterArgument what at k d stack (AnExpr ∷ ks) h = fits_after_argument what k d stack ks h
fits_enter AfterArgument what at k d stack _ h = absurd h.1
fits_enter Bracket what at k d stack ks h = fits_bracket what k d stack ks h
fits_enter (Close before) what at k d stack ks h = fits_close before what k d stack ks h
fits_enter (CloseIndex before) what at k d stack ks h = fits_close_index before what k d stack ks h
fits_enter AssignSign what at k d stack ks h = fits_assign_sign what k d stack ks h
fits_enter Line what at k d stack ks h = fits_line what k d stack ks h
fits_enter Statement what at k d stack ks h = fits_statement what at k d stack ks h
fits_enter (AfterBlock before start) what at k d stack (SomeStmts ∷ AnExpr ∷ ks) h = fits_after_block before start what k d stack ks h
fits_enter (AfterBlock before start) what at k d stack _ h = absurd h.1
fits_enter (End before) what at k d stack ks h = fits_end before what k d stack ks h
fits_enter (EndLine before) what at k d stack ks h = fits_end_line before what k d stack ks h
fits_enter Block what at k d stack (SomeStmts ∷ ks) h = fits_block what k d stack ks h
fits_enter Block what at k d stack _ h = absurd h.1
fits_enter Body what at k d stack (SomeStmts ∷ ks) h = fits_body what k d stack ks h
fits_enter Body what at k d stack _ h = absurd h.1
fits_enter (AfterStatement before) what at k d stack (AStmt ∷ SomeStmts ∷ ks) h = fits_after_statement before what k d stack ks h
fits_enter (AfterStatement before) what at k d stack _ h = absurd h.1

pub fits_made : (action : Action) (stack : List Goal) (values : List Value) → Fits (make action ∷ stack) (sorts values) → Fits stack (sorts (made action values))
fits_made (MakeUnary k at op dotted) stack (expr x ∷ values) h = h
fits_made (MakeBinary k at op dotted) stack (expr y ∷ expr x ∷ values) h = h
fits_made (MakeIndex k at) stack (expr y ∷ expr x ∷ values) h = h
fits_made (MakeCall k at bytes dotted) stack (args xs ∷ values) h = h
fits_made MakePlain stack (expr x ∷ values) h = h
fits_made MakeRange stack (expr y ∷ expr x ∷ values) h = h
fits_made (MakeLambda bytes) stack (expr x ∷ values) h = h
fits_made (MakeNamed bytes at) stack (expr x ∷ values) h = h
fits_made AppendArgument stack (arg x ∷ args xs ∷ values) h = h
fits_made (MakeAssign at bytes) stack (expr x ∷ values) h = h
fits_made (MakePrint at) stack (expr x ∷ values) h = h
fits_made (MakeExport at) stack (expr x ∷ values) h = h
fits_made (MakeIf at) stack (stmts other ∷ stmts body ∷ expr test ∷ values) h = h
fits_made (MakeWhile at) stack (stmts body ∷ expr test ∷ values) h = h
fits_made EmptyBlock stack values h = h
fits_made AppendStatement stack (stmt x ∷ stmts xs ∷ values) h = h
fits_made _ stack _ h = absurd h

-- ---- steps and runs

-- the values at a configuration belong to what is to be done there
abbrev pub FitsAt : Config → Type 0
FitsAt (At tokens k d stack values) = Fits stack (sorts values)
FitsAt _ = Unit {0}

sorts_joined : (given values : List Value) → sorts given ++ sorts values ≡ sorts (given ++ values)
sorts_joined [] values = refl
sorts_joined (value ∷ given) values = ap (λ (ks : List Sort). sort_of value ∷ ks) (sorts_joined given values)

pub fits_joined : (stack : List Goal) (given values : List Value) → Fits stack (sorts given ++ sorts values) → Fits stack (sorts (given ++ values))
fits_joined stack given values h = subst (Fits stack) (sorts_joined given values) h

fits_unless : (b : Bool) (x y : Config) → FitsAt x → FitsAt y → FitsAt (if b then x else y)
fits_unless true x y f g = f
fits_unless false x y f g = g

pub fits_moved : (is_deep : ℕ → Bool) (token : Lexed) (rest : List Lexed) (move : Move) (d : ℕ) (stack : List Goal) (values : List Value) → FitsMove move stack (sorts values)
    → FitsAt (moved is_deep token rest move d stack values)
fits_moved is_deep token rest (Takes k e goals given) d stack values h = fits_joined (goals ++ stack) given values h
fits_moved is_deep token rest (Deepens k e goals given) d stack values h = fits_unless (is_deep e) _ _ tt (fits_joined (goals ++ stack) given values h)
fits_moved is_deep token rest (Passes k goals given) d stack values h = fits_joined (goals ++ stack) given values h
fits_moved is_deep token rest Refuses d stack values h = tt

fits_moved_at_end : (end : Place) (move : Move) (d : ℕ) (stack : List Goal) (values : List Value) → FitsMove move stack (sorts values)
    → FitsAt (moved_at_end end move d stack values)
fits_moved_at_end end (Passes k goals given) d stack values h = fits_joined (goals ++ stack) given values h
fits_moved_at_end end _ d stack values h = tt

fits_finished : (values : List Value) (k : ℕ) → Fits [] (sorts values) → FitsAt (finished values k)
fits_finished (stmts body ∷ []) k h = tt
fits_finished _ k h = h

fits_step : (is_deep : ℕ → Bool) (end : Place) (c : Config) → FitsAt c → FitsAt (step is_deep end c)
unfolding step
fits_step is_deep end (At tokens k d [] values) h = fits_finished values k h
fits_step is_deep end (At tokens k d (make action ∷ stack) values) h = fits_made action stack values h
fits_step is_deep end (At [] k d (want phrase ∷ stack) values) h =
    fits_moved_at_end end (enter phrase None end k d) d stack values (fits_enter phrase None end k d stack (sorts values) h)
fits_step is_deep end (At (token ∷ rest) k d (want phrase ∷ stack) values) h =
    fits_moved is_deep token rest (enter phrase (Some token.what) token.at k d) d stack values (fits_enter phrase (Some token.what) token.at k d stack (sorts values) h)
fits_step is_deep end (Refused place rule) h = h
fits_step is_deep end (Accepted body nodes) h = h

fits_run : (is_deep : ℕ → Bool) (end : Place) (n : ℕ) (c : Config) → FitsAt c → FitsAt (run is_deep end n c)
unfolding run
fits_run is_deep end zero c h = h
fits_run is_deep end (suc n) c h = fits_run is_deep end n (step is_deep end c) (fits_step is_deep end c h)

pub fits_leads : {is_deep : ℕ → Bool} {end : Place} {a b : Config} → Leads is_deep end a b → FitsAt a → FitsAt b
fits_leads {is_deep} {end} {a} {b} l h = subst FitsAt l.run_is (fits_run is_deep end l.steps a h)
