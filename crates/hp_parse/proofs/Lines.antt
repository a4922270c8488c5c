-- What each phrase of a statement, a block and a body does at its next token.
use Rattle.std.proofs.Common.{◌≡◌, ℕ, suc, ◌≤◌, ◌<◌, Bool, true, false, List, [], ◌∷◌, ◌++◌, Option, Some, None, refl, sym, ap, subst, ◌∙◌}
use Rattle.std.specs.Prelude.{◌≢◌, Result, Ok, Err, IfErr}
use Rattle.std.specs.Result.{IsErr, IsErrAnd}
use denote.Bor.{Bor}
use Rattle.hp_script.specs.declared.token.Lexeme.{Lexeme as SeenLexeme}
use Rattle.hp_script.specs.declared.token.Lexeme.TheVariants as seen_as
use Rattle.hp_script.specs.declared.token.Token.{Token}
use Rattle.hp_script.specs.declared.rule.Rule.{Rule}
use Rattle.hp_parse.specs.Machine.{Refused as off}
use Rattle.hp_word.specs.declared.name.Name.{Name}
use Rattle.hp_word.specs.declared.place.Place.{Place}
use Rattle.hp_script.specs.declared.tree.Level.TheVariants.{Disjunction}
use Rattle.hp_script.specs.declared.tree.Expr.{Expr}
use Rattle.hp_script.specs.declared.tree.Stmt.{Stmt}
use Rattle.hp_script.specs.declared.tree.Stmt.TheViews as stmt_views
use Rattle.hp_script.specs.declared.tree.Stmt.TheVariants as stmt_kinds
use Rattle.hp_script.specs.declared.token.Keyword.{Keyword}
use Rattle.hp_script.specs.declared.token.Keyword.TheVariants as keywords
use Rattle.hp_script.specs.declared.token.Sign.TheVariants as signs
use Rattle.hp_script.specs.Lexemes.{Lexeme, Numeral, Identifier, Quoted, Word, Mark, Newline, Lexed, lexed, seen}
use Rattle.hp_script.specs.Trees.{named}
use Rattle.hp_script.specs.Depth.{deepest}
use Rattle.hp_parse.specs.declared.error.ParseError.{ParseError}
use Rattle.hp_parse.specs.Machine.{Goal, Value, expr, stmt, stmts, want, make, Phrase, Chain, Bracket, AssignSign, Line, Statement, AfterBlock, End, EndLine, Block, Body, AfterStatement, Action, MakeAssign, MakePrint, MakeExport, MakeIf, MakeWhile, EmptyBlock, AppendStatement, Accepted, Takes, Deepens, Passes, Refuses, enter, step, run, start, Leads, too_deep}
use Rattle.hp_parse.specs.Parsing.{end_of}
use Rattle.hp_parse.specs.Readers.{Reader, next, here, behind, behind_at, sign_in, word_in, begins_statement, syntax_at, too_deep_at, config, Brackets, Reaches, Stops, Finishes, EndsConditional, StopsConditional, TurnsDown, reader_at}
use Rattle.hp_parse.proofs.Runs.{leads_then}
use Rattle.hp_parse.proofs.Steps.{steps_to, at_end, reaches_then, stops_after, beside, over, stops_beside, makes, takes, deepens, stops_deep, passes, refuses}
use Rattle.hp_parse.proofs.Phrases.{reaches_to, sign_next, word_next}

-- a statement made
pub reaches_stmt : {old new : Reader} {goals left : List Goal} {given made : List Value} {x y : Stmt} → x ≡ y
    → Reaches old goals given new left (stmt y ∷ made) → Reaches old goals given new left (stmt x ∷ made)
reaches_stmt {old} {new} {goals} {left} {given} {made} {x} {y} e f = subst (λ (z : Stmt). Reaches old goals given new left (stmt z ∷ made)) (sym e) f

pub reaches_stmts : {old new : Reader} {goals left : List Goal} {given made : List Value} {xs ys : List Stmt} → xs ≡ ys
    → Reaches old goals given new left (stmts ys ∷ made) → Reaches old goals given new left (stmts xs ∷ made)
reaches_stmts {old} {new} {goals} {left} {given} {made} {xs} {ys} e f = subst (λ (zs : List Stmt). Reaches old goals given new left (stmts zs ∷ made)) (sym e) f

-- ---- assignments

-- what is wanted behind the name of an assignment
abbrev pub in_assignment : Place → List ℕ → List Goal
in_assignment at bytes = want AssignSign ∷ want (Chain Disjunction) ∷ make (MakeAssign at bytes) ∷ []

name_move : (bytes : List ℕ) (at : Place) (k d : ℕ) → enter Statement (Some (Identifier bytes)) at k d ≡ Takes k d (in_assignment at bytes) []
unfolding enter
name_move bytes at k d = refl

pub name_begins : {r mid : Reader} {bytes : List ℕ} → next r ≡ Some (Identifier bytes) → mid ≡ behind r → Reaches r (want Statement ∷ []) [] mid (in_assignment (here r) bytes) []
name_begins {r} {mid} {bytes} e taken = reaches_to taken (takes r Statement (Identifier bytes) r.number r.depth (in_assignment (here r) bytes) [] e (name_move bytes (here r) r.number r.depth))

assign_move : (at : Place) (k d : ℕ) → enter AssignSign (Some (Mark signs.Assign)) at k d ≡ Takes k d [] []
unfolding enter
assign_move at k d = refl

assign_none : (o : Option Lexeme) (at : Place) (k d : ℕ) → sign_in o ≢ Some signs.Assign → enter AssignSign o at k d ≡ Refuses
unfolding enter
assign_none (Some (Mark signs.Assign)) at k d other = absurd (other refl)
assign_none _ at k d other = refl

pub assign_taken : {r new : Reader} → (sign_in (next r) ≡ Some signs.Assign) × (new ≡ behind r) → Reaches r (want AssignSign ∷ []) [] new [] []
assign_taken {r} {new} e = reaches_to e.1 (takes r AssignSign (Mark signs.Assign) r.number r.depth [] [] (sign_next (next r) signs.Assign e.0) (assign_move (here r) r.number r.depth))

pub no_assign : {r : Reader} {error : ParseError} → (error ≡ syntax_at r) × (sign_in (next r) ≢ Some signs.Assign) → Stops r (want AssignSign ∷ []) [] error
no_assign {r} {error} e = refuses r AssignSign error (assign_none (next r) (here r) r.number r.depth e.1) e.0

pub assignment_read : {r mid new done : Reader} {bytes : List ℕ} {at : Place} {name : Name} {x : Expr} → next r ≡ Some (Identifier bytes) → at ≡ here r → mid ≡ behind r
    → (sign_in (next mid) ≡ Some signs.Assign) × (new ≡ behind mid) → Reaches new (want (Chain Disjunction) ∷ []) [] done [] (expr x ∷ []) → name.bytes ≡ bytes
    → Reaches r (want Statement ∷ []) [] done [] (stmt (stmt_kinds.Assign at name x) ∷ [])
assignment_read {r} {mid} {new} {done} {bytes} {at} {name} {x} e place taken sign read is =
    let same : named bytes ≡ name = ap named (sym is) in
    rw place (subst (λ (n : Name). Reaches r (want Statement ∷ []) [] done [] (stmt (stmt_kinds.Assign (here r) n x) ∷ [])) same
    (reaches_then (name_begins e taken)
    (reaches_then (beside (want (Chain Disjunction) ∷ make (MakeAssign (here r) bytes) ∷ []) [] (assign_taken sign))
    (reaches_then (beside (make (MakeAssign (here r) bytes) ∷ []) [] read)
    (makes done (MakeAssign (here r) bytes) (expr x ∷ []) (stmt (stmt_kinds.Assign (here r) (named bytes) x) ∷ []) (λ values. refl))))))

-- ---- output

println_move : (at : Place) (k d : ℕ) → enter Statement (Some (Word keywords.Println)) at k d ≡ Takes k d (want Bracket ∷ make (MakePrint at) ∷ []) []
unfolding enter
println_move at k d = refl

export_move : (at : Place) (k d : ℕ) → enter Statement (Some (Word keywords.WriteCsv)) at k d ≡ Takes k d (want Bracket ∷ make (MakeExport at) ∷ []) []
unfolding enter
export_move at k d = refl

pub println_taken : {r mid : Reader} → next r ≡ Some (Word keywords.Println) → mid ≡ behind r → Reaches r (want Statement ∷ []) [] mid (want Bracket ∷ make (MakePrint (here r)) ∷ []) []
println_taken {r} {mid} e taken = reaches_to taken (takes r Statement (Word keywords.Println) r.number r.depth (want Bracket ∷ make (MakePrint (here r)) ∷ []) [] e (println_move (here r) r.number r.depth))

pub export_taken : {r mid : Reader} → next r ≡ Some (Word keywords.WriteCsv) → mid ≡ behind r → Reaches r (want Statement ∷ []) [] mid (want Bracket ∷ make (MakeExport (here r)) ∷ []) []
export_taken {r} {mid} e taken = reaches_to taken (takes r Statement (Word keywords.WriteCsv) r.number r.depth (want Bracket ∷ make (MakeExport (here r)) ∷ []) [] e (export_move (here r) r.number r.depth))

pub print_read : {r mid done : Reader} {at : Place} {x : Expr} → next r ≡ Some (Word keywords.Println) → at ≡ here r → mid ≡ behind r
    → Reaches mid (want Bracket ∷ []) [] done [] (expr x ∷ []) → Reaches r (want Statement ∷ []) [] done [] (stmt (stmt_kinds.Print at x) ∷ [])
print_read {r} {mid} {done} {at} {x} e place taken read =
    rw place (reaches_then (println_taken e taken) (reaches_then (beside (make (MakePrint (here r)) ∷ []) [] read)
    (makes done (MakePrint (here r)) (expr x ∷ []) (stmt (stmt_kinds.Print (here r) x) ∷ []) (λ values. refl))))

pub export_read : {r mid done : Reader} {at : Place} {x : Expr} → next r ≡ Some (Word keywords.WriteCsv) → at ≡ here r → mid ≡ behind r
    → Reaches mid (want Bracket ∷ []) [] done [] (expr x ∷ []) → Reaches r (want Statement ∷ []) [] done [] (stmt (stmt_kinds.Export at x) ∷ [])
export_read {r} {mid} {done} {at} {x} e place taken read =
    rw place (reaches_then (export_taken e taken) (reaches_then (beside (make (MakeExport (here r)) ∷ []) [] read)
    (makes done (MakeExport (here r)) (expr x ∷ []) (stmt (stmt_kinds.Export (here r) x) ∷ []) (λ values. refl))))

bracket_move : (at : Place) (k d : ℕ) (o : Option Lexeme) → o ≡ Some (Mark signs.Open) → enter Bracket o at k d ≡ enter Bracket (Some (Mark signs.Open)) at k d
bracket_move at k d o e = ap (λ (o : Option Lexeme). enter Bracket o at k d) e

pub bracket_brackets : (r : Reader) → sign_in (next r) ≡ Some signs.Open → Brackets Bracket r
unfolding enter
bracket_brackets r e = bracket_move (here r) r.number r.depth (next r) (sign_next (next r) signs.Open e)

bracket_none : (o : Option Lexeme) (at : Place) (k d : ℕ) → sign_in o ≢ Some signs.Open → enter Bracket o at k d ≡ Refuses
unfolding enter
bracket_none (Some (Mark signs.Open)) at k d other = absurd (other refl)
bracket_none _ at k d other = refl

pub no_bracket : {r : Reader} {error : ParseError} → sign_in (next r) ≢ Some signs.Open → error ≡ syntax_at r → Stops r (want Bracket ∷ []) [] error
no_bracket {r} {error} other e = refuses r Bracket error (bracket_none (next r) (here r) r.number r.depth other) e

-- ---- a statement that does not begin

pub data BeginsNoStatement : Option Lexeme → Type 0 where
  at_the_end : BeginsNoStatement None
  at_word : (word : Keyword) → word ≢ keywords.Println → word ≢ keywords.WriteCsv → word ≢ keywords.If → word ≢ keywords.While → BeginsNoStatement (Some (Word word))
  at_other : (what : Lexeme) → ((bytes : List ℕ) → what ≢ Identifier bytes) → ((word : Keyword) → what ≢ Word word) → BeginsNoStatement (Some what)

word_none : (word : Keyword) (at : Place) (k d : ℕ) → word ≢ keywords.Println → word ≢ keywords.WriteCsv → word ≢ keywords.If → word ≢ keywords.While → enter Statement (Some (Word word)) at k d ≡ Refuses
unfolding enter
word_none keywords.Println at k d a b e f = absurd (a refl)
word_none keywords.WriteCsv at k d a b e f = absurd (b refl)
word_none keywords.If at k d a b e f = absurd (e refl)
word_none keywords.While at k d a b e f = absurd (f refl)
word_none _ at k d a b e f = refl

other_none : (what : Lexeme) (at : Place) (k d : ℕ) → ((bytes : List ℕ) → what ≢ Identifier bytes) → ((word : Keyword) → what ≢ Word word) → enter Statement (Some what) at k d ≡ Refuses
unfolding enter
other_none (Identifier bytes) at k d a b = absurd (a bytes refl)
other_none (Word word) at k d a b = absurd (b word refl)
other_none _ at k d a b = refl

statement_none : {o : Option Lexeme} (at : Place) (k d : ℕ) → BeginsNoStatement o → enter Statement o at k d ≡ Refuses
unfolding enter
statement_none at k d at_the_end = refl
statement_none at k d (at_word w a b e f) = word_none w at k d a b e f
statement_none at k d (at_other what a b) = other_none what at k d a b

-- what the code has seen is no name and no word
pub seen_other : (next : SeenLexeme) → ((bytes : Bor (List ℕ)) → next ≢ seen_as.Identifier bytes) → ((word : Keyword) → next ≢ seen_as.Word word) → BeginsNoStatement (Some (seen next))
seen_other (seen_as.Identifier bytes) a b = absurd (a bytes refl)
seen_other (seen_as.Word word) a b = absurd (b word refl)
seen_other (seen_as.Numeral value) a b = at_other (Numeral value) (λ bytes e. cc) (λ word e. cc)
seen_other (seen_as.Quoted bytes) a b = at_other (Quoted bytes.now) (λ name e. cc) (λ word e. cc)
seen_other (seen_as.Mark sign) a b = at_other (Mark sign) (λ bytes e. cc) (λ word e. cc)
seen_other seen_as.Newline a b = at_other Newline (λ bytes e. cc) (λ word e. cc)

pub statement_stops : {r : Reader} {error : ParseError} → BeginsNoStatement (next r) → error ≡ syntax_at r → Stops r (want Statement ∷ []) [] error
statement_stops {r} {error} none e = refuses r Statement error (statement_none (here r) r.number r.depth none) e

-- ---- conditions and their blocks

-- a condition, its newline and a block
abbrev pub in_test : List Goal → List Goal
in_test more = want (Chain Disjunction) ∷ want Line ∷ make EmptyBlock ∷ want Block ∷ more

if_move : (at : Place) (k d : ℕ) → enter Statement (Some (Word keywords.If)) at k d ≡ Deepens k (suc d) (in_test (want (AfterBlock d at) ∷ [])) []
unfolding enter
if_move at k d = refl

while_move : (at : Place) (k d : ℕ) → enter Statement (Some (Word keywords.While)) at k d ≡ Deepens k (suc d) (in_test (want (End d) ∷ make (MakeWhile at) ∷ [])) []
unfolding enter
while_move at k d = refl

pub if_opens : {r mid : Reader} → next r ≡ Some (Word keywords.If) → (mid ≡ behind_at r r.number (suc r.depth)) × (suc r.depth ≤ deepest)
    → Reaches r (want Statement ∷ []) [] mid (in_test (want (AfterBlock r.depth (here r)) ∷ [])) []
if_opens {r} {mid} e opened = reaches_to opened.0 (deepens r Statement (Word keywords.If) r.number (suc r.depth) (in_test (want (AfterBlock r.depth (here r)) ∷ [])) [] e (if_move (here r) r.number r.depth) opened.1)

pub if_too_deep : {r : Reader} {error : ParseError} → next r ≡ Some (Word keywords.If) → (error ≡ too_deep_at r) × (deepest < suc r.depth) → Stops r (want Statement ∷ []) [] error
if_too_deep {r} {error} e deep = stops_deep r Statement (Word keywords.If) r.number (suc r.depth) (in_test (want (AfterBlock r.depth (here r)) ∷ [])) [] error e (if_move (here r) r.number r.depth) deep

pub while_opens : {r mid : Reader} → next r ≡ Some (Word keywords.While) → (mid ≡ behind_at r r.number (suc r.depth)) × (suc r.depth ≤ deepest)
    → Reaches r (want Statement ∷ []) [] mid (in_test (want (End r.depth) ∷ make (MakeWhile (here r)) ∷ [])) []
while_opens {r} {mid} e opened = reaches_to opened.0 (deepens r Statement (Word keywords.While) r.number (suc r.depth) (in_test (want (End r.depth) ∷ make (MakeWhile (here r)) ∷ [])) [] e (while_move (here r) r.number r.depth) opened.1)

pub while_too_deep : {r : Reader} {error : ParseError} → next r ≡ Some (Word keywords.While) → (error ≡ too_deep_at r) × (deepest < suc r.depth) → Stops r (want Statement ∷ []) [] error
while_too_deep {r} {error} e deep = stops_deep r Statement (Word keywords.While) r.number (suc r.depth) (in_test (want (End r.depth) ∷ make (MakeWhile (here r)) ∷ [])) [] error e (while_move (here r) r.number r.depth) deep

line_move : (at : Place) (k d : ℕ) → enter Line (Some Newline) at k d ≡ Takes k d [] []
unfolding enter
line_move at k d = refl

line_none : (o : Option Lexeme) (at : Place) (k d : ℕ) → o ≢ Some Newline → enter Line o at k d ≡ Refuses
unfolding enter
line_none (Some Newline) at k d other = absurd (other refl)
line_none _ at k d other = refl

pub line_taken : {r new : Reader} → (next r ≡ Some Newline) × (new ≡ behind r) → Reaches r (want Line ∷ []) [] new [] []
line_taken {r} {new} e = reaches_to e.1 (takes r Line Newline r.number r.depth [] [] e.0 (line_move (here r) r.number r.depth))

pub no_line : {r : Reader} {error : ParseError} → (error ≡ syntax_at r) × (next r ≢ Some Newline) → Stops r (want Line ∷ []) [] error
no_line {r} {error} e = refuses r Line error (line_none (next r) (here r) r.number r.depth e.1) e.0

-- up to the block
pub line_then_block : {r new : Reader} → (next r ≡ Some Newline) × (new ≡ behind r) → Reaches r (want Line ∷ make EmptyBlock ∷ want Block ∷ []) [] new (want Block ∷ []) (stmts [] ∷ [])
line_then_block {r} {new} e =
    reaches_then (beside (make EmptyBlock ∷ want Block ∷ []) [] (line_taken e)) (beside (want Block ∷ []) [] (makes new EmptyBlock [] (stmts [] ∷ []) (λ values. refl)))

pub test_read : {r mid new : Reader} {test : Expr} (more : List Goal) → Reaches r (want (Chain Disjunction) ∷ []) [] mid [] (expr test ∷ [])
    → (next mid ≡ Some Newline) × (new ≡ behind mid) → Reaches r (in_test more) [] new (want Block ∷ more) (stmts [] ∷ expr test ∷ [])
test_read {r} {mid} {new} {test} more read line =
    reaches_then (beside (want Line ∷ make EmptyBlock ∷ want Block ∷ more) [] read) (beside more (expr test ∷ []) (line_then_block line))

pub body_read : {r mid new done : Reader} {test : Expr} {body : List Stmt} (more : List Goal) → Reaches r (want (Chain Disjunction) ∷ []) [] mid [] (expr test ∷ [])
    → (next mid ≡ Some Newline) × (new ≡ behind mid) → Reaches new (want Block ∷ []) (stmts [] ∷ []) done [] (stmts body ∷ [])
    → Reaches r (in_test more) [] done more (stmts body ∷ expr test ∷ [])
body_read {r} {mid} {new} {done} {test} {body} more read line block = reaches_then (test_read more read line) (beside more (expr test ∷ []) block)

-- ---- the end of a conditional

-- what is wanted behind an `else`
abbrev pub in_else : ℕ → Place → List Goal
in_else before at = want Line ∷ make EmptyBlock ∷ want Block ∷ want (End before) ∷ make (MakeIf at) ∷ []

else_move : (before : ℕ) (at : Place) (here_ : Place) (k d : ℕ) → enter (AfterBlock before at) (Some (Word keywords.Else)) here_ k d ≡ Takes k d (in_else before at) []
unfolding enter
else_move before at here_ k d = refl

pub else_taken : {r mid : Reader} {before : ℕ} {at : Place} → (word_in (next r) ≡ Some keywords.Else) × (mid ≡ behind r) → Reaches r (want (AfterBlock before at) ∷ []) [] mid (in_else before at) []
else_taken {r} {mid} {before} {at} e =
    reaches_to e.1 (takes r (AfterBlock before at) (Word keywords.Else) r.number r.depth (in_else before at) [] (word_next (next r) keywords.Else e.0) (else_move before at (here r) r.number r.depth))

alone_move : (before : ℕ) (at : Place) (here_ : Place) (k d : ℕ) → enter (AfterBlock before at) (Some (Word keywords.End)) here_ k d ≡ Takes k before (make EmptyBlock ∷ make (MakeIf at) ∷ []) []
unfolding enter
alone_move before at here_ k d = refl

alone_none : (before : ℕ) (at : Place) (o : Option Lexeme) (here_ : Place) (k d : ℕ) → word_in o ≢ Some keywords.Else → word_in o ≢ Some keywords.End → enter (AfterBlock before at) o here_ k d ≡ Refuses
unfolding enter
alone_none before at (Some (Word keywords.Else)) here_ k d a b = absurd (a refl)
alone_none before at (Some (Word keywords.End)) here_ k d a b = absurd (b refl)
alone_none before at _ here_ k d a b = refl

pub alone_ended : {r new : Reader} {before depth : ℕ} {at : Place} {test : Expr} {body : List Stmt} → before ≡ depth → (word_in (next r) ≡ Some keywords.End) × (new ≡ behind_at r r.number before)
    → Reaches r (want (AfterBlock depth at) ∷ []) (stmts body ∷ expr test ∷ []) new [] (stmt (stmt_views.If at test body []) ∷ [])
alone_ended {r} {new} {before} {depth} {at} {test} {body} same e =
    reaches_then (over (stmts body ∷ expr test ∷ []) (reaches_to (e.1 ∙ ap (behind_at r r.number) same)
    (takes r (AfterBlock depth at) (Word keywords.End) r.number depth (make EmptyBlock ∷ make (MakeIf at) ∷ []) [] (word_next (next r) keywords.End e.0) (alone_move depth at (here r) r.number r.depth))))
    (reaches_then (beside (make (MakeIf at) ∷ []) (stmts body ∷ expr test ∷ []) (makes new EmptyBlock [] (stmts [] ∷ []) (λ values. refl)))
    (makes new (MakeIf at) (stmts [] ∷ stmts body ∷ expr test ∷ []) (stmt (stmt_views.If at test body []) ∷ []) (λ values. refl)))

pub alone_not_ended : {r : Reader} {depth : ℕ} {at : Place} {error : ParseError} → word_in (next r) ≢ Some keywords.Else → (error ≡ syntax_at r) × (word_in (next r) ≢ Some keywords.End)
    → Stops r (want (AfterBlock depth at) ∷ []) [] error
alone_not_ended {r} {depth} {at} {error} no_else e = refuses r (AfterBlock depth at) error (alone_none depth at (next r) (here r) r.number r.depth no_else e.1) e.0

end_move : (before : ℕ) (at : Place) (k d : ℕ) → enter (End before) (Some (Word keywords.End)) at k d ≡ Takes k before [] []
unfolding enter
end_move before at k d = refl

end_none : (before : ℕ) (o : Option Lexeme) (at : Place) (k d : ℕ) → word_in o ≢ Some keywords.End → enter (End before) o at k d ≡ Refuses
unfolding enter
end_none before (Some (Word keywords.End)) at k d other = absurd (other refl)
end_none before _ at k d other = refl

pub ended : {r new : Reader} {before depth : ℕ} → before ≡ depth → (word_in (next r) ≡ Some keywords.End) × (new ≡ behind_at r r.number before) → Reaches r (want (End depth) ∷ []) [] new [] []
ended {r} {new} {before} {depth} same e =
    reaches_to (e.1 ∙ ap (behind_at r r.number) same) (takes r (End depth) (Word keywords.End) r.number depth [] [] (word_next (next r) keywords.End e.0) (end_move depth (here r) r.number r.depth))

pub not_ended : {r : Reader} {depth : ℕ} {error : ParseError} → (error ≡ syntax_at r) × (word_in (next r) ≢ Some keywords.End) → Stops r (want (End depth) ∷ []) [] error
not_ended {r} {depth} {error} e = refuses r (End depth) error (end_none depth (next r) (here r) r.number r.depth e.1) e.0

-- the end of a `while`
pub while_read : {r done : Reader} {before depth : ℕ} {at : Place} {test : Expr} {body : List Stmt} → before ≡ depth → (word_in (next r) ≡ Some keywords.End) × (done ≡ behind_at r r.number before)
    → Reaches r (want (End depth) ∷ make (MakeWhile at) ∷ []) (stmts body ∷ expr test ∷ []) done [] (stmt (stmt_views.While at test body) ∷ [])
while_read {r} {done} {before} {depth} {at} {test} {body} same e =
    reaches_then (beside (make (MakeWhile at) ∷ []) (stmts body ∷ expr test ∷ []) (ended same e))
    (makes done (MakeWhile at) (stmts body ∷ expr test ∷ []) (stmt (stmt_views.While at test body) ∷ []) (λ values. refl))

-- behind an `else`
pub else_read : {r mid new done : Reader} {before depth : ℕ} {at : Place} {test : Expr} {body other : List Stmt} → (next r ≡ Some Newline) × (mid ≡ behind r)
    → Reaches mid (want Block ∷ []) (stmts [] ∷ []) new [] (stmts other ∷ []) → before ≡ depth → (word_in (next new) ≡ Some keywords.End) × (done ≡ behind_at new new.number before)
    → Reaches r (in_else depth at) (stmts body ∷ expr test ∷ []) done [] (stmt (stmt_views.If at test body other) ∷ [])
else_read {r} {mid} {new} {done} {before} {depth} {at} {test} {body} {other} line block same e =
    reaches_then (beside (want (End depth) ∷ make (MakeIf at) ∷ []) (stmts body ∷ expr test ∷ []) (line_then_block line))
    (reaches_then (beside (want (End depth) ∷ make (MakeIf at) ∷ []) (stmts body ∷ expr test ∷ []) block)
    (reaches_then (beside (make (MakeIf at) ∷ []) (stmts other ∷ stmts body ∷ expr test ∷ []) (ended same e))
    (makes done (MakeIf at) (stmts other ∷ stmts body ∷ expr test ∷ []) (stmt (stmt_views.If at test body other) ∷ []) (λ values. refl))))

-- a conditional by what was read behind its block, down to the depth at which it began
pub rest_stops : {r : Reader} {before depth : ℕ} {error : ParseError} (at : Place) → before ≡ depth → StopsConditional before r error → Stops r (want (AfterBlock depth at) ∷ []) [] error
rest_stops {r} {before} {depth} {error} at same stops = subst (λ (d : ℕ). Stops r (want (AfterBlock d at) ∷ []) [] error) same (stops at)

pub rest_read : {r new : Reader} {before depth : ℕ} (at : Place) (test : Expr) (body other : List Stmt) → before ≡ depth → EndsConditional before r other new
    → Reaches r (want (AfterBlock depth at) ∷ []) (stmts body ∷ expr test ∷ []) new [] (stmt (stmt_views.If at test body other) ∷ [])
rest_read {r} {new} {before} {depth} at test body other same reads =
    subst (λ (d : ℕ). Reaches r (want (AfterBlock d at) ∷ []) (stmts body ∷ expr test ∷ []) new [] (stmt (stmt_views.If at test body other) ∷ [])) same (reads at test body)

pub thrown_rest : {A : Type 0} {r : Reader} {error : ParseError} (before : ℕ) (result : Result A ParseError) → IsErr result × IsErrAnd result (λ e. e ≡ error)
    → StopsConditional before r error → IfErr result (StopsConditional before r)
thrown_rest {A} {r} {error} before (Ok x) h stops = tt
thrown_rest {A} {r} {error} before (Err e) h stops = λ at. subst (λ (e : ParseError). Stops r (want (AfterBlock before at) ∷ []) [] e) (sym h.1) (stops at)

-- ---- blocks

blank_move : (at : Place) (k d : ℕ) → enter Block (Some Newline) at k d ≡ Takes k d (want Block ∷ []) []
unfolding enter
blank_move at k d = refl

pub blank_taken : {r new : Reader} → (next r ≡ Some Newline) × (new ≡ behind r) → Reaches r (want Block ∷ []) [] new (want Block ∷ []) []
blank_taken {r} {new} e = reaches_to e.1 (takes r Block Newline r.number r.depth (want Block ∷ []) [] e.0 (blank_move (here r) r.number r.depth))

-- a statement of a block, and what follows it
abbrev pub in_block : ℕ → List Goal
in_block depth = want Statement ∷ want (EndLine depth) ∷ make AppendStatement ∷ want Block ∷ []

statement_word : (word : Keyword) (at : Place) (k d : ℕ) → begins_statement (Some (Word word)) ≡ true → enter Block (Some (Word word)) at k d ≡ Passes k (in_block d) []
unfolding enter
statement_word keywords.Println at k d e = refl
statement_word keywords.WriteCsv at k d e = refl
statement_word keywords.If at k d e = refl
statement_word keywords.While at k d e = refl
statement_word _ at k d e = absurd cc

statement_move : (o : Option Lexeme) (at : Place) (k d : ℕ) → begins_statement o ≡ true → enter Block o at k d ≡ Passes k (in_block d) []
unfolding enter
statement_move (Some (Identifier bytes)) at k d e = refl
statement_move (Some (Word word)) at k d e = statement_word word at k d e
statement_move _ at k d e = absurd cc

no_statement_word : (word : Keyword) (at : Place) (k d : ℕ) → begins_statement (Some (Word word)) ≡ false → enter Block (Some (Word word)) at k d ≡ Passes k [] []
unfolding enter
no_statement_word keywords.Println at k d e = absurd cc
no_statement_word keywords.WriteCsv at k d e = absurd cc
no_statement_word keywords.If at k d e = absurd cc
no_statement_word keywords.While at k d e = absurd cc
no_statement_word _ at k d e = refl

block_end_move : (o : Option Lexeme) (at : Place) (k d : ℕ) → begins_statement o ≡ false → o ≢ Some Newline → enter Block o at k d ≡ Passes k [] []
unfolding enter
block_end_move (Some (Identifier bytes)) at k d e other = absurd cc
block_end_move (Some (Word word)) at k d e other = no_statement_word word at k d e
block_end_move (Some Newline) at k d e other = absurd (other refl)
block_end_move _ at k d e other = refl

pub block_statement : {r : Reader} → begins_statement (next r) ≡ true → Reaches r (want Block ∷ []) [] r (in_block r.depth) []
block_statement {r} e = passes r Block (in_block r.depth) [] (statement_move (next r) (here r) r.number r.depth e)

pub block_ends : {r : Reader} → begins_statement (next r) ≡ false → next r ≢ Some Newline → Reaches r (want Block ∷ []) [] r [] []
block_ends {r} e other = passes r Block [] [] (block_end_move (next r) (here r) r.number r.depth e other)

end_line_move : (before : ℕ) (at : Place) (k d : ℕ) → enter (EndLine before) (Some Newline) at k d ≡ Takes k before [] []
unfolding enter
end_line_move before at k d = refl

end_line_none : (before : ℕ) (o : Option Lexeme) (at : Place) (k d : ℕ) → o ≢ Some Newline → enter (EndLine before) o at k d ≡ Refuses
unfolding enter
end_line_none before (Some Newline) at k d other = absurd (other refl)
end_line_none before _ at k d other = refl

pub line_not_ended : {r : Reader} {depth : ℕ} {error : ParseError} → (error ≡ syntax_at r) × (next r ≢ Some Newline) → Stops r (want (EndLine depth) ∷ []) [] error
line_not_ended {r} {depth} {error} e = refuses r (EndLine depth) error (end_line_none depth (next r) (here r) r.number r.depth e.1) e.0

-- a statement and its newline
pub block_more : {r mid new : Reader} {before : ℕ} {x : Stmt} (xs : List Stmt) → begins_statement (next r) ≡ true → before ≡ r.depth
    → Reaches r (want Statement ∷ []) [] mid [] (stmt x ∷ []) → (next mid ≡ Some Newline) × (new ≡ behind_at mid mid.number before)
    → Reaches r (want Block ∷ []) (stmts xs ∷ []) new (want Block ∷ []) (stmts (xs ++ x ∷ []) ∷ [])
block_more {r} {mid} {new} {before} {x} xs begins same read e =
    reaches_then (over (stmts xs ∷ []) (block_statement begins))
    (reaches_then (beside (want (EndLine r.depth) ∷ make AppendStatement ∷ want Block ∷ []) (stmts xs ∷ []) read)
    (reaches_then (beside (make AppendStatement ∷ want Block ∷ []) (stmt x ∷ stmts xs ∷ [])
    (reaches_to (e.1 ∙ ap (behind_at mid mid.number) same) (takes mid (EndLine r.depth) Newline mid.number r.depth [] [] e.0 (end_line_move r.depth (here mid) mid.number mid.depth))))
    (beside (want Block ∷ []) [] (makes new AppendStatement (stmt x ∷ stmts xs ∷ []) (stmts (xs ++ x ∷ []) ∷ []) (λ values. refl)))))

-- ---- the body of a script

body_blank_move : (at : Place) (k d : ℕ) → enter Body (Some Newline) at k d ≡ Takes k d (want Body ∷ []) []
unfolding enter
body_blank_move at k d = refl

pub body_blank : {r new : Reader} → (next r ≡ Some Newline) × (new ≡ behind r) → Reaches r (want Body ∷ []) [] new (want Body ∷ []) []
body_blank {r} {new} e = reaches_to e.1 (takes r Body Newline r.number r.depth (want Body ∷ []) [] e.0 (body_blank_move (here r) r.number r.depth))

body_move : (o : Option Lexeme) (at : Place) (k d : ℕ) → o ≢ None → o ≢ Some Newline → enter Body o at k d ≡ Passes k (want Statement ∷ want (AfterStatement d) ∷ []) []
unfolding enter
body_move None at k d some other = absurd (some refl)
body_move (Some Newline) at k d some other = absurd (other refl)
body_move _ at k d some other = refl

pub body_statement : {r : Reader} → next r ≢ None → next r ≢ Some Newline → Reaches r (want Body ∷ []) [] r (want Statement ∷ want (AfterStatement r.depth) ∷ []) []
body_statement {r} some other = passes r Body (want Statement ∷ want (AfterStatement r.depth) ∷ []) [] (body_move (next r) (here r) r.number r.depth some other)

after_line_move : (before : ℕ) (at : Place) (k d : ℕ) → enter (AfterStatement before) (Some Newline) at k d ≡ Takes k before (make AppendStatement ∷ want Body ∷ []) []
unfolding enter
after_line_move before at k d = refl

after_end_move : (before : ℕ) (o : Option Lexeme) (at : Place) (k d : ℕ) → o ≡ None → enter (AfterStatement before) o at k d ≡ Passes k (make AppendStatement ∷ []) []
unfolding enter
after_end_move before o at k d e = rw e refl

after_none : (before : ℕ) (o : Option Lexeme) (at : Place) (k d : ℕ) → o ≢ None → o ≢ Some Newline → enter (AfterStatement before) o at k d ≡ Refuses
unfolding enter
after_none before None at k d some other = absurd (some refl)
after_none before (Some Newline) at k d some other = absurd (other refl)
after_none before _ at k d some other = refl

pub body_more : {r mid new : Reader} {before : ℕ} {x : Stmt} (xs : List Stmt) → next r ≢ None → next r ≢ Some Newline → before ≡ r.depth
    → Reaches r (want Statement ∷ []) [] mid [] (stmt x ∷ []) → (next mid ≡ Some Newline) × (new ≡ behind_at mid mid.number before)
    → Reaches r (want Body ∷ []) (stmts xs ∷ []) new (want Body ∷ []) (stmts (xs ++ x ∷ []) ∷ [])
body_more {r} {mid} {new} {before} {x} xs some other same read e =
    reaches_then (over (stmts xs ∷ []) (body_statement some other))
    (reaches_then (beside (want (AfterStatement r.depth) ∷ []) (stmts xs ∷ []) read)
    (reaches_then (over (stmt x ∷ stmts xs ∷ [])
    (reaches_to (e.1 ∙ ap (behind_at mid mid.number) same) (takes mid (AfterStatement r.depth) Newline mid.number r.depth (make AppendStatement ∷ want Body ∷ []) [] e.0 (after_line_move r.depth (here mid) mid.number mid.depth))))
    (beside (want Body ∷ []) [] (makes new AppendStatement (stmt x ∷ stmts xs ∷ []) (stmts (xs ++ x ∷ []) ∷ []) (λ values. refl)))))

pub body_last : {r mid : Reader} {x : Stmt} (xs : List Stmt) → next r ≢ None → next r ≢ Some Newline
    → Reaches r (want Statement ∷ []) [] mid [] (stmt x ∷ []) → next mid ≡ None → Reaches r (want Body ∷ []) (stmts xs ∷ []) mid [] (stmts (xs ++ x ∷ []) ∷ [])
body_last {r} {mid} {x} xs some other read e =
    reaches_then (over (stmts xs ∷ []) (body_statement some other))
    (reaches_then (beside (want (AfterStatement r.depth) ∷ []) (stmts xs ∷ []) read)
    (reaches_then (over (stmt x ∷ stmts xs ∷ []) (passes mid (AfterStatement r.depth) (make AppendStatement ∷ []) [] (after_end_move r.depth (next mid) (here mid) mid.number mid.depth e)))
    (makes mid AppendStatement (stmt x ∷ stmts xs ∷ []) (stmts (xs ++ x ∷ []) ∷ []) (λ values. refl))))

pub not_after : {r : Reader} {depth : ℕ} {error : ParseError} → next r ≢ None → (error ≡ syntax_at r) × (next r ≢ Some Newline) → Stops r (want (AfterStatement depth) ∷ []) [] error
not_after {r} {depth} {error} some e = refuses r (AfterStatement depth) error (after_none depth (next r) (here r) r.number r.depth some e.1) e.0

body_end_move : (o : Option Lexeme) (at : Place) (k d : ℕ) → o ≡ None → enter Body o at k d ≡ Passes k [] []
unfolding enter
body_end_move o at k d e = rw e refl

pub body_ends : {r : Reader} → next r ≡ None → Reaches r (want Body ∷ []) [] r [] []
body_ends {r} e = passes r Body [] [] (body_end_move (next r) (here r) r.number r.depth e)

accepts : (r : Reader) (body : List Stmt) → Leads too_deep r.end (config r [] (stmts body ∷ [])) (Accepted body r.number)
unfolding step
accepts r body = steps_to (config r [] (stmts body ∷ [])) (Accepted body r.number) refl

-- all tokens are read
pub finishes : {old new : Reader} {xs body : List Stmt} → Reaches old (want Body ∷ []) (stmts [] ∷ []) new [] (stmts xs ∷ []) → body ≡ xs → Finishes old body new.number
finishes {old} {new} {xs} {body} f e =
    subst (λ (ys : List Stmt). Finishes old ys new.number) (sym e) (record { leads = leads_then (f.leads [] []) (at_end old new f.same_end (accepts new xs)) })

-- ---- a script

-- before the first token
pub refused_whole : {r : Reader} {error : ParseError} (source : List ℕ) (list : List Token) → r ≡ reader_at source list 0 0 0 → Stops r (want Body ∷ []) (stmts [] ∷ []) error
    → TurnsDown (end_of list) (lexed source list) error
refused_whole {r} {error} source list e f = λ at rule is.
    subst (λ (r : Reader). Leads too_deep r.end (config r (want Body ∷ []) (stmts [] ∷ [])) (off at rule)) e (f.leads at rule is [] [])

pub thrown_whole : {A : Type 0} {error : ParseError} {end : Place} {tokens : List Lexed} (result : Result A ParseError) → IsErr result × IsErrAnd result (λ e. e ≡ error)
    → TurnsDown end tokens error → IfErr result (λ e. TurnsDown end tokens e)
thrown_whole {A} {error} {end} {tokens} (Ok x) h f = tt
thrown_whole {A} {error} {end} {tokens} (Err e) h f = λ at rule is. f at rule (sym h.1 ∙ is)
