-- The machine's depth is the scan's: what the scan has open is what the machine has yet to close.
use Rattle.std.proofs.Common.{◌≡◌, ℕ, suc, ◌≤◌, ◌<◌, Bool, true, false, List, [], ◌∷◌, ◌++◌, Option, Some, None, refl, sym, subst, arith}
use Rattle.std.specs.Prelude.{if◌then◌else◌}
use Rattle.hp_word.specs.declared.place.Place.{Place}
use Rattle.hp_script.specs.declared.tree.BinOp.{BinOp}
use Rattle.hp_script.specs.declared.tree.BinOp.TheVariants as binaries
use Rattle.hp_script.specs.declared.tree.Level.{Level}
use Rattle.hp_script.specs.declared.tree.Level.TheVariants.{Disjunction, Conjunction, Comparison, Sum, Product}
use Rattle.hp_script.specs.declared.token.Keyword.TheVariants as keywords
use Rattle.hp_script.specs.declared.token.Sign.TheVariants as signs
use Rattle.hp_script.specs.Lexemes.{Lexeme, Numeral, Identifier, Quoted, Word, Mark, Newline}
use Rattle.hp_script.specs.Grammar.{level_of}
use Rattle.hp_script.specs.Depth as scan
use Rattle.hp_script.specs.Depth.{Open, Nesting, nesting, nested, deepest}
use Rattle.hp_parse.specs.Machine as m
use Rattle.hp_parse.specs.Machine.{Phrase, Action, Goal, Move, want, make, Chain, Tail, Unary, Indexed, Primary, ColumnName, AfterName, AfterDot, Arguments, MoreArguments, Argument, AfterArgumentName, AfterArgument, Bracket, Close, CloseIndex, AssignSign, Line, Statement, AfterBlock, End, EndLine, Block, Body, AfterStatement, MakeUnary, MakeBinary, Takes, Deepens, Passes, Refuses, enter, level_eq, operand, rest_of_chain}

-- ---- what belongs together

-- In a bracket; `behind` says what holds, at a depth, of what is open round it.
pub record InBracket (before : ℕ) (behind : ℕ → List Open → Type 0) (opened : List Open) : Type 0 where
  pub outer : List Open
  pub is : opened ≡ Open.Bracket before ∷ outer
  pub rest : behind before outer
  pub low : before < deepest

-- in a block of an `if` or `while`, at this depth
pub record InBlock (before d : ℕ) (behind : ℕ → List Open → Type 0) (opened : List Open) : Type 0 where
  pub outer : List Open
  pub is : opened ≡ Open.Statement d ∷ Open.Condition before ∷ outer
  pub rest : behind before outer
  pub low : before ≤ deepest

-- in a statement, which is open yet when the next one begins
pub record InStatement (before : ℕ) (behind : ℕ → List Open → Type 0) (opened : List Open) : Type 0 where
  pub outer : List Open
  pub is : opened ≡ Open.Statement before ∷ outer
  pub rest : behind before opened

-- in the last statement, behind which nothing is wanted
pub record InLast (before : ℕ) (behind : ℕ → List Open → Type 0) (opened : List Open) : Type 0 where
  pub is : opened ≡ Open.Statement before ∷ []
  pub rest : (d : ℕ) (all : List Open) → behind d all

-- before a newline, behind which a block begins
pub record BeforeBlock (d : ℕ) (behind : ℕ → List Open → Type 0) (opened : List Open) : Type 0 where
  pub depth : (scan.next_line d opened).depth ≡ d
  pub rest : behind d (scan.next_line d opened).opened

-- what is open at a wanted phrase and this depth
abbrev pub OpenedAt : Phrase → (behind : ℕ → List Open → Type 0) → (d : ℕ) → List Open → Type 0
OpenedAt (Arguments before) behind d opened = InBracket before behind opened
OpenedAt (MoreArguments before) behind d opened = InBracket before behind opened
OpenedAt (Close before) behind d opened = InBracket before behind opened
OpenedAt (CloseIndex before) behind d opened = InBracket before behind opened
OpenedAt Line behind d opened = BeforeBlock d behind opened
OpenedAt (AfterBlock before start) behind d opened = InBlock before d behind opened
OpenedAt (End before) behind d opened = InBlock before d behind opened
OpenedAt (EndLine before) behind d opened = InStatement before behind opened × (before ≤ deepest)
OpenedAt Block behind d opened = InStatement d behind opened
OpenedAt Body behind d opened = InLast d behind opened
OpenedAt (AfterStatement before) behind d opened = InLast before behind opened × (before ≤ deepest)
OpenedAt _ behind d opened = (e : ℕ) → behind e opened

-- what is open where the machine has this to do, at this depth
abbrev pub Opened : List Goal → (d : ℕ) → List Open → Type 0
Opened [] d opened = Unit {0}
Opened (make action ∷ stack) d opened = Opened stack d opened
Opened (want phrase ∷ stack) d opened = OpenedAt phrase (Opened stack) d opened

-- ---- moves

-- the nesting behind one more token, or none
abbrev pub scanned : (d : ℕ) → List Open → Option Lexeme → Nesting
scanned d opened None = nesting d opened
scanned d opened (Some what) = nested (nesting d opened) what

-- a nesting is the machine's
pub record Nests (d : ℕ) (stack : List Goal) (n : Nesting) : Type 0 where
  pub depth : n.depth ≡ d
  pub opened : Opened stack d n.opened

-- the nesting stays the machine's in a move
abbrev pub NestsMove : Option Lexeme → Move → (d : ℕ) → List Goal → List Open → Type 0
NestsMove what (Takes k e goals given) d stack opened = Nests e (goals ++ stack) (scanned d opened what) × (e ≤ deepest)
NestsMove what (Deepens k e goals given) d stack opened = ((scanned d opened what).depth ≡ e) × (e ≤ deepest → Opened (goals ++ stack) e (scanned d opened what).opened)
NestsMove what (Passes k goals given) d stack opened = Opened (goals ++ stack) d opened
NestsMove what Refuses d stack opened = Unit {0}

nests_if : (b : Bool) (what : Option Lexeme) (x y : Move) (d : ℕ) (stack : List Goal) (opened : List Open) → NestsMove what x d stack opened → NestsMove what y d stack opened
    → NestsMove what (if b then x else y) d stack opened
nests_if true what x y d stack opened f g = f
nests_if false what x y d stack opened f g = g

-- the token leaves the nesting as it is
stays : (d : ℕ) (stack : List Goal) (opened : List Open) → d ≤ deepest → Opened stack d opened → Nests d stack (nesting d opened) × (d ≤ deepest)
stays d stack opened low h = (record { depth = refl; opened = h }, low)

nests_chain : (level : Level) (what : Option Lexeme) (k d : ℕ) (stack : List Goal) (opened : List Open) → Opened (want (Chain level) ∷ stack) d opened
    → NestsMove what (Passes k (operand level ∷ want (Tail level) ∷ []) []) d stack opened
nests_chain Disjunction what k d stack opened h = λ e. h
nests_chain Conjunction what k d stack opened h = λ e. h
nests_chain Comparison what k d stack opened h = λ e. h
nests_chain Sum what k d stack opened h = λ e. h
nests_chain Product what k d stack opened h = λ e. h

nests_operand : (level : Level) (k d : ℕ) (at : Place) (op : BinOp) (dotted : Bool) (stack : List Goal) (opened : List Open) → Opened (want (Tail level) ∷ stack) d opened
    → NestsMove (Some (Mark (signs.Operator op dotted))) (Deepens (suc k) (suc d) (operand level ∷ make (MakeBinary k at op dotted) ∷ rest_of_chain level) []) d stack opened
nests_operand Disjunction k d at op dotted stack opened h = (refl, λ low e. h)
nests_operand Conjunction k d at op dotted stack opened h = (refl, λ low e. h)
nests_operand Comparison k d at op dotted stack opened h = (refl, λ low. h)
nests_operand Sum k d at op dotted stack opened h = (refl, λ low e. h)
nests_operand Product k d at op dotted stack opened h = (refl, λ low e. h)

nests_tail : (level : Level) (what : Option Lexeme) (at : Place) (k d : ℕ) (stack : List Goal) (opened : List Open) → Opened (want (Tail level) ∷ stack) d opened
    → NestsMove what (m.tail level what at k d) d stack opened
nests_tail level (Some (Mark (signs.Operator op dotted))) at k d stack opened h =
    nests_if (level_eq (level_of op) level) (Some (Mark (signs.Operator op dotted))) _ _ d stack opened (nests_operand level k d at op dotted stack opened h) (h d)
nests_tail level _ at k d stack opened h = h d

nests_unary : (what : Option Lexeme) (at : Place) (k d : ℕ) (stack : List Goal) (opened : List Open) → Opened (want Unary ∷ stack) d opened
    → NestsMove what (m.unary what at k d) d stack opened
nests_unary (Some (Mark (signs.Operator binaries.Sub false))) at k d stack opened h = (refl, λ low. h)
nests_unary (Some (Mark (signs.Not dotted))) at k d stack opened h = (refl, λ low. h)
nests_unary _ at k d stack opened h = λ e. h

nests_indexed : (what : Option Lexeme) (at : Place) (k d : ℕ) (stack : List Goal) (opened : List Open) → Opened (want Indexed ∷ stack) d opened
    → NestsMove what (m.indexed what at k d) d stack opened
nests_indexed (Some (Mark signs.OpenIndex)) at k d stack opened h = (refl, λ low e. record { outer = opened; is = refl; rest = h; low = low })
nests_indexed _ at k d stack opened h = h d

nests_primary : (what : Option Lexeme) (at : Place) (k d : ℕ) (stack : List Goal) (opened : List Open) → d ≤ deepest → Opened (want Primary ∷ stack) d opened
    → NestsMove what (m.primary what at k d) d stack opened
nests_primary (Some (Numeral value)) at k d stack opened low h = stays d stack opened low (h d)
nests_primary (Some (Quoted bytes)) at k d stack opened low h = stays d stack opened low (h d)
nests_primary (Some (Word keywords.True)) at k d stack opened low h = stays d stack opened low (h d)
nests_primary (Some (Word keywords.False)) at k d stack opened low h = stays d stack opened low (h d)
nests_primary (Some (Mark signs.Colon)) at k d stack opened low h = stays d (want (ColumnName k at) ∷ stack) opened low h
nests_primary (Some (Mark signs.Open)) at k d stack opened low h = (refl, λ less e. record { outer = opened; is = refl; rest = h d; low = less })
nests_primary (Some (Identifier bytes)) at k d stack opened low h = stays d (want (AfterName k at bytes) ∷ stack) opened low h
nests_primary _ at k d stack opened low h = tt

nests_column_name : (id : ℕ) (start : Place) (what : Option Lexeme) (k d : ℕ) (stack : List Goal) (opened : List Open) → d ≤ deepest → Opened (want (ColumnName id start) ∷ stack) d opened
    → NestsMove what (m.column_name id start what k d) d stack opened
nests_column_name id start (Some (Identifier bytes)) k d stack opened low h = stays d stack opened low (h d)
nests_column_name id start _ k d stack opened low h = tt

nests_after_name : (id : ℕ) (start : Place) (bytes : List ℕ) (what : Option Lexeme) (k d : ℕ) (stack : List Goal) (opened : List Open) → d ≤ deepest
    → Opened (want (AfterName id start bytes) ∷ stack) d opened → NestsMove what (m.after_name id start bytes what k d) d stack opened
nests_after_name id start bytes (Some (Mark signs.Dot)) k d stack opened low h = stays d (want (AfterDot id start bytes) ∷ stack) opened low h
nests_after_name id start bytes (Some (Mark signs.Open)) k d stack opened low h = (refl, λ less. record { outer = opened; is = refl; rest = h d; low = less })
nests_after_name id start bytes _ k d stack opened low h = h d

nests_after_dot : (id : ℕ) (start : Place) (bytes : List ℕ) (what : Option Lexeme) (k d : ℕ) (stack : List Goal) (opened : List Open) → d ≤ deepest
    → Opened (want (AfterDot id start bytes) ∷ stack) d opened → NestsMove what (m.after_dot id start bytes what k d) d stack opened
nests_after_dot id start bytes (Some (Identifier column)) k d stack opened low h = stays d stack opened low (h d)
nests_after_dot id start bytes (Some (Mark signs.Open)) k d stack opened low h = (refl, λ less. record { outer = opened; is = refl; rest = h d; low = less })
nests_after_dot id start bytes _ k d stack opened low h = tt

-- ---- in brackets

-- the bracket closes
closes : (before d : ℕ) (stack : List Goal) (opened : List Open) → InBracket before (Opened stack) opened → Nests before stack (scan.closed d opened) × (before ≤ deepest)
closes before d stack opened h =
    let there : Nests before stack (scan.closed d (Open.Bracket before ∷ h.outer)) = record { depth = refl; opened = h.rest } in
    let lower : before < deepest = h.low in
    (subst (λ (all : List Open). Nests before stack (scan.closed d all)) (sym h.is) there, omega arith)

nests_arguments : (before : ℕ) (what : Option Lexeme) (k d : ℕ) (stack : List Goal) (opened : List Open) → Opened (want (Arguments before) ∷ stack) d opened
    → NestsMove what (m.arguments before what k d) d stack opened
nests_arguments before (Some (Mark signs.Close)) k d stack opened h = closes before d stack opened h
nests_arguments before _ k d stack opened h = λ e. h

-- an argument ends, and the next one begins
next : (before d : ℕ) (stack : List Goal) (opened : List Open) → InBracket before (Opened stack) opened
    → Nests (suc before) (m.next_argument before ++ stack) (scan.next_argument d opened) × (suc before ≤ deepest)
next before d stack opened h =
    let there : Nests (suc before) (m.next_argument before ++ stack) (scan.next_argument d (Open.Bracket before ∷ h.outer)) =
    record { depth = refl; opened = λ e. record { outer = h.outer; is = refl; rest = h.rest; low = h.low } } in
    (subst (λ (all : List Open). Nests (suc before) (m.next_argument before ++ stack) (scan.next_argument d all)) (sym h.is) there, h.low)

nests_more_arguments : (before : ℕ) (what : Option Lexeme) (k d : ℕ) (stack : List Goal) (opened : List Open) → Opened (want (MoreArguments before) ∷ stack) d opened
    → NestsMove what (m.more_arguments before what k d) d stack opened
nests_more_arguments before (Some (Mark signs.Comma)) k d stack opened h = next before d stack opened h
nests_more_arguments before (Some (Mark signs.Close)) k d stack opened h = closes before d stack opened h
nests_more_arguments before _ k d stack opened h = tt

nests_argument : (what : Option Lexeme) (at : Place) (k d : ℕ) (stack : List Goal) (opened : List Open) → d ≤ deepest → Opened (want Argument ∷ stack) d opened
    → NestsMove what (m.argument what at k d) d stack opened
nests_argument (Some (Identifier bytes)) at k d stack opened low h = stays d (want (AfterArgumentName at bytes) ∷ stack) opened low h
nests_argument _ at k d stack opened low h = λ e. h

nests_after_argument_name : (at : Place) (bytes : List ℕ) (what : Option Lexeme) (k d : ℕ) (stack : List Goal) (opened : List Open) → d ≤ deepest
    → Opened (want (AfterArgumentName at bytes) ∷ stack) d opened → NestsMove what (m.after_argument_name at bytes what k d) d stack opened
nests_after_argument_name at bytes (Some (Mark signs.Arrow)) k d stack opened low h = stays d (want (Chain Disjunction) ∷ make (m.MakeLambda bytes) ∷ stack) opened low h
nests_after_argument_name at bytes (Some (Mark signs.Assign)) k d stack opened low h = stays d (want (Chain Disjunction) ∷ make (m.MakeNamed bytes at) ∷ stack) opened low h
nests_after_argument_name at bytes _ k d stack opened low h = λ e₁ e₂ e₃ e₄ e₅ e₆ e₇. h

nests_after_argument : (what : Option Lexeme) (k d : ℕ) (stack : List Goal) (opened : List Open) → d ≤ deepest → Opened (want AfterArgument ∷ stack) d opened
    → NestsMove what (m.after_argument what k d) d stack opened
nests_after_argument (Some (Mark signs.Colon)) k d stack opened low h = stays d (want (Chain Disjunction) ∷ make m.MakeRange ∷ stack) opened low h
nests_after_argument _ k d stack opened low h = h d

nests_bracket : (what : Option Lexeme) (k d : ℕ) (stack : List Goal) (opened : List Open) → Opened (want Bracket ∷ stack) d opened → NestsMove what (m.bracket what k d) d stack opened
nests_bracket (Some (Mark signs.Open)) k d stack opened h = (refl, λ less e. record { outer = opened; is = refl; rest = h d; low = less })
nests_bracket _ k d stack opened h = tt

nests_close : (before : ℕ) (what : Option Lexeme) (k d : ℕ) (stack : List Goal) (opened : List Open) → Opened (want (Close before) ∷ stack) d opened
    → NestsMove what (m.close before what k d) d stack opened
nests_close before (Some (Mark signs.Close)) k d stack opened h = closes before d stack opened h
nests_close before _ k d stack opened h = tt

nests_close_index : (before : ℕ) (what : Option Lexeme) (k d : ℕ) (stack : List Goal) (opened : List Open) → Opened (want (CloseIndex before) ∷ stack) d opened
    → NestsMove what (m.close_index before what k d) d stack opened
nests_close_index before (Some (Mark signs.CloseIndex)) k d stack opened h = closes before d stack opened h
nests_close_index before _ k d stack opened h = tt

-- ---- statements

nests_assign_sign : (what : Option Lexeme) (k d : ℕ) (stack : List Goal) (opened : List Open) → d ≤ deepest → Opened (want AssignSign ∷ stack) d opened
    → NestsMove what (m.assign_sign what k d) d stack opened
nests_assign_sign (Some (Mark signs.Assign)) k d stack opened low h = stays d stack opened low (h d)
nests_assign_sign _ k d stack opened low h = tt

nests_line : (what : Option Lexeme) (k d : ℕ) (stack : List Goal) (opened : List Open) → d ≤ deepest → Opened (want Line ∷ stack) d opened → NestsMove what (m.line what k d) d stack opened
nests_line (Some Newline) k d stack opened low h = (record { depth = h.depth; opened = h.rest }, low)
nests_line _ k d stack opened low h = tt

-- a statement ends with its line
line_ends : (before d : ℕ) (stack : List Goal) (opened outer : List Open) → opened ≡ Open.Statement before ∷ outer → before ≤ deepest → Opened stack before opened
    → Nests before stack (scan.next_line d opened) × (before ≤ deepest)
line_ends before d stack opened outer is low h =
    let moved : Opened stack before (Open.Statement before ∷ outer) = subst (Opened stack before) is h in
    let there : Nests before stack (scan.next_line d (Open.Statement before ∷ outer)) = record { depth = refl; opened = moved } in
    (subst (λ (all : List Open). Nests before stack (scan.next_line d all)) (sym is) there, low)

nests_end_line : (before : ℕ) (what : Option Lexeme) (k d : ℕ) (stack : List Goal) (opened : List Open) → Opened (want (EndLine before) ∷ stack) d opened
    → NestsMove what (m.end_line before what k d) d stack opened
nests_end_line before (Some Newline) k d stack opened h = line_ends before d stack opened h.0.outer h.0.is h.1 h.0.rest
nests_end_line before _ k d stack opened h = tt

nests_statement : (what : Option Lexeme) (at : Place) (k d : ℕ) (stack : List Goal) (opened : List Open) → d ≤ deepest → Opened (want Statement ∷ stack) d opened
    → NestsMove what (m.statement what at k d) d stack opened
nests_statement (Some (Identifier bytes)) at k d stack opened low h = (record { depth = refl; opened = λ e. h }, low)
nests_statement (Some (Word keywords.Println)) at k d stack opened low h = (record { depth = refl; opened = h }, low)
nests_statement (Some (Word keywords.WriteCsv)) at k d stack opened low h = (record { depth = refl; opened = h }, low)
nests_statement (Some (Word keywords.If)) at k d stack opened low h = (
  refl,
  λ less e. record {
    depth = refl;
    rest = record { outer = Open.Condition d ∷ opened; is = refl; rest = record { outer = opened; is = refl; rest = h d; low = low } };
  },
)
nests_statement (Some (Word keywords.While)) at k d stack opened low h = (
  refl,
  λ less e. record {
    depth = refl;
    rest = record { outer = Open.Condition d ∷ opened; is = refl; rest = record { outer = opened; is = refl; rest = h d; low = low } };
  },
)
nests_statement _ at k d stack opened low h = tt

-- the statement of a block ends
end_ends : (before d : ℕ) (stack : List Goal) (opened : List Open) → InBlock before d (Opened stack) opened → Nests before stack (scan.ended d opened) × (before ≤ deepest)
end_ends before d stack opened h =
    let there : Nests before stack (scan.ended d (Open.Statement d ∷ Open.Condition before ∷ h.outer)) = record { depth = refl; opened = h.rest } in
    (subst (λ (all : List Open). Nests before stack (scan.ended d all)) (sym h.is) there, h.low)

-- behind an `else` the newline leaves the nesting as it is
else_begins : (before d : ℕ) (stack : List Goal) (opened : List Open) → InBlock before d (Opened stack) opened
    → BeforeBlock d (λ e all. InStatement e (λ f most. InBlock before f (Opened stack) most) all) opened
else_begins before d stack opened h =
    let there : BeforeBlock d (λ e all. InStatement e (λ f most. InBlock before f (Opened stack) most) all) (Open.Statement d ∷ Open.Condition before ∷ h.outer) =
    record { depth = refl; rest = record { outer = Open.Condition before ∷ h.outer; is = refl; rest = record { outer = h.outer; is = refl; rest = h.rest; low = h.low } } } in
    subst (BeforeBlock d (λ e all. InStatement e (λ f most. InBlock before f (Opened stack) most) all)) (sym h.is) there

nests_after_block : (before : ℕ) (start : Place) (what : Option Lexeme) (k d : ℕ) (stack : List Goal) (opened : List Open) → d ≤ deepest
    → Opened (want (AfterBlock before start) ∷ stack) d opened → NestsMove what (m.after_block before start what k d) d stack opened
nests_after_block before start (Some (Word keywords.Else)) k d stack opened low h = (record { depth = refl; opened = else_begins before d stack opened h }, low)
nests_after_block before start (Some (Word keywords.End)) k d stack opened low h =
    let there = end_ends before d stack opened h in
    (record { depth = there.0.depth; opened = there.0.opened }, there.1)
nests_after_block before start _ k d stack opened low h = tt

nests_end : (before : ℕ) (what : Option Lexeme) (k d : ℕ) (stack : List Goal) (opened : List Open) → Opened (want (End before) ∷ stack) d opened
    → NestsMove what (m.end_word before what k d) d stack opened
nests_end before (Some (Word keywords.End)) k d stack opened h = end_ends before d stack opened h
nests_end before _ k d stack opened h = tt

nests_block : (what : Option Lexeme) (k d : ℕ) (stack : List Goal) (opened : List Open) → d ≤ deepest → Opened (want Block ∷ stack) d opened
    → NestsMove what (m.block what k d) d stack opened
nests_block (Some Newline) k d stack opened low h = line_ends d d (want Block ∷ stack) opened h.outer h.is low h
nests_block (Some (Identifier bytes)) k d stack opened low h = λ e. (record { outer = h.outer; is = h.is; rest = h }, low)
nests_block (Some (Word keywords.Println)) k d stack opened low h = λ e. (record { outer = h.outer; is = h.is; rest = h }, low)
nests_block (Some (Word keywords.WriteCsv)) k d stack opened low h = λ e. (record { outer = h.outer; is = h.is; rest = h }, low)
nests_block (Some (Word keywords.If)) k d stack opened low h = λ e. (record { outer = h.outer; is = h.is; rest = h }, low)
nests_block (Some (Word keywords.While)) k d stack opened low h = λ e. (record { outer = h.outer; is = h.is; rest = h }, low)
nests_block _ k d stack opened low h = h.rest

nests_body : (what : Option Lexeme) (k d : ℕ) (stack : List Goal) (opened : List Open) → d ≤ deepest → Opened (want Body ∷ stack) d opened
    → NestsMove what (m.body what k d) d stack opened
nests_body None k d stack opened low h = h.rest d opened
nests_body (Some Newline) k d stack opened low h = line_ends d d (want Body ∷ stack) opened [] h.is low h
nests_body _ k d stack opened low h = λ e. (h, low)

nests_after_statement : (before : ℕ) (what : Option Lexeme) (k d : ℕ) (stack : List Goal) (opened : List Open) → Opened (want (AfterStatement before) ∷ stack) d opened
    → NestsMove what (m.after_statement before what k d) d stack opened
nests_after_statement before None k d stack opened h = h.0.rest d opened
nests_after_statement before (Some Newline) k d stack opened h =
    let there = line_ends before d (want Body ∷ stack) opened [] h.0.is h.1 h.0 in
    (record { depth = there.0.depth; opened = there.0.opened }, there.1)
nests_after_statement before _ k d stack opened h = tt

-- ---- all phrases

pub nests_enter : (phrase : Phrase) (what : Option Lexeme) (at : Place) (k d : ℕ) (stack : List Goal) (opened : List Open) → d ≤ deepest → Opened (want phrase ∷ stack) d opened
    → NestsMove what (enter phrase what at k d) d stack opened
unfolding enter
nests_enter (Chain level) what at k d stack opened low h = nests_chain level what k d stack opened h
nests_enter (Tail level) what at k d stack opened low h = nests_tail level what at k d stack opened h
nests_enter Unary what at k d stack opened low h = nests_unary what at k d stack opened h
nests_enter Indexed what at k d stack opened low h = nests_indexed what at k d stack opened h
nests_enter Primary what at k d stack opened low h = nests_primary what at k d stack opened low h
nests_enter (ColumnName id start) what at k d stack opened low h = nests_column_name id start what k d stack opened low h
nests_enter (AfterName id start bytes) what at k d stack opened low h = nests_after_name id start bytes what k d stack opened low h
nests_enter (AfterDot id start bytes) what at k d stack opened low h = nests_after_dot id start bytes what k d stack opened low h
nests_enter (Arguments before) what at k d stack opened low h = nests_arguments before what k d stack opened h
nests_enter (MoreArguments before) what at k d stack opened low h = nests_more_arguments before what k d stack opened h
nests_enter Argument what at k d stack opened low h = nests_argument what at k d stack opened low h
nests_enter (AfterArgumentName start bytes) what at k d stack opened low h = nests_after_argument_name start bytes what k d stack opened low h
nests_enter AfterArgument what at k d stack opened low h = nests_after_argument what k d stack opened low h
nests_enter Bracket what at k d stack opened low h = nests_bracket what k d stack opened h
nests_enter (Close before) what at k d stack opened low h = nests_close before what k d stack opened h
nests_enter (CloseIndex before) what at k d stack opened low h = nests_close_index before what k d stack opened h
nests_enter AssignSign what at k d stack opened low h = nests_assign_sign what k d stack opened low h
nests_enter Line what at k d stack opened low h = nests_line what k d stack opened low h
nests_enter Statement what at k d stack opened low h = nests_statement what at k d stack opened low h
nests_enter (AfterBlock before start) what at k d stack opened low h = nests_after_block before start what k d stack opened low h
nests_enter (End before) what at k d stack opened low h = nests_end before what k d stack opened h
nests_enter (EndLine before) what at k d stack opened low h = nests_end_line before what k d stack opened h
nests_enter Block what at k d stack opened low h = nests_block what k d stack opened low h
nests_enter Body what at k d stack opened low h = nests_body what k d stack opened low h
nests_enter (AfterStatement before) what at k d stack opened low h = nests_after_statement before what k d stack opened h
