-- The machine follows what the grammar spells: statements and blocks.
use Rattle.std.proofs.Common.{◌≡◌, ℕ, suc, Bool, true, false, List, [], ◌∷◌, ◌++◌, Option, Some, refl, sym, subst, append_assoc}
use Rattle.std.proofs.lemmas.List.{append-nil}
use Rattle.hp_word.specs.declared.place.Place.{Place}
use Rattle.hp_script.specs.declared.tree.Expr.{Expr}
use Rattle.hp_script.specs.declared.tree.Stmt.{Stmt}
use Rattle.hp_script.specs.declared.tree.Level.TheVariants.{Disjunction}
use Rattle.hp_script.specs.declared.token.Keyword.TheVariants as keywords
use Rattle.hp_script.specs.declared.token.Sign.TheVariants as signs
use Rattle.hp_script.specs.Lexemes.{Lexeme, Word, Newline, Lexed}
use Rattle.hp_script.specs.Grammar as grammar
use Rattle.hp_script.specs.Grammar.{token, mark, IsExpr, IsStmt, IsBlock}
use Rattle.hp_parse.specs.Machine.{Chain, Bracket, Close, Line, Statement, AfterBlock, End, EndLine, Block, Goal, want, make, MakeAssign, MakePrint, MakeExport, MakeIf, MakeWhile, EmptyBlock, AppendStatement, Value, expr, stmt, stmts, At, Accepted, step, enter, never, Leads}
use Rattle.hp_parse.proofs.FollowedEnds.{next, ends_below}
use Rattle.hp_parse.proofs.Moves.{leads_on}
use Rattle.hp_parse.proofs.FollowedMoves.{Goes, goes_made}
use Rattle.hp_parse.proofs.FollowedExpr.{followed_chain}

-- whether this may stand behind the statements of a block
abbrev pub ends_block : Option Lexeme → Bool
ends_block (Some (Word keywords.End)) = true
ends_block (Some (Word keywords.Else)) = true
ends_block _ = false

module _ (end : Place) (body : List Stmt) (nodes : ℕ) where
  -- an expression in brackets behind the word that begins a statement
  followed_bracket : {a b : List Lexed} {k l : ℕ} {x : Expr} {close : Place} → IsExpr a k x (mark signs.Close close ∷ b) l → (open_ : Place) (goals : List Goal) (values : List Value)
      → Goes end body nodes goals b l (expr x ∷ values) → Goes end body nodes (want Bracket ∷ goals) (mark signs.Open open_ ∷ a) k values
  unfolding step enter
  followed_bracket c open_ goals values g d = leads_on (followed_chain end body nodes c (want (Close d) ∷ goals) values refl (λ e. leads_on (g d)) (suc d))

  -- a condition up to the end of its line
  followed_test : {a b : List Lexed} {k l : ℕ} {x : Expr} {line : Place} → IsExpr a k x (token Newline line ∷ b) l → (goals : List Goal) (values : List Value)
      → Goes end body nodes goals b l (expr x ∷ values) → Goes end body nodes (want (Chain Disjunction) ∷ want Line ∷ goals) a k values
  unfolding step enter
  followed_test c goals values g = followed_chain end body nodes c (want Line ∷ goals) values refl (λ d. leads_on (g d))

  block_passes : (what : Lexeme) (at : Place) (goals : List Goal) (a : List Lexed) (k : ℕ) (values : List Value) → ends_block (Some what) ≡ true
      → Goes end body nodes goals (token what at ∷ a) k values → Goes end body nodes (want Block ∷ goals) (token what at ∷ a) k values
  unfolding step enter
  block_passes (Word keywords.End) at goals a k values e g d = leads_on (g d)
  block_passes (Word keywords.Else) at goals a k values e g d = leads_on (g d)
  block_passes _ at goals a k values e g d = cc

  goes_block_ends : (goals : List Goal) (a : List Lexed) (k : ℕ) (xs : List Stmt) (values : List Value) → ends_block (next a) ≡ true
      → Goes end body nodes goals a k (stmts (xs ++ []) ∷ values) → Goes end body nodes (want Block ∷ goals) a k (stmts xs ∷ values)
  goes_block_ends goals [] k xs values e g = cc
  goes_block_ends goals (t ∷ a) k xs values e g =
      block_passes t.what t.at goals a k (stmts xs ∷ values) e (subst (λ ys. Goes end body nodes goals (t ∷ a) k (stmts ys ∷ values)) (append-nil xs) g)

  goes_more_statements : (goals : List Goal) (a : List Lexed) (k : ℕ) (xs : List Stmt) (x : Stmt) (ys : List Stmt) (values : List Value)
      → Goes end body nodes goals a k (stmts (xs ++ x ∷ ys) ∷ values) → Goes end body nodes goals a k (stmts ((xs ++ x ∷ []) ++ ys) ∷ values)
  goes_more_statements goals a k xs x ys values g = subst (λ zs. Goes end body nodes goals a k (stmts zs ∷ values)) (sym (append_assoc xs (x ∷ []) ys)) g

  -- a statement's first token begins one in a block
  goes_block_more : {a b : List Lexed} {k l : ℕ} {x : Stmt} → IsStmt a k x b l → (goals : List Goal) (values : List Value)
      → ((d : ℕ) → Leads never end (At a k d (want Statement ∷ want (EndLine d) ∷ make AppendStatement ∷ want Block ∷ goals) values) (Accepted body nodes))
      → Goes end body nodes (want Block ∷ goals) a k values
  unfolding step enter
  goes_block_more (grammar.assign x) goals values g d = leads_on (g d)
  goes_block_more (grammar.print x) goals values g d = leads_on (g d)
  goes_block_more (grammar.export x) goals values g d = leads_on (g d)
  goes_block_more (grammar.if_alone x y) goals values g d = leads_on (g d)
  goes_block_more (grammar.if_else x y z) goals values g d = leads_on (g d)
  goes_block_more (grammar.while x y) goals values g d = leads_on (g d)

  mutual
    unfolding step enter

    pub followed_statement : {a b : List Lexed} {k l : ℕ} {x : Stmt} → IsStmt a k x b l → (goals : List Goal) (values : List Value) → ends_below 0 (next b) ≡ true
        → Goes end body nodes goals b l (stmt x ∷ values) → Goes end body nodes (want Statement ∷ goals) a k values
    followed_statement (grammar.assign {bytes} {x} {at} {b} {l} c) goals values e g = λ d.
        leads_on (leads_on (followed_chain end body nodes c (make (MakeAssign at bytes) ∷ goals) values e
        (goes_made end body nodes (MakeAssign at bytes) goals b l (expr x ∷ values) g) d))
    followed_statement (grammar.print {x} {at} {open_} {b} {l} c) goals values e g = λ d.
        leads_on (followed_bracket c open_ (make (MakePrint at) ∷ goals) values (goes_made end body nodes (MakePrint at) goals b l (expr x ∷ values) g) d)
    followed_statement (grammar.export {x} {at} {open_} {b} {l} c) goals values e g = λ d.
        leads_on (followed_bracket c open_ (make (MakeExport at) ∷ goals) values (goes_made end body nodes (MakeExport at) goals b l (expr x ∷ values) g) d)
    followed_statement (grammar.if_alone {test} {body = block} {at} c statements) goals values e g = λ d.
        leads_on (followed_test c (make EmptyBlock ∷ want Block ∷ want (AfterBlock d at) ∷ goals) values
        (λ f. leads_on (followed_block statements (want (AfterBlock d at) ∷ goals) [] (expr test ∷ values) refl
        (λ h. leads_on (leads_on (leads_on (g d)))) f)) (suc d))
    followed_statement (grammar.if_else {test} {body = block} {other} {at} c statements others) goals values e g = λ d.
        leads_on (followed_test c (make EmptyBlock ∷ want Block ∷ want (AfterBlock d at) ∷ goals) values
        (λ f. leads_on (followed_block statements (want (AfterBlock d at) ∷ goals) [] (expr test ∷ values) refl
        (λ h. leads_on (leads_on (leads_on (followed_block others (want (End d) ∷ make (MakeIf at) ∷ goals) [] (stmts block ∷ expr test ∷ values) refl
        (λ m. leads_on (leads_on (g d))) h)))) f)) (suc d))
    followed_statement (grammar.while {test} {body = block} {at} c statements) goals values e g = λ d.
        leads_on (followed_test c (make EmptyBlock ∷ want Block ∷ want (End d) ∷ make (MakeWhile at) ∷ goals) values
        (λ f. leads_on (followed_block statements (want (End d) ∷ make (MakeWhile at) ∷ goals) [] (expr test ∷ values) refl
        (λ h. leads_on (leads_on (g d))) f)) (suc d))

    pub followed_block : {a b : List Lexed} {k l : ℕ} {ys : List Stmt} → IsBlock a k ys b l → (goals : List Goal) (xs : List Stmt) (values : List Value) → ends_block (next b) ≡ true
        → Goes end body nodes goals b l (stmts (xs ++ ys) ∷ values) → Goes end body nodes (want Block ∷ goals) a k (stmts xs ∷ values)
    followed_block (grammar.block_ends {a} {k}) goals xs values e g = goes_block_ends goals a k xs values e g
    followed_block (grammar.block_line more) goals xs values e g = λ d. leads_on (followed_block more goals xs values e g d)
    followed_block (grammar.block_more {stmt = x} {stmts = ys} {c} {m} x_spelled more) goals xs values e g =
        goes_block_more x_spelled goals (stmts xs ∷ values)
        (λ d. followed_statement x_spelled (want (EndLine d) ∷ make AppendStatement ∷ want Block ∷ goals) (stmts xs ∷ values) refl
        (λ f. leads_on (leads_on (followed_block more goals (xs ++ x ∷ []) values e (goes_more_statements goals c m xs x ys values g) d))) d)
