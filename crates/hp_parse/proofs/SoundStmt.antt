-- What the machine's goals say holds before a step, if it holds behind it: phrases of statements.
use Rattle.std.proofs.Common.{ℕ, List, [], ◌∷◌, refl, sym, subst, append_assoc}
use Rattle.std.proofs.lemmas.List.{append-nil}
use Rattle.hp_word.specs.declared.place.Place.{Place}
use Rattle.hp_script.specs.declared.tree.Expr.{Expr}
use Rattle.hp_script.specs.declared.tree.Stmt.{Stmt}
use Rattle.hp_script.specs.declared.tree.Stmt.TheViews as views
use Rattle.hp_script.specs.declared.tree.Stmt.TheVariants as kinds
use Rattle.hp_script.specs.declared.tree.Level.TheVariants.{Disjunction}
use Rattle.hp_script.specs.declared.token.Keyword.TheVariants as keywords
use Rattle.hp_script.specs.declared.token.Sign.TheVariants as signs
use Rattle.hp_script.specs.Lexemes.{Lexeme, Identifier, Word, Mark, Newline, Lexed}
use Rattle.hp_script.specs.Trees.{named}
use Rattle.hp_script.specs.Grammar as grammar
use Rattle.hp_script.specs.Grammar.{token, mark, IsChain, IsStmt, IsBlock, IsBody}
use Rattle.hp_parse.specs.Machine.{Bracket, Close, CloseIndex, AssignSign, Line, Statement, AfterBlock, End, EndLine, Block, Body, AfterStatement, Goal, want, make, Value, expr, stmt, stmts, At, step, enter, never, AppendStatement}
use Rattle.hp_parse.proofs.SoundMeaning.{Back, BackAt, phrase_means, goals_mean, config_means, IsBracket, in_brackets, IsElse, else_none, else_some, IsAfter, after_last, after_line}

module _ (end : Place) (body : List Stmt) (nodes : ℕ) (goals : List Goal) where
  -- ---- signs and words

  close_token_back : (before : ℕ) → BackAt end body nodes goals (Close before)
  unfolding step enter
  close_token_back before (Mark signs.Close) at a k d values h = (at, a, refl, h)
  close_token_back before _ at a k d values h = absurd h

  pub close_back : (before : ℕ) → Back end body nodes goals (Close before)
  unfolding step enter
  close_back before [] k d values h = absurd h
  close_back before (t ∷ a) k d values h = close_token_back before t.what t.at a k d values h

  close_index_token_back : (before : ℕ) → BackAt end body nodes goals (CloseIndex before)
  unfolding step enter
  close_index_token_back before (Mark signs.CloseIndex) at a k d values h = (at, a, refl, h)
  close_index_token_back before _ at a k d values h = absurd h

  pub close_index_back : (before : ℕ) → Back end body nodes goals (CloseIndex before)
  unfolding step enter
  close_index_back before [] k d values h = absurd h
  close_index_back before (t ∷ a) k d values h = close_index_token_back before t.what t.at a k d values h

  assign_sign_token_back : BackAt end body nodes goals AssignSign
  unfolding step enter
  assign_sign_token_back (Mark signs.Assign) at a k d values h = (at, a, refl, h)
  assign_sign_token_back _ at a k d values h = absurd h

  pub assign_sign_back : Back end body nodes goals AssignSign
  unfolding step enter
  assign_sign_back [] k d values h = absurd h
  assign_sign_back (t ∷ a) k d values h = assign_sign_token_back t.what t.at a k d values h

  line_token_back : BackAt end body nodes goals Line
  unfolding step enter
  line_token_back Newline at a k d values h = (at, a, refl, h)
  line_token_back _ at a k d values h = absurd h

  pub line_back : Back end body nodes goals Line
  unfolding step enter
  line_back [] k d values h = absurd h
  line_back (t ∷ a) k d values h = line_token_back t.what t.at a k d values h

  end_line_token_back : (before : ℕ) → BackAt end body nodes goals (EndLine before)
  unfolding step enter
  end_line_token_back before Newline at a k d values h = (at, a, refl, h)
  end_line_token_back before _ at a k d values h = absurd h

  pub end_line_back : (before : ℕ) → Back end body nodes goals (EndLine before)
  unfolding step enter
  end_line_back before [] k d values h = absurd h
  end_line_back before (t ∷ a) k d values h = end_line_token_back before t.what t.at a k d values h

  end_token_back : (before : ℕ) → BackAt end body nodes goals (End before)
  unfolding step enter
  end_token_back before (Word keywords.End) at a k d values h = (at, a, refl, h)
  end_token_back before _ at a k d values h = absurd h

  pub end_back : (before : ℕ) → Back end body nodes goals (End before)
  unfolding step enter
  end_back before [] k d values h = absurd h
  end_back before (t ∷ a) k d values h = end_token_back before t.what t.at a k d values h

  bracket_token_back : BackAt end body nodes goals Bracket
  unfolding step enter
  bracket_token_back (Mark signs.Open) at a k d values h =
      let close = h.4 in
      (h.0, close.1, h.2, in_brackets (subst (λ b. IsChain Disjunction a k h.0 b h.2) close.2 h.3), close.3)
  bracket_token_back _ at a k d values h = absurd h

  pub bracket_back : Back end body nodes goals Bracket
  unfolding step enter
  bracket_back [] k d values h = absurd h
  bracket_back (t ∷ a) k d values h = bracket_token_back t.what t.at a k d values h

  -- ---- statements

  -- a statement of an expression in brackets
  print_of : {a b : List Lexed} {k l : ℕ} {x : Expr} → (at : Place) → IsBracket a k x b l → IsStmt (token (Word keywords.Println) at ∷ a) k (kinds.Print at x) b l
  print_of at (in_brackets inner) = grammar.print inner

  export_of : {a b : List Lexed} {k l : ℕ} {x : Expr} → (at : Place) → IsBracket a k x b l → IsStmt (token (Word keywords.WriteCsv) at ∷ a) k (kinds.Export at x) b l
  export_of at (in_brackets inner) = grammar.export inner

  if_of : {a b c d : List Lexed} {k l m n : ℕ} {test : Expr} {block other : List Stmt} → (at line : Place) → IsChain Disjunction a k test (token Newline line ∷ b) l
      → IsBlock b l block c m → IsElse c m other d n → IsStmt (token (Word keywords.If) at ∷ a) k (views.If at test block other) d n
  if_of at line test block else_none = grammar.if_alone test block
  if_of at line test block (else_some other) = grammar.if_else test block other

  statement_token_back : BackAt end body nodes goals Statement
  unfolding step enter
  statement_token_back (Identifier bytes) at a k d values h =
      let x = h.3 in
      (kinds.Assign at (named bytes) x.0, x.1, x.2, subst (λ b. IsStmt (token (Identifier bytes) at ∷ b) k (kinds.Assign at (named bytes) x.0) x.1 x.2) (sym h.2) (grammar.assign x.3), x.4)
  statement_token_back (Word keywords.Println) at a k d values h = (kinds.Print at h.0, h.1, h.2, print_of at h.3, h.4)
  statement_token_back (Word keywords.WriteCsv) at a k d values h = (kinds.Export at h.0, h.1, h.2, export_of at h.3, h.4)
  statement_token_back (Word keywords.If) at a k d values h =
      let line = h.4 in
      let block = line.3 in
      let other = block.4 in
      (views.If at h.0 block.0 other.0, other.1, other.2, if_of at line.0 (subst (λ b. IsChain Disjunction a k h.0 b h.2) line.2 h.3) block.3 other.3, other.4)
  statement_token_back (Word keywords.While) at a k d values h =
      let line = h.4 in
      let block = line.3 in
      let end_word = block.4 in (
        views.While at h.0 block.0,
        end_word.1,
        block.2,
        grammar.while (subst (λ b. IsChain Disjunction a k h.0 b h.2) line.2 h.3) (subst (λ b. IsBlock line.1 h.2 block.0 b block.2) end_word.2 block.3),
        end_word.3,
      )
  statement_token_back _ at a k d values h = absurd h

  pub statement_back : Back end body nodes goals Statement
  unfolding step enter
  statement_back [] k d values h = absurd h
  statement_back (t ∷ a) k d values h = statement_token_back t.what t.at a k d values h

  after_block_token_back : (before : ℕ) (start : Place) (what : Lexeme) (at : Place) (a : List Lexed) (k d : ℕ) (block : List Stmt) (test : Expr) (values : List Value)
      → config_means body nodes (step never end (At (token what at ∷ a) k d (want (AfterBlock before start) ∷ goals) (stmts block ∷ expr test ∷ values)))
      → phrase_means (AfterBlock before start) (goals_mean body nodes goals) (token what at ∷ a) k (stmts block ∷ expr test ∷ values)
  unfolding step enter
  after_block_token_back before start (Word keywords.Else) at a k d block test values h =
      let other = h.3 in
      let end_word = other.4 in (
        other.0,
        end_word.1,
        other.2,
        subst (λ b. IsElse (token (Word keywords.Else) at ∷ b) k other.0 end_word.1 other.2) (sym h.2) (else_some (subst (λ b. IsBlock h.1 k other.0 b other.2) end_word.2 other.3)),
        end_word.3,
      )
  after_block_token_back before start (Word keywords.End) at a k d block test values h = ([], a, k, else_none, h)
  after_block_token_back before start _ at a k d block test values h = absurd h

  pub after_block_back : (before : ℕ) (start : Place) → Back end body nodes goals (AfterBlock before start)
  unfolding step enter
  after_block_back before start [] k d (stmts block ∷ expr test ∷ values) h = absurd h
  after_block_back before start (t ∷ a) k d (stmts block ∷ expr test ∷ values) h = after_block_token_back before start t.what t.at a k d block test values h
  after_block_back before start a k d _ h = tt

  -- ---- blocks and the whole script

  block_ends_means : (a : List Lexed) (k : ℕ) (xs : List Stmt) (values : List Value) → goals_mean body nodes goals a k (stmts xs ∷ values)
      → phrase_means Block (goals_mean body nodes goals) a k (stmts xs ∷ values)
  block_ends_means a k xs values h = ([], a, k, grammar.block_ends, subst (λ ys. goals_mean body nodes goals a k (stmts ys ∷ values)) (sym (append-nil xs)) h)

  block_more_means : (before : ℕ) (a : List Lexed) (k : ℕ) (xs : List Stmt) (values : List Value)
      → goals_mean body nodes (want Statement ∷ want (EndLine before) ∷ make AppendStatement ∷ want Block ∷ goals) a k (stmts xs ∷ values)
      → phrase_means Block (goals_mean body nodes goals) a k (stmts xs ∷ values)
  block_more_means before a k xs values h =
      let line = h.4 in
      let more = line.3 in (
        h.0 ∷ more.0,
        more.1,
        more.2,
        grammar.block_more (subst (λ b. IsStmt a k h.0 b h.2) line.2 h.3) more.3,
        subst (λ ys. goals_mean body nodes goals more.1 more.2 (stmts ys ∷ values)) (append_assoc xs (h.0 ∷ []) more.0) more.4,
      )

  block_token_back : (what : Lexeme) (at : Place) (a : List Lexed) (k d : ℕ) (xs : List Stmt) (values : List Value)
      → config_means body nodes (step never end (At (token what at ∷ a) k d (want Block ∷ goals) (stmts xs ∷ values)))
      → phrase_means Block (goals_mean body nodes goals) (token what at ∷ a) k (stmts xs ∷ values)
  unfolding step enter
  block_token_back Newline at a k d xs values h = (h.0, h.1, h.2, grammar.block_line h.3, h.4)
  block_token_back (Identifier bytes) at a k d xs values h = block_more_means d _ k xs values h
  block_token_back (Word keywords.Println) at a k d xs values h = block_more_means d _ k xs values h
  block_token_back (Word keywords.WriteCsv) at a k d xs values h = block_more_means d _ k xs values h
  block_token_back (Word keywords.If) at a k d xs values h = block_more_means d _ k xs values h
  block_token_back (Word keywords.While) at a k d xs values h = block_more_means d _ k xs values h
  block_token_back _ at a k d xs values h = block_ends_means _ k xs values h

  pub block_back : Back end body nodes goals Block
  unfolding step enter
  block_back [] k d (stmts xs ∷ values) h = block_ends_means [] k xs values h
  block_back (t ∷ a) k d (stmts xs ∷ values) h = block_token_back t.what t.at a k d xs values h
  block_back a k d _ h = tt

  body_of : {a b : List Lexed} {k l m : ℕ} {x : Stmt} {xs : List Stmt} → IsStmt a k x b l → IsAfter b l xs m → IsBody a k (x ∷ xs) m
  body_of x after_last = grammar.body_last x
  body_of x (after_line more) = grammar.body_more x more

  body_more_means : (before : ℕ) (a : List Lexed) (k : ℕ) (xs : List Stmt) (values : List Value)
      → goals_mean body nodes (want Statement ∷ want (AfterStatement before) ∷ goals) a k (stmts xs ∷ values)
      → phrase_means Body (goals_mean body nodes goals) a k (stmts xs ∷ values)
  body_more_means before a k xs values h =
      let more = h.4 in
      (h.0 ∷ more.0, more.1, body_of h.3 more.2, more.3)

  body_token_back : (what : Lexeme) (at : Place) (a : List Lexed) (k d : ℕ) (xs : List Stmt) (values : List Value)
      → config_means body nodes (step never end (At (token what at ∷ a) k d (want Body ∷ goals) (stmts xs ∷ values)))
      → phrase_means Body (goals_mean body nodes goals) (token what at ∷ a) k (stmts xs ∷ values)
  unfolding step enter
  body_token_back Newline at a k d xs values h = (h.0, h.1, grammar.body_line h.2, h.3)
  body_token_back _ at a k d xs values h = body_more_means d _ k xs values h

  pub body_back : Back end body nodes goals Body
  unfolding step enter
  body_back [] k d (stmts xs ∷ values) h = ([], k, grammar.body_ends, subst (λ ys. goals_mean body nodes goals [] k (stmts ys ∷ values)) (sym (append-nil xs)) h)
  body_back (t ∷ a) k d (stmts xs ∷ values) h = body_token_back t.what t.at a k d xs values h
  body_back a k d _ h = tt

  after_statement_token_back : (before : ℕ) (what : Lexeme) (at : Place) (a : List Lexed) (k d : ℕ) (x : Stmt) (xs : List Stmt) (values : List Value)
      → config_means body nodes (step never end (At (token what at ∷ a) k d (want (AfterStatement before) ∷ goals) (stmt x ∷ stmts xs ∷ values)))
      → phrase_means (AfterStatement before) (goals_mean body nodes goals) (token what at ∷ a) k (stmt x ∷ stmts xs ∷ values)
  unfolding step enter
  after_statement_token_back before Newline at a k d x xs values h =
      (h.0, h.1, after_line h.2, subst (λ ys. goals_mean body nodes goals [] h.1 (stmts ys ∷ values)) (append_assoc xs (x ∷ []) h.0) h.3)
  after_statement_token_back before _ at a k d x xs values h = absurd h

  pub after_statement_back : (before : ℕ) → Back end body nodes goals (AfterStatement before)
  unfolding step enter
  after_statement_back before [] k d (stmt x ∷ stmts xs ∷ values) h = ([], k, after_last, h)
  after_statement_back before (t ∷ a) k d (stmt x ∷ stmts xs ∷ values) h = after_statement_token_back before t.what t.at a k d x xs values h
  after_statement_back before a k d _ h = tt
