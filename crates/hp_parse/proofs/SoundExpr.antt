-- What the machine's goals say holds before a step, if it holds behind it: phrases of expressions.
use Rattle.std.proofs.Common.{◌≡◌, ◌≢◌, ℕ, suc, Bool, true, false, List, [], ◌∷◌, ◌++◌, Option, Some, None, refl, sym, subst, append_assoc}
use Rattle.std.proofs.lemmas.List.{append-nil}
use Rattle.hp_word.specs.declared.place.Place.{Place}
use Rattle.hp_script.specs.declared.tree.UnOp.{UnOp}
use Rattle.hp_script.specs.declared.tree.BinOp.{BinOp}
use Rattle.hp_script.specs.declared.tree.Expr.{Expr}
use Rattle.hp_script.specs.declared.tree.Arg.{Arg}
use Rattle.hp_script.specs.declared.tree.Arg.TheViews as views
use Rattle.hp_script.specs.declared.tree.Stmt.{Stmt}
use Rattle.hp_script.specs.declared.tree.Level.{Level}
use Rattle.hp_script.specs.declared.tree.Level.TheVariants.{Disjunction, Conjunction, Comparison, Sum, Product}
use Rattle.hp_script.specs.declared.token.Keyword.TheVariants as keywords
use Rattle.hp_script.specs.declared.token.Sign.{Sign}
use Rattle.hp_script.specs.declared.token.Sign.TheVariants as signs
use Rattle.hp_script.specs.Lexemes.{Lexeme, Numeral, Identifier, Quoted, Word, Mark, Lexed}
use Rattle.hp_script.specs.Trees.{number_node, truth_node, text_node, name_node, column_node, field_node, unary_node, binary_node, call_node, named}
use Rattle.hp_script.specs.Grammar as grammar
use Rattle.hp_script.specs.Grammar.{token, mark, level_of, tighter, unary_of, IsChain, IsOperand, IsTail, IsUnary, IsIndexed, IsPrimary, IsArgs, IsMoreArgs, IsArg}
use Rattle.hp_parse.specs.Machine.{Chain, Tail, Unary, Indexed, Primary, ColumnName, AfterName, AfterDot, Arguments, MoreArguments, Argument, AfterArgumentName, AfterArgument, Goal, want, make, Value, expr, arg, args, At, step, enter, never, operand, operand_or, level_eq, rest_of_chain, moved, MakeBinary, AppendArgument, goes_on_from_name}
use Rattle.hp_parse.proofs.Moves.{operator_move, level_same}
use Rattle.hp_parse.proofs.SoundMeaning.{Back, BackAt, phrase_means, goals_mean, config_means}

module _ (end : Place) (body : List Stmt) (nodes : ℕ) (goals : List Goal) where
  -- ---- chains

  operand_means : (level : Level) (more : List Goal) (a : List Lexed) (k : ℕ) (values : List Value) → goals_mean body nodes (operand level ∷ more) a k values
      → (x : Expr) × (b : List Lexed) × (l : ℕ) × IsOperand level a k x b l × goals_mean body nodes more b l (expr x ∷ values)
  operand_means Product more a k values h = (h.0, h.1, h.2, grammar.operand_unary refl h.3, h.4)
  operand_means Disjunction more a k values h = (h.0, h.1, h.2, grammar.operand_chain refl h.3, h.4)
  operand_means Conjunction more a k values h = (h.0, h.1, h.2, grammar.operand_chain refl h.3, h.4)
  operand_means Comparison more a k values h = (h.0, h.1, h.2, grammar.operand_chain refl h.3, h.4)
  operand_means Sum more a k values h = (h.0, h.1, h.2, grammar.operand_chain refl h.3, h.4)

  chain_means : (level : Level) (a : List Lexed) (k : ℕ) (values : List Value) → goals_mean body nodes (operand level ∷ want (Tail level) ∷ goals) a k values
      → phrase_means (Chain level) (goals_mean body nodes goals) a k values
  chain_means level a k values h =
      let o = operand_means level (want (Tail level) ∷ goals) a k values h in
      let t = o.4 in
      (t.0, t.1, t.2, grammar.chain o.3 t.3, t.4)

  pub chain_back : (level : Level) → Back end body nodes goals (Chain level)
  unfolding step enter
  chain_back level [] k d values h = chain_means level [] k values h
  chain_back level (t ∷ a) k d values h = chain_means level (t ∷ a) k values h

  tail_chain_back : (level : Level) → level ≢ Comparison → (op : BinOp) (dotted : Bool) (at : Place) (a : List Lexed) (k : ℕ) (x : Expr) (values : List Value)
      → level_of op ≡ level
      → goals_mean body nodes (operand level ∷ make (MakeBinary k at op dotted) ∷ want (Tail level) ∷ goals) a (suc k) (expr x ∷ values)
      → phrase_means (Tail level) (goals_mean body nodes goals) (mark (signs.Operator op dotted) at ∷ a) k (expr x ∷ values)
  tail_chain_back level chains op dotted at a k x values e h =
      let o = operand_means level (make (MakeBinary k at op dotted) ∷ want (Tail level) ∷ goals) a (suc k) (expr x ∷ values) h in
      let t = o.4 in
      (t.0, t.1, t.2, grammar.tail_more e chains o.3 t.3, t.4)

  tail_more_back : (level : Level) (op : BinOp) (dotted : Bool) (at : Place) (a : List Lexed) (k : ℕ) (x : Expr) (values : List Value) → level_of op ≡ level
      → goals_mean body nodes (operand level ∷ make (MakeBinary k at op dotted) ∷ rest_of_chain level ++ goals) a (suc k) (expr x ∷ values)
      → phrase_means (Tail level) (goals_mean body nodes goals) (mark (signs.Operator op dotted) at ∷ a) k (expr x ∷ values)
  tail_more_back Comparison op dotted at a k x values e h =
      let o = operand_means Comparison (make (MakeBinary k at op dotted) ∷ goals) a (suc k) (expr x ∷ values) h in
      (binary_node k at op dotted x o.0, o.1, o.2, grammar.tail_comparison e o.3, o.4)
  tail_more_back Disjunction op dotted at a k x values e h = tail_chain_back Disjunction (λ w. cc) op dotted at a k x values e h
  tail_more_back Conjunction op dotted at a k x values e h = tail_chain_back Conjunction (λ w. cc) op dotted at a k x values e h
  tail_more_back Sum op dotted at a k x values e h = tail_chain_back Sum (λ w. cc) op dotted at a k x values e h
  tail_more_back Product op dotted at a k x values e h = tail_chain_back Product (λ w. cc) op dotted at a k x values e h

  tail_ends_back : (level : Level) (a : List Lexed) (k : ℕ) (x : Expr) (values : List Value) → goals_mean body nodes goals a k (expr x ∷ values)
      → phrase_means (Tail level) (goals_mean body nodes goals) a k (expr x ∷ values)
  tail_ends_back level a k x values h = (x, a, k, grammar.tail_ends, h)

  tail_operator_back : (same : Bool) (level : Level) (op : BinOp) (dotted : Bool) (at : Place) (a : List Lexed) (k d : ℕ) (x : Expr) (values : List Value)
      → level_eq (level_of op) level ≡ same
      → config_means body nodes (moved never (mark (signs.Operator op dotted) at) a (operator_move same level op dotted at k d) d goals (expr x ∷ values))
      → phrase_means (Tail level) (goals_mean body nodes goals) (mark (signs.Operator op dotted) at ∷ a) k (expr x ∷ values)
  tail_operator_back true level op dotted at a k d x values e h = tail_more_back level op dotted at a k x values (level_same _ _ e) h
  tail_operator_back false level op dotted at a k d x values e h = tail_ends_back level _ k x values h

  tail_token_back : (level : Level) (what : Lexeme) (at : Place) (a : List Lexed) (k d : ℕ) (x : Expr) (values : List Value)
      → config_means body nodes (step never end (At (token what at ∷ a) k d (want (Tail level) ∷ goals) (expr x ∷ values)))
      → phrase_means (Tail level) (goals_mean body nodes goals) (token what at ∷ a) k (expr x ∷ values)
  unfolding step enter
  tail_token_back level (Mark (signs.Operator op dotted)) at a k d x values h = tail_operator_back (level_eq (level_of op) level) level op dotted at a k d x values refl h
  tail_token_back level _ at a k d x values h = tail_ends_back level _ k x values h

  pub tail_back : (level : Level) → Back end body nodes goals (Tail level)
  unfolding step enter
  tail_back level [] k d (expr x ∷ values) h = tail_ends_back level [] k x values h
  tail_back level (t ∷ a) k d (expr x ∷ values) h = tail_token_back level t.what t.at a k d x values h
  tail_back level a k d _ h = tt

  -- ---- operands

  postfix_means : (a : List Lexed) (k : ℕ) (values : List Value) → goals_mean body nodes (want Primary ∷ want Indexed ∷ goals) a k values
      → phrase_means Unary (goals_mean body nodes goals) a k values
  postfix_means a k values h =
      let i = h.4 in
      (i.0, i.1, i.2, grammar.postfix h.3 i.3, i.4)

  unary_sign_back : (found : Option (UnOp × Bool)) (sign : Sign) (at : Place) (a : List Lexed) (k d : ℕ) (values : List Value) → unary_of sign ≡ found
      → config_means body nodes (moved never (mark sign at) a (operand_or found at k d) d goals values)
      → phrase_means Unary (goals_mean body nodes goals) (mark sign at ∷ a) k values
  unary_sign_back None sign at a k d values e h = postfix_means (mark sign at ∷ a) k values h
  unary_sign_back (Some x) sign at a k d values e h = (unary_node k at x.0 x.1 h.0, h.1, h.2, grammar.unary e h.3, h.4)

  unary_token_back : BackAt end body nodes goals Unary
  unfolding step enter
  unary_token_back (Mark sign) at a k d values h = unary_sign_back (unary_of sign) sign at a k d values refl h
  unary_token_back _ at a k d values h = postfix_means _ k values h

  pub unary_back : Back end body nodes goals Unary
  unfolding step enter
  unary_back [] k d values h = postfix_means [] k values h
  unary_back (t ∷ a) k d values h = unary_token_back t.what t.at a k d values h

  -- ---- indices

  indexed_ends_back : (a : List Lexed) (k : ℕ) (x : Expr) (values : List Value) → goals_mean body nodes goals a k (expr x ∷ values)
      → phrase_means Indexed (goals_mean body nodes goals) a k (expr x ∷ values)
  indexed_ends_back a k x values h = (x, a, k, grammar.indexed_ends, h)

  indexed_token_back : (what : Lexeme) (at : Place) (a : List Lexed) (k d : ℕ) (x : Expr) (values : List Value)
      → config_means body nodes (step never end (At (token what at ∷ a) k d (want Indexed ∷ goals) (expr x ∷ values)))
      → phrase_means Indexed (goals_mean body nodes goals) (token what at ∷ a) k (expr x ∷ values)
  unfolding step enter
  indexed_token_back (Mark signs.OpenIndex) at a k d x values h =
      let c = h.4 in
      let i = c.3 in
      (i.0, i.1, i.2, grammar.indexed_more (subst (λ b. IsChain Disjunction a (suc k) h.0 b h.2) c.2 h.3) i.3, i.4)
  indexed_token_back _ at a k d x values h = indexed_ends_back _ k x values h

  pub indexed_back : Back end body nodes goals Indexed
  unfolding step enter
  indexed_back [] k d (expr x ∷ values) h = indexed_ends_back [] k x values h
  indexed_back (t ∷ a) k d (expr x ∷ values) h = indexed_token_back t.what t.at a k d x values h
  indexed_back a k d _ h = tt

  -- ---- primaries

  primary_token_back : BackAt end body nodes goals Primary
  unfolding step enter
  primary_token_back (Numeral value) at a k d values h = (number_node k at value, a, suc k, grammar.number, h)
  primary_token_back (Quoted bytes) at a k d values h = (text_node k at bytes, a, suc k, grammar.text, h)
  primary_token_back (Word keywords.True) at a k d values h = (truth_node k at true, a, suc k, grammar.yes_literal, h)
  primary_token_back (Word keywords.False) at a k d values h = (truth_node k at false, a, suc k, grammar.no_literal, h)
  primary_token_back (Mark signs.Colon) at a k d values h =
      (column_node k at h.0, h.2, suc k, subst (λ b. IsPrimary (mark signs.Colon at ∷ b) k (column_node k at h.0) h.2 (suc k)) (sym h.3) grammar.column, h.4)
  primary_token_back (Mark signs.Open) at a k d values h =
      let c = h.4 in
      (h.0, c.1, h.2, grammar.bracketed (subst (λ b. IsChain Disjunction a k h.0 b h.2) c.2 h.3), c.3)
  primary_token_back (Identifier bytes) at a k d values h = h refl
  primary_token_back _ at a k d values h = absurd h

  pub primary_back : Back end body nodes goals Primary
  unfolding step enter
  primary_back [] k d values h = absurd h
  primary_back (t ∷ a) k d values h = primary_token_back t.what t.at a k d values h

  column_token_back : (id : ℕ) (start : Place) → BackAt end body nodes goals (ColumnName id start)
  unfolding step enter
  column_token_back id start (Identifier bytes) at a k d values h = (bytes, at, a, refl, h)
  column_token_back id start _ at a k d values h = absurd h

  pub column_back : (id : ℕ) (start : Place) → Back end body nodes goals (ColumnName id start)
  unfolding step enter
  column_back id start [] k d values h = absurd h
  column_back id start (t ∷ a) k d values h = column_token_back id start t.what t.at a k d values h

  -- ---- names and calls

  variable_means : (id : ℕ) (start : Place) (bytes : List ℕ) (a : List Lexed) (k : ℕ) (values : List Value)
      → goals_mean body nodes goals a k (expr (name_node id start bytes) ∷ values) → phrase_means (AfterName id start bytes) (goals_mean body nodes goals) a k values
  variable_means id start bytes a k values h e =
      (name_node id start bytes, a, suc id, grammar.variable, subst (λ l. goals_mean body nodes goals a l (expr (name_node id start bytes) ∷ values)) e h)

  name_token_back : (id : ℕ) (start : Place) (bytes : List ℕ) → BackAt end body nodes goals (AfterName id start bytes)
  unfolding step enter
  name_token_back id start bytes (Mark signs.Dot) at a k d values h e = h at e
  name_token_back id start bytes (Mark signs.Open) at a k d values h e =
      (call_node id start bytes false h.0, h.1, h.2, grammar.call (subst (λ l. IsArgs a l h.0 h.1 h.2) e h.3), h.4)
  name_token_back id start bytes _ at a k d values h e = variable_means id start bytes _ k values h e

  pub name_back : (id : ℕ) (start : Place) (bytes : List ℕ) → Back end body nodes goals (AfterName id start bytes)
  unfolding step enter
  name_back id start bytes [] k d values h = variable_means id start bytes [] k values h
  name_back id start bytes (t ∷ a) k d values h = name_token_back id start bytes t.what t.at a k d values h

  dot_token_back : (id : ℕ) (start : Place) (bytes : List ℕ) → BackAt end body nodes goals (AfterDot id start bytes)
  unfolding step enter
  dot_token_back id start bytes (Identifier column) at a k d values h dot e =
      (field_node id start bytes column, a, suc id, grammar.field, subst (λ l. goals_mean body nodes goals a l (expr (field_node id start bytes column) ∷ values)) e h)
  dot_token_back id start bytes (Mark signs.Open) at a k d values h dot e =
      (call_node id start bytes true h.0, h.1, h.2, grammar.dotted_call (subst (λ l. IsArgs a l h.0 h.1 h.2) e h.3), h.4)
  dot_token_back id start bytes _ at a k d values h dot e = absurd h

  pub dot_back : (id : ℕ) (start : Place) (bytes : List ℕ) → Back end body nodes goals (AfterDot id start bytes)
  unfolding step enter
  dot_back id start bytes [] k d values h = absurd h
  dot_back id start bytes (t ∷ a) k d values h = dot_token_back id start bytes t.what t.at a k d values h

  -- ---- arguments

  arguments_mean_some : (before : ℕ) (a : List Lexed) (k : ℕ) (xs : List Arg) (values : List Value)
      → goals_mean body nodes (want Argument ∷ make AppendArgument ∷ want (MoreArguments before) ∷ goals) a k (args xs ∷ values)
      → (y : Arg) × (ys : List Arg) × (b c : List Lexed) × (l m : ℕ) × IsArg a k y b l × IsMoreArgs b l ys c m × goals_mean body nodes goals c m (args (xs ++ y ∷ ys) ∷ values)
  arguments_mean_some before a k xs values h =
      let more = h.4 in
      (h.0, more.0, h.1, more.1, h.2, more.2, h.3, more.3, subst (λ ys. goals_mean body nodes goals more.1 more.2 (args ys ∷ values)) (append_assoc xs (h.0 ∷ []) more.0) more.4)

  arguments_end : (a : List Lexed) (k : ℕ) (xs : List Arg) (values : List Value) → goals_mean body nodes goals a k (args xs ∷ values)
      → goals_mean body nodes goals a k (args (xs ++ []) ∷ values)
  arguments_end a k xs values h = subst (λ ys. goals_mean body nodes goals a k (args ys ∷ values)) (sym (append-nil xs)) h

  arguments_some_back : (before : ℕ) (a : List Lexed) (k : ℕ) (xs : List Arg) (values : List Value)
      → goals_mean body nodes (want Argument ∷ make AppendArgument ∷ want (MoreArguments before) ∷ goals) a k (args xs ∷ values)
      → phrase_means (Arguments before) (goals_mean body nodes goals) a k (args xs ∷ values)
  arguments_some_back before a k xs values h =
      let r = arguments_mean_some before a k xs values h in
      (r.0 ∷ r.1, r.3, r.5, grammar.args_some r.6 r.7, r.8)

  arguments_token_back : (before : ℕ) (what : Lexeme) (at : Place) (a : List Lexed) (k d : ℕ) (xs : List Arg) (values : List Value)
      → config_means body nodes (step never end (At (token what at ∷ a) k d (want (Arguments before) ∷ goals) (args xs ∷ values)))
      → phrase_means (Arguments before) (goals_mean body nodes goals) (token what at ∷ a) k (args xs ∷ values)
  unfolding step enter
  arguments_token_back before (Mark signs.Close) at a k d xs values h = ([], a, k, grammar.args_none, arguments_end a k xs values h)
  arguments_token_back before _ at a k d xs values h = arguments_some_back before _ k xs values h

  pub arguments_back : (before : ℕ) → Back end body nodes goals (Arguments before)
  unfolding step enter
  arguments_back before [] k d (args xs ∷ values) h = arguments_some_back before [] k xs values h
  arguments_back before (t ∷ a) k d (args xs ∷ values) h = arguments_token_back before t.what t.at a k d xs values h
  arguments_back before a k d _ h = tt

  more_token_back : (before : ℕ) (what : Lexeme) (at : Place) (a : List Lexed) (k d : ℕ) (xs : List Arg) (values : List Value)
      → config_means body nodes (step never end (At (token what at ∷ a) k d (want (MoreArguments before) ∷ goals) (args xs ∷ values)))
      → phrase_means (MoreArguments before) (goals_mean body nodes goals) (token what at ∷ a) k (args xs ∷ values)
  unfolding step enter
  more_token_back before (Mark signs.Comma) at a k d xs values h =
      let r = arguments_mean_some before a k xs values h in
      (r.0 ∷ r.1, r.3, r.5, grammar.more_some r.6 r.7, r.8)
  more_token_back before (Mark signs.Close) at a k d xs values h = ([], a, k, grammar.more_none, arguments_end a k xs values h)
  more_token_back before _ at a k d xs values h = absurd h

  pub more_back : (before : ℕ) → Back end body nodes goals (MoreArguments before)
  unfolding step enter
  more_back before [] k d (args xs ∷ values) h = absurd h
  more_back before (t ∷ a) k d (args xs ∷ values) h = more_token_back before t.what t.at a k d xs values h
  more_back before a k d _ h = tt

  argument_means : (a : List Lexed) (k : ℕ) (values : List Value) → goals_mean body nodes (want (Chain Disjunction) ∷ want AfterArgument ∷ goals) a k values
      → phrase_means Argument (goals_mean body nodes goals) a k values
  argument_means a k values h = h.4 a k h.3

  argument_token_back : BackAt end body nodes goals Argument
  unfolding step enter
  argument_token_back (Identifier bytes) at a k d values h = h
  argument_token_back _ at a k d values h = argument_means _ k values h

  pub argument_back : Back end body nodes goals Argument
  unfolding step enter
  argument_back [] k d values h = argument_means [] k values h
  argument_back (t ∷ a) k d values h = argument_token_back t.what t.at a k d values h

  -- an argument that begins with a name, and is an expression or a range
  named_means : (start : Place) (bytes : List ℕ) (a : List Lexed) (k : ℕ) (values : List Value)
      → goals_mean body nodes (goes_on_from_name k start bytes ++ goals) a (suc k) values
      → phrase_means (AfterArgumentName start bytes) (goals_mean body nodes goals) a k values
  named_means start bytes a k values h =
      let primary = h refl in
      let indexed = primary.4 in
      let product = indexed.4 in
      let sum = product.4 in
      let comparison = sum.4 in
      let conjunction = comparison.4 in
      let disjunction = conjunction.4 in
      let unary = grammar.operand_unary {level = Product} refl (grammar.postfix primary.3 indexed.3) in
      let products = grammar.operand_chain {level = Sum} refl (grammar.chain unary product.3) in
      let sums = grammar.operand_chain {level = Comparison} refl (grammar.chain products sum.3) in
      let comparisons = grammar.operand_chain {level = Conjunction} refl (grammar.chain sums comparison.3) in
      let conjunctions = grammar.operand_chain {level = Disjunction} refl (grammar.chain comparisons conjunction.3) in
      disjunction.4 (token (Identifier bytes) start ∷ a) k (grammar.chain conjunctions disjunction.3)

  argument_name_token_back : (start : Place) (bytes : List ℕ) → BackAt end body nodes goals (AfterArgumentName start bytes)
  unfolding step enter
  argument_name_token_back start bytes (Mark signs.Arrow) at a k d values h = (views.Lambda (named bytes) h.0, h.1, h.2, grammar.lambda h.3, h.4)
  argument_name_token_back start bytes (Mark signs.Assign) at a k d values h = (views.Named (named bytes) start h.0, h.1, h.2, grammar.given h.3, h.4)
  argument_name_token_back start bytes _ at a k d values h = named_means start bytes _ k values h

  pub argument_name_back : (start : Place) (bytes : List ℕ) → Back end body nodes goals (AfterArgumentName start bytes)
  unfolding step enter
  argument_name_back start bytes [] k d values h = named_means start bytes [] k values h
  argument_name_back start bytes (t ∷ a) k d values h = argument_name_token_back start bytes t.what t.at a k d values h

  plain_means : (a : List Lexed) (k : ℕ) (x : Expr) (values : List Value) → goals_mean body nodes goals a k (arg (views.Plain x) ∷ values)
      → phrase_means AfterArgument (goals_mean body nodes goals) a k (expr x ∷ values)
  plain_means a k x values h before first begun = (views.Plain x, a, k, grammar.plain begun, h)

  after_argument_token_back : (what : Lexeme) (at : Place) (a : List Lexed) (k d : ℕ) (x : Expr) (values : List Value)
      → config_means body nodes (step never end (At (token what at ∷ a) k d (want AfterArgument ∷ goals) (expr x ∷ values)))
      → phrase_means AfterArgument (goals_mean body nodes goals) (token what at ∷ a) k (expr x ∷ values)
  unfolding step enter
  after_argument_token_back (Mark signs.Colon) at a k d x values h before first begun = (views.Range x h.0, h.1, h.2, grammar.range begun h.3, h.4)
  after_argument_token_back _ at a k d x values h before first begun = plain_means _ k x values h before first begun

  pub after_argument_back : Back end body nodes goals AfterArgument
  unfolding step enter
  after_argument_back [] k d (expr x ∷ values) h = plain_means [] k x values h
  after_argument_back (t ∷ a) k d (expr x ∷ values) h = after_argument_token_back t.what t.at a k d x values h
  after_argument_back a k d _ h = tt
