-- Single moves of the machine on its way to a script: where it goes on behind a move, it goes on before it.
use Rattle.std.proofs.Common.{◌≡◌, ℕ, suc, Bool, true, false, List, [], ◌∷◌, ◌++◌, Option, Some, None, refl, sym, subst, nat_lt}
use Rattle.hp_word.specs.declared.place.Place.{Place}
use Rattle.hp_script.specs.declared.tree.UnOp.{UnOp}
use Rattle.hp_script.specs.declared.tree.BinOp.{BinOp}
use Rattle.hp_script.specs.declared.tree.Expr.{Expr}
use Rattle.hp_script.specs.declared.tree.Arg.TheViews as views
use Rattle.hp_script.specs.declared.tree.Stmt.{Stmt}
use Rattle.hp_script.specs.declared.tree.Level.{Level}
use Rattle.hp_script.specs.declared.tree.Level.TheVariants.{Disjunction, Conjunction, Comparison, Sum, Product}
use Rattle.hp_script.specs.declared.token.Sign.{Sign}
use Rattle.hp_script.specs.declared.token.Sign.TheVariants as signs
use Rattle.hp_script.specs.Lexemes.{Lexeme, Identifier, Mark, Lexed}
use Rattle.hp_script.specs.Trees.{name_node}
use Rattle.hp_script.specs.Grammar as grammar
use Rattle.hp_script.specs.Grammar.{token, mark, level_of, tighter, unary_of, IsPrimary}
use Rattle.hp_parse.specs.Machine.{Chain, Tail, Unary, Indexed, Primary, AfterName, Argument, AfterArgumentName, AfterArgument, Arguments, next_argument, Goal, want, make, made, Action, MakeBinary, MakeUnary, Value, expr, arg, At, Accepted, step, enter, never, moved, operand, operand_or, level_eq, rest_of_chain, goes_on_from_name, Leads}
use Rattle.hp_parse.proofs.FollowedEnds.{next, rank, ends_below, ends_chain, ends_unary, ends_primary, may_end_primary, is_plain_pair, begins_plain, ends_argument, may_begin_argument}
use Rattle.hp_parse.proofs.Moves.{operator_move, leads_on, leads_past, accepted_stays, level_same}

module _ (end : Place) (body : List Stmt) (nodes : ℕ) where
  -- from here, at any depth, the machine goes on to the script
  abbrev pub Goes : List Goal → List Lexed → ℕ → List Value → Type 0
  Goes goals a k values = (d : ℕ) → Leads never end (At a k d goals values) (Accepted body nodes)

  pub goes_made : (action : Action) (goals : List Goal) (a : List Lexed) (k : ℕ) (values : List Value) → Goes goals a k (made action values) → Goes (make action ∷ goals) a k values
  unfolding step
  goes_made action goals a k values g d = leads_on (g d)

  -- ---- chains

  pub goes_chain : (level : Level) (goals : List Goal) (a : List Lexed) (k : ℕ) (values : List Value)
      → Goes (operand level ∷ want (Tail level) ∷ goals) a k values → Goes (want (Chain level) ∷ goals) a k values
  unfolding step enter
  goes_chain level goals [] k values g d = leads_on (g d)
  goes_chain level goals (t ∷ a) k values g d = leads_on (g d)

  rank_less : (level : Level) → nat_lt (rank level) (rank level) ≡ true → ⊥
  rank_less Disjunction e = cc
  rank_less Conjunction e = cc
  rank_less Comparison e = cc
  rank_less Sum e = cc
  rank_less Product e = cc

  looser_differs : (l m : Level) → level_eq l m ≡ true → nat_lt (rank l) (rank m) ≡ true → ⊥
  looser_differs l m same less = rank_less m (subst (λ o. nat_lt (rank o) (rank m) ≡ true) (level_same l m same) less)

  operator_passes : (same : Bool) (level : Level) (op : BinOp) (dotted : Bool) (at : Place) (goals : List Goal) (a : List Lexed) (k d : ℕ) (values : List Value)
      → level_eq (level_of op) level ≡ same → nat_lt (rank (level_of op)) (rank level) ≡ true → Leads never end (At (mark (signs.Operator op dotted) at ∷ a) k d goals values) (Accepted body nodes)
      → Leads never end (moved never (mark (signs.Operator op dotted) at) a (operator_move same level op dotted at k d) d goals values) (Accepted body nodes)
  operator_passes true level op dotted at goals a k d values e less g = absurd (looser_differs (level_of op) level e less)
  operator_passes false level op dotted at goals a k d values e less g = g

  tail_passes : (level : Level) (what : Lexeme) (at : Place) (goals : List Goal) (a : List Lexed) (k : ℕ) (values : List Value) → ends_below (rank level) (Some what) ≡ true
      → Goes goals (token what at ∷ a) k values → Goes (want (Tail level) ∷ goals) (token what at ∷ a) k values
  unfolding step enter
  tail_passes level (Mark (signs.Operator op dotted)) at goals a k values e g d =
      leads_on (operator_passes (level_eq (level_of op) level) level op dotted at goals a k d values refl e (g d))
  tail_passes level _ at goals a k values e g d = leads_on (g d)

  pub goes_no_tail : (level : Level) (goals : List Goal) (a : List Lexed) (k : ℕ) (values : List Value) → ends_chain level a
      → Goes goals a k values → Goes (want (Tail level) ∷ goals) a k values
  unfolding step enter
  goes_no_tail level goals [] k values e g d = leads_on (g d)
  goes_no_tail level goals (t ∷ a) k values e g d = tail_passes level t.what t.at goals a k values e g d

  level_eq_self : (level : Level) → level_eq level level ≡ true
  level_eq_self Disjunction = refl
  level_eq_self Conjunction = refl
  level_eq_self Comparison = refl
  level_eq_self Sum = refl
  level_eq_self Product = refl

  operator_taken : (same : Bool) (level : Level) (op : BinOp) (dotted : Bool) (at : Place) (goals : List Goal) (a : List Lexed) (k d : ℕ) (values : List Value)
      → true ≡ same → Goes (operand level ∷ make (MakeBinary k at op dotted) ∷ rest_of_chain level ++ goals) a (suc k) values
      → Leads never end (moved never (mark (signs.Operator op dotted) at) a (operator_move same level op dotted at k d) d goals values) (Accepted body nodes)
  operator_taken true level op dotted at goals a k d values e g = g (suc d)
  operator_taken false level op dotted at goals a k d values e g = cc

  pub goes_tail : (level : Level) (op : BinOp) (dotted : Bool) (at : Place) (goals : List Goal) (a : List Lexed) (k : ℕ) (values : List Value) → level_of op ≡ level
      → Goes (operand level ∷ make (MakeBinary k at op dotted) ∷ rest_of_chain level ++ goals) a (suc k) values
      → Goes (want (Tail level) ∷ goals) (mark (signs.Operator op dotted) at ∷ a) k values
  unfolding step enter
  goes_tail level op dotted at goals a k values e g d =
      leads_on (operator_taken (level_eq (level_of op) level) level op dotted at goals a k d values (sym (subst (λ l. level_eq (level_of op) l ≡ true) e (level_eq_self (level_of op)))) g)

  -- ---- operands

  sign_taken : (found : Option (UnOp × Bool)) (sign : Sign) (op : UnOp) (dotted : Bool) (at : Place) (goals : List Goal) (a : List Lexed) (k d : ℕ) (values : List Value)
      → Some (op, dotted) ≡ found → Goes (want Unary ∷ make (MakeUnary k at op dotted) ∷ goals) a (suc k) values
      → Leads never end (moved never (mark sign at) a (operand_or found at k d) d goals values) (Accepted body nodes)
  sign_taken None sign op dotted at goals a k d values e g = cc
  sign_taken (Some x) sign op dotted at goals a k d values e g =
      let same : (op, dotted) ≡ x = cc in
      subst (λ x. Leads never end (At a (suc k) (suc d) (want Unary ∷ make (MakeUnary k at x.0 x.1) ∷ goals) values) (Accepted body nodes)) same (g (suc d))

  pub goes_unary : (sign : Sign) (op : UnOp) (dotted : Bool) (at : Place) (goals : List Goal) (a : List Lexed) (k : ℕ) (values : List Value) → unary_of sign ≡ Some (op, dotted)
      → Goes (want Unary ∷ make (MakeUnary k at op dotted) ∷ goals) a (suc k) values → Goes (want Unary ∷ goals) (mark sign at ∷ a) k values
  unfolding step enter
  goes_unary sign op dotted at goals a k values e g d = leads_on (sign_taken (unary_of sign) sign op dotted at goals a k d values (sym e) g)

  pub goes_postfix : {a b : List Lexed} {k l : ℕ} {x : Expr} (goals : List Goal) (values : List Value) → IsPrimary a k x b l
      → Goes (want Primary ∷ want Indexed ∷ goals) a k values → Goes (want Unary ∷ goals) a k values
  unfolding step enter
  goes_postfix goals values grammar.number g d = leads_on (g d)
  goes_postfix goals values grammar.yes_literal g d = leads_on (g d)
  goes_postfix goals values grammar.no_literal g d = leads_on (g d)
  goes_postfix goals values grammar.text g d = leads_on (g d)
  goes_postfix goals values grammar.column g d = leads_on (g d)
  goes_postfix goals values (grammar.bracketed c) g d = leads_on (g d)
  goes_postfix goals values grammar.variable g d = leads_on (g d)
  goes_postfix goals values grammar.field g d = leads_on (g d)
  goes_postfix goals values (grammar.call xs) g d = leads_on (g d)
  goes_postfix goals values (grammar.dotted_call xs) g d = leads_on (g d)

  index_passes : (what : Lexeme) (at : Place) (goals : List Goal) (a : List Lexed) (k : ℕ) (values : List Value) → ends_below 5 (Some what) ≡ true
      → Goes goals (token what at ∷ a) k values → Goes (want Indexed ∷ goals) (token what at ∷ a) k values
  unfolding step enter
  index_passes (Mark signs.OpenIndex) at goals a k values e g d = cc
  index_passes _ at goals a k values e g d = leads_on (g d)

  pub goes_no_index : (goals : List Goal) (a : List Lexed) (k : ℕ) (values : List Value) → ends_unary a → Goes goals a k values → Goes (want Indexed ∷ goals) a k values
  unfolding step enter
  goes_no_index goals [] k values e g d = leads_on (g d)
  goes_no_index goals (t ∷ a) k values e g d = index_passes t.what t.at goals a k values e g d

  -- a name with neither `.` nor `(` behind it
  name_passes : (id : ℕ) (start : Place) (bytes : List ℕ) (what : Lexeme) (at : Place) (goals : List Goal) (a : List Lexed) (k : ℕ) (values : List Value) → may_end_primary (Some what) ≡ true
      → Goes goals (token what at ∷ a) k (expr (name_node id start bytes) ∷ values) → Goes (want (AfterName id start bytes) ∷ goals) (token what at ∷ a) k values
  unfolding step enter
  name_passes id start bytes (Mark signs.Dot) at goals a k values e g d = cc
  name_passes id start bytes (Mark signs.Open) at goals a k values e g d = cc
  name_passes id start bytes _ at goals a k values e g d = leads_on (g d)

  goes_name : (id : ℕ) (start : Place) (bytes : List ℕ) (goals : List Goal) (a : List Lexed) (k : ℕ) (values : List Value) → ends_primary a
      → Goes goals a k (expr (name_node id start bytes) ∷ values) → Goes (want (AfterName id start bytes) ∷ goals) a k values
  unfolding step enter
  goes_name id start bytes goals [] k values e g d = leads_on (g d)
  goes_name id start bytes goals (t ∷ a) k values e g d = name_passes id start bytes t.what t.at goals a k values e g d

  pub goes_variable : (bytes : List ℕ) (at : Place) (goals : List Goal) (a : List Lexed) (k : ℕ) (values : List Value) → ends_primary a
      → Goes goals a (suc k) (expr (name_node k at bytes) ∷ values) → Goes (want Primary ∷ goals) (token (Identifier bytes) at ∷ a) k values
  unfolding step enter
  goes_variable bytes at goals a k values e g d = leads_on (goes_name k at bytes goals a (suc k) values e g d)

  -- ---- arguments

  name_goes_on : (bytes : List ℕ) (at : Place) (goals : List Goal) (what : Lexeme) (at_next : Place) (a : List Lexed) (k : ℕ) (values : List Value)
      → is_plain_pair (Identifier bytes) (Some what) ≡ true → Goes (goes_on_from_name k at bytes ++ goals) (token what at_next ∷ a) (suc k) values
      → Goes (want (AfterArgumentName at bytes) ∷ goals) (token what at_next ∷ a) k values
  unfolding step enter
  name_goes_on bytes at goals (Mark signs.Arrow) at_next a k values e g d = cc
  name_goes_on bytes at goals (Mark signs.Assign) at_next a k values e g d = cc
  name_goes_on bytes at goals _ at_next a k values e g d = leads_on (g d)

  goes_after_argument_name : (bytes : List ℕ) (at : Place) (goals : List Goal) (a : List Lexed) (k : ℕ) (values : List Value) → is_plain_pair (Identifier bytes) (next a) ≡ true
      → Goes (goes_on_from_name k at bytes ++ goals) a (suc k) values → Goes (want (AfterArgumentName at bytes) ∷ goals) a k values
  unfolding step enter
  goes_after_argument_name bytes at goals [] k values e g d = leads_on (g d)
  goes_after_argument_name bytes at goals (t ∷ a) k values e g d = name_goes_on bytes at goals t.what t.at a k values e g d

  -- an expression that begins with a name comes after seven moves to what an argument that begins so goes on with
  name_begins : (bytes : List ℕ) (at : Place) (goals : List Goal) (a : List Lexed) (k : ℕ) (values : List Value)
      → Goes (want (Chain Disjunction) ∷ want AfterArgument ∷ goals) (token (Identifier bytes) at ∷ a) k values → Goes (goes_on_from_name k at bytes ++ goals) a (suc k) values
  unfolding step enter
  name_begins bytes at goals a k values g d =
      let past = leads_past (accepted_stays never end body nodes) in
      past _ (past _ (past _ (past _ (past _ (past _ (past (At (token (Identifier bytes) at ∷ a) k d (want (Chain Disjunction) ∷ want AfterArgument ∷ goals) values) (g d)))))))

  argument_begins : (what : Lexeme) (at : Place) (goals : List Goal) (a : List Lexed) (k : ℕ) (values : List Value) → is_plain_pair what (next a) ≡ true
      → Goes (want (Chain Disjunction) ∷ want AfterArgument ∷ goals) (token what at ∷ a) k values → Goes (want Argument ∷ goals) (token what at ∷ a) k values
  unfolding step enter
  argument_begins (Identifier bytes) at goals a k values e g d = leads_on (goes_after_argument_name bytes at goals a k values e (name_begins bytes at goals a k values g) d)
  argument_begins _ at goals a k values e g d = leads_on (g d)

  pub goes_argument : (goals : List Goal) (a : List Lexed) (k : ℕ) (values : List Value) → begins_plain a ≡ true
      → Goes (want (Chain Disjunction) ∷ want AfterArgument ∷ goals) a k values → Goes (want Argument ∷ goals) a k values
  unfolding step enter
  goes_argument goals [] k values e g d = leads_on (g d)
  goes_argument goals (t ∷ a) k values e g d = argument_begins t.what t.at goals a k values e g d

  plain_ends : (what : Lexeme) (at : Place) (goals : List Goal) (a : List Lexed) (k : ℕ) (x : Expr) (values : List Value) → ends_argument (Some what) ≡ true
      → Goes goals (token what at ∷ a) k (arg (views.Plain x) ∷ values) → Goes (want AfterArgument ∷ goals) (token what at ∷ a) k (expr x ∷ values)
  unfolding step enter
  plain_ends (Mark signs.Colon) at goals a k x values e g d = cc
  plain_ends _ at goals a k x values e g d = leads_on (leads_on (g d))

  pub goes_plain : (goals : List Goal) (a : List Lexed) (k : ℕ) (x : Expr) (values : List Value) → ends_argument (next a) ≡ true
      → Goes goals a k (arg (views.Plain x) ∷ values) → Goes (want AfterArgument ∷ goals) a k (expr x ∷ values)
  unfolding step enter
  goes_plain goals [] k x values e g d = cc
  goes_plain goals (t ∷ a) k x values e g d = plain_ends t.what t.at goals a k x values e g d

  arguments_begin : (before : ℕ) (what : Lexeme) (at : Place) (goals : List Goal) (a : List Lexed) (k : ℕ) (values : List Value) → may_begin_argument (Some what) ≡ true
      → Goes (next_argument before ++ goals) (token what at ∷ a) k values → Goes (want (Arguments before) ∷ goals) (token what at ∷ a) k values
  unfolding step enter
  arguments_begin before (Mark signs.Close) at goals a k values e g d = cc
  arguments_begin before _ at goals a k values e g d = leads_on (g d)

  pub goes_arguments : (before : ℕ) (goals : List Goal) (a : List Lexed) (k : ℕ) (values : List Value) → may_begin_argument (next a) ≡ true
      → Goes (next_argument before ++ goals) a k values → Goes (want (Arguments before) ∷ goals) a k values
  unfolding step enter
  goes_arguments before goals [] k values e g d = leads_on (g d)
  goes_arguments before goals (t ∷ a) k values e g d = arguments_begin before t.what t.at goals a k values e g d
