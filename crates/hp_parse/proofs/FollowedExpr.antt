-- The machine follows what the grammar spells: expressions.
use Rattle.std.proofs.Common.{◌≡◌, ◌≢◌, ℕ, suc, Bool, true, false, List, [], ◌∷◌, ◌++◌, Some, None, refl, sym, subst, append_assoc}
use Rattle.std.proofs.lemmas.List.{append-nil}
use Rattle.hp_word.specs.declared.place.Place.{Place}
use Rattle.hp_script.specs.declared.tree.BinOp.{BinOp}
use Rattle.hp_script.specs.declared.tree.Expr.{Expr}
use Rattle.hp_script.specs.declared.tree.Arg.{Arg}
use Rattle.hp_script.specs.declared.tree.Stmt.{Stmt}
use Rattle.hp_script.specs.declared.tree.Level.{Level}
use Rattle.hp_script.specs.declared.tree.Level.TheVariants.{Disjunction, Conjunction, Comparison, Sum, Product}
use Rattle.hp_script.specs.declared.token.Sign.TheVariants as signs
use Rattle.hp_script.specs.Lexemes.{Lexed}
use Rattle.hp_script.specs.Grammar as grammar
use Rattle.hp_script.specs.Grammar.{mark, level_of, tighter, IsChain, IsOperand, IsTail, IsUnary, IsIndexed, IsPrimary, IsArgs, IsMoreArgs, IsArg}
use Rattle.hp_parse.specs.Machine.{Chain, Tail, Unary, Indexed, Primary, Argument, AfterArgument, Arguments, MoreArguments, Close, CloseIndex, Goal, want, make, MakeBinary, MakeUnary, MakeIndex, MakeCall, MakeRange, MakeLambda, MakeNamed, AppendArgument, Value, expr, arg, args, step, enter, operand, operand_at, rest_of_chain}
use Rattle.hp_parse.proofs.FollowedEnds.{next, ends_chain, ends_operand, ends_unary, ends_primary, ends_argument, before_tail, before_indexed, before_more, argument_ends_chain, chain_ends_operand, ends_tighter, ends_tightest, chain_begins_plain, begins_argument}
use Rattle.hp_parse.proofs.Moves.{leads_on}
use Rattle.hp_parse.proofs.FollowedMoves.{Goes, goes_made, goes_chain, goes_no_tail, goes_tail, goes_unary, goes_postfix, goes_no_index, goes_variable, goes_argument, goes_plain, goes_arguments}

module _ (end : Place) (body : List Stmt) (nodes : ℕ) where
  -- the goals behind a wanted operand of a level
  goes_to_chain : (level next_level : Level) → tighter level ≡ Some next_level → (goals : List Goal) (a : List Lexed) (k : ℕ) (values : List Value)
      → Goes end body nodes (want (Chain next_level) ∷ goals) a k values → Goes end body nodes (operand level ∷ goals) a k values
  goes_to_chain level next_level e goals a k values g = subst (λ o. Goes end body nodes (operand_at o ∷ goals) a k values) (sym e) g

  goes_to_unary : (level : Level) → tighter level ≡ None → (goals : List Goal) (a : List Lexed) (k : ℕ) (values : List Value)
      → Goes end body nodes (want Unary ∷ goals) a k values → Goes end body nodes (operand level ∷ goals) a k values
  goes_to_unary level e goals a k values g = subst (λ o. Goes end body nodes (operand_at o ∷ goals) a k values) (sym e) g

  -- what follows an operator of a level where chains go on
  chains_on : (level : Level) → level ≢ Comparison → rest_of_chain level ≡ want (Tail level) ∷ []
  chains_on Disjunction n = refl
  chains_on Conjunction n = refl
  chains_on Comparison n = absurd (n refl)
  chains_on Sum n = refl
  chains_on Product n = refl

  goes_tail_more : (level : Level) (op : BinOp) (dotted : Bool) (at : Place) (goals : List Goal) (a : List Lexed) (k : ℕ) (values : List Value) → level_of op ≡ level → level ≢ Comparison
      → Goes end body nodes (operand level ∷ make (MakeBinary k at op dotted) ∷ want (Tail level) ∷ goals) a (suc k) values
      → Goes end body nodes (want (Tail level) ∷ goals) (mark (signs.Operator op dotted) at ∷ a) k values
  goes_tail_more level op dotted at goals a k values same chains g =
      goes_tail end body nodes level op dotted at goals a k values same
      (subst (λ rest. Goes end body nodes (operand level ∷ make (MakeBinary k at op dotted) ∷ rest ++ goals) a (suc k) values) (sym (chains_on level chains)) g)

  goes_close : (before : ℕ) (at : Place) (goals : List Goal) (a : List Lexed) (k : ℕ) (values : List Value) → Goes end body nodes goals a k values
      → Goes end body nodes (want (Close before) ∷ goals) (mark signs.Close at ∷ a) k values
  unfolding step enter
  goes_close before at goals a k values g d = leads_on (g before)

  goes_close_index : (before : ℕ) (at : Place) (goals : List Goal) (a : List Lexed) (k : ℕ) (values : List Value) → Goes end body nodes goals a k values
      → Goes end body nodes (want (CloseIndex before) ∷ goals) (mark signs.CloseIndex at ∷ a) k values
  unfolding step enter
  goes_close_index before at goals a k values g d = leads_on (g before)

  goes_no_arguments : (goals : List Goal) (a : List Lexed) (k : ℕ) (xs : List Arg) (values : List Value)
      → Goes end body nodes goals a k (args (xs ++ []) ∷ values) → Goes end body nodes goals a k (args xs ∷ values)
  goes_no_arguments goals a k xs values g = subst (λ ys. Goes end body nodes goals a k (args ys ∷ values)) (append-nil xs) g

  goes_more_arguments : (goals : List Goal) (a : List Lexed) (k : ℕ) (xs : List Arg) (x : Arg) (ys : List Arg) (values : List Value)
      → Goes end body nodes goals a k (args (xs ++ x ∷ ys) ∷ values) → Goes end body nodes goals a k (args ((xs ++ x ∷ []) ++ ys) ∷ values)
  goes_more_arguments goals a k xs x ys values g = subst (λ zs. Goes end body nodes goals a k (args zs ∷ values)) (sym (append_assoc xs (x ∷ []) ys)) g

  mutual
    unfolding step enter

    pub followed_chain : {level : Level} {a b : List Lexed} {k l : ℕ} {x : Expr} → IsChain level a k x b l → (goals : List Goal) (values : List Value) → ends_chain level b
        → Goes end body nodes goals b l (expr x ∷ values) → Goes end body nodes (want (Chain level) ∷ goals) a k values
    followed_chain (grammar.chain {level} {a} {k} o t) goals values e g =
        goes_chain end body nodes level goals a k values (followed_operand o (want (Tail level) ∷ goals) values (before_tail t e) (followed_tail t goals values e g))

    followed_operand : {level : Level} {a b : List Lexed} {k l : ℕ} {x : Expr} → IsOperand level a k x b l → (goals : List Goal) (values : List Value) → ends_operand level b
        → Goes end body nodes goals b l (expr x ∷ values) → Goes end body nodes (operand level ∷ goals) a k values
    followed_operand (grammar.operand_chain {level} {next = next_level} {a} {b} {k} above c) goals values e g =
        goes_to_chain level next_level above goals a k values (followed_chain c goals values (ends_tighter level next_level above b e) g)
    followed_operand (grammar.operand_unary {level} {a} {b} {k} above u) goals values e g =
        goes_to_unary level above goals a k values (followed_unary u goals values (ends_tightest level above b e) g)

    followed_tail : {level : Level} {x y : Expr} {a b : List Lexed} {k l : ℕ} → IsTail level x a k y b l → (goals : List Goal) (values : List Value) → ends_chain level b
        → Goes end body nodes goals b l (expr y ∷ values) → Goes end body nodes (want (Tail level) ∷ goals) a k (expr x ∷ values)
    followed_tail (grammar.tail_ends {level} {x} {a} {k}) goals values e g = goes_no_tail end body nodes level goals a k (expr x ∷ values) e g
    followed_tail (grammar.tail_more {level} {x} {y} {a} {b} {k} {l} {op} {dotted} {at} same chains o t) goals values e g =
        goes_tail_more level op dotted at goals a k (expr x ∷ values) same chains
        (followed_operand o (make (MakeBinary k at op dotted) ∷ want (Tail level) ∷ goals) (expr x ∷ values) (before_tail t e)
        (goes_made end body nodes (MakeBinary k at op dotted) (want (Tail level) ∷ goals) b l (expr y ∷ expr x ∷ values) (followed_tail t goals values e g)))
    followed_tail (grammar.tail_comparison {x} {y} {a} {b} {k} {l} {op} {dotted} {at} same o) goals values e g =
        goes_tail end body nodes Comparison op dotted at goals a k (expr x ∷ values) same
        (followed_operand o (make (MakeBinary k at op dotted) ∷ goals) (expr x ∷ values) (chain_ends_operand Comparison b e)
        (goes_made end body nodes (MakeBinary k at op dotted) goals b l (expr y ∷ expr x ∷ values) g))

    followed_unary : {a b : List Lexed} {k l : ℕ} {x : Expr} → IsUnary a k x b l → (goals : List Goal) (values : List Value) → ends_unary b
        → Goes end body nodes goals b l (expr x ∷ values) → Goes end body nodes (want Unary ∷ goals) a k values
    followed_unary (grammar.unary {a} {b} {k} {l} {x} {sign} {op} {dotted} {at} same u) goals values e g =
        goes_unary end body nodes sign op dotted at goals a k values same
        (followed_unary u (make (MakeUnary k at op dotted) ∷ goals) values e (goes_made end body nodes (MakeUnary k at op dotted) goals b l (expr x ∷ values) g))
    followed_unary (grammar.postfix p i) goals values e g =
        goes_postfix end body nodes goals values p (followed_primary p (want Indexed ∷ goals) values (before_indexed i e) (followed_indexed i goals values e g))

    followed_indexed : {x y : Expr} {a b : List Lexed} {k l : ℕ} → IsIndexed x a k y b l → (goals : List Goal) (values : List Value) → ends_unary b
        → Goes end body nodes goals b l (expr y ∷ values) → Goes end body nodes (want Indexed ∷ goals) a k (expr x ∷ values)
    followed_indexed (grammar.indexed_ends {x} {a} {k}) goals values e g = goes_no_index end body nodes goals a k (expr x ∷ values) e g
    followed_indexed (grammar.indexed_more {x} {y} {b} {k} {l} {at} {close} c i) goals values e g = λ d.
        leads_on (followed_chain c (want (CloseIndex (suc d)) ∷ make (MakeIndex k at) ∷ want Indexed ∷ goals) (expr x ∷ values) refl
        (goes_close_index (suc d) close (make (MakeIndex k at) ∷ want Indexed ∷ goals) b l (expr y ∷ expr x ∷ values)
        (goes_made end body nodes (MakeIndex k at) (want Indexed ∷ goals) b l (expr y ∷ expr x ∷ values) (followed_indexed i goals values e g))) (suc (suc d)))

    followed_primary : {a b : List Lexed} {k l : ℕ} {x : Expr} → IsPrimary a k x b l → (goals : List Goal) (values : List Value) → ends_primary b
        → Goes end body nodes goals b l (expr x ∷ values) → Goes end body nodes (want Primary ∷ goals) a k values
    followed_primary grammar.number goals values e g = λ d. leads_on (g d)
    followed_primary grammar.yes_literal goals values e g = λ d. leads_on (g d)
    followed_primary grammar.no_literal goals values e g = λ d. leads_on (g d)
    followed_primary grammar.text goals values e g = λ d. leads_on (g d)
    followed_primary grammar.column goals values e g = λ d. leads_on (leads_on (g d))
    followed_primary (grammar.bracketed {x} {close} {b} {l} c) goals values e g = λ d.
        leads_on (followed_chain c (want (Close d) ∷ goals) values refl (goes_close d close goals b l (expr x ∷ values) g) (suc d))
    followed_primary (grammar.variable {bytes} {at} {a} {k}) goals values e g = goes_variable end body nodes bytes at goals a k values e g
    followed_primary grammar.field goals values e g = λ d. leads_on (leads_on (leads_on (g d)))
    followed_primary (grammar.call {bytes} {at} {args = xs} {b} {k} {l} made_args) goals values e g = λ d.
        leads_on (leads_on (followed_args made_args d (make (MakeCall k at bytes false) ∷ goals) [] values
        (goes_made end body nodes (MakeCall k at bytes false) goals b l (args xs ∷ values) g) (suc d)))
    followed_primary (grammar.dotted_call {bytes} {at} {args = xs} {b} {k} {l} made_args) goals values e g = λ d.
        leads_on (leads_on (leads_on (followed_args made_args d (make (MakeCall k at bytes true) ∷ goals) [] values
        (goes_made end body nodes (MakeCall k at bytes true) goals b l (args xs ∷ values) g) (suc d))))

    followed_args : {ys : List Arg} {a b : List Lexed} {k l : ℕ} → IsArgs a k ys b l → (before : ℕ) (goals : List Goal) (xs : List Arg) (values : List Value)
        → Goes end body nodes goals b l (args (xs ++ ys) ∷ values) → Goes end body nodes (want (Arguments before) ∷ goals) a k (args xs ∷ values)
    followed_args (grammar.args_none {a} {k}) before goals xs values g = λ d. leads_on (goes_no_arguments goals a k xs values g before)
    followed_args (grammar.args_some {x} {xs = ys} {a} {b} {c} {k} {l} {m} x_spelled more) before goals xs values g =
        goes_arguments end body nodes before goals a k (args xs ∷ values) (begins_argument x_spelled)
        (followed_arg x_spelled (make AppendArgument ∷ want (MoreArguments before) ∷ goals) (args xs ∷ values) (before_more more)
        (goes_made end body nodes AppendArgument (want (MoreArguments before) ∷ goals) b l (arg x ∷ args xs ∷ values)
        (followed_more more before goals (xs ++ x ∷ []) values (goes_more_arguments goals c m xs x ys values g))))

    followed_more : {ys : List Arg} {a b : List Lexed} {k l : ℕ} → IsMoreArgs a k ys b l → (before : ℕ) (goals : List Goal) (xs : List Arg) (values : List Value)
        → Goes end body nodes goals b l (args (xs ++ ys) ∷ values) → Goes end body nodes (want (MoreArguments before) ∷ goals) a k (args xs ∷ values)
    followed_more (grammar.more_none {a} {k}) before goals xs values g = λ d. leads_on (goes_no_arguments goals a k xs values g before)
    followed_more (grammar.more_some {x} {xs = ys} {a} {b} {c} {k} {l} {m} x_spelled more) before goals xs values g = λ d.
        leads_on (followed_arg x_spelled (make AppendArgument ∷ want (MoreArguments before) ∷ goals) (args xs ∷ values) (before_more more)
        (goes_made end body nodes AppendArgument (want (MoreArguments before) ∷ goals) b l (arg x ∷ args xs ∷ values)
        (followed_more more before goals (xs ++ x ∷ []) values (goes_more_arguments goals c m xs x ys values g))) (suc before))

    followed_arg : {a b : List Lexed} {k l : ℕ} {x : Arg} → IsArg a k x b l → (goals : List Goal) (values : List Value) → ends_argument (next b) ≡ true
        → Goes end body nodes goals b l (arg x ∷ values) → Goes end body nodes (want Argument ∷ goals) a k values
    followed_arg (grammar.plain {x} {a} {b} {k} {l} c) goals values e g =
        goes_argument end body nodes goals a k values (chain_begins_plain c (argument_ends_chain (next b) e))
        (followed_chain c (want AfterArgument ∷ goals) values (argument_ends_chain (next b) e) (goes_plain end body nodes goals b l x values e g))
    followed_arg (grammar.range {x} {y} {a} {c} {k} {m} first last) goals values e g =
        goes_argument end body nodes goals a k values (chain_begins_plain first refl)
        (followed_chain first (want AfterArgument ∷ goals) values refl
        (λ d. leads_on (followed_chain last (make MakeRange ∷ goals) (expr x ∷ values) (argument_ends_chain (next c) e)
        (goes_made end body nodes MakeRange goals c m (expr y ∷ expr x ∷ values) g) d)))
    followed_arg (grammar.lambda {bytes} {x} {a} {b} {k} {l} c) goals values e g = λ d.
        leads_on (leads_on (followed_chain c (make (MakeLambda bytes) ∷ goals) values (argument_ends_chain (next b) e)
        (goes_made end body nodes (MakeLambda bytes) goals b l (expr x ∷ values) g) d))
    followed_arg (grammar.given {bytes} {x} {at} {a} {b} {k} {l} c) goals values e g = λ d.
        leads_on (leads_on (followed_chain c (make (MakeNamed bytes at) ∷ goals) values (argument_ends_chain (next b) e)
        (goes_made end body nodes (MakeNamed bytes at) goals b l (expr x ∷ values) g) d))
