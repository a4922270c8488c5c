-- What may stand behind an expression and its parts, so that the machine goes on with nothing more there.
use Rattle.std.proofs.Common.{◌≡◌, ℕ, suc, Bool, true, false, List, [], ◌∷◌, Option, Some, None, refl, subst, nat_lt, arith}
use Rattle.hp_script.specs.declared.tree.BinOp.{BinOp}
use Rattle.hp_script.specs.declared.tree.Expr.{Expr}
use Rattle.hp_script.specs.declared.tree.Level.{Level}
use Rattle.hp_script.specs.declared.tree.Level.TheVariants.{Disjunction, Conjunction, Comparison, Sum, Product}
use Rattle.hp_script.specs.declared.tree.Arg.{Arg}
use Rattle.hp_script.specs.declared.tree.UnOp.{UnOp}
use Rattle.hp_script.specs.declared.token.Sign.{Sign}
use Rattle.hp_script.specs.declared.token.Sign.TheVariants as signs
use Rattle.hp_script.specs.Lexemes.{Lexeme, Identifier, Mark, Newline, Lexed}
use Rattle.hp_script.specs.Grammar as grammar
use Rattle.hp_script.specs.Grammar.{level_of, tighter, IsChain, IsOperand, IsTail, IsUnary, IsIndexed, IsPrimary, IsMoreArgs, IsArg, unary_of}

-- what the first token says
abbrev pub next : List Lexed → Option Lexeme
next [] = None
next (token ∷ tokens) = Some token.what

-- how tightly the operators of a level bind, the loosest first
abbrev pub rank : Level → ℕ
rank Disjunction = 0
rank Conjunction = 1
rank Comparison = 2
rank Sum = 3
rank Product = 4

-- whether this may stand behind a whole expression, or is an operator that binds more loosely than a rank
abbrev pub ends_below : ℕ → Option Lexeme → Bool
ends_below n (Some (Mark (signs.Operator op dotted))) = nat_lt (rank (level_of op)) n
ends_below n (Some (Mark signs.Close)) = true
ends_below n (Some (Mark signs.CloseIndex)) = true
ends_below n (Some (Mark signs.Comma)) = true
ends_below n (Some (Mark signs.Colon)) = true
ends_below n (Some Newline) = true
ends_below n None = true
ends_below n _ = false

-- behind a chain, an operand of a level, an operand with its indices, and one without them
abbrev pub ends_chain : Level → List Lexed → Type 0
ends_chain level b = ends_below (rank level) (next b) ≡ true

abbrev pub ends_operand : Level → List Lexed → Type 0
ends_operand level b = ends_below (suc (rank level)) (next b) ≡ true

abbrev pub ends_unary : List Lexed → Type 0
ends_unary b = ends_below 5 (next b) ≡ true

abbrev pub may_end_primary : Option Lexeme → Bool
may_end_primary (Some (Mark signs.OpenIndex)) = true
may_end_primary what = ends_below 5 what

abbrev pub ends_primary : List Lexed → Type 0
ends_primary b = may_end_primary (next b) ≡ true

-- behind an argument
abbrev pub ends_argument : Option Lexeme → Bool
ends_argument (Some (Mark signs.Comma)) = true
ends_argument (Some (Mark signs.Close)) = true
ends_argument _ = false

-- ---- what stands behind a part is what a phrase behind it begins with, or what stands behind the whole

looser_more : (n : ℕ) (m : ℕ) → nat_lt m n ≡ true → nat_lt m (suc n) ≡ true
looser_more n m e = grind arith

below_more : (n : ℕ) (what : Option Lexeme) → ends_below n what ≡ true → ends_below (suc n) what ≡ true
below_more n (Some (Mark (signs.Operator op dotted))) e = looser_more n (rank (level_of op)) e
below_more n _ e = e

pub chain_ends_operand : (level : Level) (b : List Lexed) → ends_chain level b → ends_operand level b
chain_ends_operand level b e = below_more (rank level) (next b) e

unary_ends_primary : (what : Option Lexeme) → ends_below 5 what ≡ true → may_end_primary what ≡ true
unary_ends_primary (Some (Mark signs.OpenIndex)) e = refl
unary_ends_primary _ e = e

rank_self : (level : Level) → nat_lt (rank level) (suc (rank level)) ≡ true
rank_self Disjunction = refl
rank_self Conjunction = refl
rank_self Comparison = refl
rank_self Sum = refl
rank_self Product = refl

operator_ends : (op : BinOp) (level : Level) → level_of op ≡ level → nat_lt (rank (level_of op)) (suc (rank level)) ≡ true
operator_ends op level e = subst (λ l. nat_lt (rank (level_of op)) (suc (rank l)) ≡ true) e (rank_self (level_of op))

pub before_tail : {level : Level} {x y : Expr} {a b : List Lexed} {k l : ℕ} → IsTail level x a k y b l → ends_chain level b → ends_operand level a
before_tail {level} {b} grammar.tail_ends e = chain_ends_operand level b e
before_tail {level} (grammar.tail_more {op} same chains o t) e = operator_ends op level same
before_tail (grammar.tail_comparison {op} same o) e = operator_ends op Comparison same

pub before_indexed : {x y : Expr} {a b : List Lexed} {k l : ℕ} → IsIndexed x a k y b l → ends_unary b → ends_primary a
before_indexed {b} grammar.indexed_ends e = unary_ends_primary (next b) e
before_indexed (grammar.indexed_more c i) e = refl

pub before_more : {xs : List Arg} {a b : List Lexed} {k l : ℕ} → IsMoreArgs a k xs b l → ends_argument (next a) ≡ true
before_more grammar.more_none = refl
before_more (grammar.more_some x xs) = refl

pub argument_ends_chain : (what : Option Lexeme) → ends_argument what ≡ true → ends_below 0 what ≡ true
argument_ends_chain (Some (Mark signs.Close)) e = refl
argument_ends_chain (Some (Mark signs.Comma)) e = refl
argument_ends_chain _ e = cc

rank_next : (level next_level : Level) → tighter level ≡ Some next_level → suc (rank level) ≡ rank next_level
rank_next Disjunction m e = cc
rank_next Conjunction m e = cc
rank_next Comparison m e = cc
rank_next Sum m e = cc
rank_next Product m e = cc

pub ends_tighter : (level next_level : Level) → tighter level ≡ Some next_level → (b : List Lexed) → ends_operand level b → ends_chain next_level b
ends_tighter level next_level e b h = subst (λ n. ends_below n (next b) ≡ true) (rank_next level next_level e) h

rank_last : (level : Level) → tighter level ≡ None → suc (rank level) ≡ 5
rank_last Disjunction e = cc
rank_last Conjunction e = cc
rank_last Comparison e = cc
rank_last Sum e = cc
rank_last Product e = refl

pub ends_tightest : (level : Level) → tighter level ≡ None → (b : List Lexed) → ends_operand level b → ends_unary b
ends_tightest level e b h = subst (λ n. ends_below n (next b) ≡ true) (rank_last level e) h

-- ---- an argument that is an expression begins with no name before `->` or `=`

-- whether the second token does not make the first a name of something else than an expression
abbrev pub is_plain_pair : Lexeme → Option Lexeme → Bool
is_plain_pair (Identifier bytes) (Some (Mark signs.Arrow)) = false
is_plain_pair (Identifier bytes) (Some (Mark signs.Assign)) = false
is_plain_pair _ _ = true

abbrev pub begins_plain : List Lexed → Bool
begins_plain [] = true
begins_plain (token ∷ tokens) = is_plain_pair token.what (next tokens)

name_begins_plain : (bytes : List ℕ) (what : Option Lexeme) → may_end_primary what ≡ true → is_plain_pair (Identifier bytes) what ≡ true
name_begins_plain bytes (Some (Mark signs.Arrow)) e = cc
name_begins_plain bytes (Some (Mark signs.Assign)) e = cc
name_begins_plain bytes _ e = refl

primary_begins_plain : {a b : List Lexed} {k l : ℕ} {x : Expr} → IsPrimary a k x b l → ends_primary b → begins_plain a ≡ true
primary_begins_plain (grammar.variable {bytes} {a}) e = name_begins_plain bytes (next a) e
primary_begins_plain _ e = refl

mutual
  pub chain_begins_plain : {level : Level} {a b : List Lexed} {k l : ℕ} {x : Expr} → IsChain level a k x b l → ends_chain level b → begins_plain a ≡ true
  chain_begins_plain (grammar.chain o t) e = operand_begins_plain o (before_tail t e)

  operand_begins_plain : {level : Level} {a b : List Lexed} {k l : ℕ} {x : Expr} → IsOperand level a k x b l → ends_operand level b → begins_plain a ≡ true
  operand_begins_plain (grammar.operand_chain {level} {next = next_level} {b} above c) e = chain_begins_plain c (ends_tighter level next_level above b e)
  operand_begins_plain (grammar.operand_unary {level} {b} above u) e = unary_begins_plain u (ends_tightest level above b e)

  unary_begins_plain : {a b : List Lexed} {k l : ℕ} {x : Expr} → IsUnary a k x b l → ends_unary b → begins_plain a ≡ true
  unary_begins_plain (grammar.unary sign u) e = refl
  unary_begins_plain (grammar.postfix p i) e = primary_begins_plain p (before_indexed i e)

-- ---- an argument does not begin with `)`

abbrev pub may_begin_argument : Option Lexeme → Bool
may_begin_argument (Some (Mark signs.Close)) = false
may_begin_argument _ = true

primary_begins_argument : {a b : List Lexed} {k l : ℕ} {x : Expr} → IsPrimary a k x b l → may_begin_argument (next a) ≡ true
primary_begins_argument grammar.number = refl
primary_begins_argument _ = refl

sign_begins_argument : (sign : Sign) (op : UnOp) (dotted : Bool) → unary_of sign ≡ Some (op, dotted) → may_begin_argument (Some (Mark sign)) ≡ true
sign_begins_argument signs.Close op dotted e = cc
sign_begins_argument _ op dotted e = refl

mutual
  chain_begins_argument : {level : Level} {a b : List Lexed} {k l : ℕ} {x : Expr} → IsChain level a k x b l → may_begin_argument (next a) ≡ true
  chain_begins_argument (grammar.chain o t) = operand_begins_argument o

  operand_begins_argument : {level : Level} {a b : List Lexed} {k l : ℕ} {x : Expr} → IsOperand level a k x b l → may_begin_argument (next a) ≡ true
  operand_begins_argument (grammar.operand_chain above c) = chain_begins_argument c
  operand_begins_argument (grammar.operand_unary above u) = unary_begins_argument u

  unary_begins_argument : {a b : List Lexed} {k l : ℕ} {x : Expr} → IsUnary a k x b l → may_begin_argument (next a) ≡ true
  unary_begins_argument (grammar.unary {sign} {op} {dotted} e u) = sign_begins_argument sign op dotted e
  unary_begins_argument (grammar.postfix p i) = primary_begins_argument p

pub begins_argument : {a b : List Lexed} {k l : ℕ} {x : Arg} → IsArg a k x b l → may_begin_argument (next a) ≡ true
begins_argument (grammar.plain c) = chain_begins_argument c
begins_argument (grammar.range c d) = chain_begins_argument c
begins_argument (grammar.lambda c) = refl
begins_argument (grammar.given c) = refl
