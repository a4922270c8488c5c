-- The grammar: which tokens spell which script.
use Rattle.std.specs.Prelude.{ℕ, suc, ℤ, ◌≡◌, ◌≢◌, Bool, true, false, List, [], ◌∷◌, ◌++◌, Option, Some, None}
use Rattle.hp_word.specs.declared.place.Place.{Place}
use Rattle.hp_script.specs.declared.tree.UnOp.{UnOp}
use Rattle.hp_script.specs.declared.tree.UnOp.TheVariants as ops
use Rattle.hp_script.specs.declared.tree.BinOp.{BinOp}
use Rattle.hp_script.specs.declared.tree.BinOp.TheVariants as binaries
use Rattle.hp_script.specs.declared.tree.Level.{Level}
use Rattle.hp_script.specs.declared.tree.Level.TheVariants.{Disjunction, Conjunction, Comparison, Sum, Product}
use Rattle.hp_script.specs.declared.tree.Expr.{Expr}
use Rattle.hp_script.specs.declared.tree.Arg.{Arg}
use Rattle.hp_script.specs.declared.tree.Arg.TheViews.{Plain, Range, Lambda, Named}
use Rattle.hp_script.specs.declared.tree.Stmt.{Stmt}
use Rattle.hp_script.specs.declared.tree.Stmt.TheViews.{If, While}
use Rattle.hp_script.specs.declared.tree.Stmt.TheVariants.{Assign, Print, Export}
use Rattle.hp_script.specs.declared.token.Keyword.TheVariants as keywords
use Rattle.hp_script.specs.declared.token.Sign.{Sign}
use Rattle.hp_script.specs.declared.token.Sign.TheVariants as signs
use Rattle.hp_script.specs.Lexemes.{Lexeme, Numeral, Identifier, Quoted, Word, Mark, Newline, Lexed}
use Rattle.hp_script.specs.Trees.{named, number_node, truth_node, text_node, name_node, column_node, field_node, unary_node, binary_node, index_node, call_node}

-- ---- operators

-- how tightly a binary operator binds
abbrev pub level_of : BinOp → Level
level_of binaries.Or = Disjunction
level_of binaries.And = Conjunction
level_of binaries.Eq = Comparison
level_of binaries.Ne = Comparison
level_of binaries.Lt = Comparison
level_of binaries.Le = Comparison
level_of binaries.Gt = Comparison
level_of binaries.Ge = Comparison
level_of binaries.Add = Sum
level_of binaries.Sub = Sum
level_of binaries.BitOr = Sum
level_of binaries.Mul = Product
level_of binaries.BitAnd = Product

-- the level that binds next more tightly; above a product stand the operators with one operand
abbrev pub tighter : Level → Option Level
tighter Disjunction = Some Conjunction
tighter Conjunction = Some Comparison
tighter Comparison = Some Sum
tighter Sum = Some Product
tighter Product = None

-- the sign of an operator with one operand: `-`, `!` and `.!`
abbrev pub unary_of : Sign → Option (UnOp × Bool)
unary_of (signs.Operator binaries.Sub false) = Some (ops.Neg, false)
unary_of (signs.Not dotted) = Some (ops.Not, dotted)
unary_of _ = None

-- a token that says this at this place
abbrev pub token : Lexeme → Place → Lexed
token what at = record { what = what; at = at }

abbrev pub mark : Sign → Place → Lexed
mark sign at = token (Mark sign) at

-- ---- expressions

-- Below, `IsX a k x b l` says that the tokens `a` begin with an X, which is `x`, that the tokens `b` follow it,
-- and that its nodes have the numbers from `k` up to the one before `l`, in the order of the text.
mutual
  -- an expression of operators of this level and of those that bind more tightly
  pub data IsChain : Level → (a : List Lexed) (k : ℕ) → Expr → (b : List Lexed) (l : ℕ) → Type 0 where
    chain : {level : Level} {a b c : List Lexed} {k l m : ℕ} {x y : Expr}
        → IsOperand level a k x b l → IsTail level x b l y c m → IsChain level a k y c m

  -- an operand of an operator of this level
  pub data IsOperand : Level → (a : List Lexed) (k : ℕ) → Expr → (b : List Lexed) (l : ℕ) → Type 0 where
    operand_chain : {level next : Level} {a b : List Lexed} {k l : ℕ} {x : Expr}
        → tighter level ≡ Some next → IsChain next a k x b l → IsOperand level a k x b l
    operand_unary : {level : Level} {a b : List Lexed} {k l : ℕ} {x : Expr}
        → tighter level ≡ None → IsUnary a k x b l → IsOperand level a k x b l

  -- What goes on behind the left operand `x`, up to the whole `y`. Chains group to the left; of comparisons there
  -- is at most one.
  pub data IsTail : Level → (x : Expr) (a : List Lexed) (k : ℕ) (y : Expr) (b : List Lexed) (l : ℕ) → Type 0 where
    tail_ends : {level : Level} {x : Expr} {a : List Lexed} {k : ℕ} → IsTail level x a k x a k
    tail_more : {level : Level} {x y z : Expr} {a b c : List Lexed} {k l m : ℕ} {op : BinOp} {dotted : Bool} {at : Place}
        → level_of op ≡ level → level ≢ Comparison
        → IsOperand level a (suc k) y b l → IsTail level (binary_node k at op dotted x y) b l z c m
        → IsTail level x (mark (signs.Operator op dotted) at ∷ a) k z c m
    tail_comparison : {x y : Expr} {a b : List Lexed} {k l : ℕ} {op : BinOp} {dotted : Bool} {at : Place}
        → level_of op ≡ Comparison → IsOperand Comparison a (suc k) y b l
        → IsTail Comparison x (mark (signs.Operator op dotted) at ∷ a) k (binary_node k at op dotted x y) b l

  pub data IsUnary : (a : List Lexed) (k : ℕ) → Expr → (b : List Lexed) (l : ℕ) → Type 0 where
    unary : {a b : List Lexed} {k l : ℕ} {x : Expr} {sign : Sign} {op : UnOp} {dotted : Bool} {at : Place}
        → unary_of sign ≡ Some (op, dotted) → IsUnary a (suc k) x b l → IsUnary (mark sign at ∷ a) k (unary_node k at op dotted x) b l
    postfix : {a b c : List Lexed} {k l m : ℕ} {x y : Expr}
        → IsPrimary a k x b l → IsIndexed x b l y c m → IsUnary a k y c m

  -- the indices behind what is indexed, `x`, up to the whole `y`
  pub data IsIndexed : (x : Expr) (a : List Lexed) (k : ℕ) (y : Expr) (b : List Lexed) (l : ℕ) → Type 0 where
    indexed_ends : {x : Expr} {a : List Lexed} {k : ℕ} → IsIndexed x a k x a k
    indexed_more : {x y z : Expr} {a b c : List Lexed} {k l m : ℕ} {at close : Place}
        → IsChain Disjunction a (suc k) y (mark signs.CloseIndex close ∷ b) l → IsIndexed (index_node k at x y) b l z c m
        → IsIndexed x (mark signs.OpenIndex at ∷ a) k z c m

  pub data IsPrimary : (a : List Lexed) (k : ℕ) → Expr → (b : List Lexed) (l : ℕ) → Type 0 where
    number : {value : ℤ} {at : Place} {a : List Lexed} {k : ℕ} → IsPrimary (token (Numeral value) at ∷ a) k (number_node k at value) a (suc k)
    yes_literal : {at : Place} {a : List Lexed} {k : ℕ} → IsPrimary (token (Word keywords.True) at ∷ a) k (truth_node k at true) a (suc k)
    no_literal : {at : Place} {a : List Lexed} {k : ℕ} → IsPrimary (token (Word keywords.False) at ∷ a) k (truth_node k at false) a (suc k)
    text : {bytes : List ℕ} {at : Place} {a : List Lexed} {k : ℕ} → IsPrimary (token (Quoted bytes) at ∷ a) k (text_node k at bytes) a (suc k)
    column : {bytes : List ℕ} {at behind : Place} {a : List Lexed} {k : ℕ}
        → IsPrimary (mark signs.Colon at ∷ token (Identifier bytes) behind ∷ a) k (column_node k at bytes) a (suc k)
    bracketed : {x : Expr} {open_ close : Place} {a b : List Lexed} {k l : ℕ}
        → IsChain Disjunction a k x (mark signs.Close close ∷ b) l → IsPrimary (mark signs.Open open_ ∷ a) k x b l
    variable : {bytes : List ℕ} {at : Place} {a : List Lexed} {k : ℕ} → IsPrimary (token (Identifier bytes) at ∷ a) k (name_node k at bytes) a (suc k)
    field : {bytes column : List ℕ} {at dot behind : Place} {a : List Lexed} {k : ℕ}
        → IsPrimary (token (Identifier bytes) at ∷ mark signs.Dot dot ∷ token (Identifier column) behind ∷ a) k (field_node k at bytes column) a (suc k)
    call : {bytes : List ℕ} {at open_ : Place} {args : List Arg} {a b : List Lexed} {k l : ℕ}
        → IsArgs a (suc k) args b l → IsPrimary (token (Identifier bytes) at ∷ mark signs.Open open_ ∷ a) k (call_node k at bytes false args) b l
    dotted_call : {bytes : List ℕ} {at dot open_ : Place} {args : List Arg} {a b : List Lexed} {k l : ℕ}
        → IsArgs a (suc k) args b l
        → IsPrimary (token (Identifier bytes) at ∷ mark signs.Dot dot ∷ mark signs.Open open_ ∷ a) k (call_node k at bytes true args) b l

  -- the arguments behind the bracket that opens them, with the one that closes them
  pub data IsArgs : (a : List Lexed) (k : ℕ) → List Arg → (b : List Lexed) (l : ℕ) → Type 0 where
    args_none : {close : Place} {a : List Lexed} {k : ℕ} → IsArgs (mark signs.Close close ∷ a) k [] a k
    args_some : {x : Arg} {xs : List Arg} {a b c : List Lexed} {k l m : ℕ}
        → IsArg a k x b l → IsMoreArgs b l xs c m → IsArgs a k (x ∷ xs) c m

  -- the arguments behind an argument, with the bracket that closes them
  pub data IsMoreArgs : (a : List Lexed) (k : ℕ) → List Arg → (b : List Lexed) (l : ℕ) → Type 0 where
    more_none : {close : Place} {a : List Lexed} {k : ℕ} → IsMoreArgs (mark signs.Close close ∷ a) k [] a k
    more_some : {comma : Place} {x : Arg} {xs : List Arg} {a b c : List Lexed} {k l m : ℕ}
        → IsArg a k x b l → IsMoreArgs b l xs c m → IsMoreArgs (mark signs.Comma comma ∷ a) k (x ∷ xs) c m

  pub data IsArg : (a : List Lexed) (k : ℕ) → Arg → (b : List Lexed) (l : ℕ) → Type 0 where
    plain : {x : Expr} {a b : List Lexed} {k l : ℕ} → IsChain Disjunction a k x b l → IsArg a k (Plain x) b l
    range : {x y : Expr} {colon : Place} {a b c : List Lexed} {k l m : ℕ}
        → IsChain Disjunction a k x (mark signs.Colon colon ∷ b) l → IsChain Disjunction b l y c m → IsArg a k (Range x y) c m
    lambda : {bytes : List ℕ} {x : Expr} {at arrow : Place} {a b : List Lexed} {k l : ℕ}
        → IsChain Disjunction a k x b l → IsArg (token (Identifier bytes) at ∷ mark signs.Arrow arrow ∷ a) k (Lambda (named bytes) x) b l
    given : {bytes : List ℕ} {x : Expr} {at assign : Place} {a b : List Lexed} {k l : ℕ}
        → IsChain Disjunction a k x b l → IsArg (token (Identifier bytes) at ∷ mark signs.Assign assign ∷ a) k (Named (named bytes) at x) b l

-- any expression
abbrev pub IsExpr : (a : List Lexed) (k : ℕ) → Expr → (b : List Lexed) (l : ℕ) → Type 0
IsExpr a k x b l = IsChain Disjunction a k x b l

-- ---- statements

mutual
  pub data IsStmt : (a : List Lexed) (k : ℕ) → Stmt → (b : List Lexed) (l : ℕ) → Type 0 where
    assign : {bytes : List ℕ} {x : Expr} {at sign : Place} {a b : List Lexed} {k l : ℕ}
        → IsExpr a k x b l → IsStmt (token (Identifier bytes) at ∷ mark signs.Assign sign ∷ a) k (Assign at (named bytes) x) b l
    print : {x : Expr} {at open_ close : Place} {a b : List Lexed} {k l : ℕ}
        → IsExpr a k x (mark signs.Close close ∷ b) l → IsStmt (token (Word keywords.Println) at ∷ mark signs.Open open_ ∷ a) k (Print at x) b l
    export : {x : Expr} {at open_ close : Place} {a b : List Lexed} {k l : ℕ}
        → IsExpr a k x (mark signs.Close close ∷ b) l → IsStmt (token (Word keywords.WriteCsv) at ∷ mark signs.Open open_ ∷ a) k (Export at x) b l
    -- without `else` the second block is empty
    if_alone : {test : Expr} {body : List Stmt} {at line end : Place} {a b c : List Lexed} {k l m : ℕ}
        → IsExpr a k test (token Newline line ∷ b) l → IsBlock b l body (token (Word keywords.End) end ∷ c) m
        → IsStmt (token (Word keywords.If) at ∷ a) k (If at test body []) c m
    if_else : {test : Expr} {body other : List Stmt} {at line else_ line_too end : Place} {a b c d : List Lexed} {k l m n : ℕ}
        → IsExpr a k test (token Newline line ∷ b) l → IsBlock b l body (token (Word keywords.Else) else_ ∷ token Newline line_too ∷ c) m
        → IsBlock c m other (token (Word keywords.End) end ∷ d) n
        → IsStmt (token (Word keywords.If) at ∷ a) k (If at test body other) d n
    while : {test : Expr} {body : List Stmt} {at line end : Place} {a b c : List Lexed} {k l m : ℕ}
        → IsExpr a k test (token Newline line ∷ b) l → IsBlock b l body (token (Word keywords.End) end ∷ c) m
        → IsStmt (token (Word keywords.While) at ∷ a) k (While at test body) c m

  -- statements, each with its newline, and empty lines between, before and after them
  pub data IsBlock : (a : List Lexed) (k : ℕ) → List Stmt → (b : List Lexed) (l : ℕ) → Type 0 where
    block_ends : {a : List Lexed} {k : ℕ} → IsBlock a k [] a k
    block_line : {stmts : List Stmt} {line : Place} {a b : List Lexed} {k l : ℕ}
        → IsBlock a k stmts b l → IsBlock (token Newline line ∷ a) k stmts b l
    block_more : {stmt : Stmt} {stmts : List Stmt} {line : Place} {a b c : List Lexed} {k l m : ℕ}
        → IsStmt a k stmt (token Newline line ∷ b) l → IsBlock b l stmts c m → IsBlock a k (stmt ∷ stmts) c m

-- The tokens, all of them, are statements and empty lines; the last statement may lack its newline.
pub data IsBody : (a : List Lexed) (k : ℕ) → List Stmt → (l : ℕ) → Type 0 where
  body_ends : {k : ℕ} → IsBody [] k [] k
  body_line : {stmts : List Stmt} {line : Place} {a : List Lexed} {k l : ℕ} → IsBody a k stmts l → IsBody (token Newline line ∷ a) k stmts l
  body_last : {stmt : Stmt} {a : List Lexed} {k l : ℕ} → IsStmt a k stmt [] l → IsBody a k (stmt ∷ []) l
  body_more : {stmt : Stmt} {stmts : List Stmt} {line : Place} {a b : List Lexed} {k l m : ℕ}
      → IsStmt a k stmt (token Newline line ∷ b) l → IsBody b l stmts m → IsBody a k (stmt ∷ stmts) m

-- ---- scripts

-- The tokens spell these statements, which have so many nodes.
abbrev pub Spells : List Lexed → List Stmt → ℕ → Type 0
Spells tokens body nodes = IsBody tokens 0 body nodes

-- some script's tokens begin with these; how they go on, and where, is free
pub record Begins (tokens : List Lexed) : Type 0 where
  pub more : List Lexed
  pub body : List Stmt
  pub nodes : ℕ
  pub spelled : Spells (tokens ++ more) body nodes
