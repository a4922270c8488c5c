-- The lexemes of a script's canonical text, and that they spell a script like it, wherever they stand. Nobody need
-- believe the definitions here: what they are for is said by the lemmas.
use Rattle.std.proofs.Common.{◌≡◌, ℕ, zero, suc, ◌≤◌, Bool, true, false, if◌then◌else◌, List, [], ◌∷◌, ◌++◌, refl, subst, arith}
use Rattle.std.specs.Prelude.{nat_le, nat_eq}
use Rattle.hp_word.specs.declared.place.Place.{Place}
use Rattle.hp_script.specs.declared.tree.UnOp.{UnOp}
use Rattle.hp_script.specs.declared.tree.UnOp.TheVariants as ops
use Rattle.hp_script.specs.declared.tree.BinOp.{BinOp}
use Rattle.hp_script.specs.declared.tree.BinOp.TheVariants as binaries
use Rattle.hp_script.specs.declared.tree.Level.{Level}
use Rattle.hp_script.specs.declared.tree.Level.TheVariants.{Disjunction, Conjunction, Comparison, Sum, Product}
use Rattle.hp_script.specs.declared.tree.Expr.{Expr}
use Rattle.hp_script.specs.declared.token.Keyword.TheVariants as keywords
use Rattle.hp_script.specs.declared.token.Sign.{Sign}
use Rattle.hp_script.specs.declared.token.Sign.TheVariants as signs
use Rattle.hp_script.specs.Lexemes.{Lexeme, Numeral, Identifier, Quoted, Word, Mark, Newline, Lexed}
use Rattle.hp_script.specs.Grammar as grammar
use Rattle.hp_script.specs.Grammar.{level_of, unary_of, token, mark, IsChain, IsOperand, IsTail, IsUnary, IsIndexed, IsPrimary, IsArgs, IsMoreArgs, IsArg, IsStmt, IsBlock, IsBody}
use Rattle.hp_script.specs.Trees.{binary_node, index_node}
use Rattle.hp_script.specs.Mirror.{Tree, Args, Block, number, truth, text, variable, column, field, unary, binary, index, call, none, plain, range, lambda, named, done, assign, print, export, choose, loop}
use Rattle.hp_script.specs.Printing.{rank, left_rank, binds}

-- ---- lexemes of the canonical text

abbrev pub unary_sign : UnOp → Bool → Sign
unary_sign ops.Neg dotted = signs.Operator binaries.Sub dotted
unary_sign ops.Not dotted = signs.Not dotted

abbrev pub in_brackets : (least : ℕ) → Tree → List Lexeme → List Lexeme
in_brackets least x said = if nat_le least (binds x) then said else Mark signs.Open ∷ said ++ Mark signs.Close ∷ []

abbrev pub comma_said : Args → List Lexeme
comma_said none = []
comma_said _ = Mark signs.Comma ∷ []

abbrev pub dot_said : Bool → List Lexeme
dot_said dotted = if dotted then Mark signs.Dot ∷ [] else []

abbrev mutual
  pub said_in : Tree → List Lexeme
  said_in (number h value) = Numeral value ∷ []
  said_in (truth h holds) = (if holds then Word keywords.True else Word keywords.False) ∷ []
  said_in (text h bytes) = Quoted bytes ∷ []
  said_in (variable h name) = Identifier name ∷ []
  said_in (column h name) = Mark signs.Colon ∷ Identifier name ∷ []
  said_in (field h name of_it) = Identifier name ∷ Mark signs.Dot ∷ Identifier of_it ∷ []
  said_in (unary h op dotted x) = Mark (unary_sign op dotted) ∷ in_brackets 5 x (said_in x)
  said_in (binary h op dotted x y) = in_brackets (left_rank (level_of op)) x (said_in x) ++ Mark (signs.Operator op dotted) ∷ in_brackets (suc (rank (level_of op))) y (said_in y)
  said_in (index h x i) = in_brackets 6 x (said_in x) ++ Mark signs.OpenIndex ∷ (said_in i ++ Mark signs.CloseIndex ∷ [])
  said_in (call h function dotted xs) = Identifier function ∷ (dot_said dotted ++ Mark signs.Open ∷ (said_among xs ++ Mark signs.Close ∷ []))

  pub said_among : Args → List Lexeme
  said_among none = []
  said_among (plain x xs) = said_in x ++ (comma_said xs ++ said_among xs)
  said_among (range x y xs) = said_in x ++ Mark signs.Colon ∷ (said_in y ++ (comma_said xs ++ said_among xs))
  said_among (lambda parameter x xs) = Identifier parameter ∷ Mark signs.Arrow ∷ (said_in x ++ (comma_said xs ++ said_among xs))
  said_among (named name at x xs) = Identifier name ∷ Mark signs.Assign ∷ (said_in x ++ (comma_said xs ++ said_among xs))

abbrev pub else_said : Block → List Lexeme → List Lexeme
else_said done said = []
else_said _ said = Word keywords.Else ∷ Newline ∷ said

abbrev pub said_of : Block → List Lexeme
said_of done = []
said_of (assign at name x rest) = Identifier name ∷ Mark signs.Assign ∷ (said_in x ++ Newline ∷ said_of rest)
said_of (print at x rest) = Word keywords.Println ∷ Mark signs.Open ∷ (said_in x ++ Mark signs.Close ∷ Newline ∷ said_of rest)
said_of (export at x rest) = Word keywords.WriteCsv ∷ Mark signs.Open ∷ (said_in x ++ Mark signs.Close ∷ Newline ∷ said_of rest)
said_of (choose at test body other rest) =
    Word keywords.If ∷ (said_in test ++ Newline ∷ (said_of body ++ (else_said other (said_of other) ++ Word keywords.End ∷ Newline ∷ said_of rest)))
said_of (loop at test body rest) = Word keywords.While ∷ (said_in test ++ Newline ∷ (said_of body ++ Word keywords.End ∷ Newline ∷ said_of rest))

-- ---- tokens that say lexemes, wherever they stand

-- the tokens `a` say these lexemes, and then come `b`
pub data Says : (a : List Lexed) → List Lexeme → (b : List Lexed) → Type 0 where
  nothing : {a : List Lexed} → Says a [] a
  one : {a b : List Lexed} {what : Lexeme} {said : List Lexeme} (at : Place) → Says a said b → Says (token what at ∷ a) (what ∷ said) b

-- both parts of what is said
pub record Parts (a : List Lexed) (first second : List Lexeme) (b : List Lexed) : Type 0 where
  pub mid : List Lexed
  pub left : Says a first mid
  pub right : Says mid second b

pub parts : {a b : List Lexed} (first second : List Lexeme) → Says a (first ++ second) b → Parts a first second b
parts {a = a} [] second h = record { mid = a; left = nothing; right = h }
parts (w ∷ first) second (one at h) =
    let p = parts first second h in
    record { mid = p.mid; left = one at p.left; right = p.right }

-- ---- how tightly a derived expression binds

-- a primary expression with its indices
pub record IsPostfix (a : List Lexed) (k : ℕ) (y : Expr) (b : List Lexed) (l : ℕ) : Type 0 where
  pub first : Expr
  pub mid : List Lexed
  pub next : ℕ
  pub primary : IsPrimary a k first mid next
  pub indices : IsIndexed first mid next y b l

abbrev pub At : ℕ → (a : List Lexed) (k : ℕ) → Expr → (b : List Lexed) (l : ℕ) → Type 0
At zero a k y b l = IsChain Disjunction a k y b l
At (suc zero) a k y b l = IsChain Conjunction a k y b l
At (suc (suc zero)) a k y b l = IsChain Comparison a k y b l
At (suc (suc (suc zero))) a k y b l = IsChain Sum a k y b l
At (suc (suc (suc (suc zero)))) a k y b l = IsChain Product a k y b l
At (suc (suc (suc (suc (suc zero))))) a k y b l = IsUnary a k y b l
At (suc (suc (suc (suc (suc (suc n)))))) a k y b l = IsPostfix a k y b l

module _ (a : List Lexed) (k : ℕ) (y : Expr) (b : List Lexed) (l : ℕ) where
  looser : (n : ℕ) → At (suc n) a k y b l → At n a k y b l
  looser zero h = grammar.chain (grammar.operand_chain refl h) grammar.tail_ends
  looser (suc zero) h = grammar.chain (grammar.operand_chain refl h) grammar.tail_ends
  looser (suc (suc zero)) h = grammar.chain (grammar.operand_chain refl h) grammar.tail_ends
  looser (suc (suc (suc zero))) h = grammar.chain (grammar.operand_chain refl h) grammar.tail_ends
  looser (suc (suc (suc (suc zero)))) h = grammar.chain (grammar.operand_unary refl h) grammar.tail_ends
  looser (suc (suc (suc (suc (suc zero))))) h = grammar.postfix h.primary h.indices
  looser (suc (suc (suc (suc (suc (suc n)))))) h = h

  loose_by : (m n : ℕ) (t : Bool) → nat_eq n (suc m) ≡ t → n ≤ suc m → At (suc m) a k y b l → (n ≤ m → At m a k y b l → At n a k y b l) → At n a k y b l
  loose_by m n true e le h again =
      let same : suc m ≡ n = grind arith in
      subst (λ (j : ℕ). At j a k y b l) same h
  loose_by m n false e le h again = again (grind arith) (looser m h)

  -- what binds tightly stands where less is asked
  pub as_loose : (m n : ℕ) → n ≤ m → At m a k y b l → At n a k y b l
  as_loose zero zero le h = h
  as_loose zero (suc n) le h = absurd (omega (arith, le))
  as_loose (suc m) n le h = loose_by m n (nat_eq n (suc m)) refl le h (as_loose m n)

  pub as_operand : (level : Level) → At (suc (rank level)) a k y b l → IsOperand level a k y b l
  as_operand Disjunction h = grammar.operand_chain refl h
  as_operand Conjunction h = grammar.operand_chain refl h
  as_operand Comparison h = grammar.operand_chain refl h
  as_operand Sum h = grammar.operand_chain refl h
  as_operand Product h = grammar.operand_unary refl h

  pub as_ranked : (level : Level) → IsChain level a k y b l → At (rank level) a k y b l
  as_ranked Disjunction h = h
  as_ranked Conjunction h = h
  as_ranked Comparison h = h
  as_ranked Sum h = h
  as_ranked Product h = h

-- ---- one more operator

tail_on : {level : Level} {x y z : Expr} {a c d : List Lexed} {k l m : ℕ} {op : BinOp} {dotted : Bool} {at : Place}
    → level_of op ≡ level → (level ≡ Comparison → ⊥) → IsTail level x a k y (mark (signs.Operator op dotted) at ∷ c) l → IsOperand level c (suc l) z d m
    → IsTail level x a k (binary_node l at op dotted y z) d m
tail_on e chains grammar.tail_ends right = grammar.tail_more e chains right grammar.tail_ends
tail_on e chains (grammar.tail_more f g operand tail) right = grammar.tail_more f g operand (tail_on e chains tail right)
tail_on e chains (grammar.tail_comparison f operand) right = absurd (chains refl)

chain_on : {level : Level} {y z : Expr} {a c d : List Lexed} {k l m : ℕ} {op : BinOp} {dotted : Bool} {at : Place}
    → level_of op ≡ level → (level ≡ Comparison → ⊥) → IsChain level a k y (mark (signs.Operator op dotted) at ∷ c) l → IsOperand level c (suc l) z d m
    → IsChain level a k (binary_node l at op dotted y z) d m
chain_on e chains (grammar.chain first tail) right = grammar.chain first (tail_on e chains tail right)

-- a left operand, an operator of this level and a right operand
pub joined : (level : Level) (op : BinOp) (dotted : Bool) (at : Place) (a : List Lexed) (k : ℕ) (y : Expr) (c : List Lexed) (l : ℕ) (z : Expr) (d : List Lexed) (m : ℕ)
    → level_of op ≡ level → At (left_rank level) a k y (mark (signs.Operator op dotted) at ∷ c) l → At (suc (rank level)) c (suc l) z d m
    → IsChain level a k (binary_node l at op dotted y z) d m
joined Disjunction op dotted at a k y c l z d m e left right = chain_on e (λ f. absurd cc) left (grammar.operand_chain refl right)
joined Conjunction op dotted at a k y c l z d m e left right = chain_on e (λ f. absurd cc) left (grammar.operand_chain refl right)
joined Comparison op dotted at a k y c l z d m e left right = grammar.chain (grammar.operand_chain refl left) (grammar.tail_comparison e (grammar.operand_chain refl right))
joined Sum op dotted at a k y c l z d m e left right = chain_on e (λ f. absurd cc) left (grammar.operand_chain refl right)
joined Product op dotted at a k y c l z d m e left right = chain_on e (λ f. absurd cc) left (grammar.operand_unary refl right)

-- one more index
pub indices_on : {x y i : Expr} {a c d : List Lexed} {k l m : ℕ} {at close : Place} → IsIndexed x a k y (mark signs.OpenIndex at ∷ c) l
    → IsChain Disjunction c (suc l) i (mark signs.CloseIndex close ∷ d) m → IsIndexed x a k (index_node l at y i) d m
indices_on grammar.indexed_ends h = grammar.indexed_more h grammar.indexed_ends
indices_on (grammar.indexed_more g tail) h = grammar.indexed_more g (indices_on tail h)
