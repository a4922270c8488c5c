-- The canonical text of a script.
use Rattle.std.specs.Prelude.{ℕ, suc, pos, ◌≡◌, Bool, true, false, if◌then◌else◌, List, [], ◌++◌, codes, nat_le, refl}
use Rattle.std.specs.Fmt.{signed_decimal, digits}
use Rattle.hp_word.specs.declared.place.Place.{Place}
use Rattle.hp_script.specs.declared.tree.UnOp.{UnOp}
use Rattle.hp_script.specs.declared.tree.UnOp.TheVariants.{Neg}
use Rattle.hp_script.specs.declared.tree.UnOp.TheVariants as ops
use Rattle.hp_script.specs.declared.tree.BinOp.{BinOp}
use Rattle.hp_script.specs.declared.tree.BinOp.TheVariants.{Or, And, Eq, Ne, Lt, Le, Gt, Ge, Add, Sub, BitOr, Mul, BitAnd}
use Rattle.hp_script.specs.declared.tree.Level.{Level}
use Rattle.hp_script.specs.declared.tree.Level.TheVariants.{Disjunction, Conjunction, Comparison, Sum, Product}
use Rattle.hp_script.specs.Grammar.{level_of}
use Rattle.hp_script.specs.Mirror.{Head, Tree, Args, Block, number, truth, text, variable, column, field, unary, binary, index, call, none, plain, range, lambda, named, done, assign, print, export, choose, loop}

-- ---- signs

-- the sign of an operator with two operands, but for its dot
abbrev pub symbol : BinOp → List ℕ
symbol Or = codes "||"
symbol And = codes "&&"
symbol Eq = codes "=="
symbol Ne = codes "!="
symbol Lt = codes "<"
symbol Le = codes "<="
symbol Gt = codes ">"
symbol Ge = codes ">="
symbol Add = codes "+"
symbol Sub = codes "-"
symbol BitOr = codes "|"
symbol Mul = codes "*"
symbol BitAnd = codes "&"

abbrev pub unary_symbol : UnOp → List ℕ
unary_symbol Neg = codes "-"
unary_symbol ops.Not = codes "!"

abbrev pub dot : Bool → List ℕ
dot dotted = if dotted then codes "." else []

-- ---- brackets

-- how tightly operators of a level bind
abbrev pub rank : Level → ℕ
rank Disjunction = 0
rank Conjunction = 1
rank Comparison = 2
rank Sum = 3
rank Product = 4

-- How tightly an expression binds: by its outermost operator, of which one with one operand binds more tightly than
-- those with two; anything else binds most tightly.
abbrev pub binds : Tree → ℕ
binds (binary h op dotted x y) = rank (level_of op)
binds (unary h op dotted x) = 5
binds _ = 6

-- How tightly the left operand must bind: as its operator does, since chains group to the left, and more tightly at a
-- comparison, which is no chain. The right one must bind more tightly than its operator.
abbrev pub left_rank : Level → ℕ
left_rank Comparison = 3
left_rank level = rank level

-- in brackets where it binds less tightly than it must
abbrev pub bracketed : (least : ℕ) → Tree → List ℕ → List ℕ
bracketed least x printed = if nat_le least (binds x) then printed else codes "(" ++ printed ++ codes ")"

-- ---- expressions

-- between an argument and those behind it
abbrev pub comma : Args → List ℕ
comma none = []
comma _ = codes ", "

unfoldable mutual
  pub text_in : Tree → List ℕ
  text_in (number h value) = signed_decimal value
  text_in (truth h holds) = if holds then codes "true" else codes "false"
  text_in (text h bytes) = codes "\"" ++ bytes ++ codes "\""
  text_in (variable h name) = name
  text_in (column h name) = codes ":" ++ name
  text_in (field h name of_it) = name ++ codes "." ++ of_it
  text_in (unary h op dotted x) = dot dotted ++ unary_symbol op ++ bracketed 5 x (text_in x)
  text_in (binary h op dotted x y) =
      bracketed (left_rank (level_of op)) x (text_in x) ++ codes " " ++ dot dotted ++ symbol op ++ codes " " ++ bracketed (suc (rank (level_of op))) y (text_in y)
  text_in (index h x i) = bracketed 6 x (text_in x) ++ codes "[" ++ text_in i ++ codes "]"
  text_in (call h function dotted xs) = function ++ dot dotted ++ codes "(" ++ text_among xs ++ codes ")"

  pub text_among : Args → List ℕ
  text_among none = []
  text_among (plain x xs) = text_in x ++ comma xs ++ text_among xs
  text_among (range x y xs) = text_in x ++ codes ":" ++ text_in y ++ comma xs ++ text_among xs
  text_among (lambda parameter x xs) = parameter ++ codes " -> " ++ text_in x ++ comma xs ++ text_among xs
  text_among (named name at x xs) = name ++ codes " = " ++ text_in x ++ comma xs ++ text_among xs

-- ---- statements

-- the indentation of a block in one with this indentation
abbrev pub deeper : List ℕ → List ℕ
deeper indent = indent ++ codes "    "

-- the second block of an `if`, where it has statements
abbrev pub else_part : (indent : List ℕ) → Block → List ℕ → List ℕ
else_part indent done printed = []
else_part indent _ printed = indent ++ codes "else\n" ++ printed

-- each statement on lines of its own, which begin with the indentation
unfoldable pub text_of : (indent : List ℕ) → Block → List ℕ
text_of indent done = []
text_of indent (assign at name x rest) = indent ++ name ++ codes " = " ++ text_in x ++ codes "\n" ++ text_of indent rest
text_of indent (print at x rest) = indent ++ codes "println(" ++ text_in x ++ codes ")\n" ++ text_of indent rest
text_of indent (export at x rest) = indent ++ codes "write_csv(" ++ text_in x ++ codes ")\n" ++ text_of indent rest
text_of indent (choose at test body other rest) =
    indent ++ codes "if " ++ text_in test ++ codes "\n" ++ text_of (deeper indent) body ++ else_part indent other (text_of (deeper indent) other) ++ indent ++ codes "end\n" ++ text_of indent rest
text_of indent (loop at test body rest) =
    indent ++ codes "while " ++ text_in test ++ codes "\n" ++ text_of (deeper indent) body ++ indent ++ codes "end\n" ++ text_of indent rest

-- the canonical text of a script
abbrev pub text_of_script : Block → List ℕ
text_of_script body = text_of [] body

-- ---- worked rows

row_of_brackets : (h : Head) (at : Place) → text_of_script (print at (binary h Mul false (binary h Add true (variable h (codes "a")) (number h (pos 1))) (unary h Neg false (variable h (codes "b")))) done) ≡ codes "println((a .+ 1) * -b)\n"
unfolding text_of text_in digits
row_of_brackets h at = refl

row_of_chains : (h : Head) (at : Place) → text_of_script (print at (binary h Sub false (binary h Sub false (variable h (codes "a")) (variable h (codes "b"))) (binary h Sub false (variable h (codes "c")) (variable h (codes "d")))) done) ≡ codes "println(a - b - (c - d))\n"
unfolding text_of text_in
row_of_chains h at = refl
