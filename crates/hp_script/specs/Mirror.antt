-- Scripts as plain trees, over which definitions recurse, and a script's own trees seen as such.
use Rattle.std.specs.Prelude.{ℕ, ℤ, pos, Bool, List, [], ◌∷◌}
use Rattle.hp_word.specs.declared.place.Place.{Place}
use Rattle.hp_script.specs.declared.tree.UnOp.{UnOp}
use Rattle.hp_script.specs.declared.tree.BinOp.{BinOp}
use Rattle.hp_script.specs.declared.tree.Expr.{Expr}
use Rattle.hp_script.specs.declared.tree.Form.{Form}
use Rattle.hp_script.specs.declared.tree.Form.TheVariants as forms
use Rattle.hp_script.specs.declared.tree.Arg.{Arg}
use Rattle.hp_script.specs.declared.tree.Arg.TheVariants as arg
use Rattle.hp_script.specs.declared.tree.Arg.TheBlock.{Row_of-Expr, end_of-Expr, more_of-Expr, Row_of-Arg, end_of-Arg, more_of-Arg}
use Rattle.hp_script.specs.declared.tree.Stmt.{Stmt}
use Rattle.hp_script.specs.declared.tree.Stmt.TheVariants as stmt
use Rattle.hp_script.specs.declared.tree.Stmt.TheBlock.{Row_of-Stmt, end_of-Stmt, more_of-Stmt}

-- ---- trees

-- what each expression has: its number and its place
pub record Head : Type 0 where
  pub id : ℕ
  pub at : Place

abbrev pub head : ℕ → Place → Head
head id at = record { id = id; at = at }

-- An expression; and the arguments of a call, of which each stands with those behind it.
mutual
  pub data Tree : Type 0 where
    number : Head → ℤ → Tree
    truth : Head → Bool → Tree
    text : Head → List ℕ → Tree
    variable : Head → List ℕ → Tree
    column : Head → List ℕ → Tree
    -- a variable and the name of its column
    field : Head → List ℕ → List ℕ → Tree
    unary : Head → UnOp → Bool → Tree → Tree
    binary : Head → BinOp → Bool → Tree → Tree → Tree
    -- what is indexed, and the index
    index : Head → Tree → Tree → Tree
    call : Head → List ℕ → Bool → Args → Tree

  pub data Args : Type 0 where
    none : Args
    plain : Tree → Args → Args
    range : Tree → Tree → Args → Args
    lambda : List ℕ → Tree → Args → Args
    named : List ℕ → Place → Tree → Args → Args

-- statements, of which each stands with those behind it
pub data Block : Type 0 where
  done : Block
  assign : Place → List ℕ → Tree → Block → Block
  print : Place → Tree → Block → Block
  export : Place → Tree → Block → Block
  -- `if`: what is run where the test holds, and what is run where it does not
  choose : Place → Tree → Block → Block → Block → Block
  -- `while`
  loop : Place → Tree → Block → Block → Block

-- ---- a script's own trees

-- what stands for a missing part, which no tree has
abbrev pub missing : Tree
missing = number (head 0 (record { line = 0; col = 0 })) (pos 0)

-- A part of a tree is held as the only one of a row.
unfoldable mutual
  pub form_of : Head → Form → Tree
  form_of h (forms.Number value) = number h value
  form_of h (forms.Truth holds) = truth h holds
  form_of h (forms.Text bytes) = text h bytes.bytes
  form_of h (forms.Name name) = variable h name.bytes
  form_of h (forms.Column name) = column h name.bytes
  form_of h (forms.Field name of_it) = field h name.bytes of_it.bytes
  form_of h (forms.Unary' op dotted p a) = unary h op dotted (only_of a)
  form_of h (forms.Binary' op dotted p a q b) = binary h op dotted (only_of a) (only_of b)
  form_of h (forms.Index' p a q b) = index h (only_of a) (only_of b)
  form_of h (forms.Call' function dotted p xs) = call h function.bytes dotted (row_of xs)

  pub only_of : {n : _} → Row_of-Expr n → Tree
  only_of end_of-Expr = missing
  only_of (more_of-Expr id at form rest) = form_of (head id.0 at) form

  pub row_of : {n : _} → Row_of-Arg n → Args
  row_of end_of-Arg = none
  row_of (more_of-Arg x xs) = arg_of x (row_of xs)

  -- an argument, with the arguments behind it
  pub arg_of : Arg → Args → Args
  arg_of (arg.Plain' id at form) rest = plain (form_of (head id.0 at) form) rest
  arg_of (arg.Range' id at form last_id last_at last) rest = range (form_of (head id.0 at) form) (form_of (head last_id.0 last_at) last) rest
  arg_of (arg.Lambda' parameter id at form) rest = lambda parameter.bytes (form_of (head id.0 at) form) rest
  arg_of (arg.Named' name place id at form) rest = named name.bytes place (form_of (head id.0 at) form) rest

-- an expression as a plain tree
unfoldable pub tree_of : Expr → Tree
tree_of x = form_of (head x.id.0 x.at) x.form

-- the arguments of a call
unfoldable pub args_of : List Arg → Args
args_of [] = none
args_of (x ∷ xs) = arg_of x (args_of xs)

unfoldable mutual
  -- a statement, with the statements behind it
  pub stmt_of : Stmt → Block → Block
  stmt_of (stmt.Assign at name x) rest = assign at name.bytes (tree_of x) rest
  stmt_of (stmt.Print at x) rest = print at (tree_of x) rest
  stmt_of (stmt.Export at x) rest = export at (tree_of x) rest
  stmt_of (stmt.If' at test p body q other) rest = choose at (tree_of test) (rows_of body) (rows_of other) rest
  stmt_of (stmt.While' at test p body) rest = loop at (tree_of test) (rows_of body) rest

  pub rows_of : {n : _} → Row_of-Stmt n → Block
  rows_of end_of-Stmt = done
  rows_of (more_of-Stmt s rest) = stmt_of s (rows_of rest)

-- the statements of a block
unfoldable pub block_of : List Stmt → Block
block_of [] = done
block_of (s ∷ rest) = stmt_of s (block_of rest)
