-- The view of a script's own trees: one equation for each constructor.
use Rattle.std.proofs.Common.{◌≡◌, ℕ, ℤ, Bool, List, [], ◌∷◌, refl, ap}
use Rattle.hp_word.specs.declared.name.Name.{Name}
use Rattle.hp_word.specs.declared.place.Place.{Place}
use Rattle.hp_script.specs.declared.tree.UnOp.{UnOp}
use Rattle.hp_script.specs.declared.tree.BinOp.{BinOp}
use Rattle.hp_script.specs.declared.tree.Expr.{Expr}
use Rattle.hp_script.specs.declared.tree.Arg.{Arg}
use Rattle.hp_script.specs.declared.tree.Arg.TheViews.{Plain, Range, Lambda, Named}
use Rattle.hp_script.specs.declared.tree.Stmt.{Stmt}
use Rattle.hp_script.specs.declared.tree.Stmt.TheVariants.{Assign, Print, Export}
use Rattle.hp_script.specs.declared.tree.Stmt.TheViews.{If, While}
use Rattle.hp_script.specs.declared.tree.Arg.TheBlock.{hidden-the_row-Arg-1}
use Rattle.hp_script.specs.declared.tree.Stmt.TheBlock.{hidden-the_row-Stmt-0}
use Rattle.hp_script.specs.Trees.{number_node, truth_node, text_node, name_node, column_node, field_node, unary_node, binary_node, index_node, call_node}
use Rattle.hp_script.specs.Mirror as mirror
use Rattle.hp_script.specs.Mirror.{head, tree_of, args_of, block_of, form_of, only_of, row_of, arg_of, stmt_of, rows_of}

-- ---- expressions

pub tree_number : (id : ℕ) (at : Place) (value : ℤ) → tree_of (number_node id at value) ≡ mirror.number (head id at) value
unfolding tree_of form_of
tree_number id at value = refl

pub tree_truth : (id : ℕ) (at : Place) (holds : Bool) → tree_of (truth_node id at holds) ≡ mirror.truth (head id at) holds
unfolding tree_of form_of
tree_truth id at holds = refl

pub tree_text : (id : ℕ) (at : Place) (bytes : List ℕ) → tree_of (text_node id at bytes) ≡ mirror.text (head id at) bytes
unfolding tree_of form_of
tree_text id at bytes = refl

pub tree_variable : (id : ℕ) (at : Place) (bytes : List ℕ) → tree_of (name_node id at bytes) ≡ mirror.variable (head id at) bytes
unfolding tree_of form_of
tree_variable id at bytes = refl

pub tree_column : (id : ℕ) (at : Place) (bytes : List ℕ) → tree_of (column_node id at bytes) ≡ mirror.column (head id at) bytes
unfolding tree_of form_of
tree_column id at bytes = refl

pub tree_field : (id : ℕ) (at : Place) (bytes column : List ℕ) → tree_of (field_node id at bytes column) ≡ mirror.field (head id at) bytes column
unfolding tree_of form_of
tree_field id at bytes column = refl

pub tree_unary : (id : ℕ) (at : Place) (op : UnOp) (dotted : Bool) (x : Expr) → tree_of (unary_node id at op dotted x) ≡ mirror.unary (head id at) op dotted (tree_of x)
unfolding tree_of form_of only_of Rattle.hp_script.specs.declared.tree.Arg.TheBlock.hidden-the_row-Expr-0 denote.Hole.Carrier.hidden
tree_unary id at op dotted x = refl

pub tree_binary : (id : ℕ) (at : Place) (op : BinOp) (dotted : Bool) (x y : Expr) → tree_of (binary_node id at op dotted x y) ≡ mirror.binary (head id at) op dotted (tree_of x) (tree_of y)
unfolding tree_of form_of only_of Rattle.hp_script.specs.declared.tree.Arg.TheBlock.hidden-the_row-Expr-0 denote.Hole.Carrier.hidden
tree_binary id at op dotted x y = refl

pub tree_index : (id : ℕ) (at : Place) (x y : Expr) → tree_of (index_node id at x y) ≡ mirror.index (head id at) (tree_of x) (tree_of y)
unfolding tree_of form_of only_of Rattle.hp_script.specs.declared.tree.Arg.TheBlock.hidden-the_row-Expr-0 denote.Hole.Carrier.hidden
tree_index id at x y = refl

row_args : (xs : List Arg) → row_of (hidden-the_row-Arg-1 xs) ≡ args_of xs
unfolding args_of row_of Rattle.hp_script.specs.declared.tree.Arg.TheBlock.hidden-the_row-Arg-1 denote.Hole.Carrier.hidden
row_args [] = refl
row_args (x ∷ xs) = ap (arg_of x) (row_args xs)

pub tree_call : (id : ℕ) (at : Place) (function : List ℕ) (dotted : Bool) (xs : List Arg) → tree_of (call_node id at function dotted xs) ≡ mirror.call (head id at) function dotted (args_of xs)
unfolding tree_of form_of
tree_call id at function dotted xs = ap (mirror.call (head id at) function dotted) (row_args xs)

-- ---- arguments

pub args_none : args_of [] ≡ mirror.none
unfolding args_of
args_none = refl

pub args_plain : (x : Expr) (xs : List Arg) → args_of (Plain x ∷ xs) ≡ mirror.plain (tree_of x) (args_of xs)
unfolding args_of arg_of tree_of
args_plain x xs = refl

pub args_range : (x y : Expr) (xs : List Arg) → args_of (Range x y ∷ xs) ≡ mirror.range (tree_of x) (tree_of y) (args_of xs)
unfolding args_of arg_of tree_of
args_range x y xs = refl

pub args_lambda : (parameter : Name) (x : Expr) (xs : List Arg) → args_of (Lambda parameter x ∷ xs) ≡ mirror.lambda parameter.bytes (tree_of x) (args_of xs)
unfolding args_of arg_of tree_of
args_lambda parameter x xs = refl

pub args_named : (name : Name) (at : Place) (x : Expr) (xs : List Arg) → args_of (Named name at x ∷ xs) ≡ mirror.named name.bytes at (tree_of x) (args_of xs)
unfolding args_of arg_of tree_of
args_named name at x xs = refl

-- ---- statements

pub block_done : block_of [] ≡ mirror.done
unfolding block_of
block_done = refl

pub block_assign : (at : Place) (name : Name) (x : Expr) (rest : List Stmt) → block_of (Assign at name x ∷ rest) ≡ mirror.assign at name.bytes (tree_of x) (block_of rest)
unfolding block_of stmt_of
block_assign at name x rest = refl

pub block_print : (at : Place) (x : Expr) (rest : List Stmt) → block_of (Print at x ∷ rest) ≡ mirror.print at (tree_of x) (block_of rest)
unfolding block_of stmt_of
block_print at x rest = refl

pub block_export : (at : Place) (x : Expr) (rest : List Stmt) → block_of (Export at x ∷ rest) ≡ mirror.export at (tree_of x) (block_of rest)
unfolding block_of stmt_of
block_export at x rest = refl

row_block : (body : List Stmt) → rows_of (hidden-the_row-Stmt-0 body) ≡ block_of body
unfolding block_of rows_of Rattle.hp_script.specs.declared.tree.Stmt.TheBlock.hidden-the_row-Stmt-0 denote.Hole.Carrier.hidden
row_block [] = refl
row_block (s ∷ rest) = ap (stmt_of s) (row_block rest)

pub block_choose : (at : Place) (test : Expr) (body other rest : List Stmt) → block_of (If at test body other ∷ rest) ≡ mirror.choose at (tree_of test) (block_of body) (block_of other) (block_of rest)
unfolding block_of stmt_of
block_choose at test body other rest = rw (row_block body, row_block other) refl

pub block_loop : (at : Place) (test : Expr) (body rest : List Stmt) → block_of (While at test body ∷ rest) ≡ mirror.loop at (tree_of test) (block_of body) (block_of rest)
unfolding block_of stmt_of
block_loop at test body rest = rw (row_block body) refl

-- every equation
pub ruleset views = (tree_number, tree_truth, tree_text, tree_variable, tree_column, tree_field, tree_unary, tree_binary, tree_index, tree_call, args_none, args_plain, args_range, args_lambda, args_named, block_done, block_assign, block_print, block_export, block_choose, block_loop)
