-- Short forms of the nodes of a tree: each by its number, its place and its parts.
use Rattle.std.specs.Prelude.{ℕ, ℤ, Bool, List}
use Rattle.hp_word.specs.declared.name.Name.{Name}
use Rattle.hp_word.specs.declared.place.Place.{Place}
use Rattle.hp_script.specs.declared.tree.UnOp.{UnOp}
use Rattle.hp_script.specs.declared.tree.BinOp.{BinOp}
use Rattle.hp_script.specs.declared.tree.Expr.{Expr}
use Rattle.hp_script.specs.declared.tree.Form.{Form}
use Rattle.hp_script.specs.declared.tree.Form.TheVariants as forms
use Rattle.hp_script.specs.declared.tree.Arg.{Arg}
use Rattle.hp_script.specs.declared.tree.Arg.TheViews as views

-- a name of these bytes
abbrev pub named : List ℕ → Name
named bytes = record { bytes = bytes }

-- an expression of this number, place and form
abbrev pub node : ℕ → Place → Form → Expr
node id at form = record { id = record { 0 = id }; at = at; form = form }

abbrev pub number_node : ℕ → Place → ℤ → Expr
number_node id at value = node id at (forms.Number value)

abbrev pub truth_node : ℕ → Place → Bool → Expr
truth_node id at truth = node id at (forms.Truth truth)

abbrev pub text_node : ℕ → Place → List ℕ → Expr
text_node id at bytes = node id at (forms.Text (named bytes))

abbrev pub name_node : ℕ → Place → List ℕ → Expr
name_node id at bytes = node id at (forms.Name (named bytes))

abbrev pub column_node : ℕ → Place → List ℕ → Expr
column_node id at bytes = node id at (forms.Column (named bytes))

-- a variable and the name of its column
abbrev pub field_node : ℕ → Place → List ℕ → List ℕ → Expr
field_node id at variable column = node id at (forms.Field (named variable) (named column))

abbrev pub unary_node : ℕ → Place → UnOp → Bool → Expr → Expr
unary_node id at op dotted operand = node id at (views.Unary op dotted operand)

abbrev pub binary_node : ℕ → Place → BinOp → Bool → Expr → Expr → Expr
binary_node id at op dotted left right = node id at (views.Binary op dotted left right)

-- what is indexed, and the index
abbrev pub index_node : ℕ → Place → Expr → Expr → Expr
index_node id at indexed index = node id at (views.Index indexed index)

abbrev pub call_node : ℕ → Place → List ℕ → Bool → List Arg → Expr
call_node id at function dotted args = node id at (views.Call (named function) dotted args)
