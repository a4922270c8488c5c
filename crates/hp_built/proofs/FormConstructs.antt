-- The construct of an expression, by the forms of the code's trees.
use Rattle.std.proofs.Common.{◌≡◌, ℕ, ℤ, Bool, List, Option, Some, None, refl, ap, ◌∙◌}
use Rattle.hp_word.specs.declared.name.Name.{Name}
use Rattle.hp_script.specs.declared.tree.UnOp.{UnOp}
use Rattle.hp_script.specs.declared.tree.BinOp.{BinOp}
use Rattle.hp_script.specs.declared.tree.Expr.{Expr}
use Rattle.hp_script.specs.declared.tree.Form.{Form}
use Rattle.hp_script.specs.declared.tree.Form.TheVariants as forms
use Rattle.hp_script.specs.declared.tree.Arg.{Arg}
use Rattle.hp_script.specs.declared.tree.Arg.TheViews as views
use Rattle.hp_script.specs.declared.typed.Shape.{Shape}
use Rattle.hp_script.specs.Functions.{function_named}
use Rattle.hp_script.specs.Mirror.{Head, head, tree_of, form_of}
use Rattle.hp_script.proofs.PrintLemmas.{by_form}
use Rattle.hp_script.proofs.MirrorLemmas.{tree_unary, tree_binary, tree_index, tree_call}
use Rattle.hp_air.specs.Unknowns.{number_of}
use Rattle.hp_built.specs.declared.construct.Construct.TheVariants as construct
use Rattle.hp_built.specs.Constructs.{shape_at, unary_construct, operator_construct, index_construct, call_construct, valued_construct, of_valued, construct_of}

form_number : (h : Head) (f : Form) → number_of (form_of h f) ≡ h.id
unfolding form_of
form_number h (forms.Number value) = refl
form_number h (forms.Truth holds) = refl
form_number h (forms.Text bytes) = refl
form_number h (forms.Name name) = refl
form_number h (forms.Column name) = refl
form_number h (forms.Field name of_it) = refl
form_number h (forms.Unary' op dotted p a) = refl
form_number h (forms.Binary' op dotted p a q b) = refl
form_number h (forms.Index' p a q b) = refl
form_number h (forms.Call' function dotted p xs) = refl

-- the number of an expression is that of its tree
pub tree_number : (x : Expr) → number_of (tree_of x) ≡ x.id.0
unfolding tree_of
tree_number x = form_number (head x.id.0 x.at) x.form

pub construct_at : (shapes : List (Option Shape)) (x : Expr) → construct_of shapes (tree_of x) ≡ of_valued shapes (shape_at shapes x.id.0) (tree_of x)
unfolding construct_of
construct_at shapes x = ap (λ (k : ℕ). of_valued shapes (shape_at shapes k) (tree_of x)) (tree_number x)

-- ---- the forms

pub of_number : (shapes : List (Option Shape)) (found : Shape) (x : Expr) (value : ℤ) → x.form ≡ forms.Number value → valued_construct shapes found (tree_of x) ≡ None
unfolding form_of
of_number shapes found x value e = ap (valued_construct shapes found) (by_form x _ e)

pub of_truth : (shapes : List (Option Shape)) (found : Shape) (x : Expr) (holds : Bool) → x.form ≡ forms.Truth holds → valued_construct shapes found (tree_of x) ≡ None
unfolding form_of
of_truth shapes found x holds e = ap (valued_construct shapes found) (by_form x _ e)

pub of_text : (shapes : List (Option Shape)) (found : Shape) (x : Expr) (bytes : Name) → x.form ≡ forms.Text bytes → valued_construct shapes found (tree_of x) ≡ None
unfolding form_of
of_text shapes found x bytes e = ap (valued_construct shapes found) (by_form x _ e)

pub of_name : (shapes : List (Option Shape)) (found : Shape) (x : Expr) (name : Name) → x.form ≡ forms.Name name → valued_construct shapes found (tree_of x) ≡ None
unfolding form_of
of_name shapes found x name e = ap (valued_construct shapes found) (by_form x _ e)

pub of_column : (shapes : List (Option Shape)) (found : Shape) (x : Expr) (name : Name) → x.form ≡ forms.Column name → valued_construct shapes found (tree_of x) ≡ Some construct.Column
unfolding form_of
of_column shapes found x name e = ap (valued_construct shapes found) (by_form x _ e)

pub of_field : (shapes : List (Option Shape)) (found : Shape) (x : Expr) (name of_it : Name) → x.form ≡ forms.Field name of_it → valued_construct shapes found (tree_of x) ≡ Some construct.Field
unfolding form_of
of_field shapes found x name of_it e = ap (valued_construct shapes found) (by_form x _ e)

pub of_unary : (shapes : List (Option Shape)) (found : Shape) (x : Expr) (op : UnOp) (dotted : Bool) (a : Expr) → x.form ≡ views.Unary op dotted a
    → valued_construct shapes found (tree_of x) ≡ Some (unary_construct op dotted)
unfolding tree_of
of_unary shapes found x op dotted a e = ap (valued_construct shapes found) (by_form x _ e ∙ tree_unary x.id.0 x.at op dotted a)

pub of_binary : (shapes : List (Option Shape)) (found : Shape) (x : Expr) (op : BinOp) (dotted : Bool) (a b : Expr) → x.form ≡ views.Binary op dotted a b
    → valued_construct shapes found (tree_of x) ≡ Some (operator_construct op dotted (shape_at shapes b.id.0) found)
unfolding tree_of
of_binary shapes found x op dotted a b e =
    ap (valued_construct shapes found) (by_form x _ e ∙ tree_binary x.id.0 x.at op dotted a b)
    ∙ ap (λ (k : ℕ). Some (operator_construct op dotted (shape_at shapes k) found)) (tree_number b)

pub of_index : (shapes : List (Option Shape)) (found : Shape) (x : Expr) (a b : Expr) → x.form ≡ views.Index a b
    → valued_construct shapes found (tree_of x) ≡ index_construct (shape_at shapes a.id.0) (shape_at shapes b.id.0)
unfolding tree_of
of_index shapes found x a b e =
    ap (valued_construct shapes found) (by_form x _ e ∙ tree_index x.id.0 x.at a b)
    ∙ ap (λ (k : ℕ). index_construct (shape_at shapes k) (shape_at shapes (number_of (tree_of b)))) (tree_number a)
    ∙ ap (λ (k : ℕ). index_construct (shape_at shapes a.id.0) (shape_at shapes k)) (tree_number b)

pub of_call : (shapes : List (Option Shape)) (found : Shape) (x : Expr) (function : Name) (dotted : Bool) (xs : List Arg) → x.form ≡ views.Call function dotted xs
    → valued_construct shapes found (tree_of x) ≡ call_construct (function_named dotted function.bytes) dotted
unfolding tree_of
of_call shapes found x function dotted xs e = ap (valued_construct shapes found) (by_form x _ e ∙ tree_call x.id.0 x.at function.bytes dotted xs)

-- every equation
pub ruleset valued = (of_number, of_truth, of_text, of_name, of_column, of_field, of_unary, of_binary, of_index, of_call)
