-- The elements of bodies, by the forms of the code's trees, and of arguments by their items.
use Rattle.std.proofs.Common.{◌≡◌, ℕ, ◌+◌, ◌<◌, length, get_or, take, ℤ, pos, Bool, List, [], ◌∷◌, ◌++◌, if◌then◌else◌, refl, sym, ap, ◌∙◌, append_assoc, append-nil}
use Rattle.std.proofs.lemmas.List.{take_more}
use Rattle.std.specs.Prelude.{bytes_eq, unwrap_or}
use Rattle.hp_word.specs.declared.elem.Elem.{Elem}
use Rattle.hp_word.specs.declared.elem.Elem.TheVariants.{Number, Word, Input, Near}
use Rattle.hp_word.specs.declared.name.Name.{Name}
use Rattle.hp_word.specs.declared.place.Place.{Place}
use Rattle.hp_word.specs.Words.{truth}
use Rattle.hp_script.specs.declared.tree.UnOp.{UnOp}
use Rattle.hp_script.specs.declared.tree.BinOp.{BinOp}
use Rattle.hp_script.specs.declared.tree.Expr.{Expr}
use Rattle.hp_script.specs.declared.tree.Form.{Form}
use Rattle.hp_script.specs.declared.tree.Form.TheVariants as forms
use Rattle.hp_script.specs.declared.tree.Arg.{Arg}
use Rattle.hp_script.specs.declared.tree.Arg.TheVariants as arg
use Rattle.hp_script.specs.declared.tree.Arg.TheViews as views
use Rattle.hp_script.specs.Functions.{function_named}
use Rattle.hp_script.specs.Mirror.{Args, none, head, tree_of, args_of, form_of, arg_of}
use Rattle.hp_script.proofs.MirrorLemmas.{tree_unary, tree_binary, tree_index, tree_call}
use Rattle.hp_meaning.specs.LambdaRules.{distance}
use Rattle.hp_flat.specs.Homes.{Homes, word_named}
use Rattle.hp_flat.specs.Elements.{unary_elem, binary_elem, call_elem, elem_of, elems_of}

-- an expression by its form
pub by_form : (x : Expr) (f : Form) → x.form ≡ f → tree_of x ≡ form_of (head x.id.0 x.at) f
unfolding tree_of
by_form x f e = ap (form_of (head x.id.0 x.at)) e

pub elem_number : (h : Homes) (p : List ℕ) (x : Expr) (value : ℤ) → x.form ≡ forms.Number value → elem_of h p (tree_of x) ≡ Number value
unfolding form_of elem_of
elem_number h p x value e = ap (elem_of h p) (by_form x _ e)

pub elem_truth : (h : Homes) (p : List ℕ) (x : Expr) (holds : Bool) → x.form ≡ forms.Truth holds → elem_of h p (tree_of x) ≡ Number (truth holds)
unfolding form_of elem_of
elem_truth h p x holds e = ap (elem_of h p) (by_form x _ e)

pub elem_text : (h : Homes) (p : List ℕ) (x : Expr) (bytes : Name) → x.form ≡ forms.Text bytes → elem_of h p (tree_of x) ≡ Number (pos 0)
unfolding form_of elem_of
elem_text h p x bytes e = ap (elem_of h p) (by_form x _ e)

pub elem_name : (h : Homes) (p : List ℕ) (x : Expr) (name : Name) → x.form ≡ forms.Name name → elem_of h p (tree_of x) ≡ (if bytes_eq name.bytes p then Input 0 else Word (word_named h name.bytes))
unfolding form_of elem_of
elem_name h p x name e = ap (elem_of h p) (by_form x _ e)

pub elem_column : (h : Homes) (p : List ℕ) (x : Expr) (name : Name) → x.form ≡ forms.Column name → elem_of h p (tree_of x) ≡ Number (pos 0)
unfolding form_of elem_of
elem_column h p x name e = ap (elem_of h p) (by_form x _ e)

pub elem_field : (h : Homes) (p : List ℕ) (x : Expr) (name of_it : Name) → x.form ≡ forms.Field name of_it → elem_of h p (tree_of x) ≡ Number (pos 0)
unfolding form_of elem_of
elem_field h p x name of_it e = ap (elem_of h p) (by_form x _ e)

pub elem_unary : (h : Homes) (p : List ℕ) (x : Expr) (op : UnOp) (dotted : Bool) (a : Expr) → x.form ≡ views.Unary op dotted a → elem_of h p (tree_of x) ≡ unary_elem x.at op (elem_of h p (tree_of a))
unfolding tree_of elem_of
elem_unary h p x op dotted a e = ap (elem_of h p) (by_form x _ e ∙ tree_unary x.id.0 x.at op dotted a)

pub elem_binary : (h : Homes) (p : List ℕ) (x : Expr) (op : BinOp) (dotted : Bool) (a b : Expr) → x.form ≡ views.Binary op dotted a b
    → elem_of h p (tree_of x) ≡ binary_elem x.at op (elem_of h p (tree_of a)) (elem_of h p (tree_of b))
unfolding tree_of elem_of
elem_binary h p x op dotted a b e = ap (elem_of h p) (by_form x _ e ∙ tree_binary x.id.0 x.at op dotted a b)

pub elem_index : (h : Homes) (p : List ℕ) (x : Expr) (a b : Expr) → x.form ≡ views.Index a b → elem_of h p (tree_of x) ≡ Near 0 (unwrap_or (distance (tree_of b)) (pos 0))
unfolding tree_of elem_of
elem_index h p x a b e = ap (elem_of h p) (by_form x _ e ∙ tree_index x.id.0 x.at a b)

pub elem_call : (h : Homes) (p : List ℕ) (x : Expr) (function : Name) (dotted : Bool) (xs : List Arg) → x.form ≡ views.Call function dotted xs
    → elem_of h p (tree_of x) ≡ call_elem x.at (function_named dotted function.bytes) (elems_of h p (args_of xs))
unfolding tree_of elem_of
elem_call h p x function dotted xs e = ap (elem_of h p) (by_form x _ e ∙ tree_call x.id.0 x.at function.bytes dotted xs)

-- every equation
pub ruleset element_forms = (elem_number, elem_truth, elem_text, elem_name, elem_column, elem_field, elem_unary, elem_binary, elem_index, elem_call)

-- ---- arguments

pub elems_none : (h : Homes) (p : List ℕ) → elems_of h p (args_of []) ≡ []
unfolding args_of elem_of elems_of
elems_none h p = refl

pub elems_plain : (h : Homes) (p : List ℕ) (a : Arg) (x : Expr) → a ≡ views.Plain x → elems_of h p (args_of (a ∷ [])) ≡ elem_of h p (tree_of x) ∷ []
unfolding args_of arg_of tree_of elem_of elems_of
elems_plain h p a x e = rw e refl

pub elems_range : (h : Homes) (p : List ℕ) (a : Arg) (x y : Expr) → a ≡ views.Range x y → elems_of h p (args_of (a ∷ [])) ≡ []
unfolding args_of arg_of tree_of elem_of elems_of
elems_range h p a x y e = rw e refl

pub elems_lambda : (h : Homes) (p : List ℕ) (a : Arg) (parameter : Name) (x : Expr) → a ≡ views.Lambda parameter x → elems_of h p (args_of (a ∷ [])) ≡ []
unfolding args_of arg_of tree_of elem_of elems_of
elems_lambda h p a parameter x e = rw e refl

pub elems_named : (h : Homes) (p : List ℕ) (a : Arg) (name : Name) (at : Place) (x : Expr) → a ≡ views.Named name at x → elems_of h p (args_of (a ∷ [])) ≡ []
unfolding args_of arg_of tree_of elem_of elems_of
elems_named h p a name at x e = rw e refl

-- an argument and those behind it
arg_split : (h : Homes) (p : List ℕ) (a : Arg) (rest : Args) → elems_of h p (arg_of a rest) ≡ elems_of h p (arg_of a none) ++ elems_of h p rest
unfolding arg_of elem_of elems_of
arg_split h p (arg.Plain' id at form) rest = refl
arg_split h p (arg.Range' id at form last_id last_at last) rest = refl
arg_split h p (arg.Lambda' parameter id at form) rest = refl
arg_split h p (arg.Named' name place id at form) rest = refl

elems_last : (h : Homes) (p : List ℕ) (a : Arg) (xs : List Arg) → elems_of h p (args_of (xs ++ a ∷ [])) ≡ elems_of h p (args_of xs) ++ elems_of h p (args_of (a ∷ []))
unfolding args_of elem_of elems_of
elems_last h p a [] = refl
elems_last h p a (x ∷ xs) =
    arg_split h p x (args_of (xs ++ a ∷ []))
    ∙ ap (λ (t : List Elem). elems_of h p (arg_of x none) ++ t) (elems_last h p a xs)
    ∙ sym (append_assoc (elems_of h p (arg_of x none)) (elems_of h p (args_of xs)) _)
    ∙ ap (λ (t : List Elem). t ++ elems_of h p (arg_of a none)) (sym (arg_split h p x (args_of xs)))

-- one more argument
pub next_argument : (h : Homes) (p : List ℕ) (made new : List Elem) (xs : List Arg) (i : ℕ) (a : Arg) → i < length xs → a ≡ get_or xs i a
    → made ≡ elems_of h p (args_of (take i xs)) → new ≡ made ++ elems_of h p (args_of (a ∷ [])) → new ≡ elems_of h p (args_of (take (i + 1) xs))
next_argument h p made new xs i a lt is m n =
    let whole : take (i + 1) xs ≡ take i xs ++ a ∷ [] = take_more xs i a lt ∙ ap (λ (x : Arg). take i xs ++ x ∷ []) (sym is) in
    rw (n, m, whole, elems_last h p a (take i xs)) refl

-- every equation
pub ruleset argument_forms = (elems_none, elems_plain, elems_range, elems_lambda, elems_named, append-nil)
