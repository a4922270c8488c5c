-- The reach of bodies, by the forms of the code's trees, and of arguments by their items.
use Rattle.std.proofs.Common.{◌≡◌, ℕ, ◌+◌, ◌<◌, length, get_or, take, ℤ, pos, Bool, List, [], ◌∷◌, ◌++◌, max, refl, sym, ap, ◌∙◌, arith}
use Rattle.std.proofs.lemmas.List.{take_more}
use Rattle.std.specs.Prelude.{nat_abs, unwrap_or}
use Rattle.hp_word.specs.declared.name.Name.{Name}
use Rattle.hp_word.specs.declared.place.Place.{Place}
use Rattle.hp_script.specs.declared.tree.UnOp.{UnOp}
use Rattle.hp_script.specs.declared.tree.BinOp.{BinOp}
use Rattle.hp_script.specs.declared.tree.Expr.{Expr}
use Rattle.hp_script.specs.declared.tree.Form.{Form}
use Rattle.hp_script.specs.declared.tree.Form.TheVariants as forms
use Rattle.hp_script.specs.declared.tree.Arg.{Arg}
use Rattle.hp_script.specs.declared.tree.Arg.TheVariants as arg
use Rattle.hp_script.specs.declared.tree.Arg.TheViews as views
use Rattle.hp_script.specs.Mirror.{Args, none, tree_of, args_of, form_of, arg_of}
use Rattle.hp_script.proofs.MirrorLemmas.{tree_unary, tree_binary, tree_index, tree_call}
use Rattle.hp_meaning.specs.LambdaRules.{distance}
use Rattle.hp_flat.specs.Elements.{reach_of, reach_among}
use Rattle.hp_normal.proofs.ElementForms.{by_form}

max_zero : (n : ℕ) → max n 0 ≡ n
max_zero n = grind arith

zero_max : (n : ℕ) → max 0 n ≡ n
zero_max n = grind arith

max_assoc : (a b c : ℕ) → max (max a b) c ≡ max a (max b c)
max_assoc a b c = grind arith

-- ---- expressions

pub reach_number : (x : Expr) (value : ℤ) → x.form ≡ forms.Number value → reach_of (tree_of x) ≡ 0
unfolding form_of reach_of
reach_number x value e = ap reach_of (by_form x _ e)

pub reach_truth : (x : Expr) (holds : Bool) → x.form ≡ forms.Truth holds → reach_of (tree_of x) ≡ 0
unfolding form_of reach_of
reach_truth x holds e = ap reach_of (by_form x _ e)

pub reach_text : (x : Expr) (bytes : Name) → x.form ≡ forms.Text bytes → reach_of (tree_of x) ≡ 0
unfolding form_of reach_of
reach_text x bytes e = ap reach_of (by_form x _ e)

pub reach_name : (x : Expr) (name : Name) → x.form ≡ forms.Name name → reach_of (tree_of x) ≡ 0
unfolding form_of reach_of
reach_name x name e = ap reach_of (by_form x _ e)

pub reach_column : (x : Expr) (name : Name) → x.form ≡ forms.Column name → reach_of (tree_of x) ≡ 0
unfolding form_of reach_of
reach_column x name e = ap reach_of (by_form x _ e)

pub reach_field : (x : Expr) (name of_it : Name) → x.form ≡ forms.Field name of_it → reach_of (tree_of x) ≡ 0
unfolding form_of reach_of
reach_field x name of_it e = ap reach_of (by_form x _ e)

pub reach_unary : (x : Expr) (op : UnOp) (dotted : Bool) (a : Expr) → x.form ≡ views.Unary op dotted a → reach_of (tree_of x) ≡ reach_of (tree_of a)
unfolding tree_of reach_of
reach_unary x op dotted a e = ap reach_of (by_form x _ e ∙ tree_unary x.id.0 x.at op dotted a)

pub reach_binary : (x : Expr) (op : BinOp) (dotted : Bool) (a b : Expr) → x.form ≡ views.Binary op dotted a b → reach_of (tree_of x) ≡ max (reach_of (tree_of a)) (reach_of (tree_of b))
unfolding tree_of reach_of
reach_binary x op dotted a b e = ap reach_of (by_form x _ e ∙ tree_binary x.id.0 x.at op dotted a b)

pub reach_index : (x : Expr) (a b : Expr) → x.form ≡ views.Index a b → reach_of (tree_of x) ≡ nat_abs (unwrap_or (distance (tree_of b)) (pos 0))
unfolding tree_of reach_of
reach_index x a b e = ap reach_of (by_form x _ e ∙ tree_index x.id.0 x.at a b)

pub reach_call : (x : Expr) (function : Name) (dotted : Bool) (xs : List Arg) → x.form ≡ views.Call function dotted xs → reach_of (tree_of x) ≡ reach_among (args_of xs)
unfolding tree_of reach_of
reach_call x function dotted xs e = ap reach_of (by_form x _ e ∙ tree_call x.id.0 x.at function.bytes dotted xs)

-- ---- arguments

pub reach_none : reach_among (args_of []) ≡ 0
unfolding args_of reach_of reach_among
reach_none = refl

pub reach_plain : (a : Arg) (x : Expr) → a ≡ views.Plain x → reach_among (args_of (a ∷ [])) ≡ reach_of (tree_of x)
unfolding args_of arg_of tree_of reach_of reach_among
reach_plain a x e = rw e (max_zero _)

pub reach_range : (a : Arg) (x y : Expr) → a ≡ views.Range x y → reach_among (args_of (a ∷ [])) ≡ 0
unfolding args_of arg_of tree_of reach_of reach_among
reach_range a x y e = rw e refl

pub reach_lambda : (a : Arg) (parameter : Name) (x : Expr) → a ≡ views.Lambda parameter x → reach_among (args_of (a ∷ [])) ≡ 0
unfolding args_of arg_of tree_of reach_of reach_among
reach_lambda a parameter x e = rw e refl

pub reach_named : (a : Arg) (name : Name) (at : Place) (x : Expr) → a ≡ views.Named name at x → reach_among (args_of (a ∷ [])) ≡ 0
unfolding args_of arg_of tree_of reach_of reach_among
reach_named a name at x e = rw e refl

-- an argument and those behind it
arg_split : (a : Arg) (rest : Args) → reach_among (arg_of a rest) ≡ max (reach_among (arg_of a none)) (reach_among rest)
unfolding arg_of reach_of reach_among
arg_split (arg.Plain' id at form) rest = ap (λ (n : ℕ). max n (reach_among rest)) (sym (max_zero _))
arg_split (arg.Range' id at form last_id last_at last) rest = sym (zero_max _)
arg_split (arg.Lambda' parameter id at form) rest = sym (zero_max _)
arg_split (arg.Named' name place id at form) rest = sym (zero_max _)

among_last : (a : Arg) (xs : List Arg) → reach_among (args_of (xs ++ a ∷ [])) ≡ max (reach_among (args_of xs)) (reach_among (args_of (a ∷ [])))
unfolding args_of reach_of reach_among
among_last a [] = sym (zero_max _)
among_last a (x ∷ xs) =
    arg_split x (args_of (xs ++ a ∷ []))
    ∙ ap (λ (n : ℕ). max (reach_among (arg_of x none)) n) (among_last a xs)
    ∙ sym (max_assoc (reach_among (arg_of x none)) (reach_among (args_of xs)) _)
    ∙ ap (λ (n : ℕ). max n (reach_among (arg_of a none))) (sym (arg_split x (args_of xs)))

-- one more argument
pub next_argument : (reach : ℕ) (xs : List Arg) (i : ℕ) (a : Arg) → i < length xs → a ≡ get_or xs i a
    → reach ≡ reach_among (args_of (take i xs)) → max reach (reach_among (args_of (a ∷ []))) ≡ reach_among (args_of (take (i + 1) xs))
next_argument reach xs i a lt is m =
    let whole : take (i + 1) xs ≡ take i xs ++ a ∷ [] = take_more xs i a lt ∙ ap (λ (x : Arg). take i xs ++ x ∷ []) (sym is) in
    rw (m, whole, among_last a (take i xs)) refl

-- every equation
pub ruleset reach_forms = (reach_number, reach_truth, reach_text, reach_name, reach_column, reach_field, reach_unary, reach_binary, reach_index, reach_call, reach_none, reach_plain, reach_range, reach_lambda, reach_named)
