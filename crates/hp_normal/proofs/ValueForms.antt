-- The arguments that are values, by their items.
use Rattle.std.proofs.Common.{◌≡◌, ℕ, ◌+◌, ◌<◌, length, get_or, take, List, [], ◌∷◌, ◌++◌, map, refl, sym, ap, ◌∙◌, append_assoc, append-nil}
use Rattle.std.proofs.lemmas.List.{take_more}
use Rattle.hp_word.specs.declared.name.Name.{Name}
use Rattle.hp_word.specs.declared.place.Place.{Place}
use Rattle.hp_script.specs.declared.tree.Expr.{Expr}
use Rattle.hp_script.specs.declared.tree.Form.{Form}
use Rattle.hp_script.specs.declared.tree.Form.TheVariants as forms
use Rattle.hp_script.specs.declared.tree.Arg.{Arg}
use Rattle.hp_script.specs.declared.tree.Arg.TheVariants as arg
use Rattle.hp_script.specs.declared.tree.Arg.TheViews as views
use Rattle.hp_script.specs.Mirror.{Args, none, plain, range, lambda, named, Head, head, tree_of, args_of, form_of, arg_of}
use Rattle.hp_air.specs.Unknowns.{Known, number_of, at_node, arguments_of}
use Rattle.hp_normal.specs.Values.{values_among}
use Rattle.hp_normal.specs.Programs.{sides_at}

form_number : (h : Head) (f : Form) → number_of (form_of h f) ≡ h.id
unfolding form_of
form_number h (forms.Number value) = refl
form_number h (forms.Truth holds) = refl
form_number h (forms.Text bytes) = refl
form_number h (forms.Name name) = refl
form_number h (forms.Column name) = refl
form_number h (forms.Field name of_it) = refl
form_number h (forms.Unary' op dotted p a) = refl
form_number h (forms.Binary' op dotted p a q b) = refl
form_number h (forms.Index' p a q b) = refl
form_number h (forms.Call' function dotted p xs) = refl

-- the number of an expression
pub number_is : (x : Expr) → number_of (tree_of x) ≡ x.id.0
unfolding tree_of
number_is x = form_number (head x.id.0 x.at) x.form

pub values_none : values_among (args_of []) ≡ []
unfolding args_of values_among
values_none = refl

pub values_plain : (a : Arg) (x : Expr) → a ≡ views.Plain x → values_among (args_of (a ∷ [])) ≡ x.id.0 ∷ []
unfolding args_of arg_of tree_of values_among
values_plain a x e = rw e (ap (λ (k : ℕ). k ∷ []) (number_is x))

pub values_range : (a : Arg) (x y : Expr) → a ≡ views.Range x y → values_among (args_of (a ∷ [])) ≡ []
unfolding args_of arg_of tree_of values_among
values_range a x y e = rw e refl

pub values_lambda : (a : Arg) (parameter : Name) (x : Expr) → a ≡ views.Lambda parameter x → values_among (args_of (a ∷ [])) ≡ []
unfolding args_of arg_of tree_of values_among
values_lambda a parameter x e = rw e refl

pub values_named : (a : Arg) (name : Name) (at : Place) (x : Expr) → a ≡ views.Named name at x → values_among (args_of (a ∷ [])) ≡ x.id.0 ∷ []
unfolding args_of arg_of tree_of values_among
values_named a name at x e = rw e (ap (λ (k : ℕ). k ∷ []) (number_is x))

arg_split : (a : Arg) (rest : Args) → values_among (arg_of a rest) ≡ values_among (arg_of a none) ++ values_among rest
unfolding arg_of values_among
arg_split (arg.Plain' id at form) rest = refl
arg_split (arg.Range' id at form last_id last_at last) rest = refl
arg_split (arg.Lambda' parameter id at form) rest = refl
arg_split (arg.Named' name place id at form) rest = refl

values_last : (a : Arg) (xs : List Arg) → values_among (args_of (xs ++ a ∷ [])) ≡ values_among (args_of xs) ++ values_among (args_of (a ∷ []))
unfolding args_of values_among
values_last a [] = refl
values_last a (x ∷ xs) =
    arg_split x (args_of (xs ++ a ∷ []))
    ∙ ap (λ (t : List ℕ). values_among (arg_of x none) ++ t) (values_last a xs)
    ∙ sym (append_assoc (values_among (arg_of x none)) (values_among (args_of xs)) _)
    ∙ ap (λ (t : List ℕ). t ++ values_among (arg_of a none)) (sym (arg_split x (args_of xs)))

-- one more argument
pub next_value : (made new : List ℕ) (xs : List Arg) (i : ℕ) (a : Arg) → i < length xs → a ≡ get_or xs i a
    → made ≡ values_among (args_of (take i xs)) → new ≡ made ++ values_among (args_of (a ∷ [])) → new ≡ values_among (args_of (take (i + 1) xs))
next_value made new xs i a lt is m n =
    let whole : take (i + 1) xs ≡ take i xs ++ a ∷ [] = take_more xs i a lt ∙ ap (λ (x : Arg). take i xs ++ x ∷ []) (sym is) in
    rw (n, m, whole, values_last a (take i xs)) refl

-- every equation
pub ruleset value_forms = (values_none, values_plain, values_range, values_lambda, values_named, append-nil)

-- the arrays of the arguments of a call
pub sides_are : (g : Known) (xs : Args) → arguments_of g xs ≡ sides_at g (values_among xs)
unfolding values_among
sides_are g none = refl
sides_are g (plain x xs) = ap (λ l. at_node g (number_of x) ∷ l) (sides_are g xs)
sides_are g (range x y xs) = sides_are g xs
sides_are g (lambda parameter x xs) = sides_are g xs
sides_are g (named name at x xs) = ap (λ l. at_node g (number_of x) ∷ l) (sides_are g xs)
