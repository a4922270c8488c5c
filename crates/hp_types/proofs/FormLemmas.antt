-- The forms of expressions and of arguments, over the code's own trees.
use Rattle.std.proofs.Common.{◌≡◌, ℕ, List, [], ◌∷◌, ◌++◌, Bool, true, false, cond, Option, Some, None, refl, sym, ap, ◌∙◌, append_assoc, subst, length, get_or, ◌<◌, ◌≤◌, arith}
use Rattle.std.specs.Prelude.{codes, bytes_eq, IsTrue, IsSome}
use Rattle.std.specs.Option.{is_some, option_map}
use Rattle.hp_word.specs.declared.name.Name.{Name}
use Rattle.hp_word.specs.declared.place.Place.{Place}
use Rattle.hp_script.specs.declared.tree.UnOp.{UnOp}
use Rattle.hp_script.specs.declared.tree.UnOp.TheVariants.{Neg, Not}
use Rattle.hp_script.specs.declared.tree.Expr.{Expr}
use Rattle.hp_script.specs.declared.tree.Arg.{Arg}
use Rattle.hp_script.specs.declared.tree.Arg.TheVariants as arg
use Rattle.hp_script.specs.declared.tree.Arg.TheViews.{Unary, Call}
use Rattle.hp_script.specs.declared.rule.Refusal.{Refusal}
use Rattle.hp_script.specs.declared.typed.ReadSpec.{ReadSpec}
use Rattle.hp_script.specs.declared.typed.Shape.TheVariants as shape
use Rattle.hp_script.specs.Breaks.{distance_of, measure_break, column_known}
use Rattle.hp_script.specs.Entries.{no_shapes, columns_among, file_of_call}
use Rattle.hp_script.specs.Mirror.{Tree, Args, Head, number, truth, text, variable, column, field, unary, binary, index, call, none, plain, range, lambda, named, head, tree_of, form_of, args_of, arg_of}
use Rattle.hp_script.specs.Scope.{Scope}
use Rattle.hp_script.specs.Trees as trees
use Rattle.hp_script.specs.Valued.{is_measure}
use Rattle.hp_script.proofs.MirrorLemmas as mirror
use Rattle.hp_types.specs.Forms.{number_in, is_negation, measures_column, is_measure_call}
use Rattle.hp_types.specs.Known.{column_in, text_in, listed}
use Rattle.hp_script.specs.Walk.{entries_of, found_of}

never : {A : Type 0} → IsTrue false → A
never h = absurd (cc)

-- ---- expressions

pub tree_call : (x : Expr) (function : Name) (dotted : Bool) (args : List Arg) → x.form ≡ Call function dotted args → tree_of x ≡ call (head x.id.0 x.at) function.bytes dotted (args_of args)
unfolding tree_of
tree_call x function dotted args e = ap (form_of (head x.id.0 x.at)) e ∙ mirror.tree_call x.id.0 x.at function.bytes dotted args

pub tree_unary : (x : Expr) (op : UnOp) (dotted : Bool) (operand : Expr) → x.form ≡ Unary op dotted operand → tree_of x ≡ unary (head x.id.0 x.at) op dotted (tree_of operand)
unfolding tree_of
tree_unary x op dotted operand e = ap (form_of (head x.id.0 x.at)) e ∙ mirror.tree_unary x.id.0 x.at op dotted operand

-- ---- distances

pub distance_unary : (h : Head) (op : UnOp) (dotted : Bool) (x : Tree) → distance_of (unary h op dotted x) ≡ cond (is_negation op dotted) (number_in x) None
distance_unary h Neg false (number g value) = refl
distance_unary h Neg false (truth g holds) = refl
distance_unary h Neg false (text g bytes) = refl
distance_unary h Neg false (variable g name) = refl
distance_unary h Neg false (column g name) = refl
distance_unary h Neg false (field g name of_it) = refl
distance_unary h Neg false (unary g op dotted x) = refl
distance_unary h Neg false (binary g op dotted x y) = refl
distance_unary h Neg false (index g x y) = refl
distance_unary h Neg false (call g function dotted xs) = refl
distance_unary h Neg true x = refl
distance_unary h Not dotted x = refl

-- ---- measures

pub measure_call : (h : Head) (function : List ℕ) (xs : Args) → is_measure (call h function false xs) ≡ is_measure_call function xs
measure_call h function (plain (column g name) none) = refl
measure_call h function none = refl
measure_call h function _ = refl

measures_one_tree : (function : List ℕ) (t : Tree) → is_measure_call function (plain t none) ≡ cond (is_some (column_in (plain t none))) (measures_column function) false
measures_one_tree function (column h name) = refl
measures_one_tree function _ = refl

pub measures_one : (function : List ℕ) (a : Arg) → is_measure_call function (args_of (a ∷ [])) ≡ cond (is_some (column_in (args_of (a ∷ [])))) (measures_column function) false
unfolding args_of arg_of
measures_one function (arg.Plain' id at form) = measures_one_tree function (form_of (head id.0 at) form)
measures_one function (arg.Range' id at form last_id last_at last) = refl
measures_one function (arg.Lambda' parameter id at form) = refl
measures_one function (arg.Named' name place id at form) = refl

longer_plain : (function : List ℕ) (t x : Tree) (rest : Args) → is_measure_call function (plain t (plain x rest)) ≡ false
longer_plain function (column h name) x rest = refl
longer_plain function _ x rest = refl

longer_range : (function : List ℕ) (t x y : Tree) (rest : Args) → is_measure_call function (plain t (range x y rest)) ≡ false
longer_range function (column h name) x y rest = refl
longer_range function _ x y rest = refl

longer_lambda : (function : List ℕ) (t : Tree) (parameter : List ℕ) (x : Tree) (rest : Args) → is_measure_call function (plain t (lambda parameter x rest)) ≡ false
longer_lambda function (column h name) parameter x rest = refl
longer_lambda function _ parameter x rest = refl

longer_named : (function : List ℕ) (t : Tree) (name : List ℕ) (at : Place) (x : Tree) (rest : Args) → is_measure_call function (plain t (named name at x rest)) ≡ false
longer_named function (column h c) name at x rest = refl
longer_named function _ name at x rest = refl

longer : (function : List ℕ) (t : Tree) (a : Arg) (rest : Args) → is_measure_call function (plain t (arg_of a rest)) ≡ false
unfolding arg_of
longer function t (arg.Plain' id at form) rest = longer_plain function t _ rest
longer function t (arg.Range' id at form last_id last_at last) rest = longer_range function t _ _ rest
longer function t (arg.Lambda' parameter id at form) rest = longer_lambda function t _ _ rest
longer function t (arg.Named' name place id at form) rest = longer_named function t _ _ _ rest

pub measures_more : (function : List ℕ) (a b : Arg) (rest : List Arg) → is_measure_call function (args_of (a ∷ b ∷ rest)) ≡ false
unfolding args_of arg_of
measures_more function (arg.Plain' id at form) b rest = longer function (form_of (head id.0 at) form) b (args_of rest)
measures_more function (arg.Range' id at form last_id last_at last) b rest = refl
measures_more function (arg.Lambda' parameter id at form) b rest = refl
measures_more function (arg.Named' name place id at form) b rest = refl

pub measures_only : (function : List ℕ) (xs : List Arg) (a : Arg) → length xs < 2 → 1 ≤ length xs → a ≡ get_or xs 0 a → true ≡ is_some (column_in (args_of (a ∷ [])))
    → is_measure_call function (args_of xs) ≡ measures_column function
measures_only function [] a short long is found = absurd (omega arith)
measures_only function (x ∷ []) a short long is found =
    let named_by : true ≡ is_some (column_in (args_of (x ∷ []))) = subst (λ it. true ≡ is_some (column_in (args_of (it ∷ [])))) is found in
    measures_one function x ∙ ap (λ b. cond b (measures_column function) false) (sym named_by)
measures_only function (x ∷ y ∷ rest) a short long is found = absurd (omega arith)

pub measures_other : (function : List ℕ) (xs : List Arg) (a : Arg) → length xs < 2 → 1 ≤ length xs → a ≡ get_or xs 0 a → false ≡ is_some (column_in (args_of (a ∷ [])))
    → is_measure_call function (args_of xs) ≡ false
measures_other function [] a short long is found = absurd (omega arith)
measures_other function (x ∷ []) a short long is found =
    let named_by : false ≡ is_some (column_in (args_of (x ∷ []))) = subst (λ it. false ≡ is_some (column_in (args_of (it ∷ [])))) is found in
    measures_one function x ∙ ap (λ b. cond b (measures_column function) false) (sym named_by)
measures_other function (x ∷ y ∷ rest) a short long is found = absurd (omega arith)

pub measures_many : (function : List ℕ) (xs : List Arg) → 2 ≤ length xs → is_measure_call function (args_of xs) ≡ false
measures_many function [] long = absurd (omega arith)
measures_many function (x ∷ []) long = absurd (omega arith)
measures_many function (x ∷ y ∷ rest) long = measures_more function x y rest

-- a measure's parts: its call, and the column if it has one
pub shapes_none : (h : Head) (function : List ℕ) (dotted : Bool) → no_shapes (call h function dotted (args_of [])) ≡ None ∷ []
unfolding args_of
shapes_none h function dotted = refl

shapes_of_call : (h : Head) (function : List ℕ) (dotted : Bool) (xs : Args) → IsTrue (is_measure (call h function dotted xs)) → (xs ≡ none → ⊥) → no_shapes (call h function dotted xs) ≡ None ∷ None ∷ []
shapes_of_call h function false (plain (column g name) none) measured some = refl
shapes_of_call h function false none measured some = absurd (some refl)
shapes_of_call h function _ _ measured some = never measured

arg_some : (a : Arg) (rest : Args) → arg_of a rest ≡ none → ⊥
unfolding arg_of
arg_some (arg.Plain' id at form) rest e = (cc)
arg_some (arg.Range' id at form last_id last_at last) rest e = (cc)
arg_some (arg.Lambda' parameter id at form) rest e = (cc)
arg_some (arg.Named' name place id at form) rest e = (cc)

pub shapes_some : (h : Head) (function : List ℕ) (dotted : Bool) (xs : List Arg) → IsTrue (is_measure (call h function dotted (args_of xs))) → (xs ≡ [] → ⊥) → no_shapes (call h function dotted (args_of xs)) ≡ None ∷ None ∷ []
unfolding args_of
shapes_some h function dotted [] measured some = absurd (some refl)
shapes_some h function dotted (a ∷ rest) measured some = shapes_of_call h function dotted (arg_of a (args_of rest)) measured (arg_some a (args_of rest))

pub parts_none : (x : Expr) (function : Name) (dotted : Bool) (args : List Arg) → x.form ≡ Call function dotted args → args ≡ [] → no_shapes (tree_of x) ≡ None ∷ []
parts_none x function dotted args form is =
    ap no_shapes (tree_call x function dotted args form ∙ ap (λ xs. call (head x.id.0 x.at) function.bytes dotted (args_of xs)) is) ∙ shapes_none (head x.id.0 x.at) function.bytes dotted

pub parts_some : (x : Expr) (function : Name) (dotted : Bool) (args : List Arg) → x.form ≡ Call function dotted args → (args ≡ [] → ⊥) → IsTrue (is_measure (tree_of x)) → no_shapes (tree_of x) ≡ None ∷ None ∷ []
parts_some x function dotted args form some measured =
    let tree = tree_call x function dotted args form in
    ap no_shapes tree ∙ shapes_some (head x.id.0 x.at) function.bytes dotted args (subst (λ t. IsTrue (is_measure t)) tree measured) some

-- ---- columns

column_any : (t : Tree) (rest : Args) → column_in (plain t rest) ≡ column_in (plain t none)
column_any (column h name) rest = refl
column_any _ rest = refl

pub column_first : (a : Arg) (rest : List Arg) → column_in (args_of (a ∷ rest)) ≡ column_in (args_of (a ∷ []))
unfolding args_of arg_of
column_first (arg.Plain' id at form) rest = column_any (form_of (head id.0 at) form) (args_of rest)
column_first (arg.Range' id at form last_id last_at last) rest = refl
column_first (arg.Lambda' parameter id at form) rest = refl
column_first (arg.Named' name place id at form) rest = refl

abbrev pub known_column : List (List Name) → Option (Place × List ℕ) → Option Refusal
known_column frames None = None
known_column frames (Some found) = column_known found.0 found.1 frames

pub measure_column : (frames : List (List Name)) (h : Head) (function : List ℕ) (dotted : Bool) (xs : Args) → measure_break frames (call h function dotted xs) ≡ known_column frames (column_in xs)
measure_column frames h function dotted (plain (column g name) rest) = refl
measure_column frames h function dotted _ = refl

columns_first : (t : Tree) (xs : Args) → columns_among (plain t xs) ≡ columns_among (plain t none) ++ columns_among xs
columns_first (column h name) xs = refl
columns_first _ xs = refl

columns_cons : (a : Arg) (rest : List Arg) → columns_among (args_of (a ∷ rest)) ≡ columns_among (args_of (a ∷ [])) ++ columns_among (args_of rest)
unfolding args_of arg_of
columns_cons (arg.Plain' id at form) rest = columns_first (form_of (head id.0 at) form) (args_of rest)
columns_cons (arg.Range' id at form last_id last_at last) rest = refl
columns_cons (arg.Lambda' parameter id at form) rest = refl
columns_cons (arg.Named' name place id at form) rest = refl

pub columns_append : (xs : List Arg) (a : Arg) → columns_among (args_of (xs ++ a ∷ [])) ≡ columns_among (args_of xs) ++ columns_among (args_of (a ∷ []))
columns_append [] a = rw mirror.args_none refl
columns_append (x ∷ xs) a =
    columns_cons x (xs ++ a ∷ []) ∙ ap (λ columns. columns_among (args_of (x ∷ [])) ++ columns) (columns_append xs a)
    ∙ sym (append_assoc (columns_among (args_of (x ∷ []))) (columns_among (args_of xs)) (columns_among (args_of (a ∷ []))))
    ∙ ap (λ columns. columns ++ columns_among (args_of (a ∷ []))) (sym (columns_cons x xs))

columns_tree : (t : Tree) → columns_among (plain t none) ≡ listed (option_map (λ found. trees.named found.1) (column_in (plain t none)))
columns_tree (column h name) = refl
columns_tree _ = refl

pub columns_one : (a : Arg) → columns_among (args_of (a ∷ [])) ≡ listed (option_map (λ found. trees.named found.1) (column_in (args_of (a ∷ []))))
unfolding args_of arg_of
columns_one (arg.Plain' id at form) = columns_tree (form_of (head id.0 at) form)
columns_one (arg.Range' id at form last_id last_at last) = refl
columns_one (arg.Lambda' parameter id at form) = refl
columns_one (arg.Named' name place id at form) = refl

-- ---- files

-- the file of this name, where there is one
abbrev pub file_with : List Name → Option Name → List ReadSpec
file_with columns None = []
file_with columns (Some file) = record { file = file; columns = columns } ∷ []

cond_same : (b : Bool) → cond {A = List ReadSpec} b [] [] ≡ []
cond_same true = refl
cond_same false = refl

file_tree : (name : List ℕ) (t : Tree) (rest : Args) → file_of_call name false (plain t rest) ≡ cond (bytes_eq name (codes "read_csv")) (file_with (columns_among rest) (text_in (plain t none))) []
file_tree name (text h bytes) rest = refl
file_tree name _ rest = sym (cond_same (bytes_eq name (codes "read_csv")))

pub file_call : (name : List ℕ) (a : Arg) (rest : List Arg) → file_of_call name false (args_of (a ∷ rest)) ≡ cond (bytes_eq name (codes "read_csv")) (file_with (columns_among (args_of rest)) (text_in (args_of (a ∷ [])))) []
unfolding args_of arg_of
file_call name (arg.Plain' id at form) rest = file_tree name (form_of (head id.0 at) form) (args_of rest)
file_call name (arg.Range' id at form last_id last_at last) rest = sym (cond_same (bytes_eq name (codes "read_csv")))
file_call name (arg.Lambda' parameter id at form) rest = sym (cond_same (bytes_eq name (codes "read_csv")))
file_call name (arg.Named' given place id at form) rest = sym (cond_same (bytes_eq name (codes "read_csv")))

-- ---- the parts of a distance

pub entries_unary : (s : Scope) (h : Head) (op : UnOp) (dotted : Bool) (x : Tree) → IsSome (distance_of (unary h op dotted x)) → entries_of s (unary h op dotted x) ≡ Some shape.Int ∷ Some shape.Int ∷ []
unfolding found_of
entries_unary s h Neg false (number g value) found = refl
entries_unary s h _ _ _ found = never found
