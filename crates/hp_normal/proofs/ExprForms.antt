-- The steps of expressions by the forms of the code's trees, and of arguments by their items.
use Rattle.std.proofs.Common.{◌≡◌, ℕ, ◌+◌, ◌<◌, ◌≤◌, length, get_or, drop, ℤ, Bool, true, false, List, [], ◌∷◌, ◌++◌, map, Option, Some, None, refl, sym, ap, ◌∙◌}
use Rattle.std.proofs.lemmas.List.{drop_more, drop_all}
use Rattle.std.specs.Prelude.{Result, OnOk}
use Rattle.std.proofs.lemmas.Result.{on_ok_weaker}
use Rattle.hp_word.specs.declared.name.Name.{Name}
use Rattle.hp_word.specs.declared.place.Place.{Place}
use Rattle.hp_word.specs.Words.{truth}
use Rattle.hp_script.specs.declared.tree.UnOp.{UnOp}
use Rattle.hp_script.specs.declared.tree.BinOp.{BinOp}
use Rattle.hp_script.specs.declared.tree.BinOp.TheVariants as binary_op
use Rattle.hp_script.specs.declared.tree.Expr.{Expr}
use Rattle.hp_script.specs.declared.tree.Form.TheVariants as forms
use Rattle.hp_script.specs.declared.tree.Arg.{Arg}
use Rattle.hp_script.specs.declared.tree.Arg.TheVariants as arg
use Rattle.hp_script.specs.declared.tree.Arg.TheViews as views
use Rattle.hp_script.specs.Functions.{function_named}
use Rattle.hp_script.specs.Mirror.{Args, Head, Tree, none, head, tree_of, args_of, form_of, arg_of}
use Rattle.hp_script.proofs.MirrorLemmas.{tree_unary, tree_binary, tree_index, tree_call}
use Rattle.hp_program.specs.Programs.{Prog, stop, joined}
use Rattle.hp_air.specs.declared.what.Op.{Op}
use Rattle.hp_air.specs.declared.what.What.TheVariants as what
use Rattle.hp_air.specs.Unknowns.{Known, Unknown, Columns, columns_of, column_named, shape_at, shape_named, at_node, arrays_at, arrays_named, frame_around, filtered_frame, no_frame}
use Rattle.hp_flat.specs.Homes.{Homes, slots_of, word_at}
use Rattle.hp_flat.specs.Flat.{flat, flat_among}
use Rattle.hp_flat.specs.FlatCalls.{code_of, array_copy, unary_code, binary_code, lazy_code, index_code, named_call}
use Rattle.hp_normal.specs.Programs.{code_in, copy_of, is_lazy, eager_code, frame_at_node}
use Rattle.hp_normal.proofs.ElementForms.{by_form}
use Rattle.hp_normal.proofs.StepLemmas.{joined_assoc, joined_stop}
use Rattle.hp_normal.proofs.ValueForms.{number_is}

-- what two calls add one after the other, of which the second may fail
pub added : {T E : Type 0} (r : Result T E) (old mid new first last all : Prog Op) → mid ≡ joined old first → all ≡ joined first last → OnOk r (new ≡ joined mid last) → OnOk r (new ≡ joined old all)
added r old mid new first last all f h now =
    on_ok_weaker r (λ e. e ∙ ap (λ (p : Prog Op). joined p last) f ∙ joined_assoc old first last ∙ ap (λ (p : Prog Op). joined old p) (sym h)) now

-- the steps of a construct, written in another way
pub replaced : {T E : Type 0} (r : Result T E) (old new made all : Prog Op) → made ≡ all → OnOk r (new ≡ joined old made) → OnOk r (new ≡ joined old all)
replaced r old new made all e now = on_ok_weaker r (λ n. n ∙ ap (λ (p : Prog Op). joined old p) e) now

-- and behind those of its parts
pub added_made : {T E : Type 0} (r : Result T E) (old mid new first last made all : Prog Op) → mid ≡ joined old first → all ≡ joined first last → made ≡ last → OnOk r (new ≡ joined mid made)
    → OnOk r (new ≡ joined old all)
added_made r old mid new first last made all f h e now = added r old mid new first last all f h (replaced r mid new made last e now)

-- what two calls and one more add
pub added_twice : (old mid new first last : Prog Op) → mid ≡ joined old first → new ≡ joined mid last → new ≡ joined old (joined first last)
added_twice old mid new first last f l = l ∙ ap (λ (p : Prog Op). joined p last) f ∙ joined_assoc old first last

pub nothing_added : (p : Prog Op) → p ≡ joined p stop
nothing_added p = sym (joined_stop p)

pub stop_first : (p : Prog Op) → joined stop p ≡ p
unfolding joined
stop_first p = refl

-- ---- copies

pub copy_by : (h : Homes) (at : Place) (us vs : List Unknown) → array_copy h at us vs ≡ code_in at (copy_of (slots_of h us) (slots_of h vs))
unfolding array_copy
copy_by h at [] vs = refl
copy_by h at (u ∷ us) vs = refl

-- ---- frames around

pub frame_plain : (g : Known) (rest : Args) (a : Arg) (x : Expr) → a ≡ views.Plain x → filtered_frame g (arg_of a rest) ≡ columns_of (shape_at g x.id.0) (at_node g x.id.0)
unfolding arg_of tree_of
frame_plain g rest a x e = rw e (ap (λ (k : ℕ). columns_of (shape_at g k) (at_node g k)) (number_is x))

pub frame_range : (g : Known) (rest : Args) (a : Arg) (x y : Expr) → a ≡ views.Range x y → filtered_frame g (arg_of a rest) ≡ no_frame
unfolding arg_of tree_of
frame_range g rest a x y e = rw e refl

pub frame_lambda : (g : Known) (rest : Args) (a : Arg) (parameter : Name) (x : Expr) → a ≡ views.Lambda parameter x → filtered_frame g (arg_of a rest) ≡ no_frame
unfolding arg_of tree_of
frame_lambda g rest a parameter x e = rw e refl

pub frame_named : (g : Known) (rest : Args) (a : Arg) (name : Name) (at : Place) (x : Expr) → a ≡ views.Named name at x → filtered_frame g (arg_of a rest) ≡ no_frame
unfolding arg_of tree_of
frame_named g rest a name at x e = rw e refl

pub ruleset frame_forms = (frame_plain, frame_range, frame_lambda, frame_named)

-- ---- operators

pub binary_lazy : (h : Homes) (n : Head) (op : BinOp) (dotted : Bool) (x y : Tree) (second : Prog Op) → is_lazy op dotted ≡ true → binary_code h n op dotted x y second ≡ lazy_code h n op x y second
unfolding binary_code
binary_lazy h n op true x y second e = absurd cc
binary_lazy h n binary_op.And false x y second e = refl
binary_lazy h n binary_op.Or false x y second e = refl
binary_lazy h n op false x y second e = absurd cc

pub binary_eager : (h : Homes) (n : Head) (op : BinOp) (dotted : Bool) (x y : Tree) (second : Prog Op) → is_lazy op dotted ≡ false → binary_code h n op dotted x y second ≡ joined second (eager_code h n op dotted x y)
unfolding binary_code eager_code
binary_eager h n op true x y second e = refl
binary_eager h n binary_op.And false x y second e = absurd cc
binary_eager h n binary_op.Or false x y second e = absurd cc
binary_eager h n binary_op.Mul false x y second e = refl
binary_eager h n op false x y second e = refl

-- ---- expressions

pub flat_number : (h : Homes) (around : Columns) (x : Expr) (value : ℤ) → x.form ≡ forms.Number value → flat h around (tree_of x) ≡ code_of x.at (what.Const (word_at h x.id.0) value)
unfolding form_of flat
flat_number h around x value e = ap (flat h around) (by_form x _ e)

pub flat_truth : (h : Homes) (around : Columns) (x : Expr) (holds : Bool) → x.form ≡ forms.Truth holds → flat h around (tree_of x) ≡ code_of x.at (what.Const (word_at h x.id.0) (truth holds))
unfolding form_of flat
flat_truth h around x holds e = ap (flat h around) (by_form x _ e)

pub flat_text : (h : Homes) (around : Columns) (x : Expr) (bytes : Name) → x.form ≡ forms.Text bytes → flat h around (tree_of x) ≡ stop
unfolding form_of flat
flat_text h around x bytes e = ap (flat h around) (by_form x _ e)

pub flat_name : (h : Homes) (around : Columns) (x : Expr) (name : Name) → x.form ≡ forms.Name name
    → flat h around (tree_of x) ≡ code_in x.at (copy_of (slots_of h (at_node h.known x.id.0)) (slots_of h (arrays_named h.known name.bytes)))
unfolding form_of flat
flat_name h around x name e = ap (flat h around) (by_form x _ e) ∙ copy_by h x.at (at_node h.known x.id.0) (arrays_named h.known name.bytes)

pub flat_column : (h : Homes) (around : Columns) (x : Expr) (name : Name) → x.form ≡ forms.Column name
    → flat h around (tree_of x) ≡ code_in x.at (copy_of (slots_of h (at_node h.known x.id.0)) (slots_of h (column_named around name.bytes)))
unfolding form_of flat
flat_column h around x name e = ap (flat h around) (by_form x _ e) ∙ copy_by h x.at (at_node h.known x.id.0) (column_named around name.bytes)

pub flat_field : (h : Homes) (around : Columns) (x : Expr) (name of_it : Name) → x.form ≡ forms.Field name of_it
    → flat h around (tree_of x) ≡ code_in x.at (copy_of (slots_of h (at_node h.known x.id.0)) (slots_of h (column_named (columns_of (shape_named h.known name.bytes) (arrays_named h.known name.bytes)) of_it.bytes)))
unfolding form_of flat
flat_field h around x name of_it e =
    ap (flat h around) (by_form x _ e) ∙ copy_by h x.at (at_node h.known x.id.0) (column_named (columns_of (shape_named h.known name.bytes) (arrays_named h.known name.bytes)) of_it.bytes)

pub flat_unary : (h : Homes) (around : Columns) (x : Expr) (op : UnOp) (dotted : Bool) (a : Expr) → x.form ≡ views.Unary op dotted a
    → flat h around (tree_of x) ≡ joined (flat h around (tree_of a)) (unary_code h (head x.id.0 x.at) op dotted (tree_of a))
unfolding tree_of flat
flat_unary h around x op dotted a e = ap (flat h around) (by_form x _ e ∙ tree_unary x.id.0 x.at op dotted a)

pub flat_binary : (h : Homes) (around : Columns) (x : Expr) (op : BinOp) (dotted : Bool) (a b : Expr) → x.form ≡ views.Binary op dotted a b
    → flat h around (tree_of x) ≡ joined (flat h around (tree_of a)) (binary_code h (head x.id.0 x.at) op dotted (tree_of a) (tree_of b) (flat h around (tree_of b)))
unfolding tree_of flat
flat_binary h around x op dotted a b e = ap (flat h around) (by_form x _ e ∙ tree_binary x.id.0 x.at op dotted a b)

pub flat_index : (h : Homes) (around : Columns) (x : Expr) (a b : Expr) → x.form ≡ views.Index a b
    → flat h around (tree_of x) ≡ joined (joined (flat h around (tree_of a)) (flat h around (tree_of b))) (index_code h (head x.id.0 x.at) (tree_of a) (tree_of b))
unfolding tree_of flat
flat_index h around x a b e = ap (flat h around) (by_form x _ e ∙ tree_index x.id.0 x.at a b) ∙ sym (joined_assoc (flat h around (tree_of a)) (flat h around (tree_of b)) _)

pub flat_call : (h : Homes) (around : Columns) (x : Expr) (function : Name) (dotted : Bool) (xs : List Arg) → x.form ≡ views.Call function dotted xs
    → flat h around (tree_of x) ≡ joined (flat_among h around (frame_around h.known function.bytes (args_of xs) around) (args_of xs)) (named_call h (head x.id.0 x.at) dotted (function_named dotted function.bytes) (args_of xs))
unfolding tree_of flat flat_among
flat_call h around x function dotted xs e = ap (flat h around) (by_form x _ e ∙ tree_call x.id.0 x.at function.bytes dotted xs)

-- every equation
pub ruleset expression_forms = (flat_number, flat_truth, flat_text, flat_name, flat_column, flat_field, flat_unary, flat_binary, flat_index, flat_call, nothing_added)

-- ---- arguments

pub among_none : (h : Homes) (around behind : Columns) → flat_among h around behind (args_of []) ≡ stop
unfolding args_of flat flat_among
among_none h around behind = refl

pub among_plain : (h : Homes) (around behind : Columns) (a : Arg) (x : Expr) → a ≡ views.Plain x → flat_among h around behind (args_of (a ∷ [])) ≡ flat h around (tree_of x)
unfolding args_of arg_of tree_of flat flat_among
among_plain h around behind a x e = rw e (joined_stop _)

pub among_range : (h : Homes) (around behind : Columns) (a : Arg) (x y : Expr) → a ≡ views.Range x y → flat_among h around behind (args_of (a ∷ [])) ≡ joined (flat h around (tree_of x)) (flat h around (tree_of y))
unfolding args_of arg_of tree_of flat flat_among
among_range h around behind a x y e = rw e (ap (λ (p : Prog Op). joined (flat h around (tree_of x)) p) (joined_stop _))

pub among_lambda : (h : Homes) (around behind : Columns) (a : Arg) (parameter : Name) (x : Expr) → a ≡ views.Lambda parameter x → flat_among h around behind (args_of (a ∷ [])) ≡ stop
unfolding args_of arg_of tree_of flat flat_among
among_lambda h around behind a parameter x e = rw e refl

pub among_named : (h : Homes) (around behind : Columns) (a : Arg) (name : Name) (at : Place) (x : Expr) → a ≡ views.Named name at x → flat_among h around behind (args_of (a ∷ [])) ≡ flat h around (tree_of x)
unfolding args_of arg_of tree_of flat flat_among
among_named h around behind a name at x e = rw e (joined_stop _)

split_off : (p r : Prog Op) → joined p r ≡ joined (joined p stop) r
split_off p r = ap (λ (q : Prog Op). joined q r) (sym (joined_stop p))

split_two : (p q r : Prog Op) → joined p (joined q r) ≡ joined (joined p (joined q stop)) r
split_two p q r = ap (λ (t : Prog Op). joined p (joined t r)) (sym (joined_stop q)) ∙ sym (joined_assoc p (joined q stop) r)

-- an argument and those behind it
arg_split : (h : Homes) (around behind : Columns) (a : Arg) (rest : Args)
    → flat_among h around behind (arg_of a rest) ≡ joined (flat_among h around around (arg_of a none)) (flat_among h behind behind rest)
unfolding arg_of flat flat_among joined
arg_split h around behind (arg.Plain' id at form) rest = split_off _ (flat_among h behind behind rest)
arg_split h around behind (arg.Range' id at form last_id last_at last) rest = split_two _ _ (flat_among h behind behind rest)
arg_split h around behind (arg.Lambda' parameter id at form) rest = refl
arg_split h around behind (arg.Named' name place id at form) rest = split_off _ (flat_among h behind behind rest)

-- the first argument and those behind it
pub first_and_rest : (h : Homes) (around behind : Columns) (a : Arg) (rest : List Arg)
    → flat_among h around behind (args_of (a ∷ rest)) ≡ joined (flat_among h around around (args_of (a ∷ []))) (flat_among h behind behind (args_of rest))
unfolding args_of
first_and_rest h around behind a rest = arg_split h around behind a (args_of rest)

-- one more argument; those behind it see one frame
pub next_argument : (h : Homes) (seen behind : Columns) (all mid new : Prog Op) (xs : List Arg) (i : ℕ) (a : Arg) → i < length xs → a ≡ get_or xs i a
    → all ≡ joined mid (flat_among h seen behind (args_of (drop i xs))) → new ≡ joined mid (flat_among h seen seen (args_of (a ∷ [])))
    → all ≡ joined new (flat_among h behind behind (args_of (drop (i + 1) xs)))
next_argument h seen behind all mid new xs i a lt is m n =
    let whole : drop i xs ≡ a ∷ drop (i + 1) xs = drop_more xs i a lt ∙ ap (λ (x : Arg). x ∷ drop (i + 1) xs) (sym is) in
    m ∙ ap (λ (l : List Arg). joined mid (flat_among h seen behind (args_of l))) whole
    ∙ ap (λ (p : Prog Op). joined mid p) (first_and_rest h seen behind a (drop (i + 1) xs))
    ∙ sym (joined_assoc mid (flat_among h seen seen (args_of (a ∷ []))) (flat_among h behind behind (args_of (drop (i + 1) xs))))
    ∙ ap (λ (p : Prog Op). joined p (flat_among h behind behind (args_of (drop (i + 1) xs)))) (sym n)

pub all_arguments : (h : Homes) (seen behind : Columns) (all new : Prog Op) (xs : List Arg) (i : ℕ) → length xs ≤ i
    → all ≡ joined new (flat_among h seen behind (args_of (drop i xs))) → new ≡ all
all_arguments h seen behind all new xs i past a =
    nothing_added new ∙ sym (a ∙ ap (λ (l : List Arg). joined new (flat_among h seen behind (args_of l))) (drop_all i xs past) ∙ ap (λ (p : Prog Op). joined new p) (among_none h seen behind))

-- every equation
pub ruleset argument_forms = (among_none, among_plain, among_range, among_lambda, among_named, nothing_added)
