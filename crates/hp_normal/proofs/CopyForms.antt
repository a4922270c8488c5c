-- The stencils by the forms of the code's trees, and of lists by their items.
use Rattle.std.proofs.Common.{◌≡◌, ℕ, ◌+◌, ◌<◌, length, get_or, take, ℤ, Bool, List, [], ◌∷◌, ◌++◌, Option, refl, sym, ap, ◌∙◌, append_assoc, append-nil}
use Rattle.std.proofs.lemmas.List.{take_more}
use Rattle.std.specs.Prelude.{Result, OnOk}
use Rattle.std.proofs.lemmas.Result.{on_ok_weaker}
use Rattle.hp_word.specs.declared.name.Name.{Name}
use Rattle.hp_word.specs.declared.place.Place.{Place}
use Rattle.hp_script.specs.declared.tree.UnOp.{UnOp}
use Rattle.hp_script.specs.declared.tree.BinOp.{BinOp}
use Rattle.hp_script.specs.declared.tree.Expr.{Expr}
use Rattle.hp_script.specs.declared.tree.Form.{Form}
use Rattle.hp_script.specs.declared.tree.Form.TheVariants as forms
use Rattle.hp_script.specs.declared.tree.Arg.{Arg}
use Rattle.hp_script.specs.declared.tree.Arg.TheVariants as arg
use Rattle.hp_script.specs.declared.tree.Arg.TheViews as views
use Rattle.hp_script.specs.declared.tree.Stmt.{Stmt}
use Rattle.hp_script.specs.declared.tree.Stmt.TheVariants as stmt
use Rattle.hp_script.specs.declared.tree.Stmt.TheViews as stmts
use Rattle.hp_script.specs.Mirror as mirror
use Rattle.hp_script.specs.Mirror.{Args, Block, head, tree_of, args_of, block_of, form_of, arg_of, stmt_of}
use Rattle.hp_script.proofs.MirrorLemmas.{tree_unary, tree_binary, tree_index, tree_call, block_done, block_choose, block_loop}
use Rattle.hp_normal.specs.Values.{values_among, copy_by, copies_in, copies_among, copies_of}
use Rattle.hp_script.specs.Functions.{function_named}
use Rattle.hp_script.specs.declared.typed.Shape.{Shape}

-- what two calls add one after the other, of which the second may fail
pub added : {T E : Type 0} (r : Result T E) (old mid new first last all : List ℕ) → mid ≡ old ++ first → all ≡ first ++ last → OnOk r (new ≡ mid ++ last) → OnOk r (new ≡ old ++ all)
added r old mid new first last all f h now = on_ok_weaker r (λ e. e ∙ ap (λ (l : List ℕ). l ++ last) f ∙ append_assoc old first last ∙ ap (λ (l : List ℕ). old ++ l) (sym h)) now

pub two_added : (old mid new first last : List ℕ) → mid ≡ old ++ first → new ≡ mid ++ last → new ≡ old ++ (first ++ last)
two_added old mid new first last f l = l ∙ ap (λ (t : List ℕ). t ++ last) f ∙ append_assoc old first last

-- ---- expressions

-- an expression by its form
by_form : (x : Expr) (f : Form) → x.form ≡ f → tree_of x ≡ form_of (head x.id.0 x.at) f
unfolding tree_of
by_form x f e = ap (form_of (head x.id.0 x.at)) e

pub copies_number : (g : List (Option Shape)) (x : Expr) (value : ℤ) → x.form ≡ forms.Number value → copies_in g (tree_of x) ≡ []
unfolding form_of copies_in
copies_number g x value e = ap (copies_in g) (by_form x _ e)

pub copies_truth : (g : List (Option Shape)) (x : Expr) (holds : Bool) → x.form ≡ forms.Truth holds → copies_in g (tree_of x) ≡ []
unfolding form_of copies_in
copies_truth g x holds e = ap (copies_in g) (by_form x _ e)

pub copies_text : (g : List (Option Shape)) (x : Expr) (bytes : Name) → x.form ≡ forms.Text bytes → copies_in g (tree_of x) ≡ []
unfolding form_of copies_in
copies_text g x bytes e = ap (copies_in g) (by_form x _ e)

pub copies_name : (g : List (Option Shape)) (x : Expr) (name : Name) → x.form ≡ forms.Name name → copies_in g (tree_of x) ≡ []
unfolding form_of copies_in
copies_name g x name e = ap (copies_in g) (by_form x _ e)

pub copies_column : (g : List (Option Shape)) (x : Expr) (name : Name) → x.form ≡ forms.Column name → copies_in g (tree_of x) ≡ []
unfolding form_of copies_in
copies_column g x name e = ap (copies_in g) (by_form x _ e)

pub copies_field : (g : List (Option Shape)) (x : Expr) (name of_it : Name) → x.form ≡ forms.Field name of_it → copies_in g (tree_of x) ≡ []
unfolding form_of copies_in
copies_field g x name of_it e = ap (copies_in g) (by_form x _ e)

pub copies_unary : (g : List (Option Shape)) (x : Expr) (op : UnOp) (dotted : Bool) (a : Expr) → x.form ≡ views.Unary op dotted a → copies_in g (tree_of x) ≡ copies_in g (tree_of a)
unfolding tree_of copies_in
copies_unary g x op dotted a e = ap (copies_in g) (by_form x _ e ∙ tree_unary x.id.0 x.at op dotted a)

pub copies_binary : (g : List (Option Shape)) (x : Expr) (op : BinOp) (dotted : Bool) (a b : Expr) → x.form ≡ views.Binary op dotted a b → copies_in g (tree_of x) ≡ copies_in g (tree_of a) ++ copies_in g (tree_of b)
unfolding tree_of copies_in
copies_binary g x op dotted a b e = ap (copies_in g) (by_form x _ e ∙ tree_binary x.id.0 x.at op dotted a b)

pub copies_index : (g : List (Option Shape)) (x : Expr) (a b : Expr) → x.form ≡ views.Index a b → copies_in g (tree_of x) ≡ copies_in g (tree_of a) ++ copies_in g (tree_of b)
unfolding tree_of copies_in
copies_index g x a b e = ap (copies_in g) (by_form x _ e ∙ tree_index x.id.0 x.at a b)

pub copies_call : (g : List (Option Shape)) (x : Expr) (function : Name) (dotted : Bool) (xs : List Arg) → x.form ≡ views.Call function dotted xs
    → copies_in g (tree_of x) ≡ copies_among g (args_of xs) ++ copy_by g x.id.0 dotted (function_named dotted function.bytes) (values_among (args_of xs))
unfolding tree_of copies_in copies_among
copies_call g x function dotted xs e = ap (copies_in g) (by_form x _ e ∙ tree_call x.id.0 x.at function.bytes dotted xs)

-- ---- arguments

pub copies_none : (g : List (Option Shape)) → copies_among g (args_of []) ≡ []
unfolding args_of copies_in copies_among
copies_none g = refl

pub copies_plain : (g : List (Option Shape)) (a : Arg) (x : Expr) → a ≡ views.Plain x → copies_among g (args_of (a ∷ [])) ≡ copies_in g (tree_of x)
unfolding args_of arg_of tree_of copies_in copies_among
copies_plain g a x e = rw e (append-nil _)

pub copies_range : (g : List (Option Shape)) (a : Arg) (x y : Expr) → a ≡ views.Range x y → copies_among g (args_of (a ∷ [])) ≡ copies_in g (tree_of x) ++ copies_in g (tree_of y)
unfolding args_of arg_of tree_of copies_in copies_among
copies_range g a x y e = rw e (append-nil _)

pub copies_lambda : (g : List (Option Shape)) (a : Arg) (parameter : Name) (x : Expr) → a ≡ views.Lambda parameter x → copies_among g (args_of (a ∷ [])) ≡ []
unfolding args_of arg_of tree_of copies_in copies_among
copies_lambda g a parameter x e = rw e refl

pub copies_named : (g : List (Option Shape)) (a : Arg) (name : Name) (at : Place) (x : Expr) → a ≡ views.Named name at x → copies_among g (args_of (a ∷ [])) ≡ copies_in g (tree_of x)
unfolding args_of arg_of tree_of copies_in copies_among
copies_named g a name at x e = rw e (append-nil _)

split_off : (p r : List ℕ) → p ++ r ≡ (p ++ []) ++ r
split_off p r = ap (λ (t : List ℕ). t ++ r) (sym (append-nil p))

-- an argument and those behind it
arg_split : (g : List (Option Shape)) (a : Arg) (rest : Args) → copies_among g (arg_of a rest) ≡ copies_among g (arg_of a mirror.none) ++ copies_among g rest
unfolding arg_of copies_in copies_among
arg_split g (arg.Plain' id at form) rest = split_off _ (copies_among g rest)
arg_split g (arg.Range' id at form last_id last_at last) rest = split_off _ (copies_among g rest)
arg_split g (arg.Lambda' parameter id at form) rest = refl
arg_split g (arg.Named' name place id at form) rest = split_off _ (copies_among g rest)

among_last : (g : List (Option Shape)) (a : Arg) (xs : List Arg) → copies_among g (args_of (xs ++ a ∷ [])) ≡ copies_among g (args_of xs) ++ copies_among g (args_of (a ∷ []))
unfolding args_of copies_in copies_among
among_last g a [] = refl
among_last g a (x ∷ xs) =
    arg_split g x (args_of (xs ++ a ∷ []))
    ∙ ap (λ (t : List ℕ). copies_among g (arg_of x mirror.none) ++ t) (among_last g a xs)
    ∙ sym (append_assoc (copies_among g (arg_of x mirror.none)) (copies_among g (args_of xs)) _)
    ∙ ap (λ (t : List ℕ). t ++ copies_among g (arg_of a mirror.none)) (sym (arg_split g x (args_of xs)))

-- one more argument
pub next_argument : (g : List (Option Shape)) (old mid new : List ℕ) (xs : List Arg) (i : ℕ) (a : Arg) → i < length xs → a ≡ get_or xs i a
    → mid ≡ old ++ copies_among g (args_of (take i xs)) → new ≡ mid ++ copies_among g (args_of (a ∷ [])) → new ≡ old ++ copies_among g (args_of (take (i + 1) xs))
next_argument g old mid new xs i a lt is m n =
    let whole : take (i + 1) xs ≡ take i xs ++ a ∷ [] = take_more xs i a lt ∙ ap (λ (x : Arg). take i xs ++ x ∷ []) (sym is) in
    rw (n, m, whole, among_last g a (take i xs)) (append_assoc old _ _)

-- every equation
pub ruleset expression_copies = (copies_number, copies_truth, copies_text, copies_name, copies_column, copies_field, copies_unary, copies_binary, copies_index, copies_call, copies_none, copies_plain, copies_range, copies_lambda, copies_named, append-nil)

-- ---- statements

pub no_statements : (g : List (Option Shape)) → copies_of g (block_of []) ≡ []
unfolding block_of copies_of
no_statements g = refl

pub copies_assign : (g : List (Option Shape)) (s : Stmt) (at : Place) (name : Name) (x : Expr) → s ≡ stmt.Assign at name x → copies_of g (block_of (s ∷ [])) ≡ copies_in g (tree_of x)
unfolding block_of stmt_of copies_of
copies_assign g s at name x e = rw e (append-nil _)

pub copies_print : (g : List (Option Shape)) (s : Stmt) (at : Place) (x : Expr) → s ≡ stmt.Print at x → copies_of g (block_of (s ∷ [])) ≡ copies_in g (tree_of x)
unfolding block_of stmt_of copies_of
copies_print g s at x e = rw e (append-nil _)

pub copies_export : (g : List (Option Shape)) (s : Stmt) (at : Place) (x : Expr) → s ≡ stmt.Export at x → copies_of g (block_of (s ∷ [])) ≡ copies_in g (tree_of x)
unfolding block_of stmt_of copies_of
copies_export g s at x e = rw e (append-nil _)

pub copies_choose : (g : List (Option Shape)) (s : Stmt) (at : Place) (test : Expr) (body other : List Stmt) → s ≡ stmts.If at test body other
    → copies_of g (block_of (s ∷ [])) ≡ (copies_in g (tree_of test) ++ copies_of g (block_of body)) ++ copies_of g (block_of other)
unfolding copies_of
copies_choose g s at test body other e = rw (e, block_choose at test body other [], block_done) (append-nil _)

pub copies_loop : (g : List (Option Shape)) (s : Stmt) (at : Place) (test : Expr) (body : List Stmt) → s ≡ stmts.While at test body
    → copies_of g (block_of (s ∷ [])) ≡ copies_in g (tree_of test) ++ copies_of g (block_of body)
unfolding copies_of
copies_loop g s at test body e = rw (e, block_loop at test body [], block_done) (append-nil _)

-- a statement and those behind it
stmt_split : (g : List (Option Shape)) (s : Stmt) (rest : Block) → copies_of g (stmt_of s rest) ≡ copies_of g (stmt_of s mirror.done) ++ copies_of g rest
unfolding stmt_of copies_of
stmt_split g (stmt.Assign at name x) rest = split_off _ (copies_of g rest)
stmt_split g (stmt.Print at x) rest = split_off _ (copies_of g rest)
stmt_split g (stmt.Export at x) rest = split_off _ (copies_of g rest)
stmt_split g (stmt.If' at test p body q other) rest = split_off _ (copies_of g rest)
stmt_split g (stmt.While' at test p body) rest = split_off _ (copies_of g rest)

block_last : (g : List (Option Shape)) (s : Stmt) (body : List Stmt) → copies_of g (block_of (body ++ s ∷ [])) ≡ copies_of g (block_of body) ++ copies_of g (block_of (s ∷ []))
unfolding block_of copies_of
block_last g s [] = refl
block_last g s (x ∷ body) =
    stmt_split g x (block_of (body ++ s ∷ []))
    ∙ ap (λ (t : List ℕ). copies_of g (stmt_of x mirror.done) ++ t) (block_last g s body)
    ∙ sym (append_assoc (copies_of g (stmt_of x mirror.done)) (copies_of g (block_of body)) _)
    ∙ ap (λ (t : List ℕ). t ++ copies_of g (stmt_of s mirror.done)) (sym (stmt_split g x (block_of body)))

-- one more statement
pub next_statement : (g : List (Option Shape)) (old mid new : List ℕ) (body : List Stmt) (i : ℕ) (s : Stmt) → i < length body → s ≡ get_or body i s
    → mid ≡ old ++ copies_of g (block_of (take i body)) → new ≡ mid ++ copies_of g (block_of (s ∷ [])) → new ≡ old ++ copies_of g (block_of (take (i + 1) body))
next_statement g old mid new body i s lt is m n =
    let whole : take (i + 1) body ≡ take i body ++ s ∷ [] = take_more body i s lt ∙ ap (λ (x : Stmt). take i body ++ x ∷ []) (sym is) in
    rw (n, m, whole, block_last g s (take i body)) (append_assoc old _ _)

-- every equation
pub ruleset statement_copies = (no_statements, copies_assign, copies_print, copies_export, copies_choose, copies_loop, append-nil)
