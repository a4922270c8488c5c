-- The calls of `read_csv` by the forms of the code's trees, and of lists by their items.
use Rattle.std.proofs.Common.{◌≡◌, ℕ, ◌+◌, ◌<◌, length, get_or, take, ℤ, Bool, List, [], ◌∷◌, ◌++◌, if◌then◌else◌, refl, sym, ap, ◌∙◌, append_assoc, append-nil}
use Rattle.std.proofs.lemmas.List.{take_more}
use Rattle.std.specs.Prelude.{Result, OnOk}
use Rattle.std.proofs.lemmas.Result.{on_ok_weaker}
use Rattle.hp_word.specs.declared.name.Name.{Name}
use Rattle.hp_word.specs.declared.place.Place.{Place}
use Rattle.hp_script.specs.declared.tree.UnOp.{UnOp}
use Rattle.hp_script.specs.declared.tree.BinOp.{BinOp}
use Rattle.hp_script.specs.declared.tree.Expr.{Expr}
use Rattle.hp_script.specs.declared.tree.Form.{Form}
use Rattle.hp_script.specs.declared.tree.Form.TheVariants as forms
use Rattle.hp_script.specs.declared.tree.Arg.{Arg}
use Rattle.hp_script.specs.declared.tree.Arg.TheVariants as arg
use Rattle.hp_script.specs.declared.tree.Arg.TheViews as views
use Rattle.hp_script.specs.declared.tree.Stmt.{Stmt}
use Rattle.hp_script.specs.declared.tree.Stmt.TheVariants as stmt
use Rattle.hp_script.specs.declared.tree.Stmt.TheViews as stmts
use Rattle.hp_script.specs.Mirror as mirror
use Rattle.hp_script.specs.Mirror.{Args, Block, head, tree_of, args_of, block_of, form_of, arg_of, stmt_of}
use Rattle.hp_script.proofs.MirrorLemmas.{tree_unary, tree_binary, tree_index, tree_call, block_done, block_choose, block_loop}
use Rattle.hp_meaning.specs.ReadCalls.{is_read, reads_in, reads_among, reads_of}

-- what two calls add one after the other, of which the second may fail
pub added : {T E : Type 0} (r : Result T E) (old mid new first last all : List ℕ) → mid ≡ old ++ first → all ≡ first ++ last → OnOk r (new ≡ mid ++ last) → OnOk r (new ≡ old ++ all)
added r old mid new first last all f h now = on_ok_weaker r (λ e. e ∙ ap (λ (l : List ℕ). l ++ last) f ∙ append_assoc old first last ∙ ap (λ (l : List ℕ). old ++ l) (sym h)) now

pub two_added : (old mid new first last : List ℕ) → mid ≡ old ++ first → new ≡ mid ++ last → new ≡ old ++ (first ++ last)
two_added old mid new first last f l = l ∙ ap (λ (t : List ℕ). t ++ last) f ∙ append_assoc old first last

-- ---- expressions

-- an expression by its form
by_form : (x : Expr) (f : Form) → x.form ≡ f → tree_of x ≡ form_of (head x.id.0 x.at) f
unfolding tree_of
by_form x f e = ap (form_of (head x.id.0 x.at)) e

pub reads_number : (x : Expr) (value : ℤ) → x.form ≡ forms.Number value → reads_in (tree_of x) ≡ []
unfolding form_of reads_in
reads_number x value e = ap reads_in (by_form x _ e)

pub reads_truth : (x : Expr) (holds : Bool) → x.form ≡ forms.Truth holds → reads_in (tree_of x) ≡ []
unfolding form_of reads_in
reads_truth x holds e = ap reads_in (by_form x _ e)

pub reads_text : (x : Expr) (bytes : Name) → x.form ≡ forms.Text bytes → reads_in (tree_of x) ≡ []
unfolding form_of reads_in
reads_text x bytes e = ap reads_in (by_form x _ e)

pub reads_name : (x : Expr) (name : Name) → x.form ≡ forms.Name name → reads_in (tree_of x) ≡ []
unfolding form_of reads_in
reads_name x name e = ap reads_in (by_form x _ e)

pub reads_column : (x : Expr) (name : Name) → x.form ≡ forms.Column name → reads_in (tree_of x) ≡ []
unfolding form_of reads_in
reads_column x name e = ap reads_in (by_form x _ e)

pub reads_field : (x : Expr) (name of_it : Name) → x.form ≡ forms.Field name of_it → reads_in (tree_of x) ≡ []
unfolding form_of reads_in
reads_field x name of_it e = ap reads_in (by_form x _ e)

pub reads_unary : (x : Expr) (op : UnOp) (dotted : Bool) (a : Expr) → x.form ≡ views.Unary op dotted a → reads_in (tree_of x) ≡ reads_in (tree_of a)
unfolding tree_of reads_in
reads_unary x op dotted a e = ap reads_in (by_form x _ e ∙ tree_unary x.id.0 x.at op dotted a)

pub reads_binary : (x : Expr) (op : BinOp) (dotted : Bool) (a b : Expr) → x.form ≡ views.Binary op dotted a b → reads_in (tree_of x) ≡ reads_in (tree_of a) ++ reads_in (tree_of b)
unfolding tree_of reads_in
reads_binary x op dotted a b e = ap reads_in (by_form x _ e ∙ tree_binary x.id.0 x.at op dotted a b)

pub reads_index : (x : Expr) (a b : Expr) → x.form ≡ views.Index a b → reads_in (tree_of x) ≡ reads_in (tree_of a) ++ reads_in (tree_of b)
unfolding tree_of reads_in
reads_index x a b e = ap reads_in (by_form x _ e ∙ tree_index x.id.0 x.at a b)

pub reads_call : (x : Expr) (function : Name) (dotted : Bool) (xs : List Arg) → x.form ≡ views.Call function dotted xs
    → reads_in (tree_of x) ≡ (if is_read function.bytes dotted then x.id.0 ∷ [] else []) ++ reads_among (args_of xs)
unfolding tree_of reads_in reads_among
reads_call x function dotted xs e = ap reads_in (by_form x _ e ∙ tree_call x.id.0 x.at function.bytes dotted xs)

-- ---- arguments

pub reads_none : reads_among (args_of []) ≡ []
unfolding args_of reads_in reads_among
reads_none = refl

pub reads_plain : (a : Arg) (x : Expr) → a ≡ views.Plain x → reads_among (args_of (a ∷ [])) ≡ reads_in (tree_of x)
unfolding args_of arg_of tree_of reads_in reads_among
reads_plain a x e = rw e (append-nil _)

pub reads_range : (a : Arg) (x y : Expr) → a ≡ views.Range x y → reads_among (args_of (a ∷ [])) ≡ reads_in (tree_of x) ++ reads_in (tree_of y)
unfolding args_of arg_of tree_of reads_in reads_among
reads_range a x y e = rw e (append-nil _)

pub reads_lambda : (a : Arg) (parameter : Name) (x : Expr) → a ≡ views.Lambda parameter x → reads_among (args_of (a ∷ [])) ≡ []
unfolding args_of arg_of tree_of reads_in reads_among
reads_lambda a parameter x e = rw e refl

pub reads_named : (a : Arg) (name : Name) (at : Place) (x : Expr) → a ≡ views.Named name at x → reads_among (args_of (a ∷ [])) ≡ reads_in (tree_of x)
unfolding args_of arg_of tree_of reads_in reads_among
reads_named a name at x e = rw e (append-nil _)

split_off : (p r : List ℕ) → p ++ r ≡ (p ++ []) ++ r
split_off p r = ap (λ (t : List ℕ). t ++ r) (sym (append-nil p))

-- an argument and those behind it
arg_split : (a : Arg) (rest : Args) → reads_among (arg_of a rest) ≡ reads_among (arg_of a mirror.none) ++ reads_among rest
unfolding arg_of reads_in reads_among
arg_split (arg.Plain' id at form) rest = split_off _ (reads_among rest)
arg_split (arg.Range' id at form last_id last_at last) rest = split_off _ (reads_among rest)
arg_split (arg.Lambda' parameter id at form) rest = refl
arg_split (arg.Named' name place id at form) rest = split_off _ (reads_among rest)

among_last : (a : Arg) (xs : List Arg) → reads_among (args_of (xs ++ a ∷ [])) ≡ reads_among (args_of xs) ++ reads_among (args_of (a ∷ []))
unfolding args_of reads_in reads_among
among_last a [] = refl
among_last a (x ∷ xs) =
    arg_split x (args_of (xs ++ a ∷ []))
    ∙ ap (λ (t : List ℕ). reads_among (arg_of x mirror.none) ++ t) (among_last a xs)
    ∙ sym (append_assoc (reads_among (arg_of x mirror.none)) (reads_among (args_of xs)) _)
    ∙ ap (λ (t : List ℕ). t ++ reads_among (arg_of a mirror.none)) (sym (arg_split x (args_of xs)))

-- one more argument
pub next_argument : (old mid new : List ℕ) (xs : List Arg) (i : ℕ) (a : Arg) → i < length xs → a ≡ get_or xs i a
    → mid ≡ old ++ reads_among (args_of (take i xs)) → new ≡ mid ++ reads_among (args_of (a ∷ [])) → new ≡ old ++ reads_among (args_of (take (i + 1) xs))
next_argument old mid new xs i a lt is m n =
    let whole : take (i + 1) xs ≡ take i xs ++ a ∷ [] = take_more xs i a lt ∙ ap (λ (x : Arg). take i xs ++ x ∷ []) (sym is) in
    rw (n, m, whole, among_last a (take i xs)) (append_assoc old _ _)

-- every equation
pub ruleset expression_reads = (reads_number, reads_truth, reads_text, reads_name, reads_column, reads_field, reads_unary, reads_binary, reads_index, reads_call, reads_none, reads_plain, reads_range, reads_lambda, reads_named, append-nil)

-- ---- statements

pub no_statements : reads_of (block_of []) ≡ []
unfolding block_of reads_of
no_statements = refl

pub reads_assign : (s : Stmt) (at : Place) (name : Name) (x : Expr) → s ≡ stmt.Assign at name x → reads_of (block_of (s ∷ [])) ≡ reads_in (tree_of x)
unfolding block_of stmt_of reads_of
reads_assign s at name x e = rw e (append-nil _)

pub reads_print : (s : Stmt) (at : Place) (x : Expr) → s ≡ stmt.Print at x → reads_of (block_of (s ∷ [])) ≡ reads_in (tree_of x)
unfolding block_of stmt_of reads_of
reads_print s at x e = rw e (append-nil _)

pub reads_export : (s : Stmt) (at : Place) (x : Expr) → s ≡ stmt.Export at x → reads_of (block_of (s ∷ [])) ≡ reads_in (tree_of x)
unfolding block_of stmt_of reads_of
reads_export s at x e = rw e (append-nil _)

pub reads_choose : (s : Stmt) (at : Place) (test : Expr) (body other : List Stmt) → s ≡ stmts.If at test body other
    → reads_of (block_of (s ∷ [])) ≡ (reads_in (tree_of test) ++ reads_of (block_of body)) ++ reads_of (block_of other)
unfolding reads_of
reads_choose s at test body other e = rw (e, block_choose at test body other [], block_done) (append-nil _ ∙ sym (append_assoc (reads_in (tree_of test)) (reads_of (block_of body)) (reads_of (block_of other))))

pub reads_loop : (s : Stmt) (at : Place) (test : Expr) (body : List Stmt) → s ≡ stmts.While at test body
    → reads_of (block_of (s ∷ [])) ≡ reads_in (tree_of test) ++ reads_of (block_of body)
unfolding reads_of
reads_loop s at test body e = rw (e, block_loop at test body [], block_done) (append-nil _)

-- a statement and those behind it
stmt_split : (s : Stmt) (rest : Block) → reads_of (stmt_of s rest) ≡ reads_of (stmt_of s mirror.done) ++ reads_of rest
unfolding stmt_of reads_of
stmt_split (stmt.Assign at name x) rest = split_off _ (reads_of rest)
stmt_split (stmt.Print at x) rest = split_off _ (reads_of rest)
stmt_split (stmt.Export at x) rest = split_off _ (reads_of rest)
stmt_split (stmt.If' at test p body q other) rest = split_off _ (reads_of rest)
stmt_split (stmt.While' at test p body) rest = split_off _ (reads_of rest)

block_last : (s : Stmt) (body : List Stmt) → reads_of (block_of (body ++ s ∷ [])) ≡ reads_of (block_of body) ++ reads_of (block_of (s ∷ []))
unfolding block_of reads_of
block_last s [] = refl
block_last s (x ∷ body) =
    stmt_split x (block_of (body ++ s ∷ []))
    ∙ ap (λ (t : List ℕ). reads_of (stmt_of x mirror.done) ++ t) (block_last s body)
    ∙ sym (append_assoc (reads_of (stmt_of x mirror.done)) (reads_of (block_of body)) _)
    ∙ ap (λ (t : List ℕ). t ++ reads_of (stmt_of s mirror.done)) (sym (stmt_split x (block_of body)))

-- one more statement
pub next_statement : (old mid new : List ℕ) (body : List Stmt) (i : ℕ) (s : Stmt) → i < length body → s ≡ get_or body i s
    → mid ≡ old ++ reads_of (block_of (take i body)) → new ≡ mid ++ reads_of (block_of (s ∷ [])) → new ≡ old ++ reads_of (block_of (take (i + 1) body))
next_statement old mid new body i s lt is m n =
    let whole : take (i + 1) body ≡ take i body ++ s ∷ [] = take_more body i s lt ∙ ap (λ (x : Stmt). take i body ++ x ∷ []) (sym is) in
    rw (n, m, whole, block_last s (take i body)) (append_assoc old _ _)

-- every equation
pub ruleset statement_reads = (no_statements, reads_assign, reads_print, reads_export, reads_choose, reads_loop, append-nil)
