-- What is not built, by the forms of the code's trees, and of lists by their items.
use Rattle.std.proofs.Common.{◌≡◌, ℕ, ◌+◌, ◌<◌, length, get_or, take, ℤ, Bool, List, [], ◌∷◌, ◌++◌, Option, Some, None, refl, sym, ap, ◌∙◌, append_assoc, append-nil}
use Rattle.std.proofs.lemmas.List.{take_more}
use Rattle.hp_word.specs.declared.name.Name.{Name}
use Rattle.hp_word.specs.declared.place.Place.{Place}
use Rattle.hp_script.specs.declared.tree.UnOp.{UnOp}
use Rattle.hp_script.specs.declared.tree.BinOp.{BinOp}
use Rattle.hp_script.specs.declared.tree.Expr.{Expr}
use Rattle.hp_script.specs.declared.tree.Form.{Form}
use Rattle.hp_script.specs.declared.tree.Form.TheVariants as forms
use Rattle.hp_script.specs.declared.tree.Arg.{Arg}
use Rattle.hp_script.specs.declared.tree.Arg.TheVariants as arg
use Rattle.hp_script.specs.declared.tree.Arg.TheViews as views
use Rattle.hp_script.specs.declared.tree.Stmt.{Stmt}
use Rattle.hp_script.specs.declared.tree.Stmt.TheVariants as stmt
use Rattle.hp_script.specs.declared.tree.Stmt.TheViews as stmts
use Rattle.hp_script.specs.declared.typed.Shape.{Shape}
use Rattle.hp_script.specs.Mirror as mirror
use Rattle.hp_script.specs.Mirror.{Tree, Args, Block, head, tree_of, args_of, block_of, form_of, arg_of, stmt_of}
use Rattle.hp_script.proofs.PrintLemmas.{by_form}
use Rattle.hp_script.proofs.MirrorLemmas.{tree_unary, tree_binary, tree_index, tree_call, block_done, block_choose, block_loop}
use Rattle.hp_built.specs.declared.construct.Construct.TheVariants as construct
use Rattle.hp_built.specs.Constructs.{shape_at, construct_of, assigned_construct, printed_construct}
use Rattle.hp_built.specs.Unbuilt.{Built, earlier, least, place_unless, unbuilt_in, unbuilt_among, unbuilt_of, statement_places}
use Rattle.hp_built.proofs.FormConstructs.{tree_number}
use Rattle.hp_built.proofs.LeastPlaces.{least_joined}

-- ---- expressions

-- the place of an expression's own construct
abbrev pub own : Built → List (Option Shape) → Tree → Place → Option Place
own built shapes x at = least (place_unless built at (construct_of shapes x))

pub least_leaf : (built : Built) (shapes : List (Option Shape)) (x : Expr) (f : Form) → x.form ≡ f → (unbuilt_in built shapes (form_of (head x.id.0 x.at) f) ≡ place_unless built x.at (construct_of shapes (form_of (head x.id.0 x.at) f)))
    → own built shapes (tree_of x) x.at ≡ least (unbuilt_in built shapes (tree_of x))
least_leaf built shapes x f e leaf = rw (by_form x f e, leaf) refl

pub least_number : (built : Built) (shapes : List (Option Shape)) (x : Expr) (value : ℤ) → x.form ≡ forms.Number value → own built shapes (tree_of x) x.at ≡ least (unbuilt_in built shapes (tree_of x))
unfolding form_of unbuilt_in
least_number built shapes x value e = least_leaf built shapes x _ e refl

pub least_truth : (built : Built) (shapes : List (Option Shape)) (x : Expr) (holds : Bool) → x.form ≡ forms.Truth holds → own built shapes (tree_of x) x.at ≡ least (unbuilt_in built shapes (tree_of x))
unfolding form_of unbuilt_in
least_truth built shapes x holds e = least_leaf built shapes x _ e refl

pub least_text : (built : Built) (shapes : List (Option Shape)) (x : Expr) (bytes : Name) → x.form ≡ forms.Text bytes → own built shapes (tree_of x) x.at ≡ least (unbuilt_in built shapes (tree_of x))
unfolding form_of unbuilt_in
least_text built shapes x bytes e = least_leaf built shapes x _ e refl

pub least_name : (built : Built) (shapes : List (Option Shape)) (x : Expr) (name : Name) → x.form ≡ forms.Name name → own built shapes (tree_of x) x.at ≡ least (unbuilt_in built shapes (tree_of x))
unfolding form_of unbuilt_in
least_name built shapes x name e = least_leaf built shapes x _ e refl

pub least_column : (built : Built) (shapes : List (Option Shape)) (x : Expr) (name : Name) → x.form ≡ forms.Column name → own built shapes (tree_of x) x.at ≡ least (unbuilt_in built shapes (tree_of x))
unfolding form_of unbuilt_in
least_column built shapes x name e = least_leaf built shapes x _ e refl

pub least_field : (built : Built) (shapes : List (Option Shape)) (x : Expr) (name of_it : Name) → x.form ≡ forms.Field name of_it → own built shapes (tree_of x) x.at ≡ least (unbuilt_in built shapes (tree_of x))
unfolding form_of unbuilt_in
least_field built shapes x name of_it e = least_leaf built shapes x _ e refl

-- behind its own place, those of its parts
pub least_unary : (built : Built) (shapes : List (Option Shape)) (x : Expr) (op : UnOp) (dotted : Bool) (a : Expr) → x.form ≡ views.Unary op dotted a
    → earlier (own built shapes (tree_of x) x.at) (least (unbuilt_in built shapes (tree_of a))) ≡ least (unbuilt_in built shapes (tree_of x))
unfolding tree_of unbuilt_in
least_unary built shapes x op dotted a e = rw (by_form x _ e, tree_unary x.id.0 x.at op dotted a) (sym (least_joined _ _))

pub least_binary : (built : Built) (shapes : List (Option Shape)) (x : Expr) (op : BinOp) (dotted : Bool) (a b : Expr) → x.form ≡ views.Binary op dotted a b
    → earlier (own built shapes (tree_of x) x.at) (earlier (least (unbuilt_in built shapes (tree_of a))) (least (unbuilt_in built shapes (tree_of b)))) ≡ least (unbuilt_in built shapes (tree_of x))
unfolding tree_of unbuilt_in
least_binary built shapes x op dotted a b e = rw (by_form x _ e, tree_binary x.id.0 x.at op dotted a b) (ap (earlier _) (sym (least_joined _ _)) ∙ sym (least_joined _ _))

pub least_index : (built : Built) (shapes : List (Option Shape)) (x : Expr) (a b : Expr) → x.form ≡ views.Index a b
    → earlier (own built shapes (tree_of x) x.at) (earlier (least (unbuilt_in built shapes (tree_of a))) (least (unbuilt_in built shapes (tree_of b)))) ≡ least (unbuilt_in built shapes (tree_of x))
unfolding tree_of unbuilt_in
least_index built shapes x a b e = rw (by_form x _ e, tree_index x.id.0 x.at a b) (ap (earlier _) (sym (least_joined _ _)) ∙ sym (least_joined _ _))

pub least_call : (built : Built) (shapes : List (Option Shape)) (x : Expr) (function : Name) (dotted : Bool) (xs : List Arg) → x.form ≡ views.Call function dotted xs
    → earlier (own built shapes (tree_of x) x.at) (least (unbuilt_among built shapes (args_of xs))) ≡ least (unbuilt_in built shapes (tree_of x))
unfolding tree_of unbuilt_in
least_call built shapes x function dotted xs e = rw (by_form x _ e, tree_call x.id.0 x.at function.bytes dotted xs) (sym (least_joined _ _))

-- ---- arguments

pub least_none : (built : Built) (shapes : List (Option Shape)) → None ≡ least (unbuilt_among built shapes (args_of []))
unfolding args_of unbuilt_in unbuilt_among least
least_none built shapes = refl

pub least_plain : (built : Built) (shapes : List (Option Shape)) (a : Arg) (x : Expr) → a ≡ views.Plain x → least (unbuilt_in built shapes (tree_of x)) ≡ least (unbuilt_among built shapes (args_of (a ∷ [])))
unfolding args_of arg_of tree_of unbuilt_in unbuilt_among
least_plain built shapes a x e = rw e (ap least (sym (append-nil _)))

pub least_range : (built : Built) (shapes : List (Option Shape)) (a : Arg) (x y : Expr) → a ≡ views.Range x y
    → earlier (least (unbuilt_in built shapes (tree_of x))) (least (unbuilt_in built shapes (tree_of y))) ≡ least (unbuilt_among built shapes (args_of (a ∷ [])))
unfolding args_of arg_of tree_of unbuilt_in unbuilt_among
least_range built shapes a x y e = rw e (sym (least_joined _ _) ∙ ap least (sym (append-nil _)))

pub least_lambda : (built : Built) (shapes : List (Option Shape)) (a : Arg) (parameter : Name) (x : Expr) → a ≡ views.Lambda parameter x → least (unbuilt_in built shapes (tree_of x)) ≡ least (unbuilt_among built shapes (args_of (a ∷ [])))
unfolding args_of arg_of tree_of unbuilt_in unbuilt_among
least_lambda built shapes a parameter x e = rw e (ap least (sym (append-nil _)))

pub least_named : (built : Built) (shapes : List (Option Shape)) (a : Arg) (name : Name) (at : Place) (x : Expr) → a ≡ views.Named name at x → least (unbuilt_in built shapes (tree_of x)) ≡ least (unbuilt_among built shapes (args_of (a ∷ [])))
unfolding args_of arg_of tree_of unbuilt_in unbuilt_among
least_named built shapes a name at x e = rw e (ap least (sym (append-nil _)))

split_off : (p r : List Place) → p ++ r ≡ (p ++ []) ++ r
split_off p r = ap (λ (t : List Place). t ++ r) (sym (append-nil p))

-- an argument and those behind it
arg_split : (built : Built) (shapes : List (Option Shape)) (a : Arg) (rest : Args) → unbuilt_among built shapes (arg_of a rest) ≡ unbuilt_among built shapes (arg_of a mirror.none) ++ unbuilt_among built shapes rest
unfolding arg_of unbuilt_in unbuilt_among
arg_split built shapes (arg.Plain' id at form) rest = split_off _ (unbuilt_among built shapes rest)
arg_split built shapes (arg.Range' id at form last_id last_at last) rest = split_off _ (unbuilt_among built shapes rest)
arg_split built shapes (arg.Lambda' parameter id at form) rest = split_off _ (unbuilt_among built shapes rest)
arg_split built shapes (arg.Named' name place id at form) rest = split_off _ (unbuilt_among built shapes rest)

among_last : (built : Built) (shapes : List (Option Shape)) (a : Arg) (xs : List Arg)
    → unbuilt_among built shapes (args_of (xs ++ a ∷ [])) ≡ unbuilt_among built shapes (args_of xs) ++ unbuilt_among built shapes (args_of (a ∷ []))
unfolding args_of unbuilt_in unbuilt_among
among_last built shapes a [] = refl
among_last built shapes a (x ∷ xs) =
    arg_split built shapes x (args_of (xs ++ a ∷ []))
    ∙ ap (λ (t : List Place). unbuilt_among built shapes (arg_of x mirror.none) ++ t) (among_last built shapes a xs)
    ∙ sym (append_assoc (unbuilt_among built shapes (arg_of x mirror.none)) (unbuilt_among built shapes (args_of xs)) _)
    ∙ ap (λ (t : List Place). t ++ unbuilt_among built shapes (arg_of a mirror.none)) (sym (arg_split built shapes x (args_of xs)))

-- one more argument
pub next_argument : (built : Built) (shapes : List (Option Shape)) (found : Option Place) (xs : List Arg) (i : ℕ) (a : Arg) → i < length xs → a ≡ get_or xs i a
    → found ≡ least (unbuilt_among built shapes (args_of (take i xs)))
    → earlier found (least (unbuilt_among built shapes (args_of (a ∷ [])))) ≡ least (unbuilt_among built shapes (args_of (take (i + 1) xs)))
next_argument built shapes found xs i a lt is m =
    let whole : take (i + 1) xs ≡ take i xs ++ a ∷ [] = take_more xs i a lt ∙ ap (λ (x : Arg). take i xs ++ x ∷ []) (sym is) in
    rw (m, whole, among_last built shapes a (take i xs)) (sym (least_joined _ _))

-- every equation
pub ruleset expression_places = (least_number, least_truth, least_text, least_name, least_column, least_field, least_unary, least_binary, least_index, least_call, least_none, least_plain, least_range, least_lambda, least_named)

-- ---- statements

pub least_done : (built : Built) (shapes : List (Option Shape)) → None ≡ least (unbuilt_of built shapes (block_of []))
unfolding block_of unbuilt_of least
least_done built shapes = refl

pub least_assign : (built : Built) (shapes : List (Option Shape)) (s : Stmt) (at : Place) (name : Name) (x : Expr) → s ≡ stmt.Assign at name x
    → least (statement_places built shapes at (assigned_construct (shape_at shapes x.id.0)) (tree_of x)) ≡ least (unbuilt_of built shapes (block_of (s ∷ [])))
unfolding block_of stmt_of unbuilt_of
least_assign built shapes s at name x e = rw e (ap (λ (k : ℕ). least (statement_places built shapes at (assigned_construct (shape_at shapes k)) (tree_of x))) (sym (tree_number x)) ∙ ap least (sym (append-nil _)))

pub least_print : (built : Built) (shapes : List (Option Shape)) (s : Stmt) (at : Place) (x : Expr) → s ≡ stmt.Print at x
    → least (statement_places built shapes at (printed_construct (shape_at shapes x.id.0)) (tree_of x)) ≡ least (unbuilt_of built shapes (block_of (s ∷ [])))
unfolding block_of stmt_of unbuilt_of
least_print built shapes s at x e = rw e (ap (λ (k : ℕ). least (statement_places built shapes at (printed_construct (shape_at shapes k)) (tree_of x))) (sym (tree_number x)) ∙ ap least (sym (append-nil _)))

pub least_export : (built : Built) (shapes : List (Option Shape)) (s : Stmt) (at : Place) (x : Expr) → s ≡ stmt.Export at x
    → least (statement_places built shapes at (Some construct.Export) (tree_of x)) ≡ least (unbuilt_of built shapes (block_of (s ∷ [])))
unfolding block_of stmt_of unbuilt_of
least_export built shapes s at x e = rw e (ap least (sym (append-nil _)))

pub least_choose : (built : Built) (shapes : List (Option Shape)) (s : Stmt) (at : Place) (test : Expr) (body other : List Stmt) → s ≡ stmts.If at test body other
    → earlier (least (statement_places built shapes at (Some construct.If) (tree_of test))) (earlier (least (unbuilt_of built shapes (block_of body))) (least (unbuilt_of built shapes (block_of other))))
    ≡ least (unbuilt_of built shapes (block_of (s ∷ [])))
unfolding unbuilt_of
least_choose built shapes s at test body other e =
    rw (e, block_choose at test body other [], block_done) (ap (earlier _) (sym (least_joined _ _)) ∙ sym (least_joined _ _) ∙ ap least (sym (append-nil _)))

pub least_loop : (built : Built) (shapes : List (Option Shape)) (s : Stmt) (at : Place) (test : Expr) (body : List Stmt) → s ≡ stmts.While at test body
    → earlier (least (statement_places built shapes at (Some construct.While) (tree_of test))) (least (unbuilt_of built shapes (block_of body))) ≡ least (unbuilt_of built shapes (block_of (s ∷ [])))
unfolding unbuilt_of
least_loop built shapes s at test body e = rw (e, block_loop at test body [], block_done) (sym (least_joined _ _) ∙ ap least (sym (append-nil _)))

-- a statement and those behind it
stmt_split : (built : Built) (shapes : List (Option Shape)) (s : Stmt) (rest : Block) → unbuilt_of built shapes (stmt_of s rest) ≡ unbuilt_of built shapes (stmt_of s mirror.done) ++ unbuilt_of built shapes rest
unfolding stmt_of unbuilt_of
stmt_split built shapes (stmt.Assign at name x) rest = split_off _ (unbuilt_of built shapes rest)
stmt_split built shapes (stmt.Print at x) rest = split_off _ (unbuilt_of built shapes rest)
stmt_split built shapes (stmt.Export at x) rest = split_off _ (unbuilt_of built shapes rest)
stmt_split built shapes (stmt.If' at test p body q other) rest = split_off _ (unbuilt_of built shapes rest)
stmt_split built shapes (stmt.While' at test p body) rest = split_off _ (unbuilt_of built shapes rest)

block_last : (built : Built) (shapes : List (Option Shape)) (s : Stmt) (body : List Stmt)
    → unbuilt_of built shapes (block_of (body ++ s ∷ [])) ≡ unbuilt_of built shapes (block_of body) ++ unbuilt_of built shapes (block_of (s ∷ []))
unfolding block_of unbuilt_of
block_last built shapes s [] = refl
block_last built shapes s (x ∷ body) =
    stmt_split built shapes x (block_of (body ++ s ∷ []))
    ∙ ap (λ (t : List Place). unbuilt_of built shapes (stmt_of x mirror.done) ++ t) (block_last built shapes s body)
    ∙ sym (append_assoc (unbuilt_of built shapes (stmt_of x mirror.done)) (unbuilt_of built shapes (block_of body)) _)
    ∙ ap (λ (t : List Place). t ++ unbuilt_of built shapes (stmt_of s mirror.done)) (sym (stmt_split built shapes x (block_of body)))

-- one more statement
pub next_statement : (built : Built) (shapes : List (Option Shape)) (found : Option Place) (body : List Stmt) (i : ℕ) (s : Stmt) → i < length body → s ≡ get_or body i s
    → found ≡ least (unbuilt_of built shapes (block_of (take i body)))
    → earlier found (least (unbuilt_of built shapes (block_of (s ∷ [])))) ≡ least (unbuilt_of built shapes (block_of (take (i + 1) body)))
next_statement built shapes found body i s lt is m =
    let whole : take (i + 1) body ≡ take i body ++ s ∷ [] = take_more body i s lt ∙ ap (λ (x : Stmt). take i body ++ x ∷ []) (sym is) in
    rw (m, whole, block_last built shapes s (take i body)) (sym (least_joined _ _))

-- every equation
pub ruleset block_places = (least_done, least_assign, least_print, least_export, least_choose, least_loop)
