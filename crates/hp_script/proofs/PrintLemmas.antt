-- The canonical text by the forms of the code's trees, and of lists by their items.
use Rattle.std.proofs.Common.{◌≡◌, ℕ, suc, ◌+◌, ◌≤◌, ◌<◌, length, get_or, take, ℤ, Bool, true, false, List, [], ◌∷◌, ◌++◌, if◌then◌else◌, refl, sym, ap, ◌∙◌, append_assoc, append-nil, arith}
use Rattle.std.specs.Prelude.{codes, Result, OnOk, ◌==◌}
use Rattle.std.proofs.lemmas.Result.{on_ok_weaker}
use Rattle.std.proofs.lemmas.List.{take_more, length-take-le}
use Rattle.std.specs.Fmt.{signed_decimal}
use Rattle.hp_word.specs.declared.name.Name.{Name}
use Rattle.hp_word.specs.declared.place.Place.{Place}
use Rattle.hp_script.specs.declared.tree.UnOp.{UnOp}
use Rattle.hp_script.specs.declared.tree.BinOp.{BinOp}
use Rattle.hp_script.specs.declared.tree.Expr.{Expr}
use Rattle.hp_script.specs.declared.tree.Form.{Form}
use Rattle.hp_script.specs.declared.tree.Form.TheVariants as forms
use Rattle.hp_script.specs.declared.tree.Arg.{Arg}
use Rattle.hp_script.specs.declared.tree.Arg.TheVariants as arg
use Rattle.hp_script.specs.declared.tree.Arg.TheViews as views
use Rattle.hp_script.specs.declared.tree.Stmt.{Stmt}
use Rattle.hp_script.specs.declared.tree.Stmt.TheVariants as stmt
use Rattle.hp_script.specs.declared.tree.Stmt.TheViews as stmts
use Rattle.hp_script.specs.Grammar.{level_of}
use Rattle.hp_script.specs.Mirror as mirror
use Rattle.hp_script.specs.Mirror.{Head, Args, Block, head, tree_of, args_of, block_of, form_of, arg_of, stmt_of}
use Rattle.hp_script.specs.Printing.{symbol, unary_symbol, dot, rank, left_rank, binds, bracketed, comma, text_in, text_among, text_of, deeper, else_part}
use Rattle.hp_script.proofs.MirrorLemmas.{tree_unary, tree_binary, tree_index, tree_call, block_done, block_choose, block_loop}

-- ---- bytes added one after the other

-- a call's last addition, which may fail
pub added : {T E : Type 0} (r : Result T E) (out mid new last text : List ℕ) → (new ≡ mid ++ last → new ≡ out ++ text) → OnOk r (new ≡ mid ++ last) → OnOk r (new ≡ out ++ text)
added r out mid new last text f h = on_ok_weaker r f h

-- ---- expressions

-- an expression by its form
pub by_form : (x : Expr) (f : Form) → x.form ≡ f → tree_of x ≡ form_of (head x.id.0 x.at) f
unfolding tree_of
by_form x f e = ap (form_of (head x.id.0 x.at)) e

pub text_number : (x : Expr) (value : ℤ) → x.form ≡ forms.Number value → text_in (tree_of x) ≡ signed_decimal value
unfolding form_of text_in
text_number x value e = rw (by_form x _ e) refl

pub text_truth : (x : Expr) (holds : Bool) → x.form ≡ forms.Truth holds → text_in (tree_of x) ≡ (if holds then codes "true" else codes "false")
unfolding form_of text_in
text_truth x holds e = rw (by_form x _ e) refl

pub text_text : (x : Expr) (bytes : Name) → x.form ≡ forms.Text bytes → text_in (tree_of x) ≡ codes "\"" ++ bytes.bytes ++ codes "\""
unfolding form_of text_in
text_text x bytes e = rw (by_form x _ e) refl

pub text_name : (x : Expr) (name : Name) → x.form ≡ forms.Name name → text_in (tree_of x) ≡ name.bytes
unfolding form_of text_in
text_name x name e = rw (by_form x _ e) refl

pub text_column : (x : Expr) (name : Name) → x.form ≡ forms.Column name → text_in (tree_of x) ≡ codes ":" ++ name.bytes
unfolding form_of text_in
text_column x name e = rw (by_form x _ e) refl

pub text_field : (x : Expr) (name of_it : Name) → x.form ≡ forms.Field name of_it → text_in (tree_of x) ≡ name.bytes ++ codes "." ++ of_it.bytes
unfolding form_of text_in
text_field x name of_it e = rw (by_form x _ e) refl

pub unary_at : (x : Expr) (op : UnOp) (dotted : Bool) (a : Expr) → x.form ≡ views.Unary op dotted a → tree_of x ≡ mirror.unary (head x.id.0 x.at) op dotted (tree_of a)
unfolding tree_of
unary_at x op dotted a e = by_form x _ e ∙ tree_unary x.id.0 x.at op dotted a

pub binary_at : (x : Expr) (op : BinOp) (dotted : Bool) (a b : Expr) → x.form ≡ views.Binary op dotted a b → tree_of x ≡ mirror.binary (head x.id.0 x.at) op dotted (tree_of a) (tree_of b)
unfolding tree_of
binary_at x op dotted a b e = by_form x _ e ∙ tree_binary x.id.0 x.at op dotted a b

pub index_at : (x : Expr) (a b : Expr) → x.form ≡ views.Index a b → tree_of x ≡ mirror.index (head x.id.0 x.at) (tree_of a) (tree_of b)
unfolding tree_of
index_at x a b e = by_form x _ e ∙ tree_index x.id.0 x.at a b

pub call_at : (x : Expr) (function : Name) (dotted : Bool) (xs : List Arg) → x.form ≡ views.Call function dotted xs → tree_of x ≡ mirror.call (head x.id.0 x.at) function.bytes dotted (args_of xs)
unfolding tree_of
call_at x function dotted xs e = by_form x _ e ∙ tree_call x.id.0 x.at function.bytes dotted xs

pub text_unary : (x : Expr) (op : UnOp) (dotted : Bool) (a : Expr) → x.form ≡ views.Unary op dotted a → text_in (tree_of x) ≡ dot dotted ++ unary_symbol op ++ bracketed 5 (tree_of a) (text_in (tree_of a))
unfolding text_in
text_unary x op dotted a e = rw (unary_at x op dotted a e) refl

pub text_binary : (x : Expr) (op : BinOp) (dotted : Bool) (a b : Expr) → x.form ≡ views.Binary op dotted a b
    → text_in (tree_of x) ≡ bracketed (left_rank (level_of op)) (tree_of a) (text_in (tree_of a)) ++ codes " " ++ dot dotted ++ symbol op ++ codes " " ++ bracketed (rank (level_of op) + 1) (tree_of b) (text_in (tree_of b))
unfolding text_in
text_binary x op dotted a b e =
    let next : suc (rank (level_of op)) ≡ rank (level_of op) + 1 = omega arith in
    rw (binary_at x op dotted a b e)
    (ap (λ (n : ℕ). bracketed (left_rank (level_of op)) (tree_of a) (text_in (tree_of a)) ++ codes " " ++ dot dotted ++ symbol op ++ codes " " ++ bracketed n (tree_of b) (text_in (tree_of b))) next)

pub text_index : (x : Expr) (a b : Expr) → x.form ≡ views.Index a b → text_in (tree_of x) ≡ bracketed 6 (tree_of a) (text_in (tree_of a)) ++ codes "[" ++ text_in (tree_of b) ++ codes "]"
unfolding text_in
text_index x a b e = rw (index_at x a b e) refl

pub text_call : (x : Expr) (function : Name) (dotted : Bool) (xs : List Arg) → x.form ≡ views.Call function dotted xs
    → text_in (tree_of x) ≡ function.bytes ++ dot dotted ++ codes "(" ++ text_among (args_of xs) ++ codes ")"
unfolding text_in text_among
text_call x function dotted xs e = rw (call_at x function dotted xs e) refl

-- ---- how tightly an expression binds

pub binds_binary : (x : Expr) (op : BinOp) (dotted : Bool) (a b : Expr) → x.form ≡ views.Binary op dotted a b → binds (tree_of x) ≡ rank (level_of op)
binds_binary x op dotted a b e = rw (binary_at x op dotted a b e) refl

pub binds_unary : (x : Expr) (op : UnOp) (dotted : Bool) (a : Expr) → x.form ≡ views.Unary op dotted a → binds (tree_of x) ≡ 5
binds_unary x op dotted a e = rw (unary_at x op dotted a e) refl

pub binds_number : (x : Expr) (value : ℤ) → x.form ≡ forms.Number value → binds (tree_of x) ≡ 6
unfolding form_of
binds_number x value e = rw (by_form x _ e) refl

pub binds_truth : (x : Expr) (holds : Bool) → x.form ≡ forms.Truth holds → binds (tree_of x) ≡ 6
unfolding form_of
binds_truth x holds e = rw (by_form x _ e) refl

pub binds_text : (x : Expr) (bytes : Name) → x.form ≡ forms.Text bytes → binds (tree_of x) ≡ 6
unfolding form_of
binds_text x bytes e = rw (by_form x _ e) refl

pub binds_name : (x : Expr) (name : Name) → x.form ≡ forms.Name name → binds (tree_of x) ≡ 6
unfolding form_of
binds_name x name e = rw (by_form x _ e) refl

pub binds_column : (x : Expr) (name : Name) → x.form ≡ forms.Column name → binds (tree_of x) ≡ 6
unfolding form_of
binds_column x name e = rw (by_form x _ e) refl

pub binds_field : (x : Expr) (name of_it : Name) → x.form ≡ forms.Field name of_it → binds (tree_of x) ≡ 6
unfolding form_of
binds_field x name of_it e = rw (by_form x _ e) refl

pub binds_index : (x : Expr) (a b : Expr) → x.form ≡ views.Index a b → binds (tree_of x) ≡ 6
binds_index x a b e = rw (index_at x a b e) refl

pub binds_call : (x : Expr) (function : Name) (dotted : Bool) (xs : List Arg) → x.form ≡ views.Call function dotted xs → binds (tree_of x) ≡ 6
binds_call x function dotted xs e = rw (call_at x function dotted xs e) refl

-- ---- arguments

pub text_plain : (a : Arg) (x : Expr) → a ≡ views.Plain x → text_among (args_of (a ∷ [])) ≡ text_in (tree_of x)
unfolding args_of arg_of tree_of text_in text_among
text_plain a x e = rw e (append-nil _ ∙ append-nil _)

pub text_range : (a : Arg) (x y : Expr) → a ≡ views.Range x y → text_among (args_of (a ∷ [])) ≡ text_in (tree_of x) ++ codes ":" ++ text_in (tree_of y)
unfolding args_of arg_of tree_of text_in text_among
text_range a x y e = rw e (append-nil _ ∙ append-nil _)

pub text_lambda : (a : Arg) (parameter : Name) (x : Expr) → a ≡ views.Lambda parameter x → text_among (args_of (a ∷ [])) ≡ parameter.bytes ++ codes " -> " ++ text_in (tree_of x)
unfolding args_of arg_of tree_of text_in text_among
text_lambda a parameter x e = rw e (append-nil _ ∙ append-nil _)

pub text_named : (a : Arg) (name : Name) (at : Place) (x : Expr) → a ≡ views.Named name at x → text_among (args_of (a ∷ [])) ≡ name.bytes ++ codes " = " ++ text_in (tree_of x)
unfolding args_of arg_of tree_of text_in text_among
text_named a name at x e = rw e (append-nil _ ∙ append-nil _)

regroup : (p c r : List ℕ) → (p ++ c) ++ r ≡ ((p ++ []) ++ []) ++ (c ++ r)
regroup p c r = append_assoc p c r ∙ ap (λ (t : List ℕ). t ++ (c ++ r)) (sym (append-nil (p ++ []) ∙ append-nil p))

-- an argument and those behind it
arg_split : (a : Arg) (rest : Args) → text_among (arg_of a rest) ≡ text_among (arg_of a mirror.none) ++ (comma rest ++ text_among rest)
unfolding arg_of text_among
arg_split (arg.Plain' id at form) rest = regroup _ (comma rest) (text_among rest)
arg_split (arg.Range' id at form last_id last_at last) rest = regroup _ (comma rest) (text_among rest)
arg_split (arg.Lambda' parameter id at form) rest = regroup _ (comma rest) (text_among rest)
arg_split (arg.Named' name place id at form) rest = regroup _ (comma rest) (text_among rest)

comma_before : (a : Arg) (rest : Args) → comma (arg_of a rest) ≡ codes ", "
unfolding arg_of
comma_before (arg.Plain' id at form) rest = refl
comma_before (arg.Range' id at form last_id last_at last) rest = refl
comma_before (arg.Lambda' parameter id at form) rest = refl
comma_before (arg.Named' name place id at form) rest = refl

comma_some : (a : Arg) (xs : List Arg) → comma (args_of (a ∷ xs)) ≡ codes ", "
unfolding args_of
comma_some a xs = comma_before a (args_of xs)

more_split : (a : Arg) (xs : List Arg) → text_among (args_of (a ∷ xs)) ≡ text_among (args_of (a ∷ [])) ++ (comma (args_of xs) ++ text_among (args_of xs))
unfolding args_of
more_split a xs = arg_split a (args_of xs)

-- one more argument, behind others
pub among_last : (a b : Arg) (xs : List Arg) → text_among (args_of (a ∷ xs ++ b ∷ [])) ≡ text_among (args_of (a ∷ xs)) ++ (codes ", " ++ text_among (args_of (b ∷ [])))
among_last a b [] =
    more_split a (b ∷ []) ∙ ap (λ (t : List ℕ). text_among (args_of (a ∷ [])) ++ t) (ap (λ (t : List ℕ). t ++ text_among (args_of (b ∷ []))) (comma_some b []))
among_last a b (x ∷ xs) =
    more_split a (x ∷ xs ++ b ∷ [])
    ∙ rw (comma_some x (xs ++ b ∷ []), among_last x b xs, more_split a (x ∷ xs), comma_some x xs) (right_again (text_among (args_of (a ∷ []))) (codes ", ") (text_among (args_of (x ∷ xs))) (codes ", ") (text_among (args_of (b ∷ []))))
  where
    right_again : (p c q d r : List ℕ) → p ++ (c ++ (q ++ (d ++ r))) ≡ (p ++ (c ++ q)) ++ (d ++ r)
    right_again p c q d r = simp append_assoc

pub ruleset binding = (binds_number, binds_truth, binds_text, binds_name, binds_column, binds_field, binds_unary, binds_binary, binds_index, binds_call)

pub ruleset expression_texts = (text_number, text_truth, text_text, text_name, text_column, text_field, text_unary, text_binary, text_index, text_call, text_plain, text_range, text_lambda, text_named)

-- ---- statements

pub text_assign : (indent : List ℕ) (s : Stmt) (at : Place) (name : Name) (x : Expr) → s ≡ stmt.Assign at name x
    → text_of indent (block_of (s ∷ [])) ≡ indent ++ name.bytes ++ codes " = " ++ text_in (tree_of x) ++ codes "\n"
unfolding block_of stmt_of text_of
text_assign indent s at name x e = rw e (append-nil _)

pub text_print : (indent : List ℕ) (s : Stmt) (at : Place) (x : Expr) → s ≡ stmt.Print at x
    → text_of indent (block_of (s ∷ [])) ≡ indent ++ codes "println(" ++ text_in (tree_of x) ++ codes ")\n"
unfolding block_of stmt_of text_of
text_print indent s at x e = rw e (append-nil _)

pub text_export : (indent : List ℕ) (s : Stmt) (at : Place) (x : Expr) → s ≡ stmt.Export at x
    → text_of indent (block_of (s ∷ [])) ≡ indent ++ codes "write_csv(" ++ text_in (tree_of x) ++ codes ")\n"
unfolding block_of stmt_of text_of
text_export indent s at x e = rw e (append-nil _)

pub text_choose : (indent : List ℕ) (s : Stmt) (at : Place) (test : Expr) (body other : List Stmt) → s ≡ stmts.If at test body other
    → text_of indent (block_of (s ∷ []))
    ≡ indent ++ codes "if " ++ text_in (tree_of test) ++ codes "\n" ++ text_of (deeper indent) (block_of body) ++ else_part indent (block_of other) (text_of (deeper indent) (block_of other)) ++ indent ++ codes "end\n"
unfolding text_of
text_choose indent s at test body other e = rw (e, block_choose at test body other [], block_done) (append-nil _)

pub text_loop : (indent : List ℕ) (s : Stmt) (at : Place) (test : Expr) (body : List Stmt) → s ≡ stmts.While at test body
    → text_of indent (block_of (s ∷ []))
    ≡ indent ++ codes "while " ++ text_in (tree_of test) ++ codes "\n" ++ text_of (deeper indent) (block_of body) ++ indent ++ codes "end\n"
unfolding text_of
text_loop indent s at test body e = rw (e, block_loop at test body [], block_done) (append-nil _)

split_off : (p r : List ℕ) → p ++ r ≡ (p ++ []) ++ r
split_off p r = ap (λ (t : List ℕ). t ++ r) (sym (append-nil p))

-- a statement and those behind it
stmt_split : (indent : List ℕ) (s : Stmt) (rest : Block) → text_of indent (stmt_of s rest) ≡ text_of indent (stmt_of s mirror.done) ++ text_of indent rest
unfolding stmt_of text_of
stmt_split indent (stmt.Assign at name x) rest = split_off _ (text_of indent rest)
stmt_split indent (stmt.Print at x) rest = split_off _ (text_of indent rest)
stmt_split indent (stmt.Export at x) rest = split_off _ (text_of indent rest)
stmt_split indent (stmt.If' at test p body q other) rest = split_off _ (text_of indent rest)
stmt_split indent (stmt.While' at test p body) rest = split_off _ (text_of indent rest)

-- one more statement
pub block_last : (indent : List ℕ) (s : Stmt) (body : List Stmt) → text_of indent (block_of (body ++ s ∷ [])) ≡ text_of indent (block_of body) ++ text_of indent (block_of (s ∷ []))
unfolding block_of text_of
block_last indent s [] = refl
block_last indent s (x ∷ body) =
    stmt_split indent x (block_of (body ++ s ∷ []))
    ∙ ap (λ (t : List ℕ). text_of indent (stmt_of x mirror.done) ++ t) (block_last indent s body)
    ∙ sym (append_assoc (text_of indent (stmt_of x mirror.done)) (text_of indent (block_of body)) _)
    ∙ ap (λ (t : List ℕ). t ++ text_of indent (stmt_of s mirror.done)) (sym (stmt_split indent x (block_of body)))

pub no_statements : (indent : List ℕ) → text_of indent (block_of []) ≡ []
unfolding block_of text_of
no_statements indent = refl

pub no_arguments : text_among (args_of []) ≡ []
unfolding args_of text_among
no_arguments = refl

-- the second block of an `if`
pub no_else : (indent printed : List ℕ) (other : List Stmt) → true ≡ (length other == 0) → else_part indent (block_of other) printed ≡ []
unfolding block_of
no_else indent printed [] e = refl
no_else indent printed (s ∷ rest) e = absurd (grind arith)

pub some_else : (indent printed : List ℕ) (other : List Stmt) → false ≡ (length other == 0) → else_part indent (block_of other) printed ≡ indent ++ codes "else\n" ++ printed
unfolding block_of stmt_of
some_else indent printed [] e = absurd cc
some_else indent printed (stmt.Assign at name x ∷ rest) e = refl
some_else indent printed (stmt.Print at x ∷ rest) e = refl
some_else indent printed (stmt.Export at x ∷ rest) e = refl
some_else indent printed (stmt.If' at test p body q other ∷ rest) e = refl
some_else indent printed (stmt.While' at test p body ∷ rest) e = refl

-- ---- one more of a list that is added item by item

take_item : {X : Type 0} (xs : List X) (i : ℕ) (x : X) → i < length xs → x ≡ get_or xs i x → take (i + 1) xs ≡ take i xs ++ x ∷ []
take_item xs i x lt e = take_more xs i x lt ∙ ap (λ (y : _). take i xs ++ y ∷ []) (sym e)

behind_some : (ys : List Arg) (a : Arg) → 0 < length ys → text_among (args_of (ys ++ a ∷ [])) ≡ text_among (args_of ys) ++ (codes ", " ++ text_among (args_of (a ∷ [])))
behind_some [] a some = absurd (omega (arith, some))
behind_some (y ∷ ys) a some = among_last y a ys

pub first_argument : (out mid new : List ℕ) (xs : List Arg) (i : ℕ) (a : Arg) → i ≤ 0 → i < length xs → a ≡ get_or xs i a
    → mid ≡ out ++ text_among (args_of (take i xs)) → new ≡ mid ++ text_among (args_of (a ∷ [])) → new ≡ out ++ text_among (args_of (take (i + 1) xs))
first_argument out mid new xs i a none lt item so_far now_too =
    let zeroth : i ≡ 0 = omega (arith, none) in
    let front : take i xs ≡ [] = ap (λ (k : ℕ). take k xs) zeroth in
    let old : mid ≡ out = so_far ∙ ap (λ (t : List Arg). out ++ text_among (args_of t)) front ∙ ap (λ (t : List ℕ). out ++ t) no_arguments ∙ append-nil out in
    now_too ∙ ap (λ (t : List ℕ). t ++ text_among (args_of (a ∷ []))) old
    ∙ ap (λ (t : List Arg). out ++ text_among (args_of t)) (sym (take_item xs i a lt item ∙ ap (λ (t : List Arg). t ++ a ∷ []) front))

pub next_argument : (out mid with_comma new : List ℕ) (xs : List Arg) (i : ℕ) (a : Arg) → 0 < i → i < length xs → a ≡ get_or xs i a
    → mid ≡ out ++ text_among (args_of (take i xs)) → with_comma ≡ mid ++ codes ", " → new ≡ with_comma ++ text_among (args_of (a ∷ [])) → new ≡ out ++ text_among (args_of (take (i + 1) xs))
next_argument out mid with_comma new xs i a some lt item so_far comma_too now_too =
    let many : length (take i xs) ≡ i = length-take-le i xs (omega (arith, lt)) in
    let whole : text_among (args_of (take (i + 1) xs)) ≡ text_among (args_of (take i xs)) ++ (codes ", " ++ text_among (args_of (a ∷ []))) =
    ap (λ (t : List Arg). text_among (args_of t)) (take_item xs i a lt item) ∙ behind_some (take i xs) a (omega (arith, some, many)) in
    simp (now_too, comma_too, so_far, whole, append_assoc)

pub next_statement : (indent out mid new : List ℕ) (xs : List Stmt) (i : ℕ) (s : Stmt) → i < length xs → s ≡ get_or xs i s
    → mid ≡ out ++ text_of indent (block_of (take i xs)) → new ≡ mid ++ text_of indent (block_of (s ∷ [])) → new ≡ out ++ text_of indent (block_of (take (i + 1) xs))
next_statement indent out mid new xs i s lt item so_far now_too =
    let whole : text_of indent (block_of (take (i + 1) xs)) ≡ text_of indent (block_of (take i xs)) ++ text_of indent (block_of (s ∷ [])) =
    ap (λ (t : List Stmt). text_of indent (block_of t)) (take_item xs i s lt item) ∙ block_last indent s (take i xs) in
    simp (now_too, so_far, whole, append_assoc)
