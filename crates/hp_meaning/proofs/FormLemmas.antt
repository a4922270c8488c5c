-- The forms of expressions, over the code's own trees.
use Rattle.std.proofs.Common.{◌≡◌, ℕ, List, [], ◌∷◌, ◌++◌, Bool, true, false, cond, Option, Some, None, Result, Ok, Err, refl, sym, ap, ◌∙◌, append_assoc, append-nil, suc, ◌+◌, ◌<◌, ◌≤◌, length, get_or, drop, drop-cons, arith}
use Rattle.std.specs.Prelude.{IfSome}
use Rattle.std.specs.Option.{option_map}
use Rattle.std.specs.Result.{result_ok}
use Rattle.std.proofs.lemmas.List.{drop_all}
use Rattle.hp_word.specs.declared.name.Name.{Name}
use Rattle.hp_script.specs.declared.tree.BinOp.{BinOp}
use Rattle.hp_script.specs.declared.tree.Expr.{Expr}
use Rattle.hp_script.specs.declared.tree.Arg.{Arg}
use Rattle.hp_script.specs.declared.tree.Arg.TheViews.{Binary, Call}
use Rattle.hp_script.specs.declared.tree.Stmt.{Stmt}
use Rattle.hp_script.specs.declared.tree.Stmt.TheVariants as stmts
use Rattle.hp_word.specs.declared.place.Place.{Place}
use Rattle.hp_script.specs.Mirror.{Tree, binary, call, head, tree_of, form_of, args_of, block_of, stmt_of}
use Rattle.hp_script.proofs.MirrorLemmas as mirror
use Rattle.hp_meaning.specs.HeldValues.{Finds}
use Rattle.hp_meaning.specs.declared.seen.Stop.{Stop}
use Rattle.hp_meaning.specs.Forms.{reads_assigned, built, built_next, place_of, form_of_stmt, with_line, behind_lines, FindsNext, TellsLines}
use Rattle.hp_meaning.specs.declared.forms.FormError.{FormError}
use Rattle.hp_meaning.specs.declared.forms.FormError.TheVariants as errors
use Rattle.hp_meaning.specs.declared.line.Line.{Line}

-- what the code has found, where it may only be there or not
pub found_some : {A B : Type 0} (view : A → B) (found : Option B) (r : Result A Stop) (x : A) → Finds view found r → result_ok r ≡ Some x → found ≡ Some (view x)
found_some view found (Ok a) x h e = let same : Some a ≡ Some x = e in h ∙ ap (option_map view) same
found_some view found (Err w) x h e = absurd cc

pub found_none : {A B : Type 0} (view : A → B) (found : Option B) (r : Result A Stop) → Finds view found r → result_ok r ≡ None → found ≡ None
found_none view found (Ok a) h e = absurd cc
found_none view found (Err w) h e = h.1

pub tree_call : (x : Expr) (function : Name) (dotted : Bool) (args : List Arg) → x.form ≡ Call function dotted args → tree_of x ≡ call (head x.id.0 x.at) function.bytes dotted (args_of args)
unfolding tree_of
tree_call x function dotted args e = ap (form_of (head x.id.0 x.at)) e ∙ mirror.tree_call x.id.0 x.at function.bytes dotted args

pub tree_sum : (x : Expr) (op : BinOp) (dotted : Bool) (a b : Expr) → x.form ≡ Binary op dotted a b → tree_of x ≡ binary (head x.id.0 x.at) op dotted (tree_of a) (tree_of b)
unfolding tree_of
tree_sum x op dotted a b e = ap (form_of (head x.id.0 x.at)) e ∙ mirror.tree_binary x.id.0 x.at op dotted a b

-- ---- the statements of a script

pub built_cons : (before : List Line) (s : Stmt) (rest : List Stmt) → built before (block_of (s ∷ rest)) ≡ built_next before (place_of s) (form_of_stmt s) (λ lines. built lines (block_of rest))
unfolding built block_of stmt_of form_of_stmt
built_cons before (stmts.Assign at name x) rest = refl
built_cons before (stmts.Print at x) rest = refl
built_cons before (stmts.Export at x) rest = refl
built_cons before (stmts.If' at test p body q other) rest = refl
built_cons before (stmts.While' at test p body) rest = refl

behind_with : (front : List Line) (line : Line) (r : Result (List Line) Place) → behind_lines front (with_line line r) ≡ behind_lines (front ++ line ∷ []) r
behind_with front line (Ok lines) = ap Ok (sym (append_assoc front (line ∷ []) lines))
behind_with front line (Err at) = refl

pub behind_none : (r : Result (List Line) Place) → behind_lines [] r ≡ r
behind_none (Ok lines) = refl
behind_none (Err at) = refl

-- one more line
pub built_goes : (before : List Line) (s : Stmt) (rest : List Stmt) (line : Line) → form_of_stmt s ≡ Some line → reads_assigned before line ≡ true
    → behind_lines before (built before (block_of (s ∷ rest))) ≡ behind_lines (before ++ line ∷ []) (built (before ++ line ∷ []) (block_of rest))
built_goes before s rest line found reads =
    let more = λ (lines : List Line). built lines (block_of rest) in
    ap (behind_lines before) (built_cons before s rest ∙ ap (λ o. built_next before (place_of s) o more) found
    ∙ ap (λ b. cond b (with_line line (more (before ++ line ∷ []))) (Err (place_of s))) reads)
    ∙ behind_with before line (more (before ++ line ∷ []))

-- the first statement that is none
stops_at : (before : List Line) (at : Place) (form : Option Line) (more : List Line → Result (List Line) Place) → IfSome form (λ line. reads_assigned before line ≡ false) → built_next before at form more ≡ Err at
stops_at before at None more h = refl
stops_at before at (Some line) more h = ap (λ b. cond b (with_line line (more (before ++ line ∷ []))) (Err at)) h

pub built_stops : (before : List Line) (s : Stmt) (rest : List Stmt) → IfSome (form_of_stmt s) (λ line. reads_assigned before line ≡ false)
    → behind_lines before (built before (block_of (s ∷ rest))) ≡ Err (place_of s)
built_stops before s rest h =
    ap (behind_lines before) (built_cons before s rest ∙ stops_at before (place_of s) (form_of_stmt s) (λ lines. built lines (block_of rest)) h)

-- these lines are what the first statements ask for
abbrev pub HasBuilt : List Stmt → List Line → ℕ → Type 0
HasBuilt body lines i = built [] (block_of body) ≡ behind_lines lines (built lines (block_of (drop i body)))

next_is : (body : List Stmt) (i : ℕ) (s : Stmt) → i < length body → s ≡ get_or body i s → drop i body ≡ s ∷ drop (suc i) body
next_is body i s lt is = drop-cons body i s lt ∙ ap (λ t. t ∷ drop (suc i) body) (sym is)

pub has_more : (body : List Stmt) (lines : List Line) (i : ℕ) (s : Stmt) (line : Line) → i < length body → s ≡ get_or body i s → FindsNext lines s (Ok line)
    → HasBuilt body lines i → HasBuilt body (lines ++ line ∷ []) (i + 1)
has_more body lines i s line lt is found h =
    let step : i + 1 ≡ suc i = omega arith in
    h ∙ ap (λ rest. behind_lines lines (built lines (block_of rest))) (next_is body i s lt is)
    ∙ built_goes lines s (drop (suc i) body) line found.0 found.1
    ∙ ap (λ k. behind_lines (lines ++ line ∷ []) (built (lines ++ line ∷ []) (block_of (drop k body)))) (sym step)

pub has_stopped : (body : List Stmt) (lines : List Line) (i : ℕ) (s : Stmt) (error : FormError) → i < length body → s ≡ get_or body i s → FindsNext lines s (Err error)
    → HasBuilt body lines i → TellsLines (built [] (block_of body)) (Err error)
has_stopped body lines i s (errors.NotBuilt at) lt is found h =
    h ∙ ap (λ rest. behind_lines lines (built lines (block_of rest))) (next_is body i s lt is) ∙ built_stops lines s (drop (suc i) body) found.1 ∙ ap Err (sym found.0)
has_stopped body lines i s errors.NoMemory lt is found h = tt

pub has_all : (body : List Stmt) (lines : List Line) (i : ℕ) → length body ≤ i → HasBuilt body lines i → built [] (block_of body) ≡ Ok lines
unfolding built block_of
has_all body lines i end h = h ∙ ap (λ rest. behind_lines lines (built lines (block_of rest))) (drop_all i body end) ∙ ap Ok (append-nil lines)

pub has_none : (body : List Stmt) → HasBuilt body [] 0
has_none body = sym (behind_none (built [] (block_of body)))
