-- Where a script stands behind statements: one list of them after the other, and what holds there of names.
use Rattle.std.proofs.Common.{◌≡◌, ℕ, Bool, true, false, ◌&&◌, ◌||◌, Option, List, [], ◌∷◌, ◌++◌, map, Some, None, refl, ap, sym, ◌∙◌, append_assoc, append-nil}
use Rattle.std.specs.Prelude.{bytes_eq}
use Rattle.std.specs.Option.{option_or}
use Rattle.std.proofs.lemmas.List.Folds.{list_all-append}
use Rattle.hp_script.specs.declared.rule.Refusal.{Refusal}
use Rattle.hp_script.specs.declared.rule.Rule.TheVariants.{WrongType, TypeChanged}
use Rattle.hp_script.specs.declared.tree.Stmt.{Stmt}
use Rattle.hp_script.specs.declared.tree.Stmt.TheVariants as stmt
use Rattle.hp_script.specs.declared.typed.ReadSpec.{ReadSpec}
use Rattle.hp_script.specs.declared.typed.Shape.{Shape}
use Rattle.hp_script.specs.declared.typed.Var.{Var}
use Rattle.hp_script.specs.Breaks.{unless, is_frame}
use Rattle.hp_script.specs.Checked.{keeps_shape, is_printed, is_test, second_branch, behind_branches, behind_loop, after, break_in, entries_in, files_of}
use Rattle.hp_script.specs.Mirror.{Block, done, assign, print, export, choose, loop, tree_of, block_of, stmt_of, rows_of}
use Rattle.hp_script.specs.Scope.{Scope, has, is_set, shape_among, variables_with, after_assignment}
use Rattle.hp_script.specs.Trees.{named}
use Rattle.hp_script.specs.Walk.{break_of, shape_of}
use Rattle.hp_script.proofs.TestLemmas.{and_both}

-- ---- the first test that fails

or_after : (a b c : Option Refusal) → option_or a (option_or b c) ≡ option_or (option_or a (option_or b None)) c
or_after None None c = refl
or_after None (Some b) c = refl
or_after (Some a) b c = refl

pub or_grouped : (a b c : Option Refusal) → option_or (option_or a b) c ≡ option_or a (option_or b c)
or_grouped None b c = refl
or_grouped (Some a) b c = refl

or_after_four : (a b c d e : Option Refusal) → option_or a (option_or b (option_or c (option_or d e))) ≡ option_or (option_or a (option_or b (option_or c (option_or d None)))) e
or_after_four None None None None e = refl
or_after_four None None None (Some d) e = refl
or_after_four None None (Some c) d e = refl
or_after_four None (Some b) c d e = refl
or_after_four (Some a) b c d e = refl

or_after_three : (a b c d : Option Refusal) → option_or a (option_or b (option_or c d)) ≡ option_or (option_or a (option_or b (option_or c None))) d
or_after_three None None None d = refl
or_after_three None None (Some c) d = refl
or_after_three None (Some b) c d = refl
or_after_three (Some a) b c d = refl

-- ---- a statement, and those behind it

after_first : (s : Scope) (a : Stmt) (rest : Block) → after s (stmt_of a rest) ≡ after (after s (stmt_of a done)) rest
unfolding after stmt_of
after_first s (stmt.Assign at name x) rest = refl
after_first s (stmt.Print at x) rest = refl
after_first s (stmt.Export at x) rest = refl
after_first s (stmt.If' at test p body q other) rest = refl
after_first s (stmt.While' at test p body) rest = refl

break_first : (s : Scope) (a : Stmt) (rest : Block) → break_in s (stmt_of a rest) ≡ option_or (break_in s (stmt_of a done)) (break_in (after s (stmt_of a done)) rest)
unfolding after break_in stmt_of
break_first s (stmt.Assign at name x) rest =
    or_after (break_of s (tree_of x)) (unless (keeps_shape (shape_among s.vars name.bytes) (shape_of s (tree_of x))) at TypeChanged) (break_in (after_assignment s name.bytes (shape_of s (tree_of x))) rest)
break_first s (stmt.Print at x) rest = or_after (break_of s (tree_of x)) (unless (is_printed (shape_of s (tree_of x))) at WrongType) (break_in s rest)
break_first s (stmt.Export at x) rest = or_after (break_of s (tree_of x)) (unless (is_frame (shape_of s (tree_of x))) at WrongType) (break_in s rest)
break_first s (stmt.If' at test p body q other) rest =
    or_after_four (break_of s (tree_of test)) (unless (is_test (shape_of s (tree_of test))) at WrongType) (break_in s (rows_of body))
    (break_in (second_branch s (after s (rows_of body))) (rows_of other))
    (break_in (behind_branches (after s (rows_of body)) (after (second_branch s (after s (rows_of body))) (rows_of other))) rest)
break_first s (stmt.While' at test p body) rest =
    or_after_three (break_of s (tree_of test)) (unless (is_test (shape_of s (tree_of test))) at WrongType) (break_in s (rows_of body)) (break_in (behind_loop s (after s (rows_of body))) rest)

entries_first : (s : Scope) (a : Stmt) (rest : Block) → entries_in s (stmt_of a rest) ≡ entries_in s (stmt_of a done) ++ entries_in (after s (stmt_of a done)) rest
unfolding after entries_in stmt_of
entries_first s (stmt.Assign at name x) rest = simp append-nil
entries_first s (stmt.Print at x) rest = simp append-nil
entries_first s (stmt.Export at x) rest = simp append-nil
entries_first s (stmt.If' at test p body q other) rest = simp (append-nil, append_assoc)
entries_first s (stmt.While' at test p body) rest = simp (append-nil, append_assoc)

files_first : (a : Stmt) (rest : Block) → files_of (stmt_of a rest) ≡ files_of (stmt_of a done) ++ files_of rest
unfolding files_of stmt_of
files_first (stmt.Assign at name x) rest = simp append-nil
files_first (stmt.Print at x) rest = simp append-nil
files_first (stmt.Export at x) rest = simp append-nil
files_first (stmt.If' at test p body q other) rest = simp (append-nil, append_assoc)
files_first (stmt.While' at test p body) rest = simp (append-nil, append_assoc)

-- ---- some statements, and those behind them

pub after_both : (s : Scope) (xs ys : List Stmt) → after s (block_of (xs ++ ys)) ≡ after (after s (block_of xs)) (block_of ys)
unfolding block_of after
after_both s [] ys = refl
after_both s (x ∷ xs) ys =
    after_first s x (block_of (xs ++ ys)) ∙ after_both (after s (stmt_of x done)) xs ys
    ∙ ap (λ (t : Scope). after t (block_of ys)) (sym (after_first s x (block_of xs)))

pub break_both : (s : Scope) (xs ys : List Stmt) → break_in s (block_of (xs ++ ys)) ≡ option_or (break_in s (block_of xs)) (break_in (after s (block_of xs)) (block_of ys))
unfolding block_of break_in after
break_both s [] ys = refl
break_both s (x ∷ xs) ys =
    break_first s x (block_of (xs ++ ys))
    ∙ ap (option_or (break_in s (stmt_of x done))) (break_both (after s (stmt_of x done)) xs ys)
    ∙ sym (or_grouped (break_in s (stmt_of x done)) (break_in (after s (stmt_of x done)) (block_of xs)) (break_in (after (after s (stmt_of x done)) (block_of xs)) (block_of ys)))
    ∙ ap (λ (b : Option Refusal). option_or b (break_in (after (after s (stmt_of x done)) (block_of xs)) (block_of ys))) (sym (break_first s x (block_of xs)))
    ∙ ap (λ (t : Scope). option_or (break_in s (stmt_of x (block_of xs))) (break_in t (block_of ys))) (sym (after_first s x (block_of xs)))

pub entries_both : (s : Scope) (xs ys : List Stmt) → entries_in s (block_of (xs ++ ys)) ≡ entries_in s (block_of xs) ++ entries_in (after s (block_of xs)) (block_of ys)
unfolding block_of entries_in after
entries_both s [] ys = refl
entries_both s (x ∷ xs) ys =
    entries_first s x (block_of (xs ++ ys))
    ∙ ap (λ (es : List (Option Shape)). entries_in s (stmt_of x done) ++ es) (entries_both (after s (stmt_of x done)) xs ys)
    ∙ sym (append_assoc (entries_in s (stmt_of x done)) (entries_in (after s (stmt_of x done)) (block_of xs)) _)
    ∙ ap (λ (es : List (Option Shape)). es ++ entries_in (after (after s (stmt_of x done)) (block_of xs)) (block_of ys)) (sym (entries_first s x (block_of xs)))
    ∙ ap (λ (t : Scope). entries_in s (stmt_of x (block_of xs)) ++ entries_in t (block_of ys)) (sym (after_first s x (block_of xs)))

pub files_both : (xs ys : List Stmt) → files_of (block_of (xs ++ ys)) ≡ files_of (block_of xs) ++ files_of (block_of ys)
unfolding block_of files_of
files_both [] ys = refl
files_both (x ∷ xs) ys =
    files_first x (block_of (xs ++ ys))
    ∙ ap (λ (fs : List ReadSpec). files_of (stmt_of x done) ++ fs) (files_both xs ys)
    ∙ sym (append_assoc (files_of (stmt_of x done)) (files_of (block_of xs)) _)
    ∙ ap (λ (fs : List ReadSpec). fs ++ files_of (block_of ys)) (sym (files_first x (block_of xs)))

-- ---- variables behind statements

-- these variables and some more
pub record Grows (before now : List Var) : Type 0 where
  pub more : List Var
  pub is : now ≡ before ++ more

grows_not : (vars : List Var) → Grows vars vars
grows_not vars = record { more = []; is = sym (append-nil vars) }

grows_on : {a b c : List Var} → Grows a b → Grows b c → Grows a c
grows_on {a} {b} {c} g h = record { more = g.more ++ h.more; is = h.is ∙ ap (λ (vars : List Var). vars ++ h.more) g.is ∙ append_assoc a g.more h.more }

grows_by : (o : Option Shape) (vars : List Var) (x : List ℕ) (shape : Shape) → Grows vars (variables_with o vars x shape)
grows_by None vars x shape = record { more = record { name = named x; shape = shape } ∷ []; is = refl }
grows_by (Some first) vars x shape = grows_not vars

assignment_grows : (s : Scope) (x : List ℕ) (o : Option Shape) → Grows s.vars (after_assignment s x o).vars
assignment_grows s x None = grows_not s.vars
assignment_grows s x (Some shape) = grows_by (shape_among s.vars x) s.vars x shape

pub after_grows : (s : Scope) (b : Block) → Grows s.vars (after s b).vars
unfolding after
after_grows s done = grows_not s.vars
after_grows s (assign at x e rest) = grows_on (assignment_grows s x (shape_of s e)) (after_grows (after_assignment s x (shape_of s e)) rest)
after_grows s (print at e rest) = after_grows s rest
after_grows s (export at e rest) = after_grows s rest
after_grows s (choose at test body other rest) =
    grows_on (after_grows s body)
    (grows_on (after_grows (second_branch s (after s body)) other) (after_grows (behind_branches (after s body) (after (second_branch s (after s body)) other)) rest))
after_grows s (loop at test body rest) = grows_on (after_grows s body) (after_grows (behind_loop s (after s body)) rest)

-- ---- names that are sure behind statements

or_and : (a b c : Bool) → ((a || b) && (a || c)) ≡ (a || (b && c))
or_and true b c = refl
or_and false b c = refl

all_set : (a : Bool) → true ≡ (a || true)
all_set true = refl
all_set false = refl

pub set_by_assignment : (ways : List (List (List ℕ))) (n x : List ℕ) → is_set (map (λ way. n ∷ way) ways) x ≡ (bytes_eq x n || is_set ways x)
set_by_assignment [] n x = all_set (bytes_eq x n)
set_by_assignment (way ∷ ways) n x =
    ap (λ (b : Bool). (bytes_eq x n || has x way) && b) (set_by_assignment ways n x) ∙ or_and (bytes_eq x n) (has x way) (is_set ways x)

pub set_on_both : (a b : List (List (List ℕ))) (x : List ℕ) → is_set (a ++ b) x ≡ (is_set a x && is_set b x)
set_on_both a b x = list_all-append (λ (way : List (List ℕ)). has x way) a b

or_true : (a b : Bool) → b ≡ true → (a || b) ≡ true
or_true true b e = refl
or_true false b e = e

assignment_keeps : (s : Scope) (n : List ℕ) (o : Option Shape) (x : List ℕ) → is_set s.ways x ≡ true → is_set (after_assignment s n o).ways x ≡ true
assignment_keeps s n None x h = h
assignment_keeps s n (Some shape) x h = set_by_assignment s.ways n x ∙ or_true (bytes_eq x n) (is_set s.ways x) h

both_keep : (a b : List (List (List ℕ))) (x : List ℕ) → is_set a x ≡ true → is_set b x ≡ true → is_set (a ++ b) x ≡ true
both_keep a b x g h = set_on_both a b x ∙ and_both _ _ g h

pub after_keeps : (s : Scope) (b : Block) (x : List ℕ) → is_set s.ways x ≡ true → is_set (after s b).ways x ≡ true
unfolding after
after_keeps s done x h = h
after_keeps s (assign at n e rest) x h = after_keeps (after_assignment s n (shape_of s e)) rest x (assignment_keeps s n (shape_of s e) x h)
after_keeps s (print at e rest) x h = after_keeps s rest x h
after_keeps s (export at e rest) x h = after_keeps s rest x h
after_keeps s (choose at test body other rest) x h =
    after_keeps (behind_branches (after s body) (after (second_branch s (after s body)) other)) rest x
    (both_keep (after s body).ways (after (second_branch s (after s body)) other).ways x (after_keeps s body x h) (after_keeps (second_branch s (after s body)) other x h))
after_keeps s (loop at test body rest) x h =
    after_keeps (behind_loop s (after s body)) rest x (both_keep s.ways (after s body).ways x h (after_keeps s body x h))

passed_over : (a b : Bool) → (a ≡ true → b ≡ true) → (a && b) ≡ a
passed_over true b h = h refl
passed_over false b h = refl

pub set_behind_loop : (s : Scope) (b : Block) (x : List ℕ) → is_set (s.ways ++ (after s b).ways) x ≡ is_set s.ways x
set_behind_loop s b x = set_on_both s.ways (after s b).ways x ∙ passed_over (is_set s.ways x) (is_set (after s b).ways x) (after_keeps s b x)
