-- What is told of statements one after the other, and of the parts of a statement.
use Rattle.std.proofs.Common.{◌≡◌, ℕ, ◌+◌, ◌<◌, ◌≤◌, Bool, Option, List, [], ◌∷◌, ◌++◌, length, get_or, take, drop, Some, None, Result, Ok, Err, refl, ap, sym, subst, ◌∙◌, append_assoc, append-nil}
use Rattle.std.specs.Option.{option_or}
use Rattle.std.proofs.lemmas.List.{take_more, take_all, take-append-drop}
use Rattle.hp_word.specs.declared.name.Name.{Name}
use Rattle.hp_word.specs.declared.place.Place.{Place}
use Rattle.hp_script.specs.declared.rule.Refusal.{Refusal}
use Rattle.hp_script.specs.declared.rule.Rule.TheVariants.{WrongType, TypeChanged}
use Rattle.hp_script.specs.declared.tree.Expr.{Expr}
use Rattle.hp_script.specs.declared.tree.Stmt.{Stmt}
use Rattle.hp_script.specs.declared.tree.Stmt.TheVariants as stmt
use Rattle.hp_script.specs.declared.tree.Stmt.TheViews as views
use Rattle.hp_script.specs.declared.typed.ReadSpec.{ReadSpec}
use Rattle.hp_script.specs.declared.typed.Shape.{Shape}
use Rattle.hp_script.specs.Breaks.{unless, is_frame}
use Rattle.hp_script.specs.Checked.{keeps_shape, is_printed, is_test, second_branch, after, break_in, entries_in, files_of}
use Rattle.hp_script.specs.Entries.{files_in}
use Rattle.hp_script.specs.Mirror.{Tree, Block, done, assign, print, export, choose, loop, tree_of, block_of}
use Rattle.hp_script.specs.Scope.{Scope, shape_among, after_assignment}
use Rattle.hp_types.specs.declared.error.CheckError.{CheckError}
use Rattle.hp_types.specs.declared.found.Found.{Found}
use Rattle.hp_types.specs.declared.variables.Variables.{Variables}
use Rattle.hp_types.specs.Answers.{Refuses, Passes, Grew}
use Rattle.hp_types.specs.Statements.{IsAt, TellsValue, TellsTest, TellsBlock, TellsBranches, TellsLoop}
use Rattle.hp_script.proofs.MirrorLemmas.{block_done, block_assign, block_print, block_export, block_choose, block_loop}
use Rattle.hp_types.proofs.Behind.{or_grouped, after_both, break_both, entries_both, files_both}
use Rattle.hp_types.proofs.Lists.{at_place}
use Rattle.hp_types.proofs.Telling.{refuses_first, refuses_next, refuses_by}
use Rattle.hp_script.specs.Walk.{break_of, entries_of, shape_of}

-- ---- what was found

pub grew_on : (before mid now : Found) (es fs : List (Option Shape)) (rs ts : List ReadSpec) → Grew before mid es rs → Grew mid now fs ts → Grew before now (es ++ fs) (rs ++ ts)
grew_on before mid now es fs rs ts g h =
    (h.0 ∙ ap (λ (xs : List (Option Shape)). xs ++ fs) g.0 ∙ append_assoc before.shapes es fs, h.1 ∙ ap (λ (xs : List ReadSpec). xs ++ ts) g.1 ∙ append_assoc before.reads rs ts)

pub grew_by : (before now : Found) (es fs : List (Option Shape)) (rs ts : List ReadSpec) → es ≡ fs → rs ≡ ts → Grew before now es rs → Grew before now fs ts
grew_by before now es fs rs ts same too g = (g.0 ∙ ap (λ (xs : List (Option Shape)). before.shapes ++ xs) same, g.1 ∙ ap (λ (xs : List ReadSpec). before.reads ++ xs) too)

refuses_test : (a b c : Option Refusal) (e : CheckError) → Refuses (option_or a b) e → Refuses (option_or a (option_or b c)) e
refuses_test a b c e h = refuses_by (option_or (option_or a b) c) (option_or a (option_or b c)) e (or_grouped a b c) (refuses_first (option_or a b) c e h)

or_last : (a b : Option Refusal) → option_or a b ≡ None → option_or a (option_or b None) ≡ None
or_last None None h = refl
or_last None (Some b) h = h
or_last (Some a) b h = h

or_nothing : (a b : Option Refusal) → option_or a b ≡ option_or a (option_or b None)
or_nothing None None = refl
or_nothing None (Some b) = refl
or_nothing (Some a) b = refl

-- found in one part alone
grew_alone : (before now : Found) (es : List (Option Shape)) (rs : List ReadSpec) → Grew before now es rs → Grew before now (es ++ []) (rs ++ [])
grew_alone before now es rs g = grew_by before now es (es ++ []) rs (rs ++ []) (sym (append-nil es)) (sym (append-nil rs)) g

grew_two : (before mid now : Found) (es fs : List (Option Shape)) (rs ts : List ReadSpec) → Grew before mid es rs → Grew mid now fs ts → Grew before now (es ++ fs ++ []) (rs ++ ts ++ [])
grew_two before mid now es fs rs ts g h =
    grew_by before now (es ++ fs) (es ++ fs ++ []) (rs ++ ts) (rs ++ ts ++ []) (sym (append-nil (es ++ fs))) (sym (append-nil (rs ++ ts)))
    (grew_on before mid now es fs rs ts g h)

grew_three : (before mid now : Found) (es fs gs : List (Option Shape)) (rs ts us : List ReadSpec) → Grew before mid es rs → Grew mid now (fs ++ gs) (ts ++ us)
    → Grew before now (es ++ fs ++ gs ++ []) (rs ++ ts ++ us ++ [])
grew_three before mid now es fs gs rs ts us g h =
    grew_by before now (es ++ (fs ++ gs)) (es ++ fs ++ gs ++ []) (rs ++ (ts ++ us)) (rs ++ ts ++ us ++ [])
    (sym (append_assoc es fs gs) ∙ sym (append-nil (es ++ fs ++ gs))) (sym (append_assoc rs ts us) ∙ sym (append-nil (rs ++ ts ++ us)))
    (grew_on before mid now es (fs ++ gs) rs (ts ++ us) g h)

-- ---- refusals of one statement

module _ (s : Scope) (at : Place) (x : Tree) (e : CheckError) where
  pub assign_value : (n : List ℕ) → Refuses (break_of s x) e → Refuses (break_in s (assign at n x done)) e
  unfolding break_in
  assign_value n h = refuses_first (break_of s x) (option_or (unless (keeps_shape (shape_among s.vars n) (shape_of s x)) at TypeChanged) None) e h

  pub assign_changes : (n : List ℕ) (shape : Shape) (keeps : Bool) → break_of s x ≡ None → shape_of s x ≡ Some shape → keeps ≡ keeps_shape (shape_among s.vars n) (Some shape)
      → Refuses (unless keeps at TypeChanged) e → Refuses (break_in s (assign at n x done)) e
  unfolding break_in
  assign_changes n shape keeps passed is same h =
      refuses_next (break_of s x) (option_or (unless (keeps_shape (shape_among s.vars n) (shape_of s x)) at TypeChanged) None) e passed
      (refuses_first (unless (keeps_shape (shape_among s.vars n) (shape_of s x)) at TypeChanged) None e
      (refuses_by (unless keeps at TypeChanged) (unless (keeps_shape (shape_among s.vars n) (shape_of s x)) at TypeChanged) e
      (ap (λ (b : Bool). unless b at TypeChanged) same ∙ ap (λ (o : Option Shape). unless (keeps_shape (shape_among s.vars n) o) at TypeChanged) (sym is)) h))

  pub print_value : Refuses (break_of s x) e → Refuses (break_in s (print at x done)) e
  unfolding break_in
  print_value h = refuses_first (break_of s x) (option_or (unless (is_printed (shape_of s x)) at WrongType) None) e h

  pub print_refuses : (shape : Shape) (holds : Bool) → break_of s x ≡ None → shape_of s x ≡ Some shape → holds ≡ is_printed (Some shape) → Refuses (unless holds at WrongType) e
      → Refuses (break_in s (print at x done)) e
  unfolding break_in
  print_refuses shape holds passed is same h =
      refuses_next (break_of s x) (option_or (unless (is_printed (shape_of s x)) at WrongType) None) e passed
      (refuses_first (unless (is_printed (shape_of s x)) at WrongType) None e
      (refuses_by (unless holds at WrongType) (unless (is_printed (shape_of s x)) at WrongType) e
      (ap (λ (b : Bool). unless b at WrongType) same ∙ ap (λ (o : Option Shape). unless (is_printed o) at WrongType) (sym is)) h))

  pub export_value : Refuses (break_of s x) e → Refuses (break_in s (export at x done)) e
  unfolding break_in
  export_value h = refuses_first (break_of s x) (option_or (unless (is_frame (shape_of s x)) at WrongType) None) e h

  pub export_refuses : (shape : Shape) (holds : Bool) → break_of s x ≡ None → shape_of s x ≡ Some shape → holds ≡ is_frame (Some shape) → Refuses (unless holds at WrongType) e
      → Refuses (break_in s (export at x done)) e
  unfolding break_in
  export_refuses shape holds passed is same h =
      refuses_next (break_of s x) (option_or (unless (is_frame (shape_of s x)) at WrongType) None) e passed
      (refuses_first (unless (is_frame (shape_of s x)) at WrongType) None e
      (refuses_by (unless holds at WrongType) (unless (is_frame (shape_of s x)) at WrongType) e
      (ap (λ (b : Bool). unless b at WrongType) same ∙ ap (λ (o : Option Shape). unless (is_frame o) at WrongType) (sym is)) h))

  pub choose_test : (first second : Block) → Refuses (option_or (break_of s x) (unless (is_test (shape_of s x)) at WrongType)) e → Refuses (break_in s (choose at x first second done)) e
  unfolding break_in
  choose_test first second h = refuses_test (break_of s x) (unless (is_test (shape_of s x)) at WrongType) (option_or (break_in s first) (option_or (break_in (second_branch s (after s first)) second) None)) e h

  pub choose_refuses : (first second : Block) → break_of s x ≡ None → unless (is_test (shape_of s x)) at WrongType ≡ None
      → Refuses (option_or (break_in s first) (break_in (second_branch s (after s first)) second)) e → Refuses (break_in s (choose at x first second done)) e
  unfolding break_in
  choose_refuses first second passed is h =
      refuses_next (break_of s x) (option_or (unless (is_test (shape_of s x)) at WrongType) (option_or (break_in s first) (option_or (break_in (second_branch s (after s first)) second) None))) e passed
      (refuses_next (unless (is_test (shape_of s x)) at WrongType) (option_or (break_in s first) (option_or (break_in (second_branch s (after s first)) second) None)) e is
      (refuses_by (option_or (break_in s first) (break_in (second_branch s (after s first)) second)) (option_or (break_in s first) (option_or (break_in (second_branch s (after s first)) second) None)) e
      (or_nothing (break_in s first) (break_in (second_branch s (after s first)) second)) h))

  pub loop_test : (inner : Block) → Refuses (option_or (break_of s x) (unless (is_test (shape_of s x)) at WrongType)) e → Refuses (break_in s (loop at x inner done)) e
  unfolding break_in
  loop_test inner h = refuses_test (break_of s x) (unless (is_test (shape_of s x)) at WrongType) (option_or (break_in s inner) None) e h

  pub loop_refuses : (inner : Block) → break_of s x ≡ None → unless (is_test (shape_of s x)) at WrongType ≡ None → Refuses (break_in s inner) e → Refuses (break_in s (loop at x inner done)) e
  unfolding break_in
  loop_refuses inner passed is h =
      refuses_next (break_of s x) (option_or (unless (is_test (shape_of s x)) at WrongType) (option_or (break_in s inner) None)) e passed
      (refuses_next (unless (is_test (shape_of s x)) at WrongType) (option_or (break_in s inner) None) e is (refuses_first (break_in s inner) None e h))

-- ---- one statement

module _ (s : Scope) (names : List (List ℕ)) (at : Place) (x : Tree) (before now : Found) (variables : Variables) where
  pub assign_passes : (n : List ℕ) (shape : Shape) (keeps : Bool) → TellsValue s x before now (Ok shape) → keeps ≡ keeps_shape (shape_among s.vars n) (Some shape) → unless keeps at TypeChanged ≡ None
      → IsAt (after_assignment s n (Some shape)) names variables → TellsBlock {A = Unit {0}} s names (assign at n x done) before variables now (Ok tt)
  unfolding after break_in entries_in files_of
  assign_passes n shape keeps told same passed behind = (rw (told.0, told.1, sym same, passed) refl, rw (told.1) behind, grew_alone before now (entries_of s x) (files_in x) told.2)

  pub print_told : {A : Type 0} (r : Result A CheckError) (shape : Shape) (holds : Bool) → TellsValue s x before now (Ok shape) → holds ≡ is_printed (Some shape)
      → Passes (unless holds at WrongType) r → IsAt s names variables → TellsBlock s names (print at x done) before variables now r
  unfolding after break_in entries_in files_of
  print_told (Ok a) shape holds told same passed is = (rw (told.0, told.1, sym same, passed) refl, is, grew_alone before now (entries_of s x) (files_in x) told.2)
  print_told (Err e) shape holds told same h is = print_refuses s at x e shape holds told.0 told.1 same h

  pub export_told : {A : Type 0} (r : Result A CheckError) (shape : Shape) (holds : Bool) → TellsValue s x before now (Ok shape) → holds ≡ is_frame (Some shape)
      → Passes (unless holds at WrongType) r → IsAt s names variables → TellsBlock s names (export at x done) before variables now r
  unfolding after break_in entries_in files_of
  export_told (Ok a) shape holds told same passed is = (rw (told.0, told.1, sym same, passed) refl, is, grew_alone before now (entries_of s x) (files_in x) told.2)
  export_told (Err e) shape holds told same h is = export_refuses s at x e shape holds told.0 told.1 same h

  pub choose_told : (mid : Found) {A B : Type 0} (r : Result A CheckError) (first second : Block) (b : B) → TellsTest s at x before mid (Ok b) → TellsBranches s names first second mid variables now r
      → TellsBlock s names (choose at x first second done) before variables now r
  unfolding after break_in entries_in files_of
  choose_told mid (Ok a) first second b test told = (
    rw (test.0, test.1) (or_last (break_in s first) (break_in (second_branch s (after s first)) second) told.0),
    told.1,
    grew_three before mid now (entries_of s x) (entries_in s first) (entries_in (second_branch s (after s first)) second) (files_in x) (files_of first) (files_of second) test.2 told.2,
  )
  choose_told mid (Err e) first second b test told = choose_refuses s at x e first second test.0 test.1 told

  pub loop_told : (mid : Found) {A B : Type 0} (r : Result A CheckError) (inner : Block) (b : B) → TellsTest s at x before mid (Ok b) → TellsLoop s names inner mid variables now r
      → TellsBlock s names (loop at x inner done) before variables now r
  unfolding after break_in entries_in files_of
  loop_told mid (Ok a) inner b test told =
      (rw (test.0, test.1, told.0) refl, told.1, grew_two before mid now (entries_of s x) (entries_in s inner) (files_in x) (files_of inner) test.2 told.2)
  loop_told mid (Err e) inner b test told = loop_refuses s at x e inner test.0 test.1 told

-- ---- the parts of an `if`, and the body of a `while`

pub second_refuses : (s : Scope) (first second : Block) (e : CheckError) → break_in s first ≡ None → Refuses (break_in (second_branch s (after s first)) second) e
    → Refuses (option_or (break_in s first) (break_in (second_branch s (after s first)) second)) e
second_refuses s first second e passed h = refuses_next (break_in s first) (break_in (second_branch s (after s first)) second) e passed h

-- ---- statements one after the other

none_told : (s : Scope) (names : List (List ℕ)) (variables : Variables) (found : Found) → IsAt s names variables → TellsBlock {A = Unit {0}} s names (block_of []) found variables found (Ok tt)
unfolding block_of after break_in entries_in files_of
none_told s names variables found is = (refl, is, (sym (append-nil found.shapes), sym (append-nil found.reads)))

pub start_told : (s : Scope) (names : List (List ℕ)) (variables : Variables) (found : Found) (block : List Stmt) → IsAt s names variables
    → TellsBlock {A = Unit {0}} s names (block_of (take 0 block)) found variables found (Ok tt)
start_told s names variables found block is = none_told s names variables found is

take_item : (xs : List Stmt) (i : ℕ) (x : Stmt) → i < length xs → x ≡ get_or xs i x → take (i + 1) xs ≡ take i xs ++ x ∷ []
take_item xs i x lt e = take_more xs i x lt ∙ ap (λ (y : Stmt). take i xs ++ y ∷ []) (sym e)

pub more_told : (s : Scope) (names : List (List ℕ)) (xs : List Stmt) (i : ℕ) (x : Stmt) (before mid now : Found) (old new : Variables) → i < length xs → x ≡ get_or xs i x
    → TellsBlock {A = Unit {0}} s names (block_of (take i xs)) before old mid (Ok tt)
    → TellsBlock {A = Unit {0}} (after s (block_of (take i xs))) names (block_of (x ∷ [])) mid new now (Ok tt)
    → TellsBlock {A = Unit {0}} s names (block_of (take (i + 1) xs)) before new now (Ok tt)
more_told s names xs i x before mid now old new lt item told next =
    rw (take_item xs i x lt item) (
      break_both s (take i xs) (x ∷ []) ∙ rw (told.0) (next.0),
      rw (after_both s (take i xs) (x ∷ [])) (next.1),
      grew_by before now (entries_in s (block_of (take i xs)) ++ entries_in (after s (block_of (take i xs))) (block_of (x ∷ []))) (entries_in s (block_of (take i xs ++ x ∷ [])))
          (files_of (block_of (take i xs)) ++ files_of (block_of (x ∷ []))) (files_of (block_of (take i xs ++ x ∷ [])))
          (sym (entries_both s (take i xs) (x ∷ []))) (sym (files_both (take i xs) (x ∷ [])))
          (grew_on before mid now (entries_in s (block_of (take i xs))) (entries_in (after s (block_of (take i xs))) (block_of (x ∷ []))) (files_of (block_of (take i xs))) (files_of (block_of (x ∷ []))) told.2 next.2),
    )

pub more_refuses : (s : Scope) (xs : List Stmt) (i : ℕ) (x : Stmt) (e : CheckError) → i < length xs → x ≡ get_or xs i x → break_in s (block_of (take i xs)) ≡ None
    → Refuses (break_in (after s (block_of (take i xs))) (block_of (x ∷ []))) e → Refuses (break_in s (block_of xs)) e
more_refuses s xs i x e lt item passed h =
    let whole : xs ≡ take i xs ++ x ∷ drop (i + 1) xs = sym (take-append-drop i xs) ∙ ap (λ (ys : List Stmt). take i xs ++ ys) (at_place xs i x lt item) in
    let parts : break_in s (block_of xs) ≡ option_or (break_in s (block_of (take i xs))) (option_or (break_in (after s (block_of (take i xs))) (block_of (x ∷ []))) (break_in (after (after s (block_of (take i xs))) (block_of (x ∷ []))) (block_of (drop (i + 1) xs)))) =
    ap (λ (ys : List Stmt). break_in s (block_of ys)) whole ∙ break_both s (take i xs) (x ∷ drop (i + 1) xs)
    ∙ ap (option_or (break_in s (block_of (take i xs)))) (break_both (after s (block_of (take i xs))) (x ∷ []) (drop (i + 1) xs)) in
    let here : Option Refusal = break_in (after s (block_of (take i xs))) (block_of (x ∷ [])) in
    let later : Option Refusal = break_in (after (after s (block_of (take i xs))) (block_of (x ∷ []))) (block_of (drop (i + 1) xs)) in
    refuses_by (option_or (break_in s (block_of (take i xs))) (option_or here later)) (break_in s (block_of xs)) e (sym parts)
    (refuses_next (break_in s (block_of (take i xs))) (option_or here later) e passed (refuses_first here later e h))

pub all_told : (s : Scope) (names : List (List ℕ)) (xs : List Stmt) (i : ℕ) (before now : Found) (variables : Variables) → length xs ≤ i
    → TellsBlock {A = Unit {0}} s names (block_of (take i xs)) before variables now (Ok tt) → TellsBlock {A = Unit {0}} s names (block_of xs) before variables now (Ok tt)
all_told s names xs i before now variables h told = subst (λ (ys : List Stmt). TellsBlock {A = Unit {0}} s names (block_of ys) before variables now (Ok tt)) (take_all i xs h) told

-- ---- a script's own statements

pub assign_block : (s : Stmt) (at : Place) (name : Name) (x : Expr) → s ≡ stmt.Assign at name x → block_of (s ∷ []) ≡ assign at name.bytes (tree_of x) done
assign_block s at name x is = rw (is, block_assign at name x [], block_done) refl

pub print_block : (s : Stmt) (at : Place) (x : Expr) → s ≡ stmt.Print at x → block_of (s ∷ []) ≡ print at (tree_of x) done
print_block s at x is = rw (is, block_print at x [], block_done) refl

pub export_block : (s : Stmt) (at : Place) (x : Expr) → s ≡ stmt.Export at x → block_of (s ∷ []) ≡ export at (tree_of x) done
export_block s at x is = rw (is, block_export at x [], block_done) refl

pub choose_block : (s : Stmt) (at : Place) (test : Expr) (first second : List Stmt) → s ≡ views.If at test first second
    → block_of (s ∷ []) ≡ choose at (tree_of test) (block_of first) (block_of second) done
choose_block s at test first second is = rw (is, block_choose at test first second [], block_done) refl

pub loop_block : (s : Stmt) (at : Place) (test : Expr) (inner : List Stmt) → s ≡ views.While at test inner → block_of (s ∷ []) ≡ loop at (tree_of test) (block_of inner) done
loop_block s at test inner is = rw (is, block_loop at test inner [], block_done) refl
