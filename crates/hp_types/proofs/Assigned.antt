-- The names that statements assign, one statement after the other.
use Rattle.std.proofs.Common.{◌≡◌, ◌⊎◌, inl, inr, ℕ, ◌+◌, ◌<◌, ◌≤◌, Bool, true, false, ◌||◌, List, [], ◌∷◌, ◌++◌, length, get_or, drop, Result, Ok, Err, OnOk, refl, ap, sym, ◌∙◌, append_assoc, append-nil}
use Rattle.std.specs.Prelude.{bytes_eq}
use Rattle.std.proofs.lemmas.List.{drop_all}
use Rattle.std.proofs.lemmas.List.Folds.{list_any-append}
use Rattle.hp_word.specs.declared.name.Name.{Name}
use Rattle.hp_word.specs.declared.place.Place.{Place}
use Rattle.hp_script.specs.declared.tree.Expr.{Expr}
use Rattle.hp_script.specs.declared.tree.Stmt.{Stmt}
use Rattle.hp_script.specs.declared.tree.Stmt.TheVariants as stmt
use Rattle.hp_script.specs.declared.tree.Stmt.TheViews as views
use Rattle.hp_script.specs.Checked.{assigned_in}
use Rattle.hp_script.specs.Mirror.{block_of, stmt_of}
use Rattle.hp_script.specs.Scope.{has}
use Rattle.hp_script.proofs.MirrorLemmas.{block_done, block_assign, block_print, block_export, block_choose, block_loop}
use Rattle.hp_types.specs.Names.{with_name}
use Rattle.hp_types.proofs.Lists.{at_place}
use Rattle.hp_types.proofs.NameSets.{has_with}

-- the statements assign the name
abbrev pub assigns : List ℕ → List Stmt → Bool
assigns x body = has x (assigned_in (block_of body))

pub assigns_none : (x : List ℕ) → assigns x [] ≡ false
unfolding assigned_in
assigns_none x = rw block_done refl

first_and_rest : (s : Stmt) (rest : List Stmt) → assigned_in (block_of (s ∷ rest)) ≡ assigned_in (block_of (s ∷ [])) ++ assigned_in (block_of rest)
unfolding assigned_in block_of stmt_of
first_and_rest (stmt.Assign at name x) rest = refl
first_and_rest (stmt.Print at x) rest = refl
first_and_rest (stmt.Export at x) rest = refl
first_and_rest (stmt.If' at test p body q other) rest = simp (append_assoc, append-nil)
first_and_rest (stmt.While' at test p body) rest = simp append-nil

pub assigns_next : (x : List ℕ) (s : Stmt) (rest : List Stmt) → assigns x (s ∷ rest) ≡ (assigns x (s ∷ []) || assigns x rest)
assigns_next x s rest = rw (first_and_rest s rest) (list_any-append (bytes_eq x) (assigned_in (block_of (s ∷ []))) (assigned_in (block_of rest)))

assigns_end : (x : List ℕ) (body : List Stmt) (i : ℕ) → length body ≤ i → assigns x (drop i body) ≡ false
assigns_end x body i h = rw (drop_all i body h) (assigns_none x)

or_grouped : (a b c : Bool) → ((a || b) || c) ≡ (a || (b || c))
or_grouped true b c = refl
or_grouped false b c = refl

or_false : (b : Bool) → (b || false) ≡ b
or_false true = refl
or_false false = refl

-- one statement's names are among these now, and those behind it follow
pub assigns_more : (x : List ℕ) (body : List Stmt) (i : ℕ) (s : Stmt) (start whole before now : Bool) → i < length body → s ≡ get_or body i s → now ≡ (before || assigns x (s ∷ []))
    → (before || assigns x (drop i body)) ≡ (start || whole) → (now || assigns x (drop (i + 1) body)) ≡ (start || whole)
assigns_more x body i s start whole before now h e one so_far =
    ap (λ (b : Bool). b || assigns x (drop (i + 1) body)) one ∙ or_grouped before (assigns x (s ∷ [])) (assigns x (drop (i + 1) body))
    ∙ ap (λ (b : Bool). before || b) (sym (assigns_next x s (drop (i + 1) body)) ∙ sym (ap (assigns x) (at_place body i s h e))) ∙ so_far

pub assigns_all : (x : List ℕ) (body : List Stmt) (i : ℕ) (start whole now : Bool) → length body ≤ i → (now || assigns x (drop i body)) ≡ (start || whole) → now ≡ (start || whole)
assigns_all x body i start whole now h so_far = sym (or_false now) ∙ ap (λ (b : Bool). now || b) (sym (assigns_end x body i h)) ∙ so_far

-- ---- one statement

pub by_assign : (x : List ℕ) (s : Stmt) (at : Place) (name : Name) (e : Expr) → s ≡ stmt.Assign at name e → assigns x (s ∷ []) ≡ bytes_eq x name.bytes
unfolding assigned_in
by_assign x s at name e is = rw (is, block_assign at name e [], block_done) (or_false (bytes_eq x name.bytes))

by_print : (x : List ℕ) (s : Stmt) (at : Place) (e : Expr) → s ≡ stmt.Print at e → assigns x (s ∷ []) ≡ false
unfolding assigned_in
by_print x s at e is = rw (is, block_print at e [], block_done) refl

by_export : (x : List ℕ) (s : Stmt) (at : Place) (e : Expr) → s ≡ stmt.Export at e → assigns x (s ∷ []) ≡ false
unfolding assigned_in
by_export x s at e is = rw (is, block_export at e [], block_done) refl

pub by_choice : (x : List ℕ) (s : Stmt) (at : Place) (test : Expr) (body other : List Stmt) → s ≡ views.If at test body other → assigns x (s ∷ []) ≡ (assigns x body || assigns x other)
unfolding assigned_in
by_choice x s at test body other is =
    rw (is, block_choose at test body other [], block_done) (simp append-nil (list_any-append (bytes_eq x) (assigned_in (block_of body)) (assigned_in (block_of other))))

pub by_loop : (x : List ℕ) (s : Stmt) (at : Place) (test : Expr) (body : List Stmt) → s ≡ views.While at test body → assigns x (s ∷ []) ≡ assigns x body
unfolding assigned_in
by_loop x s at test body is = rw (is, block_loop at test body [], block_done) (simp append-nil)

-- ---- the names that a statement adds

-- the names that the statement assigns
abbrev pub assigned_by : Stmt → List (List ℕ)
assigned_by s = assigned_in (block_of (s ∷ []))

pub unassigned : (s : Stmt) → ((at : Place) × (e : Expr) × (s ≡ stmt.Print at e)) ⊎ ((at : Place) × (e : Expr) × (s ≡ stmt.Export at e)) → (x : List ℕ) → has x (assigned_by s) ≡ false
unassigned s (inl p) x = by_print x s p.0 p.1 p.2
unassigned s (inr p) x = by_export x s p.0 p.1 p.2

pub added_one : {E : Type 0} (r : Result (Unit {0}) E) (old now : List (List ℕ)) (n : List ℕ) (names : List (List ℕ)) → ((x : List ℕ) → has x names ≡ bytes_eq x n) → OnOk r (now ≡ with_name n old)
    → OnOk r ((x : List ℕ) → has x now ≡ (has x old || has x names))
added_one (Ok a) old now n names is added = λ x. ap (has x) added ∙ has_with x n old ∙ ap (λ (b : Bool). has x old || b) (sym (is x))
added_one (Err e) old now n names is added = tt

pub added_first : {E : Type 0} (r : Result (Unit {0}) E) (old now names : List (List ℕ)) (body : List Stmt) → ((x : List ℕ) → has x names ≡ assigns x body)
    → OnOk r ((x : List ℕ) → has x now ≡ (has x old || assigns x body)) → OnOk r ((x : List ℕ) → has x now ≡ (has x old || has x names))
added_first (Ok a) old now names body is added = λ x. added x ∙ ap (λ (b : Bool). has x old || b) (sym (is x))
added_first (Err e) old now names body is added = tt

pub added_both : {E : Type 0} (r : Result (Unit {0}) E) (old mid now names : List (List ℕ)) (body other : List Stmt) → ((x : List ℕ) → has x names ≡ (assigns x body || assigns x other))
    → ((x : List ℕ) → has x mid ≡ (has x old || assigns x body)) → OnOk r ((x : List ℕ) → has x now ≡ (has x mid || assigns x other))
    → OnOk r ((x : List ℕ) → has x now ≡ (has x old || has x names))
added_both (Ok a) old mid now names body other is first second = λ x.
    second x ∙ ap (λ (b : Bool). b || assigns x other) (first x) ∙ or_grouped (has x old) (assigns x body) (assigns x other) ∙ ap (λ (b : Bool). has x old || b) (sym (is x))
added_both (Err e) old mid now names body other is first second = tt

pub added_none : (old names : List (List ℕ)) → ((x : List ℕ) → has x names ≡ false) → (x : List ℕ) → has x old ≡ (has x old || has x names)
added_none old names is x = sym (or_false (has x old)) ∙ ap (λ (b : Bool). has x old || b) (sym (is x))
