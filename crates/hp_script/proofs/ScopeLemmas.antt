-- What is known of names along a script: that which each way assigns has a type.
use Rattle.std.proofs.Common.{◌≡◌, ℕ, Bool, true, false, ◌&&◌, ◌||◌, if◌then◌else◌, List, [], ◌∷◌, ◌++◌, map, bytes_eq, Option, Some, None, refl, sym, ap, ◌∙◌, subst, is_some}
use Rattle.std.specs.List.{list_all}
use Rattle.hp_script.specs.declared.typed.Shape.{Shape}
use Rattle.hp_script.specs.declared.typed.Var.{Var}
use Rattle.hp_script.specs.Checked.{second_branch, behind_branches, behind_loop, after, start_of}
use Rattle.hp_script.specs.Mirror.{Block, done, assign, print, export, choose, loop}
use Rattle.hp_script.specs.Scope.{Scope, has, is_set, shape_among, variables_with, after_assignment}
use Rattle.hp_script.specs.Trees.{named}
use Rattle.hp_script.specs.Walk.{shape_of}
use Rattle.hp_script.proofs.TestLemmas.{same_bytes, and_left, and_right}

-- ---- ways

all_always : {A : Type 0} (xs : List A) → list_all (λ x. true) xs ≡ true
all_always [] = refl
all_always (x ∷ xs) = all_always xs

all_or : {A : Type 0} (b : Bool) (p : A → Bool) (xs : List A) → list_all (λ x. b || p x) xs ≡ (b || list_all p xs)
all_or true p xs = all_always xs
all_or false p xs = refl

set_each : (x y : List ℕ) (ways : List (List (List ℕ))) → is_set (map (λ way. x ∷ way) ways) y ≡ list_all (λ way. bytes_eq y x || has y way) ways
set_each x y [] = refl
set_each x y (way ∷ ways) = ap (λ (b : Bool). (bytes_eq y x || has y way) && b) (set_each x y ways)

-- an assignment sets its name on every way
pub set_assigned : (x y : List ℕ) (ways : List (List (List ℕ))) → is_set (map (λ way. x ∷ way) ways) y ≡ (bytes_eq y x || is_set ways y)
set_assigned x y ways = set_each x y ways ∙ all_or (bytes_eq y x) (has y) ways

and_assoc : (a b c : Bool) → (a && (b && c)) ≡ ((a && b) && c)
and_assoc true b c = refl
and_assoc false b c = refl

-- what both lists of ways set
pub set_both : (some others : List (List (List ℕ))) (y : List ℕ) → is_set (some ++ others) y ≡ (is_set some y && is_set others y)
set_both [] others y = refl
set_both (way ∷ ways) others y = ap (λ (b : Bool). has y way && b) (set_both ways others y) ∙ and_assoc (has y way) (is_set ways y) (is_set others y)

-- ---- variables

-- the variables here have types behind
unfoldable pub Grows : List Var → List Var → Type 0
Grows vars more = (y : List ℕ) → is_some (shape_among vars y) ≡ true → is_some (shape_among more y) ≡ true

found_again : (b : Bool) (var : Var) (rest more : Option Shape) → (is_some rest ≡ true → is_some more ≡ true)
    → is_some (if b then Some var.shape else rest) ≡ true → is_some (if b then Some var.shape else more) ≡ true
found_again true var rest more next e = refl
found_again false var rest more next e = next e

among_append : (vars more : List Var) (y : List ℕ) → is_some (shape_among vars y) ≡ true → is_some (shape_among (vars ++ more) y) ≡ true
among_append [] more y e = absurd cc
among_append (var ∷ vars) more y e = found_again (bytes_eq y var.name.bytes) var (shape_among vars y) (shape_among (vars ++ more) y) (among_append vars more y) e

found_last : (b c : Bool) (found : Shape) (rest : Option Shape) → (is_some rest ≡ true) → is_some (if b then Some found else rest) ≡ true
found_last true c found rest e = refl
found_last false c found rest e = e

own_found : (b : Bool) (a : Shape) → b ≡ true → is_some (if b then Some a else None) ≡ true
own_found true a e = refl
own_found false a e = absurd cc

among_last : (vars : List Var) (x y : List ℕ) (a : Shape) → bytes_eq y x ≡ true → is_some (shape_among (vars ++ record { name = named x; shape = a } ∷ []) y) ≡ true
among_last [] x y a e = own_found (bytes_eq y x) a e
among_last (var ∷ vars) x y a e = found_last (bytes_eq y var.name.bytes) true var.shape _ (among_last vars x y a e)

with_grows : (found : Option Shape) (vars : List Var) (x : List ℕ) (a : Shape) → Grows vars (variables_with found vars x a)
unfolding Grows
with_grows (Some first) vars x a y e = e
with_grows None vars x a y e = among_append vars (record { name = named x; shape = a } ∷ []) y e

with_own : (found : Option Shape) (vars : List Var) (x y : List ℕ) (a : Shape) → shape_among vars x ≡ found → bytes_eq y x ≡ true → is_some (shape_among (variables_with found vars x a) y) ≡ true
with_own (Some first) vars x y a is e =
    let same : x ≡ y = sym (same_bytes y x e) in
    subst (λ (z : List ℕ). is_some (shape_among vars z) ≡ true) same (ap is_some is)
with_own None vars x y a is e = among_last vars x y a e

pub assignment_grows : (s : Scope) (x : List ℕ) (found : Option Shape) → Grows s.vars (after_assignment s x found).vars
unfolding Grows
assignment_grows s x None y e = e
assignment_grows s x (Some a) y e = with_grows (shape_among s.vars x) s.vars x a y e

pub grows : (b : Block) (s : Scope) → Grows s.vars (after s b).vars
unfolding after Grows
grows done s y e = e
grows (assign at x t rest) s y e = grows rest (after_assignment s x (shape_of s t)) y (assignment_grows s x (shape_of s t) y e)
grows (print at t rest) s y e = grows rest s y e
grows (export at t rest) s y e = grows rest s y e
grows (choose at test body other rest) s y e =
    grows rest (behind_branches (after s body) (after (second_branch s (after s body)) other)) y (grows other (second_branch s (after s body)) y (grows body s y e))
grows (loop at test body rest) s y e = grows rest (behind_loop s (after s body)) y (grows body s y e)

-- ---- what is set has a type

unfoldable pub Known : Scope → Type 0
Known s = (y : List ℕ) → is_set s.ways y ≡ true → is_some (shape_among s.vars y) ≡ true

pub known_shape : (s : Scope) → Known s → (y : List ℕ) → is_set s.ways y ≡ true → is_some (shape_among s.vars y) ≡ true
unfolding Known
known_shape s known y e = known y e

known_either : (b : Bool) (s : Scope) (x y : List ℕ) (a : Shape) → Known s → bytes_eq y x ≡ b → (b || is_set s.ways y) ≡ true
    → is_some (shape_among (variables_with (shape_among s.vars x) s.vars x a) y) ≡ true
unfolding Known Grows
known_either true s x y a known is e = with_own (shape_among s.vars x) s.vars x y a refl is
known_either false s x y a known is e = with_grows (shape_among s.vars x) s.vars x a y (known y e)

pub known_assigned : (s : Scope) (x : List ℕ) (a : Shape) → Known s → Known (after_assignment s x (Some a))
unfolding Known
known_assigned s x a known y e = known_either (bytes_eq y x) s x y a known refl (sym (set_assigned x y s.ways) ∙ e)

pub known_second : (s first : Scope) → Known s → Grows s.vars first.vars → Known (second_branch s first)
unfolding Known Grows
known_second s first known more y e = more y (known y e)

pub known_branches : (first second : Scope) → Known second → Known (behind_branches first second)
unfolding Known
known_branches first second known y e = known y (and_right (is_set first.ways y) (is_set second.ways y) (sym (set_both first.ways second.ways y) ∙ e))

pub known_loop : (s body : Scope) → Known s → Grows s.vars body.vars → Known (behind_loop s body)
unfolding Known Grows
known_loop s body known more y e = more y (known y (and_left (is_set s.ways y) (is_set body.ways y) (sym (set_both s.ways body.ways y) ∙ e)))

pub known_start : (body : Block) → Known (start_of body)
unfolding Known
known_start body y e = absurd cc

known_any : (s : Scope) (x : List ℕ) (found : Option Shape) → Known s → Known (after_assignment s x found)
known_any s x None known = known
known_any s x (Some a) known = known_assigned s x a known

pub known_after : (b : Block) (s : Scope) → Known s → Known (after s b)
unfolding after
known_after done s known = known
known_after (assign at x t rest) s known = known_after rest (after_assignment s x (shape_of s t)) (known_any s x (shape_of s t) known)
known_after (print at t rest) s known = known_after rest s known
known_after (export at t rest) s known = known_after rest s known
known_after (choose at test body other rest) s known =
    known_after rest (behind_branches (after s body) (after (second_branch s (after s body)) other))
    (known_branches (after s body) (after (second_branch s (after s body)) other) (known_after other (second_branch s (after s body)) (known_second s (after s body) known (grows body s))))
known_after (loop at test body rest) s known = known_after rest (behind_loop s (after s body)) (known_loop s (after s body) known (grows body s))
