-- What is known of variables along a script: types stay, what is surely set stays so, and values follow assignments.
use Rattle.std.proofs.Common.{◌≡◌, ℕ, Bool, true, false, ◌||◌, cond, bytes_eq, List, [], ◌∷◌, ◌++◌, map, find, Option, Some, None, option_map, IsSome, refl, sym, ap, ap₂, subst, subst₂, ◌∙◌}
use Rattle.std.proofs.lemmas.Cmp.{nat_list_eq_equiv}
use Rattle.std.proofs.lemmas.List.Folds.{list_all-append}
use Rattle.std.proofs.lemmas.Slice.Eq.{bytes_eq-Decides}
use Rattle.hp_word.specs.declared.name.Name.{Name}
use Rattle.hp_script.specs.declared.typed.Shape.{Shape}
use Rattle.hp_script.specs.declared.typed.Shape.TheVariants as shape
use Rattle.hp_script.specs.declared.typed.Var.{Var}
use Rattle.hp_script.specs.Checked.{same_names, same_shape, keeps_shape, second_branch, behind_branches, behind_loop, after}
use Rattle.hp_script.specs.Mirror.{Block, done, assign, print, export, choose, loop}
use Rattle.hp_script.specs.Scope.{Scope, has, is_set, shape_among, variables_with, after_assignment}
use Rattle.hp_script.specs.Trees.{named}
use Rattle.hp_script.specs.Walk.{shape_of}
use Rattle.hp_script.proofs.FittingBlocks.{set_before}
use Rattle.hp_meaning.specs.declared.value.Value.{Value}
use Rattle.hp_meaning.specs.declared.value.Var.{Var as Variable}
use Rattle.hp_meaning.specs.Fitting.{HasShape, Bound, bound, Keeps, AreTyped}
use Rattle.hp_meaning.specs.Scopes.{var, value_named, assigned}
use Rattle.hp_script.proofs.TestLemmas.{and_left, and_right, and_both}

-- ---- types that agree

names_same : (xs ys : List Name) → same_names xs ys ≡ true → xs ≡ ys
names_same [] [] e = refl
names_same [] (y ∷ ys) e = absurd cc
names_same (x ∷ xs) [] e = absurd cc
names_same (x ∷ xs) (y ∷ ys) e =
    let first : x.bytes ≡ y.bytes = (bytes_eq-Decides x.bytes y.bytes).0 (and_left (bytes_eq x.bytes y.bytes) (same_names xs ys) e) in
    ap₂ (λ name names. named name ∷ names) first (names_same xs ys (and_right (bytes_eq x.bytes y.bytes) (same_names xs ys) e))

shapes_same : (a b : Shape) → same_shape a b ≡ true → a ≡ b
shapes_same shape.Int shape.Int e = refl
shapes_same shape.Bool shape.Bool e = refl
shapes_same shape.Ints shape.Ints e = refl
shapes_same shape.Bools shape.Bools e = refl
shapes_same shape.Matrix shape.Matrix e = refl
shapes_same (shape.Frame xs) (shape.Frame ys) e = ap shape.Frame (names_same xs ys e)
shapes_same _ _ e = absurd cc

-- ---- types of variables

found_step : (same : Bool) (kind k : Shape) (first all : Option Shape) → (first ≡ Some k → all ≡ Some k) → cond same (Some kind) first ≡ Some k → cond same (Some kind) all ≡ Some k
found_step true kind k first all next h = h
found_step false kind k first all next h = next h

found_before : (vars more : List Var) (x : List ℕ) (k : Shape) → shape_among vars x ≡ Some k → shape_among (vars ++ more) x ≡ Some k
found_before [] more x k h = absurd cc
found_before (v ∷ vars) more x k h = found_step (bytes_eq x v.name.bytes) v.shape k (shape_among vars x) (shape_among (vars ++ more) x) (found_before vars more x k) h

found_with : (first : Option Shape) (vars : List Var) (x y : List ℕ) (kind k : Shape) → shape_among vars y ≡ Some k → shape_among (variables_with first vars x kind) y ≡ Some k
found_with (Some first) vars x y kind k h = h
found_with None vars x y kind k h = found_before vars _ y k h

itself : (x : List ℕ) → bytes_eq x x ≡ true
itself x = (bytes_eq-Decides x x).1 refl

last_step : (same : Bool) (kind k : Shape) (first all : Option Shape) → (first ≡ None → all ≡ Some k) → cond same (Some kind) first ≡ None → cond same (Some kind) all ≡ Some k
last_step true kind k first all next h = absurd cc
last_step false kind k first all next h = next h

found_last : (vars : List Var) (x : List ℕ) (kind : Shape) → shape_among vars x ≡ None → shape_among (vars ++ record { name = named x; shape = kind } ∷ []) x ≡ Some kind
found_last [] x kind h = rw (itself x) refl
found_last (v ∷ vars) x kind h = last_step (bytes_eq x v.name.bytes) v.shape kind (shape_among vars x) _ (found_last vars x kind) h

-- the name that is assigned has the type of its value
found_own : (first : Option Shape) (vars : List Var) (x : List ℕ) (kind : Shape) → shape_among vars x ≡ first → keeps_shape first (Some kind) ≡ true → shape_among (variables_with first vars x kind) x ≡ Some kind
found_own (Some first) vars x kind e keeps = e ∙ ap Some (shapes_same first kind keeps)
found_own None vars x kind e keeps = found_last vars x kind e

-- the variables of one point keep their types at another
pub record Stays (s t : Scope) : Type 0 where
  pub stays : (x : List ℕ) (k : Shape) → shape_among s.vars x ≡ Some k → shape_among t.vars x ≡ Some k

pub stays_assigned : (s : Scope) (x : List ℕ) (found : Option Shape) → Stays s (after_assignment s x found)
stays_assigned s x None = record { stays = λ y k h. h }
stays_assigned s x (Some kind) = record { stays = λ y k h. found_with (shape_among s.vars x) s.vars x y kind k h }

pub stays_after : (s : Scope) (b : Block) → Stays s (after s b)
unfolding after
stays_after s done = record { stays = λ x k h. h }
stays_after s (assign at x e rest) =
    record { stays = λ y k h. (stays_after (after_assignment s x (shape_of s e)) rest).stays y k ((stays_assigned s x (shape_of s e)).stays y k h) }
stays_after s (print at e rest) = stays_after s rest
stays_after s (export at e rest) = stays_after s rest
stays_after s (choose at test body other rest) = record {
  stays = λ y k h.
      (stays_after (behind_branches (after s body) (after (second_branch s (after s body)) other)) rest).stays y k
      ((stays_after (second_branch s (after s body)) other).stays y k ((stays_after s body).stays y k h));
}
stays_after s (loop at test body rest) = record { stays = λ y k h. (stays_after (behind_loop s (after s body)) rest).stays y k ((stays_after s body).stays y k h) }

-- ---- what is surely set

set_assigned : (ways : List (List (List ℕ))) (x y : List ℕ) → is_set ways y ≡ true → is_set (map (λ way. x ∷ way) ways) y ≡ true
set_assigned [] x y h = refl
set_assigned (way ∷ ways) x y h =
    and_both (bytes_eq y x || has y way) _ (or_second (bytes_eq y x) (has y way) (and_left (has y way) _ h)) (set_assigned ways x y (and_right (has y way) _ h))
  where
    or_second : (a b : Bool) → b ≡ true → (a || b) ≡ true
    or_second true b e = refl
    or_second false b e = e

pub set_first : (first second : List (List (List ℕ))) (y : List ℕ) → is_set (first ++ second) y ≡ true → is_set first y ≡ true
set_first first second y h = and_left (is_set first y) (is_set second y) (sym (list_all-append (λ (way : List (List ℕ)). has y way) first second) ∙ h)

pub set_second : (first second : List (List (List ℕ))) (y : List ℕ) → is_set (first ++ second) y ≡ true → is_set second y ≡ true
set_second first second y h = and_right (is_set first y) (is_set second y) (sym (list_all-append (λ (way : List (List ℕ)). has y way) first second) ∙ h)

set_both : (first second : List (List (List ℕ))) (y : List ℕ) → is_set first y ≡ true → is_set second y ≡ true → is_set (first ++ second) y ≡ true
set_both first second y h k = list_all-append (λ (way : List (List ℕ)). has y way) first second ∙ and_both (is_set first y) (is_set second y) h k

set_found : (s : Scope) (x y : List ℕ) (found : Option Shape) → is_set s.ways y ≡ true → is_set (after_assignment s x found).ways y ≡ true
set_found s x y None h = h
set_found s x y (Some kind) h = set_assigned s.ways x y h

-- what is set stays set
pub set_after : (s : Scope) (b : Block) (y : List ℕ) → is_set s.ways y ≡ true → is_set (after s b).ways y ≡ true
unfolding after
set_after s done y h = h
set_after s (assign at x e rest) y h = set_after (after_assignment s x (shape_of s e)) rest y (set_found s x y (shape_of s e) h)
set_after s (print at e rest) y h = set_after s rest y h
set_after s (export at e rest) y h = set_after s rest y h
set_after s (choose at test body other rest) y h =
    set_after (behind_branches (after s body) (after (second_branch s (after s body)) other)) rest y
    (set_both (after s body).ways (after (second_branch s (after s body)) other).ways y (set_after s body y h) (set_after (second_branch s (after s body)) other y h))
set_after s (loop at test body rest) y h =
    set_after (behind_loop s (after s body)) rest y (set_both s.ways (after s body).ways y h (set_after s body y h))

-- ---- values of variables

abbrev value_in : Option Variable → Option Value
value_in found = option_map (λ v. v.value) found

abbrev found_as : List ℕ → List Variable → Option Variable
found_as name vars = find (λ v. bytes_eq v.name.bytes name) vars

own_step : (x : List ℕ) (a : Value) (v : Variable) (vars rest : List Variable) (same : Bool) → bytes_eq v.name.bytes x ≡ same → value_in (found_as x rest) ≡ Some a
    → value_in (found_as x (cond same (var x a ∷ vars) (v ∷ rest))) ≡ Some a
own_step x a v vars rest true e h = rw (itself x) refl
own_step x a v vars rest false e h = rw e h

value_own : (x : List ℕ) (a : Value) (vars : List Variable) → value_named x (assigned x a vars) ≡ Some a
unfolding value_named assigned
value_own x a [] = rw (itself x) refl
value_own x a (v ∷ vars) = own_step x a v vars (assigned x a vars) (bytes_eq v.name.bytes x) refl (value_own x a vars)

passed_by : (same : Bool) (v : Variable) (p q : Option Variable) → value_in p ≡ value_in q → value_in (cond same (Some v) p) ≡ value_in (cond same (Some v) q)
passed_by true v p q e = refl
passed_by false v p q e = e

other_step : (x y : List ℕ) (a : Value) (v : Variable) (vars rest : List Variable) (same : Bool) → bytes_eq v.name.bytes x ≡ same → bytes_eq x y ≡ false → value_in (found_as y rest) ≡ value_in (found_as y vars)
    → value_in (found_as y (cond same (var x a ∷ vars) (v ∷ rest))) ≡ value_in (found_as y (v ∷ vars))
other_step x y a v vars rest true e other h =
    let own : bytes_eq v.name.bytes y ≡ false = ap (λ n. bytes_eq n y) ((bytes_eq-Decides v.name.bytes x).0 e) ∙ other in
    rw (other, own) refl
other_step x y a v vars rest false e other h = passed_by (bytes_eq v.name.bytes y) v (found_as y rest) (found_as y vars) h

value_other : (x y : List ℕ) (a : Value) (vars : List Variable) → bytes_eq x y ≡ false → value_named y (assigned x a vars) ≡ value_named y vars
unfolding value_named assigned
value_other x y a [] other = rw other refl
value_other x y a (v ∷ vars) other = other_step x y a v vars (assigned x a vars) (bytes_eq v.name.bytes x) refl other (value_other x y a vars other)

-- ---- values that are kept

bound_so : {kind : Shape} {a : Value} {found : Option Shape} {value : Option Value} → found ≡ Some kind → value ≡ Some a → HasShape kind a → Bound found value
bound_so {kind} {a} e d h = subst₂ (λ found value. Bound found value) (sym e) (sym d) (bound h)

bound_moves : {found : Option Shape} {value : Option Value} (other : Option Shape) → Bound found value → ((k : Shape) → found ≡ Some k → other ≡ Some k) → Bound other value
bound_moves {value = value} other (bound {kind = kind} {a = a} h) next = subst (λ o. Bound o (Some a)) (sym (next kind refl)) (bound h)

-- what is kept at one point is kept at another where no more is set
pub keeps_up : {s t : Scope} {vars : List Variable} → Stays s t → ((x : List ℕ) → is_set t.ways x ≡ true → is_set s.ways x ≡ true) → Keeps s vars → Keeps t vars
keeps_up {t = t} stays less keeps = record { known = λ x h. bound_moves (shape_among t.vars x) (keeps.known x (less x h)) (λ k e. stays.stays x k e) }

pub some_shape : (found : Option Shape) → IsSome found → (k : Shape) × (found ≡ Some k)
some_shape None h = absurd cc
some_shape (Some k) h = (k, refl)

-- what is kept behind a block is kept before it
pub keeps_down : {vars : List Variable} (s : Scope) (b : Block) → ((x : List ℕ) → is_set s.ways x ≡ true → IsSome (shape_among s.vars x)) → Keeps (after s b) vars → Keeps s vars
keeps_down s b typed keeps = record {
  known = λ x h.
      let own = some_shape (shape_among s.vars x) (typed x h) in
      bound_moves (shape_among s.vars x) (keeps.known x (set_after s b x h)) (λ k e. own.1 ∙ (sym ((stays_after s b).stays x own.0 own.1) ∙ e));
}

assigned_known : (s : Scope) (x y : List ℕ) (vars : List Variable) (kind : Shape) (a : Value) (same : Bool) → bytes_eq y x ≡ same → Keeps s vars → keeps_shape (shape_among s.vars x) (Some kind) ≡ true → HasShape kind a
    → is_set (map (λ way. x ∷ way) s.ways) y ≡ true → Bound (shape_among (variables_with (shape_among s.vars x) s.vars x kind) y) (value_named y (assigned x a vars))
assigned_known s x y vars kind a true e keeps first h set =
    let is : y ≡ x = (bytes_eq-Decides y x).0 e in
    bound_so (ap (shape_among (variables_with (shape_among s.vars x) s.vars x kind)) is ∙ found_own (shape_among s.vars x) s.vars x kind refl first)
    (ap (λ n. value_named n (assigned x a vars)) is ∙ value_own x a vars) h
assigned_known s x y vars kind a false e keeps first h set =
    subst (λ value. Bound (shape_among (variables_with (shape_among s.vars x) s.vars x kind) y) value) (sym (value_other x y a vars (nat_list_eq_equiv.symm x y ∙ e)))
    (bound_moves _ (keeps.known y (set_before s.ways x y e set)) (λ k d. found_with (shape_among s.vars x) s.vars x y kind k d))

pub keeps_assigned : {s : Scope} {vars : List Variable} {kind : Shape} {a : Value} (x : List ℕ) → Keeps s vars → keeps_shape (shape_among s.vars x) (Some kind) ≡ true → HasShape kind a
    → Keeps (after_assignment s x (Some kind)) (assigned x a vars)
keeps_assigned {s} {vars} {kind} {a} x keeps first h = record { known = λ y set. assigned_known s x y vars kind a (bytes_eq y x) refl keeps first h set }

-- ---- values that have types

pub stays_on : {s t u : Scope} → Stays s t → Stays t u → Stays s u
stays_on h k = record { stays = λ x kind e. k.stays x kind (h.stays x kind e) }

-- the name that is assigned has the type of its value from there on
pub own_type : (s last : Scope) (x : List ℕ) (kind : Shape) → keeps_shape (shape_among s.vars x) (Some kind) ≡ true → Stays (after_assignment s x (Some kind)) last → shape_among last.vars x ≡ Some kind
own_type s last x kind first stays = stays.stays x kind (found_own (shape_among s.vars x) s.vars x kind refl first)

assigned_type : (last : Scope) (x y : List ℕ) (vars : List Variable) (kind : Shape) (a b : Value) (same : Bool) → bytes_eq y x ≡ same → AreTyped last vars → shape_among last.vars x ≡ Some kind → HasShape kind a
    → value_named y (assigned x a vars) ≡ Some b → Bound (shape_among last.vars y) (Some b)
assigned_type last x y vars kind a b true e typed own h found =
    let is : y ≡ x = (bytes_eq-Decides y x).0 e in
    bound_so (ap (shape_among last.vars) is ∙ own) (sym found ∙ ap (λ n. value_named n (assigned x a vars)) is ∙ value_own x a vars) h
assigned_type last x y vars kind a b false e typed own h found = typed.typed y b (sym (value_other x y a vars (nat_list_eq_equiv.symm x y ∙ e)) ∙ found)

pub typed_assigned : {last : Scope} {vars : List Variable} {kind : Shape} {a : Value} (x : List ℕ) → AreTyped last vars → shape_among last.vars x ≡ Some kind → HasShape kind a → AreTyped last (assigned x a vars)
typed_assigned {last} {vars} {kind} {a} x typed own h = record { typed = λ y b found. assigned_type last x y vars kind a b (bytes_eq y x) refl typed own h found }
