-- A block that passes the tests fits by the relation.
use Rattle.std.proofs.Common.{◌≡◌, ℕ, Bool, true, false, not, ◌&&◌, if◌then◌else◌, List, [], ◌∷◌, bytes_eq, Option, Some, None, refl, sym, ap, ap₂, ◌∙◌, subst, is_some}
use Rattle.std.specs.Option.{option_or}
use Rattle.hp_word.specs.declared.name.Name.{Name}
use Rattle.hp_word.specs.declared.place.Place.{Place}
use Rattle.hp_script.specs.declared.rule.Refusal.{Refusal}
use Rattle.hp_script.specs.declared.rule.Rule.TheVariants.{MaybeUnset, WrongType, TypeChanged, WrongCount}
use Rattle.hp_script.specs.declared.typed.Shape.{Shape}
use Rattle.hp_script.specs.declared.typed.Shape.TheVariants.{Int, Bool as Truth, Ints, Bools, Matrix, Frame}
use Rattle.hp_script.specs.declared.function.Function.{Function}
use Rattle.hp_script.specs.declared.function.Function.TheVariants as function
use Rattle.hp_script.specs.Breaks.{unless, name_break, is_frame, reach_break, place_of, distance_of, is_flipped, with_function, call_break, result_break, count_of}
use Rattle.hp_script.specs.Checked.{same_names, same_shape, keeps_shape, is_printed, is_test, second_branch, behind_branches, behind_loop, after, break_in}
use Rattle.hp_script.specs.Fitting.{CanPrint, print_number, print_truth, print_numbers, print_truths, FitsBlock, fits_done, fits_first, fits_again, fits_print, fits_export, fits_if, fits_while}
use Rattle.hp_script.specs.Functions.{function_named, takes_count}
use Rattle.hp_script.specs.Mirror.{Head, Tree, number, truth, text, variable, column, field, unary, binary, index, call, Block, done, assign, print, export, choose, loop}
use Rattle.hp_script.specs.Scope.{Role, element, window, Scope, is_in_lambda, shape_among, role_of, after_assignment}
use Rattle.hp_script.specs.Shaped.{HasShape}
use Rattle.hp_script.specs.Trees as trees
use Rattle.hp_script.specs.Results.{of_both, index_result}
use Rattle.hp_script.specs.Typing.{name_shape, is_window}
use Rattle.hp_script.specs.Walk.{found_of, shape_of, break_of, parts_break, found_among, finds_of, site}
use Rattle.hp_script.proofs.TestLemmas.{passes, same_bytes, IsThere, there, or_left, or_right, and_left, and_right}
use Rattle.hp_script.proofs.Soundness.{sound}
use Rattle.hp_script.proofs.ScopeLemmas.{Known, known_shape, known_assigned, known_second, known_branches, known_loop, known_after, grows}

-- ---- an expression that passes has a type

name_there : (role : Option Role) (s : Scope) (at : Place) (x : List ℕ) → Known s → name_break role s at x ≡ None → IsThere (name_shape role (shape_among s.vars x))
unfolding name_break
name_there (Some (element kind)) s at x known e = record { value = kind; is = refl }
name_there (Some window) s at x known e = absurd cc
name_there None s at x known e =
    there (shape_among s.vars x) (known_shape s known x (passes _ at MaybeUnset (or_right _ _ (or_left _ _ e))))

index_there : (t : Bool) (s : Scope) (h : Head) (x i : Tree)
    → (if t then reach_break (place_of x) h.at (distance_of i) else option_or (break_of s x) (option_or (break_of s i) (unless (not (is_in_lambda s) && is_some (if t then Some Int else of_both index_result (shape_of s x) (shape_of s i))) h.at WrongType))) ≡ None
    → IsThere (if t then Some Int else of_both index_result (shape_of s x) (shape_of s i))
index_there true s h x i e = record { value = Int; is = refl }
index_there false s h x i e =
    there _ (and_right (not (is_in_lambda s)) _ (passes _ h.at WrongType (or_right _ _ (or_right _ _ e))))

never : {A : Type 0} (a : Option Refusal) (r : Refusal) → option_or a (Some r) ≡ None → A
never None r e = absurd cc
never (Some x) r e = absurd cc

call_there : (s : Scope) (f : Function) (at : Place) (o : Option Shape) → call_break s f at o ≡ None → IsThere o
unfolding call_break result_break
call_there s f at (Some a) e = record { value = a; is = refl }
call_there s function.Transpose at None e = absurd cc
call_there s _ at None e = never _ _ e

with_there : (s : Scope) (at : Place) (o : Option Function) (first second : Function → Option Refusal) (shape : Option Shape)
    → with_function at o (λ f. option_or (first f) (option_or (second f) (call_break s f at shape))) ≡ None → IsThere shape
with_there s at None first second shape e = absurd cc
with_there s at (Some f) first second shape e = call_there s f at shape (or_right (second f) _ (or_right (first f) _ e))

pub shape_there : (x : Tree) (s : Scope) → Known s → break_of s x ≡ None → IsThere (shape_of s x)
unfolding found_of
shape_there (number h value) s known e = record { value = Int; is = refl }
shape_there (truth h holds) s known e = record { value = Truth; is = refl }
shape_there (text h bytes) s known e = absurd cc
shape_there (variable h x) s known e = name_there (role_of s.parameters x) s h.at x known e
shape_there (column h c) s known e = record { value = Ints; is = refl }
shape_there (field h x c) s known e = record { value = Ints; is = refl }
shape_there (unary h op dotted x) s known e = there _ (passes _ h.at WrongType (or_right (break_of s x) _ e))
shape_there (binary h op dotted x y) s known e =
    there _ (passes _ h.at WrongType (or_right (if is_flipped s op dotted y then parts_break s y else break_of s y) _ (or_right (break_of s x) _ e)))
shape_there (index h x i) s known e = index_there (is_window s x) s h x i e
shape_there (call h name dotted xs) s known e =
    with_there s h.at (function_named dotted name) (λ (f : Function). unless (takes_count f (count_of xs)) h.at WrongCount)
    (λ (f : Function). (found_among f (finds_of (site s h.at f) xs)).refusal) (shape_of s (call h name dotted xs)) e

-- ---- one type

same_name : (x y : Name) → bytes_eq x.bytes y.bytes ≡ true → x ≡ y
same_name x y e = ap (λ (b : List ℕ). trees.named b) (same_bytes x.bytes y.bytes e)

names_same : (xs ys : List Name) → same_names xs ys ≡ true → xs ≡ ys
names_same [] [] e = refl
names_same (x ∷ xs) (y ∷ ys) e =
    ap₂ (λ (z : Name) (zs : List Name). z ∷ zs) (same_name x y (and_left _ _ e)) (names_same xs ys (and_right _ _ e))
names_same [] (y ∷ ys) e = absurd cc
names_same (x ∷ xs) [] e = absurd cc

pub shapes_same : (a b : Shape) → same_shape a b ≡ true → a ≡ b
shapes_same Int Int e = refl
shapes_same Truth Truth e = refl
shapes_same Ints Ints e = refl
shapes_same Bools Bools e = refl
shapes_same Matrix Matrix e = refl
shapes_same (Frame xs) (Frame ys) e = ap (λ (l : List Name). Frame l) (names_same xs ys e)
shapes_same _ _ e = absurd cc

-- ---- statements

-- the type of an expression that passes
pub record IsShaped (s : Scope) (x : Tree) : Type 0 where
  pub shape : Shape
  pub fits : HasShape s x shape
  pub is : shape_of s x ≡ Some shape

pub passing : (s : Scope) (x : Tree) → Known s → break_of s x ≡ None → IsShaped s x
passing s x known e = let o = shape_there x s known e in record { shape = o.value; fits = sound x s o.value e o.is; is = o.is }

printed : (o : Option Shape) (a : Shape) → o ≡ Some a → is_printed o ≡ true → CanPrint a
printed (Some Int) a e p = let same : Int ≡ a = cc in subst (λ (k : Shape). CanPrint k) same print_number
printed (Some Truth) a e p = let same : Truth ≡ a = cc in subst (λ (k : Shape). CanPrint k) same print_truth
printed (Some Ints) a e p = let same : Ints ≡ a = cc in subst (λ (k : Shape). CanPrint k) same print_numbers
printed (Some Bools) a e p = let same : Bools ≡ a = cc in subst (λ (k : Shape). CanPrint k) same print_truths
printed _ a e p = absurd cc

tested : (o : Option Shape) → is_test o ≡ true → o ≡ Some Truth
tested (Some Truth) e = refl
tested _ e = absurd cc

record IsFrame (o : Option Shape) : Type 0 where
  columns : List Name
  is : o ≡ Some (Frame columns)

framed : (o : Option Shape) → is_frame o ≡ true → IsFrame o
framed (Some (Frame columns)) e = record { columns = columns; is = refl }
framed _ e = absurd cc

assign_fits : (found : Option Shape) (s t : Scope) (at : Place) (x : List ℕ) (e : Tree) (rest : Block) (a : Shape) → shape_among s.vars x ≡ found
    → keeps_shape found (Some a) ≡ true → HasShape s e a → FitsBlock (after_assignment s x (Some a)) rest t → FitsBlock s (assign at x e rest) t
assign_fits None s t at x e rest a is keeps p next = fits_first p is next
assign_fits (Some first) s t at x e rest a is keeps p next =
    let same : first ≡ a = shapes_same first a keeps in
    fits_again p (is ∙ ap (λ (k : Shape). Some k) same) next

pub block_fits : (b : Block) (s : Scope) → Known s → break_in s b ≡ None → FitsBlock s b (after s b)
unfolding break_in after
block_fits done s known e = fits_done
block_fits (assign at x t rest) s known e =
    let o = passing s t known (or_left _ _ e) in
    let keeps : keeps_shape (shape_among s.vars x) (Some o.shape) ≡ true =
    subst (λ (k : Option Shape). keeps_shape (shape_among s.vars x) k ≡ true) o.is (passes _ at TypeChanged (or_left _ _ (or_right _ _ e))) in
    let passed : break_in (after_assignment s x (Some o.shape)) rest ≡ None = subst (λ (k : Option Shape). break_in (after_assignment s x k) rest ≡ None) o.is (or_right _ _ (or_right _ _ e)) in
    let next = block_fits rest (after_assignment s x (Some o.shape)) (known_assigned s x o.shape known) passed in
    subst (λ (k : Option Shape). FitsBlock s (assign at x t rest) (after (after_assignment s x k) rest)) (sym o.is)
    (assign_fits (shape_among s.vars x) s (after (after_assignment s x (Some o.shape)) rest) at x t rest o.shape refl keeps o.fits next)
block_fits (print at t rest) s known e =
    let k = passing s t known (or_left _ _ e) in
    fits_print k.fits (printed (shape_of s t) k.shape k.is (passes _ at WrongType (or_left _ _ (or_right _ _ e)))) (block_fits rest s known (or_right _ _ (or_right _ _ e)))
block_fits (export at t rest) s known e =
    let o = framed (shape_of s t) (passes _ at WrongType (or_left _ _ (or_right _ _ e))) in
    let p = sound t s (Frame o.columns) (or_left _ _ e) o.is in
    fits_export p (block_fits rest s known (or_right _ _ (or_right _ _ e)))
block_fits (choose at t body other rest) s known e =
    let second = second_branch s (after s body) in
    let joined = behind_branches (after s body) (after second other) in
    let known_other = known_second s (after s body) known (grows body s) in
    let tests = or_right (break_of s t) _ e in
    let branches = or_right (unless (is_test (shape_of s t)) at WrongType) _ tests in
    let behind = or_right (break_in s body) (option_or (break_in second other) (break_in joined rest)) branches in
    fits_if (sound t s Truth (or_left _ _ e) (tested (shape_of s t) (passes _ at WrongType (or_left _ _ tests)))) (block_fits body s known (or_left _ _ branches))
    (block_fits other second known_other (or_left (break_in second other) (break_in joined rest) behind))
    (block_fits rest joined (known_branches (after s body) (after second other) (known_after other second known_other)) (or_right (break_in second other) (break_in joined rest) behind))
block_fits (loop at t body rest) s known e =
    let tests = or_right (break_of s t) _ e in
    let behind = or_right (unless (is_test (shape_of s t)) at WrongType) (option_or (break_in s body) (break_in (behind_loop s (after s body)) rest)) tests in
    fits_while (sound t s Truth (or_left _ _ e) (tested (shape_of s t) (passes _ at WrongType (or_left _ _ tests)))) (block_fits body s known (or_left _ _ behind))
    (block_fits rest (behind_loop s (after s body)) (known_loop s (after s body) known (grows body s)) (or_right (break_in s body) _ behind))
