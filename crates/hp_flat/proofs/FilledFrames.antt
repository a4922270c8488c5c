-- Each frame of a script in which no rule breaks has a column, and none a name twice.
use Rattle.std.proofs.Common.{◌≡◌, ℕ, ◌<◌, Bool, true, false, ◌||◌, cond, bytes_eq, List, [], ◌∷◌, ◌++◌, length, Option, Some, None, refl, sym, ap, ap₂, subst, ◌∙◌, arith}
use Rattle.std.proofs.lemmas.Bool.{or_left, or_right}
use Rattle.std.proofs.lemmas.Slice.Eq.{bytes_eq-Decides}
use Rattle.hp_word.specs.declared.name.Name.{Name}
use Rattle.hp_script.specs.declared.typed.Shape.{Shape}
use Rattle.hp_script.specs.declared.typed.Shape.TheVariants.{Frame}
use Rattle.hp_script.specs.declared.typed.Var.{Var}
use Rattle.hp_script.specs.Fitting.{FitsBlock, fits_done, fits_first, fits_again, fits_print, fits_export, fits_if, fits_while}
use Rattle.hp_script.specs.Mirror.{Tree, Args, Block, none}
use Rattle.hp_script.specs.Scope.{Scope, Parameter, Role, role_of, are_some, has, has_column, shape_among, variables_with}
use Rattle.hp_script.specs.Shaped.{IsOutside, IsArrayOf, array_of_numbers, array_of_truths, HasShape, of_parameter, of_variable, of_scalar_variable, of_element, of_elements, of_map, of_fill, of_vcat, of_frame, of_read, of_filter, of_join, of_aggregate, of_sort, AreColumns, no_more_columns, one_column, AreGiven, no_more_given, one_given, AreMeasures, no_more_measures, one_measure}
use Rattle.hp_script.specs.Breaks.{repeats}
use Rattle.hp_script.specs.Trees as trees
use Rattle.hp_script.proofs.TestLemmas.{bytes_same}
use Rattle.hp_flat.proofs.VariableNames.{outside_block}

-- outside of lambdas no name is a parameter
pub no_parameter : {A : Type 0} (parameters : List Parameter) (p : List ℕ) (role : Role) → are_some parameters ≡ false → role_of parameters p ≡ Some role → A
no_parameter [] p role out is = absurd cc
no_parameter (parameter ∷ parameters) p role out is = absurd cc

-- ---- names

-- names of which none is among those before, or stands twice
data AreNew : (before : List (List ℕ)) → List Name → Type 0 where
  no_more_new : {before : List (List ℕ)} → AreNew before []
  one_new : {before : List (List ℕ)} {c : List ℕ} {names : List Name} → has c before ≡ false → AreNew (before ++ c ∷ []) names → AreNew before (trees.named c ∷ names)

not_before : (c d : List ℕ) (before : List (List ℕ)) → has c before ≡ true → has d before ≡ false → bytes_eq c d ≡ false
not_before c d before in_it new = by_test (bytes_eq c d) refl
  where
    by_test : (same : Bool) → bytes_eq c d ≡ same → same ≡ false
    by_test false e = refl
    by_test true e =
        let one : c ≡ d = (bytes_eq-Decides c d).0 e in
        let both : true ≡ false = sym in_it ∙ ap (λ (x : List ℕ). has x before) one ∙ new in
        absurd cc

has_more : (c : List ℕ) (before more : List (List ℕ)) → has c before ≡ true → has c (before ++ more) ≡ true
has_more c [] more e = absurd cc
has_more c (x ∷ before) more e = step (bytes_eq c x) (has c before) (has c (before ++ more)) (has_more c before more) e
  where
    step : (same found all : Bool) → (found ≡ true → all ≡ true) → (same || found) ≡ true → (same || all) ≡ true
    step true found all next e = refl
    step false found all next e = next e

has_last : (c : List ℕ) (before : List (List ℕ)) → has c (before ++ c ∷ []) ≡ true
has_last c [] = or_left (bytes_eq c c) false (bytes_same c c refl)
has_last c (x ∷ before) = or_right (bytes_eq c x) (has c (before ++ c ∷ [])) (has_last c before)

apart_from : {before : List (List ℕ)} {names : List Name} (c : List ℕ) → AreNew before names → has c before ≡ true → has_column c names ≡ false
apart_from c no_more_new in_it = refl
apart_from {before = before} c (one_new {c = d} {names = names} new more) in_it =
    ap₂ (λ (a b : Bool). a || b) (not_before c d before in_it new) (apart_from c more (has_more c before (d ∷ []) in_it))

once_each : {before : List (List ℕ)} {names : List Name} → AreNew before names → repeats names ≡ false
once_each no_more_new = refl
once_each {before = before} (one_new {c = c} new more) = ap₂ (λ (a b : Bool). a || b) (apart_from c more (has_last c before)) (once_each more)

given_new : {s : Scope} {before : List (List ℕ)} {xs : Args} {names : List Name} → AreGiven s before xs names → AreNew before names
given_new no_more_given = no_more_new
given_new (one_given p new more) = one_new new (given_new more)

columns_new : {before : List (List ℕ)} {xs : Args} {names : List Name} → AreColumns before xs names → AreNew before names
columns_new no_more_columns = no_more_new
columns_new (one_column new more) = one_new new (columns_new more)

measures_new : {columns : List Name} {before : List (List ℕ)} {xs : Args} {names : List Name} → AreMeasures columns before xs names → AreNew before names
measures_new no_more_measures = no_more_new
measures_new (one_measure is new more) = one_new new (measures_new more)

-- ---- types

-- a frame has a column, and no name twice
abbrev pub HasColumns : Shape → Type 0
HasColumns (Frame columns) = (0 < length columns) × (repeats columns ≡ false)
HasColumns _ = Unit {0}

element_filled : {one many : Shape} → IsArrayOf one many → HasColumns one
element_filled array_of_numbers = tt
element_filled array_of_truths = tt

array_filled : {one many : Shape} → IsArrayOf one many → HasColumns many
array_filled array_of_numbers = tt
array_filled array_of_truths = tt

pub joined_column : (c : List ℕ) (left right : List Name) → has_column c left ≡ true → 0 < length (left ++ right)
joined_column c [] right e = absurd cc
joined_column c (name ∷ left) right e = omega arith

-- there are arguments
abbrev pub are_given : Args → Bool
are_given none = false
are_given _ = true

pub given_filled : {s : Scope} {before : List (List ℕ)} {xs : Args} {names : List Name} → AreGiven s before xs names → are_given xs ≡ true → 0 < length names
given_filled no_more_given e = absurd cc
given_filled (one_given p new more) e = omega arith

pub columns_filled : {before : List (List ℕ)} {xs : Args} {names : List Name} → AreColumns before xs names → are_given xs ≡ true → 0 < length names
columns_filled no_more_columns e = absurd cc
columns_filled (one_column new more) e = omega arith

-- ---- expressions

-- the variables of this point that are frames have columns, each once
abbrev pub AreFilled : Scope → Type 0
AreFilled s = (x : List ℕ) (a : Shape) → shape_among s.vars x ≡ Some a → HasColumns a

pub filled_tree : {s : Scope} {x : Tree} {a : Shape} → HasShape s x a → IsOutside s → AreFilled s → HasColumns a
filled_tree {s = s} (of_parameter {p = name} {a = a} role) outer filled = no_parameter s.parameters name _ outer role
filled_tree (of_variable {v = x} {a = a} out v) outer filled = filled x a v.shape
filled_tree (of_scalar_variable {v = x} {a = a} one v) outer filled = filled x a v.shape
filled_tree (of_element out array p q) outer filled = element_filled array
filled_tree (of_elements out array p q) outer filled = array_filled array
filled_tree (of_map out array p becomes q) outer filled = array_filled becomes
filled_tree (of_fill out array p q) outer filled = array_filled array
filled_tree (of_vcat out array p q) outer filled = array_filled array
filled_tree (of_frame out given narrow) outer filled = (given_filled given refl, once_each (given_new given))
filled_tree (of_read out columns narrow) outer filled = (columns_filled columns refl, once_each (columns_new columns))
filled_tree (of_filter out p q narrow) outer filled = filled_tree p outer filled
filled_tree (of_join {k = k} {left = left} out p q first second distinct narrow) outer filled = (joined_column k left _ first, distinct)
filled_tree (of_aggregate {k = k} out p known measures narrow) outer filled =
    let new = measures_new measures in
    (omega arith, ap₂ (λ (a b : Bool). a || b) (apart_from k new (has_last k [])) (once_each new))
filled_tree (of_sort out p known narrow) outer filled = filled_tree p outer filled
filled_tree _ outer filled = tt

-- ---- statements

-- what is known of one variable more
last_filled : (same : Bool) (own : Shape) (b : Shape) → HasColumns own → cond same (Some own) None ≡ Some b → HasColumns b
last_filled true own b is e = let found : own ≡ b = cc in subst (λ (a : Shape). HasColumns a) found is
last_filled false own b is e = absurd cc

more_filled : (vars : List Var) (y : List ℕ) (own : Shape) (x : List ℕ) (b : Shape) → HasColumns own → (shape_among vars x ≡ Some b → HasColumns b)
    → shape_among (vars ++ record { name = trees.named y; shape = own } ∷ []) x ≡ Some b → HasColumns b
more_filled [] y own x b is filled e = last_filled (bytes_eq x y) own b is e
more_filled (var ∷ vars) y own x b is filled e =
    step (bytes_eq x var.name.bytes) var.shape (shape_among vars x) (shape_among (vars ++ record { name = trees.named y; shape = own } ∷ []) x) (more_filled vars y own x b is) filled e
  where
    step : (same : Bool) (first : Shape) (found all : Option Shape) → ((found ≡ Some b → HasColumns b) → all ≡ Some b → HasColumns b) → (cond same (Some first) found ≡ Some b → HasColumns b) → cond same (Some first) all ≡ Some b → HasColumns b
    step true first found all next known e = known e
    step false first found all next known e = next known e

pub filled_with : (first : Option Shape) (vars : List Var) (y : List ℕ) (own : Shape) → HasColumns own → ((x : List ℕ) (b : Shape) → shape_among vars x ≡ Some b → HasColumns b)
    → (x : List ℕ) (b : Shape) → shape_among (variables_with first vars y own) x ≡ Some b → HasColumns b
filled_with (Some first) vars y own is filled x b e = filled x b e
filled_with None vars y own is filled x b e = more_filled vars y own x b is (filled x b) e

pub filled_block : {s : Scope} {b : Block} {t : Scope} → FitsBlock s b t → IsOutside s → AreFilled s → AreFilled t
filled_block fits_done out filled = filled
filled_block {s = s} (fits_first {x = x} {a = a} p new next) out filled = filled_block next out (filled_with (shape_among s.vars x) s.vars x a (filled_tree p out filled) filled)
filled_block {s = s} (fits_again {x = x} {a = a} p known next) out filled = filled_block next out (filled_with (shape_among s.vars x) s.vars x a (filled_tree p out filled) filled)
filled_block (fits_print p can next) out filled = filled_block next out filled
filled_block (fits_export p next) out filled = filled_block next out filled
filled_block (fits_if p taken passed next) out filled =
    filled_block next (outside_block passed (outside_block taken out)) (filled_block passed (outside_block taken out) (filled_block taken out filled))
filled_block (fits_while p turn next) out filled = filled_block next (outside_block turn out) (filled_block turn out filled)
