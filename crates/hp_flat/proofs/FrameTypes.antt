-- The types of frames in a script that fits: a frame has some column, and no two of one name.
use Rattle.std.proofs.Common.{◌≡◌, ℕ, suc, ◌+◌, ◌<◌, ◌≤◌, Bool, true, false, not, ◌||◌, cond, bytes_eq, List, [], ◌∷◌, ◌++◌, length, Option, Some, None, refl, sym, subst, arith}
use Rattle.std.proofs.lemmas.Bool.{or_parts}
use Rattle.std.proofs.lemmas.List.{length-append}
use Rattle.std.specs.List.{position_or_len}
use Rattle.hp_word.specs.declared.name.Name.{Name}
use Rattle.hp_script.specs.declared.typed.Shape.{Shape}
use Rattle.hp_script.specs.declared.typed.Shape.TheVariants.{Frame}
use Rattle.hp_script.specs.declared.typed.Var.{Var}
use Rattle.hp_script.specs.Breaks.{repeats}
use Rattle.hp_script.specs.Fitting.{FitsBlock, fits_done, fits_first, fits_again, fits_print, fits_export, fits_if, fits_while}
use Rattle.hp_script.specs.Mirror.{Tree, Args, Block, plain, named}
use Rattle.hp_script.specs.Results.{without}
use Rattle.hp_script.specs.Scope.{element, Scope, Parameter, Role, has, has_column, role_of, are_some, shape_among, variables_with}
use Rattle.hp_script.specs.Shaped.{IsOutside, IsScalar, scalar_number, scalar_truth, IsArrayOf, array_of_numbers, array_of_truths, AreColumns, no_more_columns, one_column, AreMeasures, no_more_measures, one_measure, HasShape, of_parameter, of_variable, of_scalar_variable, of_element, of_elements, of_map, of_fill, of_vcat, of_frame, of_read, of_filter, of_join, of_aggregate, of_sort, AreGiven, no_more_given, one_given}
use Rattle.hp_script.specs.Trees as trees
use Rattle.hp_script.proofs.TestLemmas.{same_bytes}
use Rattle.hp_flat.proofs.ArrayBlocks.{once_next}
use Rattle.hp_flat.proofs.VariableNames.{outside_block}

-- ---- names in lists

-- how many columns have this name
abbrev pub named_times : List ℕ → List Name → ℕ
named_times k [] = 0
named_times k (c ∷ cs) = cond (bytes_eq k c.bytes) 1 0 + named_times k cs

abbrev times : List ℕ → List (List ℕ) → ℕ
times k [] = 0
times k (b ∷ bs) = cond (bytes_eq k b) 1 0 + times k bs

times_append : (k : List ℕ) (xs ys : List (List ℕ)) → times k (xs ++ ys) ≡ times k xs + times k ys
times_append k [] ys = omega arith
times_append k (x ∷ xs) ys = moved (cond (bytes_eq k x) 1 0) (times k xs) (times k ys) (times k (xs ++ ys)) (times_append k xs ys)
  where
    moved : (a b c d : ℕ) → d ≡ b + c → a + d ≡ (a + b) + c
    moved a b c d e = omega (arith, e)

none_at : (t b : Bool) (n : ℕ) → (t || b) ≡ false → (b ≡ false → n ≡ 0) → cond t 1 0 + n ≡ 0
none_at true b n e next = absurd cc
none_at false b n e next = omega (arith, next e)

absent : (x : List ℕ) (names : List (List ℕ)) → has x names ≡ false → times x names ≡ 0
absent x [] e = refl
absent x (b ∷ names) e = none_at (bytes_eq x b) (has x names) (times x names) e (absent x names)

no_column : (x : List ℕ) (cs : List Name) → has_column x cs ≡ false → named_times x cs ≡ 0
no_column x [] e = refl
no_column x (c ∷ cs) e = none_at (bytes_eq x c.bytes) (has_column x cs) (named_times x cs) e (no_column x cs)

-- names that do not repeat
pub apart_once : (cs : List Name) → repeats cs ≡ false → (k : List ℕ) → named_times k cs ≤ 1
apart_once [] e k = omega arith
apart_once (c ∷ cs) e k =
    let parts = or_parts (has_column c.bytes cs) (repeats cs) e in
    once_next (bytes_eq k c.bytes) (named_times k cs) (λ same. subst (λ (b : List ℕ). named_times b cs ≡ 0) (sym (same_bytes k c.bytes same)) (no_column c.bytes cs parts.0)) (apart_once cs parts.1 k)

-- names that were new, each behind those before
new_next : (t : Bool) (m n : ℕ) → (t ≡ true → m ≡ 0) → (m + cond t 1 0 ≤ 1 → (m + cond t 1 0) + n ≤ 1) → m ≤ 1 → m + (cond t 1 0 + n) ≤ 1
new_next true m n none next most = omega (arith, next (omega (arith, none refl)))
new_next false m n none next most = omega (arith, next (omega (arith, most)))

module _ (before : List (List ℕ)) (c : List ℕ) (names : List Name) (new : has c before ≡ false)
    (next : (k : List ℕ) → times k (before ++ c ∷ []) ≤ 1 → times k (before ++ c ∷ []) + named_times k names ≤ 1) where
  with_one : (k : List ℕ) → times k before ≤ 1 → times k before + named_times k (trees.named c ∷ names) ≤ 1
  with_one k most =
      let longer : times k (before ++ c ∷ []) ≡ times k before + (cond (bytes_eq k c) 1 0 + 0) = times_append k before (c ∷ []) in
      let more = next k in
      new_next (bytes_eq k c) (times k before) (named_times k names)
      (λ same. subst (λ (b : List ℕ). times b before ≡ 0) (sym (same_bytes k c same)) (absent c before new))
      (λ l. omega (arith, longer, more (omega (arith, longer, l)))) most

given_once : {s : Scope} {before : List (List ℕ)} {xs : Args} {names : List Name} → AreGiven s before xs names → (k : List ℕ) → times k before ≤ 1 → times k before + named_times k names ≤ 1
given_once no_more_given k most = omega (arith, most)
given_once {before = before} (one_given {c = c} {names = names} p new rest) k most = with_one before c names new (given_once rest) k most

columns_once : {before : List (List ℕ)} {xs : Args} {names : List Name} → AreColumns before xs names → (k : List ℕ) → times k before ≤ 1 → times k before + named_times k names ≤ 1
columns_once no_more_columns k most = omega (arith, most)
columns_once {before = before} (one_column {c = c} {names = names} new rest) k most = with_one before c names new (columns_once rest) k most

measures_once : {columns : List Name} {before : List (List ℕ)} {xs : Args} {names : List Name} → AreMeasures columns before xs names → (k : List ℕ) → times k before ≤ 1 → times k before + named_times k names ≤ 1
measures_once no_more_measures k most = omega (arith, most)
measures_once {before = before} (one_measure {x = x} {names = names} is new rest) k most = with_one before x names new (measures_once rest) k most

-- ---- columns by their names

found_next : (t b : Bool) (n m : ℕ) → (t || b) ≡ true → (b ≡ true → n < m) → cond (not t) (1 + n) 0 < suc m
found_next true b n m e next = omega arith
found_next false b n m e next = omega (arith, next e)

-- a column that a frame has stands at a place of it
pub column_below : (c : List ℕ) (cs : List Name) → has_column c cs ≡ true → position_or_len (λ (name : Name). bytes_eq c name.bytes) cs < length cs
column_below c [] e = absurd cc
column_below c (d ∷ cs) e =
    found_next (bytes_eq c d.bytes) (has_column c cs) (position_or_len (λ (name : Name). bytes_eq c name.bytes) cs) (length cs) e (column_below c cs)

pub some_columns : (c : List ℕ) (cs : List Name) → has_column c cs ≡ true → 0 < length cs
some_columns c cs e = omega (arith, column_below c cs e)

at_least_one : (c : List ℕ) (cs : List Name) → has_column c cs ≡ true → 1 ≤ named_times c cs
at_least_one c [] e = absurd cc
at_least_one c (d ∷ cs) e = one_next (bytes_eq c d.bytes) (has_column c cs) (named_times c cs) e (at_least_one c cs)
  where
    one_next : (t b : Bool) (n : ℕ) → (t || b) ≡ true → (b ≡ true → 1 ≤ n) → 1 ≤ cond t 1 0 + n
    one_next true b n e next = omega arith
    one_next false b n e next = omega (arith, next e)

left_out : (k : List ℕ) (cs : List Name) → length (without (trees.named k) cs) + named_times k cs ≡ length cs
left_out k [] = refl
left_out k (c ∷ cs) = out_next (bytes_eq k c.bytes) c (without (trees.named k) cs) (named_times k cs) (length cs) (left_out k cs)
  where
    out_next : (t : Bool) (c : Name) (rest : List Name) (n m : ℕ) → length rest + n ≡ m → length (cond (not t) (c ∷ rest) rest) + (cond t 1 0 + n) ≡ suc m
    out_next true c rest n m e = omega (arith, e)
    out_next false c rest n m e = omega (arith, e)

-- ---- types

abbrev pub IsProper : Shape → Type 0
IsProper (Frame cs) = (0 < length cs) × ((k : List ℕ) → named_times k cs ≤ 1)
IsProper _ = Unit {0}

-- a column is left out of a frame that has it
pub one_left_out : (k : List ℕ) (cs : List Name) → IsProper (Frame cs) → has_column k cs ≡ true → length (without (trees.named k) cs) + 1 ≡ length cs
one_left_out k cs is e =
    let once = is.1 in
    omega (arith, left_out k cs, at_least_one k cs e, once k)

abbrev pub AreProper : Scope → Type 0
AreProper s = (x : List ℕ) (a : Shape) → shape_among s.vars x ≡ Some a → IsProper a

-- outside of lambdas there is no parameter
pub no_role : {A : Type 0} (parameters : List Parameter) (p : List ℕ) (r : Role) → are_some parameters ≡ false → role_of parameters p ≡ Some r → A
no_role [] p r out role = absurd cc
no_role (parameter ∷ parameters) p r out role = absurd cc

scalar_proper : {a : Shape} → IsScalar a → IsProper a
scalar_proper scalar_number = tt
scalar_proper scalar_truth = tt

array_proper : {one many : Shape} → IsArrayOf one many → IsProper one × IsProper many
array_proper array_of_numbers = (tt, tt)
array_proper array_of_truths = (tt, tt)

pub given_some : {s : Scope} {before : List (List ℕ)} {c : List ℕ} {at : _} {x : Tree} {xs : Args} {names : List Name} → AreGiven s before (named c at x xs) names → 0 < length names
given_some (one_given p new rest) = omega arith

pub columns_some : {before : List (List ℕ)} {x : Tree} {xs : Args} {names : List Name} → AreColumns before (plain x xs) names → 0 < length names
columns_some (one_column new rest) = omega arith

none_before : (n : ℕ) → 0 + n ≤ 1 → n ≤ 1
none_before n e = omega (arith, e)

pub proper : {s : Scope} {x : Tree} {a : Shape} → HasShape s x a → IsOutside s → AreProper s → IsProper a
proper {s = s} (of_parameter {p = p} {a = a} role) out are = no_role s.parameters p (element a) out role
proper (of_variable {v = v} {a = a} o is) out are = are v a is.shape
proper (of_scalar_variable one is) out are = scalar_proper one
proper (of_element o array p q) out are = (array_proper array).0
proper (of_elements o array p q) out are = (array_proper array).1
proper (of_map o array p becomes q) out are = (array_proper becomes).1
proper (of_fill o array p q) out are = (array_proper array).1
proper (of_vcat o array p q) out are = (array_proper array).1
proper (of_frame {names = names} o given narrow) out are = (given_some given, λ k. none_before (named_times k names) (given_once given k (omega arith)))
proper (of_read {names = names} o columns narrow) out are = (columns_some columns, λ k. none_before (named_times k names) (columns_once columns k (omega arith)))
proper (of_filter o p q narrow) out are = proper p out are
proper (of_join {k = k} {left = left} {right = right} o p q first second distinct narrow) out are =
    (omega (arith, length-append left (without (trees.named k) right), some_columns k left first), apart_once (left ++ without (trees.named k) right) distinct)
proper (of_aggregate {k = k} {names = names} o p known measures narrow) out are =
    (omega arith, λ j. first_once (bytes_eq j k) (named_times j names) (measures_once measures j))
  where
    first_once : (t : Bool) (n : ℕ) → (cond t 1 0 + 0 ≤ 1 → (cond t 1 0 + 0) + n ≤ 1) → cond t 1 0 + n ≤ 1
    first_once true n next = omega (arith, next (omega arith))
    first_once false n next = omega (arith, next (omega arith))
proper (of_sort o p known narrow) out are = proper p out are
proper _ out are = tt

-- ---- variables

last_proper : (vars : List Var) (x : List ℕ) (b : Shape) (y : List ℕ) (a : Shape) → (shape_among vars y ≡ Some a → IsProper a) → IsProper b
    → shape_among (vars ++ record { name = trees.named x; shape = b } ∷ []) y ≡ Some a → IsProper a
last_proper [] x b y a this is e = one (bytes_eq y x) a e
  where
    one : (t : Bool) (a : Shape) → cond t (Some b) None ≡ Some a → IsProper a
    one true a e = let same : b ≡ a = cc in subst IsProper same is
    one false a e = absurd cc
last_proper (var ∷ vars) x b y a this is e =
    next (bytes_eq y var.name.bytes) var.shape (shape_among vars y) (shape_among (vars ++ record { name = trees.named x; shape = b } ∷ []) y) this (λ known. last_proper vars x b y a known is) e
  where
    next : (t : Bool) (own : Shape) (found all : Option Shape) → (cond t (Some own) found ≡ Some a → IsProper a) → ((found ≡ Some a → IsProper a) → all ≡ Some a → IsProper a) → cond t (Some own) all ≡ Some a → IsProper a
    next true own found all this rest e = this e
    next false own found all this rest e = rest this e

with_proper : (first : Option Shape) (vars : List Var) (x : List ℕ) (b : Shape) → ((y : List ℕ) (a : Shape) → shape_among vars y ≡ Some a → IsProper a) → IsProper b
    → (y : List ℕ) (a : Shape) → shape_among (variables_with first vars x b) y ≡ Some a → IsProper a
with_proper (Some found) vars x b are is y a e = are y a e
with_proper None vars x b are is y a e = last_proper vars x b y a (are y a) is e

pub proper_block : {s : Scope} {b : Block} {t : Scope} → FitsBlock s b t → IsOutside s → AreProper s → AreProper t
proper_block fits_done out are = are
proper_block {s = s} (fits_first {x = x} {a = a} p new next) out are = proper_block next out (with_proper (shape_among s.vars x) s.vars x a are (proper p out are))
proper_block {s = s} (fits_again {x = x} {a = a} p same next) out are = proper_block next out (with_proper (shape_among s.vars x) s.vars x a are (proper p out are))
proper_block (fits_print p can next) out are = proper_block next out are
proper_block (fits_export p next) out are = proper_block next out are
proper_block (fits_if p taken passed next) out are =
    let behind = outside_block passed (outside_block taken out) in
    proper_block next behind (proper_block passed (outside_block taken out) (proper_block taken out are))
proper_block (fits_while p turn next) out are = proper_block next (outside_block turn out) (proper_block turn out are)
