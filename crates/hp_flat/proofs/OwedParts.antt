-- What the constructs of one expression owe to a program that follows them: the arrays that each makes are the script's, the
-- first is one of this expression, and a copy has as many outs as ins.
use Rattle.std.proofs.Common.{◌≡◌, ℕ, zero, suc, ◌+◌, ◌<◌, Bool, true, false, ◌||◌, cond, if◌then◌else◌, nat_lt, not, bytes_eq, codes, List, [], ◌∷◌, ◌++◌, length, map, slice_get, Option, Some, None, refl, ◌∙◌, arith, option_and_then, option_map}
use Rattle.std.proofs.lemmas.Bool.{eq-eqb}
use Rattle.std.proofs.lemmas.List.FromFn.{length-map-range_with_len}
use Rattle.std.specs.Prelude.{slice_index_or}
use Rattle.std.specs.List.{AllByRecursion, position_or_len, range_with_len}
use Rattle.hp_word.specs.declared.fold.FoldKind.{FoldKind}
use Rattle.hp_word.specs.declared.fold.FoldKind.TheVariants as folds
use Rattle.hp_word.specs.declared.name.Name.{Name}
use Rattle.hp_script.specs.declared.function.Function.{Function}
use Rattle.hp_script.specs.declared.function.Function.TheVariants as function
use Rattle.hp_script.specs.declared.tree.BinOp.{BinOp}
use Rattle.hp_script.specs.declared.tree.BinOp.TheVariants as binary_op
use Rattle.hp_script.specs.declared.typed.Shape.{Shape}
use Rattle.hp_script.specs.declared.typed.Var.{Var}
use Rattle.hp_script.specs.Mirror.{Tree, call, none, plain}
use Rattle.hp_script.specs.Scope.{has_column}
use Rattle.hp_air.specs.Arrays.{Arrays, Length, Read, Map, Reduce, Scan, Stencil, Filter, Join, Group, Concat, Sort, At, Pick, Frame, Stack, Row, Product, ProductT, Fill, Range, outs}
use Rattle.hp_air.specs.Carried.{is_balanced}
use Rattle.hp_air.specs.Unknowns.{Known, Unknown, of_node, of_variable, of_nothing, balanced_of, Columns, column_named, at_node, at_variable, arrays_at, arrays_named, shape_at, shape_named, variable_named, width, copied, of_one, of_two, first, second, all, call_arrays, call_of, product_of, binary_of, index_of}
use Rattle.hp_flat.proofs.ArrayBlocks.{IsArray}
use Rattle.hp_flat.proofs.CarriedSteps.{Sound}
use Rattle.hp_flat.proofs.DoneOnce.{Makes}
use Rattle.hp_flat.proofs.MadeOnce.{starts_at}
use Rattle.hp_flat.proofs.VariableNames.{place_below}

-- what a construct owes, and what some do
abbrev pub Owes : Arrays Unknown → Type 0
Owes c = Sound c × Makes c

abbrev pub AllOwe : List (Arrays Unknown) → Type 0
AllOwe cs = AllByRecursion Owes cs

-- ---- arrays of one value

are_arrays : (m a w : ℕ) → AllByRecursion IsArray (map (of_node m) (range_with_len a w))
are_arrays m a zero = tt
are_arrays m a (suc w) = (tt, are_arrays m (a + 1) w)

starts_own : (m : ℕ) (us : List Unknown) → starts_at m (of_node m 0 ∷ us) ≡ true
starts_own m us = eq-eqb m m refl

starts_value : (m w : ℕ) → 0 < w → starts_at m (map (of_node m) (range_with_len 0 w)) ≡ true
starts_value m zero less = absurd (omega (arith, less))
starts_value m (suc w) less = starts_own m (map (of_node m) (range_with_len 1 w))

-- no array of these is a balanced copy
abbrev pub AreUnbalanced : List Unknown → Type 0
AreUnbalanced us = AllByRecursion (λ u. is_balanced u ≡ false) us

unbalanced : (made : ℕ → Unknown) → ((c : ℕ) → is_balanced (made c) ≡ false) → (a w : ℕ) → AreUnbalanced (map made (range_with_len a w))
unbalanced made each a zero = tt
unbalanced made each a (suc w) = (each a, unbalanced made each (a + 1) w)

pub unbalanced_at : (g : Known) (m : ℕ) → AreUnbalanced (at_node g m)
unbalanced_at g m = unbalanced (of_node m) (λ c. refl) 0 (width (shape_at g m))

unbalanced_variable : (v : Option ℕ) (found : Option Shape) → AreUnbalanced (at_variable v found)
unbalanced_variable None found = tt
unbalanced_variable (Some v) found = unbalanced (of_variable v) (λ c. refl) 0 (width found)

pub unbalanced_named : (g : Known) (x : List ℕ) → AreUnbalanced (arrays_named g x)
unbalanced_named g x = unbalanced_variable (variable_named g x) (shape_named g x)

-- ---- how many arrays a value has

pub length_at : (g : Known) (m : ℕ) → length (at_node g m) ≡ width (shape_at g m)
length_at g m = length-map-range_with_len (of_node m) 0 (width (shape_at g m))

length_variable : (shapes : ℕ → Option Shape) (v : Option ℕ) → length (at_variable v (option_and_then shapes v)) ≡ width (option_and_then shapes v)
length_variable shapes None = refl
length_variable shapes (Some v) = length-map-range_with_len (of_variable v) 0 (width (shapes v))

pub length_named : (g : Known) (x : List ℕ) → length (arrays_named g x) ≡ width (shape_named g x)
length_named g x = length_variable (λ k. option_map (λ (v : Var). v.shape) (slice_get g.vars k)) (variable_named g x)

-- a column that a frame has is one array
found_among : (c : List ℕ) (names : List Name) → has_column c names ≡ true → nat_lt (position_or_len (λ (name : Name). bytes_eq c name.bytes) names) (length names) ≡ true
found_among c [] e = absurd cc
found_among c (name ∷ names) e =
    let place = position_or_len (λ (other : Name). bytes_eq c other.bytes) names in
    place_below (bytes_eq c name.bytes) place (length names) ∙ step (bytes_eq c name.bytes) (has_column c names) (nat_lt place (length names)) (found_among c names) e
  where
    step : (same rest below : Bool) → (rest ≡ true → below ≡ true) → (same || rest) ≡ true → cond (not same) below true ≡ true
    step true rest below next e = refl
    step false rest below next e = next e

one_array : (below : Bool) (k : ℕ) (us : List Unknown) → below ≡ true → length {A = Unknown} (elim (cond below (Some k) None) [ None ↦ [] | Some k ↦ slice_index_or us k of_nothing ∷ [] ]) ≡ 1
one_array true k us e = refl
one_array false k us e = absurd cc

pub length_column : (around : Columns) (c : List ℕ) → has_column c around.names ≡ true → length (column_named around c) ≡ 1
length_column around c e =
    let place = position_or_len (λ (name : Name). bytes_eq c name.bytes) around.names in
    one_array (nat_lt place (length around.names)) place around.arrays (found_among c around.names e)

-- ---- one construct

made_so : (m : ℕ) (c : Arrays Unknown) → (AllByRecursion IsArray (outs c) → Sound c) → AllByRecursion IsArray (outs c) → starts_at m (outs c) ≡ true → Owes c
made_so m c own arrays starts = (own arrays, λ is. (record { node = m; starts = starts }, arrays))

pub owes_copied : (os ins : List Unknown) → length os ≡ length ins → AreUnbalanced os → AllOwe (copied os ins)
owes_copied [] ins e balanced = tt
owes_copied (o ∷ os) ins e balanced = (((e, balanced), λ is. absurd cc), tt)

owes_lengths : (us : List Unknown) → AllOwe (map Length us)
unfolding outs
owes_lengths [] = tt
owes_lengths (u ∷ us) = ((tt, λ is. absurd cc), owes_lengths us)

owes_one : (us : List Unknown) (made : Unknown → Arrays Unknown) → ((u : Unknown) → Owes (made u)) → AllOwe (of_one us made)
owes_one [] made each = tt
owes_one (u ∷ []) made each = (each u, tt)
owes_one (u ∷ v ∷ us) made each = tt

owes_two : (us vs : List Unknown) (made : Unknown → Unknown → Arrays Unknown) → ((u v : Unknown) → Owes (made u v)) → AllOwe (of_two us vs made)
owes_two (u ∷ []) (v ∷ []) made each = (each u v, tt)
owes_two _ _ made each = tt

pub owes_map : (m : ℕ) (ins : List Unknown) → Owes (Map (of_node m 0) ins)
unfolding outs
owes_map m ins = made_so m (Map (of_node m 0) ins) (λ a. a) (tt, tt) (starts_own m [])

owes_fold : (kind : FoldKind) (u : Unknown) → Owes (Reduce kind u)
unfolding outs
owes_fold kind u = (tt, λ is. absurd cc)

-- ---- calls

-- the functions whose values are frames
abbrev pub makes_frame : Option Function → Bool
makes_frame (Some function.ReadCsv) = true
makes_frame (Some function.Filter) = true
makes_frame (Some function.Join) = true
makes_frame (Some function.Aggregate) = true
makes_frame (Some function.Sort) = true
makes_frame (Some function.DataFrame) = true
makes_frame _ = false

module _ (g : Known) (m : ℕ) where
  arrays_own : AllByRecursion IsArray (at_node g m)
  arrays_own = are_arrays m 0 (width (shape_at g m))

  starts_at_own : 0 < width (shape_at g m) → starts_at m (at_node g m) ≡ true
  starts_at_own wide = starts_value m (width (shape_at g m)) wide

  owes_function : (f : Function) (sides : List (List Unknown)) → (makes_frame (Some f) ≡ true → 0 < width (shape_at g m)) → AllOwe (call_arrays m (at_node g m) f sides)
  unfolding call_arrays outs
  owes_function function.Map sides wide = (owes_map m (first sides), tt)
  owes_function function.Fill sides wide = (made_so m (Fill (of_node m 0)) (λ a. a) (tt, tt) (starts_own m []), tt)
  owes_function function.Collect sides wide = (made_so m (Range (of_node m 0)) (λ a. a) (tt, tt) (starts_own m []), tt)
  owes_function function.ReadCsv sides wide = (made_so m (Read (at_node g m)) (λ a. a) arrays_own (starts_at_own (wide refl)), tt)
  owes_function function.Length sides wide = owes_lengths (first sides)
  owes_function function.Nrow sides wide = owes_lengths (first sides)
  owes_function (function.Fold kind) sides wide = owes_one (first sides) (Reduce kind) (owes_fold kind)
  owes_function function.Count sides wide = owes_one (first sides) (Reduce folds.Sum) (owes_fold folds.Sum)
  owes_function function.Cumsum sides wide = owes_one (first sides) (Scan (of_node m 0)) (λ u. made_so m (Scan (of_node m 0) u) (λ a. a) (tt, tt) (starts_own m []))
  owes_function function.Stencil sides wide =
      owes_one (first sides) (λ array. Stencil (of_node m 0) array (balanced_of m)) (λ u. made_so m (Stencil (of_node m 0) u (balanced_of m)) (λ a. a) (tt, (tt, tt)) (starts_own m (balanced_of m ∷ [])))
  owes_function function.Filter sides wide =
      owes_one (second sides) (Filter (at_node g m) (first sides)) (λ u. made_so m (Filter (at_node g m) (first sides) u) (λ a. a) arrays_own (starts_at_own (wide refl)))
  owes_function function.Join sides wide = (made_so m (Join (at_node g m) (first sides) (second sides)) (λ a. a) arrays_own (starts_at_own (wide refl)), tt)
  owes_function function.Aggregate sides wide = (made_so m (Group (at_node g m) (first sides)) (λ a. a) arrays_own (starts_at_own (wide refl)), tt)
  owes_function function.Vcat sides wide =
      owes_two (first sides) (second sides) (Concat (of_node m 0)) (λ u v. made_so m (Concat (of_node m 0) u v) (λ a. a) (tt, tt) (starts_own m []))
  owes_function function.Sort sides wide = (made_so m (Sort (at_node g m) (first sides)) (λ a. a) arrays_own (starts_at_own (wide refl)), tt)
  owes_function function.DataFrame sides wide = (made_so m (Frame (at_node g m) (all sides)) (λ a. a) arrays_own (starts_at_own (wide refl)), tt)
  owes_function function.Stack sides wide = (made_so m (Stack (of_node m 0) (all sides)) (λ a. a) (tt, tt) (starts_own m []), tt)
  owes_function function.Row sides wide = owes_one (first sides) (Row (of_node m 0)) (λ u. made_so m (Row (of_node m 0) u) (λ a. a) (tt, tt) (starts_own m []))
  owes_function _ sides wide = tt

  pub owes_call : (dotted : Bool) (f : Option Function) (sides : List (List Unknown)) → (makes_frame f ≡ true → 0 < width (shape_at g m)) → AllOwe (call_of m (at_node g m) dotted f sides)
  owes_call true f sides wide = (owes_map m (all sides), tt)
  owes_call false (Some f) sides wide = owes_function f sides wide
  owes_call false None sides wide = tt

  -- ---- operators

  owes_multiplied : (us vs : List Unknown) → AllOwe (of_two us vs (Product (of_node m 0)))
  unfolding outs
  owes_multiplied us vs = owes_two us vs (Product (of_node m 0)) (λ u v. made_so m (Product (of_node m 0) u v) (λ a. a) (tt, tt) (starts_own m []))

  owes_transposed : (us vs : List Unknown) → AllOwe (of_two us vs (ProductT (of_node m 0)))
  unfolding outs
  owes_transposed us vs = owes_two us vs (ProductT (of_node m 0)) (λ u v. made_so m (ProductT (of_node m 0) u v) (λ a. a) (tt, tt) (starts_own m []))

  owes_either : (b : Bool) (cs ds : List (Arrays Unknown)) → AllOwe cs → AllOwe ds → AllOwe (if b then cs else ds)
  owes_either true cs ds c d = c
  owes_either false cs ds c d = d

  owes_product : (x y : Tree) → AllOwe (product_of g m x y)
  owes_product x (call h f false (plain y none)) =
      owes_either (bytes_eq f (codes "transpose")) (of_two (arrays_at g x) (arrays_at g y) (ProductT (of_node m 0))) (of_two (arrays_at g x) (at_node g h.id) (Product (of_node m 0)))
      (owes_transposed (arrays_at g x) (arrays_at g y)) (owes_multiplied (arrays_at g x) (at_node g h.id))
  owes_product x y = owes_multiplied (arrays_at g x) (arrays_at g y)

  pub owes_binary : (op : BinOp) (dotted : Bool) (x y : Tree) → AllOwe (binary_of g m op dotted x y)
  owes_binary op true x y = (owes_map m (arrays_at g x ++ arrays_at g y), tt)
  owes_binary binary_op.Mul false x y = owes_product x y
  owes_binary _ false x y = tt

  pub owes_index : (us is : List Unknown) → AllOwe (index_of m us is)
  unfolding outs
  owes_index us [] = owes_one us At (λ u. (tt, λ is. absurd cc))
  owes_index us (k ∷ ks) = owes_one us (λ x. Pick (of_node m 0) x k) (λ u. made_so m (Pick (of_node m 0) u k) (λ a. a) (tt, tt) (starts_own m []))

  pub owes_unary : (dotted : Bool) (us : List Unknown) → AllOwe (if dotted then Map (of_node m 0) us ∷ [] else [])
  owes_unary true us = (owes_map m us, tt)
  owes_unary false us = tt
