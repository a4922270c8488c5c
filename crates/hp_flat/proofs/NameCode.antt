-- How many names the lists of an expression's operations have, by how many arrays a value has at most.
use Rattle.std.proofs.Common.{◌≡◌, ℕ, suc, ◌+◌, ◌*◌, ◌≤◌, Bool, true, false, cond, codes, bytes_eq, List, [], ◌∷◌, length, position, option_map, Option, Some, None, refl, sym, ap, arith}
use Rattle.std.proofs.lemmas.List.{length-append, length-map}
use Rattle.std.specs.Prelude.{slice_index_or}
use Rattle.hp_word.specs.declared.elem.Elem.{Elem}
use Rattle.hp_word.specs.declared.name.Name.{Name}
use Rattle.hp_word.specs.declared.place.Place.{Place}
use Rattle.hp_word.specs.declared.table.MeasureKind.{MeasureKind}
use Rattle.hp_script.specs.declared.function.Function.{Function}
use Rattle.hp_script.specs.declared.function.Function.TheVariants as function
use Rattle.hp_script.specs.declared.tree.BinOp.{BinOp}
use Rattle.hp_script.specs.declared.tree.BinOp.TheVariants as binary_op
use Rattle.hp_script.specs.declared.tree.UnOp.{UnOp}
use Rattle.hp_script.specs.declared.typed.Shape.{Shape}
use Rattle.hp_script.specs.declared.typed.Shape.TheVariants as shape
use Rattle.hp_script.specs.Mirror.{Head, Tree, Args, call, none, plain, range, lambda, named}
use Rattle.hp_script.proofs.TestLemmas.{then_there, map_there}
use Rattle.hp_program.specs.Programs.{Prog, joined}
use Rattle.hp_air.specs.declared.what.Op.{Op}
use Rattle.hp_air.specs.declared.what.What.TheVariants as what
use Rattle.hp_air.specs.Kept.{items_in}
use Rattle.hp_air.specs.Unknowns.{Unknown, Columns, columns_of, column_named, of_nothing, shape_at, number_of, width, at_node, arrays_at, arrays_named, arguments_of, first, second, all}
use Rattle.hp_meaning.specs.ArgumentShapes.{first_plain, two_plain, three_plain, one_range, lambda_and_plain, all_written}
use Rattle.hp_meaning.specs.FrameRules.{Measured}
use Rattle.hp_meaning.specs.ValueOf.{Written, Alone, Under, Otherwise, column_name, measure_of, measures_in}
use Rattle.hp_flat.specs.Flat.{holds_truths, store_code, print_code, export_code}
use Rattle.hp_flat.specs.FlatCalls.{code_of, out_of, frame_at, measure_at, array_copy, word_copy, unary_code, dotted_code, product_code, multiplied, calculated_code, lazy_code, binary_code, index_code, call_code, dotted_call, named_call}
use Rattle.hp_flat.specs.Homes.{Homes, slot_of, slots_of, word_at, word_of, word_named}
use Rattle.hp_flat.proofs.Heft.{heft, heft_joined, some_light, some_light_at, array_light, arrays_light, first_light}
use Rattle.hp_flat.proofs.SmallCode.{value_count, two_counts}

abbrev pub names : Prog Op → ℕ
names p = heft 0 items_in p

pub names_joined : (p q : Prog Op) → names (joined p q) ≡ names p + names q
names_joined p q = heft_joined 0 items_in p q

-- how many arguments a call has
abbrev pub count : Args → ℕ
count xs = length (all_written xs)

rest_fewer : (xs : Args) (p : Tree × Args) → first_plain xs ≡ Some p → count p.1 ≤ count xs
rest_fewer (plain x rest) p e = let same : rest ≡ p.1 = cc in omega (arith, ap count same)
rest_fewer none p e = absurd cc
rest_fewer (range x y xs) p e = absurd cc
rest_fewer (lambda parameter x xs) p e = absurd cc
rest_fewer (named name at x xs) p e = absurd cc

measures_fewer : (ws : List Written) (ms : List Measured) → measures_in ws ≡ Some ms → length ms ≤ length ws
unfolding measures_in
measures_fewer [] ms e = let same : [] ≡ ms = cc in omega (arith, ap (λ (l : List Measured). length l) same)
measures_fewer (Under name x ∷ rest) ms e =
    let one = then_there (λ (found : MeasureKind × List ℕ). option_map (λ (more : List Measured). record { name = name; kind = found.0; of_it = found.1 } ∷ more) (measures_in rest)) (measure_of x) ms e in
    let more = map_there (λ (more : List Measured). record { name = name; kind = one.value.0; of_it = one.value.1 } ∷ more) (measures_in rest) ms one.is in
    let same : length ms ≡ suc (length more.value) = ap length (sym more.is) in
    omega (arith, same, measures_fewer rest more.value more.value_is)
measures_fewer (Alone x ∷ rest) ms e = absurd cc
measures_fewer (Otherwise ∷ rest) ms e = absurd cc

-- ---- lists of arrays

first_within : (sides : List (List Unknown)) → length (first sides) ≤ length (all sides)
first_within [] = omega arith
first_within (side ∷ sides) = omega (arith, length-append side (all sides))

column_within : (o : Option ℕ) (us : List Unknown) → length (elim o as (λ (k : Option ℕ). List Unknown) [ None ↦ [] | Some k ↦ slice_index_or us k of_nothing ∷ [] ]) ≤ 1
column_within None us = omega arith
column_within (Some k) us = omega arith

frame_within : (found : Option Shape) (us : List Unknown) → length (columns_of found us).names ≤ width found
frame_within (Some (shape.Frame names)) us = omega arith
frame_within (Some shape.Int) us = omega arith
frame_within (Some shape.Bool) us = omega arith
frame_within (Some shape.Ints) us = omega arith
frame_within (Some shape.Bools) us = omega arith
frame_within (Some shape.Matrix) us = omega arith
frame_within None us = omega arith

-- a value and a variable are of no more arrays than `most`
module _ (h : Homes) (most : ℕ) (some : 1 ≤ most) (values : (k : ℕ) → width (shape_at h.known k) ≤ most) (variables : (x : List ℕ) → length (arrays_named h.known x) ≤ most) where
  pub slots_many : (us : List Unknown) → length (slots_of h us) ≡ length us
  slots_many us = length-map us (slot_of h)

  value_within : (k : ℕ) → length (slots_of h (at_node h.known k)) ≤ most
  value_within k = omega (arith, value_count h k (shape_at h.known k) refl, values k)

  arrays_within : (k : ℕ) → length (at_node h.known k) ≤ most
  arrays_within k = omega (arith, value_within k, slots_many (at_node h.known k))

  pub copy_names : (at : Place) (os ins : List Unknown) → length os ≤ most → length ins ≤ most → names (array_copy h at os ins) ≤ 2 * most
  unfolding array_copy items_in
  copy_names at [] ins few less = omega arith
  copy_names at (o ∷ os) ins few less = omega (arith, slots_many (o ∷ os), slots_many ins, few, less)

  pub value_copy : (at : Place) (k : ℕ) (ins : List Unknown) → length ins ≤ most → names (array_copy h at (at_node h.known k) ins) ≤ 2 * most
  value_copy at k ins less = copy_names at (at_node h.known k) ins (arrays_within k) less

  pub column_copy : (at : Place) (k : ℕ) (columns : Columns) (c : List ℕ) → names (array_copy h at (at_node h.known k) (column_named columns c)) ≤ 2 * most
  column_copy at k columns c =
      value_copy at k (column_named columns c) (omega (arith, column_within (position (λ (name : Name). bytes_eq c name.bytes) columns.names) columns.arrays, some))

  -- ---- operators

  pub unary_names : (n : Head) (op : UnOp) (dotted : Bool) (x : Tree) → names (unary_code h n op dotted x) ≤ most
  unfolding unary_code items_in
  unary_names n op false x = omega arith
  unary_names n op true x = omega (arith, value_within (number_of x))

  dotted_names : (n : Head) (elem : Elem) (x y : Tree) → names (dotted_code h n elem x y) ≤ 2 * most
  unfolding dotted_code items_in
  dotted_names n elem x y = omega (arith, two_counts h x y, value_within (number_of x), value_within (number_of y))

  product_names : (n : Head) (x y : Tree) → names (product_code h n x y) ≤ 0
  unfolding product_code items_in
  product_names n x (call m f false (plain y none)) =
      by (bytes_eq f (codes "transpose")) _ _ (arrays_light 0 items_in 0 (arrays_at h.known x) (arrays_at h.known y) _ (λ a b. omega arith)) (arrays_light 0 items_in 0 (arrays_at h.known x) (at_node h.known m.id) _ (λ a b. omega arith))
    where
      by : (b : Bool) (p q : Prog Op) → names p ≤ 0 → names q ≤ 0 → names (cond b p q) ≤ 0
      by true p q one other = one
      by false p q one other = other
  product_names n x y = arrays_light 0 items_in 0 (arrays_at h.known x) (arrays_at h.known y) _ (λ a b. omega arith)

  calculated_names : (n : Head) (op : BinOp) (x y : Tree) → names (calculated_code h n op x y) ≤ 0
  unfolding items_in
  calculated_names n op x y = omega arith

  multiplied_names : (n : Head) (x y : Tree) → names (multiplied h n x y (calculated_code h n binary_op.Mul x y)) ≤ 0
  multiplied_names n x y = by (arrays_at h.known x)
    where
      by : (us : List Unknown) → names (elim us as (λ (l : List Unknown). Prog Op) [ [] ↦ calculated_code h n binary_op.Mul x y | (_ ∷ _) ↦ product_code h n x y ]) ≤ 0
      by [] = calculated_names n binary_op.Mul x y
      by (u ∷ us) = product_names n x y

  lazy_names : (n : Head) (op : BinOp) (x y : Tree) (other : Prog Op) → names (lazy_code h n op x y other) ≤ names other
  unfolding lazy_code word_copy items_in
  lazy_names n binary_op.And x y other = omega (arith, names_joined other (word_copy n.at (word_at h n.id) (word_of h y)))
  lazy_names n op x y other = omega (arith, names_joined other (word_copy n.at (word_at h n.id) (word_of h y)))

  behind_second : (other code : Prog Op) (k : ℕ) → names code ≤ k → names (joined other code) ≤ names other + k
  behind_second other code k few = omega (arith, names_joined other code, few)

  pub binary_names : (n : Head) (op : BinOp) (dotted : Bool) (x y : Tree) (other : Prog Op) → names (binary_code h n op dotted x y other) ≤ names other + 2 * most
  unfolding binary_code
  binary_names n op true x y other = behind_second other (dotted_code h n _ x y) (2 * most) (dotted_names n _ x y)
  binary_names n binary_op.And false x y other = omega (arith, lazy_names n binary_op.And x y other)
  binary_names n binary_op.Or false x y other = omega (arith, lazy_names n binary_op.Or x y other)
  binary_names n binary_op.Mul false x y other = behind_second other (multiplied h n x y (calculated_code h n binary_op.Mul x y)) (2 * most) (omega (arith, multiplied_names n x y))
  binary_names n op false x y other = behind_second other (calculated_code h n op x y) (2 * most) (omega (arith, calculated_names n op x y))

  pub index_names : (n : Head) (x i : Tree) → names (index_code h n x i) ≤ 0
  unfolding index_code items_in
  index_names n x i = array_light 0 items_in 0 (arrays_at h.known x) _ (λ array. by array (arrays_at h.known i))
    where
      by : (array : Unknown) (us : List Unknown)
          → names (elim us as (λ (l : List Unknown). Prog Op) [ [] ↦ code_of n.at (what.At (word_at h n.id) (slot_of h array) (word_of h i)) | (k ∷ _) ↦ code_of n.at (what.Pick (out_of h n) (slot_of h array) (slot_of h k)) ]) ≤ 0
      by array [] = omega arith
      by array (k ∷ ks) = omega arith

  -- ---- calls

  pub call_names : (n : Head) (f : Function) (xs : Args) (sides : List (List Unknown)) → names (call_code h n f xs sides) ≤ 3 * most + length (slots_of h (all sides)) + count xs
  unfolding call_code items_in
  call_names n (function.Scalar f) xs sides = some_light 0 items_in _ (two_plain xs) _ (λ p. omega arith)
  call_names n (function.Fold kind) xs sides = array_light 0 items_in _ (first sides) _ (λ array. omega arith)
  call_names n function.Count xs sides = array_light 0 items_in _ (first sides) _ (λ array. omega arith)
  call_names n function.Length xs sides = first_light 0 items_in _ (first sides) _ (λ array. omega arith)
  call_names n function.Nrow xs sides = first_light 0 items_in _ (first sides) _ (λ array. omega arith)
  call_names n function.Fill xs sides = some_light 0 items_in _ (two_plain xs) _ (λ p. omega arith)
  call_names n function.Collect xs sides = some_light 0 items_in _ (one_range xs) _ (λ p. omega arith)
  call_names n function.Cumsum xs sides = array_light 0 items_in _ (first sides) _ (λ array. omega arith)
  call_names n function.Map xs sides = some_light 0 items_in _ (lambda_and_plain xs) _ (λ p. omega (arith, value_within (number_of p.2)))
  call_names n function.Stencil xs sides = some_light 0 items_in _ (lambda_and_plain xs) _ (λ p. array_light 0 items_in _ (arrays_at h.known p.2) _ (λ array. omega arith))
  call_names n function.Vcat xs sides = arrays_light 0 items_in _ (first sides) (second sides) _ (λ a b. omega arith)
  call_names n function.DataFrame xs sides = omega (arith, value_within n.id)
  call_names n function.ReadCsv xs sides = omega (arith, value_within n.id)
  call_names n function.Filter xs sides =
      array_light 0 items_in _ (second sides) _ (λ mask. omega (arith, value_within n.id, first_within sides, slots_many (first sides), slots_many (all sides)))
  call_names n function.Join xs sides =
      some_light 0 items_in _ (three_plain xs) _ (λ p. some_light 0 items_in _ (column_name p.2) _ (λ key. omega (arith, value_within n.id, value_within (number_of p.0), value_within (number_of p.1))))
  call_names n function.Aggregate xs sides =
      some_light_at 0 items_in _ (first_plain xs) _ (λ p e. some_light_at 0 items_in _ (first_plain p.1) _ (λ q f. some_light 0 items_in _ (column_name q.0) _ (λ key. some_light_at 0 items_in _ (measures_in (all_written q.1)) _ (λ ms g.
      omega (arith, value_within n.id, value_within (number_of p.0), length-map ms (measure_at (frame_at h p.0)), measures_fewer (all_written q.1) ms g, rest_fewer p.1 q f, rest_fewer xs p e)))))
  call_names n function.Sort xs sides =
      some_light 0 items_in _ (first_plain xs) _ (λ p. some_light 0 items_in _ (first_plain p.1) _ (λ q. some_light 0 items_in _ (column_name q.0) _ (λ key. omega (arith, value_within n.id, value_within (number_of p.0)))))
  call_names n function.Stack xs sides = omega arith
  call_names n function.Row xs sides = some_light 0 items_in _ (two_plain xs) _ (λ p. array_light 0 items_in _ (arrays_at h.known p.0) _ (λ m. omega arith))
  call_names n function.Transpose xs sides = omega arith

  scalar_names : (n : Head) (f : Function) (xs : Args) → names (dotted_call h n f xs) ≤ 2 * most
  scalar_names n (function.Scalar f) xs = some_light 0 items_in (2 * most) (two_plain xs) _ (λ p. dotted_names n _ p.0 p.1)
  scalar_names n _ xs = omega arith

  pub own_names : (n : Head) (dotted : Bool) (f : Option Function) (xs : Args) → names (named_call h n dotted f xs) ≤ 3 * most + length (slots_of h (all (arguments_of h.known xs))) + count xs
  unfolding named_call
  own_names n true f xs = some_light 0 items_in _ f _ (λ g. omega (arith, scalar_names n g xs))
  own_names n false f xs = some_light 0 items_in _ f _ (λ g. call_names n g xs (arguments_of h.known xs))

  -- ---- statements

  pub store_names : (at : Place) (x : List ℕ) (e : Tree) → names (store_code h at x e) ≤ 2 * most
  unfolding store_code word_copy items_in
  store_names at x e = by (arrays_at h.known e)
    where
      by : (us : List Unknown) → names (elim us as (λ (l : List Unknown). Prog Op) [ [] ↦ word_copy at (word_named h x) (word_of h e) | (_ ∷ _) ↦ array_copy h at (arrays_named h.known x) (arrays_at h.known e) ]) ≤ 2 * most
      by [] = omega arith
      by (u ∷ us) = copy_names at (arrays_named h.known x) (arrays_at h.known e) (variables x) (arrays_within (number_of e))

  pub print_names : (at : Place) (e : Tree) → names (print_code h at e) ≤ 0
  unfolding print_code items_in
  print_names at e = by (arrays_at h.known e)
    where
      by : (us : List Unknown) → names (elim us as (λ (l : List Unknown). Prog Op) [ [] ↦ code_of at (what.PrintWord (word_of h e) (holds_truths h e)) | (x ∷ _) ↦ code_of at (what.PrintList (slot_of h x) (holds_truths h e)) ]) ≤ 0
      by [] = omega arith
      by (u ∷ us) = omega arith

  pub export_names : (at : Place) (e : Tree) → names (export_code h at e) ≤ 2 * most
  unfolding export_code items_in
  export_names at e = omega (arith, value_within (number_of e), frame_within (shape_at h.known (number_of e)) (arrays_at h.known e), values (number_of e))
