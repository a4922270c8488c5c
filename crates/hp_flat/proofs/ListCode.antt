-- The lists of single operations: none is empty, and those that go together are of one length.
use Rattle.std.proofs.Common.{◌≡◌, ℕ, ◌<◌, Bool, true, false, cond, nat_lt, codes, bytes_eq, List, [], ◌∷◌, ◌++◌, map, length, slice_get, option_map, option_and_then, Option, Some, None, IsTrue, refl, sym, ap, ◌∙◌, arith}
use Rattle.std.proofs.lemmas.Bool.{and_from, eq-eqb, lt-ltb}
use Rattle.std.proofs.lemmas.List.{length-map}
use Rattle.std.proofs.lemmas.List.FromFn.{length-range_with_len}
use Rattle.std.specs.Prelude.{slice_index_or}
use Rattle.std.specs.List.{position_or_len, range_with_len}
use Rattle.hp_word.specs.declared.elem.Elem.{Elem}
use Rattle.hp_word.specs.declared.name.Name.{Name}
use Rattle.hp_word.specs.declared.place.Place.{Place}
use Rattle.hp_script.specs.declared.function.Function.{Function}
use Rattle.hp_script.specs.declared.function.Function.TheVariants as function
use Rattle.hp_script.specs.declared.tree.BinOp.{BinOp}
use Rattle.hp_script.specs.declared.tree.BinOp.TheVariants as binary_op
use Rattle.hp_script.specs.declared.tree.UnOp.{UnOp}
use Rattle.hp_script.specs.declared.typed.Shape.{Shape}
use Rattle.hp_script.specs.declared.typed.Shape.TheVariants.{Frame}
use Rattle.hp_script.specs.declared.typed.Var.{Var}
use Rattle.hp_script.specs.Mirror.{Head, Tree, Args, call, none, plain}
use Rattle.hp_script.specs.Scope.{has_column}
use Rattle.hp_program.specs.Programs.{Prog, joined}
use Rattle.hp_air.specs.declared.what.Op.{Op}
use Rattle.hp_air.specs.declared.what.What.TheVariants as what
use Rattle.hp_air.specs.Kept.{has_some, are_paired, has_lists}
use Rattle.hp_air.specs.Unknowns.{Unknown, of_node, of_variable, of_nothing, Columns, columns_of, column_named, shape_at, shape_named, variable_named, number_of, width, at_node, at_variable, arrays_at, arrays_named, first, second}
use Rattle.hp_meaning.specs.ArgumentShapes.{two_plain, one_range, lambda_and_plain}
use Rattle.hp_flat.specs.Homes.{Homes, slot_of, slots_of, word_at, word_of, word_named}
use Rattle.hp_flat.specs.Flat.{holds_truths, store_code, print_code, export_code}
use Rattle.hp_flat.specs.FlatCalls.{code_of, ins_of, frame_at, array_copy, word_copy, unary_code, dotted_code, product_code, multiplied, calculated_code, lazy_code, binary_code, index_code, call_code}
use Rattle.hp_flat.proofs.FrameTypes.{column_below}
use Rattle.hp_flat.proofs.SmallCode.{value_count}
use Rattle.hp_flat.proofs.Throughout.{Throughout, through_both, through_some, through_array, through_arrays, through_first}

abbrev pub any_word : ℕ → Bool
any_word w = true

-- the lists of each operation are as they are to be
abbrev pub Listed : Prog Op → Type 0
Listed p = Throughout any_word has_lists p

pub listed_both : (p q : Prog Op) → Listed p → Listed q → Listed (joined p q)
listed_both p q first second = through_both any_word has_lists p q first second

-- ---- lists

pub some_of : {A : Type 0} (xs : List A) → 0 < length xs → IsTrue (has_some xs)
some_of [] less = absurd (omega (arith, less))
some_of (x ∷ xs) less = refl

pub paired : {A B : Type 0} (xs : List A) (ys : List B) → 0 < length xs → length xs ≡ length ys → IsTrue (are_paired xs ys)
paired xs ys less same = and_from _ _ (some_of xs less) (eq-eqb (length xs) (length ys) same)

pub column_count : (columns : Columns) (c : List ℕ) → has_column c columns.names ≡ true → length (column_named columns c) ≡ 1
column_count columns c has =
    let place = position_or_len (λ (name : Name). bytes_eq c name.bytes) columns.names in
    one (nat_lt place (length columns.names)) place (lt-ltb place (length columns.names) (column_below c columns.names has))
  where
    one : (b : Bool) (k : ℕ) → b ≡ true → length (elim (cond b (Some k) None) as (λ (o : Option ℕ). List Unknown) [ None ↦ [] | Some k ↦ slice_index_or columns.arrays k of_nothing ∷ [] ]) ≡ 1
    one true k e = refl
    one false k e = absurd cc

module _ (h : Homes) where
  pub slots_count : (us : List Unknown) → length (slots_of h us) ≡ length us
  slots_count us = length-map us (slot_of h)

  pub array_count : (node : ℕ) (a : Shape) → shape_at h.known node ≡ Some a → length (at_node h.known node) ≡ width (Some a)
  array_count node a is = sym (slots_count (at_node h.known node)) ∙ value_count h node (Some a) is

  named_at : (found : Option ℕ) (a : Shape) → option_and_then (λ k. option_map (λ (v : Var). v.shape) (slice_get h.known.vars k)) found ≡ Some a
      → length (at_variable found (option_and_then (λ k. option_map (λ (v : Var). v.shape) (slice_get h.known.vars k)) found)) ≡ width (Some a)
  named_at None a is = absurd cc
  named_at (Some v) a is =
      ap (λ (o : Option Shape). length (map (of_variable v) (range_with_len 0 (width o)))) is
      ∙ length-map (range_with_len 0 (width (Some a))) (of_variable v) ∙ length-range_with_len 0 (width (Some a))

  pub named_count : (x : List ℕ) (a : Shape) → shape_named h.known x ≡ Some a → length (arrays_named h.known x) ≡ width (Some a)
  named_count x a is = named_at (variable_named h.known x) a is

  -- ---- copies

  pub copy_lists : (at : Place) (outs ins : List Unknown) → length outs ≡ length ins → Listed (array_copy h at outs ins)
  unfolding array_copy has_lists
  copy_lists at [] ins same = tt
  copy_lists at (o ∷ outs) ins same = (paired (slots_of h (o ∷ outs)) (slots_of h ins) (omega arith) (slots_count (o ∷ outs) ∙ same ∙ sym (slots_count ins)), tt)

  -- ---- operators

  pub unary_lists : (n : Head) (op : UnOp) (dotted : Bool) (x : Tree) → (dotted ≡ true → 0 < length (ins_of h x)) → Listed (unary_code h n op dotted x)
  unfolding unary_code has_lists
  unary_lists n op false x less = (refl, tt)
  unary_lists n op true x less = (some_of (ins_of h x) (less refl), tt)

  pub dotted_lists : (n : Head) (elem : Elem) (x y : Tree) → 0 < length (slots_of h (arrays_at h.known x ++ arrays_at h.known y)) → Listed (dotted_code h n elem x y)
  unfolding dotted_code has_lists
  dotted_lists n elem x y less = (some_of (slots_of h (arrays_at h.known x ++ arrays_at h.known y)) less, tt)

  product_lists : (n : Head) (x y : Tree) → Listed (product_code h n x y)
  unfolding product_code has_lists
  product_lists n x (call m f false (plain y none)) =
      either (bytes_eq f (codes "transpose")) _ _ (through_arrays any_word has_lists (arrays_at h.known x) (arrays_at h.known y) _ (λ a b e f. (refl, tt)))
      (through_arrays any_word has_lists (arrays_at h.known x) (at_node h.known m.id) _ (λ a b e f. (refl, tt)))
    where
      either : (b : Bool) (p q : Prog Op) → Listed p → Listed q → Listed (cond b p q)
      either true p q one other = one
      either false p q one other = other
  product_lists n x y = through_arrays any_word has_lists (arrays_at h.known x) (arrays_at h.known y) _ (λ a b e f. (refl, tt))

  calculated_lists : (n : Head) (op : BinOp) (x y : Tree) → Listed (calculated_code h n op x y)
  unfolding has_lists
  calculated_lists n op x y = (refl, tt)

  multiplied_lists : (n : Head) (x y : Tree) → Listed (multiplied h n x y (calculated_code h n binary_op.Mul x y))
  multiplied_lists n x y = by (arrays_at h.known x)
    where
      by : (us : List Unknown) → Listed (elim us as (λ (l : List Unknown). Prog Op) [ [] ↦ calculated_code h n binary_op.Mul x y | (_ ∷ _) ↦ product_code h n x y ])
      by [] = calculated_lists n binary_op.Mul x y
      by (u ∷ us) = product_lists n x y

  copied_lists : (at : Place) (to from : ℕ) → Listed (word_copy at to from)
  unfolding word_copy has_lists
  copied_lists at to from = (refl, tt)

  lazy_lists : (n : Head) (op : BinOp) (x y : Tree) (other : Prog Op) → Listed other → Listed (lazy_code h n op x y other)
  unfolding lazy_code has_lists
  lazy_lists n binary_op.And x y other all = (refl, listed_both other (word_copy n.at (word_at h n.id) (word_of h y)) all (copied_lists n.at (word_at h n.id) (word_of h y)), (refl, tt), tt)
  lazy_lists n op x y other all = (refl, (refl, tt), listed_both other (word_copy n.at (word_at h n.id) (word_of h y)) all (copied_lists n.at (word_at h n.id) (word_of h y)), tt)

  pub plain_lists : (n : Head) (op : BinOp) (x y : Tree) (other : Prog Op) → Listed other → Listed (binary_code h n op false x y other)
  unfolding binary_code
  plain_lists n binary_op.And x y other all = lazy_lists n binary_op.And x y other all
  plain_lists n binary_op.Or x y other all = lazy_lists n binary_op.Or x y other all
  plain_lists n binary_op.Mul x y other all = listed_both other (multiplied h n x y (calculated_code h n binary_op.Mul x y)) all (multiplied_lists n x y)
  plain_lists n op x y other all = listed_both other (calculated_code h n op x y) all (calculated_lists n op x y)

  pub index_lists : (n : Head) (x i : Tree) → Listed (index_code h n x i)
  unfolding index_code has_lists
  index_lists n x i = through_array any_word has_lists (arrays_at h.known x) _ (λ array e. by array (arrays_at h.known i))
    where
      by : (array : Unknown) (us : List Unknown)
          → Listed (elim us as (λ (l : List Unknown). Prog Op) [ [] ↦ code_of n.at (what.At (word_at h n.id) (slot_of h array) (word_of h i)) | (k ∷ _) ↦ code_of n.at (what.Pick (slot_of h (of_node n.id 0)) (slot_of h array) (slot_of h k)) ])
      by array [] = (refl, tt)
      by array (k ∷ ks) = (refl, tt)

  -- ---- calls

  -- a call of one of these functions has no lists
  abbrev pub HasNone : Function → Type 0
  HasNone function.Map = ⊥
  HasNone function.DataFrame = ⊥
  HasNone function.ReadCsv = ⊥
  HasNone function.Filter = ⊥
  HasNone function.Join = ⊥
  HasNone function.Aggregate = ⊥
  HasNone function.Sort = ⊥
  HasNone function.Stack = ⊥
  HasNone _ = Unit {0}

  pub call_lists : (n : Head) (f : Function) (xs : Args) (sides : List (List Unknown)) → HasNone f → Listed (call_code h n f xs sides)
  unfolding call_code has_lists
  call_lists n (function.Scalar f) xs sides is = through_some any_word has_lists (two_plain xs) _ (λ p e. (refl, tt))
  call_lists n (function.Fold kind) xs sides is = through_array any_word has_lists (first sides) _ (λ array e. (refl, tt))
  call_lists n function.Count xs sides is = through_array any_word has_lists (first sides) _ (λ array e. (refl, tt))
  call_lists n function.Length xs sides is = through_first any_word has_lists (first sides) _ (λ array more e. (refl, tt))
  call_lists n function.Nrow xs sides is = through_first any_word has_lists (first sides) _ (λ array more e. (refl, tt))
  call_lists n function.Fill xs sides is = through_some any_word has_lists (two_plain xs) _ (λ p e. (refl, tt))
  call_lists n function.Collect xs sides is = through_some any_word has_lists (one_range xs) _ (λ p e. (refl, tt))
  call_lists n function.Cumsum xs sides is = through_array any_word has_lists (first sides) _ (λ array e. (refl, tt))
  call_lists n function.Stencil xs sides is = through_some any_word has_lists (lambda_and_plain xs) _ (λ p e. through_array any_word has_lists (arrays_at h.known p.2) _ (λ array f. (refl, tt)))
  call_lists n function.Vcat xs sides is = through_arrays any_word has_lists (first sides) (second sides) _ (λ a b e f. (refl, tt))
  call_lists n function.Row xs sides is = through_some any_word has_lists (two_plain xs) _ (λ p e. through_array any_word has_lists (arrays_at h.known p.0) _ (λ m f. (refl, tt)))
  call_lists n function.Transpose xs sides is = tt
  call_lists n function.Map xs sides is = absurd is
  call_lists n function.DataFrame xs sides is = absurd is
  call_lists n function.ReadCsv xs sides is = absurd is
  call_lists n function.Filter xs sides is = absurd is
  call_lists n function.Join xs sides is = absurd is
  call_lists n function.Aggregate xs sides is = absurd is
  call_lists n function.Sort xs sides is = absurd is
  call_lists n function.Stack xs sides is = absurd is

  -- ---- statements

  pub store_lists : (at : Place) (x : List ℕ) (e : Tree) → length (arrays_named h.known x) ≡ length (arrays_at h.known e) → Listed (store_code h at x e)
  unfolding store_code word_copy has_lists
  store_lists at x e same = by (arrays_at h.known e)
    where
      by : (us : List Unknown) → Listed (elim us as (λ (l : List Unknown). Prog Op) [ [] ↦ word_copy at (word_named h x) (word_of h e) | (_ ∷ _) ↦ array_copy h at (arrays_named h.known x) (arrays_at h.known e) ])
      by [] = (refl, tt)
      by (u ∷ us) = copy_lists at (arrays_named h.known x) (arrays_at h.known e) same

  pub print_lists : (at : Place) (e : Tree) → Listed (print_code h at e)
  unfolding print_code has_lists
  print_lists at e = by (arrays_at h.known e)
    where
      by : (us : List Unknown) → Listed (elim us as (λ (l : List Unknown). Prog Op) [ [] ↦ code_of at (what.PrintWord (word_of h e) (holds_truths h e)) | (x ∷ _) ↦ code_of at (what.PrintList (slot_of h x) (holds_truths h e)) ])
      by [] = (refl, tt)
      by (u ∷ us) = (refl, tt)

  frame_names : (found : Option Shape) (columns : List Name) (us : List Unknown) → found ≡ Some (Frame columns) → (columns_of found us).names ≡ columns
  frame_names found columns us is = ap (λ (o : Option Shape). (columns_of o us).names) is

  pub names_at : (x : Tree) (columns : List Name) → shape_at h.known (number_of x) ≡ Some (Frame columns) → (frame_at h x).names ≡ columns
  names_at x columns is = frame_names (shape_at h.known (number_of x)) columns (arrays_at h.known x) is

  pub names_of_variable : (d : List ℕ) (columns : List Name) → shape_named h.known d ≡ Some (Frame columns) → (columns_of (shape_named h.known d) (arrays_named h.known d)).names ≡ columns
  names_of_variable d columns is = frame_names (shape_named h.known d) columns (arrays_named h.known d) is

  pub export_lists : (at : Place) (e : Tree) (columns : List Name) → shape_at h.known (number_of e) ≡ Some (Frame columns) → 0 < length columns → Listed (export_code h at e)
  unfolding export_code has_lists
  export_lists at e columns is less =
      let many : length (ins_of h e) ≡ length columns = value_count h (number_of e) (Some (Frame columns)) is in
      let names : length (frame_at h e).names ≡ length columns = ap length (names_at e columns is) in
      (paired (ins_of h e) (frame_at h e).names (omega (arith, many, less)) (omega (arith, many, names)), tt)
