-- The slots and words of the operations of operators and calls, by the types of their operands.
use Rattle.std.proofs.Common.{◌≡◌, ◌≢◌, ℕ, ◌+◌, ◌<◌, Bool, true, false, cond, codes, bytes_eq, pos, List, [], ◌∷◌, ◌++◌, map, length, Option, Some, IsTrue, refl, sym, ap, ◌∙◌, subst, append-nil}
use Rattle.std.proofs.lemmas.Bool.{and_from}
use Rattle.std.proofs.lemmas.List.{map-append, length-append, length-map}
use Rattle.std.specs.List.{AllByRecursion, range_with_len}
use Rattle.hp_word.specs.declared.elem.Elem.{Elem}
use Rattle.hp_word.specs.declared.elem.Elem.TheVariants.{Input}
use Rattle.hp_word.specs.declared.fold.FoldKind.{FoldKind}
use Rattle.hp_word.specs.declared.place.Place.{Place}
use Rattle.hp_word.specs.declared.word.CalcOp.{CalcOp}
use Rattle.hp_word.specs.declared.word.CalcOp.TheVariants as calc
use Rattle.hp_script.specs.declared.tree.BinOp.{BinOp}
use Rattle.hp_script.specs.declared.tree.BinOp.TheVariants as binary_op
use Rattle.hp_script.specs.declared.typed.Shape.{Shape}
use Rattle.hp_script.specs.declared.typed.Shape.TheVariants.{Int, Ints, Matrix}
use Rattle.hp_script.specs.declared.typed.Typed.{Typed}
use Rattle.hp_script.specs.Mirror.{Head, Tree, call, none, plain as argument}
use Rattle.hp_program.specs.Programs.{Prog}
use Rattle.hp_air.specs.declared.what.Op.{Op}
use Rattle.hp_air.specs.declared.what.What.TheVariants as what
use Rattle.hp_air.specs.Arrays.{arrays_of, outs, sides}
use Rattle.hp_air.specs.Kept.{elem_fits}
use Rattle.hp_air.specs.Unknowns.{Unknown, of_node, known_of, shape_at, number_of, width, at_node, arrays_at, first}
use Rattle.hp_meaning.specs.WordRules.{calc_of}
use Rattle.hp_flat.specs.Elements.{dotted_elem}
use Rattle.hp_flat.specs.FlatCalls.{code_of, of_array, of_arrays, of_first, out_of, word_copy, dotted_code, product_code, multiplied, calculated_code, lazy_code, binary_code, index_code}
use Rattle.hp_flat.specs.Homes.{Homes, homes_of, slot_of, slots_of, word_at, word_of, homes_in, is_matrix}
use Rattle.hp_flat.proofs.ElemFits.{dotted_fits}
use Rattle.hp_flat.proofs.SlotCode.{is_slotted, is_word, slots, words, Slotted, slotted_both, own_word, part_word, is_below, one_word, two_words, three_words, writes, some_shapes, both_all, Read, ordinary, scalar_slots, single, value_as, out_value, out_at, part_reads}
use Rattle.hp_flat.proofs.SlotValues.{Fine, Grid, Off, Value, no_value, no_grid, none_shared, node_off}
use Rattle.hp_flat.proofs.Throughout.{through_array, through_arrays, through_first}

module _ (typed : Typed) where
  -- an expression has this type
  abbrev pub Is : ℕ → Shape → Type 0
  Is k a = shape_at (known_of typed) k ≡ Some a

  abbrev h : Homes
  h = homes_of typed

  pub ended : (P : ℕ → Type 0) (xs : List ℕ) → AllByRecursion P xs → AllByRecursion P (xs ++ [])
  ended P xs all = subst (AllByRecursion P) (sym (append-nil xs)) all

  pub empty : (x : Tree) (a : Shape) → Is (number_of x) a → width (Some a) ≡ 0 → arrays_at (known_of typed) x ≡ []
  empty x a is none_wide =
      ap (λ (o : Option Shape). map (of_node (number_of x)) (range_with_len 0 (width o))) is ∙ ap (λ (w : ℕ). map (of_node (number_of x)) (range_with_len 0 w)) none_wide

  -- the only array that is read
  pub one_read : (n : ℕ) (x : Tree) (a : Shape) (u : Unknown) → number_of x ≢ n → Is (number_of x) a → is_matrix (Some a) ≡ false → arrays_at (known_of typed) x ≡ u ∷ [] → AllByRecursion (Read typed n) (slot_of h u ∷ [])
  one_read n x a u apart is plain e = subst (λ (us : List Unknown). AllByRecursion (Read typed n) (slots_of h us)) e (part_reads typed n (number_of x) a apart is plain)

  -- ---- words

  pub calc_slots : (at : Place) (to : ℕ) (o : CalcOp) (l r : ℕ) → to < words typed → l < words typed → r < words typed → Slotted typed (code_of at (what.Calc to o l r))
  unfolding arrays_of outs sides
  calc_slots at to o l r p q s = (scalar_slots typed (what.Calc to o l r) refl refl refl refl refl (three_words typed to l r p q s) refl refl, tt)

  pub const_slots : (at : Place) (to : ℕ) (z : _) → to < words typed → Slotted typed (code_of at (what.Const to z))
  unfolding arrays_of outs sides
  const_slots at to z p = (scalar_slots typed (what.Const to z) refl refl refl refl refl (one_word typed to p) refl refl, tt)

  -- ---- dotted constructs

  pub map_slots : (at : Place) (n : ℕ) (a : Shape) (ins : List ℕ) (elem : Elem) → Is n a → width (Some a) ≡ 1 → is_matrix (Some a) ≡ false → IsTrue (elem_fits (words typed) (length ins) [] 0 elem) → AllByRecursion (Read typed n) ins
      → Slotted typed (code_of at (what.Map (slot_of h (of_node n 0)) ins elem))
  unfolding arrays_of outs sides
  map_slots at n a ins elem is one plain fits reads =
      let out = slot_of h (of_node n 0) in (
        ordinary typed (what.Map out ins elem) n (out ∷ []) (ins ++ []) refl refl refl refl refl refl fits (subst (λ (m : Bool). Value typed m (out ∷ [])) plain (out_value typed n a is one)) (out_at typed n a is one)
            (ended (Read typed n) ins reads) refl,
        tt,
      )

  pub dotted_slots : {one other : Shape} (n : Head) (a : Shape) (o : CalcOp) (x y : Tree) → Is n.id a → width (Some a) ≡ 1 → is_matrix (Some a) ≡ false → Is (number_of x) one → Is (number_of y) other
      → is_matrix (Some one) ≡ false → is_matrix (Some other) ≡ false → number_of x ≢ n.id → number_of y ≢ n.id → Slotted typed (dotted_code h n (dotted_elem h n.at o x y) x y)
  unfolding dotted_code homes_of homes_in
  dotted_slots {one = one} {other = other} n a o x y is wide plain first second p q r s =
      let us = arrays_at (known_of typed) x in
      let vs = arrays_at (known_of typed) y in
      let split : map (slot_of h) (us ++ vs) ≡ map (slot_of h) us ++ map (slot_of h) vs = map-append (slot_of h) us vs in
      let many : length (map (slot_of h) (us ++ vs)) ≡ length us + length vs = length-map (us ++ vs) (slot_of h) ∙ length-append us vs in
      map_slots n.at n.id a (slots_of h (us ++ vs)) (dotted_elem h n.at o x y) is wide plain
      (dotted_fits h (some_shapes typed n.id a is) n.at o x y (length (slots_of h (us ++ vs))) many (part_word typed x one first) (part_word typed y other second))
      (subst (AllByRecursion (Read typed n.id)) (sym split) (both_all typed (Read typed n.id) (map (slot_of h) us) (map (slot_of h) vs) (part_reads typed n.id (number_of x) one r first p) (part_reads typed n.id (number_of y) other s second q)))

  -- ---- products

  -- the right side is no call of `transpose`
  abbrev pub IsPlainRight : Tree → Type 0
  IsPlainRight (call m f false (argument y none)) = bytes_eq f (codes "transpose") ≡ false
  IsPlainRight _ = Unit {0}

  matrix_facts : (n : ℕ) (x : Tree) (u : Unknown) → number_of x ≢ n → Is (number_of x) Matrix → arrays_at (known_of typed) x ≡ u ∷ [] → Fine typed (slot_of h u) × Off typed n (slot_of h u) × Grid typed true (slot_of h u)
  matrix_facts n x u apart is e =
      let v = value_as typed (number_of x) Matrix is in
      let fine = subst (λ (us : List Unknown). AllByRecursion (Fine typed) (slots_of h us)) e v.fine in
      let grid = subst (λ (us : List Unknown). AllByRecursion (Grid typed true) (slots_of h us)) e v.grid in
      let off = subst (λ (us : List Unknown). AllByRecursion (Off typed n) (slots_of h us)) e (node_off typed (number_of x) n apart) in
      (fine.0, off.0, grid.0)

  matrix_pair : (n : Head) (x y : Tree) (u v : Unknown) → Is n.id Matrix → number_of x ≢ n.id → Is (number_of x) Matrix → arrays_at (known_of typed) x ≡ u ∷ [] → number_of y ≢ n.id → Is (number_of y) Matrix → arrays_at (known_of typed) y ≡ v ∷ []
      → Slotted typed (code_of n.at (what.Product (out_of h n) (slot_of h u) (slot_of h v))) × Slotted typed (code_of n.at (what.ProductT (out_of h n) (slot_of h u) (slot_of h v)))
  unfolding arrays_of outs sides
  matrix_pair n x y u v is r first e s second f =
      let one = matrix_facts n.id x u r first e in
      let other = matrix_facts n.id y v s second f in
      let out = out_value typed n.id Matrix is refl in
      let os = out_of h n ∷ [] in
      let rs = slot_of h u ∷ slot_of h v ∷ [] in
      let apart = none_shared typed n.id os rs (out_at typed n.id Matrix is refl) (one.1, (other.1, tt)) in
      let grids = and_from _ _ out.grid.0 (and_from _ _ one.2 (and_from _ _ other.2 refl)) in (
        (writes typed (what.Product (out_of h n) (slot_of h u) (slot_of h v)) true os rs refl refl refl refl refl refl out (one.0, (other.0, tt)) apart refl grids, tt),
        (writes typed (what.ProductT (out_of h n) (slot_of h u) (slot_of h v)) true os rs refl refl refl refl refl refl out (one.0, (other.0, tt)) apart refl grids, tt),
      )

  plain_product : (n : Head) (x y : Tree) → Is n.id Matrix → number_of x ≢ n.id → Is (number_of x) Matrix → number_of y ≢ n.id → Is (number_of y) Matrix
      → Slotted typed (of_arrays (arrays_at (known_of typed) x) (arrays_at (known_of typed) y) (λ a b. code_of n.at (what.Product (out_of h n) (slot_of h a) (slot_of h b))))
  plain_product n x y is r first s second =
      through_arrays (is_word (words typed)) (is_slotted (slots typed) (words typed)) (arrays_at (known_of typed) x) (arrays_at (known_of typed) y) _ (λ u v e f. (matrix_pair n x y u v is r first e s second f).0)

  pub product_slots : (n : Head) (x y : Tree) → IsPlainRight y → Is n.id Matrix → number_of x ≢ n.id → Is (number_of x) Matrix → number_of y ≢ n.id → Is (number_of y) Matrix → Slotted typed (product_code h n x y)
  unfolding product_code homes_of homes_in
  product_slots n x (call m f false (argument y none)) right is r first s second =
      subst (λ (b : Bool). Slotted typed (cond b (of_arrays (arrays_at (known_of typed) x) (arrays_at (known_of typed) y) (λ a b. code_of n.at (what.ProductT (out_of h n) (slot_of h a) (slot_of h b))))
      (of_arrays (arrays_at (known_of typed) x) (at_node (known_of typed) m.id) (λ a b. code_of n.at (what.Product (out_of h n) (slot_of h a) (slot_of h b)))))) (sym right)
      (plain_product n x (call m f false (argument y none)) is r first s second)
  product_slots n x y right is r first s second = plain_product n x y is r first s second

  pub transposed_slots : (n k : Head) (x y : Tree) → Is n.id Matrix → number_of x ≢ n.id → Is (number_of x) Matrix → number_of y ≢ n.id → Is (number_of y) Matrix → Slotted typed (product_code h n x (call k (codes "transpose") false (argument y none)))
  unfolding product_code homes_of homes_in
  transposed_slots n k x y is r first s second =
      through_arrays (is_word (words typed)) (is_slotted (slots typed) (words typed)) (arrays_at (known_of typed) x) (arrays_at (known_of typed) y) _ (λ u v e f. (matrix_pair n x y u v is r first e s second f).1)

  -- ---- operators of words

  calculated_slots : (n : Head) (o : BinOp) (a b c : Shape) (x y : Tree) → Is n.id a → Is (number_of x) b → Is (number_of y) c → Slotted typed (calculated_code h n o x y)
  calculated_slots n o a b c x y is first second = calc_slots n.at (word_at h n.id) (calc_of o) (word_of h x) (word_of h y) (own_word typed n.id a is) (part_word typed x b first) (part_word typed y c second)

  lazy_slots : (n : Head) (o : BinOp) (a b c : Shape) (x y : Tree) (other : Prog Op) → Is n.id a → Is (number_of x) b → Is (number_of y) c → Slotted typed other → Slotted typed (lazy_code h n o x y other)
  unfolding lazy_code word_copy
  lazy_slots n binary_op.And a b c x y other is first second all = (
    is_below typed (word_of h x) (part_word typed x b first),
    slotted_both typed other (word_copy n.at (word_at h n.id) (word_of h y)) all (calc_slots n.at (word_at h n.id) calc.Max (word_of h y) (word_of h y) (own_word typed n.id a is) (part_word typed y c second) (part_word typed y c second)),
    const_slots n.at (word_at h n.id) (pos 0) (own_word typed n.id a is),
    tt,
  )
  lazy_slots n o a b c x y other is first second all = (
    is_below typed (word_of h x) (part_word typed x b first),
    const_slots n.at (word_at h n.id) (pos 1) (own_word typed n.id a is),
    slotted_both typed other (word_copy n.at (word_at h n.id) (word_of h y)) all (calc_slots n.at (word_at h n.id) calc.Max (word_of h y) (word_of h y) (own_word typed n.id a is) (part_word typed y c second) (part_word typed y c second)),
    tt,
  )

  -- an operator whose left side is a word
  pub words_slots : (n : Head) (o : BinOp) (a b c : Shape) (x y : Tree) (other : Prog Op) → Is n.id a → Is (number_of x) b → width (Some b) ≡ 0 → Is (number_of y) c → Slotted typed other → Slotted typed (binary_code h n o false x y other)
  unfolding binary_code homes_of homes_in
  words_slots n binary_op.And a b c x y other is first alone second all = lazy_slots n binary_op.And a b c x y other is first second all
  words_slots n binary_op.Or a b c x y other is first alone second all = lazy_slots n binary_op.Or a b c x y other is first second all
  words_slots n binary_op.Mul a b c x y other is first alone second all =
      slotted_both typed other (multiplied h n x y (calculated_code h n binary_op.Mul x y)) all
      (subst (λ (us : List Unknown). Slotted typed (elim us as (λ (l : List Unknown). Prog Op) [ [] ↦ calculated_code h n binary_op.Mul x y | (_ ∷ _) ↦ product_code h n x y ])) (sym (empty x b first alone))
      (calculated_slots n binary_op.Mul a b c x y is first second))
  words_slots n o a b c x y other is first alone second all = slotted_both typed other (calculated_code h n o x y) all (calculated_slots n o a b c x y is first second)

  -- a product of matrices
  pub matrices_slots : (n : Head) (x y : Tree) (other : Prog Op) → Is (number_of x) Matrix → Slotted typed (product_code h n x y) → Slotted typed other → Slotted typed (binary_code h n binary_op.Mul false x y other)
  unfolding binary_code homes_of homes_in
  matrices_slots n x y other first own all =
      slotted_both typed other (multiplied h n x y (calculated_code h n binary_op.Mul x y)) all
      (subst (λ (us : List Unknown). Slotted typed (elim us as (λ (l : List Unknown). Prog Op) [ [] ↦ calculated_code h n binary_op.Mul x y | (_ ∷ _) ↦ product_code h n x y ])) (sym (single typed (number_of x) Matrix first refl)) own)

  -- ---- indices

  pub element_slots : (n : Head) (a many : Shape) (x i : Tree) → Is n.id a → number_of x ≢ n.id → Is (number_of x) many → is_matrix (Some many) ≡ false → Is (number_of i) Int → Slotted typed (index_code h n x i)
  unfolding index_code homes_of homes_in arrays_of outs sides
  element_slots n a many x i is r first plain second =
      through_array (is_word (words typed)) (is_slotted (slots typed) (words typed)) (arrays_at (known_of typed) x) _ (λ u e.
      subst (λ (us : List Unknown). Slotted typed (elim us as (λ (l : List Unknown). Prog Op) [ [] ↦ code_of n.at (what.At (word_at h n.id) (slot_of h u) (word_of h i)) | (k ∷ _) ↦ code_of n.at (what.Pick (out_of h n) (slot_of h u) (slot_of h k)) ])) (sym (empty i Int second refl)) (
        ordinary typed (what.At (word_at h n.id) (slot_of h u) (word_of h i)) n.id [] (slot_of h u ∷ []) refl refl refl refl refl (two_words typed (word_at h n.id) (word_of h i) (own_word typed n.id a is) (part_word typed i Int second)) refl
            (no_value typed) tt (one_read n.id x many u r first plain e) refl,
        tt,
      ))

  pub elements_slots : (n : Head) (many : Shape) (x i : Tree) → Is n.id many → width (Some many) ≡ 1 → is_matrix (Some many) ≡ false → number_of x ≢ n.id → Is (number_of x) many → number_of i ≢ n.id → Is (number_of i) Ints → Slotted typed (index_code h n x i)
  unfolding index_code homes_of homes_in arrays_of outs sides
  elements_slots n many x i is wide plain r first s second =
      through_array (is_word (words typed)) (is_slotted (slots typed) (words typed)) (arrays_at (known_of typed) x) _ (λ u e.
      subst (λ (us : List Unknown). Slotted typed (elim us as (λ (l : List Unknown). Prog Op) [ [] ↦ code_of n.at (what.At (word_at h n.id) (slot_of h u) (word_of h i)) | (k ∷ _) ↦ code_of n.at (what.Pick (out_of h n) (slot_of h u) (slot_of h k)) ])) (sym (single typed (number_of i) Ints second refl))
      (let one = one_read n.id x many u r first plain e in
      let other = one_read n.id i Ints (of_node (number_of i) 0) s second refl (single typed (number_of i) Ints second refl) in (
        ordinary typed (what.Pick (out_of h n) (slot_of h u) (slot_of h (of_node (number_of i) 0))) n.id (out_of h n ∷ []) (slot_of h u ∷ slot_of h (of_node (number_of i) 0) ∷ []) refl refl refl refl refl refl refl
            (subst (λ (m : Bool). Value typed m (out_of h n ∷ [])) plain (out_value typed n.id many is wide)) (out_at typed n.id many is wide) (one.0, (other.0, tt)) refl,
        tt,
      )))

  -- ---- calls of one array

  pub fold_slots : (n : Head) (a many : Shape) (kind : FoldKind) (x : Tree) → Is n.id a → number_of x ≢ n.id → Is (number_of x) many → is_matrix (Some many) ≡ false
      → Slotted typed (of_array (arrays_at (known_of typed) x) (λ array. code_of n.at (what.Reduce (word_at h n.id) kind (slot_of h array) (Input 0))))
  unfolding arrays_of outs sides elem_fits
  fold_slots n a many kind x is r first plain =
      through_array (is_word (words typed)) (is_slotted (slots typed) (words typed)) (arrays_at (known_of typed) x) _ (λ u e. (
        ordinary typed (what.Reduce (word_at h n.id) kind (slot_of h u) (Input 0)) n.id [] (slot_of h u ∷ []) refl refl refl refl refl (one_word typed (word_at h n.id) (own_word typed n.id a is)) refl (no_value typed) tt
            (one_read n.id x many u r first plain e) refl,
        tt,
      ))

  pub length_slots : (n : Head) (a many : Shape) (x : Tree) → Is n.id a → number_of x ≢ n.id → Is (number_of x) many → is_matrix (Some many) ≡ false
      → Slotted typed (of_first (arrays_at (known_of typed) x) (λ array. code_of n.at (what.Length (word_at h n.id) (slot_of h array))))
  unfolding arrays_of outs sides
  length_slots n a many x is r first plain =
      through_first (is_word (words typed)) (is_slotted (slots typed) (words typed)) (arrays_at (known_of typed) x) _ (λ u more e.
      let all = subst (λ (us : List Unknown). AllByRecursion (Read typed n.id) (slots_of h us)) e (part_reads typed n.id (number_of x) many r first plain) in
      (ordinary typed (what.Length (word_at h n.id) (slot_of h u)) n.id [] (slot_of h u ∷ []) refl refl refl refl refl (one_word typed (word_at h n.id) (own_word typed n.id a is)) refl (no_value typed) tt (all.0, tt) refl, tt))

  pub scan_slots : (n : Head) (x : Tree) → Is n.id Ints → number_of x ≢ n.id → Is (number_of x) Ints → Slotted typed (of_array (arrays_at (known_of typed) x) (λ array. code_of n.at (what.Scan (out_of h n) (slot_of h array))))
  unfolding arrays_of outs sides
  scan_slots n x is r first =
      through_array (is_word (words typed)) (is_slotted (slots typed) (words typed)) (arrays_at (known_of typed) x) _ (λ u e.
      (ordinary typed (what.Scan (out_of h n) (slot_of h u)) n.id (out_of h n ∷ []) (slot_of h u ∷ []) refl refl refl refl refl refl refl (out_value typed n.id Ints is refl) (out_at typed n.id Ints is refl) (one_read n.id x Ints u r first refl e) refl, tt))

  pub concat_slots : (n : Head) (many : Shape) (x y : Tree) → Is n.id many → width (Some many) ≡ 1 → is_matrix (Some many) ≡ false → number_of x ≢ n.id → Is (number_of x) many → number_of y ≢ n.id → Is (number_of y) many
      → Slotted typed (of_arrays (arrays_at (known_of typed) x) (arrays_at (known_of typed) y) (λ a b. code_of n.at (what.Concat (out_of h n) (slot_of h a) (slot_of h b))))
  unfolding arrays_of outs sides
  concat_slots n many x y is wide plain r first s second =
      through_arrays (is_word (words typed)) (is_slotted (slots typed) (words typed)) (arrays_at (known_of typed) x) (arrays_at (known_of typed) y) _ (λ u v e f.
      let one = one_read n.id x many u r first plain e in
      let other = one_read n.id y many v s second plain f in (
        ordinary typed (what.Concat (out_of h n) (slot_of h u) (slot_of h v)) n.id (out_of h n ∷ []) (slot_of h u ∷ slot_of h v ∷ []) refl refl refl refl refl refl refl
            (subst (λ (m : Bool). Value typed m (out_of h n ∷ [])) plain (out_value typed n.id many is wide)) (out_at typed n.id many is wide) (one.0, (other.0, tt)) refl,
        tt,
      ))

  pub filled_slots : (n : Head) (many : Shape) (v k : ℕ) → Is n.id many → width (Some many) ≡ 1 → is_matrix (Some many) ≡ false → v < words typed → k < words typed
      → Slotted typed (code_of n.at (what.Fill (out_of h n) v k)) × Slotted typed (code_of n.at (what.Range (out_of h n) v k))
  unfolding arrays_of outs sides
  filled_slots n many v k is wide plain p q =
      let value = subst (λ (m : Bool). Value typed m (out_of h n ∷ [])) plain (out_value typed n.id many is wide) in (
        (ordinary typed (what.Fill (out_of h n) v k) n.id (out_of h n ∷ []) [] refl refl refl refl refl (two_words typed v k p q) refl value (out_at typed n.id many is wide) tt refl, tt),
        (ordinary typed (what.Range (out_of h n) v k) n.id (out_of h n ∷ []) [] refl refl refl refl refl (two_words typed v k p q) refl value (out_at typed n.id many is wide) tt refl, tt),
      )

  pub row_slots : (n : Head) (x y : Tree) → Is n.id Ints → number_of x ≢ n.id → Is (number_of x) Matrix → Is (number_of y) Int
      → Slotted typed (of_array (arrays_at (known_of typed) x) (λ m. code_of n.at (what.Row (out_of h n) (slot_of h m) (word_of h y))))
  unfolding arrays_of outs sides
  row_slots n x y is r first second =
      through_array (is_word (words typed)) (is_slotted (slots typed) (words typed)) (arrays_at (known_of typed) x) _ (λ u e.
      let one = matrix_facts n.id x u r first e in
      let out = out_value typed n.id Ints is refl in (
        writes typed (what.Row (out_of h n) (slot_of h u) (word_of h y)) false (out_of h n ∷ []) (slot_of h u ∷ []) refl refl refl refl (one_word typed (word_of h y) (part_word typed y Int second)) refl out (one.0, tt)
            (none_shared typed n.id (out_of h n ∷ []) (slot_of h u ∷ []) (out_at typed n.id Ints is refl) (one.1, tt)) refl
            (and_from _ _ one.2 (no_grid typed (out_of h n ∷ []) out.grid)),
        tt,
      ))
