-- The operations of one construct beside what the script does there.
use Rattle.std.proofs.Common.{◌≡◌, ℕ, Bool, true, false, if◌then◌else◌, bytes_eq, codes, pos, List, [], ◌∷◌, ◌++◌, map, IsTrue, refl, sym, ap, ap₂, subst, ◌∙◌, append-nil}
use Rattle.std.proofs.lemmas.List.{map-append}
use Rattle.std.specs.List.{AllByRecursion}
use Rattle.hp_word.specs.declared.elem.Elem.{Elem}
use Rattle.hp_word.specs.declared.elem.Elem.TheVariants.{Number, Input}
use Rattle.hp_word.specs.declared.elem.Elem.TheViews.{Calc as calc_elem}
use Rattle.hp_word.specs.declared.place.Place.{Place}
use Rattle.hp_word.specs.declared.word.CalcOp.TheVariants as calc
use Rattle.hp_script.specs.declared.tree.BinOp.{BinOp}
use Rattle.hp_script.specs.declared.tree.BinOp.TheVariants as binary_op
use Rattle.hp_script.specs.declared.tree.UnOp.{UnOp}
use Rattle.hp_script.specs.Mirror.{Head, Tree, call, plain, none}
use Rattle.hp_program.specs.Programs.{Prog, stop, choose as branch, joined, operations}
use Rattle.hp_air.specs.declared.slot.Slot.{Slot}
use Rattle.hp_air.specs.declared.what.Op.{Op}
use Rattle.hp_air.specs.declared.what.What.{What}
use Rattle.hp_air.specs.declared.what.What.TheVariants as what
use Rattle.hp_air.specs.Arrays.{Arrays, Scalar, Length, Copy, Map, At, Pick, Product, ProductT, arrays_of, renamed}
use Rattle.hp_air.specs.Unknowns.{Unknown, of_node, at_node, arrays_at, number_of, copied, of_one, of_two, product_of, binary_of, index_of}
use Rattle.hp_meaning.specs.WordRules.{calc_of}
use Rattle.hp_flat.specs.Homes.{Homes, slot_of, slots_of, word_at, word_of}
use Rattle.hp_flat.specs.Elements.{unary_calc, dotted_elem}
use Rattle.hp_flat.specs.FlatCalls.{code_of, of_array, of_arrays, of_first, array_copy, word_copy, out_of, ins_of, unary_code, dotted_code, product_code, multiplied, calculated_code, lazy_code, binary_code, index_code}
use Rattle.hp_flat.specs.StepByStep.{Follows, both_end, first_length, is_step}
use Rattle.hp_flat.proofs.RowSteps.{follows_both, follows_as, one_scalar, one_step, back, Back, row, rows, follows_joined, all_back}
use Rattle.hp_flat.proofs.ServedCode.{all_both}

module _ (h : Homes) (slots : List Slot) where
  -- one operation that is a step
  pub step_rows : (at : Place) (w : What) (c : Arrays Unknown) → renamed (back h slots) (arrays_of w) ≡ c → IsTrue (is_step c) → Follows (rows h slots (code_of at w)) (c ∷ [])
  unfolding rows row operations
  step_rows at w c e is = one_step (renamed (back h slots) (arrays_of w)) c e is

  -- scalar work
  pub scalar_rows : (at : Place) (w : What) → renamed (back h slots) (arrays_of w) ≡ Scalar → Follows (rows h slots (code_of at w)) []
  unfolding rows row operations
  scalar_rows at w e = subst (λ (a : Arrays Unknown). Follows (a ∷ []) []) (sym e) one_scalar

  -- ---- copies

  pub copy_rows : (at : Place) (outs ins : List Unknown) → AllByRecursion (Back h slots) outs → AllByRecursion (Back h slots) ins → Follows (rows h slots (array_copy h at outs ins)) (copied outs ins)
  unfolding array_copy rows operations renamed arrays_of
  copy_rows at [] ins are from = both_end
  copy_rows at (out ∷ outs) ins are from =
      step_rows at (what.Copy (slots_of h (out ∷ outs)) (slots_of h ins)) (Copy (out ∷ outs) ins) (ap₂ Copy (all_back h slots (out ∷ outs) are) (all_back h slots ins from)) refl

  -- ---- one operation for the only array, and for two

  -- what is made of one array
  pub array_rows : (us : List Unknown) (code : Unknown → Prog Op) (made : Unknown → Arrays Unknown) → AllByRecursion (Back h slots) us
      → ((u : Unknown) → Back h slots u → Follows (rows h slots (code u)) (made u ∷ [])) → Follows (rows h slots (of_array us code)) (of_one us made)
  unfolding rows operations
  array_rows [] code made are each = both_end
  array_rows (u ∷ []) code made are each = each u are.0
  array_rows (u ∷ v ∷ us) code made are each = both_end

  pub arrays_rows : (us vs : List Unknown) (code : Unknown → Unknown → Prog Op) (made : Unknown → Unknown → Arrays Unknown) → AllByRecursion (Back h slots) us → AllByRecursion (Back h slots) vs
      → ((u v : Unknown) → Back h slots u → Back h slots v → Follows (rows h slots (code u v)) (made u v ∷ [])) → Follows (rows h slots (of_arrays us vs code)) (of_two us vs made)
  unfolding rows operations
  arrays_rows (u ∷ []) (v ∷ []) code made are from each = each u v are.0 from.0
  arrays_rows _ _ code made are from each = both_end

  -- the length of the first of some arrays
  pub length_rows : (at : Place) (w : ℕ) (us : List Unknown) → AllByRecursion (Back h slots) us → Follows (rows h slots (of_first us (λ array. code_of at (what.Length w (slot_of h array))))) (map Length us)
  unfolding rows row operations renamed arrays_of
  length_rows at w [] are = both_end
  length_rows at w (u ∷ us) are =
      subst (λ (v : Unknown). Follows (Length v ∷ []) (map Length (u ∷ us))) (sym are.0) (subst (λ (l : List (Arrays Unknown)). Follows (Length u ∷ []) l) (append-nil (map Length (u ∷ us))) (first_length u us both_end))

  -- ---- operators

  pub unary_rows : (n : Head) (op : UnOp) (dotted : Bool) (x : Tree) → (dotted ≡ true → Back h slots (of_node n.id 0)) → AllByRecursion (Back h slots) (arrays_at h.known x)
      → Follows (rows h slots (unary_code h n op dotted x)) (if dotted then Map (of_node n.id 0) (arrays_at h.known x) ∷ [] else [])
  unfolding unary_code renamed arrays_of
  unary_rows n op false x out are = scalar_rows n.at (what.Calc (word_at h n.id) (unary_calc op) (word_of h x) (word_of h x)) refl
  unary_rows n op true x out are =
      step_rows n.at (what.Map (out_of h n) (ins_of h x) (calc_elem (unary_calc op) n.at (Input 0) (Number (pos 0)))) (Map (of_node n.id 0) (arrays_at h.known x))
      (ap₂ Map (out refl) (all_back h slots (arrays_at h.known x) are)) refl

  pub dotted_rows : (n : Head) (elem : Elem) (x y : Tree) → Back h slots (of_node n.id 0) → AllByRecursion (Back h slots) (arrays_at h.known x) → AllByRecursion (Back h slots) (arrays_at h.known y)
      → Follows (rows h slots (dotted_code h n elem x y)) (Map (of_node n.id 0) (arrays_at h.known x ++ arrays_at h.known y) ∷ [])
  unfolding dotted_code renamed arrays_of
  dotted_rows n elem x y out first second =
      step_rows n.at (what.Map (out_of h n) (slots_of h (arrays_at h.known x ++ arrays_at h.known y)) elem) (Map (of_node n.id 0) (arrays_at h.known x ++ arrays_at h.known y))
      (ap₂ Map out (all_back h slots (arrays_at h.known x ++ arrays_at h.known y) (all_both (Back h slots) (arrays_at h.known x) (arrays_at h.known y) first second))) refl

  pub three : (made : Unknown → Unknown → Unknown → Arrays Unknown) (a b c d e f : Unknown) → a ≡ d → b ≡ e → c ≡ f → made a b c ≡ made d e f
  three made a b c d e f p q r = ap₂ (λ (u v : Unknown). made u v c) p q ∙ ap (made d e) r

  pub product_rows : (n : Head) (x y : Tree) → Back h slots (of_node n.id 0) → ((k : ℕ) → AllByRecursion (Back h slots) (at_node h.known k)) → Follows (rows h slots (product_code h n x y)) (product_of h.known n.id x y)
  unfolding product_code renamed arrays_of
  product_rows n x (call m f false (plain y none)) out each = either (bytes_eq f (codes "transpose"))
    where
      plainly : Follows (rows h slots (of_arrays (arrays_at h.known x) (at_node h.known m.id) (λ a b. code_of n.at (what.Product (out_of h n) (slot_of h a) (slot_of h b))))) (of_two (arrays_at h.known x) (at_node h.known m.id) (Product (of_node n.id 0)))
      plainly = arrays_rows (arrays_at h.known x) (at_node h.known m.id) (λ a b. code_of n.at (what.Product (out_of h n) (slot_of h a) (slot_of h b))) (Product (of_node n.id 0)) (each (number_of x)) (each m.id)
          (λ a b p q. step_rows n.at (what.Product (out_of h n) (slot_of h a) (slot_of h b)) (Product (of_node n.id 0) a b) (three Product _ _ _ _ _ _ out p q) refl)

      transposed : Follows (rows h slots (of_arrays (arrays_at h.known x) (arrays_at h.known y) (λ a b. code_of n.at (what.ProductT (out_of h n) (slot_of h a) (slot_of h b))))) (of_two (arrays_at h.known x) (arrays_at h.known y) (ProductT (of_node n.id 0)))
      transposed = arrays_rows (arrays_at h.known x) (arrays_at h.known y) (λ a b. code_of n.at (what.ProductT (out_of h n) (slot_of h a) (slot_of h b))) (ProductT (of_node n.id 0)) (each (number_of x)) (each (number_of y))
          (λ a b p q. step_rows n.at (what.ProductT (out_of h n) (slot_of h a) (slot_of h b)) (ProductT (of_node n.id 0) a b) (three ProductT _ _ _ _ _ _ out p q) refl)

      either : (b : Bool) → Follows (rows h slots (if b then of_arrays (arrays_at h.known x) (arrays_at h.known y) (λ a b. code_of n.at (what.ProductT (out_of h n) (slot_of h a) (slot_of h b))) else of_arrays (arrays_at h.known x) (at_node h.known m.id) (λ a b. code_of n.at (what.Product (out_of h n) (slot_of h a) (slot_of h b)))))
          (if b then of_two (arrays_at h.known x) (arrays_at h.known y) (ProductT (of_node n.id 0)) else of_two (arrays_at h.known x) (at_node h.known m.id) (Product (of_node n.id 0)))
      either true = transposed
      either false = plainly
  product_rows n x y out each =
      arrays_rows (arrays_at h.known x) (at_node h.known (number_of y)) (λ a b. code_of n.at (what.Product (out_of h n) (slot_of h a) (slot_of h b))) (Product (of_node n.id 0)) (each (number_of x)) (each (number_of y))
      (λ a b p q. step_rows n.at (what.Product (out_of h n) (slot_of h a) (slot_of h b)) (Product (of_node n.id 0) a b) (three Product _ _ _ _ _ _ out p q) refl)

  -- ---- operators of two operands

  -- the words of an operator whose left side is no array, or the array that one makes
  pub data MakesWords (arrays : List Unknown) (out : Unknown) : Type 0 where
    words_alone : arrays ≡ [] → MakesWords arrays out
    an_array : Back h slots out → MakesWords arrays out

  branch_rows : {cs ds : List (Arrays Unknown)} (w : ℕ) (p q : Prog Op) → Follows (rows h slots p) cs → Follows (rows h slots q) ds → Follows (rows h slots (branch w p q stop)) (cs ++ ds)
  unfolding rows operations
  branch_rows {cs = cs} {ds = ds} w p q first second =
      subst (λ (l : List (Arrays Unknown)). Follows l (cs ++ ds))
      (sym (ap (map (row h slots)) (append-nil (operations p ++ operations q)) ∙ map-append (row h slots) (operations p) (operations q)))
      (follows_both first second)

  none_of : (us : List Unknown) → us ≡ [] → (vs : List Unknown) (made : Unknown → Unknown → Arrays Unknown) → of_two us vs made ≡ []
  none_of us e vs made = ap (λ (l : List Unknown). of_two l vs made) e

  no_product : (n : Head) (x y : Tree) → arrays_at h.known x ≡ [] → product_of h.known n.id x y ≡ []
  no_product n x (call m f false (plain y none)) e = either (bytes_eq f (codes "transpose"))
    where
      either : (b : Bool) → (if b then of_two (arrays_at h.known x) (arrays_at h.known y) (ProductT (of_node n.id 0)) else of_two (arrays_at h.known x) (at_node h.known m.id) (Product (of_node n.id 0))) ≡ []
      either true = none_of (arrays_at h.known x) e (arrays_at h.known y) (ProductT (of_node n.id 0))
      either false = none_of (arrays_at h.known x) e (at_node h.known m.id) (Product (of_node n.id 0))
  no_product n x y e = none_of (arrays_at h.known x) e (at_node h.known (number_of y)) (Product (of_node n.id 0))

  multiplied_rows : (n : Head) (x y : Tree) (us : List Unknown) → arrays_at h.known x ≡ us → MakesWords (arrays_at h.known x) (of_node n.id 0) → ((k : ℕ) → AllByRecursion (Back h slots) (at_node h.known k))
      → Follows (rows h slots (elim us [ [] ↦ calculated_code h n binary_op.Mul x y | (_ ∷ _) ↦ product_code h n x y ])) (product_of h.known n.id x y)
  unfolding renamed arrays_of
  multiplied_rows n x y [] e out each =
      follows_as (sym (no_product n x y e)) (scalar_rows n.at (what.Calc (word_at h n.id) (calc_of binary_op.Mul) (word_of h x) (word_of h y)) refl)
  multiplied_rows n x y (u ∷ us) e (an_array out) each = product_rows n x y out each
  multiplied_rows n x y (u ∷ us) e (words_alone no_arrays) each = let never : u ∷ us ≡ [] = sym e ∙ no_arrays in absurd cc

  -- an operator behind its first side, with the rows of its second
  pub plain_rows : {cs : List (Arrays Unknown)} (n : Head) (op : BinOp) (x y : Tree) (second : Prog Op) → MakesWords (arrays_at h.known x) (of_node n.id 0)
      → ((k : ℕ) → AllByRecursion (Back h slots) (at_node h.known k)) → Follows (rows h slots second) cs → Follows (rows h slots (binary_code h n op false x y second)) (cs ++ binary_of h.known n.id op false x y)
  unfolding binary_code lazy_code word_copy renamed arrays_of
  plain_rows {cs = cs} n binary_op.And x y second out each p =
      follows_as (append-nil (cs ++ []))
      (branch_rows (word_of h x) (joined second (word_copy n.at (word_at h n.id) (word_of h y))) (code_of n.at (what.Const (word_at h n.id) (pos 0)))
      (follows_joined h slots second (word_copy n.at (word_at h n.id) (word_of h y)) p (scalar_rows n.at (what.Calc (word_at h n.id) calc.Max (word_of h y) (word_of h y)) refl))
      (scalar_rows n.at (what.Const (word_at h n.id) (pos 0)) refl))
  plain_rows n binary_op.Or x y second out each p =
      branch_rows (word_of h x) (code_of n.at (what.Const (word_at h n.id) (pos 1))) (joined second (word_copy n.at (word_at h n.id) (word_of h y)))
      (scalar_rows n.at (what.Const (word_at h n.id) (pos 1)) refl)
      (follows_joined h slots second (word_copy n.at (word_at h n.id) (word_of h y)) p (scalar_rows n.at (what.Calc (word_at h n.id) calc.Max (word_of h y) (word_of h y)) refl))
  plain_rows n binary_op.Mul x y second out each p =
      follows_joined h slots second (multiplied h n x y (calculated_code h n binary_op.Mul x y)) p (multiplied_rows n x y (arrays_at h.known x) refl out each)
  plain_rows n other x y second out each p =
      follows_joined h slots second (calculated_code h n other x y) p (scalar_rows n.at (what.Calc (word_at h n.id) (calc_of other) (word_of h x) (word_of h y)) refl)

  pub spread_rows : {cs : List (Arrays Unknown)} (n : Head) (op : BinOp) (x y : Tree) (second : Prog Op) → Back h slots (of_node n.id 0)
      → ((k : ℕ) → AllByRecursion (Back h slots) (at_node h.known k)) → Follows (rows h slots second) cs → Follows (rows h slots (binary_code h n op true x y second)) (cs ++ binary_of h.known n.id op true x y)
  unfolding binary_code
  spread_rows n op x y second out each p =
      follows_joined h slots second (dotted_code h n (dotted_elem h n.at (calc_of op) x y) x y) p (dotted_rows n (dotted_elem h n.at (calc_of op) x y) x y out (each (number_of x)) (each (number_of y)))

  -- ---- indices

  picked_rows : (n : Head) (i : Tree) (us is : List Unknown) → AllByRecursion (Back h slots) us → AllByRecursion (Back h slots) is → MakesWords is (of_node n.id 0)
      → Follows (rows h slots (of_array us (λ array. elim is [
        | [] ↦ code_of n.at (what.At (word_at h n.id) (slot_of h array) (word_of h i))
        | (k ∷ _) ↦ code_of n.at (what.Pick (out_of h n) (slot_of h array) (slot_of h k))
      ]))) (index_of n.id us is)
  unfolding renamed arrays_of
  picked_rows n i us [] are from out =
      array_rows us (λ array. code_of n.at (what.At (word_at h n.id) (slot_of h array) (word_of h i))) At are
      (λ u e. step_rows n.at (what.At (word_at h n.id) (slot_of h u) (word_of h i)) (At u) (ap At e) refl)
  picked_rows n i us (k ∷ is) are from (an_array out) =
      array_rows us (λ array. code_of n.at (what.Pick (out_of h n) (slot_of h array) (slot_of h k))) (λ x. Pick (of_node n.id 0) x k) are
      (λ u e. step_rows n.at (what.Pick (out_of h n) (slot_of h u) (slot_of h k)) (Pick (of_node n.id 0) u k) (three Pick _ _ _ _ _ _ out e from.0) refl)
  picked_rows n i us (k ∷ is) are from (words_alone no_arrays) = absurd cc

  pub index_rows : (n : Head) (x i : Tree) → MakesWords (arrays_at h.known i) (of_node n.id 0) → ((k : ℕ) → AllByRecursion (Back h slots) (at_node h.known k))
      → Follows (rows h slots (index_code h n x i)) (index_of n.id (arrays_at h.known x) (arrays_at h.known i))
  unfolding index_code
  index_rows n x i out each = picked_rows n i (arrays_at h.known x) (arrays_at h.known i) (each (number_of x)) (each (number_of i)) out
