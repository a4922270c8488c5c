-- An operator or a function on arrays, or on an array and a word, is the loop of its element over the arrays of its operands.
use Rattle.std.proofs.Common.{◌≡◌, ℤ, List, [], ◌∷◌, ◌++◌, length, Option, Some, sym, ap, ap₂, ◌∙◌}
use Rattle.hp_word.specs.declared.elem.Elem.TheVariants as elem
use Rattle.hp_word.specs.declared.elem.Elem.TheViews as views
use Rattle.hp_word.specs.declared.place.Place.{Place}
use Rattle.hp_word.specs.declared.word.CalcOp.{CalcOp}
use Rattle.hp_script.specs.Mirror.{Tree}
use Rattle.hp_air.specs.Meaning.{mapped}
use Rattle.hp_air.specs.Unknowns.{Unknown, arrays_at}
use Rattle.hp_air.specs.Wholes.{Whole, Vector, cells, Env, lists_at}
use Rattle.hp_meaning.specs.declared.value.Kind.{Kind}
use Rattle.hp_meaning.specs.declared.value.Value.{Value}
use Rattle.hp_meaning.specs.Operands.{Cells, One, Many, as_cells}
use Rattle.hp_meaning.specs.Outcomes.{Answer, given, told}
use Rattle.hp_meaning.specs.WordRules.{with_left, with_right, spread, listed, elementwise}
use Rattle.hp_flat.specs.Elements.{dotted_elem}
use Rattle.hp_flat.specs.Homes.{Homes, slot_of, slots_of, word_of}
use Rattle.hp_flat.proofs.ElementLoops.{pairs_are, right_is, left_is}

-- at least one of two operands is an array
pub data HaveMany : Cells → Cells → Type 0 where
  two_many : {xs ys : List ℤ} → HaveMany (Many xs) (Many ys)
  first_many : {xs : List ℤ} {y : ℤ} → HaveMany (Many xs) (One y)
  second_many : {x : ℤ} {ys : List ℤ} → HaveMany (One x) (Many ys)

module _ (h : Homes) (e : Env) where
  -- an operand stands in its word, or in the slot of its only array
  pub data IsOperand (x : Tree) : Cells → Type 0 where
    word_operand : {z : ℤ} → arrays_at h.known x ≡ [] → e.words (word_of h x) ≡ z → IsOperand x (One z)
    array_operand : {xs : List ℤ} (u : Unknown) → arrays_at h.known x ≡ u ∷ [] → e.slots (slot_of h u) ≡ Vector xs → IsOperand x (Many xs)

  -- the operation of a dotted construct whose operands have these arrays
  abbrev over : Place → CalcOp → Tree → Tree → (us vs : List Unknown) → Answer (List ℤ)
  over at op x y us vs =
      told (mapped at e.words (lists_at e (slots_of h (us ++ vs)))
      (views.Calc op at (elim us [ [] ↦ elem.Word (word_of h x) | (_ ∷ _) ↦ elem.Input 0 ]) (elim vs [ [] ↦ elem.Word (word_of h y) | (_ ∷ _) ↦ elem.Input (length us) ])))

  over_is : (at : Place) (op : CalcOp) {x y : Tree} {a b : Cells} → HaveMany a b → IsOperand x a → IsOperand y b → over at op x y (arrays_at h.known x) (arrays_at h.known y) ≡ spread at op a b
  unfolding spread
  over_is at op {x = x} {y = y} two_many (array_operand {xs = xs} u us is) (array_operand {xs = ys} v vs other) =
      ap₂ (over at op x y) us vs
      ∙ ap₂ (λ (p q : Whole). told (mapped at e.words (cells p ∷ cells q ∷ []) (views.Calc op at (elem.Input 0) (elem.Input 1)))) is other
      ∙ pairs_are e.words at op xs ys
  over_is at op {x = x} {y = y} first_many (array_operand {xs = xs} u us is) (word_operand {z = z} none word) =
      ap₂ (over at op x y) us none
      ∙ ap (λ (p : Whole). told (mapped at e.words (cells p ∷ []) (views.Calc op at (elem.Input 0) (elem.Word (word_of h y))))) is
      ∙ right_is e.words at op xs (word_of h y) ∙ ap (with_right at op xs) word
  over_is at op {x = x} {y = y} second_many (word_operand {z = z} none word) (array_operand {xs = ys} v vs is) =
      ap₂ (over at op x y) none vs
      ∙ ap (λ (p : Whole). told (mapped at e.words (cells p ∷ []) (views.Calc op at (elem.Word (word_of h x)) (elem.Input 0)))) is
      ∙ left_is e.words at op (word_of h x) ys ∙ ap (λ (z : ℤ). with_left at op z ys) word

  pub dotted_is : (at : Place) (op : CalcOp) {x y : Tree} {a b : Cells} → HaveMany a b → IsOperand x a → IsOperand y b
      → told (mapped at e.words (lists_at e (slots_of h (arrays_at h.known x ++ arrays_at h.known y))) (dotted_elem h at op x y)) ≡ spread at op a b
  unfolding dotted_elem
  dotted_is at op many first second = over_is at op many first second

  -- what the construct gives of its two values
  pub elementwise_is : (at : Place) (op : CalcOp) (operands result : Kind) {x y : Tree} (v w : Value) {a b : Cells} → as_cells operands v ≡ Some a → as_cells operands w ≡ Some b → HaveMany a b → IsOperand x a → IsOperand y b
      → elementwise at op operands result v w ≡ listed result (told (mapped at e.words (lists_at e (slots_of h (arrays_at h.known x ++ arrays_at h.known y))) (dotted_elem h at op x y)))
  unfolding elementwise
  elementwise_is at op operands result v w {a = a} {b = b} v_is w_is many first second =
      ap₂ (λ (c d : Option Cells). given c (λ x. given d (λ y. listed result (spread at op x y)))) v_is w_is
      ∙ ap (listed result) (sym (dotted_is at op many first second))
