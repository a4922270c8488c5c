-- The elements of a script's loops name what there is: words of the program, inputs of the loop, and places within reach.
use Rattle.std.proofs.Common.{◌≡◌, ℕ, ℤ, pos, negsuc, nat_abs, zero, suc, ◌+◌, ◌<◌, ◌≤◌, Bool, true, false, not, max, cond, bytes_eq, List, [], ◌∷◌, length, slice_get, unwrap_or, Option, Some, None, IsTrue, refl, arith}
use Rattle.std.proofs.lemmas.Bool.{and_from, lt-ltb}
use Rattle.std.proofs.Math.Nat.{le-max_left, le-max_right}
use Rattle.std.specs.List.{position_or_len}
use Rattle.hp_word.specs.declared.elem.Elem.{Elem}
use Rattle.hp_word.specs.declared.elem.Elem.TheBlock as block
use Rattle.hp_word.specs.declared.elem.Elem.TheVariants.{Number, Word, Input}
use Rattle.hp_word.specs.declared.elem.Elem.TheViews.{Calc}
use Rattle.hp_word.specs.declared.place.Place.{Place}
use Rattle.hp_word.specs.declared.word.CalcOp.{CalcOp}
use Rattle.hp_word.specs.declared.word.CalcOp.TheVariants as calc
use Rattle.hp_script.specs.declared.function.Function.{Function}
use Rattle.hp_script.specs.declared.function.Function.TheVariants as function
use Rattle.hp_script.specs.declared.tree.BinOp.{BinOp}
use Rattle.hp_script.specs.declared.tree.BinOp.TheVariants as op
use Rattle.hp_script.specs.declared.typed.Shape.{Shape}
use Rattle.hp_script.specs.declared.typed.Var.{Var}
use Rattle.hp_script.specs.Functions.{function_named}
use Rattle.hp_script.specs.Mirror.{Tree}
use Rattle.hp_script.specs.Scope.{Scope, Role, element, window, role_of, with_parameter}
use Rattle.hp_script.specs.Shaped.{IsOutside, HasShape, of_number, of_truth, of_parameter, of_variable, of_scalar_variable, of_field, of_column, of_negation, of_not, of_nots, of_arithmetic, of_arithmetics, of_comparison, of_comparisons, of_logic, of_mask, of_product, of_transposed, of_element, of_elements, of_window, of_scalar_call, of_scalar_calls, of_map, of_stencil, of_fill, of_collect, of_length, of_fold, of_truth_fold, of_count, of_cumsum, of_vcat, of_stack, of_row, of_frame, of_read, of_nrow, of_filter, of_join, of_aggregate, of_sort}
use Rattle.hp_script.proofs.TestLemmas.{le_true}
use Rattle.hp_air.specs.Kept.{elem_fits, is_near}
use Rattle.hp_air.specs.Unknowns.{Unknown, arrays_at}
use Rattle.hp_meaning.specs.LambdaRules.{distance}
use Rattle.hp_flat.specs.Elements.{elem_of, elems_of, reach_of, reach_among, binary_elem, call_elem, dotted_elem}
use Rattle.hp_flat.specs.Homes.{Homes, word_named, word_of, words_in}
use Rattle.hp_flat.proofs.FrameTypes.{no_role}

pub place_within : {X : Type 0} (p : X → Bool) (xs : List X) → position_or_len p xs ≤ length xs
place_within p [] = omega arith
place_within p (x ∷ xs) = next (p x) (position_or_len p xs) (length xs) (place_within p xs)
  where
    next : (b : Bool) (n m : ℕ) → n ≤ m → cond (not b) (1 + n) 0 ≤ suc m
    next true n m e = omega arith
    next false n m e = omega (arith, e)

-- ---- elements made of others

module _ (words inputs : ℕ) (reaches : List ℕ) where
  abbrev Fits : Elem → Type 0
  Fits e = IsTrue (elem_fits words inputs reaches 0 e)

  pub calc_fits : (o : CalcOp) (at : Place) (a b : Elem) → Fits a → Fits b → Fits (Calc o at a b)
  unfolding elem_fits block.hidden-the_row-Elem-0 denote.Hole.Carrier.hidden
  calc_fits o at a b p q = and_from _ _ p q

  pub binary_fits : (o : BinOp) (at : Place) (a b : Elem) → Fits a → Fits b → Fits (binary_elem at o a b)
  unfolding elem_fits block.hidden-the_row-Elem-0 denote.Hole.Carrier.hidden
  binary_fits op.And at a b p q = and_from _ _ p q
  binary_fits op.Or at a b p q = and_from _ _ p q
  binary_fits o at a b p q = and_from _ _ p q

  pub scalar_fits : (at : Place) (f : Option Function) (a b : Elem) → Fits a → Fits b → Fits (call_elem at f (a ∷ b ∷ []))
  unfolding elem_fits block.hidden-the_row-Elem-0 denote.Hole.Carrier.hidden
  scalar_fits at (Some (function.Scalar f)) a b p q = and_from _ _ p q
  scalar_fits at _ a b p q = refl

-- ---- distances

near_fits : (z : ℤ) (reach : ℕ) → nat_abs z ≤ reach → IsTrue (is_near z (Some reach))
near_fits (pos zero) reach less = and_from _ _ (le_true 0 reach (omega arith)) (le_true 0 reach (omega arith))
near_fits (pos (suc n)) reach less = and_from _ _ (le_true (suc n) reach less) refl
near_fits (negsuc n) reach less = and_from _ _ refl (le_true (suc n) reach less)

larger_left : (a b most : ℕ) → max a b ≤ most → a ≤ most
larger_left a b most less = omega (arith, le-max_left a b, less)

larger_right : (a b most : ℕ) → max a b ≤ most → b ≤ most
larger_right a b most less = omega (arith, le-max_right a b, less)

-- ---- bodies of lambdas

module _ (h : Homes) (has : 0 < length h.known.shapes) where
  pub named_below : (x : List ℕ) → word_named h x < words_in h
  unfolding word_named words_in
  named_below x = omega (arith, place_within (λ (v : Var). bytes_eq x v.name.bytes) h.known.vars, has)

  module _ (inputs : ℕ) (reaches : List ℕ) (most : ℕ) (p : List ℕ) where
    -- what the names of a body may read
    pub record Inside (s : Scope) : Type 0 where
      pub inner : IsOutside s → ⊥
      pub input : (x : List ℕ) (a : Shape) → role_of s.parameters x ≡ Some (element a) → 0 < inputs
      pub bare : (x : List ℕ) → role_of s.parameters x ≡ None → bytes_eq x p ≡ true → 0 < inputs
      pub near : (x : List ℕ) → role_of s.parameters x ≡ Some window → (z : ℤ) → nat_abs z ≤ most → IsTrue (is_near z (slice_get reaches 0))

    abbrev Body : Tree → Type 0
    Body e = IsTrue (elem_fits (words_in h) inputs reaches 0 (elem_of h p e))

    name_fits : (x : List ℕ) → (bytes_eq x p ≡ true → 0 < inputs) → IsTrue (elem_fits (words_in h) inputs reaches 0 (cond (bytes_eq x p) (Input 0) (Word (word_named h x))))
    unfolding elem_fits
    name_fits x less = by (bytes_eq x p) less
      where
        by : (b : Bool) → (b ≡ true → 0 < inputs) → IsTrue (elem_fits (words_in h) inputs reaches 0 (cond b (Input 0) (Word (word_named h x))))
        by true l = lt-ltb 0 inputs (l refl)
        by false l = lt-ltb (word_named h x) (words_in h) (named_below x)

    pub body_fits : {s : Scope} {e : Tree} {a : Shape} → HasShape s e a → Inside s → reach_of e ≤ most → Body e
    unfolding elem_of elems_of reach_of reach_among elem_fits
    body_fits of_number i less = refl
    body_fits of_truth i less = refl
    body_fits (of_parameter {p = x} {a = a} role) i less = name_fits x (λ e. i.input x a role)
    body_fits (of_variable out is) i less = absurd (i.inner out)
    body_fits (of_scalar_variable {v = x} one is) i less = name_fits x (i.bare x is.bare)
    body_fits (of_field out is known) i less = absurd (i.inner out)
    body_fits (of_column out within known) i less = absurd (i.inner out)
    body_fits (of_negation {h = n} {a = x} q) i less = calc_fits (words_in h) inputs reaches calc.Neg n.at (elem_of h p x) (Number (pos 0)) (body_fits q i less) refl
    body_fits (of_not {h = n} {a = x} q) i less = calc_fits (words_in h) inputs reaches calc.Not n.at (elem_of h p x) (Number (pos 0)) (body_fits q i less) refl
    body_fits (of_nots {h = n} {a = x} q) i less = calc_fits (words_in h) inputs reaches calc.Not n.at (elem_of h p x) (Number (pos 0)) (body_fits q i less) refl
    body_fits (of_arithmetic {h = n} {op = o} {a = x} {b = y} is q r) i less = binary_fits (words_in h) inputs reaches o n.at _ _ (body_fits q i (larger_left (reach_of x) (reach_of y) most less)) (body_fits r i (larger_right (reach_of x) (reach_of y) most less))
    body_fits (of_arithmetics {h = n} {op = o} {a = x} {b = y} is e q r) i less = binary_fits (words_in h) inputs reaches o n.at _ _ (body_fits q i (larger_left (reach_of x) (reach_of y) most less)) (body_fits r i (larger_right (reach_of x) (reach_of y) most less))
    body_fits (of_comparison {h = n} {op = o} {a = x} {b = y} is q r) i less = binary_fits (words_in h) inputs reaches o n.at _ _ (body_fits q i (larger_left (reach_of x) (reach_of y) most less)) (body_fits r i (larger_right (reach_of x) (reach_of y) most less))
    body_fits (of_comparisons {h = n} {op = o} {a = x} {b = y} is e q r) i less = binary_fits (words_in h) inputs reaches o n.at _ _ (body_fits q i (larger_left (reach_of x) (reach_of y) most less)) (body_fits r i (larger_right (reach_of x) (reach_of y) most less))
    body_fits (of_logic {h = n} {op = o} {a = x} {b = y} is q r) i less = binary_fits (words_in h) inputs reaches o n.at _ _ (body_fits q i (larger_left (reach_of x) (reach_of y) most less)) (body_fits r i (larger_right (reach_of x) (reach_of y) most less))
    body_fits (of_mask {h = n} {op = o} {a = x} {b = y} is e q r) i less = binary_fits (words_in h) inputs reaches o n.at _ _ (body_fits q i (larger_left (reach_of x) (reach_of y) most less)) (body_fits r i (larger_right (reach_of x) (reach_of y) most less))
    body_fits (of_product {h = n} {a = x} {b = y} q r) i less = binary_fits (words_in h) inputs reaches op.Mul n.at _ _ (body_fits q i (larger_left (reach_of x) (reach_of y) most less)) (body_fits r i (larger_right (reach_of x) (reach_of y) most less))
    body_fits (of_transposed out q r) i less = absurd (i.inner out)
    body_fits (of_element out array q r) i less = absurd (i.inner out)
    body_fits (of_elements out array q r) i less = absurd (i.inner out)
    body_fits (of_window {p = x} {d = d} role is e) i less = i.near x role (unwrap_or (distance d) (pos 0)) less
    body_fits (of_scalar_call {h = n} {f = f} {a = x} {b = y} is q r) i less =
        scalar_fits (words_in h) inputs reaches n.at (function_named false f) _ _ (body_fits q i (larger_left (reach_of x) (max (reach_of y) 0) most less))
        (body_fits r i (larger_left (reach_of y) 0 most (larger_right (reach_of x) (max (reach_of y) 0) most less)))
    body_fits (of_scalar_calls {h = n} {f = f} {a = x} {b = y} is e q r) i less =
        scalar_fits (words_in h) inputs reaches n.at (function_named true f) _ _ (body_fits q i (larger_left (reach_of x) (max (reach_of y) 0) most less))
        (body_fits r i (larger_left (reach_of y) 0 most (larger_right (reach_of x) (max (reach_of y) 0) most less)))
    body_fits (of_map out array q becomes r) i less = absurd (i.inner out)
    body_fits (of_stencil out q r) i less = absurd (i.inner out)
    body_fits (of_fill out array q r) i less = absurd (i.inner out)
    body_fits (of_collect out q r) i less = absurd (i.inner out)
    body_fits (of_length out array q) i less = absurd (i.inner out)
    body_fits (of_fold out is q) i less = absurd (i.inner out)
    body_fits (of_truth_fold out is q) i less = absurd (i.inner out)
    body_fits (of_count out q) i less = absurd (i.inner out)
    body_fits (of_cumsum out q) i less = absurd (i.inner out)
    body_fits (of_vcat out array q r) i less = absurd (i.inner out)
    body_fits (of_stack out q rest) i less = absurd (i.inner out)
    body_fits (of_row out q r) i less = absurd (i.inner out)
    body_fits (of_frame out given narrow) i less = absurd (i.inner out)
    body_fits (of_read out columns narrow) i less = absurd (i.inner out)
    body_fits (of_nrow out q) i less = absurd (i.inner out)
    body_fits (of_filter out q r narrow) i less = absurd (i.inner out)
    body_fits (of_join out q r first second distinct narrow) i less = absurd (i.inner out)
    body_fits (of_aggregate out q known measures narrow) i less = absurd (i.inner out)
    body_fits (of_sort out q known narrow) i less = absurd (i.inner out)

  inside_is : (s : Scope) (p : List ℕ) (r : Role) → IsOutside (with_parameter s p r) → ⊥
  inside_is s p r out = cc

  -- the only input of a `map` is its parameter
  pub map_fits : {s : Scope} {e : Tree} {made : Shape} (p : List ℕ) (one : Shape) → IsOutside s → HasShape (with_parameter s p (element one)) e made → IsTrue (elem_fits (words_in h) 1 [] 0 (elem_of h p e))
  map_fits {s = s} {e = e} p one out q =
      body_fits 1 [] (reach_of e) p q
      (record { inner = inside_is s p (element one); input = λ x a role. omega arith; bare = λ x role same. omega arith; near = λ x role z less. absurd (never x role) }) (omega arith)
    where
      by : (b : Bool) (x : List ℕ) → cond b (Some (element one)) (role_of s.parameters x) ≡ Some window → ⊥
      by true x role = cc
      by false x role = no_role s.parameters x window out role

      never : (x : List ℕ) → role_of (with_parameter s p (element one)).parameters x ≡ Some window → ⊥
      never x role = by (bytes_eq x p) x role

  -- a stencil looks no further than its reach
  pub stencil_fits : {s : Scope} {e : Tree} {made : Shape} (p : List ℕ) → IsOutside s → HasShape (with_parameter s p window) e made → IsTrue (elem_fits (words_in h) 0 (reach_of e ∷ []) 0 (elem_of h p e))
  stencil_fits {s = s} {e = e} p out q =
      body_fits 0 (reach_of e ∷ []) (reach_of e) p q
      (record { inner = inside_is s p window; input = λ x a role. absurd (no_element x a role); bare = λ x role same. absurd (no_bare x role same); near = λ x role z less. near_fits z (reach_of e) less }) (omega arith)
    where
      by : (b : Bool) (x : List ℕ) (a : Shape) → cond b (Some window) (role_of s.parameters x) ≡ Some (element a) → ⊥
      by true x a role = cc
      by false x a role = no_role s.parameters x (element a) out role

      no_element : (x : List ℕ) (a : Shape) → role_of (with_parameter s p window).parameters x ≡ Some (element a) → ⊥
      no_element x a role = by (bytes_eq x p) x a role

      other : (b : Bool) (o : Option Role) → cond b (Some window) o ≡ None → b ≡ true → ⊥
      other true o role same = cc
      other false o role same = cc

      no_bare : (x : List ℕ) → role_of (with_parameter s p window).parameters x ≡ None → bytes_eq x p ≡ true → ⊥
      no_bare x role same = other (bytes_eq x p) (role_of s.parameters x) role same

  -- ---- dotted constructs

  operand_fits : (inputs before : ℕ) (x : Tree) → word_of h x < words_in h → (us : List Unknown) → (0 < length us → before < inputs)
      → IsTrue (elem_fits (words_in h) inputs [] 0 (elim us as (λ (l : List Unknown). Elem) [ [] ↦ Word (word_of h x) | (_ ∷ _) ↦ Input before ]))
  unfolding elem_fits
  operand_fits inputs before x word [] less = lt-ltb (word_of h x) (words_in h) word
  operand_fits inputs before x word (u ∷ us) less = lt-ltb before inputs (less (omega arith))

  pub dotted_fits : (at : Place) (o : CalcOp) (x y : Tree) (inputs : ℕ) → inputs ≡ length (arrays_at h.known x) + length (arrays_at h.known y) → word_of h x < words_in h → word_of h y < words_in h
      → IsTrue (elem_fits (words_in h) inputs [] 0 (dotted_elem h at o x y))
  unfolding dotted_elem
  dotted_fits at o x y inputs same first second =
      calc_fits (words_in h) inputs [] o at _ _ (operand_fits inputs 0 x first (arrays_at h.known x) (λ l. omega (arith, same, l))) (operand_fits inputs (length (arrays_at h.known x)) y second (arrays_at h.known y) (λ l. omega (arith, same, l)))
