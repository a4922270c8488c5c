-- The slots of one value are a frame: those of its columns, in their order, and no other.
use Rattle.std.proofs.Common.{◌≡◌, ◌≢◌, ℕ, zero, suc, ◌+◌, ◌<◌, ◌==◌, Bool, true, false, not, ◌&&◌, ◌||◌, cond, List, [], ◌∷◌, ◌++◌, map, filter, length, slice_get, option_map, Option, Some, None, IsTrue, refl, sym, ap, ap₂, ◌∙◌, subst, append-nil, append_assoc, arith}
use Rattle.std.proofs.lemmas.Bool.{and_parts, and_from, eq-eqb, ne_eqb, or_parts, or_left}
use Rattle.std.proofs.lemmas.List.{length-map}
use Rattle.std.proofs.lemmas.List.Elements.{filter-append}
use Rattle.std.specs.Prelude.{slice_index_or}
use Rattle.std.specs.List.{AllByRecursion, range_with_len, position_or_len, list_any}
use Rattle.hp_script.specs.declared.typed.Shape.{Shape}
use Rattle.hp_script.specs.declared.typed.Typed.{Typed}
use Rattle.hp_script.specs.declared.typed.Var.{Var}
use Rattle.hp_script.specs.Mirror.{block_of}
use Rattle.hp_script.specs.Nodes.{nodes_of}
use Rattle.hp_script.proofs.TestLemmas.{not_true}
use Rattle.hp_air.specs.declared.slot.Slot.{Slot}
use Rattle.hp_air.specs.Carried.{is_among}
use Rattle.hp_air.specs.Frames.{slot_at, is_one_frame, frame_of}
use Rattle.hp_air.specs.Kept.{are_equal, is_frame}
use Rattle.hp_air.specs.Unknowns.{Known, Unknown, of_variable, of_node, balanced_of, of_nothing, same_unknown, known_of, shape_at, width, at_node, variables_from, nodes_from, constructs, unknowns}
use Rattle.hp_flat.specs.FlatLaws.{are_apart}
use Rattle.hp_flat.specs.Homes.{homes_of, homes_in, slots_in, slot_of, slot_for}
use Rattle.hp_flat.proofs.ArrayBlocks.{IsArray, is_same, same_itself, blocks, var_widths, variables_as_blocks, nodes_as_blocks}
use Rattle.hp_flat.proofs.RowScripts.{stands_at}
use Rattle.hp_flat.proofs.SlotPlaces.{among_right}
use Rattle.hp_flat.proofs.SlotLaws.{all_are_arrays, are_found, expressions_have, variables_have, have_one_each}
use Rattle.hp_flat.proofs.StencilCopies.{IsCopy, Copies, copies, block_copies}

-- ---- the places of arrays in their list

-- a test that no item passes
none_passes : {X : Type 0} (p : X → Bool) (xs : List X) → list_any p xs ≡ false → AllByRecursion (λ x. p x ≡ false) xs
none_passes p [] e = tt
none_passes p (x ∷ xs) e = let parts = or_parts (p x) (list_any p xs) e in (parts.0, none_passes p xs parts.1)

turned : (u v : Unknown) → IsArray u → same_unknown u v ≡ false → same_unknown v u ≡ false
turned u v is e = by (same_unknown v u) (is_same v u)
  where
    by : (b : Bool) → (IsTrue b → v ≡ u) → b ≡ false
    by true same = let other : same_unknown u v ≡ true = ap (same_unknown u) (same refl) ∙ same_itself u is in absurd cc
    by false same = refl

one_more : (a n : ℕ) → map (λ k. 1 + k) (range_with_len a n) ≡ range_with_len (a + 1) n
one_more a zero = refl
one_more a (suc n) = let next : 1 + a ≡ a + 1 = omega arith in ap₂ (λ (k : ℕ) (ks : List ℕ). k ∷ ks) next (one_more (a + 1) n)

behind_first : (v : Unknown) (vs us : List Unknown) → IsArray v → AllByRecursion (λ u. same_unknown v u ≡ false) us
    → map (λ u. position_or_len (same_unknown u) (v ∷ vs)) us ≡ map (λ k. 1 + k) (map (λ u. position_or_len (same_unknown u) vs) us)
behind_first v vs [] is never = refl
behind_first v vs (u ∷ us) is never =
    ap₂ (λ (k : ℕ) (ks : List ℕ). k ∷ ks) (ap (λ (b : Bool). cond (not b) (1 + position_or_len (same_unknown u) vs) 0) (turned v u is never.0)) (behind_first v vs us is never.1)

pub each_at_its_place : (us : List Unknown) → AllByRecursion IsArray us → IsTrue (are_apart us) → map (λ u. position_or_len (same_unknown u) us) us ≡ range_with_len 0 (length us)
each_at_its_place [] are apart = refl
each_at_its_place (v ∷ vs) are apart =
    let parts = and_parts (not (is_among vs v)) (are_apart vs) apart in
    let first : position_or_len (same_unknown v) (v ∷ vs) ≡ 0 = ap (λ (b : Bool). cond (not b) (1 + position_or_len (same_unknown v) vs) 0) (same_itself v are.0) in
    ap₂ (λ (k : ℕ) (ks : List ℕ). k ∷ ks) first
    (behind_first v vs vs are.0 (none_passes (same_unknown v) vs (not_true (is_among vs v) parts.0)) ∙ ap (map (λ k. 1 + k)) (each_at_its_place vs are.1 parts.1) ∙ one_more 0 (length vs))

-- ---- filters

filter_map_of : {X Y : Type 0} (p : Y → Bool) (f : X → Y) (xs : List X) → filter p (map f xs) ≡ map f (filter (λ x. p (f x)) xs)
filter_map_of p f [] = refl
filter_map_of p f (x ∷ xs) = by (p (f x)) (filter_map_of p f xs)
  where
    by : (b : Bool) → filter p (map f xs) ≡ map f (filter (λ y. p (f y)) xs) → cond b (f x ∷ filter p (map f xs)) (filter p (map f xs)) ≡ map f (cond b (x ∷ filter (λ y. p (f y)) xs) (filter (λ y. p (f y)) xs))
    by true e = ap (λ l. f x ∷ l) e
    by false e = e

filter_same : {X : Type 0} (p q : X → Bool) (xs : List X) → AllByRecursion (λ x. p x ≡ q x) xs → filter p xs ≡ filter q xs
filter_same p q [] same = refl
filter_same p q (x ∷ xs) same = ap₂ (λ (b : Bool) (l : List _). cond b (x ∷ l) l) same.0 (filter_same p q xs same.1)

filter_none : {X : Type 0} (p : X → Bool) (xs : List X) → AllByRecursion (λ x. p x ≡ false) xs → filter p xs ≡ []
filter_none p [] none = refl
filter_none p (x ∷ xs) none = ap₂ (λ (b : Bool) (l : List _). cond b (x ∷ l) l) none.0 (filter_none p xs none.1)

filter_all : {X : Type 0} (p : X → Bool) (xs : List X) → AllByRecursion (λ x. p x ≡ true) xs → filter p xs ≡ xs
filter_all p [] all = refl
filter_all p (x ∷ xs) all = ap₂ (λ (b : Bool) (l : List _). cond b (x ∷ l) l) all.0 (filter_all p xs all.1)

-- of blocks the one of a number is left, where the test tells it from the others
module _ (made : ℕ → ℕ → Unknown) (p : Unknown → Bool) (k : ℕ) (tells : (n c : ℕ) → p (made n c) ≡ (k == n)) where
  column_none : (n a w : ℕ) → k ≢ n → AllByRecursion (λ u. p u ≡ false) (map (made n) (range_with_len a w))
  column_none n a zero apart = tt
  column_none n a (suc w) apart = (tells n a ∙ ne_eqb k n apart, column_none n (a + 1) w apart)

  column_all : (n a w : ℕ) → k ≡ n → AllByRecursion (λ u. p u ≡ true) (map (made n) (range_with_len a w))
  column_all n a zero same = tt
  column_all n a (suc w) same = (tells n a ∙ eq-eqb k n same, column_all n (a + 1) w same)

  blocks_none : (n : ℕ) (ws : List ℕ) → k < n → filter p (blocks made n ws) ≡ []
  blocks_none n [] less = refl
  blocks_none n (w ∷ ws) less =
      filter-append p (map (made n) (range_with_len 0 w)) (blocks made (n + 1) ws)
      ∙ ap₂ (λ (xs ys : List Unknown). xs ++ ys) (filter_none p (map (made n) (range_with_len 0 w)) (column_none n 0 w (λ e. omega (arith, less, e)))) (blocks_none (n + 1) ws (omega (arith, less)))

  pub one_block : (n m : ℕ) (ws : List ℕ) → n + m ≡ k → filter p (blocks made n ws) ≡ map (made k) (range_with_len 0 (slice_index_or ws m 0))
  one_block n zero [] e = refl
  one_block n (suc m) [] e = refl
  one_block n zero (w ∷ ws) e =
      let same : k ≡ n = omega (arith, e) in
      filter-append p (map (made n) (range_with_len 0 w)) (blocks made (n + 1) ws)
      ∙ ap₂ (λ (xs ys : List Unknown). xs ++ ys) (filter_all p (map (made n) (range_with_len 0 w)) (column_all n 0 w same)) (blocks_none (n + 1) ws (omega (arith, e)))
      ∙ append-nil (map (made n) (range_with_len 0 w)) ∙ ap (λ (j : ℕ). map (made j) (range_with_len 0 w)) (sym same)
  one_block n (suc m) (w ∷ ws) e =
      filter-append p (map (made n) (range_with_len 0 w)) (blocks made (n + 1) ws)
      ∙ ap₂ (λ (xs ys : List Unknown). xs ++ ys) (filter_none p (map (made n) (range_with_len 0 w)) (column_none n 0 w (λ f. omega (arith, e, f)))) (one_block (n + 1) m ws (omega (arith, e)))

never_in : (made : ℕ → ℕ → Unknown) (p : Unknown → Bool) → ((n c : ℕ) → p (made n c) ≡ false) → (n : ℕ) (ws : List ℕ) → filter p (blocks made n ws) ≡ []
never_in made p never n [] = refl
never_in made p never n (w ∷ ws) =
    filter-append p (map (made n) (range_with_len 0 w)) (blocks made (n + 1) ws)
    ∙ ap₂ (λ (xs ys : List Unknown). xs ++ ys) (filter_none p (map (made n) (range_with_len 0 w)) (columns 0 w)) (never_in made p never (n + 1) ws)
  where
    columns : (a w : ℕ) → AllByRecursion (λ u. p u ≡ false) (map (made n) (range_with_len a w))
    columns a zero = tt
    columns a (suc w) = (never n a, columns (a + 1) w)

never_copied : (p : Unknown → Bool) → ((n : ℕ) → p (balanced_of n) ≡ false) → (us : List Unknown) → AllByRecursion IsCopy us → filter p us ≡ []
never_copied p never [] are = refl
never_copied p never (balanced_of n ∷ us) are = ap₂ (λ (b : Bool) (l : List Unknown). cond b (balanced_of n ∷ l) l) (never n) (never_copied p never us are.1)
never_copied p never (of_variable v c ∷ us) are = absurd are.0
never_copied p never (of_node v c ∷ us) are = absurd are.0
never_copied p never (of_nothing ∷ us) are = absurd are.0

-- ---- frames of slots

equal_self : (ks : List ℕ) → IsTrue (are_equal ks ks)
equal_self [] = refl
equal_self (k ∷ ks) = and_from _ _ (eq-eqb k k refl) (equal_self ks)

same_test : (b : Bool) → (not (false || false) && (b || false)) ≡ b
same_test true = refl
same_test false = refl

width_among : (shapes : List (Option Shape)) (k : ℕ) → slice_index_or (map width shapes) k 0 ≡ width (slice_index_or shapes k None)
width_among [] zero = refl
width_among [] (suc k) = refl
width_among (found ∷ shapes) zero = refl
width_among (found ∷ shapes) (suc k) = width_among shapes k

variable_width : (vars : List Var) (k : ℕ) → slice_index_or (var_widths vars) k 0 ≡ width (option_map (λ (var : Var). var.shape) (slice_get vars k))
variable_width [] zero = refl
variable_width [] (suc k) = refl
variable_width (var ∷ vars) zero = refl
variable_width (var ∷ vars) (suc k) = variable_width vars k

each_among : (xs before : List Unknown) → AllByRecursion IsArray xs → AllByRecursion (λ v. IsTrue (is_among (before ++ xs) v)) xs
each_among [] before are = tt
each_among (x ∷ xs) before are = (
  among_right x before (x ∷ xs) (or_left _ _ (same_itself x are.0)),
  subst (λ (l : List Unknown). AllByRecursion (λ v. IsTrue (is_among l v)) xs) (append_assoc before (x ∷ []) xs) (each_among xs (before ++ x ∷ []) are.1),
)

module _ (typed : Typed) where
  abbrev us : List Unknown
  us = unknowns typed

  abbrev g : Known
  g = known_of typed

  abbrev slots : List Slot
  slots = slots_in (homes_of typed)

  abbrev slot : Unknown → ℕ
  slot u = slot_of (homes_of typed) u

  -- an array of the script stands in its slot
  pub slot_here : (u : Unknown) → IsTrue (is_among us u) → slot_at slots (slot u) ≡ slot_for g u
  slot_here u is = stands_at slots (slot u) (slot_for g u) (record { node = None; var = None; column = 0; matrix = false; balanced = false }) (are_found typed u is)

  places : map slot us ≡ range_with_len 0 (length slots)
  unfolding slot_of slots_in homes_of homes_in unknowns constructs
  places = each_at_its_place us (all_are_arrays typed) (have_one_each typed).once ∙ ap (range_with_len 0) (sym (length-map us (slot_for g)))

  frame_as : (u : Unknown) → IsTrue (is_among us u) → (slot_for g u).balanced ≡ false → frame_of slots (slot u) ≡ map slot (filter (λ v. is_one_frame (slot_for g u) (slot_for g v)) us)
  frame_as u is alone =
      ap (λ (s : Slot). cond s.balanced (slot u ∷ []) (filter (λ j. is_one_frame s (slot_at slots j)) (range_with_len 0 (length slots)))) (slot_here u is)
      ∙ ap (λ (b : Bool). cond b (slot u ∷ []) (filter (λ j. is_one_frame (slot_for g u) (slot_at slots j)) (range_with_len 0 (length slots)))) alone
      ∙ ap (filter (λ j. is_one_frame (slot_for g u) (slot_at slots j))) (sym places)
      ∙ filter_map_of (λ j. is_one_frame (slot_for g u) (slot_at slots j)) slot us
      ∙ ap (map slot) (filter_same (λ v. is_one_frame (slot_for g u) (slot_at slots (slot v))) (λ v. is_one_frame (slot_for g u) (slot_for g v)) us (all us (each_among us [] (all_are_arrays typed))))
    where
      all : (vs : List Unknown) → AllByRecursion (λ v. IsTrue (is_among us v)) vs → AllByRecursion (λ v. is_one_frame (slot_for g u) (slot_at slots (slot v)) ≡ is_one_frame (slot_for g u) (slot_for g v)) vs
      all [] are = tt
      all (v ∷ vs) are = (ap (is_one_frame (slot_for g u)) (slot_here v are.0), all vs are.1)

  parts : (p : Unknown → Bool) → filter p us ≡ (filter p (blocks of_variable 0 (var_widths typed.vars)) ++ filter p (blocks of_node 0 (map width typed.shapes))) ++ filter p (copies (constructs typed))
  unfolding unknowns
  parts p =
      filter-append p (variables_from 0 typed.vars ++ nodes_from 0 typed.shapes) (copies (constructs typed))
      ∙ ap (λ (l : List Unknown). l ++ filter p (copies (constructs typed)))
      (filter-append p (variables_from 0 typed.vars) (nodes_from 0 typed.shapes) ∙ ap₂ (λ (xs ys : List Unknown). filter p xs ++ filter p ys) (variables_as_blocks 0 typed.vars) (nodes_as_blocks 0 typed.shapes))

  own : Copies (copies (constructs typed)) (nodes_of (block_of typed.script.body))
  unfolding constructs
  own = block_copies (known_of typed) (block_of typed.script.body)

  three_lists : (a b c d e : List Unknown) → a ≡ [] → b ≡ d → c ≡ [] → (a ++ b) ++ c ≡ d
  three_lists a b c d e p q r = ap₂ (λ (x z : List Unknown). (x ++ b) ++ z) p r ∙ append-nil b ∙ q

  two_lists : (a b c d e : List Unknown) → a ≡ d → b ≡ [] → c ≡ [] → (a ++ b) ++ c ≡ d
  two_lists a b c d e p q r = ap₂ (λ (y z : List Unknown). (a ++ y) ++ z) q r ∙ append-nil (a ++ []) ∙ append-nil a ∙ p

  node_filtered : (k c : ℕ) → filter (λ v. is_one_frame (slot_for g (of_node k c)) (slot_for g v)) us ≡ at_node g k
  unfolding slot_for
  node_filtered k c =
      let p : Unknown → Bool = λ v. is_one_frame (slot_for g (of_node k c)) (slot_for g v) in
      parts p
      ∙ three_lists _ _ _ (at_node g k) [] (never_in of_variable p (λ n d. refl) 0 (var_widths typed.vars))
      (one_block of_node p k (λ n d. same_test (k == n)) 0 k (map width typed.shapes) (omega arith) ∙ ap (λ (w : ℕ). map (of_node k) (range_with_len 0 w)) (width_among typed.shapes k))
      (never_copied p (λ n. refl) (copies (constructs typed)) own.are)

  variable_filtered : (k c : ℕ) → filter (λ v. is_one_frame (slot_for g (of_variable k c)) (slot_for g v)) us ≡ map (of_variable k) (range_with_len 0 (width (option_map (λ (var : Var). var.shape) (slice_get typed.vars k))))
  unfolding slot_for
  variable_filtered k c =
      let p : Unknown → Bool = λ v. is_one_frame (slot_for g (of_variable k c)) (slot_for g v) in
      parts p
      ∙ two_lists _ _ _ (map (of_variable k) (range_with_len 0 (width (option_map (λ (var : Var). var.shape) (slice_get typed.vars k))))) []
      (one_block of_variable p k (λ n d. refl) 0 k (var_widths typed.vars) (omega arith) ∙ ap (λ (w : ℕ). map (of_variable k) (range_with_len 0 w)) (variable_width typed.vars k))
      (never_in of_node p (λ n d. refl) 0 (map width typed.shapes)) (never_copied p (λ n. refl) (copies (constructs typed)) own.are)

  is_whole : (made : ℕ → Unknown) (w : ℕ) → ((c : ℕ) → c < w → frame_of slots (slot (made c)) ≡ map slot (map made (range_with_len 0 w))) → IsTrue (is_frame slots (map slot (map made (range_with_len 0 w))))
  is_whole made zero each = refl
  is_whole made (suc w) each =
      ap (λ (l : List ℕ). are_equal l (map slot (map made (range_with_len 0 (suc w))))) (each 0 (omega arith)) ∙ equal_self (map slot (map made (range_with_len 0 (suc w))))

  -- the slots of the value of an expression
  pub node_frame : (k : ℕ) → IsTrue (is_frame slots (map slot (at_node g k)))
  unfolding slot_for
  node_frame k = is_whole (of_node k) (width (shape_at g k)) (λ c less. frame_as (of_node k c) (expressions_have typed k c less) refl ∙ ap (map slot) (node_filtered k c))

  pub variable_here : (k c : ℕ) → c < width (option_map (λ (var : Var). var.shape) (slice_get typed.vars k)) → IsTrue (is_among us (of_variable k c))
  variable_here k c less = by (slice_get typed.vars k) refl less
    where
      by : (found : Option Var) → slice_get typed.vars k ≡ found → c < width (option_map (λ (var : Var). var.shape) found) → IsTrue (is_among us (of_variable k c))
      by None e l = absurd (omega (arith, l))
      by (Some var) e l = variables_have typed k var c e l

  -- and those of a variable
  pub place_frame : (k : ℕ) → IsTrue (is_frame slots (map slot (map (of_variable k) (range_with_len 0 (width (option_map (λ (var : Var). var.shape) (slice_get typed.vars k)))))))
  unfolding slot_for
  place_frame k =
      is_whole (of_variable k) (width (option_map (λ (var : Var). var.shape) (slice_get typed.vars k)))
      (λ c less. frame_as (of_variable k c) (variable_here k c less) refl ∙ ap (map slot) (variable_filtered k c))
