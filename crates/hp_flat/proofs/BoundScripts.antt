-- What a script's program asks of how its arrays lie is what the script asks.
use Rattle.std.proofs.Common.{◌≡◌, ℕ, zero, suc, ◌+◌, ◌==◌, Bool, true, false, ◌&&◌, ◌||◌, cond, if◌then◌else◌, nat_lt, List, [], ◌∷◌, ◌++◌, length, map, slice_get, option_map, Some, None, IsTrue, unwrap_or, refl, sym, ap, ap₂, subst, ◌∙◌, arith}
use Rattle.std.proofs.lemmas.Bool.{eq-eqb}
use Rattle.std.proofs.lemmas.List.{map-append, length-map}
use Rattle.std.proofs.lemmas.Option.{slice_get-map}
use Rattle.std.specs.Prelude.{flat_map}
use Rattle.std.specs.List.{AllByRecursion, position_or_len, range_with_len}
use Rattle.hp_script.specs.declared.typed.Typed.{Typed}
use Rattle.hp_program.specs.Programs.{operations}
use Rattle.hp_air.specs.declared.slot.Slot.{Slot}
use Rattle.hp_air.specs.Arrays.{arrays_of}
use Rattle.hp_air.specs.Carried.{is_among}
use Rattle.hp_air.specs.Constraints.{Bound, equal, bounds_of}
use Rattle.hp_air.specs.Frames.{is_one_frame, slot_at, first_of, balanced_slot}
use Rattle.hp_air.specs.Placed.{frame_bounds, program_bounds}
use Rattle.hp_air.specs.ScriptBounds.{column_bounds, bounds_among, script_bounds}
use Rattle.hp_air.specs.Unknowns.{Known, Unknown, of_variable, of_node, balanced_of, of_nothing, same_unknown, unknown_of, known_of, constructs, unknowns}
use Rattle.hp_flat.specs.Flat.{flat_script}
use Rattle.hp_flat.specs.FlatLaws.{AskTheSame, rebound}
use Rattle.hp_flat.specs.Homes.{homes_of, homes_in, slots_in, slot_of, slot_for}
use Rattle.hp_flat.proofs.ArrayBlocks.{IsArray}
use Rattle.hp_flat.proofs.BoundFrames.{Kind, of_it, other, column_bounded}
use Rattle.hp_flat.proofs.BoundRows.{bounds_of_rows, bounds_follow}
use Rattle.hp_flat.proofs.RowScripts.{are_step_by_step, among_back, stands_at}
use Rattle.hp_flat.proofs.RowSteps.{back}
use Rattle.hp_flat.proofs.SlotLaws.{all_are_arrays, arrays_in_order, have_one_each}

-- ---- kinds of arrays

or_with_false : (b : Bool) → (true && (b || false)) ≡ b
or_with_false true = refl
or_with_false false = refl

variable_kind : (g : Known) (w : Unknown) → Kind g of_variable w
unfolding slot_for same_unknown
variable_kind g (of_variable m j) = of_it m j
variable_kind g (of_node m j) = other (λ n k. refl) (λ n k. refl)
variable_kind g (balanced_of m) = other (λ n k. refl) (λ n k. refl)
variable_kind g of_nothing = other (λ n k. refl) (λ n k. refl)

node_kind : (g : Known) (w : Unknown) → Kind g of_node w
unfolding slot_for same_unknown
node_kind g (of_node m j) = of_it m j
node_kind g (of_variable m j) = other (λ n k. refl) (λ n k. refl)
node_kind g (balanced_of m) = other (λ n k. refl) (λ n k. refl)
node_kind g of_nothing = other (λ n k. refl) (λ n k. refl)

-- ---- lists

none_place : (n : ℕ) (slots : List Slot) → position_or_len (is_one_frame (balanced_slot n)) slots ≡ length slots
none_place n [] = refl
none_place n (s ∷ slots) = ap (λ (k : ℕ). 1 + k) (none_place n slots) ∙ omega arith

not_below : (n : ℕ) → nat_lt n n ≡ false
not_below n = grind arith

-- a balanced copy is a frame by itself
copy_bounded : (slots : List Slot) (k n : ℕ) (back : ℕ → Unknown) → slot_at slots k ≡ balanced_slot n → map (rebound back) (frame_bounds slots k) ≡ column_bounds (balanced_of n)
unfolding frame_bounds first_of column_bounds same_unknown
copy_bounded slots k n back slot =
    let alone : first_of slots k ≡ k =
    ap (λ (s : Slot). unwrap_or (cond (nat_lt (position_or_len (is_one_frame s) slots) (length slots)) (Some (position_or_len (is_one_frame s) slots)) None) k) slot
    ∙ ap (λ (p : ℕ). unwrap_or (cond (nat_lt p (length slots)) (Some p) None) k) (none_place n slots)
    ∙ ap (λ (b : Bool). unwrap_or (cond b (Some (length slots)) None) k) (not_below (length slots)) in
    ap (λ (b : Bool). map (rebound back) (if b then [] else equal k (first_of slots k))) (eq-eqb (first_of slots k) k alone)
    ∙ ap (λ (b : Bool). if b then [] else equal (balanced_of n) (balanced_of n)) (sym (eq-eqb n n refl))

pub item_array : (us : List Unknown) (k : ℕ) (u : Unknown) → AllByRecursion IsArray us → slice_get us k ≡ Some u → IsArray u
item_array [] k u all e = absurd cc
item_array (x ∷ us) zero u all e = let same : x ≡ u = cc in subst IsArray same all.0
item_array (x ∷ us) (suc k) u all e = item_array us k u all.1 e

collected : (back : ℕ → Unknown) (f : ℕ → List (Bound ℕ)) (us : List Unknown) (a : ℕ) → ((k : ℕ) (u : Unknown) → slice_get us k ≡ Some u → map (rebound back) (f (a + k)) ≡ column_bounds u)
    → map (rebound back) (flat_map f (range_with_len a (length us))) ≡ flat_map column_bounds us
collected back f [] a each = refl
collected back f (u ∷ us) a each =
    let here : a ≡ a + 0 = omega arith in
    map-append (rebound back) (f a) (flat_map f (range_with_len (a + 1) (length us)))
    ∙ ap₂ (λ (xs ys : List (Bound Unknown)). xs ++ ys) (ap (λ (k : ℕ). map (rebound back) (f k)) here ∙ each 0 u refl)
    (collected back f us (a + 1) (λ k v e. ap (λ (n : ℕ). map (rebound back) (f n)) (next k) ∙ each (suc k) v e))
  where
    next : (k : ℕ) → (a + 1) + k ≡ a + suc k
    next k = omega arith

-- ---- scripts

module _ (typed : Typed) where
  abbrev g : Known
  g = known_of typed

  abbrev backward : ℕ → Unknown
  backward k = unknown_of (slot_at (slots_in (homes_of typed)) k)

  slots_are : slots_in (homes_of typed) ≡ map (slot_for g) (unknowns typed)
  unfolding slots_in homes_of homes_in unknowns constructs
  slots_are = refl

  backs : (u : Unknown) → IsTrue (is_among (unknowns typed) u) → backward (position_or_len (same_unknown u) (unknowns typed)) ≡ u
  unfolding back slot_of homes_of homes_in unknowns constructs
  backs u is = among_back typed u is

  slot_is : (k : ℕ) (u : Unknown) → slice_get (unknowns typed) k ≡ Some u → slot_at (map (slot_for g) (unknowns typed)) k ≡ slot_for g u
  slot_is k u e = stands_at (map (slot_for g) (unknowns typed)) k (slot_for g u) (record { node = None; var = None; column = 0; matrix = false; balanced = false }) (slice_get-map (slot_for g) (unknowns typed) k ∙ ap (option_map (slot_for g)) e)

  column_is_bounded : (k : ℕ) (u : Unknown) → slice_get (unknowns typed) k ≡ Some u → map (rebound backward) (frame_bounds (map (slot_for g) (unknowns typed)) k) ≡ column_bounds u
  unfolding slot_for same_unknown
  column_is_bounded k (of_variable v c) e =
      column_bounded g of_variable (variable_kind g) (λ n j. tt) (λ n j. refl) (λ n j. refl) (λ n j m i. refl) (λ n j m i. refl) (λ n j i w. refl)
      (unknowns typed) (arrays_in_order typed) (have_one_each typed).once backward backs v c k refl (slot_is k (of_variable v c) e) e
  column_is_bounded k (of_node v c) e =
      column_bounded g of_node (node_kind g) (λ n j. tt) (λ n j. refl) (λ n j. refl) (λ n j m i. or_with_false (n == m)) (λ n j m i. refl) (λ n j i w. refl)
      (unknowns typed) (arrays_in_order typed) (have_one_each typed).once backward backs v c k refl (slot_is k (of_node v c) e) e
  column_is_bounded k (balanced_of n) e = copy_bounded (map (slot_for g) (unknowns typed)) k n backward (slot_is k (balanced_of n) e)
  column_is_bounded k of_nothing e = absurd (item_array (unknowns typed) k of_nothing (all_are_arrays typed) e)

  frames_ask : map (rebound backward) (flat_map (frame_bounds (slots_in (homes_of typed))) (range_with_len 0 (length (slots_in (homes_of typed))))) ≡ flat_map column_bounds (unknowns typed)
  frames_ask =
      ap (λ (slots : List Slot). map (rebound backward) (flat_map (frame_bounds slots) (range_with_len 0 (length slots)))) slots_are
      ∙ ap (λ (n : ℕ). map (rebound backward) (flat_map (frame_bounds (map (slot_for g) (unknowns typed))) (range_with_len 0 n))) (length-map (unknowns typed) (slot_for g))
      ∙ collected backward (frame_bounds (map (slot_for g) (unknowns typed))) (unknowns typed) 0 (λ k u e. ap (λ (n : ℕ). map (rebound backward) (frame_bounds (map (slot_for g) (unknowns typed)) n)) (from_zero k) ∙ column_is_bounded k u e)
    where
      from_zero : (k : ℕ) → 0 + k ≡ k
      from_zero k = omega arith

pub ask_the_same : AskTheSame
unfolding program_bounds script_bounds bounds_among
ask_the_same typed checked =
    let slots = slots_in (homes_of typed) in
    let backwards : ℕ → Unknown = λ k. unknown_of (slot_at slots k) in
    let p = flat_script typed in
    map-append (rebound backwards) (flat_map (frame_bounds slots) (range_with_len 0 (length slots))) (flat_map (λ op. bounds_of (arrays_of op.what)) (operations p))
    ∙ ap₂ (λ (xs ys : List (Bound Unknown)). xs ++ ys) (frames_ask typed) (bounds_of_rows backwards (operations p) ∙ bounds_follow (are_step_by_step typed checked))
