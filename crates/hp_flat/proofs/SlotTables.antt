-- The slots and words of the operations on frames and stacks, of stencils, and of statements.
use Rattle.std.proofs.Common.{◌≡◌, ◌≢◌, ℕ, ◌<◌, ◌||◌, ◌==◌, Bool, true, false, not, List, [], ◌∷◌, ◌++◌, length, Some, IsTrue, refl, sym, ap, ap₂, ◌∙◌, subst}
use Rattle.std.proofs.lemmas.Bool.{and_from, lt-ltb, ne_eqb, eq-eqb}
use Rattle.std.proofs.lemmas.List.{map-append}
use Rattle.std.specs.List.{AllByRecursion}
use Rattle.hp_word.specs.declared.elem.Elem.{Elem}
use Rattle.hp_word.specs.declared.name.Name.{Name}
use Rattle.hp_word.specs.declared.place.Place.{Place}
use Rattle.hp_word.specs.declared.table.Measure.{Measure}
use Rattle.hp_word.specs.declared.word.CalcOp.TheVariants as calc
use Rattle.hp_script.specs.declared.typed.Shape.{Shape}
use Rattle.hp_script.specs.declared.typed.Shape.TheVariants.{Ints, Bools, Matrix, Frame}
use Rattle.hp_script.specs.declared.typed.Typed.{Typed}
use Rattle.hp_script.specs.Fitting.{CanPrint, print_number, print_truth, print_numbers, print_truths}
use Rattle.hp_script.specs.Mirror.{Head, Tree, Args}
use Rattle.hp_script.specs.Scope.{Scope}
use Rattle.hp_script.specs.Shaped.{AreArrays, no_more_arrays, one_array, AreGiven, no_more_given, one_given}
use Rattle.hp_program.specs.Programs.{Prog}
use Rattle.hp_air.specs.declared.slot.Slot.{Slot}
use Rattle.hp_air.specs.declared.what.Op.{Op}
use Rattle.hp_air.specs.declared.what.What.TheVariants as what
use Rattle.hp_air.specs.Arrays.{arrays_of, outs, sides}
use Rattle.hp_air.specs.Carried.{is_among}
use Rattle.hp_air.specs.Frames.{slot_at, is_one_node}
use Rattle.hp_air.specs.Kept.{elem_fits}
use Rattle.hp_air.specs.Unknowns.{Unknown, balanced_of, known_of, number_of, at_node, arrays_at, arrays_named, arguments_of, all, unknowns}
use Rattle.hp_flat.specs.Flat.{holds_truths, store_code, print_code, export_code}
use Rattle.hp_flat.specs.FlatCalls.{code_of, of_array, out_of, outs_of, ins_of, frame_at, word_copy, array_copy}
use Rattle.hp_flat.specs.Homes.{Homes, homes_of, homes_in, slot_of, slots_of, slot_for, word_of, word_named, is_matrix}
use Rattle.hp_flat.proofs.SlotCalls.{Is, ended, one_read, calc_slots}
use Rattle.hp_flat.proofs.SlotCode.{read_fine, read_off, read_grid, is_slotted, is_word, slots, words, Slotted, part_word, name_word, one_word, writes, Read, ordinary, both_all, copy_slots, value_source, value_as, out_value, out_at, part_reads}
use Rattle.hp_flat.proofs.SlotFrames.{slot_here}
use Rattle.hp_flat.proofs.SlotLaws.{are_found}
use Rattle.hp_flat.proofs.SlotValues.{Fine, Grid, Value, no_value, no_grid, all_plain, none_shared, node_at, value_side, got_below}
use Rattle.hp_flat.proofs.Throughout.{through_array}
use Rattle.hp_flat.proofs.ToldTypes.{ToldArrays, ToldGiven}
use Rattle.hp_flat.proofs.TreeParts.{SitsArgs, other_number}

module _ (typed : Typed) where
  abbrev h : Homes
  h = homes_of typed

  -- ---- frames

  abbrev Made : Head → Shape → Type 0
  Made n a = Is typed n.id a

  frame_value : (n : ℕ) (names : List Name) → Is typed n (Frame names) → Value typed false (slots_of h (at_node (known_of typed) n))
  frame_value n names is = value_as typed n (Frame names) is

  pub read_slots : (n : Head) (names : List Name) (table : ℕ) → Made n (Frame names) → Slotted typed (code_of n.at (what.Read (outs_of h n) table))
  unfolding arrays_of outs sides homes_of homes_in
  read_slots n names table is =
      let os = outs_of h n in
      (ordinary typed (what.Read os table) n.id os [] refl refl refl refl refl refl refl (frame_value n.id names is) (node_at typed n.id) tt refl, tt)

  pub filter_slots : (n : Head) (x y : Tree) (columns : List Name) → Made n (Frame columns) → number_of x ≢ n.id → Is typed (number_of x) (Frame columns) → number_of y ≢ n.id → Is typed (number_of y) Bools
      → Slotted typed (of_array (arrays_at (known_of typed) y) (λ mask. code_of n.at (what.Filter (outs_of h n) (ins_of h x) (slot_of h mask))))
  unfolding arrays_of outs sides homes_of homes_in
  filter_slots n x y columns is r first s second =
      let os = outs_of h n in
      let ins = ins_of h x in
      through_array (is_word (words typed)) (is_slotted (slots typed) (words typed)) (arrays_at (known_of typed) y) _ (λ u e. (
        ordinary typed (what.Filter os ins (slot_of h u)) n.id os (ins ++ slot_of h u ∷ []) refl refl refl refl refl refl refl (frame_value n.id columns is) (node_at typed n.id)
            (both_all typed (Read typed n.id) ins (slot_of h u ∷ []) (part_reads typed n.id (number_of x) (Frame columns) r first refl) (one_read typed n.id y Bools u s second refl e))
            (and_from _ _ (value_side typed ins (frame_value (number_of x) columns first)) refl),
        tt,
      ))

  pub join_slots : (n : Head) (x y : Tree) (j k : ℕ) (names left right : List Name) → Made n (Frame names) → number_of x ≢ n.id → Is typed (number_of x) (Frame left) → number_of y ≢ n.id → Is typed (number_of y) (Frame right)
      → Slotted typed (code_of n.at (what.Join (outs_of h n) (ins_of h x) j (ins_of h y) k))
  unfolding arrays_of outs sides homes_of homes_in
  join_slots n x y j k names left right is r first s second =
      let os = outs_of h n in
      let ls = ins_of h x in
      let rs = ins_of h y in (
        ordinary typed (what.Join os ls j rs k) n.id os (ls ++ (rs ++ [])) refl refl refl refl refl refl refl (frame_value n.id names is) (node_at typed n.id)
            (both_all typed (Read typed n.id) ls (rs ++ []) (part_reads typed n.id (number_of x) (Frame left) r first refl) (ended typed (Read typed n.id) rs (part_reads typed n.id (number_of y) (Frame right) s second refl)))
            (and_from _ _ (value_side typed ls (frame_value (number_of x) left first)) (and_from _ _ (value_side typed rs (frame_value (number_of y) right second)) refl)),
        tt,
      )

  pub keyed_slots : (n : Head) (x : Tree) (k : ℕ) (measures : List Measure) (names columns : List Name) → Made n (Frame names) → number_of x ≢ n.id → Is typed (number_of x) (Frame columns)
      → Slotted typed (code_of n.at (what.Group (outs_of h n) (ins_of h x) k measures)) × Slotted typed (code_of n.at (what.Sort (outs_of h n) (ins_of h x) k))
  unfolding arrays_of outs sides homes_of homes_in
  keyed_slots n x k measures names columns is r first =
      let os = outs_of h n in
      let ins = ins_of h x in
      let reads = ended typed (Read typed n.id) ins (part_reads typed n.id (number_of x) (Frame columns) r first refl) in
      let side = and_from _ _ (value_side typed ins (frame_value (number_of x) columns first)) refl in (
        (ordinary typed (what.Group os ins k measures) n.id os (ins ++ []) refl refl refl refl refl refl refl (frame_value n.id names is) (node_at typed n.id) reads side, tt),
        (ordinary typed (what.Sort os ins k) n.id os (ins ++ []) refl refl refl refl refl refl refl (frame_value n.id names is) (node_at typed n.id) reads side, tt),
      )

  -- ---- arguments that are arrays

  pub more_reads : (n : ℕ) (x : Tree) (us : List Unknown) → number_of x ≢ n → Is typed (number_of x) Ints → AllByRecursion (Read typed n) (slots_of h us) → AllByRecursion (Read typed n) (slots_of h (arrays_at (known_of typed) x ++ us))
  more_reads n x us r is all =
      subst (AllByRecursion (Read typed n)) (sym (map-append (slot_of h) (arrays_at (known_of typed) x) us))
      (both_all typed (Read typed n) (slots_of h (arrays_at (known_of typed) x)) (slots_of h us) (part_reads typed n (number_of x) Ints r is refl) all)

  module _ (P : Unknown → Type 0) where
    pub given_reads : {s : Scope} {before : List (List ℕ)} {xs : Args} {names : List Name} (n : ℕ) (given : AreGiven s before xs names) → ToldGiven (known_of typed) given → SitsArgs (known_of typed) P n xs
        → AllByRecursion (Read typed n) (slots_of h (all (arguments_of (known_of typed) xs)))
    given_reads n no_more_given told sits = tt
    given_reads n (one_given {a = x} {rest = rest} p new more) told sits = more_reads n x (all (arguments_of (known_of typed) rest)) (other_number n x sits.0.0) told.0.0 (given_reads n more told.1 sits.1)

    pub arrays_reads : {s : Scope} {xs : Args} (n : ℕ) (rest : AreArrays s xs) → ToldArrays (known_of typed) rest → SitsArgs (known_of typed) P n xs → AllByRecursion (Read typed n) (slots_of h (all (arguments_of (known_of typed) xs)))
    arrays_reads n no_more_arrays told sits = tt
    arrays_reads n (one_array {a = x} {rest = rest} p more) told sits = more_reads n x (all (arguments_of (known_of typed) rest)) (other_number n x sits.0.0) told.0.0 (arrays_reads n more told.1 sits.1)

  pub frame_slots : (n : Head) (ins : List ℕ) (names : List Name) → Made n (Frame names) → AllByRecursion (Read typed n.id) ins → Slotted typed (code_of n.at (what.Frame (outs_of h n) ins))
  unfolding arrays_of outs sides homes_of homes_in
  frame_slots n ins names is reads =
      let os = outs_of h n in
      (ordinary typed (what.Frame os ins) n.id os (ins ++ []) refl refl refl refl refl refl refl (frame_value n.id names is) (node_at typed n.id) (ended typed (Read typed n.id) ins reads) refl, tt)

  pub stack_slots : (n : Head) (ins : List ℕ) → Made n Matrix → AllByRecursion (Read typed n.id) ins → Slotted typed (code_of n.at (what.Stack (out_of h n) ins))
  unfolding arrays_of outs sides
  stack_slots n ins is reads =
      let out = out_value typed n.id Matrix is refl in
      let os = out_of h n ∷ [] in
      let rs = ended typed (Read typed n.id) ins reads in (
        writes typed (what.Stack (out_of h n) ins) true os (ins ++ []) refl refl refl refl refl refl out (read_fine typed n.id (ins ++ []) rs)
            (none_shared typed n.id os (ins ++ []) (out_at typed n.id Matrix is refl) (read_off typed n.id (ins ++ []) rs)) refl
            (and_from _ _ out.grid.0 (no_grid typed ins (read_grid typed n.id ins reads))),
        tt,
      )

  -- ---- stencils

  differ : (a b : ℕ) → (slot_at (slots typed) a).balanced ≡ false → (slot_at (slots typed) b).balanced ≡ true → a ≢ b
  differ a b p q e = let same : (slot_at (slots typed) b).balanced ≡ false = ap (λ (k : ℕ). (slot_at (slots typed) k).balanced) (sym e) ∙ p in opposite (slot_at (slots typed) b).balanced same q
    where
      opposite : (t : Bool) → t ≡ false → t ≡ true → ⊥
      opposite true f g = cc
      opposite false f g = cc

  one_node : (b o : Slot) (n : ℕ) → b.node ≡ Some (record { 0 = n }) → o.node ≡ Some (record { 0 = n }) → is_one_node b.node o.node ≡ true
  one_node b o n p q = ap₂ is_one_node p q ∙ eq-eqb n n refl

  pub stencil_slots : (n : Head) (x : Tree) (reach : ℕ) (elem : Elem) → Made n Ints → number_of x ≢ n.id → Is typed (number_of x) Ints → IsTrue (is_among (unknowns typed) (balanced_of n.id)) → IsTrue (elem_fits (words typed) 0 (reach ∷ []) 0 elem)
      → Slotted typed (of_array (arrays_at (known_of typed) x) (λ array. code_of n.at (what.Stencil (out_of h n) (slot_of h array) (slot_of h (balanced_of n.id)) reach elem)))
  unfolding arrays_of outs sides slot_for
  stencil_slots n x reach elem is r first copy fits =
      through_array (is_word (words typed)) (is_slotted (slots typed) (words typed)) (arrays_at (known_of typed) x) _ (λ u e.
      let o = out_of h n in
      let b = slot_of h (balanced_of n.id) in
      let a = slot_of h u in
      let out = out_value typed n.id Ints is refl in
      let at = out_at typed n.id Ints is refl in
      let read = one_read typed n.id x Ints u r first refl e in
      let here = slot_here typed (balanced_of n.id) copy in
      let b_below : b < length (slots typed) = got_below (slots typed) b (slot_for (known_of typed) (balanced_of n.id)) (are_found typed (balanced_of n.id) copy) in
      let b_balanced : (slot_at (slots typed) b).balanced ≡ true = ap (λ (s : Slot). s.balanced) here in
      let b_node : (slot_at (slots typed) b).node ≡ Some (record { 0 = n.id }) = ap (λ (s : Slot). s.node) here in
      let b_grid : (slot_at (slots typed) b).matrix ≡ false = ap (λ (s : Slot). s.matrix) here in
      let not_out : (b == o) ≡ false = ne_eqb b o (λ f. differ o b out.fine.0.1 b_balanced (sym f)) in
      let not_own : (a == o) ≡ false = ne_eqb a o (λ f. read.0.1 (ap (λ (k : ℕ). (slot_at (slots typed) k).node) f ∙ at.0)) in
      let not_copy : (a == b) ≡ false = ne_eqb a b (differ a b read.0.0.1 b_balanced) in
      let below = and_from _ _ (lt-ltb o (length (slots typed)) out.fine.0.0) (and_from _ _ (lt-ltb b (length (slots typed)) b_below) (and_from _ _ (lt-ltb a (length (slots typed)) read.0.0.0) refl)) in
      let distinct = and_from _ _ (ap (λ (t : Bool). not (t || false)) not_out) refl in
      let shared = ap₂ (λ (s t : Bool). not ((s || false) || ((t || false) || false))) not_own not_copy in
      let pair = and_from _ _ (and_from _ _ b_balanced (one_node (slot_at (slots typed) b) (slot_at (slots typed) o) n.id b_node at.0)) (all_plain typed (o ∷ a ∷ []) (out.fine.0, (read.0.0, tt))) in (
        and_from _ _ (and_from _ _ (and_from _ _ (and_from _ _ (and_from _ _ (and_from _ _ below refl) fits) (and_from _ _ distinct shared)) (and_from _ _ out.frame refl)) pair)
            (no_grid typed (o ∷ b ∷ a ∷ []) (out.grid.0, (b_grid, (read.0.2, tt)))),
        tt,
      ))

  -- ---- statements

  pub store_slots : (at : Place) (x : List ℕ) (e : Tree) (a : Shape) → Is typed (number_of e) a → Value typed (is_matrix (Some a)) (slots_of h (arrays_named (known_of typed) x)) → Slotted typed (store_code h at x e)
  unfolding store_code word_copy homes_of homes_in
  store_slots at x e a is value = by (arrays_at (known_of typed) e)
    where
      by : (us : List Unknown) → Slotted typed (elim us as (λ (l : List Unknown). Prog Op) [ [] ↦ word_copy at (word_named h x) (word_of h e) | (_ ∷ _) ↦ array_copy h at (arrays_named (known_of typed) x) (arrays_at (known_of typed) e) ])
      by [] = calc_slots typed at (word_named h x) calc.Max (word_of h e) (word_of h e) (name_word typed (number_of e) a is x) (part_word typed e a is) (part_word typed e a is)
      by (u ∷ us) = copy_slots typed at (is_matrix (Some a)) (arrays_named (known_of typed) x) (arrays_at (known_of typed) e) value (value_source typed (slots_of h (arrays_at (known_of typed) e)) (value_as typed (number_of e) a is))

  printed_plain : {a : Shape} → CanPrint a → is_matrix (Some a) ≡ false
  printed_plain print_number = refl
  printed_plain print_truth = refl
  printed_plain print_numbers = refl
  printed_plain print_truths = refl

  pub print_slots : (at : Place) (e : Tree) (a : Shape) → Is typed (number_of e) a → CanPrint a → Slotted typed (print_code h at e)
  unfolding print_code arrays_of outs sides homes_of homes_in
  print_slots at e a is can = by (arrays_at (known_of typed) e) refl
    where
      by : (us : List Unknown) → arrays_at (known_of typed) e ≡ us
          → Slotted typed (elim us as (λ (l : List Unknown). Prog Op) [ [] ↦ code_of at (what.PrintWord (word_of h e) (holds_truths h e)) | (x ∷ _) ↦ code_of at (what.PrintList (slot_of h x) (holds_truths h e)) ])
      by [] same =
          (writes typed (what.PrintWord (word_of h e) (holds_truths h e)) false [] [] refl refl refl refl (one_word typed (word_of h e) (part_word typed e a is)) refl (no_value typed) tt refl refl refl, tt)
      by (u ∷ us) same =
          let v = subst (λ (m : Bool). Value typed m (slots_of h (u ∷ us))) (printed_plain can) (subst (λ (l : List Unknown). Value typed (is_matrix (Some a)) (slots_of h l)) same (value_as typed (number_of e) a is)) in
          (writes typed (what.PrintList (slot_of h u) (holds_truths h e)) false [] (slot_of h u ∷ []) refl refl refl refl refl refl (no_value typed) (v.fine.0, tt) refl refl (no_grid typed (slot_of h u ∷ []) (v.grid.0, tt)), tt)

  pub export_slots : (at : Place) (e : Tree) (columns : List Name) → Is typed (number_of e) (Frame columns) → Slotted typed (export_code h at e)
  unfolding export_code arrays_of outs sides homes_of homes_in
  export_slots at e columns is =
      let ins = ins_of h e in
      let v = frame_value (number_of e) columns is in (
        writes typed (what.Export ins (frame_at h e).names) false [] (ins ++ []) refl refl refl refl refl refl (no_value typed) (ended typed (Fine typed) ins v.fine) refl (and_from _ _ (value_side typed ins v) refl)
            (no_grid typed (ins ++ []) (ended typed (Grid typed false) ins v.grid)),
        tt,
      )
