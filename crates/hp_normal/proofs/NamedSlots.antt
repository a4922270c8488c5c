-- The slots of variables by their names, and of balanced copies.
use Rattle.std.proofs.Common.{◌≡◌, ℕ, ◌+◌, ◌==◌, zero, suc, Bool, false, List, [], ◌∷◌, ◌++◌, map, length, slice_index_or, Option, Some, None, refl, sym, ap, ◌∙◌, append_assoc, arith}
use Rattle.std.proofs.lemmas.List.FromFn.{length-map-range_with_len}
use Rattle.std.specs.Prelude.{bytes_eq, position, slice_get, Result, Ok, Err, IfOk}
use Rattle.std.specs.List.{AllByRecursion, range_with_len, position_or_len}
use Rattle.std.specs.Option.{option_map}
use Rattle.hp_word.specs.declared.place.NoMemory.{NoMemory}
use Rattle.hp_script.specs.declared.typed.Shape.{Shape}
use Rattle.hp_script.specs.declared.typed.Var.{Var}
use Rattle.hp_air.specs.Unknowns.{Unknown, of_variable, of_node, balanced_of, same_unknown, width, arrays_named, variables_from, nodes_from}
use Rattle.hp_flat.specs.Homes.{slots_of, slot_of}
use Rattle.hp_normal.specs.declared.spans.Span.{Span}
use Rattle.hp_normal.specs.Programs.{slots_from}
use Rattle.hp_normal.specs.HomesHeld.{homes_with, firsts, var_widths, node_widths, widths}
use Rattle.hp_normal.proofs.SlotPlaces.{shape_among, var_slots, passes, regrouped}

among_get : (vars : List Var) (v : ℕ) → shape_among vars v ≡ option_map (λ v. v.shape) (slice_get vars v)
among_get [] v = refl
among_get (var ∷ vars) zero = refl
among_get (var ∷ vars) (suc v) = among_get vars v

pub slots_found : (shapes : List (Option Shape)) (vars : List Var) (reads copies : List ℕ) (x : List ℕ) (k : ℕ) → position (λ v. bytes_eq x v.name.bytes) vars ≡ Some k
    → slots_of (homes_with shapes vars reads copies) (arrays_named (record { shapes = shapes; vars = vars }) x)
    ≡ range_with_len (slice_index_or (firsts 0 (widths shapes vars)) k 0) (width (option_map (λ v. v.shape) (slice_get vars k)))
slots_found shapes vars reads copies x k e =
    let found : slots_of (homes_with shapes vars reads copies) (map (of_variable k) (range_with_len 0 (width (shape_among vars k)))) ≡ range_with_len (slice_index_or (firsts 0 (widths shapes vars)) k 0) (width (shape_among vars k)) = var_slots shapes vars reads copies k in
    rw e (rw (among_get vars k) at found)

pub slots_missing : (shapes : List (Option Shape)) (vars : List Var) (reads copies : List ℕ) (x : List ℕ) → position (λ v. bytes_eq x v.name.bytes) vars ≡ None
    → slots_of (homes_with shapes vars reads copies) (arrays_named (record { shapes = shapes; vars = vars }) x) ≡ []
slots_missing shapes vars reads copies x e = rw e refl

-- so many slots from the first on
pub span_found : (r : Result Span NoMemory) (found slots : List ℕ) (place count : ℕ) → found ≡ range_with_len (slice_index_or slots place 0) count
    → IfOk r (λ s. s.first ≡ slice_index_or slots place 0) → IfOk r (λ s. s.count ≡ count) → IfOk r (λ s. found ≡ slots_from s)
span_found (Ok s) found slots place count e f c = e ∙ sym (λ i. range_with_len (f i) (c i))
span_found (Err x) found slots place count e f c = tt

-- ---- balanced copies

other_way : (k c : ℕ) → (k == c) ≡ (c == k)
other_way k c = grind arith

among_copies : (k : ℕ) (copies : List ℕ) → position_or_len (same_unknown (balanced_of k)) (map balanced_of copies) ≡ position_or_len (λ c. c == k) copies
unfolding same_unknown
among_copies k [] = refl
among_copies k (c ∷ copies) = rw (other_way k c, among_copies k copies) refl

copy_no_node : (k n b w : ℕ) → AllByRecursion (λ u. same_unknown (balanced_of k) u ≡ false) (map (of_node n) (range_with_len b w))
unfolding same_unknown
copy_no_node k n b zero = tt
copy_no_node k n b (suc w) = (refl, copy_no_node k n (b + 1) w)

copy_no_var : (k n b w : ℕ) → AllByRecursion (λ u. same_unknown (balanced_of k) u ≡ false) (map (of_variable n) (range_with_len b w))
unfolding same_unknown
copy_no_var k n b zero = tt
copy_no_var k n b (suc w) = (refl, copy_no_var k n (b + 1) w)

behind_nodes : (n k before : ℕ) (shapes : List (Option Shape)) (copies : List ℕ)
    → before + position_or_len (same_unknown (balanced_of k)) (nodes_from n shapes ++ map balanced_of copies) ≡ slice_index_or (firsts before (node_widths shapes)) (length shapes) 0 + position_or_len (λ c. c == k) copies
unfolding nodes_from firsts
behind_nodes n k before [] copies = ap (λ (m : ℕ). before + m) (among_copies k copies)
behind_nodes n k before (found ∷ shapes) copies =
    let w = width found in
    let rest : List Unknown = nodes_from (n + 1) shapes ++ map balanced_of copies in
    let nested = append_assoc (map (of_node n) (range_with_len 0 w)) (nodes_from (n + 1) shapes) (map balanced_of copies) in
    let past = passes (same_unknown (balanced_of k)) (map (of_node n) (range_with_len 0 w)) rest (copy_no_node k n 0 w) in
    ap (λ (l : List Unknown). before + position_or_len (same_unknown (balanced_of k)) l) nested
    ∙ ap (λ (m : ℕ). before + m) past
    ∙ ap (λ (m : ℕ). before + (m + position_or_len (same_unknown (balanced_of k)) rest)) (length-map-range_with_len (of_node n) 0 w)
    ∙ regrouped before w _ _ (behind_nodes (n + 1) k (before + w) shapes copies)

behind_all : (n k before : ℕ) (vars : List Var) (shapes : List (Option Shape)) (copies : List ℕ)
    → before + position_or_len (same_unknown (balanced_of k)) (variables_from n vars ++ (nodes_from 0 shapes ++ map balanced_of copies))
    ≡ slice_index_or (firsts before (var_widths vars ++ node_widths shapes)) (length vars + length shapes) 0 + position_or_len (λ c. c == k) copies
unfolding variables_from firsts
behind_all n k before [] shapes copies =
    behind_nodes 0 k before shapes copies ∙ ap (λ (i : ℕ). slice_index_or (firsts before (node_widths shapes)) i 0 + position_or_len (λ c. c == k) copies) (omega arith)
behind_all n k before (var ∷ vars) shapes copies =
    let w = width (Some var.shape) in
    let rest : List Unknown = variables_from (n + 1) vars ++ (nodes_from 0 shapes ++ map balanced_of copies) in
    let nested = append_assoc (map (of_variable n) (range_with_len 0 w)) (variables_from (n + 1) vars) (nodes_from 0 shapes ++ map balanced_of copies) in
    let past = passes (same_unknown (balanced_of k)) (map (of_variable n) (range_with_len 0 w)) rest (copy_no_var k n 0 w) in
    let place : suc (length vars + length shapes) ≡ length (var ∷ vars) + length shapes = omega arith in
    ap (λ (l : List Unknown). before + position_or_len (same_unknown (balanced_of k)) l) nested
    ∙ ap (λ (m : ℕ). before + m) past
    ∙ ap (λ (m : ℕ). before + (m + position_or_len (same_unknown (balanced_of k)) rest)) (length-map-range_with_len (of_variable n) 0 w)
    ∙ regrouped before w _ _ (behind_all (n + 1) k (before + w) vars shapes copies)
    ∙ ap (λ (i : ℕ). slice_index_or (firsts before (var_widths (var ∷ vars) ++ node_widths shapes)) i 0 + position_or_len (λ c. c == k) copies) place

pub copy_slot : (shapes : List (Option Shape)) (vars : List Var) (reads copies : List ℕ) (k : ℕ)
    → slot_of (homes_with shapes vars reads copies) (balanced_of k) ≡ slice_index_or (firsts 0 (widths shapes vars)) (length vars + length shapes) 0 + position_or_len (λ c. c == k) copies
unfolding slot_of
copy_slot shapes vars reads copies k = omega (arith, behind_all 0 k 0 vars shapes copies)
