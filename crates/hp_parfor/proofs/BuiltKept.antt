-- What is built of a program that keeps its laws keeps them, and stays small.
use Rattle.std.proofs.Common.{◌≡◌, ℕ, suc, nat_lt, ◌+◌, ◌*◌, ◌≤◌, ◌<◌, Bool, true, false, not, ◌&&◌, ◌||◌, cond, List, [], ◌∷◌, ◌++◌, flat_map, length, sum_by, IsTrue, refl, arith}
use Rattle.std.proofs.lemmas.Bool.{eq-eqb}
use Rattle.std.proofs.lemmas.List.{length-append}
use Rattle.std.proofs.lemmas.List.Sums.{sum_by-cons}
use Rattle.std.specs.List.{list_all, list_any}
use Rattle.hp_word.specs.declared.elem.Elem.{Elem}
use Rattle.hp_word.specs.declared.fold.FoldKind.{FoldKind}
use Rattle.hp_word.specs.declared.place.Place.{Place}
use Rattle.hp_program.proofs.Keeping.{first_holds, second_holds}
use Rattle.hp_program.proofs.Replaced.{operations_replaced, tests_replaced}
use Rattle.hp_program.specs.Programs.{Prog, operations, tests, replaced}
use Rattle.hp_air.specs.declared.slot.Slot.{Slot}
use Rattle.hp_air.specs.declared.what.Op.{Op}
use Rattle.hp_air.specs.declared.what.What.{What}
use Rattle.hp_air.specs.declared.what.What.TheVariants as what
use Rattle.hp_air.specs.Arrays.{arrays_of, outs, sides}
use Rattle.hp_air.specs.Frames.{slot_at}
use Rattle.hp_air.specs.Kept.{are_below, is_within, has_lists, is_apart, has_frames, has_copy, has_matrices, is_matrix, is_frame, elem_fits, is_kept, are_kept, moves_in, items_in, size_of, names_of}
use Rattle.hp_parfor.specs.Built.{map_loop, reduce_loop, stencil_loop, built_at, built}
use Rattle.hp_parfor.specs.KeptParts.{is_whole, is_loop_kept, is_operation_kept, is_part_kept, are_parts, part_moves, part_items, parts_size, parts_names}
use Rattle.hp_parfor.specs.Parts.{Part}

-- ---- truth values

pub both : (a b : Bool) → IsTrue a → IsTrue b → IsTrue (a && b)
both true b p q = q
both false b p q = absurd cc

-- ---- the parts of what an operation keeps

module _ (slots : List Slot) (words : ℕ) (w : What) (kept : IsTrue (is_kept slots words w)) where
  within : IsTrue (is_within slots words w)
  within = first_holds _ _ (first_holds _ _ (first_holds _ _ (first_holds _ _ (first_holds _ _ kept))))

  lists : IsTrue (has_lists w)
  lists = second_holds _ _ (first_holds _ _ (first_holds _ _ (first_holds _ _ (first_holds _ _ kept))))

  apart : IsTrue (is_apart (arrays_of w))
  apart = second_holds _ _ (first_holds _ _ (first_holds _ _ (first_holds _ _ kept)))

  frames : IsTrue (has_frames slots (arrays_of w))
  frames = second_holds _ _ (first_holds _ _ (first_holds _ _ kept))

  pub copies : IsTrue (has_copy slots (arrays_of w))
  copies = second_holds _ _ (first_holds _ _ kept)

  matrices : IsTrue (has_matrices slots (arrays_of w))
  matrices = second_holds _ _ kept

  -- an operation that is no loop
  whole_kept : IsTrue (is_whole w) → IsTrue (is_operation_kept slots words w)
  whole_kept whole = both _ _ (both _ _ (both _ _ (both _ _ (both _ _ whole within) lists) apart) frames) matrices

-- ---- loops

-- each test of a map is one of its loop's; the first in is looked at twice
map_tests : (a b c e apart frame copy m1 m2 m3 : Bool) → IsTrue ((((((((a && (b && c)) && true) && e) && true) && apart) && (frame && true)) && copy) && not (m1 || (m2 || m3)))
    → IsTrue ((((((((a && (b && (b && c))) && true) && true) && (e && true)) && true) && true) && (frame && true)) && not (m1 || (m2 || (m2 || m3))))
map_tests false b c e apart frame copy m1 m2 m3 p = absurd cc
map_tests true false c e apart frame copy m1 m2 m3 p = absurd cc
map_tests true true false e apart frame copy m1 m2 m3 p = absurd cc
map_tests true true true false apart frame copy m1 m2 m3 p = absurd cc
map_tests true true true true false frame copy m1 m2 m3 p = absurd cc
map_tests true true true true true false copy m1 m2 m3 p = absurd cc
map_tests true true true true true true false m1 m2 m3 p = absurd cc
map_tests true true true true true true true true m2 m3 p = absurd cc
map_tests true true true true true true true false true m3 p = absurd cc
map_tests true true true true true true true false false true p = absurd cc
map_tests true true true true true true true false false false p = refl

map_kept : (slots : List Slot) (words : ℕ) (at : Place) (out : ℕ) (ins : List ℕ) (elem : Elem) → IsTrue (is_kept slots words (what.Map out ins elem)) → IsTrue (is_loop_kept slots words (map_loop at out ins elem))
unfolding arrays_of outs sides has_lists
map_kept slots words at out [] elem kept = let none : IsTrue false = lists slots words (what.Map out [] elem) kept in absurd cc
map_kept slots words at out (x ∷ xs) elem kept =
    let w : What = what.Map out (x ∷ xs) elem in
    map_tests (nat_lt out (length slots)) (nat_lt x (length slots)) (are_below (length slots) (xs ++ [])) (elem_fits words (length (x ∷ xs)) [] 0 elem) (is_apart (arrays_of w)) (is_frame slots (out ∷ []))
    (has_copy slots (arrays_of w)) (is_matrix slots out) (is_matrix slots x) (list_any (is_matrix slots) (xs ++ [])) kept

reduce_tests : (a b e apart copy m : Bool) → IsTrue ((((((((a && true) && (b && true)) && e) && true) && apart) && true) && copy) && not (m || false))
    → IsTrue ((((((((a && (a && true)) && (b && true)) && true) && (e && true)) && true) && true) && true) && not (m || (m || false)))
reduce_tests false b e apart copy m p = absurd cc
reduce_tests true false e apart copy m p = absurd cc
reduce_tests true true false apart copy m p = absurd cc
reduce_tests true true true false copy m p = absurd cc
reduce_tests true true true true false m p = absurd cc
reduce_tests true true true true true true p = absurd cc
reduce_tests true true true true true false p = refl

reduce_kept : (slots : List Slot) (words : ℕ) (at : Place) (to : ℕ) (kind : FoldKind) (array : ℕ) (elem : Elem) → IsTrue (is_kept slots words (what.Reduce to kind array elem))
    → IsTrue (is_loop_kept slots words (reduce_loop at to kind array elem))
unfolding arrays_of outs sides has_lists
reduce_kept slots words at to kind array elem kept =
    let w : What = what.Reduce to kind array elem in
    reduce_tests (nat_lt array (length slots)) (nat_lt to words) (elem_fits words 1 [] 0 elem) (is_apart (arrays_of w)) (has_copy slots (arrays_of w)) (is_matrix slots array) kept

stencil_tests : (a b c e apart frame copy m1 m2 m3 : Bool) → IsTrue ((((((((a && (b && (c && true))) && true) && e) && true) && apart) && (frame && true)) && copy) && not (m1 || (m2 || (m3 || false))))
    → IsTrue ((((((((a && (b && (b && true))) && true) && true) && (e && true)) && true) && true) && (frame && true)) && not (m1 || (m2 || (m2 || false))))
    × IsTrue (((((true && ((b && (c && true)) && true && true)) && true) && true) && true) && (cond m2 m3 (not m3) && true))
stencil_tests false b c e apart frame copy m1 m2 m3 p = absurd cc
stencil_tests true false c e apart frame copy m1 m2 m3 p = absurd cc
stencil_tests true true false e apart frame copy m1 m2 m3 p = absurd cc
stencil_tests true true true false apart frame copy m1 m2 m3 p = absurd cc
stencil_tests true true true true false frame copy m1 m2 m3 p = absurd cc
stencil_tests true true true true true false copy m1 m2 m3 p = absurd cc
stencil_tests true true true true true true false m1 m2 m3 p = absurd cc
stencil_tests true true true true true true true true m2 m3 p = absurd cc
stencil_tests true true true true true true true false true m3 p = absurd cc
stencil_tests true true true true true true true false false true p = absurd cc
stencil_tests true true true true true true true false false false p = (refl, refl)

-- a balanced copy is a frame by itself
alone : (slots : List Slot) (k : ℕ) → (slot_at slots k).balanced ≡ true → IsTrue (is_frame slots (k ∷ []))
alone slots k balanced = rw (balanced, eq-eqb k k refl) refl

is_true : (b : Bool) → IsTrue b → b ≡ true
is_true true p = refl
is_true false p = absurd cc

module _ (slots : List Slot) (words : ℕ) (out array balanced reach : ℕ) (elem : Elem) (kept : IsTrue (is_kept slots words (what.Stencil out array balanced reach elem))) where
  pub is_dealt_out : (slot_at slots balanced).balanced ≡ true
  unfolding arrays_of
  is_dealt_out = is_true (slot_at slots balanced).balanced (first_holds (slot_at slots balanced).balanced _ (first_holds _ _ (copies slots words (what.Stencil out array balanced reach elem) kept)))

  tested : IsTrue ((((((((nat_lt out (length slots) && (nat_lt balanced (length slots) && (nat_lt balanced (length slots) && true))) && true) && true) && (elem_fits words 0 (reach ∷ []) 0 elem && true)) && true) && true) && (is_frame slots (out ∷ []) && true)) && not (is_matrix slots out || (is_matrix slots balanced || (is_matrix slots balanced || false))))
      × IsTrue (((((true && ((nat_lt balanced (length slots) && (nat_lt array (length slots) && true)) && true && true)) && true) && true) && true) && (cond (is_matrix slots balanced) (is_matrix slots array) (not (is_matrix slots array)) && true))
  unfolding arrays_of outs sides has_lists
  tested =
      let w : What = what.Stencil out array balanced reach elem in
      stencil_tests (nat_lt out (length slots)) (nat_lt balanced (length slots)) (nat_lt array (length slots)) (elem_fits words 0 (reach ∷ []) 0 elem) (is_apart (arrays_of w)) (is_frame slots (out ∷ []))
      (has_copy slots (arrays_of w)) (is_matrix slots out) (is_matrix slots balanced) (is_matrix slots array) kept

  stencil_kept : (at : Place) → IsTrue (is_loop_kept slots words (stencil_loop at out balanced reach elem))
  unfolding arrays_of outs sides has_lists
  stencil_kept at = tested.0

  copy_kept : IsTrue (is_operation_kept slots words (what.Copy (balanced ∷ []) (array ∷ [])))
  unfolding arrays_of outs sides has_lists
  copy_kept = rw (is_dealt_out, eq-eqb balanced balanced refl) tested.1

-- ---- programs

part_kept : (slots : List Slot) (words : ℕ) (at : Place) (w : What) → IsTrue (is_kept slots words w) → IsTrue (list_all (is_part_kept slots words) (operations (built_at at w)))
unfolding operations built_at
part_kept slots words at (what.Map out ins elem) kept = both _ _ (map_kept slots words at out ins elem kept) refl
part_kept slots words at (what.Reduce to kind array elem) kept = both _ _ (reduce_kept slots words at to kind array elem kept) refl
part_kept slots words at (what.Stencil out array balanced reach elem) kept =
    both _ _ (copy_kept slots words out array balanced reach elem kept) (both _ _ (stencil_kept slots words out array balanced reach elem kept at) refl)
part_kept slots words at w kept = both _ _ (whole_kept slots words w kept refl) refl

pub all_join : {A : Type 0} (p : A → Bool) (xs ys : List A) → IsTrue (list_all p xs) → IsTrue (list_all p ys) → IsTrue (list_all p (xs ++ ys))
all_join p [] ys a b = b
all_join p (x ∷ xs) ys a b = both _ _ (first_holds _ _ a) (all_join p xs ys (second_holds _ _ a) b)

parts_kept : (slots : List Slot) (words : ℕ) (ops : List Op) → IsTrue (list_all (λ op. is_kept slots words op.what) ops) → IsTrue (list_all (is_part_kept slots words) (flat_map (λ op. operations (built op)) ops))
parts_kept slots words [] kept = refl
parts_kept slots words (op ∷ ops) kept =
    all_join (is_part_kept slots words) (operations (built op)) _ (part_kept slots words op.at op.what (first_holds _ _ kept)) (parts_kept slots words ops (second_holds _ _ kept))

no_tests : (op : Op) → tests (built op) ≡ []
unfolding tests built_at
no_tests op = by op.at op.what
  where
    by : (at : Place) (w : What) → tests (built_at at w) ≡ []
    by at (what.Map out ins elem) = refl
    by at (what.Reduce to kind array elem) = refl
    by at (what.Stencil out array balanced reach elem) = refl
    by at w = refl

pub built_kept : (slots : List Slot) (words : ℕ) (p : Prog Op) → IsTrue (are_kept slots words p) → IsTrue (are_parts slots words (replaced built p))
built_kept slots words p kept =
    rw (operations_replaced built p, tests_replaced built no_tests p) (both _ _ (parts_kept slots words (operations p) (first_holds _ _ kept)) (second_holds _ _ kept))

-- ---- sizes

sum_join : {A : Type 0} (f : A → ℕ) (xs ys : List A) → sum_by f (xs ++ ys) ≡ sum_by f xs + sum_by f ys
sum_join f [] ys = omega arith
sum_join f (x ∷ xs) ys =
    let whole : sum_by f (x ∷ (xs ++ ys)) ≡ f x + sum_by f (xs ++ ys) = sum_by-cons f x (xs ++ ys) in
    let front : sum_by f (x ∷ xs) ≡ f x + sum_by f xs = sum_by-cons f x xs in
    let rest : sum_by f (xs ++ ys) ≡ sum_by f xs + sum_by f ys = sum_join f xs ys in
    omega (arith, whole, front, rest)

-- at most three for the steps of an operation, and what it moves
few_steps : (at : Place) (w : What) → length (operations (built_at at w)) + sum_by part_moves (operations (built_at at w)) ≤ 3 + moves_in w
unfolding operations built_at part_moves moves_in
few_steps at (what.Map out ins elem) = omega arith
few_steps at (what.Reduce to kind array elem) = omega arith
few_steps at (what.Stencil out array balanced reach elem) = omega arith
few_steps at w = omega arith

-- at most five names more than the operation has
few_items : (at : Place) (w : What) → sum_by part_items (operations (built_at at w)) ≤ 5 + items_in w
unfolding operations built_at part_items items_in
few_items at (what.Map out ins elem) = omega arith
few_items at (what.Reduce to kind array elem) = omega arith
few_items at (what.Stencil out array balanced reach elem) = omega arith
few_items at w = omega arith

add_steps : (l a b m c d x y z n : ℕ) → l ≡ a + b → m ≡ c + d → z ≡ x + y → a + c ≤ 3 + x → b + d ≤ 3 * n + y → l + m ≤ 3 * suc n + z
add_steps l a b m c d x y z n p q r s t = omega arith

add_items : (m c d x y z n : ℕ) → m ≡ c + d → z ≡ x + y → c ≤ 5 + x → d ≤ 5 * n + y → m ≤ 5 * suc n + z
add_items m c d x y z n q r s t = omega arith

size_fits : (l m t n x a b : ℕ) → l + m ≤ 3 * n + x → n + t + x < a → 3 * a ≤ b → l + t + m < b
size_fits l m t n x a b p q r = omega arith

names_fit : (m n x s w t y a b c : ℕ) → m ≤ 5 * n + x → n + t + y < a → s + w + x < c → c + 5 * a ≤ b → s + w + m < b
names_fit m n x s w t y a b c p q r u = omega arith

all_steps : (ops : List Op) → length (flat_map (λ op. operations (built op)) ops) + sum_by part_moves (flat_map (λ op. operations (built op)) ops) ≤ 3 * length ops + sum_by (λ op. moves_in op.what) ops
all_steps [] = omega arith
all_steps (op ∷ ops) =
    let here : List Part = operations (built op) in
    let there : List Part = flat_map (λ (o : Op). operations (built o)) ops in
    let long : length (here ++ there) ≡ length here + length there = length-append here there in
    let moved : sum_by part_moves (here ++ there) ≡ sum_by part_moves here + sum_by part_moves there = sum_join part_moves here there in
    let all : sum_by (λ (o : Op). moves_in o.what) (op ∷ ops) ≡ moves_in op.what + sum_by (λ (o : Op). moves_in o.what) ops = sum_by-cons (λ (o : Op). moves_in o.what) op ops in
    add_steps (length (here ++ there)) (length here) (length there) (sum_by part_moves (here ++ there)) (sum_by part_moves here) (sum_by part_moves there) (moves_in op.what) (sum_by (λ (o : Op). moves_in o.what) ops) (sum_by (λ (o : Op). moves_in o.what) (op ∷ ops)) (length ops)
    long moved all (few_steps op.at op.what) (all_steps ops)

all_items : (ops : List Op) → sum_by part_items (flat_map (λ op. operations (built op)) ops) ≤ 5 * length ops + sum_by (λ op. items_in op.what) ops
all_items [] = omega arith
all_items (op ∷ ops) =
    let here : List Part = operations (built op) in
    let there : List Part = flat_map (λ (o : Op). operations (built o)) ops in
    let named : sum_by part_items (here ++ there) ≡ sum_by part_items here + sum_by part_items there = sum_join part_items here there in
    let all : sum_by (λ (o : Op). items_in o.what) (op ∷ ops) ≡ items_in op.what + sum_by (λ (o : Op). items_in o.what) ops = sum_by-cons (λ (o : Op). items_in o.what) op ops in
    add_items (sum_by part_items (here ++ there)) (sum_by part_items here) (sum_by part_items there) (items_in op.what) (sum_by (λ (o : Op). items_in o.what) ops) (sum_by (λ (o : Op). items_in o.what) (op ∷ ops)) (length ops) named all (few_items op.at op.what) (all_items ops)

pub built_small : (p : Prog Op) (a b : ℕ) → 3 * a ≤ b → size_of p < a → parts_size (replaced built p) < b
unfolding size_of parts_size
built_small p a b few small =
    let ops : length (flat_map (λ (op : Op). operations (built op)) (operations p)) + sum_by part_moves (flat_map (λ (op : Op). operations (built op)) (operations p)) ≤ 3 * length (operations p) + sum_by (λ (op : Op). moves_in op.what) (operations p) =
    all_steps (operations p) in
    rw (operations_replaced built p, tests_replaced built no_tests p) (size_fits _ _ _ _ _ a b ops small few)

pub built_few : (slots : List Slot) (words : ℕ) (p : Prog Op) (a b c : ℕ) → c + 5 * a ≤ b → size_of p < a → names_of slots words p < c → parts_names slots words (replaced built p) < b
unfolding size_of names_of parts_names
built_few slots words p a b c few small named =
    let ops : sum_by part_items (flat_map (λ (op : Op). operations (built op)) (operations p)) ≤ 5 * length (operations p) + sum_by (λ (op : Op). items_in op.what) (operations p) = all_items (operations p) in
    rw (operations_replaced built p) (names_fit _ _ _ _ _ _ _ a b c ops small named few)

-- ---- what is known of operations that keep their laws

pub made_whole : (slots : List Slot) (words : ℕ) (w : What) → IsTrue (is_kept slots words w) → IsTrue (has_frames slots (arrays_of w))
made_whole slots words w kept = frames slots words w kept

pub lists_held : (slots : List Slot) (words : ℕ) (w : What) → IsTrue (is_kept slots words w) → IsTrue (has_lists w)
lists_held slots words w kept = lists slots words w kept

pub within_slots : (slots : List Slot) (words : ℕ) (w : What) → IsTrue (is_kept slots words w) → IsTrue (is_within slots words w)
within_slots slots words w kept = within slots words w kept
