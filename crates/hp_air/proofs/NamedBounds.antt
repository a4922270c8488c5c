-- The constraints of a program that keeps its laws are on its slots.
use Rattle.std.proofs.Common.{◌≡◌, ℕ, zero, suc, ◌+◌, ◌<◌, ◌≤◌, ◌==◌, nat_lt, Bool, true, false, cond, List, [], ◌∷◌, ◌++◌, flat_map, zip, length, IsTrue, position, unwrap_or, refl, arith}
use Rattle.std.proofs.lemmas.Bool.{ltb-true}
use Rattle.std.specs.List.{AllByRecursion, list_all, range_with_len, position_or_len}
use Rattle.hp_program.specs.Programs.{Prog, operations}
use Rattle.hp_program.proofs.Keeping.{first_holds, second_holds}
use Rattle.hp_air.specs.declared.slot.Slot.{Slot}
use Rattle.hp_air.specs.declared.what.Op.{Op}
use Rattle.hp_air.specs.Arrays.{Arrays, arrays_of, outs, sides, reads}
use Rattle.hp_air.specs.Arrays as arrays
use Rattle.hp_air.specs.Constraints.{Bound, equal, equal_all, bounds_of}
use Rattle.hp_air.specs.Frames.{numbers_of, slot_at, is_one_frame, first_of}
use Rattle.hp_air.specs.Kept.{are_below, slots_in, is_kept, are_kept}
use Rattle.hp_air.specs.Placed.{frame_bounds, program_bounds}

-- both arrays of a constraint are below a number
abbrev pub Within : ℕ → Bound ℕ → Type 0
Within n b = (b.low < n) × (b.high < n)

abbrev Below : ℕ → List ℕ → Type 0
Below n ks = AllByRecursion (λ k. k < n) ks

join_all : {X : Type 0} (P : X → Type 0) (xs ys : List X) → AllByRecursion P xs → AllByRecursion P ys → AllByRecursion P (xs ++ ys)
join_all P [] ys p q = q
join_all P (x ∷ xs) ys p q = (p.0, join_all P xs ys p.1 q)

first_part : {X : Type 0} (P : X → Type 0) (xs ys : List X) → AllByRecursion P (xs ++ ys) → AllByRecursion P xs
first_part P [] ys p = tt
first_part P (x ∷ xs) ys p = (p.0, first_part P xs ys p.1)

last_part : {X : Type 0} (P : X → Type 0) (xs ys : List X) → AllByRecursion P (xs ++ ys) → AllByRecursion P ys
last_part P [] ys p = p
last_part P (x ∷ xs) ys p = last_part P xs ys p.1

all_below : (n : ℕ) (ks : List ℕ) → IsTrue (are_below n ks) → Below n ks
all_below n [] p = tt
all_below n (k ∷ ks) p = (ltb-true k n (first_holds _ _ p), all_below n ks (second_holds _ _ p))

equal_within : (n x : ℕ) (ys : List ℕ) → x < n → Below n ys → AllByRecursion (Within n) (equal_all x ys)
equal_within n x [] p q = tt
equal_within n x (y ∷ ys) p q = ((p, q.0), ((q.0, p), equal_within n x ys p q.1))

copies_within : (n : ℕ) (xs ys : List ℕ) → Below n xs → Below n ys → AllByRecursion (Within n) (flat_map (λ p. equal p.0 p.1) (zip xs ys))
copies_within n [] [] p q = tt
copies_within n [] (y ∷ ys) p q = tt
copies_within n (x ∷ xs) [] p q = tt
copies_within n (x ∷ xs) (y ∷ ys) p q = ((p.0, q.0), ((q.0, p.0), copies_within n xs ys p.1 q.1))

-- the constraints of an operation are on the slots that it writes or reads
operation_within : (n : ℕ) (a : Arrays ℕ) → Below n (outs a ++ reads a) → AllByRecursion (Within n) (bounds_of a)
unfolding bounds_of outs sides
operation_within n arrays.Scalar p = tt
operation_within n (arrays.Length array) p = tt
operation_within n (arrays.Fill out) p = tt
operation_within n (arrays.Range out) p = tt
operation_within n (arrays.Read []) p = tt
operation_within n (arrays.Read (o ∷ os)) p = equal_within n o os p.0 (first_part (λ k. k < n) os _ p.1)
operation_within n (arrays.Copy os ins) p = copies_within n os ins (first_part (λ k. k < n) os _ p) (first_part (λ k. k < n) ins [] (last_part (λ k. k < n) os _ p))
operation_within n (arrays.Map out ins) p = equal_within n out ins p.0 (first_part (λ k. k < n) ins [] p.1)
operation_within n (arrays.Reduce kind array) p = tt
operation_within n (arrays.Scan out array) p = ((p.0, p.1.0), ((p.1.0, p.0), tt))
operation_within n (arrays.Stencil out array balanced) p = ((p.1.0, p.1.1.0), ((p.1.1.0, p.1.0), ((p.0, p.1.0), ((p.1.0, p.0), tt))))
operation_within n (arrays.Filter [] ins mask) p = tt
operation_within n (arrays.Filter (o ∷ os) [] mask) p = tt
operation_within n (arrays.Filter (o ∷ os) (x ∷ ins) mask) p =
    let sides : Below n ((x ∷ ins) ++ ((mask ∷ []) ++ [])) = last_part (λ k. k < n) os _ p.1 in
    let m : Below n ((mask ∷ []) ++ []) = last_part (λ k. k < n) ins _ sides.1 in
    ((m.0, sides.0), ((sides.0, m.0), ((p.0, p.0), ((p.0, sides.0), ((sides.0, p.0), tt)))))
operation_within n (arrays.Join [] lefts rights) p = tt
operation_within n (arrays.Join (o ∷ os) [] rights) p = tt
operation_within n (arrays.Join (o ∷ os) (x ∷ lefts) []) p = tt
operation_within n (arrays.Join (o ∷ os) (x ∷ lefts) (y ∷ rights)) p =
    let sides : Below n ((x ∷ lefts) ++ ((y ∷ rights) ++ [])) = last_part (λ k. k < n) os _ p.1 in
    let r : Below n ((y ∷ rights) ++ []) = last_part (λ k. k < n) lefts _ sides.1 in
    ((p.0, p.0), ((p.0, sides.0), ((sides.0, p.0), ((r.0, sides.0), tt))))
operation_within n (arrays.Group [] ins) p = tt
operation_within n (arrays.Group (o ∷ os) []) p = tt
operation_within n (arrays.Group (o ∷ os) (x ∷ ins)) p =
    let sides : Below n ((x ∷ ins) ++ []) = last_part (λ k. k < n) os _ p.1 in
    ((p.0, p.0), ((p.0, sides.0), ((sides.0, p.0), tt)))
operation_within n (arrays.Concat out left right) p = ((p.0, p.1.0), ((p.0, p.1.1.0), ((p.1.0, p.0), ((p.1.1.0, p.0), tt))))
operation_within n (arrays.Sort [] ins) p = tt
operation_within n (arrays.Sort (o ∷ os) ins) p = ((p.0, p.0), tt)
operation_within n (arrays.At array) p = ((p.0, p.0), tt)
operation_within n (arrays.Pick out array index) p = ((p.1.0, p.1.0), ((p.0, p.1.1.0), ((p.1.1.0, p.0), tt)))
operation_within n (arrays.Frame [] ins) p = tt
operation_within n (arrays.Frame (o ∷ os) ins) p = equal_within n o ins p.0 (first_part (λ k. k < n) ins [] (last_part (λ k. k < n) os _ p.1))
operation_within n (arrays.Stack out ins) p = equal_within n out ins p.0 (first_part (λ k. k < n) ins [] p.1)
operation_within n (arrays.Row out matrix) p = ((p.0, p.1.0), ((p.1.0, p.0), tt))
operation_within n (arrays.Product out left right) p = ((p.1.0, p.1.0), ((p.0, p.1.1.0), ((p.1.1.0, p.0), tt)))
operation_within n (arrays.ProductT out left right) p = ((p.1.0, p.1.1.0), ((p.1.1.0, p.1.0), ((p.0, p.0), tt)))
operation_within n arrays.PrintWord p = tt
operation_within n (arrays.PrintList array) p = tt
operation_within n (arrays.Export arrays) p = tt

slots_below : (slots : List Slot) (words : ℕ) (op : Op) → IsTrue (is_kept slots words op.what) → Below (length slots) (slots_in op.what)
slots_below slots words op kept =
    all_below (length slots) (slots_in op.what) (first_holds _ _ (first_holds _ _ (first_holds _ _ (first_holds _ _ (first_holds _ _ (first_holds _ _ (first_holds _ _ kept)))))))

operations_within : (slots : List Slot) (words : ℕ) (ops : List Op) → IsTrue (list_all (λ op. is_kept slots words op.what) ops)
    → AllByRecursion (Within (length slots)) (flat_map (λ op. bounds_of (arrays_of op.what)) ops)
operations_within slots words [] kept = tt
operations_within slots words (op ∷ ops) kept =
    join_all (Within (length slots)) (bounds_of (arrays_of op.what)) _ (operation_within (length slots) (arrays_of op.what) (slots_below slots words op (first_holds _ _ kept)))
    (operations_within slots words ops (second_holds _ _ kept))

first_below : (slots : List Slot) (k : ℕ) → k < length slots → first_of slots k < length slots
unfolding first_of
first_below slots k lt = by (nat_lt (position_or_len found slots) (length slots)) refl
  where
    found : Slot → Bool
    found = is_one_frame (slot_at slots k)

    by : (b : Bool) → nat_lt (position_or_len found slots) (length slots) ≡ b → unwrap_or (position found slots) k < length slots
    by true e = rw e (ltb-true (position_or_len found slots) (length slots) e)
    by false e = rw e lt

frame_within : (slots : List Slot) (k : ℕ) → k < length slots → AllByRecursion (Within (length slots)) (frame_bounds slots k)
unfolding frame_bounds
frame_within slots k lt = by (first_of slots k == k)
  where
    by : (b : Bool) → AllByRecursion (Within (length slots)) (cond b [] (equal k (first_of slots k)))
    by true = tt
    by false = ((lt, first_below slots k lt), ((first_below slots k lt, lt), tt))

frames_within : (slots : List Slot) (a n : ℕ) → a + n ≤ length slots → AllByRecursion (Within (length slots)) (flat_map (frame_bounds slots) (range_with_len a n))
frames_within slots a zero le = tt
frames_within slots a (suc n) le =
    join_all (Within (length slots)) (frame_bounds slots a) _ (frame_within slots a (omega arith)) (frames_within slots (a + 1) n (omega arith))

pub bounds_within : (slots : List Slot) (words : ℕ) (p : Prog Op) → IsTrue (are_kept slots words p) → AllByRecursion (Within (length slots)) (program_bounds slots p)
unfolding program_bounds
bounds_within slots words p kept =
    join_all (Within (length slots)) (flat_map (frame_bounds slots) (numbers_of slots)) _ (frames_within slots 0 (length slots) (omega arith)) (operations_within slots words (operations p) (first_holds _ _ kept))
