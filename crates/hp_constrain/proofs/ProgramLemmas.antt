-- The constraints of a program, frame by frame and node by node; which slots they name, and how many they are.
use Rattle.std.proofs.Common.{◌≡◌, ◌≢◌, ℕ, zero, suc, ◌+◌, ◌*◌, ◌<◌, ◌≤◌, ◌==◌, nat_lt, Bool, true, false, cond, List, [], ◌∷◌, ◌++◌, map, flat_map, zip, take, get_or, length, IsTrue, sum_by, position, unwrap_or, refl, sym, ap, subst, ◌∙◌, append-nil, arith}
use Rattle.std.proofs.lemmas.Bool.{ltb-true}
use Rattle.std.proofs.lemmas.Grind.{flat_map-append}
use Rattle.std.proofs.lemmas.List.{take_more, length-append, length-map}
use Rattle.std.proofs.lemmas.List.Sums.{sum_by-cons}
use Rattle.std.proofs.lemmas.Result.{on_ok_weaker}
use Rattle.std.specs.Prelude.{Result, OnOk}
use Rattle.std.specs.List.{AllByRecursion, list_all, range_with_len, position_or_len}
use Rattle.hp_lattice.specs.declared.dist.Dist.{Dist}
use Rattle.hp_lattice.specs.declared.dist.Dist.TheVariants.{Var}
use Rattle.hp_program.specs.Programs.{Prog, operations}
use Rattle.hp_program.proofs.Keeping.{first_holds, second_holds}
use Rattle.hp_air.specs.declared.constraint.Constraint.{Constraint}
use Rattle.hp_air.specs.declared.node.Node.{Node}
use Rattle.hp_air.specs.declared.node.Node.TheVariants.{Do}
use Rattle.hp_air.specs.declared.node.Node.TheViews.{If, While}
use Rattle.hp_air.specs.declared.slot.Slot.{Slot}
use Rattle.hp_air.specs.declared.what.Op.{Op}
use Rattle.hp_air.specs.declared.what.What.{What}
use Rattle.hp_air.specs.declared.what.What.TheVariants as what
use Rattle.hp_air.specs.Arrays.{Arrays, arrays_of, outs, sides, reads}
use Rattle.hp_air.specs.Arrays as arrays
use Rattle.hp_air.specs.Constraints.{Bound, equal, equal_all, bounds_of, IsSolution}
use Rattle.hp_air.specs.Frames.{numbers_of, is_one_frame, first_of, balanced_copies}
use Rattle.hp_air.specs.Kept.{are_below, slots_in, is_kept, are_kept, items_in, size_of, names_of, stands_for_one}
use Rattle.hp_air.specs.Nodes.{program_of}
use Rattle.hp_air.specs.Placed.{dist_at, Placed, frame_bounds, operation_bounds, program_bounds}
use Rattle.hp_air.proofs.NodeLemmas.{operations_none, operations_plain, operations_last, operations_choose, operations_loop}
use Rattle.hp_air.proofs.NamedBounds.{Within, bounds_within}
use Rattle.hp_air.proofs.PlacedLemmas.{placed_solves, solves_placed}
use Rattle.hp_air.specs.Solutions.{AreMet}
use Rattle.hp_constrain.specs.Listed.{constraint_of, constraints_of, Adds}
use Rattle.hp_constrain.proofs.AddingLemmas.{adds_none, adds_both}
use Rattle.hp_constrain.proofs.FirstLemmas.{first_before}

-- ---- frames

range_more : (a n : ℕ) → range_with_len a (suc n) ≡ range_with_len a n ++ (a + n) ∷ []
range_more a zero = let e : a ≡ a + 0 = omega arith in ap (λ (k : ℕ). k ∷ []) e
range_more a (suc n) =
    ap (λ (l : List ℕ). a ∷ l) (range_more (a + 1) n)
    ∙ (let e : a + 1 + n ≡ a + suc n = omega arith in ap (λ (k : ℕ). a ∷ (range_with_len (a + 1) n ++ k ∷ [])) e)

from_zero : (i : ℕ) → range_with_len 0 (i + 1) ≡ range_with_len 0 i ++ i ∷ []
from_zero i =
    let on : i + 1 ≡ suc i = omega arith in
    let at_i : 0 + i ≡ i = omega arith in
    ap (range_with_len 0) on ∙ range_more 0 i ∙ ap (λ (k : ℕ). range_with_len 0 i ++ k ∷ []) at_i

-- one more slot
pub frames_next : (slots : List Slot) (i first : ℕ) (s : Slot) (old mid new : List Constraint) → i < length slots → s ≡ get_or slots i s → IsTrue (stands_for_one s)
    → first ≡ position_or_len (is_one_frame s) (take i slots)
    → Adds (flat_map (frame_bounds slots) (range_with_len 0 i)) old mid → Adds (cond (first == i) [] (equal i first)) mid new
    → Adds (flat_map (frame_bounds slots) (range_with_len 0 (i + 1))) old new
unfolding frame_bounds
frames_next slots i first s old mid new lt is stands e p q =
    let found : first ≡ first_of slots i = e ∙ sym (first_before slots i s lt is stands) in
    adds_both old mid new (flat_map (frame_bounds slots) (range_with_len 0 i)) (frame_bounds slots i) p (q ∙ ap (λ (f : ℕ). mid ++ map constraint_of (cond (f == i) [] (equal i f))) found)
    ∙ ap (λ (l : List (Bound ℕ)). old ++ map constraint_of l)
    (ap (λ (l : List (Bound ℕ)). flat_map (frame_bounds slots) (range_with_len 0 i) ++ l) (sym (append-nil (frame_bounds slots i)))
    ∙ sym (flat_map-append (frame_bounds slots) (range_with_len 0 i) (i ∷ [])) ∙ ap (flat_map (frame_bounds slots)) (sym (from_zero i)))

pub slot_stands : (slots : List Slot) (i : ℕ) (s : Slot) → i < length slots → s ≡ get_or slots i s → IsTrue (list_all stands_for_one slots) → IsTrue (stands_for_one s)
slot_stands [] i s lt is all = absurd (omega arith)
slot_stands (t ∷ slots) zero s lt is all = subst (λ (u : Slot). IsTrue (stands_for_one u)) (sym is) (first_holds _ _ all)
slot_stands (t ∷ slots) (suc i) s lt is all = slot_stands slots i s (omega arith) is (second_holds _ _ all)

-- ---- nodes

pub nodes_next : (nodes : List Node) (i : ℕ) (node : Node) (old mid new : List Constraint) → i < length nodes → node ≡ get_or nodes i node
    → Adds (operation_bounds (program_of (take i nodes))) old mid → Adds (operation_bounds (program_of (node ∷ []))) mid new → Adds (operation_bounds (program_of (take (i + 1) nodes))) old new
nodes_next nodes i node old mid new lt is p q =
    adds_both old mid new _ _ p q
    ∙ ap (λ (l : List (Bound ℕ)). old ++ map constraint_of l)
    (sym (flat_map-append bounds (operations (program_of (take i nodes))) (operations (program_of (node ∷ []))))
    ∙ ap (flat_map bounds) (sym (operations_last node (take i nodes)) ∙ ap (λ (l : List Node). operations (program_of l)) (ap (λ (n : Node). take i nodes ++ n ∷ []) is ∙ sym (take_more nodes i node lt))))
  where
    bounds : Op → List (Bound ℕ)
    bounds op = bounds_of (arrays_of op.what)

pub no_nodes : (old : List Constraint) → Adds (operation_bounds (program_of [])) old old
no_nodes old = rw operations_none (adds_none old)

pub plain_bounds : {T E : Type 0} (op : Op) (node : Node) (r : Result T E) (old new : List Constraint) → node ≡ Do op → OnOk r (Adds (bounds_of (arrays_of op.what)) old new) → OnOk r (Adds (operation_bounds (program_of (node ∷ []))) old new)
plain_bounds op node r old new is added =
    on_ok_weaker r (λ now. now ∙ ap (λ (l : List (Bound ℕ)). old ++ map constraint_of l) (sym (append-nil (bounds_of (arrays_of op.what))) ∙ ap (flat_map (λ (op : Op). bounds_of (arrays_of op.what))) (sym (ap (λ (n : Node). operations (program_of (n ∷ []))) is ∙ operations_plain op)))) added

pub choose_bounds : (word : ℕ) (first second : List Node) (node : Node) → node ≡ If word first second → operation_bounds (program_of (node ∷ [])) ≡ operation_bounds (program_of first) ++ operation_bounds (program_of second)
choose_bounds word first second node is =
    rw (is, operations_choose word first second) (flat_map-append (λ (op : Op). bounds_of (arrays_of op.what)) (operations (program_of first)) (operations (program_of second)))

pub loop_bounds : (word : ℕ) (test turn : List Node) (node : Node) → node ≡ While test word turn → operation_bounds (program_of (node ∷ [])) ≡ operation_bounds (program_of test) ++ operation_bounds (program_of turn)
loop_bounds word test turn node is =
    rw (is, operations_loop test word turn) (flat_map-append (λ (op : Op). bounds_of (arrays_of op.what)) (operations (program_of test)) (operations (program_of turn)))

-- ---- the whole

pub all_listed : (slots : List Slot) (p : Prog Op) (mid new : List Constraint) → Adds (flat_map (frame_bounds slots) (numbers_of slots)) [] mid → Adds (operation_bounds p) mid new → new ≡ constraints_of slots p
unfolding program_bounds
all_listed slots p mid new f o = adds_both [] mid new (flat_map (frame_bounds slots) (numbers_of slots)) (operation_bounds p) f o

solution_met : (d : ℕ → Dist) (bounds : List (Bound ℕ)) → IsSolution d bounds → AreMet d (map constraint_of bounds)
solution_met d [] solved = tt
solution_met d (b ∷ bounds) solved = (solved.0, solution_met d bounds solved.1)

met_solution : (d : ℕ → Dist) (bounds : List (Bound ℕ)) → AreMet d (map constraint_of bounds) → IsSolution d bounds
met_solution d [] met = tt
met_solution d (b ∷ bounds) met = (met.0, met_solution d bounds met.1)

pub placed_met : (slots : List Slot) (p : Prog Op) (list : List Constraint) (dists : List Dist) → list ≡ constraints_of slots p → Placed slots p dists → AreMet (dist_at dists) list
placed_met slots p list dists is placed = subst (AreMet (dist_at dists)) (sym is) (solution_met (dist_at dists) (program_bounds slots p) (placed_solves slots p dists placed))

pub met_placed : (slots : List Slot) (words : ℕ) (p : Prog Op) (list : List Constraint) (dists : List Dist) → list ≡ constraints_of slots p → IsTrue (are_kept slots words p) → length slots ≤ length dists
    → AllByRecursion (λ k. dist_at dists k ≢ Var) (balanced_copies slots) → AreMet (dist_at dists) list → Placed slots p dists
met_placed slots words p list dists is kept each balanced met =
    solves_placed slots words p dists kept each balanced (met_solution (dist_at dists) (program_bounds slots p) (subst (AreMet (dist_at dists)) is met))

-- ---- the slots that are named

listed_within : (n : ℕ) (bounds : List (Bound ℕ)) → AllByRecursion (Within n) bounds → AllByRecursion (λ (c : Constraint). (c.low < n) × (c.high < n)) (map constraint_of bounds)
listed_within n [] all = tt
listed_within n (b ∷ bounds) all = (all.0, listed_within n bounds all.1)

pub all_within : (slots : List Slot) (words : ℕ) (p : Prog Op) (list : List Constraint) → list ≡ constraints_of slots p → IsTrue (are_kept slots words p)
    → AllByRecursion (λ (c : Constraint). (c.low < length slots) × (c.high < length slots)) list
all_within slots words p list is kept =
    subst (AllByRecursion (λ (c : Constraint). (c.low < length slots) × (c.high < length slots))) (sym is) (listed_within (length slots) (program_bounds slots p) (bounds_within slots words p kept))

-- ---- how many they are

length_equal_all : (x : ℕ) (ys : List ℕ) → length (equal_all x ys) ≡ 2 * length ys
length_equal_all x [] = refl
length_equal_all x (y ∷ ys) = let rest : length (equal_all x ys) ≡ 2 * length ys = length_equal_all x ys in omega arith

length_copies : (xs ys : List ℕ) → length (flat_map (λ p. equal p.0 p.1) (zip xs ys)) ≤ 2 * length xs
length_copies [] ys = omega arith
length_copies (x ∷ xs) [] = omega arith
length_copies (x ∷ xs) (y ∷ ys) = let rest : length (flat_map (λ p. equal p.0 p.1) (zip xs ys)) ≤ 2 * length xs = length_copies xs ys in omega arith

few_bounds : (w : What) → length (bounds_of (arrays_of w)) ≤ 2 * items_in w + 4
unfolding arrays_of bounds_of items_in
few_bounds (what.Const to value) = omega arith
few_bounds (what.Calc to op left right) = omega arith
few_bounds (what.Length to array) = omega arith
few_bounds (what.Fill out value count) = omega arith
few_bounds (what.Range out first last) = omega arith
few_bounds (what.Read [] table) = omega arith
few_bounds (what.Read (o ∷ os) table) = let many : length (equal_all o os) ≡ 2 * length os = length_equal_all o os in omega arith
few_bounds (what.Copy os ins) = let many : length (flat_map (λ p. equal p.0 p.1) (zip os ins)) ≤ 2 * length os = length_copies os ins in omega arith
few_bounds (what.Map out ins elem) = let many : length (equal_all out ins) ≡ 2 * length ins = length_equal_all out ins in omega arith
few_bounds (what.Reduce to kind array elem) = omega arith
few_bounds (what.Scan out array) = omega arith
few_bounds (what.Stencil out array balanced reach elem) = omega arith
few_bounds (what.Filter [] ins mask) = omega arith
few_bounds (what.Filter (o ∷ os) [] mask) = omega arith
few_bounds (what.Filter (o ∷ os) (x ∷ ins) mask) = omega arith
few_bounds (what.Join [] lefts left_key rights right_key) = omega arith
few_bounds (what.Join (o ∷ os) [] left_key rights right_key) = omega arith
few_bounds (what.Join (o ∷ os) (x ∷ lefts) left_key [] right_key) = omega arith
few_bounds (what.Join (o ∷ os) (x ∷ lefts) left_key (y ∷ rights) right_key) = omega arith
few_bounds (what.Group [] ins key measures) = omega arith
few_bounds (what.Group (o ∷ os) [] key measures) = omega arith
few_bounds (what.Group (o ∷ os) (x ∷ ins) key measures) = omega arith
few_bounds (what.Concat out left right) = omega arith
few_bounds (what.Sort [] ins key) = omega arith
few_bounds (what.Sort (o ∷ os) ins key) = omega arith
few_bounds (what.At to array index) = omega arith
few_bounds (what.Pick out array index) = omega arith
few_bounds (what.Frame [] ins) = omega arith
few_bounds (what.Frame (o ∷ os) ins) = let many : length (equal_all o ins) ≡ 2 * length ins = length_equal_all o ins in omega arith
few_bounds (what.Stack out ins) = let many : length (equal_all out ins) ≡ 2 * length ins = length_equal_all out ins in omega arith
few_bounds (what.Row out matrix index) = omega arith
few_bounds (what.Product out left right) = omega arith
few_bounds (what.ProductT out left right) = omega arith
few_bounds (what.PrintWord word truth) = omega arith
few_bounds (what.PrintList array truth) = omega arith
few_bounds (what.Export arrays names) = omega arith

both_few : (all a b m n k : ℕ) → all ≡ a + b → a ≤ 2 * m + 4 → b ≤ 2 * n + 4 * k → all ≤ 2 * (m + n) + 4 * suc k
both_few all a b m n k e p q = omega arith

few_operations : (ops : List Op) → length (flat_map (λ op. bounds_of (arrays_of op.what)) ops) ≤ 2 * sum_by (λ op. items_in op.what) ops + 4 * length ops
few_operations [] = omega arith
few_operations (op ∷ ops) =
    let here : length (bounds_of (arrays_of op.what)) ≤ 2 * items_in op.what + 4 = few_bounds op.what in
    let rest : length (flat_map (λ (op : Op). bounds_of (arrays_of op.what)) ops) ≤ 2 * sum_by (λ (op : Op). items_in op.what) ops + 4 * length ops = few_operations ops in
    let both : length (bounds_of (arrays_of op.what) ++ flat_map (λ (op : Op). bounds_of (arrays_of op.what)) ops)
    ≡ length (bounds_of (arrays_of op.what)) + length (flat_map (λ (op : Op). bounds_of (arrays_of op.what)) ops) = length-append (bounds_of (arrays_of op.what)) _ in
    let items : sum_by (λ (op : Op). items_in op.what) (op ∷ ops) ≡ items_in op.what + sum_by (λ (op : Op). items_in op.what) ops = sum_by-cons (λ (op : Op). items_in op.what) op ops in
    subst (λ (n : ℕ). length (bounds_of (arrays_of op.what) ++ flat_map (λ (op : Op). bounds_of (arrays_of op.what)) ops) ≤ 2 * n + 4 * suc (length ops)) (sym items)
    (both_few _ _ _ (items_in op.what) (sum_by (λ (op : Op). items_in op.what) ops) (length ops) both here rest)

few_frames : (slots : List Slot) (a n : ℕ) → length (flat_map (frame_bounds slots) (range_with_len a n)) ≤ 2 * n
unfolding frame_bounds
few_frames slots a zero = omega arith
few_frames slots a (suc n) =
    let rest : length (flat_map (frame_bounds slots) (range_with_len (a + 1) n)) ≤ 2 * n = few_frames slots (a + 1) n in
    let here : length (frame_bounds slots a) ≤ 2 = by (first_of slots a == a) in
    let both : length (frame_bounds slots a ++ flat_map (frame_bounds slots) (range_with_len (a + 1) n)) ≡ length (frame_bounds slots a) + length (flat_map (frame_bounds slots) (range_with_len (a + 1) n)) =
    length-append (frame_bounds slots a) _ in
    omega arith
  where
    by : (b : Bool) → length (cond b [] (equal a (first_of slots a))) ≤ 2
    by true = omega arith
    by false = omega arith

pub slots_few : (slots : List Slot) (words : ℕ) (p : Prog Op) (limit : ℕ) → names_of slots words p < limit → length slots < limit
unfolding names_of
slots_few slots words p limit lt = omega arith

pub few_listed : (slots : List Slot) (words : ℕ) (p : Prog Op) (list : List Constraint) → list ≡ constraints_of slots p → length list ≤ 2 * names_of slots words p + 4 * size_of p
unfolding program_bounds names_of size_of
few_listed slots words p list is =
    let frames : length (flat_map (frame_bounds slots) (numbers_of slots)) ≤ 2 * length slots = few_frames slots 0 (length slots) in
    let ops : length (operation_bounds p) ≤ 2 * sum_by (λ (op : Op). items_in op.what) (operations p) + 4 * length (operations p) = few_operations (operations p) in
    let both : length (flat_map (frame_bounds slots) (numbers_of slots) ++ operation_bounds p) ≡ length (flat_map (frame_bounds slots) (numbers_of slots)) + length (operation_bounds p) =
    length-append (flat_map (frame_bounds slots) (numbers_of slots)) (operation_bounds p) in
    let all : length list ≡ length (program_bounds slots p) = ap length is ∙ length-map (program_bounds slots p) constraint_of in
    omega arith
