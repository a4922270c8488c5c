-- What is built of a program that can run by distributions can run by them.
use Rattle.std.proofs.Common.{◌≡◌, ◌≢◌, ℕ, zero, suc, ◌+◌, ◌<◌, ◌≤◌, ◌==◌, nat_lt, Bool, true, false, not, ◌&&◌, ◌||◌, cond, List, [], ◌∷◌, ◌++◌, flat_map, filter, length, Option, Some, None, IsTrue, refl, sym, ap, subst, ◌∙◌, arith, inl, inr}
use Rattle.std.proofs.lemmas.Bool.{eq-eqb, eqb-true, ltb-true, ltb-false}
use Rattle.std.specs.List.{AllByRecursion, list_all, range_with_len}
use Rattle.hp_word.specs.declared.elem.Elem.{Elem}
use Rattle.hp_word.specs.declared.fold.FoldKind.{FoldKind}
use Rattle.hp_word.specs.declared.place.NodeId.{NodeId}
use Rattle.hp_word.specs.declared.place.Place.{Place}
use Rattle.hp_lattice.specs.declared.dist.Dist.{Dist}
use Rattle.hp_lattice.specs.declared.dist.Dist.TheVariants.{Rep, Var, Block}
use Rattle.hp_lattice.specs.Lattice.{is_below, raised}
use Rattle.hp_program.proofs.Keeping.{first_holds, second_holds}
use Rattle.hp_program.proofs.Replaced.{operations_replaced}
use Rattle.hp_program.specs.Programs.{Prog, operations, replaced}
use Rattle.hp_air.specs.declared.slot.Slot.{Slot}
use Rattle.hp_air.specs.declared.what.Op.{Op}
use Rattle.hp_air.specs.declared.what.What.{What}
use Rattle.hp_air.specs.declared.what.What.TheVariants as what
use Rattle.hp_air.specs.Arrays.{Map, Copy, Stencil, arrays_of, outs, sides}
use Rattle.hp_air.specs.Constraints.{IsUpTo, LieAlike, Meets, map_meets, stencil_meets}
use Rattle.hp_air.specs.Frames.{numbers_of, slot_at, is_one_node, is_one_frame, frame_of, balanced_copies}
use Rattle.hp_air.specs.Kept.{has_some, has_lists, are_equal, is_frame, has_copy, is_kept, are_kept}
use Rattle.hp_air.specs.Placed.{dist_at, Placed}
use Rattle.hp_parfor.specs.Built.{map_loop, reduce_loop, stencil_loop, built_at, built}
use Rattle.hp_parfor.specs.KeptParts.{is_whole}
use Rattle.hp_spmd.specs.Spread.{LiesAs}
use Rattle.hp_parfor.specs.PlacedParts.{stencil_slots, is_dealt, OperationMeets, as_itself, as_stencil, LoopMeets, PartMeets, PlacedParts}
use Rattle.hp_parfor.proofs.BuiltKept.{copies, lists_held, within_slots, made_whole, is_dealt_out}

-- ---- lists

all_filtered : (P : ℕ → Type 0) (p q : ℕ → Bool) (xs : List ℕ) → ((j : ℕ) → p j ≡ true → q j ≡ true) → AllByRecursion P (filter q xs) → AllByRecursion P (filter p xs)
all_filtered P p q [] more all = tt
all_filtered P p q (x ∷ xs) more all = by (p x) (q x) (more x) (λ rest. all_filtered P p q xs more rest) all
  where
    by : (b c : Bool) → (b ≡ true → c ≡ true) → (AllByRecursion P (filter q xs) → AllByRecursion P (filter p xs)) → AllByRecursion P (cond c (x ∷ filter q xs) (filter q xs)) → AllByRecursion P (cond b (x ∷ filter p xs) (filter p xs))
    by true true m rest a = (a.0, rest a.1)
    by true false m rest a = absurd (let wrong : false ≡ true = m refl in cc wrong)
    by false true m rest a = rest a.1
    by false false m rest a = rest a

filtered_has : (P : ℕ → Type 0) (p : ℕ → Bool) (a n k : ℕ) → AllByRecursion P (filter p (range_with_len a n)) → a ≤ k → k < a + n → p k ≡ true → P k
filtered_has P p a zero k all le lt pass = absurd (omega arith)
filtered_has P p a (suc n) k all le lt pass = by (nat_lt a k) (λ t. ltb-true a k t) (λ f. ltb-false a k f) (λ rest less. filtered_has P p (a + 1) n k rest (omega arith) (omega arith) pass) (p a) refl all
  where
    by : (later : Bool) → (later ≡ true → a < k) → (later ≡ false → k ≤ a) → (AllByRecursion P (filter p (range_with_len (a + 1) n)) → a < k → P k)
        → (b : Bool) → p a ≡ b → AllByRecursion P (cond b (a ∷ filter p (range_with_len (a + 1) n)) (filter p (range_with_len (a + 1) n))) → P k
    by true more least rest true e found = rest found.1 (more refl)
    by true more least rest false e found = rest found (more refl)
    by false more least rest true e found = let most : k ≤ a = least refl in let same : a ≡ k = omega arith in subst P same found.0
    by false more least rest false e found =
        let most : k ≤ a = least refl in
        let same : a ≡ k = omega arith in
        let wrong : false ≡ true = sym e ∙ ap p same ∙ pass in
        absurd (cc wrong)

-- ---- loops

all_alike : (d : ℕ → Dist) (out x : ℕ) (ys : List ℕ) → d out ≡ d x → AllByRecursion (LieAlike d out) ys → AllByRecursion (λ y. d y ≡ d x) ys
all_alike d out x [] same all = tt
all_alike d out x (y ∷ ys) same all = (sym all.0 ∙ same, all_alike d out x ys same all.1)

map_placed : (d : ℕ → Dist) (at : Place) (out : ℕ) (ins : List ℕ) (elem : Elem) → Meets d (Map out ins) → 0 < length ins → LoopMeets d (map_loop at out ins elem)
map_placed d at out [] elem (map_meets same) some = absurd (omega arith)
map_placed d at out (x ∷ xs) elem (map_meets same) some =
    record { inputs = all_alike d out x (x ∷ xs) same.0 same; outs = (subst (λ (o : Dist). LiesAs (d x) o) (sym same.0) (inl refl), tt); halos = tt }

reduce_placed : (d : ℕ → Dist) (at : Place) (to : ℕ) (kind : FoldKind) (array : ℕ) (elem : Elem) → LoopMeets d (reduce_loop at to kind array elem)
reduce_placed d at to kind array elem = record { inputs = (refl, tt); outs = tt; halos = tt }

-- what is up to an array that lies in no uneven pieces, and the other way round, lies as it, or in pieces of its blocks
out_lies : (b o : Dist) → b ≢ Var → IsTrue (is_below o (raised b)) → IsTrue (is_below b (raised o)) → LiesAs b o
out_lies Rep Rep even p q = inl refl
out_lies Rep Var even p q = absurd cc
out_lies Rep Block even p q = absurd cc
out_lies Var o even p q = absurd (even refl)
out_lies Block Rep even p q = absurd cc
out_lies Block Var even p q = inr (refl, refl)
out_lies Block Block even p q = inl refl

stencil_placed : (d : ℕ → Dist) (at : Place) (out array balanced reach : ℕ) (elem : Elem) → Meets d (Stencil out array balanced) → d balanced ≢ Var → LoopMeets d (stencil_loop at out balanced reach elem)
stencil_placed d at out array balanced reach elem (stencil_meets p q r s) even = record { inputs = tt; outs = (out_lies (d balanced) (d out) even r s, tt); halos = ((refl, even), tt) }

-- ---- the value of a balanced copy's stencil

is_so : (b : Bool) → IsTrue b → b ≡ true
is_so true p = refl
is_so false p = absurd cc

only_item : (k : ℕ) (ks : List ℕ) → IsTrue (are_equal ks (k ∷ [])) → ks ≡ k ∷ []
only_item k [] p = absurd cc
only_item k (j ∷ []) p = let same : j ≡ k = eqb-true j k (is_so _ (first_holds _ _ p)) in ap (λ (x : ℕ). x ∷ []) same
only_item k (j ∷ i ∷ ks) p = let wrong : IsTrue false = second_holds (j == k) false p in absurd (cc wrong)

-- two expressions that are each the same as a third
same_node : (b o j : Option NodeId) → is_one_node b o ≡ true → is_one_node b j ≡ true → is_one_node o j ≡ true
same_node (Some b) (Some o) (Some j) p q = eq-eqb o.0 j.0 (sym (eqb-true b.0 o.0 p) ∙ eqb-true b.0 j.0 q)
same_node (Some b) (Some o) None p q = absurd cc
same_node (Some b) None j p q = absurd cc
same_node None o j p q = absurd cc

one_frame : (o j : Slot) → o.balanced ≡ false → j.balanced ≡ false → is_one_node o.node j.node ≡ true → is_one_frame o j ≡ true
one_frame o j p q r = rw (p, q, r) refl

both_are : (a b : Bool) → (a && not b) ≡ true → (a ≡ true) × (b ≡ false)
both_are true false e = (refl, refl)
both_are true true e = absurd cc
both_are false b e = absurd cc

-- what holds of the stencil's value holds of each array that stands for it
only_value : (P : ℕ → Type 0) (slots : List Slot) (out balanced : ℕ) → (slot_at slots out).balanced ≡ false → is_one_node (slot_at slots balanced).node (slot_at slots out).node ≡ true
    → IsTrue (is_frame slots (out ∷ [])) → P out → AllByRecursion P (stencil_slots slots balanced)
only_value P slots out balanced plain one whole holds =
    let frame : frame_of slots out ≡ out ∷ [] = only_item out (frame_of slots out) whole in
    let listed : filter (λ j. is_one_frame (slot_at slots out) (slot_at slots j)) (numbers_of slots) ≡ out ∷ [] =
    sym (ap (λ (b : Bool). cond b (out ∷ []) (filter (λ j. is_one_frame (slot_at slots out) (slot_at slots j)) (numbers_of slots))) plain) ∙ frame in
    all_filtered P (λ j. is_one_node (slot_at slots balanced).node (slot_at slots j).node && not (slot_at slots j).balanced) (λ j. is_one_frame (slot_at slots out) (slot_at slots j)) (numbers_of slots)
    (λ j e. let parts = both_are _ _ e in one_frame (slot_at slots out) (slot_at slots j) plain parts.1 (same_node (slot_at slots balanced).node (slot_at slots out).node (slot_at slots j).node one parts.0))
    (subst (AllByRecursion P) (sym listed) (holds, tt))

-- ---- operations

-- an operation of the array IR copies to no balanced copy
not_dealt : (slots : List Slot) (w : What) → IsTrue (has_copy slots (arrays_of w)) → IsTrue (is_whole w) → is_dealt slots (arrays_of w) ≡ false
unfolding arrays_of outs sides
not_dealt slots (what.Copy os ins) apart whole = by os ins apart
  where
    none : (a b : Bool) → IsTrue (not (a || b)) → a ≡ false
    none true b p = absurd cc
    none false b p = refl

    by : (os ins : List ℕ) → IsTrue (has_copy slots (Copy os ins)) → is_dealt slots (Copy os ins) ≡ false
    by [] ins p = refl
    by (k ∷ []) [] p = refl
    by (k ∷ []) (x ∷ []) p = none (slot_at slots k).balanced _ p
    by (k ∷ []) (x ∷ y ∷ ys) p = refl
    by (k ∷ l ∷ ls) ins p = refl
not_dealt slots w apart whole = refl

-- ---- programs

not_either : (a b : Bool) → IsTrue (not (a || (b || false))) → a ≡ false
not_either true b p = absurd cc
not_either false b p = refl

some_ins : (ins : List ℕ) → IsTrue (has_some ins) → 0 < length ins
some_ins [] p = absurd cc
some_ins (x ∷ xs) p = omega arith

join_all : {X : Type 0} (P : X → Type 0) (xs ys : List X) → AllByRecursion P xs → AllByRecursion P ys → AllByRecursion P (xs ++ ys)
join_all P [] ys p q = q
join_all P (x ∷ xs) ys p q = (p.0, join_all P xs ys p.1 q)

module _ (slots : List Slot) (words : ℕ) (d : ℕ → Dist) (even : AllByRecursion (λ k. d k ≢ Var) (balanced_copies slots)) where
  not_pieces : (out array balanced reach : ℕ) (elem : Elem) → IsTrue (is_kept slots words (what.Stencil out array balanced reach elem)) → d balanced ≢ Var
  unfolding arrays_of outs sides
  not_pieces out array balanced reach elem kept =
      let named : IsTrue (nat_lt out (length slots) && (nat_lt balanced (length slots) && (nat_lt array (length slots) && true))) =
      first_holds _ _ (first_holds _ _ (within_slots slots words (what.Stencil out array balanced reach elem) kept)) in
      let there : balanced < length slots = ltb-true balanced (length slots) (first_holds _ _ (second_holds (nat_lt out (length slots)) _ named)) in
      filtered_has (λ k. d k ≢ Var) (λ k. (slot_at slots k).balanced) 0 (length slots) balanced even (omega arith) (omega arith) (is_dealt_out slots words out array balanced reach elem kept)

  copy_placed : (out array balanced reach : ℕ) (elem : Elem) → IsTrue (is_kept slots words (what.Stencil out array balanced reach elem)) → Meets d (Stencil out array balanced) → OperationMeets slots d (Copy (balanced ∷ []) (array ∷ []))
  unfolding arrays_of outs sides
  copy_placed out array balanced reach elem kept (stencil_meets p q r s) =
      let w : What = what.Stencil out array balanced reach elem in
      let apart = copies slots words w kept in
      let one = is_so _ (second_holds (slot_at slots balanced).balanced _ (first_holds _ _ apart)) in
      let plain = not_either _ _ (second_holds _ _ apart) in
      let whole = first_holds (is_frame slots (out ∷ [])) _ (made_whole slots words w kept) in
      as_stencil (is_dealt_out slots words out array balanced reach elem kept) p q (only_value (λ o. IsUpTo d o balanced × IsUpTo d balanced o) slots out balanced plain one whole (r, s))

  part_placed : (at : Place) (w : What) → IsTrue (is_kept slots words w) → Meets d (arrays_of w) → AllByRecursion (PartMeets slots d) (operations (built_at at w))
  unfolding operations built_at arrays_of has_lists
  part_placed at (what.Map out ins elem) kept meets = (map_placed d at out ins elem meets (some_ins ins (lists_held slots words (what.Map out ins elem) kept)), tt)
  part_placed at (what.Reduce to kind array elem) kept meets = (reduce_placed d at to kind array elem, tt)
  part_placed at (what.Stencil out array balanced reach elem) kept meets =
      (copy_placed out array balanced reach elem kept meets, (stencil_placed d at out array balanced reach elem meets (not_pieces out array balanced reach elem kept), tt))
  part_placed at w kept meets = (as_itself (not_dealt slots w (copies slots words w kept) refl) meets, tt)

  all_placed : (ops : List Op) → IsTrue (list_all (λ op. is_kept slots words op.what) ops) → AllByRecursion (λ op. Meets d (arrays_of op.what)) ops → AllByRecursion (PartMeets slots d) (flat_map (λ op. operations (built op)) ops)
  all_placed [] kept meets = tt
  all_placed (op ∷ ops) kept meets =
      join_all (PartMeets slots d) (operations (built op)) _ (part_placed op.at op.what (first_holds _ _ kept) meets.0) (all_placed ops (second_holds _ _ kept) meets.1)

pub built_placed : (slots : List Slot) (words : ℕ) (p : Prog Op) (dists : List Dist) → IsTrue (are_kept slots words p) → Placed slots p dists → PlacedParts slots (replaced built p) dists
built_placed slots words p dists kept placed =
    record {
      each = placed.each;
      frames = placed.frames;
      parts = rw (operations_replaced built p) (all_placed slots words (dist_at dists) placed.balanced (operations p) (first_holds _ _ kept) placed.rows);
      balanced = placed.balanced;
    }
