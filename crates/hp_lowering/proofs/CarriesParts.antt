-- The code of each of the steps that are shown to be carried carries its step.
use Rattle.std.proofs.Common.{◌≡◌, ◌∙◌, refl, sym, subst, ap, arith, cond, inl, inr, Bool, true, false, not, ℕ, zero, suc, ◌+◌, ◌<◌, ◌≤◌, List, [], ◌∷◌, ◌++◌, append-nil, length, map, take}
use Rattle.std.specs.Prelude.{◌≢◌, ◌&&◌, ◌==◌, filter, replicate}
use Rattle.std.specs.Bool.{IsTrue}
use Rattle.std.specs.List.{AllByRecursion, list_all, list_any, range_with_len}
use Rattle.std.proofs.lemmas.Bool.{and_parts, cases_lt, eq-eqb, eqb-true, false≢true}
use Rattle.std.proofs.lemmas.List.{get_or-replicate}
use Rattle.hp_word.specs.declared.order.Order.{Order}
use Rattle.hp_word.specs.declared.place.Place.{Place}
use Rattle.hp_word.specs.declared.table.Tables.{Tables}
use Rattle.hp_lattice.specs.declared.dist.Dist.{Dist}
use Rattle.hp_lattice.specs.declared.dist.Dist.TheVariants.{Block, Rep, Var}
use Rattle.hp_spmd.specs.declared.code.Code.{Code}
use Rattle.hp_spmd.specs.Store as store
use Rattle.hp_program.specs.Programs.{operations, tests}
use Rattle.hp_air.specs.declared.slot.Slot.{Slot}
use Rattle.hp_air.specs.declared.what.What.{What}
use Rattle.hp_air.specs.declared.what.What.TheVariants as what
use Rattle.hp_air.specs.Arrays.{Arrays, At, Concat, Pick, Scan, arrays_of, outs, sides}
use Rattle.hp_air.specs.Constraints.{Meets, at_meets}
use Rattle.hp_air.specs.Frames.{slot_at}
use Rattle.hp_air.specs.Kept.{are_below, are_distinct, are_paired, has_elem, has_frames, has_lists, has_matrices, has_some, is_apart, is_copy, is_one_of, is_within, slots_in, words_in}
use Rattle.hp_air.specs.Placed.{dist_at}
use Rattle.hp_parfor.specs.declared.parfor.Parfor.{Parfor}
use Rattle.hp_parfor.specs.KeptParts.{is_part_kept, is_whole}
use Rattle.hp_parfor.specs.LoopMeaning.{is_replicated}
use Rattle.hp_parfor.specs.Parts.{Part, Does as DoesPart, Loops}
use Rattle.hp_parfor.specs.PlacedParts.{LoopMeets, OperationMeets, PartMeets, as_itself, as_stencil}
use Rattle.hp_lowering.specs.Room.{Room, greatest, room_of, spares_of}
use Rattle.hp_lowering.specs.RunLaws.{StepsAreCarried}
use Rattle.hp_lowering.specs.PartCode.{is_part_built}
use Rattle.hp_lowering.proofs.CarriedBy.{LieAsSlots}
use Rattle.hp_lowering.proofs.CarriesArrays.{fill_carried, list_carried, range_carried, word_carried}
use Rattle.hp_lowering.proofs.CarriesCopies.{copy_carried}
use Rattle.hp_lowering.proofs.CarriesJoins.{concat_carried}
use Rattle.hp_lowering.proofs.CarriesCuts.{cut_loop_carried}
use Rattle.hp_lowering.proofs.CarriesLoops.{LoopKeeps, loop_keeps, whole_loop_carried}
use Rattle.hp_lowering.proofs.CarriesPicks.{pick_carried}
use Rattle.hp_lowering.proofs.CarriesSums.{scan_carried}
use Rattle.hp_lowering.proofs.CarriesLengths.{at_carried, length_carried}
use Rattle.hp_lowering.proofs.ArraysHeld.{at_most_whole}
use Rattle.hp_lowering.proofs.CarriesWords.{IsCarried, calc_carried, const_carried}
use Rattle.hp_lowering.proofs.NamesKept.{below_join, first_list, more_names, one_name, rest_lists}
use Rattle.hp_lowering.proofs.PartLoops.{lowered_arrays}

-- ---- what a step asks of how its arrays lie

-- no step but a copy to a balanced copy asks anything but its row
row_of : (slots : List Slot) (d : ℕ → Dist) (a : Arrays ℕ) → is_copy a ≡ false → OperationMeets slots d a → Meets d a
row_of slots d a plain (as_itself dealt meets) = meets
row_of slots d a plain (as_stencil balanced p q outs) = absurd (false≢true (sym plain))

at_whole : (d : ℕ → Dist) (array : ℕ) → Meets d (At array) → d array ≡ Rep
at_whole d array (at_meets limit) = at_most_whole (d array) limit

-- ---- steps

-- what an operation keeps
record Keeps (slots : List Slot) (words : ℕ) (w : What) : Type 0 where
  pub names : are_below words (words_in w) ≡ true
  pub arrays : are_below (length slots) (slots_in w) ≡ true
  pub lists : has_lists w ≡ true
  pub apart : is_apart (arrays_of w) ≡ true
  pub matrices : has_matrices slots (arrays_of w) ≡ true

module _ (slots : List Slot) (words : ℕ) (dists : List Dist) (code : Code) (tables : Tables) (n : ℕ) (orders : List Order) (like : LieAsSlots slots dists code) where
  abbrev room : Room
  room = room_of slots words

  abbrev d : ℕ → Dist
  d = dist_at dists

  abbrev Carried : Part → Type 0
  Carried part = IsCarried slots words dists code tables n orders part

  paired : (outs ins : List ℕ) → are_paired outs ins ≡ true → length outs ≡ length ins
  paired outs ins h = eqb-true (length outs) (length ins) (and_parts (has_some outs) (length outs == length ins) h).1

  copy_step : (at : Place) (outs ins : List ℕ) → Keeps slots words (what.Copy outs ins) → OperationMeets slots d (arrays_of (what.Copy outs ins)) → Carried (DoesPart (record { at = at; what = what.Copy outs ins }))
  unfolding arrays_of outs sides has_lists
  copy_step at os ins k meets =
      let both = below_join (length slots) os (ins ++ []) k.arrays in
      copy_carried slots words dists code tables n orders at os ins like meets both.0 (subst (λ l. are_below (length slots) l ≡ true) (append-nil ins) both.1) (and_parts (are_distinct os) true k.apart).0 (paired os ins k.lists) k.matrices

  length_step : (at : Place) (to array : ℕ) → Keeps slots words (what.Length to array) → Carried (DoesPart (record { at = at; what = what.Length to array }))
  unfolding arrays_of outs sides
  length_step at to array k = length_carried slots words dists code tables n orders at to array (one_name array [] (length slots) k.arrays) (first_list slots array [] k.matrices)

  at_step : (at : Place) (to array index : ℕ) → Keeps slots words (what.At to array index) → OperationMeets slots d (arrays_of (what.At to array index)) → Carried (DoesPart (record { at = at; what = what.At to array index }))
  unfolding arrays_of outs sides
  at_step at to array index k meets =
      at_carried slots words dists code tables n orders at to array index like (one_name array [] (length slots) k.arrays) (one_name index [] words (more_names to (index ∷ []) words k.names)) (at_whole d array (row_of slots d (At array) refl meets))

  -- an operation that reads one array and writes another one
  other_array : (out array : ℕ) → not (list_any (is_one_of (array ∷ [])) (out ∷ [])) ≡ true → out ≡ array → ⊥
  other_array out array h same = false≢true (rw (eq-eqb array out (sym same)) at h)

  scan_step : (at : Place) (out array : ℕ) → Keeps slots words (what.Scan out array) → OperationMeets slots d (arrays_of (what.Scan out array)) → Carried (DoesPart (record { at = at; what = what.Scan out array }))
  unfolding arrays_of outs sides
  scan_step at out array k meets =
      let rest = more_names out (array ∷ []) (length slots) k.arrays in
      scan_carried slots words dists code tables n orders at out array like.lies (one_name out (array ∷ []) (length slots) k.arrays) (one_name array [] (length slots) rest) (first_list slots array [] (rest_lists slots out (array ∷ []) k.matrices))
      (other_array out array (and_parts (are_distinct (out ∷ [])) (not (list_any (is_one_of (array ∷ [])) (out ∷ []))) k.apart).1) (row_of slots d (Scan out array) refl meets)

  concat_step : (at : Place) (out left right : ℕ) → Keeps slots words (what.Concat out left right) → OperationMeets slots d (arrays_of (what.Concat out left right)) → Carried (DoesPart (record { at = at; what = what.Concat out left right }))
  unfolding arrays_of outs sides
  concat_step at out left right k meets =
      let rest = more_names out (left ∷ right ∷ []) (length slots) k.arrays in
      let lists = rest_lists slots out (left ∷ right ∷ []) k.matrices in
      concat_carried slots words dists code tables n orders at out left right like.lies (one_name out (left ∷ right ∷ []) (length slots) k.arrays) (one_name left (right ∷ []) (length slots) rest) (one_name right [] (length slots) (more_names left (right ∷ []) (length slots) rest))
      (first_list slots left (right ∷ []) lists) (first_list slots right [] (rest_lists slots left (right ∷ []) lists)) (row_of slots d (Concat out left right) refl meets)

  pick_step : (at : Place) (out array index : ℕ) → Keeps slots words (what.Pick out array index) → OperationMeets slots d (arrays_of (what.Pick out array index)) → Carried (DoesPart (record { at = at; what = what.Pick out array index }))
  unfolding arrays_of outs sides
  pick_step at out array index k meets =
      let rest = more_names out (array ∷ index ∷ []) (length slots) k.arrays in
      let lists = rest_lists slots out (array ∷ index ∷ []) k.matrices in
      pick_carried slots words dists code tables n orders at out array index like.lies (one_name out (array ∷ index ∷ []) (length slots) k.arrays) (one_name array (index ∷ []) (length slots) rest) (one_name index [] (length slots) (more_names array (index ∷ []) (length slots) rest))
      (first_list slots index [] (rest_lists slots array (index ∷ []) lists)) (row_of slots d (Pick out array index) refl meets)

  list_step : (at : Place) (array : ℕ) (truth : Bool) → Keeps slots words (what.PrintList array truth) → Carried (DoesPart (record { at = at; what = what.PrintList array truth }))
  unfolding arrays_of outs sides
  list_step at array truth k = list_carried slots words dists code tables n orders at array truth (one_name array [] (length slots) k.arrays)

  op_carried : (at : Place) (w : What) → is_part_built (DoesPart (record { at = at; what = w })) ≡ true → Keeps slots words w → OperationMeets slots d (arrays_of w) → Carried (DoesPart (record { at = at; what = w }))
  op_carried at (what.Const to value) built k meets = const_carried slots words dists code tables n orders at to value (one_name to [] words k.names)
  op_carried at (what.Calc to op left right) built k meets =
      let rest = more_names to (left ∷ right ∷ []) words k.names in
      calc_carried slots words dists code tables n orders at to op left right (one_name to (left ∷ right ∷ []) words k.names) (one_name left (right ∷ []) words rest) (one_name right [] words (more_names left (right ∷ []) words rest))
  op_carried at (what.Length to array) built k meets = length_step at to array k
  op_carried at (what.Fill out value count) built k meets = fill_carried slots words dists code tables n orders at out value count (one_name value (count ∷ []) words k.names) (one_name count [] words (more_names value (count ∷ []) words k.names))
  op_carried at (what.Range out first last) built k meets = range_carried slots words dists code tables n orders at out first last (one_name first (last ∷ []) words k.names) (one_name last [] words (more_names first (last ∷ []) words k.names))
  op_carried at (what.Copy outs ins) built k meets = copy_step at outs ins k meets
  op_carried at (what.Scan out array) built k meets = scan_step at out array k meets
  op_carried at (what.Concat out left right) built k meets = concat_step at out left right k meets
  op_carried at (what.Pick out array index) built k meets = pick_step at out array index k meets
  op_carried at (what.At to array index) built k meets = at_step at to array index k meets
  op_carried at (what.PrintWord word truth) built k meets = word_carried slots words dists code tables n orders at word truth (one_name word [] words k.names)
  op_carried at (what.PrintList array truth) built k meets = list_step at array truth k
  op_carried at _ built k meets = absurd (false≢true built)

  loop_carried : (p : Parfor) → LoopKeeps slots words p → LoopMeets d p → length p.inputs ≤ like.spares → Carried (Loops p)
  loop_carried p keeps meets fit = by_test (is_replicated d (Loops p)) refl
    where
      by_test : (b : Bool) → is_replicated d (Loops p) ≡ b → Carried (Loops p)
      by_test true whole = whole_loop_carried slots words dists code tables n orders like p keeps whole
      by_test false pieces = cut_loop_carried slots words dists code tables n orders like p keeps meets pieces fit

  part_carried : (part : Part) → is_part_built part ≡ true → is_part_kept slots words part ≡ true → PartMeets slots d part → spares_of part ≤ like.spares → Carried part
  part_carried (DoesPart op) built kept meets fit =
      let w = op.what in
      let A = is_whole w in
      let B = is_within slots words w in
      let C = has_lists w in
      let D = is_apart (arrays_of w) in
      let E = has_frames slots (arrays_of w) in
      let F = has_matrices slots (arrays_of w) in
      let six = and_parts ((((A && B) && C) && D) && E) F kept in
      let five = and_parts (((A && B) && C) && D) E six.0 in
      let four = and_parts ((A && B) && C) D five.0 in
      let three = and_parts (A && B) C four.0 in
      let within = (and_parts A B three.0).1 in
      let first = (and_parts (are_below (length slots) (slots_in w) && are_below words (words_in w)) (has_elem words w) within).0 in
      let names = and_parts (are_below (length slots) (slots_in w)) (are_below words (words_in w)) first in
      op_carried op.at w built (record { names = names.1; arrays = names.0; lists = three.1; apart = four.1; matrices = six.1 }) meets
  part_carried (Loops p) built kept meets fit = loop_carried p (loop_keeps slots words p kept) meets fit

  pub parts_carried : (parts : List Part) → AllByRecursion (λ part. IsTrue (is_part_built part)) parts → list_all (is_part_kept slots words) parts ≡ true → AllByRecursion (PartMeets slots d) parts → greatest (map spares_of parts) ≤ like.spares → AllByRecursion Carried parts
  parts_carried [] built kept meets fit = tt
  parts_carried (part ∷ parts) built kept meets fit =
      let each = and_parts (is_part_kept slots words part) (list_all (is_part_kept slots words) parts) kept in
      (part_carried part built.0 each.0 meets.0 (omega (arith, fit)), parts_carried parts built.1 each.1 meets.1 (omega (arith, fit)))

-- ---- all of them

kept_first : (P : ℕ → Type 0) (b : Bool) (x : ℕ) (xs : List ℕ) → b ≡ true → AllByRecursion P (cond b (x ∷ xs) xs) → P x
kept_first P b x xs e h = (subst (λ c. AllByRecursion P (cond c (x ∷ xs) xs)) e h).0

kept_rest : (P : ℕ → Type 0) (b : Bool) (x : ℕ) (xs : List ℕ) → AllByRecursion P (cond b (x ∷ xs) xs) → AllByRecursion P xs
kept_rest P true x xs h = h.1
kept_rest P false x xs h = h

-- what holds of all numbers that pass a test holds of each
of_each : (P : ℕ → Type 0) (test : ℕ → Bool) (a m k : ℕ) → AllByRecursion P (filter test (range_with_len a m)) → test k ≡ true → a ≤ k → k < a + m → P k
of_each P test a zero k h is low high = absurd (omega (arith, low, high))
of_each P test a (suc m) k h is low high = elim (cases_lt a k) [
  | inl less ↦ of_each P test (a + 1) m k (kept_rest P (test a) a (filter test (range_with_len (a + 1) m)) h) is (omega (arith, less)) (omega (arith, high))
  | inr least ↦ let same : a ≡ k = omega (arith, low, least) in subst P same (kept_first P (test a) a (filter test (range_with_len (a + 1) m)) (ap test same ∙ is) h)
]

front_long : (n : ℕ) (xs ys : List Dist) → n ≤ length xs → n ≤ length (take n xs ++ ys)
front_long zero xs ys le = omega arith
front_long (suc n) [] ys le = absurd (omega (arith, le))
front_long (suc n) (x ∷ xs) ys le = let less : n ≤ length xs = omega (arith, le) in let more = front_long n xs ys less in omega (arith, more)

-- the spare arrays lie in uneven pieces
spare_dist : (n m i : ℕ) (xs : List Dist) → n ≤ length xs → i < m → store.dist_at (take n xs ++ replicate m Var) (n + i) ≡ Var
spare_dist zero m i xs le lt = let same : zero + i ≡ i = omega arith in ap (λ k. store.dist_at (replicate m Var) k) same ∙ get_or-replicate m i Var Block lt
spare_dist (suc n) m i [] le lt = absurd (omega (arith, le))
spare_dist (suc n) m i (x ∷ xs) le lt =
    let less : n ≤ length xs = omega (arith, le) in
    let same : suc n + i ≡ suc (n + i) = omega arith in
    ap (λ k. store.dist_at (x ∷ (take n xs ++ replicate m Var)) k) same ∙ spare_dist n m i xs less lt

pub steps_are_carried : StepsAreCarried
steps_are_carried slots words p dists code tables ranks orders kept placed arrays built =
    parts_carried slots words dists code tables ranks orders
    (record {
      there = subst (λ (l : List Dist). length slots ≤ length l) (sym arrays) (front_long (length slots) dists (replicate (greatest (map spares_of (operations p))) Var) placed.each);
      lies = λ k lt. ap (λ ds. store.dist_at ds k) arrays ∙ lowered_arrays slots p dists k placed.each lt;
      even = λ k lt balanced. of_each (λ j. dist_at dists j ≢ Var) (λ j. (slot_at slots j).balanced) 0 (length slots) k placed.balanced balanced (omega arith) (omega (arith, lt));
      spares = greatest (map spares_of (operations p));
      spare_lies = λ i lt. ap (λ ds. store.dist_at ds (length slots + i)) arrays ∙ spare_dist (length slots) (greatest (map spares_of (operations p))) i dists placed.each lt;
    })
    (operations p) built (and_parts (list_all (is_part_kept slots words) (operations p)) (are_below words (tests p)) kept).0 placed.parts (omega arith)
