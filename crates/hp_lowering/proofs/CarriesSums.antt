-- The code of running sums carries them, where the array is whole on each rank and where it lies in pieces.
use Rattle.std.proofs.Common.{◌≡◌, ◌∙◌, refl, sym, subst, ap, arith, eqb, inl, inr, cond, Bool, true, false, ℕ, suc, ◌<◌, ◌≤◌, List, [], ◌∷◌, length, Some, Option}
use Rattle.std.specs.Prelude.{◌&&◌, ◌+ℤ◌, ℤ, pos}
use Rattle.std.proofs.lemmas.Bool.{and_parts, cases_eq, eq-eqb, ne_eqb}
use Rattle.hp_word.specs.declared.fold.FoldKind.TheVariants.{Sum}
use Rattle.hp_word.specs.declared.order.Order.{Order}
use Rattle.hp_word.specs.declared.place.Place.{Place}
use Rattle.hp_word.specs.declared.table.Tables.{Tables}
use Rattle.hp_word.specs.Folds.{fold_of}
use Rattle.hp_word.specs.Lengths.{longest}
use Rattle.hp_word.specs.ListRules.{prefix_sums, sums_after}
use Rattle.hp_lattice.specs.declared.dist.Dist.{Dist}
use Rattle.hp_spmd.specs.declared.code.Code.{Code}
use Rattle.hp_spmd.specs.Layout as layout
use Rattle.hp_air.specs.declared.slot.Slot.{Slot}
use Rattle.hp_air.specs.declared.what.What.TheVariants as what
use Rattle.hp_air.specs.Arrays.{Scan, arrays_of, outs, sides}
use Rattle.hp_air.specs.Constraints.{Meets, scan_meets}
use Rattle.hp_air.specs.Kept.{is_matrix}
use Rattle.hp_air.specs.Meaning.{does}
use Rattle.hp_air.specs.Placed.{dist_at}
use Rattle.hp_air.specs.Wholes as wholes
use Rattle.hp_air.specs.Wholes.{Vector, cells, changed_all, with_slots}
use Rattle.hp_parfor.specs.LoopMeaning.{is_rep, part_doing, part_does}
use Rattle.hp_parfor.specs.Parts.{Part, Does as DoesPart}
use Rattle.hp_snippet.specs.Holds.{IsCut}
use Rattle.hp_snippet.specs.Moves.{with_wholes}
use Rattle.hp_snippet.specs.Values.{with_value}
use Rattle.hp_alone.specs.Summing.{MaySum, summed, sums_code, sums_made, sums_written}
use Rattle.hp_alone.proofs.Summed.{sums_performs}
use Rattle.hp_coll.specs.Scanning.{MayScan, scan_code, scan_writes, scanned, summed_arrays, words_but}
use Rattle.hp_coll.proofs.Scanning.{list_scans}
use Rattle.hp_lowering.specs.PartCode.{part_code, whole_code}
use Rattle.hp_lowering.specs.Room.{Room, part_word, room_of, start_word}
use Rattle.hp_lowering.specs.Standing.{IsOf}
use Rattle.hp_lowering.proofs.ArraysHeld.{both_cut, is_whole_on_each, vector_held}
use Rattle.hp_lowering.proofs.Carrying.{carries_by}
use Rattle.hp_lowering.proofs.CarriesArrays.{with_vector_is}
use Rattle.hp_lowering.proofs.CarriesPicks.{LieAs}
use Rattle.hp_lowering.proofs.CarriesWords.{IsCarried, performed}
use Rattle.hp_lowering.proofs.PartForm.{steps_straight, steps_work}

as_many_sums : (before : ℤ) (xs : List ℤ) → length (sums_after before xs) ≡ length xs
unfolding sums_after
as_many_sums before [] = refl
as_many_sums before (x ∷ xs) = ap suc (as_many_sums (before +ℤ x) xs)

sums_short : (xs : List ℤ) → length xs ≤ longest → length (prefix_sums xs) ≤ longest
sums_short xs le = let same = as_many_sums (pos 0) xs in omega (arith, same, le)

-- ---- words that are no program's

own_word_is : (room : Room) (w : ℕ) (value : ℤ) (e : wholes.Env) (f : layout.Env) → room.words ≤ w → IsOf room e f → IsOf room e (with_value w value f)
own_word_is room w value e f behind h = record { slots = h.slots; words = word_is; short = h.short; arrays = h.arrays }
  where
    word_is : (k : ℕ) → k < room.words → cond (eqb w k) (Some value) (f.words k) ≡ Some (e.words k)
    word_is k lt = let other : eqb w k ≡ false = ne_eqb w k (λ same. omega (arith, same, behind, lt)) in rw (other) (h.words k lt)

own_words_are : (room : Room) (e : wholes.Env) (words : ℕ → Option ℤ) (part start : ℕ) → room.words ≤ part → room.words ≤ start → ((k : ℕ) → k < room.words → words k ≡ Some (e.words k)) → (k : ℕ) → k < room.words → words_but (part ∷ start ∷ []) words k ≡ Some (e.words k)
own_words_are room e words part start p q h k lt =
    let first : eqb part k ≡ false = ne_eqb part k (λ same. omega (arith, same, p, lt)) in
    let second : eqb start k ≡ false = ne_eqb start k (λ same. omega (arith, same, q, lt)) in
    rw (first, second) (h k lt)

-- ---- both ways

module _ (slots : List Slot) (words : ℕ) (dists : List Dist) (code : Code) (tables : Tables) (n : ℕ) (orders : List Order) (at : Place) (out array : ℕ) (lie : LieAs slots dists code) (o : out < length slots) (a : array < length slots) (none : is_matrix slots array ≡ false) where
  abbrev room : Room
  room = room_of slots words

  abbrev part : Part
  part = DoesPart (record { at = at; what = what.Scan out array })

  abbrev is_alone : Bool
  is_alone = is_rep (dist_at dists out) && (is_rep (dist_at dists array) && true)

  least_part : words ≤ part_word room
  least_part = omega arith

  least_start : words ≤ start_word room
  least_start = omega arith

  -- the array once it has its running sums
  sums_are : (e : wholes.Env) (f : layout.Env) → IsOf room e f → IsOf room (with_slots (out ∷ []) (Vector (prefix_sums (cells (e.slots array))) ∷ []) e) (with_wholes (out ∷ []) (summed (f.arrays array) ∷ []) f)
  sums_are e f h =
      subst (λ w. IsOf room (with_slots (out ∷ []) (Vector (prefix_sums (cells (e.slots array))) ∷ []) e) (with_wholes (out ∷ []) (summed w ∷ []) f)) (sym (vector_held room array e f h a none))
      (with_vector_is room out (prefix_sums (cells (e.slots array))) e f (sums_short (cells (e.slots array)) (h.short array a)) h)

  sums_alone_are : (e : wholes.Env) (f : layout.Env) → IsOf room e f
      → IsOf room (with_slots (out ∷ []) (Vector (prefix_sums (cells (e.slots array))) ∷ []) e) (with_value (part_word room) (fold_of Sum (f.arrays array).cells) (with_value (start_word room) (pos 0) (with_wholes (out ∷ []) (summed (f.arrays array) ∷ []) f)))
  sums_alone_are e f h =
      let after = with_slots (out ∷ []) (Vector (prefix_sums (cells (e.slots array))) ∷ []) e in
      let made = with_wholes (out ∷ []) (summed (f.arrays array) ∷ []) f in
      own_word_is room (part_word room) (fold_of Sum (f.arrays array).cells) after (with_value (start_word room) (pos 0) made) least_part (own_word_is room (start_word room) (pos 0) after made least_start (sums_are e f h))

  alone_carried : is_alone ≡ true → IsCarried slots words dists code tables n orders part
  unfolding part_code whole_code part_does does arrays_of outs sides
  alone_carried is =
      let first = and_parts (is_rep (dist_at dists out)) (is_rep (dist_at dists array) && true) is in
      let second = and_parts (is_rep (dist_at dists array)) true first.1 in
      let list = part_code room slots (dist_at dists) part in
      let same : list ≡ sums_code out array (part_word room) (start_word room) = ap (λ b. cond b (sums_code out array (part_word room) (start_word room)) (scan_code out array (part_word room) (start_word room))) is in
      carries_by (part_doing slots dists tables.list orders) (part_code room slots (dist_at dists)) code tables n room orders part (sums_written out (part_word room) (start_word room)) (steps_straight room slots (dist_at dists) part) (steps_work room slots (dist_at dists) part) (sums_made out array (part_word room) (start_word room))
      (λ s e h stand. (
        record { text = refl; is = sums_alone_are e h.env h.is; executed = refl; bad = refl },
        performed code tables n room list (sums_written out (part_word room) (start_word room)) (MaySum out array) (sums_made out array (part_word room) (start_word room)) (sums_performs out array (part_word room) (start_word room) list same) s e h stand
            (record { from_whole = lie array a ∙ is_whole_on_each (dist_at dists array) second.0; to_whole = lie out o ∙ is_whole_on_each (dist_at dists out) first.0 }),
      ))

  -- where it lies in pieces
  pieces_are : (e : wholes.Env) (f : layout.Env) → IsOf room e f
      → IsOf room (with_slots (out ∷ []) (Vector (prefix_sums (cells (e.slots array))) ∷ []) e) (record { arrays = summed_arrays out array f.arrays; words = words_but (part_word room ∷ start_word room ∷ []) f.words })
  unfolding changed_all
  pieces_are e f h =
      let vector = sums_are e f h in
      record {
        slots = λ k lt. turned k ∙ vector.slots k lt;
        words = λ k lt. own_words_are room e f.words (part_word room) (start_word room) least_part least_start h.words k lt;
        short = vector.short;
        arrays = vector.arrays;
      }
    where
      turned : (k : ℕ) → summed_arrays out array f.arrays k ≡ cond (eqb k out) (summed (f.arrays array)) (f.arrays k)
      turned k = elim (cases_eq k out) [
        | inl same ↦ let p : eqb k out ≡ true = eq-eqb k out same in let q : eqb out k ≡ true = eq-eqb out k (sym same) in rw (p, q) refl
        | inr other ↦ let p : eqb k out ≡ false = ne_eqb k out other in let q : eqb out k ≡ false = ne_eqb out k (λ same. other (sym same)) in rw (p, q) refl
      ]

  pieces_carried : is_alone ≡ false → (out ≡ array → ⊥) → dist_at dists out ≡ dist_at dists array → IsCarried slots words dists code tables n orders part
  unfolding part_code whole_code part_does does arrays_of outs sides
  pieces_carried is apart alike =
      let list = part_code room slots (dist_at dists) part in
      let same : list ≡ scan_code out array (part_word room) (start_word room) = ap (λ b. cond b (sums_code out array (part_word room) (start_word room)) (scan_code out array (part_word room) (start_word room))) is in
      carries_by (part_doing slots dists tables.list orders) (part_code room slots (dist_at dists)) code tables n room orders part (scan_writes out (part_word room) (start_word room)) (steps_straight room slots (dist_at dists) part) (steps_work room slots (dist_at dists) part) (scanned out array (part_word room) (start_word room))
      (λ s e h stand. (
        record { text = refl; is = pieces_are e h.env h.is; executed = refl; bad = refl },
        performed code tables n room list (scan_writes out (part_word room) (start_word room)) (MayScan out array (part_word room) (start_word room)) (scanned out array (part_word room) (start_word room)) (list_scans out array (part_word room) (start_word room) list same) s e h stand
            (record {
              cut = subst IsCut (sym (lie array a)) (both_cut (dist_at dists out) (dist_at dists array) alike is);
              lies = inl (lie out o ∙ alike ∙ sym (lie array a));
              other = apart;
              apart = λ e. omega (arith, e);
            }),
      ))

  by_test : (b : Bool) → is_alone ≡ b → (out ≡ array → ⊥) → dist_at dists out ≡ dist_at dists array → IsCarried slots words dists code tables n orders part
  by_test true is apart alike = alone_carried is
  by_test false is apart alike = pieces_carried is apart alike

  pub scan_carried : (out ≡ array → ⊥) → Meets (dist_at dists) (Scan out array) → IsCarried slots words dists code tables n orders part
  scan_carried apart (scan_meets alike) = by_test is_alone refl apart alike
