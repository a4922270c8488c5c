-- The codes of fills, ranges and outputs carry them.
use Rattle.std.proofs.Common.{◌≡◌, ◌∙◌, refl, sym, subst, ap, arith, cond, Bool, true, false, ℕ, ◌<◌, ◌≤◌, List, [], ◌∷◌, length, Result, Ok, Err}
use Rattle.std.specs.Prelude.{◌+ℤ◌, ℤ, pos, negsuc, nat_le, replicate}
use Rattle.std.specs.List.{range_with_len}
use Rattle.std.proofs.lemmas.Bool.{leb-true}
use Rattle.std.proofs.lemmas.List.{length-map, length-replicate}
use Rattle.std.proofs.lemmas.List.FromFn.{length-range_with_len}
use Rattle.hp_word.specs.declared.order.Order.{Order}
use Rattle.hp_word.specs.declared.place.Place.{Place}
use Rattle.hp_word.specs.declared.place.Trap.{Trap}
use Rattle.hp_word.specs.declared.place.TrapKind.TheVariants.{TooLong}
use Rattle.hp_word.specs.declared.table.Tables.{Tables}
use Rattle.hp_word.specs.Lengths.{longest, trap}
use Rattle.hp_word.specs.ListRules.{count_from, filled, range_count, range_of, span}
use Rattle.hp_word.specs.LoopRules.{and_then}
use Rattle.hp_word.specs.Text.{list_line, printed}
use Rattle.hp_lattice.specs.declared.dist.Dist.{Dist}
use Rattle.hp_spmd.specs.declared.code.Code.{Code}
use Rattle.hp_spmd.specs.declared.instr.Output.TheVariants as output
use Rattle.hp_spmd.specs.Layout as layout
use Rattle.hp_air.specs.declared.slot.Slot.{Slot}
use Rattle.hp_air.specs.declared.what.What.TheVariants as what
use Rattle.hp_air.specs.Meaning as air
use Rattle.hp_air.specs.Meaning.{does}
use Rattle.hp_air.specs.Placed.{dist_at}
use Rattle.hp_air.specs.Wholes as wholes
use Rattle.hp_air.specs.Wholes.{Vector, Grid, cells, changed_all, with_slots}
use Rattle.hp_parfor.specs.LoopMeaning.{part_doing, part_does}
use Rattle.hp_parfor.specs.Parts.{Part, Does as DoesPart}
use Rattle.hp_snippet.specs.Moves.{arrays_alone, with_wholes}
use Rattle.hp_snippet.specs.Values.{value_or_zero}
use Rattle.hp_alone.specs.Dealing.{array_made, fill_code, filled_array, range_code, ranged_array}
use Rattle.hp_alone.specs.Scalars.{HaveValues}
use Rattle.hp_alone.proofs.Dealt.{fill_performs, range_performs}
use Rattle.hp_coll.specs.Arriving.{MayArrive, arrive_code, arrive_writes, arrived}
use Rattle.hp_coll.proofs.Lines.{arrives}
use Rattle.hp_lowering.specs.PartCode.{part_code, whole_code}
use Rattle.hp_lowering.specs.Room.{Room, room_of}
use Rattle.hp_lowering.specs.Standing.{IsOf, whole_of}
use Rattle.hp_lowering.proofs.Carrying.{DoesAs, carries_by}
use Rattle.hp_lowering.proofs.CarriesWords.{IsCarried, has_value, performed, value_is}
use Rattle.hp_lowering.proofs.PartForm.{steps_straight, steps_work}
use Rattle.hp_lowering.proofs.SlotsWritten.{slots_written}

-- ---- a vector that is made

pub with_vector_is : (room : Room) (to : ℕ) (xs : List ℤ) (e : wholes.Env) (f : layout.Env) → length xs ≤ longest → IsOf room e f → IsOf room (with_slots (to ∷ []) (Vector xs ∷ []) e) (with_wholes (to ∷ []) (layout.vector xs ∷ []) f)
with_vector_is room to xs e f le h = slots_written room (to ∷ []) (Vector xs ∷ []) (layout.vector xs ∷ []) e f (tt, tt) (record { same = refl; short = le; array = λ no. tt }, tt) h

-- what is made is no longer than an array may be
abbrev pub IsShort : Result (List ℤ) Trap → Type 0
IsShort (Ok xs) = length xs ≤ longest
IsShort (Err t) = Unit {0}

pub vector_does : (room : Room) (to : ℕ) (e : wholes.Env) (f : layout.Env) (r : Result (List ℤ) Trap) → IsShort r → IsOf room e f → DoesAs room e (air.array_made to e r) (array_made to r f)
vector_does room to e f (Ok xs) short h = record { text = refl; is = with_vector_is room to xs e f short h; executed = refl; bad = refl }
vector_does room to e f (Err t) short h = refl

pub told_short : (b : Bool) (n : ℕ) (t : Trap) (f : ℕ → List ℤ) → ((m : ℕ) → length (f m) ≡ m) → (b ≡ true → n ≤ longest) → IsShort (and_then (cond b (Ok n) (Err t)) (λ m. Ok (f m)))
told_short true n t f h le = let count = h n in let less = le refl in omega (arith, count, less)
told_short false n t f h le = tt

filled_short : (at : Place) (count value : ℤ) → IsShort (filled at count value)
unfolding filled
filled_short at (pos n) value = told_short (nat_le n longest) n (trap at TooLong) (λ m. replicate m value) (λ m. length-replicate m value) (λ e. leb-true n longest e)
filled_short at (negsuc n) value = tt

range_short : (at : Place) (first last : ℤ) → IsShort (range_of at first last)
unfolding range_of range_count span
range_short at first last =
    told_short (nat_le (count_from first last) longest) (count_from first last) (trap at TooLong) (span first) (λ m. length-map (range_with_len 0 m) (λ k. first +ℤ pos k) ∙ length-range_with_len 0 m) (λ e. leb-true (count_from first last) longest e)

pub cells_are : (w : wholes.Whole) → (whole_of w).cells ≡ cells w
cells_are (Vector xs) = refl
cells_are (Grid m) = refl

module _ (slots : List Slot) (words : ℕ) (dists : List Dist) (code : Code) (tables : Tables) (n : ℕ) (orders : List Order) where
  abbrev room : Room
  room = room_of slots words

  abbrev Carried : Part → Type 0
  Carried part = IsCarried slots words dists code tables n orders part

  pub fill_carried : (at : Place) (out value count : ℕ) → value < words → count < words → Carried (DoesPart (record { at = at; what = what.Fill out value count }))
  unfolding part_code whole_code part_does does
  fill_carried at out value count v c =
      let part = DoesPart (record { at = at; what = what.Fill out value count }) in
      carries_by (part_doing slots dists tables.list orders) (part_code room slots (dist_at dists)) code tables n room orders part (arrays_alone (out ∷ [])) (steps_straight room slots (dist_at dists) part) (steps_work room slots (dist_at dists) part) (filled_array out value count at)
      (λ s e h stand. (
        subst (λ x. DoesAs room e (air.array_made out e (filled at (e.words count) (e.words value))) (array_made out (filled at x (value_or_zero (h.env.words value))) h.env)) (sym (value_is room count e h.env h.is c))
            (subst (λ y. DoesAs room e (air.array_made out e (filled at (e.words count) (e.words value))) (array_made out (filled at (e.words count) y) h.env)) (sym (value_is room value e h.env h.is v))
            (vector_does room out e h.env (filled at (e.words count) (e.words value)) (filled_short at (e.words count) (e.words value)) h.is)),
        performed code tables n room (fill_code out value count at) (arrays_alone (out ∷ [])) (HaveValues value count) (filled_array out value count at) (fill_performs out value count at (fill_code out value count at) refl) s e h stand
            (has_value room value e h.env h.is v, has_value room count e h.env h.is c),
      ))

  pub range_carried : (at : Place) (out first last : ℕ) → first < words → last < words → Carried (DoesPart (record { at = at; what = what.Range out first last }))
  unfolding part_code whole_code part_does does
  range_carried at out first last a b =
      let part = DoesPart (record { at = at; what = what.Range out first last }) in
      carries_by (part_doing slots dists tables.list orders) (part_code room slots (dist_at dists)) code tables n room orders part (arrays_alone (out ∷ [])) (steps_straight room slots (dist_at dists) part) (steps_work room slots (dist_at dists) part) (ranged_array out first last at)
      (λ s e h stand. (
        subst (λ x. DoesAs room e (air.array_made out e (range_of at (e.words first) (e.words last))) (array_made out (range_of at x (value_or_zero (h.env.words last))) h.env)) (sym (value_is room first e h.env h.is a))
            (subst (λ y. DoesAs room e (air.array_made out e (range_of at (e.words first) (e.words last))) (array_made out (range_of at (e.words first) y) h.env)) (sym (value_is room last e h.env h.is b))
            (vector_does room out e h.env (range_of at (e.words first) (e.words last)) (range_short at (e.words first) (e.words last)) h.is)),
        performed code tables n room (range_code out first last at) (arrays_alone (out ∷ [])) (HaveValues first last) (ranged_array out first last at) (range_performs out first last at (range_code out first last at) refl) s e h stand
            (has_value room first e h.env h.is a, has_value room last e h.env h.is b),
      ))

  -- ---- outputs

  pub word_carried : (at : Place) (word : ℕ) (truth : Bool) → word < words → Carried (DoesPart (record { at = at; what = what.PrintWord word truth }))
  unfolding part_code whole_code part_does does
  word_carried at word truth lt =
      let part = DoesPart (record { at = at; what = what.PrintWord word truth }) in
      let out = output.Word word truth in
      carries_by (part_doing slots dists tables.list orders) (part_code room slots (dist_at dists)) code tables n room orders part arrive_writes (steps_straight room slots (dist_at dists) part) (steps_work room slots (dist_at dists) part) (arrived out)
      (λ s e h stand. (
        record { text = ap (printed truth) (sym (value_is room word e h.env h.is lt)); is = h.is; executed = refl; bad = refl },
        performed code tables n room (arrive_code out) arrive_writes (MayArrive out) (arrived out) (arrives out) s e h stand (has_value room word e h.env h.is lt),
      ))

  pub list_carried : (at : Place) (array : ℕ) (truth : Bool) → array < length slots → Carried (DoesPart (record { at = at; what = what.PrintList array truth }))
  unfolding part_code whole_code part_does does
  list_carried at array truth lt =
      let part = DoesPart (record { at = at; what = what.PrintList array truth }) in
      let out = output.List array truth in
      carries_by (part_doing slots dists tables.list orders) (part_code room slots (dist_at dists)) code tables n room orders part arrive_writes (steps_straight room slots (dist_at dists) part) (steps_work room slots (dist_at dists) part) (arrived out)
      (λ s e h stand. (
        record { text = ap (list_line truth) (sym (ap (λ (w : layout.Whole). w.cells) (h.is.slots array lt) ∙ cells_are (e.slots array))); is = h.is; executed = refl; bad = refl },
        performed code tables n room (arrive_code out) arrive_writes (MayArrive out) (arrived out) (arrives out) s e h stand tt,
      ))
