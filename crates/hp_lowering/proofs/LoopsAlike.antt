-- What a loop over whole arrays makes of what the ranks stand for is what the program's loop makes of its slots.
use Rattle.std.proofs.Common.{◌≡◌, ◌∙◌, refl, sym, subst, ap, arith, eqb, inl, inr, cond, Bool, true, false, not, ℕ, zero, suc, ◌<◌, ◌≤◌, List, [], ◌∷◌, ◌++◌, length, map, lt-ltb, None, Some, Result, Ok, Err}
use Rattle.std.specs.Prelude.{ℤ, pos, ◌&&◌, ◌==◌, ◌+ℤ◌, nat_lt, slice_get, slice_index, Option}
use Rattle.std.specs.List.{list_all, list_any}
use Rattle.std.proofs.lemmas.Bool.{and_parts, cases_eq, eq-eqb, false≢true, ltb-true, ne_eqb}
use Rattle.std.proofs.lemmas.List.{get_or-map, length-append, length-map}
use Rattle.hp_word.specs.declared.place.Place.{Place}
use Rattle.hp_word.specs.declared.place.Trap.{Trap}
use Rattle.hp_word.specs.declared.place.TrapKind.TheVariants.{Empty, Mismatch}
use Rattle.hp_word.specs.Folds.{fold_of}
use Rattle.hp_word.specs.Lengths.{longest, trap}
use Rattle.hp_word.specs.LoopRules.{and_then, cell_at, column_of, lets_after, rows_below, word_at}
use Rattle.hp_word.specs.RowRules.{column_at}
use Rattle.hp_spmd.specs.declared.instr.CheckRule.TheVariants as check
use Rattle.hp_spmd.specs.declared.instr.Folding.{Folding}
use Rattle.hp_spmd.specs.declared.instr.Loop.{Loop}
use Rattle.hp_spmd.specs.declared.instr.Out.{Out}
use Rattle.hp_spmd.specs.Layout as layout
use Rattle.hp_spmd.specs.Scalars.{check_of}
use Rattle.hp_program.specs.Programs.{Effect}
use Rattle.hp_air.specs.declared.slot.Slot.{Slot}
use Rattle.hp_air.specs.Kept.{are_below, is_near}
use Rattle.hp_air.specs.Meaning as air
use Rattle.hp_air.specs.Meaning.{looped, sight_at}
use Rattle.hp_air.specs.Wholes as wholes
use Rattle.hp_air.specs.Wholes.{Vector, cells, changed_all, lists_at, with_slots}
use Rattle.hp_parfor.specs.declared.parfor.Halo.{Halo}
use Rattle.hp_parfor.specs.declared.parfor.Parfor.{Parfor}
use Rattle.hp_parfor.specs.KeptParts.{lets_fit}
use Rattle.hp_parfor.specs.LoopMeaning.{loop_does, loop_made, loop_rows, needs_some, places_of}
use Rattle.hp_parfor.specs.Parts.{loop_words, loop_writes}
use Rattle.hp_snippet.specs.Moves.{changed, silently}
use Rattle.hp_snippet.specs.Outcomes.{After, after_both, one_after}
use Rattle.hp_snippet.specs.Promises.{AreOnce, IsNoneOf}
use Rattle.hp_snippet.proofs.MoveWholes.{changed_other}
use Rattle.hp_alone.specs.Looking.{lengths_in, unless_trap}
use Rattle.hp_alone.specs.OwnLoops.{made_whole, whole_row, whole_rows, whole_sight}
use Rattle.hp_lowering.specs.Room.{Room, room_of}
use Rattle.hp_lowering.specs.Standing.{IsOf}
use Rattle.hp_lowering.proofs.ArraysHeld.{cells_held}
use Rattle.hp_lowering.proofs.Carrying.{DoesAs}
use Rattle.hp_lowering.proofs.CarriesWords.{value_is}
use Rattle.hp_lowering.proofs.SightsAlike.{SeeAlike, same_lets, same_rows}
use Rattle.hp_lowering.proofs.SlotsWritten.{AreHeld, slots_written}

-- ---- rows

-- as many rows as places, where there is no trap
abbrev pub HasRows : ℕ → Result (List (List ℤ)) Trap → Type 0
HasRows n (Ok rows) = length rows ≡ n
HasRows n (Err t) = Unit {0}

one_row_more : (n : ℕ) (all : Result (List (List ℤ)) Trap) (one : Result (List ℤ) Trap) → HasRows n all → HasRows (suc n) (and_then all (λ before. and_then one (λ r. Ok (before ++ r ∷ []))))
one_row_more n (Err t) one h = tt
one_row_more n (Ok before) (Err t) h = tt
one_row_more n (Ok before) (Ok r) h = let long = length-append before (r ∷ []) in omega (arith, long, h)

pub rows_count : (row : ℕ → Result (List ℤ) Trap) (n : ℕ) → HasRows n (rows_below row n)
rows_count row zero = refl
rows_count row (suc n) = one_row_more n (rows_below row n) (row n) (rows_count row n)

-- as many rows of a program's loop as places
pub rows_long : (p : Parfor) (e : wholes.Env) (n : ℕ) → HasRows n (loop_rows p e n)
unfolding loop_rows looped
rows_long p e n = rows_count (λ i. lets_after (sight_at e.words (lists_at e p.inputs) (lists_at e (map (λ (h : Halo). h.array) p.halos)) i) [] p.lets) n

-- ---- what is seen

near_place : (k : ℕ) (reaches : List ℕ) (by : ℤ) → is_near by (slice_get reaches k) ≡ true → k < length reaches
near_place k [] by h = absurd (false≢true h)
near_place zero (x ∷ xs) by h = omega arith
near_place (suc k) (x ∷ xs) by h = let lt = near_place k xs by h in omega (arith, lt)

module _ (slots : List Slot) (words : ℕ) (p : Parfor) (l : Loop) (around : List ℕ) (e : wholes.Env) (f : layout.Env) (is : IsOf (room_of slots words) e f) (lets : l.lets ≡ p.lets) (rounds : around ≡ map (λ (h : Halo). h.array) p.halos)
    (inputs_there : (k : ℕ) → k < length p.inputs → (f.arrays (slice_index l.inputs k)).cells ≡ cells (e.slots (slice_index p.inputs k))) (halos_there : (k : ℕ) → k < length p.halos → slice_index around k < length slots)
    (fit : lets_fit words (length p.inputs) (map (λ (h : Halo). h.reach) p.halos) 0 p.lets ≡ true) where
  abbrev room : Room
  room = room_of slots words

  abbrev arrays_round : List ℕ
  arrays_round = map (λ (h : Halo). h.array) p.halos

  -- the elements of the array of this place in a list
  list_at : (ks : List ℕ) (k : ℕ) → k < length ks → column_at k (lists_at e ks) ≡ cells (e.slots (slice_index ks k))
  list_at ks k lt = get_or-map {X = ℕ} {Y = List ℤ} (λ j. cells (e.slots j)) ks k 0 [] lt

  see_alike : (i : ℕ) (seen : List ℤ) → SeeAlike words (length p.inputs) (map (λ (h : Halo). h.reach) p.halos) (whole_sight l around f i seen) (sight_at e.words (lists_at e p.inputs) (lists_at e arrays_round) i seen)
  see_alike i seen =
      record {
        word = λ w lt. value_is room w e f is lt;
        input = λ k lt. ap (λ (xs : List ℤ). word_at xs i) (inputs_there k lt ∙ sym (list_at p.inputs k lt));
        near = λ k by near.
            let long = near_place k (map (λ (h : Halo). h.reach) p.halos) by near in
            let reaches = length-map p.halos (λ (h : Halo). h.reach) in
            let lt : k < length p.halos = omega (arith, long, reaches) in
            let arrays = length-map p.halos (λ (h : Halo). h.array) in
            let there : k < length arrays_round = omega (arith, lt, arrays) in
            ap (λ (xs : List ℤ). cell_at xs (pos i +ℤ by)) (cells_held room (slice_index around k) e f is (halos_there k lt) ∙ ap (λ (ks : List ℕ). cells (e.slots (slice_index ks k))) rounds ∙ sym (list_at arrays_round k there));
        earlier = λ k. refl;
      }

  row_alike : (i : ℕ) → whole_row l around f i ≡ lets_after (sight_at e.words (lists_at e p.inputs) (lists_at e arrays_round) i) [] p.lets
  row_alike i =
      ap (lets_after (whole_sight l around f i) []) lets
      ∙ same_lets words (length p.inputs) (map (λ (h : Halo). h.reach) p.halos) 0 (whole_sight l around f i) (sight_at e.words (lists_at e p.inputs) (lists_at e arrays_round) i) [] p.lets (see_alike i) fit

  -- the rows of both are the same
  pub rows_alike : (f.arrays l.leader).cells ≡ cells (e.slots p.leader) → whole_rows l around f ≡ loop_rows p e (length (cells (e.slots p.leader)))
  unfolding loop_rows looped
  rows_alike led =
      ap (λ (xs : List ℤ). rows_below (whole_row l around f) (length xs)) led
      ∙ same_rows (whole_row l around f) (λ i. lets_after (sight_at e.words (lists_at e p.inputs) (lists_at e arrays_round) i) [] p.lets) (length (cells (e.slots p.leader))) (λ i lt. row_alike i)

-- ---- what is made

-- the words that are written have these values on all ranks
abbrev HaveWords : List ℤ → List (Option ℤ) → Type 0
HaveWords [] [] = Unit {0}
HaveWords [] (y ∷ ys) = ⊥
HaveWords (x ∷ xs) [] = ⊥
HaveWords (x ∷ xs) (y ∷ ys) = (y ≡ Some x) × HaveWords xs ys

word_written : (ks : List ℕ) (xs : List ℤ) (ys : List (Option ℤ)) (held : ℕ → ℤ) (g : ℕ → Option ℤ) (w : ℕ) → AreOnce ks → HaveWords xs ys → g w ≡ Some (held w) → changed ks ys g w ≡ Some (changed_all ks xs held w)
unfolding changed_all
word_written [] xs ys held g w once has h = h
word_written (k ∷ ks) [] [] held g w once has h = h
word_written (k ∷ ks) [] (y ∷ ys) held g w once has h = absurd has
word_written (k ∷ ks) (x ∷ xs) [] held g w once has h = absurd has
word_written (k ∷ ks) (x ∷ xs) (y ∷ ys) held g w once has h = elim (cases_eq w k) [
  | inl same ↦
      let a : eqb w k ≡ true = eq-eqb w k same in
      let none : IsNoneOf ks w = subst (IsNoneOf ks) (sym same) once.0 in
      changed_other {X = Option ℤ} ks ys (λ j. cond (eqb j k) y (g j)) w none ∙ ap (λ b. cond b y (g w)) a ∙ has.0 ∙ sym (ap (λ b. Some (cond b x (changed_all ks xs held w))) a)
  | inr other ↦
      let a : eqb w k ≡ false = ne_eqb w k other in
      word_written ks xs ys held (λ j. cond (eqb j k) y (g j)) w once.1 has.1 (ap (λ b. cond b y (g w)) a ∙ h) ∙ sym (ap (λ b. Some (cond b x (changed_all ks xs held w))) a)
]

columns_held : (room : Room) (rows : List (List ℤ)) (outs : List Out) → length rows ≤ longest → AreHeld room (map (λ (o : Out). o.array) outs) (map (λ (o : Out). Vector (column_of o.value rows)) outs) (map (λ (o : Out). layout.vector (column_of o.value rows)) outs)
columns_held room rows [] le = tt
columns_held room rows (o ∷ outs) le = (record { same = refl; short = subst (λ n. n ≤ longest) (sym (length-map rows (λ (row : List ℤ). word_at row o.value))) le; array = λ no. tt }, columns_held room rows outs le)

folds_held : (rows : List (List ℤ)) (folds : List Folding) → HaveWords (map (λ (g : Folding). fold_of g.kind (column_of g.value rows)) folds) (map (λ (g : Folding). Some (fold_of g.kind (column_of g.value rows))) folds)
folds_held rows [] = tt
folds_held rows (g ∷ folds) = (refl, folds_held rows folds)

-- the outs and the words of the folds
pub made_alike : (room : Room) (p : Parfor) (l : Loop) (rows : List (List ℤ)) (e : wholes.Env) (f : layout.Env) → l.outs ≡ p.outs → l.folds ≡ p.folds → AreOnce (loop_writes p) → AreOnce (loop_words p) → length rows ≤ longest → IsOf room e f
    → IsOf room (loop_made p rows e) (made_whole l (λ g. Some (fold_of g.kind (column_of g.value rows))) rows f)
unfolding loop_made
made_alike room p l rows e f outs folds once words le is =
    let written = slots_written room (loop_writes p) (map (λ (o : Out). Vector (column_of o.value rows)) p.outs) (map (λ (o : Out). layout.vector (column_of o.value rows)) p.outs) e f once (columns_held room rows p.outs le) is in
    subst (λ (os : List Out). IsOf room (loop_made p rows e) (made_whole (record l { outs = os }) (λ g. Some (fold_of g.kind (column_of g.value rows))) rows f)) (sym outs)
    (subst (λ (gs : List Folding). IsOf room (loop_made p rows e) (made_whole (record l { outs = p.outs; folds = gs }) (λ g. Some (fold_of g.kind (column_of g.value rows))) rows f)) (sym folds)
    (record {
      slots = written.slots;
      words = λ w lt. word_written (loop_words p) (map (λ (g : Folding). fold_of g.kind (column_of g.value rows)) p.folds) (map (λ (g : Folding). Some (fold_of g.kind (column_of g.value rows))) p.folds) e.words f.words w words (folds_held rows p.folds) (is.words w lt);
      short = written.short;
      arrays = written.arrays;
    }))

-- ---- what is looked at

-- whether all arrays are as long as the first
same_lengths : (room : Room) (e : wholes.Env) (f : layout.Env) (long : ℕ) (ks : List ℕ) → IsOf room e f → are_below room.slots ks ≡ true → list_all (λ (xs : List ℤ). length xs == long) (lists_at e ks) ≡ list_all (λ m. m == long) (lengths_in f ks)
same_lengths room e f long [] is below = refl
same_lengths room e f long (k ∷ ks) is below =
    let both = and_parts (nat_lt k room.slots) (are_below room.slots ks) below in
    let held = sym (cells_held room k e f is (ltb-true k room.slots both.0)) in
    let rest = same_lengths room e f long ks is both.1 in
    λ i. (length (held i) == long) && rest i

-- what comes behind a look that passes
behind_look : (f : layout.Env) (r : Result (After layout.Env) Trap) → and_then r (λ b. Ok (after_both (record { env = f; text = [] }) b)) ≡ r
behind_look f (Ok b) = refl
behind_look f (Err t) = refl

-- the looks at the lengths and at whether there is a place, and what comes onward
abbrev pub looked_then : Parfor → (layout.Env → Result (After layout.Env) Trap) → layout.Env → Result (After layout.Env) Trap
looked_then p onward f =
    one_after (unless_trap (check_of check.Equal p.at (lengths_in f (p.leader ∷ p.inputs))) f)
    (λ g. cond (list_any (λ (h : Folding). needs_some h.kind) p.folds) (one_after (unless_trap (check_of check.Some p.at (lengths_in g (p.leader ∷ []))) g) onward) (onward g))

some_place : (k : ℕ) → nat_lt 0 k ≡ not (k == 0)
some_place zero = refl
some_place (suc k) = let more : 0 < suc k = omega arith in lt-ltb 0 (suc k) more ∙ sym (ap not (ne_eqb (suc k) 0 (λ e. omega (arith, e))))

second_look : (room : Room) (at : Place) (e : wholes.Env) (f : layout.Env) (onward : layout.Env → Result (After layout.Env) Trap) (made : ℕ → Result (Effect wholes.Env) Trap) (some : Bool) (long : ℕ) (none : Bool) → DoesAs room e (made long) (onward f)
    → DoesAs room e (and_then (cond (none && some) (Err (trap at Empty)) (Ok long)) made)
    (and_then (cond some (one_after (unless_trap (cond (not none) None (Some (trap at Empty))) f) onward) (onward f)) (λ b. Ok (after_both (record { env = f; text = [] }) b)))
second_look room at e f onward made true long true does = refl
second_look room at e f onward made false long true does = subst (DoesAs room e (made long)) (sym (behind_look f (onward f))) does
second_look room at e f onward made true long false does =
    subst (DoesAs room e (made long)) (sym (ap (λ r. and_then r (λ b. Ok (after_both (record { env = f; text = [] }) b))) (behind_look f (onward f)) ∙ behind_look f (onward f))) does
second_look room at e f onward made false long false does = subst (DoesAs room e (made long)) (sym (behind_look f (onward f))) does

looked_cases : (room : Room) (at : Place) (e : wholes.Env) (f : layout.Env) (onward : layout.Env → Result (After layout.Env) Trap) (made : ℕ → Result (Effect wholes.Env) Trap) (level some : Bool) (long : ℕ) (count : layout.Env → ℕ) → count f ≡ long → DoesAs room e (made long) (onward f)
    → DoesAs room e (and_then (cond (not level) (Err (trap at Mismatch)) (cond ((long == 0) && some) (Err (trap at Empty)) (Ok long))) made)
    (one_after (unless_trap (cond level None (Some (trap at Mismatch))) f) (λ g. cond some (one_after (unless_trap (cond (nat_lt 0 (count g)) None (Some (trap at Empty))) g) onward) (onward g)))
looked_cases room at e f onward made false some long count same does = refl
looked_cases room at e f onward made true some long count same does =
    subst
    (λ (b : Bool). DoesAs room e (and_then (cond ((long == 0) && some) (Err (trap at Empty)) (Ok long)) made)
    (and_then (cond some (one_after (unless_trap (cond b None (Some (trap at Empty))) f) onward) (onward f)) (λ b. Ok (after_both (record { env = f; text = [] }) b))))
    (sym (ap (nat_lt 0) same ∙ some_place long)) (second_look room at e f onward made some long (long == 0) does)

-- where what comes behind the looks does what the loop does at its places, all of it does what the loop does
pub looks_alike : (room : Room) (p : Parfor) (e : wholes.Env) (f : layout.Env) (onward : layout.Env → Result (After layout.Env) Trap) → IsOf room e f → are_below room.slots (p.leader ∷ p.inputs) ≡ true
    → DoesAs room e (and_then (loop_rows p e (length (cells (e.slots p.leader)))) (λ rows. air.silent (loop_made p rows e))) (onward f) → DoesAs room e (loop_does p e) (looked_then p onward f)
unfolding loop_does places_of
looks_alike room p e f onward is below does =
    let both = and_parts (nat_lt p.leader room.slots) (are_below room.slots p.inputs) below in
    let long = length (cells (e.slots p.leader)) in
    let made = λ (places : ℕ). and_then (loop_rows p e places) (λ rows. air.silent (loop_made p rows e)) in
    let some = list_any (λ (h : Folding). needs_some h.kind) p.folds in
    let level = list_all (λ (xs : List ℤ). length xs == long) (lists_at e p.inputs) in
    let led = cells_held room p.leader e f is (ltb-true p.leader room.slots both.0) in
    let same : level ≡ list_all (λ m. m == length (f.arrays p.leader).cells) (lengths_in f p.inputs) = same_lengths room e f long p.inputs is both.1 ∙ ap (λ (xs : List ℤ). list_all (λ m. m == length xs) (lengths_in f p.inputs)) (sym led) in
    let count = λ (g : layout.Env). length (g.arrays p.leader).cells in
    subst
    (λ (b : Bool). DoesAs room e (loop_does p e) (one_after (unless_trap (cond b None (Some (trap p.at Mismatch))) f) (λ g. cond some (one_after (unless_trap (cond (nat_lt 0 (count g)) None (Some (trap p.at Empty))) g) onward) (onward g))))
    same (looked_cases room p.at e f onward made level some long count (ap (λ (xs : List ℤ). length xs) led) does)

-- ---- a loop over whole arrays

pub whole_cases : (room : Room) (p : Parfor) (l : Loop) (e : wholes.Env) (f : layout.Env) (n : ℕ) (r : Result (List (List ℤ)) Trap) → HasRows n r → n ≤ longest → l.outs ≡ p.outs → l.folds ≡ p.folds → AreOnce (loop_writes p) → AreOnce (loop_words p) → IsOf room e f
    → DoesAs room e (and_then r (λ rows. air.silent (loop_made p rows e))) (and_then r (λ rows. silently (made_whole l (λ g. Some (fold_of g.kind (column_of g.value rows))) rows f)))
unfolding loop_made
whole_cases room p l e f n (Err t) count le outs folds once words is = refl
whole_cases room p l e f n (Ok rows) count le outs folds once words is =
    record { text = refl; is = made_alike room p l rows e f outs folds once words (subst (λ m. m ≤ longest) (sym count) le) is; executed = refl; bad = refl }
