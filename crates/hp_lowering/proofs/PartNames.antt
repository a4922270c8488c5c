-- What the code of each step names is there, where what the step names is there.
use Rattle.std.proofs.Common.{◌≡◌, refl, sym, subst, ap, arith, cond, Bool, true, false, ℕ, zero, suc, ◌+◌, ◌≤◌, List, [], ◌∷◌, ◌++◌, append-nil, length, map, slice_get}
use Rattle.std.specs.Prelude.{◌&&◌, nat_lt}
use Rattle.std.specs.List.{list_all, list_any}
use mathlib.Core.Former.{Count}
use Rattle.std.proofs.lemmas.Bool.{and_parts, false≢true, ltb-true}
use Rattle.std.proofs.lemmas.List.{length-map}
use Rattle.hp_word.specs.declared.elem.Elem.{Elem}
use Rattle.hp_word.specs.declared.elem.Elem.TheVariants.{Number, Word, Input, Near, Earlier, Calc', Both', Either'}
use Rattle.hp_word.specs.declared.elem.Elem.TheBlock.{Row_of-Elem, end_of-Elem, more_of-Elem}
use Rattle.hp_word.specs.declared.fold.FoldKind.{FoldKind}
use Rattle.hp_word.specs.declared.place.Place.{Place}
use Rattle.hp_lattice.specs.declared.dist.Dist.{Dist}
use Rattle.hp_spmd.specs.declared.instr.CheckRule.TheVariants.{Equal, Some as SomePlace}
use Rattle.hp_spmd.specs.declared.instr.Folding.{Folding}
use Rattle.hp_spmd.specs.declared.instr.HaloFrom.{HaloFrom}
use Rattle.hp_spmd.specs.declared.instr.HaloFrom.TheVariants as halo_from
use Rattle.hp_spmd.specs.declared.instr.Instr.{Instr}
use Rattle.hp_spmd.specs.declared.instr.Instr.TheVariants as instr
use Rattle.hp_spmd.specs.declared.instr.Need.TheVariants.{Like}
use Rattle.hp_spmd.specs.declared.instr.Out.{Out}
use Rattle.hp_spmd.specs.Names.{elem_within, halo_within, instr_within, lets_within, names_within, row_within}
use Rattle.hp_air.specs.declared.slot.Slot.{Slot}
use Rattle.hp_air.specs.declared.what.What.{What}
use Rattle.hp_air.specs.declared.what.What.TheVariants as what
use Rattle.hp_air.specs.Arrays.{arrays_of, outs, sides}
use Rattle.hp_air.specs.Kept.{are_below, are_distinct, elem_fits, has_elem, has_frames, has_lists, has_matrices, is_apart, is_frame, is_near, is_within, none_matrix, part_fits, slots_in, words_in}
use Rattle.hp_parfor.specs.declared.parfor.Halo.{Halo}
use Rattle.hp_parfor.specs.declared.parfor.Parfor.{Parfor}
use Rattle.hp_parfor.specs.KeptParts.{is_part_kept, is_whole, lets_fit, loop_values, names_loop}
use Rattle.hp_parfor.specs.LoopMeaning.{is_moved, is_replicated, needs_some}
use Rattle.hp_parfor.specs.Parts.{Part, Does, Loops, loop_reads, loop_words, loop_writes}
use Rattle.hp_parfor.specs.Talk.{Pack, dealt}
use Rattle.hp_coll.specs.Reducing.{named_folds}
use Rattle.hp_exchange.specs.Halos.{halo_code}
use Rattle.hp_exchange.specs.Ranges.{move_code}
use Rattle.hp_lowering.specs.PartCode.{checks, copied_or_dealt, folds_over, halo_moves, halos_at, input_moves, inputs_at, loop_code, loop_instr, part_code, whole_code, whole_halos}
use Rattle.hp_lowering.specs.Room.{Room, loose_in, loose_of, spare, spares_of}
use Rattle.hp_lowering.proofs.CodeNames.{all_join, both_true, less_true}

-- ---- lists of numbers

wider : (k m n : ℕ) → m ≤ n → nat_lt k m ≡ true → nat_lt k n ≡ true
wider k m n le h = let lt = ltb-true k m h in less_true k n (omega (arith, lt, le))

below_wider : (m n : ℕ) (ks : List ℕ) → m ≤ n → are_below m ks ≡ true → are_below n ks ≡ true
below_wider m n [] le h = refl
below_wider m n (k ∷ ks) le h =
    let parts = and_parts (nat_lt k m) (are_below m ks) h in
    both_true (nat_lt k n) (are_below n ks) (wider k m n le parts.0) (below_wider m n ks le parts.1)

below_front : (n : ℕ) (xs ys : List ℕ) → are_below n (xs ++ ys) ≡ true → are_below n xs ≡ true
below_front n [] ys h = refl
below_front n (x ∷ xs) ys h =
    let parts = and_parts (nat_lt x n) (are_below n (xs ++ ys)) h in
    both_true (nat_lt x n) (are_below n xs) parts.0 (below_front n xs ys parts.1)

below_back : (n : ℕ) (xs ys : List ℕ) → are_below n (xs ++ ys) ≡ true → are_below n ys ≡ true
below_back n [] ys h = h
below_back n (x ∷ xs) ys h = below_back n xs ys (and_parts (nat_lt x n) (are_below n (xs ++ ys)) h).1

-- ---- elements

near_there : (k : ℕ) (xs : List ℕ) (by : _) → is_near by (slice_get xs k) ≡ true → nat_lt k (length xs) ≡ true
near_there k [] by h = absurd (false≢true h)
near_there zero (x ∷ xs) by h = less_true 0 (length (x ∷ xs)) (omega arith)
near_there (suc k) (x ∷ xs) by h = let lt = ltb-true k (length xs) (near_there k xs by h) in less_true (suc k) (length (x ∷ xs)) (omega (arith, lt))

mutual
  unfolding elem_fits

  elem_named : (words more inputs : ℕ) (reaches : List ℕ) (lets : ℕ) (e : Elem) → words ≤ more → elem_fits words inputs reaches lets e ≡ true → elem_within more inputs (length reaches) lets e ≡ true
  elem_named words more inputs reaches lets (Number n) le h = refl
  elem_named words more inputs reaches lets (Word w) le h = wider w words more le h
  elem_named words more inputs reaches lets (Input k) le h = h
  elem_named words more inputs reaches lets (Near k by) le h = near_there k reaches by h
  elem_named words more inputs reaches lets (Earlier k) le h = h
  elem_named words more inputs reaches lets (Calc' op at p a q b) le h =
      let parts = and_parts (part_fits words inputs reaches lets a) (part_fits words inputs reaches lets b) h in
      both_true (row_within more inputs (length reaches) lets a) (row_within more inputs (length reaches) lets b) (part_named words more inputs reaches lets a le parts.0) (part_named words more inputs reaches lets b le parts.1)
  elem_named words more inputs reaches lets (Both' p a q b) le h =
      let parts = and_parts (part_fits words inputs reaches lets a) (part_fits words inputs reaches lets b) h in
      both_true (row_within more inputs (length reaches) lets a) (row_within more inputs (length reaches) lets b) (part_named words more inputs reaches lets a le parts.0) (part_named words more inputs reaches lets b le parts.1)
  elem_named words more inputs reaches lets (Either' p a q b) le h =
      let parts = and_parts (part_fits words inputs reaches lets a) (part_fits words inputs reaches lets b) h in
      both_true (row_within more inputs (length reaches) lets a) (row_within more inputs (length reaches) lets b) (part_named words more inputs reaches lets a le parts.0) (part_named words more inputs reaches lets b le parts.1)

  part_named : {n : Count} (words more inputs : ℕ) (reaches : List ℕ) (lets : ℕ) (row : Row_of-Elem n) → words ≤ more → part_fits words inputs reaches lets row ≡ true → row_within more inputs (length reaches) lets row ≡ true
  part_named words more inputs reaches lets end_of-Elem le h = refl
  part_named words more inputs reaches lets (more_of-Elem e rest) le h =
      let parts = and_parts (part_fits words inputs reaches lets rest) (elem_fits words inputs reaches lets e) h in
      both_true (elem_within more inputs (length reaches) lets e) (row_within more inputs (length reaches) lets rest) (elem_named words more inputs reaches lets e le parts.1) (part_named words more inputs reaches lets rest le parts.0)

lets_named : (words more inputs : ℕ) (reaches : List ℕ) (before : ℕ) (es : List Elem) → words ≤ more → lets_fit words inputs reaches before es ≡ true → lets_within more inputs (length reaches) before es ≡ true
lets_named words more inputs reaches before [] le h = refl
lets_named words more inputs reaches before (e ∷ es) le h =
    let parts = and_parts (elem_fits words inputs reaches before e) (lets_fit words inputs reaches (before + 1) es) h in
    let one : before + 1 ≡ suc before = omega arith in
    both_true (elem_within more inputs (length reaches) before e) (lets_within more inputs (length reaches) (suc before) es) (elem_named words more inputs reaches before e le parts.0)
    (subst (λ n. lets_within more inputs (length reaches) n es ≡ true) one (lets_named words more inputs reaches (before + 1) es le parts.1))

-- ---- operations on whole arrays

one_below : (n x : ℕ) (xs : List ℕ) → are_below n (x ∷ xs) ≡ true → nat_lt x n ≡ true
one_below n x xs h = (and_parts (nat_lt x n) (are_below n xs) h).0

rest_below : (n x : ℕ) (xs : List ℕ) → are_below n (x ∷ xs) ≡ true → are_below n xs ≡ true
rest_below n x xs h = (and_parts (nat_lt x n) (are_below n xs) h).1

copied_named : (words arrays loose : ℕ) (ps : List Pack) (os ins : List ℕ) → are_below arrays os ≡ true → are_below arrays ins ≡ true → names_within words arrays loose (copied_or_dealt ps os ins) ≡ true
copied_named words arrays loose [] os ins h k = rw (h, k) refl
copied_named words arrays loose (p ∷ ps) os ins h k = rw (h, k) refl

-- what an operation names is there: its words, and its arrays
abbrev WordsThere : (words : ℕ) → What → Type 0
WordsThere words w = are_below words (words_in w) ≡ true

abbrev ArraysThere : (arrays : ℕ) → What → Type 0
ArraysThere arrays w = are_below arrays (slots_in w) ≡ true

whole_named : (room : Room) (slots : List Slot) (d : ℕ → Dist) (words arrays loose : ℕ) (alone : Bool) (at : Place) (w : What) → room.words + 2 ≤ words → loose_in w ≤ loose → WordsThere words w → ArraysThere arrays w
    → names_within words arrays loose (whole_code room slots d alone at w) ≡ true
unfolding whole_code arrays_of outs sides
whole_named room slots d words arrays loose alone at (what.Const to value) own few ws xs = rw (one_below words to [] ws) refl
whole_named room slots d words arrays loose alone at (what.Calc to op left right) own few ws xs =
    let rest = rest_below words to (left ∷ right ∷ []) ws in
    rw (one_below words to (left ∷ right ∷ []) ws, one_below words left (right ∷ []) rest, one_below words right [] (rest_below words left (right ∷ []) rest)) refl
whole_named room slots d words arrays loose alone at (what.Length to array) own few ws xs = rw (one_below words to [] ws, one_below arrays array [] xs) refl
whole_named room slots d words arrays loose alone at (what.Fill out value count) own few ws xs =
    rw (one_below arrays out [] xs, one_below words value (count ∷ []) ws, one_below words count [] (rest_below words value (count ∷ []) ws)) refl
whole_named room slots d words arrays loose alone at (what.Range out first last) own few ws xs =
    rw (one_below arrays out [] xs, one_below words first (last ∷ []) ws, one_below words last [] (rest_below words first (last ∷ []) ws)) refl
whole_named room slots d words arrays loose alone at (what.Copy os ins) own few ws xs =
    copied_named words arrays loose (cond alone [] (dealt slots d os ins)) os ins (below_front arrays os (ins ++ []) xs) (subst (λ l. are_below arrays l ≡ true) (append-nil ins) (below_back arrays os (ins ++ []) xs))
whole_named room slots d words arrays loose true at (what.Scan out array) own few ws xs =
    let start : nat_lt (suc room.words) words ≡ true = less_true (suc room.words) words (omega (arith, own)) in
    let part : nat_lt room.words words ≡ true = less_true room.words words (omega (arith, own)) in
    rw (start, part, one_below arrays out (array ∷ []) xs, one_below arrays array [] (rest_below arrays out (array ∷ []) xs)) refl
whole_named room slots d words arrays loose false at (what.Scan out array) own few ws xs =
    let start : nat_lt (suc room.words) words ≡ true = less_true (suc room.words) words (omega (arith, own)) in
    let part : nat_lt room.words words ≡ true = less_true room.words words (omega (arith, own)) in
    rw (start, part, one_below arrays out (array ∷ []) xs, one_below arrays array [] (rest_below arrays out (array ∷ []) xs)) refl
whole_named room slots d words arrays loose true at (what.Concat out left right) own few ws xs =
    let rest = rest_below arrays out (left ∷ right ∷ []) xs in
    rw (one_below arrays out (left ∷ right ∷ []) xs, one_below arrays left (right ∷ []) rest, one_below arrays right [] (rest_below arrays left (right ∷ []) rest)) refl
whole_named room slots d words arrays loose false at (what.Concat out left right) own few ws xs =
    let rest = rest_below arrays out (left ∷ right ∷ []) xs in
    let some : nat_lt 0 loose ≡ true = less_true 0 loose (omega (arith, few)) in
    rw (some, one_below arrays out (left ∷ right ∷ []) xs, one_below arrays left (right ∷ []) rest, one_below arrays right [] (rest_below arrays left (right ∷ []) rest)) refl
whole_named room slots d words arrays loose alone at (what.At to array index) own few ws xs =
    rw (one_below words to (index ∷ []) ws, one_below arrays array [] xs, one_below words index [] (rest_below words to (index ∷ []) ws)) refl
whole_named room slots d words arrays loose alone at (what.Pick out array index) own few ws xs =
    let rest = rest_below arrays out (array ∷ index ∷ []) xs in
    rw (one_below arrays out (array ∷ index ∷ []) xs, one_below arrays array (index ∷ []) rest, one_below arrays index [] (rest_below arrays array (index ∷ []) rest)) refl
whole_named room slots d words arrays loose alone at (what.PrintWord word truth) own few ws xs = rw (one_below words word [] ws) refl
whole_named room slots d words arrays loose alone at (what.PrintList array truth) own few ws xs = rw (one_below arrays array [] xs) refl
whole_named room slots d words arrays loose alone at _ own few ws xs = refl

-- ---- loops

names_both : (words arrays loose : ℕ) (xs ys : List Instr) → names_within words arrays loose xs ≡ true → names_within words arrays loose ys ≡ true → names_within words arrays loose (xs ++ ys) ≡ true
names_both words arrays loose xs ys h k = all_join {X = Instr} (instr_within words arrays loose) xs ys h k

checks_named : (words arrays loose : ℕ) (p : Parfor) → are_below arrays (p.leader ∷ p.inputs) ≡ true → names_within words arrays loose (checks p) ≡ true
checks_named words arrays loose p h = by_case (list_any (λ (f : Folding). needs_some f.kind) p.folds) (one_below arrays p.leader p.inputs h) (rest_below arrays p.leader p.inputs h)
  where
    by_case : (b : Bool) → nat_lt p.leader arrays ≡ true → are_below arrays p.inputs ≡ true → names_within words arrays loose (instr.Check (p.leader ∷ p.inputs) Equal p.at ∷ cond b (instr.Check (p.leader ∷ []) SomePlace p.at ∷ []) []) ≡ true
    by_case true l i = rw (l, i) refl
    by_case false l i = rw (l, i) refl

move_named : (words arrays loose to x leader : ℕ) (b : Bool) → nat_lt to arrays ≡ true → nat_lt x arrays ≡ true → nat_lt leader arrays ≡ true → names_within words arrays loose (cond b (move_code (to ∷ []) (x ∷ []) (Like leader)) []) ≡ true
move_named words arrays loose to x leader true t h l = rw (t, h, l) refl
move_named words arrays loose to x leader false t h l = refl

-- the i-th spare array and those behind it, as many as inputs
spare_there : (room : Room) (arrays i n : ℕ) → room.slots + (i + suc n) ≤ arrays → nat_lt (spare room i) arrays ≡ true
spare_there room arrays i n le = less_true (spare room i) arrays (omega (arith, le))

moves_named : (room : Room) (d : ℕ → Dist) (words arrays loose leader i : ℕ) (xs : List ℕ) → room.slots + (i + length xs) ≤ arrays → nat_lt leader arrays ≡ true → are_below arrays xs ≡ true → names_within words arrays loose (input_moves room d leader i xs) ≡ true
moves_named room d words arrays loose leader i [] le l h = refl
moves_named room d words arrays loose leader i (x ∷ xs) le l h =
    let on : room.slots + (suc i + length xs) ≤ arrays = omega (arith, le) in
    names_both words arrays loose (cond (is_moved d leader x) (move_code (spare room i ∷ []) (x ∷ []) (Like leader)) []) (input_moves room d leader (suc i) xs)
    (move_named words arrays loose (spare room i) x leader (is_moved d leader x) (spare_there room arrays i (length xs) le) (one_below arrays x xs h) l)
    (moves_named room d words arrays loose leader (suc i) xs on l (rest_below arrays x xs h))

input_there : (arrays to x : ℕ) (b : Bool) → nat_lt to arrays ≡ true → nat_lt x arrays ≡ true → nat_lt (cond b to x) arrays ≡ true
input_there arrays to x true t h = t
input_there arrays to x false t h = h

inputs_there : (room : Room) (d : ℕ → Dist) (arrays leader i : ℕ) (xs : List ℕ) → room.slots + (i + length xs) ≤ arrays → are_below arrays xs ≡ true → are_below arrays (inputs_at room d leader i xs) ≡ true
inputs_there room d arrays leader i [] le h = refl
inputs_there room d arrays leader i (x ∷ xs) le h =
    let on : room.slots + (suc i + length xs) ≤ arrays = omega (arith, le) in
    both_true (nat_lt (cond (is_moved d leader x) (spare room i) x) arrays) (are_below arrays (inputs_at room d leader (suc i) xs))
    (input_there arrays (spare room i) x (is_moved d leader x) (spare_there room arrays i (length xs) le) (one_below arrays x xs h))
    (inputs_there room d arrays leader (suc i) xs on (rest_below arrays x xs h))

inputs_count : (room : Room) (d : ℕ → Dist) (leader i : ℕ) (xs : List ℕ) → length (inputs_at room d leader i xs) ≡ length xs
inputs_count room d leader i [] = refl
inputs_count room d leader i (x ∷ xs) = ap suc (inputs_count room d leader (suc i) xs)

abbrev halo_arrays : List Halo → List ℕ
halo_arrays hs = map (λ (h : Halo). h.array) hs

halos_named : (words arrays loose i : ℕ) (hs : List Halo) → i + length hs ≤ loose → are_below arrays (halo_arrays hs) ≡ true → names_within words arrays loose (halo_moves i hs) ≡ true
halos_named words arrays loose i [] le h = refl
halos_named words arrays loose i (x ∷ hs) le h =
    let on : suc i + length hs ≤ loose = omega (arith, le) in
    let here : nat_lt i loose ≡ true = less_true i loose (omega (arith, le)) in
    names_both words arrays loose (halo_code x.array x.reach i) (halo_moves (suc i) hs) (rw (here, one_below arrays x.array (halo_arrays hs) h) refl) (halos_named words arrays loose (suc i) hs on (rest_below arrays x.array (halo_arrays hs) h))

halos_there : (arrays loose i : ℕ) (hs : List Halo) → i + length hs ≤ loose → list_all (halo_within arrays loose) (halos_at i hs) ≡ true
halos_there arrays loose i [] le = refl
halos_there arrays loose i (x ∷ hs) le =
    let on : suc i + length hs ≤ loose = omega (arith, le) in
    both_true (nat_lt i loose) (list_all (halo_within arrays loose) (halos_at (suc i) hs)) (less_true i loose (omega (arith, le))) (halos_there arrays loose (suc i) hs on)

wholes_there : (arrays loose : ℕ) (hs : List Halo) → are_below arrays (halo_arrays hs) ≡ true → list_all (halo_within arrays loose) (whole_halos hs) ≡ true
wholes_there arrays loose [] h = refl
wholes_there arrays loose (x ∷ hs) h =
    both_true (nat_lt x.array arrays) (list_all (halo_within arrays loose) (whole_halos hs)) (one_below arrays x.array (halo_arrays hs) h) (wholes_there arrays loose hs (rest_below arrays x.array (halo_arrays hs) h))

halos_count : (i : ℕ) (hs : List Halo) → length (halos_at i hs) ≡ length hs
halos_count i [] = refl
halos_count i (x ∷ hs) = ap suc (halos_count (suc i) hs)

outs_there : (arrays lets : ℕ) (os : List Out) → are_below arrays (map (λ (o : Out). o.array) os) ≡ true → are_below lets (map (λ (o : Out). o.value) os) ≡ true → list_all (λ (o : Out). nat_lt o.array arrays && nat_lt o.value lets) os ≡ true
outs_there arrays lets [] h k = refl
outs_there arrays lets (o ∷ os) h k =
    let xs = map (λ (o : Out). o.array) os in
    let vs = map (λ (o : Out). o.value) os in
    both_true (nat_lt o.array arrays && nat_lt o.value lets) (list_all (λ (o : Out). nat_lt o.array arrays && nat_lt o.value lets) os)
    (both_true (nat_lt o.array arrays) (nat_lt o.value lets) (one_below arrays o.array xs h) (one_below lets o.value vs k))
    (outs_there arrays lets os (rest_below arrays o.array xs h) (rest_below lets o.value vs k))

folds_there : (words lets : ℕ) (fs : List Folding) → are_below words (map (λ (f : Folding). f.word) fs) ≡ true → are_below lets (map (λ (f : Folding). f.value) fs) ≡ true → list_all (λ (f : Folding). nat_lt f.word words && nat_lt f.value lets) fs ≡ true
folds_there words lets [] h k = refl
folds_there words lets (f ∷ fs) h k =
    let ws = map (λ (f : Folding). f.word) fs in
    let vs = map (λ (f : Folding). f.value) fs in
    both_true (nat_lt f.word words && nat_lt f.value lets) (list_all (λ (f : Folding). nat_lt f.word words && nat_lt f.value lets) fs)
    (both_true (nat_lt f.word words) (nat_lt f.value lets) (one_below words f.word ws h) (one_below lets f.value vs k))
    (folds_there words lets fs (rest_below words f.word ws h) (rest_below lets f.value vs k))

named_words : (words : ℕ) (fs : List Folding) → are_below words (map (λ (f : Folding). f.word) fs) ≡ true → list_all (λ (f : ℕ × FoldKind). nat_lt f.0 words) (named_folds fs) ≡ true
named_words words [] h = refl
named_words words (f ∷ fs) h =
    let ws = map (λ (f : Folding). f.word) fs in
    both_true (nat_lt f.word words) (list_all (λ (f : ℕ × FoldKind). nat_lt f.0 words) (named_folds fs)) (one_below words f.word ws h) (named_words words fs (rest_below words f.word ws h))

reduced_named : (words arrays loose : ℕ) (fs : List Folding) → are_below words (map (λ (f : Folding). f.word) fs) ≡ true → names_within words arrays loose (folds_over fs) ≡ true
reduced_named words arrays loose [] h = refl
reduced_named words arrays loose (f ∷ fs) h = rw (h, named_words words (f ∷ fs) h) refl

-- what is known of a loop whose names are there
record LoopThere (words more arrays : ℕ) (p : Parfor) : Type 0 where
  leader : nat_lt p.leader arrays ≡ true
  inputs : are_below arrays p.inputs ≡ true
  halos : are_below arrays (halo_arrays p.halos) ≡ true
  outs : list_all (λ (o : Out). nat_lt o.array arrays && nat_lt o.value (length p.lets)) p.outs ≡ true
  folds : list_all (λ (f : Folding). nat_lt f.word more && nat_lt f.value (length p.lets)) p.folds ≡ true
  words_are : are_below more (loop_words p) ≡ true
  lets : lets_within more (length p.inputs) (length p.halos) 0 p.lets ≡ true

loop_there : (slots : List Slot) (words more arrays : ℕ) (p : Parfor) → words ≤ more → length slots ≤ arrays → names_loop slots words p ≡ true → LoopThere words more arrays p
loop_there slots words more arrays p le les h =
    let n = length slots in
    let A = are_below n (loop_writes p ++ loop_reads p) in
    let B = are_below words (loop_words p) in
    let C = are_below (length p.lets) (loop_values p) in
    let D = lets_fit words (length p.inputs) (map (λ (h : Halo). h.reach) p.halos) 0 p.lets in
    let abc = and_parts ((A && B) && C) D h in
    let ab = and_parts (A && B) C abc.0 in
    let parts = and_parts A B ab.0 in
    let writes = below_wider n arrays (loop_writes p) les (below_front n (loop_writes p) (loop_reads p) parts.0) in
    let reads = below_wider n arrays (loop_reads p) les (below_back n (loop_writes p) (loop_reads p) parts.0) in
    let front = below_front arrays (p.leader ∷ p.inputs) (halo_arrays p.halos) reads in
    let ws = below_wider words more (loop_words p) le parts.1 in
    let out_values = map (λ (o : Out). o.value) p.outs in
    let fold_values = map (λ (f : Folding). f.value) p.folds in
    record {
      leader = one_below arrays p.leader p.inputs front;
      inputs = rest_below arrays p.leader p.inputs front;
      halos = below_back arrays (p.leader ∷ p.inputs) (halo_arrays p.halos) reads;
      outs = outs_there arrays (length p.lets) p.outs writes (below_front (length p.lets) out_values fold_values ab.1);
      folds = folds_there more (length p.lets) p.folds ws (below_back (length p.lets) out_values fold_values ab.1);
      words_are = ws;
      lets = subst (λ m. lets_within more (length p.inputs) m 0 p.lets ≡ true) (length-map p.halos (λ (h : Halo). h.reach)) (lets_named words more (length p.inputs) (map (λ (h : Halo). h.reach) p.halos) 0 p.lets le abc.1);
    }

instr_named : (words more arrays loose : ℕ) (p : Parfor) (inputs : List ℕ) (halos : List HaloFrom) → LoopThere words more arrays p → are_below arrays inputs ≡ true → list_all (halo_within arrays loose) halos ≡ true → length inputs ≡ length p.inputs → length halos ≡ length p.halos
    → instr_within more arrays loose (loop_instr inputs halos p) ≡ true
instr_named words more arrays loose p inputs halos h i a count count2 =
    let lets : lets_within more (length inputs) (length halos) 0 p.lets ≡ true = subst (λ m. lets_within more m (length halos) 0 p.lets ≡ true) (sym count) (subst (λ m. lets_within more (length p.inputs) m 0 p.lets ≡ true) (sym count2) h.lets) in
    rw (h.leader, i, a, lets, h.outs, h.folds) refl

loop_named : (room : Room) (slots : List Slot) (d : ℕ → Dist) (words arrays loose : ℕ) (p : Parfor) → LoopThere room.words words arrays p → room.slots + length p.inputs ≤ arrays → length p.halos ≤ loose → names_within words arrays loose (loop_code room d p) ≡ true
unfolding loop_code
loop_named room slots d words arrays loose p h few few2 = by_case (is_replicated d (Loops p))
  where
    by_case : (b : Bool)
        → names_within words arrays loose
        (cond b (checks p ++ (loop_instr p.inputs (whole_halos p.halos) p ∷ [])) (checks p ++ (input_moves room d p.leader 0 p.inputs ++ (halo_moves 0 p.halos ++ (loop_instr (inputs_at room d p.leader 0 p.inputs) (halos_at 0 p.halos) p ∷ folds_over p.folds)))))
        ≡ true
    by_case true =
        names_both words arrays loose (checks p) (loop_instr p.inputs (whole_halos p.halos) p ∷ []) (checks_named words arrays loose p (both_true (nat_lt p.leader arrays) (are_below arrays p.inputs) h.leader h.inputs))
        (both_true (instr_within words arrays loose (loop_instr p.inputs (whole_halos p.halos) p)) true
        (instr_named room.words words arrays loose p p.inputs (whole_halos p.halos) h h.inputs (wholes_there arrays loose p.halos h.halos) refl (length-map p.halos (λ (x : Halo). halo_from.Whole x.array))) refl)
    by_case false =
        let moves = input_moves room d p.leader 0 p.inputs in
        let around = halo_moves 0 p.halos in
        let l = loop_instr (inputs_at room d p.leader 0 p.inputs) (halos_at 0 p.halos) p in
        let last = l ∷ folds_over p.folds in
        let enough : room.slots + (0 + length p.inputs) ≤ arrays = omega (arith, few) in
        let enough2 : 0 + length p.halos ≤ loose = omega (arith, few2) in
        names_both words arrays loose (checks p) (moves ++ (around ++ last)) (checks_named words arrays loose p (both_true (nat_lt p.leader arrays) (are_below arrays p.inputs) h.leader h.inputs))
        (names_both words arrays loose moves (around ++ last) (moves_named room d words arrays loose p.leader 0 p.inputs enough h.leader h.inputs)
        (names_both words arrays loose around last (halos_named words arrays loose 0 p.halos enough2 h.halos)
        (both_true (instr_within words arrays loose l) (names_within words arrays loose (folds_over p.folds))
        (instr_named room.words words arrays loose p (inputs_at room d p.leader 0 p.inputs) (halos_at 0 p.halos) h (inputs_there room d arrays p.leader 0 p.inputs enough h.inputs) (halos_there arrays loose 0 p.halos enough2) (inputs_count room d p.leader 0 p.inputs) (halos_count 0 p.halos))
        (reduced_named words arrays loose p.folds h.words_are))))

-- ---- steps

pub part_named_there : (room : Room) (slots : List Slot) (d : ℕ → Dist) (arrays loose : ℕ) (part : Part) → room.slots ≡ length slots → room.slots + spares_of part ≤ arrays → loose_of part ≤ loose → is_part_kept slots room.words part ≡ true
    → names_within (room.words + 2) arrays loose (part_code room slots d part) ≡ true
unfolding part_code
part_named_there room slots d arrays loose (Does op) same few few2 kept =
    let w = op.what in
    let A = is_whole w in
    let B = is_within slots room.words w in
    let C = has_lists w in
    let D = is_apart (arrays_of w) in
    let E = has_frames slots (arrays_of w) in
    let F = has_matrices slots (arrays_of w) in
    let five = (and_parts ((((A && B) && C) && D) && E) F kept).0 in
    let four = (and_parts (((A && B) && C) && D) E five).0 in
    let three = (and_parts ((A && B) && C) D four).0 in
    let two_first = (and_parts (A && B) C three).0 in
    let within = (and_parts A B two_first).1 in
    let first = (and_parts (are_below (length slots) (slots_in w) && are_below room.words (words_in w)) (has_elem room.words w) within).0 in
    let names = and_parts (are_below (length slots) (slots_in w)) (are_below room.words (words_in w)) first in
    let least : room.words + 2 ≤ room.words + 2 = omega arith in
    let more : room.words ≤ room.words + 2 = omega arith in
    let enough : length slots ≤ arrays = omega (arith, same, few) in
    whole_named room slots d (room.words + 2) arrays loose (is_replicated d (Does op)) op.at w least few2 (below_wider room.words (room.words + 2) (words_in w) more names.1) (below_wider (length slots) arrays (slots_in w) enough names.0)
part_named_there room slots d arrays loose (Loops p) same few few2 kept =
    let A = names_loop slots room.words p in
    let B = are_distinct (loop_writes p) in
    let C = are_distinct (loop_words p) in
    let D = list_all (λ k. is_frame slots (k ∷ [])) (loop_writes p) in
    let E = none_matrix slots (loop_writes p ++ loop_reads p) in
    let four = (and_parts (((A && B) && C) && D) E kept).0 in
    let three = (and_parts ((A && B) && C) D four).0 in
    let two_first = (and_parts (A && B) C three).0 in
    let names = (and_parts A B two_first).0 in
    let more : room.words ≤ room.words + 2 = omega arith in
    let enough : length slots ≤ arrays = omega (arith, same, few) in
    loop_named room slots d (room.words + 2) arrays loose p (loop_there slots room.words (room.words + 2) arrays p more enough names) few few2
