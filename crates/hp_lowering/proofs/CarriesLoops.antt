-- The looks at lengths before a loop, and the code of a loop whose arrays are all whole on each rank, which carries it.
use Rattle.std.proofs.Common.{◌≡◌, ◌∙◌, refl, sym, subst, ap, arith, inl, cond, Bool, true, false, ℕ, zero, suc, ◌<◌, List, [], ◌∷◌, ◌++◌, length, map, None, Some, Result, Ok}
use Rattle.std.specs.Prelude.{◌&&◌, ◌==◌, nat_lt, slice_index, Option}
use Rattle.std.specs.List.{All, AllByRecursion, AllZip, list_all, list_any}
use Rattle.std.proofs.lemmas.Bool.{and_parts, eqb-true}
use Rattle.std.proofs.lemmas.List.{length-map}
use Rattle.std.proofs.lemmas.List.Elements.{All-from_recursion}
use Rattle.hp_word.specs.declared.order.Order.{Order}
use Rattle.hp_word.specs.declared.place.Trap.{Trap}
use Rattle.hp_word.specs.declared.table.Tables.{Tables}
use Rattle.hp_word.specs.declared.place.TrapKind.TheVariants.{Mismatch}
use Rattle.hp_word.specs.Folds.{fold_of}
use Rattle.hp_word.specs.Lengths.{trap}
use Rattle.hp_word.specs.LoopRules.{and_then, column_of}
use Rattle.hp_lattice.specs.declared.dist.Dist.{Dist}
use Rattle.hp_lattice.specs.declared.dist.Dist.TheVariants.{Rep, Var}
use Rattle.hp_spmd.specs.declared.code.Code.{Code}
use Rattle.hp_spmd.specs.declared.instr.CheckRule.TheVariants as check
use Rattle.hp_spmd.specs.declared.instr.Folding.{Folding}
use Rattle.hp_spmd.specs.declared.instr.Instr.{Instr}
use Rattle.hp_spmd.specs.declared.instr.Instr.TheVariants as instr
use Rattle.hp_spmd.specs.declared.instr.Loop.{Loop}
use Rattle.hp_spmd.specs.declared.instr.Out.{Out}
use Rattle.hp_spmd.specs.declared.store.Store.{Store}
use Rattle.hp_spmd.specs.Layout.{Env, Layout}
use Rattle.hp_spmd.specs.Scalars.{check_of}
use Rattle.hp_spmd.specs.Spread.{LiesAs}
use Rattle.hp_spmd.specs.Store as store
use Rattle.hp_air.specs.declared.slot.Slot.{Slot}
use Rattle.hp_air.specs.Kept.{are_below, are_distinct, is_frame, is_matrix, none_matrix}
use Rattle.hp_air.specs.Meaning as air
use Rattle.hp_air.specs.Placed.{dist_at}
use Rattle.hp_air.specs.Wholes as wholes
use Rattle.hp_air.specs.Wholes.{cells}
use Rattle.hp_parfor.specs.declared.parfor.Halo.{Halo}
use Rattle.hp_parfor.specs.declared.parfor.Parfor.{Parfor}
use Rattle.hp_parfor.specs.KeptParts.{is_loop_kept, lets_fit, loop_values, names_loop}
use Rattle.hp_parfor.specs.LoopMeaning.{is_rep, is_replicated, loop_made, loop_rows, needs_some, part_does}
use Rattle.hp_parfor.specs.Parts.{Loops, loop_reads, loop_words, loop_writes}
use Rattle.hp_snippet.specs.Moves.{silently}
use Rattle.hp_snippet.specs.Outcomes.{After, IsSilent, one_after}
use Rattle.hp_alone.specs.Looking.{MayLook, check_code, lengths_in, looked_at, nothing_written, unless_trap}
use Rattle.hp_alone.specs.OwnLoops.{HasOwn, HasRound, MayLoopWhole, loop_writes as written_by, looped, made_whole}
use Rattle.hp_alone.specs.Scalars.{IsVector}
use Rattle.hp_alone.proofs.Looked.{check_performs, check_straight}
use Rattle.hp_alone.proofs.LoopedWhole.{own_loop_straight, own_loop_whole}
use Rattle.hp_alone.proofs.OwnParts.{has_read, own_of_length, round_of_whole}
use Rattle.hp_lowering.specs.PartCode.{checks, folds_over, halo_moves, halos_at, input_moves, inputs_at, loop_code, loop_instr, part_code, whole_halos}
use Rattle.hp_lowering.specs.Room.{Room, room_of}
use Rattle.hp_lowering.specs.Standing.{IsOf}
use Rattle.hp_lowering.proofs.ArraysHeld.{cells_held, is_whole_on_each, one_row}
use Rattle.hp_lowering.proofs.CarriedBy.{LieAsSlots, carried_chain}
use Rattle.hp_lowering.proofs.Carrying.{DoesAs}
use Rattle.hp_lowering.proofs.CarriesLengths.{vector_is}
use Rattle.hp_lowering.proofs.CarriesWords.{IsCarried, has_value}
use Rattle.hp_lowering.proofs.Chaining.{Piece, as_moves, piece_of, pieces_join}
use Rattle.hp_lowering.proofs.LoopsAlike.{looked_then, looks_alike, rows_alike, rows_long, whole_cases}
use Rattle.hp_lowering.proofs.NamesKept.{all_join, below_join, first_list, lists_before, lists_behind, more_names, one_name, rest_lists}
use Rattle.hp_lowering.proofs.ReadsKept.{may_read, whole_wide}
use Rattle.hp_lowering.proofs.SlotsWritten.{once_of}

-- ---- looks that pass

ok_of : {X : Type 0} (a b : X) (r : Result X Trap) → r ≡ Ok a → r ≡ Ok b → a ≡ b
ok_of a b r p q = cc

passed_env : (o : Option Trap) (f : Env) (after : After Env) → unless_trap o f ≡ Ok after → f ≡ after.env
passed_env None f after e = ap (λ (a : After Env). a.env) (ok_of (record { env = f; text = [] }) after (unless_trap None f) refl e)
passed_env (Some t) f after e = absurd cc

passed_test : (b : Bool) (t : Trap) (f : Env) (after : After Env) → unless_trap (cond b None (Some t)) f ≡ Ok after → b ≡ true
passed_test true t f after e = refl
passed_test false t f after e = absurd cc

silent_look : (o : Option Trap) (f : Env) → IsSilent (unless_trap o f)
silent_look None f = refl
silent_look (Some t) f = tt

-- ---- what a loop keeps

pub record LoopKeeps (slots : List Slot) (words : ℕ) (p : Parfor) : Type 0 where
  pub writes : are_below (length slots) (loop_writes p) ≡ true
  pub reads : are_below (length slots) (loop_reads p) ≡ true
  pub folds : are_below words (loop_words p) ≡ true
  pub lets : lets_fit words (length p.inputs) (map (λ (h : Halo). h.reach) p.halos) 0 p.lets ≡ true
  pub arrays_once : are_distinct (loop_writes p) ≡ true
  pub words_once : are_distinct (loop_words p) ≡ true
  pub lists : none_matrix slots (loop_writes p ++ loop_reads p) ≡ true

pub loop_keeps : (slots : List Slot) (words : ℕ) (p : Parfor) → is_loop_kept slots words p ≡ true → LoopKeeps slots words p
loop_keeps slots words p kept =
    let A = names_loop slots words p in
    let B = are_distinct (loop_writes p) in
    let C = are_distinct (loop_words p) in
    let D = list_all (λ k. is_frame slots (k ∷ [])) (loop_writes p) in
    let E = none_matrix slots (loop_writes p ++ loop_reads p) in
    let five = and_parts (((A && B) && C) && D) E kept in
    let four = and_parts ((A && B) && C) D five.0 in
    let three = and_parts (A && B) C four.0 in
    let two = and_parts A B three.0 in
    let N1 = are_below (length slots) (loop_writes p ++ loop_reads p) in
    let N2 = are_below words (loop_words p) in
    let N3 = are_below (length p.lets) (loop_values p) in
    let N4 = lets_fit words (length p.inputs) (map (λ (h : Halo). h.reach) p.halos) 0 p.lets in
    let n4 = and_parts ((N1 && N2) && N3) N4 two.0 in
    let n3 = and_parts (N1 && N2) N3 n4.0 in
    let n2 = and_parts N1 N2 n3.0 in
    let names = below_join (length slots) (loop_writes p) (loop_reads p) n2.0 in
    record { writes = names.0; reads = names.1; folds = n2.1; lets = n4.1; arrays_once = two.1; words_once = three.1; lists = five.1 }

-- ---- the looks, whatever comes behind them

module _ (slots : List Slot) (words : ℕ) (dists : List Dist) (code : Code) (tables : Tables) (n : ℕ) (orders : List Order) (like : LieAsSlots slots dists code) (p : Parfor) (keeps : LoopKeeps slots words p) where
  abbrev room : Room
  room = room_of slots words

  abbrev around : List ℕ
  around = map (λ (h : Halo). h.array) p.halos

  abbrev looks : Bool
  looks = list_any (λ (h : Folding). needs_some h.kind) p.folds

  all_reads : are_below (length slots) (p.inputs ++ around) ≡ true
  all_reads = more_names p.leader (p.inputs ++ around) (length slots) keeps.reads

  pub leader_there : p.leader < length slots
  leader_there = one_name p.leader (p.inputs ++ around) (length slots) keeps.reads

  pub inputs_there : are_below (length slots) p.inputs ≡ true
  inputs_there = (below_join (length slots) p.inputs around all_reads).0

  pub around_there : are_below (length slots) around ≡ true
  around_there = (below_join (length slots) p.inputs around all_reads).1

  looked_there : are_below (length slots) (p.leader ∷ p.inputs) ≡ true
  looked_there = let parts = and_parts (nat_lt p.leader (length slots)) (are_below (length slots) (p.inputs ++ around)) keeps.reads in λ i. parts.0 i && inputs_there i

  read_lists : none_matrix slots (loop_reads p) ≡ true
  read_lists = lists_behind slots (loop_writes p) (loop_reads p) keeps.lists

  pub leader_list : is_matrix slots p.leader ≡ false
  leader_list = first_list slots p.leader (p.inputs ++ around) read_lists

  pub input_lists : none_matrix slots p.inputs ≡ true
  input_lists = lists_before slots p.inputs around (rest_lists slots p.leader (p.inputs ++ around) read_lists)

  led_lists : none_matrix slots (p.leader ∷ p.inputs) ≡ true
  led_lists = lists_before slots (p.leader ∷ p.inputs) around read_lists

  pub code_there : (k : ℕ) → k < length slots → k < length code.arrays
  code_there k lt = let there = like.there in omega (arith, lt, there)

  -- ---- the pieces

  abbrev pub From : wholes.Env → List Store → Env → Type 0
  From e ranks f = IsOf room e f

  -- the inputs are as long as the leader
  abbrev pub Even : wholes.Env → List Store → Env → Type 0
  Even e ranks f = IsOf room e f × (list_all (λ m. m == length (f.arrays p.leader).cells) (lengths_in f p.inputs) ≡ true)

  abbrev pub Done : wholes.Env → List Store → Env → Type 0
  Done e ranks f = Unit {0}

  abbrev pub lengths_code : List Instr
  lengths_code = check_code (p.leader ∷ p.inputs) check.Equal p.at

  abbrev pub some_code : List Instr
  some_code = check_code (p.leader ∷ []) check.Some p.at

  abbrev equal_look : Env → Result (After Env) Trap
  equal_look f = unless_trap (check_of check.Equal p.at (lengths_in f (p.leader ∷ p.inputs))) f

  abbrev some_look : Env → Result (After Env) Trap
  some_look f = unless_trap (check_of check.Some p.at (lengths_in f (p.leader ∷ []))) f

  vectors : (e : wholes.Env) (f : Env) → IsOf room e f → (ks : List ℕ) → are_below (length slots) ks ≡ true → none_matrix slots ks ≡ true → AllByRecursion (λ k. IsVector (f.arrays k)) ks
  vectors e f is [] below lists = tt
  vectors e f is (k ∷ ks) below lists = (vector_is room k e f is (one_name k ks (length slots) below) (first_list slots k ks lists), vectors e f is ks (more_names k ks (length slots) below) (rest_lists slots k ks lists))

  lengths_piece : (e : wholes.Env) (m : ℕ) → Piece code tables n m lengths_code (From e) (Even e) equal_look
  lengths_piece e m =
      piece_of code tables n m lengths_code (From e) (Even e) (λ c f x y. Unit {0}) (MayLook (p.leader ∷ p.inputs)) (looked_at (p.leader ∷ p.inputs) check.Equal p.at) nothing_written (check_straight (p.leader ∷ p.inputs) check.Equal p.at lengths_code refl)
      (as_moves (MayLook (p.leader ∷ p.inputs)) (looked_at (p.leader ∷ p.inputs) check.Equal p.at) nothing_written lengths_code (check_performs (p.leader ∷ p.inputs) check.Equal p.at lengths_code refl))
      (λ s f h. vectors e f h.has (p.leader ∷ p.inputs) looked_there led_lists)
      (λ s f h ys after passed stays gets lays.
      let same = passed_env (check_of check.Equal p.at (lengths_in f (p.leader ∷ p.inputs))) f after passed in
      let even = passed_test (list_all (λ m. m == length (f.arrays p.leader).cells) (lengths_in f p.inputs)) (trap p.at Mismatch) f after passed in
      subst (λ (g : Env). IsOf room e g × (list_all (λ m. m == length (g.arrays p.leader).cells) (lengths_in g p.inputs) ≡ true)) same (h.has, even))
      equal_look (λ ranks f. refl)

  some_piece : (e : wholes.Env) (m : ℕ) → Piece code tables n m some_code (Even e) (Even e) some_look
  some_piece e m =
      piece_of code tables n m some_code (Even e) (Even e) (λ c f x y. Unit {0}) (MayLook (p.leader ∷ [])) (looked_at (p.leader ∷ []) check.Some p.at) nothing_written (check_straight (p.leader ∷ []) check.Some p.at some_code refl)
      (as_moves (MayLook (p.leader ∷ [])) (looked_at (p.leader ∷ []) check.Some p.at) nothing_written some_code (check_performs (p.leader ∷ []) check.Some p.at some_code refl))
      (λ s f h. (vector_is room p.leader e f h.has.0 leader_there leader_list, tt))
      (λ s f h ys after passed stays gets lays.
      subst (λ (g : Env). IsOf room e g × (list_all (λ m. m == length (g.arrays p.leader).cells) (lengths_in g p.inputs) ≡ true)) (passed_env (check_of check.Some p.at (lengths_in f (p.leader ∷ []))) f after passed) h.has)
      some_look (λ ranks f. refl)

  module _ (itself : List Instr) (onward : Env → Result (After Env) Trap) (piece : (e : wholes.Env) (m : ℕ) → Piece code tables n m itself (Even e) (Done e) onward) where
    rest_piece : (e : wholes.Env) (m : ℕ) (b : Bool) → Piece code tables n m (cond b some_code [] ++ itself) (Even e) (Done e) (λ g. cond b (one_after (some_look g) onward) (onward g))
    rest_piece e m true = pieces_join code tables n m some_code itself (Even e) (Even e) (Done e) some_look onward (some_piece e m) (piece e m) (λ f. silent_look (check_of check.Some p.at (lengths_in f (p.leader ∷ []))) f)
    rest_piece e m false = piece e m

    all_piece : (e : wholes.Env) (m : ℕ) → Piece code tables n m (lengths_code ++ (cond looks some_code [] ++ itself)) (From e) (Done e) (looked_then p onward)
    all_piece e m =
        pieces_join code tables n m lengths_code (cond looks some_code [] ++ itself) (From e) (Even e) (Done e) equal_look (λ g. cond looks (one_after (some_look g) onward) (onward g)) (lengths_piece e m) (rest_piece e m looks)
        (λ f. silent_look (check_of check.Equal p.at (lengths_in f (p.leader ∷ p.inputs))) f)

    pub checked_carried : part_code room slots (dist_at dists) (Loops p) ≡ lengths_code ++ (cond looks some_code [] ++ itself)
        → ((e : wholes.Env) (f : Env) → IsOf room e f → DoesAs room e (and_then (loop_rows p e (length (cells (e.slots p.leader)))) (λ rows. air.silent (loop_made p rows e))) (onward f)) → IsCarried slots words dists code tables n orders (Loops p)
    unfolding part_does
    checked_carried is does =
        carried_chain slots words dists code tables n orders (Loops p) (lengths_code ++ (cond looks some_code [] ++ itself)) is From Done (λ e f. looked_then p onward f) (λ e. all_piece e e.executed) (λ s e h. h.is)
        (λ e f held. looks_alike room p e f onward held looked_there (does e f held))

  -- ---- what a loop does over whole arrays

  names_at : (ks : List ℕ) (k : ℕ) → are_below (length slots) ks ≡ true → k < length ks → slice_index ks k < length slots
  names_at [] k below lt = absurd (omega (arith, lt))
  names_at (x ∷ ks) zero below lt = one_name x ks (length slots) below
  names_at (x ∷ ks) (suc k) below lt = names_at ks k (more_names x ks (length slots) below) (omega (arith, lt))

  pub loop_does_so : (l : Loop) (e : wholes.Env) (f : Env) → IsOf room e f → l.leader ≡ p.leader → l.lets ≡ p.lets → l.outs ≡ p.outs → l.folds ≡ p.folds
      → ((k : ℕ) → k < length p.inputs → (f.arrays (slice_index l.inputs k)).cells ≡ cells (e.slots (slice_index p.inputs k)))
      → DoesAs room e (and_then (loop_rows p e (length (cells (e.slots p.leader)))) (λ rows. air.silent (loop_made p rows e))) (looped l around [] f)
  loop_does_so l e f is led lets outs folds inputs =
      let long = length (cells (e.slots p.leader)) in
      let rows = rows_alike slots words p l around e f is lets refl inputs (λ k lt. let count = length-map p.halos (λ (h : Halo). h.array) in names_at around k around_there (omega (arith, lt, count))) keeps.lets
      (ap (λ k. (f.arrays k).cells) led ∙ cells_held room p.leader e f is leader_there) in
      subst (λ r. DoesAs room e (and_then (loop_rows p e long) (λ rows. air.silent (loop_made p rows e))) (and_then r (λ rows. silently (made_whole l (λ g. Some (fold_of g.kind (column_of g.value rows))) rows f)))) (sym rows)
      (whole_cases room p l e f long (loop_rows p e long) (rows_long p e long) (is.short p.leader leader_there) outs folds (once_of (loop_writes p) keeps.arrays_once) (once_of (loop_words p) keeps.words_once) is)

  pub input_cells : (e : wholes.Env) (f : Env) → IsOf room e f → (k : ℕ) → k < length p.inputs → (f.arrays (slice_index p.inputs k)).cells ≡ cells (e.slots (slice_index p.inputs k))
  input_cells e f is k lt = cells_held room (slice_index p.inputs k) e f is (names_at p.inputs k inputs_there lt)

-- ---- a loop over arrays that are whole on each rank

module _ (slots : List Slot) (words : ℕ) (dists : List Dist) (code : Code) (tables : Tables) (n : ℕ) (orders : List Order) (like : LieAsSlots slots dists code) (p : Parfor) (keeps : LoopKeeps slots words p) (whole : is_replicated (dist_at dists) (Loops p) ≡ true) where
  abbrev whole_room : Room
  whole_room = room_of slots words

  abbrev l : Loop
  l = record { leader = p.leader; inputs = p.inputs; halos = whole_halos p.halos; lets = p.lets; outs = p.outs; folds = p.folds }

  abbrev whole_around : List ℕ
  whole_around = map (λ (h : Halo). h.array) p.halos

  lead : p.leader < length slots
  lead = leader_there slots words dists code tables n orders like p keeps

  there : (k : ℕ) → k < length slots → k < length code.arrays
  there k lt = code_there slots words dists code tables n orders like p keeps k lt

  -- ---- how they lie

  abbrev is_whole : ℕ → Bool
  is_whole k = is_rep (dist_at dists k)

  whole_reads : list_all is_whole (loop_reads p) ≡ true
  whole_reads = (all_join is_whole (loop_writes p) (loop_reads p) whole).1

  whole_writes : list_all is_whole (loop_writes p) ≡ true
  whole_writes = (all_join is_whole (loop_writes p) (loop_reads p) whole).0

  code_whole : (k : ℕ) → k < length slots → is_whole k ≡ true → store.dist_at code.arrays k ≡ Rep
  code_whole k lt rep = like.lies k lt ∙ is_whole_on_each (dist_at dists k) rep

  first_whole : (k : ℕ) (ks : List ℕ) → list_all is_whole (k ∷ ks) ≡ true → (is_whole k ≡ true) × (list_all is_whole ks ≡ true)
  first_whole k ks h = and_parts (is_whole k) (list_all is_whole ks) h

  leader_whole : store.dist_at code.arrays p.leader ≡ Rep
  leader_whole = code_whole p.leader lead (first_whole p.leader (p.inputs ++ whole_around) whole_reads).0

  rest_whole : list_all is_whole (p.inputs ++ whole_around) ≡ true
  rest_whole = (first_whole p.leader (p.inputs ++ whole_around) whole_reads).1

  outs_alike : (outs : List Out) → are_below (length slots) (map (λ (o : Out). o.array) outs) ≡ true → list_all is_whole (map (λ (o : Out). o.array) outs) ≡ true → AllByRecursion (λ (o : Out). LiesAs (store.dist_at code.arrays p.leader) (store.dist_at code.arrays o.array)) outs
  outs_alike [] below rep = tt
  outs_alike (o ∷ outs) below rep =
      let names = map (λ (x : Out). x.array) outs in
      let first = first_whole o.array names rep in
      (inl (code_whole o.array (one_name o.array names (length slots) below) first.0 ∙ sym leader_whole), outs_alike outs (more_names o.array names (length slots) below) first.1)

  -- ---- what each rank has

  rep_no_var : (d : Dist) → d ≡ Rep → d ≡ Var → ⊥
  rep_no_var d a b = let wrong : Rep ≡ Var = sym a ∙ b in absurd cc

  inputs_own : (e : wholes.Env) (ranks : List Store) (f : Env) → Layout code ranks f → IsOf whole_room e f → (ks : List ℕ) → are_below (length slots) ks ≡ true → none_matrix slots ks ≡ true → list_all is_whole ks ≡ true
      → list_all (λ m. m == length (f.arrays p.leader).cells) (lengths_in f ks) ≡ true → AllByRecursion (λ k. All (λ (x : Store). HasOwn code l f x k) ranks) ks
  inputs_own e ranks f lays is [] below lists rep even = tt
  inputs_own e ranks f lays is (k ∷ ks) below lists rep even =
      let here = one_name k ks (length slots) below in
      let first = first_whole k ks rep in
      let long = and_parts (length (f.arrays k).cells == length (f.arrays p.leader).cells) (list_all (λ m. m == length (f.arrays p.leader).cells) (lengths_in f ks)) even in
      let led = one_row whole_room p.leader e f is lead (leader_list slots words dists code tables n orders like p keeps) in (
        own_of_length code l ranks f lays k (there p.leader lead) (there k here) (code_whole k here first.0 ∙ sym leader_whole) (rep_no_var (store.dist_at code.arrays p.leader) leader_whole) led (one_row whole_room k e f is here (first_list slots k ks lists))
            (eqb-true (length (f.arrays k).cells) (length (f.arrays p.leader).cells) long.0),
        inputs_own e ranks f lays is ks (more_names k ks (length slots) below) (rest_lists slots k ks lists) first.1 long.1,
      )

  halos_own : (ranks : List Store) (f : Env) → Layout code ranks f → (hs : List Halo) → are_below (length slots) (map (λ (h : Halo). h.array) hs) ≡ true → list_all is_whole (map (λ (h : Halo). h.array) hs) ≡ true
      → AllZip (λ h k. All (λ (x : Store). HasRound code l f x h k) ranks) (whole_halos hs) (map (λ (h : Halo). h.array) hs)
  halos_own ranks f lays [] below rep = tt
  halos_own ranks f lays (h ∷ hs) below rep =
      let names = map (λ (x : Halo). x.array) hs in
      let here = one_name h.array names (length slots) below in
      let first = first_whole h.array names rep in
      (round_of_whole code l ranks f lays h.array (there p.leader lead) (there h.array here) leader_whole (code_whole h.array here first.0), halos_own ranks f lays hs (more_names h.array names (length slots) below) first.1)

  may_loop : (e : wholes.Env) (ranks : List Store) (f : Env) → Layout code ranks f → IsOf whole_room e f → list_all (λ m. m == length (f.arrays p.leader).cells) (lengths_in f p.inputs) ≡ true → MayLoopWhole l whole_around code ranks f
  may_loop e ranks f lays is even = (
    leader_whole,
    record {
      outs_once = once_of (loop_writes p) keeps.arrays_once;
      words_once = once_of (loop_words p) keeps.words_once;
      vector = one_row whole_room p.leader e f is lead (leader_list slots words dists code tables n orders like p keeps);
      alike = All-from_recursion (λ (o : Out). LiesAs (store.dist_at code.arrays p.leader) (store.dist_at code.arrays o.array)) p.outs (outs_alike p.outs keeps.writes whole_writes);
      has = has_read code l whole_around ranks f
          (inputs_own e ranks f lays is p.inputs (inputs_there slots words dists code tables n orders like p keeps) (input_lists slots words dists code tables n orders like p keeps) (all_join is_whole p.inputs whole_around rest_whole).0 even)
          (halos_own ranks f lays p.halos (around_there slots words dists code tables n orders like p keeps) (all_join is_whole p.inputs whole_around rest_whole).1);
      reads = may_read f l words p.halos (λ w lt. has_value whole_room w e f is lt) (whole_wide p.halos) keeps.lets;
    },
  )

  abbrev itself : List Instr
  itself = instr.Loop l ∷ []

  abbrev onward : Env → Result (After Env) Trap
  onward f = looped l whole_around [] f

  loop_piece : (e : wholes.Env) (m : ℕ) → Piece code tables n m itself (Even slots words dists code tables n orders like p keeps e) (Done slots words dists code tables n orders like p keeps e) onward
  loop_piece e m =
      piece_of code tables n m itself (Even slots words dists code tables n orders like p keeps e) (Done slots words dists code tables n orders like p keeps e) (λ c f x y. Unit {0}) (MayLoopWhole l whole_around) (looped l whole_around) (written_by l) (own_loop_straight l itself refl)
      (as_moves (MayLoopWhole l whole_around) (looped l whole_around) (written_by l) itself (own_loop_whole l itself refl whole_around)) (λ s f h. may_loop e s.ranks f h.lays h.has.0 h.has.1) (λ s f h ys after done stays gets lays. tt) onward (λ ranks f. refl)

  pub whole_loop_carried : IsCarried slots words dists code tables n orders (Loops p)
  unfolding part_code loop_code
  whole_loop_carried =
      checked_carried slots words dists code tables n orders like p keeps itself onward loop_piece
      (ap
      (λ b. cond b (checks p ++ (loop_instr p.inputs (whole_halos p.halos) p ∷ []))
      (checks p ++ (input_moves whole_room (dist_at dists) p.leader 0 p.inputs ++ (halo_moves 0 p.halos ++ (loop_instr (inputs_at whole_room (dist_at dists) p.leader 0 p.inputs) (halos_at 0 p.halos) p ∷ folds_over p.folds)))))
      whole)
      (λ e f is. loop_does_so slots words dists code tables n orders like p keeps l e f is refl refl refl refl (input_cells slots words dists code tables n orders like p keeps e f is))
