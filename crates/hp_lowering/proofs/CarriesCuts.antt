-- The code of a loop over arrays in pieces carries it.
use Rattle.std.proofs.Common.{◌≡◌, ◌∙◌, refl, sym, subst, ap, arith, inl, inr, cond, Bool, true, false, ℕ, suc, ◌<◌, ◌≤◌, List, [], ◌∷◌, ◌++◌, length, map, Result}
use Rattle.std.specs.Prelude.{◌≢◌, ◌&&◌, ◌==◌}
use Rattle.std.specs.List.{AllByRecursion, list_all}
use Rattle.std.proofs.lemmas.Bool.{and_parts, eqb-true, false≢true}
use Rattle.std.proofs.lemmas.List.Elements.{All-from_recursion}
use Rattle.std.proofs.lemmas.List.Folds.{list_all-append}
use Rattle.hp_word.specs.declared.order.Order.{Order}
use Rattle.hp_word.specs.declared.place.Trap.{Trap}
use Rattle.hp_word.specs.declared.table.Tables.{Tables}
use Rattle.hp_lattice.specs.declared.dist.Dist.{Dist}
use Rattle.hp_lattice.specs.declared.dist.Dist.TheVariants.{Rep, Var, Block}
use Rattle.hp_spmd.specs.declared.code.Code.{Code}
use Rattle.hp_spmd.specs.declared.instr.Instr.{Instr}
use Rattle.hp_spmd.specs.declared.instr.Loop.{Loop}
use Rattle.hp_spmd.specs.declared.instr.Out.{Out}
use Rattle.hp_spmd.specs.declared.store.Store.{Store}
use Rattle.hp_spmd.specs.Layout.{Env, Whole}
use Rattle.hp_spmd.specs.Lockstep.{State}
use Rattle.hp_spmd.specs.Spread.{LiesAs}
use Rattle.hp_spmd.specs.Store as store
use Rattle.hp_air.specs.declared.slot.Slot.{Slot}
use Rattle.hp_air.specs.Kept.{are_below, none_matrix}
use Rattle.hp_air.specs.Placed.{dist_at}
use Rattle.hp_air.specs.Wholes as wholes
use Rattle.hp_air.specs.Wholes.{cells}
use Rattle.hp_parfor.specs.declared.parfor.Halo.{Halo}
use Rattle.hp_parfor.specs.declared.parfor.Parfor.{Parfor}
use Rattle.hp_parfor.specs.KeptParts.{lets_fit}
use Rattle.hp_parfor.specs.LoopMeaning.{is_rep, is_replicated}
use Rattle.hp_parfor.specs.Parts.{Loops, loop_reads, loop_words, loop_writes}
use Rattle.hp_parfor.specs.PlacedParts.{LoopMeets}
use Rattle.hp_snippet.specs.Holds.{IsCut}
use Rattle.hp_snippet.specs.Outcomes.{After}
use Rattle.hp_snippet.specs.Values.{HasValue}
use Rattle.hp_alone.specs.Looking.{lengths_in}
use Rattle.hp_alone.specs.OwnLoops.{MayRead, looped}
use Rattle.hp_lowering.specs.PartCode.{checks, folds_over, halo_moves, halos_at, input_moves, inputs_at, loop_code, loop_instr, part_code, whole_halos}
use Rattle.hp_lowering.specs.Room.{Room, room_of}
use Rattle.hp_lowering.specs.Standing.{IsOf}
use Rattle.hp_lowering.proofs.ArraysHeld.{one_row}
use Rattle.hp_lowering.proofs.CarriedBy.{LieAsSlots}
use Rattle.hp_lowering.proofs.CarriesLengths.{vector_is}
use Rattle.hp_lowering.proofs.CarriesLoops.{Done, Even, LoopKeeps, checked_carried, input_cells, input_lists, inputs_there, leader_list, leader_there, loop_does_so}
use Rattle.hp_lowering.proofs.CarriesWords.{IsCarried, has_value}
use Rattle.hp_lowering.proofs.Chaining.{Piece, Stand}
use Rattle.hp_lowering.proofs.CutLoops.{CutNeeds, cut_body, cut_code, cut_loop, halo_arrays, moved_slots, moved_there, moved_words}
use Rattle.hp_lowering.proofs.InputMoves.{IsInput, LiesCut, moved_env}
use Rattle.hp_lowering.proofs.NamesKept.{first_list, more_names, one_name, rest_lists}
use Rattle.hp_lowering.proofs.ReadsKept.{loose_wide, may_read}
use Rattle.hp_lowering.proofs.SlotsWritten.{once_of}

-- ---- pieces

-- a piece that goes from less goes from more
from_more : (code : Code) (tables : Tables) (n m : ℕ) (list : List Instr) (From More To : List Store → Env → Type 0) (op : Env → Result (After Env) Trap) → ((s : State) (f : Env) → Stand code n m More s f → From s.ranks f) → Piece code tables n m list From To op
    → Piece code tables n m list More To op
from_more code tables n m list From More To op less p =
    let turned : (s : State) (f : Env) → Stand code n m More s f → Stand code n m From s f = λ s f h. record { some = h.some; count = h.count; each = h.each; at_one = h.at_one; executed = h.executed; logged = h.logged; lays = h.lays; has = less s f h } in
    record { goes = λ s f h stand. p.goes s f (turned s f h) stand; keeps = λ s f h stand k lt. p.keeps s f (turned s f h) stand k lt }

inputs_count : (room : Room) (d : ℕ → Dist) (leader i : ℕ) (xs : List ℕ) → length (inputs_at room d leader i xs) ≡ length xs
inputs_count room d leader i [] = refl
inputs_count room d leader i (x ∷ xs) = ap suc (inputs_count room d leader (suc i) xs)

-- ---- the leader is in pieces

-- what lies as an array that is whole is whole
rep_so : (d : Dist) → d ≡ Rep → is_rep d ≡ true
rep_so d e = ap is_rep e

lies_whole : (from to : Dist) → from ≡ Rep → LiesAs from to → is_rep to ≡ true
lies_whole from to rep (inl same) = rep_so to (same ∙ rep)
lies_whole from to rep (inr blocks) = let wrong : Rep ≡ Block = sym rep ∙ blocks.0 in absurd cc

module _ (d : ℕ → Dist) (p : Parfor) (meets : LoopMeets d p) where
  abbrev is_whole : ℕ → Bool
  is_whole k = is_rep (d k)

  whole_outs : d p.leader ≡ Rep → (ks : List ℕ) → AllByRecursion (λ out. LiesAs (d p.leader) (d out)) ks → list_all is_whole ks ≡ true
  whole_outs rep [] h = refl
  whole_outs rep (k ∷ ks) h = let one = lies_whole (d p.leader) (d k) rep h.0 in let rest = whole_outs rep ks h.1 in λ i. one i && rest i

  whole_inputs : d p.leader ≡ Rep → (ks : List ℕ) → AllByRecursion (λ x. d x ≡ d p.leader) ks → list_all is_whole ks ≡ true
  whole_inputs rep [] h = refl
  whole_inputs rep (k ∷ ks) h = let one = rep_so (d k) (h.0 ∙ rep) in let rest = whole_inputs rep ks h.1 in λ i. one i && rest i

  whole_around : d p.leader ≡ Rep → (hs : List Halo) → AllByRecursion (λ (h : Halo). (h.array ≡ p.leader) × (d p.leader ≢ Var)) hs → list_all is_whole (map (λ (h : Halo). h.array) hs) ≡ true
  whole_around rep [] a = refl
  whole_around rep (h ∷ hs) a = let one = rep_so (d h.array) (ap d a.0.0 ∙ rep) in let rest = whole_around rep hs a.1 in λ i. one i && rest i

  all_whole : d p.leader ≡ Rep → is_replicated d (Loops p) ≡ true
  all_whole rep =
      let outs = whole_outs rep (loop_writes p) meets.outs in
      let led = rep_so (d p.leader) rep in
      let inputs = whole_inputs rep p.inputs meets.inputs in
      let around = whole_around rep p.halos meets.halos in
      list_all-append is_whole (loop_writes p) (loop_reads p)
      ∙ (λ i. outs i && (led i && list_all-append is_whole p.inputs (map (λ (h : Halo). h.array) p.halos) i))
      ∙ (λ i. inputs i && around i)

  pub leader_cut : is_replicated d (Loops p) ≡ false → IsCut (d p.leader)
  leader_cut pieces = by_dist (d p.leader) refl
    where
      by_dist : (dist : Dist) → d p.leader ≡ dist → IsCut dist
      by_dist Rep e = absurd (false≢true (sym pieces ∙ all_whole e))
      by_dist Var e = tt
      by_dist Block e = tt

-- ---- the loop

module _ (slots : List Slot) (words : ℕ) (dists : List Dist) (code : Code) (tables : Tables) (n : ℕ) (orders : List Order) (like : LieAsSlots slots dists code) (p : Parfor) (keeps : LoopKeeps slots words p) (meets : LoopMeets (dist_at dists) p)
    (pieces : is_replicated (dist_at dists) (Loops p) ≡ false) (room_for : length p.inputs ≤ like.spares) where
  abbrev room : Room
  room = room_of slots words

  abbrev d : ℕ → Dist
  d = dist_at dists

  abbrev l : Loop
  l = cut_body room d p

  lead : p.leader < length slots
  lead = leader_there slots words dists code tables n orders like p keeps

  below : are_below (length slots) p.inputs ≡ true
  below = inputs_there slots words dists code tables n orders like p keeps

  lists : none_matrix slots p.inputs ≡ true
  lists = input_lists slots words dists code tables n orders like p keeps

  lies : LiesCut code room d p.leader (length p.inputs)
  lies = record { there = like.there; lies = like.lies; led = lead; cut = leader_cut d p meets pieces; spares = λ i lt. like.spare_lies i (let fit = room_for in omega (arith, lt, fit)) }

  outs_alike : (outs : List Out) → are_below (length slots) (map (λ (o : Out). o.array) outs) ≡ true → AllByRecursion (λ k. LiesAs (d p.leader) (d k)) (map (λ (o : Out). o.array) outs)
      → AllByRecursion (λ (o : Out). LiesAs (store.dist_at code.arrays p.leader) (store.dist_at code.arrays o.array)) outs
  outs_alike [] names h = tt
  outs_alike (o ∷ outs) names h =
      let rest = map (λ (x : Out). x.array) outs in
      (subst (λ x. LiesAs x (store.dist_at code.arrays o.array)) (sym (like.lies p.leader lead)) (subst (λ x. LiesAs (d p.leader) x) (sym (like.lies o.array (one_name o.array rest (length slots) names))) h.0), outs_alike outs (more_names o.array rest (length slots) names) h.1)

  reads : (f : Env) → ((w : ℕ) → w < room.words → HasValue (f.words w)) → AllByRecursion (MayRead f l) p.lets
  reads f values =
      may_read f l words p.halos values (loose_wide 0 p.halos) (subst (λ k. lets_fit words k (map (λ (h : Halo). h.reach) p.halos) 0 p.lets ≡ true) (sym (inputs_count room d p.leader 0 p.inputs)) keeps.lets)

  -- ---- what it needs

  inputs_are : (e : wholes.Env) (f : Env) → IsOf room e f → (ks : List ℕ) → are_below (length slots) ks ≡ true → none_matrix slots ks ≡ true → AllByRecursion (λ x. d x ≡ d p.leader) ks → list_all (λ m. m == length (f.arrays p.leader).cells) (lengths_in f ks) ≡ true
      → AllByRecursion (IsInput room d p.leader f) ks
  inputs_are e f is [] names none alike even = tt
  inputs_are e f is (k ∷ ks) names none alike even =
      let here = one_name k ks (length slots) names in
      let long = and_parts (length (f.arrays k).cells == length (f.arrays p.leader).cells) (list_all (λ m. m == length (f.arrays p.leader).cells) (lengths_in f ks)) even in
      (record { below = here; same = alike.0; one = one_row room k e f is here (first_list slots k ks none); long = eqb-true (length (f.arrays k).cells) (length (f.arrays p.leader).cells) long.0 }, inputs_are e f is ks (more_names k ks (length slots) names) (rest_lists slots k ks none) alike.1 long.1)

  abbrev onward : Env → Result (After Env) Trap
  onward f = looped l (halo_arrays p) [] (moved_env room d p.leader 0 p.inputs f)

  cut_piece : (e : wholes.Env) (m : ℕ) → Piece code tables n m (cut_code room d p) (Even slots words dists code tables n orders like p keeps e) (Done slots words dists code tables n orders like p keeps e) onward
  cut_piece e m =
      from_more code tables n m (cut_code room d p) (CutNeeds room d p) (Even slots words dists code tables n orders like p keeps e) (Done slots words dists code tables n orders like p keeps e) onward
      (λ s f h. record {
        values = λ w lt. has_value room w e f h.has.0 lt;
        vector = vector_is room p.leader e f h.has.0 lead (leader_list slots words dists code tables n orders like p keeps);
        inputs = inputs_are e f h.has.0 p.inputs below lists meets.inputs h.has.1;
      })
      (cut_loop code tables n m room d p lies meets.halos (once_of (loop_writes p) keeps.arrays_once) (once_of (loop_words p) keeps.words_once)
      (All-from_recursion (λ (o : Out). LiesAs (store.dist_at code.arrays p.leader) (store.dist_at code.arrays o.array)) p.outs (outs_alike p.outs keeps.writes meets.outs)) reads)

  -- ---- what it does

  moved_is : (e : wholes.Env) (f : Env) → IsOf room e f → IsOf room e (moved_env room d p.leader 0 p.inputs f)
  moved_is e f is =
      record {
        slots = λ k lt. moved_slots room d p.leader 0 p.inputs f k (omega (arith, lt)) ∙ is.slots k lt;
        words = λ w lt. ap (λ ws. ws w) (moved_words room d p.leader 0 p.inputs f) ∙ is.words w lt;
        short = is.short;
        arrays = is.arrays;
      }

  all_below : (ks : List ℕ) → are_below (length slots) ks ≡ true → AllByRecursion (λ x. x < room.slots) ks
  all_below [] h = tt
  all_below (k ∷ ks) h = (one_name k ks (length slots) h, all_below ks (more_names k ks (length slots) h))

  pub cut_loop_carried : IsCarried slots words dists code tables n orders (Loops p)
  unfolding part_code loop_code
  cut_loop_carried =
      checked_carried slots words dists code tables n orders like p keeps (cut_code room d p) onward cut_piece
      (ap
      (λ b. cond b (checks p ++ (loop_instr p.inputs (whole_halos p.halos) p ∷ []))
      (checks p ++ (input_moves room (dist_at dists) p.leader 0 p.inputs ++ (halo_moves 0 p.halos ++ (loop_instr (inputs_at room (dist_at dists) p.leader 0 p.inputs) (halos_at 0 p.halos) p ∷ folds_over p.folds)))))
      pieces)
      (λ e f is. loop_does_so slots words dists code tables n orders like p keeps l e (moved_env room d p.leader 0 p.inputs f) (moved_is e f is) refl refl refl refl
      (λ k lt. ap (λ (w : Whole). w.cells) (moved_there room d p.leader 0 p.inputs f k (all_below p.inputs below) lt) ∙ input_cells slots words dists code tables n orders like p keeps e f is k lt))
