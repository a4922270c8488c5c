-- The code of a loop on arrays that are cut, behind its looks at lengths, makes what the loop over whole arrays makes.
use Rattle.std.proofs.Common.{◌≡◌, ◌∙◌, refl, sym, subst, arith, Bool, true, false, ℕ, zero, suc, ◌+◌, ◌<◌, List, [], ◌∷◌, ◌++◌, length, map, Result, Ok, Err}
use Rattle.std.specs.Prelude.{if◌then◌else◌, slice_index}
use Rattle.std.specs.List.{All, AllByRecursion}
use Rattle.hp_word.specs.declared.place.Trap.{Trap}
use Rattle.hp_word.specs.declared.table.Tables.{Tables}
use Rattle.hp_word.specs.LoopRules.{and_then}
use Rattle.hp_lattice.specs.declared.dist.Dist.{Dist}
use Rattle.hp_lattice.specs.declared.dist.Dist.TheVariants.{Rep, Var, Block}
use Rattle.hp_spmd.specs.declared.code.Code.{Code}
use Rattle.hp_spmd.specs.declared.instr.Instr.{Instr}
use Rattle.hp_spmd.specs.declared.instr.Instr.TheVariants as instr
use Rattle.hp_spmd.specs.declared.instr.Loop.{Loop}
use Rattle.hp_spmd.specs.declared.instr.Out.{Out}
use Rattle.hp_spmd.specs.declared.store.Store.{Store}
use Rattle.hp_spmd.specs.Layout.{Env, Whole}
use Rattle.hp_spmd.specs.Spread.{LiesAs}
use Rattle.hp_spmd.specs.Store.{dist_at}
use Rattle.hp_parfor.specs.declared.parfor.Halo.{Halo}
use Rattle.hp_parfor.specs.declared.parfor.Parfor.{Parfor}
use Rattle.hp_parfor.specs.LoopMeaning.{is_moved}
use Rattle.hp_snippet.specs.Holds.{IsCut}
use Rattle.hp_snippet.specs.Moves.{silently, with_wholes}
use Rattle.hp_snippet.specs.Outcomes.{After, after_both, one_after}
use Rattle.hp_snippet.specs.Promises.{AreOnce, IsNoneOf}
use Rattle.hp_snippet.specs.Values.{HasValue}
use Rattle.hp_snippet.proofs.MoveWholes.{changed_at, changed_other}
use Rattle.hp_alone.specs.OwnLoops.{MayRead, fold_words, looped, out_arrays}
use Rattle.hp_alone.specs.Scalars.{IsVector}
use Rattle.hp_lowering.specs.PartCode.{folds_over, halo_moves, halos_at, input_moves, inputs_at}
use Rattle.hp_lowering.specs.Room.{Room, spare}
use Rattle.hp_lowering.proofs.Chaining.{Piece, pieces_join}
use Rattle.hp_lowering.proofs.FoldedLoops.{Nothing, loop_piece}
use Rattle.hp_lowering.proofs.HaloMoves.{HasRounds, RoundsHeld, halos_piece}
use Rattle.hp_lowering.proofs.InputMoves.{HasInputs, InputsHeld, IsInput, LiesCut, inputs_piece, moved_env, turned_piece}

-- ---- what stands for what once inputs are moved

apart_from : (room : Room) (i k : ℕ) → k < room.slots + i → IsNoneOf (spare room i ∷ []) k
apart_from room i k lt = (λ e. (let same = e in absurd (omega (arith, lt, same))), tt)

one_slots : (room : Room) (i x k : ℕ) (b : Bool) (f : Env) → k < room.slots + i → (if b then with_wholes (spare room i ∷ []) (f.arrays x ∷ []) f else f).arrays k ≡ f.arrays k
one_slots room i x k true f lt = changed_other {X = Whole} (spare room i ∷ []) (f.arrays x ∷ []) f.arrays k (apart_from room i k lt)
one_slots room i x k false f lt = refl

one_words : (room : Room) (i x : ℕ) (b : Bool) (f : Env) → (if b then with_wholes (spare room i ∷ []) (f.arrays x ∷ []) f else f).words ≡ f.words
one_words room i x true f = refl
one_words room i x false f = refl

one_there : (room : Room) (i x : ℕ) (b : Bool) (f : Env) → (if b then with_wholes (spare room i ∷ []) (f.arrays x ∷ []) f else f).arrays (if b then spare room i else x) ≡ f.arrays x
one_there room i x true f = changed_at {X = Whole} (spare room i ∷ []) (f.arrays x ∷ []) f.arrays 0 (f.arrays x) (tt, tt) refl (omega arith)
one_there room i x false f = refl

one_low : (room : Room) (i x : ℕ) (b : Bool) → x < room.slots → (if b then spare room i else x) < room.slots + suc i
one_low room i x true lt = omega arith
one_low room i x false lt = omega (arith, lt)

-- the words are as they were
pub moved_words : (room : Room) (d : ℕ → Dist) (leader i : ℕ) (xs : List ℕ) (f : Env) → (moved_env room d leader i xs f).words ≡ f.words
moved_words room d leader i [] f = refl
moved_words room d leader i (x ∷ xs) f = moved_words room d leader (suc i) xs (if is_moved d leader x then with_wholes (spare room i ∷ []) (f.arrays x ∷ []) f else f) ∙ one_words room i x (is_moved d leader x) f

-- all below the spare arrays stand for what they stood for
pub moved_slots : (room : Room) (d : ℕ → Dist) (leader i : ℕ) (xs : List ℕ) (f : Env) (k : ℕ) → k < room.slots + i → (moved_env room d leader i xs f).arrays k ≡ f.arrays k
moved_slots room d leader i [] f k lt = refl
moved_slots room d leader i (x ∷ xs) f k lt =
    let more : k < room.slots + suc i = omega (arith, lt) in
    moved_slots room d leader (suc i) xs (if is_moved d leader x then with_wholes (spare room i ∷ []) (f.arrays x ∷ []) f else f) k more ∙ one_slots room i x k (is_moved d leader x) f lt

-- each input is where the loop reads it
pub moved_there : (room : Room) (d : ℕ → Dist) (leader i : ℕ) (xs : List ℕ) (f : Env) (k : ℕ) → AllByRecursion (λ x. x < room.slots) xs → k < length xs → (moved_env room d leader i xs f).arrays (slice_index (inputs_at room d leader i xs) k) ≡ f.arrays (slice_index xs k)
moved_there room d leader i [] f k below lt = absurd (omega (arith, lt))
moved_there room d leader i (x ∷ xs) f zero below lt =
    let b = is_moved d leader x in
    moved_slots room d leader (suc i) xs (if is_moved d leader x then with_wholes (spare room i ∷ []) (f.arrays x ∷ []) f else f) (if is_moved d leader x then spare room i else x) (one_low room i x b below.0) ∙ one_there room i x b f
moved_there room d leader i (x ∷ xs) f (suc k) below lt =
    let on : k < length xs = omega (arith, lt) in
    let low = below_at xs k below.1 on in
    moved_there room d leader (suc i) xs (if is_moved d leader x then with_wholes (spare room i ∷ []) (f.arrays x ∷ []) f else f) k below.1 on ∙ one_slots room i x (slice_index xs k) (is_moved d leader x) f (omega (arith, low))
  where
    below_at : (ks : List ℕ) (j : ℕ) → AllByRecursion (λ y. y < room.slots) ks → j < length ks → slice_index ks j < room.slots
    below_at [] j h l = absurd (omega (arith, l))
    below_at (y ∷ ks) zero h l = h.0
    below_at (y ∷ ks) (suc j) h l = let next : j < length ks = omega (arith, l) in below_at ks j h.1 next

-- ---- operations behind one that does nothing

behind_nothing : (f : Env) (r : Result (After Env) Trap) → and_then r (λ b. Ok (after_both (record { env = f; text = [] }) b)) ≡ r
behind_nothing f (Ok b) = refl
behind_nothing f (Err t) = refl

same_piece : (code : Code) (tables : Tables) (n m : ℕ) (list : List Instr) (From To : List Store → Env → Type 0) (one other : Env → Result (After Env) Trap) → ((f : Env) → one f ≡ other f) → Piece code tables n m list From To one → Piece code tables n m list From To other
same_piece code tables n m list From To one other same p = subst (Piece code tables n m list From To) (λ i f. same f i) p

-- ---- the loop

even_blocks : (dist : Dist) → IsCut dist → (dist ≡ Var → ⊥) → dist ≡ Block
even_blocks Rep cut even = absurd cut
even_blocks Var cut even = absurd (even refl)
even_blocks Block cut even = refl

-- the loop as it stands in the code
abbrev pub cut_body : Room → (ℕ → Dist) → Parfor → Loop
cut_body room d p = record { leader = p.leader; inputs = inputs_at room d p.leader 0 p.inputs; halos = halos_at 0 p.halos; lets = p.lets; outs = p.outs; folds = p.folds }

abbrev pub halo_arrays : Parfor → List ℕ
halo_arrays p = map (λ (h : Halo). h.array) p.halos

-- the code behind the looks at lengths
abbrev pub cut_code : Room → (ℕ → Dist) → Parfor → List Instr
cut_code room d p = input_moves room d p.leader 0 p.inputs ++ (halo_moves 0 p.halos ++ (instr.Loop (cut_body room d p) ∷ folds_over p.folds))

-- what a loop needs of what the ranks stand for: words have values, the leader is a vector, and the inputs are as long as it is
pub record CutNeeds (room : Room) (d : ℕ → Dist) (p : Parfor) (ranks : List Store) (f : Env) : Type 0 where
  pub values : (w : ℕ) → w < room.words → HasValue (f.words w)
  pub vector : IsVector (f.arrays p.leader)
  pub inputs : AllByRecursion (IsInput room d p.leader f) p.inputs

module _ (code : Code) (tables : Tables) (n m : ℕ) (room : Room) (d : ℕ → Dist) (p : Parfor) (lies : LiesCut code room d p.leader (length p.inputs)) (halos : AllByRecursion (λ (h : Halo). (h.array ≡ p.leader) × (d p.leader ≡ Var → ⊥)) p.halos)
    (outs_once : AreOnce (out_arrays (cut_body room d p))) (words_once : AreOnce (fold_words (cut_body room d p))) (alike : All (λ (o : Out). LiesAs (dist_at code.arrays p.leader) (dist_at code.arrays o.array)) p.outs)
    (reads : (f : Env) → ((w : ℕ) → w < room.words → HasValue (f.words w)) → AllByRecursion (MayRead f (cut_body room d p)) p.lets) where
  abbrev body : Loop
  body = cut_body room d p

  abbrev Inputs : List Store → Env → Type 0
  Inputs = InputsHeld code body room.words body.inputs

  there : p.leader < length code.arrays
  there = let within = lies.there in let led = lies.led in omega (arith, within, led)

  cut : IsCut (dist_at code.arrays p.leader)
  cut = subst IsCut (sym (lies.lies p.leader lies.led)) lies.cut

  halos_first : (hs : List Halo) → AllByRecursion (λ (h : Halo). (h.array ≡ p.leader) × (d p.leader ≡ Var → ⊥)) hs
      → Piece code tables n m (halo_moves 0 hs) (HasRounds code body room.words body.inputs 0 [] []) (RoundsHeld code body room.words body.inputs (halos_at 0 hs) (map (λ (h : Halo). h.array) hs)) (λ f. silently f)
  halos_first [] h = turned_piece code tables n m (HasRounds code body room.words body.inputs 0 [] []) (RoundsHeld code body room.words body.inputs [] []) (λ s f has. record { held = has.has.held; round = tt })
  halos_first (x ∷ hs) h =
      let block : dist_at code.arrays p.leader ≡ Block = even_blocks (dist_at code.arrays p.leader) cut (λ e. h.0.1 (sym (lies.lies p.leader lies.led) ∙ e)) in
      halos_piece code tables n m room.words body body.inputs there block 0 (x ∷ hs) [] [] (leaders (x ∷ hs) h)
    where
      leaders : (gs : List Halo) → AllByRecursion (λ (g : Halo). (g.array ≡ p.leader) × (d p.leader ≡ Var → ⊥)) gs → AllByRecursion (λ (g : Halo). g.array ≡ p.leader) gs
      leaders [] a = tt
      leaders (g ∷ gs) a = (a.0.0, leaders gs a.1)

  halos_then : Piece code tables n m (halo_moves 0 p.halos) Inputs (RoundsHeld code body room.words body.inputs body.halos (halo_arrays p)) (λ f. silently f)
  halos_then =
      pieces_join code tables n m [] (halo_moves 0 p.halos) Inputs (HasRounds code body room.words body.inputs 0 [] []) (RoundsHeld code body room.words body.inputs body.halos (halo_arrays p)) (λ f. silently f) (λ f. silently f)
      (turned_piece code tables n m Inputs (HasRounds code body room.words body.inputs 0 [] []) (λ s f h. record { held = h.has; round = tt })) (halos_first p.halos halos) (λ f. refl)

  abbrev whole : Env → Result (After Env) Trap
  whole f = looped body (halo_arrays p) [] f

  loop_then : Piece code tables n m (halo_moves 0 p.halos ++ (instr.Loop body ∷ folds_over p.folds)) Inputs (Nothing code tables n m) whole
  loop_then =
      same_piece code tables n m (halo_moves 0 p.halos ++ (instr.Loop body ∷ folds_over p.folds)) Inputs (Nothing code tables n m) (λ f. one_after (silently f) whole) whole (λ f. behind_nothing f (whole f))
      (pieces_join code tables n m (halo_moves 0 p.halos) (instr.Loop body ∷ folds_over p.folds) Inputs (RoundsHeld code body room.words body.inputs body.halos (halo_arrays p)) (Nothing code tables n m) (λ f. silently f) whole halos_then
      (loop_piece code tables n m room.words body (halo_arrays p) there cut outs_once words_once alike reads) (λ f. refl))

  moves_first : Piece code tables n m (input_moves room d p.leader 0 p.inputs) (CutNeeds room d p) Inputs (λ f. silently (moved_env room d p.leader 0 p.inputs f))
  moves_first =
      let From = HasInputs code body room d p.inputs (room.slots + 0) [] in
      pieces_join code tables n m [] (input_moves room d p.leader 0 p.inputs) (CutNeeds room d p) From Inputs (λ f. silently f) (λ f. silently (moved_env room d p.leader 0 p.inputs f))
      (turned_piece code tables n m (CutNeeds room d p) From (λ s f h. record { values = h.has.values; vector = h.has.vector; fit = h.has.inputs; own = tt }))
      (inputs_piece code tables n m room d body (length p.inputs) lies 0 p.inputs [] (omega arith)) (λ f. refl)

  -- moves, halos, the loop and the reduction of its folds make what the loop makes of the vectors that stand where it reads them
  pub cut_loop : Piece code tables n m (cut_code room d p) (CutNeeds room d p) (Nothing code tables n m) (λ f. looped (cut_body room d p) (halo_arrays p) [] (moved_env room d p.leader 0 p.inputs f))
  cut_loop =
      same_piece code tables n m (cut_code room d p) (CutNeeds room d p) (Nothing code tables n m) (λ f. one_after (silently (moved_env room d p.leader 0 p.inputs f)) whole) (λ f. whole (moved_env room d p.leader 0 p.inputs f))
      (λ f. behind_nothing (moved_env room d p.leader 0 p.inputs f) (whole (moved_env room d p.leader 0 p.inputs f)))
      (pieces_join code tables n m (input_moves room d p.leader 0 p.inputs) (halo_moves 0 p.halos ++ (instr.Loop body ∷ folds_over p.folds)) (CutNeeds room d p) Inputs (Nothing code tables n m)
      (λ f. silently (moved_env room d p.leader 0 p.inputs f)) whole moves_first loop_then (λ f. refl))
