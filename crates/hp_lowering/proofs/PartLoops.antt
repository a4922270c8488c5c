-- The loops of a code are the program's loops.
use Rattle.std.proofs.Common.{◌≡◌, ◌∙◌, refl, sym, subst, ap, arith, inl, inr, cond, Bool, true, false, ℕ, zero, suc, ◌+◌, ◌<◌, ◌≤◌, List, [], ◌∷◌, ◌++◌, length, map, take, Some, None}
use Rattle.std.specs.Prelude.{flat_map, replicate}
use Rattle.std.specs.List.{AllByRecursion, AllZip, list_any}
use Rattle.hp_word.specs.declared.place.Place.{Place}
use Rattle.hp_lattice.specs.declared.dist.Dist.{Dist}
use Rattle.hp_lattice.specs.declared.dist.Dist.TheVariants.{Var}
use Rattle.hp_spmd.specs.declared.instr.CheckRule.TheVariants.{Equal, Some as SomePlace}
use Rattle.hp_spmd.specs.declared.instr.Folding.{Folding}
use Rattle.hp_spmd.specs.declared.instr.Instr.{Instr}
use Rattle.hp_spmd.specs.declared.instr.Instr.TheVariants as instr
use Rattle.hp_spmd.specs.declared.instr.Loop.{Loop}
use Rattle.hp_spmd.specs.declared.instr.Need.TheVariants.{Like}
use Rattle.hp_spmd.specs.declared.instr.Unpacking.TheVariants.{Halo as Haloed, Moved}
use Rattle.hp_spmd.specs.Store as store
use Rattle.hp_spmd.specs.Store.{instr_at}
use Rattle.hp_program.specs.Programs.{Prog, stop, plain, choose, loop, operations}
use Rattle.hp_air.specs.declared.slot.Slot.{Slot}
use Rattle.hp_air.specs.declared.what.What.{What}
use Rattle.hp_air.specs.declared.what.What.TheVariants as what
use Rattle.hp_air.specs.Placed.{dist_at}
use Rattle.hp_parfor.specs.declared.parfor.Halo.{Halo}
use Rattle.hp_parfor.specs.declared.parfor.Parfor.{Parfor}
use Rattle.hp_parfor.specs.LoopMeaning.{is_moved, is_replicated, needs_some}
use Rattle.hp_parfor.specs.Parts.{Part, Does, Loops}
use Rattle.hp_parfor.specs.Talk.{Pack, Talk, dealt}
use Rattle.hp_exchange.specs.Halos.{halo_code}
use Rattle.hp_exchange.specs.Ranges.{move_code}
use Rattle.hp_lowering.specs.CodeLaws.{LoweredArrays, LoweredFollows, LoweredLoops}
use Rattle.hp_lowering.specs.CodeOf.{code_from, code_list}
use Rattle.hp_lowering.specs.Follows.{HasInstr, IsHaloAs, IsLoopOf, IsPack, IsReadAs, loops_in, packed_in, parfors_in}
use Rattle.hp_lowering.specs.PartCode.{checks, copied_or_dealt, folds_over, halo_moves, halos_at, input_moves, inputs_at, loop_code, loop_instr, part_code, whole_code, whole_halos}
use Rattle.hp_lowering.specs.Room.{Room, greatest, room_of, spare, spares_of}
use Rattle.hp_lowering.proofs.CodeLists.{code_loops, loops_join}
use Rattle.hp_lowering.proofs.PartPacks.{lowered_packs}

-- ---- what stands among the instructions

-- what stands in the first stands in the second
abbrev Stand : List Instr → List Instr → Type 0
Stand xs list = (i : Instr) → HasInstr xs i → HasInstr list i

stand_behind : (x : Instr) (xs : List Instr) → Stand xs (x ∷ xs)
stand_behind x xs i h = let lt = h.1 in (suc h.0, omega (arith, lt), h.2)

left_at : (xs ys : List Instr) (i : Instr) (k : ℕ) → k < length xs → instr_at xs k ≡ i → HasInstr (xs ++ ys) i
left_at [] ys i k lt e = absurd (omega (arith, lt))
left_at (x ∷ xs) ys i zero lt e = (0, omega arith, e)
left_at (x ∷ xs) ys i (suc k) lt e = stand_behind x (xs ++ ys) i (left_at xs ys i k (omega (arith, lt)) e)

stand_left : (xs ys : List Instr) → Stand xs (xs ++ ys)
stand_left xs ys i h = left_at xs ys i h.0 h.1 h.2

stand_right : (xs ys : List Instr) → Stand ys (xs ++ ys)
stand_right [] ys i h = h
stand_right (x ∷ xs) ys i h = stand_behind x (xs ++ ys) i (stand_right xs ys i h)

-- ---- the steps of a program

-- the instructions of each step stand among these
abbrev EachStands : (Part → List Instr) → List Instr → List Part → Type 0
EachStands steps list parts = AllByRecursion (λ part. Stand (steps part) list) parts

each_join : (steps : Part → List Instr) (list : List Instr) (xs ys : List Part) → EachStands steps list xs → EachStands steps list ys → EachStands steps list (xs ++ ys)
each_join steps list [] ys h k = k
each_join steps list (x ∷ xs) ys h k = (h.0, each_join steps list xs ys h.1 k)

steps_stand : (steps : Part → List Instr) (list : List Instr) (place : ℕ) (p : Prog Part) → Stand (code_from steps place p) list → EachStands steps list (operations p)
unfolding code_from operations
steps_stand steps list place stop h = tt
steps_stand steps list place (plain op p) h =
    let rest = code_from steps (place + length (steps op)) p in
    (λ i s. h i (stand_left (steps op) rest i s), steps_stand steps list (place + length (steps op)) p (λ i s. h i (stand_right (steps op) rest i s)))
steps_stand steps list place (choose w first second p) h =
    let yes_code = code_from steps (place + 1) first in
    let other = place + length yes_code + 2 in
    let no_code = code_from steps other second in
    let behind = other + length no_code in
    let last = code_from steps behind p in
    let there = instr.Jump behind None in
    let inside : Stand (yes_code ++ (there ∷ (no_code ++ last))) list = λ i s. h i (stand_behind (instr.Jump other (Some w)) (yes_code ++ (there ∷ (no_code ++ last))) i s) in
    let beyond : Stand (no_code ++ last) list = λ i s. inside i (stand_right yes_code (there ∷ (no_code ++ last)) i (stand_behind there (no_code ++ last) i s)) in
    each_join steps list (operations first ++ operations second) (operations p)
    (each_join steps list (operations first) (operations second) (steps_stand steps list (place + 1) first (λ i s. inside i (stand_left yes_code (there ∷ (no_code ++ last)) i s)))
    (steps_stand steps list other second (λ i s. beyond i (stand_left no_code last i s))))
    (steps_stand steps list behind p (λ i s. beyond i (stand_right no_code last i s)))
steps_stand steps list place (loop test w body p) h =
    let look = code_from steps place test in
    let inside = place + length look + 1 in
    let turn = code_from steps inside body in
    let behind = inside + length turn + 1 in
    let last = code_from steps behind p in
    let go = instr.Jump behind (Some w) in
    let back = instr.Jump place None in
    let within : Stand (turn ++ (back ∷ last)) list = λ i s. h i (stand_right look (go ∷ (turn ++ (back ∷ last))) i (stand_behind go (turn ++ (back ∷ last)) i s)) in
    each_join steps list (operations test ++ operations body) (operations p)
    (each_join steps list (operations test) (operations body) (steps_stand steps list place test (λ i s. h i (stand_left look (go ∷ (turn ++ (back ∷ last))) i s)))
    (steps_stand steps list inside body (λ i s. within i (stand_left turn (back ∷ last) i s))))
    (steps_stand steps list behind p (λ i s. within i (stand_right turn (back ∷ last) i (stand_behind back last i s))))

-- ---- operations on whole arrays

copy_loops : (ps : List Pack) (outs ins : List ℕ) → loops_in (copied_or_dealt ps outs ins) ≡ []
copy_loops [] outs ins = refl
copy_loops (p ∷ ps) outs ins = refl

whole_loops : (room : Room) (slots : List Slot) (d : ℕ → Dist) (alone : Bool) (at : Place) (w : What) → loops_in (whole_code room slots d alone at w) ≡ []
unfolding whole_code
whole_loops room slots d alone at (what.Copy outs ins) = copy_loops (cond alone [] (dealt slots d outs ins)) outs ins
whole_loops room slots d true at (what.Scan out array) = refl
whole_loops room slots d false at (what.Scan out array) = refl
whole_loops room slots d true at (what.Concat out left right) = refl
whole_loops room slots d false at (what.Concat out left right) = refl
whole_loops room slots d alone at _ = refl

-- ---- loops

checks_loops : (p : Parfor) (xs : List Instr) → loops_in (checks p ++ xs) ≡ loops_in xs
checks_loops p xs = by_case (list_any (λ (f : Folding). needs_some f.kind) p.folds)
  where
    by_case : (b : Bool) → loops_in ((instr.Check (p.leader ∷ p.inputs) Equal p.at ∷ cond b (instr.Check (p.leader ∷ []) SomePlace p.at ∷ []) []) ++ xs) ≡ loops_in xs
    by_case true = refl
    by_case false = refl

input_loops : (b : Bool) (to x leader : ℕ) (rest : List Instr) → loops_in rest ≡ [] → loops_in (cond b (move_code (to ∷ []) (x ∷ []) (Like leader)) [] ++ rest) ≡ []
input_loops true to x leader rest h = h
input_loops false to x leader rest h = h

inputs_loops : (room : Room) (d : ℕ → Dist) (leader i : ℕ) (xs : List ℕ) → loops_in (input_moves room d leader i xs) ≡ []
inputs_loops room d leader i [] = refl
inputs_loops room d leader i (x ∷ xs) = input_loops (is_moved d leader x) (spare room i) x leader (input_moves room d leader (suc i) xs) (inputs_loops room d leader (suc i) xs)

halos_loops : (i : ℕ) (hs : List Halo) → loops_in (halo_moves i hs) ≡ []
halos_loops i [] = refl
halos_loops i (h ∷ hs) = halos_loops (suc i) hs

folds_loops : (fs : List Folding) → loops_in (folds_over fs) ≡ []
folds_loops [] = refl
folds_loops (f ∷ fs) = refl

-- the inputs as they are read
read_alone : (list : List Instr) (leader : ℕ) (xs : List ℕ) → AllZip (IsReadAs list leader) xs xs
read_alone list leader [] = tt
read_alone list leader (x ∷ xs) = (inl refl, read_alone list leader xs)

one_read : (list : List Instr) (b : Bool) (to x leader : ℕ) (rest : List Instr) → Stand (cond b (move_code (to ∷ []) (x ∷ []) (Like leader)) [] ++ rest) list → IsReadAs list leader x (cond b to x)
one_read list true to x leader rest h = inr (h (instr.Unpack (Moved (to ∷ []) (x ∷ []) (Like leader))) (3, omega arith, refl))
one_read list false to x leader rest h = inl refl

read_moved : (list : List Instr) (room : Room) (d : ℕ → Dist) (leader i : ℕ) (xs : List ℕ) → Stand (input_moves room d leader i xs) list → AllZip (IsReadAs list leader) xs (inputs_at room d leader i xs)
read_moved list room d leader i [] h = tt
read_moved list room d leader i (x ∷ xs) h =
    let here = cond (is_moved d leader x) (move_code (spare room i ∷ []) (x ∷ []) (Like leader)) [] in
    let rest = input_moves room d leader (suc i) xs in
    (one_read list (is_moved d leader x) (spare room i) x leader rest h, read_moved list room d leader (suc i) xs (λ j s. h j (stand_right here rest j s)))

halos_alone : (list : List Instr) (hs : List Halo) → AllZip (IsHaloAs list) hs (whole_halos hs)
halos_alone list [] = tt
halos_alone list (h ∷ hs) = (inl refl, halos_alone list hs)

halos_moved : (list : List Instr) (i : ℕ) (hs : List Halo) → Stand (halo_moves i hs) list → AllZip (IsHaloAs list) hs (halos_at i hs)
halos_moved list i [] stand = tt
halos_moved list i (h ∷ hs) stand =
    let here = halo_code h.array h.reach i in
    let rest = halo_moves (suc i) hs in
    (inr (i, refl, stand (instr.Unpack (Haloed i h.array h.reach)) (3, omega arith, refl)), halos_moved list (suc i) hs (λ j s. stand j (stand_right here rest j s)))

abbrev AreLoops : List Instr → List Loop → List Parfor → Type 0
AreLoops list ls ps = AllZip (IsLoopOf list) ls ps

loop_loops : (list : List Instr) (room : Room) (d : ℕ → Dist) (p : Parfor) → Stand (loop_code room d p) list → AreLoops list (loops_in (loop_code room d p)) (p ∷ [])
unfolding loop_code
loop_loops list room d p = by_case (is_replicated d (Loops p))
  where
    by_case : (b : Bool)
        → Stand (cond b (checks p ++ (loop_instr p.inputs (whole_halos p.halos) p ∷ [])) (checks p ++ (input_moves room d p.leader 0 p.inputs ++ (halo_moves 0 p.halos ++ (loop_instr (inputs_at room d p.leader 0 p.inputs) (halos_at 0 p.halos) p ∷ folds_over p.folds))))) list
        → AreLoops list
        (loops_in (cond b (checks p ++ (loop_instr p.inputs (whole_halos p.halos) p ∷ [])) (checks p ++ (input_moves room d p.leader 0 p.inputs ++ (halo_moves 0 p.halos ++ (loop_instr (inputs_at room d p.leader 0 p.inputs) (halos_at 0 p.halos) p ∷ folds_over p.folds))))))
        (p ∷ [])
    by_case true stand =
        subst (λ ls. AreLoops list ls (p ∷ [])) (sym (checks_loops p (loop_instr p.inputs (whole_halos p.halos) p ∷ [])))
        (record { leader = refl; inputs = read_alone list p.leader p.inputs; halos = halos_alone list p.halos; lets = refl; outs = refl; folds = refl }, tt)
    by_case false stand =
        let moves = input_moves room d p.leader 0 p.inputs in
        let around = halo_moves 0 p.halos in
        let l = loop_instr (inputs_at room d p.leader 0 p.inputs) (halos_at 0 p.halos) p in
        let last = l ∷ folds_over p.folds in
        let behind : Stand (moves ++ (around ++ last)) list = λ i s. stand i (stand_right (checks p) (moves ++ (around ++ last)) i s) in
        let beyond : Stand (around ++ last) list = λ i s. behind i (stand_right moves (around ++ last) i s) in
        let same = checks_loops p (moves ++ (around ++ last)) ∙ loops_join moves (around ++ last) ∙ ap (λ ls. ls ++ loops_in (around ++ last)) (inputs_loops room d p.leader 0 p.inputs) ∙ loops_join around last
        ∙ ap (λ ls. ls ++ loops_in last) (halos_loops 0 p.halos) in
        subst (λ ls. AreLoops list ls (p ∷ [])) (sym same)
        (subst (λ ls. AreLoops list (record { leader = p.leader; inputs = inputs_at room d p.leader 0 p.inputs; halos = halos_at 0 p.halos; lets = p.lets; outs = p.outs; folds = p.folds } ∷ ls) (p ∷ [])) (sym (folds_loops p.folds)) (
          record {
            leader = refl;
            inputs = read_moved list room d p.leader 0 p.inputs (λ i s. behind i (stand_left moves (around ++ last) i s));
            halos = halos_moved list 0 p.halos (λ i s. beyond i (stand_left around last i s));
            lets = refl;
            outs = refl;
            folds = refl;
          },
          tt,
        ))

-- ---- all

parts_loops : (list : List Instr) (room : Room) (slots : List Slot) (d : ℕ → Dist) (parts : List Part) → EachStands (part_code room slots d) list parts → AreLoops list (flat_map (λ part. loops_in (part_code room slots d part)) parts) (parfors_in parts)
unfolding part_code
parts_loops list room slots d [] h = tt
parts_loops list room slots d (Does op ∷ parts) h =
    let rest = flat_map (λ part. loops_in (part_code room slots d part)) parts in
    subst (λ ls. AreLoops list (ls ++ rest) (parfors_in parts)) (sym (whole_loops room slots d (is_replicated d (Does op)) op.at op.what)) (parts_loops list room slots d parts h.1)
parts_loops list room slots d (Loops p ∷ parts) h =
    loops_append list (loops_in (loop_code room d p)) (p ∷ []) (flat_map (λ part. loops_in (part_code room slots d part)) parts) (parfors_in parts) (loop_loops list room d p h.0) (parts_loops list room slots d parts h.1)
  where
    loops_append : (list : List Instr) (a : List Loop) (b : List Parfor) (c : List Loop) (e : List Parfor) → AreLoops list a b → AreLoops list c e → AreLoops list (a ++ c) (b ++ e)
    loops_append list [] [] c e h k = k
    loops_append list [] (y ∷ b) c e h k = absurd h
    loops_append list (x ∷ a) [] c e h k = absurd h
    loops_append list (x ∷ a) (y ∷ b) c e h k = (h.0, loops_append list a b c e h.1 k)

pub lowered_loops : LoweredLoops
unfolding code_list
lowered_loops slots words p dists =
    let room = room_of slots words in
    let steps = part_code room slots (dist_at dists) in
    let list = code_from steps 0 p ++ (instr.Halt ∷ []) in
    subst (λ ls. AreLoops list ls (parfors_in (operations p))) (sym (code_loops steps p))
    (parts_loops list room slots (dist_at dists) (operations p) (steps_stand steps list 0 p (stand_left (code_from steps 0 p) (instr.Halt ∷ []))))

-- ---- arrays

front_dist : (n k : ℕ) (xs ys : List Dist) → k < n → n ≤ length xs → store.dist_at (take n xs ++ ys) k ≡ dist_at xs k
front_dist zero k xs ys lt le = absurd (omega (arith, lt))
front_dist (suc n) k [] ys lt le = absurd (omega (arith, le))
front_dist (suc n) zero (x ∷ xs) ys lt le = refl
front_dist (suc n) (suc k) (x ∷ xs) ys lt le = front_dist n k xs ys (omega (arith, lt)) (omega (arith, le))

pub lowered_arrays : LoweredArrays
lowered_arrays slots p dists k each lt = front_dist (length slots) k dists (replicate (greatest (map spares_of (operations p))) Var) lt each

pub lowered_follows : LoweredFollows
lowered_follows slots words p dists code list arrays each built =
    record {
      packs = subst (λ l. AllZip (IsPack words) (packed_in l) (Talk slots p dists)) (sym list) (lowered_packs slots words p dists built);
      loops = subst (λ l. AllZip (IsLoopOf l) (loops_in l) (parfors_in (operations p))) (sym list) (lowered_loops slots words p dists);
      arrays = λ k lt. ap (λ ds. store.dist_at ds k) arrays ∙ lowered_arrays slots p dists k each lt;
    }
