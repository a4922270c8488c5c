-- The packs of a code are what the ranks send for its program.
use Rattle.std.proofs.Common.{◌≡◌, ◌∙◌, refl, sym, subst, ap, arith, cond, Bool, true, false, ℕ, suc, ◌≤◌, List, [], ◌∷◌, ◌++◌, append_assoc, map}
use Rattle.std.specs.Prelude.{◌&&◌, filter, flat_map}
use Rattle.std.specs.Bool.{IsTrue}
use Rattle.std.proofs.lemmas.Bool.{false≢true}
use Rattle.std.specs.List.{AllByRecursion, AllZip, list_any}
use Rattle.hp_word.specs.declared.place.Place.{Place}
use Rattle.hp_lattice.specs.declared.dist.Dist.{Dist}
use Rattle.hp_spmd.specs.declared.instr.CheckRule.TheVariants.{Equal, Some}
use Rattle.hp_spmd.specs.declared.instr.Folding.{Folding}
use Rattle.hp_spmd.specs.declared.instr.HaloFrom.{HaloFrom}
use Rattle.hp_spmd.specs.declared.instr.Instr.{Instr}
use Rattle.hp_spmd.specs.declared.instr.Instr.TheVariants as instr
use Rattle.hp_spmd.specs.declared.instr.Need.TheVariants.{Like, Blocks, Wide}
use Rattle.hp_spmd.specs.declared.instr.Packing.{Packing}
use Rattle.hp_program.specs.Programs.{operations}
use Rattle.hp_air.specs.declared.slot.Slot.{Slot}
use Rattle.hp_air.specs.declared.what.What.{What}
use Rattle.hp_air.specs.declared.what.What.TheVariants as what
use Rattle.hp_air.specs.Frames.{slot_at}
use Rattle.hp_air.specs.Placed.{dist_at}
use Rattle.hp_parfor.specs.declared.parfor.Halo.{Halo}
use Rattle.hp_parfor.specs.declared.parfor.Parfor.{Parfor}
use Rattle.hp_parfor.specs.LoopMeaning.{is_moved, is_replicated, is_var, needs_some}
use Rattle.hp_parfor.specs.Parts.{Part, Does, Loops, loop_words}
use Rattle.hp_parfor.specs.Talk.{Pack, Moves, Talk, dealt, folds_sent, loop_sends, moved_like, output_sends, part_sends, whole_sends}
use Rattle.hp_exchange.specs.Ranges.{move_code}
use Rattle.hp_lowering.specs.CodeLaws.{LoweredPacks}
use Rattle.hp_lowering.specs.CodeOf.{code_list}
use Rattle.hp_lowering.specs.Follows.{IsPack, packed_in, of_words, of_own_word, of_moves, of_word, of_list}
use Rattle.hp_lowering.specs.PartCode.{checks, copied_or_dealt, folds_over, halo_moves, halos_at, input_moves, inputs_at, is_part_built, is_whole_built, loop_code, loop_instr, part_code, whole_code, whole_halos}
use Rattle.hp_lowering.specs.Room.{Room, room_of, spare}
use Rattle.hp_lowering.proofs.CodeLists.{code_packs, packed_join}

-- packs that are what is sent, one for one
abbrev Sends : ℕ → List Packing → List Pack → Type 0
Sends words ps qs = AllZip (IsPack words) ps qs

sends_join : (words : ℕ) (a c : List Packing) (b d : List Pack) → Sends words a b → Sends words c d → Sends words (a ++ c) (b ++ d)
sends_join words [] c [] d h k = k
sends_join words [] c (y ∷ b) d h k = absurd h
sends_join words (x ∷ a) c [] d h k = absurd h
sends_join words (x ∷ a) c (y ∷ b) d h k = (h.0, sends_join words a c b d h.1 k)

-- ---- operations on whole arrays

-- nothing is sent
none_sent : (words : ℕ) (b : Bool) → Sends words [] (cond b [] [] ++ [])
none_sent words true = tt
none_sent words false = tt

-- one output alone
output_sent : (words : ℕ) (b : Bool) (p : Packing) (q : Pack) → IsPack words p q → Sends words (p ∷ []) (cond b [] [] ++ q ∷ [])
output_sent words true p q h = (h, tt)
output_sent words false p q h = (h, tt)

dealt_sent : (words : ℕ) (alone c : Bool) (k x : ℕ) → Sends words (packed_in (copied_or_dealt (cond alone [] (cond c (Moves (x ∷ []) Blocks ∷ []) [])) (k ∷ []) (x ∷ []))) (cond alone [] (cond c (Moves (x ∷ []) Blocks ∷ []) []) ++ [])
dealt_sent words true c k x = tt
dealt_sent words false true k x = (of_moves, tt)
dealt_sent words false false k x = tt

copied_sent : (words : ℕ) (alone : Bool) (outs ins : List ℕ) → Sends words (packed_in (copied_or_dealt (cond alone [] []) outs ins)) (cond alone [] [] ++ [])
copied_sent words true outs ins = tt
copied_sent words false outs ins = tt

copy_sent : (words : ℕ) (slots : List Slot) (d : ℕ → Dist) (alone : Bool) (outs ins : List ℕ) → Sends words (packed_in (copied_or_dealt (cond alone [] (dealt slots d outs ins)) outs ins)) (cond alone [] (dealt slots d outs ins) ++ [])
copy_sent words slots d alone [] ins = copied_sent words alone [] ins
copy_sent words slots d alone (k ∷ []) [] = copied_sent words alone (k ∷ []) []
copy_sent words slots d alone (k ∷ []) (x ∷ []) = dealt_sent words alone ((slot_at slots k).balanced && is_var (d x)) k x
copy_sent words slots d alone (k ∷ []) (x ∷ y ∷ ins) = copied_sent words alone (k ∷ []) (x ∷ y ∷ ins)
copy_sent words slots d alone (k ∷ j ∷ outs) ins = copied_sent words alone (k ∷ j ∷ outs) ins

whole_sent : (room : Room) (slots : List Slot) (d : ℕ → Dist) (alone : Bool) (at : Place) (w : What) → IsTrue (is_whole_built w)
    → Sends room.words (packed_in (whole_code room slots d alone at w)) (cond alone [] (whole_sends slots d w) ++ output_sends w)
unfolding whole_code whole_sends output_sends
whole_sent room slots d alone at (what.Const to value) built = none_sent room.words alone
whole_sent room slots d alone at (what.Calc to op left right) built = none_sent room.words alone
whole_sent room slots d alone at (what.Length to array) built = none_sent room.words alone
whole_sent room slots d alone at (what.Fill out value count) built = none_sent room.words alone
whole_sent room slots d alone at (what.Range out first last) built = none_sent room.words alone
whole_sent room slots d alone at (what.Copy outs ins) built = copy_sent room.words slots d alone outs ins
whole_sent room slots d true at (what.Scan out array) built = tt
whole_sent room slots d false at (what.Scan out array) built = let own : room.words ≤ room.words = omega arith in (of_own_word own, tt)
whole_sent room slots d true at (what.Concat out left right) built = tt
whole_sent room slots d false at (what.Concat out left right) built = (of_moves, (of_moves, tt))
whole_sent room slots d alone at (what.At to array index) built = none_sent room.words alone
whole_sent room slots d alone at (what.Pick out array index) built = none_sent room.words alone
whole_sent room slots d true at (what.PrintWord word truth) built = (of_word, tt)
whole_sent room slots d false at (what.PrintWord word truth) built = (of_word, tt)
whole_sent room slots d true at (what.PrintList array truth) built = (of_list, tt)
whole_sent room slots d false at (what.PrintList array truth) built = (of_list, tt)
whole_sent room slots d alone at _ built = absurd (false≢true built)

-- ---- loops

checks_sent : (p : Parfor) (xs : List Instr) → packed_in (checks p ++ xs) ≡ packed_in xs
checks_sent p xs = by_case (list_any (λ (f : Folding). needs_some f.kind) p.folds)
  where
    by_case : (b : Bool) → packed_in ((instr.Check (p.leader ∷ p.inputs) Equal p.at ∷ cond b (instr.Check (p.leader ∷ []) Some p.at ∷ []) []) ++ xs) ≡ packed_in xs
    by_case true = refl
    by_case false = refl

input_sent : (words : ℕ) (b : Bool) (to x leader : ℕ) (rest : List Instr) (ys : List ℕ) → Sends words (packed_in rest) (map (λ y. Moves (y ∷ []) (Like leader)) ys)
    → Sends words (packed_in (cond b (move_code (to ∷ []) (x ∷ []) (Like leader)) [] ++ rest)) (map (λ y. Moves (y ∷ []) (Like leader)) (cond b (x ∷ ys) ys))
input_sent words true to x leader rest ys h = (of_moves, h)
input_sent words false to x leader rest ys h = h

inputs_sent : (room : Room) (d : ℕ → Dist) (leader i : ℕ) (xs : List ℕ) → Sends room.words (packed_in (input_moves room d leader i xs)) (moved_like d leader xs)
inputs_sent room d leader i [] = tt
inputs_sent room d leader i (x ∷ xs) =
    input_sent room.words (is_moved d leader x) (spare room i) x leader (input_moves room d leader (suc i) xs) (filter (is_moved d leader) xs) (inputs_sent room d leader (suc i) xs)

halos_sent : (words i : ℕ) (hs : List Halo) → Sends words (packed_in (halo_moves i hs)) (map (λ (h : Halo). Moves (h.array ∷ []) (Wide h.reach)) hs)
halos_sent words i [] = tt
halos_sent words i (h ∷ hs) = (of_moves, halos_sent words (suc i) hs)

last_sent : (words : ℕ) (inputs : List ℕ) (halos : List HaloFrom) (p : Parfor) (folds : List Folding) → Sends words (packed_in (loop_instr inputs halos p ∷ folds_over folds)) (folds_sent (map (λ (f : Folding). f.word) folds))
last_sent words inputs halos p [] = tt
last_sent words inputs halos p (f ∷ fs) = (of_words, tt)

around_sent : (room : Room) (d : ℕ → Dist) (p : Parfor) (inputs : List ℕ) (halos : List HaloFrom)
    → Sends room.words (packed_in (checks p ++ (input_moves room d p.leader 0 p.inputs ++ (halo_moves 0 p.halos ++ (loop_instr inputs halos p ∷ folds_over p.folds))))) (loop_sends d p)
unfolding loop_sends
around_sent room d p inputs halos =
    let moves = input_moves room d p.leader 0 p.inputs in
    let around = halo_moves 0 p.halos in
    let last = loop_instr inputs halos p ∷ folds_over p.folds in
    let a = moved_like d p.leader p.inputs in
    let b = map (λ (h : Halo). Moves (h.array ∷ []) (Wide h.reach)) p.halos in
    let c = folds_sent (loop_words p) in
    subst (λ ps. Sends room.words ps ((a ++ b) ++ c)) (sym (checks_sent p (moves ++ (around ++ last)) ∙ packed_join moves (around ++ last) ∙ ap (λ l. packed_in moves ++ l) (packed_join around last)))
    (subst (λ qs. Sends room.words (packed_in moves ++ (packed_in around ++ packed_in last)) qs) (sym (append_assoc a b c))
    (sends_join room.words (packed_in moves) (packed_in around ++ packed_in last) a (b ++ c) (inputs_sent room d p.leader 0 p.inputs)
    (sends_join room.words (packed_in around) (packed_in last) b c (halos_sent room.words 0 p.halos) (last_sent room.words inputs halos p p.folds))))

loop_sent : (room : Room) (d : ℕ → Dist) (p : Parfor) → Sends room.words (packed_in (loop_code room d p)) (cond (is_replicated d (Loops p)) [] (loop_sends d p))
unfolding loop_code
loop_sent room d p = by_case (is_replicated d (Loops p))
  where
    by_case : (b : Bool) → Sends room.words
        (packed_in (cond b (checks p ++ (loop_instr p.inputs (whole_halos p.halos) p ∷ [])) (checks p ++ (input_moves room d p.leader 0 p.inputs ++ (halo_moves 0 p.halos ++ (loop_instr (inputs_at room d p.leader 0 p.inputs) (halos_at 0 p.halos) p ∷ folds_over p.folds))))))
        (cond b [] (loop_sends d p))
    by_case true = subst (λ ps. Sends room.words ps []) (sym (checks_sent p (loop_instr p.inputs (whole_halos p.halos) p ∷ []))) tt
    by_case false = around_sent room d p (inputs_at room d p.leader 0 p.inputs) (halos_at 0 p.halos)

-- ---- steps

part_sent : (room : Room) (slots : List Slot) (d : ℕ → Dist) (part : Part) → IsTrue (is_part_built part) → Sends room.words (packed_in (part_code room slots d part)) (part_sends slots d part)
unfolding part_code part_sends
part_sent room slots d (Does op) built = whole_sent room slots d (is_replicated d (Does op)) op.at op.what built
part_sent room slots d (Loops p) built = loop_sent room d p

parts_sent : (room : Room) (slots : List Slot) (d : ℕ → Dist) (parts : List Part) → AllByRecursion (λ part. IsTrue (is_part_built part)) parts
    → Sends room.words (flat_map (λ part. packed_in (part_code room slots d part)) parts) (flat_map (part_sends slots d) parts)
parts_sent room slots d [] built = tt
parts_sent room slots d (part ∷ parts) built =
    sends_join room.words (packed_in (part_code room slots d part)) (flat_map (λ part. packed_in (part_code room slots d part)) parts) (part_sends slots d part) (flat_map (part_sends slots d) parts)
    (part_sent room slots d part built.0) (parts_sent room slots d parts built.1)

pub lowered_packs : LoweredPacks
unfolding code_list Talk
lowered_packs slots words p dists built =
    let room = room_of slots words in
    subst (λ ps. Sends words ps (flat_map (part_sends slots (dist_at dists)) (operations p))) (sym (code_packs (part_code room slots (dist_at dists)) p))
    (parts_sent room slots (dist_at dists) (operations p) built)
