-- The code of each step is straight, and is the work of its units.
use Rattle.std.proofs.Common.{◌≡◌, ◌∙◌, refl, sym, subst, ap, arith, cond, Bool, true, false, ℕ, suc, ◌+◌, ◌-◌, ◌*◌, ◌≤◌, List, [], ◌∷◌, ◌++◌, append-nil, length, map}
use Rattle.std.specs.Prelude.{count_by, sum}
use Rattle.std.specs.List.{AllByRecursion, list_any}
use Rattle.std.proofs.Math.Nat.{mul_comm, add-mul}
use Rattle.std.proofs.lemmas.List.{length-append, map-append}
use Rattle.std.proofs.lemmas.List.Sums.{sum_by-append, sum_by-cons}
use Rattle.hp_word.specs.declared.place.Place.{Place}
use Rattle.hp_lattice.specs.declared.dist.Dist.{Dist}
use Rattle.hp_spmd.specs.declared.instr.CheckRule.TheVariants.{Equal, Some}
use Rattle.hp_spmd.specs.declared.instr.Folding.{Folding}
use Rattle.hp_spmd.specs.declared.instr.Instr.{Instr}
use Rattle.hp_spmd.specs.declared.instr.Instr.TheVariants as instr
use Rattle.hp_spmd.specs.declared.instr.HaloFrom.{HaloFrom}
use Rattle.hp_spmd.specs.declared.instr.Need.TheVariants.{Like, Blocks}
use Rattle.hp_spmd.specs.declared.instr.Output.TheVariants as output
use Rattle.hp_spmd.specs.Exchanges.{Outside}
use Rattle.hp_spmd.specs.Kinds.{Kind, kind_of}
use Rattle.hp_spmd.proofs.Forms.{leads_join, sizes_join}
use Rattle.hp_turns.specs.Apart.{price}
use Rattle.hp_program.specs.Programs.{operations}
use Rattle.hp_air.specs.declared.slot.Slot.{Slot}
use Rattle.hp_air.specs.declared.what.What.{What}
use Rattle.hp_air.specs.declared.what.What.TheVariants as what
use Rattle.hp_air.specs.Meaning.{has_balanced, units}
use Rattle.hp_air.specs.Placed.{dist_at}
use Rattle.hp_parfor.specs.declared.parfor.Halo.{Halo}
use Rattle.hp_parfor.specs.declared.parfor.Parfor.{Parfor}
use Rattle.hp_parfor.specs.LoopMeaning.{is_moved, is_replicated, loop_moves, needs_some, part_units}
use Rattle.hp_parfor.specs.Parts.{Part, Does, Loops}
use Rattle.hp_parfor.specs.Talk.{Pack, dealt}
use Rattle.hp_snippet.specs.Promises.{IsNoJump, IsStraight, IsWork, price_of}
use Rattle.hp_alone.proofs.Dealt.{fill_straight, fill_work, range_straight, range_work}
use Rattle.hp_alone.proofs.WordsMade.{at_straight, at_work, calc_straight, calc_work, const_straight, const_work, length_straight, length_work, one_straight}
use Rattle.hp_coll.proofs.Folding.{reduce_straight}
use Rattle.hp_coll.proofs.Lines.{arrive_straight, arrive_work}
use Rattle.hp_coll.proofs.Scanning.{scan_straight, scan_work}
use Rattle.hp_coll.specs.Arriving.{arrive_code}
use Rattle.hp_coll.specs.Scanning.{scan_code}
use Rattle.hp_exchange.specs.Concats.{concat_code}
use Rattle.hp_exchange.specs.Halos.{halo_code}
use Rattle.hp_exchange.specs.Ranges.{move_code}
use Rattle.hp_exchange.proofs.Concatenating.{concat_straight, concat_work}
use Rattle.hp_exchange.proofs.Haloing.{halo_straight, halo_work}
use Rattle.hp_exchange.proofs.RangeMoves.{move_straight, move_work}
use Rattle.hp_lowering.specs.CodeLaws.{LoweredHasForm, StepsAreStraight, StepsAreWork}
use Rattle.hp_lowering.specs.CodeOf.{code_list}
use Rattle.hp_alone.specs.Joining.{join_code}
use Rattle.hp_alone.specs.Summing.{sums_code}
use Rattle.hp_lowering.specs.PartCode.{checks, copied_or_dealt, folds_over, halo_moves, halos_at, input_moves, inputs_at, loop_code, loop_instr, part_code, whole_code, whole_halos}
use Rattle.hp_lowering.specs.Room.{Room, part_word, room_of, spare, start_word}
use Rattle.hp_lowering.proofs.CodeForm.{code_has_form}

-- ---- straight pieces

straight_none : IsStraight []
straight_none = record { leads = refl; jumps = tt; sizes = tt }

all_join : (xs ys : List Instr) → AllByRecursion (λ i. IsNoJump (kind_of i)) xs → AllByRecursion (λ i. IsNoJump (kind_of i)) ys → AllByRecursion (λ i. IsNoJump (kind_of i)) (xs ++ ys)
all_join [] ys h k = k
all_join (i ∷ xs) ys h k = (h.0, all_join xs ys h.1 k)

straight_join : (xs ys : List Instr) → IsStraight xs → IsStraight ys → IsStraight (xs ++ ys)
straight_join xs ys h k =
    record {
      leads = leads_join Outside Outside Outside xs ys h.leads k.leads;
      jumps = all_join xs ys h.jumps k.jumps;
      sizes = sizes_join xs ys h.sizes k.sizes;
    }

straight_if : (b : Bool) (xs ys : List Instr) → IsStraight xs → IsStraight ys → IsStraight (cond b xs ys)
straight_if true xs ys h k = h
straight_if false xs ys h k = k

-- ---- work that adds up

spread : (m u v : ℕ) → m * u + m * v ≡ m * (u + v)
spread m u v = ap (λ x. x + m * v) (mul_comm m u) ∙ ap (λ x. u * m + x) (mul_comm m v) ∙ sym (add-mul u v m) ∙ mul_comm (u + v) m

bounded : (m u v p q r : ℕ) → r ≡ p + q → p ≤ m * u → q ≤ m * v → r ≤ m * (u + v)
bounded m u v p q r e a b = subst (λ x. r ≤ x) (spread m u v) (omega (arith, e, a, b))

pub price_join : (f : Kind → ℕ) (xs ys : List Instr) → price_of f (xs ++ ys) ≡ price_of f xs + price_of f ys
price_join f xs ys =
    let g = λ (i : Instr). f (kind_of i) in
    ap sum (map-append {A = Instr} {B = ℕ} g xs ys) ∙ sum_by-append {X = ℕ} (λ x. x) (map g xs) (map g ys)

work_none : (u : ℕ) → IsWork u []
work_none u = record { few = omega arith; cheap = λ ranks. omega arith }

work_join : (u v : ℕ) (xs ys : List Instr) → IsWork u xs → IsWork v ys → IsWork (u + v) (xs ++ ys)
work_join u v xs ys h k =
    record {
      few = let l = length-append {A = Instr} xs ys in let a = h.few in let b = k.few in omega (arith, l, a, b);
      cheap = λ ranks. bounded (2 * ranks + 14) u v (price_of (price ranks) xs) (price_of (price ranks) ys) (price_of (price ranks) (xs ++ ys)) (price_join (price ranks) xs ys) (h.cheap ranks) (k.cheap ranks);
    }

-- more units are work enough
work_more : (u v : ℕ) (xs : List Instr) → u ≤ v → IsWork u xs → IsWork v xs
work_more u v xs le h =
    let e : u + (v - u) ≡ v = omega (arith, le) in
    subst (λ n. IsWork n xs) e (subst (IsWork (u + (v - u))) (append-nil xs) (work_join u (v - u) xs [] h (work_none (v - u))))

work_if : (b : Bool) (u v : ℕ) (xs ys : List Instr) → IsWork u xs → IsWork v ys → IsWork (cond b u v) (cond b xs ys)
work_if true u v xs ys h k = h
work_if false u v xs ys h k = k

-- the same units in both cases
work_either : (b : Bool) (u : ℕ) (xs ys : List Instr) → IsWork u xs → IsWork u ys → IsWork u (cond b xs ys)
work_either true u xs ys h k = h
work_either false u xs ys h k = k

-- ---- loops

checks_straight : (p : Parfor) → IsStraight (checks p)
checks_straight p =
    straight_join (instr.Check (p.leader ∷ p.inputs) Equal p.at ∷ []) (cond (list_any (λ (f : Folding). needs_some f.kind) p.folds) (instr.Check (p.leader ∷ []) Some p.at ∷ []) [])
    (one_straight (instr.Check (p.leader ∷ p.inputs) Equal p.at) (instr.Check (p.leader ∷ p.inputs) Equal p.at ∷ []) refl tt refl)
    (straight_if (list_any (λ (f : Folding). needs_some f.kind) p.folds) (instr.Check (p.leader ∷ []) Some p.at ∷ []) []
    (one_straight (instr.Check (p.leader ∷ []) Some p.at) (instr.Check (p.leader ∷ []) Some p.at ∷ []) refl tt refl) straight_none)

checks_work : (p : Parfor) → IsWork 1 (checks p)
checks_work p = by_case (list_any (λ (f : Folding). needs_some f.kind) p.folds)
  where
    by_case : (b : Bool) → IsWork 1 (instr.Check (p.leader ∷ p.inputs) Equal p.at ∷ cond b (instr.Check (p.leader ∷ []) Some p.at ∷ []) [])
    by_case true = record { few = omega arith; cheap = λ ranks. omega arith }
    by_case false = record { few = omega arith; cheap = λ ranks. omega arith }

inputs_straight : (room : Room) (d : ℕ → Dist) (leader i : ℕ) (xs : List ℕ) → IsStraight (input_moves room d leader i xs)
inputs_straight room d leader i [] = straight_none
inputs_straight room d leader i (x ∷ xs) =
    let move = move_code (spare room i ∷ []) (x ∷ []) (Like leader) in
    straight_join (cond (is_moved d leader x) move []) (input_moves room d leader (suc i) xs)
    (straight_if (is_moved d leader x) move [] (move_straight (spare room i ∷ []) (x ∷ []) (Like leader) move refl) straight_none)
    (inputs_straight room d leader (suc i) xs)

inputs_work : (room : Room) (d : ℕ → Dist) (leader i : ℕ) (xs : List ℕ) → IsWork (count_by (is_moved d leader) xs) (input_moves room d leader i xs)
inputs_work room d leader i [] = work_none 0
inputs_work room d leader i (x ∷ xs) =
    let move = move_code (spare room i ∷ []) (x ∷ []) (Like leader) in
    let count = λ (y : ℕ). cond (is_moved d leader y) 1 0 in
    subst (λ n. IsWork n (input_moves room d leader i (x ∷ xs))) (sym (sum_by-cons {X = ℕ} count x xs))
    (work_join (count x) (count_by (is_moved d leader) xs) (cond (is_moved d leader x) move []) (input_moves room d leader (suc i) xs)
    (work_if (is_moved d leader x) 1 0 move [] (move_work (spare room i ∷ []) (x ∷ []) (Like leader) move refl) (work_none 0))
    (inputs_work room d leader (suc i) xs))

halos_straight : (i : ℕ) (hs : List Halo) → IsStraight (halo_moves i hs)
halos_straight i [] = straight_none
halos_straight i (h ∷ hs) =
    let here : List Instr = halo_code h.array h.reach i in
    straight_join here (halo_moves (suc i) hs) (halo_straight h.array h.reach i here refl) (halos_straight (suc i) hs)

halos_work : (i : ℕ) (hs : List Halo) → IsWork (length hs) (halo_moves i hs)
halos_work i [] = work_none 0
halos_work i (h ∷ hs) =
    let here : List Instr = halo_code h.array h.reach i in
    let one : 1 + length hs ≡ suc (length hs) = omega arith in
    subst (λ n. IsWork n (halo_moves i (h ∷ hs))) one (work_join 1 (length hs) here (halo_moves (suc i) hs) (halo_work h.array h.reach i here refl) (halos_work (suc i) hs))

last_straight : (inputs : List ℕ) (halos : List HaloFrom) (p : Parfor) (folds : List Folding) → IsStraight (loop_instr inputs halos p ∷ folds_over folds)
last_straight inputs halos p [] = one_straight (loop_instr inputs halos p) (loop_instr inputs halos p ∷ []) refl tt refl
last_straight inputs halos p (f ∷ fs) =
    straight_join (loop_instr inputs halos p ∷ []) (folds_over (f ∷ fs)) (one_straight (loop_instr inputs halos p) (loop_instr inputs halos p ∷ []) refl tt refl) (reduce_straight (f ∷ fs) (folds_over (f ∷ fs)) refl)

last_work : (inputs : List ℕ) (halos : List HaloFrom) (p : Parfor) (folds : List Folding) → IsWork 1 (loop_instr inputs halos p ∷ folds_over folds)
last_work inputs halos p [] = record { few = omega arith; cheap = λ ranks. omega arith }
last_work inputs halos p (f ∷ fs) = record { few = omega arith; cheap = λ ranks. omega arith }

loop_straight : (room : Room) (d : ℕ → Dist) (p : Parfor) → IsStraight (loop_code room d p)
unfolding loop_code
loop_straight room d p =
    let alone = loop_instr p.inputs (whole_halos p.halos) p ∷ [] in
    let inputs = inputs_at room d p.leader 0 p.inputs in
    let halos = halos_at 0 p.halos in
    let last = loop_instr inputs halos p ∷ folds_over p.folds in
    let around = halo_moves 0 p.halos ++ last in
    let moved = input_moves room d p.leader 0 p.inputs ++ around in
    straight_if (is_replicated d (Loops p)) (checks p ++ alone) (checks p ++ moved)
    (straight_join (checks p) alone (checks_straight p) (one_straight (loop_instr p.inputs (whole_halos p.halos) p) alone refl tt refl))
    (straight_join (checks p) moved (checks_straight p)
    (straight_join (input_moves room d p.leader 0 p.inputs) around (inputs_straight room d p.leader 0 p.inputs)
    (straight_join (halo_moves 0 p.halos) last (halos_straight 0 p.halos) (last_straight inputs halos p p.folds))))

loop_work : (room : Room) (d : ℕ → Dist) (p : Parfor) → IsWork (2 + loop_moves d p) (loop_code room d p)
unfolding loop_code loop_moves
loop_work room d p = by_case (is_replicated d (Loops p))
  where
    by_case : (b : Bool) → IsWork (2 + cond b 0 (count_by (is_moved d p.leader) p.inputs + length p.halos))
        (cond b (checks p ++ (loop_instr p.inputs (whole_halos p.halos) p ∷ [])) (checks p ++ (input_moves room d p.leader 0 p.inputs ++ (halo_moves 0 p.halos ++ (loop_instr (inputs_at room d p.leader 0 p.inputs) (halos_at 0 p.halos) p ∷ folds_over p.folds)))))
    by_case true =
        let alone = loop_instr p.inputs (whole_halos p.halos) p ∷ [] in
        work_join 1 1 (checks p) alone (checks_work p) (record { few = omega arith; cheap = λ ranks. omega arith })
    by_case false =
        let m = count_by (is_moved d p.leader) p.inputs in
        let h = length p.halos in
        let inputs = inputs_at room d p.leader 0 p.inputs in
        let halos = halos_at 0 p.halos in
        let last = loop_instr inputs halos p ∷ folds_over p.folds in
        let around = halo_moves 0 p.halos ++ last in
        let moved = input_moves room d p.leader 0 p.inputs ++ around in
        let e : 1 + (m + (h + 1)) ≡ 2 + (m + h) = omega arith in
        subst (λ n. IsWork n (checks p ++ moved)) e
        (work_join 1 (m + (h + 1)) (checks p) moved (checks_work p)
        (work_join m (h + 1) (input_moves room d p.leader 0 p.inputs) around (inputs_work room d p.leader 0 p.inputs)
        (work_join h 1 (halo_moves 0 p.halos) last (halos_work 0 p.halos) (last_work inputs halos p p.folds))))

-- ---- operations on whole arrays

copied_straight : (packs : List Pack) (outs ins : List ℕ) → IsStraight (copied_or_dealt packs outs ins)
copied_straight [] outs ins = one_straight (instr.Copy outs ins) (instr.Copy outs ins ∷ []) refl tt refl
copied_straight (p ∷ ps) outs ins = move_straight outs ins Blocks (move_code outs ins Blocks) refl

copied_work : (packs : List Pack) (outs ins : List ℕ) → IsWork 1 (copied_or_dealt packs outs ins)
copied_work [] outs ins = record { few = omega arith; cheap = λ ranks. omega arith }
copied_work (p ∷ ps) outs ins = move_work outs ins Blocks (move_code outs ins Blocks) refl

sums_straight : (room : Room) (out array : ℕ) → IsStraight (sums_code out array (part_word room) (start_word room))
sums_straight room out array = record { leads = (refl, (refl, refl)); jumps = (tt, (tt, tt)); sizes = (tt, (tt, tt)) }

joined_straight : (out left right : ℕ) (at : Place) → IsStraight (join_code out left right at)
joined_straight out left right at = record { leads = (refl, (refl, refl)); jumps = (tt, (tt, tt)); sizes = (tt, (tt, tt)) }

one_or_two : (b : Bool) → 1 ≤ cond b 2 1
one_or_two true = omega arith
one_or_two false = omega arith

whole_straight : (room : Room) (slots : List Slot) (d : ℕ → Dist) (alone : Bool) (at : Place) (w : What) → IsStraight (whole_code room slots d alone at w)
unfolding whole_code
whole_straight room slots d alone at (what.Const to value) = const_straight to value (instr.Const to value ∷ []) refl
whole_straight room slots d alone at (what.Calc to op left right) = calc_straight to op left right at (instr.Calc to op left right at ∷ []) refl
whole_straight room slots d alone at (what.Length to array) = length_straight to array (instr.Length to array ∷ []) refl
whole_straight room slots d alone at (what.Fill out value count) = fill_straight out value count at (instr.Fill out value count at ∷ []) refl
whole_straight room slots d alone at (what.Range out first last) = range_straight out first last at (instr.Range out first last at ∷ []) refl
whole_straight room slots d alone at (what.Copy outs ins) = copied_straight (cond alone [] (dealt slots d outs ins)) outs ins
whole_straight room slots d alone at (what.Scan out array) =
    let over = scan_code out array (part_word room) (start_word room) in
    straight_if alone (sums_code out array (part_word room) (start_word room)) over (sums_straight room out array) (scan_straight out array (part_word room) (start_word room) over refl)
whole_straight room slots d alone at (what.Concat out left right) =
    straight_if alone (join_code out left right at) (concat_code left right 0 out at) (joined_straight out left right at) (concat_straight left right 0 out at (concat_code left right 0 out at) refl)
whole_straight room slots d alone at (what.At to array index) = at_straight to array index at (instr.At to array index at ∷ []) refl
whole_straight room slots d alone at (what.Pick out array index) = one_straight (instr.Pick out array index at) (instr.Pick out array index at ∷ []) refl tt refl
whole_straight room slots d alone at (what.PrintWord word truth) = arrive_straight (output.Word word truth) (arrive_code (output.Word word truth)) refl
whole_straight room slots d alone at (what.PrintList array truth) = arrive_straight (output.List array truth) (arrive_code (output.List array truth)) refl
whole_straight room slots d alone at _ = straight_none

whole_work : (room : Room) (slots : List Slot) (d : ℕ → Dist) (alone : Bool) (at : Place) (w : What) → IsWork (units slots w) (whole_code room slots d alone at w)
unfolding whole_code units
whole_work room slots d alone at (what.Const to value) = const_work to value (instr.Const to value ∷ []) refl
whole_work room slots d alone at (what.Calc to op left right) = calc_work to op left right at (instr.Calc to op left right at ∷ []) refl
whole_work room slots d alone at (what.Length to array) = length_work to array (instr.Length to array ∷ []) refl
whole_work room slots d alone at (what.Fill out value count) = fill_work out value count at (instr.Fill out value count at ∷ []) refl
whole_work room slots d alone at (what.Range out first last) = range_work out first last at (instr.Range out first last at ∷ []) refl
whole_work room slots d alone at (what.Copy outs ins) =
    let packs = cond alone [] (dealt slots d outs ins) in
    work_more 1 (cond (has_balanced slots outs) 2 1) (copied_or_dealt packs outs ins) (one_or_two (has_balanced slots outs)) (copied_work packs outs ins)
whole_work room slots d alone at (what.Scan out array) =
    let over = scan_code out array (part_word room) (start_word room) in
    let le : 1 ≤ 2 = omega arith in
    work_either alone 2 (sums_code out array (part_word room) (start_word room)) over (record { few = omega arith; cheap = λ ranks. omega arith }) (work_more 1 2 over le (scan_work out array (part_word room) (start_word room) over refl))
whole_work room slots d alone at (what.Concat out left right) =
    let over = concat_code left right 0 out at in
    let le : 2 ≤ 3 = omega arith in
    work_either alone 3 (join_code out left right at) over (record { few = omega arith; cheap = λ ranks. omega arith }) (work_more 2 3 over le (concat_work left right 0 out at over refl))
whole_work room slots d alone at (what.At to array index) = at_work to array index at (instr.At to array index at ∷ []) refl
whole_work room slots d alone at (what.Pick out array index) = record { few = omega arith; cheap = λ ranks. omega arith }
whole_work room slots d alone at (what.PrintWord word truth) =
    let text = arrive_code (output.Word word truth) in let le : 1 ≤ 2 = omega arith in work_more 1 2 text le (arrive_work (output.Word word truth) text refl)
whole_work room slots d alone at (what.PrintList array truth) =
    let text = arrive_code (output.List array truth) in let le : 1 ≤ 2 = omega arith in work_more 1 2 text le (arrive_work (output.List array truth) text refl)
whole_work room slots d alone at w = work_none (units slots w)

-- ---- steps

pub steps_straight : StepsAreStraight
unfolding part_code
steps_straight room slots d (Does op) = whole_straight room slots d (is_replicated d (Does op)) op.at op.what
steps_straight room slots d (Loops p) = loop_straight room d p

pub steps_work : StepsAreWork
unfolding part_code part_units
steps_work room slots d (Does op) = whole_work room slots d (is_replicated d (Does op)) op.at op.what
steps_work room slots d (Loops p) = loop_work room d p

pub all_straight : (steps : Part → List Instr) → ((part : Part) → IsStraight (steps part)) → (parts : List Part) → AllByRecursion (λ part. IsStraight (steps part)) parts
all_straight steps h [] = tt
all_straight steps h (part ∷ parts) = (h part, all_straight steps h parts)

pub lowered_has_form : LoweredHasForm
unfolding code_list
lowered_has_form slots words p dists =
    let steps = part_code (room_of slots words) slots (dist_at dists) in
    code_has_form steps p (all_straight steps (steps_straight (room_of slots words) slots (dist_at dists)) (operations p))
