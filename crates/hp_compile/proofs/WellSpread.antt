-- The arrays that a program's instructions make by themselves may have the cuts that they get.
use Rattle.std.proofs.Common.{◌≡◌, ◌∙◌, refl, sym, subst, ap, ℕ, zero, suc, ◌+◌, ◌<◌, Bool, true, false, List, [], ◌∷◌, ◌++◌, length, map, Some, None, inl, inr}
use Rattle.std.specs.Prelude.{if◌then◌else◌, ◌&&◌, IsTrue, nat_lt}
use Rattle.std.specs.List.{AllByRecursion, AllZip, list_all, list_any}
use Rattle.std.proofs.lemmas.Bool.{and_parts}
use Rattle.std.proofs.Common.{ltb-true}
use Rattle.std.proofs.lemmas.List.Elements.{All-from_recursion}
use Rattle.hp_word.specs.declared.place.Place.{Place}
use Rattle.hp_lattice.specs.declared.dist.Dist.{Dist}
use Rattle.hp_lattice.specs.declared.dist.Dist.TheVariants.{Rep, Var, Block}
use Rattle.hp_lattice.specs.Lattice.{is_below, raised}
use Rattle.hp_spmd.specs.declared.instr.CheckRule.TheVariants as rule
use Rattle.hp_spmd.specs.declared.instr.Folding.{Folding}
use Rattle.hp_spmd.specs.declared.instr.HaloFrom.{HaloFrom}
use Rattle.hp_spmd.specs.declared.instr.Instr.{Instr}
use Rattle.hp_spmd.specs.declared.instr.Instr.TheVariants as instr
use Rattle.hp_spmd.specs.declared.instr.Need.TheVariants.{Blocks, First, Like, Second, Wide}
use Rattle.hp_spmd.specs.declared.instr.Out.{Out}
use Rattle.hp_spmd.specs.declared.instr.Packing.{Packing}
use Rattle.hp_spmd.specs.declared.instr.Packing.TheVariants.{Move}
use Rattle.hp_spmd.specs.declared.instr.Unpacking.{Unpacking}
use Rattle.hp_spmd.specs.declared.instr.Unpacking.TheVariants.{Glued, Halo, Into, Moved}
use Rattle.hp_spmd.specs.Kinds.{Kind, Computes, Unpacks, kind_of}
use Rattle.hp_spmd.specs.Spread.{CopyAlike, LiesAs, SpreadsWell}
use Rattle.hp_spmd.specs.Store.{dist_at, instr_at}
use Rattle.hp_program.specs.Programs.{Prog, stop, plain, choose, loop, operations}
use Rattle.hp_program.proofs.Keeping.{first_holds, second_holds}
use Rattle.hp_air.specs.declared.slot.Slot.{Slot}
use Rattle.hp_air.specs.declared.what.What.{What}
use Rattle.hp_air.specs.declared.what.What.TheVariants as what
use Rattle.hp_air.specs.Arrays.{Copy, arrays_of, outs, reads, sides}
use Rattle.hp_air.specs.Constraints.{LieAlike, copy_meets, pick_meets, scan_meets}
use Rattle.hp_air.specs.Frames.{slot_at}
use Rattle.hp_air.specs.Kept.{are_below}
use Rattle.hp_air.specs.Placed as placed
use Rattle.hp_parfor.specs.declared.parfor.Halo.{Halo as Round}
use Rattle.hp_parfor.specs.declared.parfor.Parfor.{Parfor}
use Rattle.hp_parfor.specs.KeptParts.{are_parts, is_part_kept}
use Rattle.hp_parfor.specs.LoopMeaning.{is_moved, is_rep, is_replicated, is_var, needs_some}
use Rattle.hp_parfor.specs.Parts.{Part, Does, Loops, loop_reads, loop_writes}
use Rattle.hp_parfor.specs.PlacedParts.{OperationMeets, PartMeets, PlacedParts, as_itself, as_stencil}
use Rattle.hp_parfor.specs.Talk.{Pack, Moves, dealt}
use Rattle.hp_snippet.specs.Promises.{exchange_code}
use Rattle.hp_coll.specs.Reducing.{what_is_packed, what_is_unpacked}
use Rattle.hp_exchange.specs.Halos.{halo_code}
use Rattle.hp_exchange.specs.Ranges.{move_code}
use Rattle.hp_lowering.specs.CodeOf.{code_from, code_list}
use Rattle.hp_lowering.specs.PartCode.{checks, copied_or_dealt, folds_over, halo_moves, halos_at, input_moves, inputs_at, loop_code, loop_instr, part_code, whole_code, whole_halos}
use Rattle.hp_lowering.specs.Room.{Room, code_arrays, room_of, spare}
use Rattle.hp_lowering.proofs.CodeNames.{all_back, all_front}
use Rattle.hp_lowering.proofs.PartLoops.{lowered_arrays}

-- an instruction that computes makes arrays that may have the cuts that they get
abbrev pub SpreadsAlone : List Dist → Instr → Type 0
SpreadsAlone dists i = kind_of i ≡ Computes → SpreadsWell dists i

abbrev pub AllSpread : List Dist → List Instr → Type 0
AllSpread dists list = AllByRecursion (SpreadsAlone dists) list

-- ---- lists

pub join_spread : (dists : List Dist) (a b : List Instr) → AllSpread dists a → AllSpread dists b → AllSpread dists (a ++ b)
join_spread dists [] b h g = g
join_spread dists (i ∷ a) b h g = (h.0, join_spread dists a b h.1 g)

pub spread_at : (dists : List Dist) (list : List Instr) (k : ℕ) → AllSpread dists list → SpreadsAlone dists (instr_at list k)
spread_at dists [] k h = λ e. tt
spread_at dists (i ∷ is) zero h = h.0
spread_at dists (i ∷ is) (suc k) h = spread_at dists is k h.1

-- a program's instructions do, where those of its steps do
pub spread_from : (dists : List Dist) (steps : Part → List Instr) (place : ℕ) (p : Prog Part) → AllByRecursion (λ part. AllSpread dists (steps part)) (operations p) → AllSpread dists (code_from steps place p)
unfolding code_from operations
spread_from dists steps place stop h = tt
spread_from dists steps place (plain op p) h =
    let on = place + length (steps op) in
    join_spread dists (steps op) (code_from steps on p) h.0 (spread_from dists steps on p h.1)
spread_from dists steps place (choose w first second p) h =
    let S = λ (part : Part). AllSpread dists (steps part) in
    let both = all_front {X = Part} S (operations first ++ operations second) (operations p) h in
    let yes_code = code_from steps (place + 1) first in
    let other = place + length yes_code + 2 in
    let no_code = code_from steps other second in
    let behind = other + length no_code in
    let last = code_from steps behind p in (
      λ e. tt,
      join_spread dists yes_code (instr.Jump behind None ∷ (no_code ++ last)) (spread_from dists steps (place + 1) first (all_front {X = Part} S (operations first) (operations second) both)) (
        λ e. tt,
        join_spread dists no_code last (spread_from dists steps other second (all_back {X = Part} S (operations first) (operations second) both))
            (spread_from dists steps behind p (all_back {X = Part} S (operations first ++ operations second) (operations p) h)),
      ),
    )
spread_from dists steps place (loop test w body p) h =
    let S = λ (part : Part). AllSpread dists (steps part) in
    let both = all_front {X = Part} S (operations test ++ operations body) (operations p) h in
    let look = code_from steps place test in
    let inside = place + length look + 1 in
    let turn = code_from steps inside body in
    let behind = inside + length turn + 1 in
    let last = code_from steps behind p in
    join_spread dists look (instr.Jump behind (Some w) ∷ (turn ++ (instr.Jump place None ∷ last))) (spread_from dists steps place test (all_front {X = Part} S (operations test) (operations body) both)) (
      λ e. tt,
      join_spread dists turn (instr.Jump place None ∷ last) (spread_from dists steps inside body (all_back {X = Part} S (operations test) (operations body) both))
          (λ e. tt, spread_from dists steps behind p (all_back {X = Part} S (operations test ++ operations body) (operations p) h)),
    )

-- ---- pieces

abbrev IsUnpack : Kind → Type 0
IsUnpack (Unpacks u) = Unit {0}
IsUnpack _ = ⊥

exchange_spread : (dists : List Dist) (p : Packing) (u : Unpacking) → AllSpread dists (exchange_code p u)
exchange_spread dists p u = (λ e. tt, (λ e. tt, (λ e. tt, (λ e. absurd (subst IsUnpack e tt), tt))))

-- the slots lie in a code as they do in its program
abbrev LieSo : List Dist → (ℕ → Dist) → (count : ℕ) → Type 0
LieSo dists d count = (k : ℕ) → k < count → dist_at dists k ≡ d k

below_at : (count k : ℕ) (ks : List ℕ) → IsTrue (are_below count (k ∷ ks)) → (k < count) × IsTrue (are_below count ks)
below_at count k ks h = let parts = and_parts (nat_lt k count) (are_below count ks) h in (ltb-true k count parts.0, parts.1)

below_front : (count : ℕ) (xs ys : List ℕ) → IsTrue (are_below count (xs ++ ys)) → IsTrue (are_below count xs)
below_front count [] ys h = refl
below_front count (x ∷ xs) ys h = let parts = and_parts (nat_lt x count) (are_below count (xs ++ ys)) h in both (nat_lt x count) (are_below count xs) parts.0 (below_front count xs ys parts.1)
  where
    both : (a b : Bool) → IsTrue a → IsTrue b → IsTrue (a && b)
    both true b h g = g
    both false b h g = h

below_back : (count : ℕ) (xs ys : List ℕ) → IsTrue (are_below count (xs ++ ys)) → IsTrue (are_below count ys)
below_back count [] ys h = h
below_back count (x ∷ xs) ys h = below_back count xs ys (and_parts (nat_lt x count) (are_below count (xs ++ ys)) h).1

-- ---- loops

outs_spread : (dists : List Dist) (d : ℕ → Dist) (count leader : ℕ) → LieSo dists d count → leader < count → (os : List Out) → IsTrue (are_below count (map (λ o. o.array) os)) → AllByRecursion (λ out. LiesAs (d leader) (d out)) (map (λ o. o.array) os)
    → AllByRecursion (λ o. LiesAs (dist_at dists leader) (dist_at dists o.array)) os
outs_spread dists d count leader so lt [] below h = tt
outs_spread dists d count leader so lt (o ∷ os) below h =
    let here = below_at count o.array (map (λ (q : Out). q.array) os) below in
    (subst (λ a. LiesAs a (dist_at dists o.array)) (sym (so leader lt)) (subst (λ b. LiesAs (d leader) b) (sym (so o.array here.0)) h.0), outs_spread dists d count leader so lt os here.1 h.1)

checks_spread : (dists : List Dist) (p : Parfor) → AllSpread dists (checks p)
checks_spread dists p = (λ e. tt, by (list_any (λ (f : Folding). needs_some f.kind) p.folds))
  where
    by : (b : Bool) → AllSpread dists (if b then instr.Check (p.leader ∷ []) rule.Some p.at ∷ [] else [])
    by true = (λ e. tt, tt)
    by false = tt

input_moves_spread : (dists : List Dist) (room : Room) (d : ℕ → Dist) (leader i : ℕ) (xs : List ℕ) → AllSpread dists (input_moves room d leader i xs)
input_moves_spread dists room d leader i [] = tt
input_moves_spread dists room d leader i (x ∷ xs) =
    join_spread dists (if is_moved d leader x then move_code (spare room i ∷ []) (x ∷ []) (Like leader) else []) (input_moves room d leader (suc i) xs) (by (is_moved d leader x)) (input_moves_spread dists room d leader (suc i) xs)
  where
    by : (b : Bool) → AllSpread dists (if b then move_code (spare room i ∷ []) (x ∷ []) (Like leader) else [])
    by true = exchange_spread dists (Move (x ∷ []) (Like leader)) (Moved (spare room i ∷ []) (x ∷ []) (Like leader))
    by false = tt

halo_moves_spread : (dists : List Dist) (i : ℕ) (hs : List Round) → AllSpread dists (halo_moves i hs)
halo_moves_spread dists i [] = tt
halo_moves_spread dists i (h ∷ hs) = join_spread dists (halo_code h.array h.reach i) (halo_moves (suc i) hs) (exchange_spread dists (Move (h.array ∷ []) (Wide h.reach)) (Halo i h.array h.reach)) (halo_moves_spread dists (suc i) hs)

folds_spread : (dists : List Dist) (fs : List Folding) → AllSpread dists (folds_over fs)
folds_spread dists [] = tt
folds_spread dists (f ∷ fs) = exchange_spread dists (what_is_packed (f ∷ fs)) (what_is_unpacked (f ∷ fs))

loop_spread : (dists : List Dist) (room : Room) (d : ℕ → Dist) (p : Parfor) → ((inputs : List ℕ) (halos : List HaloFrom) → SpreadsAlone dists (loop_instr inputs halos p)) → AllSpread dists (loop_code room d p)
unfolding loop_code
loop_spread dists room d p h = by (is_replicated d (Loops p))
  where
    by : (b : Bool)
        → AllSpread dists (if b then checks p ++ (loop_instr p.inputs (whole_halos p.halos) p ∷ []) else checks p ++ (input_moves room d p.leader 0 p.inputs ++ (halo_moves 0 p.halos ++ (loop_instr (inputs_at room d p.leader 0 p.inputs) (halos_at 0 p.halos) p ∷ folds_over p.folds))))
    by true = join_spread dists (checks p) (loop_instr p.inputs (whole_halos p.halos) p ∷ []) (checks_spread dists p) (h p.inputs (whole_halos p.halos), tt)
    by false =
        let itself = loop_instr (inputs_at room d p.leader 0 p.inputs) (halos_at 0 p.halos) p in
        join_spread dists (checks p) (input_moves room d p.leader 0 p.inputs ++ (halo_moves 0 p.halos ++ (itself ∷ folds_over p.folds))) (checks_spread dists p)
        (join_spread dists (input_moves room d p.leader 0 p.inputs) (halo_moves 0 p.halos ++ (itself ∷ folds_over p.folds)) (input_moves_spread dists room d p.leader 0 p.inputs)
        (join_spread dists (halo_moves 0 p.halos) (itself ∷ folds_over p.folds) (halo_moves_spread dists 0 p.halos)
        (h (inputs_at room d p.leader 0 p.inputs) (halos_at 0 p.halos), folds_spread dists p.folds)))

-- ---- operations

copies_spread : (dists : List Dist) (d : ℕ → Dist) (count : ℕ) → LieSo dists d count → (os is : List ℕ) → IsTrue (are_below count os) → IsTrue (are_below count is) → AllZip (LieAlike d) os is → CopyAlike dists os is
copies_spread dists d count so [] is p q h = tt
copies_spread dists d count so (o ∷ os) [] p q h = tt
copies_spread dists d count so (o ∷ os) (i ∷ is) p q h =
    let a = below_at count o os p in
    let b = below_at count i is q in
    (inl (so o a.0 ∙ h.0 ∙ sym (so i b.0)), copies_spread dists d count so os is a.1 b.1 h.1)

-- a copy to a balanced copy that deals nothing out
dealt_lies : (a b : Dist) → IsTrue (is_below b (raised a)) → IsTrue (is_below a (raised b)) → is_var a ≡ false → LiesAs a b
dealt_lies Rep Rep p q e = inl refl
dealt_lies Rep Var p q e = absurd cc
dealt_lies Rep Block p q e = absurd cc
dealt_lies Block Rep p q e = absurd cc
dealt_lies Block Var p q e = inr (refl, refl)
dealt_lies Block Block p q e = inl refl
dealt_lies Var b p q e = absurd cc

rep_not_var : (a : Dist) → is_rep a ≡ true → is_var a ≡ false
rep_not_var Rep e = refl
rep_not_var Var e = refl ∙ sym e
rep_not_var Block e = refl

rep_is : (a : Dist) → is_rep a ≡ true → a ≡ Rep
rep_is Rep e = refl
rep_is Var e = absurd cc
rep_is Block e = absurd cc

copied_spread : (dists : List Dist) (packs : List Pack) (os is : List ℕ) → (packs ≡ [] → CopyAlike dists os is) → AllSpread dists (copied_or_dealt packs os is)
copied_spread dists [] os is h = (λ e. h refl, tt)
copied_spread dists (p ∷ ps) os is h = exchange_spread dists (Move is Blocks) (Moved os is Blocks)

-- where nothing is dealt out, the array lies in no uneven pieces
none_dealt : (balanced uneven : Bool) (packs : List Pack) (pack : Pack) → balanced ≡ true → (if balanced && uneven then pack ∷ packs else []) ≡ [] → uneven ≡ false
none_dealt true true packs pack e h = absurd cc
none_dealt false true packs pack e h = absurd cc
none_dealt b false packs pack e h = refl

-- ---- steps

-- all arrays of an operation are whole on each rank
abbrev IsAlone : (ℕ → Dist) → What → Bool
IsAlone d w = list_all (λ k. is_rep (d k)) (outs (arrays_of w) ++ reads (arrays_of w))

stencil_alike : (dists : List Dist) (slots : List Slot) (d : ℕ → Dist) (k x : ℕ) → LieSo dists d (length slots) → IsTrue (are_below (length slots) (k ∷ x ∷ [])) → LiesAs (d x) (d k) → CopyAlike dists (k ∷ []) (x ∷ [])
stencil_alike dists slots d k x so below h =
    let first = below_at (length slots) k (x ∷ []) below in
    let second = below_at (length slots) x [] first.1 in
    (subst (λ a. LiesAs a (dist_at dists k)) (sym (so x second.0)) (subst (λ b. LiesAs (d x) b) (sym (so k first.0)) h), tt)

copy_spread : (dists : List Dist) (slots : List Slot) (d : ℕ → Dist) {os is : List ℕ} (alone : Bool) → LieSo dists d (length slots) → IsTrue (are_below (length slots) (os ++ (is ++ []))) → list_all (λ k. is_rep (d k)) (os ++ (is ++ [])) ≡ alone
    → OperationMeets slots d (Copy os is) → AllSpread dists (copied_or_dealt (if alone then [] else dealt slots d os is) os is)
copy_spread dists slots d {os = os} {is = is} alone so below e (as_itself not (copy_meets same)) =
    copied_spread dists (if alone then [] else dealt slots d os is) os is
    (λ none. copies_spread dists d (length slots) so os is (below_front (length slots) os (is ++ []) below) (below_front (length slots) is [] (below_back (length slots) os (is ++ []) below)) same)
copy_spread dists slots d true so below e (as_stencil {k = k} {x = x} balanced p q others) =
    let parts = and_parts (is_rep (d k)) (is_rep (d x) && true) e in
    let lone = (and_parts (is_rep (d x)) true parts.1).0 in
    (λ c. stencil_alike dists slots d k x so below (dealt_lies (d x) (d k) p q (rep_not_var (d x) lone)), tt)
copy_spread dists slots d false so below e (as_stencil {k = k} {x = x} balanced p q others) =
    copied_spread dists (dealt slots d (k ∷ []) (x ∷ [])) (k ∷ []) (x ∷ []) (λ none. stencil_alike dists slots d k x so below (dealt_lies (d x) (d k) p q (none_dealt (slot_at slots k).balanced (is_var (d x)) [] (Moves (x ∷ []) Blocks) balanced none)))

-- the instructions of an operation
whole_spread : (dists : List Dist) (room : Room) (slots : List Slot) (d : ℕ → Dist) (at : Place) (w : What) (alone : Bool) → LieSo dists d (length slots) → IsTrue (are_below (length slots) (outs (arrays_of w) ++ reads (arrays_of w))) → IsAlone d w ≡ alone
    → OperationMeets slots d (arrays_of w) → AllSpread dists (whole_code room slots d alone at w)
unfolding whole_code arrays_of outs sides
whole_spread dists room slots d at (what.Const to value) alone so below e meets = (λ c. tt, tt)
whole_spread dists room slots d at (what.Calc to op left right) alone so below e meets = (λ c. tt, tt)
whole_spread dists room slots d at (what.Length to array) alone so below e meets = (λ c. tt, tt)
whole_spread dists room slots d at (what.Fill out value count) alone so below e meets = (λ c. tt, tt)
whole_spread dists room slots d at (what.Range out first last) alone so below e meets = (λ c. tt, tt)
whole_spread dists room slots d at (what.Copy os is) alone so below e meets = copy_spread dists slots d {os = os} {is = is} alone so below e meets
whole_spread dists room slots d at (what.Scan out array) true so below e (as_itself not (scan_meets same)) =
    let a = below_at (length slots) out (array ∷ []) below in
    let b = below_at (length slots) array [] a.1 in
    (λ c. tt, (λ c. inl (so out a.0 ∙ same ∙ sym (so array b.0)), tt))
whole_spread dists room slots d at (what.Scan out array) false so below e (as_itself not (scan_meets same)) =
    let a = below_at (length slots) out (array ∷ []) below in
    let b = below_at (length slots) array [] a.1 in
    let lies : LiesAs (dist_at dists array) (dist_at dists out) = inl (so out a.0 ∙ same ∙ sym (so array b.0)) in
    (λ c. tt, (λ c. lies, (λ c. tt, (λ c. tt, (λ c. tt, (λ c. absurd (subst IsUnpack c tt), (λ c. lies, tt)))))))
whole_spread dists room slots d at (what.Concat out left right) true so below e meets =
    let a = below_at (length slots) out (left ∷ right ∷ []) below in
    (λ c. tt, (λ c. so out a.0 ∙ rep_is (d out) (and_parts (is_rep (d out)) (is_rep (d left) && (is_rep (d right) && true)) e).0, tt))
whole_spread dists room slots d at (what.Concat out left right) false so below e meets =
    let first = Move (left ∷ []) (First right) in
    let second = Move (right ∷ []) (Second left) in
    (λ c. tt, join_spread dists (exchange_code first (Into 0)) (exchange_code second (Glued out 0 left right)) (exchange_spread dists first (Into 0)) (exchange_spread dists second (Glued out 0 left right)))
whole_spread dists room slots d at (what.At to array index) alone so below e meets = (λ c. tt, tt)
whole_spread dists room slots d at (what.Pick out array index) alone so below e (as_itself not (pick_meets whole same)) =
    let a = below_at (length slots) out (array ∷ index ∷ []) below in
    let b = below_at (length slots) index [] (below_at (length slots) array (index ∷ []) a.1).1 in
    (λ c. inl (so out a.0 ∙ same ∙ sym (so index b.0)), tt)
whole_spread dists room slots d at (what.PrintWord word truth) alone so below e meets = (λ c. tt, (λ c. tt, (λ c. tt, (λ c. tt, tt))))
whole_spread dists room slots d at (what.PrintList array truth) alone so below e meets = (λ c. tt, (λ c. tt, (λ c. tt, (λ c. tt, tt))))
whole_spread dists room slots d at _ alone so below e meets = tt

-- of any step that keeps its laws, whose arrays lie as it asks
part_spread : (dists : List Dist) (room : Room) (slots : List Slot) (words : ℕ) (d : ℕ → Dist) (part : Part) → LieSo dists d (length slots) → IsTrue (is_part_kept slots words part) → PartMeets slots d part → AllSpread dists (part_code room slots d part)
unfolding part_code
part_spread dists room slots words d (Does op) so kept meets =
    let within = second_holds _ _ (first_holds _ _ (first_holds _ _ (first_holds _ _ (first_holds _ _ kept)))) in
    whole_spread dists room slots d op.at op.what (is_replicated d (Does op)) so (first_holds _ _ (first_holds _ _ within)) refl meets
part_spread dists room slots words d (Loops p) so kept meets =
    let names = first_holds _ _ (first_holds _ _ (first_holds _ _ (first_holds _ _ kept))) in
    let below = first_holds _ _ (first_holds _ _ (first_holds _ _ names)) in
    let wrote = below_front (length slots) (loop_writes p) (loop_reads p) below in
    let leader = below_at (length slots) p.leader (p.inputs ++ map (λ (q : Round). q.array) p.halos) (below_back (length slots) (loop_writes p) (loop_reads p) below) in
    loop_spread dists room d p (λ inputs halos e. All-from_recursion (λ (o : Out). LiesAs (dist_at dists p.leader) (dist_at dists o.array)) p.outs (outs_spread dists d (length slots) p.leader so leader.0 p.outs wrote meets.outs))

parts_spread : (dists : List Dist) (room : Room) (slots : List Slot) (words : ℕ) (d : ℕ → Dist) (parts : List Part) → LieSo dists d (length slots) → IsTrue (list_all (is_part_kept slots words) parts) → AllByRecursion (PartMeets slots d) parts
    → AllByRecursion (λ part. AllSpread dists (part_code room slots d part)) parts
parts_spread dists room slots words d [] so kept meets = tt
parts_spread dists room slots words d (part ∷ parts) so kept meets =
    (part_spread dists room slots words d part so (first_holds _ _ kept) meets.0, parts_spread dists room slots words d parts so (second_holds _ _ kept) meets.1)

-- ---- programs

pub code_spread : (slots : List Slot) (words : ℕ) (p : Prog Part) (dists arrays : List Dist) → IsTrue (are_parts slots words p) → PlacedParts slots p dists → arrays ≡ code_arrays slots p dists → AllSpread arrays (code_list slots words p dists)
unfolding code_list
code_spread slots words p dists arrays kept lies e =
    let so : LieSo arrays (placed.dist_at dists) (length slots) = λ k lt. ap (λ ds. dist_at ds k) e ∙ lowered_arrays slots p dists k lies.each lt in
    let steps = part_code (room_of slots words) slots (placed.dist_at dists) in
    join_spread arrays (code_from steps 0 p) (instr.Halt ∷ [])
    (spread_from arrays steps 0 p (parts_spread arrays (room_of slots words) slots words (placed.dist_at dists) (operations p) so (first_holds _ _ kept) lies.parts)) (λ c. tt, tt)
