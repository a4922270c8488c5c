-- Lists of which each item makes some, with its number; and whether all arrays of a loop are whole.
use Rattle.std.proofs.Common.{◌≡◌, ◌∙◌, refl, sym, ap, arith, ℕ, zero, suc, ◌+◌, ◌<◌, Bool, true, false, ◌&&◌, cond, List, [], ◌∷◌, ◌++◌, map, take, get_or, append_assoc, append-nil, length}
use Rattle.std.proofs.lemmas.List.{take_more}
use Rattle.std.proofs.lemmas.List.Folds.{list_all-append, list_all-map}
use Rattle.std.specs.List.{list_all}
use Rattle.hp_lattice.specs.declared.dist.Dist.{Dist}
use Rattle.hp_spmd.specs.declared.instr.HaloFrom.{HaloFrom}
use Rattle.hp_spmd.specs.declared.instr.HaloFrom.TheVariants as halo_from
use Rattle.hp_spmd.specs.declared.instr.Instr.{Instr}
use Rattle.hp_spmd.specs.declared.instr.Need.TheVariants.{Like}
use Rattle.hp_spmd.specs.declared.instr.Out.{Out}
use Rattle.hp_exchange.specs.Halos.{halo_code}
use Rattle.hp_exchange.specs.Ranges.{move_code}
use Rattle.hp_air.specs.declared.slot.Slot.{Slot}
use Rattle.hp_parfor.specs.declared.parfor.Halo.{Halo}
use Rattle.hp_parfor.specs.declared.parfor.Parfor.{Parfor}
use Rattle.hp_parfor.specs.LoopMeaning.{is_moved, is_rep, is_replicated}
use Rattle.hp_parfor.specs.Parts.{Loops, loop_reads, loop_writes}
use Rattle.hp_lowering.specs.PartCode.{checks, folds_over, halo_moves, halos_at, input_moves, inputs_at, loop_code, loop_instr, part_code, whole_halos}
use Rattle.hp_lowering.specs.Room.{Room, spare}

-- ---- items with their numbers

abbrev pub numbered : {X Y : Type 0} → (ℕ → X → List Y) → ℕ → List X → List Y
numbered f i [] = []
numbered f i (x ∷ xs) = f i x ++ numbered f (suc i) xs

numbered_join : {X Y : Type 0} (f : ℕ → X → List Y) (i : ℕ) (xs ys : List X) → numbered f i (xs ++ ys) ≡ numbered f i xs ++ numbered f (i + length xs) ys
numbered_join f i [] ys = let e : i ≡ i + 0 = omega arith in ap (λ k. numbered f k ys) e
numbered_join {X} {Y} f i (x ∷ xs) ys =
    let e : suc i + length xs ≡ i + suc (length xs) = omega arith in
    ap (λ l. f i x ++ l) (numbered_join {X = X} {Y = Y} f (suc i) xs ys ∙ ap (λ k. numbered f (suc i) xs ++ numbered f k ys) e) ∙ sym (append_assoc {A = Y} (f i x) (numbered f (suc i) xs) (numbered f (i + suc (length xs)) ys))

long_front : {X : Type 0} (xs : List X) (i : ℕ) → i < length xs → length (take i xs) ≡ i
long_front {X} [] i lt = elim lt [ ]
long_front (x ∷ xs) zero lt = refl
long_front {X} (x ∷ xs) (suc i) lt = ap suc (long_front {X = X} xs i (omega (arith, lt)))

-- one item more
pub numbered_more : {X Y : Type 0} (f : ℕ → X → List Y) (xs : List X) (i : ℕ) (x : X) (made new : List Y) → i < length xs → x ≡ get_or xs i x → made ≡ numbered f 0 (take i xs) → new ≡ made ++ f i x → new ≡ numbered f 0 (take (i + 1) xs)
numbered_more {X} {Y} f xs i x made new lt is so now =
    now ∙ ap (λ l. l ++ f i x) so ∙ (let e : i ≡ 0 + length (take i xs) = sym (long_front {X = X} xs i lt) ∙ omega arith in ap (λ l. numbered f 0 (take i xs) ++ l) (sym (append-nil {A = Y} (f i x)) ∙ ap (λ k. numbered f k (x ∷ [])) e))
    ∙ sym (numbered_join {X = X} {Y = Y} f 0 (take i xs) (x ∷ [])) ∙ ap (numbered f 0) (ap (λ y. take i xs ++ y ∷ []) is ∙ sym (take_more {X = X} xs i x lt))

-- ---- what a loop's code has of its inputs and halos

abbrev pub one_halo : ℕ → Halo → List HaloFrom
one_halo i h = halo_from.Loose i h.reach ∷ []

pub halos_numbered : (i : ℕ) (hs : List Halo) → halos_at i hs ≡ numbered one_halo i hs
halos_numbered i [] = refl
halos_numbered i (h ∷ hs) = ap (λ l. halo_from.Loose i h.reach ∷ l) (halos_numbered (suc i) hs)

abbrev pub one_halo_move : ℕ → Halo → List Instr
one_halo_move i h = halo_code h.array h.reach i

pub halo_moves_numbered : (i : ℕ) (hs : List Halo) → halo_moves i hs ≡ numbered one_halo_move i hs
halo_moves_numbered i [] = refl
halo_moves_numbered i (h ∷ hs) = ap (λ l. halo_code h.array h.reach i ++ l) (halo_moves_numbered (suc i) hs)

abbrev pub one_input : Room → (ℕ → Dist) → (leader : ℕ) → ℕ → ℕ → List ℕ
one_input room d leader i x = cond (is_moved d leader x) (spare room i) x ∷ []

pub inputs_numbered : (room : Room) (d : ℕ → Dist) (leader i : ℕ) (xs : List ℕ) → inputs_at room d leader i xs ≡ numbered (one_input room d leader) i xs
inputs_numbered room d leader i [] = refl
inputs_numbered room d leader i (x ∷ xs) = ap (λ l. cond (is_moved d leader x) (spare room i) x ∷ l) (inputs_numbered room d leader (suc i) xs)

abbrev pub one_input_move : Room → (ℕ → Dist) → (leader : ℕ) → ℕ → ℕ → List Instr
one_input_move room d leader i x = cond (is_moved d leader x) (move_code (spare room i ∷ []) (x ∷ []) (Like leader)) []

pub moves_numbered : (room : Room) (d : ℕ → Dist) (leader i : ℕ) (xs : List ℕ) → input_moves room d leader i xs ≡ numbered (one_input_move room d leader) i xs
moves_numbered room d leader i [] = refl
moves_numbered room d leader i (x ∷ xs) = ap (λ l. one_input_move room d leader i x ++ l) (moves_numbered room d leader (suc i) xs)

-- ---- one more of each, in a loop

-- what a read of no halo would give
abbrev pub no_halo : Halo
no_halo = record { array = 0; reach = 0 }

-- the number of the next one
pub next_number : (i n sum : ℕ) → n ≡ i → sum ≡ n + 1 → sum ≡ i + 1
next_number i n sum same now = now ∙ ap (λ k. k + 1) same

pub halo_more : (hs : List Halo) (i n : ℕ) (h : Halo) (made new : List HaloFrom) → i < length hs → h ≡ get_or hs i h → n ≡ i → made ≡ halos_at 0 (take i hs) → new ≡ made ++ halo_from.Loose n h.reach ∷ [] → new ≡ halos_at 0 (take (i + 1) hs)
halo_more hs i n h made new lt is same so now =
    numbered_more {X = Halo} {Y = HaloFrom} one_halo hs i h made new lt is (so ∙ halos_numbered 0 (take i hs)) (now ∙ ap (λ k. made ++ halo_from.Loose k h.reach ∷ []) same) ∙ sym (halos_numbered 0 (take (i + 1) hs))

-- what is added behind some instructions
added : (first list more new made made2 : List Instr) → list ≡ first ++ made → new ≡ list ++ more → made ++ more ≡ made2 → new ≡ first ++ made2
added first list more new made made2 so now both = now ∙ ap (λ l. l ++ more) so ∙ append_assoc first made more ∙ ap (λ l. first ++ l) both

pub halo_move_more : (hs : List Halo) (i n : ℕ) (h : Halo) (first list more new : List Instr) → i < length hs → h ≡ get_or hs i h → n ≡ i → list ≡ first ++ halo_moves 0 (take i hs) → more ≡ halo_code h.array h.reach n → new ≡ list ++ more
    → new ≡ first ++ halo_moves 0 (take (i + 1) hs)
halo_move_more hs i n h first list more new lt is same so code now =
    let made = halo_moves 0 (take i hs) in
    let one = code ∙ ap (λ k. halo_code h.array h.reach k) same in
    added first list more new made (halo_moves 0 (take (i + 1) hs)) so now
    (numbered_more {X = Halo} {Y = Instr} one_halo_move hs i h made (made ++ more) lt is (halo_moves_numbered 0 (take i hs)) (ap (λ l. made ++ l) one) ∙ sym (halo_moves_numbered 0 (take (i + 1) hs)))

pub input_more : (room : Room) (d : ℕ → Dist) (leader : ℕ) (xs : List ℕ) (i n x stands : ℕ) (made new : List ℕ) → i < length xs → x ≡ get_or xs i x → n ≡ i → made ≡ inputs_at room d leader 0 (take i xs)
    → stands ≡ cond (is_moved d leader x) (spare room n) x → new ≡ made ++ stands ∷ [] → new ≡ inputs_at room d leader 0 (take (i + 1) xs)
input_more room d leader xs i n x stands made new lt is same so at now =
    numbered_more {X = ℕ} {Y = ℕ} (one_input room d leader) xs i x made new lt is (so ∙ inputs_numbered room d leader 0 (take i xs))
    (now ∙ ap (λ k. made ++ k ∷ []) at ∙ ap (λ k. made ++ cond (is_moved d leader x) (spare room k) x ∷ []) same)
    ∙ sym (inputs_numbered room d leader 0 (take (i + 1) xs))

pub input_move_more : (room : Room) (d : ℕ → Dist) (leader : ℕ) (xs : List ℕ) (i n x : ℕ) (first list new : List Instr) → i < length xs → x ≡ get_or xs i x → n ≡ i → list ≡ first ++ input_moves room d leader 0 (take i xs)
    → new ≡ list ++ cond (is_moved d leader x) (move_code (spare room n ∷ []) (x ∷ []) (Like leader)) [] → new ≡ first ++ input_moves room d leader 0 (take (i + 1) xs)
input_move_more room d leader xs i n x first list new lt is same so now =
    let made = input_moves room d leader 0 (take i xs) in
    let more = cond (is_moved d leader x) (move_code (spare room n ∷ []) (x ∷ []) (Like leader)) [] in
    added first list more new made (input_moves room d leader 0 (take (i + 1) xs)) so now
    (numbered_more {X = ℕ} {Y = Instr} (one_input_move room d leader) xs i x made (made ++ more) lt is (moves_numbered room d leader 0 (take i xs)) (ap (λ k. made ++ one_input_move room d leader k x) same)
    ∙ sym (moves_numbered room d leader 0 (take (i + 1) xs)))

-- ---- whether all arrays of a loop are whole

pub whole_arrays : (d : ℕ → Dist) (p : Parfor) (outs leader inputs halos near reads whole : Bool) → outs ≡ list_all (λ (o : Out). is_rep (d o.array)) p.outs → leader ≡ is_rep (d p.leader) → inputs ≡ list_all (λ k. is_rep (d k)) p.inputs
    → halos ≡ list_all (λ (h : Halo). is_rep (d h.array)) p.halos → near ≡ (inputs && halos) → reads ≡ (leader && near) → whole ≡ (outs && reads) → whole ≡ is_replicated d (Loops p)
whole_arrays d p outs leader inputs halos near read whole a b c e x y z =
    let f = λ (k : ℕ). is_rep (d k) in
    let reads : list_all f (loop_reads p) ≡ (leader && (inputs && halos)) =
    ap (λ t. f p.leader && t) (list_all-append f p.inputs (map (λ (h : Halo). h.array) p.halos) ∙ ap (λ t. list_all f p.inputs && t) (list_all-map f (λ (h : Halo). h.array) p.halos))
    ∙ ap (λ t. t && (list_all f p.inputs && list_all (λ (h : Halo). f h.array) p.halos)) (sym b) ∙ ap (λ t. leader && (t && list_all (λ (h : Halo). f h.array) p.halos)) (sym c) ∙ ap (λ t. leader && (inputs && t)) (sym e) in
    let every : is_replicated d (Loops p) ≡ (outs && (leader && (inputs && halos))) =
    list_all-append f (loop_writes p) (loop_reads p) ∙ ap (λ t. t && list_all f (loop_reads p)) (list_all-map f (λ (o : Out). o.array) p.outs ∙ sym a) ∙ ap (λ t. outs && t) reads in
    z ∙ ap (λ t. outs && t) (y ∙ ap (λ t. leader && t) x) ∙ sym every

-- ---- the whole code of a loop

split : (b : Bool) (xs ys zs : List Instr) → xs ++ cond b ys zs ≡ cond b (xs ++ ys) (xs ++ zs)
split true xs ys zs = refl
split false xs ys zs = refl

-- what stands behind the looks
abbrev pub behind_checks : Room → (ℕ → Dist) → Parfor → List Instr
behind_checks room d p =
    cond (is_replicated d (Loops p)) (loop_instr p.inputs (whole_halos p.halos) p ∷ []) (input_moves room d p.leader 0 p.inputs ++ (halo_moves 0 p.halos ++ (loop_instr (inputs_at room d p.leader 0 p.inputs) (halos_at 0 p.halos) p ∷ folds_over p.folds)))

pub loop_is : (room : Room) (slots : List Slot) (d : ℕ → Dist) (p : Parfor) (list all : List Instr) → list ≡ checks p → all ≡ list ++ behind_checks room d p → all ≡ part_code room slots d (Loops p)
unfolding part_code loop_code
loop_is room slots d p list all looks both =
    both ∙ ap (λ l. l ++ behind_checks room d p) looks
    ∙ split (is_replicated d (Loops p)) (checks p) (loop_instr p.inputs (whole_halos p.halos) p ∷ []) (input_moves room d p.leader 0 p.inputs ++ (halo_moves 0 p.halos ++ (loop_instr (inputs_at room d p.leader 0 p.inputs) (halos_at 0 p.halos) p ∷ folds_over p.folds)))
