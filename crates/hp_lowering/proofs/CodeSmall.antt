-- The code of a program is one that a rank can take: it is short, ends in Halt, and names what there is.
use Rattle.std.proofs.Common.{◌≡◌, refl, sym, subst, arith, cond, Bool, true, false, ℕ, ◌+◌, ◌*◌, ◌<◌, ◌≤◌, List, [], ◌∷◌, ◌++◌, length, map, take, Some, None}
use Rattle.std.specs.Prelude.{◌^◌, min, nat_lt, replicate, sum_by, count_by}
use Rattle.std.specs.Bool.{IsTrue}
use Rattle.std.specs.List.{AllByRecursion, list_all}
use Rattle.std.proofs.Math.Dec.{lit≤}
use Rattle.std.proofs.Math.Nat.{le-max_left, le-max_right}
use Rattle.std.proofs.lemmas.Bool.{and_parts, ltb-true}
use Rattle.std.proofs.lemmas.List.{length-append, length-replicate, length-take}
use Rattle.std.proofs.lemmas.List.Sums.{count_by-le-length, sum_by-append, sum_by-cons}
use Rattle.hp_word.specs.declared.place.Place.{Place}
use Rattle.hp_lattice.specs.declared.dist.Dist.{Dist}
use Rattle.hp_lattice.specs.declared.dist.Dist.TheVariants.{Var}
use Rattle.hp_spmd.specs.declared.instr.Instr.{Instr}
use Rattle.hp_spmd.specs.declared.instr.Instr.TheVariants as instr
use Rattle.hp_spmd.specs.Names.{instr_within, target_within}
use Rattle.hp_spmd.specs.Kinds.{kind_of}
use Rattle.hp_program.specs.Programs.{Prog, stop, plain, choose, loop, operations, tests}
use Rattle.hp_air.specs.declared.slot.Slot.{Slot}
use Rattle.hp_air.specs.declared.what.What.{What}
use Rattle.hp_air.specs.declared.what.What.TheVariants as what
use Rattle.hp_air.specs.Kept.{are_below}
use Rattle.hp_air.specs.Placed.{dist_at}
use Rattle.hp_parfor.specs.KeptParts.{are_parts, is_part_kept, part_moves, parts_size}
use Rattle.hp_parfor.specs.LoopMeaning.{is_moved, is_replicated, loop_moves, part_units}
use Rattle.hp_parfor.specs.Parts.{Part, Does, Loops}
use Rattle.hp_parfor.specs.Talk.{Pack, dealt}
use Rattle.hp_lowering.specs.CodeLaws.{IsCodeList, LoweredIsCode}
use Rattle.hp_lowering.specs.CodeOf.{code_from, code_list}
use Rattle.hp_lowering.specs.PartCode.{copied_or_dealt, part_code, whole_code}
use Rattle.hp_lowering.specs.Room.{Room, code_arrays, code_loose, code_words, greatest, loose_of, room_of, spares_of}
use Rattle.hp_lowering.proofs.CodeNames.{AreNamed, all_join, ends_there, names_from, targets_from}
use Rattle.hp_lowering.proofs.PartForm.{all_straight, steps_straight, steps_work}
use Rattle.hp_lowering.proofs.PartNames.{part_named_there}

-- ---- how long it is

-- as long as its steps, and two instructions more for each look at a word
long : (steps : Part → List Instr) (place : ℕ) (p : Prog Part) → length (code_from steps place p) ≡ sum_by (λ part. length (steps part)) (operations p) + 2 * length (tests p)
unfolding code_from operations tests
long steps place stop = refl
long steps place (plain op p) =
    let on = place + length (steps op) in
    let f = λ (part : Part). length (steps part) in
    let sum = length-append (steps op) (code_from steps on p) in
    let rest = long steps on p in
    let count = sum_by-cons {X = Part} f op (operations p) in
    omega (arith, sum, rest, count)
long steps place (choose w first second p) =
    let f = λ (part : Part). length (steps part) in
    let yes_code = code_from steps (place + 1) first in
    let other = place + length yes_code + 2 in
    let no_code = code_from steps other second in
    let behind = other + length no_code in
    let last = code_from steps behind p in
    let sum1 = length-append yes_code (instr.Jump behind None ∷ (no_code ++ last)) in
    let sum2 = length-append no_code last in
    let a = long steps (place + 1) first in
    let b = long steps other second in
    let c = long steps behind p in
    let ops = sum_by-append {X = Part} f (operations first ++ operations second) (operations p) in
    let ops2 = sum_by-append {X = Part} f (operations first) (operations second) in
    let ws = length-append (tests first ++ tests second) (tests p) in
    let ws2 = length-append (tests first) (tests second) in
    omega (arith, sum1, sum2, a, b, c, ops, ops2, ws, ws2)
long steps place (loop test w body p) =
    let f = λ (part : Part). length (steps part) in
    let look = code_from steps place test in
    let inside = place + length look + 1 in
    let turn = code_from steps inside body in
    let behind = inside + length turn + 1 in
    let last = code_from steps behind p in
    let sum1 = length-append look (instr.Jump behind (Some w) ∷ (turn ++ (instr.Jump place None ∷ last))) in
    let sum2 = length-append turn (instr.Jump place None ∷ last) in
    let a = long steps place test in
    let b = long steps inside body in
    let c = long steps behind p in
    let ops = sum_by-append {X = Part} f (operations test ++ operations body) (operations p) in
    let ops2 = sum_by-append {X = Part} f (operations test) (operations body) in
    let ws = length-append (tests test ++ (w ∷ tests body)) (tests p) in
    let ws2 = length-append (tests test) (w ∷ tests body) in
    omega (arith, sum1, sum2, a, b, c, ops, ops2, ws, ws2)

copied_short : (ps : List Pack) (outs ins : List ℕ) → length (copied_or_dealt ps outs ins) ≤ 16
copied_short [] outs ins = omega arith
copied_short (p ∷ ps) outs ins = omega arith

whole_short : (room : Room) (slots : List Slot) (d : ℕ → Dist) (alone : Bool) (at : Place) (w : What) → length (whole_code room slots d alone at w) ≤ 16
unfolding whole_code
whole_short room slots d alone at (what.Copy outs ins) = copied_short (cond alone [] (dealt slots d outs ins)) outs ins
whole_short room slots d true at (what.Scan out array) = omega arith
whole_short room slots d false at (what.Scan out array) = omega arith
whole_short room slots d true at (what.Concat out left right) = omega arith
whole_short room slots d false at (what.Concat out left right) = omega arith
whole_short room slots d alone at _ = omega arith

moves_few : (b : Bool) (n m i h : ℕ) → n ≤ i → m ≡ cond b 0 (n + h) → m ≤ i + h
moves_few true n m i h le e = omega (arith, e)
moves_few false n m i h le e = omega (arith, e, le)

part_short : (room : Room) (slots : List Slot) (d : ℕ → Dist) (part : Part) → length (part_code room slots d part) ≤ 32 + 16 * part_moves part
unfolding part_code part_moves part_units loop_moves
part_short room slots d (Does op) = let short = whole_short room slots d (is_replicated d (Does op)) op.at op.what in omega (arith, short)
part_short room slots d (Loops p) =
    let few = (steps_work room slots d (Loops p)).few in
    let count = count_by-le-length {X = ℕ} (is_moved d p.leader) p.inputs in
    let moves = moves_few (is_replicated d (Loops p)) (count_by (is_moved d p.leader) p.inputs) (loop_moves d p) (length p.inputs) (length p.halos) count refl in
    omega (arith, few, moves)

parts_short : (room : Room) (slots : List Slot) (d : ℕ → Dist) (parts : List Part) → sum_by (λ part. length (part_code room slots d part)) parts ≤ 32 * length parts + 16 * sum_by part_moves parts
parts_short room slots d [] = omega arith
parts_short room slots d (part ∷ parts) =
    let f = λ (part : Part). length (part_code room slots d part) in
    let here = part_short room slots d part in
    let rest = parts_short room slots d parts in
    let a = sum_by-cons {X = Part} f part parts in
    let b = sum_by-cons {X = Part} part_moves part parts in
    omega (arith, here, rest, a, b)

small_by : (size most limit : ℕ) (n : ℕ) → n ≤ 32 * size + 1 → size < most → 64 * most ≤ limit → n < limit
small_by size most limit n le lt few = omega (arith, le, lt, few)

-- ---- what it names

pub greatest_covers : (f : Part → ℕ) (parts : List Part) (most : ℕ) → greatest (map f parts) ≤ most → AllByRecursion (λ part. f part ≤ most) parts
greatest_covers f [] most le = tt
greatest_covers f (part ∷ parts) most le =
    let a = le-max_left (f part) (greatest (map f parts)) in
    let b = le-max_right (f part) (greatest (map f parts)) in
    (omega (arith, a, le), greatest_covers f parts most (omega (arith, b, le)))

parts_named : (room : Room) (slots : List Slot) (d : ℕ → Dist) (arrays loose : ℕ) (parts : List Part) → room.slots ≡ length slots → AllByRecursion (λ part. room.slots + spares_of part ≤ arrays) parts → AllByRecursion (λ part. loose_of part ≤ loose) parts
    → list_all (is_part_kept slots room.words) parts ≡ true → AreNamed (room.words + 2) arrays loose (part_code room slots d) parts
parts_named room slots d arrays loose [] same few few2 kept = tt
parts_named room slots d arrays loose (part ∷ parts) same few few2 kept =
    let each = and_parts (is_part_kept slots room.words part) (list_all (is_part_kept slots room.words) parts) kept in
    (part_named_there room slots d arrays loose part same few.0 few2.0 each.0, parts_named room slots d arrays loose parts same few.1 few2.1 each.1)

spares_fit : (n arrays : ℕ) (parts : List Part) (most : ℕ) → n + most ≤ arrays → AllByRecursion (λ part. spares_of part ≤ most) parts → AllByRecursion (λ part. n + spares_of part ≤ arrays) parts
spares_fit n arrays [] most le h = tt
spares_fit n arrays (part ∷ parts) most le h = let few = h.0 in (omega (arith, few, le), spares_fit n arrays parts most le h.1)

words_below : (words more : ℕ) (ws : List ℕ) → words ≤ more → are_below words ws ≡ true → AllByRecursion (λ w. w < more) ws
words_below words more [] le h = tt
words_below words more (w ∷ ws) le h =
    let parts = and_parts (nat_lt w words) (are_below words ws) h in
    let lt = ltb-true w words parts.0 in
    (omega (arith, lt, le), words_below words more ws le parts.1)

arrays_count : (slots : List Slot) (p : Prog Part) (dists : List Dist) → length slots ≤ length dists → length (code_arrays slots p dists) ≡ length slots + greatest (map spares_of (operations p))
arrays_count slots p dists le =
    let n = length slots in
    let m = greatest (map spares_of (operations p)) in
    let both = length-append (take n dists) (replicate m Var) in
    let front = length-take n dists in
    let back = length-replicate m Var in
    let least : min n (length dists) ≡ n = omega (arith, le) in
    omega (arith, both, front, back, least)

pub lowered_is_code : LoweredIsCode
unfolding code_list parts_size
lowered_is_code slots words p dists each kept size =
    let room = room_of slots words in
    let d = dist_at dists in
    let steps = part_code room slots d in
    let arrays = length (code_arrays slots p dists) in
    let loose = code_loose p in
    let body = code_from steps 0 p in
    let halt = instr.Halt ∷ [] in
    let both = and_parts (list_all (is_part_kept slots words) (operations p)) (are_below words (tests p)) kept in
    let count = arrays_count slots p dists each in
    let enough : room.slots + greatest (map spares_of (operations p)) ≤ arrays = omega (arith, count) in
    let least : greatest (map spares_of (operations p)) ≤ greatest (map spares_of (operations p)) = omega arith in
    let least2 : greatest (map loose_of (operations p)) ≤ loose = omega arith in
    let more : words ≤ words + 2 = omega arith in
    let named = parts_named room slots d arrays loose (operations p) refl (spares_fit room.slots arrays (operations p) (greatest (map spares_of (operations p))) enough (greatest_covers spares_of (operations p) (greatest (map spares_of (operations p))) least)) (greatest_covers loose_of (operations p) loose least2) both.0 in
    let last = length-append body halt in
    let lt : 0 + length body < length (body ++ halt) = omega (arith, last) in
    let count2 = long steps 0 p in
    let short = parts_short room slots d (operations p) in
    let few : length (body ++ halt) ≤ 32 * (length (operations p) + length (tests p) + sum_by part_moves (operations p)) + 1 = omega (arith, last, count2, short) in
    record {
      small = small_by (length (operations p) + length (tests p) + sum_by part_moves (operations p)) (2 ^ 26) (2 ^ 32) (length (body ++ halt)) few size (lit≤ tt);
      ends = ends_there body;
      within = all_join {X = Instr} (instr_within (words + 2) arrays loose) body halt (names_from (words + 2) arrays loose steps 0 p named (words_below words (words + 2) (tests p) more both.1)) refl;
      targets = all_join {X = Instr} (λ i. target_within (length (body ++ halt)) (kind_of i)) body halt (targets_from (length (body ++ halt)) steps 0 p (all_straight steps (steps_straight room slots d) (operations p)) lt) refl;
    }

-- the same of a code that is made of them
pub is_code_with : (slots : List Slot) (words : ℕ) (p : Prog Part) (dists : List Dist) (list : List Instr) (more : ℕ) (arrays : List Dist) (loose : ℕ) → length slots ≤ length dists → IsTrue (are_parts slots words p) → parts_size p < 2 ^ 26
    → list ≡ code_list slots words p dists → more ≡ code_words words → arrays ≡ code_arrays slots p dists → loose ≡ code_loose p → IsCodeList more (length arrays) loose list
is_code_with slots words p dists list more arrays loose each kept size is is2 is3 is4 =
    subst (IsCodeList more (length arrays) loose) (sym is)
    (subst (λ n. IsCodeList more (length arrays) n (code_list slots words p dists)) (sym is4)
    (subst (λ l. IsCodeList more (length l) (code_loose p) (code_list slots words p dists)) (sym is3)
    (subst (λ n. IsCodeList n (length (code_arrays slots p dists)) (code_loose p) (code_list slots words p dists)) (sym is2) (lowered_is_code slots words p dists each kept size))))
