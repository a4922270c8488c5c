-- What the code of a program names is there: its jumps go to its instructions, and its words, arrays and loose columns are those of the
-- program and the ones behind them.
use Rattle.std.proofs.Common.{◌≡◌, ◌∙◌, refl, sym, ap, arith, Bool, true, false, ℕ, ◌+◌, ◌<◌, List, [], ◌∷◌, ◌++◌, append_assoc, length, Some, None}
use Rattle.std.specs.Prelude.{◌&&◌, nat_lt, Option}
use Rattle.std.specs.List.{AllByRecursion, list_all}
use Rattle.std.proofs.lemmas.Bool.{and_parts, lt-ltb}
use Rattle.std.proofs.lemmas.List.{length-append}
use Rattle.hp_spmd.specs.declared.instr.Instr.{Instr}
use Rattle.hp_spmd.specs.declared.instr.Instr.TheVariants as instr
use Rattle.hp_spmd.specs.Kinds.{Kind, Jumps, kind_of}
use Rattle.hp_spmd.specs.Names.{ends_in_halt, instr_within, names_within, target_within, targets_within}
use Rattle.hp_program.specs.Programs.{Prog, stop, plain, choose, loop, joined, operations, tests}
use Rattle.hp_parfor.specs.Parts.{Part}
use Rattle.hp_snippet.specs.Promises.{IsNoJump, IsStraight}
use Rattle.hp_lowering.specs.CodeOf.{code_from}

-- ---- lists

pub both_true : (a b : Bool) → a ≡ true → b ≡ true → (a && b) ≡ true
both_true true b h k = k
both_true false b h k = h

pub all_join : {X : Type 0} (f : X → Bool) (xs ys : List X) → list_all f xs ≡ true → list_all f ys ≡ true → list_all f (xs ++ ys) ≡ true
all_join f [] ys h k = k
all_join {X} f (x ∷ xs) ys h k =
    let parts = and_parts (f x) (list_all f xs) h in
    both_true (f x) (list_all f (xs ++ ys)) parts.0 (all_join {X = X} f xs ys parts.1 k)

pub less_true : (k n : ℕ) → k < n → nat_lt k n ≡ true
less_true k n lt = lt-ltb k n lt

pub all_front : {X : Type 0} (P : X → Type 0) (xs ys : List X) → AllByRecursion P (xs ++ ys) → AllByRecursion P xs
all_front P [] ys h = tt
all_front {X} P (x ∷ xs) ys h = (h.0, all_front {X = X} P xs ys h.1)

pub all_back : {X : Type 0} (P : X → Type 0) (xs ys : List X) → AllByRecursion P (xs ++ ys) → AllByRecursion P ys
all_back P [] ys h = h
all_back {X} P (x ∷ xs) ys h = all_back {X = X} P xs ys h.1

-- ---- the end

pub ends_there : (xs : List Instr) → ends_in_halt (xs ++ (instr.Halt ∷ [])) ≡ true
ends_there [] = refl
ends_there (i ∷ []) = refl
ends_there (i ∷ j ∷ xs) = ends_there (j ∷ xs)

-- ---- jumps

kind_goes : (count : ℕ) (k : Kind) → IsNoJump k → target_within count k ≡ true
kind_goes count (Jumps target unless) h = absurd h
kind_goes count _ h = refl

none_goes : (count : ℕ) (xs : List Instr) → AllByRecursion (λ i. IsNoJump (kind_of i)) xs → targets_within count xs ≡ true
none_goes count [] h = refl
none_goes count (i ∷ xs) h = both_true (target_within count (kind_of i)) (targets_within count xs) (kind_goes count (kind_of i) h.0) (none_goes count xs h.1)

abbrev AreStraight : (Part → List Instr) → List Part → Type 0
AreStraight steps parts = AllByRecursion (λ part. IsStraight (steps part)) parts

targets_join : (count : ℕ) (xs ys : List Instr) → targets_within count xs ≡ true → targets_within count ys ≡ true → targets_within count (xs ++ ys) ≡ true
targets_join count xs ys h k = all_join {X = Instr} (λ i. target_within count (kind_of i)) xs ys h k

-- a jump to an instruction, and what stands behind it
jump_joins : (count target : ℕ) (unless : Option ℕ) (xs : List Instr) → target < count → targets_within count xs ≡ true → targets_within count (instr.Jump target unless ∷ xs) ≡ true
jump_joins count target unless xs lt h = both_true (nat_lt target count) (targets_within count xs) (less_true target count lt) h

pub targets_from : (count : ℕ) (steps : Part → List Instr) (place : ℕ) (p : Prog Part) → AreStraight steps (operations p) → place + length (code_from steps place p) < count → targets_within count (code_from steps place p) ≡ true
unfolding code_from operations
targets_from count steps place stop h lt = refl
targets_from count steps place (plain op p) h lt =
    let on = place + length (steps op) in
    let rest = code_from steps on p in
    let sum = length-append (steps op) rest in
    targets_join count (steps op) rest (none_goes count (steps op) h.0.jumps) (targets_from count steps on p h.1 (omega (arith, lt, sum)))
targets_from count steps place (choose w first second p) h lt =
    let S = λ (part : Part). IsStraight (steps part) in
    let both = all_front {X = Part} S (operations first ++ operations second) (operations p) h in
    let yes_code = code_from steps (place + 1) first in
    let other = place + length yes_code + 2 in
    let no_code = code_from steps other second in
    let behind = other + length no_code in
    let last = code_from steps behind p in
    let sum1 = length-append yes_code (instr.Jump behind None ∷ (no_code ++ last)) in
    let sum2 = length-append no_code last in
    jump_joins count other (Some w) (yes_code ++ (instr.Jump behind None ∷ (no_code ++ last))) (omega (arith, lt, sum1, sum2))
    (targets_join count yes_code (instr.Jump behind None ∷ (no_code ++ last)) (targets_from count steps (place + 1) first (all_front {X = Part} S (operations first) (operations second) both) (omega (arith, lt, sum1, sum2)))
    (jump_joins count behind None (no_code ++ last) (omega (arith, lt, sum1, sum2))
    (targets_join count no_code last (targets_from count steps other second (all_back {X = Part} S (operations first) (operations second) both) (omega (arith, lt, sum1, sum2)))
    (targets_from count steps behind p (all_back {X = Part} S (operations first ++ operations second) (operations p) h) (omega (arith, lt, sum1, sum2))))))
targets_from count steps place (loop test w body p) h lt =
    let S = λ (part : Part). IsStraight (steps part) in
    let both = all_front {X = Part} S (operations test ++ operations body) (operations p) h in
    let look = code_from steps place test in
    let inside = place + length look + 1 in
    let turn = code_from steps inside body in
    let behind = inside + length turn + 1 in
    let last = code_from steps behind p in
    let sum1 = length-append look (instr.Jump behind (Some w) ∷ (turn ++ (instr.Jump place None ∷ last))) in
    let sum2 = length-append turn (instr.Jump place None ∷ last) in
    targets_join count look (instr.Jump behind (Some w) ∷ (turn ++ (instr.Jump place None ∷ last))) (targets_from count steps place test (all_front {X = Part} S (operations test) (operations body) both) (omega (arith, lt, sum1, sum2)))
    (jump_joins count behind (Some w) (turn ++ (instr.Jump place None ∷ last)) (omega (arith, lt, sum1, sum2))
    (targets_join count turn (instr.Jump place None ∷ last) (targets_from count steps inside body (all_back {X = Part} S (operations test) (operations body) both) (omega (arith, lt, sum1, sum2)))
    (jump_joins count place None last (omega (arith, lt, sum1, sum2)) (targets_from count steps behind p (all_back {X = Part} S (operations test ++ operations body) (operations p) h) (omega (arith, lt, sum1, sum2))))))

-- ---- names

-- what the steps name is there
abbrev pub AreNamed : (words arrays loose : ℕ) → (Part → List Instr) → List Part → Type 0
AreNamed words arrays loose steps parts = AllByRecursion (λ part. names_within words arrays loose (steps part) ≡ true) parts

names_join : (words arrays loose : ℕ) (xs ys : List Instr) → names_within words arrays loose xs ≡ true → names_within words arrays loose ys ≡ true → names_within words arrays loose (xs ++ ys) ≡ true
names_join words arrays loose xs ys h k = all_join {X = Instr} (instr_within words arrays loose) xs ys h k

look_joins : (words arrays loose target w : ℕ) (xs : List Instr) → w < words → names_within words arrays loose xs ≡ true → names_within words arrays loose (instr.Jump target (Some w) ∷ xs) ≡ true
look_joins words arrays loose target w xs lt h = both_true (nat_lt w words) (names_within words arrays loose xs) (less_true w words lt) h

pub names_from : (words arrays loose : ℕ) (steps : Part → List Instr) (place : ℕ) (p : Prog Part) → AreNamed words arrays loose steps (operations p) → AllByRecursion (λ w. w < words) (tests p) → names_within words arrays loose (code_from steps place p) ≡ true
unfolding code_from operations tests
names_from words arrays loose steps place stop h ws = refl
names_from words arrays loose steps place (plain op p) h ws =
    let on = place + length (steps op) in
    names_join words arrays loose (steps op) (code_from steps on p) h.0 (names_from words arrays loose steps on p h.1 ws)
names_from words arrays loose steps place (choose w first second p) h ws =
    let S = λ (part : Part). names_within words arrays loose (steps part) ≡ true in
    let W = λ (v : ℕ). v < words in
    let both = all_front {X = Part} S (operations first ++ operations second) (operations p) h in
    let words_both = all_front {X = ℕ} W (tests first ++ tests second) (tests p) ws.1 in
    let yes_code = code_from steps (place + 1) first in
    let other = place + length yes_code + 2 in
    let no_code = code_from steps other second in
    let behind = other + length no_code in
    let last = code_from steps behind p in
    look_joins words arrays loose other w (yes_code ++ (instr.Jump behind None ∷ (no_code ++ last))) ws.0
    (names_join words arrays loose yes_code (instr.Jump behind None ∷ (no_code ++ last)) (names_from words arrays loose steps (place + 1) first (all_front {X = Part} S (operations first) (operations second) both) (all_front {X = ℕ} W (tests first) (tests second) words_both))
    (names_join words arrays loose no_code last (names_from words arrays loose steps other second (all_back {X = Part} S (operations first) (operations second) both) (all_back {X = ℕ} W (tests first) (tests second) words_both))
    (names_from words arrays loose steps behind p (all_back {X = Part} S (operations first ++ operations second) (operations p) h) (all_back {X = ℕ} W (tests first ++ tests second) (tests p) ws.1))))
names_from words arrays loose steps place (loop test w body p) h ws =
    let S = λ (part : Part). names_within words arrays loose (steps part) ≡ true in
    let W = λ (v : ℕ). v < words in
    let both = all_front {X = Part} S (operations test ++ operations body) (operations p) h in
    let front = all_front {X = ℕ} W (tests test ++ (w ∷ tests body)) (tests p) ws in
    let inner = all_back {X = ℕ} W (tests test) (w ∷ tests body) front in
    let look = code_from steps place test in
    let inside = place + length look + 1 in
    let turn = code_from steps inside body in
    let behind = inside + length turn + 1 in
    let last = code_from steps behind p in
    names_join words arrays loose look (instr.Jump behind (Some w) ∷ (turn ++ (instr.Jump place None ∷ last))) (names_from words arrays loose steps place test (all_front {X = Part} S (operations test) (operations body) both) (all_front {X = ℕ} W (tests test) (w ∷ tests body) front))
    (look_joins words arrays loose behind w (turn ++ (instr.Jump place None ∷ last)) inner.0
    (names_join words arrays loose turn (instr.Jump place None ∷ last) (names_from words arrays loose steps inside body (all_back {X = Part} S (operations test) (operations body) both) inner.1)
    (names_from words arrays loose steps behind p (all_back {X = Part} S (operations test ++ operations body) (operations p) h) (all_back {X = ℕ} W (tests test ++ (w ∷ tests body)) (tests p) ws))))

-- ---- one program behind another

pub code_joined : (steps : Part → List Instr) (place : ℕ) (p q : Prog Part) → code_from steps place (joined p q) ≡ code_from steps place p ++ code_from steps (place + length (code_from steps place p)) q
unfolding code_from joined
code_joined steps place stop q = let same : place ≡ place + 0 = omega arith in ap (λ n. code_from steps n q) same
code_joined steps place (plain op p) q =
    let on = place + length (steps op) in
    let rest = code_from steps on p in
    let sum = length-append (steps op) rest in
    let same : on + length rest ≡ place + length (steps op ++ rest) = omega (arith, sum) in
    ap (λ l. steps op ++ l) (code_joined steps on p q) ∙ sym (append_assoc (steps op) rest (code_from steps (on + length rest) q)) ∙ ap (λ n. (steps op ++ rest) ++ code_from steps n q) same
code_joined steps place (choose w first second p) q =
    let yes_code = code_from steps (place + 1) first in
    let other = place + length yes_code + 2 in
    let no_code = code_from steps other second in
    let behind = other + length no_code in
    let last = code_from steps behind p in
    let go = instr.Jump other (Some w) in
    let there = instr.Jump behind None in
    let sum1 = length-append yes_code (there ∷ (no_code ++ last)) in
    let sum2 = length-append no_code last in
    let same : behind + length last ≡ place + length (go ∷ (yes_code ++ (there ∷ (no_code ++ last)))) = omega (arith, sum1, sum2) in
    let next = code_from steps (behind + length last) q in
    ap (λ l. go ∷ (yes_code ++ (there ∷ (no_code ++ l)))) (code_joined steps behind p q)
    ∙ ap (λ l. go ∷ (yes_code ++ (there ∷ l))) (sym (append_assoc no_code last next))
    ∙ ap (λ l. go ∷ l) (sym (append_assoc yes_code (there ∷ (no_code ++ last)) next))
    ∙ ap (λ n. (go ∷ (yes_code ++ (there ∷ (no_code ++ last)))) ++ code_from steps n q) same
code_joined steps place (loop test w body p) q =
    let look = code_from steps place test in
    let inside = place + length look + 1 in
    let turn = code_from steps inside body in
    let behind = inside + length turn + 1 in
    let last = code_from steps behind p in
    let go = instr.Jump behind (Some w) in
    let back = instr.Jump place None in
    let sum1 = length-append look (go ∷ (turn ++ (back ∷ last))) in
    let sum2 = length-append turn (back ∷ last) in
    let same : behind + length last ≡ place + length (look ++ (go ∷ (turn ++ (back ∷ last)))) = omega (arith, sum1, sum2) in
    let next = code_from steps (behind + length last) q in
    ap (λ l. look ++ (go ∷ (turn ++ (back ∷ l)))) (code_joined steps behind p q)
    ∙ ap (λ l. look ++ (go ∷ l)) (sym (append_assoc turn (back ∷ last) next))
    ∙ sym (append_assoc look (go ∷ (turn ++ (back ∷ last))) next)
    ∙ ap (λ n. (look ++ (go ∷ (turn ++ (back ∷ last)))) ++ code_from steps n q) same
