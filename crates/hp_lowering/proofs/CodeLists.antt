-- The packs and the loops of a code are those of its steps.
use Rattle.std.proofs.Common.{◌≡◌, ◌∙◌, refl, sym, ap, ℕ, ◌+◌, List, [], ◌∷◌, ◌++◌, append_assoc, append-nil, length, Some, None}
use Rattle.std.specs.Prelude.{flat_map}
use Rattle.std.proofs.lemmas.Grind.{flat_map-append}
use Rattle.hp_spmd.specs.declared.instr.Instr.{Instr}
use Rattle.hp_spmd.specs.declared.instr.Instr.TheVariants as instr
use Rattle.hp_spmd.specs.declared.instr.Loop.{Loop}
use Rattle.hp_spmd.specs.declared.instr.Packing.{Packing}
use Rattle.hp_program.specs.Programs.{Prog, stop, plain, choose, loop, operations}
use Rattle.hp_parfor.specs.Parts.{Part}
use Rattle.hp_lowering.specs.CodeLaws.{CodeLoops, CodePacks}
use Rattle.hp_lowering.specs.CodeOf.{code_from}
use Rattle.hp_lowering.specs.Follows.{loops_in, packed_in}

pub packed_join : (xs ys : List Instr) → packed_in (xs ++ ys) ≡ packed_in xs ++ packed_in ys
packed_join [] ys = refl
packed_join (instr.Pack what ∷ xs) ys = ap (λ l. what ∷ l) (packed_join xs ys)
packed_join (i ∷ xs) ys = packed_join xs ys

pub loops_join : (xs ys : List Instr) → loops_in (xs ++ ys) ≡ loops_in xs ++ loops_in ys
loops_join [] ys = refl
loops_join (instr.Loop l ∷ xs) ys = ap (λ ls. l ∷ ls) (loops_join xs ys)
loops_join (i ∷ xs) ys = loops_join xs ys

-- what is collected of three lists one behind the other
three : {X Y : Type 0} (f : X → List Y) (a b c : List X) → flat_map f ((a ++ b) ++ c) ≡ flat_map f a ++ (flat_map f b ++ flat_map f c)
three {X} {Y} f a b c =
    flat_map-append {X = X} {A = Y} f (a ++ b) c ∙ ap (λ l. l ++ flat_map f c) (flat_map-append {X = X} {A = Y} f a b) ∙ append_assoc {A = Y} (flat_map f a) (flat_map f b) (flat_map f c)

packs_from : (steps : Part → List Instr) (place : ℕ) (p : Prog Part) → packed_in (code_from steps place p) ≡ flat_map (λ part. packed_in (steps part)) (operations p)
unfolding code_from operations
packs_from steps place stop = refl
packs_from steps place (plain op p) =
    packed_join (steps op) (code_from steps (place + length (steps op)) p) ∙ ap (λ l. packed_in (steps op) ++ l) (packs_from steps (place + length (steps op)) p)
packs_from steps place (choose w first second p) =
    let yes = code_from steps (place + 1) first in
    let other = place + length yes + 2 in
    let no = code_from steps other second in
    let behind = other + length no in
    let f = λ (part : Part). packed_in (steps part) in
    packed_join yes (instr.Jump behind None ∷ (no ++ code_from steps behind p))
    ∙ ap (λ l. l ++ packed_in (no ++ code_from steps behind p)) (packs_from steps (place + 1) first)
    ∙ ap (λ l. flat_map f (operations first) ++ l)
    (packed_join no (code_from steps behind p) ∙ ap (λ l. l ++ packed_in (code_from steps behind p)) (packs_from steps other second) ∙ ap (λ l. flat_map f (operations second) ++ l) (packs_from steps behind p))
    ∙ sym (three {X = Part} {Y = Packing} f (operations first) (operations second) (operations p))
packs_from steps place (loop test w body p) =
    let look = code_from steps place test in
    let inside = place + length look + 1 in
    let turn = code_from steps inside body in
    let behind = inside + length turn + 1 in
    let f = λ (part : Part). packed_in (steps part) in
    packed_join look (instr.Jump behind (Some w) ∷ (turn ++ (instr.Jump place None ∷ code_from steps behind p)))
    ∙ ap (λ l. l ++ packed_in (turn ++ (instr.Jump place None ∷ code_from steps behind p))) (packs_from steps place test)
    ∙ ap (λ l. flat_map f (operations test) ++ l)
    (packed_join turn (instr.Jump place None ∷ code_from steps behind p) ∙ ap (λ l. l ++ packed_in (code_from steps behind p)) (packs_from steps inside body) ∙ ap (λ l. flat_map f (operations body) ++ l) (packs_from steps behind p))
    ∙ sym (three {X = Part} {Y = Packing} f (operations test) (operations body) (operations p))

loops_from : (steps : Part → List Instr) (place : ℕ) (p : Prog Part) → loops_in (code_from steps place p) ≡ flat_map (λ part. loops_in (steps part)) (operations p)
unfolding code_from operations
loops_from steps place stop = refl
loops_from steps place (plain op p) =
    loops_join (steps op) (code_from steps (place + length (steps op)) p) ∙ ap (λ l. loops_in (steps op) ++ l) (loops_from steps (place + length (steps op)) p)
loops_from steps place (choose w first second p) =
    let yes = code_from steps (place + 1) first in
    let other = place + length yes + 2 in
    let no = code_from steps other second in
    let behind = other + length no in
    let f = λ (part : Part). loops_in (steps part) in
    loops_join yes (instr.Jump behind None ∷ (no ++ code_from steps behind p))
    ∙ ap (λ l. l ++ loops_in (no ++ code_from steps behind p)) (loops_from steps (place + 1) first)
    ∙ ap (λ l. flat_map f (operations first) ++ l)
    (loops_join no (code_from steps behind p) ∙ ap (λ l. l ++ loops_in (code_from steps behind p)) (loops_from steps other second) ∙ ap (λ l. flat_map f (operations second) ++ l) (loops_from steps behind p))
    ∙ sym (three {X = Part} {Y = Loop} f (operations first) (operations second) (operations p))
loops_from steps place (loop test w body p) =
    let look = code_from steps place test in
    let inside = place + length look + 1 in
    let turn = code_from steps inside body in
    let behind = inside + length turn + 1 in
    let f = λ (part : Part). loops_in (steps part) in
    loops_join look (instr.Jump behind (Some w) ∷ (turn ++ (instr.Jump place None ∷ code_from steps behind p)))
    ∙ ap (λ l. l ++ loops_in (turn ++ (instr.Jump place None ∷ code_from steps behind p))) (loops_from steps place test)
    ∙ ap (λ l. flat_map f (operations test) ++ l)
    (loops_join turn (instr.Jump place None ∷ code_from steps behind p) ∙ ap (λ l. l ++ loops_in (code_from steps behind p)) (loops_from steps inside body) ∙ ap (λ l. flat_map f (operations body) ++ l) (loops_from steps behind p))
    ∙ sym (three {X = Part} {Y = Loop} f (operations test) (operations body) (operations p))

pub code_packs : CodePacks
code_packs steps p = packed_join (code_from steps 0 p) (instr.Halt ∷ []) ∙ append-nil (packed_in (code_from steps 0 p)) ∙ packs_from steps 0 p

pub code_loops : CodeLoops
code_loops steps p = loops_join (code_from steps 0 p) (instr.Halt ∷ []) ∙ append-nil (loops_in (code_from steps 0 p)) ∙ loops_from steps 0 p
