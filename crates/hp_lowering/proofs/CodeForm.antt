-- The whole code of a program has the form of exchanges.
use Rattle.std.proofs.Common.{◌≡◌, ◌∙◌, refl, sym, ap, arith, ℕ, ◌+◌, List, [], ◌∷◌, ◌++◌, append_assoc, length, drop, Some, None}
use Rattle.std.specs.List.{AllByRecursion}
use Rattle.hp_spmd.specs.declared.instr.Instr.{Instr}
use Rattle.hp_spmd.specs.declared.instr.Instr.TheVariants as instr
use Rattle.hp_spmd.specs.Exchanges.{AllJumpOutside, JumpsOutside, LeadsPhase, Outside, SizesFollow, wants}
use Rattle.hp_spmd.specs.Kinds.{Kind, Jumps, kind_of}
use Rattle.hp_spmd.specs.Store.{instr_at}
use Rattle.hp_spmd.proofs.Forms.{leads_join, sizes_join}
use Rattle.hp_program.specs.Programs.{Prog, stop, plain, choose, loop, operations}
use Rattle.hp_parfor.specs.Parts.{Part}
use Rattle.hp_snippet.specs.Promises.{IsNoJump, IsStraight}
use Rattle.hp_lowering.specs.CodeLaws.{CodeHasForm}
use Rattle.hp_lowering.specs.CodeOf.{code_from}
use Rattle.hp_lowering.proofs.CodeNames.{all_back, all_front}
use Rattle.hp_lowering.proofs.Places.{at_drop, drop_one, drop_past}

-- ---- each step by itself

-- the steps are straight
abbrev AreStraight : (Part → List Instr) → List Part → Type 0
AreStraight steps parts = AllByRecursion (λ part. IsStraight (steps part)) parts

-- those of three programs one behind the other
abbrev Parted : (Part → List Instr) → (a b c : List Part) → Type 0
Parted steps a b c = AreStraight steps a × (AreStraight steps b × AreStraight steps c)

parted : (steps : Part → List Instr) (a b c : List Part) → AreStraight steps ((a ++ b) ++ c) → Parted steps a b c
parted steps a b c h =
    let P = λ (part : Part). IsStraight (steps part) in
    let both = all_front {X = Part} P (a ++ b) c h in
    (all_front {X = Part} P a b both, (all_back {X = Part} P a b both, all_back {X = Part} P (a ++ b) c h))

-- ---- phases

phases : (steps : Part → List Instr) (place : ℕ) (p : Prog Part) → AreStraight steps (operations p) → LeadsPhase Outside (code_from steps place p) Outside
unfolding code_from operations
phases steps place stop h = refl
phases steps place (plain op p) h = leads_join Outside Outside Outside (steps op) (code_from steps (place + length (steps op)) p) h.0.leads (phases steps (place + length (steps op)) p h.1)
phases steps place (choose w first second p) h =
    let each = parted steps (operations first) (operations second) (operations p) h in
    let yes = code_from steps (place + 1) first in
    let other = place + length yes + 2 in
    let no = code_from steps other second in
    let behind = other + length no in (
      refl,
      leads_join Outside Outside Outside yes (instr.Jump behind None ∷ (no ++ code_from steps behind p)) (phases steps (place + 1) first each.0)
          (refl, leads_join Outside Outside Outside no (code_from steps behind p) (phases steps other second each.1.0) (phases steps behind p each.1.1)),
    )
phases steps place (loop test w body p) h =
    let each = parted steps (operations test) (operations body) (operations p) h in
    let look = code_from steps place test in
    let inside = place + length look + 1 in
    let turn = code_from steps inside body in
    let behind = inside + length turn + 1 in
    leads_join Outside Outside Outside look (instr.Jump behind (Some w) ∷ (turn ++ (instr.Jump place None ∷ code_from steps behind p))) (phases steps place test each.0)
    (refl, leads_join Outside Outside Outside turn (instr.Jump place None ∷ code_from steps behind p) (phases steps inside body each.1.0) (refl, phases steps behind p each.1.1))

-- ---- sizes

sizes : (steps : Part → List Instr) (place : ℕ) (p : Prog Part) → AreStraight steps (operations p) → SizesFollow (code_from steps place p)
unfolding code_from operations
sizes steps place stop h = tt
sizes steps place (plain op p) h = sizes_join (steps op) (code_from steps (place + length (steps op)) p) h.0.sizes (sizes steps (place + length (steps op)) p h.1)
sizes steps place (choose w first second p) h =
    let each = parted steps (operations first) (operations second) (operations p) h in
    let yes = code_from steps (place + 1) first in
    let other = place + length yes + 2 in
    let no = code_from steps other second in
    let behind = other + length no in (
      tt,
      sizes_join yes (instr.Jump behind None ∷ (no ++ code_from steps behind p)) (sizes steps (place + 1) first each.0)
          (tt, sizes_join no (code_from steps behind p) (sizes steps other second each.1.0) (sizes steps behind p each.1.1)),
    )
sizes steps place (loop test w body p) h =
    let each = parted steps (operations test) (operations body) (operations p) h in
    let look = code_from steps place test in
    let inside = place + length look + 1 in
    let turn = code_from steps inside body in
    let behind = inside + length turn + 1 in
    sizes_join look (instr.Jump behind (Some w) ∷ (turn ++ (instr.Jump place None ∷ code_from steps behind p))) (sizes steps place test each.0)
    (tt, sizes_join turn (instr.Jump place None ∷ code_from steps behind p) (sizes steps inside body each.1.0) (tt, sizes steps behind p each.1.1))

-- ---- jumps

no_jump : (list : List Instr) (k : Kind) → IsNoJump k → JumpsOutside list k
no_jump list (Jumps target unless) h = absurd h
no_jump list _ h = tt

none_jump : (list xs : List Instr) → AllByRecursion (λ i. IsNoJump (kind_of i)) xs → AllJumpOutside list xs
none_jump list [] h = tt
none_jump list (i ∷ xs) h = (no_jump list (kind_of i) h.0, none_jump list xs h.1)

jumps_join : (list xs ys : List Instr) → AllJumpOutside list xs → AllJumpOutside list ys → AllJumpOutside list (xs ++ ys)
jumps_join list [] ys h k = k
jumps_join list (i ∷ xs) ys h k = (h.0, jumps_join list xs ys h.1 k)

-- what stands from a place on begins outside of exchanges, where it leads from outside to outside
starts_outside : (xs : List Instr) → LeadsPhase Outside xs Outside → wants (kind_of (instr_at xs 0)) ≡ Outside
starts_outside [] h = refl
starts_outside (i ∷ xs) h = sym h.0

goes_outside : (list xs : List Instr) (k : ℕ) → drop k list ≡ xs → LeadsPhase Outside xs Outside → wants (kind_of (instr_at list k)) ≡ Outside
goes_outside list xs k e h = ap (λ i. wants (kind_of i)) (at_drop list k ∙ ap (λ l. instr_at l 0) e) ∙ starts_outside xs h

jumps_from : (list : List Instr) (steps : Part → List Instr) (place : ℕ) (p : Prog Part) (after : List Instr) → AreStraight steps (operations p) → LeadsPhase Outside after Outside → drop place list ≡ code_from steps place p ++ after → AllJumpOutside list (code_from steps place p)
unfolding code_from operations
jumps_from list steps place stop after h out e = tt
jumps_from list steps place (plain op p) after h out e =
    let rest = code_from steps (place + length (steps op)) p in
    jumps_join list (steps op) rest (none_jump list (steps op) h.0.jumps)
    (jumps_from list steps (place + length (steps op)) p after h.1 out (drop_past list (steps op) (rest ++ after) place (e ∙ append_assoc (steps op) rest after)))
jumps_from list steps place (choose w first second p) after h out e =
    let each = parted steps (operations first) (operations second) (operations p) h in
    let yes = code_from steps (place + 1) first in
    let other = place + length yes + 2 in
    let no = code_from steps other second in
    let behind = other + length no in
    let rest = code_from steps behind p in
    let there = instr.Jump behind None in
    let last = rest ++ after in
    let back = no ++ last in
    let flat = e ∙ ap (λ l. instr.Jump other (Some w) ∷ l) (append_assoc yes (there ∷ (no ++ rest)) after) ∙ ap (λ l. instr.Jump other (Some w) ∷ (yes ++ (there ∷ l))) (append_assoc no rest after) in
    let e1 = drop_one list (yes ++ (there ∷ back)) (instr.Jump other (Some w)) place (place + 1) refl flat in
    let e2 = drop_past list yes (there ∷ back) (place + 1) e1 in
    let at_other : other ≡ ((place + 1) + length yes) + 1 = omega arith in
    let e3 = drop_one list back there ((place + 1) + length yes) other at_other e2 in
    let e4 = drop_past list no last other e3 in
    let last_out = leads_join Outside Outside Outside rest after (phases steps behind p each.1.1) out in
    let back_out = leads_join Outside Outside Outside no last (phases steps other second each.1.0) last_out in (
      goes_outside list back other e3 back_out,
      jumps_join list yes (there ∷ (no ++ rest)) (jumps_from list steps (place + 1) first (there ∷ back) each.0 (refl, back_out) e1) (
        goes_outside list last behind e4 last_out,
        jumps_join list no rest (jumps_from list steps other second last each.1.0 last_out e3) (jumps_from list steps behind p after each.1.1 out e4),
      ),
    )
jumps_from list steps place (loop test w body p) after h out e =
    let each = parted steps (operations test) (operations body) (operations p) h in
    let look = code_from steps place test in
    let inside = place + length look + 1 in
    let turn = code_from steps inside body in
    let behind = inside + length turn + 1 in
    let rest = code_from steps behind p in
    let go = instr.Jump behind (Some w) in
    let back = instr.Jump place None in
    let last = rest ++ after in
    let e0 = e ∙ append_assoc look (go ∷ (turn ++ (back ∷ rest))) after ∙ ap (λ l. look ++ (go ∷ l)) (append_assoc turn (back ∷ rest) after) in
    let e1 = drop_past list look (go ∷ (turn ++ (back ∷ last))) place e0 in
    let e2 = drop_one list (turn ++ (back ∷ last)) go (place + length look) inside refl e1 in
    let e3 = drop_past list turn (back ∷ last) inside e2 in
    let e4 = drop_one list last back (inside + length turn) behind refl e3 in
    let last_out = leads_join Outside Outside Outside rest after (phases steps behind p each.1.1) out in
    let turn_out = leads_join Outside Outside Outside turn (back ∷ last) (phases steps inside body each.1.0) (refl, last_out) in
    let look_out = leads_join Outside Outside Outside look (go ∷ (turn ++ (back ∷ last))) (phases steps place test each.0) (refl, turn_out) in
    jumps_join list look (go ∷ (turn ++ (back ∷ rest))) (jumps_from list steps place test (go ∷ (turn ++ (back ∷ last))) each.0 (refl, turn_out) e0) (
      goes_outside list last behind e4 last_out,
      jumps_join list turn (back ∷ rest) (jumps_from list steps inside body (back ∷ last) each.1.0 (refl, last_out) e2)
          (goes_outside list (look ++ (go ∷ (turn ++ (back ∷ last)))) place e0 look_out, jumps_from list steps behind p after each.1.1 out e4),
    )

-- ---- the whole

pub code_has_form : CodeHasForm
code_has_form steps p h =
    let list = code_from steps 0 p ++ (instr.Halt ∷ []) in
    record {
      leads = leads_join Outside Outside Outside (code_from steps 0 p) (instr.Halt ∷ []) (phases steps 0 p h) (refl, refl);
      jumps = jumps_join list (code_from steps 0 p) (instr.Halt ∷ []) (jumps_from list steps 0 p (instr.Halt ∷ []) h (refl, refl) refl) (tt, tt);
      sizes = sizes_join (code_from steps 0 p) (instr.Halt ∷ []) (sizes steps 0 p h) (tt, tt);
    }
