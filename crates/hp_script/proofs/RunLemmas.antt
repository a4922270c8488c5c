-- The ways of a scope set the names that all runs set.
use Rattle.std.proofs.Common.{◌≡◌, ℕ, Bool, true, false, ◌&&◌, ◌||◌, List, [], ◌∷◌, ◌++◌, map, bytes_eq, refl, sym, ap, ap₂, ◌∙◌}
use Rattle.hp_word.specs.declared.place.Place.{Place}
use Rattle.hp_script.specs.Checked.{start_of}
use Rattle.hp_script.specs.Fitting.{FitsBlock, fits_done, fits_first, fits_again, fits_print, fits_export, fits_if, fits_while}
use Rattle.hp_script.specs.Mirror.{Tree, Block, done, assign, print, export, choose, loop}
use Rattle.hp_script.specs.Runs.{IsRun, run_done, run_assign, run_print, run_export, run_first, run_second, run_past, run_turn, Position, here, past_assign, past_print, past_export, in_first, in_second, past_if, in_turn, past_loop, Arrives, arrives_here, arrives_assign, arrives_print, arrives_export, arrives_first, arrives_second, arrives_by_first, arrives_by_second, arrives_turn, arrives_past, arrives_again, IsScopeAt, at_here, at_assign, at_print, at_export, at_first, at_second, at_if, at_turn, at_loop, SetsLikeRuns}
use Rattle.hp_script.specs.Scope.{Scope, has, is_set}
use Rattle.hp_script.proofs.TestLemmas.{and_left, and_right, second_true, both_false, false_both}
use Rattle.hp_script.proofs.ScopeLemmas.{set_assigned, set_both}

-- ---- truth values

either : (a b c : Bool) → ((b || a) || c) ≡ (a || (b || c))
either true true c = refl
either true false c = refl
either false true c = refl
either false false c = refl

through_branches : (s b o r : Bool) → (((s || b) && (s || o)) || r) ≡ (s || ((b && o) || r))
through_branches true b o r = refl
through_branches false b o r = refl

past_loop_only : (s b r : Bool) → ((s && (s || b)) || r) ≡ (s || r)
past_loop_only true b r = refl
past_loop_only false b r = refl

or_assoc : (a b c : Bool) → (a || (b || c)) ≡ ((a || b) || c)
or_assoc true b c = refl
or_assoc false b c = refl

or_false : (a : Bool) → (a || false) ≡ a
or_false true = refl
or_false false = refl

-- ---- names

has_append : (x : List ℕ) (names more : List (List ℕ)) → has x (names ++ more) ≡ (has x names || has x more)
has_append x [] more = refl
has_append x (y ∷ names) more = ap (λ (b : Bool). bytes_eq x y || b) (has_append x names more) ∙ or_assoc (bytes_eq x y) (has x names) (has x more)

-- ---- what a block sets

sets : Block → List ℕ → Bool
sets done x = false
sets (assign at y e rest) x = bytes_eq x y || sets rest x
sets (print at e rest) x = sets rest x
sets (export at e rest) x = sets rest x
sets (choose at c body other rest) x = (sets body x && sets other x) || sets rest x
sets (loop at c body rest) x = sets rest x

assigned_sets : (s t : Scope) (y x : List ℕ) (rest : Block) → is_set t.ways x ≡ (is_set (map (λ way. y ∷ way) s.ways) x || sets rest x) → is_set t.ways x ≡ (is_set s.ways x || (bytes_eq x y || sets rest x))
assigned_sets s t y x rest e = e ∙ ap (λ (b : Bool). b || sets rest x) (set_assigned y x s.ways) ∙ either (is_set s.ways x) (bytes_eq x y) (sets rest x)

block_sets : {s : Scope} {b : Block} {t : Scope} → FitsBlock s b t → (x : List ℕ) → is_set t.ways x ≡ (is_set s.ways x || sets b x)
unfolding sets
block_sets {s = s} fits_done x = sym (or_false (is_set s.ways x))
block_sets {s = s} {t = t} (fits_first {x = y} {rest = rest} p is next) x = assigned_sets s t y x rest (block_sets next x)
block_sets {s = s} {t = t} (fits_again {x = y} {rest = rest} p is next) x = assigned_sets s t y x rest (block_sets next x)
block_sets (fits_print p can next) x = block_sets next x
block_sets (fits_export p next) x = block_sets next x
block_sets {s = s} (fits_if {first = first} {second = second} {body = body} {other = other} {rest = rest} p taken passed next) x =
    block_sets next x
    ∙ ap (λ (b : Bool). b || sets rest x) (set_both first.ways second.ways x ∙ ap₂ (λ (b c : Bool). b && c) (block_sets taken x) (block_sets passed x))
    ∙ through_branches (is_set s.ways x) (sets body x) (sets other x) (sets rest x)
block_sets {s = s} (fits_while {turn = turn} {body = body} {rest = rest} p taken next) x =
    block_sets next x
    ∙ ap (λ (b : Bool). b || sets rest x) (set_both s.ways turn.ways x ∙ ap (λ (b : Bool). is_set s.ways x && b) (block_sets taken x))
    ∙ past_loop_only (is_set s.ways x) (sets body x) (sets rest x)

-- ---- runs

or_true : (a b c d : Bool) → (a ≡ true → c ≡ true) → (b ≡ true → d ≡ true) → (a || b) ≡ true → (c || d) ≡ true
or_true true b c d first second e = ap (λ (k : Bool). k || d) (first refl)
or_true false b true d first second e = refl
or_true false b false d first second e = second e

or_keeps : (a b c : Bool) → (b ≡ true → c ≡ true) → (a || b) ≡ true → (a || c) ≡ true
or_keeps true b c next e = refl
or_keeps false b c next e = next e

-- each run assigns what the block sets
runs_set : {b : Block} {names : List (List ℕ)} (x : List ℕ) → IsRun b names → sets b x ≡ true → has x names ≡ true
unfolding sets
runs_set x run_done e = e
runs_set x (run_assign {x = y} {rest = rest} {names = names} r) e = or_keeps (bytes_eq x y) (sets rest x) (has x names) (λ h. runs_set x r h) e
runs_set x (run_print r) e = runs_set x r e
runs_set x (run_export r) e = runs_set x r e
runs_set x (run_first {body = body} {other = other} {rest = rest} {names = names} {more = more} r q) e =
    has_append x names more
    ∙ or_true (sets body x && sets other x) (sets rest x) (has x names) (has x more) (λ h. runs_set x r (and_left (sets body x) (sets other x) h)) (λ h. runs_set x q h) e
runs_set x (run_second {body = body} {other = other} {rest = rest} {names = names} {more = more} r q) e =
    has_append x names more
    ∙ or_true (sets body x && sets other x) (sets rest x) (has x names) (has x more) (λ h. runs_set x r (and_right (sets body x) (sets other x) h)) (λ h. runs_set x q h) e
runs_set x (run_past r) e = runs_set x r e
runs_set x (run_turn {names = names} {more = more} r q) e = has_append x names more ∙ second_true (has x names) (has x more) (runs_set x q e)

-- some run through the block does not assign the name
record Misses (b : Block) (x : List ℕ) : Type 0 where
  names : List (List ℕ)
  run : IsRun b names
  missed : has x names ≡ false

misses_if : (k : Bool) (at : _) (c : Tree) (body other rest : Block) (x : List ℕ) → sets body x ≡ k → (k && sets other x) ≡ false
    → (sets body x ≡ false → Misses body x) → (sets other x ≡ false → Misses other x) → Misses rest x → Misses (choose at c body other rest) x
misses_if false at c body other rest x is e first second next =
    let m = first is in
    record { names = m.names ++ next.names; run = run_first m.run next.run; missed = has_append x m.names next.names ∙ false_both _ _ m.missed next.missed }
misses_if true at c body other rest x is e first second next =
    let m = second e in
    record { names = m.names ++ next.names; run = run_second m.run next.run; missed = has_append x m.names next.names ∙ false_both _ _ m.missed next.missed }

misses : (b : Block) (x : List ℕ) → sets b x ≡ false → Misses b x
unfolding sets
misses done x e = record { names = []; run = run_done; missed = refl }
misses (assign at y t rest) x e =
    let both = both_false (bytes_eq x y) (sets rest x) e in
    let m = misses rest x both.second in
    record { names = y ∷ m.names; run = run_assign m.run; missed = false_both (bytes_eq x y) (has x m.names) both.first m.missed }
misses (print at t rest) x e = let m = misses rest x e in record { names = m.names; run = run_print m.run; missed = m.missed }
misses (export at t rest) x e = let m = misses rest x e in record { names = m.names; run = run_export m.run; missed = m.missed }
misses (choose at c body other rest) x e =
    let both = both_false (sets body x && sets other x) (sets rest x) e in
    misses_if (sets body x) at c body other rest x refl both.first (λ h. misses body x h) (λ h. misses other x h) (misses rest x both.second)
misses (loop at c body rest) x e = let m = misses rest x e in record { names = m.names; run = run_past m.run; missed = m.missed }

-- ---- positions

-- what each run to a position assigns
sets_to : {b : Block} → Position b → List ℕ → Bool
sets_to here x = false
sets_to (past_assign {x = y} p) x = bytes_eq x y || sets_to p x
sets_to (past_print p) x = sets_to p x
sets_to (past_export p) x = sets_to p x
sets_to (in_first p) x = sets_to p x
sets_to (in_second p) x = sets_to p x
sets_to (past_if {body = body} {other = other} p) x = (sets body x && sets other x) || sets_to p x
sets_to (in_turn p) x = sets_to p x
sets_to (past_loop p) x = sets_to p x

-- the ways at a position set what those before set, and what each run from there to it assigns
position_sets : {s : Scope} {b : Block} {p : Position b} {t : Scope} → IsScopeAt s b p t → (x : List ℕ) → is_set t.ways x ≡ (is_set s.ways x || sets_to p x)
unfolding sets_to
position_sets {s = s} at_here x = sym (or_false (is_set s.ways x))
position_sets {s = s} (at_assign {x = y} {p = p} q next) x =
    position_sets next x ∙ ap (λ (b : Bool). b || sets_to p x) (set_assigned y x s.ways) ∙ either (is_set s.ways x) (bytes_eq x y) (sets_to p x)
position_sets (at_print next) x = position_sets next x
position_sets (at_export next) x = position_sets next x
position_sets (at_first next) x = position_sets next x
position_sets (at_second taken next) x = position_sets next x
position_sets {s = s} (at_if {first = first} {second = second} {body = body} {other = other} {p = p} taken passed next) x =
    position_sets next x
    ∙ ap (λ (b : Bool). b || sets_to p x) (set_both first.ways second.ways x ∙ ap₂ (λ (b c : Bool). b && c) (block_sets taken x) (block_sets passed x))
    ∙ through_branches (is_set s.ways x) (sets body x) (sets other x) (sets_to p x)
position_sets (at_turn next) x = position_sets next x
position_sets {s = s} (at_loop {turn = turn} {body = body} {p = p} taken next) x =
    position_sets next x
    ∙ ap (λ (b : Bool). b || sets_to p x) (set_both s.ways turn.ways x ∙ ap (λ (b : Bool). is_set s.ways x && b) (block_sets taken x))
    ∙ past_loop_only (is_set s.ways x) (sets body x) (sets_to p x)

-- each run to the position assigns that
arrives_set : {b : Block} {p : Position b} {names : List (List ℕ)} (x : List ℕ) → Arrives b p names → sets_to p x ≡ true → has x names ≡ true
unfolding sets_to
arrives_set x arrives_here e = absurd cc
arrives_set x (arrives_assign {x = y} {p = p} {names = names} r) e = or_keeps (bytes_eq x y) (sets_to p x) (has x names) (λ h. arrives_set x r h) e
arrives_set x (arrives_print r) e = arrives_set x r e
arrives_set x (arrives_export r) e = arrives_set x r e
arrives_set x (arrives_first r) e = arrives_set x r e
arrives_set x (arrives_second r) e = arrives_set x r e
arrives_set x (arrives_by_first {body = body} {other = other} {p = p} {names = names} {more = more} r q) e =
    has_append x names more
    ∙ or_true (sets body x && sets other x) (sets_to p x) (has x names) (has x more) (λ h. runs_set x r (and_left (sets body x) (sets other x) h)) (λ h. arrives_set x q h) e
arrives_set x (arrives_by_second {body = body} {other = other} {p = p} {names = names} {more = more} r q) e =
    has_append x names more
    ∙ or_true (sets body x && sets other x) (sets_to p x) (has x names) (has x more) (λ h. runs_set x r (and_right (sets body x) (sets other x) h)) (λ h. arrives_set x q h) e
arrives_set x (arrives_turn r) e = arrives_set x r e
arrives_set x (arrives_past r) e = arrives_set x r e
arrives_set x (arrives_again {names = names} {more = more} r q) e = has_append x names more ∙ second_true (has x names) (has x more) (arrives_set x q e)

-- some run to the position does not assign the name
pub record MissesTo (b : Block) (p : Position b) (x : List ℕ) : Type 0 where
  pub names : List (List ℕ)
  pub run : Arrives b p names
  pub missed : has x names ≡ false

misses_past_if : (k : Bool) (at : Place) (c : Tree) (body other rest : Block) (p : Position rest) (x : List ℕ) → sets body x ≡ k → (k && sets other x) ≡ false
    → MissesTo rest p x → MissesTo (choose at c body other rest) (past_if p) x
misses_past_if false at c body other rest p x is e next =
    let m = misses body x is in
    record { names = m.names ++ next.names; run = arrives_by_first m.run next.run; missed = has_append x m.names next.names ∙ false_both _ _ m.missed next.missed }
misses_past_if true at c body other rest p x is e next =
    let m = misses other x e in
    record { names = m.names ++ next.names; run = arrives_by_second m.run next.run; missed = has_append x m.names next.names ∙ false_both _ _ m.missed next.missed }

misses_to : (b : Block) (p : Position b) (x : List ℕ) → sets_to p x ≡ false → MissesTo b p x
unfolding sets_to
misses_to b here x e = record { names = []; run = arrives_here; missed = refl }
misses_to _ (past_assign {x = y} {rest = rest} p) x e =
    let both = both_false (bytes_eq x y) (sets_to p x) e in
    let m = misses_to rest p x both.second in
    record { names = y ∷ m.names; run = arrives_assign m.run; missed = false_both (bytes_eq x y) (has x m.names) both.first m.missed }
misses_to _ (past_print {rest = rest} p) x e = let m = misses_to rest p x e in record { names = m.names; run = arrives_print m.run; missed = m.missed }
misses_to _ (past_export {rest = rest} p) x e = let m = misses_to rest p x e in record { names = m.names; run = arrives_export m.run; missed = m.missed }
misses_to _ (in_first {body = body} p) x e = let m = misses_to body p x e in record { names = m.names; run = arrives_first m.run; missed = m.missed }
misses_to _ (in_second {other = other} p) x e = let m = misses_to other p x e in record { names = m.names; run = arrives_second m.run; missed = m.missed }
misses_to _ (past_if {at = at} {c = c} {body = body} {other = other} {rest = rest} p) x e =
    let both = both_false (sets body x && sets other x) (sets_to p x) e in
    misses_past_if (sets body x) at c body other rest p x refl both.first (misses_to rest p x both.second)
misses_to _ (in_turn {body = body} p) x e = let m = misses_to body p x e in record { names = m.names; run = arrives_turn m.run; missed = m.missed }
misses_to _ (past_loop {rest = rest} p) x e = let m = misses_to rest p x e in record { names = m.names; run = arrives_past m.run; missed = m.missed }

-- ---- the law

set_by : (k : Bool) (b : Block) (p : Position b) (x : List ℕ) → sets_to p x ≡ k → ((names : List (List ℕ)) → Arrives b p names → has x names ≡ true) → k ≡ true
set_by true b p x is all = refl
set_by false b p x is all =
    let m = misses_to b p x is in
    sym m.missed ∙ all m.names m.run

pub ways_are_runs : {body : Block} {p : Position body} {t : Scope} → IsScopeAt (start_of body) body p t → SetsLikeRuns body p t
ways_are_runs {body = body} {p = p} {t = t} known x =
    let kept : is_set t.ways x ≡ sets_to p x = position_sets known x in
    ((λ e names run. arrives_set x run (sym kept ∙ e)), (λ all. kept ∙ set_by (sets_to p x) body p x refl all))

-- a name that some way does not set is missed by some run
pub missed_by_run : {body : Block} {p : Position body} {t : Scope} → IsScopeAt (start_of body) body p t → (x : List ℕ) → is_set t.ways x ≡ false → MissesTo body p x
missed_by_run {body = body} {p = p} {t = t} known x e =
    let kept : is_set t.ways x ≡ sets_to p x = position_sets known x in
    misses_to body p x (sym kept ∙ e)

-- ---- each position of a block that fits has its scope
