-- A greatest solution of what a script asks leaves no balanced copy in uneven pieces: it could lie in blocks.
use Rattle.std.proofs.Common.{◌≡◌, ◌≢◌, ℕ, zero, suc, ◌+◌, ◌<◌, ◌≤◌, Bool, true, false, cond, List, [], ◌∷◌, map, filter, length, Option, Some, None, IsTrue, refl, sym, subst, arith}
use Rattle.std.specs.List.{AllByRecursion, list_all, range_with_len}
use Rattle.hp_lattice.specs.declared.dist.Dist.{Dist}
use Rattle.hp_lattice.specs.declared.dist.Dist.TheVariants.{Rep, Var, Block}
use Rattle.hp_lattice.specs.Lattice.{is_below, raised}
use Rattle.hp_program.specs.Programs.{Prog}
use Rattle.hp_program.proofs.Keeping.{first_holds, second_holds}
use Rattle.hp_script.specs.declared.typed.Typed.{Typed}
use Rattle.hp_word.specs.declared.place.NodeId.{NodeId}
use Rattle.hp_air.specs.declared.constraint.Relation.{Relation}
use Rattle.hp_air.specs.declared.constraint.Relation.TheVariants.{Same, Up, AtMost}
use Rattle.hp_air.specs.declared.slot.Slot.{Slot}
use Rattle.hp_air.specs.declared.what.Op.{Op}
use Rattle.hp_air.specs.Carried.{is_balanced}
use Rattle.hp_air.specs.Constraints.{Bound, IsSolution, says}
use Rattle.hp_air.specs.Frames.{slot_at, numbers_of, balanced_copies}
use Rattle.hp_air.specs.Kept.{are_slots, stands_for_one}
use Rattle.hp_air.specs.Placed.{dist_at, program_bounds}
use Rattle.hp_air.specs.Unknowns.{Unknown, unknown_of, stands_for}
use Rattle.hp_flat.specs.FlatLaws.{AreGreatest, AsksTheSame, rebound}
use Rattle.hp_compile.proofs.EvenBounds.{AskPlain, asks_plain, script_asks}

-- ---- with the balanced copies raised

-- these distributions, with what a balanced copy has raised
abbrev lifted : (ℕ → Unknown) → (ℕ → Dist) → ℕ → Dist
lifted f d k = cond (is_balanced (f k)) (raised (d k)) (d k)

raised_low : (x y : Dist) → IsTrue (is_below x (raised y)) → IsTrue (is_below (raised x) (raised y))
raised_low Rep y p = refl
raised_low Var Rep p = absurd cc
raised_low Var Var p = refl
raised_low Var Block p = refl
raised_low Block y p = p

raised_high : (b : Bool) (y : Dist) → raised (cond b (raised y) y) ≡ raised y
raised_high true Rep = refl
raised_high true Var = refl
raised_high true Block = refl
raised_high false y = refl

up_lifted : (a b : Bool) (x y : Dist) → IsTrue (is_below x (raised y)) → IsTrue (is_below (cond a (raised x) x) (raised (cond b (raised y) y)))
up_lifted a b x y p = rw (raised_high b y) (by a)
  where
    by : (a : Bool) → IsTrue (is_below (cond a (raised x) x) (raised y))
    by true = raised_low x y p
    by false = p

says_lifted : (r : Relation) (low high : Unknown) (x y : Dist) → asks_plain r low high → says r x y → says r (cond (is_balanced low) (raised x) x) (cond (is_balanced high) (raised y) y)
says_lifted Same low high x y p s = rw (p.0, p.1) s
says_lifted (AtMost limit) low high x y p s = rw (p.0) s
says_lifted Up low high x y p s = up_lifted (is_balanced low) (is_balanced high) x y s

lifted_solution : (f : ℕ → Unknown) (d : ℕ → Dist) (bounds : List (Bound ℕ)) → AskPlain (map (rebound f) bounds) → IsSolution d bounds → IsSolution (lifted f d) bounds
lifted_solution f d [] asks all = tt
lifted_solution f d (b ∷ bounds) asks all = (says_lifted b.relation (f b.low) (f b.high) (d b.low) (d b.high) asks.0 all.0, lifted_solution f d bounds asks.1 all.1)

no_pieces : (x : Dist) → IsTrue (is_below (raised x) x) → x ≢ Var
no_pieces x p is = let wrong : IsTrue (is_below (raised Var) Var) = subst (λ (y : Dist). IsTrue (is_below (raised y) y)) is p in absurd cc

greatest_even : (n : ℕ) (f : ℕ → Unknown) (d : ℕ → Dist) (bounds : List (Bound ℕ)) → AskPlain (map (rebound f) bounds) → AreGreatest (λ k. k < n) bounds d
    → (k : ℕ) → k < n → is_balanced (f k) ≡ true → d k ≢ Var
greatest_even n f d bounds asks greatest k less is =
    no_pieces (d k) (subst (λ (b : Bool). IsTrue (is_below (cond b (raised (d k)) (d k)) (d k))) is (greatest.greatest (lifted f d) (lifted_solution f d bounds asks greatest.solution) k less))

-- ---- balanced copies by their slots

balanced_stands : (node : Option NodeId) (var : Option ℕ) (column : ℕ) (matrix : Bool) → IsTrue (stands_for_one (record { node = node; var = var; column = column; matrix = matrix; balanced = true }))
    → is_balanced (stands_for node var column true) ≡ true
balanced_stands (Some node) var column matrix p = refl
balanced_stands None (Some v) column matrix p = absurd cc
balanced_stands None None column matrix p = absurd cc

slot_balanced : (s : Slot) → IsTrue (stands_for_one s) → s.balanced ≡ true → is_balanced (unknown_of s) ≡ true
slot_balanced s p is =
    subst (λ (b : Bool). is_balanced (stands_for s.node s.var s.column b) ≡ true) (sym is)
    (balanced_stands s.node s.var s.column s.matrix (subst (λ (b : Bool). IsTrue (stands_for_one (record { node = s.node; var = s.var; column = s.column; matrix = s.matrix; balanced = b }))) is p))

slot_stands : (slots : List Slot) (k : ℕ) → k < length slots → IsTrue (list_all stands_for_one slots) → IsTrue (stands_for_one (slot_at slots k))
slot_stands [] k less all = absurd (omega (arith, less))
slot_stands (s ∷ slots) zero less all = first_holds _ _ all
slot_stands (s ∷ slots) (suc k) less all = slot_stands slots k (omega (arith, less)) (second_holds (stands_for_one s) _ all)

-- what holds of each number that passes holds of all that do
all_passing : (P : ℕ → Type 0) (p : ℕ → Bool) (a n : ℕ) → ((k : ℕ) → a ≤ k → k < a + n → p k ≡ true → P k) → AllByRecursion P (filter p (range_with_len a n))
all_passing P p a zero each = tt
all_passing P p a (suc n) each =
    by (p a) (λ is. each a (omega arith) (omega arith) is) (all_passing P p (a + 1) n (λ k from less is. each k (omega (arith, from)) (omega (arith, less)) is))
  where
    by : (b : Bool) → (b ≡ true → P a) → AllByRecursion P (filter p (range_with_len (a + 1) n)) → AllByRecursion P (cond b (a ∷ filter p (range_with_len (a + 1) n)) (filter p (range_with_len (a + 1) n)))
    by true here rest = (here refl, rest)
    by false here rest = rest

-- the greatest distributions by which a script's program can run leave no balanced copy in uneven pieces
pub copies_even : (typed : Typed) (slots : List Slot) (p : Prog Op) (d : ℕ → Dist) → IsTrue (are_slots slots) → AsksTheSame typed slots p → AreGreatest (λ k. k < length slots) (program_bounds slots p) d
    → AllByRecursion (λ k. d k ≢ Var) (balanced_copies slots)
copies_even typed slots p d in_order asks greatest =
    all_passing (λ k. d k ≢ Var) (λ k. (slot_at slots k).balanced) 0 (length slots)
    (λ k from less is. greatest_even (length slots) (λ k. unknown_of (slot_at slots k)) d (program_bounds slots p) (subst AskPlain (sym asks) (script_asks typed)) greatest k (omega (arith, less))
    (slot_balanced (slot_at slots k) (slot_stands slots k (omega (arith, less)) (first_holds _ _ in_order)) is))
