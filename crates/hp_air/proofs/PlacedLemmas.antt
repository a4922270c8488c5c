-- A program can run by distributions exactly where its constraints hold.
use Rattle.std.proofs.Common.{◌≡◌, ◌≢◌, ℕ, ◌≤◌, ◌==◌, Bool, true, false, cond, List, [], ◌∷◌, ◌++◌, flat_map, length, IsTrue, refl, sym, ap}
use Rattle.std.proofs.lemmas.Bool.{eqb-true}
use Rattle.std.specs.List.{AllByRecursion, list_all}
use Rattle.hp_lattice.specs.declared.dist.Dist.{Dist}
use Rattle.hp_lattice.specs.declared.dist.Dist.TheVariants.{Var}
use Rattle.hp_program.specs.Programs.{Prog, operations}
use Rattle.hp_program.proofs.Keeping.{first_holds, second_holds}
use Rattle.hp_air.specs.declared.slot.Slot.{Slot}
use Rattle.hp_air.specs.declared.what.Op.{Op}
use Rattle.hp_air.specs.Arrays.{arrays_of}
use Rattle.hp_air.specs.Constraints.{Meets, equal, bounds_of, Holds, IsSolution}
use Rattle.hp_air.specs.Frames.{numbers_of, balanced_copies, first_of}
use Rattle.hp_air.specs.Kept.{has_lists, is_kept, are_kept}
use Rattle.hp_air.specs.Placed.{dist_at, Placed, frame_bounds, program_bounds}
use Rattle.hp_air.proofs.BoundLemmas.{below_same, same_below, meets_solves, solves_meets}

-- ---- lists

join_all : {X : Type 0} (P : X → Type 0) (xs ys : List X) → AllByRecursion P xs → AllByRecursion P ys → AllByRecursion P (xs ++ ys)
join_all P [] ys p q = q
join_all P (x ∷ xs) ys p q = (p.0, join_all P xs ys p.1 q)

cut_all : {X : Type 0} (P : X → Type 0) (xs ys : List X) → AllByRecursion P (xs ++ ys) → AllByRecursion P xs × AllByRecursion P ys
cut_all P [] ys p = (tt, p)
cut_all P (x ∷ xs) ys p = let rest : AllByRecursion P xs × AllByRecursion P ys = cut_all P xs ys p.1 in ((p.0, rest.0), rest.1)

flat_all : {A X : Type 0} (P : X → Type 0) (Q : A → Type 0) (f : A → List X) → ((a : A) → Q a → AllByRecursion P (f a)) → (items : List A) → AllByRecursion Q items → AllByRecursion P (flat_map f items)
flat_all P Q f each [] q = tt
flat_all P Q f each (a ∷ rest) q = join_all P (f a) (flat_map f rest) (each a q.0) (flat_all P Q f each rest q.1)

unflat_all : {A X : Type 0} (P : X → Type 0) (Q : A → Type 0) (f : A → List X) (test : A → Bool) → ((a : A) → IsTrue (test a) → AllByRecursion P (f a) → Q a) → (items : List A) → IsTrue (list_all test items) → AllByRecursion P (flat_map f items) → AllByRecursion Q items
unflat_all P Q f test each [] pass p = tt
unflat_all P Q f test each (a ∷ rest) pass p =
    let parts : AllByRecursion P (f a) × AllByRecursion P (flat_map f rest) = cut_all P (f a) (flat_map f rest) p in
    (each a (first_holds _ _ pass) parts.0, unflat_all P Q f test each rest (second_holds _ _ pass) parts.1)

all_true : {A : Type 0} (xs : List A) → IsTrue (list_all (λ x. true) xs)
all_true [] = refl
all_true (x ∷ xs) = all_true xs

-- ---- frames

frame_solved : (d : ℕ → Dist) (k first : ℕ) → d k ≡ d first → IsSolution d (cond (first == k) [] (equal k first))
frame_solved d k first same = by_test (first == k)
  where
    by_test : (test : Bool) → IsSolution d (cond test [] (equal k first))
    by_test true = tt
    by_test false = (below_same same, (below_same (sym same), tt))

frame_same : (d : ℕ → Dist) (k first : ℕ) (test : Bool) → (test ≡ true → first ≡ k) → IsSolution d (cond test [] (equal k first)) → d k ≡ d first
frame_same d k first true one solved = ap d (sym (one refl))
frame_same d k first false one solved = same_below _ _ solved.0 solved.1.0

-- ---- programs

lists_of : (slots : List Slot) (words : ℕ) (op : Op) → IsTrue (is_kept slots words op.what) → IsTrue (has_lists op.what)
lists_of slots words op kept = second_holds _ _ (first_holds _ _ (first_holds _ _ (first_holds _ _ (first_holds _ _ kept))))

pub placed_solves : (slots : List Slot) (p : Prog Op) (dists : List Dist) → Placed slots p dists → IsSolution (dist_at dists) (program_bounds slots p)
unfolding program_bounds frame_bounds
placed_solves slots p dists placed =
    let d : ℕ → Dist = dist_at dists in
    join_all (Holds d) (flat_map (frame_bounds slots) (numbers_of slots)) _
    (flat_all (Holds d) (λ k. d k ≡ d (first_of slots k)) (frame_bounds slots) (λ k same. frame_solved d k (first_of slots k) same) (numbers_of slots) placed.frames)
    (flat_all (Holds d) (λ (op : Op). Meets d (arrays_of op.what)) (λ op. bounds_of (arrays_of op.what)) (λ op meets. meets_solves d meets) (operations p) placed.rows)

pub solves_placed : (slots : List Slot) (words : ℕ) (p : Prog Op) (dists : List Dist) → IsTrue (are_kept slots words p) → length slots ≤ length dists → AllByRecursion (λ k. dist_at dists k ≢ Var) (balanced_copies slots)
    → IsSolution (dist_at dists) (program_bounds slots p) → Placed slots p dists
unfolding program_bounds frame_bounds
solves_placed slots words p dists kept each balanced solved =
    let d : ℕ → Dist = dist_at dists in
    let parts : IsSolution d (flat_map (frame_bounds slots) (numbers_of slots)) × IsSolution d (flat_map (λ (op : Op). bounds_of (arrays_of op.what)) (operations p)) =
    cut_all (Holds d) (flat_map (frame_bounds slots) (numbers_of slots)) _ solved in
    record {
      each = each;
      frames = unflat_all (Holds d) (λ k. d k ≡ d (first_of slots k)) (frame_bounds slots) (λ k. true) (λ k pass held. frame_same d k (first_of slots k) (first_of slots k == k) (eqb-true _ _) held) (numbers_of slots) (all_true (numbers_of slots)) parts.0;
      rows =
          unflat_all (Holds d) (λ (op : Op). Meets d (arrays_of op.what)) (λ op. bounds_of (arrays_of op.what)) (λ op. is_kept slots words op.what)
          (λ op pass held. solves_meets d op.what (lists_of slots words op pass) held) (operations p) (first_holds _ _ kept) parts.1;
      balanced = balanced;
    }
