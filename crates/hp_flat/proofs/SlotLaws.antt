-- The laws of the slots of a script.
use Rattle.std.proofs.Common.{◌≡◌, ℕ, zero, suc, ◌+◌, ◌≤◌, ◌==◌, Bool, true, false, ◌&&◌, ◌||◌, List, [], ◌∷◌, ◌++◌, map, length, slice_get, Option, Some, None, IsTrue, refl, sym, ap, ◌∙◌, subst, arith}
use Rattle.std.proofs.lemmas.Bool.{and_from}
use Rattle.std.specs.Prelude.{slice_index_or}
use Rattle.std.specs.List.{AllByRecursion, list_all, range_with_len}
use Rattle.hp_script.specs.declared.typed.Shape.{Shape}
use Rattle.hp_script.specs.declared.typed.Typed.{Typed}
use Rattle.hp_script.specs.declared.typed.Var.{Var}
use Rattle.hp_script.specs.Mirror.{block_of}
use Rattle.hp_script.specs.Nodes.{nodes_of}
use Rattle.hp_air.specs.declared.slot.Slot.{Slot}
use Rattle.hp_air.specs.Carried.{is_among}
use Rattle.hp_air.specs.Frames.{is_one_frame}
use Rattle.hp_air.specs.Kept.{are_slots, is_in_order}
use Rattle.hp_air.specs.Unknowns.{Known, Unknown, of_variable, of_node, balanced_of, of_nothing, same_unknown, unknown_of, known_of, width, variables_from, nodes_from, constructs, unknowns}
use Rattle.hp_flat.specs.FlatLaws.{AreFound, AreApart, ExpressionsHaveSlots, VariablesHaveSlots, CopiesHaveSlots, HaveOneEach, AreKeptSlots}
use Rattle.hp_flat.specs.Homes.{homes_of, homes_in, slots_in, slot_of, slot_for}
use Rattle.hp_flat.proofs.ArrayBlocks.{IsArray, both_equal, times, times_append, times_none, blocks, blocks_once, all_blocks, all_append, var_widths, variables_as_blocks, nodes_as_blocks, apart_by_times}
use Rattle.hp_flat.proofs.SlotOrder.{InOrder, Follows, beside_none, order_append, blocks_in_order, copies_in_order, slots_in_order, all_stand}
use Rattle.hp_flat.proofs.SlotPlaces.{found_as, one_place, among_left, among_right, among_blocks}
use Rattle.hp_flat.proofs.StencilCopies.{IsCopy, Copies, among, copies, block_copies, range_once, copy_is_array, among_copies}

-- ---- the arrays of a script as blocks and copies

-- widths of what is known
module _ (vs ns : List ℕ) (us : List Unknown) (copied : AllByRecursion IsCopy us) where
  abbrev pub arrays : List Unknown
  arrays = blocks of_variable 0 vs ++ blocks of_node 0 ns ++ us

  are_arrays : (xs : List Unknown) → AllByRecursion IsCopy xs → AllByRecursion IsArray xs
  are_arrays [] are = tt
  are_arrays (x ∷ xs) are = (copy_is_array x are.0, are_arrays xs are.1)

  pub all_arrays : AllByRecursion IsArray arrays
  all_arrays =
      all_append IsArray (blocks of_variable 0 vs ++ blocks of_node 0 ns) us
      (all_append IsArray (blocks of_variable 0 vs) (blocks of_node 0 ns) (all_blocks IsArray of_variable (λ n k. tt) 0 vs) (all_blocks IsArray of_node (λ n k. tt) 0 ns))
      (are_arrays us copied)

  -- an array that is no copy is not among the copies
  no_copy : (u : Unknown) → ((n : ℕ) → same_unknown u (balanced_of n) ≡ false) → (xs : List Unknown) → AllByRecursion IsCopy xs → AllByRecursion (λ v. same_unknown u v ≡ false) xs
  no_copy u never [] are = tt
  no_copy u never (balanced_of n ∷ xs) are = (never n, no_copy u never xs are.1)
  no_copy u never (of_variable v c ∷ xs) are = absurd are.0
  no_copy u never (of_node v c ∷ xs) are = absurd are.0
  no_copy u never (of_nothing ∷ xs) are = absurd are.0

  in_all : (u : Unknown) (a b c : ℕ) → times u (blocks of_variable 0 vs) ≡ a → times u (blocks of_node 0 ns) ≡ b → times u us ≡ c → a + b + c ≤ 1 → times u arrays ≤ 1
  in_all u a b c e f g most =
      omega (arith, e, f, g, most, times_append u (blocks of_variable 0 vs ++ blocks of_node 0 ns) us, times_append u (blocks of_variable 0 vs) (blocks of_node 0 ns))

  never_in : (made : ℕ → ℕ → Unknown) (ws : List ℕ) (u : Unknown) → ((n k : ℕ) → same_unknown u (made n k) ≡ false) → times u (blocks made 0 ws) ≡ 0
  never_in made ws u never = times_none u (blocks made 0 ws) (all_blocks (λ w. same_unknown u w ≡ false) made never 0 ws)

  never_copied : (u : Unknown) → ((n : ℕ) → same_unknown u (balanced_of n) ≡ false) → times u us ≡ 0
  never_copied u never = times_none u us (no_copy u never us copied)

  both_turned : (v c n k : ℕ) → ((v == n) && (c == k)) ≡ true → (n ≡ v) × (k ≡ c)
  both_turned v c n k e = let both = both_equal v n c k e in (sym both.0, sym both.1)

  pub once : ((n : ℕ) → times (balanced_of n) us ≤ 1) → (u : Unknown) → times u arrays ≤ 1
  unfolding same_unknown
  once most (of_variable v c) =
      in_all (of_variable v c) (times (of_variable v c) (blocks of_variable 0 vs)) 0 0 refl (never_in of_node ns (of_variable v c) (λ n k. refl)) (never_copied (of_variable v c) (λ n. refl))
      (omega (arith, blocks_once of_variable (of_variable v c) v c (both_turned v c) 0 vs))
  once most (of_node v c) =
      in_all (of_node v c) 0 (times (of_node v c) (blocks of_node 0 ns)) 0 (never_in of_variable vs (of_node v c) (λ n k. refl)) refl (never_copied (of_node v c) (λ n. refl))
      (omega (arith, blocks_once of_node (of_node v c) v c (both_turned v c) 0 ns))
  once most (balanced_of m) =
      in_all (balanced_of m) 0 0 (times (balanced_of m) us) (never_in of_variable vs (balanced_of m) (λ n k. refl)) (never_in of_node ns (balanced_of m) (λ n k. refl)) refl
      (omega (arith, most m))
  once most of_nothing =
      in_all of_nothing 0 0 0 (never_in of_variable vs of_nothing (λ n k. refl)) (never_in of_node ns of_nothing (λ n k. refl)) (never_copied of_nothing (λ n. refl)) (omega arith)

  -- ---- their slots

  module _ (g : Known) where
    copy_follows : (xs : List Unknown) → AllByRecursion IsCopy xs → AllByRecursion (λ u. Follows g [] u × ((slot_for g u).balanced ≡ true)) xs
    unfolding slot_for
    copy_follows [] are = tt
    copy_follows (balanced_of n ∷ xs) are = ((refl, refl), copy_follows xs are.1)
    copy_follows (of_variable v c ∷ xs) are = absurd are.0
    copy_follows (of_node v c ∷ xs) are = absurd are.0
    copy_follows (of_nothing ∷ xs) are = absurd are.0

    pub in_order : InOrder g [] arrays
    unfolding slot_for
    in_order =
        order_append g [] (blocks of_variable 0 vs ++ blocks of_node 0 ns) us
        (order_append g [] (blocks of_variable 0 vs) (blocks of_node 0 ns)
        (blocks_in_order g of_variable (λ n k. refl) (λ n k. refl) (λ n k m j. refl) [] 0 vs (λ m k le. refl))
        (blocks_in_order g of_node (λ n k. refl) (λ n k. refl) (λ n k m j. or_with_false (n == m)) (blocks of_variable 0 vs) 0 ns
        (λ m k le. beside_none g (of_node m k) (blocks of_variable 0 vs) (all_blocks (λ u. is_one_frame (slot_for g (of_node m k)) (slot_for g u) ≡ false) of_variable (λ n j. refl) 0 vs))))
        (copies_in_order g (blocks of_variable 0 vs ++ blocks of_node 0 ns) us (copy_follows us copied))
      where
        or_with_false : (b : Bool) → (true && (b || false)) ≡ b
        or_with_false true = refl
        or_with_false false = refl

-- what a slot stands for
pub stands_back : (g : Known) (u : Unknown) → IsArray u → unknown_of (slot_for g u) ≡ u
unfolding slot_for
stands_back g (of_variable v c) is = refl
stands_back g (of_node n c) is = refl
stands_back g (balanced_of n) is = refl
stands_back g of_nothing is = absurd is

all_back : (g : Known) (us : List Unknown) → AllByRecursion IsArray us → map unknown_of (map (slot_for g) us) ≡ us
all_back g [] are = refl
all_back g (u ∷ us) are = rw (stands_back g u are.0, all_back g us are.1) refl

-- ---- scripts

-- each number of an expression stands once in the text
module _ (typed : Typed) where
  own : Copies (copies (constructs typed)) (nodes_of (block_of typed.script.body))
  unfolding constructs
  own = block_copies (known_of typed) (block_of typed.script.body)

  pub numbered : (n : ℕ) → among n (nodes_of (block_of typed.script.body)) ≤ 1
  numbered n = subst (λ (l : List ℕ). among n l ≤ 1) (sym typed.script.numbered) (range_once n 0 typed.script.nodes)

  copies_once : (n : ℕ) → times (balanced_of n) (copies (constructs typed)) ≤ 1
  copies_once n = omega (arith, own.most n, numbered n)

  as_blocks : unknowns typed ≡ arrays (var_widths typed.vars) (map width typed.shapes) (copies (constructs typed)) own.are
  unfolding unknowns
  as_blocks = rw (variables_as_blocks 0 typed.vars, nodes_as_blocks 0 typed.shapes) refl

  pub all_are_arrays : AllByRecursion IsArray (unknowns typed)
  all_are_arrays = subst (AllByRecursion IsArray) (sym as_blocks) (all_arrays (var_widths typed.vars) (map width typed.shapes) (copies (constructs typed)) own.are)

  each_once : (u : Unknown) → times u (unknowns typed) ≤ 1
  each_once u = subst (λ (l : List Unknown). times u l ≤ 1) (sym as_blocks) (once (var_widths typed.vars) (map width typed.shapes) (copies (constructs typed)) own.are copies_once u)

  pub slots_are : slots_in (homes_of typed) ≡ map (slot_for (known_of typed)) (unknowns typed)
  unfolding slots_in homes_of homes_in unknowns constructs
  slots_are = refl

pub are_found : AreFound
unfolding slots_in slot_of homes_of homes_in unknowns constructs
are_found typed u is = found_as (slot_for (known_of typed)) u (unknowns typed) is

pub are_apart_slots : AreApart
unfolding slot_of homes_of homes_in unknowns constructs
are_apart_slots typed u v is same = one_place u v (unknowns typed) is same

width_at : (shapes : List (Option Shape)) (k : ℕ) → width (slice_index_or shapes k None) ≡ slice_index_or (map width shapes) k 0
width_at [] zero = refl
width_at [] (suc k) = refl
width_at (x ∷ shapes) zero = refl
width_at (x ∷ shapes) (suc k) = width_at shapes k

var_width_at : (vars : List Var) (k : ℕ) (var : Var) → slice_get vars k ≡ Some var → width (Some var.shape) ≡ slice_index_or (var_widths vars) k 0
var_width_at [] k var e = absurd cc
var_width_at (x ∷ vars) zero var e = let is : x ≡ var = cc in ap (λ (v : Var). width (Some v.shape)) (sym is)
var_width_at (x ∷ vars) (suc k) var e = var_width_at vars k var e

from_zero : (made : ℕ → ℕ → Unknown) (us : List Unknown) (n c : ℕ) → IsTrue (is_among us (made (0 + n) c)) → IsTrue (is_among us (made n c))
from_zero made us n c is = let same : 0 + n ≡ n = omega arith in subst (λ (k : ℕ). IsTrue (is_among us (made k c))) same is

pub expressions_have : ExpressionsHaveSlots
unfolding unknowns
expressions_have typed node c less =
    among_left (of_node node c) (variables_from 0 typed.vars ++ nodes_from 0 typed.shapes) (copies (constructs typed))
    (among_right (of_node node c) (variables_from 0 typed.vars) (nodes_from 0 typed.shapes)
    (subst (λ (l : List Unknown). IsTrue (is_among l (of_node node c))) (sym (nodes_as_blocks 0 typed.shapes))
    (from_zero of_node (blocks of_node 0 (map width typed.shapes)) node c
    (among_blocks of_node (λ n k. tt) 0 (map width typed.shapes) node c (omega (arith, less, width_at typed.shapes node))))))

pub variables_have : VariablesHaveSlots
unfolding unknowns
variables_have typed k var c at less =
    among_left (of_variable k c) (variables_from 0 typed.vars ++ nodes_from 0 typed.shapes) (copies (constructs typed))
    (among_left (of_variable k c) (variables_from 0 typed.vars) (nodes_from 0 typed.shapes)
    (subst (λ (l : List Unknown). IsTrue (is_among l (of_variable k c))) (sym (variables_as_blocks 0 typed.vars))
    (from_zero of_variable (blocks of_variable 0 (var_widths typed.vars)) k c
    (among_blocks of_variable (λ n j. tt) 0 (var_widths typed.vars) k c (omega (arith, less, var_width_at typed.vars k var at))))))

pub copies_have : CopiesHaveSlots
unfolding unknowns
copies_have typed out array copy item =
    among_right copy (variables_from 0 typed.vars ++ nodes_from 0 typed.shapes) (copies (constructs typed))
    (among_copies out array copy (constructs typed) item.0 (own typed).are item.1)

pub have_one_each : HaveOneEach
have_one_each typed = record {
  stand = ap (map unknown_of) (slots_are typed) ∙ all_back (known_of typed) (unknowns typed) (all_are_arrays typed);
  once = apart_by_times (unknowns typed) (all_are_arrays typed) (each_once typed);
}

pub same_length : (g : Known) (us : List Unknown) → length (map (slot_for g) us) ≡ length us
same_length g [] = refl
same_length g (u ∷ us) = ap suc (same_length g us)

order_kept : (g : Known) (us : List Unknown) → AllByRecursion IsArray us → InOrder g [] us → IsTrue (are_slots (map (slot_for g) us))
order_kept g us are order =
    and_from _ _ (all_stand g us are)
    (subst (λ (n : ℕ). IsTrue (list_all (is_in_order (map (slot_for g) us)) (range_with_len 0 n))) (sym (same_length g us)) (slots_in_order g [] us order))

-- the columns of each value stand in the order of their slots
pub arrays_in_order : (typed : Typed) → InOrder (known_of typed) [] (unknowns typed)
arrays_in_order typed =
    subst (InOrder (known_of typed) []) (sym (as_blocks typed)) (in_order (var_widths typed.vars) (map width typed.shapes) (copies (constructs typed)) (own typed).are (known_of typed))

pub are_kept_slots : AreKeptSlots
are_kept_slots typed =
    subst (λ (l : List Slot). IsTrue (are_slots l)) (sym (slots_are typed))
    (order_kept (known_of typed) (unknowns typed) (all_are_arrays typed)
    (arrays_in_order typed))
