-- The operations of a program beside the constructs of its script: one for each construct, in their order, apart from scalar
-- work; of the lengths of a frame's columns the first is taken.
use Rattle.std.proofs.Common.{◌≡◌, ℕ, zero, suc, ◌+◌, ◌<◌, List, [], ◌∷◌, ◌++◌, map, slice_get, Option, Some, None, IsTrue, refl, sym, ap, ap₂, subst, ◌∙◌, append_assoc, arith, option_and_then, option_map}
use Rattle.std.proofs.lemmas.List.{map-append}
use Rattle.std.specs.List.{AllByRecursion, range_with_len}
use Rattle.hp_script.specs.declared.typed.Var.{Var}
use Rattle.hp_program.specs.Programs.{Prog, joined, operations}
use Rattle.hp_air.specs.declared.slot.Slot.{Slot}
use Rattle.hp_air.specs.declared.what.Op.{Op}
use Rattle.hp_air.specs.Arrays.{Arrays, Scalar, Length, arrays_of, renamed}
use Rattle.hp_air.specs.Frames.{slot_at}
use Rattle.hp_air.specs.Unknowns.{Unknown, of_node, of_variable, unknown_of, at_node, at_variable, arrays_named, shape_at, width, variable_named}
use Rattle.hp_flat.specs.Homes.{Homes, slot_of, slots_of}
use Rattle.hp_flat.specs.StepByStep.{is_step, Follows, both_end, scalar_work, same_step, first_length}
use Rattle.hp_flat.proofs.Operations.{operations_both}

-- ---- rows that follow constructs

pub follows_both : {rows more cs ds : List (Arrays Unknown)} → Follows rows cs → Follows more ds → Follows (rows ++ more) (cs ++ ds)
follows_both both_end q = q
follows_both (scalar_work p) q = scalar_work (follows_both p q)
follows_both (same_step is p) q = same_step is (follows_both p q)
follows_both {more = more} {ds = ds} (first_length {rows = behind} {cs = cs} u us p) q =
    subst (λ (l : List (Arrays Unknown)). Follows (Length u ∷ (behind ++ more)) l) (sym (append_assoc (map Length (u ∷ us)) cs ds)) (first_length u us (follows_both p q))

pub follows_as : {rows cs ds : List (Arrays Unknown)} → cs ≡ ds → Follows rows cs → Follows rows ds
follows_as {rows = rows} e p = subst (Follows rows) e p

-- one operation
pub one_scalar : Follows (Scalar ∷ []) []
one_scalar = scalar_work both_end

pub one_step : (row c : Arrays Unknown) → row ≡ c → IsTrue (is_step c) → Follows (row ∷ []) (c ∷ [])
one_step row c e is = subst (λ (a : Arrays Unknown). Follows (a ∷ []) (c ∷ [])) (sym e) (same_step is both_end)

-- ---- arrays and their slots

module _ (h : Homes) (slots : List Slot) where
  -- what a slot stands for
  unfoldable pub back : ℕ → Unknown
  back k = unknown_of (slot_at slots k)

  -- the slot of an array stands for it
  abbrev pub Back : Unknown → Type 0
  Back u = back (slot_of h u) ≡ u

  -- the operations of a program by the arrays that their slots stand for
  unfoldable pub row : Op → Arrays Unknown
  row op = renamed back (arrays_of op.what)

  unfoldable pub rows : Prog Op → List (Arrays Unknown)
  rows p = map row (operations p)

  pub rows_joined : (p q : Prog Op) → rows (joined p q) ≡ rows p ++ rows q
  unfolding rows
  rows_joined p q = ap (map row) (operations_both p q) ∙ map-append row (operations p) (operations q)

  pub follows_joined : {cs ds : List (Arrays Unknown)} (p q : Prog Op) → Follows (rows p) cs → Follows (rows q) ds → Follows (rows (joined p q)) (cs ++ ds)
  follows_joined {cs = cs} {ds = ds} p q first second = subst (λ (l : List (Arrays Unknown)). Follows l (cs ++ ds)) (sym (rows_joined p q)) (follows_both first second)

  pub all_back : (us : List Unknown) → AllByRecursion Back us → map back (slots_of h us) ≡ us
  all_back [] are = refl
  all_back (u ∷ us) are = ap₂ (λ (v : Unknown) (vs : List Unknown). v ∷ vs) are.0 (all_back us are.1)

  -- each column of the value of an expression, and of a variable, has its slot
  pub record HasSlots : Type 0 where
    pub node : (k c : ℕ) → c < width (shape_at h.known k) → Back (of_node k c)
    pub variable : (k : ℕ) (var : Var) (c : ℕ) → slice_get h.known.vars k ≡ Some var → c < width (Some var.shape) → Back (of_variable k c)

  range_back : (made : ℕ → Unknown) (a w : ℕ) → ((c : ℕ) → c < a + w → Back (made c)) → AllByRecursion Back (map made (range_with_len a w))
  range_back made a zero each = tt
  range_back made a (suc w) each = (each a (omega arith), range_back made (a + 1) w (λ c less. each c (omega (arith, less))))

  module _ (stand : HasSlots) where
    pub node_back : (k : ℕ) → AllByRecursion Back (at_node h.known k)
    node_back k = range_back (of_node k) 0 (width (shape_at h.known k)) (λ c less. stand.node k c (omega (arith, less)))

    found_back : (k : ℕ) (found : Option Var) → slice_get h.known.vars k ≡ found → AllByRecursion Back (at_variable (Some k) (option_map (λ (v : Var). v.shape) found))
    found_back k None e = tt
    found_back k (Some var) e = range_back (of_variable k) 0 (width (Some var.shape)) (λ c less. stand.variable k var c e (omega (arith, less)))

    pub place_back : (found : Option ℕ) → AllByRecursion Back (at_variable found (option_and_then (λ k. option_map (λ (v : Var). v.shape) (slice_get h.known.vars k)) found))
    place_back None = tt
    place_back (Some k) = found_back k (slice_get h.known.vars k) refl

    pub named_back : (x : List ℕ) → AllByRecursion Back (arrays_named h.known x)
    named_back x = place_back (variable_named h.known x)
