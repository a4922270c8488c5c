-- What the lets of a loop read, as the laws of a program with loops keep it, is what the loop of the ranks' code may read.
use Rattle.std.proofs.Common.{◌≡◌, refl, sym, subst, arith, true, ℕ, zero, suc, ◌+◌, ◌<◌, List, [], ◌∷◌, length, map}
use Rattle.std.specs.Prelude.{ℤ, pos, neg_ℤ, ◌≤ℤ◌, ◌&&◌, int_le, slice_get, slice_index_or, T}
use Rattle.std.specs.Int.Signed.{le_z_yes}
use Rattle.std.specs.List.{AllByRecursion, AllZip}
use Rattle.std.proofs.lemmas.Bool.{and_parts, false≢true, ltb-true}
use Rattle.hp_word.specs.declared.elem.Elem.{Elem}
use Rattle.hp_word.specs.declared.elem.Elem.TheBlock.{Row_of-Elem, end_of-Elem, more_of-Elem}
use Rattle.hp_word.specs.declared.elem.Elem.TheVariants.{Number, Word, Input, Near, Earlier, Calc', Both', Either'}
use Rattle.hp_spmd.specs.declared.instr.HaloFrom.{HaloFrom}
use Rattle.hp_spmd.specs.declared.instr.HaloFrom.TheVariants.{Loose, Whole}
use Rattle.hp_spmd.specs.declared.instr.Loop.{Loop}
use Rattle.hp_spmd.specs.Layout.{Env}
use Rattle.hp_air.specs.Kept.{elem_fits, is_near, part_fits}
use Rattle.hp_parfor.specs.declared.parfor.Halo.{Halo}
use Rattle.hp_parfor.specs.KeptParts.{lets_fit}
use Rattle.hp_snippet.specs.Values.{HasValue}
use Rattle.hp_alone.specs.OwnLoops.{IsNear, MayRead, RowMayRead}
use Rattle.hp_lowering.specs.PartCode.{halos_at, whole_halos}

-- ---- halos

-- a halo reaches as far as the program's, or is a whole array
abbrev pub IsWide : HaloFrom → Halo → Type 0
IsWide (Loose column reach) h = reach ≡ h.reach
IsWide (Whole array) h = Unit {0}

pub whole_wide : (halos : List Halo) → AllZip IsWide (whole_halos halos) halos
whole_wide [] = tt
whole_wide (h ∷ hs) = (tt, whole_wide hs)

pub loose_wide : (i : ℕ) (halos : List Halo) → AllZip IsWide (halos_at i halos) halos
loose_wide i [] = tt
loose_wide i (h ∷ hs) = (refl, loose_wide (suc i) hs)

below_as : (a b : ℤ) → int_le a b ≡ true → a ≤ℤ b
below_as a b e = le_z_yes (subst T (sym e) tt)

near_one : (h : HaloFrom) (halo : Halo) (by : ℤ) → IsWide h halo → (int_le by (pos halo.reach) && int_le (neg_ℤ by) (pos halo.reach)) ≡ true → IsNear h by
near_one (Loose column reach) halo by wide e =
    let both = and_parts (int_le by (pos halo.reach)) (int_le (neg_ℤ by) (pos halo.reach)) e in
    subst (λ r. (by ≤ℤ pos r) × (neg_ℤ by ≤ℤ pos r)) (sym wide) (below_as by (pos halo.reach) both.0, below_as (neg_ℤ by) (pos halo.reach) both.1)
near_one (Whole array) halo by wide e = tt

-- what is near within the reach of a halo that there is
near_fits : (hs : List HaloFrom) (halos : List Halo) (k : ℕ) (by : ℤ) → AllZip IsWide hs halos → is_near by (slice_get (map (λ (h : Halo). h.reach) halos) k) ≡ true → (k < length hs) × IsNear (slice_index_or hs k (Whole 0)) by
near_fits [] [] k by wide e = absurd (false≢true e)
near_fits [] (g ∷ halos) k by wide e = absurd wide
near_fits (h ∷ hs) [] k by wide e = absurd wide
near_fits (h ∷ hs) (g ∷ halos) zero by wide e = (omega arith, near_one h g by wide.0 e)
near_fits (h ∷ hs) (g ∷ halos) (suc k) by wide e =
    let rest = near_fits hs halos k by wide.1 e in
    let lt = rest.0 in
    (omega (arith, lt), rest.1)

-- ---- elements

module _ (f : Env) (l : Loop) (words : ℕ) (halos : List Halo) (values : (w : ℕ) → w < words → HasValue (f.words w)) (wide : AllZip IsWide l.halos halos) where
  mutual
    unfolding elem_fits

    elem_may : (lets : ℕ) (e : Elem) → elem_fits words (length l.inputs) (map (λ (h : Halo). h.reach) halos) lets e ≡ true → MayRead f l e
    elem_may lets (Number n) h = tt
    elem_may lets (Word w) h = values w (ltb-true w words h)
    elem_may lets (Input k) h = ltb-true k (length l.inputs) h
    elem_may lets (Near k by) h = near_fits l.halos halos k by wide h
    elem_may lets (Earlier k) h = tt
    elem_may lets (Calc' op at p a q b) h =
        let parts = and_parts (part_fits words (length l.inputs) (map (λ (r : Halo). r.reach) halos) lets a) (part_fits words (length l.inputs) (map (λ (r : Halo). r.reach) halos) lets b) h in
        (row_may lets a parts.0, row_may lets b parts.1)
    elem_may lets (Both' p a q b) h =
        let parts = and_parts (part_fits words (length l.inputs) (map (λ (r : Halo). r.reach) halos) lets a) (part_fits words (length l.inputs) (map (λ (r : Halo). r.reach) halos) lets b) h in
        (row_may lets a parts.0, row_may lets b parts.1)
    elem_may lets (Either' p a q b) h =
        let parts = and_parts (part_fits words (length l.inputs) (map (λ (r : Halo). r.reach) halos) lets a) (part_fits words (length l.inputs) (map (λ (r : Halo). r.reach) halos) lets b) h in
        (row_may lets a parts.0, row_may lets b parts.1)

    row_may : {m : _} (lets : ℕ) (row : Row_of-Elem m) → part_fits words (length l.inputs) (map (λ (h : Halo). h.reach) halos) lets row ≡ true → RowMayRead f l row
    row_may lets end_of-Elem h = tt
    row_may lets (more_of-Elem e rest) h =
        let parts = and_parts (part_fits words (length l.inputs) (map (λ (r : Halo). r.reach) halos) lets rest) (elem_fits words (length l.inputs) (map (λ (r : Halo). r.reach) halos) lets e) h in
        (elem_may lets e parts.1, row_may lets rest parts.0)

  lets_may : (before : ℕ) (es : List Elem) → lets_fit words (length l.inputs) (map (λ (h : Halo). h.reach) halos) before es ≡ true → AllByRecursion (MayRead f l) es
  lets_may before [] h = tt
  lets_may before (e ∷ es) h =
      let parts = and_parts (elem_fits words (length l.inputs) (map (λ (r : Halo). r.reach) halos) before e) (lets_fit words (length l.inputs) (map (λ (r : Halo). r.reach) halos) (before + 1) es) h in
      (elem_may before e parts.0, lets_may (before + 1) es parts.1)

  -- the lets of a loop that keeps the laws
  pub may_read : lets_fit words (length l.inputs) (map (λ (h : Halo). h.reach) halos) 0 l.lets ≡ true → AllByRecursion (MayRead f l) l.lets
  may_read h = lets_may 0 l.lets h
