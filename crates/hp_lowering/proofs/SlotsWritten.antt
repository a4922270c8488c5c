-- What slots hold is what the ranks' arrays stand for, once some of both are written.
use Rattle.std.proofs.Common.{◌≡◌, ◌∙◌, sym, subst, ap, eqb, inl, inr, cond, true, false, not, ℕ, ◌<◌, ◌≤◌, List, [], ◌∷◌, length}
use Rattle.std.proofs.lemmas.Bool.{and_parts, cases_eq, eq-eqb, false≢true, ne_eqb}
use Rattle.hp_word.specs.Lengths.{longest}
use Rattle.hp_spmd.specs.Layout as layout
use Rattle.hp_air.specs.Kept.{are_distinct, is_one_of}
use Rattle.hp_air.specs.Wholes as wholes
use Rattle.hp_air.specs.Wholes.{cells, changed_all, with_slots}
use Rattle.hp_snippet.specs.Moves.{changed, with_wholes}
use Rattle.hp_snippet.specs.Promises.{AreOnce, IsNoneOf}
use Rattle.hp_snippet.proofs.MoveWholes.{changed_other}
use Rattle.hp_lowering.specs.Room.{Room}
use Rattle.hp_lowering.specs.Standing.{IsArray, IsOf, whole_of}

-- ---- what is held

-- what a slot holds is what the ranks' array stands for
pub record IsHeld (room : Room) (k : ℕ) (held : wholes.Whole) (whole : layout.Whole) : Type 0 where
  pub same : whole ≡ whole_of held
  pub short : length (cells held) ≤ longest
  pub array : room.matrix k ≡ false → IsArray held

pub is_held : (room : Room) (e : wholes.Env) (f : layout.Env) → IsOf room e f → (k : ℕ) → k < room.slots → IsHeld room k (e.slots k) (f.arrays k)
is_held room e f h k lt = record { same = h.slots k lt; short = h.short k lt; array = h.arrays k lt }

-- ---- what is written

-- these wholes are held in these slots, one for one
abbrev pub AreHeld : Room → List ℕ → List wholes.Whole → List layout.Whole → Type 0
AreHeld room [] ws vs = Unit {0}
AreHeld room (k ∷ ks) [] vs = ⊥
AreHeld room (k ∷ ks) (w ∷ ws) [] = ⊥
AreHeld room (k ∷ ks) (w ∷ ws) (v ∷ vs) = IsHeld room k w v × AreHeld room ks ws vs

written_held : (room : Room) (ks : List ℕ) (ws : List wholes.Whole) (vs : List layout.Whole) (held : ℕ → wholes.Whole) (f : ℕ → layout.Whole) (k : ℕ) → AreOnce ks → AreHeld room ks ws vs → IsHeld room k (held k) (f k)
    → IsHeld room k (changed_all ks ws held k) (changed ks vs f k)
unfolding changed_all
written_held room [] ws vs held f k once made h = h
written_held room (t ∷ ks) [] vs held f k once made h = absurd made
written_held room (t ∷ ks) (w ∷ ws) [] held f k once made h = absurd made
written_held room (t ∷ ks) (w ∷ ws) (v ∷ vs) held f k once made h = elim (cases_eq k t) [
  | inl same ↦
      let a : eqb k t ≡ true = eq-eqb k t same in
      let none : IsNoneOf ks k = subst (IsNoneOf ks) (sym same) once.0 in
      let last : changed ks vs (λ j. cond (eqb j t) v (f j)) k ≡ v = changed_other {X = layout.Whole} ks vs (λ j. cond (eqb j t) v (f j)) k none ∙ ap (λ b. cond b v (f k)) a in
      rw (last, a) (subst (λ j. IsHeld room j w v) (sym same) made.0)
  | inr other ↦
      let a : eqb k t ≡ false = ne_eqb k t other in
      let kept : IsHeld room k (held k) (cond (eqb k t) v (f k)) = rw (a) h in
      rw (a) (written_held room ks ws vs held (λ j. cond (eqb j t) v (f j)) k once.1 made.1 kept)
]

-- slots and arrays that are written alike
pub slots_written : (room : Room) (ks : List ℕ) (ws : List wholes.Whole) (vs : List layout.Whole) (e : wholes.Env) (f : layout.Env) → AreOnce ks → AreHeld room ks ws vs → IsOf room e f → IsOf room (with_slots ks ws e) (with_wholes ks vs f)
slots_written room ks ws vs e f once made h =
    let held = λ (k : ℕ) (lt : k < room.slots). written_held room ks ws vs e.slots f.arrays k once made (is_held room e f h k lt) in
    record { slots = λ k lt. (held k lt).same; words = h.words; short = λ k lt. (held k lt).short; arrays = λ k lt. (held k lt).array }

-- ---- names that stand once

none_of : (ks : List ℕ) (k : ℕ) → not (is_one_of ks k) ≡ true → IsNoneOf ks k
none_of [] k h = tt
none_of (j ∷ ks) k h = elim (cases_eq j k) [
  | inl same ↦ let a : eqb j k ≡ true = eq-eqb j k same in absurd (false≢true (rw (a) at h))
  | inr other ↦ let a : eqb j k ≡ false = ne_eqb j k other in (other, none_of ks k (rw (a) at h))
]

pub once_of : (ks : List ℕ) → are_distinct ks ≡ true → AreOnce ks
once_of [] h = tt
once_of (k ∷ ks) h = let both = and_parts (not (is_one_of ks k)) (are_distinct ks) h in (none_of ks k both.0, once_of ks both.1)
