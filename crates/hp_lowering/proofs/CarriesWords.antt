-- The codes of operations on words carry them.
use Rattle.std.proofs.Common.{◌≡◌, refl, sym, subst, ap, arith, eqb, inl, inr, cond, true, false, ℕ, ◌+◌, ◌*◌, ◌<◌, List, length, Some, Result, Ok, Err}
use Rattle.std.specs.Prelude.{ℤ}
use Rattle.std.specs.List.{All}
use Rattle.std.proofs.lemmas.Bool.{cases_eq, eq-eqb, ne_eqb}
use Rattle.hp_word.specs.declared.order.Order.{Order}
use Rattle.hp_word.specs.declared.place.Place.{Place}
use Rattle.hp_word.specs.declared.place.Trap.{Trap}
use Rattle.hp_word.specs.declared.table.Tables.{Tables}
use Rattle.hp_word.specs.declared.word.CalcOp.{CalcOp}
use Rattle.hp_word.specs.Elem.{trapped_at}
use Rattle.hp_word.specs.Words.{calculated}
use Rattle.hp_lattice.specs.declared.dist.Dist.{Dist}
use Rattle.hp_spmd.specs.declared.code.Code.{Code}
use Rattle.hp_spmd.specs.declared.instr.Instr.{Instr}
use Rattle.hp_spmd.specs.declared.store.Store.{Store}
use Rattle.hp_spmd.specs.Layout as layout
use Rattle.hp_spmd.specs.Lockstep.{State, position_of}
use Rattle.hp_turns.specs.Apart.{price}
use Rattle.hp_air.specs.declared.slot.Slot.{Slot}
use Rattle.hp_air.specs.declared.what.What.TheVariants as what
use Rattle.hp_air.specs.Meaning as air
use Rattle.hp_air.specs.Meaning.{does}
use Rattle.hp_air.specs.Placed.{dist_at}
use Rattle.hp_air.specs.Wholes as wholes
use Rattle.hp_air.specs.Wholes.{changed_at, with_word}
use Rattle.hp_parfor.specs.LoopMeaning.{part_doing, part_does}
use Rattle.hp_parfor.specs.Parts.{Part, Does as DoesPart}
use Rattle.hp_snippet.specs.Outcomes.{After, Does}
use Rattle.hp_snippet.specs.Promises.{IsRankOf, IsSound, Performs, Slots, StandAt, StandBehind, price_of}
use Rattle.hp_snippet.specs.Values.{HasValue, value_or_zero, with_value}
use Rattle.hp_alone.specs.Scalars.{NeedsNothing, HaveValues, calc_code, calculated_word, const_code, constant, word_alone, word_made}
use Rattle.hp_alone.proofs.WordsMade.{calc_performs, const_performs}
use Rattle.hp_lowering.specs.Flow.{Carries}
use Rattle.hp_lowering.specs.PartCode.{part_code, whole_code}
use Rattle.hp_lowering.specs.Room.{Room, room_of}
use Rattle.hp_lowering.specs.Standing.{AreSound, HasLogged, IsOf, StandFor}
use Rattle.hp_lowering.proofs.Carrying.{DoesAs, carries_by}
use Rattle.hp_lowering.proofs.PartForm.{steps_straight, steps_work}

-- ---- what a piece promises of ranks that stand for a program

pub performed : (code : Code) (tables : Tables) (n : ℕ) (room : Room) (list : List Instr) (written : Slots) (Needs : Code → List Store → layout.Env → Type 0) (operation : List Store → layout.Env → Result (After layout.Env) Trap)
    → Performs Needs operation written list → (s : State) (e : wholes.Env) (h : StandFor code room n s e) → StandAt code.list (position_of s.ranks) list → Needs code s.ranks h.env
    → Does code tables (price n) (IsSound code tables n (position_of s.ranks + length list)) (λ t. Unit {0}) layout.Env (StandBehind code written s.ranks) (length list) (price_of (price n) list) (position_of s.ranks + length list) s (operation s.ranks h.env)
performed code tables n room list written Needs operation performs s e h stand needs =
    let some = h.some in
    let count = h.count in
    subst
    (λ m. Does code tables (price n) (IsSound code tables m (position_of s.ranks + length list)) (λ t. Unit {0}) layout.Env (StandBehind code written s.ranks) (length list) (price_of (price n) list) (position_of s.ranks + length list) s (operation s.ranks h.env))
    h.count
    (performs code tables (price n) s h.env (record { stand = stand; some = omega (arith, some, count); each = subst (λ m. All (IsRankOf code m) s.ranks) (sym h.count) h.each; lays = h.lays }) needs)

-- ---- a word that is made

pub with_word_is : (room : Room) (to : ℕ) (x : ℤ) (e : wholes.Env) (f : layout.Env) → IsOf room e f → IsOf room (with_word to x e) (with_value to x f)
with_word_is room to x e f h = record { slots = h.slots; words = word_is; short = h.short; arrays = h.arrays }
  where
    word_is : (w : ℕ) → w < room.words → cond (eqb to w) (Some x) (f.words w) ≡ Some (cond (eqb w to) x (e.words w))
    word_is w lt = elim (cases_eq to w) [
      | inl same ↦
          let a : eqb to w ≡ true = eq-eqb to w same in
          let b : eqb w to ≡ true = eq-eqb w to (sym same) in
          rw (a, b) refl
      | inr other ↦
          let a : eqb to w ≡ false = ne_eqb to w other in
          let b : eqb w to ≡ false = ne_eqb w to (λ q. other (sym q)) in
          rw (a, b) (h.words w lt)
    ]

pub word_does : (room : Room) (to : ℕ) (e : wholes.Env) (f : layout.Env) (r : Result ℤ Trap) → IsOf room e f → DoesAs room e (air.word_made to e r) (word_made to r f)
word_does room to e f (Ok x) h = record { text = refl; is = with_word_is room to x e f h; executed = refl; bad = refl }
word_does room to e f (Err t) h = refl

-- a word of the program has a value
pub value_is : (room : Room) (w : ℕ) (e : wholes.Env) (f : layout.Env) → IsOf room e f → w < room.words → value_or_zero (f.words w) ≡ e.words w
value_is room w e f h lt = ap value_or_zero (h.words w lt)

pub has_value : (room : Room) (w : ℕ) (e : wholes.Env) (f : layout.Env) → IsOf room e f → w < room.words → HasValue (f.words w)
has_value room w e f h lt = subst HasValue (sym (h.words w lt)) tt

module _ (slots : List Slot) (words : ℕ) (dists : List Dist) (code : Code) (tables : Tables) (n : ℕ) (orders : List Order) where
  abbrev room : Room
  room = room_of slots words

  -- the code of a step carries it, under these orders
  abbrev pub IsCarried : Part → Type 0
  IsCarried part = Carries (part_doing slots dists tables.list orders) (part_code room slots (dist_at dists)) code tables (price n) (2 * n + 14) (AreSound code tables n) (HasLogged orders) (StandFor code room n) part

  pub const_carried : (at : Place) (to : ℕ) (value : ℤ) → to < words → IsCarried (DoesPart (record { at = at; what = what.Const to value }))
  unfolding part_code whole_code part_does does
  const_carried at to value lt =
      let part = DoesPart (record { at = at; what = what.Const to value }) in
      carries_by (part_doing slots dists tables.list orders) (part_code room slots (dist_at dists)) code tables n room orders part (word_alone to) (steps_straight room slots (dist_at dists) part) (steps_work room slots (dist_at dists) part) (constant to value)
      (λ s e h stand. (
        word_does room to e h.env (Ok value) h.is,
        performed code tables n room (const_code to value) (word_alone to) NeedsNothing (constant to value) (const_performs to value (const_code to value) refl) s e h stand tt,
      ))

  pub calc_carried : (at : Place) (to : ℕ) (op : CalcOp) (left right : ℕ) → to < words → left < words → right < words → IsCarried (DoesPart (record { at = at; what = what.Calc to op left right }))
  unfolding part_code whole_code part_does does
  calc_carried at to op left right lt l r =
      let part = DoesPart (record { at = at; what = what.Calc to op left right }) in
      carries_by (part_doing slots dists tables.list orders) (part_code room slots (dist_at dists)) code tables n room orders part (word_alone to) (steps_straight room slots (dist_at dists) part) (steps_work room slots (dist_at dists) part) (calculated_word to op left right at)
      (λ s e h stand. (
        subst (λ x. DoesAs room e (air.word_made to e (trapped_at at (calculated op (e.words left) (e.words right)))) (word_made to (trapped_at at (calculated op x (value_or_zero (h.env.words right)))) h.env)) (sym (value_is room left e h.env h.is l))
            (subst (λ y. DoesAs room e (air.word_made to e (trapped_at at (calculated op (e.words left) (e.words right)))) (word_made to (trapped_at at (calculated op (e.words left) y)) h.env)) (sym (value_is room right e h.env h.is r))
            (word_does room to e h.env (trapped_at at (calculated op (e.words left) (e.words right))) h.is)),
        performed code tables n room (calc_code to op left right at) (word_alone to) (HaveValues left right) (calculated_word to op left right at) (calc_performs to op left right at (calc_code to op left right at) refl) s e h stand
            (has_value room left e h.env h.is l, has_value room right e h.env h.is r),
      ))
