-- A step whose code is a piece that does what it promises is carried, where what the piece needs holds of what the ranks stand for.
use Rattle.std.proofs.Common.{◌≡◌, ◌∙◌, refl, sym, subst, ap, arith, true, ℕ, ◌+◌, ◌<◌, ◌≤◌, List, ◌++◌, length, Result, Ok, Err}
use Rattle.std.specs.Prelude.{◌≢◌}
use Rattle.std.specs.List.{All}
use Rattle.hp_word.specs.declared.order.Order.{Order}
use Rattle.hp_word.specs.declared.place.Trap.{Trap}
use Rattle.hp_word.specs.declared.table.Tables.{Tables}
use Rattle.hp_lattice.specs.declared.dist.Dist.{Dist}
use Rattle.hp_lattice.specs.declared.dist.Dist.TheVariants.{Var}
use Rattle.hp_spmd.specs.declared.code.Code.{Code}
use Rattle.hp_spmd.specs.declared.instr.Instr.{Instr}
use Rattle.hp_spmd.specs.declared.store.Store.{Store}
use Rattle.hp_spmd.specs.Layout as layout
use Rattle.hp_spmd.specs.Lockstep.{State, position_of}
use Rattle.hp_spmd.specs.Lockstep as lock
use Rattle.hp_spmd.specs.Store as store
use Rattle.hp_turns.specs.Apart.{price}
use Rattle.hp_air.specs.declared.slot.Slot.{Slot}
use Rattle.hp_air.specs.Frames.{slot_at}
use Rattle.hp_air.specs.Placed.{dist_at}
use Rattle.hp_air.specs.Wholes as wholes
use Rattle.hp_parfor.specs.LoopMeaning.{part_doing, part_does}
use Rattle.hp_parfor.specs.Parts.{Part}
use Rattle.hp_program.specs.Programs.{Effect}
use Rattle.hp_snippet.specs.Outcomes.{After, Does, Went}
use Rattle.hp_snippet.specs.Promises.{IsSound, Performs, Slots, StandAt, StandBehind, price_of}
use Rattle.hp_lowering.specs.PartCode.{part_code}
use Rattle.hp_lowering.specs.Room.{Room, room_of}
use Rattle.hp_lowering.specs.Flow.{comes_to}
use Rattle.hp_lowering.specs.Standing.{HasLogged, IsOf, StandFor}
use Rattle.hp_lowering.proofs.Carrying.{AreAfter, DoesAs, carries_by}
use Rattle.hp_lowering.proofs.Chaining.{GoesAs, Gone, Piece, Stand}
use Rattle.hp_lowering.proofs.Coming.{Anything}
use Rattle.hp_lowering.proofs.CarriesWords.{IsCarried, performed}
use Rattle.hp_lowering.proofs.PartForm.{steps_straight, steps_work}

-- The arrays of a code lie as the slots of a program, and no balanced copy lies in uneven pieces; so many spare arrays behind them do.
pub record LieAsSlots (slots : List Slot) (dists : List Dist) (code : Code) : Type 0 where
  pub there : length slots ≤ length code.arrays
  pub lies : (k : ℕ) → k < length slots → store.dist_at code.arrays k ≡ dist_at dists k
  pub even : (k : ℕ) → k < length slots → (slot_at slots k).balanced ≡ true → dist_at dists k ≢ Var
  pub spares : ℕ
  pub spare_lies : (i : ℕ) → i < spares → store.dist_at code.arrays (length slots + i) ≡ Var

module _ (slots : List Slot) (words : ℕ) (dists : List Dist) (code : Code) (tables : Tables) (n : ℕ) (orders : List Order) where
  abbrev room : Room
  room = room_of slots words

  pub carried_by : (part : Part) (list : List Instr) → part_code room slots (dist_at dists) part ≡ list → (written : Slots) (Needs : Code → List Store → layout.Env → Type 0) (operation : List Store → layout.Env → Result (After layout.Env) Trap)
      → Performs Needs operation written list → ((s : State) (e : wholes.Env) (h : StandFor code room n s e) → StandAt code.list (position_of s.ranks) list → Needs code s.ranks h.env)
      → ((s : State) (e : wholes.Env) (h : StandFor code room n s e) → DoesAs room e (part_does tables.list orders part e) (operation s.ranks h.env)) → IsCarried slots words dists code tables n orders part
  carried_by part list is written Needs operation performs needs does =
      carries_by (part_doing slots dists tables.list orders) (part_code room slots (dist_at dists)) code tables n room orders part written (steps_straight room slots (dist_at dists) part) (steps_work room slots (dist_at dists) part) operation
      (λ s e h stand.
      let there = subst (StandAt code.list (position_of s.ranks)) is stand in (
        does s e h,
        subst
            (λ (l : List Instr). Does code tables (price n) (IsSound code tables n (position_of s.ranks + length l)) (λ t. Unit {0}) layout.Env (StandBehind code written s.ranks) (length l) (price_of (price n) l) (position_of s.ranks + length l) s (operation s.ranks h.env))
            (sym is) (performed code tables n room list written Needs operation performs s e h there (needs s e h there)),
      ))

  -- ---- pieces one behind the other

  after_gone : (list : List Instr) (m : ℕ) (To : List Store → layout.Env → Type 0) (s : State) (e : wholes.Env) (h : StandFor code room n s e) (effect : Effect wholes.Env) (after : After layout.Env) → m ≡ e.executed → Gone code tables n m list To s after → AreAfter room e effect after
      → Went code tables (price n) Anything (HasLogged orders) wholes.Env (StandFor code room n) (length list) (price_of (price n) list) (position_of s.ranks + length list) s (record { env = effect.env; text = effect.text })
  after_gone list m To s e h effect after same g like =
      let stands = g.stands in
      record {
        count = length list;
        cost = g.cost;
        to = g.to;
        leads = g.leads;
        count_within = omega arith;
        cost_within = g.cost_within;
        place = g.place;
        out = g.out ∙ ap (λ t. s.out ++ t) (sym like.text);
        stands = λ logged. record {
          some = stands.some;
          count = stands.count;
          each = stands.each;
          at_one = stands.at_one;
          executed = subst (λ k. All (λ (x : Store). x.executed ≡ k) g.to.ranks) (same ∙ sym like.executed) stands.executed;
          logged = stands.logged;
          bad = like.bad ∙ h.bad;
          env = after.env;
          lays = stands.lays;
          is = like.is;
        };
      }

  goes_as : (list : List Instr) (m : ℕ) (To : List Store → layout.Env → Type 0) (s : State) (e : wholes.Env) (h : StandFor code room n s e) (r : Result (Effect wholes.Env) Trap) (a : Result (After layout.Env) Trap) → m ≡ e.executed → GoesAs code tables n m list To s a → DoesAs room e r a
      → Does code tables (price n) Anything (HasLogged orders) wholes.Env (StandFor code room n) (length list) (price_of (price n) list) (position_of s.ranks + length list) s (comes_to r)
  goes_as list m To s e h (Ok effect) (Ok after) same g like = after_gone list m To s e h effect after same g like
  goes_as list m To s e h (Ok effect) (Err t) same g like = absurd like
  goes_as list m To s e h (Err t) (Ok after) same g like = absurd like
  goes_as list m To s e h (Err t) (Err u) same w like =
      record { count = w.count; cost = w.cost; to = w.to; leads = w.leads; count_within = w.count_within; cost_within = w.cost_within; out = w.out; trips = w.trips ∙ ap lock.Trips (sym like) }

  -- a step whose code is a piece that goes from what holds of all that the ranks stand for
  pub carried_chain : (part : Part) (list : List Instr) → part_code room slots (dist_at dists) part ≡ list → (From To : wholes.Env → List Store → layout.Env → Type 0) (op : wholes.Env → layout.Env → Result (After layout.Env) Trap)
      → ((e : wholes.Env) → Piece code tables n e.executed list (From e) (To e) (op e)) → ((s : State) (e : wholes.Env) (h : StandFor code room n s e) → From e s.ranks h.env)
      → ((e : wholes.Env) (f : layout.Env) → IsOf room e f → DoesAs room e (part_does tables.list orders part e) (op e f)) → IsCarried slots words dists code tables n orders part
  carried_chain part list is From To op piece from like =
      let work = steps_work room slots (dist_at dists) part in
      record {
        few = work.few;
        cheap = work.cheap n;
        does = λ s e h stand.
            let there = subst (StandAt code.list (position_of s.ranks)) is stand in
            subst
            (λ (l : List Instr). Does code tables (price n) Anything (HasLogged orders) wholes.Env (StandFor code room n) (length l) (price_of (price n) l) (position_of s.ranks + length l) s (comes_to (part_does tables.list orders part e)))
            (sym is) (goes_as list e.executed (To e) s e h (part_does tables.list orders part e) (op e h.env) refl ((piece e).goes s h.env (begins From from s e h) there) (like e h.env h.is));
        keeps = λ s e h stand k lt.
            let there = subst (StandAt code.list (position_of s.ranks)) is stand in
            (piece e).keeps s h.env (begins From from s e h) there k (subst (λ (l : List Instr). k < length l) is lt);
      }
    where
      begins : (From : wholes.Env → List Store → layout.Env → Type 0) → ((s : State) (e : wholes.Env) (h : StandFor code room n s e) → From e s.ranks h.env) → (s : State) (e : wholes.Env) (h : StandFor code room n s e) → Stand code n e.executed (From e) s h.env
      begins From from s e h = record { some = h.some; count = h.count; each = h.each; at_one = h.at_one; executed = h.executed; logged = h.logged; lays = h.lays; has = from s e h }
