-- Two evaluations that are given the same but for their orders come to the same, as long as the orders agree.
use Rattle.std.proofs.Common.{◌≡◌, ℕ, ◌+◌, ◌≤◌, Bool, true, List, ℤ, Option, Some, None, refl, sym, ap, ◌∙◌, arith}
use Rattle.hp_word.specs.declared.order.Order.{Order}
use Rattle.hp_word.specs.declared.order.RowPlace.{RowPlace}
use Rattle.hp_word.specs.declared.place.Place.{Place}
use Rattle.hp_word.specs.declared.place.Trap.{Trap}
use Rattle.hp_word.specs.declared.table.Table.{Table}
use Rattle.hp_meaning.specs.declared.seen.Met.{Met}
use Rattle.hp_meaning.specs.declared.seen.Seen.{Seen}
use Rattle.hp_meaning.specs.declared.value.Column.{Column}
use Rattle.hp_meaning.specs.declared.value.Value.{Value}
use Rattle.hp_meaning.specs.declared.value.Value.TheVariants.{Frame}
use Rattle.hp_meaning.specs.FrameRules.{executed, in_order, joined_rows, joined_keys, column_of, joined, Measured, grouped_rows, grouped_keys, grouped}
use Rattle.hp_meaning.specs.Operands.{as_frame}
use Rattle.hp_meaning.specs.Outcomes.{Answer, Gives, Traps, Refuses, tick, Course, Outcome, Is, Stops, Wrong, followed, needed, told, ended, meeting}
use Rattle.hp_word.specs.RowRules.{AgreeUpTo, join_pairs, Taken, order_taken, groups}
use Rattle.hp_meaning.specs.ValueOf.{Supply, supply, join_in, group_in}
use Rattle.hp_meaning.proofs.Executing.{Steps, stays, steps_more, steps_both, steps_ticked, executes}

-- ---- what two evaluations are given

-- The tables and the calls that read them are the same, and the orders agree up to a number. Where the script is free of
-- joins and aggregates, none is executed.
pub record Twins : Type 0 where
  pub tables : List Table
  pub reads : List ℕ
  pub first : List Order
  pub second : List Order
  pub last : ℕ
  pub agree : AgreeUpTo last first second
  pub free : Bool

abbrev pub left : Twins → Supply
left t = supply t.tables t.reads t.first

abbrev pub right : Twins → Supply
right t = supply t.tables t.reads t.second

-- ---- outcomes

-- After what was seen the first evaluation executes few joins and aggregates, at most so many more than its ticks, and
-- the second comes to the same where they are not more than those on which the orders agree.
pub data Alike (t : Twins) (more : ℕ) (n : Seen) (A : Type 0) : Outcome A → Outcome A → Type 0 where
  is : {a : A} {m : Seen} {p : Outcome A} → Steps t.free more n m → (m.met.executed ≤ t.last → p ≡ Is a m) → Alike t more n A (Is a m) p
  stops : {x : Trap} {m : Seen} {p : Outcome A} → Steps t.free more n m → (m.met.executed ≤ t.last → p ≡ Stops x m) → Alike t more n A (Stops x m) p
  wrong : {p : Outcome A} → Alike t more n A Wrong p

pub alike_more : {t : Twins} {n : Seen} {A : Type 0} {o p : Outcome A} (more : ℕ) → Alike t 0 n A o p → Alike t more n A o p
alike_more more (is s e) = is (steps_more more s) e
alike_more more (stops s e) = stops (steps_more more s) e
alike_more more wrong = wrong

-- a call begins with its tick, and may execute one join or aggregate for it
pub alike_called : {t : Twins} {n : Seen} {A : Type 0} {o p : Outcome A} → Alike t 1 (tick n) A o p → Alike t 0 n A o p
alike_called (is s e) = is (steps_ticked s) e
alike_called (stops s e) = stops (steps_ticked s) e
alike_called wrong = wrong

-- any other expression with a value begins with its tick
pub alike_ticked : {t : Twins} {n : Seen} {A : Type 0} {o p : Outcome A} → Alike t 0 (tick n) A o p → Alike t 0 n A o p
alike_ticked h = alike_called (alike_more 1 h)

-- what is alike from a point on is alike from an earlier point
from_earlier : {t : Twins} {more : ℕ} {n m : Seen} {A : Type 0} {o p q : Outcome A} → Steps t.free 0 n m → (m.met.executed ≤ t.last → p ≡ q) → Alike t more m A o q → Alike t more n A o p
from_earlier s same (is u e) = is (steps_both s u) (λ h. same (omega (arith, u.grows, h)) ∙ e h)
from_earlier s same (stops u e) = stops (steps_both s u) (λ h. same (omega (arith, u.grows, h)) ∙ e h)
from_earlier s same wrong = wrong

pub followed_alike : {t : Twins} {more : ℕ} {n : Seen} {A B : Type 0} {o p : Outcome A} (f g : A → Seen → Outcome B) → Alike t 0 n A o p
    → ((a : A) (m : Seen) → Alike t more m B (f a m) (g a m)) → Alike t more n B (followed o f) (followed p g)
followed_alike f g (is {a = a} {m = m} s e) next = from_earlier s (λ h. ap (λ o. followed o g) (e h)) (next a m)
followed_alike {more = more} f g (stops s e) next = stops (steps_more more s) (λ h. ap (λ o. followed o g) (e h))
followed_alike f g wrong next = wrong

pub needed_alike : {t : Twins} {more : ℕ} {n : Seen} {A B : Type 0} (found : Option A) {f g : A → Outcome B} → ((a : A) → Alike t more n B (f a) (g a)) → Alike t more n B (needed found f) (needed found g)
needed_alike (Some a) next = next a
needed_alike None next = wrong

-- an answer at a point that was come to
ended_as : {t : Twins} {more : ℕ} {n m : Seen} {A : Type 0} (answer : Answer A) {p : Outcome A} → Steps t.free more n m → (m.met.executed ≤ t.last → p ≡ ended answer m) → Alike t more n A (ended answer m) p
ended_as (Gives a) s e = is s e
ended_as (Traps x) s e = stops s e
ended_as Refuses s e = wrong

pub ended_alike : {t : Twins} {A : Type 0} (answer : Answer A) (n : Seen) → Alike t 0 n A (ended answer n) (ended answer n)
ended_alike {t = t} answer n = ended_as answer (stays t.free 0 n) (λ h. refl)

-- ---- joins and aggregates

-- where one is executed, the script is not free of them
abbrev pub Busy : Twins → Type 0
Busy t = t.free ≡ true → ⊥

-- the orders of the next one
next_order : (t : Twins) (m : Met) (plain : List RowPlace) → m.executed + 1 ≤ t.last → order_taken (m.executed + 1) t.second plain ≡ order_taken (m.executed + 1) t.first plain
next_order t m plain h = sym (t.agree (m.executed + 1) (omega arith) h plain)

-- what is made in two orders, by one more of them
executed_alike : {t : Twins} (rows : List RowPlace → Answer Value) (o p : Taken) (n : Seen) → Busy t → (n.met.executed + 1 ≤ t.last → p ≡ o)
    → Alike t 1 n Value (meeting (ended (rows o.places) (executed o.is_bad n.met)) n) (meeting (ended (rows p.places) (executed p.is_bad n.met)) n)
executed_alike rows o p n busy same =
    met_as {m = executed o.is_bad n.met} (rows o.places) (executes o.is_bad n busy) (λ h. ap (λ q. meeting (ended (rows q.places) (executed q.is_bad n.met)) n) (same h))
  where
    met_as : {t : Twins} {n : Seen} {m : Met} (answer : Answer Value) {p : Outcome Value} → Steps t.free 1 n (record n { met = m }) → (m.executed ≤ t.last → p ≡ meeting (ended answer m) n) → Alike t 1 n Value (meeting (ended answer m) n) p
    met_as (Gives a) s e = is s e
    met_as (Traps x) s e = stops s e
    met_as Refuses s e = wrong

needed_met : {t : Twins} {n : Seen} {A B : Type 0} (found : Option A) (f g : A → Course Met B) → ((a : A) → Alike t 1 n B (meeting (f a) n) (meeting (g a) n)) → Alike t 1 n B (meeting (needed found f) n) (meeting (needed found g) n)
needed_met (Some a) f g next = next a
needed_met None f g next = wrong

-- none is executed before the rows are known
before_met : {t : Twins} {A B : Type 0} (answer : Answer A) (f g : A → Met → Course Met B) (n : Seen) → ((a : A) → Alike t 1 n B (meeting (f a n.met) n) (meeting (g a n.met) n))
    → Alike t 1 n B (meeting (followed (ended answer n.met) f) n) (meeting (followed (ended answer n.met) g) n)
before_met (Gives a) f g n next = next a
before_met (Traps x) f g n next = stops (record { grows = omega arith; few = omega arith; still = λ f. refl }) (λ h. refl)
before_met Refuses f g n next = wrong

joined_keys_alike : (t : Twins) (at : Place) (key : List ℕ) (first second : List Column) (first_keys second_keys : List ℤ) (n : Seen) → Busy t
    → Alike t 1 n Value (meeting (joined_keys t.first at key first second first_keys second_keys n.met) n) (meeting (joined_keys t.second at key first second first_keys second_keys n.met) n)
unfolding joined_keys
joined_keys_alike t at key first second first_keys second_keys n busy =
    before_met (told (join_pairs at first_keys second_keys)) (λ plain m. in_order (order_taken (m.executed + 1) t.first plain) (joined_rows key first second) m)
    (λ plain m. in_order (order_taken (m.executed + 1) t.second plain) (joined_rows key first second) m) n
    (λ plain. executed_alike (λ places. Gives (Frame (joined_rows key first second places))) (order_taken (n.met.executed + 1) t.first plain) (order_taken (n.met.executed + 1) t.second plain) n busy (next_order t n.met plain))

pub joined_alike : (t : Twins) (at : Place) (key : List ℕ) (a b : Value) (n : Seen) → Busy t → Alike t 1 n Value (join_in (left t) at key a b n) (join_in (right t) at key a b n)
unfolding joined
joined_alike t at key a b n busy =
    needed_met (as_frame a) _ _ (λ first. needed_met (as_frame b) _ _ (λ second. needed_met (column_of key first) _ _ (λ first_keys. needed_met (column_of key second) _ _ (λ second_keys.
    joined_keys_alike t at key first second first_keys second_keys n busy))))

grouped_keys_alike : (t : Twins) (key : List ℕ) (columns : List Column) (measures : List Measured) (keys : List ℤ) (n : Seen) → Busy t
    → Alike t 1 n Value (meeting (grouped_keys t.first key columns measures keys n.met) n) (meeting (grouped_keys t.second key columns measures keys n.met) n)
unfolding grouped_keys
grouped_keys_alike t key columns measures keys n busy =
    executed_alike (grouped_rows key columns keys measures) (order_taken (n.met.executed + 1) t.first (groups keys)) (order_taken (n.met.executed + 1) t.second (groups keys)) n busy (next_order t n.met (groups keys))

pub grouped_alike : (t : Twins) (key : List ℕ) (measures : List Measured) (a : Value) (n : Seen) → Busy t → Alike t 1 n Value (group_in (left t) key measures a n) (group_in (right t) key measures a n)
unfolding grouped
grouped_alike t key measures a n busy =
    needed_met (as_frame a) _ _ (λ columns. needed_met (column_of key columns) _ _ (λ keys. grouped_keys_alike t key columns measures keys n busy))
