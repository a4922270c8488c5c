-- The laws of runs of the array IR, from those of programs over any operations.
use Rattle.std.proofs.Common.{◌≡◌, ℕ, ◌+◌, ◌≤◌, Bool, true, false, cond, List, [], ◌∷◌, Result, Ok, Err, refl, sym, ap, arith}
use Rattle.hp_word.specs.declared.matrix.Matrix.{Matrix}
use Rattle.hp_word.specs.declared.order.Order.{Order}
use Rattle.hp_word.specs.declared.order.RowPlace.{RowPlace}
use Rattle.hp_word.specs.declared.place.Place.{Place}
use Rattle.hp_word.specs.declared.place.Trap.{Trap}
use Rattle.hp_word.specs.declared.table.Table.{Table}
use Rattle.hp_word.specs.LoopRules.{and_then}
use Rattle.hp_word.specs.RowRules.{AgreeUpTo}
use Rattle.hp_word.specs.Runs.{State, Ran, Writes, Lasts, with_more}
use Rattle.hp_word.proofs.RunGrowth.{writes_of}
use Rattle.hp_word.proofs.RunFuel.{lasts_of}
use Rattle.hp_program.specs.Programs.{Prog, Doing, operations, replaced, step, run, start, IsLike, EndsLike}
use Rattle.hp_program.proofs.Agreeing.{SameUpTo, went, trapped, spent, GivesUpTo, gives, fails, run_same}
use Rattle.hp_program.proofs.Fuel.{run_further}
use Rattle.hp_program.proofs.Growth.{Rises, run_grows, run_rises}
use Rattle.hp_program.proofs.Growth as growth
use Rattle.hp_program.proofs.Replaced.{all_fit, run_fewer, run_replaced}
use Rattle.hp_air.specs.declared.slot.Slot.{Slot}
use Rattle.hp_air.specs.declared.what.Op.{Op}
use Rattle.hp_air.specs.declared.what.What.{What}
use Rattle.hp_air.specs.declared.what.What.TheVariants as what
use Rattle.hp_air.specs.Wholes.{Env, unset, with_slots}
use Rattle.hp_air.specs.Meaning.{does, has_balanced, units, doing, mean, word_made, array_made, matrix_made, frame_made, in_order, next_order}
use Rattle.hp_air.specs.RunLaws.{WorksOn, EndsSame, executions}

-- ---- growth

pub writes : (slots : List Slot) (p : Prog Op) (tables : List Table) (orders : List Order) (s : State Env ℕ) → Writes s.out (run (doing slots tables orders) p s)
writes slots p tables orders s = writes_of (run_grows (doing slots tables orders) p s)

pub lasts : (slots : List Slot) (p : Prog Op) (tables : List Table) (orders : List Order) (more : ℕ) (s : State Env ℕ) → Lasts more (run (doing slots tables orders) p s) (run (doing slots tables orders) p (with_more more s))
lasts slots p tables orders more s = lasts_of (run_further more (doing slots tables orders) p s)

pub more_fuel : (slots : List Slot) (p : Prog Op) (tables : List Table) (orders : List Order) (fuel more : ℕ) → Lasts more (mean slots p tables orders fuel) (mean slots p tables orders (fuel + more))
unfolding mean
more_fuel slots p tables orders fuel more = lasts slots p tables orders more (start unset fuel)

works_of : {work : ℕ} {ran : Ran Env ℕ} → Rises work ran → WorksOn work ran
works_of (growth.went le) = le
works_of (growth.trapped le) = le
works_of (growth.spent le) = le

pub works_on : (slots : List Slot) (p : Prog Op) (tables : List Table) (orders : List Order) (s : State Env ℕ) → WorksOn s.seen (run (doing slots tables orders) p s)
works_on slots p tables orders s = works_of (run_rises (doing slots tables orders) p s)

-- ---- orders

abbrev executed_in : Env → ℕ
executed_in e = e.executed

word_gives : {last : ℕ} (to : ℕ) (e : Env) (made : Result _ Trap) → GivesUpTo executed_in last e.executed (word_made to e made) (word_made to e made)
word_gives to e (Ok x) = gives (omega arith) (λ small. refl)
word_gives to e (Err t) = fails (λ small. refl)

array_gives : {last : ℕ} (out : ℕ) (e : Env) (made : Result _ Trap) → GivesUpTo executed_in last e.executed (array_made out e made) (array_made out e made)
array_gives out e (Ok x) = gives (omega arith) (λ small. refl)
array_gives out e (Err t) = fails (λ small. refl)

matrix_gives : {last : ℕ} (out : ℕ) (e : Env) (made : Result Matrix Trap) → GivesUpTo executed_in last e.executed (matrix_made out e made) (matrix_made out e made)
matrix_gives out e (Ok x) = gives (omega arith) (λ small. refl)
matrix_gives out e (Err t) = fails (λ small. refl)

frame_gives : {last : ℕ} (outs : List ℕ) (e : Env) (made : Result _ Trap) → GivesUpTo executed_in last e.executed (frame_made outs e made) (frame_made outs e made)
frame_gives outs e (Ok x) = gives (omega arith) (λ small. refl)
frame_gives outs e (Err t) = fails (λ small. refl)

stays : {last : ℕ} (e f : Env) (text : List ℕ) → f.executed ≡ e.executed → GivesUpTo executed_in last e.executed (Ok (record { env = f; text = text })) (Ok (record { env = f; text = text }))
stays e f text same = gives (omega arith) (λ small. refl)

order_gives : {last : ℕ} (a b : List Order) (outs : List ℕ) (e : Env) (plain : List RowPlace) (rows : List RowPlace → _) → AgreeUpTo last a b
    → GivesUpTo executed_in last e.executed (in_order outs e (next_order a e plain) rows) (in_order outs e (next_order b e plain) rows)
unfolding in_order
order_gives a b outs e plain rows agree = gives (omega arith) (λ small. ap (λ order. in_order outs e order rows) (sym (agree (e.executed + 1) (omega arith) small plain)))

join_gives : {last : ℕ} (a b : List Order) (outs : List ℕ) (e : Env) (plain : Result (List RowPlace) Trap) (rows : List RowPlace → _) → AgreeUpTo last a b
    → GivesUpTo executed_in last e.executed (and_then plain (λ places. in_order outs e (next_order a e places) rows)) (and_then plain (λ places. in_order outs e (next_order b e places) rows))
join_gives a b outs e (Ok places) rows agree = order_gives a b outs e places rows agree
join_gives a b outs e (Err t) rows agree = fails (λ small. refl)

-- an operation does the same by both lists of orders, where it is no join or aggregate past the last number
does_gives : {last : ℕ} (tables : List Table) (a b : List Order) → AgreeUpTo last a b → (at : Place) (op : What) (e : Env) → GivesUpTo executed_in last e.executed (does tables a at op e) (does tables b at op e)
unfolding does
does_gives tables a b agree at (what.Const to value) e = stays e _ _ refl
does_gives tables a b agree at (what.Calc to op left right) e = word_gives to e _
does_gives tables a b agree at (what.Length to array) e = stays e _ _ refl
does_gives tables a b agree at (what.Fill out value count) e = array_gives out e _
does_gives tables a b agree at (what.Range out first last) e = array_gives out e _
does_gives tables a b agree at (what.Read outs table) e = frame_gives outs e (Ok _)
does_gives tables a b agree at (what.Copy outs ins) e = stays e _ _ refl
does_gives tables a b agree at (what.Map out ins elem) e = array_gives out e _
does_gives tables a b agree at (what.Reduce to kind array elem) e = word_gives to e _
does_gives tables a b agree at (what.Scan out array) e = array_gives out e (Ok _)
does_gives tables a b agree at (what.Stencil out array balanced reach elem) e = array_gives out (with_slots (balanced ∷ []) (e.slots array ∷ []) e) _
does_gives tables a b agree at (what.Filter outs ins mask) e = frame_gives outs e _
does_gives tables a b agree at (what.Join outs lefts left_key rights right_key) e = join_gives a b outs e _ _ agree
does_gives tables a b agree at (what.Group outs ins key measures) e = order_gives a b outs e _ _ agree
does_gives tables a b agree at (what.Concat out left right) e = array_gives out e _
does_gives tables a b agree at (what.Sort outs ins key) e = frame_gives outs e (Ok _)
does_gives tables a b agree at (what.At to array index) e = word_gives to e _
does_gives tables a b agree at (what.Pick out array index) e = array_gives out e _
does_gives tables a b agree at (what.Frame outs ins) e = frame_gives outs e _
does_gives tables a b agree at (what.Stack out ins) e = matrix_gives out e _
does_gives tables a b agree at (what.Row out matrix index) e = array_gives out e _
does_gives tables a b agree at (what.Product out left right) e = matrix_gives out e _
does_gives tables a b agree at (what.ProductT out left right) e = matrix_gives out e _
does_gives tables a b agree at (what.PrintWord word truth) e = stays e e _ refl
does_gives tables a b agree at (what.PrintList array truth) e = stays e e _ refl
does_gives tables a b agree at (what.Export arrays names) e = stays e e _ refl

same_of : {last low : ℕ} {ran other : Ran Env ℕ} → SameUpTo executed_in last low ran other → EndsSame last ran other
same_of (went le same) = same
same_of (trapped le same) = same
same_of (spent le same) = same

pub by_number : (slots : List Slot) (p : Prog Op) (tables : List Table) (a b : List Order) (fuel last : ℕ) → AgreeUpTo last a b → EndsSame last (mean slots p tables a fuel) (mean slots p tables b fuel)
unfolding mean
by_number slots p tables a b fuel last agree =
    same_of (run_same (doing slots tables a) (λ op. does tables b op.at op.what) (record { at = λ op e. does_gives tables a b agree op.at op.what e }) p (start unset fuel))

-- ---- work

one_at_least : (slots : List Slot) (op : What) → 1 ≤ units slots op
unfolding units
one_at_least slots (what.Copy outs ins) = copy_units (has_balanced slots outs)
  where
    copy_units : (balanced : Bool) → 1 ≤ cond balanced 2 1
    copy_units true = omega arith
    copy_units false = omega arith
one_at_least slots (what.Map out ins elem) = omega arith
one_at_least slots (what.Frame outs ins) = omega arith
one_at_least slots (what.Stack out ins) = omega arith
one_at_least slots _ = omega arith

pub one_each : (slots : List Slot) (p : Prog Op) (tables : List Table) (orders : List Order) (fuel : ℕ) → EndsLike (λ e f. e ≡ f) (mean slots p tables orders fuel) (executions slots p tables orders fuel)
unfolding mean
one_each slots p tables orders fuel = run_fewer (doing slots tables orders) (λ op. 1) (λ op. one_at_least slots op.what) p (start unset fuel)

-- ---- steps in the place of operations

pub replaces : (slots : List Slot) (steps : Op → Prog Op) (tables : List Table) (orders : List Order)
    → ((op : Op) (s t : State Env ℕ) → IsLike (λ e f. e ≡ f) s t → EndsLike (λ e f. e ≡ f) (step (doing slots tables orders) op s) (run (doing slots tables orders) (steps op) t))
    → (p : Prog Op) (fuel : ℕ) → EndsLike (λ e f. e ≡ f) (mean slots p tables orders fuel) (mean slots (replaced steps p) tables orders fuel)
unfolding mean
replaces slots steps tables orders alike p fuel =
    let d : Doing Op Env = doing slots tables orders in
    run_replaced d d steps (record { words = λ e f w same. ap (λ x. x.words w) same; ops = λ op fit. alike op }) p (all_fit (operations p)) (start unset fuel) (start unset fuel) (record { env = refl; out = refl; fuel = refl; work = omega arith })
