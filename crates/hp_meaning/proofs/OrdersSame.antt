-- What orders can change of a run: no more than the rows of the joins and aggregates for which they are given.
use Rattle.std.proofs.Common.{◌≡◌, ℕ, ◌≤◌, Bool, true, false, List, refl, sym, ap, arith}
use Rattle.hp_word.specs.declared.order.Order.{Order}
use Rattle.hp_word.specs.declared.table.Table.{Table}
use Rattle.hp_script.specs.Mirror.{Tree, Block}
use Rattle.hp_meaning.specs.declared.seen.Seen.{Seen}
use Rattle.hp_meaning.specs.declared.value.Value.{Value}
use Rattle.hp_meaning.specs.OrderLaws.{IsFew, EvaluatesFew, RunsFew, EndsWithFew, NameSameUpTo, EndsSame, joins_none}
use Rattle.hp_meaning.specs.Outcomes.{Outcome}
use Rattle.hp_meaning.specs.ReadCalls.{reads_of}
use Rattle.hp_word.specs.RowRules.{AgreeUpTo, order_taken, taken_of}
use Rattle.hp_meaning.specs.Run.{State, Ran, start, run, end_of, eval}
use Rattle.hp_word.specs.Runs.{Went, Trapped, Spent, Mistaken}
use Rattle.hp_meaning.specs.Scopes.{Scope}
use Rattle.hp_meaning.specs.ValueOf.{Supply, supply, value}
use Rattle.hp_meaning.proofs.Executing.{Steps}
use Rattle.hp_meaning.proofs.OrdersAlike.{Twins, Alike, is, stops, wrong}
use Rattle.hp_meaning.proofs.OrdersBlocks.{RunsAlike, went, trapped, spent, mistaken, block_alike}
use Rattle.hp_meaning.proofs.OrdersTrees.{tree_alike}

-- ---- how many are executed

-- two runs that are given all the same
abbrev twice : Supply → Twins
twice g = record { tables = g.tables; reads = g.reads; first = g.orders; second = g.orders; last = 0; agree = λ number low high plain. refl; free = false }

not_free : {A : Type 0} → false ≡ true → A
not_free e = absurd cc

few_of : {free : Bool} {n m : Seen} → Steps free 0 n m → IsFew n m
few_of s = (s.grows, omega (arith, s.few))

outcome_few : {t : Twins} {n : Seen} {o p : Outcome Value} → Alike t 0 n Value o p → EvaluatesFew n o
outcome_few (is s e) = few_of s
outcome_few (stops s e) = few_of s
outcome_few wrong = tt

-- an expression executes at most one join or aggregate for each of its ticks
pub few_evaluated : (g : Supply) (x : Tree) (s : Scope) (n : Seen) → EvaluatesFew n (value g x s n)
few_evaluated g x s n = outcome_few (tree_alike (twice g) x s n not_free)

ran_few : {t : Twins} {n : Seen} {r q : Ran} → RunsAlike t n r q → RunsFew n r
ran_few (went s e) = few_of s
ran_few (trapped s e) = few_of s
ran_few (spent s e) = few_of s
ran_few mistaken = tt

-- and so do statements
pub few_run : (g : Supply) (b : Block) (s : State) → RunsFew s.seen (run g b s)
few_run g b s = ran_few (block_alike (twice g) b not_free s)

ends_few : (fuel : ℕ) (r : Ran) → RunsFew (start fuel).seen r → EndsWithFew (end_of r)
ends_few fuel (Went s) few = omega (arith, few.1)
ends_few fuel (Trapped t s) few = omega (arith, few.1)
ends_few fuel (Spent s) few = omega (arith, few.1)
ends_few fuel Mistaken few = tt

-- a whole run has executed at most as many as its ticks
pub few_executed : (body : Block) (tables : List Table) (orders : List Order) (fuel : ℕ) → EndsWithFew (eval body tables orders fuel)
unfolding eval
few_executed body tables orders fuel = ends_few fuel _ (few_run (supply tables (reads_of body) orders) body (start fuel))

-- ---- orders that agree

-- lists that give the same orders agree
pub named_agree : (a b : List Order) (last : ℕ) → NameSameUpTo last a b → AgreeUpTo last a b
unfolding order_taken
named_agree a b last same number low high plain = ap (taken_of plain) (same number low high)

ends_same : {t : Twins} {n : Seen} {r q : Ran} → RunsAlike t n r q → EndsSame t.last (end_of r) (end_of q)
ends_same (went s e) = λ h. ap end_of (e h)
ends_same (trapped s e) = λ h. ap end_of (e h)
ends_same (spent s e) = λ h. ap end_of (e h)
ends_same mistaken = tt

abbrev given : Block → List Table → (a b : List Order) (last : ℕ) → AgreeUpTo last a b → Bool → Twins
given body tables a b last agree free = record { tables = tables; reads = reads_of body; first = a; second = b; last = last; agree = agree; free = free }

-- a run that executes no more joins and aggregates than those on which the orders agree ends in the same way by both
pub by_number : (body : Block) (tables : List Table) (a b : List Order) (fuel last : ℕ) → AgreeUpTo last a b → EndsSame last (eval body tables a fuel) (eval body tables b fuel)
unfolding eval
by_number body tables a b fuel last agree = ends_same (block_alike (given body tables a b last agree false) body not_free (start fuel))

-- ---- no joins and aggregates

-- two runs of a script that is free of them
free_runs : {t u : Twins} {n : Seen} {r q : Ran} → t.free ≡ true → u.free ≡ true → n.met.executed ≤ t.last → n.met.executed ≤ u.last → RunsAlike t n r q → RunsAlike u n q r → r ≡ q
free_runs f g low high (went s e) other = sym (e (omega (arith, low, s.still f)))
free_runs f g low high (trapped s e) other = sym (e (omega (arith, low, s.still f)))
free_runs f g low high (spent s e) other = sym (e (omega (arith, low, s.still f)))
free_runs f g low high mistaken (went s e) = e (omega (arith, high, s.still g))
free_runs f g low high mistaken (trapped s e) = e (omega (arith, high, s.still g))
free_runs f g low high mistaken (spent s e) = e (omega (arith, high, s.still g))
free_runs f g low high mistaken mistaken = refl

agree_on_none : (a b : List Order) → AgreeUpTo 0 a b
agree_on_none a b = λ number low high plain. absurd (omega (arith, low, high))

-- a script without joins and aggregates means the same under all orders
pub no_order : (body : Block) (tables : List Table) (a b : List Order) (fuel : ℕ) → joins_none body ≡ true → eval body tables a fuel ≡ eval body tables b fuel
unfolding eval
no_order body tables a b fuel none =
    ap end_of (free_runs refl refl (omega arith) (omega arith)
    (block_alike (given body tables a b 0 (agree_on_none a b) true) body (λ f. none) (start fuel))
    (block_alike (given body tables b a 0 (agree_on_none b a) true) body (λ f. none) (start fuel)))
