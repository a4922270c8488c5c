-- Statements run the same under two lists of orders, as long as they agree, and execute few joins and aggregates.
use Rattle.std.proofs.Common.{◌≡◌, ℕ, zero, suc, ◌≤◌, eqb, Bool, true, false, ◌&&◌, cond, List, ℤ, Option, Some, None, refl, ap, ◌∙◌, arith}
use Rattle.hp_word.specs.declared.place.Trap.{Trap}
use Rattle.hp_word.specs.Words.{is_true}
use Rattle.hp_script.specs.Mirror.{Tree, Block, done, assign, print, export, choose, loop}
use Rattle.hp_meaning.specs.declared.seen.Seen.{Seen}
use Rattle.hp_meaning.specs.declared.value.Value.{Value}
use Rattle.hp_meaning.specs.Operands.{as_truth}
use Rattle.hp_meaning.specs.OrderLaws.{joins_none_in, joins_none}
use Rattle.hp_meaning.specs.Outcomes.{tick, Outcome}
use Rattle.hp_meaning.specs.Printouts.{printout, export_text}
use Rattle.hp_meaning.specs.Run.{State, Ran, begun, using_value, written, branch, decided, in_turn, evaluated, run}
use Rattle.hp_word.specs.Runs.{Went, Trapped, Spent, Mistaken, turned, behind, turn, turns}
use Rattle.hp_meaning.specs.Scopes.{outside}
use Rattle.hp_meaning.specs.ValueOf.{Meaning, value}
use Rattle.hp_meaning.proofs.Executing.{Steps, stays, steps_both, steps_ticked}
use Rattle.hp_meaning.proofs.OrdersAlike.{Twins, left, right, Alike, is, stops, wrong}
use Rattle.hp_meaning.proofs.OrdersCalls.{Same}
use Rattle.hp_meaning.proofs.OrdersTrees.{FreeAs, free_left, free_right, tree_alike}

-- ---- runs

-- After what was seen the first run executes few joins and aggregates, and the second comes to the same where they are
-- not more than those on which the orders agree.
pub data RunsAlike (t : Twins) (n : Seen) : Ran → Ran → Type 0 where
  went : {s : State} {q : Ran} → Steps t.free 0 n s.seen → (s.seen.met.executed ≤ t.last → q ≡ Went s) → RunsAlike t n (Went s) q
  trapped : {x : Trap} {s : State} {q : Ran} → Steps t.free 0 n s.seen → (s.seen.met.executed ≤ t.last → q ≡ Trapped x s) → RunsAlike t n (Trapped x s) q
  spent : {s : State} {q : Ran} → Steps t.free 0 n s.seen → (s.seen.met.executed ≤ t.last → q ≡ Spent s) → RunsAlike t n (Spent s) q
  mistaken : {q : Ran} → RunsAlike t n Mistaken q

-- what runs alike from a point on runs alike from an earlier point
run_earlier : {t : Twins} {n m : Seen} {r p q : Ran} → Steps t.free 0 n m → (m.met.executed ≤ t.last → p ≡ q) → RunsAlike t m r q → RunsAlike t n r p
run_earlier s same (went u e) = went (steps_both s u) (λ h. same (omega (arith, u.grows, h)) ∙ e h)
run_earlier s same (trapped u e) = trapped (steps_both s u) (λ h. same (omega (arith, u.grows, h)) ∙ e h)
run_earlier s same (spent u e) = spent (steps_both s u) (λ h. same (omega (arith, u.grows, h)) ∙ e h)
run_earlier s same mistaken = mistaken

-- a statement or a turn begins with its tick
run_ticked : {t : Twins} {n : Seen} {r q : Ran} → RunsAlike t (tick n) r q → RunsAlike t n r q
run_ticked {t = t} {n = n} h = run_earlier (steps_ticked (stays t.free 1 (tick n))) (λ e. refl) h

went_there : {t : Twins} (s : State) → RunsAlike t s.seen (Went s) (Went s)
went_there {t = t} s = went (stays t.free 0 s.seen) (λ h. refl)

behind_alike : {t : Twins} {n : Seen} {r q : Ran} (f g : State → Ran) → RunsAlike t n r q → ((s : State) → RunsAlike t s.seen (f s) (g s)) → RunsAlike t n (behind r f) (behind q g)
behind_alike f g (went {s = s} u e) next = run_earlier u (λ h. ap (λ r. behind r g) (e h)) (next s)
behind_alike f g (trapped u e) next = trapped u (λ h. ap (λ r. behind r g) (e h))
behind_alike f g (spent u e) next = spent u (λ h. ap (λ r. behind r g) (e h))
behind_alike f g mistaken next = mistaken

using_alike : {t : Twins} {n : Seen} {o p : Outcome Value} (s : State) (f g : Value → State → Ran) → Alike t 0 n Value o p
    → ((a : Value) (m : Seen) → RunsAlike t m (f a (record s { seen = m })) (g a (record s { seen = m }))) → RunsAlike t n (using_value s o f) (using_value s p g)
using_alike s f g (is {a = a} {m = m} u e) next = run_earlier u (λ h. ap (λ o. using_value s o g) (e h)) (next a m)
using_alike s f g (stops u e) next = trapped u (λ h. ap (λ o. using_value s o g) (e h))
using_alike s f g wrong next = mistaken

runs_if : {t : Twins} {n : Seen} (holds : Bool) {a b c d : Ran} → RunsAlike t n a b → RunsAlike t n c d → RunsAlike t n (cond holds a c) (cond holds b d)
runs_if true h k = h
runs_if false h k = k

-- ---- statements

written_alike : {t : Twins} (bytes : Option (List ℕ)) (s : State) → RunsAlike t s.seen (written bytes s) (written bytes s)
written_alike (Some bytes) s = went_there _
written_alike None s = mistaken

-- two runs from each state on
abbrev pub RunSame : Twins → (f g : State → Ran) → Type 0
RunSame t f g = (s : State) → RunsAlike t s.seen (f s) (g s)

truth_alike : {t : Twins} (found : Option ℤ) (f g k l : State → Ran) (s : State) → RunSame t f g → RunSame t k l
    → RunsAlike t s.seen (elim found as (λ _. Ran) [ None ↦ Mistaken | Some x ↦ cond (is_true x) (f s) (k s) ]) (elim found as (λ _. Ran) [ None ↦ Mistaken | Some x ↦ cond (is_true x) (g s) (l s) ])
truth_alike None f g k l s first second = mistaken
truth_alike (Some x) f g k l s first second = runs_if (is_true x) (first s) (second s)

branch_alike : {t : Twins} (a : Value) (f g k l : State → Ran) (s : State) → RunSame t f g → RunSame t k l → RunsAlike t s.seen (branch a f k s) (branch a g l s)
branch_alike a f g k l s first second = truth_alike (as_truth a) f g k l s first second

spent_there : {t : Twins} (s : State) → RunsAlike t s.seen (Spent s) (Spent s)
spent_there {t = t} s = spent (stays t.free 0 s.seen) (λ h. refl)

turn_alike : {t : Twins} (f g k l : State → Ran) → RunSame t f g → RunSame t k l → RunSame t (turn (in_turn f) k) (turn (in_turn g) l)
turn_alike f g k l body more s = runs_if (eqb s.fuel 0) (spent_there s) (run_ticked (behind_alike k l (body (begun (turned s))) more))

turns_alike : {t : Twins} (count : ℕ) (m k : Meaning) (f g : State → Ran) → Same t m k → RunSame t f g → RunSame t (turns count (decided m) (in_turn f)) (turns count (decided k) (in_turn g))
unfolding turns
turns_alike zero m k f g test body s = spent_there s
turns_alike (suc count) m k f g test body s =
    using_alike s _ _ (test.alike (outside s.env) s.seen) (λ a n. branch_alike a _ _ _ _ (record s { seen = n })
    (turn_alike f g (turns count (decided m) (in_turn f)) (turns count (decided k) (in_turn g)) body (turns_alike count m k f g test body))
    (λ s. went_there s))

evaluated_alike : (t : Twins) (x : Tree) (s : State) (f g : Value → State → Ran) → FreeAs t (joins_none_in x)
    → ((a : Value) (s : State) → RunsAlike t s.seen (f a s) (g a s)) → RunsAlike t s.seen (evaluated (left t) (value (left t) x) s f) (evaluated (right t) (value (right t) x) s g)
evaluated_alike t x s f g free next =
    run_ticked (using_alike (begun s) f g (tree_alike t x (outside s.env) (tick s.seen) free) (λ a n. next a (record s { seen = n })))

-- ---- blocks

pub block_alike : (t : Twins) (b : Block) → FreeAs t (joins_none b) → RunSame t (run (left t) b) (run (right t) b)
unfolding run joins_none
block_alike t done free s = went_there s
block_alike t (assign at name x rest) free s =
    behind_alike _ _ (evaluated_alike t x s _ _ (free_left t (joins_none_in x) (joins_none rest) free) (λ a s. went_there _)) (block_alike t rest (free_right t (joins_none_in x) (joins_none rest) free))
block_alike t (print at x rest) free s =
    behind_alike _ _ (evaluated_alike t x s _ _ (free_left t (joins_none_in x) (joins_none rest) free) (λ a s. written_alike (printout a) s)) (block_alike t rest (free_right t (joins_none_in x) (joins_none rest) free))
block_alike t (export at x rest) free s =
    behind_alike _ _ (evaluated_alike t x s _ _ (free_left t (joins_none_in x) (joins_none rest) free) (λ a s. written_alike (export_text a) s)) (block_alike t rest (free_right t (joins_none_in x) (joins_none rest) free))
block_alike t (choose at test body other rest) free s =
    let inner = free_right t (joins_none_in test) (joins_none body && (joins_none other && joins_none rest)) free in
    let last = free_right t (joins_none body) (joins_none other && joins_none rest) inner in
    behind_alike _ _ (evaluated_alike t test s _ _ (free_left t (joins_none_in test) (joins_none body && (joins_none other && joins_none rest)) free)
    (λ a s. branch_alike a _ _ _ _ s (block_alike t body (free_left t (joins_none body) (joins_none other && joins_none rest) inner)) (block_alike t other (free_left t (joins_none other) (joins_none rest) last))))
    (block_alike t rest (free_right t (joins_none other) (joins_none rest) last))
block_alike t (loop at test body rest) free s =
    let inner = free_right t (joins_none_in test) (joins_none body && joins_none rest) free in
    behind_alike _ _ (run_ticked (turns_alike (suc s.fuel) (value (left t) test) (value (right t) test) (run (left t) body) (run (right t) body)
    (record { alike = λ v n. tree_alike t test v n (free_left t (joins_none_in test) (joins_none body && joins_none rest) free) })
    (block_alike t body (free_left t (joins_none body) (joins_none rest) inner)) (begun s)))
    (block_alike t rest (free_right t (joins_none body) (joins_none rest) inner))
