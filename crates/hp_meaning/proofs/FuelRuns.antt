-- What is over under less fuel is over at the same state under more, but for the fuel left.
use Rattle.std.proofs.Common.{◌≡◌, ℕ, suc, ◌+◌, cond, List, Option, Some, None, refl, ap, arith}
use Rattle.hp_word.specs.Runs.{Went, with_more, Lasts}
use Rattle.hp_word.specs.Words.{is_true}
use Rattle.hp_word.proofs.RunFuel.{Further, went, trapped, mistaken, LawfulTest, behind_further, further_if, goes_on, turns_further, lasts_of}
use Rattle.hp_script.specs.Mirror.{Block, done, assign, print, export, choose, loop}
use Rattle.hp_meaning.specs.declared.seen.Seen.{Seen}
use Rattle.hp_meaning.specs.declared.value.Kind.TheVariants.{Truth}
use Rattle.hp_meaning.specs.declared.value.Value.{Value}
use Rattle.hp_meaning.specs.declared.value.Value.TheVariants.{Word}
use Rattle.hp_meaning.specs.Outcomes.{tick, Outcome, Is, Stops, Wrong}
use Rattle.hp_meaning.specs.Printouts.{printout, export_text}
use Rattle.hp_meaning.specs.Run.{State, Ran, begun, using_value, store, written, branch, decided, in_turn, evaluated, run}
use Rattle.hp_meaning.specs.Scopes.{outside}
use Rattle.hp_meaning.specs.ValueOf.{Supply, Meaning, value}
use Rattle.hp_meaning.proofs.FuelGrowth.{decided_grows, turn_growing, run_grows, run_growing}

using_further : (more : ℕ) (s : State) (outcome : Outcome Value) (f h : Value → State → Ran) → ((a : Value) (n : Seen) → Further s.fuel more (f a (record s { seen = n })) (h a (with_more more (record s { seen = n }))))
    → Further s.fuel more (using_value s outcome f) (using_value (with_more more s) outcome h)
using_further more s (Is a n) f h next = next a n
using_further more s (Stops t n) f h next = trapped {s = record s { seen = n }} (omega arith)
using_further more s Wrong f h next = mistaken

branch_further : (more : ℕ) (a : Value) (f f2 h h2 : State → Ran) (s : State) → Further s.fuel more (f s) (h (with_more more s)) → Further s.fuel more (f2 s) (h2 (with_more more s))
    → Further s.fuel more (branch a f f2 s) (branch a h h2 (with_more more s))
branch_further more (Word Truth x) f f2 h h2 s p q = further_if (is_true x) p q
branch_further more _ f f2 h h2 s p q = mistaken

written_further : (more : ℕ) (bytes : Option (List ℕ)) (s : State) → Further s.fuel more (written bytes s) (written bytes (with_more more s))
written_further more (Some bytes) s = went {s = record s { out = _ }} (omega arith)
written_further more None s = mistaken

-- ---- tests

using_same : (s : State) (outcome : Outcome Value) (f h : Value → State → Ran) → ((a : Value) (n : Seen) → f a (record s { seen = n }) ≡ h a (record s { seen = n })) → using_value s outcome f ≡ using_value s outcome h
using_same s (Is a n) f h same = same a n
using_same s (Stops t n) f h same = refl
using_same s Wrong f h same = refl

branch_same : (a : Value) (f h other : State → Ran) (s : State) → f s ≡ h s → branch a f other s ≡ branch a h other s
branch_same (Word Truth x) f h other s same = ap (λ first. cond (is_true x) first (other s)) same
branch_same _ f h other s same = refl

-- a script's test keeps the laws of fuel
pub decided_lawful : (test : Meaning) → LawfulTest (decided test)
decided_lawful test = record {
  growing = decided_grows test;
  lasts = λ more f f2 h h2 s first second. using_further more s (test (outside s.env) s.seen) (λ a. branch a f f2) (λ a. branch a h h2)
      (λ a n. branch_further more a f f2 h h2 (record s { seen = n }) (first (record s { seen = n }) (omega arith)) (second (record s { seen = n }) (omega arith)));
  same = λ f h no s each. using_same s (test (outside s.env) s.seen) (λ a. branch a f no) (λ a. branch a h no) (λ a n. branch_same a f h no (record s { seen = n }) (each (record s { seen = n }) (omega arith)));
}

-- ---- statements

evaluated_further : (g : Supply) (m : Meaning) (more : ℕ) (s : State) (f : Value → State → Ran) → ((a : Value) (t : State) → Further t.fuel more (f a t) (f a (with_more more t))) → Further s.fuel more (evaluated g m s f) (evaluated g m (with_more more s) f)
evaluated_further g m more s f each = using_further more (begun s) (m (outside s.env) (tick s.seen)) f f (λ a n. each a (record (begun s) { seen = n }))

pub run_further : (g : Supply) (b : Block) (more : ℕ) (s : State) → Further s.fuel more (run g b s) (run g b (with_more more s))
unfolding run
run_further g done more s = goes_on more s
run_further g (assign at name x rest) more s =
    behind_further (run g rest) (run g rest) (evaluated_further g (value g x) more s (λ a s. Went (store name a s)) (λ a t. went {s = store name a t} (omega arith))) (λ t le. run_further g rest more t) (λ t le. run_grows g rest t)
run_further g (print at x rest) more s =
    behind_further (run g rest) (run g rest) (evaluated_further g (value g x) more s (λ a. written (printout a)) (λ a. written_further more (printout a))) (λ t le. run_further g rest more t) (λ t le. run_grows g rest t)
run_further g (export at x rest) more s =
    behind_further (run g rest) (run g rest) (evaluated_further g (value g x) more s (λ a. written (export_text a)) (λ a. written_further more (export_text a))) (λ t le. run_further g rest more t) (λ t le. run_grows g rest t)
run_further g (choose at test body other rest) more s =
    behind_further (run g rest) (run g rest)
    (evaluated_further g (value g test) more s (λ a. branch a (run g body) (run g other))
    (λ a t. branch_further more a (run g body) (run g other) (run g body) (run g other) t (run_further g body more t) (run_further g other more t)))
    (λ t le. run_further g rest more t) (λ t le. run_grows g rest t)
run_further g (loop at test body rest) more s =
    behind_further (run g rest) (run g rest)
    (turns_further more (suc s.fuel) (suc (s.fuel + more)) (decided (value g test)) (in_turn (run g body)) (decided_lawful (value g test))
    (record { growing = turn_growing (run g body) (run_growing g body); from = λ t. run_further g body more (begun t) }) (begun s) (omega arith) (omega arith))
    (λ t le. run_further g rest more t) (λ t le. run_grows g rest t)

-- under more fuel a run of statements lasts
pub run_lasts : (g : Supply) (b : Block) (more : ℕ) (s : State) → Lasts more (run g b s) (run g b (with_more more s))
run_lasts g b more s = lasts_of (run_further g b more s)
