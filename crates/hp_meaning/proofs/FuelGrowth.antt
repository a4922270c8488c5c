-- Along a run of statements the output only grows, and the fuel does not rise; and a run that is out of fuel has none left.
use Rattle.std.proofs.Common.{ℕ, suc, List, Option, Some, None, refl, arith}
use Rattle.hp_word.specs.Runs.{Went, Writes}
use Rattle.hp_word.specs.Words.{is_true}
use Rattle.hp_word.proofs.RunGrowth.{front_same, Grows, mistaken, went, trapped, Growing, GrowingTest, behind_grows, grows_if, stays, turns_grow, writes_of}
use Rattle.hp_script.specs.Mirror.{Block, done, assign, print, export, choose, loop}
use Rattle.hp_meaning.specs.declared.seen.Seen.{Seen}
use Rattle.hp_meaning.specs.declared.value.Kind.TheVariants.{Truth}
use Rattle.hp_meaning.specs.declared.value.Value.{Value}
use Rattle.hp_meaning.specs.declared.value.Value.TheVariants.{Word}
use Rattle.hp_meaning.specs.Outcomes.{tick, Outcome, Is, Stops, Wrong}
use Rattle.hp_meaning.specs.Printouts.{printout, export_text}
use Rattle.hp_meaning.specs.Run.{State, Ran, begun, using_value, store, written, branch, decided, in_turn, evaluated, run}
use Rattle.hp_meaning.specs.Scopes.{outside}
use Rattle.hp_meaning.specs.ValueOf.{Supply, Meaning, value}

using_grows : (s : State) (outcome : Outcome Value) (more : Value → State → Ran) → ((a : Value) (n : Seen) → Grows s.out s.fuel (more a (record s { seen = n }))) → Grows s.out s.fuel (using_value s outcome more)
using_grows s (Is a n) more next = next a n
using_grows s (Stops t n) more next = trapped (front_same s.out) (omega arith)
using_grows s Wrong more next = mistaken

branch_grows : {out : List ℕ} {fuel : ℕ} (a : Value) (first second : State → Ran) (s : State) → Grows out fuel (first s) → Grows out fuel (second s) → Grows out fuel (branch a first second s)
branch_grows (Word Truth x) first second s p q = grows_if (is_true x) p q
branch_grows _ first second s p q = mistaken

written_grows : (bytes : Option (List ℕ)) (s : State) → Grows s.out s.fuel (written bytes s)
written_grows (Some bytes) s = went (bytes, refl) (omega arith)
written_grows None s = mistaken

-- ---- tests and turns

pub decided_grows : (test : Meaning) → GrowingTest (decided test)
decided_grows test = record {
  from = λ yes no s first second. using_grows s (test (outside s.env) s.seen) (λ a. branch a yes no)
      (λ a n. branch_grows a yes no (record s { seen = n }) (first (record s { seen = n }) (omega arith)) (second (record s { seen = n }) (omega arith)));
}

pub turn_growing : (body : State → Ran) → Growing body → Growing (in_turn body)
turn_growing body growing = record { from = λ s. growing.from (begun s) }

-- ---- statements

evaluated_grows : (g : Supply) (m : Meaning) (s : State) (more : Value → State → Ran) → ((a : Value) (t : State) → Grows t.out t.fuel (more a t)) → Grows s.out s.fuel (evaluated g m s more)
evaluated_grows g m s more each = using_grows (begun s) (m (outside s.env) (tick s.seen)) more (λ a n. each a (record (begun s) { seen = n }))

pub run_grows : (g : Supply) (b : Block) (s : State) → Grows s.out s.fuel (run g b s)
unfolding run
run_grows g done s = stays s
run_grows g (assign at name x rest) s =
    behind_grows (run g rest) (evaluated_grows g (value g x) s (λ a s. Went (store name a s)) (λ a t. stays (store name a t))) (λ t le. run_grows g rest t)
run_grows g (print at x rest) s = behind_grows (run g rest) (evaluated_grows g (value g x) s (λ a. written (printout a)) (λ a. written_grows (printout a))) (λ t le. run_grows g rest t)
run_grows g (export at x rest) s = behind_grows (run g rest) (evaluated_grows g (value g x) s (λ a. written (export_text a)) (λ a. written_grows (export_text a))) (λ t le. run_grows g rest t)
run_grows g (choose at test body other rest) s =
    behind_grows (run g rest)
    (evaluated_grows g (value g test) s (λ a. branch a (run g body) (run g other)) (λ a t. branch_grows a (run g body) (run g other) t (run_grows g body t) (run_grows g other t)))
    (λ t le. run_grows g rest t)
run_grows g (loop at test body rest) s =
    behind_grows (run g rest) (turns_grow (suc s.fuel) (decided (value g test)) (in_turn (run g body)) (decided_grows (value g test)) (turn_growing (run g body) (record { from = run_grows g body })) (begun s) (omega arith)) (λ t le. run_grows g rest t)

-- what a run of statements has written stays at the front
pub run_writes : (g : Supply) (b : Block) (s : State) → Writes s.out (run g b s)
run_writes g b s = writes_of (run_grows g b s)

pub run_growing : (g : Supply) (b : Block) → Growing (run g b)
run_growing g b = record { from = run_grows g b }
