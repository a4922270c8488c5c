-- The turns of loops, one after the other.
use Rattle.std.proofs.Common.{◌≡◌, ◌≢◌, ℕ, ◌+◌, ◌-◌, ◌<◌, ◌≤◌, Bool, true, false, if◌then◌else◌, refl, ap, sym, ◌∙◌, add-one, arith, eq-eqb}
use Rattle.std.specs.Prelude.{◌==◌}
use Rattle.std.proofs.lemmas.Bool.{eqb-true}
use Rattle.hp_word.specs.Runs.{Went, Spent, turned, behind, turn, turns}
use Rattle.hp_word.proofs.RunFuel.{turns_same}
use Rattle.hp_word.proofs.RunGrowth.{Growing, left_of, stays}
use Rattle.hp_script.specs.Mirror.{Tree}
use Rattle.hp_meaning.specs.declared.stmts.Halt.{Halt}
use Rattle.hp_meaning.specs.declared.stmts.Halt.TheVariants as halt
use Rattle.hp_meaning.specs.Run.{State, Ran, begun, decided, in_turn}
use Rattle.hp_meaning.specs.Running.{halted_at, tested}
use Rattle.hp_meaning.specs.ValueOf.{Supply, value}
use Rattle.hp_meaning.proofs.FuelGrowth.{decided_grows, turn_growing}
use Rattle.hp_meaning.proofs.FuelRuns.{decided_lawful}
use Rattle.hp_meaning.proofs.RunLemmas.{behind_went, behind_halts}

turns_tested : (g : Supply) (t : Tree) (body : State → Ran) (k : ℕ) (s : State) → turns (k + 1) (decided (value g t)) (in_turn body) s ≡ tested g t (turn (in_turn body) (turns k (decided (value g t)) (in_turn body))) Went s
unfolding turns tested
turns_tested g t body k s = ap (λ k. turns k (decided (value g t)) (in_turn body) s) (add-one k)

-- a test adds no fuel
test_fuel : (g : Supply) (t : Tree) (s now : State) (holds : Bool) → ((first second : State → Ran) → tested g t first second s ≡ (if holds then first now else second now)) → now.fuel ≤ s.fuel
unfolding tested
test_fuel g t s now true h = left_of now ((decided_grows (value g t)).from Went Went s (λ t le. stays t) (λ t le. stays t)) (h Went Went)
test_fuel g t s now false h = left_of now ((decided_grows (value g t)).from Went Went s (λ t le. stays t) (λ t le. stays t)) (h Went Went)

pub turns_stop : (g : Supply) (t : Tree) (body : State → Ran) (whole : Ran) (s now : State) (e : Halt) → whole ≡ turns (s.fuel + 1) (decided (value g t)) (in_turn body) s
    → (e ≢ halt.NoMemory → (first second : State → Ran) → tested g t first second s ≡ halted_at e now) → e ≢ halt.NoMemory → whole ≡ halted_at e now
turns_stop g t body whole s now e is h ne = is ∙ turns_tested g t body s.fuel s ∙ h ne (turn (in_turn body) (turns s.fuel (decided (value g t)) (in_turn body))) Went

pub turns_end : (g : Supply) (t : Tree) (body : State → Ran) (whole : Ran) (s now : State) (holds : Bool) → whole ≡ turns (s.fuel + 1) (decided (value g t)) (in_turn body) s
    → ((first second : State → Ran) → tested g t first second s ≡ (if holds then first now else second now)) → holds ≡ false → whole ≡ Went now
turns_end g t body whole s now holds is h false_is =
    is ∙ turns_tested g t body s.fuel s ∙ h (turn (in_turn body) (turns s.fuel (decided (value g t)) (in_turn body))) Went ∙ ap (λ b. if b then turn (in_turn body) (turns s.fuel (decided (value g t)) (in_turn body)) now else Went now) false_is

turns_on : (g : Supply) (t : Tree) (body : State → Ran) (whole : Ran) (s now : State) (holds : Bool) → whole ≡ turns (s.fuel + 1) (decided (value g t)) (in_turn body) s
    → ((first second : State → Ran) → tested g t first second s ≡ (if holds then first now else second now)) → holds ≡ true → whole ≡ turn (in_turn body) (turns s.fuel (decided (value g t)) (in_turn body)) now
turns_on g t body whole s now holds is h true_is =
    is ∙ turns_tested g t body s.fuel s ∙ h (turn (in_turn body) (turns s.fuel (decided (value g t)) (in_turn body))) Went ∙ ap (λ b. if b then turn (in_turn body) (turns s.fuel (decided (value g t)) (in_turn body)) now else Went now) true_is

turn_spent : (body more : State → Ran) (s : State) → s.fuel ≡ 0 → turn body more s ≡ Spent s
turn_spent body more s none = ap (λ b. if b then Spent s else behind (body (turned s)) more) (eq-eqb s.fuel 0 none)

pub turns_spent : (g : Supply) (t : Tree) (body : State → Ran) (whole : Ran) (s now : State) (holds : Bool) → whole ≡ turns (s.fuel + 1) (decided (value g t)) (in_turn body) s
    → ((first second : State → Ran) → tested g t first second s ≡ (if holds then first now else second now)) → holds ≡ true → now.fuel ≡ 0 → whole ≡ halted_at halt.Fuel now
unfolding halted_at
turns_spent g t body whole s now holds is h true_is none = turns_on g t body whole s now holds is h true_is ∙ turn_spent (in_turn body) (turns s.fuel (decided (value g t)) (in_turn body)) now none

no_fuel : (s : State) → true ≡ (s.fuel == 0) → s.fuel ≡ 0
no_fuel s e = eqb-true s.fuel 0 (sym e)

taken_by : (b : Bool) (body more : State → Ran) (s : State) → b ≡ (s.fuel == 0) → (s.fuel ≡ 0 → ⊥) → (if b then Spent s else behind (body (turned s)) more) ≡ behind (body (turned s)) more
taken_by true body more s e some = absurd (some (no_fuel s e))
taken_by false body more s e some = refl

turn_taken : (body more : State → Ran) (s b : State) → (s.fuel ≡ 0 → ⊥) → b ≡ begun (turned s) → turn (in_turn body) more s ≡ behind (body b) more
turn_taken body more s b some is =
    taken_by (s.fuel == 0) (in_turn body) more s refl some ∙ ap (λ (b : State). behind (body b) more) (sym is)

-- a turn that cannot begin
pub turns_unbegun : (g : Supply) (t : Tree) (body : State → Ran) (whole : Ran) (s now after : State) (holds : Bool) (e : Halt) → whole ≡ turns (s.fuel + 1) (decided (value g t)) (in_turn body) s
    → ((first second : State → Ran) → tested g t first second s ≡ (if holds then first now else second now)) → holds ≡ true
    → (e ≢ halt.NoMemory → (e ≡ halt.Fuel) × (now.fuel ≡ 0) × (after ≡ now)) → e ≢ halt.NoMemory → whole ≡ halted_at e after
turns_unbegun g t body whole s now after holds e is h true_is told ne =
    let known = told ne in
    turns_spent g t body whole s now holds is h true_is known.1 ∙ ap (λ (s : State). halted_at halt.Fuel s) (sym known.2) ∙ ap (λ (e : Halt). halted_at e after) (sym known.0)

pub turns_halt : (g : Supply) (t : Tree) (body : State → Ran) (whole : Ran) (s now b after : State) (holds : Bool) (e : Halt) → whole ≡ turns (s.fuel + 1) (decided (value g t)) (in_turn body) s
    → ((first second : State → Ran) → tested g t first second s ≡ (if holds then first now else second now)) → holds ≡ true → (now.fuel ≢ 0) × (b ≡ begun (turned now))
    → (e ≢ halt.NoMemory → body b ≡ halted_at e after) → e ≢ halt.NoMemory → whole ≡ halted_at e after
turns_halt g t body whole s now b after holds e is h true_is taken told ne =
    turns_on g t body whole s now holds is h true_is ∙ turn_taken body (turns s.fuel (decided (value g t)) (in_turn body)) now b taken.0 taken.1
    ∙ behind_halts (body b) (turns s.fuel (decided (value g t)) (in_turn body)) e after (told ne)

-- the fuel after a turn
pub fuel_left : (g : Supply) (t : Tree) (body : State → Ran) (s now b after : State) (holds : Bool) → Growing body
    → ((first second : State → Ran) → tested g t first second s ≡ (if holds then first now else second now)) → (now.fuel ≢ 0) × (b ≡ begun (turned now))
    → body b ≡ Went after → after.fuel < s.fuel
fuel_left g t body s now b after holds growing h taken went =
    let kept = test_fuel g t s now holds h in
    let less = left_of after (growing.from b) went in
    let one : b.fuel ≡ now.fuel - 1 = ap (λ (s : State). s.fuel) taken.1 in
    omega (arith, taken.0)

pub turns_more : (g : Supply) (t : Tree) (body : State → Ran) (whole : Ran) (s now b after : State) (holds : Bool) → Growing body → whole ≡ turns (s.fuel + 1) (decided (value g t)) (in_turn body) s
    → ((first second : State → Ran) → tested g t first second s ≡ (if holds then first now else second now)) → holds ≡ true → (now.fuel ≢ 0) × (b ≡ begun (turned now))
    → body b ≡ Went after → whole ≡ turns (after.fuel + 1) (decided (value g t)) (in_turn body) after
turns_more g t body whole s now b after holds growing is h true_is taken went =
    let less = fuel_left g t body s now b after holds growing h taken went in
    turns_on g t body whole s now holds is h true_is ∙ turn_taken body (turns s.fuel (decided (value g t)) (in_turn body)) now b taken.0 taken.1
    ∙ behind_went (body b) (turns s.fuel (decided (value g t)) (in_turn body)) after went
    ∙ turns_same (decided (value g t)) (in_turn body) (decided_lawful (value g t)) (turn_growing body growing) s.fuel (after.fuel + 1) after less (omega arith)
