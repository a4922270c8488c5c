-- Operands before the operation of a construct: what they leave to it.
use Rattle.std.proofs.Common.{ap, ◌≡◌, ℕ, ◌+◌, ◌*◌, ◌≤◌, false, List, ◌++◌, refl, ◌∙◌, arith}
use Rattle.hp_word.specs.Runs.{State, Ran, Runs, behind}
use Rattle.hp_script.specs.Mirror.{Tree}
use Rattle.hp_script.specs.Nodes.{nodes_in}
use Rattle.hp_meaning.specs.declared.seen.Seen.{Seen}
use Rattle.hp_meaning.specs.declared.value.Value.{Value}
use Rattle.hp_meaning.specs.Outcomes.{Outcome, Is, followed, tick}
use Rattle.hp_program.specs.Programs.{Prog, Doing, stop, joined, run}
use Rattle.hp_program.proofs.Replaced.{run_joined, joined_assoc, same_behind}
use Rattle.hp_air.specs.Unknowns.{arrays_at, number_of}
use Rattle.hp_air.specs.Wholes.{Env}
use Rattle.hp_flat.specs.Homes.{Homes, word_of}
use Rattle.hp_flat.specs.Standing.{Stands, KeepsOthers, is_node_of, HasMet, ComesToValue, comes_to, comes_to_trap, comes_to_none}
use Rattle.hp_flat.proofs.KeptHomes.{HasWord, within_same, within_left, within_right, keeps_within, keeps_both, value_kept}

module _ (h : Homes) where
  -- the value of an expression stands in its own place
  abbrev pub StandsAt : Env → Tree → Value → Type 0
  StandsAt e x a = Stands h e (arrays_at h.known x) (word_of h x) a

  -- How far a construct has come from a state on, where n was seen: all but these expressions is kept, m is seen, and so
  -- much of the work that its ticks pay for is left.
  pub record Ready (nodes : List ℕ) (n : Seen) (s : State Env ℕ) (m : Seen) (e : Env) (work left : ℕ) : Type 0 where
    pub keeps : KeepsOthers h nodes s.env e
    pub met : HasMet e m.met
    pub paid : work + left + 16 * n.ticks ≤ s.seen + 16 * m.ticks

  -- an operand, and what is done behind it, where it is known that the value is what the operand comes to
  pub known_operand : {x z : Tree} {n m : Seen} {s : State Env ℕ} {e : Env} {work : ℕ} {outcome : Outcome Value} {ran : Ran Env ℕ} (rest : Value → Seen → Outcome Value) (code : Runs Env ℕ)
      → work + 16 * n.ticks ≤ s.seen + 16 * m.ticks
      → ComesToValue h x m (record s { env = e; seen = work }) outcome ran
      → ((a : Value) (after : Seen) (f : Env) (done : ℕ) → outcome ≡ Is a after → StandsAt f x a → KeepsOthers h (nodes_in x) e f → HasMet f after.met → done + 4 + 16 * m.ticks ≤ work + 16 * after.ticks
      → ComesToValue h z n s (rest a after) (code (record s { env = f; seen = done })))
      → ComesToValue h z n s (followed outcome rest) (behind ran code)
  known_operand rest code owed (comes_to stands keeps met paid) next = next _ _ _ _ refl stands keeps met paid
  known_operand rest code owed (comes_to_trap paid) next = comes_to_trap (omega (arith, owed, paid))
  known_operand rest code owed comes_to_none next = comes_to_none

  -- the only operand
  pub known_one : {x z : Tree} {n : Seen} {s : State Env ℕ} {outcome : Outcome Value} {ran : Ran Env ℕ} (rest : Value → Seen → Outcome Value) (code : Runs Env ℕ)
      → ComesToValue h x (tick n) s outcome ran
      → ((a : Value) (m : Seen) (e : Env) (work : ℕ) → outcome ≡ Is a m → StandsAt e x a → Ready (nodes_in x) n s m e work 20 → ComesToValue h z n s (rest a m) (code (record s { env = e; seen = work })))
      → ComesToValue h z n s (followed outcome rest) (behind ran code)
  known_one rest code first next =
      known_operand rest code (omega arith) first (λ a m e work is stands keeps met paid. next a m e work is stands (record { keeps = keeps; met = met; paid = omega (arith, paid) }))

  -- Two operands: what the second begins with, and that it keeps the value of the first.
  pub known_two : {x y z : Tree} {n : Seen} {s : State Env ℕ} {outcome : Outcome Value} {ran : Ran Env ℕ} (second : Value → Seen → Outcome Value) (code : Runs Env ℕ)
      (rest : Value → Value → Seen → Outcome Value) (last : Runs Env ℕ)
      → HasWord h x → is_node_of (nodes_in y) (number_of x) ≡ false
      → ComesToValue h x (tick n) s outcome ran
      → ((a : Value) (m : Seen) (e : Env) (work : ℕ) → outcome ≡ Is a m → StandsAt e x a → KeepsOthers h (nodes_in x) s.env e → HasMet e m.met
      → ComesToValue h y m (record s { env = e; seen = work }) (second a m) (code (record s { env = e; seen = work })))
      → ((a b : Value) (k m : Seen) (e : Env) (work : ℕ) → outcome ≡ Is a k → second a k ≡ Is b m → StandsAt e x a → StandsAt e y b → Ready (nodes_in x ++ nodes_in y) n s m e work 24
      → ComesToValue h z n s (rest a b m) (last (record s { env = e; seen = work })))
      → ComesToValue h z n s (followed outcome (λ a m. followed (second a m) (rest a))) (behind ran (λ t. behind (code t) last))
  known_two {x = x} {y = y} second code rest last has apart first then next =
      known_operand (λ a m. followed (second a m) (rest a)) (λ t. behind (code t) last) (omega arith) first
      (λ a m e work is stands keeps met paid.
      known_operand (rest a) last (omega (arith, paid)) (then a m e work is stands keeps met)
      (λ b k f done is_second stand_second keeps_more met_then paid_then.
      next a b m k f done is is_second (value_kept h x has apart keeps_more stands) stand_second
      (record {
        keeps = keeps_both h (keeps_within h (within_left (nodes_in y) within_same) keeps) (keeps_within h (within_right (nodes_in x) within_same) keeps_more);
        met = met_then;
        paid = omega (arith, paid, paid_then);
      })))

  -- ---- whatever the values are

  pub operand : {x z : Tree} {n m : Seen} {s : State Env ℕ} {e : Env} {work : ℕ} {outcome : Outcome Value} {ran : Ran Env ℕ} (rest : Value → Seen → Outcome Value) (code : Runs Env ℕ)
      → work + 16 * n.ticks ≤ s.seen + 16 * m.ticks
      → ComesToValue h x m (record s { env = e; seen = work }) outcome ran
      → ((a : Value) (after : Seen) (f : Env) (done : ℕ) → StandsAt f x a → KeepsOthers h (nodes_in x) e f → HasMet f after.met → done + 4 + 16 * m.ticks ≤ work + 16 * after.ticks
      → ComesToValue h z n s (rest a after) (code (record s { env = f; seen = done })))
      → ComesToValue h z n s (followed outcome rest) (behind ran code)
  operand rest code owed first next = known_operand rest code owed first (λ a after f done is. next a after f done)

  pub one_operand : {x z : Tree} {n : Seen} {s : State Env ℕ} {outcome : Outcome Value} {ran : Ran Env ℕ} (rest : Value → Seen → Outcome Value) (code : Runs Env ℕ)
      → ComesToValue h x (tick n) s outcome ran
      → ((a : Value) (m : Seen) (e : Env) (work : ℕ) → StandsAt e x a → Ready (nodes_in x) n s m e work 20 → ComesToValue h z n s (rest a m) (code (record s { env = e; seen = work })))
      → ComesToValue h z n s (followed outcome rest) (behind ran code)
  one_operand rest code first next = known_one rest code first (λ a m e work is. next a m e work)

-- ---- runs of joined code

-- two parts, and what is behind them
pub run_two : {Op E : Type 0} (d : Doing Op E) (p q last : Prog Op) (s : State E ℕ) → run d (joined p (joined q last)) s ≡ behind (run d p s) (λ t. behind (run d q t) (run d last))
run_two d p q last s = run_joined d p (joined q last) s ∙ same_behind (run d p s) (run d (joined q last)) (λ t. behind (run d q t) (run d last)) (λ t. run_joined d q last t)

-- the only argument of a call, and the operation behind it
pub run_one : {O E : Type 0} (d : Doing O E) (p last : Prog O) (s : State E ℕ) → run d (joined (joined p stop) last) s ≡ behind (run d p s) (run d last)
unfolding joined
run_one d p last s = ap (λ (q : Prog _). run d q s) (joined_assoc p stop last) ∙ run_joined d p last s
