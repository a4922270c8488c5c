-- What calls come to of one or two arrays or words: their operands, and the operation behind them.
use Rattle.std.proofs.Common.{ℕ, codes, false, List, [], ◌++◌, refl, sym, subst, arith}
use Rattle.hp_word.specs.declared.order.Order.{Order}
use Rattle.hp_word.specs.declared.table.Table.{Table}
use Rattle.hp_word.specs.Runs.{State, Ran}
use Rattle.hp_script.specs.Functions.{function_named, scalar_named, fold_named, array_named, frame_named}
use Rattle.hp_script.specs.Mirror.{Head, Tree, call, plain, none}
use Rattle.hp_script.specs.Nodes.{nodes_in}
use Rattle.hp_meaning.specs.declared.seen.Seen.{Seen}
use Rattle.hp_meaning.specs.declared.value.Value.{Value}
use Rattle.hp_meaning.specs.ArgumentShapes.{one_plain, two_plain}
use Rattle.hp_meaning.specs.ListRules.{length_value, summed, filled}
use Rattle.hp_meaning.specs.Outcomes.{Answer, tick, followed, ended}
use Rattle.hp_meaning.specs.Scopes.{Scope}
use Rattle.hp_meaning.specs.ValueOf.{value, parts, called_as, one, two}
use Rattle.hp_program.specs.Programs.{Prog, run, joined, stop}
use Rattle.hp_program.proofs.Replaced.{run_joined, joined_assoc}
use Rattle.hp_air.specs.declared.slot.Slot.{Slot}
use Rattle.hp_air.specs.declared.what.Op.{Op}
use Rattle.hp_air.specs.declared.what.What.TheVariants as what
use Rattle.hp_air.specs.Unknowns.{Columns, of_node, arrays_at}
use Rattle.hp_air.specs.Wholes.{Env}
use Rattle.hp_flat.specs.Flat.{flat, flat_among}
use Rattle.hp_flat.specs.FlatCalls.{code_of, of_array, of_first, call_code, named_call}
use Rattle.hp_flat.specs.Homes.{Homes, slot_of, word_at, word_of}
use Rattle.hp_flat.specs.Standing.{VarsStand, FrameStands, HasMet, ComesToValue}
use Rattle.hp_flat.proofs.CallMeanings.{two_arguments, arguments_within}
use Rattle.hp_flat.proofs.KeptHomes.{within_same, within_left, within_behind, within_first}
use Rattle.hp_flat.proofs.LastSteps.{AreApart, d}
use Rattle.hp_flat.proofs.ListMeanings.{HasArray, IsOwn, length_last, cumsum_last, fill_last}
use Rattle.hp_flat.proofs.OperandRuns.{StandsAt, Ready, one_operand}
use Rattle.hp_flat.proofs.WordMeanings.{Means, Sides, two_means, g}

module _ (h : Homes) (slots : List Slot) (tables : List Table) (orders : List Order) where
  -- a call of one argument
  pub one_call : {z : Tree} (around : Columns) (v : Scope) (x : Tree) (rule : Value → Answer Value) (last : Prog Op) → Means h slots tables orders around v x
      → ((n m : Seen) (s : State Env ℕ) (a : Value) (e : Env) (work : ℕ) → StandsAt h e x a → Ready h (nodes_in x) n s m e work 20 → ComesToValue h z n s (ended (rule a) m) (run (d h slots tables orders) last (record s { env = e; seen = work })))
      → (n : Seen) (s : State Env ℕ) → VarsStand h s.env v.vars → FrameStands h s.env around v.frame → HasMet s.env n.met
      → ComesToValue h z n s (followed (value (g h slots tables orders) x v (tick n)) (λ a. ended (rule a))) (run (d h slots tables orders) (joined (joined (flat h around x) stop) last) s)
  unfolding joined
  one_call {z = z} around v x rule last first next n s vars frame met =
      subst (λ (p : Prog Op). ComesToValue h z n s (followed (value (g h slots tables orders) x v (tick n)) (λ a. ended (rule a))) (run (d h slots tables orders) p s)) (sym (joined_assoc (flat h around x) stop last))
      (subst (λ (ran : Ran Env ℕ). ComesToValue h z n s (followed (value (g h slots tables orders) x v (tick n)) (λ a. ended (rule a))) ran) (sym (run_joined (d h slots tables orders) (flat h around x) last s))
      (one_operand h (λ a. ended (rule a)) (run (d h slots tables orders) last) (first (tick n) s vars frame met) (λ a m e work stands ready. next n m s a e work stands ready)))

  -- a call of two arguments
  pub two_call : {z : Tree} (around : Columns) (v : Scope) (x y : Tree) (rule : Value → Value → Answer Value) (last : Prog Op) → Sides h slots tables orders around v x y
      → Means h slots tables orders around v x → Means h slots tables orders around v y
      → ((n m : Seen) (s : State Env ℕ) (a b : Value) (e : Env) (work : ℕ) → StandsAt h e x a → StandsAt h e y b → Ready h (nodes_in x ++ nodes_in y) n s m e work 24
      → ComesToValue h z n s (ended (rule a b) m) (run (d h slots tables orders) last (record s { env = e; seen = work })))
      → (n : Seen) (s : State Env ℕ) → VarsStand h s.env v.vars → FrameStands h s.env around v.frame → HasMet s.env n.met
      → ComesToValue h z n s (followed (value (g h slots tables orders) x v (tick n)) (λ a m. followed (value (g h slots tables orders) y v m) (λ b. ended (rule a b))))
      (run (d h slots tables orders) (joined (joined (flat h around x) (joined (flat h around y) stop)) last) s)
  two_call {z = z} around v x y rule last sides first second next n s vars frame met =
      subst (λ (p : Prog Op). ComesToValue h z n s (followed (value (g h slots tables orders) x v (tick n)) (λ a m. followed (value (g h slots tables orders) y v m) (λ b. ended (rule a b)))) (run (d h slots tables orders) p s))
      (sym (two_arguments (flat h around x) (flat h around y) last))
      (two_means h slots tables orders around v x y rule last sides first second next n s vars frame met)

  one_own : (n : Head) (f : List ℕ) (x : Tree) → IsOwn h (call n f false (plain x none)) n.id (nodes_in x)
  one_own n f x = record { own = within_first; others = within_behind (within_left [] within_same) }

  module _ (apart : AreApart h) where
    -- `length(a)`
    pub length_means : (around : Columns) (v : Scope) (n : Head) (x : Tree) → Means h slots tables orders around v x → Means h slots tables orders around v (call n (codes "length") false (plain x none))
    unfolding value parts called_as one function_named scalar_named fold_named array_named frame_named flat flat_among named_call call_code word_at word_of
    length_means around v n x first m s vars frame met =
        one_call around v x length_value (of_first (arrays_at h.known x) (λ array. code_of n.at (what.Length (word_at h n.id) (slot_of h array)))) first
        (λ n0 k st a e work stands ready. length_last h slots tables orders apart n.at n.id (arrays_at h.known x) (word_of h x) a stands refl (one_own n (codes "length") x) ready (omega arith)) m s vars frame met

    -- `cumsum(a)`
    pub cumsum_means : (around : Columns) (v : Scope) (n : Head) (x : Tree) → HasArray h (call n (codes "cumsum") false (plain x none)) n.id → Means h slots tables orders around v x
        → Means h slots tables orders around v (call n (codes "cumsum") false (plain x none))
    unfolding value parts called_as one function_named scalar_named fold_named array_named frame_named flat flat_among named_call call_code
    cumsum_means around v n x has first m s vars frame met =
        one_call around v x summed (of_array (arrays_at h.known x) (λ array. code_of n.at (what.Scan (slot_of h (of_node n.id 0)) (slot_of h array)))) first
        (λ n0 k st a e work stands ready. cumsum_last h slots tables orders apart n.at n.id (arrays_at h.known x) (word_of h x) a stands has (one_own n (codes "cumsum") x) ready (omega arith)) m s vars frame met

    -- `fill(v, k)`
    pub fill_means : (around : Columns) (v : Scope) (n : Head) (x y : Tree) → HasArray h (call n (codes "fill") false (plain x (plain y none))) n.id → Sides h slots tables orders around v x y
        → Means h slots tables orders around v x → Means h slots tables orders around v y → Means h slots tables orders around v (call n (codes "fill") false (plain x (plain y none)))
    unfolding value parts called_as two function_named scalar_named fold_named array_named frame_named flat flat_among named_call call_code one_plain two_plain
    fill_means around v n x y has sides first second m s vars frame met =
        two_call around v x y (filled n.at) (code_of n.at (what.Fill (slot_of h (of_node n.id 0)) (word_of h x) (word_of h y))) sides first second
        (λ n0 k st a b e work left_stands right_stands ready.
        fill_last h slots tables orders apart n.at n.id (arrays_at h.known x) (arrays_at h.known y) (word_of h x) (word_of h y) a b left_stands right_stands has
        (record { own = within_first; others = arguments_within h slots tables orders n.id (nodes_in x) (nodes_in y) }) ready (omega arith))
        m s vars frame met
