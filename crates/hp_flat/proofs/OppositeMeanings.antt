-- What the opposite truth values of an array come to.
use Rattle.std.proofs.Common.{◌≡◌, ℕ, ℤ, pos, true, List, [], ◌∷◌, length, IsTrue, refl, sym, ap, subst, ◌∙◌, arith}
use Rattle.hp_word.specs.declared.elem.Elem.TheVariants as elem
use Rattle.hp_word.specs.declared.elem.Elem.TheViews as views
use Rattle.hp_word.specs.declared.order.Order.{Order}
use Rattle.hp_word.specs.declared.table.Table.{Table}
use Rattle.hp_word.specs.declared.word.CalcOp.TheVariants as calc
use Rattle.hp_word.specs.Runs.{State, Ran}
use Rattle.hp_script.specs.declared.tree.UnOp.TheVariants as unary_op
use Rattle.hp_script.specs.Mirror.{Head, Tree, unary}
use Rattle.hp_script.specs.Nodes.{nodes_in}
use Rattle.hp_meaning.specs.declared.seen.Seen.{Seen}
use Rattle.hp_meaning.specs.declared.value.Kind.TheVariants as kinds
use Rattle.hp_meaning.specs.declared.value.Value.{Value}
use Rattle.hp_meaning.specs.declared.value.Value.TheVariants.{Word, List as Listed, Matrix, Frame}
use Rattle.hp_meaning.specs.Outcomes.{Answer, Gives, told, tick, followed, ended}
use Rattle.hp_meaning.specs.Scopes.{Scope}
use Rattle.hp_meaning.specs.ValueOf.{value}
use Rattle.hp_meaning.specs.WordRules.{listed, negated, unary_value}
use Rattle.hp_program.specs.Programs.{run}
use Rattle.hp_program.proofs.Replaced.{run_joined}
use Rattle.hp_air.specs.declared.slot.Slot.{Slot}
use Rattle.hp_air.specs.declared.what.What.TheVariants as what
use Rattle.hp_air.specs.Carried.{is_among}
use Rattle.hp_air.specs.Meaning.{does, units, mapped}
use Rattle.hp_air.specs.Unknowns.{of_node, Columns, arrays_at}
use Rattle.hp_air.specs.Wholes.{Env, lists_at}
use Rattle.hp_flat.specs.Flat.{flat}
use Rattle.hp_flat.specs.FlatCalls.{ins_of, out_of, unary_code}
use Rattle.hp_flat.specs.Homes.{Homes}
use Rattle.hp_flat.specs.Standing.{ComesToValue, comes_to_none}
use Rattle.hp_flat.proofs.ElementLoops.{opposite_is}
use Rattle.hp_flat.proofs.KeptHomes.{within_same, within_behind, within_first}
use Rattle.hp_flat.proofs.LastSteps.{AreApart, d, array_step}
use Rattle.hp_flat.proofs.LoopMeanings.{array_at, list_at, one_slot}
use Rattle.hp_flat.proofs.OperandRuns.{StandsAt, Ready, one_operand}
use Rattle.hp_flat.proofs.WordMeanings.{g, Means}

module _ (h : Homes) (slots : List Slot) (tables : List Table) (orders : List Order) (apart : AreApart h) where
  nots_last : {n m : Seen} {s : State Env ℕ} {e : Env} {work : ℕ} (c : Head) (x : Tree) (b : Value) → arrays_at h.known (unary c unary_op.Not true x) ≡ of_node c.id 0 ∷ [] → IsTrue (is_among h.arrays (of_node c.id 0))
      → StandsAt h e x b → Ready h (nodes_in x) n s m e work 20
      → ComesToValue h (unary c unary_op.Not true x) n s (ended (unary_value unary_op.Not true b) m) (run (d h slots tables orders) (unary_code h c unary_op.Not true x) (record s { env = e; seen = work }))
  unfolding unary_value unary_code does units
  nots_last {n = n} {m = m} {s = s} {e = e} {work = work} c x (Listed kinds.Truth xs) home among stands ready =
      let at = array_at stands in
      let opposite = views.Calc calc.Not c.at (elem.Input 0) (elem.Number (pos 0)) in
      let made = mapped c.at e.words (lists_at e (ins_of h x)) opposite in
      let words : told made ≡ Gives (negated xs) = ap (λ (lists : List (List ℤ)). told (mapped c.at e.words lists opposite)) (list_at at) ∙ opposite_is e.words c.at xs in
      let few : length (ins_of h x) ≡ 1 = one_slot at in
      subst (λ (answer : Answer (List ℤ)). ComesToValue h (unary c unary_op.Not true x) n s (ended (listed kinds.Truth answer) m) (run (d h slots tables orders) (unary_code h c unary_op.Not true x) (record s { env = e; seen = work }))) words
      (array_step h slots tables orders apart c.at (what.Map (out_of h c) (ins_of h x) opposite) c.id kinds.Truth made home among within_first (within_behind within_same) ready (omega (arith, few)) refl)
  nots_last c x (Listed kinds.Number xs) home among stands ready = comes_to_none
  nots_last c x (Word kind z) home among stands ready = comes_to_none
  nots_last c x (Matrix grid) home among stands ready = comes_to_none
  nots_last c x (Frame columns) home among stands ready = comes_to_none

  pub nots_means : (around : Columns) (v : Scope) (c : Head) (x : Tree) → arrays_at h.known (unary c unary_op.Not true x) ≡ of_node c.id 0 ∷ [] → IsTrue (is_among h.arrays (of_node c.id 0))
      → Means h slots tables orders around v x → Means h slots tables orders around v (unary c unary_op.Not true x)
  unfolding value flat
  nots_means around v c x home among first n s vars frame met =
      subst (λ (ran : Ran Env ℕ). ComesToValue h (unary c unary_op.Not true x) n s (followed (value (g h slots tables orders) x v (tick n)) (λ a. ended (unary_value unary_op.Not true a))) ran)
      (sym (run_joined (d h slots tables orders) (flat h around x) (unary_code h c unary_op.Not true x) s))
      (one_operand h (λ a. ended (unary_value unary_op.Not true a)) (run (d h slots tables orders) (unary_code h c unary_op.Not true x)) (first (tick n) s vars frame met)
      (λ b k e work stands ready. nots_last c x b home among stands ready))
