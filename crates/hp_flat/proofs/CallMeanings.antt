-- What calls of the functions of two numbers come to.
use Rattle.std.proofs.Common.{◌≡◌, ℕ, false, List, [], ◌∷◌, ◌++◌, refl, sym, ap, subst, ◌∙◌, arith}
use Rattle.hp_word.specs.declared.order.Order.{Order}
use Rattle.hp_word.specs.declared.table.Table.{Table}
use Rattle.hp_word.specs.Runs.{State}
use Rattle.hp_script.specs.declared.function.ScalarFunction.{ScalarFunction}
use Rattle.hp_script.specs.declared.function.ScalarFunction.TheVariants as scalar
use Rattle.hp_script.specs.Functions.{function_named, scalar_named}
use Rattle.hp_script.specs.Mirror.{Head, Tree, call, plain, none}
use Rattle.hp_script.specs.Nodes.{nodes_in}
use Rattle.hp_script.specs.Shaped.{IsScalarName, named_div, named_rem, named_min, named_max}
use Rattle.hp_meaning.specs.declared.seen.Seen.{Seen}
use Rattle.hp_meaning.specs.declared.value.Kind.TheVariants.{Number}
use Rattle.hp_meaning.specs.Outcomes.{tick, followed, ended}
use Rattle.hp_meaning.specs.ArgumentShapes.{one_plain, two_plain}
use Rattle.hp_meaning.specs.Scopes.{Scope}
use Rattle.hp_meaning.specs.ValueOf.{value, parts, called_as, two}
use Rattle.hp_meaning.specs.WordRules.{scalar_value, scalar_calc}
use Rattle.hp_program.specs.Programs.{Prog, run, joined, stop}
use Rattle.hp_program.proofs.Replaced.{joined_assoc}
use Rattle.hp_air.specs.declared.slot.Slot.{Slot}
use Rattle.hp_air.specs.declared.what.Op.{Op}
use Rattle.hp_air.specs.declared.what.What.TheVariants as what
use Rattle.hp_air.specs.Unknowns.{Columns}
use Rattle.hp_air.specs.Wholes.{Env}
use Rattle.hp_flat.specs.Flat.{flat, flat_among}
use Rattle.hp_flat.specs.FlatCalls.{code_of, call_code, named_call}
use Rattle.hp_flat.specs.Homes.{Homes, word_at, word_of}
use Rattle.hp_flat.specs.Standing.{VarsStand, FrameStands, HasMet, ComesToValue}
use Rattle.hp_flat.proofs.KeptHomes.{Within, within_same, within_left, within_right, within_both, within_behind, within_first}
use Rattle.hp_flat.proofs.LastSteps.{d}
use Rattle.hp_flat.proofs.WordMeanings.{Means, Sides, two_means, calculated_last, g}

-- the code of two arguments, and that of the call behind it
pub two_arguments : {O : Type 0} (p q last : Prog O) → joined (joined p (joined q stop)) last ≡ joined p (joined q last)
unfolding joined
two_arguments p q last = joined_assoc p (joined q stop) last ∙ ap (joined p) (joined_assoc q stop last)

module _ (h : Homes) (slots : List Slot) (tables : List Table) (orders : List Order) where
  -- the numbers of two arguments are among those of the call
  pub arguments_within : (id : ℕ) (xs ys : List ℕ) → Within (xs ++ ys) (id ∷ xs ++ (ys ++ []))
  arguments_within id xs ys = within_behind (within_both (within_left (ys ++ []) within_same) (within_right xs (within_left [] within_same)))

  scalar_means : (f : ScalarFunction) (around : Columns) (v : Scope) (n : Head) (name : List ℕ) (x y : Tree) → Sides h slots tables orders around v x y
      → Means h slots tables orders around v x → Means h slots tables orders around v y → (m : Seen) (s : State Env ℕ) → VarsStand h s.env v.vars → FrameStands h s.env around v.frame → HasMet s.env m.met
      → ComesToValue h (call n name false (plain x (plain y none))) m s
      (followed (value (g h slots tables orders) x v (tick m)) (λ a k. followed (value (g h slots tables orders) y v k) (λ b. ended (scalar_value f false n.at a b))))
      (run (d h slots tables orders) (joined (joined (flat h around x) (joined (flat h around y) stop)) (code_of n.at (what.Calc (word_at h n.id) (scalar_calc f) (word_of h x) (word_of h y)))) s)
  unfolding scalar_value word_at word_of
  scalar_means f around v n name x y sides first second m s vars frame met =
      let last = code_of n.at (what.Calc (word_at h n.id) (scalar_calc f) (word_of h x) (word_of h y)) in
      subst (λ (p : Prog Op). ComesToValue h (call n name false (plain x (plain y none))) m s
      (followed (value (g h slots tables orders) x v (tick m)) (λ a k. followed (value (g h slots tables orders) y v k) (λ b. ended (scalar_value f false n.at a b)))) (run (d h slots tables orders) p s))
      (sym (two_arguments (flat h around x) (flat h around y) last))
      (two_means h slots tables orders around v x y (scalar_value f false n.at) last sides first second
      (λ n0 k st a b e work left_stands right_stands ready.
      calculated_last h slots tables orders x y n.at n.id (scalar_calc f) Number Number a b refl within_first (arguments_within n.id (nodes_in x) (nodes_in y)) ready (omega arith) left_stands right_stands)
      m s vars frame met)

  -- `div`, `rem`, `min` and `max`
  pub scalar_call_means : {f : List ℕ} (around : Columns) (v : Scope) (n : Head) (x y : Tree) → IsScalarName f → Sides h slots tables orders around v x y
      → Means h slots tables orders around v x → Means h slots tables orders around v y → Means h slots tables orders around v (call n f false (plain x (plain y none)))
  unfolding value parts called_as two function_named scalar_named flat flat_among named_call call_code one_plain two_plain
  scalar_call_means around v n x y named_div sides first second m s vars frame met = scalar_means scalar.Div around v n _ x y sides first second m s vars frame met
  scalar_call_means around v n x y named_rem sides first second m s vars frame met = scalar_means scalar.Rem around v n _ x y sides first second m s vars frame met
  scalar_call_means around v n x y named_min sides first second m s vars frame met = scalar_means scalar.Min around v n _ x y sides first second m s vars frame met
  scalar_call_means around v n x y named_max sides first second m s vars frame met = scalar_means scalar.Max around v n _ x y sides first second m s vars frame met
