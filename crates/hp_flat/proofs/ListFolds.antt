-- What calls come to that make or fold lists: `collect`, the folds and `vcat`; and the elements of a list.
use Rattle.std.proofs.Common.{◌≡◌, ℕ, false, codes, List, [], ◌∷◌, refl, sym, subst, arith}
use Rattle.hp_word.specs.declared.elem.Elem.TheVariants.{Input}
use Rattle.hp_word.specs.declared.fold.FoldKind.{FoldKind}
use Rattle.hp_word.specs.declared.fold.FoldKind.TheVariants as folds
use Rattle.hp_word.specs.declared.order.Order.{Order}
use Rattle.hp_word.specs.declared.table.Table.{Table}
use Rattle.hp_word.specs.Runs.{State}
use Rattle.hp_script.specs.Functions.{function_named, scalar_named, fold_named, array_named}
use Rattle.hp_script.specs.Mirror.{Head, Tree, call, index, plain, range, none}
use Rattle.hp_script.specs.Nodes.{nodes_in}
use Rattle.hp_script.specs.Shaped.{IsNumberFold, named_sum, named_prod, named_minimum, named_maximum, IsTruthFold, named_any, named_all}
use Rattle.hp_meaning.specs.declared.seen.Seen.{Seen}
use Rattle.hp_meaning.specs.ArgumentShapes.{one_range}
use Rattle.hp_meaning.specs.ListRules.{collected, concatenated, folded, indexed}
use Rattle.hp_meaning.specs.Outcomes.{tick, followed, ended}
use Rattle.hp_meaning.specs.Scopes.{Scope}
use Rattle.hp_meaning.specs.ValueOf.{value, parts, called_as, one, two, ends, index_operands}
use Rattle.hp_program.specs.Programs.{run, joined, stop}
use Rattle.hp_air.specs.declared.slot.Slot.{Slot}
use Rattle.hp_air.specs.declared.what.What.TheVariants as what
use Rattle.hp_air.specs.Unknowns.{Unknown, Columns, of_node, arrays_at}
use Rattle.hp_air.specs.Wholes.{Env}
use Rattle.hp_flat.specs.Flat.{flat, flat_among}
use Rattle.hp_flat.specs.FlatCalls.{code_of, of_array, of_arrays, call_code, named_call, index_code}
use Rattle.hp_flat.specs.Homes.{Homes, slot_of, word_at, word_of}
use Rattle.hp_flat.specs.Standing.{Stands, VarsStand, FrameStands, HasMet, ComesToValue}
use Rattle.hp_flat.proofs.ArrayCalls.{one_call, two_call}
use Rattle.hp_flat.proofs.CallMeanings.{arguments_within}
use Rattle.hp_flat.proofs.KeptHomes.{within_same, within_left, within_right, within_behind, within_first}
use Rattle.hp_flat.proofs.LastSteps.{AreApart, d}
use Rattle.hp_flat.proofs.ListMeanings.{HasArray}
use Rattle.hp_flat.proofs.ListOperations.{collect_last, fold_last, vcat_last, element_last}
use Rattle.hp_flat.proofs.WordMeanings.{g, Means, Sides, two_means, sides_within}

module _ (h : Homes) (slots : List Slot) (tables : List Table) (orders : List Order) (apart : AreApart h) where
  -- `collect(a:b)`
  pub collect_means : (around : Columns) (v : Scope) (n : Head) (x y : Tree) → HasArray h (call n (codes "collect") false (range x y none)) n.id → Sides h slots tables orders around v x y
      → Means h slots tables orders around v x → Means h slots tables orders around v y → Means h slots tables orders around v (call n (codes "collect") false (range x y none))
  unfolding value parts called_as ends function_named scalar_named fold_named array_named flat flat_among named_call call_code one_range
  collect_means around v n x y has sides first second m s vars frame met =
      two_call h slots tables orders around v x y (collected n.at) (code_of n.at (what.Range (slot_of h (of_node n.id 0)) (word_of h x) (word_of h y))) sides first second
      (λ n0 k st a b e work left_stands right_stands ready.
      collect_last h slots tables orders apart n.at n.id (arrays_at h.known x) (arrays_at h.known y) (word_of h x) (word_of h y) a b left_stands right_stands has
      (record { own = within_first; others = within_behind (within_left [] within_same) }) ready (omega arith))
      m s vars frame met

  fold_means : (kind : FoldKind) (around : Columns) (v : Scope) (n : Head) (f : List ℕ) (x : Tree) → Means h slots tables orders around v x
      → (m : Seen) (s : State Env ℕ) → VarsStand h s.env v.vars → FrameStands h s.env around v.frame → HasMet s.env m.met
      → ComesToValue h (call n f false (plain x none)) m s (followed (value (g h slots tables orders) x v (tick m)) (λ a. ended (folded kind n.at a)))
      (run (d h slots tables orders) (joined (joined (flat h around x) stop) (of_array (arrays_at h.known x) (λ array. code_of n.at (what.Reduce (word_at h n.id) kind (slot_of h array) (Input 0))))) s)
  unfolding word_at word_of
  fold_means kind around v n f x first m s vars frame met =
      one_call h slots tables orders around v x (folded kind n.at) (of_array (arrays_at h.known x) (λ array. code_of n.at (what.Reduce (word_at h n.id) kind (slot_of h array) (Input 0)))) first
      (λ n0 k st a e work stands ready.
      fold_last h slots tables orders apart kind n.at n.id (arrays_at h.known x) (word_of h x) a stands refl (record { own = within_first; others = within_behind (within_left [] within_same) }) ready (omega arith))
      m s vars frame met

  -- `sum`, `prod`, `minimum` and `maximum`
  pub number_fold_means : {f : List ℕ} (around : Columns) (v : Scope) (n : Head) (x : Tree) → IsNumberFold f → Means h slots tables orders around v x → Means h slots tables orders around v (call n f false (plain x none))
  unfolding value parts called_as one function_named scalar_named fold_named flat flat_among named_call call_code
  number_fold_means around v n x named_sum first m s vars frame met = fold_means folds.Sum around v n _ x first m s vars frame met
  number_fold_means around v n x named_prod first m s vars frame met = fold_means folds.Prod around v n _ x first m s vars frame met
  number_fold_means around v n x named_minimum first m s vars frame met = fold_means folds.Min around v n _ x first m s vars frame met
  number_fold_means around v n x named_maximum first m s vars frame met = fold_means folds.Max around v n _ x first m s vars frame met

  -- `any` and `all`
  pub truth_fold_means : {f : List ℕ} (around : Columns) (v : Scope) (n : Head) (x : Tree) → IsTruthFold f → Means h slots tables orders around v x → Means h slots tables orders around v (call n f false (plain x none))
  unfolding value parts called_as one function_named scalar_named fold_named flat flat_among named_call call_code
  truth_fold_means around v n x named_any first m s vars frame met = fold_means folds.Any around v n _ x first m s vars frame met
  truth_fold_means around v n x named_all first m s vars frame met = fold_means folds.All around v n _ x first m s vars frame met

  -- `vcat(a, b)`
  pub vcat_means : (around : Columns) (v : Scope) (n : Head) (x y : Tree) → HasArray h (call n (codes "vcat") false (plain x (plain y none))) n.id → Sides h slots tables orders around v x y
      → Means h slots tables orders around v x → Means h slots tables orders around v y → Means h slots tables orders around v (call n (codes "vcat") false (plain x (plain y none)))
  unfolding value parts called_as two function_named scalar_named fold_named array_named flat flat_among named_call call_code
  vcat_means around v n x y has sides first second m s vars frame met =
      two_call h slots tables orders around v x y (concatenated n.at) (of_arrays (arrays_at h.known x) (arrays_at h.known y) (λ a b. code_of n.at (what.Concat (slot_of h (of_node n.id 0)) (slot_of h a) (slot_of h b)))) sides first second
      (λ n0 k st a b e work left_stands right_stands ready.
      vcat_last h slots tables orders apart n.at n.id (arrays_at h.known x) (arrays_at h.known y) (word_of h x) (word_of h y) a b left_stands right_stands has
      (record { own = within_first; others = arguments_within h slots tables orders n.id (nodes_in x) (nodes_in y) }) ready (omega arith))
      m s vars frame met

  -- `a[i]`, where the index is no array
  pub element_means : (around : Columns) (v : Scope) (n : Head) (x i : Tree) → arrays_at h.known i ≡ [] → Sides h slots tables orders around v x i
      → Means h slots tables orders around v x → Means h slots tables orders around v i → Means h slots tables orders around v (index n x i)
  unfolding value index_operands flat index_code word_at word_of
  element_means around v n x i bare sides first second m s vars frame met =
      two_means h slots tables orders around v x i (indexed n.at) (index_code h n x i) sides first second
      (λ n0 k st a b e work left_stands right_stands ready.
      subst (λ (us : List Unknown). ComesToValue h (index n x i) n0 st (ended (indexed n.at a b) k) (run (d h slots tables orders) (of_array (arrays_at h.known x) (λ array. elim us [
        | [] ↦ code_of n.at (what.At (word_at h n.id) (slot_of h array) (word_of h i))
        | (k ∷ _) ↦ code_of n.at (what.Pick (slot_of h (of_node n.id 0)) (slot_of h array) (slot_of h k))
      ])) (record st { env = e; seen = work }))) (sym bare)
      (element_last h slots tables orders apart n.at n.id (arrays_at h.known x) (word_of h x) (word_of h i) a b left_stands (subst (λ (us : List Unknown). Stands h e us (word_of h i) b) bare right_stands) refl
      (record { own = within_right (nodes_in x) within_first; others = sides_within h slots tables orders n.id (nodes_in x) (nodes_in i) }) ready (omega arith)))
      m s vars frame met
