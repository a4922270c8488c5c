-- What dotted operators and dotted calls come to: operators and functions element by element, on two arrays or on an array
-- and a word.
use Rattle.std.proofs.Common.{◌≡◌, ℕ, ◌≤◌, ℤ, Bool, true, false, if◌then◌else◌, List, ◌++◌, length, Option, Some, None, refl, sym, ap, ap₂, subst, ◌∙◌, arith}
use Rattle.hp_word.specs.declared.order.Order.{Order}
use Rattle.hp_word.specs.declared.place.Place.{Place}
use Rattle.hp_word.specs.declared.table.Table.{Table}
use Rattle.hp_word.specs.declared.word.CalcOp.{CalcOp}
use Rattle.hp_word.specs.Runs.{State}
use Rattle.hp_script.specs.declared.function.ScalarFunction.{ScalarFunction}
use Rattle.hp_script.specs.declared.function.ScalarFunction.TheVariants as scalar
use Rattle.hp_script.specs.declared.tree.BinOp.{BinOp}
use Rattle.hp_script.specs.declared.typed.Shape.{Shape}
use Rattle.hp_script.specs.declared.typed.Shape.TheVariants as shape
use Rattle.hp_script.specs.Functions.{function_named, scalar_named}
use Rattle.hp_script.specs.Mirror.{Head, Tree, binary, call, plain, none}
use Rattle.hp_script.specs.Nodes.{nodes_in}
use Rattle.hp_script.specs.Shaped.{AreSpread, two_arrays, array_and_element, element_and_array, IsArithmetic, addition, subtraction, multiplication, IsComparison, equal, not_equal, less, at_most, greater, at_least, IsMask, mask_conjunction, mask_disjunction, IsScalarName, named_div, named_rem, named_min, named_max}
use Rattle.hp_meaning.specs.declared.seen.Seen.{Seen}
use Rattle.hp_meaning.specs.declared.value.Kind.{Kind}
use Rattle.hp_meaning.specs.declared.value.Kind.TheVariants.{Number, Truth}
use Rattle.hp_meaning.specs.declared.value.Value.{Value}
use Rattle.hp_meaning.specs.declared.value.Value.TheVariants.{Word, List as Listed}
use Rattle.hp_meaning.specs.Fitting.{HasShape as IsOf, a_number, a_truth, numbers, truths}
use Rattle.hp_meaning.specs.Operands.{Cells, One, Many, as_cells}
use Rattle.hp_meaning.specs.Outcomes.{Answer, Refuses, Outcome, Wrong, followed, ended, tick}
use Rattle.hp_meaning.specs.ArgumentShapes.{one_plain, two_plain}
use Rattle.hp_meaning.specs.Scopes.{Scope}
use Rattle.hp_meaning.specs.ValueOf.{Meaning, value, parts, called_as, two, is_product, flipped, operated, strict_operands, lazy_operands, operator_value}
use Rattle.hp_meaning.specs.WordRules.{is_lazy, calc_of, operands_of, result_of, scalar_calc, elementwise, dotted_value, scalar_value}
use Rattle.hp_program.specs.Programs.{Prog, run, joined, stop}
use Rattle.hp_air.specs.declared.slot.Slot.{Slot}
use Rattle.hp_air.specs.declared.what.Op.{Op}
use Rattle.hp_air.specs.declared.what.What.TheVariants as what
use Rattle.hp_air.specs.Meaning.{does, units, mapped}
use Rattle.hp_air.specs.Unknowns.{Unknown, Columns, arrays_at, number_of, shape_at, width}
use Rattle.hp_air.specs.Wholes.{Env, lists_at}
use Rattle.hp_flat.specs.Elements.{dotted_elem}
use Rattle.hp_flat.specs.Flat.{flat, flat_among}
use Rattle.hp_flat.specs.FlatCalls.{out_of, dotted_code, binary_code, named_call}
use Rattle.hp_flat.specs.Homes.{Homes, slots_of}
use Rattle.hp_flat.specs.Standing.{VarsStand, FrameStands, HasMet, ComesToValue}
use Rattle.hp_flat.proofs.CallMeanings.{two_arguments, arguments_within}
use Rattle.hp_flat.proofs.ElementOperands.{HaveMany, two_many, first_many, second_many, IsOperand, word_operand, array_operand, elementwise_is}
use Rattle.hp_flat.proofs.KeptHomes.{within_right, within_first, word_stands}
use Rattle.hp_flat.proofs.LastSteps.{AreApart, d, array_step}
use Rattle.hp_flat.proofs.ListMeanings.{HasArray, IsOwn}
use Rattle.hp_flat.proofs.LoopMeanings.{array_at}
use Rattle.hp_flat.proofs.OperandRuns.{StandsAt, Ready}
use Rattle.hp_flat.proofs.RowCalls.{no_arrays}
use Rattle.hp_flat.proofs.WordMeanings.{g, Means, Sides, sides_within, Yields, known_means}

-- ---- operands and their types

-- how the two values of a dotted construct stand
pub record IsSpread (h : Homes) (e : Env) (kind : Kind) (x y : Tree) (v w : Value) : Type 0 where
  pub one : Cells
  pub other : Cells
  pub left_is : as_cells kind v ≡ Some one
  pub right_is : as_cells kind w ≡ Some other
  pub many : HaveMany one other
  pub first : IsOperand h e x one
  pub second : IsOperand h e y other

-- at most one array each
few_slots : (h : Homes) (e : Env) (x y : Tree) {a b : Cells} → IsOperand h e x a → IsOperand h e y b → length (slots_of h (arrays_at h.known x ++ arrays_at h.known y)) ≤ 2
few_slots h e x y first second = of_both first second
  where
    many : {us vs : List Unknown} (k : ℕ) → arrays_at h.known x ≡ us → arrays_at h.known y ≡ vs → length (slots_of h (us ++ vs)) ≡ k → k ≤ 2 → length (slots_of h (arrays_at h.known x ++ arrays_at h.known y)) ≤ 2
    many k left right is few = let all : length (slots_of h (arrays_at h.known x ++ arrays_at h.known y)) ≡ k = ap₂ (λ (us vs : List Unknown). length (slots_of h (us ++ vs))) left right ∙ is in omega (arith, all, few)

    of_both : {a b : Cells} → IsOperand h e x a → IsOperand h e y b → length (slots_of h (arrays_at h.known x ++ arrays_at h.known y)) ≤ 2
    of_both (word_operand left is) (word_operand right other) = many 0 left right refl (omega arith)
    of_both (word_operand left is) (array_operand u right other) = many 1 left right refl (omega arith)
    of_both (array_operand u left is) (word_operand right other) = many 1 left right refl (omega arith)
    of_both (array_operand u left is) (array_operand v right other) = many 2 left right refl (omega arith)

module _ (h : Homes) (e : Env) where
  word_one : {kind : Kind} {z : ℤ} (x : Tree) (a : Shape) → shape_at h.known (number_of x) ≡ Some a → width (Some a) ≡ 0 → StandsAt h e x (Word kind z) → IsOperand h e x (One z)
  word_one x a told bare stands = word_operand (no_arrays h.known x a told bare) (word_stands h stands)

  array_one : {kind : Kind} {xs : List ℤ} (x : Tree) → StandsAt h e x (Listed kind xs) → IsOperand h e x (Many xs)
  array_one x stands = let at = array_at stands in array_operand at.array at.only at.is

  numbers_spread : {one other : Shape} (x y : Tree) (v w : Value) → AreSpread shape.Int shape.Ints one other → shape_at h.known (number_of x) ≡ Some one → shape_at h.known (number_of y) ≡ Some other
      → IsOf one v → IsOf other w → StandsAt h e x v → StandsAt h e y w → IsSpread h e Number x y v w
  numbers_spread x y _ _ two_arrays told also (numbers xs) (numbers ys) stands stand = record { one = Many xs; other = Many ys; left_is = refl; right_is = refl; many = two_many; first = array_one x stands; second = array_one y stand }
  numbers_spread x y _ _ array_and_element told also (numbers xs) (a_number z) stands stand = record { one = Many xs; other = One z; left_is = refl; right_is = refl; many = first_many; first = array_one x stands; second = word_one y shape.Int also refl stand }
  numbers_spread x y _ _ element_and_array told also (a_number z) (numbers ys) stands stand = record { one = One z; other = Many ys; left_is = refl; right_is = refl; many = second_many; first = word_one x shape.Int told refl stands; second = array_one y stand }

  truths_spread : {one other : Shape} (x y : Tree) (v w : Value) → AreSpread shape.Bool shape.Bools one other → shape_at h.known (number_of x) ≡ Some one → shape_at h.known (number_of y) ≡ Some other
      → IsOf one v → IsOf other w → StandsAt h e x v → StandsAt h e y w → IsSpread h e Truth x y v w
  truths_spread x y _ _ two_arrays told also (truths xs are) (truths ys also_are) stands stand = record { one = Many xs; other = Many ys; left_is = refl; right_is = refl; many = two_many; first = array_one x stands; second = array_one y stand }
  truths_spread x y _ _ array_and_element told also (truths xs are) (a_truth z is) stands stand = record { one = Many xs; other = One z; left_is = refl; right_is = refl; many = first_many; first = array_one x stands; second = word_one y shape.Bool also refl stand }
  truths_spread x y _ _ element_and_array told also (a_truth z is) (truths ys are) stands stand = record { one = One z; other = Many ys; left_is = refl; right_is = refl; many = second_many; first = word_one x shape.Bool told refl stands; second = array_one y stand }

module _ (h : Homes) (slots : List Slot) (tables : List Table) (orders : List Order) (apart : AreApart h) where
  -- ---- the operation

  spread_last : {z : Tree} {nodes : List ℕ} {n m : Seen} {s : State Env ℕ} {e : Env} {work : ℕ} (c : Head) (op : CalcOp) (operands result : Kind) (x y : Tree) (a b : Value) → IsSpread h e operands x y a b
      → HasArray h z c.id → IsOwn h z c.id nodes → Ready h nodes n s m e work 24
      → ComesToValue h z n s (ended (elementwise c.at op operands result a b) m) (run (d h slots tables orders) (dotted_code h c (dotted_elem h c.at op x y) x y) (record s { env = e; seen = work }))
  unfolding dotted_code does units
  spread_last {z = z} {n = n} {m = m} {s = s} {e = e} {work = work} c op operands result x y a b spread has is_own ready =
      let w = what.Map (out_of h c) (slots_of h (arrays_at h.known x ++ arrays_at h.known y)) (dotted_elem h c.at op x y) in
      let few = few_slots h e x y spread.first spread.second in
      subst (λ (answer : Answer Value). ComesToValue h z n s (ended answer m) (run (d h slots tables orders) (dotted_code h c (dotted_elem h c.at op x y) x y) (record s { env = e; seen = work })))
      (sym (elementwise_is h e c.at op operands result a b spread.left_is spread.right_is spread.many spread.first spread.second))
      (array_step h slots tables orders apart c.at w c.id result (mapped c.at e.words (lists_at e (slots_of h (arrays_at h.known x ++ arrays_at h.known y))) (dotted_elem h c.at op x y))
      has.home has.among is_own.own is_own.others ready (omega (arith, few)) refl)

  -- ---- operators

  -- what a dotted operator means that is not lazy
  dotted_mean : (at : Place) (op : BinOp) (first second : Meaning) (turned : Option Meaning) (v : Scope) (n : Seen) → turned ≡ None → is_lazy op ≡ false
      → operated at op true first second turned v n ≡ strict_operands at op true first second v n
  unfolding operated
  dotted_mean at op first second None v n unturned strict = ap (λ (b : Bool). if b then (if true then Wrong else lazy_operands op first second v n) else strict_operands at op true first second v n) strict
  dotted_mean at op first second (Some turned) v n unturned strict = absurd cc

  dotted_answer : (at : Place) (op : BinOp) (a b : Value) → is_lazy op ≡ false → elementwise at (calc_of op) (operands_of op) (result_of op) a b ≡ operator_value at op true a b
  unfolding operator_value dotted_value
  dotted_answer at op a b strict = sym (ap (λ (lazy : Bool). if lazy then Refuses else elementwise at (calc_of op) (operands_of op) (result_of op) a b) strict)

  -- the values of two operands of a dotted construct, by their types
  abbrev pub SpreadBy : Kind → (x y : Tree) (one other : Shape) → Type 0
  SpreadBy kind x y one other = (e : Env) (a b : Value) → IsOf one a → IsOf other b → StandsAt h e x a → StandsAt h e y b → IsSpread h e kind x y a b

  dotted_means : (around : Columns) (v : Scope) (n : Head) (op : BinOp) (x y : Tree) (one other : Shape) → is_lazy op ≡ false → is_product op true ≡ false → SpreadBy (operands_of op) x y one other → HasArray h (binary n op true x y) n.id
      → Sides h slots tables orders around v x y → Means h slots tables orders around v x → Means h slots tables orders around v y → Yields h slots tables orders (IsOf one) v x → Yields h slots tables orders (IsOf other) v y
      → Means h slots tables orders around v (binary n op true x y)
  unfolding value flat strict_operands binary_code
  dotted_means around v n op x y one other strict whole spread has sides first second gives also m s vars frame met =
      let turned = if is_product op true then flipped (g h slots tables orders) y else None in
      let unturned : turned ≡ None = ap (λ (b : Bool). if b then flipped (g h slots tables orders) y else None) whole in
      let last = dotted_code h n (dotted_elem h n.at (calc_of op) x y) x y in
      subst (λ (o : Outcome Value). ComesToValue h (binary n op true x y) m s o (run (d h slots tables orders) (joined (flat h around x) (joined (flat h around y) last)) s))
      (sym (dotted_mean n.at op (value (g h slots tables orders) x) (value (g h slots tables orders) y) turned v (tick m) unturned strict))
      (known_means h slots tables orders (IsOf one) (IsOf other) around v x y (λ a b. ended (operator_value n.at op true a b)) last sides gives also first second
      (λ n0 k st a b e work is is_other stands stand ready.
      subst (λ (answer : Answer Value). ComesToValue h (binary n op true x y) n0 st (ended answer k) (run (d h slots tables orders) last (record st { env = e; seen = work })))
      (dotted_answer n.at op a b strict)
      (spread_last n (calc_of op) (operands_of op) (result_of op) x y a b (spread e a b is is_other stands stand) has
      (record { own = within_right (nodes_in x) within_first; others = sides_within h slots tables orders n.id (nodes_in x) (nodes_in y) }) ready))
      m s vars frame met)

  module _ (around : Columns) (v : Scope) (n : Head) (x y : Tree) {one other : Shape} (told : shape_at h.known (number_of x) ≡ Some one) (told_other : shape_at h.known (number_of y) ≡ Some other)
      (sides : Sides h slots tables orders around v x y) (first : Means h slots tables orders around v x) (second : Means h slots tables orders around v y)
      (gives : Yields h slots tables orders (IsOf one) v x) (also : Yields h slots tables orders (IsOf other) v y) where
    -- `a .+ b`, `a .- b`, `a .* b`
    pub arithmetics_mean : {op : BinOp} → IsArithmetic op → AreSpread shape.Int shape.Ints one other → HasArray h (binary n op true x y) n.id → Means h slots tables orders around v (binary n op true x y)
    arithmetics_mean {op = op} addition spread has = dotted_means around v n op x y one other refl refl (λ e a b. numbers_spread h e x y a b spread told told_other) has sides first second gives also
    arithmetics_mean {op = op} subtraction spread has = dotted_means around v n op x y one other refl refl (λ e a b. numbers_spread h e x y a b spread told told_other) has sides first second gives also
    arithmetics_mean {op = op} multiplication spread has = dotted_means around v n op x y one other refl refl (λ e a b. numbers_spread h e x y a b spread told told_other) has sides first second gives also

    -- `a .== b` and the other five
    pub comparisons_mean : {op : BinOp} → IsComparison op → AreSpread shape.Int shape.Ints one other → HasArray h (binary n op true x y) n.id → Means h slots tables orders around v (binary n op true x y)
    comparisons_mean {op = op} equal spread has = dotted_means around v n op x y one other refl refl (λ e a b. numbers_spread h e x y a b spread told told_other) has sides first second gives also
    comparisons_mean {op = op} not_equal spread has = dotted_means around v n op x y one other refl refl (λ e a b. numbers_spread h e x y a b spread told told_other) has sides first second gives also
    comparisons_mean {op = op} less spread has = dotted_means around v n op x y one other refl refl (λ e a b. numbers_spread h e x y a b spread told told_other) has sides first second gives also
    comparisons_mean {op = op} at_most spread has = dotted_means around v n op x y one other refl refl (λ e a b. numbers_spread h e x y a b spread told told_other) has sides first second gives also
    comparisons_mean {op = op} greater spread has = dotted_means around v n op x y one other refl refl (λ e a b. numbers_spread h e x y a b spread told told_other) has sides first second gives also
    comparisons_mean {op = op} at_least spread has = dotted_means around v n op x y one other refl refl (λ e a b. numbers_spread h e x y a b spread told told_other) has sides first second gives also

    -- `a .& b`, `a .| b`
    pub masks_mean : {op : BinOp} → IsMask op → AreSpread shape.Bool shape.Bools one other → HasArray h (binary n op true x y) n.id → Means h slots tables orders around v (binary n op true x y)
    masks_mean {op = op} mask_conjunction spread has = dotted_means around v n op x y one other refl refl (λ e a b. truths_spread h e x y a b spread told told_other) has sides first second gives also
    masks_mean {op = op} mask_disjunction spread has = dotted_means around v n op x y one other refl refl (λ e a b. truths_spread h e x y a b spread told told_other) has sides first second gives also

    -- ---- calls

    scalars_mean : (f : ScalarFunction) (name : List ℕ) → AreSpread shape.Int shape.Ints one other → HasArray h (call n name true (plain x (plain y none))) n.id
        → (m : Seen) (s : State Env ℕ) → VarsStand h s.env v.vars → FrameStands h s.env around v.frame → HasMet s.env m.met
        → ComesToValue h (call n name true (plain x (plain y none))) m s
        (followed (value (g h slots tables orders) x v (tick m)) (λ a k. followed (value (g h slots tables orders) y v k) (λ b. ended (scalar_value f true n.at a b))))
        (run (d h slots tables orders) (joined (joined (flat h around x) (joined (flat h around y) stop)) (dotted_code h n (dotted_elem h n.at (scalar_calc f) x y) x y)) s)
    unfolding scalar_value
    scalars_mean f name spread has m s vars frame met =
        let last = dotted_code h n (dotted_elem h n.at (scalar_calc f) x y) x y in
        subst (λ (p : Prog Op). ComesToValue h (call n name true (plain x (plain y none))) m s
        (followed (value (g h slots tables orders) x v (tick m)) (λ a k. followed (value (g h slots tables orders) y v k) (λ b. ended (scalar_value f true n.at a b)))) (run (d h slots tables orders) p s))
        (sym (two_arguments (flat h around x) (flat h around y) last))
        (known_means h slots tables orders (IsOf one) (IsOf other) around v x y (λ a b. ended (scalar_value f true n.at a b)) last sides gives also first second
        (λ n0 k st a b e work is is_other stands stand ready.
        spread_last n (scalar_calc f) Number Number x y a b (numbers_spread h e x y a b spread told told_other is is_other stands stand) has
        (record { own = within_first; others = arguments_within h slots tables orders n.id (nodes_in x) (nodes_in y) }) ready)
        m s vars frame met)

    -- `div.(a, b)`, `rem.(a, b)`, `min.(a, b)`, `max.(a, b)`
    pub scalar_calls_mean : {f : List ℕ} → IsScalarName f → AreSpread shape.Int shape.Ints one other → HasArray h (call n f true (plain x (plain y none))) n.id → Means h slots tables orders around v (call n f true (plain x (plain y none)))
    unfolding value parts called_as two function_named scalar_named flat flat_among named_call one_plain two_plain
    scalar_calls_mean named_div spread has m s vars frame met = scalars_mean scalar.Div _ spread has m s vars frame met
    scalar_calls_mean named_rem spread has m s vars frame met = scalars_mean scalar.Rem _ spread has m s vars frame met
    scalar_calls_mean named_min spread has m s vars frame met = scalars_mean scalar.Min _ spread has m s vars frame met
    scalar_calls_mean named_max spread has m s vars frame met = scalars_mean scalar.Max _ spread has m s vars frame met
