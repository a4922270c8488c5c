-- What `count(a)` comes to: the sum of truth values is how many are true, where they are no more than an array may have.
use Rattle.std.proofs.Common.{◌≡◌, ℕ, suc, ◌≤◌, ◌+ℤ◌, ℤ, pos, Bool, true, false, ◌||◌, if◌then◌else◌, codes, List, [], ◌∷◌, length, Result, Ok, FitsSigned, refl, sym, ap, subst, ◌∙◌, arith}
use Rattle.std.specs.Prelude.{filter}
use Rattle.std.specs.Int.{w64}
use Rattle.std.specs.List.{list_all}
use Rattle.std.specs.Ordering.{int_eq}
use Rattle.std.proofs.lemmas.Bool.Decides.{Decides-int_eq}
use Rattle.std.proofs.lemmas.Int.{ints, int_wrap_fits}
use Rattle.std.proofs.Math.IntN.{pos-+ℤ-pos}
use Rattle.hp_word.specs.declared.elem.Elem.TheVariants.{Input}
use Rattle.hp_word.specs.declared.fold.FoldKind.TheVariants as folds
use Rattle.hp_word.specs.declared.order.Order.{Order}
use Rattle.hp_word.specs.declared.place.Place.{Place}
use Rattle.hp_word.specs.declared.place.Trap.{Trap}
use Rattle.hp_word.specs.declared.table.Table.{Table}
use Rattle.hp_word.specs.FoldLaws.{is_truth}
use Rattle.hp_word.specs.Folds.{sum_z}
use Rattle.hp_word.specs.Lengths.{longest}
use Rattle.hp_word.specs.ListRules.{folded_list}
use Rattle.hp_word.specs.Runs.{State, Ran}
use Rattle.hp_word.specs.Words.{wrap, is_true}
use Rattle.hp_script.proofs.TestLemmas.{and_left, and_right}
use Rattle.hp_script.specs.declared.typed.Shape.TheVariants as shape
use Rattle.hp_script.specs.Functions.{function_named, scalar_named, fold_named, array_named, frame_named}
use Rattle.hp_script.specs.Mirror.{Head, Tree, call, plain, none}
use Rattle.hp_script.specs.Nodes.{nodes_in}
use Rattle.hp_meaning.specs.declared.seen.Seen.{Seen}
use Rattle.hp_meaning.specs.declared.value.Kind.TheVariants.{Number}
use Rattle.hp_meaning.specs.declared.value.Value.{Value}
use Rattle.hp_meaning.specs.declared.value.Value.TheVariants.{Word}
use Rattle.hp_meaning.specs.Fitting.{HasShape as IsOf, truths}
use Rattle.hp_meaning.specs.ListRules.{counted}
use Rattle.hp_meaning.specs.Outcomes.{Is, told, tick, followed, ended}
use Rattle.hp_meaning.specs.Scopes.{Scope}
use Rattle.hp_meaning.specs.ValueOf.{value, parts, called_as, one}
use Rattle.hp_meaning.specs.WordRules.{worded}
use Rattle.hp_program.specs.Programs.{Prog, run}
use Rattle.hp_air.specs.declared.slot.Slot.{Slot}
use Rattle.hp_air.specs.declared.what.Op.{Op}
use Rattle.hp_air.specs.declared.what.What.TheVariants as what
use Rattle.hp_air.specs.Meaning.{does, units, reduced}
use Rattle.hp_air.specs.Unknowns.{Unknown, Columns, arrays_at}
use Rattle.hp_air.specs.Wholes.{Whole, Env, cells}
use Rattle.hp_flat.specs.Flat.{flat, flat_among}
use Rattle.hp_flat.specs.FlatCalls.{code_of, of_array, call_code, named_call}
use Rattle.hp_flat.specs.Homes.{Homes, slot_of, word_at, word_of}
use Rattle.hp_flat.specs.Standing.{ComesToValue}
use Rattle.hp_flat.proofs.ElementLoops.{fold_is}
use Rattle.hp_flat.proofs.KeptHomes.{within_same, within_left, within_behind, within_first}
use Rattle.hp_flat.proofs.LastSteps.{AreApart, d, word_step}
use Rattle.hp_flat.proofs.LoopMeanings.{array_at}
use Rattle.hp_flat.proofs.OperandRuns.{StandsAt, Ready, known_one, run_one}
use Rattle.hp_flat.proofs.ShortScopes.{IsShort}
use Rattle.hp_flat.proofs.WordMeanings.{g, Means, Yields}

-- ---- sums of truth values

-- a truth value is 0 or 1
zero_or_one : (P : ℤ → Type 0) (x : ℤ) → is_truth x ≡ true → P (pos 0) → P (pos 1) → P x
zero_or_one P x is zero_is one_is = either (int_eq x (pos 0)) (int_eq x (pos 1)) refl refl is
  where
    either : (a b : Bool) → int_eq x (pos 0) ≡ a → int_eq x (pos 1) ≡ b → (a || b) ≡ true → P x
    either true b first second e = subst P (sym ((Decides-int_eq x (pos 0)).0 first)) zero_is
    either false true first second e = subst P (sym ((Decides-int_eq x (pos 1)).0 second)) one_is
    either false false first second e = absurd cc

truths_summed : (xs : List ℤ) → list_all is_truth xs ≡ true → sum_z xs ≡ pos (length (filter is_true xs))
truths_summed [] are = refl
truths_summed (x ∷ xs) are =
    let rest = truths_summed xs (and_right (is_truth x) (list_all is_truth xs) are) in
    zero_or_one (λ (z : ℤ). z +ℤ sum_z xs ≡ pos (length (filter is_true (z ∷ xs)))) x (and_left (is_truth x) (list_all is_truth xs) are)
    (ap (λ (z : ℤ). pos 0 +ℤ z) rest ∙ pos-+ℤ-pos 0 (length (filter is_true xs)) ∙ ap pos (omega arith))
    (ap (λ (z : ℤ). pos 1 +ℤ z) rest ∙ pos-+ℤ-pos 1 (length (filter is_true xs)) ∙ ap pos (omega arith))

fewer : (xs : List ℤ) → length (filter is_true xs) ≤ length xs
fewer [] = omega arith
fewer (x ∷ xs) = step (is_true x) (fewer xs)
  where
    step : (b : Bool) → length (filter is_true xs) ≤ length xs → length (if b then x ∷ filter is_true xs else filter is_true xs) ≤ suc (length xs)
    step true le = omega (arith, le)
    step false le = omega (arith, le)

short_fits : (n most : ℕ) → n ≤ most → FitsSigned w64 (pos most) → FitsSigned w64 (pos n)
short_fits n most le fits = omega (arith, ints, le, fits)

longest_fits : FitsSigned w64 (pos longest)
longest_fits = omega (arith, ints)

count_folded : (at : Place) (xs : List ℤ) → list_all is_truth xs ≡ true → length xs ≤ longest → folded_list folds.Sum at xs ≡ Ok (pos (length (filter is_true xs)))
unfolding folded_list
count_folded at [] are short = ap Ok (int_wrap_fits w64 (pos 0) (omega (arith, ints)))
count_folded at (x ∷ xs) are short =
    let count = length (filter is_true (x ∷ xs)) in
    let few = fewer (x ∷ xs) in
    ap (λ (z : ℤ). Ok (wrap z)) (truths_summed (x ∷ xs) are) ∙ ap Ok (int_wrap_fits w64 (pos count) (short_fits count longest (omega (arith, few, short)) longest_fits))

-- ---- the call

abbrev IsShortTruths : Value → Type 0
IsShortTruths a = IsOf shape.Bools a × IsShort a

module _ (h : Homes) (slots : List Slot) (tables : List Table) (orders : List Order) (apart : AreApart h) where
  abbrev sum_code : Head → List Unknown → Prog Op
  sum_code n us = of_array us (λ array. code_of n.at (what.Reduce (word_at h n.id) folds.Sum (slot_of h array) (Input 0)))

  count_last : {m k : Seen} {s : State Env ℕ} {e : Env} {work : ℕ} (n : Head) (x : Tree) (a : Value) → IsShortTruths a → StandsAt h e x a → Ready h (nodes_in x) m s k e work 20
      → ComesToValue h (call n (codes "count") false (plain x none)) m s (ended (counted a) k) (run (d h slots tables orders) (sum_code n (arrays_at h.known x)) (record s { env = e; seen = work }))
  unfolding counted does units word_at word_of
  count_last {m = m} {k = k} {s = s} {e = e} {work = work} n x _ (truths xs are, short) stands ready =
      let z = call n (codes "count") false (plain x none) in
      let at = array_at stands in
      let w = what.Reduce (word_at h n.id) folds.Sum (slot_of h at.array) (Input 0) in
      let held = cells (e.slots (slot_of h at.array)) in
      let made : reduced n.at e.words folds.Sum held (Input 0) ≡ Ok (pos (length (filter is_true xs))) =
      fold_is e.words n.at folds.Sum held ∙ ap (λ (whole : Whole). folded_list folds.Sum n.at (cells whole)) at.is ∙ count_folded n.at xs are short in
      subst (λ (us : List Unknown). ComesToValue h z m s (Is (Word Number (pos (length (filter is_true xs)))) k) (run (d h slots tables orders) (sum_code n us) (record s { env = e; seen = work }))) (sym at.only)
      (subst (λ (found : Result ℤ Trap). ComesToValue h z m s (ended (worded Number (told found)) k) (run (d h slots tables orders) (code_of n.at w) (record s { env = e; seen = work }))) made
      (word_step h slots tables orders n.at w n.id Number (reduced n.at e.words folds.Sum held (Input 0)) refl within_first (within_behind (within_left [] within_same)) ready (omega arith) refl))

  pub count_means : (around : Columns) (v : Scope) (n : Head) (x : Tree) → Yields h slots tables orders (IsOf shape.Bools) v x → Yields h slots tables orders IsShort v x → Means h slots tables orders around v x
      → Means h slots tables orders around v (call n (codes "count") false (plain x none))
  unfolding value parts called_as one function_named scalar_named fold_named array_named frame_named flat flat_among named_call call_code
  count_means around v n x of short first m s vars frame met =
      let z = call n (codes "count") false (plain x none) in
      let gs = g h slots tables orders in
      subst (λ (ran : Ran Env ℕ). ComesToValue h z m s (followed (value gs x v (tick m)) (λ a. ended (counted a))) ran)
      (sym (run_one (d h slots tables orders) (flat h around x) (sum_code n (arrays_at h.known x)) s))
      (known_one h (λ a. ended (counted a)) (run (d h slots tables orders) (sum_code n (arrays_at h.known x))) (first (tick m) s vars frame met)
      (λ a k e work is stands ready. count_last n x a (of (tick m) k a is, short (tick m) k a is) stands ready))
