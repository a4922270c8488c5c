-- What expressions come to whose value is a word: numbers and truth values, and operators and calls on words.
use Rattle.std.proofs.Common.{◌≡◌, ℕ, ◌≤◌, ℤ, neg_ℤ, Bool, true, false, not, cond, if◌then◌else◌, List, [], ◌∷◌, ◌++◌, Option, Some, None, Result, Ok, Err, refl, sym, ap, ap₂, subst, ◌∙◌, arith}
use Rattle.std.specs.List.{AllByRecursion}
use Rattle.hp_word.specs.declared.matrix.Matrix.{Matrix as Grid}
use Rattle.hp_word.specs.declared.order.Order.{Order}
use Rattle.hp_word.specs.declared.place.Place.{Place}
use Rattle.hp_word.specs.declared.place.TrapKind.{TrapKind}
use Rattle.hp_word.specs.declared.table.Table.{Table}
use Rattle.hp_word.specs.declared.word.CalcOp.{CalcOp}
use Rattle.hp_word.specs.declared.word.CalcOp.TheVariants as calc
use Rattle.hp_word.specs.Elem.{trapped_at}
use Rattle.hp_word.specs.Runs.{State, Ran}
use Rattle.hp_word.specs.Words.{wrap, truth, is_true, calculated}
use Rattle.hp_script.specs.declared.tree.BinOp.{BinOp}
use Rattle.hp_script.specs.declared.tree.UnOp.{UnOp}
use Rattle.hp_script.specs.declared.tree.UnOp.TheVariants as unary_op
use Rattle.hp_script.specs.Mirror.{Head, Tree, unary, binary}
use Rattle.hp_script.specs.Mirror as trees
use Rattle.hp_script.specs.Nodes.{nodes_in}
use Rattle.hp_meaning.specs.declared.seen.Seen.{Seen}
use Rattle.hp_meaning.specs.declared.value.Kind.{Kind}
use Rattle.hp_meaning.specs.declared.value.Kind.TheVariants.{Number, Truth}
use Rattle.hp_meaning.specs.declared.value.Value.{Value}
use Rattle.hp_meaning.specs.declared.value.Value.TheVariants.{Word, List as Listed, Matrix, Frame}
use Rattle.hp_meaning.specs.Operands.{is_kind, as_matrix}
use Rattle.hp_meaning.specs.MatrixRules.{multiplied}
use Rattle.hp_meaning.specs.Outcomes.{Answer, Gives, Refuses, given, answered, told, tick, Outcome, Is, followed, ended}
use Rattle.hp_meaning.specs.Scopes.{Scope}
use Rattle.hp_meaning.specs.ValueOf.{Supply, supply, Meaning, value, flipped, is_product, operated, strict_operands, lazy_operands, operator_value}
use Rattle.hp_meaning.specs.WordRules.{is_lazy, two_words, worded, calculated_at, calculated_words, unary_value, plain_value, calc_of, operands_of, result_of}
use Rattle.hp_program.specs.Programs.{Prog, run, joined}
use Rattle.hp_program.proofs.Replaced.{run_joined}
use Rattle.hp_air.specs.declared.slot.Slot.{Slot}
use Rattle.hp_air.specs.declared.what.Op.{Op}
use Rattle.hp_air.specs.declared.what.What.TheVariants as what
use Rattle.hp_air.specs.Meaning.{does, units}
use Rattle.hp_air.specs.Unknowns.{Unknown, Columns, arrays_at, number_of}
use Rattle.hp_air.specs.Wholes.{Env}
use Rattle.hp_flat.specs.Elements.{unary_calc}
use Rattle.hp_flat.specs.Flat.{flat}
use Rattle.hp_flat.specs.FlatCalls.{code_of, unary_code, binary_code, calculated_code}
use Rattle.hp_flat.specs.Homes.{Homes, word_at, word_of}
use Rattle.hp_flat.specs.Standing.{Stands, a_word, an_array, a_matrix, a_frame, VarsStand, FrameStands, is_node_of, HasMet, ComesToValue, comes_to_none}
use Rattle.hp_flat.proofs.KeptHomes.{HasWord, IsNotOf, AreOfScript, vars_kept, frame_kept, Within, within_same, within_left, within_right, within_both, within_behind, within_first, keeps_all, word_stands}
use Rattle.hp_flat.proofs.LastSteps.{d, word_step}
use Rattle.hp_flat.proofs.OperandRuns.{StandsAt, Ready, one_operand, known_two, run_two}

-- ---- answers on words

pub answered_told : (at : Place) (r : Result ℤ TrapKind) → answered at r ≡ told (trapped_at at r)
answered_told at (Ok x) = refl
answered_told at (Err kind) = refl

-- what holds where two values are refused, and where they are words of the kind, holds of any two
pub of_two_words : (P : Answer Value → Type 0) (wanted : Kind) (a b : Value) (rule : ℤ → ℤ → Answer Value) → P Refuses → ((k j : Kind) (x y : ℤ) → a ≡ Word k x → b ≡ Word j y → P (rule x y)) → P (two_words wanted a b rule)
of_two_words P wanted (Word k x) (Word j y) rule refuses taken = if_kinds (is_kind wanted k) (is_kind wanted j)
  where
    if_kinds : (a b : Bool) → P (given (cond a (Some x) None) (λ (p : ℤ). given (cond b (Some y) None) (λ (q : ℤ). rule p q)))
    if_kinds true true = taken k j x y refl refl
    if_kinds true false = refuses
    if_kinds false b = refuses
of_two_words P wanted (Word k x) (Listed j ys) rule refuses taken = refused (is_kind wanted k)
  where
    refused : (a : Bool) → P (given {B = Value} (cond a (Some x) None) (λ (p : ℤ). Refuses))
    refused true = refuses
    refused false = refuses
of_two_words P wanted (Word k x) (Matrix m) rule refuses taken = refused (is_kind wanted k)
  where
    refused : (a : Bool) → P (given {B = Value} (cond a (Some x) None) (λ (p : ℤ). Refuses))
    refused true = refuses
    refused false = refuses
of_two_words P wanted (Word k x) (Frame columns) rule refuses taken = refused (is_kind wanted k)
  where
    refused : (a : Bool) → P (given {B = Value} (cond a (Some x) None) (λ (p : ℤ). Refuses))
    refused true = refuses
    refused false = refuses
of_two_words P wanted (Listed k xs) b rule refuses taken = refuses
of_two_words P wanted (Matrix m) b rule refuses taken = refuses
of_two_words P wanted (Frame columns) b rule refuses taken = refuses

module _ (h : Homes) (slots : List Slot) (tables : List Table) (orders : List Order) where
  abbrev pub g : Supply
  g = supply tables h.reads orders

  -- In this scope, with this frame around, the operations of the expression come to its value.
  abbrev pub Means : Columns → Scope → Tree → Type 0
  Means around v x = (n : Seen) (s : State Env ℕ) → VarsStand h s.env v.vars → FrameStands h s.env around v.frame → HasMet s.env n.met
      → ComesToValue h x n s (value g x v n) (run (d h slots tables orders) (flat h around x) s)

  -- an operation on two words
  pub calc_step : {z : Tree} {nodes : List ℕ} {n m : Seen} {s : State Env ℕ} {e : Env} {work left : ℕ} (at : Place) (op : CalcOp) (id : ℕ) (kind : Kind) (p q : ℕ) (x y : ℤ)
      → e.words p ≡ x → e.words q ≡ y → word_of h z ≡ word_at h id → Within (id ∷ []) (nodes_in z) → Within nodes (nodes_in z) → Ready h nodes n s m e work left → 5 ≤ left
      → ComesToValue h z n s (ended (worded kind (calculated_at at op x y)) m) (run (d h slots tables orders) (code_of at (what.Calc (word_at h id) op p q)) (record s { env = e; seen = work }))
  unfolding does units
  calc_step {z = z} {n = n} {m = m} {s = s} {e = e} {work = work} at op id kind p q x y left_is right_is home own others ready enough =
      let code = code_of at (what.Calc (word_at h id) op p q) in
      let told_is : told (trapped_at at (calculated op (e.words p) (e.words q))) ≡ calculated_at at op x y =
      ap₂ (λ (x y : ℤ). told (trapped_at at (calculated op x y))) left_is right_is ∙ sym (answered_told at (calculated op x y)) in
      subst (λ (made : Answer ℤ). ComesToValue h z n s (ended (worded kind made) m) (run (d h slots tables orders) code (record s { env = e; seen = work }))) told_is
      (word_step h slots tables orders at (what.Calc (word_at h id) op p q) id kind (trapped_at at (calculated op (e.words p) (e.words q))) home own others ready enough refl)

  -- ---- numbers and truth values

  const_means : {z : Tree} (around : Columns) (v : Scope) (n : Head) (kind : Kind) (x : ℤ) → word_of h z ≡ word_at h n.id → nodes_in z ≡ n.id ∷ [] → (m : Seen) (s : State Env ℕ) → HasMet s.env m.met
      → ComesToValue h z m s (Is (Word kind x) (tick m)) (run (d h slots tables orders) (code_of n.at (what.Const (word_at h n.id) x)) s)
  unfolding does units
  const_means {z = z} around v n kind x home only m s met =
      let own : Within (n.id ∷ []) (nodes_in z) = subst (Within (n.id ∷ [])) (sym only) within_same in
      word_step h slots tables orders {nodes = n.id ∷ []} {left = 16} n.at (what.Const (word_at h n.id) x) n.id kind (Ok x) home own own (record { keeps = keeps_all h; met = met; paid = omega arith }) (omega arith) refl

  pub number_means : (around : Columns) (v : Scope) (n : Head) (x : ℤ) → Means around v (trees.number n x)
  unfolding value flat word_at word_of
  number_means around v n x m s vars frame met = const_means around v n Number x refl refl m s met

  pub truth_means : (around : Columns) (v : Scope) (n : Head) (holds : Bool) → Means around v (trees.truth n holds)
  unfolding value flat word_at word_of
  truth_means around v n holds m s vars frame met = const_means around v n Truth (truth holds) refl refl m s met

  -- ---- operators on words

  unary_last : {z : Tree} (x : Tree) {nodes : List ℕ} {n m : Seen} {s : State Env ℕ} {e : Env} {work : ℕ} (at : Place) (id : ℕ) (op : UnOp) (a : Value)
      → word_of h z ≡ word_at h id → Within (id ∷ []) (nodes_in z) → Within nodes (nodes_in z) → Ready h nodes n s m e work 20 → StandsAt h e x a
      → ComesToValue h z n s (ended (unary_value op false a) m) (run (d h slots tables orders) (code_of at (what.Calc (word_at h id) (unary_calc op) (word_of h x) (word_of h x))) (record s { env = e; seen = work }))
  unfolding unary_value
  unary_last {z = z} x {n = n} {m = m} {s = s} {e = e} {work = work} at id unary_op.Neg (Word k y) home own others ready stands = if_kind (is_kind Number k)
    where
      if_kind : (b : Bool) → ComesToValue h z n s (ended (given (cond b (Some y) None) (λ (x : ℤ). Gives (Word Number (wrap (neg_ℤ x))))) m)
          (run (d h slots tables orders) (code_of at (what.Calc (word_at h id) calc.Neg (word_of h x) (word_of h x))) (record s { env = e; seen = work }))
      if_kind true = calc_step at calc.Neg id Number (word_of h x) (word_of h x) y y (word_stands h stands) (word_stands h stands) home own others ready (omega arith)
      if_kind false = comes_to_none
  unary_last {z = z} x {n = n} {m = m} {s = s} {e = e} {work = work} at id unary_op.Not (Word k y) home own others ready stands = if_kind (is_kind Truth k)
    where
      if_kind : (b : Bool) → ComesToValue h z n s (ended (given (cond b (Some y) None) (λ (x : ℤ). Gives (Word Truth (truth (not (is_true x)))))) m)
          (run (d h slots tables orders) (code_of at (what.Calc (word_at h id) calc.Not (word_of h x) (word_of h x))) (record s { env = e; seen = work }))
      if_kind true = calc_step at calc.Not id Truth (word_of h x) (word_of h x) y y (word_stands h stands) (word_stands h stands) home own others ready (omega arith)
      if_kind false = comes_to_none
  unary_last x at id unary_op.Neg _ home own others ready stands = comes_to_none
  unary_last x at id unary_op.Not _ home own others ready stands = comes_to_none

  pub unary_means : (around : Columns) (v : Scope) (n : Head) (op : UnOp) (x : Tree) → Means around v x → Means around v (unary n op false x)
  unfolding value flat unary_code word_at word_of
  unary_means around v n op x first m s vars frame met =
      subst (λ (ran : Ran Env ℕ). ComesToValue h (unary n op false x) m s (followed (value g x v (tick m)) (λ a. ended (unary_value op false a))) ran)
      (sym (run_joined (d h slots tables orders) (flat h around x) (unary_code h n op false x) s))
      (one_operand h (λ a. ended (unary_value op false a)) (run (d h slots tables orders) (unary_code h n op false x)) (first (tick m) s vars frame met)
      (λ a k e work stands ready. unary_last x n.at n.id op a refl within_first (within_behind within_same) ready stands))

  -- what two operands one behind the other ask for
  pub record Sides (around : Columns) (v : Scope) (x y : Tree) : Type 0 where
    pub script : AreOfScript h v.vars
    pub around_apart : AllByRecursion (IsNotOf h (nodes_in x)) around.arrays
    pub word : HasWord h x
    pub apart : is_node_of (nodes_in y) (number_of x) ≡ false

  -- each value of the expression in this scope is such a one
  abbrev pub Yields : (Value → Type 0) → Scope → Tree → Type 0
  Yields P v x = (n m : Seen) (a : Value) → value g x v n ≡ Is a m → P a

  -- two expressions of one scope whose values are such, and the operation behind them
  pub known_means : {z : Tree} (P Q : Value → Type 0) (around : Columns) (v : Scope) (x y : Tree) (rule : Value → Value → Seen → Outcome Value) (last : Prog Op) → Sides around v x y → Yields P v x → Yields Q v y
      → Means around v x → Means around v y
      → ((n m : Seen) (s : State Env ℕ) (a b : Value) (e : Env) (work : ℕ) → P a → Q b → StandsAt h e x a → StandsAt h e y b → Ready h (nodes_in x ++ nodes_in y) n s m e work 24
      → ComesToValue h z n s (rule a b m) (run (d h slots tables orders) last (record s { env = e; seen = work })))
      → (n : Seen) (s : State Env ℕ) → VarsStand h s.env v.vars → FrameStands h s.env around v.frame → HasMet s.env n.met
      → ComesToValue h z n s (followed (value g x v (tick n)) (λ a m. followed (value g y v m) (rule a))) (run (d h slots tables orders) (joined (flat h around x) (joined (flat h around y) last)) s)
  known_means {z = z} P Q around v x y rule last sides left right first second next n s vars frame met =
      subst (λ (ran : Ran Env ℕ). ComesToValue h z n s (followed (value g x v (tick n)) (λ a m. followed (value g y v m) (rule a))) ran)
      (sym (run_two (d h slots tables orders) (flat h around x) (flat h around y) last s))
      (known_two h (λ a m. value g y v m) (run (d h slots tables orders) (flat h around y)) rule (run (d h slots tables orders) last) sides.word sides.apart
      (first (tick n) s vars frame met)
      (λ a m e work is stands keeps now. second m (record s { env = e; seen = work }) (vars_kept h v.vars sides.script keeps vars) (frame_kept h sides.around_apart keeps frame) now)
      (λ a b k m e work is is_second stands stand ready. next n m s a b e work (left (tick n) k a is) (right k m b is_second) stands stand ready))

  -- whatever the values are
  pub two_means : {z : Tree} (around : Columns) (v : Scope) (x y : Tree) (rule : Value → Value → Answer Value) (last : Prog Op) → Sides around v x y → Means around v x → Means around v y
      → ((n m : Seen) (s : State Env ℕ) (a b : Value) (e : Env) (work : ℕ) → StandsAt h e x a → StandsAt h e y b → Ready h (nodes_in x ++ nodes_in y) n s m e work 24
      → ComesToValue h z n s (ended (rule a b) m) (run (d h slots tables orders) last (record s { env = e; seen = work })))
      → (n : Seen) (s : State Env ℕ) → VarsStand h s.env v.vars → FrameStands h s.env around v.frame → HasMet s.env n.met
      → ComesToValue h z n s (followed (value g x v (tick n)) (λ a m. followed (value g y v m) (λ b. ended (rule a b)))) (run (d h slots tables orders) (joined (flat h around x) (joined (flat h around y) last)) s)
  two_means around v x y rule last sides first second next =
      known_means (λ a. Unit {0}) (λ a. Unit {0}) around v x y (λ a b. ended (rule a b)) last sides (λ n m a is. tt) (λ n m a is. tt) first second (λ n m s a b e work any other. next n m s a b e work)

  not_matrix : {e : Env} {us : List Unknown} {w : ℕ} {a : Value} → Stands h e us w a → us ≡ [] → as_matrix a ≡ None
  not_matrix (a_word is) none = refl
  not_matrix (an_array is) none = refl
  not_matrix (a_matrix is) none = absurd cc
  not_matrix (a_frame stand) none = refl

  pub calculated_last : {z : Tree} (x y : Tree) {nodes : List ℕ} {n m : Seen} {s : State Env ℕ} {e : Env} {work left : ℕ} (at : Place) (id : ℕ) (op : CalcOp) (wanted result : Kind) (a b : Value)
      → word_of h z ≡ word_at h id → Within (id ∷ []) (nodes_in z) → Within nodes (nodes_in z) → Ready h nodes n s m e work left → 5 ≤ left → StandsAt h e x a → StandsAt h e y b
      → ComesToValue h z n s (ended (calculated_words at op wanted result a b) m) (run (d h slots tables orders) (code_of at (what.Calc (word_at h id) op (word_of h x) (word_of h y))) (record s { env = e; seen = work }))
  unfolding calculated_words
  calculated_last {z = z} x y {n = n} {m = m} {s = s} {e = e} {work = work} at id op wanted result a b home own others ready enough left_stands right_stands =
      of_two_words (λ answer. ComesToValue h z n s (ended answer m) (run (d h slots tables orders) (code_of at (what.Calc (word_at h id) op (word_of h x) (word_of h y))) (record s { env = e; seen = work })))
      wanted a b (λ p q. worded result (calculated_at at op p q)) comes_to_none
      (λ k j p q left_is right_is.
      calc_step at op id result (word_of h x) (word_of h y) p q
      (word_stands h (subst (λ (a : Value). StandsAt h e x a) left_is left_stands)) (word_stands h (subst (λ (b : Value). StandsAt h e y b) right_is right_stands)) home own others ready enough)

  pub sides_within : (n : ℕ) (xs ys : List ℕ) → Within (xs ++ ys) (xs ++ n ∷ ys)
  sides_within n xs ys = within_both (within_left (n ∷ ys) within_same) (within_right xs (within_behind within_same))

  -- what an operator means that is neither lazy nor a product with a transposed side
  plain_mean : (at : Place) (op : BinOp) (first second : Meaning) (turned : Option Meaning) (v : Scope) (n : Seen) → turned ≡ None → is_lazy op ≡ false
      → operated at op false first second turned v n ≡ strict_operands at op false first second v n
  unfolding operated
  plain_mean at op first second None v n none strict = strictly (is_lazy op) strict
    where
      strictly : (b : Bool) → b ≡ false → (if b then lazy_operands op first second v n else strict_operands at op false first second v n) ≡ strict_operands at op false first second v n
      strictly false e = refl
      strictly true e = absurd cc
  plain_mean at op first second (Some turned) v n none strict = absurd cc

  -- and what it gives of two words
  plain_answer : (at : Place) (op : BinOp) (a b : Value) → as_matrix a ≡ None → is_lazy op ≡ false → calculated_words at (calc_of op) (operands_of op) (result_of op) a b ≡ operator_value at op false a b
  unfolding operator_value plain_value
  plain_answer at op a b bare strict =
      sym (ap (λ (found : Option Grid). elim found [ None ↦ plain_value at op a b | Some m ↦ if is_product op false then given (as_matrix b) (multiplied at m) else Refuses ]) bare
      ∙ ap (λ (lazy : Bool). if lazy then Refuses else calculated_words at (calc_of op) (operands_of op) (result_of op) a b) strict)

  -- an operator on two words
  pub plain_means : (around : Columns) (v : Scope) (n : Head) (op : BinOp) (x y : Tree) → Sides around v x y → arrays_at h.known x ≡ [] → is_lazy op ≡ false
      → (if is_product op false then flipped g y else None) ≡ None → binary_code h n op false x y (flat h around y) ≡ joined (flat h around y) (calculated_code h n op x y)
      → Means around v x → Means around v y → Means around v (binary n op false x y)
  unfolding value flat strict_operands word_at word_of
  plain_means around v n op x y sides bare strict plain code first second m s vars frame met =
      subst (λ (o : Outcome Value). ComesToValue h (binary n op false x y) m s o (run (d h slots tables orders) (joined (flat h around x) (binary_code h n op false x y (flat h around y))) s))
      (sym (plain_mean n.at op (value g x) (value g y) (if is_product op false then flipped g y else None) v (tick m) plain strict))
      (subst (λ (own : Prog Op). ComesToValue h (binary n op false x y) m s (strict_operands n.at op false (value g x) (value g y) v (tick m)) (run (d h slots tables orders) (joined (flat h around x) own) s))
      (sym code)
      (two_means around v x y (operator_value n.at op false) (calculated_code h n op x y) sides first second
      (λ n0 k st a b e work left_stands right_stands ready.
      subst (λ (answer : Answer Value). ComesToValue h (binary n op false x y) n0 st (ended answer k) (run (d h slots tables orders) (calculated_code h n op x y) (record st { env = e; seen = work })))
      (plain_answer n.at op a b (not_matrix left_stands bare) strict)
      (calculated_last x y n.at n.id (calc_of op) (operands_of op) (result_of op) a b refl (within_right (nodes_in x) within_first) (sides_within n.id (nodes_in x) (nodes_in y)) ready (omega arith) left_stands right_stands))
      m s vars frame met))
