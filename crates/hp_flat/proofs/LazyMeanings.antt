-- What `&&` and `||` come to: the second side stands in a branch by the word of the first.
use Rattle.std.proofs.Common.{◌≡◌, ℕ, ◌+◌, ◌≤◌, ℤ, pos, Bool, true, false, not, cond, if◌then◌else◌, List, [], ◌∷◌, ◌++◌, Some, None, Ok, refl, sym, subst, arith}
use Rattle.std.specs.Int.{int_max}
use Rattle.std.specs.Prelude.{int_lt}
use Rattle.hp_word.specs.declared.order.Order.{Order}
use Rattle.hp_word.specs.declared.place.Place.{Place}
use Rattle.hp_word.specs.declared.table.Table.{Table}
use Rattle.hp_word.specs.declared.word.CalcOp.TheVariants as calc
use Rattle.hp_word.specs.Runs.{State, Ran, Went, Trapped, Spent, Mistaken, Runs, behind}
use Rattle.hp_word.specs.Words.{is_true}
use Rattle.hp_script.specs.declared.tree.BinOp.TheVariants as binary_op
use Rattle.hp_script.specs.Mirror.{Head, Tree, binary}
use Rattle.hp_script.specs.Nodes.{nodes_in}
use Rattle.hp_meaning.specs.declared.seen.Seen.{Seen}
use Rattle.hp_meaning.specs.declared.value.Kind.TheVariants.{Truth}
use Rattle.hp_meaning.specs.declared.value.Value.{Value}
use Rattle.hp_meaning.specs.declared.value.Value.TheVariants.{Word}
use Rattle.hp_meaning.specs.Operands.{is_kind}
use Rattle.hp_meaning.specs.Outcomes.{tick, Is, followed, needed}
use Rattle.hp_meaning.specs.Scopes.{Scope}
use Rattle.hp_meaning.specs.ValueOf.{value, operated, lazy_operands, lazily, second_side}
use Rattle.hp_program.specs.Programs.{Prog, run, joined, by_word, stop, choose}
use Rattle.hp_program.proofs.Replaced.{run_joined}
use Rattle.hp_air.specs.declared.slot.Slot.{Slot}
use Rattle.hp_air.specs.declared.what.Op.{Op}
use Rattle.hp_air.specs.declared.what.What.TheVariants as what
use Rattle.hp_air.specs.Meaning.{does, units}
use Rattle.hp_air.specs.Unknowns.{Columns}
use Rattle.hp_air.specs.Wholes.{Env}
use Rattle.hp_flat.specs.Flat.{flat}
use Rattle.hp_flat.specs.FlatCalls.{code_of, word_copy, binary_code, lazy_code}
use Rattle.hp_flat.specs.Homes.{Homes, word_at, word_of}
use Rattle.hp_flat.specs.Standing.{VarsStand, FrameStands, ComesToValue, comes_to_none}
use Rattle.hp_flat.proofs.KeptHomes.{Within, within_left, within_right, within_first, within_same, keeps_within, keeps_both, vars_kept, frame_kept, word_stands}
use Rattle.hp_flat.proofs.LastSteps.{d, word_step}
use Rattle.hp_flat.proofs.OperandRuns.{StandsAt, Ready, operand, one_operand}
use Rattle.hp_flat.proofs.WordMeanings.{Means, Sides, calc_step, sides_within, g}

pub max_itself : (x : ℤ) → int_max x x ≡ x
max_itself x = either (int_lt x x)
  where
    either : (b : Bool) → cond b x x ≡ x
    either true = refl
    either false = refl

behind_stop : {E : Type 0} (ran : Ran E ℕ) (last : Runs E ℕ) → ((s : State E ℕ) → last s ≡ Went s) → behind ran last ≡ ran
behind_stop (Went s) last same = same s
behind_stop (Trapped t s) last same = refl
behind_stop (Spent s) last same = refl
behind_stop Mistaken last same = refl

module _ (h : Homes) (slots : List Slot) (tables : List Table) (orders : List Order) where
  abbrev D : Prog Op → Runs Env ℕ
  D p = run (d h slots tables orders) p

  -- a branch by a word, with nothing behind it
  branch_run : (w : ℕ) (p q : Prog Op) (s : State Env ℕ) → D (choose w p q stop) s ≡ cond (is_true (s.env.words w)) (D p (record s { seen = s.seen + 1 })) (D q (record s { seen = s.seen + 1 }))
  unfolding run by_word
  branch_run w p q s = behind_stop (cond (is_true (s.env.words w)) (D p (record s { seen = s.seen + 1 })) (D q (record s { seen = s.seen + 1 }))) (D stop) (λ t. refl)

  -- the second side, copied to the word of the construct
  second_last : {z : Tree} (y : Tree) {nodes : List ℕ} {n m : Seen} {s : State Env ℕ} {e : Env} {work left : ℕ} (at : Place) (id : ℕ) (b : Value) → word_of h z ≡ word_at h id → Within (id ∷ []) (nodes_in z) → Within nodes (nodes_in z)
      → Ready h nodes n s m e work left → 5 ≤ left → StandsAt h e y b → ComesToValue h z n s (second_side b m) (D (word_copy at (word_at h id) (word_of h y)) (record s { env = e; seen = work }))
  unfolding word_copy
  second_last {z = z} y {n = n} {m = m} {s = s} {e = e} {work = work} at id (Word k p) home own others ready enough stands = if_kind (is_kind Truth k)
    where
      if_kind : (b : Bool) → ComesToValue h z n s (needed (cond b (Some p) None) (λ (x : ℤ). Is (Word Truth x) m)) (D (code_of at (what.Calc (word_at h id) calc.Max (word_of h y) (word_of h y))) (record s { env = e; seen = work }))
      if_kind true =
          subst (λ (x : ℤ). ComesToValue h z n s (Is (Word Truth x) m) (D (code_of at (what.Calc (word_at h id) calc.Max (word_of h y) (word_of h y))) (record s { env = e; seen = work }))) (max_itself p)
          (calc_step h slots tables orders at calc.Max id Truth (word_of h y) (word_of h y) p p (word_stands h stands) (word_stands h stands) home own others ready enough)
      if_kind false = comes_to_none
  second_last y at id _ home own others ready enough stands = comes_to_none

  second_means : {z : Tree} {n m : Seen} {s : State Env ℕ} {e : Env} {work : ℕ} (around : Columns) (v : Scope) (at : Place) (id : ℕ) (x y : Tree) → word_of h z ≡ word_at h id → nodes_in z ≡ nodes_in x ++ id ∷ nodes_in y
      → Sides h slots tables orders around v x y → VarsStand h s.env v.vars → FrameStands h s.env around v.frame → Means h slots tables orders around v y → Ready h (nodes_in x) n s m e work 20
      → ComesToValue h z n s (followed (value (g h slots tables orders) y v m) second_side) (D (joined (flat h around y) (word_copy at (word_at h id) (word_of h y))) (record s { env = e; seen = work + 1 }))
  second_means {z = z} {n = n} {m = m} {s = s} {e = e} {work = work} around v at id x y home nodes sides vars frame second ready =
      subst (λ (ran : Ran Env ℕ). ComesToValue h z n s (followed (value (g h slots tables orders) y v m) second_side) ran)
      (sym (run_joined (d h slots tables orders) (flat h around y) (word_copy at (word_at h id) (word_of h y)) (record s { env = e; seen = work + 1 })))
      (operand h second_side (D (word_copy at (word_at h id) (word_of h y))) (let paid = ready.paid in omega (arith, paid))
      (second m (record s { env = e; seen = work + 1 }) (vars_kept h v.vars sides.script ready.keeps vars) (frame_kept h sides.around_apart ready.keeps frame) ready.met)
      (λ b k f done stands keeps met paid.
      second_last y {left = 23} at id b home (subst (Within (id ∷ [])) (sym nodes) (within_right (nodes_in x) within_first)) (subst (Within (nodes_in x ++ nodes_in y)) (sym nodes) (sides_within h slots tables orders id (nodes_in x) (nodes_in y)))
      (record {
        keeps = keeps_both h (keeps_within h (within_left (nodes_in y) within_same) ready.keeps) (keeps_within h (within_right (nodes_in x) within_same) keeps);
        met = met;
        paid = let before = ready.paid in omega (arith, before, paid);
      }) (omega arith) stands))

  -- the word that the first side decides
  decided_means : {z : Tree} {nodes : List ℕ} {n m : Seen} {s : State Env ℕ} {e : Env} {work : ℕ} (at : Place) (id : ℕ) (x : ℤ) → word_of h z ≡ word_at h id → Within (id ∷ []) (nodes_in z) → Within nodes (nodes_in z)
      → Ready h nodes n s m e work 20 → ComesToValue h z n s (Is (Word Truth x) m) (D (code_of at (what.Const (word_at h id) x)) (record s { env = e; seen = work + 1 }))
  unfolding does units
  decided_means {nodes = nodes} at id x home own others ready =
      word_step h slots tables orders {nodes = nodes} {left = 19} at (what.Const (word_at h id) x) id Truth (Ok x) home own others
      (record { keeps = ready.keeps; met = ready.met; paid = let paid = ready.paid in omega (arith, paid) }) (omega arith) refl

  -- behind the first side, where it is a word
  module _ (around : Columns) (v : Scope) (n : Head) (x y : Tree) (sides : Sides h slots tables orders around v x y) (second : Means h slots tables orders around v y) where
    abbrev copy : Prog Op
    copy = joined (flat h around y) (word_copy n.at (word_at h n.id) (word_of h y))

    and_first : (m k : Seen) (s : State Env ℕ) (a : Value) (e : Env) (work : ℕ) → VarsStand h s.env v.vars → FrameStands h s.env around v.frame → StandsAt h e x a → Ready h (nodes_in x) m s k e work 20
        → ComesToValue h (binary n binary_op.And false x y) m s (lazily binary_op.And a (value (g h slots tables orders) y) v k)
        (D (choose (word_of h x) copy (code_of n.at (what.Const (word_at h n.id) (pos 0))) stop) (record s { env = e; seen = work }))
    unfolding lazily word_at word_of
    and_first m k s (Word kind t) e work vars frame stands ready =
        subst (λ (ran : Ran Env ℕ). ComesToValue h (binary n binary_op.And false x y) m s (lazily binary_op.And (Word kind t) (value (g h slots tables orders) y) v k) ran)
        (sym (branch_run (word_of h x) copy (code_of n.at (what.Const (word_at h n.id) (pos 0))) (record s { env = e; seen = work })))
        (if_kind (is_kind Truth kind))
      where
        on : (b : Bool) → ComesToValue h (binary n binary_op.And false x y) m s (if not b then Is (Word Truth (pos 0)) k else followed (value (g h slots tables orders) y v k) second_side)
            (cond b (D copy (record s { env = e; seen = work + 1 })) (D (code_of n.at (what.Const (word_at h n.id) (pos 0))) (record s { env = e; seen = work + 1 })))
        on true = second_means around v n.at n.id x y refl refl sides vars frame second ready
        on false = decided_means n.at n.id (pos 0) refl (within_right (nodes_in x) within_first) (within_left (n.id ∷ nodes_in y) within_same) ready

        if_kind : (b : Bool) → ComesToValue h (binary n binary_op.And false x y) m s (needed (cond b (Some t) None) (λ (x : ℤ). if not (is_true x) then Is (Word Truth (pos 0)) k else followed (value (g h slots tables orders) y v k) second_side))
            (cond (is_true (e.words (word_of h x))) (D copy (record s { env = e; seen = work + 1 })) (D (code_of n.at (what.Const (word_at h n.id) (pos 0))) (record s { env = e; seen = work + 1 })))
        if_kind true =
            subst (λ (w : ℤ). ComesToValue h (binary n binary_op.And false x y) m s (if not (is_true t) then Is (Word Truth (pos 0)) k else followed (value (g h slots tables orders) y v k) second_side)
            (cond (is_true w) (D copy (record s { env = e; seen = work + 1 })) (D (code_of n.at (what.Const (word_at h n.id) (pos 0))) (record s { env = e; seen = work + 1 })))) (sym (word_stands h stands)) (on (is_true t))
        if_kind false = comes_to_none
    and_first m k s _ e work vars frame stands ready = comes_to_none

    or_first : (m k : Seen) (s : State Env ℕ) (a : Value) (e : Env) (work : ℕ) → VarsStand h s.env v.vars → FrameStands h s.env around v.frame → StandsAt h e x a → Ready h (nodes_in x) m s k e work 20
        → ComesToValue h (binary n binary_op.Or false x y) m s (lazily binary_op.Or a (value (g h slots tables orders) y) v k)
        (D (choose (word_of h x) (code_of n.at (what.Const (word_at h n.id) (pos 1))) copy stop) (record s { env = e; seen = work }))
    unfolding lazily word_at word_of
    or_first m k s (Word kind t) e work vars frame stands ready =
        subst (λ (ran : Ran Env ℕ). ComesToValue h (binary n binary_op.Or false x y) m s (lazily binary_op.Or (Word kind t) (value (g h slots tables orders) y) v k) ran)
        (sym (branch_run (word_of h x) (code_of n.at (what.Const (word_at h n.id) (pos 1))) copy (record s { env = e; seen = work })))
        (if_kind (is_kind Truth kind))
      where
        on : (b : Bool) → ComesToValue h (binary n binary_op.Or false x y) m s (if b then Is (Word Truth (pos 1)) k else followed (value (g h slots tables orders) y v k) second_side)
            (cond b (D (code_of n.at (what.Const (word_at h n.id) (pos 1))) (record s { env = e; seen = work + 1 })) (D copy (record s { env = e; seen = work + 1 })))
        on true = decided_means n.at n.id (pos 1) refl (within_right (nodes_in x) within_first) (within_left (n.id ∷ nodes_in y) within_same) ready
        on false = second_means around v n.at n.id x y refl refl sides vars frame second ready

        if_kind : (b : Bool) → ComesToValue h (binary n binary_op.Or false x y) m s (needed (cond b (Some t) None) (λ (x : ℤ). if is_true x then Is (Word Truth (pos 1)) k else followed (value (g h slots tables orders) y v k) second_side))
            (cond (is_true (e.words (word_of h x))) (D (code_of n.at (what.Const (word_at h n.id) (pos 1))) (record s { env = e; seen = work + 1 })) (D copy (record s { env = e; seen = work + 1 })))
        if_kind true =
            subst (λ (w : ℤ). ComesToValue h (binary n binary_op.Or false x y) m s (if is_true t then Is (Word Truth (pos 1)) k else followed (value (g h slots tables orders) y v k) second_side)
            (cond (is_true w) (D (code_of n.at (what.Const (word_at h n.id) (pos 1))) (record s { env = e; seen = work + 1 })) (D copy (record s { env = e; seen = work + 1 })))) (sym (word_stands h stands)) (on (is_true t))
        if_kind false = comes_to_none
    or_first m k s _ e work vars frame stands ready = comes_to_none

    pub and_means : Means h slots tables orders around v x → Means h slots tables orders around v (binary n binary_op.And false x y)
    unfolding value flat operated lazy_operands binary_code lazy_code
    and_means first m s vars frame met =
        subst (λ (ran : Ran Env ℕ). ComesToValue h (binary n binary_op.And false x y) m s (followed (value (g h slots tables orders) x v (tick m)) (λ a. lazily binary_op.And a (value (g h slots tables orders) y) v)) ran)
        (sym (run_joined (d h slots tables orders) (flat h around x) (choose (word_of h x) copy (code_of n.at (what.Const (word_at h n.id) (pos 0))) stop) s))
        (one_operand h (λ a. lazily binary_op.And a (value (g h slots tables orders) y) v) (D (choose (word_of h x) copy (code_of n.at (what.Const (word_at h n.id) (pos 0))) stop)) (first (tick m) s vars frame met)
        (λ a k e work stands ready. and_first m k s a e work vars frame stands ready))

    pub or_means : Means h slots tables orders around v x → Means h slots tables orders around v (binary n binary_op.Or false x y)
    unfolding value flat operated lazy_operands binary_code lazy_code
    or_means first m s vars frame met =
        subst (λ (ran : Ran Env ℕ). ComesToValue h (binary n binary_op.Or false x y) m s (followed (value (g h slots tables orders) x v (tick m)) (λ a. lazily binary_op.Or a (value (g h slots tables orders) y) v)) ran)
        (sym (run_joined (d h slots tables orders) (flat h around x) (choose (word_of h x) (code_of n.at (what.Const (word_at h n.id) (pos 1))) copy stop) s))
        (one_operand h (λ a. lazily binary_op.Or a (value (g h slots tables orders) y) v) (D (choose (word_of h x) (code_of n.at (what.Const (word_at h n.id) (pos 1))) copy stop)) (first (tick m) s vars frame met)
        (λ a k e work stands ready. or_first m k s a e work vars frame stands ready))
