-- Single steps of the machine in front of a run and taken from it, and that a run ends at one place.
use Rattle.std.proofs.Common.{◌≡◌, ℕ, zero, suc, Bool, true, if◌then◌else◌, List, [], ◌∷◌, refl, ap, sym, ◌∙◌}
use Rattle.hp_word.specs.declared.place.Place.{Place}
use Rattle.hp_script.specs.declared.rule.Rule.{Rule}
use Rattle.hp_script.specs.declared.tree.BinOp.{BinOp}
use Rattle.hp_script.specs.declared.tree.Stmt.{Stmt}
use Rattle.hp_script.specs.declared.tree.Level.{Level}
use Rattle.hp_script.specs.declared.tree.Level.TheVariants.{Disjunction, Conjunction, Comparison, Sum, Product}
use Rattle.hp_parse.specs.Machine.{Move, Deepens, Passes, make, MakeBinary, operand, rest_of_chain, Config, Accepted, Refused, level_eq, step, run, Leads}

-- one step more in front of a run
pub leads_on : {is_deep : ℕ → Bool} {end : Place} {c goal : Config} → Leads is_deep end (step is_deep end c) goal → Leads is_deep end c goal
unfolding run
leads_on leads = record { steps = suc leads.steps; run_is = leads.run_is }

-- ---- ends

-- the machine stays here
abbrev pub Stays : (is_deep : ℕ → Bool) (end : Place) → Config → Type 0
Stays is_deep end c = step is_deep end c ≡ c

pub accepted_stays : (is_deep : ℕ → Bool) (end : Place) (body : List Stmt) (nodes : ℕ) → Stays is_deep end (Accepted body nodes)
unfolding step
accepted_stays is_deep end body nodes = refl

pub refused_stays : (is_deep : ℕ → Bool) (end place : Place) (rule : Rule) → Stays is_deep end (Refused place rule)
unfolding step
refused_stays is_deep end place rule = refl

run_past : (is_deep : ℕ → Bool) (end : Place) (goal : Config) → Stays is_deep end goal → (n : ℕ) (c : Config) → run is_deep end n c ≡ goal → Leads is_deep end (step is_deep end c) goal
unfolding run
run_past is_deep end goal stays zero c e = record { steps = zero; run_is = ap (step is_deep end) e ∙ stays }
run_past is_deep end goal stays (suc n) c e = record { steps = n; run_is = e }

-- a run up to an end, without its first step
pub leads_past : {is_deep : ℕ → Bool} {end : Place} {goal : Config} → Stays is_deep end goal → (c : Config) → Leads is_deep end c goal → Leads is_deep end (step is_deep end c) goal
leads_past {is_deep} {end} {goal} stays c leads = run_past is_deep end goal stays leads.steps c leads.run_is

run_once : (is_deep : ℕ → Bool) (end : Place) (x y : Config) → Stays is_deep end x → Stays is_deep end y → (n m : ℕ) (c : Config) → run is_deep end n c ≡ x → run is_deep end m c ≡ y → x ≡ y
unfolding run
run_once is_deep end x y x_stays y_stays zero zero c e f = sym e ∙ f
run_once is_deep end x y x_stays y_stays zero (suc m) c e f = run_once is_deep end x y x_stays y_stays zero m (step is_deep end c) (ap (step is_deep end) e ∙ x_stays) f
run_once is_deep end x y x_stays y_stays (suc n) zero c e f = run_once is_deep end x y x_stays y_stays n zero (step is_deep end c) e (ap (step is_deep end) f ∙ y_stays)
run_once is_deep end x y x_stays y_stays (suc n) (suc m) c e f = run_once is_deep end x y x_stays y_stays n m (step is_deep end c) e f

-- the machine has one end from a configuration
pub leads_once : {is_deep : ℕ → Bool} {end : Place} {c x y : Config} → Stays is_deep end x → Stays is_deep end y → Leads is_deep end c x → Leads is_deep end c y → x ≡ y
leads_once {is_deep} {end} {c} {x} {y} x_stays y_stays f g = run_once is_deep end x y x_stays y_stays f.steps g.steps c f.run_is g.run_is

-- ---- operators

-- the move at an operator behind an operand: it is taken, if it is of the level that is wanted
abbrev pub operator_move : (same : Bool) → Level → BinOp → Bool → Place → (k d : ℕ) → Move
operator_move same level op dotted at k d =
    if same then Deepens (suc k) (suc d) (operand level ∷ make (MakeBinary k at op dotted) ∷ rest_of_chain level) [] else Passes k [] []

pub level_same : (l m : Level) → level_eq l m ≡ true → l ≡ m
level_same Disjunction Disjunction e = refl
level_same Conjunction Conjunction e = refl
level_same Comparison Comparison e = refl
level_same Sum Sum e = refl
level_same Product Product e = refl
level_same _ _ e = cc
