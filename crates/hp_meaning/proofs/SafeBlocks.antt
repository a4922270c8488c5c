-- A block whose tests pass runs to its end, to a trap or out of fuel wherever the variables fit, and they fit behind it.
use Rattle.std.proofs.Common.{◌≡◌, ℕ, zero, suc, eqb, Bool, true, false, cond, List, [], ◌++◌, Option, Some, None, refl, sym, ap, subst, subst₂, ◌∙◌, append_assoc}
use Rattle.hp_word.specs.declared.place.Trap.{Trap}
use Rattle.hp_word.specs.declared.table.Table.{Table}
use Rattle.hp_word.specs.Words.{is_true}
use Rattle.hp_script.specs.declared.rule.Rule.TheVariants.{WrongType, TypeChanged}
use Rattle.hp_script.specs.declared.typed.ReadSpec.{ReadSpec}
use Rattle.hp_script.specs.declared.typed.Shape.{Shape}
use Rattle.hp_script.specs.Breaks.{is_frame}
use Rattle.hp_script.specs.Checked.{keeps_shape, is_printed, is_test, second_branch, behind_branches, behind_loop, after, break_in, files_of}
use Rattle.hp_script.specs.Entries.{files_in}
use Rattle.hp_script.specs.Mirror.{Tree, Block, done, assign, print, export, choose, loop}
use Rattle.hp_script.specs.Scope.{Scope, shape_among, after_assignment}
use Rattle.hp_script.specs.Walk.{shape_of, break_of}
use Rattle.hp_script.proofs.FittingBlocks.{assigned_sound, second_sound, branches_sound, loop_sound, passes_on}
use Rattle.hp_script.proofs.Shaped.{Sound, shaped}
use Rattle.hp_meaning.specs.declared.seen.Seen.{Seen}
use Rattle.hp_meaning.specs.declared.value.Value.{Value}
use Rattle.hp_meaning.specs.declared.value.Var.{Var}
use Rattle.hp_meaning.specs.Fitting.{HasShape, a_number, a_truth, numbers, truths, a_matrix, a_frame, Keeps, AreTyped}
use Rattle.hp_meaning.specs.Outcomes.{tick, Outcome}
use Rattle.hp_meaning.specs.Printouts.{printout, export_text}
use Rattle.hp_meaning.specs.ReadCalls.{reads_in, reads_of}
use Rattle.hp_meaning.specs.Run.{State, Ran, begun, using_value, written, branch, decided, in_turn, evaluated, run}
use Rattle.hp_word.specs.Runs.{Went, Trapped, Spent, turned, behind, turn, turns}
use Rattle.hp_meaning.specs.Scopes.{outside, assigned}
use Rattle.hp_meaning.specs.ValueOf.{Supply, Meaning, value}
use Rattle.hp_meaning.proofs.Called.{supplies_apart}
use Rattle.hp_meaning.proofs.Fine.{Fine, is, stops}
use Rattle.hp_meaning.proofs.Names.{Stays, stays_after, stays_on, set_first, set_second, keeps_up, some_shape, keeps_down, keeps_assigned, own_type, typed_assigned}
use Rattle.hp_meaning.proofs.Parts.{finds, Supplies}
use Rattle.hp_meaning.proofs.Safe.{nowhere, Fit, Safe, SafeAs, safe_of}
use Rattle.hp_meaning.proofs.SafeTrees.{tree_safe}
use Rattle.hp_script.proofs.TestLemmas.{or_left, or_right, passes}

-- ---- where statements stand

-- outside lambdas and filters
pub record Top (s : Scope) : Type 0 where
  pub sound : Sound s None
  pub out : s.parameters ≡ []
  pub clear : s.around ≡ None

-- two points are in the same lambdas and filters
record Beside (s t : Scope) : Type 0 where
  pub parameters : t.parameters ≡ s.parameters
  pub around : t.around ≡ s.around

beside_assigned : (s : Scope) (x : List ℕ) (found : Option Shape) → Beside s (after_assignment s x found)
beside_assigned s x None = record { parameters = refl; around = refl }
beside_assigned s x (Some kind) = record { parameters = refl; around = refl }

beside_both : {s t u : Scope} → Beside s t → Beside t u → Beside s u
beside_both h k = record { parameters = k.parameters ∙ h.parameters; around = k.around ∙ h.around }

beside_after : (s : Scope) (b : Block) → Beside s (after s b)
unfolding after
beside_after s done = record { parameters = refl; around = refl }
beside_after s (assign at x e rest) = beside_both (beside_assigned s x (shape_of s e)) (beside_after (after_assignment s x (shape_of s e)) rest)
beside_after s (print at e rest) = beside_after s rest
beside_after s (export at e rest) = beside_after s rest
beside_after s (choose at test body other rest) =
    let first = beside_after s body in
    let second = beside_after (second_branch s (after s body)) other in
    let next = beside_after (behind_branches (after s body) (after (second_branch s (after s body)) other)) rest in
    record { parameters = next.parameters ∙ (second.parameters ∙ first.parameters); around = next.around ∙ (second.around ∙ first.around) }
beside_after s (loop at test body rest) =
    let first = beside_after s body in
    let next = beside_after (behind_loop s (after s body)) rest in
    record { parameters = next.parameters ∙ first.parameters; around = next.around ∙ first.around }

top_beside : {s t : Scope} → Top s → Beside s t → Sound t None → Top t
top_beside top beside sound = record { sound = sound; out = beside.parameters ∙ top.out; clear = beside.around ∙ top.clear }

fit_outside : {s : Scope} (st : State) → Top s → Keeps s st.env → Fit s (outside st.env)
fit_outside st top keeps = record { keeps = keeps; surrounds = rw top.clear nowhere }

-- ---- runs

-- a run that is not mistaken, and what holds where it went on
pub data Runs (P : State → Type 0) : Ran → Type 0 where
  went : {s : State} → P s → Runs P (Went s)
  trapped : {t : Trap} {s : State} → Runs P (Trapped t s)
  spent : {s : State} → Runs P (Spent s)

behind_runs : {P Q : State → Type 0} {ran : Ran} (more : State → Ran) → Runs P ran → ((s : State) → P s → Runs Q (more s)) → Runs Q (behind ran more)
behind_runs more (went h) next = next _ h
behind_runs more trapped next = trapped
behind_runs more spent next = spent

using_runs : {Q : State → Type 0} {kind : Shape} {outcome : Outcome Value} (s : State) (more : Value → State → Ran) → Fine Value (HasShape kind) outcome
    → ((a : Value) (n : Seen) → HasShape kind a → Runs Q (more a (record s { seen = n }))) → Runs Q (using_value s outcome more)
using_runs s more (is h) next = next _ _ h
using_runs s more stops next = trapped

runs_if : {Q : State → Type 0} (holds : Bool) {a b : Ran} → Runs Q a → Runs Q b → Runs Q (cond holds a b)
runs_if true h k = h
runs_if false h k = k

-- the variables that are surely set fit there, and all are of their types behind the script
pub record Holds (last s : Scope) (vars : List Var) : Type 0 where
  pub surely : Keeps s vars
  pub all : AreTyped last vars

abbrev pub Keeping : (last s : Scope) → State → Type 0
Keeping last s t = Holds last s t.env

-- what is surely set fits at another point
moved : {last s t : Scope} {vars : List Var} → (Keeps s vars → Keeps t vars) → Holds last s vars → Holds last t vars
moved next holds = record { surely = next holds.surely; all = holds.all }

printed_runs : {last s : Scope} {kind : Shape} {a : Value} (st : State) → is_printed (Some kind) ≡ true → HasShape kind a → Keeping last s st → Runs (Keeping last s) (written (printout a) st)
printed_runs st e (a_number x) keeps = went keeps
printed_runs st e (a_truth x t) keeps = went keeps
printed_runs st e (numbers xs) keeps = went keeps
printed_runs st e (truths xs t) keeps = went keeps
printed_runs st e (a_matrix m) keeps = absurd cc
printed_runs st e (a_frame names columns d) keeps = absurd cc

exported_runs : {last s : Scope} {kind : Shape} {a : Value} (st : State) → is_frame (Some kind) ≡ true → HasShape kind a → Keeping last s st → Runs (Keeping last s) (written (export_text a) st)
exported_runs st e (a_frame names columns d) keeps = went keeps
exported_runs st e _ keeps = absurd cc

branch_runs : {Q : State → Type 0} {kind : Shape} {a : Value} (st : State) (first second : State → Ran) → is_test (Some kind) ≡ true → HasShape kind a → Runs Q (first st) → Runs Q (second st) → Runs Q (branch a first second st)
branch_runs st first second e (a_truth x t) h k = runs_if (is_true x) h k
branch_runs st first second e _ h k = absurd cc

-- ---- values of statements

-- an expression of a statement, by its type
record Valued (g : Supply) (s : Scope) (x : Tree) (ids : List ℕ) (files : List ReadSpec) : Type 0 where
  pub kind : Shape
  pub is : shape_of s x ≡ Some kind
  pub safe : Safe s kind (value g x)
  pub rest : Supplies (finds g) ids files

valued : (g : Supply) (s : Scope) (x : Tree) (ids : List ℕ) (files : List ReadSpec) → Top s → break_of s x ≡ None → Supplies (finds g) (reads_in x ++ ids) (files_in x ++ files) → Valued g s x ids files
valued g s x ids files top e supplies =
    let found = some_shape (shape_of s x) (shaped s None x top.sound e).some in
    let passed = tree_safe g s x ids files top.out e supplies in
    record { kind = found.0; is = found.1; safe = safe_of (subst (λ found. SafeAs s found (value g x)) found.1 passed.safe); rest = passed.rest }

evaluated_runs : {g : Supply} {last s : Scope} {x : Tree} {ids : List ℕ} {files : List ReadSpec} {Q : State → Type 0} (st : State) (more : Value → State → Ran) → Top s → Keeping last s st → (of_x : Valued g s x ids files)
    → ((a : Value) (n : Seen) → HasShape of_x.kind a → Runs Q (more a (record (begun st) { seen = n }))) → Runs Q (evaluated g (value g x) st more)
evaluated_runs st more top keeps of_x next = using_runs (begun st) more (of_x.safe.fine (outside st.env) (tick st.seen) (fit_outside st top keeps.surely)) next

-- ---- turns

turns_run : {last s : Scope} {test : Meaning} {kind : Shape} (k : ℕ) (body : State → Ran) (st : State) → is_test (Some kind) ≡ true → Top s → Safe s kind test → ((t : State) → Keeping last s t → Runs (Keeping last s) (body t)) → Keeping last s st
    → Runs (Keeping last s) (turns k (decided test) (in_turn body) st)
unfolding turns
turns_run zero body st e top safe each keeps = spent
turns_run {test = test} (suc k) body st e top safe each keeps =
    using_runs st _ (safe.fine (outside st.env) st.seen (fit_outside st top keeps.surely)) (λ a n h.
    branch_runs (record st { seen = n }) (turn (in_turn body) (turns k (decided test) (in_turn body))) Went e h
    (runs_if (eqb st.fuel 0) spent (behind_runs (turns k (decided test) (in_turn body)) (each (begun (turned (record st { seen = n }))) keeps) (λ t later. turns_run k body t e top safe each later)))
    (went keeps))

-- ---- blocks

-- a block is never mistaken, and the tables and files behind it are left
pub record PassesOn (g : Supply) (last s : Scope) (b : Block) (ids : List ℕ) (files : List ReadSpec) : Type 0 where
  pub runs : (st : State) → Keeping last s st → Runs (Keeping last (after s b)) (run g b st)
  pub rest : Supplies (finds g) ids files

assigned_top : (s : Scope) (x : List ℕ) (e : Tree) → Top s → break_of s e ≡ None → Top (after_assignment s x (shape_of s e))
assigned_top s x e top h = top_beside top (beside_assigned s x (shape_of s e)) (assigned_sound s x (shape_of s e) top.sound (shaped s None e top.sound h).narrow)

-- behind both branches of an `if`
first_keeps : {last : Scope} (s : Scope) (body other : Block) (st : State) → Keeping last (after s body) st → Keeping last (behind_branches (after s body) (after (second_branch s (after s body)) other)) st
first_keeps s body other st keeps =
    moved (keeps_up (record { stays = λ x k h. (stays_after (second_branch s (after s body)) other).stays x k h }) (λ x h. set_first (after s body).ways (after (second_branch s (after s body)) other).ways x h)) keeps

second_keeps : {last : Scope} (s : Scope) (body other : Block) (st : State) → Keeping last (after (second_branch s (after s body)) other) st → Keeping last (behind_branches (after s body) (after (second_branch s (after s body)) other)) st
second_keeps s body other st keeps =
    moved (keeps_up (record { stays = λ x k h. h }) (λ x h. set_second (after s body).ways (after (second_branch s (after s body)) other).ways x h)) keeps

other_keeps : {last : Scope} (s : Scope) (body : Block) (st : State) → Keeping last s st → Keeping last (second_branch s (after s body)) st
other_keeps s body st keeps = moved (keeps_up (record { stays = λ x k h. (stays_after s body).stays x k h }) (λ x h. h)) keeps

loop_keeps : {last : Scope} (s : Scope) (body : Block) (st : State) → Keeping last s st → Keeping last (behind_loop s (after s body)) st
loop_keeps s body st keeps = moved (keeps_up (record { stays = λ x k h. (stays_after s body).stays x k h }) (λ x h. set_first s.ways (after s body).ways x h)) keeps

weaker : {P Q : State → Type 0} {ran : Ran} → Runs P ran → ((s : State) → P s → Q s) → Runs Q ran
weaker (went h) next = went (next _ h)
weaker trapped next = trapped
weaker spent next = spent

four_apart : (find : ℕ → Option Table) (a b c d ids : List ℕ) (p q r t files : List ReadSpec) → Supplies find (((a ++ (b ++ c)) ++ d) ++ ids) ((((p ++ q) ++ r) ++ t) ++ files)
    → Supplies find (a ++ (b ++ (c ++ (d ++ ids)))) (p ++ (q ++ (r ++ (t ++ files))))
four_apart find a b c d ids p q r t files h = subst₂ (λ xs ys. Supplies find xs ys) (simp append_assoc) (simp append_assoc) h

three_apart : (find : ℕ → Option Table) (a b c ids : List ℕ) (p q r files : List ReadSpec) → Supplies find (((a ++ b) ++ c) ++ ids) (((p ++ q) ++ r) ++ files)
    → Supplies find (a ++ (b ++ (c ++ ids))) (p ++ (q ++ (r ++ files)))
three_apart find a b c ids p q r files h = subst₂ (λ xs ys. Supplies find xs ys) (simp append_assoc) (simp append_assoc) h

-- `last` is the point behind the whole script, at which the types of all variables are known
pub runs_on : (g : Supply) (last s : Scope) (b : Block) (ids : List ℕ) (files : List ReadSpec) → Stays (after s b) last → Top s → break_in s b ≡ None → Supplies (finds g) (reads_of b ++ ids) (files_of b ++ files) → PassesOn g last s b ids files
unfolding run after break_in reads_of files_of
runs_on g last s done ids files stays top e supplies = record { runs = λ st keeps. went keeps; rest = supplies }
runs_on g last s (assign at x tree rest) ids files stays top e supplies =
    let of_x = valued g s tree (reads_of rest ++ ids) (files_of rest ++ files) top (or_left _ _ e) (supplies_apart (finds g) (reads_in tree) (reads_of rest) ids (files_in tree) (files_of rest) files supplies) in
    let next = runs_on g last (after_assignment s x (shape_of s tree)) rest ids files stays (assigned_top s x tree top (or_left _ _ e)) (or_right _ _ (or_right _ _ e)) of_x.rest in
    let first : keeps_shape (shape_among s.vars x) (Some of_x.kind) ≡ true = ap (keeps_shape (shape_among s.vars x)) (sym of_x.is) ∙ passes (keeps_shape (shape_among s.vars x) (shape_of s tree)) at TypeChanged (or_left _ _ (or_right _ _ e)) in
    let own = own_type s last x of_x.kind first (subst (λ found. Stays (after_assignment s x found) last) of_x.is (stays_on (stays_after (after_assignment s x (shape_of s tree)) rest) stays)) in
    record {
      runs = λ st keeps. behind_runs (run g rest)
          (evaluated_runs st _ top keeps of_x (λ a n h. went (record { surely = subst (λ found. Keeps (after_assignment s x found) (assigned x a st.env)) (sym of_x.is) (keeps_assigned x keeps.surely first h); all = typed_assigned x keeps.all own h }))) next.runs;
      rest = next.rest;
    }
runs_on g last s (print at tree rest) ids files stays top e supplies =
    let of_x = valued g s tree (reads_of rest ++ ids) (files_of rest ++ files) top (or_left _ _ e) (supplies_apart (finds g) (reads_in tree) (reads_of rest) ids (files_in tree) (files_of rest) files supplies) in
    let next = runs_on g last s rest ids files stays top (or_right _ _ (or_right _ _ e)) of_x.rest in
    let fits : is_printed (Some of_x.kind) ≡ true = ap is_printed (sym of_x.is) ∙ passes (is_printed (shape_of s tree)) at WrongType (or_left _ _ (or_right _ _ e)) in
    record { runs = λ st keeps. behind_runs (run g rest) (evaluated_runs st _ top keeps of_x (λ a n h. printed_runs (record (begun st) { seen = n }) fits h keeps)) next.runs; rest = next.rest }
runs_on g last s (export at tree rest) ids files stays top e supplies =
    let of_x = valued g s tree (reads_of rest ++ ids) (files_of rest ++ files) top (or_left _ _ e) (supplies_apart (finds g) (reads_in tree) (reads_of rest) ids (files_in tree) (files_of rest) files supplies) in
    let next = runs_on g last s rest ids files stays top (or_right _ _ (or_right _ _ e)) of_x.rest in
    let fits : is_frame (Some of_x.kind) ≡ true = ap is_frame (sym of_x.is) ∙ passes (is_frame (shape_of s tree)) at WrongType (or_left _ _ (or_right _ _ e)) in
    record { runs = λ st keeps. behind_runs (run g rest) (evaluated_runs st _ top keeps of_x (λ a n h. exported_runs (record (begun st) { seen = n }) fits h keeps)) next.runs; rest = next.rest }
runs_on g last s (choose at test body other rest) ids files stays top e supplies =
    let inner = or_right _ _ (or_right _ _ e) in
    let first_scope = after s body in
    let second_scope = after (second_branch s (after s body)) other in
    let of_x = valued g s test (reads_of body ++ (reads_of other ++ (reads_of rest ++ ids))) (files_of body ++ (files_of other ++ (files_of rest ++ files))) top (or_left _ _ e)
    (four_apart (finds g) (reads_in test) (reads_of body) (reads_of other) (reads_of rest) ids (files_in test) (files_of body) (files_of other) (files_of rest) files supplies) in
    let fits : is_test (Some of_x.kind) ≡ true = ap is_test (sym of_x.is) ∙ passes (is_test (shape_of s test)) at WrongType (or_left _ _ (or_right _ _ e)) in
    let first_passed = (passes_on s body top.sound (or_left _ _ inner)).sound in
    let next_stays = stays_on (stays_after (behind_branches first_scope second_scope) rest) stays in
    let second_stays : Stays second_scope last = record { stays = λ x k h. next_stays.stays x k h } in
    let first_stays : Stays first_scope last = record { stays = λ x k h. second_stays.stays x k ((stays_after (second_branch s first_scope) other).stays x k h) } in
    let first = runs_on g last s body (reads_of other ++ (reads_of rest ++ ids)) (files_of other ++ (files_of rest ++ files)) first_stays top (or_left _ _ inner) of_x.rest in
    let second_sound = second_sound s body top.sound first_passed in
    let first_beside = beside_after s body in
    let second_top = top_beside top (record { parameters = first_beside.parameters; around = first_beside.around }) second_sound in
    let second = runs_on g last (second_branch s (after s body)) other (reads_of rest ++ ids) (files_of rest ++ files) second_stays second_top (or_left _ _ (or_right _ _ inner)) first.rest in
    let second_passed = (passes_on (second_branch s (after s body)) other second_sound (or_left _ _ (or_right _ _ inner))).sound in
    let second_beside = beside_after (second_branch s (after s body)) other in
    let next_top = top_beside second_top (record { parameters = second_beside.parameters; around = second_beside.around }) (branches_sound (after s body) (after (second_branch s (after s body)) other) second_passed) in
    let next = runs_on g last (behind_branches (after s body) (after (second_branch s (after s body)) other)) rest ids files stays next_top (or_right _ _ (or_right _ _ inner)) second.rest in
    record {
      runs = λ st keeps. behind_runs (run g rest)
          (evaluated_runs st _ top keeps of_x (λ a n h. branch_runs (record (begun st) { seen = n }) (run g body) (run g other) fits h
          (weaker (first.runs (record (begun st) { seen = n }) keeps) (first_keeps s body other))
          (weaker (second.runs (record (begun st) { seen = n }) (other_keeps s body st keeps)) (second_keeps s body other)))) next.runs;
      rest = next.rest;
    }
runs_on g last s (loop at test body rest) ids files stays top e supplies =
    let inner = or_right _ _ (or_right _ _ e) in
    let of_x = valued g s test (reads_of body ++ (reads_of rest ++ ids)) (files_of body ++ (files_of rest ++ files)) top (or_left _ _ e)
    (three_apart (finds g) (reads_in test) (reads_of body) (reads_of rest) ids (files_in test) (files_of body) (files_of rest) files supplies) in
    let fits : is_test (Some of_x.kind) ≡ true = ap is_test (sym of_x.is) ∙ passes (is_test (shape_of s test)) at WrongType (or_left _ _ (or_right _ _ e)) in
    let next_stays = stays_on (stays_after (behind_loop s (after s body)) rest) stays in
    let first = runs_on g last s body (reads_of rest ++ ids) (files_of rest ++ files) (record { stays = λ x k h. next_stays.stays x k h }) top (or_left _ _ inner) of_x.rest in
    let first_passed = (passes_on s body top.sound (or_left _ _ inner)).sound in
    let first_beside = beside_after s body in
    let next_top = top_beside top (record { parameters = first_beside.parameters; around = first_beside.around }) (loop_sound s (after s body) first_passed) in
    let next = runs_on g last (behind_loop s (after s body)) rest ids files stays next_top (or_right _ _ inner) first.rest in
    record {
      runs = λ st keeps. behind_runs (run g rest)
          (weaker (turns_run (suc st.fuel) (run g body) (begun st) fits top of_x.safe (λ t k. weaker (first.runs t k) (λ u later. moved (keeps_down s body top.sound.known) later)) keeps) (loop_keeps s body)) next.runs;
      rest = next.rest;
    }
