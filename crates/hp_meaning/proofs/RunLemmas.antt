-- How runs of statements go on from their first part.
use Rattle.std.proofs.Common.{◌≡◌, ◌≢◌, ℕ, ℤ, suc, ◌+◌, ◌<◌, ◌≤◌, Bool, true, false, if◌then◌else◌, List, [], ◌∷◌, ◌++◌, length, get_or, drop, drop-cons, Option, Some, None, Result, Ok, Err, refl, ap, sym, ◌∙◌, add-one}
use Rattle.std.specs.Prelude.{IsSomeAnd}
use Rattle.std.proofs.lemmas.List.{drop_all}
use Rattle.hp_word.specs.declared.name.Name.{Name}
use Rattle.hp_word.specs.declared.place.Place.{Place}
use Rattle.hp_word.specs.Words.{is_true}
use Rattle.hp_script.specs.declared.tree.Expr.{Expr}
use Rattle.hp_script.specs.declared.tree.Stmt.{Stmt}
use Rattle.hp_script.specs.declared.tree.Stmt.TheVariants as stmts
use Rattle.hp_script.specs.declared.tree.Stmt.TheViews.{If, While}
use Rattle.hp_script.specs.Mirror.{Tree, Block, done, tree_of, block_of, stmt_of}
use Rattle.hp_script.proofs.MirrorLemmas.{block_choose, block_loop}
use Rattle.hp_meaning.specs.declared.seen.Seen.{Seen}
use Rattle.hp_meaning.specs.declared.seen.Stop.{Stop}
use Rattle.hp_meaning.specs.declared.seen.Stop.TheVariants as stop
use Rattle.hp_meaning.specs.declared.stmts.Halt.{Halt}
use Rattle.hp_meaning.specs.declared.stmts.Halt.TheVariants as halt
use Rattle.hp_meaning.specs.declared.value.Value.{Value}
use Rattle.hp_meaning.specs.declared.value.Var.{Var}
use Rattle.hp_meaning.specs.Halts.{halt_of}
use Rattle.hp_meaning.specs.Operands.{as_truth}
use Rattle.hp_meaning.specs.Outcomes.{Outcome, Is, stopped, tick}
use Rattle.hp_meaning.specs.Printouts.{printout, export_text}
use Rattle.hp_meaning.specs.Run.{State, Ran, begun, using_value, store, written, branch, decided, in_turn, evaluated, run}
use Rattle.hp_word.specs.Runs.{Went, Trapped, Spent, Mistaken, behind, turns}
use Rattle.hp_meaning.specs.Running.{halted_at, RunsTo, assign_run, print_run, export_run, tested}
use Rattle.hp_meaning.specs.Scopes.{outside, assigned}
use Rattle.hp_meaning.specs.ValueOf.{Supply, value}

-- ---- the value of an expression

abbrev seen_then : State → Seen → State
seen_then s n = record s { seen = n }

-- want of memory stands for nothing
pub no_memory : (ran : Ran) (e : Halt) (s : State) → e ≡ halt.NoMemory → RunsTo {A = Unit {0}} ran (Err e) s
no_memory ran e s none = λ ne. absurd (ne none)

pub value_stops : (o : Outcome Value) (e : Stop) (n : Seen) (s : State) (more : Value → State → Ran) → (e ≢ stop.NoMemory → o ≡ stopped e n)
    → halt_of e ≢ halt.NoMemory → using_value s o more ≡ halted_at (halt_of e) (seen_then s n)
unfolding stopped halted_at
value_stops o (stop.Trap t) n s more h ne = ap (λ o. using_value s o more) (h (λ e. absurd cc))
value_stops o stop.Wrong n s more h ne = ap (λ o. using_value s o more) (h (λ e. absurd cc))
value_stops o stop.NoMemory n s more h ne = absurd (ne refl)

pub value_is : (o : Outcome Value) (a : Value) (n : Seen) (s : State) (more : Value → State → Ran) → o ≡ Is a n → using_value s o more ≡ more a (seen_then s n)
value_is o a n s more e = ap (λ o. using_value s o more) e

-- ---- behind a run

pub behind_went : (r : Ran) (more : State → Ran) (s : State) → r ≡ Went s → behind r more ≡ more s
behind_went r more s e = ap (λ r. behind r more) e

halts_on : (e : Halt) (s : State) (more : State → Ran) → behind (halted_at e s) more ≡ halted_at e s
unfolding halted_at
halts_on (halt.Trap t) s more = refl
halts_on halt.Fuel s more = refl
halts_on halt.Wrong s more = refl
halts_on halt.NoMemory s more = refl

pub behind_halts : (r : Ran) (more : State → Ran) (e : Halt) (s : State) → r ≡ halted_at e s → behind r more ≡ halted_at e s
behind_halts r more e s h = ap (λ r. behind r more) h ∙ halts_on e s more

behind_done : (g : Supply) (r : Ran) → behind r (run g done) ≡ r
unfolding run
behind_done g (Went s) = refl
behind_done g (Trapped t s) = refl
behind_done g (Spent s) = refl
behind_done g Mistaken = refl

behind_twice : (g : Supply) (r : Ran) (more : State → Ran) → behind (behind r (run g done)) more ≡ behind r more
behind_twice g r more = ap (λ r. behind r more) (behind_done g r)

-- one statement and those behind it
run_parts : (g : Supply) (x : Stmt) (rest : Block) (s : State) → run g (stmt_of x rest) s ≡ behind (run g (stmt_of x done) s) (run g rest)
unfolding run stmt_of
run_parts g (stmts.Assign at name x) rest s = sym (behind_twice g _ (run g rest))
run_parts g (stmts.Print at x) rest s = sym (behind_twice g _ (run g rest))
run_parts g (stmts.Export at x) rest s = sym (behind_twice g _ (run g rest))
run_parts g (stmts.If' at test p body q other) rest s = sym (behind_twice g _ (run g rest))
run_parts g (stmts.While' at test p body) rest s = sym (behind_twice g _ (run g rest))

run_cons : (g : Supply) (x : Stmt) (rest : List Stmt) (s : State) → run g (block_of (x ∷ rest)) s ≡ behind (run g (block_of (x ∷ [])) s) (run g (block_of rest))
unfolding block_of
run_cons g x rest s = run_parts g x (block_of rest) s

next_is : (body : List Stmt) (i : ℕ) (x : Stmt) → i < length body → x ≡ get_or body i x → drop i body ≡ x ∷ drop (suc i) body
next_is body i x lt is = drop-cons body i x lt ∙ ap (λ t. t ∷ drop (suc i) body) (sym is)

at_statement : (g : Supply) (body : List Stmt) (i : ℕ) (x : Stmt) (s : State) → i < length body → x ≡ get_or body i x
    → run g (block_of (drop i body)) s ≡ behind (run g (block_of (x ∷ [])) s) (run g (block_of (drop (i + 1) body)))
at_statement g body i x s lt is =
    ap (λ rest. run g (block_of rest) s) (next_is body i x lt is) ∙ run_cons g x (drop (suc i) body) s
    ∙ ap (λ k. behind (run g (block_of (x ∷ [])) s) (run g (block_of (drop k body)))) (sym (add-one i))

pub run_more : (g : Supply) (body : List Stmt) (i : ℕ) (x : Stmt) (before s now : State) → i < length body → x ≡ get_or body i x
    → run g (block_of body) before ≡ run g (block_of (drop i body)) s → run g (block_of (x ∷ [])) s ≡ Went now → run g (block_of body) before ≡ run g (block_of (drop (i + 1) body)) now
run_more g body i x before s now lt is h e = h ∙ at_statement g body i x s lt is ∙ behind_went _ (run g (block_of (drop (i + 1) body))) now e

pub run_halts : (g : Supply) (body : List Stmt) (i : ℕ) (x : Stmt) (before s now : State) (e : Halt) → i < length body → x ≡ get_or body i x
    → run g (block_of body) before ≡ run g (block_of (drop i body)) s → (e ≢ halt.NoMemory → run g (block_of (x ∷ [])) s ≡ halted_at e now) → e ≢ halt.NoMemory → run g (block_of body) before ≡ halted_at e now
run_halts g body i x before s now e lt is h told ne = h ∙ at_statement g body i x s lt is ∙ behind_halts _ (run g (block_of (drop (i + 1) body))) e now (told ne)

pub run_ends : (g : Supply) (body : List Stmt) (i : ℕ) (before s : State) → length body ≤ i → run g (block_of body) before ≡ run g (block_of (drop i body)) s → run g (block_of body) before ≡ Went s
unfolding run block_of
run_ends g body i before s le h = h ∙ ap (λ rest. run g (block_of rest) s) (drop_all i body le)

-- ---- statements

runs_same : {A : Type 0} (a b : Ran) (r : Result A Halt) (s : State) → a ≡ b → RunsTo b r s → RunsTo a r s
runs_same a b (Ok x) s e h = e ∙ h
runs_same a b (Err x) s e h = λ ne. e ∙ h ne

pub assign_goes : (g : Supply) (stmt : Stmt) (at : Place) (name : Name) (x : Expr) (s now : State) (r : Result (Unit {0}) Halt) → stmt ≡ stmts.Assign at name x
    → RunsTo (assign_run g name.bytes (tree_of x) s) r now → RunsTo (run g (block_of (stmt ∷ [])) s) r now
unfolding run block_of stmt_of assign_run
assign_goes g stmt at name x s now r is h = runs_same _ _ r now (ap (λ z. run g (block_of (z ∷ [])) s) is ∙ behind_done g _) h

pub print_goes : (g : Supply) (stmt : Stmt) (at : Place) (x : Expr) (s now : State) (r : Result (Unit {0}) Halt) → stmt ≡ stmts.Print at x
    → RunsTo (print_run g (tree_of x) s) r now → RunsTo (run g (block_of (stmt ∷ [])) s) r now
unfolding run block_of stmt_of print_run
print_goes g stmt at x s now r is h = runs_same _ _ r now (ap (λ z. run g (block_of (z ∷ [])) s) is ∙ behind_done g _) h

pub export_goes : (g : Supply) (stmt : Stmt) (at : Place) (x : Expr) (s now : State) (r : Result (Unit {0}) Halt) → stmt ≡ stmts.Export at x
    → RunsTo (export_run g (tree_of x) s) r now → RunsTo (run g (block_of (stmt ∷ [])) s) r now
unfolding run block_of stmt_of export_run
export_goes g stmt at x s now r is h = runs_same _ _ r now (ap (λ z. run g (block_of (z ∷ [])) s) is ∙ behind_done g _) h

-- a branch is by its test, after one more tick
choose_is : (g : Supply) (stmt : Stmt) (at : Place) (test : Expr) (body other : List Stmt) (s : State) → stmt ≡ If at test body other
    → run g (block_of (stmt ∷ [])) s ≡ tested g (tree_of test) (run g (block_of body)) (run g (block_of other)) (begun s)
unfolding run tested block_of
choose_is g stmt at test body other s is =
    ap (λ z. run g (block_of (z ∷ [])) s) is ∙ ap (λ b. run g b s) (block_choose at test body other []) ∙ behind_done g (tested g (tree_of test) (run g (block_of body)) (run g (block_of other)) (begun s))

pub if_stops : (g : Supply) (stmt : Stmt) (at : Place) (test : Expr) (body other : List Stmt) (s now : State) (m : Seen) (e : Halt) → stmt ≡ If at test body other → m ≡ tick s.seen
    → (e ≢ halt.NoMemory → (first second : State → Ran) → tested g (tree_of test) first second (seen_then s m) ≡ halted_at e now)
    → e ≢ halt.NoMemory → run g (block_of (stmt ∷ [])) s ≡ halted_at e now
if_stops g stmt at test body other s now m e is ticked h ne =
    choose_is g stmt at test body other s is ∙ ap (λ m. tested g (tree_of test) (run g (block_of body)) (run g (block_of other)) (seen_then s m)) (sym ticked)
    ∙ h ne (run g (block_of body)) (run g (block_of other))

if_then : (g : Supply) (stmt : Stmt) (at : Place) (test : Expr) (body other : List Stmt) (s now : State) (m : Seen) (holds : Bool) → stmt ≡ If at test body other → m ≡ tick s.seen
    → ((first second : State → Ran) → tested g (tree_of test) first second (seen_then s m) ≡ (if holds then first now else second now))
    → run g (block_of (stmt ∷ [])) s ≡ (if holds then run g (block_of body) now else run g (block_of other) now)
if_then g stmt at test body other s now m holds is ticked h =
    choose_is g stmt at test body other s is ∙ ap (λ m. tested g (tree_of test) (run g (block_of body)) (run g (block_of other)) (seen_then s m)) (sym ticked)
    ∙ h (run g (block_of body)) (run g (block_of other))

pub if_first : (g : Supply) (stmt : Stmt) (at : Place) (test : Expr) (body other taken : List Stmt) (s now after : State) (m : Seen) (r : Result (Unit {0}) Halt) (holds : Bool) → stmt ≡ If at test body other → m ≡ tick s.seen
    → ((first second : State → Ran) → tested g (tree_of test) first second (seen_then s m) ≡ (if holds then first now else second now)) → holds ≡ true → taken ≡ body
    → RunsTo (run g (block_of taken) now) r after → RunsTo (run g (block_of (stmt ∷ [])) s) r after
if_first g stmt at test body other taken s now after m r holds is ticked h true_is same runs =
    runs_same _ (run g (block_of taken) now) r after
    (if_then g stmt at test body other s now m holds is ticked h ∙ ap (λ b. if b then run g (block_of body) now else run g (block_of other) now) true_is ∙ ap (λ b. run g (block_of b) now) (sym same)) runs

pub if_second : (g : Supply) (stmt : Stmt) (at : Place) (test : Expr) (body other taken : List Stmt) (s now after : State) (m : Seen) (r : Result (Unit {0}) Halt) (holds : Bool) → stmt ≡ If at test body other → m ≡ tick s.seen
    → ((first second : State → Ran) → tested g (tree_of test) first second (seen_then s m) ≡ (if holds then first now else second now)) → holds ≡ false → taken ≡ other
    → RunsTo (run g (block_of taken) now) r after → RunsTo (run g (block_of (stmt ∷ [])) s) r after
if_second g stmt at test body other taken s now after m r holds is ticked h false_is same runs =
    runs_same _ (run g (block_of taken) now) r after
    (if_then g stmt at test body other s now m holds is ticked h ∙ ap (λ b. if b then run g (block_of body) now else run g (block_of other) now) false_is ∙ ap (λ b. run g (block_of b) now) (sym same)) runs

-- a loop is its turns, after one more tick
loop_is : (g : Supply) (stmt : Stmt) (at : Place) (test : Expr) (body : List Stmt) (s : State) → stmt ≡ While at test body
    → run g (block_of (stmt ∷ [])) s ≡ turns (suc s.fuel) (decided (value g (tree_of test))) (in_turn (run g (block_of body))) (begun s)
unfolding run block_of
loop_is g stmt at test body s is =
    ap (λ z. run g (block_of (z ∷ [])) s) is ∙ ap (λ b. run g b s) (block_loop at test body []) ∙ behind_done g (turns (suc s.fuel) (decided (value g (tree_of test))) (in_turn (run g (block_of body))) (begun s))

pub loop_goes : (g : Supply) (stmt : Stmt) (at : Place) (test : Expr) (body taken : List Stmt) (s now : State) (m : Seen) (r : Result (Unit {0}) Halt) → stmt ≡ While at test body → m ≡ tick s.seen → taken ≡ body
    → RunsTo (turns (s.fuel + 1) (decided (value g (tree_of test))) (in_turn (run g (block_of taken))) (seen_then s m)) r now → RunsTo (run g (block_of (stmt ∷ [])) s) r now
loop_goes g stmt at test body taken s now m r is ticked same h =
    runs_same _ (turns (s.fuel + 1) (decided (value g (tree_of test))) (in_turn (run g (block_of taken))) (seen_then s m)) r now
    (loop_is g stmt at test body s is ∙ ap (λ k. turns k (decided (value g (tree_of test))) (in_turn (run g (block_of body))) (begun s)) (sym (add-one s.fuel))
    ∙ ap (λ b. turns (s.fuel + 1) (decided (value g (tree_of test))) (in_turn (run g (block_of b))) (begun s)) (sym same)
    ∙ ap (λ m. turns (s.fuel + 1) (decided (value g (tree_of test))) (in_turn (run g (block_of taken))) (seen_then s m)) (sym ticked)) h

-- ---- statements with an expression

held_stops : (g : Supply) (t : Tree) (s : State) (m n : Seen) (e : Stop) (more : Value → State → Ran) → m ≡ tick s.seen → (e ≢ stop.NoMemory → value g t (outside s.env) m ≡ stopped e n)
    → halt_of e ≢ halt.NoMemory → evaluated g (value g t) s more ≡ halted_at (halt_of e) (seen_then s n)
held_stops g t s m n e more ticked h ne =
    ap (λ m. using_value (seen_then s m) (value g t (outside s.env) m) more) (sym ticked) ∙ value_stops (value g t (outside s.env) m) e n (seen_then s m) more h ne

held_is : (g : Supply) (t : Tree) (s : State) (m n : Seen) (a : Value) (more : Value → State → Ran) → m ≡ tick s.seen → value g t (outside s.env) m ≡ Is a n → evaluated g (value g t) s more ≡ more a (seen_then s n)
held_is g t s m n a more ticked h =
    ap (λ m. using_value (seen_then s m) (value g t (outside s.env) m) more) (sym ticked) ∙ value_is (value g t (outside s.env) m) a n (seen_then s m) more h

pub assign_stops : (g : Supply) (name : List ℕ) (t : Tree) (s : State) (m n : Seen) (e : Stop) → m ≡ tick s.seen → (e ≢ stop.NoMemory → value g t (outside s.env) m ≡ stopped e n)
    → halt_of e ≢ halt.NoMemory → assign_run g name t s ≡ halted_at (halt_of e) (seen_then s n)
unfolding assign_run
assign_stops g name t s m n e ticked h ne = held_stops g t s m n e _ ticked h ne

pub assign_made : (g : Supply) (name : List ℕ) (t : Tree) (s : State) (m n : Seen) (a made : Value) (vars : List Var) → m ≡ tick s.seen → value g t (outside s.env) m ≡ Is a n → made ≡ a → vars ≡ assigned name made s.env
    → assign_run g name t s ≡ Went (record s { env = vars; seen = n })
unfolding assign_run
assign_made g name t s m n a made vars ticked h same e =
    held_is g t s m n a (λ a s. Went (store name a s)) ticked h ∙ ap (λ a. Went (store name a (seen_then s n))) (sym same) ∙ ap (λ (vars : List Var). Went (record s { env = vars; seen = n })) (sym e)

written_is : (found : Option (List ℕ)) (s : State) (out : List ℕ) → IsSomeAnd found (λ bytes. out ≡ s.out ++ bytes) → written found s ≡ Went (record s { out = out })
written_is None s out h = absurd h
written_is (Some bytes) s out h = ap (λ (out : List ℕ). Went (record s { out = out })) (sym h)

wrong_is : (found : Option (List ℕ)) (e : Stop) (s now : State) (out before : List ℕ) → (e ≢ stop.NoMemory → (e ≡ stop.Wrong) × (found ≡ None) × (out ≡ before))
    → halt_of e ≢ halt.NoMemory → written found s ≡ halted_at (halt_of e) now
unfolding halted_at
wrong_is found (stop.Trap t) s now out before h ne = let wrong = (h (λ e. absurd cc)).0 in absurd cc
wrong_is found stop.Wrong s now out before h ne = ap (λ found. written found s) (h (λ e. absurd cc)).1
wrong_is found stop.NoMemory s now out before h ne = absurd (ne refl)

pub print_stops : (g : Supply) (t : Tree) (s : State) (m n : Seen) (e : Stop) → m ≡ tick s.seen → (e ≢ stop.NoMemory → value g t (outside s.env) m ≡ stopped e n)
    → halt_of e ≢ halt.NoMemory → print_run g t s ≡ halted_at (halt_of e) (seen_then s n)
unfolding print_run
print_stops g t s m n e ticked h ne = held_stops g t s m n e _ ticked h ne

pub print_made : (g : Supply) (t : Tree) (s : State) (m n : Seen) (a b : Value) (out : List ℕ) → m ≡ tick s.seen → value g t (outside s.env) m ≡ Is a n → b ≡ a → IsSomeAnd (printout b) (λ bytes. out ≡ s.out ++ bytes)
    → print_run g t s ≡ Went (record s { seen = n; out = out })
unfolding print_run
print_made g t s m n a b out ticked h same e =
    held_is g t s m n a (λ a. written (printout a)) ticked h ∙ ap (λ a. written (printout a) (seen_then s n)) (sym same) ∙ written_is (printout b) (seen_then s n) out e

pub print_wrong : (g : Supply) (t : Tree) (s now : State) (m n : Seen) (a b : Value) (e : Stop) (out before : List ℕ) → m ≡ tick s.seen → value g t (outside s.env) m ≡ Is a n → b ≡ a
    → (e ≢ stop.NoMemory → (e ≡ stop.Wrong) × (printout b ≡ None) × (out ≡ before)) → halt_of e ≢ halt.NoMemory → print_run g t s ≡ halted_at (halt_of e) now
unfolding print_run
print_wrong g t s now m n a b e out before ticked h same told ne =
    held_is g t s m n a (λ a. written (printout a)) ticked h ∙ ap (λ a. written (printout a) (seen_then s n)) (sym same) ∙ wrong_is (printout b) e (seen_then s n) now out before told ne

pub export_stops : (g : Supply) (t : Tree) (s : State) (m n : Seen) (e : Stop) → m ≡ tick s.seen → (e ≢ stop.NoMemory → value g t (outside s.env) m ≡ stopped e n)
    → halt_of e ≢ halt.NoMemory → export_run g t s ≡ halted_at (halt_of e) (seen_then s n)
unfolding export_run
export_stops g t s m n e ticked h ne = held_stops g t s m n e _ ticked h ne

pub export_made : (g : Supply) (t : Tree) (s : State) (m n : Seen) (a b : Value) (out : List ℕ) → m ≡ tick s.seen → value g t (outside s.env) m ≡ Is a n → b ≡ a → IsSomeAnd (export_text b) (λ bytes. out ≡ s.out ++ bytes)
    → export_run g t s ≡ Went (record s { seen = n; out = out })
unfolding export_run
export_made g t s m n a b out ticked h same e =
    held_is g t s m n a (λ a. written (export_text a)) ticked h ∙ ap (λ a. written (export_text a) (seen_then s n)) (sym same) ∙ written_is (export_text b) (seen_then s n) out e

pub export_wrong : (g : Supply) (t : Tree) (s now : State) (m n : Seen) (a b : Value) (e : Stop) (out before : List ℕ) → m ≡ tick s.seen → value g t (outside s.env) m ≡ Is a n → b ≡ a
    → (e ≢ stop.NoMemory → (e ≡ stop.Wrong) × (export_text b ≡ None) × (out ≡ before)) → halt_of e ≢ halt.NoMemory → export_run g t s ≡ halted_at (halt_of e) now
unfolding export_run
export_wrong g t s now m n a b e out before ticked h same told ne =
    held_is g t s m n a (λ a. written (export_text a)) ticked h ∙ ap (λ a. written (export_text a) (seen_then s n)) (sym same) ∙ wrong_is (export_text b) e (seen_then s n) now out before told ne

-- ---- tests

pub test_stops : (g : Supply) (t : Tree) (s : State) (n : Seen) (e : Stop) → (e ≢ stop.NoMemory → value g t (outside s.env) s.seen ≡ stopped e n)
    → halt_of e ≢ halt.NoMemory → (first second : State → Ran) → tested g t first second s ≡ halted_at (halt_of e) (seen_then s n)
unfolding tested
test_stops g t s n e h ne first second = value_stops (value g t (outside s.env) s.seen) e n s (λ a. branch a first second) h ne

tested_is : (g : Supply) (t : Tree) (s : State) (n : Seen) (a b : Value) (first second : State → Ran) → value g t (outside s.env) s.seen ≡ Is a n → b ≡ a → tested g t first second s ≡ branch b first second (seen_then s n)
unfolding tested
tested_is g t s n a b first second h same =
    value_is (value g t (outside s.env) s.seen) a n s (λ a. branch a first second) h ∙ ap (λ a. branch a first second (seen_then s n)) (sym same)

pub test_wrong : (g : Supply) (t : Tree) (s now : State) (n : Seen) (a b : Value) (e : Stop) → value g t (outside s.env) s.seen ≡ Is a n → b ≡ a → (e ≡ stop.Wrong) × (as_truth b ≡ None)
    → halt_of e ≢ halt.NoMemory → (first second : State → Ran) → tested g t first second s ≡ halted_at (halt_of e) now
unfolding halted_at
test_wrong g t s now n a b e h same told ne first second =
    tested_is g t s n a b first second h same
    ∙ ap (λ (o : Option ℤ). elim o [ None ↦ Mistaken | Some x ↦ if is_true x then first (seen_then s n) else second (seen_then s n) ]) told.1
    ∙ sym (ap (λ e. halted_at (halt_of e) now) told.0)

pub test_made : (g : Supply) (t : Tree) (s : State) (n : Seen) (a b : Value) (x : ℤ) (holds : Bool) → value g t (outside s.env) s.seen ≡ Is a n → b ≡ a → as_truth b ≡ Some x → holds ≡ is_true x
    → (first second : State → Ran) → tested g t first second s ≡ (if holds then first (seen_then s n) else second (seen_then s n))
test_made g t s n a b x holds h same word truth first second =
    let now = seen_then s n in
    tested_is g t s n a b first second h same
    ∙ ap (λ (o : Option ℤ). elim o [ None ↦ Mistaken | Some x ↦ if is_true x then first now else second now ]) word
    ∙ ap (λ b. if b then first now else second now) (sym truth)
