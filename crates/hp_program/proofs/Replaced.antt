-- Where steps that do the same stand for each operation, the whole program does the same.
use Rattle.std.proofs.Common.{◌≡◌, ℕ, zero, suc, ◌≤◌, ◌==◌, Bool, true, false, cond, List, [], ◌∷◌, ◌++◌, flat_map, Result, Ok, Err, refl, sym, ap, subst, ◌∙◌, append_assoc, arith}
use Rattle.std.proofs.lemmas.Grind.{flat_map-append}
use Rattle.std.specs.List.{AllByRecursion}
use Rattle.hp_word.specs.declared.place.Trap.{Trap}
use Rattle.hp_word.specs.Runs.{State, Ran, Went, Trapped, Spent, Mistaken, Runs, behind, turned, turn, turns}
use Rattle.hp_word.specs.Words.{is_true}
use Rattle.hp_program.specs.Programs.{Prog, stop, plain, choose, loop, joined, operations, tests, replaced, Effect, Doing, worked, told, step, by_word, decided, run, with_units, IsLike, EndsAs, EndsLike, both_went, both_trapped, both_spent}

-- ---- one program behind another

pub behind_behind : {E : Type 0} (ran : Ran E ℕ) (f h : Runs E ℕ) → behind (behind ran f) h ≡ behind ran (λ s. behind (f s) h)
behind_behind (Went s) f h = refl
behind_behind (Trapped t s) f h = refl
behind_behind (Spent s) f h = refl
behind_behind Mistaken f h = refl

pub same_behind : {E : Type 0} (ran : Ran E ℕ) (f h : Runs E ℕ) → ((s : State E ℕ) → f s ≡ h s) → behind ran f ≡ behind ran h
same_behind (Went s) f h same = same s
same_behind (Trapped t s) f h same = refl
same_behind (Spent s) f h same = refl
same_behind Mistaken f h same = refl

-- a run of the second program goes on where that of the first has gone
pub run_joined : {Op E : Type 0} (d : Doing Op E) (p q : Prog Op) (s : State E ℕ) → run d (joined p q) s ≡ behind (run d p s) (run d q)
unfolding run joined
run_joined d stop q s = refl
run_joined d (plain op p) q s = same_behind (step d op s) _ _ (run_joined d p q) ∙ sym (behind_behind (step d op s) (run d p) (run d q))
run_joined d (choose w first second p) q s =
    let before : Ran _ ℕ = by_word d w (run d first) (run d second) s in
    same_behind before _ _ (run_joined d p q) ∙ sym (behind_behind before (run d p) (run d q))
run_joined d (loop test w body p) q s =
    let before : Ran _ ℕ = turns (suc s.fuel) (decided d (run d test) w) (run d body) s in
    same_behind before _ _ (run_joined d p q) ∙ sym (behind_behind before (run d p) (run d q))

-- ---- runs that end alike

behind_like : {E F : Type 0} {R T : E → F → Type 0} {a : Ran E ℕ} {b : Ran F ℕ} (f : Runs E ℕ) (h : Runs F ℕ) → EndsAs R T a b → ((s : State E ℕ) (t : State F ℕ) → IsLike R s t → EndsAs R T (f s) (h t)) → EndsAs R T (behind a f) (behind b h)
behind_like f h (both_went {s = s} {t = t} like) next = next s t like
behind_like f h (both_trapped like) next = both_trapped like
behind_like f h (both_spent like) next = both_spent like

like_if : {E F : Type 0} {R T : E → F → Type 0} {a b : Ran E ℕ} {c d : Ran F ℕ} (holds other : Bool) → holds ≡ other → EndsAs R T a c → EndsAs R T b d → EndsAs R T (cond holds a b) (cond other c d)
like_if true true same p q = p
like_if true false same p q = absurd cc
like_if false true same p q = absurd cc
like_if false false same p q = q

more_work : {E F : Type 0} {R : E → F → Type 0} {s : State E ℕ} {t : State F ℕ} (units : ℕ) → IsLike R s t → IsLike R (worked units s) (worked units t)
more_work units like = record { env = like.env; out = like.out; fuel = like.fuel; work = let le = like.work in omega arith }

fewer_turns : {E F : Type 0} {R : E → F → Type 0} {s : State E ℕ} {t : State F ℕ} → IsLike R s t → IsLike R (turned s) (turned t)
fewer_turns like = record { env = like.env; out = like.out; fuel = let same = like.fuel in omega arith; work = like.work }

-- The two ways do the same: words agree, and the steps that stand for an operation of this kind end as it does.
pub record DoAlike {Op Op2 E F : Type 0} (R T : E → F → Type 0) (IsFit : Op → Type 0) (d : Doing Op E) (d2 : Doing Op2 F) (steps : Op → Prog Op2) : Type 0 where
  pub words : (e : E) (f : F) (w : ℕ) → R e f → d.word e w ≡ d2.word f w
  pub ops : (op : Op) → IsFit op → (s : State E ℕ) (t : State F ℕ) → IsLike R s t → EndsAs R T (step d op s) (run d2 (steps op) t)

by_word_like : {Op Op2 E F : Type 0} {R T : E → F → Type 0} (d : Doing Op E) (d2 : Doing Op2 F) (w : ℕ) (f f2 : Runs E ℕ) (h h2 : Runs F ℕ) (s : State E ℕ) (t : State F ℕ)
    → ((e : E) (k : F) (v : ℕ) → R e k → d.word e v ≡ d2.word k v) → ((u : State E ℕ) (v : State F ℕ) → IsLike R u v → EndsAs R T (f u) (h v)) → ((u : State E ℕ) (v : State F ℕ) → IsLike R u v → EndsAs R T (f2 u) (h2 v))
    → IsLike R s t → EndsAs R T (by_word d w f f2 s) (by_word d2 w h h2 t)
unfolding by_word
by_word_like d d2 w f f2 h h2 s t words p q like =
    like_if (is_true (d.word s.env w)) (is_true (d2.word t.env w)) (ap is_true (words s.env t.env w like.env)) (p (worked 1 s) (worked 1 t) (more_work 1 like)) (q (worked 1 s) (worked 1 t) (more_work 1 like))

turn_like : {E F : Type 0} {R T : E → F → Type 0} (body more : Runs E ℕ) (body2 more2 : Runs F ℕ) (s : State E ℕ) (t : State F ℕ)
    → ((u : State E ℕ) (v : State F ℕ) → IsLike R u v → EndsAs R T (body u) (body2 v)) → ((u : State E ℕ) (v : State F ℕ) → IsLike R u v → EndsAs R T (more u) (more2 v))
    → IsLike R s t → EndsAs R T (turn body more s) (turn body2 more2 t)
turn_like body more body2 more2 s t p q like =
    like_if _ _ (ap (λ n. n == 0) (sym like.fuel)) (both_spent like) (behind_like more more2 (p (turned s) (turned t) (fewer_turns like)) q)

turns_like : {Op Op2 E F : Type 0} {R T : E → F → Type 0} (k : ℕ) (d : Doing Op E) (d2 : Doing Op2 F) (w : ℕ) (test body : Runs E ℕ) (test2 body2 : Runs F ℕ)
    → ((e : E) (f : F) (v : ℕ) → R e f → d.word e v ≡ d2.word f v) → ((u : State E ℕ) (v : State F ℕ) → IsLike R u v → EndsAs R T (test u) (test2 v)) → ((u : State E ℕ) (v : State F ℕ) → IsLike R u v → EndsAs R T (body u) (body2 v))
    → (s : State E ℕ) (t : State F ℕ) → IsLike R s t → EndsAs R T (turns k (decided d test w) body s) (turns k (decided d2 test2 w) body2 t)
unfolding turns decided
turns_like zero d d2 w test body test2 body2 words p q s t like = both_spent like
turns_like (suc k) d d2 w test body test2 body2 words p q s t like =
    let more : Runs _ ℕ = turns k (decided d test w) body in
    let more2 : Runs _ ℕ = turns k (decided d2 test2 w) body2 in
    behind_like (by_word d w (turn body more) Went) (by_word d2 w (turn body2 more2) Went) (p s t like)
    (λ u v alike. by_word_like d d2 w (turn body more) Went (turn body2 more2) Went u v words
    (λ x y same. turn_like body more body2 more2 x y q (turns_like k d d2 w test body test2 body2 words p q) same) (λ x y same. both_went same) alike)

loop_like : {Op Op2 E F : Type 0} {R T : E → F → Type 0} (d : Doing Op E) (d2 : Doing Op2 F) (w : ℕ) (test body : Runs E ℕ) (test2 body2 : Runs F ℕ)
    → ((e : E) (f : F) (v : ℕ) → R e f → d.word e v ≡ d2.word f v) → ((u : State E ℕ) (v : State F ℕ) → IsLike R u v → EndsAs R T (test u) (test2 v)) → ((u : State E ℕ) (v : State F ℕ) → IsLike R u v → EndsAs R T (body u) (body2 v))
    → (s : State E ℕ) (t : State F ℕ) → IsLike R s t → EndsAs R T (turns (suc s.fuel) (decided d test w) body s) (turns (suc t.fuel) (decided d2 test2 w) body2 t)
loop_like {R = R} {T = T} d d2 w test body test2 body2 words p q s t like =
    subst (λ n. EndsAs R T (turns (suc s.fuel) (decided d test w) body s) (turns (suc n) (decided d2 test2 w) body2 t)) (sym like.fuel) (turns_like (suc s.fuel) d d2 w test body test2 body2 words p q s t like)

-- ---- lists of operations

first_fit : {A : Type 0} (P : A → Type 0) (xs ys : List A) → AllByRecursion P (xs ++ ys) → AllByRecursion P xs × AllByRecursion P ys
first_fit P [] ys fit = (tt, fit)
first_fit P (x ∷ xs) ys fit = let rest : AllByRecursion P xs × AllByRecursion P ys = first_fit P xs ys fit.1 in ((fit.0, rest.0), rest.1)

three_fit : {A : Type 0} (P : A → Type 0) (xs ys zs : List A) → AllByRecursion P ((xs ++ ys) ++ zs) → AllByRecursion P xs × (AllByRecursion P ys × AllByRecursion P zs)
three_fit P xs ys zs fit =
    let parts : AllByRecursion P (xs ++ ys) × AllByRecursion P zs = first_fit P (xs ++ ys) zs fit in
    let front : AllByRecursion P xs × AllByRecursion P ys = first_fit P xs ys parts.0 in
    (front.0, (front.1, parts.1))

three_lists : {A : Type 0} (a b c d e f : List A) → a ≡ d → b ≡ e → c ≡ f → (a ++ b) ++ c ≡ (d ++ e) ++ f
three_lists a b c d e f p q r = rw (p, q, r) refl

flat_three : {A B : Type 0} (f : A → List B) (xs ys zs : List A) → flat_map f ((xs ++ ys) ++ zs) ≡ (flat_map f xs ++ flat_map f ys) ++ flat_map f zs
flat_three f xs ys zs = flat_map-append f (xs ++ ys) zs ∙ ap (λ (l : List _). l ++ flat_map f zs) (flat_map-append f xs ys)

pub operations_joined : {Op : Type 0} (p q : Prog Op) → operations (joined p q) ≡ operations p ++ operations q
unfolding operations joined
operations_joined stop q = refl
operations_joined (plain op p) q = ap (λ (l : List _). op ∷ l) (operations_joined p q)
operations_joined (choose w first second p) q =
    ap (λ (l : List _). (operations first ++ operations second) ++ l) (operations_joined p q) ∙ sym (append_assoc (operations first ++ operations second) (operations p) (operations q))
operations_joined (loop test w body p) q =
    ap (λ (l : List _). (operations test ++ operations body) ++ l) (operations_joined p q) ∙ sym (append_assoc (operations test ++ operations body) (operations p) (operations q))

tests_joined : {Op : Type 0} (p q : Prog Op) → tests (joined p q) ≡ tests p ++ tests q
unfolding tests joined
tests_joined stop q = refl
tests_joined (plain op p) q = tests_joined p q
tests_joined (choose w first second p) q =
    ap (λ (l : List ℕ). w ∷ ((tests first ++ tests second) ++ l)) (tests_joined p q) ∙ sym (append_assoc (w ∷ (tests first ++ tests second)) (tests p) (tests q))
tests_joined (loop test w body p) q =
    ap (λ (l : List ℕ). (tests test ++ w ∷ tests body) ++ l) (tests_joined p q) ∙ sym (append_assoc (tests test ++ w ∷ tests body) (tests p) (tests q))

-- ---- the law

pub run_replaced : {Op Op2 E F : Type 0} {R T : E → F → Type 0} {IsFit : Op → Type 0} (d : Doing Op E) (d2 : Doing Op2 F) (steps : Op → Prog Op2) → DoAlike R T IsFit d d2 steps
    → (p : Prog Op) → AllByRecursion IsFit (operations p) → (s : State E ℕ) (t : State F ℕ) → IsLike R s t → EndsAs R T (run d p s) (run d2 (replaced steps p) t)
unfolding run replaced operations
run_replaced d d2 steps alike stop fit s t like = both_went like
run_replaced {R = R} {T = T} d d2 steps alike (plain op p) fit s t like =
    subst (EndsAs R T (behind (step d op s) (run d p))) (sym (run_joined d2 (steps op) (replaced steps p) t))
    (behind_like (run d p) (run d2 (replaced steps p)) (alike.ops op fit.0 s t like) (run_replaced d d2 steps alike p fit.1))
run_replaced {IsFit = IsFit} d d2 steps alike (choose w first second p) fit s t like =
    let parts : AllByRecursion IsFit (operations first) × (AllByRecursion IsFit (operations second) × AllByRecursion IsFit (operations p)) = three_fit IsFit (operations first) (operations second) (operations p) fit in
    behind_like (run d p) (run d2 (replaced steps p))
    (by_word_like d d2 w (run d first) (run d second) (run d2 (replaced steps first)) (run d2 (replaced steps second)) s t alike.words (run_replaced d d2 steps alike first parts.0) (run_replaced d d2 steps alike second parts.1.0) like)
    (run_replaced d d2 steps alike p parts.1.1)
run_replaced {IsFit = IsFit} d d2 steps alike (loop test w body p) fit s t like =
    let parts : AllByRecursion IsFit (operations test) × (AllByRecursion IsFit (operations body) × AllByRecursion IsFit (operations p)) = three_fit IsFit (operations test) (operations body) (operations p) fit in
    behind_like (run d p) (run d2 (replaced steps p))
    (loop_like d d2 w (run d test) (run d body) (run d2 (replaced steps test)) (run d2 (replaced steps body)) alike.words (run_replaced d d2 steps alike test parts.0) (run_replaced d d2 steps alike body parts.1.0) s t like)
    (run_replaced d d2 steps alike p parts.1.1)

-- ---- programs one behind another

pub joined_stop : {Op : Type 0} (p : Prog Op) → joined p stop ≡ p
unfolding joined
joined_stop stop = refl
joined_stop (plain op p) = ap (plain op) (joined_stop p)
joined_stop (choose w first second p) = ap (choose w first second) (joined_stop p)
joined_stop (loop test w body p) = ap (loop test w body) (joined_stop p)

pub joined_assoc : {Op : Type 0} (p q r : Prog Op) → joined (joined p q) r ≡ joined p (joined q r)
unfolding joined
joined_assoc stop q r = refl
joined_assoc (plain op p) q r = ap (plain op) (joined_assoc p q r)
joined_assoc (choose w first second p) q r = ap (choose w first second) (joined_assoc p q r)
joined_assoc (loop test w body p) q r = ap (loop test w body) (joined_assoc p q r)

pub replaced_joined : {Op Op2 : Type 0} (steps : Op → Prog Op2) (p q : Prog Op) → replaced steps (joined p q) ≡ joined (replaced steps p) (replaced steps q)
unfolding joined replaced
replaced_joined steps stop q = refl
replaced_joined steps (plain op p) q = ap (joined (steps op)) (replaced_joined steps p q) ∙ sym (joined_assoc (steps op) (replaced steps p) (replaced steps q))
replaced_joined steps (choose w first second p) q = ap (choose w (replaced steps first) (replaced steps second)) (replaced_joined steps p q)
replaced_joined steps (loop test w body p) q = ap (loop (replaced steps test) w (replaced steps body)) (replaced_joined steps p q)

-- ---- the operations of the replaced program

-- they are those of each operation's steps, in order
pub operations_replaced : {Op Op2 : Type 0} (steps : Op → Prog Op2) (p : Prog Op) → operations (replaced steps p) ≡ flat_map (λ op. operations (steps op)) (operations p)
unfolding operations replaced
operations_replaced steps stop = refl
operations_replaced steps (plain op p) = operations_joined (steps op) (replaced steps p) ∙ ap (λ (l : List _). operations (steps op) ++ l) (operations_replaced steps p)
operations_replaced steps (choose w first second p) =
    three_lists _ _ _ _ _ _ (operations_replaced steps first) (operations_replaced steps second) (operations_replaced steps p)
    ∙ sym (flat_three (λ op. operations (steps op)) (operations first) (operations second) (operations p))
operations_replaced steps (loop test w body p) =
    three_lists _ _ _ _ _ _ (operations_replaced steps test) (operations_replaced steps body) (operations_replaced steps p)
    ∙ sym (flat_three (λ op. operations (steps op)) (operations test) (operations body) (operations p))

-- the words that are looked at are the same, where those steps look at none
pub tests_replaced : {Op Op2 : Type 0} (steps : Op → Prog Op2) → ((op : Op) → tests (steps op) ≡ []) → (p : Prog Op) → tests (replaced steps p) ≡ tests p
unfolding tests replaced
tests_replaced steps none stop = refl
tests_replaced steps none (plain op p) = tests_joined (steps op) (replaced steps p) ∙ ap (λ (l : List ℕ). l ++ tests (replaced steps p)) (none op) ∙ tests_replaced steps none p
tests_replaced steps none (choose w first second p) =
    ap (λ (l : List ℕ). w ∷ l) (three_lists _ _ _ _ _ _ (tests_replaced steps none first) (tests_replaced steps none second) (tests_replaced steps none p))
tests_replaced steps none (loop test w body p) = rw (tests_replaced steps none test, tests_replaced steps none body, tests_replaced steps none p) refl

-- ---- fewer units

choose_same : {Op : Type 0} (w : ℕ) (a b c d e f : Prog Op) → a ≡ d → b ≡ e → c ≡ f → choose w a b c ≡ choose w d e f
choose_same w a b c d e f p q r = cc

loop_same : {Op : Type 0} (w : ℕ) (a b c d e f : Prog Op) → a ≡ d → b ≡ e → c ≡ f → loop a w b c ≡ loop d w e f
loop_same w a b c d e f p q r = cc

-- the program with each operation in its own place is the program
pub same_replaced : {Op : Type 0} (p : Prog Op) → replaced (λ op. plain op stop) p ≡ p
unfolding replaced joined
same_replaced stop = refl
same_replaced (plain op p) = ap (plain op) (same_replaced p)
same_replaced (choose w first second p) = choose_same w _ _ _ _ _ _ (same_replaced first) (same_replaced second) (same_replaced p)
same_replaced (loop test w body p) = loop_same w _ _ _ _ _ _ (same_replaced test) (same_replaced body) (same_replaced p)

told_like : {E : Type 0} (r other : Result (Effect E) Trap) (s t : State E ℕ) → r ≡ other → IsLike (λ e f. e ≡ f) s t → EndsLike (λ e f. e ≡ f) (told r s) (told other t)
unfolding told
told_like (Ok effect) (Ok other) s t same like =
    let one : effect ≡ other = cc in
    both_went (record { env = ap (λ x. x.env) one; out = let e = like.out in let f : effect.text ≡ other.text = ap (λ x. x.text) one in cc; fuel = like.fuel; work = like.work })
told_like (Ok effect) (Err k) s t same like = absurd cc
told_like (Err k) (Ok effect) s t same like = absurd cc
told_like (Err k) (Err l) s t same like = let one : k ≡ l = cc in subst (λ l. EndsLike (λ e f. e ≡ f) (Trapped k s) (Trapped l t)) one (both_trapped like)

pub behind_stop : {Op E : Type 0} (d : Doing Op E) (ran : Ran E ℕ) → behind ran (run d stop) ≡ ran
unfolding run
behind_stop d (Went s) = refl
behind_stop d (Trapped t s) = refl
behind_stop d (Spent s) = refl
behind_stop d Mistaken = refl

step_fewer : {Op E : Type 0} (d : Doing Op E) (units : Op → ℕ) → ((op : Op) → units op ≤ d.units op) → (op : Op) (s t : State E ℕ) → IsLike (λ e f. e ≡ f) s t
    → EndsLike (λ e f. e ≡ f) (step d op s) (run (with_units d units) (plain op stop) t)
unfolding run
step_fewer d units fewer op s t like =
    let less : units op ≤ d.units op = fewer op in
    let before : IsLike (λ e f. e ≡ f) (worked (d.units op) s) (worked (units op) t) = record { env = like.env; out = like.out; fuel = like.fuel; work = let le = like.work in omega arith } in
    subst (EndsLike (λ e f. e ≡ f) (step d op s)) (sym (behind_stop (with_units d units) (step (with_units d units) op t)))
    (told_like (d.does op s.env) (d.does op t.env) (worked (d.units op) s) (worked (units op) t) (ap (d.does op) like.env) before)

pub all_fit : {A : Type 0} (xs : List A) → AllByRecursion (λ (x : A). Unit {0}) xs
all_fit [] = tt
all_fit (x ∷ xs) = (tt, all_fit xs)

-- with fewer units for each operation the run is the same, but for its work, which is no more
pub run_fewer : {Op E : Type 0} (d : Doing Op E) (units : Op → ℕ) → ((op : Op) → units op ≤ d.units op) → (p : Prog Op) (s : State E ℕ) → EndsLike (λ e f. e ≡ f) (run d p s) (run (with_units d units) p s)
run_fewer d units fewer p s =
    let like : IsLike (λ e f. e ≡ f) s s = record { env = refl; out = refl; fuel = refl; work = omega arith } in
    let alike : DoAlike (λ e f. e ≡ f) (λ e f. e ≡ f) (λ op. Unit {0}) d (with_units d units) (λ op. plain op stop) = record { words = λ e f w same. ap (λ x. d.word x w) same; ops = λ op fit s t like. step_fewer d units fewer op s t like } in
    subst (λ q. EndsLike (λ e f. e ≡ f) (run d p s) (run (with_units d units) q s)) (same_replaced p) (run_replaced d (with_units d units) (λ op. plain op stop) alike p (all_fit (operations p)) s s like)
