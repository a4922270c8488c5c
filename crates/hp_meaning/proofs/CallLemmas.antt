-- What calls mean, by the shapes of their arguments.
use Rattle.std.proofs.Common.{◌≡◌, ◌⊎◌, inl, inr, ℕ, Bool, List, Option, Some, None, Result, Err, refl, ap, ◌∙◌, subst}
use Rattle.hp_word.specs.declared.fold.FoldKind.{FoldKind}
use Rattle.hp_script.specs.declared.function.Function.{Function}
use Rattle.hp_script.specs.declared.function.ScalarFunction.{ScalarFunction}
use Rattle.hp_script.specs.declared.function.Function.TheVariants as functions
use Rattle.hp_script.specs.Mirror.{Head, Tree, Args, none, plain, range, lambda, named}
use Rattle.hp_meaning.specs.declared.seen.Seen.{Seen}
use Rattle.hp_meaning.specs.declared.seen.Stop.{Stop}
use Rattle.hp_meaning.specs.declared.seen.Stop.TheVariants as stop
use Rattle.hp_meaning.specs.declared.value.Value.{Value}
use Rattle.hp_meaning.specs.ArgumentShapes.{one_plain, two_plain, one_range, lambda_and_plain}
use Rattle.hp_meaning.specs.Dispatch.{one_value, two_value, lambda_value}
use Rattle.hp_meaning.specs.Outcomes.{Answer, Outcome, Is, followed, needed, ended, Tells, ComesTo}
use Rattle.hp_meaning.specs.Scopes.{Scope}
use Rattle.hp_meaning.specs.ValueOf.{Supply, Part, value, parts, one, two, ends, with_lambda, called, called_as}
use Rattle.hp_meaning.proofs.OutcomeLemmas.{comes_as, comes_wrong, first_stops, first_goes, none_stops, some_goes, answer_comes}
use Rattle.hp_meaning.proofs.ValueLemmas.{both}

-- ---- one argument

one_by : (g : Supply) (xs : Args) (s : Scope) (n : Seen) (rule : Value → Answer Value) → one (parts g xs) s n rule ≡ needed (one_plain xs) (λ x. followed (value g x s n) (λ a. ended (rule a)))
unfolding one one_plain parts
one_by g none s n rule = refl
one_by g (plain x none) s n rule = refl
one_by g (plain x (plain y ys)) s n rule = refl
one_by g (plain x (range y z ys)) s n rule = refl
one_by g (plain x (lambda parameter y ys)) s n rule = refl
one_by g (plain x (named name at y ys)) s n rule = refl
one_by g (range x y xs) s n rule = refl
one_by g (lambda parameter x xs) s n rule = refl
one_by g (named name at x xs) s n rule = refl

pub one_none : (g : Supply) (xs : Args) (s : Scope) (n : Seen) (rule : Value → Answer Value) (e : Stop) → (e ≡ stop.Wrong) × (one_plain xs ≡ None) → ComesTo (one (parts g xs) s n rule) (Err e) n
one_none g xs s n rule e h =
    comes_as (one (parts g xs) s n rule) (needed (one_plain xs) (λ x. followed (value g x s n) (λ a. ended (rule a)))) (Err e) n (one_by g xs s n rule)
    (none_stops (one_plain xs) (λ x. followed (value g x s n) (λ a. ended (rule a))) e n h)

one_goes : (g : Supply) (xs : Args) (x : Tree) (s : Scope) (n m : Seen) (rule : Value → Answer Value) (r : Result Value Stop)
    → one_plain xs ≡ Some x → ComesTo (followed (value g x s n) (λ a. ended (rule a))) r m → ComesTo (one (parts g xs) s n rule) r m
one_goes g xs x s n m rule r e h =
    comes_as (one (parts g xs) s n rule) (needed (one_plain xs) (λ x. followed (value g x s n) (λ a. ended (rule a)))) r m (one_by g xs s n rule)
    (some_goes (one_plain xs) (λ x. followed (value g x s n) (λ a. ended (rule a))) x m r e h)

pub one_stops : (g : Supply) (xs : Args) (x : Tree) (s : Scope) (n m : Seen) (rule : Value → Answer Value) (e : Stop)
    → one_plain xs ≡ Some x → ComesTo (value g x s n) (Err e) m → ComesTo (one (parts g xs) s n rule) (Err e) m
one_stops g xs x s n m rule e p h = one_goes g xs x s n m rule (Err e) p (first_stops (value g x s n) (λ a. ended (rule a)) e m h)

-- an answer on one value that the code looks at
pub answer_on : (o : Outcome Value) (rule : Value → Answer Value) (m : Seen) (a v : Value) (r : Result Value Stop) → o ≡ Is a m → v ≡ a → Tells (rule v) r → ComesTo (followed o (λ a. ended (rule a))) r m
answer_on o rule m a v r h p t = first_goes o (λ a. ended (rule a)) a m m r h (answer_comes (rule a) r m (subst (λ (v : Value). Tells (rule v) r) p t))

pub one_made : (g : Supply) (xs : Args) (x : Tree) (s : Scope) (n m : Seen) (rule : Value → Answer Value) (a v : Value) (r : Result Value Stop)
    → one_plain xs ≡ Some x → value g x s n ≡ Is a m → v ≡ a → Tells (rule v) r → ComesTo (one (parts g xs) s n rule) r m
one_made g xs x s n m rule a v r e h p t = one_goes g xs x s n m rule r e (answer_on (value g x s n) rule m a v r h p t)

-- ---- two arguments

two_by : (g : Supply) (xs : Args) (s : Scope) (n : Seen) (rule : Value → Value → Answer Value) → two (parts g xs) s n rule ≡ needed (two_plain xs) (λ p. both (value g p.0) (value g p.1) rule s n)
unfolding two two_plain one_plain parts both
two_by g none s n rule = refl
two_by g (plain x none) s n rule = refl
two_by g (plain x (plain y none)) s n rule = refl
two_by g (plain x (plain y (plain z zs))) s n rule = refl
two_by g (plain x (plain y (range z w zs))) s n rule = refl
two_by g (plain x (plain y (lambda parameter z zs))) s n rule = refl
two_by g (plain x (plain y (named name at z zs))) s n rule = refl
two_by g (plain x (range y z ys)) s n rule = refl
two_by g (plain x (lambda parameter y ys)) s n rule = refl
two_by g (plain x (named name at y ys)) s n rule = refl
two_by g (range x y xs) s n rule = refl
two_by g (lambda parameter x xs) s n rule = refl
two_by g (named name at x xs) s n rule = refl

pub two_none : (g : Supply) (xs : Args) (s : Scope) (n : Seen) (rule : Value → Value → Answer Value) (e : Stop) → (e ≡ stop.Wrong) × (two_plain xs ≡ None) → ComesTo (two (parts g xs) s n rule) (Err e) n
two_none g xs s n rule e h =
    comes_as (two (parts g xs) s n rule) (needed (two_plain xs) (λ p. both (value g p.0) (value g p.1) rule s n)) (Err e) n (two_by g xs s n rule)
    (none_stops (two_plain xs) (λ p. both (value g p.0) (value g p.1) rule s n) e n h)

pub two_goes : (g : Supply) (xs : Args) (x y : Tree) (s : Scope) (n m : Seen) (rule : Value → Value → Answer Value) (r : Result Value Stop)
    → two_plain xs ≡ Some (x, y) → ComesTo (both (value g x) (value g y) rule s n) r m → ComesTo (two (parts g xs) s n rule) r m
two_goes g xs x y s n m rule r e h =
    comes_as (two (parts g xs) s n rule) (needed (two_plain xs) (λ p. both (value g p.0) (value g p.1) rule s n)) r m (two_by g xs s n rule)
    (some_goes (two_plain xs) (λ p. both (value g p.0) (value g p.1) rule s n) (x, y) m r e h)

-- ---- a range

ends_by : (g : Supply) (xs : Args) (s : Scope) (n : Seen) (rule : Value → Value → Answer Value) → ends (parts g xs) s n rule ≡ needed (one_range xs) (λ p. both (value g p.0) (value g p.1) rule s n)
unfolding ends one_range parts both
ends_by g none s n rule = refl
ends_by g (plain x xs) s n rule = refl
ends_by g (range x y none) s n rule = refl
ends_by g (range x y (plain z zs)) s n rule = refl
ends_by g (range x y (range z w zs)) s n rule = refl
ends_by g (range x y (lambda parameter z zs)) s n rule = refl
ends_by g (range x y (named name at z zs)) s n rule = refl
ends_by g (lambda parameter x xs) s n rule = refl
ends_by g (named name at x xs) s n rule = refl

pub ends_none : (g : Supply) (xs : Args) (s : Scope) (n : Seen) (rule : Value → Value → Answer Value) (e : Stop) → (e ≡ stop.Wrong) × (one_range xs ≡ None) → ComesTo (ends (parts g xs) s n rule) (Err e) n
ends_none g xs s n rule e h =
    comes_as (ends (parts g xs) s n rule) (needed (one_range xs) (λ p. both (value g p.0) (value g p.1) rule s n)) (Err e) n (ends_by g xs s n rule)
    (none_stops (one_range xs) (λ p. both (value g p.0) (value g p.1) rule s n) e n h)

pub ends_goes : (g : Supply) (xs : Args) (x y : Tree) (s : Scope) (n m : Seen) (rule : Value → Value → Answer Value) (r : Result Value Stop)
    → one_range xs ≡ Some (x, y) → ComesTo (both (value g x) (value g y) rule s n) r m → ComesTo (ends (parts g xs) s n rule) r m
ends_goes g xs x y s n m rule r e h =
    comes_as (ends (parts g xs) s n rule) (needed (one_range xs) (λ p. both (value g p.0) (value g p.1) rule s n)) r m (ends_by g xs s n rule)
    (some_goes (one_range xs) (λ p. both (value g p.0) (value g p.1) rule s n) (x, y) m r e h)

-- ---- a lambda and an array

abbrev mapped_by : Supply → Scope → Seen → (List ℕ → Tree → Value → Answer Value) → (List ℕ × Tree × Tree) → Outcome Value
mapped_by g s n rule p = followed (value g p.2 s n) (λ a. ended (rule p.0 p.1 a))

lambda_by : (g : Supply) (xs : Args) (s : Scope) (n : Seen) (rule : List ℕ → Tree → Value → Answer Value) → with_lambda (parts g xs) s n rule ≡ needed (lambda_and_plain xs) (mapped_by g s n rule)
unfolding with_lambda lambda_and_plain one_plain parts
lambda_by g none s n rule = refl
lambda_by g (plain x xs) s n rule = refl
lambda_by g (range x y xs) s n rule = refl
lambda_by g (lambda parameter x none) s n rule = refl
lambda_by g (lambda parameter x (plain y none)) s n rule = refl
lambda_by g (lambda parameter x (plain y (plain z zs))) s n rule = refl
lambda_by g (lambda parameter x (plain y (range z w zs))) s n rule = refl
lambda_by g (lambda parameter x (plain y (lambda other z zs))) s n rule = refl
lambda_by g (lambda parameter x (plain y (named name at z zs))) s n rule = refl
lambda_by g (lambda parameter x (range y z ys)) s n rule = refl
lambda_by g (lambda parameter x (lambda other y ys)) s n rule = refl
lambda_by g (lambda parameter x (named name at y ys)) s n rule = refl
lambda_by g (named name at x xs) s n rule = refl

pub lambda_none : (g : Supply) (xs : Args) (s : Scope) (n : Seen) (rule : List ℕ → Tree → Value → Answer Value) (e : Stop)
    → (e ≡ stop.Wrong) × (lambda_and_plain xs ≡ None) → ComesTo (with_lambda (parts g xs) s n rule) (Err e) n
lambda_none g xs s n rule e h =
    comes_as (with_lambda (parts g xs) s n rule) (needed (lambda_and_plain xs) (mapped_by g s n rule)) (Err e) n (lambda_by g xs s n rule)
    (none_stops (lambda_and_plain xs) (mapped_by g s n rule) e n h)

lambda_goes : (g : Supply) (xs : Args) (p : List ℕ) (b x : Tree) (s : Scope) (n m : Seen) (rule : List ℕ → Tree → Value → Answer Value) (r : Result Value Stop)
    → lambda_and_plain xs ≡ Some (p, b, x) → ComesTo (followed (value g x s n) (λ a. ended (rule p b a))) r m → ComesTo (with_lambda (parts g xs) s n rule) r m
lambda_goes g xs p b x s n m rule r e h =
    comes_as (with_lambda (parts g xs) s n rule) (needed (lambda_and_plain xs) (mapped_by g s n rule)) r m (lambda_by g xs s n rule)
    (some_goes (lambda_and_plain xs) (mapped_by g s n rule) (p, b, x) m r e h)

pub lambda_stops : (g : Supply) (xs : Args) (p : List ℕ) (b x : Tree) (s : Scope) (n m : Seen) (rule : List ℕ → Tree → Value → Answer Value) (e : Stop)
    → lambda_and_plain xs ≡ Some (p, b, x) → ComesTo (value g x s n) (Err e) m → ComesTo (with_lambda (parts g xs) s n rule) (Err e) m
lambda_stops g xs p b x s n m rule e q h = lambda_goes g xs p b x s n m rule (Err e) q (first_stops (value g x s n) (λ a. ended (rule p b a)) e m h)

pub lambda_made : (g : Supply) (xs : Args) (p q : List ℕ) (b x : Tree) (s : Scope) (n m : Seen) (rule : List ℕ → Tree → Value → Answer Value) (a v : Value) (r : Result Value Stop)
    → lambda_and_plain xs ≡ Some (p, b, x) → value g x s n ≡ Is a m → v ≡ a → q ≡ p → Tells (rule q b v) r → ComesTo (with_lambda (parts g xs) s n rule) r m
lambda_made g xs p q b x s n m rule a v r e h k l t =
    lambda_goes g xs p b x s n m rule r e (answer_on (value g x s n) (rule p b) m a v r h k (subst (λ (q : List ℕ). Tells (rule q b v) r) l t))

-- ---- the call of a function

pub call_as : (g : Supply) (o : Option Function) (f k : Function) (h : Head) (dotted : Bool) (ps : List Part) (s : Scope) (n m : Seen) (r : Result Value Stop)
    → o ≡ Some f → f ≡ k → ComesTo (called_as g k h dotted ps s n) r m → ComesTo (called g o h dotted ps s n) r m
call_as g o f k h dotted ps s n m r e p c =
    comes_as (called g o h dotted ps s n) (called_as g k h dotted ps s n) r m (ap (λ (o : Option Function). called g o h dotted ps s n) (e ∙ ap Some p)) c

pub call_unknown : (g : Supply) (o : Option Function) (h : Head) (dotted : Bool) (ps : List Part) (s : Scope) (n : Seen) → o ≡ None → ComesTo (called g o h dotted ps s n) (Err stop.Wrong) n
call_unknown g o h dotted ps s n e = comes_wrong (called g o h dotted ps s n) stop.Wrong n refl (ap (λ (o : Option Function). called g o h dotted ps s n) e)

-- the functions of two values, of one and of a lambda
pub call_two : (g : Supply) (o : Option Function) (f : Function) (h : Head) (dotted : Bool) (ps : List Part) (s : Scope) (n m : Seen) (r : Result Value Stop)
    → o ≡ Some f → ((x : ScalarFunction) × f ≡ functions.Scalar x) ⊎ ((f ≡ functions.Fill) ⊎ ((f ≡ functions.Vcat) ⊎ (f ≡ functions.Row)))
    → ComesTo (two ps s n (two_value f dotted h.at)) r m → ComesTo (called g o h dotted ps s n) r m
unfolding called_as two_value
call_two g o f h dotted ps s n m r e (inl p) c =
    call_as g o f (functions.Scalar p.0) h dotted ps s n m r e p.1 (subst (λ (f : Function). ComesTo (two ps s n (two_value f dotted h.at)) r m) p.1 c)
call_two g o f h dotted ps s n m r e (inr (inl p)) c =
    call_as g o f functions.Fill h dotted ps s n m r e p (subst (λ (f : Function). ComesTo (two ps s n (two_value f dotted h.at)) r m) p c)
call_two g o f h dotted ps s n m r e (inr (inr (inl p))) c =
    call_as g o f functions.Vcat h dotted ps s n m r e p (subst (λ (f : Function). ComesTo (two ps s n (two_value f dotted h.at)) r m) p c)
call_two g o f h dotted ps s n m r e (inr (inr (inr p))) c =
    call_as g o f functions.Row h dotted ps s n m r e p (subst (λ (f : Function). ComesTo (two ps s n (two_value f dotted h.at)) r m) p c)

pub call_one : (g : Supply) (o : Option Function) (f : Function) (h : Head) (dotted : Bool) (ps : List Part) (s : Scope) (n m : Seen) (r : Result Value Stop)
    → o ≡ Some f → ((x : FoldKind) × f ≡ functions.Fold x) ⊎ ((f ≡ functions.Count) ⊎ ((f ≡ functions.Length) ⊎ ((f ≡ functions.Cumsum) ⊎ (f ≡ functions.Nrow))))
    → ComesTo (one ps s n (one_value f h.at)) r m → ComesTo (called g o h dotted ps s n) r m
unfolding called_as one_value
call_one g o f h dotted ps s n m r e (inl p) c =
    call_as g o f (functions.Fold p.0) h dotted ps s n m r e p.1 (subst (λ (f : Function). ComesTo (one ps s n (one_value f h.at)) r m) p.1 c)
call_one g o f h dotted ps s n m r e (inr (inl p)) c =
    call_as g o f functions.Count h dotted ps s n m r e p (subst (λ (f : Function). ComesTo (one ps s n (one_value f h.at)) r m) p c)
call_one g o f h dotted ps s n m r e (inr (inr (inl p))) c =
    call_as g o f functions.Length h dotted ps s n m r e p (subst (λ (f : Function). ComesTo (one ps s n (one_value f h.at)) r m) p c)
call_one g o f h dotted ps s n m r e (inr (inr (inr (inl p)))) c =
    call_as g o f functions.Cumsum h dotted ps s n m r e p (subst (λ (f : Function). ComesTo (one ps s n (one_value f h.at)) r m) p c)
call_one g o f h dotted ps s n m r e (inr (inr (inr (inr p)))) c =
    call_as g o f functions.Nrow h dotted ps s n m r e p (subst (λ (f : Function). ComesTo (one ps s n (one_value f h.at)) r m) p c)

pub call_lambda : (g : Supply) (o : Option Function) (f : Function) (h : Head) (dotted : Bool) (ps : List Part) (s : Scope) (n m : Seen) (r : Result Value Stop)
    → o ≡ Some f → (f ≡ functions.Map) ⊎ (f ≡ functions.Stencil) → ComesTo (with_lambda ps s n (lambda_value f s.vars)) r m → ComesTo (called g o h dotted ps s n) r m
unfolding called_as lambda_value
call_lambda g o f h dotted ps s n m r e (inl p) c =
    call_as g o f functions.Map h dotted ps s n m r e p (subst (λ (f : Function). ComesTo (with_lambda ps s n (lambda_value f s.vars)) r m) p c)
call_lambda g o f h dotted ps s n m r e (inr p) c =
    call_as g o f functions.Stencil h dotted ps s n m r e p (subst (λ (f : Function). ComesTo (with_lambda ps s n (lambda_value f s.vars)) r m) p c)

pub no_function : (o : Option Function) → ((f : Function) → o ≡ Some f → ⊥) → o ≡ None
no_function None h = refl
no_function (Some f) h = absurd (h f refl)
