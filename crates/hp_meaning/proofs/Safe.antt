-- Variables and frames that fit a point of a script, and what an expression has there: a value of its type, or a trap.
use Rattle.std.proofs.Common.{◌≡◌, ℕ, true, List, Option, Some, None, option_and_then, ap, ◌∙◌}
use Rattle.hp_word.specs.declared.name.Name.{Name}
use Rattle.hp_word.specs.declared.place.Place.{Place}
use Rattle.hp_script.specs.declared.rule.Rule.TheVariants.{MaybeUnset, UnknownColumn}
use Rattle.hp_script.specs.declared.typed.Shape.{Shape}
use Rattle.hp_script.specs.declared.typed.Shape.TheVariants as shape
use Rattle.hp_script.specs.Breaks.{variable_break, name_break, field_break, frame_has, column_break}
use Rattle.hp_script.specs.Results.{of_both}
use Rattle.hp_script.specs.Scope.{Role, Scope, has_column, is_set, shape_among}
use Rattle.hp_script.specs.Typing.{name_shape}
use Rattle.hp_meaning.specs.declared.seen.Seen.{Seen}
use Rattle.hp_meaning.specs.declared.value.Column.{Column}
use Rattle.hp_meaning.specs.declared.value.Value.{Value}
use Rattle.hp_meaning.specs.Fitting.{names_of, HasShape, a_frame, Bound, bound, Keeps}
use Rattle.hp_meaning.specs.Outcomes.{Answer, Gives, given, tick, followed, ended}
use Rattle.hp_meaning.specs.Scopes.{value_named}
use Rattle.hp_meaning.specs.Scopes as values
use Rattle.hp_meaning.specs.FrameRules.{field_value}
use Rattle.hp_meaning.specs.ValueOf.{Meaning, column_value}
use Rattle.hp_meaning.proofs.Fine.{Fine, is, followed_fine, ended_fine, RightAs, right_of}
use Rattle.hp_meaning.proofs.FineFrames.{field_right}
use Rattle.hp_script.proofs.TestLemmas.{or_left, or_right, passes}

-- ---- what fits

-- where columns can be named, there is a frame with these columns
pub data Surrounds : Option (List Name) → Option (List Column) → Type 0 where
  nowhere : {frame : Option (List Column)} → Surrounds None frame
  within : {names : List Name} {columns : List Column} → names_of columns ≡ names → Surrounds (Some names) (Some columns)

pub record Fit (s : Scope) (v : values.Scope) : Type 0 where
  pub keeps : Keeps s v.vars
  pub surrounds : Surrounds s.around v.frame

-- ---- what is safe

-- it has a value of this type or a trap, wherever the variables fit
pub record Safe (s : Scope) (kind : Shape) (m : Meaning) : Type 0 where
  pub fine : (v : values.Scope) (n : Seen) → Fit s v → Fine Value (HasShape kind) (m v n)

-- the same where there is a type
pub data SafeAs (s : Scope) : Option Shape → Meaning → Type 0 where
  safe : {kind : Shape} {m : Meaning} → Safe s kind m → SafeAs s (Some kind) m
  untyped : {m : Meaning} → SafeAs s None m

-- it begins one tick
pub ticked : {s : Scope} {found : Option Shape} {m : Meaning} → SafeAs s found m → SafeAs s found (λ v n. m v (tick n))
ticked (safe h) = safe (record { fine = λ v n fit. h.fine v (tick n) fit })
ticked untyped = untyped

pub safe_of : {s : Scope} {kind : Shape} {m : Meaning} → SafeAs s (Some kind) m → Safe s kind m
safe_of (safe h) = h

-- ---- of one and of two values

pub then_one : {s : Scope} {k : Shape} {m : Meaning} (found : Option Shape) (rule : Value → Answer Value) → Safe s k m → ((a : Value) → HasShape k a → RightAs found (rule a))
    → SafeAs s found (λ v n. followed (m v n) (λ a. ended (rule a)))
then_one None rule first each = untyped
then_one (Some kind) rule first each = safe (record { fine = λ v n fit. followed_fine _ (first.fine v n fit) (λ a n h. ended_fine n (right_of (each a h))) })

pub then_two : {s : Scope} {ka kb : Shape} {m k : Meaning} (found : Option Shape) (rule : Value → Value → Answer Value) → Safe s ka m → Safe s kb k
    → ((a b : Value) → HasShape ka a → HasShape kb b → RightAs found (rule a b))
    → SafeAs s found (λ v n. followed (m v n) (λ a n. followed (k v n) (λ b. ended (rule a b))))
then_two None rule first second each = untyped
then_two (Some kind) rule first second each = safe (record {
  fine = λ v n fit. followed_fine _ (first.fine v n fit) (λ a n h. followed_fine _ (second.fine v n fit) (λ b n k. ended_fine n (right_of (each a b h k))));
})

pub with_one : {s : Scope} {found : Option Shape} {m k : Meaning} (result : Shape → Option Shape) → SafeAs s found m → ((kind : Shape) → Safe s kind m → SafeAs s (result kind) k)
    → SafeAs s (option_and_then result found) k
with_one result (safe h) next = next _ h
with_one result untyped next = untyped

pub with_both : {s : Scope} {fa fb : Option Shape} {m k j : Meaning} (result : Shape → Shape → Option Shape) → SafeAs s fa m → SafeAs s fb k
    → ((ka kb : Shape) → Safe s ka m → Safe s kb k → SafeAs s (result ka kb) j) → SafeAs s (of_both result fa fb) j
with_both result (safe h) (safe k) next = next _ _ h k
with_both result (safe h) untyped next = untyped
with_both result untyped k next = untyped

-- ---- names

bound_fine : {kind : Shape} {found : Option Value} (n : Seen) → Bound (Some kind) found → Fine Value (HasShape kind) (ended (given found Gives) n)
bound_fine n (bound h) = is h

bound_safe : {s : Scope} (x : List ℕ) (found : Option Shape) → ((v : values.Scope) → Fit s v → Bound found (value_named x v.vars)) → SafeAs s found (λ v n. ended (given (value_named x v.vars) Gives) n)
bound_safe x None each = untyped
bound_safe x (Some kind) each = safe (record { fine = λ v n fit. bound_fine n (each v fit) })

surely_set : (s : Scope) (at : Place) (x : List ℕ) → variable_break s at x ≡ None → is_set s.ways x ≡ true
surely_set s at x e = passes (is_set s.ways x) at MaybeUnset (or_right _ _ e)

pub variable_safe : (s : Scope) (role : Option Role) (at : Place) (x : List ℕ) → role ≡ None → name_break role s at x ≡ None
    → SafeAs s (name_shape role (shape_among s.vars x)) (λ v n. ended (given (value_named x v.vars) Gives) n)
unfolding name_break
variable_safe s None at x out e = bound_safe x (shape_among s.vars x) (λ v fit. fit.keeps.known x (surely_set s at x (or_left _ _ e)))
variable_safe s (Some role) at x out e = absurd cc

field_fine : {found : Option Shape} {value : Option Value} (c : List ℕ) (n : Seen) → Bound found value → frame_has c found ≡ true → Fine Value (HasShape shape.Ints) (ended (given value (field_value c)) n)
field_fine c n (bound (a_frame names columns e)) h = ended_fine n (field_right c columns (ap (has_column c) e ∙ h))
field_fine c n (bound _) h = absurd cc

pub field_safe : (s : Scope) (role : Option Role) (at : Place) (x c : List ℕ) → role ≡ None → field_break role s at x c ≡ None → Safe s shape.Ints (λ v n. ended (given (value_named x v.vars) (field_value c)) n)
unfolding field_break
field_safe s None at x c out e = record {
  fine = λ v n fit. field_fine c n (fit.keeps.known x (surely_set s at x (or_left _ _ e))) (passes (frame_has c (shape_among s.vars x)) at UnknownColumn (or_right _ _ (or_right _ _ e)));
}
field_safe s (Some role) at x c out e = absurd cc

column_fine : {names : List Name} {frame : Option (List Column)} (c : List ℕ) (n : Seen) → Surrounds (Some names) frame → has_column c names ≡ true → Fine Value (HasShape shape.Ints) (ended (column_value c frame) n)
unfolding column_value field_value
column_fine c n (within {columns = columns} e) h = ended_fine n (field_right c columns (ap (has_column c) e ∙ h))

pub column_safe : (s : Scope) (around : Option (List Name)) (at : Place) (c : List ℕ) → s.around ≡ around → column_break around s at c ≡ None → Safe s shape.Ints (λ v n. ended (column_value c v.frame) n)
unfolding column_break
column_safe s None at c same e = absurd cc
column_safe s (Some names) at c same e = record {
  fine = λ v n fit. column_fine c n (rw same at fit.surrounds) (passes (has_column c names) at UnknownColumn (or_right _ _ e));
}
