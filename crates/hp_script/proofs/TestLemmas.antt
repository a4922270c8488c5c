-- What tests that pass, and results that there are, tell of their parts.
use Rattle.std.proofs.Common.{◌≡◌, ℕ, ◌≤◌, Bool, true, false, not, ◌&&◌, ◌||◌, nat_le, List, Option, Some, None, refl, arith, bytes_eq, is_some}
use Rattle.std.specs.Option.{option_or, option_and_then, option_map}
use Rattle.std.proofs.lemmas.Slice.Eq.{bytes_eq-Decides}
use Rattle.hp_word.specs.declared.place.Place.{Place}
use Rattle.hp_script.specs.declared.rule.Rule.{Rule}
use Rattle.hp_script.specs.Breaks.{unless}
use Rattle.hp_script.specs.Results.{of_both, some_if}
use Rattle.hp_script.specs.declared.typed.Shape.{Shape}

-- ---- tests

pub or_left : {A : Type 0} (a b : Option A) → option_or a b ≡ None → a ≡ None
or_left None b e = refl
or_left (Some x) b e = e

pub or_right : {A : Type 0} (a b : Option A) → option_or a b ≡ None → b ≡ None
or_right None b e = e
or_right (Some x) b e = absurd cc

pub none_both : {A : Type 0} (a b : Option A) → a ≡ None → b ≡ None → option_or a b ≡ None
none_both None b e f = f
none_both (Some x) b e f = absurd cc

pub passes : (b : Bool) (at : Place) (rule : Rule) → unless b at rule ≡ None → b ≡ true
passes true at rule e = refl
passes false at rule e = absurd cc

pub unless_true : (b : Bool) (at : Place) (rule : Rule) → b ≡ true → unless b at rule ≡ None
unless_true true at rule e = refl
unless_true false at rule e = absurd cc

-- ---- truth values

pub and_both : (a b : Bool) → a ≡ true → b ≡ true → (a && b) ≡ true
and_both true b e f = f
and_both false b e f = absurd cc

pub and_left : (a b : Bool) → (a && b) ≡ true → a ≡ true
and_left true b h = refl
and_left false b h = h

pub and_right : (a b : Bool) → (a && b) ≡ true → b ≡ true
and_right true b h = h
and_right false b h = absurd cc

pub not_true : (b : Bool) → not b ≡ true → b ≡ false
not_true true e = absurd cc
not_true false e = refl

pub not_false : (b : Bool) → not b ≡ false → b ≡ true
not_false true e = refl
not_false false e = absurd cc

pub false_not : (b : Bool) → b ≡ false → not b ≡ true
false_not true e = absurd cc
false_not false e = refl

pub first_true : (a b : Bool) → a ≡ true → (a || b) ≡ true
first_true true b e = refl
first_true false b e = absurd cc

pub second_true : (a b : Bool) → b ≡ true → (a || b) ≡ true
second_true true b e = refl
second_true false b e = e

pub record BothFalse (a b : Bool) : Type 0 where
  pub first : a ≡ false
  pub second : b ≡ false

pub both_false : (a b : Bool) → (a || b) ≡ false → BothFalse a b
both_false true b e = absurd cc
both_false false b e = record { first = refl; second = e }

pub false_both : (a b : Bool) → a ≡ false → b ≡ false → (a || b) ≡ false
false_both true b e f = absurd cc
false_both false b e f = f

pub not_both : (b : Bool) → b ≡ true → b ≡ false → ⊥
not_both true e f = absurd cc
not_both false e f = absurd cc

pub same_bytes : (x y : List ℕ) → bytes_eq x y ≡ true → x ≡ y
same_bytes x y e = (bytes_eq-Decides x y).0 e

pub bytes_same : (x y : List ℕ) → x ≡ y → bytes_eq x y ≡ true
bytes_same x y e = (bytes_eq-Decides x y).1 e

pub le_true : (a b : ℕ) → a ≤ b → nat_le a b ≡ true
le_true a b le = grind arith

pub true_le : (a b : ℕ) → nat_le a b ≡ true → a ≤ b
true_le a b h = grind arith

-- ---- results

pub record IsThere {A : Type 0} (o : Option A) : Type 0 where
  pub value : A
  pub is : o ≡ Some value

pub there : {A : Type 0} (o : Option A) → is_some o ≡ true → IsThere o
there None e = absurd cc
there (Some x) e = record { value = x; is = refl }

-- of operands that both have a type
pub record OfBoth (result : Shape → Shape → Option Shape) (a b : Option Shape) (r : Shape) : Type 0 where
  pub left : Shape
  pub right : Shape
  pub left_is : a ≡ Some left
  pub right_is : b ≡ Some right
  pub is : result left right ≡ Some r

pub both_there : (result : Shape → Shape → Option Shape) (a b : Option Shape) (r : Shape) → of_both result a b ≡ Some r → OfBoth result a b r
both_there result (Some a) (Some b) r e = record { left = a; right = b; left_is = refl; right_is = refl; is = e }
both_there result (Some a) None r e = absurd cc
both_there result None b r e = absurd cc

pub record AndThen {A B : Type 0} (f : A → Option B) (o : Option A) (r : B) : Type 0 where
  pub value : A
  pub value_is : o ≡ Some value
  pub is : f value ≡ Some r

pub then_there : {A B : Type 0} (f : A → Option B) (o : Option A) (r : B) → option_and_then f o ≡ Some r → AndThen f o r
then_there f None r e = absurd cc
then_there f (Some x) r e = record { value = x; value_is = refl; is = e }

pub record Mapped {A B : Type 0} (f : A → B) (o : Option A) (r : B) : Type 0 where
  pub value : A
  pub value_is : o ≡ Some value
  pub is : f value ≡ r

pub map_there : {A B : Type 0} (f : A → B) (o : Option A) (r : B) → option_map f o ≡ Some r → Mapped f o r
map_there f None r e = absurd cc
map_there f (Some x) r e = record { value = x; value_is = refl; is = cc }

pub record SomeIf (test : Bool) (result r : Shape) : Type 0 where
  pub holds : test ≡ true
  pub is : result ≡ r

pub if_there : (test : Bool) (result r : Shape) → some_if test result ≡ Some r → SomeIf test result r
if_there true result r e = record { holds = refl; is = cc }
if_there false result r e = absurd cc
