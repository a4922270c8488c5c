-- The arguments of a call, one after the other: what one is to the rules tells how it is written, and that it passed.
use Rattle.std.proofs.Common.{◌≡◌, ℕ, List, [], ◌∷◌, ◌++◌, length, None, refl, sym, ap, ◌∙◌, subst, append_assoc, append-nil, arith}
use Rattle.std.specs.Option.{option_or}
use Rattle.std.proofs.lemmas.List.{length-append, append_cancel_left}
use Rattle.hp_word.specs.declared.place.Place.{Place}
use Rattle.hp_script.specs.declared.argument.Argument.{Argument}
use Rattle.hp_script.specs.declared.function.Function.{Function}
use Rattle.hp_script.specs.Breaks.{plain_break, range_break, lambda_break, named_break, so_far}
use Rattle.hp_script.specs.Mirror.{Tree, Args, none, plain, range, lambda, named}
use Rattle.hp_script.specs.Scope.{Scope, with_parameter}
use Rattle.hp_script.specs.Typing.{wanted, role_wanted, inside, plain_argument, range_argument, lambda_argument, named_argument}
use Rattle.hp_script.specs.Walk.{shape_of, break_of, finds_of, in_turn}
use Rattle.hp_script.proofs.TestLemmas.{or_left, or_right}
use Rattle.hp_script.proofs.Turns.{arguments, breaks_among}

-- ---- what follows

-- Behind these arguments the text has such others, and none of them breaks a rule.
pub record Rest (s : Scope) (at : Place) (f : Function) (before rest : List Argument) (xs : Args) : Type 0 where
  pub made : arguments s at f before xs ≡ before ++ rest
  pub passed : breaks_among s at f before xs ≡ None

record Begins (made before : List Argument) : Type 0 where
  tail : List Argument
  is : made ≡ before ++ tail

longer : (made before : List Argument) (a : Argument) → Begins made (before ++ a ∷ []) → Begins made before
longer made before a b = record { tail = a ∷ b.tail; is = b.is ∙ append_assoc before (a ∷ []) b.tail }

begins : (s : Scope) (at : Place) (f : Function) (before : List Argument) (xs : Args) → Begins (arguments s at f before xs) before
unfolding finds_of in_turn
begins s at f before none = record { tail = []; is = sym (append-nil before) }
begins s at f before (plain x xs) = longer _ before _ (begins s at f (before ++ plain_argument (wanted f before) x (shape_of (inside s f before) x) ∷ []) xs)
begins s at f before (range x y xs) = longer _ before _ (begins s at f (before ++ range_argument (shape_of s x) (shape_of s y) ∷ []) xs)
begins s at f before (lambda p x xs) = longer _ before _ (begins s at f (before ++ lambda_argument (shape_of (with_parameter s p (role_wanted (wanted f before))) x) ∷ []) xs)
begins s at f before (named name place x xs) = longer _ before _ (begins s at f (before ++ named_argument (wanted f before) name x (shape_of (inside s f before) x) ∷ []) xs)

record Next (made before rest : List Argument) (a b : Argument) : Type 0 where
  same : a ≡ b
  is : made ≡ (before ++ b ∷ []) ++ rest

next_is : (made before rest : List Argument) (a b : Argument) → Begins made (before ++ a ∷ []) → made ≡ before ++ b ∷ rest → Next made before rest a b
next_is made before rest a b t e =
    let joined : before ++ (a ∷ t.tail) ≡ before ++ b ∷ rest = sym (append_assoc before (a ∷ []) t.tail) ∙ sym t.is ∙ e in
    let parts : a ∷ t.tail ≡ b ∷ rest = append_cancel_left before (a ∷ t.tail) (b ∷ rest) joined in
    record { same = cc; is = e ∙ sym (append_assoc before (b ∷ []) rest) }

nothing_more : (before rest : List Argument) (a : Argument) {A : Type 0} → before ≡ before ++ a ∷ rest → A
nothing_more before rest a e = absurd (omega (arith, ap length e, length-append before (a ∷ rest)))

-- ---- the next argument

pub data IsHead (s : Scope) (at : Place) (f : Function) (before : List Argument) (a : Argument) (rest : List Argument) : Args → Type 0 where
  head_plain : {x : Tree} {xs : Args} → plain_argument (wanted f before) x (shape_of (inside s f before) x) ≡ a
      → plain_break (wanted f before) (so_far f at before) x (break_of (inside s f before) x) ≡ None → Rest s at f (before ++ a ∷ []) rest xs → IsHead s at f before a rest (plain x xs)
  head_range : {x y : Tree} {xs : Args} → range_argument (shape_of s x) (shape_of s y) ≡ a
      → range_break (wanted f before) at (option_or (break_of s x) (break_of s y)) ≡ None → Rest s at f (before ++ a ∷ []) rest xs → IsHead s at f before a rest (range x y xs)
  head_lambda : {p : List ℕ} {x : Tree} {xs : Args} → lambda_argument (shape_of (with_parameter s p (role_wanted (wanted f before))) x) ≡ a
      → lambda_break (wanted f before) at (break_of (with_parameter s p (role_wanted (wanted f before))) x) ≡ None → Rest s at f (before ++ a ∷ []) rest xs
      → IsHead s at f before a rest (lambda p x xs)
  head_named : {name : List ℕ} {place : Place} {x : Tree} {xs : Args} → named_argument (wanted f before) name x (shape_of (inside s f before) x) ≡ a
      → named_break (wanted f before) (so_far f at before) name place x (break_of (inside s f before) x) ≡ None → Rest s at f (before ++ a ∷ []) rest xs
      → IsHead s at f before a rest (named name place x xs)

rest_at : (s : Scope) (at : Place) (f : Function) (before rest : List Argument) (a b : Argument) (xs : Args)
    → Next (arguments s at f (before ++ a ∷ []) xs) before rest a b → breaks_among s at f (before ++ a ∷ []) xs ≡ None → Rest s at f (before ++ b ∷ []) rest xs
rest_at s at f before rest a b xs n passed =
    let found : Rest s at f (before ++ a ∷ []) rest xs = record { made = subst (λ (c : Argument). arguments s at f (before ++ a ∷ []) xs ≡ (before ++ c ∷ []) ++ rest) (sym n.same) n.is; passed = passed } in
    subst (λ (c : Argument). Rest s at f (before ++ c ∷ []) rest xs) n.same found

pub head_of : (s : Scope) (at : Place) (f : Function) (before rest : List Argument) (a : Argument) (xs : Args) → Rest s at f before (a ∷ rest) xs → IsHead s at f before a rest xs
unfolding finds_of in_turn
head_of s at f before rest a none r = nothing_more before rest a r.made
head_of s at f before rest a (plain x xs) r =
    let own = plain_argument (wanted f before) x (shape_of (inside s f before) x) in
    let n = next_is _ before rest own a (begins s at f (before ++ own ∷ []) xs) r.made in
    head_plain n.same (or_left _ _ r.passed) (rest_at s at f before rest own a xs n (or_right _ _ r.passed))
head_of s at f before rest a (range x y xs) r =
    let own = range_argument (shape_of s x) (shape_of s y) in
    let n = next_is _ before rest own a (begins s at f (before ++ own ∷ []) xs) r.made in
    head_range n.same (or_left _ _ r.passed) (rest_at s at f before rest own a xs n (or_right _ _ r.passed))
head_of s at f before rest a (lambda p x xs) r =
    let own = lambda_argument (shape_of (with_parameter s p (role_wanted (wanted f before))) x) in
    let n = next_is _ before rest own a (begins s at f (before ++ own ∷ []) xs) r.made in
    head_lambda n.same (or_left _ _ r.passed) (rest_at s at f before rest own a xs n (or_right _ _ r.passed))
head_of s at f before rest a (named name place x xs) r =
    let own = named_argument (wanted f before) name x (shape_of (inside s f before) x) in
    let n = next_is _ before rest own a (begins s at f (before ++ own ∷ []) xs) r.made in
    head_named n.same (or_left _ _ r.passed) (rest_at s at f before rest own a xs n (or_right _ _ r.passed))

longer_than : (before : List Argument) (a : Argument) (made : List Argument) {A : Type 0} → Begins made (before ++ a ∷ []) → made ≡ before ++ [] → A
longer_than before a made t e = nothing_more before t.tail a (sym (append-nil before) ∙ sym e ∙ t.is ∙ append_assoc before (a ∷ []) t.tail)

-- nothing follows
pub none_of : (s : Scope) (at : Place) (f : Function) (before : List Argument) (xs : Args) → Rest s at f before [] xs → xs ≡ none
unfolding finds_of in_turn
none_of s at f before none r = refl
none_of s at f before (plain x xs) r = longer_than before _ _ (begins s at f (before ++ plain_argument (wanted f before) x (shape_of (inside s f before) x) ∷ []) xs) r.made
none_of s at f before (range x y xs) r = longer_than before _ _ (begins s at f (before ++ range_argument (shape_of s x) (shape_of s y) ∷ []) xs) r.made
none_of s at f before (lambda p x xs) r = longer_than before _ _ (begins s at f (before ++ lambda_argument (shape_of (with_parameter s p (role_wanted (wanted f before))) x) ∷ []) xs) r.made
none_of s at f before (named name place x xs) r = longer_than before _ _ (begins s at f (before ++ named_argument (wanted f before) name x (shape_of (inside s f before) x) ∷ []) xs) r.made
