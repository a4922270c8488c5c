-- What is added to a list of constraints, step by step.
use Rattle.std.proofs.Common.{◌≡◌, ℕ, ◌+◌, ◌<◌, List, [], ◌∷◌, ◌++◌, map, flat_map, take, get_or, length, sym, ap, ◌∙◌, append_assoc, append-nil}
use Rattle.std.proofs.lemmas.List.{map-append, take_more}
use Rattle.std.proofs.lemmas.Grind.{flat_map-append}
use Rattle.std.proofs.lemmas.Result.{on_ok_weaker}
use Rattle.std.specs.Prelude.{Result, OnOk}
use Rattle.hp_air.specs.declared.constraint.Constraint.{Constraint}
use Rattle.hp_air.specs.Constraints.{Bound}
use Rattle.hp_constrain.specs.Listed.{constraint_of, Adds}

pub adds_none : (old : List Constraint) → Adds [] old old
adds_none old = sym (append-nil old)

pub adds_both : (old mid new : List Constraint) (a b : List (Bound ℕ)) → Adds a old mid → Adds b mid new → Adds (a ++ b) old new
adds_both old mid new a b p q =
    q ∙ ap (λ (l : List Constraint). l ++ map constraint_of b) p ∙ append_assoc old (map constraint_of a) (map constraint_of b)
    ∙ ap (λ (l : List Constraint). old ++ l) (sym (map-append constraint_of a b))

-- the second step may fail
pub ok_adds : {T E : Type 0} (r : Result T E) (old mid new : List Constraint) (a b all : List (Bound ℕ)) → Adds a old mid → all ≡ a ++ b → OnOk r (Adds b mid new) → OnOk r (Adds all old new)
ok_adds r old mid new a b all p e q = on_ok_weaker r (λ now. adds_both old mid new a b p now ∙ ap (λ (l : List (Bound ℕ)). old ++ map constraint_of l) (sym e)) q

-- what is added for one more item of a list
pub adds_next : {X : Type 0} (f : X → List (Bound ℕ)) (xs : List X) (i : ℕ) (x : X) (old mid new : List Constraint) → i < length xs → x ≡ get_or xs i x
    → Adds (flat_map f (take i xs)) old mid → Adds (f x) mid new → Adds (flat_map f (take (i + 1) xs)) old new
adds_next f xs i x old mid new lt is p q =
    adds_both old mid new (flat_map f (take i xs)) (f x) p q
    ∙ ap (λ (l : List (Bound ℕ)). old ++ map constraint_of l)
    (ap (λ (l : List (Bound ℕ)). flat_map f (take i xs) ++ l) (sym (append-nil (f x))) ∙ sym (flat_map-append f (take i xs) (x ∷ []))
    ∙ ap (λ (y : _). flat_map f (take i xs ++ y ∷ [])) is ∙ ap (flat_map f) (sym (take_more xs i x lt)))
