-- The least of two lists of places, one behind the other.
use Rattle.std.proofs.Common.{◌≡◌, List, [], ◌∷◌, ◌++◌, Option, Some, None, refl, sym, ap, ◌∙◌, arith}
use Rattle.hp_word.specs.declared.place.Place.{Place}
use Rattle.hp_built.specs.Unbuilt.{earlier, least}

-- of three places each is compared with each
three : (p q r : Place) → earlier (earlier (Some p) (Some q)) (Some r) ≡ earlier (Some p) (earlier (Some q) (Some r))
three p q r = grind arith

earlier_assoc : (a b c : Option Place) → earlier (earlier a b) c ≡ earlier a (earlier b c)
earlier_assoc None b c = refl
earlier_assoc (Some p) None c = refl
earlier_assoc (Some p) (Some q) (Some r) = three p q r
earlier_assoc (Some p) (Some q) None = none_last (earlier (Some p) (Some q))
  where
    none_last : (a : Option Place) → earlier a None ≡ a
    none_last None = refl
    none_last (Some p) = refl

pub least_joined : (xs ys : List Place) → least (xs ++ ys) ≡ earlier (least xs) (least ys)
unfolding least
least_joined [] ys = refl
least_joined (x ∷ xs) ys = ap (earlier (Some x)) (least_joined xs ys) ∙ sym (earlier_assoc (Some x) (least xs) (least ys))
