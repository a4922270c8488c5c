-- Lists of names that are equal.
use Rattle.std.proofs.Common.{◌≡◌, ◌≢◌, Bool, true, false, ◌&&◌, List, [], ◌∷◌, length, refl, sym, arith}
use Rattle.std.specs.Prelude.{bytes_eq}
use Rattle.hp_word.specs.declared.name.Name.{Name}
use Rattle.hp_script.specs.Checked.{same_names}

and_false : (a b : Bool) → b ≡ false → false ≡ (a && b)
and_false true b e = sym e
and_false false b e = refl

-- names that are more or fewer
pub names_differ : (a b : List Name) → length a ≢ length b → false ≡ same_names a b
names_differ [] [] h = absurd (h refl)
names_differ [] (y ∷ b) h = refl
names_differ (x ∷ a) [] h = refl
names_differ (x ∷ a) (y ∷ b) h = and_false (bytes_eq x.bytes y.bytes) (same_names a b) (sym (names_differ a b (λ e. h (omega (arith, e)))))
