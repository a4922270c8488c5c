-- Why the six folds meet the laws of folds.
use Rattle.std.specs.Prelude.{◌≡◌, ◌+ℤ◌, ◌*ℤ◌, ℤ, pos, negsuc, Bool, true, false, ◌&&◌, ◌||◌, IsTrue, FitsSigned, refl}
use Rattle.std.specs.Int.{int_min, int_max, w64}
use Rattle.std.specs.Cmp.{signed_Decides}
use Rattle.std.proofs.Common.{arith, rules, sym, ap, ◌∙◌}
use Rattle.std.proofs.Math.Bool.{and_assoc, or_assoc, and-true, or-false}
use Rattle.hp_word.specs.Products.{product_assoc}
use Rattle.std.proofs.lemmas.Int.{ints, clamps, SFits-int_wrap, int_wrap-add_left, int_wrap-add_right, int_wrap-mul_left, int_wrap-mul_right, int_wrap_fits}
use Rattle.hp_word.specs.declared.fold.FoldKind.TheVariants.{Sum, Prod, Min, Max, Any, All}
use Rattle.hp_word.specs.Words.{wrap, truth, is_true}
use Rattle.hp_word.specs.Folds.{joined, unit_of}
use Rattle.hp_word.specs.FoldLaws.{FoldLaws, is_word, is_truth}

pub is_word_fits : (z : ℤ) → FitsSigned w64 z → IsTrue (is_word z)
is_word_fits (pos n) f = search (rules, ints)
is_word_fits (negsuc n) f = search (rules, ints)

pub fits_is_word : (z : ℤ) → IsTrue (is_word z) → FitsSigned w64 z
fits_is_word (pos n) h = search (rules, ints)
fits_is_word (negsuc n) h = search (rules, ints)

-- words, however they are joined
word_fits : (z : ℤ) → IsTrue (is_word z) → wrap z ≡ z
word_fits z h = int_wrap_fits w64 z (fits_is_word z h)

pub sum_laws : FoldLaws (unit_of Sum) (joined Sum) is_word
sum_laws = record {
  unit_allowed = refl;
  closed = λ a b f g. is_word_fits _ (SFits-int_wrap w64 (a +ℤ b));
  associative = λ a b c f g h.
      let e : (a +ℤ b) +ℤ c ≡ a +ℤ (b +ℤ c) = omega (arith, ints) in
      int_wrap-add_left w64 (a +ℤ b) c ∙ ap wrap e ∙ sym (int_wrap-add_right w64 a (b +ℤ c));
  unit_left = λ a f. let e : pos 0 +ℤ a ≡ a = omega (arith, ints) in ap wrap e ∙ word_fits a f;
  unit_right = λ a f. let e : a +ℤ pos 0 ≡ a = omega (arith, ints) in ap wrap e ∙ word_fits a f;
}

pub prod_laws : FoldLaws (unit_of Prod) (joined Prod) is_word
prod_laws = record {
  unit_allowed = refl;
  closed = λ a b f g. is_word_fits _ (SFits-int_wrap w64 (a *ℤ b));
  associative = λ a b c f g h. int_wrap-mul_left w64 (a *ℤ b) c ∙ ap wrap (product_assoc a b c) ∙ sym (int_wrap-mul_right w64 a (b *ℤ c));
  unit_left = λ a f. let e : pos 1 *ℤ a ≡ a = omega (arith, ints) in ap wrap e ∙ word_fits a f;
  unit_right = λ a f. let e : a *ℤ pos 1 ≡ a = omega (arith, ints) in ap wrap e ∙ word_fits a f;
}

pub int_min_fits : (a b : ℤ) → FitsSigned w64 a → FitsSigned w64 b → FitsSigned w64 (int_min a b)
int_min_fits a b f g = omega (arith, ints, clamps)

pub int_max_fits : (a b : ℤ) → FitsSigned w64 a → FitsSigned w64 b → FitsSigned w64 (int_max a b)
int_max_fits a b f g = omega (arith, ints, clamps)

pub min_laws : FoldLaws (unit_of Min) (joined Min) is_word
min_laws = record {
  unit_allowed = refl;
  closed = λ a b f g. is_word_fits _ (int_min_fits a b (fits_is_word a f) (fits_is_word b g));
  associative = λ a b c f g h. omega (arith, ints, clamps);
  unit_left = λ a f. let fits = fits_is_word a f in omega (arith, ints, clamps);
  unit_right = λ a f. let fits = fits_is_word a f in omega (arith, ints, clamps);
}

pub max_laws : FoldLaws (unit_of Max) (joined Max) is_word
max_laws = record {
  unit_allowed = refl;
  closed = λ a b f g. is_word_fits _ (int_max_fits a b (fits_is_word a f) (fits_is_word b g));
  associative = λ a b c f g h. omega (arith, ints, clamps);
  unit_left = λ a f. let fits = fits_is_word a f in omega (arith, ints, clamps);
  unit_right = λ a f. let fits = fits_is_word a f in omega (arith, ints, clamps);
}

truth_is_allowed : (b : Bool) → IsTrue (is_truth (truth b))
truth_is_allowed true = refl
truth_is_allowed false = refl

-- an allowed word of the folds of truth values is 0 or 1
truth_again : (a : ℤ) → IsTrue (is_truth a) → truth (is_true a) ≡ a
truth_again a h = grind (arith, ints, signed_Decides a (pos 0), signed_Decides a (pos 1))

is_true_truth : (b : Bool) → is_true (truth b) ≡ b
is_true_truth true = refl
is_true_truth false = refl

pub any_laws : FoldLaws (unit_of Any) (joined Any) is_truth
any_laws = record {
  unit_allowed = refl;
  closed = λ a b f g. truth_is_allowed (is_true a || is_true b);
  associative = λ a b c f g h. ap truth (ap (λ x. x || is_true c) (is_true_truth (is_true a || is_true b)) ∙ or_assoc (is_true a) (is_true b) (is_true c) ∙ sym (ap (λ x. is_true a || x) (is_true_truth (is_true b || is_true c))));
  unit_left = λ a f. truth_again a f;
  unit_right = λ a f. ap truth (or-false (is_true a)) ∙ truth_again a f;
}

pub all_laws : FoldLaws (unit_of All) (joined All) is_truth
all_laws = record {
  unit_allowed = refl;
  closed = λ a b f g. truth_is_allowed (is_true a && is_true b);
  associative = λ a b c f g h. ap truth (ap (λ x. x && is_true c) (is_true_truth (is_true a && is_true b)) ∙ and_assoc (is_true a) (is_true b) (is_true c) ∙ sym (ap (λ x. is_true a && x) (is_true_truth (is_true b && is_true c))));
  unit_left = λ a f. truth_again a f;
  unit_right = λ a f. ap truth (and-true (is_true a)) ∙ truth_again a f;
}
