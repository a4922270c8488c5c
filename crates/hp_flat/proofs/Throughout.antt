-- What holds of each operation of a program, and of each word that it looks at.
use Rattle.std.proofs.Common.{◌≡◌, ℕ, Bool, List, [], ◌∷◌, ◌++◌, Option, Some, None, IsTrue, refl, ◌∙◌}
use Rattle.std.proofs.lemmas.Bool.{and_from}
use Rattle.std.proofs.lemmas.List.Folds.{list_all-append}
use Rattle.std.specs.List.{list_all}
use Rattle.hp_program.specs.Programs.{Prog, stop, plain, choose, loop, joined, operations, tests}
use Rattle.hp_air.specs.declared.what.Op.{Op}
use Rattle.hp_air.specs.declared.what.What.{What}
use Rattle.hp_air.specs.Unknowns.{Unknown}
use Rattle.hp_flat.specs.FlatCalls.{where_some, of_array, of_arrays, of_first}

abbrev pub Throughout : (look : ℕ → Bool) (test : What → Bool) → Prog Op → Type 0
Throughout look test stop = Unit {0}
Throughout look test (plain op p) = IsTrue (test op.what) × Throughout look test p
Throughout look test (choose w first second p) = IsTrue (look w) × Throughout look test first × Throughout look test second × Throughout look test p
Throughout look test (loop before w body p) = Throughout look test before × IsTrue (look w) × Throughout look test body × Throughout look test p

module _ (look : ℕ → Bool) (test : What → Bool) where
  pub through_both : (p q : Prog Op) → Throughout look test p → Throughout look test q → Throughout look test (joined p q)
  unfolding joined
  through_both stop q first second = second
  through_both (plain op p) q first second = (first.0, through_both p q first.1 second)
  through_both (choose w one other p) q first second = (first.0, first.1, first.2, through_both p q first.3 second)
  through_both (loop before w body p) q first second = (first.0, first.1, first.2, through_both p q first.3 second)

  -- ---- as tests

  of_three : (xs ys zs : List Op) → IsTrue (list_all (λ (op : Op). test op.what) xs) → IsTrue (list_all (λ (op : Op). test op.what) ys) → IsTrue (list_all (λ (op : Op). test op.what) zs)
      → IsTrue (list_all (λ (op : Op). test op.what) ((xs ++ ys) ++ zs))
  of_three xs ys zs first second third =
      list_all-append (λ (op : Op). test op.what) (xs ++ ys) zs
      ∙ and_from _ _ (list_all-append (λ (op : Op). test op.what) xs ys ∙ and_from _ _ first second) third

  pub all_operations : (p : Prog Op) → Throughout look test p → IsTrue (list_all (λ (op : Op). test op.what) (operations p))
  unfolding operations
  all_operations stop all = refl
  all_operations (plain op p) all = and_from _ _ all.0 (all_operations p all.1)
  all_operations (choose w first second p) all = of_three (operations first) (operations second) (operations p) (all_operations first all.1) (all_operations second all.2) (all_operations p all.3)
  all_operations (loop before w body p) all = of_three (operations before) (operations body) (operations p) (all_operations before all.0) (all_operations body all.2) (all_operations p all.3)

  both_looks : (xs ys : List ℕ) → IsTrue (list_all look xs) → IsTrue (list_all look ys) → IsTrue (list_all look (xs ++ ys))
  both_looks xs ys first second = list_all-append look xs ys ∙ and_from _ _ first second

  pub all_looks : (p : Prog Op) → Throughout look test p → IsTrue (list_all look (tests p))
  unfolding tests
  all_looks stop all = refl
  all_looks (plain op p) all = all_looks p all.1
  all_looks (choose w first second p) all =
      and_from _ _ all.0 (both_looks (tests first ++ tests second) (tests p) (both_looks (tests first) (tests second) (all_looks first all.1) (all_looks second all.2)) (all_looks p all.3))
  all_looks (loop before w body p) all =
      both_looks (tests before ++ w ∷ tests body) (tests p) (both_looks (tests before) (w ∷ tests body) (all_looks before all.0) (and_from _ _ all.1 (all_looks body all.2))) (all_looks p all.3)

  -- ---- what is made where there is something

  pub through_some : {A : Type 0} (o : Option A) (made : A → Prog Op) → ((a : A) → o ≡ Some a → Throughout look test (made a)) → Throughout look test (where_some o made)
  through_some (Some a) made each = each a refl
  through_some None made each = tt

  pub through_array : (us : List Unknown) (made : Unknown → Prog Op) → ((u : Unknown) → us ≡ u ∷ [] → Throughout look test (made u)) → Throughout look test (of_array us made)
  through_array [] made each = tt
  through_array (u ∷ []) made each = each u refl
  through_array (u ∷ v ∷ us) made each = tt

  pub through_arrays : (us vs : List Unknown) (made : Unknown → Unknown → Prog Op) → ((u v : Unknown) → us ≡ u ∷ [] → vs ≡ v ∷ [] → Throughout look test (made u v)) → Throughout look test (of_arrays us vs made)
  through_arrays (u ∷ []) (v ∷ []) made each = each u v refl refl
  through_arrays _ _ made each = tt

  pub through_first : (us : List Unknown) (made : Unknown → Prog Op) → ((u : Unknown) (more : List Unknown) → us ≡ u ∷ more → Throughout look test (made u)) → Throughout look test (of_first us made)
  through_first [] made each = tt
  through_first (u ∷ us) made each = each u us refl
