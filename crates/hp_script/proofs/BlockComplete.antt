-- A block that fits by the relation passes the tests.
use Rattle.std.proofs.Common.{◌≡◌, ℕ, true, List, [], ◌∷◌, bytes_eq, Option, Some, None, refl, sym, ap, ap₂, ◌∙◌, subst}
use Rattle.hp_word.specs.declared.name.Name.{Name}
use Rattle.hp_word.specs.declared.place.Place.{Place}
use Rattle.hp_script.specs.declared.rule.Rule.TheVariants.{WrongType, TypeChanged}
use Rattle.hp_script.specs.declared.typed.Shape.{Shape}
use Rattle.hp_script.specs.declared.typed.Shape.TheVariants.{Int, Bool as Truth, Ints, Bools, Matrix, Frame}
use Rattle.hp_script.specs.Breaks.{is_frame}
use Rattle.hp_script.specs.Checked.{same_names, same_shape, keeps_shape, is_printed, is_test, second_branch, behind_branches, behind_loop, after, break_in}
use Rattle.hp_script.specs.Fitting.{CanPrint, print_number, print_truth, print_numbers, print_truths, FitsBlock, fits_done, fits_first, fits_again, fits_print, fits_export, fits_if, fits_while}
use Rattle.hp_script.specs.Mirror.{Tree, Block, done, assign, print, export, choose, loop}
use Rattle.hp_script.specs.Scope.{Scope, shape_among, after_assignment}
use Rattle.hp_script.proofs.TestLemmas.{none_both, unless_true, and_both, bytes_same}
use Rattle.hp_script.proofs.ArgumentKinds.{Valued}
use Rattle.hp_script.proofs.Completeness.{complete}

-- ---- types are like themselves

names_self : (xs : List Name) → same_names xs xs ≡ true
names_self [] = refl
names_self (x ∷ xs) = and_both (bytes_eq x.bytes x.bytes) (same_names xs xs) (bytes_same x.bytes x.bytes refl) (names_self xs)

shape_self : (a : Shape) → same_shape a a ≡ true
shape_self Int = refl
shape_self Truth = refl
shape_self Ints = refl
shape_self Bools = refl
shape_self Matrix = refl
shape_self (Frame xs) = names_self xs

print_passes : {a : Shape} → CanPrint a → is_printed (Some a) ≡ true
print_passes print_number = refl
print_passes print_truth = refl
print_passes print_numbers = refl
print_passes print_truths = refl

-- ---- statements

-- The block passes, and this is the point behind it.
pub record BlockPasses (s : Scope) (b : Block) (t : Scope) : Type 0 where
  pub passed : break_in s b ≡ None
  pub behind : t ≡ after s b

assign_passes : (s t : Scope) (at : Place) (x : List ℕ) (e : Tree) (rest : Block) (a : Shape) → Valued s e a → keeps_shape (shape_among s.vars x) (Some a) ≡ true
    → BlockPasses (after_assignment s x (Some a)) rest t → BlockPasses s (assign at x e rest) t
unfolding break_in after
assign_passes s t at x e rest a v keeps next = record {
  passed = none_both _ _ v.passed (none_both _ _ (unless_true _ at TypeChanged (subst (λ (o : Option Shape). keeps_shape (shape_among s.vars x) o ≡ true) (sym v.shape) keeps))
      (subst (λ (o : Option Shape). break_in (after_assignment s x o) rest ≡ None) (sym v.shape) next.passed));
  behind = next.behind ∙ ap (λ (o : Option Shape). after (after_assignment s x o) rest) (sym v.shape);
}

print_statement : (s t : Scope) (at : Place) (e : Tree) (rest : Block) (a : Shape) → Valued s e a → CanPrint a → BlockPasses s rest t → BlockPasses s (print at e rest) t
unfolding break_in after
print_statement s t at e rest a v can next = record {
  passed = none_both _ _ v.passed (none_both _ _ (unless_true _ at WrongType (ap is_printed v.shape ∙ print_passes can)) next.passed);
  behind = next.behind;
}

export_statement : (s t : Scope) (at : Place) (e : Tree) (rest : Block) (columns : List Name) → Valued s e (Frame columns) → BlockPasses s rest t → BlockPasses s (export at e rest) t
unfolding break_in after
export_statement s t at e rest columns v next = record {
  passed = none_both _ _ v.passed (none_both _ _ (unless_true _ at WrongType (ap is_frame v.shape)) next.passed);
  behind = next.behind;
}

if_statement : (s first second t : Scope) (at : Place) (c : Tree) (body other rest : Block) → Valued s c Truth → BlockPasses s body first → BlockPasses (second_branch s first) other second
    → BlockPasses (behind_branches first second) rest t → BlockPasses s (choose at c body other rest) t
unfolding break_in after
if_statement s first second t at c body other rest v taken passed next =
    let second_is : second ≡ after (second_branch s (after s body)) other = passed.behind ∙ ap (λ (k : Scope). after (second_branch s k) other) taken.behind in
    let behind_is : behind_branches first second ≡ behind_branches (after s body) (after (second_branch s (after s body)) other) = ap₂ behind_branches taken.behind second_is in
    record {
      passed = none_both _ _ v.passed (none_both _ _ (unless_true _ at WrongType (ap is_test v.shape)) (none_both _ _ taken.passed
          (none_both _ _ (subst (λ (k : Scope). break_in (second_branch s k) other ≡ None) taken.behind passed.passed)
          (subst (λ (k : Scope). break_in k rest ≡ None) behind_is next.passed))));
      behind = next.behind ∙ ap (λ (k : Scope). after k rest) behind_is;
    }

while_statement : (s turn t : Scope) (at : Place) (c : Tree) (body rest : Block) → Valued s c Truth → BlockPasses s body turn → BlockPasses (behind_loop s turn) rest t
    → BlockPasses s (loop at c body rest) t
unfolding break_in after
while_statement s turn t at c body rest v taken next = record {
  passed = none_both _ _ v.passed (none_both _ _ (unless_true _ at WrongType (ap is_test v.shape)) (none_both _ _ taken.passed
      (subst (λ (k : Scope). break_in (behind_loop s k) rest ≡ None) taken.behind next.passed)));
  behind = next.behind ∙ ap (λ (k : Scope). after (behind_loop s k) rest) taken.behind;
}

done_passes : (s : Scope) → BlockPasses s done s
unfolding break_in after
done_passes s = record { passed = refl; behind = refl }

pub block_passes : {s : Scope} {b : Block} {t : Scope} → FitsBlock s b t → BlockPasses s b t
block_passes {s = s} fits_done = done_passes s
block_passes {s = s} {t = t} (fits_first {at = at} {x = x} {e = e} {rest = rest} {a = a} p is next) =
    assign_passes s t at x e rest a (complete p) (subst (λ (o : Option Shape). keeps_shape o (Some a) ≡ true) (sym is) refl) (block_passes next)
block_passes {s = s} {t = t} (fits_again {at = at} {x = x} {e = e} {rest = rest} {a = a} p is next) =
    assign_passes s t at x e rest a (complete p) (subst (λ (o : Option Shape). keeps_shape o (Some a) ≡ true) (sym is) (shape_self a)) (block_passes next)
block_passes {s = s} {t = t} (fits_print {at = at} {e = e} {rest = rest} {a = a} p can next) = print_statement s t at e rest a (complete p) can (block_passes next)
block_passes {s = s} {t = t} (fits_export {at = at} {d = e} {rest = rest} {columns = columns} p next) = export_statement s t at e rest columns (complete p) (block_passes next)
block_passes {s = s} {t = t} (fits_if {first = first} {second = second} {at = at} {c = c} {body = body} {other = other} {rest = rest} p taken passed next) =
    if_statement s first second t at c body other rest (complete p) (block_passes taken) (block_passes passed) (block_passes next)
block_passes {s = s} {t = t} (fits_while {turn = turn} {at = at} {c = c} {body = body} {rest = rest} p taken next) =
    while_statement s turn t at c body rest (complete p) (block_passes taken) (block_passes next)
