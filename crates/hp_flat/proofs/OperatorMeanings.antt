-- What the operators on two words come to, by the classes of the language.
use Rattle.std.proofs.Common.{◌≡◌, false, List, [], ◌∷◌, None, refl, ap}
use Rattle.hp_word.specs.declared.order.Order.{Order}
use Rattle.hp_word.specs.declared.table.Table.{Table}
use Rattle.hp_script.specs.declared.tree.BinOp.{BinOp}
use Rattle.hp_script.specs.declared.tree.BinOp.TheVariants as op
use Rattle.hp_script.specs.declared.typed.Shape.{Shape}
use Rattle.hp_script.specs.Functions.{function_named, scalar_named, fold_named, array_named, frame_named}
use Rattle.hp_script.specs.Mirror.{Head, Tree, binary}
use Rattle.hp_script.specs.Scope.{Scope as Point}
use Rattle.hp_script.specs.Shaped.{HasShape, of_scalar_call, of_scalar_calls, of_fold, of_truth_fold, named_div, named_rem, named_min, named_max, named_sum, named_prod, named_minimum, named_maximum, named_any, named_all, IsArithmetic, addition, subtraction, multiplication, IsComparison, equal, not_equal, less, at_most, greater, at_least, IsLogic, conjunction, disjunction}
use Rattle.hp_meaning.specs.Scopes.{Scope}
use Rattle.hp_meaning.specs.ValueOf.{Supply, flipped}
use Rattle.hp_program.specs.Programs.{joined}
use Rattle.hp_air.specs.declared.slot.Slot.{Slot}
use Rattle.hp_air.specs.Unknowns.{Unknown, Columns, arrays_at}
use Rattle.hp_flat.specs.Flat.{flat}
use Rattle.hp_flat.specs.FlatCalls.{binary_code, calculated_code, product_code}
use Rattle.hp_flat.specs.Homes.{Homes}
use Rattle.hp_flat.proofs.LazyMeanings.{and_means, or_means}
use Rattle.hp_flat.proofs.WordMeanings.{g, Means, Sides, plain_means}

-- an expression that has a type is no call of `transpose`
pub not_flipped : (g : Supply) {s : Point} {x : Tree} {a : Shape} → HasShape s x a → flipped g x ≡ None
unfolding flipped function_named scalar_named fold_named array_named frame_named
not_flipped g (of_scalar_call named_div p q) = refl
not_flipped g (of_scalar_call named_rem p q) = refl
not_flipped g (of_scalar_call named_min p q) = refl
not_flipped g (of_scalar_call named_max p q) = refl
not_flipped g (of_scalar_calls named_div e p q) = refl
not_flipped g (of_scalar_calls named_rem e p q) = refl
not_flipped g (of_scalar_calls named_min e p q) = refl
not_flipped g (of_scalar_calls named_max e p q) = refl
not_flipped g (of_fold out named_sum p) = refl
not_flipped g (of_fold out named_prod p) = refl
not_flipped g (of_fold out named_minimum p) = refl
not_flipped g (of_fold out named_maximum p) = refl
not_flipped g (of_truth_fold out named_any p) = refl
not_flipped g (of_truth_fold out named_all p) = refl
not_flipped g _ = refl

module _ (h : Homes) (slots : List Slot) (tables : List Table) (orders : List Order) (around : Columns) (v : Scope) (n : Head) (x y : Tree) (sides : Sides h slots tables orders around v x y)
    (first : Means h slots tables orders around v x) (second : Means h slots tables orders around v y) where
  -- `a * b` of words
  product_by : arrays_at h.known x ≡ [] → binary_code h n op.Mul false x y (flat h around y) ≡ joined (flat h around y) (calculated_code h n op.Mul x y)
  unfolding binary_code
  product_by bare = ap (λ (us : List Unknown). joined (flat h around y) (elim us [ [] ↦ calculated_code h n op.Mul x y | (_ ∷ _) ↦ product_code h n x y ])) bare

  -- `a + b`, `a - b`, `a * b`
  pub arithmetic_means : {op : BinOp} → IsArithmetic op → arrays_at h.known x ≡ [] → flipped (g h slots tables orders) y ≡ None → Means h slots tables orders around v (binary n op false x y)
  unfolding binary_code
  arithmetic_means addition bare straight = plain_means h slots tables orders around v n op.Add x y sides bare refl refl refl first second
  arithmetic_means subtraction bare straight = plain_means h slots tables orders around v n op.Sub x y sides bare refl refl refl first second
  arithmetic_means multiplication bare straight = plain_means h slots tables orders around v n op.Mul x y sides bare refl straight (product_by bare) first second

  -- `a == b` and the other five
  pub comparison_means : {op : BinOp} → IsComparison op → arrays_at h.known x ≡ [] → Means h slots tables orders around v (binary n op false x y)
  unfolding binary_code
  comparison_means equal bare = plain_means h slots tables orders around v n op.Eq x y sides bare refl refl refl first second
  comparison_means not_equal bare = plain_means h slots tables orders around v n op.Ne x y sides bare refl refl refl first second
  comparison_means less bare = plain_means h slots tables orders around v n op.Lt x y sides bare refl refl refl first second
  comparison_means at_most bare = plain_means h slots tables orders around v n op.Le x y sides bare refl refl refl first second
  comparison_means greater bare = plain_means h slots tables orders around v n op.Gt x y sides bare refl refl refl first second
  comparison_means at_least bare = plain_means h slots tables orders around v n op.Ge x y sides bare refl refl refl first second

  -- `a && b`, `a || b`
  pub logic_means : {op : BinOp} → IsLogic op → Means h slots tables orders around v (binary n op false x y)
  logic_means conjunction = and_means h slots tables orders around v n x y sides second first
  logic_means disjunction = or_means h slots tables orders around v n x y sides second first
