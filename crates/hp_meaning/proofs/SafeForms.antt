-- Operators and indices are safe where their operands are.
use Rattle.std.proofs.Common.{◌≡◌, Bool, true, false, cond, Option, Some, None, option_and_then, refl}
use Rattle.hp_word.specs.declared.place.Place.{Place}
use Rattle.hp_script.specs.declared.tree.UnOp.{UnOp}
use Rattle.hp_script.specs.declared.tree.BinOp.{BinOp}
use Rattle.hp_script.specs.declared.tree.BinOp.TheVariants as binary
use Rattle.hp_script.specs.declared.typed.Shape.{Shape}
use Rattle.hp_script.specs.declared.typed.Shape.TheVariants as shape
use Rattle.hp_script.specs.Results.{of_both, logic_result, product_result, binary_result, unary_result, index_result}
use Rattle.hp_script.specs.Scope.{Scope}
use Rattle.hp_meaning.specs.declared.seen.Seen.{Seen}
use Rattle.hp_meaning.specs.declared.value.Value.{Value}
use Rattle.hp_meaning.specs.Fitting.{HasShape, a_truth}
use Rattle.hp_meaning.specs.ListRules.{indexed}
use Rattle.hp_meaning.specs.MatrixRules.{flipped_value}
use Rattle.hp_meaning.specs.Outcomes.{Wrong, followed, ended}
use Rattle.hp_meaning.specs.Scopes as values
use Rattle.hp_meaning.specs.ValueOf.{Meaning, operator_value, second_side, lazily, lazy_operands, strict_operands, flipped_operands, index_operands, operated}
use Rattle.hp_meaning.specs.WordRules.{is_lazy, unary_value}
use Rattle.hp_meaning.proofs.Fine.{Fine, is, followed_fine, so}
use Rattle.hp_meaning.proofs.FineFrames.{fine_if}
use Rattle.hp_meaning.proofs.FineLists.{index_as, flipped_right}
use Rattle.hp_meaning.proofs.FineWords.{decision_truth, operator_as, unary_as}
use Rattle.hp_meaning.proofs.Safe.{Fit, Safe, SafeAs, safe, untyped, then_one, then_two, with_one, with_both}

pub unary_safe : {s : Scope} {found : Option Shape} {m : Meaning} (op : UnOp) (dotted : Bool) → SafeAs s found m
    → SafeAs s (option_and_then (unary_result op dotted) found) (λ v n. followed (m v n) (λ a. ended (unary_value op dotted a)))
unary_safe op dotted h = with_one (unary_result op dotted) h (λ kind x. then_one (unary_result op dotted kind) (unary_value op dotted) x (λ a k. unary_as op dotted k))

pub index_safe : {s : Scope} {fa fb : Option Shape} {m k : Meaning} (at : Place) → SafeAs s fa m → SafeAs s fb k
    → SafeAs s (of_both index_result fa fb) (index_operands at m k)
unfolding index_operands
index_safe at h k = with_both index_result h k (λ ka kb x y. then_two (index_result ka kb) (indexed at) x y (λ a b h k. index_as at h k))

-- ---- `&&` and `||`

second_fine : {a : Value} (n : Seen) → HasShape shape.Bool a → Fine Value (HasShape shape.Bool) (second_side a n)
second_fine n (a_truth x h) = is (a_truth x h)

lazily_fine : {s : Scope} {k : Meaning} {a : Value} (op : BinOp) (v : values.Scope) (n : Seen) → HasShape shape.Bool a → Safe s shape.Bool k → Fit s v → Fine Value (HasShape shape.Bool) (lazily op a k v n)
unfolding lazily
lazily_fine op v n (a_truth x h) y fit = fine_if _ (is (a_truth _ (decision_truth op))) (followed_fine _ (y.fine v n fit) (λ b n h. second_fine n h))

sides_safe : {s : Scope} {m k : Meaning} (op : BinOp) (dotted : Bool) (ka kb : Shape) → Safe s ka m → Safe s kb k
    → SafeAs s (logic_result dotted ka kb) (λ v n. cond dotted Wrong (followed (m v n) (λ a. lazily op a k v)))
sides_safe op true ka kb x y = untyped
sides_safe op false shape.Bool shape.Bool x y = safe (record { fine = λ v n fit. followed_fine _ (x.fine v n fit) (λ a n h. lazily_fine op v n h y fit) })
sides_safe op false _ _ x y = untyped

lazy_safe : {s : Scope} {m k : Meaning} (op : BinOp) (dotted : Bool) (ka kb : Shape) → is_lazy op ≡ true → Safe s ka m → Safe s kb k
    → SafeAs s (binary_result op dotted ka kb) (λ v n. cond dotted Wrong (followed (m v n) (λ a. lazily op a k v)))
lazy_safe binary.Or dotted ka kb lazy x y = sides_safe binary.Or dotted ka kb x y
lazy_safe binary.And dotted ka kb lazy x y = sides_safe binary.And dotted ka kb x y
lazy_safe _ dotted ka kb lazy x y = absurd cc

-- ---- two sides

operator_safe : {s : Scope} {m k : Meaning} (at : Place) (op : BinOp) (dotted lazy : Bool) (ka kb : Shape) → is_lazy op ≡ lazy → Safe s ka m → Safe s kb k
    → SafeAs s (binary_result op dotted ka kb)
    (λ v n. cond lazy (cond dotted Wrong (followed (m v n) (λ a. lazily op a k v))) (followed (m v n) (λ a n. followed (k v n) (λ b. ended (operator_value at op dotted a b)))))
operator_safe at op dotted true ka kb lazy x y = lazy_safe op dotted ka kb lazy x y
operator_safe at op dotted false ka kb lazy x y = then_two (binary_result op dotted ka kb) (operator_value at op dotted) x y (λ a b h k. operator_as at op dotted lazy h k)

pub binary_safe : {s : Scope} {fa fb : Option Shape} {m k : Meaning} (at : Place) (op : BinOp) (dotted : Bool) (flipped : Option Meaning) → flipped ≡ None → SafeAs s fa m → SafeAs s fb k
    → SafeAs s (of_both (binary_result op dotted) fa fb) (operated at op dotted m k flipped)
unfolding operated lazy_operands strict_operands
binary_safe at op dotted None e h k = with_both (binary_result op dotted) h k (λ ka kb x y. operator_safe at op dotted (is_lazy op) ka kb refl x y)
binary_safe at op dotted (Some flipped) e h k = absurd cc

-- ---- `A * transpose(B)`

-- what is transposed has the type of a matrix, if any
pub data Flips (s : Scope) : Option Shape → Option Meaning → Type 0 where
  flips : {m : Meaning} → Safe s shape.Matrix m → Flips s (Some shape.Matrix) (Some m)
  flips_not : {flipped : Option Meaning} → Flips s None flipped

matrices_safe : {s : Scope} {m k : Meaning} (at : Place) (kind : Shape) → Safe s kind m → Safe s shape.Matrix k
    → SafeAs s (product_result false kind shape.Matrix) (λ v n. followed (m v n) (λ a n. followed (k v n) (λ b. ended (flipped_value at a b))))
matrices_safe at shape.Matrix x y = then_two (Some shape.Matrix) (flipped_value at) x y (λ a b h k. so (flipped_right at h k))
matrices_safe at _ x y = untyped

pub flipped_safe : {s : Scope} {fa fb : Option Shape} {m : Meaning} {flipped : Option Meaning} (at : Place) (k : Meaning) → SafeAs s fa m → Flips s fb flipped
    → SafeAs s (of_both (product_result false) fa fb) (operated at binary.Mul false m k flipped)
unfolding operated flipped_operands
flipped_safe at k (safe {kind = kind} x) (flips y) = matrices_safe at kind x y
flipped_safe at k (safe x) flips_not = untyped
flipped_safe at k untyped y = untyped
