-- The constraints of a program's operations are those of the constructs that they follow.
use Rattle.std.proofs.Common.{◌≡◌, ℕ, List, [], ◌∷◌, ◌++◌, map, refl, sym, ap, ap₂, ◌∙◌}
use Rattle.std.proofs.lemmas.List.{map-append}
use Rattle.std.specs.Prelude.{flat_map, zip}
use Rattle.hp_air.specs.declared.what.Op.{Op}
use Rattle.hp_air.specs.Arrays.{Arrays, Scalar, Length, Fill, Range, Read, Copy, Map, Reduce, Scan, Stencil, Filter, Join, Group, Concat, Sort, At, Pick, Frame, Stack, Row, Product, ProductT, PrintWord, PrintList, Export, arrays_of, renamed}
use Rattle.hp_air.specs.Constraints.{Bound, equal, equal_all, bounds_of}
use Rattle.hp_air.specs.Unknowns.{Unknown}
use Rattle.hp_flat.specs.FlatLaws.{rebound}
use Rattle.hp_flat.specs.StepByStep.{Follows, both_end, scalar_work, same_step, first_length}

module _ {X Y : Type 0} (f : X → Y) where
  equal_all_renamed : (x : X) (ys : List X) → map (rebound f) (equal_all x ys) ≡ equal_all (f x) (map f ys)
  equal_all_renamed x [] = refl
  equal_all_renamed x (y ∷ ys) = ap (λ (l : List (Bound Y)). equal (f x) (f y) ++ l) (equal_all_renamed x ys)

  copies_renamed : (os ins : List X) → map (rebound f) (flat_map (λ p. equal p.0 p.1) (zip os ins)) ≡ flat_map (λ p. equal p.0 p.1) (zip (map f os) (map f ins))
  copies_renamed [] ins = refl
  copies_renamed (o ∷ os) [] = refl
  copies_renamed (o ∷ os) (x ∷ ins) = ap (λ (l : List (Bound Y)). equal (f o) (f x) ++ l) (copies_renamed os ins)

  -- the constraints of an operation over other names of its arrays
  pub bounds_renamed : (a : Arrays X) → map (rebound f) (bounds_of a) ≡ bounds_of (renamed f a)
  unfolding bounds_of renamed
  bounds_renamed Scalar = refl
  bounds_renamed (Length x) = refl
  bounds_renamed (Fill out) = refl
  bounds_renamed (Range out) = refl
  bounds_renamed (Read []) = refl
  bounds_renamed (Read (out ∷ outs)) = equal_all_renamed out outs
  bounds_renamed (Copy os ins) = copies_renamed os ins
  bounds_renamed (Map out ins) = equal_all_renamed out ins
  bounds_renamed (Reduce kind x) = refl
  bounds_renamed (Scan out x) = refl
  bounds_renamed (Stencil out x balanced) = refl
  bounds_renamed (Filter [] ins mask) = refl
  bounds_renamed (Filter (out ∷ outs) [] mask) = refl
  bounds_renamed (Filter (out ∷ outs) (x ∷ ins) mask) = refl
  bounds_renamed (Join [] lefts rights) = refl
  bounds_renamed (Join (out ∷ outs) [] rights) = refl
  bounds_renamed (Join (out ∷ outs) (left ∷ lefts) []) = refl
  bounds_renamed (Join (out ∷ outs) (left ∷ lefts) (right ∷ rights)) = refl
  bounds_renamed (Group [] ins) = refl
  bounds_renamed (Group (out ∷ outs) []) = refl
  bounds_renamed (Group (out ∷ outs) (x ∷ ins)) = refl
  bounds_renamed (Concat out left right) = refl
  bounds_renamed (Sort [] ins) = refl
  bounds_renamed (Sort (out ∷ outs) ins) = refl
  bounds_renamed (At x) = refl
  bounds_renamed (Pick out x index) = refl
  bounds_renamed (Frame [] ins) = refl
  bounds_renamed (Frame (out ∷ outs) ins) = equal_all_renamed out ins
  bounds_renamed (Stack out ins) = equal_all_renamed out ins
  bounds_renamed (Row out matrix) = refl
  bounds_renamed (Product out left right) = refl
  bounds_renamed (ProductT out left right) = refl
  bounds_renamed PrintWord = refl
  bounds_renamed (PrintList x) = refl
  bounds_renamed (Export xs) = refl

-- the constraints of operations, by the names of their arrays
pub bounds_of_rows : (f : ℕ → Unknown) (ops : List Op) → map (rebound f) (flat_map (λ op. bounds_of (arrays_of op.what)) ops) ≡ flat_map bounds_of (map (λ op. renamed f (arrays_of op.what)) ops)
bounds_of_rows f [] = refl
bounds_of_rows f (op ∷ ops) =
    map-append (rebound f) (bounds_of (arrays_of op.what)) (flat_map (λ (o : Op). bounds_of (arrays_of o.what)) ops)
    ∙ ap₂ (λ (xs ys : List (Bound Unknown)). xs ++ ys) (bounds_renamed f (arrays_of op.what)) (bounds_of_rows f ops)

no_bounds : (us : List Unknown) (cs : List (Arrays Unknown)) → flat_map bounds_of (map Length us ++ cs) ≡ flat_map bounds_of cs
unfolding bounds_of
no_bounds [] cs = refl
no_bounds (u ∷ us) cs = no_bounds us cs

pub bounds_follow : {rows cs : List (Arrays Unknown)} → Follows rows cs → flat_map bounds_of rows ≡ flat_map bounds_of cs
unfolding bounds_of
bounds_follow both_end = refl
bounds_follow (scalar_work p) = bounds_follow p
bounds_follow (same_step {a = a} is p) = ap (λ (l : List (Bound Unknown)). bounds_of a ++ l) (bounds_follow p)
bounds_follow (first_length {cs = cs} u us p) = bounds_follow p ∙ sym (no_bounds (u ∷ us) cs)
