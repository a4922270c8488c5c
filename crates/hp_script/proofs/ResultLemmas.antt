-- The type of a result tells the types of the operands.
use Rattle.std.proofs.Common.{◌≡◌, true, List, [], ◌∷◌, ◌++◌, Option, Some, refl, subst}
use Rattle.std.specs.Option.{option_map}
use Rattle.hp_word.specs.declared.name.Name.{Name}
use Rattle.hp_script.specs.declared.typed.Shape.{Shape}
use Rattle.hp_script.specs.declared.typed.Shape.TheVariants.{Int, Bool as Truth, Ints, Bools, Matrix, Frame}
use Rattle.hp_script.specs.declared.argument.Argument.{Argument}
use Rattle.hp_script.specs.declared.argument.Argument.TheVariants.{Value, Interval, Body, Text, Column}
use Rattle.hp_script.specs.Results.{spreads_numbers, spreads_truths, are_numbers, are_truths, are_matrices, index_result, one_value, two_values, array_of, fill_result, length_result, of_ints, of_bools, vcat_result, nrow_result, filter_result, row_result, matrix_result, map_result, stencil_result, collect_result, read_result, without, join_result, aggregate_result, sort_result, column_names, measure_names}
use Rattle.hp_script.specs.Shaped.{IsArrayOf, array_of_numbers, array_of_truths, AreSpread, two_arrays, array_and_element, element_and_array}

-- ---- two types

pub record Both (a b k l : Shape) : Type 0 where
  pub left : a ≡ k
  pub right : b ≡ l

pub numbers_back : (a b : Shape) → are_numbers a b ≡ true → Both a b Int Int
numbers_back Int Int e = record { left = refl; right = refl }
numbers_back _ _ e = absurd cc

pub truths_back : (a b : Shape) → are_truths a b ≡ true → Both a b Truth Truth
truths_back Truth Truth e = record { left = refl; right = refl }
truths_back _ _ e = absurd cc

pub matrices_back : (a b : Shape) → are_matrices a b ≡ true → Both a b Matrix Matrix
matrices_back Matrix Matrix e = record { left = refl; right = refl }
matrices_back _ _ e = absurd cc

pub spread_numbers_back : (a b : Shape) → spreads_numbers a b ≡ true → AreSpread Int Ints a b
spread_numbers_back Ints Ints e = two_arrays
spread_numbers_back Ints Int e = array_and_element
spread_numbers_back Int Ints e = element_and_array
spread_numbers_back _ _ e = absurd cc

pub spread_truths_back : (a b : Shape) → spreads_truths a b ≡ true → AreSpread Truth Bools a b
spread_truths_back Bools Bools e = two_arrays
spread_truths_back Bools Truth e = array_and_element
spread_truths_back Truth Bools e = element_and_array
spread_truths_back _ _ e = absurd cc

-- ---- arrays

pub array_back : (a r : Shape) → array_of a ≡ Some r → IsArrayOf a r
array_back Int r e = let same : Ints ≡ r = cc in subst (λ (k : Shape). IsArrayOf Int k) same array_of_numbers
array_back Truth r e = let same : Bools ≡ r = cc in subst (λ (k : Shape). IsArrayOf Truth k) same array_of_truths
array_back _ r e = absurd cc

pub record FillBack (a b r : Shape) : Type 0 where
  pub array : IsArrayOf a r
  pub count : b ≡ Int

pub fill_back : (a b r : Shape) → fill_result a b ≡ Some r → FillBack a b r
fill_back a Int r e = record { array = array_back a r e; count = refl }
fill_back a _ r e = absurd cc

pub record LengthBack (a r : Shape) : Type 0 where
  pub one : Shape
  pub array : IsArrayOf one a
  pub is : Int ≡ r

pub length_back : (a r : Shape) → length_result a ≡ Some r → LengthBack a r
length_back Ints r e = record { one = Int; array = array_of_numbers; is = cc }
length_back Bools r e = record { one = Truth; array = array_of_truths; is = cc }
length_back _ r e = absurd cc

pub record Is (a k r l : Shape) : Type 0 where
  pub operand : a ≡ k
  pub is : l ≡ r

pub ints_back : (result a r : Shape) → of_ints result a ≡ Some r → Is a Ints r result
ints_back result Ints r e = record { operand = refl; is = cc }
ints_back result _ r e = absurd cc

pub bools_back : (result a r : Shape) → of_bools result a ≡ Some r → Is a Bools r result
bools_back result Bools r e = record { operand = refl; is = cc }
bools_back result _ r e = absurd cc

pub matrix_back : (a r : Shape) → matrix_result a ≡ Some r → Is a Matrix r Matrix
matrix_back Matrix r e = record { operand = refl; is = cc }
matrix_back _ r e = absurd cc

pub record VcatBack (a b r : Shape) : Type 0 where
  pub one : Shape
  pub array : IsArrayOf one r
  pub left : a ≡ r
  pub right : b ≡ r

pub vcat_back : (a b r : Shape) → vcat_result a b ≡ Some r → VcatBack a b r
vcat_back Ints Ints r e =
    let same : Ints ≡ r = cc in
    record { one = Int; array = subst (λ (k : Shape). IsArrayOf Int k) same array_of_numbers; left = same; right = same }
vcat_back Bools Bools r e =
    let same : Bools ≡ r = cc in
    record { one = Truth; array = subst (λ (k : Shape). IsArrayOf Truth k) same array_of_truths; left = same; right = same }
vcat_back _ _ r e = absurd cc

pub record RowBack (a b r : Shape) : Type 0 where
  pub matrix : a ≡ Matrix
  pub place : b ≡ Int
  pub is : Ints ≡ r

pub row_back : (a b r : Shape) → row_result a b ≡ Some r → RowBack a b r
row_back Matrix Int r e = record { matrix = refl; place = refl; is = cc }
row_back _ _ r e = absurd cc

-- an element by a number, or those of an array of places
pub data IndexBack (a b r : Shape) : Type 0 where
  by_number : IsArrayOf r a → b ≡ Int → IndexBack a b r
  by_array : {one : Shape} → IsArrayOf one a → b ≡ Ints → a ≡ r → IndexBack a b r

pub index_back : (a b r : Shape) → index_result a b ≡ Some r → IndexBack a b r
index_back Ints Int r e = let same : Int ≡ r = cc in by_number (subst (λ (k : Shape). IsArrayOf k Ints) same array_of_numbers) refl
index_back Bools Int r e = let same : Truth ≡ r = cc in by_number (subst (λ (k : Shape). IsArrayOf k Bools) same array_of_truths) refl
index_back Ints Ints r e = by_array array_of_numbers refl cc
index_back Bools Ints r e = by_array array_of_truths refl cc
index_back _ _ r e = absurd cc

-- ---- frames

pub record NrowBack (a r : Shape) : Type 0 where
  pub columns : List Name
  pub frame : a ≡ Frame columns
  pub is : Int ≡ r

pub nrow_back : (a r : Shape) → nrow_result a ≡ Some r → NrowBack a r
nrow_back (Frame columns) r e = record { columns = columns; frame = refl; is = cc }
nrow_back _ r e = absurd cc

pub record FilterBack (a b r : Shape) : Type 0 where
  pub columns : List Name
  pub frame : a ≡ Frame columns
  pub mask : b ≡ Bools
  pub is : Frame columns ≡ r

pub filter_back : (a b r : Shape) → filter_result a b ≡ Some r → FilterBack a b r
filter_back (Frame columns) Bools r e = record { columns = columns; frame = refl; mask = refl; is = cc }
filter_back _ _ r e = absurd cc

-- ---- lists of arguments

pub record OneValue (result : Shape → Option Shape) (made : List Argument) (r : Shape) : Type 0 where
  pub value : Shape
  pub are : made ≡ Value value ∷ []
  pub is : result value ≡ Some r

pub one_back : (result : Shape → Option Shape) (made : List Argument) (r : Shape) → one_value result made ≡ Some r → OneValue result made r
one_back result (Value a ∷ []) r e = record { value = a; are = refl; is = e }
one_back result _ r e = absurd cc

pub record TwoValues (result : Shape → Shape → Option Shape) (made : List Argument) (r : Shape) : Type 0 where
  pub left : Shape
  pub right : Shape
  pub are : made ≡ Value left ∷ Value right ∷ []
  pub is : result left right ≡ Some r

pub two_back : (result : Shape → Shape → Option Shape) (made : List Argument) (r : Shape) → two_values result made ≡ Some r → TwoValues result made r
two_back result (Value a ∷ Value b ∷ []) r e = record { left = a; right = b; are = refl; is = e }
two_back result _ r e = absurd cc

pub record MapBack (made : List Argument) (r : Shape) : Type 0 where
  pub array : Shape
  pub body : Shape
  pub are : made ≡ Value array ∷ Body body ∷ []
  pub is : array_of body ≡ Some r

pub map_back : (made : List Argument) (r : Shape) → map_result made ≡ Some r → MapBack made r
map_back (Value a ∷ Body b ∷ []) r e = record { array = a; body = b; are = refl; is = e }
map_back _ r e = absurd cc

pub record StencilBack (made : List Argument) (r : Shape) : Type 0 where
  pub are : made ≡ Body Int ∷ Value Ints ∷ []
  pub is : Ints ≡ r

pub stencil_back : (made : List Argument) (r : Shape) → stencil_result made ≡ Some r → StencilBack made r
stencil_back (Body Int ∷ Value Ints ∷ []) r e = record { are = refl; is = cc }
stencil_back _ r e = absurd cc

pub record CollectBack (made : List Argument) (r : Shape) : Type 0 where
  pub are : made ≡ Interval ∷ []
  pub is : Ints ≡ r

pub collect_back : (made : List Argument) (r : Shape) → collect_result made ≡ Some r → CollectBack made r
collect_back (Interval ∷ []) r e = record { are = refl; is = cc }
collect_back _ r e = absurd cc

pub record ReadBack (made : List Argument) (r : Shape) : Type 0 where
  pub file : Name
  pub rest : List Argument
  pub are : made ≡ Text file ∷ rest
  pub is : option_map Frame (column_names rest) ≡ Some r

pub read_back : (made : List Argument) (r : Shape) → read_result made ≡ Some r → ReadBack made r
read_back (Text file ∷ rest) r e = record { file = file; rest = rest; are = refl; is = e }
read_back _ r e = absurd cc

pub record JoinBack (made : List Argument) (r : Shape) : Type 0 where
  pub left : List Name
  pub right : List Name
  pub key : Name
  pub are : made ≡ Value (Frame left) ∷ Value (Frame right) ∷ Column key ∷ []
  pub is : Frame (left ++ without key right) ≡ r

pub join_back : (made : List Argument) (r : Shape) → join_result made ≡ Some r → JoinBack made r
join_back (Value (Frame left) ∷ Value (Frame right) ∷ Column key ∷ []) r e = record { left = left; right = right; key = key; are = refl; is = cc }
join_back _ r e = absurd cc

pub record AggregateBack (made : List Argument) (r : Shape) : Type 0 where
  pub columns : List Name
  pub key : Name
  pub rest : List Argument
  pub are : made ≡ Value (Frame columns) ∷ Column key ∷ rest
  pub is : option_map (λ names. Frame (key ∷ names)) (measure_names rest) ≡ Some r

pub aggregate_back : (made : List Argument) (r : Shape) → aggregate_result made ≡ Some r → AggregateBack made r
aggregate_back (Value (Frame columns) ∷ Column key ∷ rest) r e = record { columns = columns; key = key; rest = rest; are = refl; is = e }
aggregate_back _ r e = absurd cc

pub record SortBack (made : List Argument) (r : Shape) : Type 0 where
  pub columns : List Name
  pub key : Name
  pub are : made ≡ Value (Frame columns) ∷ Column key ∷ []
  pub is : Frame columns ≡ r

pub sort_back : (made : List Argument) (r : Shape) → sort_result made ≡ Some r → SortBack made r
sort_back (Value (Frame columns) ∷ Column key ∷ []) r e = record { columns = columns; key = key; are = refl; is = cc }
sort_back _ r e = absurd cc
