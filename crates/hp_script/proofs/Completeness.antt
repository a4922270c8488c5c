-- An expression that fits by the relation passes the tests, and has its type by them; so it has one type.
use Rattle.std.proofs.Common.{◌≡◌, ℕ, List, Some, refl}
use Rattle.hp_word.specs.declared.name.Name.{Name}
use Rattle.hp_script.specs.declared.typed.Shape.{Shape}
use Rattle.hp_script.specs.Mirror.{Tree, Args}
use Rattle.hp_script.specs.Scope.{Scope}
use Rattle.hp_script.specs.Shaped.{HasShape, of_number, of_truth, of_parameter, of_variable, of_scalar_variable, of_field, of_column, of_negation, of_not, of_nots, of_arithmetic, of_arithmetics, of_comparison, of_comparisons, of_logic, of_mask, of_product, of_transposed, of_element, of_elements, of_window, of_scalar_call, of_scalar_calls, of_map, of_stencil, of_fill, of_collect, of_length, of_fold, of_truth_fold, of_count, of_cumsum, of_vcat, of_stack, of_row, of_frame, of_read, of_nrow, of_filter, of_join, of_aggregate, of_sort, AreArrays, no_more_arrays, one_array, AreGiven, no_more_given, one_given}
use Rattle.hp_script.specs.Walk.{shape_of}
use Rattle.hp_script.proofs.ArgumentKinds.{Valued}
use Rattle.hp_script.proofs.CompleteParts.{parameter_valued, variable_valued, scalar_variable_valued, field_valued, column_valued, number_valued, truth_valued, unary_valued, binary_valued, arithmetic, arithmetics, comparison, comparisons, logic, mask, index_valued, element_by, elements_by, window_valued}
use Rattle.hp_script.proofs.CompleteCalls.{scalar_call_valued, scalar_calls_valued, fold_valued, truth_fold_valued, count_valued, cumsum_valued, length_valued, nrow_valued, fill_valued, vcat_valued, row_valued, collect_valued, stencil_valued, map_valued}
use Rattle.hp_script.proofs.CompleteFrames.{ArraysPass, no_arrays_pass, one_array_passes, stack_valued, GivenPass, no_given_pass, one_given_passes, frame_valued, read_valued, filter_valued, sort_valued, join_valued, aggregate_valued, transposed_valued}

mutual
  pub complete : {s : Scope} {x : Tree} {a : Shape} → HasShape s x a → Valued s x a
  complete of_number = number_valued
  complete of_truth = truth_valued
  complete (of_parameter role) = parameter_valued role
  complete (of_variable out v) = variable_valued out v
  complete (of_scalar_variable is v) = scalar_variable_valued is v
  complete (of_field out v known) = field_valued out v known
  complete (of_column out around known) = column_valued out around known
  complete (of_negation p) = unary_valued refl (complete p)
  complete (of_not p) = unary_valued refl (complete p)
  complete (of_nots p) = unary_valued refl (complete p)
  complete (of_arithmetic is p q) = binary_valued (arithmetic is) (complete p) (complete q)
  complete (of_arithmetics is e p q) = binary_valued (arithmetics is e) (complete p) (complete q)
  complete (of_comparison is p q) = binary_valued (comparison is) (complete p) (complete q)
  complete (of_comparisons is e p q) = binary_valued (comparisons is e) (complete p) (complete q)
  complete (of_logic is p q) = binary_valued (logic is) (complete p) (complete q)
  complete (of_mask is e p q) = binary_valued (mask is e) (complete p) (complete q)
  complete (of_product p q) = binary_valued refl (complete p) (complete q)
  complete (of_transposed out p q) = transposed_valued out (complete p) (complete q)
  complete (of_element out array p q) = index_valued out (element_by array) (complete p) (complete q)
  complete (of_elements out array p q) = index_valued out (elements_by array) (complete p) (complete q)
  complete (of_window role is e) = window_valued role is e
  complete (of_scalar_call is p q) = scalar_call_valued is (complete p) (complete q)
  complete (of_scalar_calls is e p q) = scalar_calls_valued is e (complete p) (complete q)
  complete (of_map out array p becomes q) = map_valued out array (complete p) becomes (complete q)
  complete (of_stencil out p q) = stencil_valued out (complete p) (complete q)
  complete (of_fill out array p q) = fill_valued out array (complete p) (complete q)
  complete (of_collect out p q) = collect_valued out (complete p) (complete q)
  complete (of_length out array p) = length_valued out array (complete p)
  complete (of_fold out is p) = fold_valued out is (complete p)
  complete (of_truth_fold out is p) = truth_fold_valued out is (complete p)
  complete (of_count out p) = count_valued out (complete p)
  complete (of_cumsum out p) = cumsum_valued out (complete p)
  complete (of_vcat out array p q) = vcat_valued out array (complete p) (complete q)
  complete (of_stack out p rest) = stack_valued out (complete p) (complete_arrays rest)
  complete (of_row out p q) = row_valued out (complete p) (complete q)
  complete (of_frame out given narrow) = frame_valued out (complete_given given) narrow
  complete (of_read out columns narrow) = read_valued out columns narrow
  complete (of_nrow out p) = nrow_valued out (complete p)
  complete (of_filter out p q narrow) = filter_valued out (complete p) (complete q) narrow
  complete (of_join out p q left right distinct narrow) = join_valued out (complete p) (complete q) left right distinct narrow
  complete (of_aggregate out p known measures narrow) = aggregate_valued out (complete p) known measures narrow
  complete (of_sort out p known narrow) = sort_valued out (complete p) known narrow

  complete_arrays : {s : Scope} {xs : Args} → AreArrays s xs → ArraysPass s xs
  complete_arrays no_more_arrays = no_arrays_pass
  complete_arrays (one_array p rest) = one_array_passes (complete p) (complete_arrays rest)

  complete_given : {s : Scope} {given : List (List ℕ)} {xs : Args} {names : List Name} → AreGiven s given xs names → GivenPass s given xs names
  complete_given no_more_given = no_given_pass
  complete_given (one_given p new rest) = one_given_passes (complete p) new (complete_given rest)

-- An expression has one type.
pub one_type : {s : Scope} {x : Tree} {a b : Shape} → HasShape s x a → HasShape s x b → a ≡ b
one_type {s = s} {x = x} {a = a} {b = b} p q =
    let first : shape_of s x ≡ Some a = (complete p).shape in
    let second : shape_of s x ≡ Some b = (complete q).shape in
    cc
