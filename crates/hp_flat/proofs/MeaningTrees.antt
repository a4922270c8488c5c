-- Each expression of a script that fits comes to what it means, at a point whose variables and frame stand.
use Rattle.std.proofs.Common.{None, ◌≡◌, ℕ, ◌+◌, ◌<◌, true, false, codes, List, [], ◌∷◌, length, map, Option, Some, IsTrue, refl, sym, ap, subst, ◌∙◌, arith}
use Rattle.std.specs.List.{AllByRecursion, range_with_len}
use Rattle.hp_word.specs.declared.name.Name.{Name}
use Rattle.hp_word.specs.declared.order.Order.{Order}
use Rattle.hp_word.specs.declared.table.Table.{Table}
use Rattle.hp_script.specs.declared.tree.UnOp.TheVariants as unary_op
use Rattle.hp_script.specs.declared.tree.BinOp.TheVariants as binary_op
use Rattle.hp_script.specs.declared.typed.Shape.{Shape}
use Rattle.hp_script.specs.declared.typed.Shape.TheVariants.{Int, Ints, Bools, Matrix, Frame}
use Rattle.hp_script.specs.Functions.{function_named, scalar_named, fold_named, array_named}
use Rattle.hp_script.specs.Mirror.{Head, Tree, Args, unary, binary, index, call, none, plain, range, lambda, named, column}
use Rattle.hp_script.specs.Nodes.{nodes_in}
use Rattle.hp_script.specs.Scope.{Scope as Point, are_some}
use Rattle.hp_script.specs.Shaped.{HasShape, of_number, of_truth, of_parameter, of_variable, of_scalar_variable, of_field, of_column, of_negation, of_not, of_nots, of_arithmetic, of_arithmetics, of_comparison, of_comparisons, of_logic, of_mask, of_product, of_transposed, of_element, of_elements, of_window, of_scalar_call, of_scalar_calls, of_map, of_stencil, of_fill, of_collect, of_length, of_fold, of_truth_fold, of_count, of_cumsum, of_vcat, of_stack, of_row, of_frame, of_read, of_nrow, of_filter, of_join, of_aggregate, of_sort, AreArrays, no_more_arrays, one_array, AreGiven, no_more_given, one_given}
use Rattle.hp_meaning.proofs.Safe.{Surrounds, nowhere}
use Rattle.hp_meaning.specs.declared.seen.Seen.{Seen}
use Rattle.hp_meaning.specs.declared.value.Value.{Value}
use Rattle.hp_meaning.specs.Outcomes.{Outcome, Is}
use Rattle.hp_meaning.specs.Scopes.{Scope, within, outside}
use Rattle.hp_air.specs.declared.slot.Slot.{Slot}
use Rattle.hp_air.specs.Arrays.{Stencil}
use Rattle.hp_air.specs.Carried.{is_among}
use Rattle.hp_air.specs.Unknowns.{Unknown, of_node, balanced_of, Columns, at_node, arrays_at, arrays_named, shape_at, shape_named, number_of, width, arguments_of, call_of, call_arrays, of_one, constructs_in, constructs_among, no_frame}
use Rattle.hp_flat.proofs.MeantTrees.{TreesMean}
use Rattle.hp_flat.proofs.Points.{none_some}
use Rattle.hp_flat.proofs.ShortValues.{short_value}
use Rattle.hp_flat.specs.FlatCalls.{frame_at}
use Rattle.hp_flat.specs.Homes.{Homes}
use Rattle.hp_flat.proofs.ArrayCalls.{length_means, cumsum_means, fill_means}
use Rattle.hp_flat.proofs.CallMeanings.{scalar_call_means}
use Rattle.hp_flat.proofs.ColumnMeanings.{column_means, field_means}
use Rattle.hp_flat.proofs.CountMeanings.{count_means}
use Rattle.hp_flat.proofs.FilledFrames.{no_parameter, filled_tree}
use Rattle.hp_flat.proofs.FilterMeanings.{filter_means}
use Rattle.hp_flat.proofs.GroupMeanings.{aggregate_means}
use Rattle.hp_flat.proofs.JoinMeanings.{join_means}
use Rattle.hp_flat.proofs.KeptHomes.{within_same, within_left, within_behind}
use Rattle.hp_flat.proofs.ListFolds.{collect_means, number_fold_means, truth_fold_means, vcat_means, element_means}
use Rattle.hp_flat.proofs.LoopMeanings.{map_means, stencil_means}
use Rattle.hp_flat.proofs.ManyOperands.{AllMean}
use Rattle.hp_flat.proofs.MatrixMeanings.{row_means, elements_means, product_means, transposed_means}
use Rattle.hp_flat.proofs.GatheredMeanings.{stack_means, frame_means}
use Rattle.hp_flat.proofs.MeaningParts.{unary_room, binary_rooms, index_rooms, call_room, first_room, rest_room, pair_rooms, range_rooms, lambda_room, named_room, behind_named, filter_rooms, has_word, has_array, has_frame, array_wide, at_mask, variable_shape, sides_of, yields}
use Rattle.hp_flat.proofs.MeaningRooms.{HasHomes, HasCopy, At, TreeRoom, ArgsRoom}
use Rattle.hp_flat.proofs.NameMeanings.{variable_means}
use Rattle.hp_flat.proofs.OperatorMeanings.{not_flipped, arithmetic_means, comparison_means, logic_means}
use Rattle.hp_flat.proofs.OppositeMeanings.{nots_means}
use Rattle.hp_flat.proofs.OwedParts.{length_named}
use Rattle.hp_flat.proofs.ReadMeanings.{read_means}
use Rattle.hp_flat.proofs.RowCalls.{no_arrays, scalar_around, number_fold_around, truth_fold_around}
use Rattle.hp_flat.proofs.ServedCode.{all_apart}
use Rattle.hp_flat.proofs.ServedReads.{serving, body_files, scalar_reads_not, number_fold_reads_not, truth_fold_reads_not}
use Rattle.hp_flat.proofs.ShortScopes.{IsShort, Only, is_such, stops_so, wrong_so}
use Rattle.hp_flat.proofs.SlotWrites.{AreAmong}
use Rattle.hp_flat.proofs.SortMeanings.{nrow_means, sort_means}
use Rattle.hp_flat.proofs.SpreadMeanings.{arithmetics_mean, comparisons_mean, masks_mean, scalar_calls_mean}
use Rattle.hp_flat.proofs.ToldTypes.{Told, ToldArrays, ToldGiven}
use Rattle.hp_flat.proofs.WordMeanings.{g, Means, number_means, truth_means, unary_means, Yields}

-- an outcome whose value is such, where it has one
such_is : {P : Value → Type 0} {outcome : Outcome Value} → Only P outcome → (m : Seen) (b : Value) → outcome ≡ Is b m → P b
such_is {P = P} (is_such {a = a} such) m b e = let same : a ≡ b = cc in subst P same such
such_is stops_so m b e = absurd cc
such_is wrong_so m b e = absurd cc

-- the arrays of a frame that has a column
record HasFirst (us : List Unknown) : Type 0 where
  first : Unknown
  rest : List Unknown
  is : us ≡ first ∷ rest

first_array : (h : Homes) (x : Tree) (names : List Name) → shape_at h.known (number_of x) ≡ Some (Frame names) → 0 < length names → HasFirst (arrays_at h.known x)
first_array h x [] told some = absurd (omega (arith, some))
first_array h x (name ∷ names) told some =
    record { first = of_node (number_of x) 0; rest = map (of_node (number_of x)) (range_with_len (0 + 1) (length names)); is = ap (λ (o : Option Shape). map (of_node (number_of x)) (range_with_len 0 (width o))) told }

module _ (h : Homes) (slots : List Slot) (tables : List Table) (orders : List Order) (homes : HasHomes h) where
  abbrev MeansAt : Columns → Scope → Tree → Type 0
  MeansAt around v x = Means h slots tables orders around v x

  short_at : (x : Tree) {s : Point} {around : Columns} {v : Scope} → At h s around v → Yields h slots tables orders IsShort v x
  short_at x {v = v} at n m b is = such_is (short_value (g h slots tables orders) x v n at.short) m b is

  among_at : (id : ℕ) → AreAmong h homes.apart id 0 (width (shape_at h.known id))
  among_at id c low high = homes.nodes id c (omega (arith, high))

  as_wide : (id : ℕ) (x : List ℕ) (a : Shape) → shape_at h.known id ≡ Some a → shape_named h.known x ≡ Some a → length (arrays_named h.known x) ≡ width (shape_at h.known id)
  as_wide id x a told is = length_named h.known x ∙ ap width is ∙ sym (ap width told)

  -- the balanced copy of a stencil
  copy_at : {around : Columns} (c : Head) (p : List ℕ) (body x : Tree) → arrays_at h.known x ≡ of_node (number_of x) 0 ∷ [] → TreeRoom h tables around (call c (codes "stencil") false (lambda p body (plain x none))) → IsTrue (is_among h.arrays (balanced_of c.id))
  unfolding constructs_in function_named scalar_named fold_named array_named call_arrays
  copy_at {around = around} c p body x only room =
      let args = lambda p body (plain x none) in
      let own = (all_apart (HasCopy h) (constructs_among h.known around around args) (call_of c.id (at_node h.known c.id) false (function_named false (codes "stencil")) (arguments_of h.known args)) room.copied).1 in
      (subst (λ (us : List Unknown). AllByRecursion (HasCopy h) (of_one us (λ array. Stencil (of_node c.id 0) array (balanced_of c.id)))) only own).0

  mutual
    pub tree_means : {s : Point} {x : Tree} {a : Shape} (p : HasShape s x a) → Told h.known p → (around : Columns) (v : Scope) → At h s around v → TreeRoom h tables around x → MeansAt around v x
    tree_means (of_number {h = n} {value = z}) told around v at room = number_means h slots tables orders around v n z
    tree_means (of_truth {h = n} {holds = b}) told around v at room = truth_means h slots tables orders around v n b
    tree_means {s = s} (of_parameter {p = x} role) told around v at room = no_parameter s.parameters x _ at.point.outside role
    tree_means (of_variable {h = n} {v = x} {a = a} out is) told around v at room = variable_means h slots tables orders homes.apart around v n x (as_wide n.id x a told.0 (at.point.named x a is.shape)) (among_at n.id)
    tree_means (of_scalar_variable {h = n} {v = x} {a = a} one is) told around v at room = variable_means h slots tables orders homes.apart around v n x (as_wide n.id x a told.0 (at.point.named x a is.shape)) (among_at n.id)
    tree_means (of_field {h = n} {d = x} {c = c} {columns = names} out is known) told around v at room =
        field_means h slots tables orders homes.apart around v n x c names (at.point.named x (Frame names) is.shape) (variable_shape h at is) (ap width told.0) (among_at n.id)
    tree_means (of_column {h = n} {c = c} out in_it known) told around v at room = column_means h slots tables orders homes.apart around v n c (ap width told.0) (among_at n.id)
    tree_means (of_negation {h = n} {a = x} p) told around v at room = unary_means h slots tables orders around v n unary_op.Neg x (tree_means p told.1 around v at (unary_room h tables n unary_op.Neg false x room))
    tree_means (of_not {h = n} {a = x} p) told around v at room = unary_means h slots tables orders around v n unary_op.Not x (tree_means p told.1 around v at (unary_room h tables n unary_op.Not false x room))
    tree_means (of_nots {h = n} {a = x} p) told around v at room =
        let has = has_array h homes (unary n unary_op.Not true x) Bools told.0 refl in
        nots_means h slots tables orders homes.apart around v n x has.home has.among (tree_means p told.1 around v at (unary_room h tables n unary_op.Not true x room))
    tree_means (of_arithmetic {h = n} {op = op} {a = x} {b = y} is p q) told around v at room =
        let both = binary_rooms h tables n op false x y (serving h tables p told.1.0) room in
        arithmetic_means h slots tables orders around v n x y (sides_of h slots tables orders p at both) (tree_means p told.1.0 around v at both.left) (tree_means q told.1.1 around v at both.right)
        is (no_arrays h.known x Int told.1.0.0 refl) (not_flipped (g h slots tables orders) q)
    tree_means (of_arithmetics {h = n} {op = op} {a = x} {b = y} is e p q) told around v at room =
        let both = binary_rooms h tables n op true x y (serving h tables p told.1.0) room in
        arithmetics_mean h slots tables orders homes.apart around v n x y told.1.0.0 told.1.1.0 (sides_of h slots tables orders p at both) (tree_means p told.1.0 around v at both.left) (tree_means q told.1.1 around v at both.right)
        (yields h slots tables orders p at both.left) (yields h slots tables orders q at both.right) is e (has_array h homes (binary n op true x y) Ints told.0 refl)
    tree_means (of_comparison {h = n} {op = op} {a = x} {b = y} is p q) told around v at room =
        let both = binary_rooms h tables n op false x y (serving h tables p told.1.0) room in
        comparison_means h slots tables orders around v n x y (sides_of h slots tables orders p at both) (tree_means p told.1.0 around v at both.left) (tree_means q told.1.1 around v at both.right) is (no_arrays h.known x Int told.1.0.0 refl)
    tree_means (of_comparisons {h = n} {op = op} {a = x} {b = y} is e p q) told around v at room =
        let both = binary_rooms h tables n op true x y (serving h tables p told.1.0) room in
        comparisons_mean h slots tables orders homes.apart around v n x y told.1.0.0 told.1.1.0 (sides_of h slots tables orders p at both) (tree_means p told.1.0 around v at both.left) (tree_means q told.1.1 around v at both.right)
        (yields h slots tables orders p at both.left) (yields h slots tables orders q at both.right) is e (has_array h homes (binary n op true x y) Bools told.0 refl)
    tree_means (of_logic {h = n} {op = op} {a = x} {b = y} is p q) told around v at room =
        let both = binary_rooms h tables n op false x y (serving h tables p told.1.0) room in
        logic_means h slots tables orders around v n x y (sides_of h slots tables orders p at both) (tree_means p told.1.0 around v at both.left) (tree_means q told.1.1 around v at both.right) is
    tree_means (of_mask {h = n} {op = op} {a = x} {b = y} is e p q) told around v at room =
        let both = binary_rooms h tables n op true x y (serving h tables p told.1.0) room in
        masks_mean h slots tables orders homes.apart around v n x y told.1.0.0 told.1.1.0 (sides_of h slots tables orders p at both) (tree_means p told.1.0 around v at both.left) (tree_means q told.1.1 around v at both.right)
        (yields h slots tables orders p at both.left) (yields h slots tables orders q at both.right) is e (has_array h homes (binary n op true x y) Bools told.0 refl)
    tree_means (of_product {h = n} {a = x} {b = y} p q) told around v at room =
        let both = binary_rooms h tables n binary_op.Mul false x y (serving h tables p told.1.0) room in
        product_means h slots tables orders homes.apart around v n x y (has_array h homes (binary n binary_op.Mul false x y) Matrix told.0 refl) (yields h slots tables orders p at both.left) (not_flipped (g h slots tables orders) q)
        (sides_of h slots tables orders p at both) (tree_means p told.1.0 around v at both.left) (tree_means q told.1.1 around v at both.right)
    tree_means (of_transposed {h = n} {g = k} {a = x} {b = y} out p q) told around v at room =
        let turned = call k (codes "transpose") false (plain y none) in
        let both = binary_rooms h tables n binary_op.Mul false x turned (serving h tables p told.1.0) room in
        let inner = first_room h tables y none (call_room h tables k (codes "transpose") false (plain y none) refl refl both.right) in
        let apart = (within_behind {j = k.id} (within_left [] (within_same {xs = nodes_in y}))).without (number_of x) both.apart in
        transposed_means h slots tables orders homes.apart around v n k x y (has_array h homes (binary n binary_op.Mul false x turned) Matrix told.0 refl) (sides_of h slots tables orders p at (record { left = both.left; right = inner; apart = apart }))
        (tree_means p told.1.0 around v at both.left) (tree_means q told.1.2 around v at inner)
    tree_means (of_element {h = n} {a = x} {i = i} out array p q) told around v at room =
        let both = index_rooms h tables n x i (serving h tables p told.1.0) room in
        element_means h slots tables orders homes.apart around v n x i (no_arrays h.known i Int told.1.1.0 refl) (sides_of h slots tables orders p at both) (tree_means p told.1.0 around v at both.left) (tree_means q told.1.1 around v at both.right)
    tree_means (of_elements {h = n} {a = x} {k = i} {many = many} out array p q) told around v at room =
        let both = index_rooms h tables n x i (serving h tables p told.1.0) room in
        elements_means h slots tables orders homes.apart around v n x i (has_array h homes (index n x i) many told.0 (array_wide h array)) (yields h slots tables orders q at both.right)
        (sides_of h slots tables orders p at both) (tree_means p told.1.0 around v at both.left) (tree_means q told.1.1 around v at both.right)
    tree_means {s = s} (of_window {p = x} role is e) told around v at room = no_parameter s.parameters x _ at.point.outside role
    tree_means (of_scalar_call {h = n} {f = f} {a = x} {b = y} is p q) told around v at room =
        let both = pair_rooms h tables x y none (serving h tables p told.1.0) (call_room h tables n f false (plain x (plain y none)) (scalar_around is) (scalar_reads_not false is) room) in
        scalar_call_means h slots tables orders around v n x y is (sides_of h slots tables orders p at both) (tree_means p told.1.0 around v at both.left) (tree_means q told.1.1 around v at both.right)
    tree_means (of_scalar_calls {h = n} {f = f} {a = x} {b = y} is e p q) told around v at room =
        let both = pair_rooms h tables x y none (serving h tables p told.1.0) (call_room h tables n f true (plain x (plain y none)) (scalar_around is) refl room) in
        scalar_calls_mean h slots tables orders homes.apart around v n x y told.1.0.0 told.1.1.0 (sides_of h slots tables orders p at both) (tree_means p told.1.0 around v at both.left) (tree_means q told.1.1 around v at both.right)
        (yields h slots tables orders p at both.left) (yields h slots tables orders q at both.right) is e (has_array h homes (call n f true (plain x (plain y none))) Ints told.0 refl)
    tree_means {s = s} (of_map {h = n} {p = y} {e = body} {a = x} {many = many} {result = result} out array p becomes q) told around v at room =
        let z = call n (codes "map") false (lambda y body (plain x none)) in
        let inner = lambda_room h tables y body x (body_files q refl) (call_room h tables n (codes "map") false (lambda y body (plain x none)) refl refl room) in
        let has = has_array h homes z result told.0 (array_wide h becomes) in
        map_means h slots tables orders homes.apart around v n y body x s out at.fit.keeps at.script array q has.home has.among (yields h slots tables orders p at inner) (tree_means p told.1.0 around v at inner)
    tree_means {s = s} (of_stencil {h = n} {p = y} {e = body} {a = x} out p q) told around v at room =
        let z = call n (codes "stencil") false (lambda y body (plain x none)) in
        let inner = lambda_room h tables y body x (body_files p refl) (call_room h tables n (codes "stencil") false (lambda y body (plain x none)) refl refl room) in
        let has = has_array h homes z Ints told.0 refl in
        let only = (has_array h homes x Ints told.1.1.0 refl).home in
        stencil_means h slots tables orders homes.apart around v n y body x s out at.fit.keeps at.script p has.home has.among (copy_at n y body x only room) (tree_means q told.1.1 around v at inner)
    tree_means (of_fill {h = n} {v = x} {k = y} {many = many} out array p q) told around v at room =
        let both = pair_rooms h tables x y none (serving h tables p told.1.0) (call_room h tables n (codes "fill") false (plain x (plain y none)) refl refl room) in
        fill_means h slots tables orders homes.apart around v n x y (has_array h homes (call n (codes "fill") false (plain x (plain y none))) many told.0 (array_wide h array)) (sides_of h slots tables orders p at both)
        (tree_means p told.1.0 around v at both.left) (tree_means q told.1.1 around v at both.right)
    tree_means (of_collect {h = n} {a = x} {b = y} out p q) told around v at room =
        let both = range_rooms h tables x y (serving h tables p told.1.0) (call_room h tables n (codes "collect") false (range x y none) refl refl room) in
        collect_means h slots tables orders homes.apart around v n x y (has_array h homes (call n (codes "collect") false (range x y none)) Ints told.0 refl) (sides_of h slots tables orders p at both)
        (tree_means p told.1.0 around v at both.left) (tree_means q told.1.1 around v at both.right)
    tree_means (of_length {h = n} {a = x} out array p) told around v at room =
        length_means h slots tables orders homes.apart around v n x (tree_means p told.1 around v at (first_room h tables x none (call_room h tables n (codes "length") false (plain x none) refl refl room)))
    tree_means (of_fold {h = n} {f = f} {a = x} out is p) told around v at room =
        number_fold_means h slots tables orders homes.apart around v n x is (tree_means p told.1 around v at (first_room h tables x none (call_room h tables n f false (plain x none) (number_fold_around is) (number_fold_reads_not is) room)))
    tree_means (of_truth_fold {h = n} {f = f} {a = x} out is p) told around v at room =
        truth_fold_means h slots tables orders homes.apart around v n x is (tree_means p told.1 around v at (first_room h tables x none (call_room h tables n f false (plain x none) (truth_fold_around is) (truth_fold_reads_not is) room)))
    tree_means (of_count {h = n} {a = x} out p) told around v at room =
        let inner = first_room h tables x none (call_room h tables n (codes "count") false (plain x none) refl refl room) in
        count_means h slots tables orders homes.apart around v n x (yields h slots tables orders p at inner) (short_at x at) (tree_means p told.1 around v at inner)
    tree_means (of_cumsum {h = n} {a = x} out p) told around v at room =
        cumsum_means h slots tables orders homes.apart around v n x (has_array h homes (call n (codes "cumsum") false (plain x none)) Ints told.0 refl)
        (tree_means p told.1 around v at (first_room h tables x none (call_room h tables n (codes "cumsum") false (plain x none) refl refl room)))
    tree_means (of_vcat {h = n} {a = x} {b = y} {many = many} out array p q) told around v at room =
        let both = pair_rooms h tables x y none (serving h tables p told.1.0) (call_room h tables n (codes "vcat") false (plain x (plain y none)) refl refl room) in
        vcat_means h slots tables orders homes.apart around v n x y (has_array h homes (call n (codes "vcat") false (plain x (plain y none))) many told.0 (array_wide h array)) (sides_of h slots tables orders p at both)
        (tree_means p told.1.0 around v at both.left) (tree_means q told.1.1 around v at both.right)
    tree_means (of_stack {h = n} {a = x} {rest = rest} out p more) told around v at room =
        let args = call_room h tables n (codes "stack") false (plain x rest) refl refl room in
        stack_means h slots tables orders homes.apart around v n (plain x rest) (has_array h homes (call n (codes "stack") false (plain x rest)) Matrix told.0 refl) at.script args.differ args.apart
        (tree_means p told.1.0 around v at (first_room h tables x rest args), arrays_mean more told.1.1 around v at (rest_room h tables x rest (serving h tables p told.1.0) args))
    tree_means (of_row {h = n} {m = x} {i = y} out p q) told around v at room =
        let both = pair_rooms h tables x y none (serving h tables p told.1.0) (call_room h tables n (codes "row") false (plain x (plain y none)) refl refl room) in
        row_means h slots tables orders homes.apart around v n x y (has_array h homes (call n (codes "row") false (plain x (plain y none))) Ints told.0 refl) (sides_of h slots tables orders p at both)
        (tree_means p told.1.0 around v at both.left) (tree_means q told.1.1 around v at both.right)
    tree_means (of_frame {h = n} {c = c} {at = place} {a = x} {rest = rest} {names = names} out given narrow) told around v at room =
        let args = call_room h tables n (codes "DataFrame") false (named c place x rest) refl refl room in
        frame_means h slots tables orders homes.apart around v n (named c place x rest) names given told.1 (has_frame h homes n.id names told.0) at.script args.differ args.apart (given_mean given told.1 around v at args)
    tree_means (of_read {h = n} {g = k} {k = m} {f = f} {c = c} {rest = rest} {names = names} out columns narrow) told around v at room =
        read_means h slots tables orders homes.apart around v n k m f c rest names columns told.1.1 (has_frame h homes n.id names told.0)
    tree_means (of_nrow {h = n} {d = x} {columns = names} out p) told around v at room =
        let some = first_array h x names told.1.0 (filled_tree p at.point.outside at.point.filled).0 in
        nrow_means h slots tables orders homes.apart around v n x some.first some.rest some.is (tree_means p told.1 around v at (first_room h tables x none (call_room h tables n (codes "nrow") false (plain x none) refl refl room)))
    tree_means (of_filter {h = n} {d = x} {m = y} {columns = names} out p q narrow) told around v at room =
        let both = filter_rooms h tables n x y names told.1.0.0 (serving h tables p told.1.0) room in
        filter_means h slots tables orders homes.apart around v n x y names told.1.0.0 (has_frame h homes n.id names told.0) at.script (has_word h p at.point) both.apart (yields h slots tables orders p at both.left) (short_at x at)
        (tree_means p told.1.0 around v at both.left)
        (λ columns same short. tree_means q told.1.1 (frame_at h x) (within columns v) (at_mask h x names columns at told.1.0.0 same short) both.right)
    tree_means (of_join {h = n} {g = k} {l = x} {r = y} {k = key} {left = left} {right = right} out p q first second distinct narrow) told around v at room =
        let args = call_room h tables n (codes "join") false (plain x (plain y (plain (column k key) none))) refl refl room in
        let both = pair_rooms h tables x y (plain (column k key) none) (serving h tables p told.1.0) args in
        join_means h slots tables orders homes.apart around v n k x y key left right told.1.0.0 told.1.1.0 told.1.2 (has_frame h homes n.id _ told.0) first second (filled_tree q at.point.outside at.point.filled).1
        (yields h slots tables orders p at both.left) (yields h slots tables orders q at both.right) (sides_of h slots tables orders p at both) (tree_means p told.1.0 around v at both.left) (tree_means q told.1.1 around v at both.right)
    tree_means (of_aggregate {h = n} {g = k} {d = x} {m = m} {k = key} {c = c} {at = place} {rest = rest} {columns = columns} {names = names} out p known measures narrow) told around v at room =
        let inner = first_room h tables x (plain (column k key) (named c place m rest)) (call_room h tables n (codes "aggregate") false (plain x (plain (column k key) (named c place m rest))) refl refl room) in
        aggregate_means h slots tables orders homes.apart around v n k x key (named c place m rest) columns names measures told.1.0.0 told.1.1 told.1.2 (has_frame h homes n.id _ told.0) known (yields h slots tables orders p at inner) (tree_means p told.1.0 around v at inner)
    tree_means (of_sort {h = n} {g = k} {d = x} {k = key} {columns = names} out p known narrow) told around v at room =
        let inner = first_room h tables x (plain (column k key) none) (call_room h tables n (codes "sort") false (plain x (plain (column k key) none)) refl refl room) in
        sort_means h slots tables orders homes.apart around v n k x key names told.1.0.0 told.1.1 (has_frame h homes n.id names told.0) known (filled_tree p at.point.outside at.point.filled).1 (yields h slots tables orders p at inner)
        (tree_means p told.1.0 around v at inner)

    arrays_mean : {s : Point} {xs : Args} (rest : AreArrays s xs) → ToldArrays h.known rest → (around : Columns) (v : Scope) → At h s around v → ArgsRoom h tables around xs → AllMean h slots tables orders around v xs
    arrays_mean no_more_arrays told around v at room = tt
    arrays_mean (one_array {a = x} {rest = xs} p rest) told around v at room =
        (tree_means p told.0 around v at (first_room h tables x xs room), arrays_mean rest told.1 around v at (rest_room h tables x xs (serving h tables p told.0) room))

    given_mean : {s : Point} {before : List (List ℕ)} {xs : Args} {names : List Name} (given : AreGiven s before xs names) → ToldGiven h.known given → (around : Columns) (v : Scope) → At h s around v → ArgsRoom h tables around xs → AllMean h slots tables orders around v xs
    given_mean no_more_given told around v at room = tt
    given_mean (one_given {c = c} {at = place} {a = x} {rest = xs} p new rest) told around v at room =
        (tree_means p told.0 around v at (named_room h tables c place x xs room), given_mean rest told.1 around v at (behind_named h tables c place x xs (serving h tables p told.0) room))

-- ---- expressions of statements

pub trees_mean : (h : Homes) (slots : List Slot) (tables : List Table) (orders : List Order) → HasHomes h → TreesMean h slots tables orders
trees_mean h slots tables orders homes s x a p told differ top types filled copies ids files supplies vars keeps script short =
    tree_means h slots tables orders homes p told no_frame (outside vars)
    (record {
      point = record { outside = ap are_some top.out; named = types; filled = filled; framed = λ columns e. none_some columns (sym top.clear ∙ e) };
      fit = record { keeps = keeps; surrounds = subst (λ (o : Option (List Name)). Surrounds o None) (sym top.clear) nowhere };
      script = script;
      short = record { vars = short; frame = λ columns e. none_some columns e };
    })
    (record { differ = differ; apart = tt; copied = copies; supplied = record { more = ids; others = files; supplies = supplies } })
