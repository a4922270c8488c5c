-- What is left for the parts of an expression of what it asks for where it stands, construct by construct.
use Rattle.std.proofs.Common.{◌≡◌, ℕ, ◌<◌, Bool, false, if◌then◌else◌, bytes_eq, codes, List, [], ◌∷◌, ◌++◌, map, Option, Some, refl, sym, ap, subst, ◌∙◌, arith}
use Rattle.std.specs.List.{AllByRecursion, range_with_len}
use Rattle.hp_word.specs.declared.name.Name.{Name}
use Rattle.hp_word.specs.declared.order.Order.{Order}
use Rattle.hp_word.specs.declared.place.Place.{Place}
use Rattle.hp_word.specs.declared.table.Table.{Table}
use Rattle.hp_script.specs.declared.tree.BinOp.{BinOp}
use Rattle.hp_script.specs.declared.tree.UnOp.{UnOp}
use Rattle.hp_script.specs.declared.typed.ReadSpec.{ReadSpec}
use Rattle.hp_script.specs.declared.typed.Shape.{Shape}
use Rattle.hp_script.specs.declared.typed.Shape.TheVariants.{Frame}
use Rattle.hp_script.specs.Entries.{file_of_call, files_in, files_among}
use Rattle.hp_script.specs.Functions.{function_named}
use Rattle.hp_script.specs.Mirror.{Tree, Args, Head, unary, binary, index, call, none, plain, range, lambda, named}
use Rattle.hp_script.specs.Nodes.{nodes_in, nodes_in_args}
use Rattle.hp_script.specs.Scope.{Scope as Point, with_columns}
use Rattle.hp_script.specs.Shaped.{HasShape, IsVariable, of_parameter, of_variable, of_scalar_variable, IsArrayOf, array_of_numbers, array_of_truths}
use Rattle.hp_meaning.specs.declared.value.Column.{Column}
use Rattle.hp_meaning.specs.declared.value.Value.{Value}
use Rattle.hp_meaning.specs.Fitting.{names_of, Bound, bound, HasShape as IsOf}
use Rattle.hp_meaning.specs.ReadCalls.{is_read, reads_in, reads_among}
use Rattle.hp_meaning.specs.Scopes.{Scope, value_named, within}
use Rattle.hp_meaning.proofs.Parts.{Supplies}
use Rattle.hp_meaning.proofs.ReadNames.{no_file}
use Rattle.hp_meaning.proofs.Safe as safe
use Rattle.hp_air.specs.declared.slot.Slot.{Slot}
use Rattle.hp_air.specs.Arrays.{Arrays, Map}
use Rattle.hp_air.specs.Unknowns.{Unknown, of_node, Columns, columns_of, at_node, arrays_at, arguments_of, binary_of, index_of, call_of, filtered_frame, number_of, shape_at, width, constructs_in, constructs_among}
use Rattle.hp_flat.specs.FlatCalls.{frame_at}
use Rattle.hp_flat.specs.Homes.{Homes, word_at, word_of}
use Rattle.hp_flat.specs.Standing.{is_node_of}
use Rattle.hp_flat.proofs.FilledFrames.{no_parameter}
use Rattle.hp_flat.proofs.Fronts.{Gives}
use Rattle.hp_flat.proofs.FrameSteps.{HasFrame}
use Rattle.hp_flat.proofs.KeptHomes.{HasWord, own_word, variable_word, IsNotOf, within_right, within_behind, within_same, in_neither, differ_both, own_number, arrays_apart, not_of}
use Rattle.hp_flat.proofs.ListMeanings.{HasArray}
use Rattle.hp_flat.proofs.MeaningRooms.{HasHomes, At, Room, TreeRoom, ArgsRoom, room_left, room_right, room_behind, room_before, room_inside, value_safe, value_shape}
use Rattle.hp_flat.proofs.OwedTrees.{IsPoint, filter_point}
use Rattle.hp_flat.proofs.ServedReads.{find}
use Rattle.hp_flat.proofs.ShortScopes.{AreShortColumns}
use Rattle.hp_flat.proofs.VariablePlaces.{has_place}
use Rattle.hp_flat.proofs.WordMeanings.{Sides, Yields}

module _ (h : Homes) (tables : List Table) where
  -- the calls of an expression take their tables
  abbrev pub Served : Tree → Type 0 → Type 0
  Served x P = Gives (Supplies (find h tables)) P (reads_in x) (files_in x)

  -- what is left for two operands, one behind the other
  pub record Rooms (around : Columns) (x y : Tree) : Type 0 where
    pub left : TreeRoom h tables around x
    pub right : TreeRoom h tables around y
    pub apart : is_node_of (nodes_in y) (number_of x) ≡ false

  -- ---- operators and indices

  pub unary_room : {around : Columns} (n : Head) (op : UnOp) (dotted : Bool) (x : Tree) → TreeRoom h tables around (unary n op dotted x) → TreeRoom h tables around x
  unfolding constructs_in reads_in files_in
  unary_room {around = around} n op dotted x room = room_behind h tables (nodes_in x) (room_before h tables (constructs_in h.known around x) (if dotted then Map (of_node n.id 0) (arrays_at h.known x) ∷ [] else []) room)

  -- a number between two operands
  between : {around : Columns} {P : Type 0} (n : ℕ) (x y : Tree) (cs : List (Arrays Unknown)) → Served x P
      → Room h tables around (nodes_in x ++ n ∷ nodes_in y) ((constructs_in h.known around x ++ constructs_in h.known around y) ++ cs) (reads_in x ++ reads_in y) (files_in x ++ files_in y) → Rooms around x y
  between {around = around} n x y cs served room =
      let both = room_before h tables (constructs_in h.known around x ++ constructs_in h.known around y) cs room in
      record {
        left = room_left h tables (nodes_in x) (n ∷ nodes_in y) (constructs_in h.known around x) (constructs_in h.known around y) (reads_in x) (reads_in y) (files_in x) (files_in y) both;
        right = room_behind h tables (nodes_in y)
            (room_right h tables (nodes_in x) (n ∷ nodes_in y) (constructs_in h.known around x) (constructs_in h.known around y) (reads_in x) (reads_in y) (files_in x) (files_in y) served both);
        apart = (within_behind {j = n} (within_same {xs = nodes_in y})).without (number_of x) ((differ_both (nodes_in x) (n ∷ nodes_in y) room.differ).none (number_of x) (own_number x));
      }

  pub binary_rooms : {around : Columns} {P : Type 0} (n : Head) (op : BinOp) (dotted : Bool) (x y : Tree) → Served x P → TreeRoom h tables around (binary n op dotted x y) → Rooms around x y
  unfolding constructs_in reads_in files_in
  binary_rooms n op dotted x y served room = between n.id x y (binary_of h.known n.id op dotted x y) served room

  pub index_rooms : {around : Columns} {P : Type 0} (n : Head) (x i : Tree) → Served x P → TreeRoom h tables around (index n x i) → Rooms around x i
  unfolding constructs_in reads_in files_in
  index_rooms n x i served room = between n.id x i (index_of n.id (arrays_at h.known x) (arrays_at h.known i)) served room

  -- ---- arguments of calls

  -- those of a call that reads no file and is no filter
  pub call_room : {around : Columns} (n : Head) (f : List ℕ) (dotted : Bool) (xs : Args) → bytes_eq f (codes "filter") ≡ false → is_read f dotted ≡ false → TreeRoom h tables around (call n f dotted xs) → ArgsRoom h tables around xs
  unfolding constructs_in reads_in files_in
  call_room {around = around} n f dotted xs other reads room =
      let own = call_of n.id (at_node h.known n.id) dotted (function_named dotted f) (arguments_of h.known xs) in
      room_behind h tables (nodes_in_args xs)
      (room_before h tables (constructs_among h.known around around xs) own
      (subst (λ (files : List ReadSpec). Room h tables around (n.id ∷ nodes_in_args xs) (constructs_among h.known around around xs ++ own) (reads_among xs) (files ++ files_among xs)) (no_file f dotted xs reads)
      (subst (λ (b : Bool). Room h tables around (n.id ∷ nodes_in_args xs) (constructs_among h.known around around xs ++ own) ((if b then n.id ∷ [] else []) ++ reads_among xs) (file_of_call f dotted xs ++ files_among xs)) reads
      (subst (λ (b : Bool). Room h tables around (n.id ∷ nodes_in_args xs) (constructs_among h.known around (if b then filtered_frame h.known xs else around) xs ++ own)
      ((if is_read f dotted then n.id ∷ [] else []) ++ reads_among xs) (file_of_call f dotted xs ++ files_among xs)) other room))))

  pub first_room : {around : Columns} (x : Tree) (xs : Args) → ArgsRoom h tables around (plain x xs) → TreeRoom h tables around x
  unfolding constructs_among reads_among files_among
  first_room {around = around} x xs room =
      room_left h tables (nodes_in x) (nodes_in_args xs) (constructs_in h.known around x) (constructs_among h.known around around xs) (reads_in x) (reads_among xs) (files_in x) (files_among xs) room

  pub rest_room : {around : Columns} {P : Type 0} (x : Tree) (xs : Args) → Served x P → ArgsRoom h tables around (plain x xs) → ArgsRoom h tables around xs
  unfolding constructs_among reads_among files_among
  rest_room {around = around} x xs served room =
      room_right h tables (nodes_in x) (nodes_in_args xs) (constructs_in h.known around x) (constructs_among h.known around around xs) (reads_in x) (reads_among xs) (files_in x) (files_among xs) served room

  pub pair_rooms : {around : Columns} {P : Type 0} (x y : Tree) (xs : Args) → Served x P → ArgsRoom h tables around (plain x (plain y xs)) → Rooms around x y
  pair_rooms x y xs served room = record {
    left = first_room x (plain y xs) room;
    right = first_room y xs (rest_room x (plain y xs) served room);
    apart = (in_neither (nodes_in y) (nodes_in_args xs) (number_of x) ((differ_both (nodes_in x) (nodes_in y ++ nodes_in_args xs) room.differ).none (number_of x) (own_number x))).0;
  }

  pub range_rooms : {around : Columns} {P : Type 0} (x y : Tree) → Served x P → ArgsRoom h tables around (range x y none) → Rooms around x y
  unfolding constructs_among reads_among files_among
  range_rooms {around = around} x y served room =
      let both = room_left h tables (nodes_in x ++ nodes_in y) [] (constructs_in h.known around x ++ constructs_in h.known around y) [] (reads_in x ++ reads_in y) [] (files_in x ++ files_in y) [] room in
      record {
        left = room_left h tables (nodes_in x) (nodes_in y) (constructs_in h.known around x) (constructs_in h.known around y) (reads_in x) (reads_in y) (files_in x) (files_in y) both;
        right = room_right h tables (nodes_in x) (nodes_in y) (constructs_in h.known around x) (constructs_in h.known around y) (reads_in x) (reads_in y) (files_in x) (files_in y) served both;
        apart = (differ_both (nodes_in x) (nodes_in y) both.differ).none (number_of x) (own_number x);
      }

  -- the array behind a lambda, whose body reads no file
  pub lambda_room : {around : Columns} (p : List ℕ) (body x : Tree) → files_in body ≡ [] → ArgsRoom h tables around (lambda p body (plain x none)) → TreeRoom h tables around x
  unfolding constructs_among reads_among files_among
  lambda_room {around = around} p body x bare room =
      let all = subst (λ (files : List ReadSpec). Room h tables around (nodes_in body ++ (nodes_in x ++ [])) (constructs_in h.known around x ++ []) (reads_in x ++ []) (files ++ (files_in x ++ []))) bare room in
      room_left h tables (nodes_in x) [] (constructs_in h.known around x) [] (reads_in x) [] (files_in x) []
      (record { differ = (differ_both (nodes_in body) (nodes_in x ++ []) all.differ).second; apart = not_of h (within_right (nodes_in body) within_same) around.arrays all.apart; copied = all.copied; supplied = all.supplied })

  pub named_room : {around : Columns} (c : List ℕ) (at : Place) (x : Tree) (xs : Args) → ArgsRoom h tables around (named c at x xs) → TreeRoom h tables around x
  unfolding constructs_among reads_among files_among
  named_room {around = around} c at x xs room =
      room_left h tables (nodes_in x) (nodes_in_args xs) (constructs_in h.known around x) (constructs_among h.known around around xs) (reads_in x) (reads_among xs) (files_in x) (files_among xs) room

  pub behind_named : {around : Columns} {P : Type 0} (c : List ℕ) (at : Place) (x : Tree) (xs : Args) → Served x P → ArgsRoom h tables around (named c at x xs) → ArgsRoom h tables around xs
  unfolding constructs_among reads_among files_among
  behind_named {around = around} c at x xs served room =
      room_right h tables (nodes_in x) (nodes_in_args xs) (constructs_in h.known around x) (constructs_among h.known around around xs) (reads_in x) (reads_among xs) (files_in x) (files_among xs) served room

  -- a frame, and the mask that its rows are filtered by
  pub record MaskRooms (around : Columns) (x y : Tree) : Type 0 where
    pub left : TreeRoom h tables around x
    pub right : TreeRoom h tables (frame_at h x) y
    pub apart : is_node_of (nodes_in y) (number_of x) ≡ false

  pub filter_rooms : {around : Columns} {P : Type 0} (n : Head) (x y : Tree) (names : List Name) → shape_at h.known (number_of x) ≡ Some (Frame names) → Served x P → TreeRoom h tables around (call n (codes "filter") false (plain x (plain y none))) → MaskRooms around x y
  unfolding constructs_in constructs_among reads_in reads_among files_in files_among
  filter_rooms {around = around} n x y names told served room =
      let inner = frame_at h x in
      let own = call_of n.id (at_node h.known n.id) false (function_named false (codes "filter")) (arguments_of h.known (plain x (plain y none))) in
      let all : Room h tables around (nodes_in x ++ (nodes_in y ++ [])) (constructs_in h.known around x ++ (constructs_in h.known inner y ++ [])) (reads_in x ++ (reads_in y ++ [])) (files_in x ++ (files_in y ++ [])) =
      room_behind h tables (nodes_in x ++ (nodes_in y ++ [])) (room_before h tables (constructs_in h.known around x ++ (constructs_in h.known inner y ++ [])) own
      (subst (λ (files : List ReadSpec). Room h tables around (nodes_in (call n (codes "filter") false (plain x (plain y none)))) ((constructs_in h.known around x ++ (constructs_in h.known inner y ++ [])) ++ own) (reads_in x ++ (reads_in y ++ [])) (files ++ (files_in x ++ (files_in y ++ []))))
      (no_file (codes "filter") false (plain x (plain y none)) refl) room)) in
      let behind = room_right h tables (nodes_in x) (nodes_in y ++ []) (constructs_in h.known around x) (constructs_in h.known inner y ++ []) (reads_in x) (reads_in y ++ []) (files_in x) (files_in y ++ []) served all in
      let apart = (in_neither (nodes_in y) [] (number_of x) ((differ_both (nodes_in x) (nodes_in y ++ []) all.differ).none (number_of x) (own_number x))).0 in
      record {
        left = room_left h tables (nodes_in x) (nodes_in y ++ []) (constructs_in h.known around x) (constructs_in h.known inner y ++ []) (reads_in x) (reads_in y ++ []) (files_in x) (files_in y ++ []) all;
        right = room_inside h tables (subst (λ (o : Option Shape). AllByRecursion (IsNotOf h (nodes_in y)) (columns_of o (arrays_at h.known x)).arrays) (sym told) (arrays_apart h (nodes_in y) x apart))
            (room_left h tables (nodes_in y) [] (constructs_in h.known inner y) [] (reads_in y) [] (files_in y) [] behind);
        apart = apart;
      }

-- ---- words, arrays and frames

module _ (h : Homes) where
  -- the word of an expression outside of lambdas is its own, or that of a variable of the script
  pub has_word : {s : Point} {x : Tree} {a : Shape} {around : Columns} → HasShape s x a → IsPoint h.known s around → HasWord h x
  unfolding word_of word_at
  has_word {s = s} {a = a} (of_parameter {p = p} role) point = no_parameter s.parameters p _ point.outside role
  has_word {a = a} (of_variable {v = x} out is) point = variable_word (has_place h x a (point.named x a is.shape)).below
  has_word {a = a} (of_scalar_variable {v = x} one is) point = variable_word (has_place h x a (point.named x a is.shape)).below
  has_word _ point = own_word refl

  pub has_array : (homes : HasHomes h) (z : Tree) (a : Shape) → shape_at h.known (number_of z) ≡ Some a → width (Some a) ≡ 1 → HasArray h z (number_of z)
  has_array homes z a told wide =
      let one : width (shape_at h.known (number_of z)) ≡ 1 = ap width told ∙ wide in
      record { home = ap (λ (w : ℕ). map (of_node (number_of z)) (range_with_len 0 w)) one; among = homes.nodes (number_of z) 0 (omega (arith, one)) }

  pub has_frame : (homes : HasHomes h) (id : ℕ) (names : List Name) → shape_at h.known id ≡ Some (Frame names) → HasFrame h id names
  has_frame homes id names told = record { shape = told; among = λ c less. homes.nodes id c (subst (λ (o : Option Shape). c < width o) (sym told) less) }

  -- an array of elements is one array
  pub array_wide : {one many : Shape} → IsArrayOf one many → width (Some many) ≡ 1
  array_wide array_of_numbers = refl
  array_wide array_of_truths = refl

  -- the point of a mask, whatever columns with these names the frame has
  pub at_mask : {s : Point} {around : Columns} {v : Scope} (x : Tree) (names : List Name) (columns : List Column) → At h s around v → shape_at h.known (number_of x) ≡ Some (Frame names) → names_of columns ≡ names → AreShortColumns columns
      → At h (with_columns s (Some names)) (frame_at h x) (within columns v)
  at_mask x names columns at told same short = record {
    point = filter_point h.known x names at.point told;
    fit = record { keeps = record { known = at.fit.keeps.known }; surrounds = safe.within same };
    script = at.script;
    short = record { vars = at.short.vars; frame = λ others is. let one : columns ≡ others = cc in subst AreShortColumns one short };
  }

  -- a variable that is surely set has a value of its type
  bound_value : {found : Option Shape} {held : Option Value} (a : Shape) (b : Value) → Bound found held → found ≡ Some a → held ≡ Some b → IsOf a b
  bound_value a b (bound {kind = kind} {a = c} of) is held =
      let kinds : kind ≡ a = cc in
      let values : c ≡ b = cc in
      subst (λ (k : Shape). IsOf k b) kinds (subst (IsOf kind) values of)

  pub variable_shape : {s : Point} {around : Columns} {v : Scope} {x : List ℕ} {a : Shape} → At h s around v → IsVariable s x a → (b : Value) → value_named x v.vars ≡ Some b → IsOf a b
  variable_shape {x = x} {a = a} at is b held = bound_value a b (at.fit.keeps.known x is.set) is.shape held

  module _ (slots : List Slot) (tables : List Table) (orders : List Order) where
    pub sides_of : {s : Point} {x y : Tree} {a : Shape} {around : Columns} {v : Scope} → HasShape s x a → At h s around v → Rooms h tables around x y → Sides h slots tables orders around v x y
    sides_of p at rooms = record { script = at.script; around_apart = rooms.left.apart; word = has_word p at.point; apart = rooms.apart }

    pub yields : {s : Point} {a : Shape} {around : Columns} {v : Scope} {x : Tree} → HasShape s x a → At h s around v → TreeRoom h tables around x → Yields h slots tables orders (IsOf a) v x
    yields {x = x} p at room n m b is = value_shape h tables slots orders x (value_safe h tables slots orders p at.point.outside room.supplied) at.fit n m b is
