-- What an expression asks for where it stands in a script: numbers that differ, copies that have slots, and tables; and
-- what of it is left for its parts.
use Rattle.std.proofs.Common.{◌≡◌, ℕ, ◌<◌, false, List, [], ◌∷◌, ◌++◌, Option, IsTrue, subst}
use Rattle.std.specs.List.{AllByRecursion}
use Rattle.hp_word.specs.declared.order.Order.{Order}
use Rattle.hp_word.specs.declared.table.Table.{Table}
use Rattle.hp_script.specs.declared.typed.ReadSpec.{ReadSpec}
use Rattle.hp_script.specs.declared.typed.Shape.{Shape}
use Rattle.hp_script.specs.Entries.{files_in, files_among}
use Rattle.hp_script.specs.Mirror.{Tree, Args}
use Rattle.hp_script.specs.Nodes.{nodes_in, nodes_in_args}
use Rattle.hp_script.specs.Scope.{Scope as Point}
use Rattle.hp_script.specs.Shaped.{IsOutside, HasShape}
use Rattle.hp_script.proofs.Completeness.{complete}
use Rattle.hp_meaning.specs.declared.seen.Seen.{Seen}
use Rattle.hp_meaning.specs.declared.value.Value.{Value}
use Rattle.hp_meaning.specs.Fitting.{HasShape as IsOf}
use Rattle.hp_meaning.specs.Outcomes.{Outcome, Is}
use Rattle.hp_meaning.specs.ReadCalls.{reads_in, reads_among}
use Rattle.hp_meaning.specs.Scopes.{Scope}
use Rattle.hp_meaning.specs.ValueOf.{value}
use Rattle.hp_meaning.proofs.Called.{supplies_apart}
use Rattle.hp_meaning.proofs.Fine.{Fine, is, stops}
use Rattle.hp_meaning.proofs.Parts.{Supplies}
use Rattle.hp_meaning.proofs.Safe.{Fit, Safe, SafeAs, safe_of}
use Rattle.hp_meaning.proofs.SafeTrees.{tree_safe}
use Rattle.hp_air.specs.declared.slot.Slot.{Slot}
use Rattle.hp_air.specs.Arrays.{Arrays, Stencil}
use Rattle.hp_air.specs.Carried.{is_among}
use Rattle.hp_air.specs.Unknowns.{Unknown, of_node, Columns, shape_at, width, constructs_in, constructs_among}
use Rattle.hp_flat.specs.Homes.{Homes}
use Rattle.hp_flat.proofs.ElementLoops.{none_outside}
use Rattle.hp_flat.proofs.Fronts.{Gives}
use Rattle.hp_flat.proofs.KeptHomes.{Differ, Within, within_same, within_left, within_right, within_behind, differ_both, not_of, IsNotOf, AreOfScript}
use Rattle.hp_flat.proofs.LastSteps.{AreApart}
use Rattle.hp_flat.proofs.OwedTrees.{IsPoint}
use Rattle.hp_flat.proofs.ServedCode.{all_apart}
use Rattle.hp_flat.proofs.ServedReads.{find}
use Rattle.hp_flat.proofs.ShortScopes.{ShortScope}
use Rattle.hp_flat.proofs.WordMeanings.{g}

-- outside of lambdas there is no parameter
pub no_parameters : (s : Point) → IsOutside s → s.parameters ≡ []
no_parameters s out = none_outside s.parameters out

module _ (h : Homes) where
  -- what holds of the slots of a script
  pub record HasHomes : Type 0 where
    pub apart : AreApart h
    pub nodes : (k c : ℕ) → c < width (shape_at h.known k) → IsTrue (is_among h.arrays (of_node k c))

  -- the balanced copy of a stencil has a slot
  abbrev pub HasCopy : Arrays Unknown → Type 0
  HasCopy (Stencil out array balanced) = IsTrue (is_among h.arrays balanced)
  HasCopy _ = Unit {0}

  -- At this point stand these variables and this frame.
  pub record At (s : Point) (around : Columns) (v : Scope) : Type 0 where
    pub point : IsPoint h.known s around
    pub fit : Fit s v
    pub script : AreOfScript h v.vars
    pub short : ShortScope v

  module _ (tables : List Table) where
    -- these calls find tables for these files, whatever stands behind
    pub record Supplied (ids : List ℕ) (files : List ReadSpec) : Type 0 where
      pub more : List ℕ
      pub others : List ReadSpec
      pub supplies : Supplies (find h tables) (ids ++ more) (files ++ others)

    -- What the numbers, constructs and calls of an expression ask for, in a frame.
    pub record Room (around : Columns) (ns : List ℕ) (cs : List (Arrays Unknown)) (ids : List ℕ) (files : List ReadSpec) : Type 0 where
      pub differ : Differ ns
      pub apart : AllByRecursion (IsNotOf h ns) around.arrays
      pub copied : AllByRecursion HasCopy cs
      pub supplied : Supplied ids files

    abbrev pub TreeRoom : Columns → Tree → Type 0
    TreeRoom around x = Room around (nodes_in x) (constructs_in h.known around x) (reads_in x) (files_in x)

    -- of arguments that all stand in one frame
    abbrev pub ArgsRoom : Columns → Args → Type 0
    ArgsRoom around xs = Room around (nodes_in_args xs) (constructs_among h.known around around xs) (reads_among xs) (files_among xs)

    pub room_left : {around : Columns} (ns ms : List ℕ) (cs ds : List (Arrays Unknown)) (ids js : List ℕ) (files gs : List ReadSpec) → Room around (ns ++ ms) (cs ++ ds) (ids ++ js) (files ++ gs) → Room around ns cs ids files
    room_left {around = around} ns ms cs ds ids js files gs room = record {
      differ = (differ_both ns ms room.differ).first;
      apart = not_of h (within_left ms within_same) around.arrays room.apart;
      copied = (all_apart HasCopy cs ds room.copied).0;
      supplied = record { more = js ++ room.supplied.more; others = gs ++ room.supplied.others; supplies = supplies_apart (find h tables) ids js room.supplied.more files gs room.supplied.others room.supplied.supplies };
    }

    pub room_right : {around : Columns} {P : Type 0} (ns ms : List ℕ) (cs ds : List (Arrays Unknown)) (ids js : List ℕ) (files gs : List ReadSpec) → Gives (Supplies (find h tables)) P ids files
        → Room around (ns ++ ms) (cs ++ ds) (ids ++ js) (files ++ gs) → Room around ms ds js gs
    room_right {around = around} ns ms cs ds ids js files gs serving room = record {
      differ = (differ_both ns ms room.differ).second;
      apart = not_of h (within_right ns within_same) around.arrays room.apart;
      copied = (all_apart HasCopy cs ds room.copied).1;
      supplied = record {
        more = room.supplied.more;
        others = room.supplied.others;
        supplies = (serving.take (js ++ room.supplied.more) (gs ++ room.supplied.others) (supplies_apart (find h tables) ids js room.supplied.more files gs room.supplied.others room.supplied.supplies)).1;
      };
    }

    -- behind a number
    pub room_behind : {around : Columns} {n : ℕ} (ns : List ℕ) {cs : List (Arrays Unknown)} {ids : List ℕ} {files : List ReadSpec} → Room around (n ∷ ns) cs ids files → Room around ns cs ids files
    room_behind {around = around} ns room = record { differ = room.differ.1; apart = not_of h (within_behind within_same) around.arrays room.apart; copied = room.copied; supplied = room.supplied }

    -- before other constructs
    pub room_before : {around : Columns} {ns : List ℕ} (cs ds : List (Arrays Unknown)) {ids : List ℕ} {files : List ReadSpec} → Room around ns (cs ++ ds) ids files → Room around ns cs ids files
    room_before cs ds room = record { differ = room.differ; apart = room.apart; copied = (all_apart HasCopy cs ds room.copied).0; supplied = room.supplied }

    -- in another frame
    pub room_inside : {around inner : Columns} {ns : List ℕ} {cs : List (Arrays Unknown)} {ids : List ℕ} {files : List ReadSpec} → AllByRecursion (IsNotOf h ns) inner.arrays → Room around ns cs ids files → Room inner ns cs ids files
    room_inside apart room = record { differ = room.differ; apart = apart; copied = room.copied; supplied = room.supplied }

    -- ---- types of values

    module _ (slots : List Slot) (orders : List Order) where
      pub value_safe : {s : Point} {x : Tree} {a : Shape} → HasShape s x a → IsOutside s → Supplied (reads_in x) (files_in x) → Safe s a (value (g h slots tables orders) x)
      value_safe {s = s} {x = x} p out supplied =
          safe_of (subst (λ (found : Option Shape). SafeAs s found (value (g h slots tables orders) x)) (complete p).shape
          (tree_safe (g h slots tables orders) s x supplied.more supplied.others (no_parameters s out) (complete p).passed supplied.supplies).safe)

      fine_is : {a : Shape} {outcome : Outcome Value} → Fine Value (IsOf a) outcome → (m : Seen) (b : Value) → outcome ≡ Is b m → IsOf a b
      fine_is {a = a} (is {a = c} of) m b e = let same : c ≡ b = cc in subst (IsOf a) same of
      fine_is stops m b e = absurd cc

      -- a value of an expression is of the expression's type
      pub value_shape : {s : Point} {a : Shape} {v : Scope} (x : Tree) → Safe s a (value (g h slots tables orders) x) → Fit s v → (n m : Seen) (b : Value) → value (g h slots tables orders) x v n ≡ Is b m → IsOf a b
      value_shape {v = v} x safe fit n m b e = fine_is (safe.fine v n fit) m b e
