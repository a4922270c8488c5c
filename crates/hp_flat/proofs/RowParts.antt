-- Parts of a program whose operations follow the constructs of a script, where their balanced copies have slots: one behind the
-- other, and calls with the names of columns and measures.
use Rattle.std.proofs.Common.{◌≡◌, ℕ, Bool, false, if◌then◌else◌, bytes_eq, codes, List, [], ◌∷◌, ◌++◌, refl, sym, subst, append_assoc}
use Rattle.std.specs.List.{AllByRecursion}
use Rattle.hp_word.specs.declared.fold.FoldKind.TheVariants as folds
use Rattle.hp_word.specs.declared.name.Name.{Name}
use Rattle.hp_script.specs.Functions.{function_named, scalar_named, fold_named, array_named}
use Rattle.hp_script.specs.Mirror.{Head, Tree, Args, column, call, none, plain}
use Rattle.hp_script.specs.Shaped.{AreColumns, no_more_columns, one_column, IsMeasure, measured_sum, measured_minimum, measured_maximum, measured_count, AreMeasures, no_more_measures, one_measure}
use Rattle.hp_program.specs.Programs.{Prog, stop, joined, operations}
use Rattle.hp_air.specs.declared.slot.Slot.{Slot}
use Rattle.hp_air.specs.declared.what.Op.{Op}
use Rattle.hp_air.specs.declared.what.What.TheVariants as what
use Rattle.hp_air.specs.Arrays.{Arrays, Stencil, arrays_of, renamed}
use Rattle.hp_air.specs.Unknowns.{Unknown, of_node, balanced_of, balanced_by, Columns, column_named, at_node, arguments_of, first, of_one, call_of, call_arrays, frame_around, filtered_frame, copied, constructs_in, constructs_among}
use Rattle.hp_flat.specs.Homes.{Homes, slot_of}
use Rattle.hp_flat.specs.Elements.{elem_of, reach_of}
use Rattle.hp_flat.specs.Flat.{flat, flat_among}
use Rattle.hp_flat.specs.FlatCalls.{code_of, of_array, out_of, array_copy, call_code, named_call}
use Rattle.hp_flat.specs.StepByStep.{Follows, both_end}
use Rattle.hp_flat.proofs.Fronts.{Gives, gives_both, gives_mapped}
use Rattle.hp_flat.proofs.RowCalls.{each, fold_rows}
use Rattle.hp_flat.proofs.RowCode.{step_rows, copy_rows, three}
use Rattle.hp_flat.proofs.RowFrames.{Framed, column_back}
use Rattle.hp_flat.proofs.RowSteps.{follows_joined, follows_as, HasSlots, rows, Back}
use Rattle.hp_flat.proofs.ServedCode.{all_apart}

module _ (h : Homes) (slots : List Slot) (stand : HasSlots h slots) where
  -- the balanced copies of these constructs have slots
  abbrev pub CopiesBack : List (Arrays Unknown) → List (Unit {0}) → Type 0
  CopiesBack cs others = AllByRecursion (λ c. AllByRecursion (Back h slots) (balanced_by c)) cs

  -- where they have, the operations of the program follow them
  abbrev pub Rows : Prog Op → List (Arrays Unknown) → Type 0
  Rows p cs = Gives CopiesBack (Follows (rows h slots p) cs) cs []

  pub follow : (p : Prog Op) (cs : List (Arrays Unknown)) → Follows (rows h slots p) cs → Rows p cs
  follow p cs f = record { take = λ more others t. (f, (all_apart (λ c. AllByRecursion (Back h slots) (balanced_by c)) cs more t).1) }

  pub joined_rows : (p q : Prog Op) (cs ds : List (Arrays Unknown)) → Rows p cs → Rows q ds → Rows (joined p q) (cs ++ ds)
  joined_rows p q cs ds first second = gives_mapped (λ r. follows_joined h slots p q r.0 r.1) (gives_both first second)

  pub nothing : Rows stop []
  unfolding rows operations
  nothing = follow stop [] both_end

  -- the last argument of a call
  pub last_rows : (p : Prog Op) (cs : List (Arrays Unknown)) → Rows p cs → Rows (joined p stop) (cs ++ [])
  last_rows p cs r = joined_rows p stop cs [] r nothing

  -- constructs that no part of the program stands for by itself
  pub passed : (cs : List (Arrays Unknown)) → Gives CopiesBack (Unit {0}) cs []
  passed cs = record { take = λ more others t. (tt, (all_apart (λ c. AllByRecursion (Back h slots) (balanced_by c)) cs more t).1) }

  -- an operation behind two parts, of which it holds the second
  pub between : (p q code : Prog Op) (cs ds own : List (Arrays Unknown)) → Rows p cs → Rows q ds → (Follows (rows h slots q) ds → Follows (rows h slots code) (ds ++ own))
      → Rows (joined p code) ((cs ++ ds) ++ own)
  between p q code cs ds own first second made =
      gives_mapped (λ r. follows_as (sym (append_assoc cs ds own)) (follows_joined h slots p code r.0.0 (made r.0.1))) (gives_both (gives_both first second) (passed own))

  -- a call of another function than `filter`
  pub call_rows : (around : Columns) (n : Head) (f : List ℕ) (dotted : Bool) (xs : Args) → bytes_eq f (codes "filter") ≡ false
      → Rows (flat_among h around around xs) (constructs_among h.known around around xs)
      → Rows (named_call h n dotted (function_named dotted f) xs) (call_of n.id (at_node h.known n.id) dotted (function_named dotted f) (arguments_of h.known xs))
      → Rows (flat h around (call n f dotted xs)) (constructs_in h.known around (call n f dotted xs))
  unfolding flat constructs_in
  call_rows around n f dotted xs other args own =
      joined_rows (flat_among h around (frame_around h.known f xs around) xs) (named_call h n dotted (function_named dotted f) xs)
      (constructs_among h.known around (frame_around h.known f xs around) xs) (call_of n.id (at_node h.known n.id) dotted (function_named dotted f) (arguments_of h.known xs))
      (subst (λ (b : Bool). Rows (flat_among h around (if b then filtered_frame h.known xs else around) xs) (constructs_among h.known around (if b then filtered_frame h.known xs else around) xs)) (sym other) args) own

  -- a stencil's balanced copy is its own
  pub stencil_own : (n : Head) (p : List ℕ) (e : Tree) (us : List Unknown) → Back h slots (of_node n.id 0) → AllByRecursion (Back h slots) us
      → Rows (of_array us (λ array. code_of n.at (what.Stencil (out_of h n) (slot_of h array) (slot_of h (balanced_of n.id)) (reach_of e) (elem_of h p e)))) (of_one us (λ array. Stencil (of_node n.id 0) array (balanced_of n.id)))
  unfolding renamed arrays_of rows operations
  stencil_own n p e [] out are = follow stop [] both_end
  stencil_own n p e (u ∷ []) out are = record {
    take = λ more others t. (
      step_rows h slots n.at (what.Stencil (out_of h n) (slot_of h u) (slot_of h (balanced_of n.id)) (reach_of e) (elem_of h p e)) (Stencil (of_node n.id 0) u (balanced_of n.id))
          (three h slots Stencil _ _ _ _ _ _ out are.0 t.0.0) refl,
      t.1,
    );
  }
  stencil_own n p e (u ∷ v ∷ us) out are = follow stop [] both_end

  -- the name of a column
  pub column_rows : (around : Columns) (n : Head) (c : List ℕ) → Framed h slots around → Rows (flat h around (column n c)) (constructs_in h.known around (column n c))
  unfolding flat constructs_in
  column_rows around n c framed =
      follow (array_copy h n.at (at_node h.known n.id) (column_named around c)) (copied (at_node h.known n.id) (column_named around c))
      (copy_rows h slots n.at (at_node h.known n.id) (column_named around c) (each h slots stand n.id) (column_back h slots around c framed))

  pub columns_rows : {before : List (List ℕ)} {xs : Args} {names : List Name} (around : Columns) → Framed h slots around → AreColumns before xs names
      → Rows (flat_among h around around xs) (constructs_among h.known around around xs)
  unfolding flat_among constructs_among
  columns_rows around framed no_more_columns = nothing
  columns_rows around framed (one_column {h = n} {c = c} {rest = rest} new more) =
      joined_rows (flat h around (column n c)) (flat_among h around around rest) (constructs_in h.known around (column n c)) (constructs_among h.known around around rest)
      (column_rows around n c framed) (columns_rows around framed more)

  measured_rows : (around : Columns) (n k : Head) (f c : List ℕ) → Framed h slots around → bytes_eq f (codes "filter") ≡ false
      → Follows (rows h slots (named_call h n false (function_named false f) (plain (column k c) none))) (call_of n.id (at_node h.known n.id) false (function_named false f) (arguments_of h.known (plain (column k c) none)))
      → Rows (flat h around (call n f false (plain (column k c) none))) (constructs_in h.known around (call n f false (plain (column k c) none)))
  unfolding flat_among constructs_among
  measured_rows around n k f c framed other own =
      call_rows around n f false (plain (column k c) none) other (last_rows (flat h around (column k c)) (constructs_in h.known around (column k c)) (column_rows around k c framed))
      (follow (named_call h n false (function_named false f) (plain (column k c) none)) (call_of n.id (at_node h.known n.id) false (function_named false f) (arguments_of h.known (plain (column k c) none))) own)

  measure_rows : {columns : List Name} {x : Tree} (around : Columns) → Framed h slots around → IsMeasure columns x → Rows (flat h around x) (constructs_in h.known around x)
  unfolding flat_among constructs_among function_named scalar_named fold_named array_named named_call call_code call_arrays rows operations
  measure_rows around framed (measured_sum {h = n} {g = k} {b = c} known) = measured_rows around n k (codes "sum") c framed refl (fold_rows h slots stand n folds.Sum (at_node h.known k.id) (each h slots stand k.id))
  measure_rows around framed (measured_minimum {h = n} {g = k} {b = c} known) = measured_rows around n k (codes "minimum") c framed refl (fold_rows h slots stand n folds.Min (at_node h.known k.id) (each h slots stand k.id))
  measure_rows around framed (measured_maximum {h = n} {g = k} {b = c} known) = measured_rows around n k (codes "maximum") c framed refl (fold_rows h slots stand n folds.Max (at_node h.known k.id) (each h slots stand k.id))
  measure_rows around framed (measured_count {h = n}) = call_rows around n (codes "count") false none refl nothing (follow stop [] both_end)

  pub measures_rows : {columns : List Name} {before : List (List ℕ)} {xs : Args} {names : List Name} (around : Columns) → Framed h slots around → AreMeasures columns before xs names
      → Rows (flat_among h around around xs) (constructs_among h.known around around xs)
  unfolding flat_among constructs_among
  measures_rows around framed no_more_measures = nothing
  measures_rows around framed (one_measure {m = m} {rest = rest} is new more) =
      joined_rows (flat h around m) (flat_among h around around rest) (constructs_in h.known around m) (constructs_among h.known around around rest)
      (measure_rows around framed is) (measures_rows around framed more)
