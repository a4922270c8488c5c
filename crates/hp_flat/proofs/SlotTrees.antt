-- The slots and words of the operations of an expression that fits.
use Rattle.std.proofs.Common.{◌≡◌, ◌≢◌, ℕ, zero, suc, ◌<◌, Bool, true, false, cond, nat_lt, codes, bytes_eq, pos, List, [], ◌∷◌, length, Option, Some, None, refl, sym, subst, arith}
use Rattle.std.proofs.lemmas.Bool.{lt-ltb, ltb-true}
use Rattle.std.specs.Prelude.{slice_index_or}
use Rattle.std.specs.List.{AllByRecursion, position_or_len}
use Rattle.hp_word.specs.declared.elem.Elem.TheVariants.{Number, Input}
use Rattle.hp_word.specs.declared.elem.Elem.TheViews.{Calc as calc_elem}
use Rattle.hp_word.specs.declared.word.CalcOp.TheVariants as calc
use Rattle.hp_word.specs.declared.name.Name.{Name}
use Rattle.hp_script.specs.declared.function.Function.{Function}
use Rattle.hp_script.specs.declared.tree.UnOp.{UnOp}
use Rattle.hp_script.specs.declared.tree.UnOp.TheVariants.{Not}
use Rattle.hp_script.specs.declared.typed.Shape.{Shape}
use Rattle.hp_script.specs.declared.typed.Shape.TheVariants.{Ints, Bools, Matrix, Frame}
use Rattle.hp_script.specs.declared.typed.Typed.{Typed}
use Rattle.hp_script.specs.Functions.{function_named}
use Rattle.hp_script.specs.Mirror.{Head, Tree, Args, variable, column, field, call, none, plain}
use Rattle.hp_script.specs.Scope.{Scope}
use Rattle.hp_script.specs.Shaped.{HasShape, of_stack}
use Rattle.hp_program.specs.Programs.{stop, joined}
use Rattle.hp_air.specs.Kept.{elem_fits}
use Rattle.hp_air.specs.Unknowns.{Unknown, of_nothing, Columns, columns_of, column_named, known_of, frame_around, shape_named, number_of, at_node, arrays_named, arguments_of}
use Rattle.hp_flat.specs.Flat.{flat, flat_among}
use Rattle.hp_flat.specs.FlatCalls.{ins_of, unary_code, call_code, named_call}
use Rattle.hp_flat.specs.Homes.{Homes, homes_of, homes_in, slot_of, slots_of, word_at, word_of, words_in, is_matrix}
use Rattle.hp_flat.specs.Elements.{unary_calc}
use Rattle.hp_flat.proofs.ElemFits.{calc_fits}
use Rattle.hp_flat.proofs.ListCode.{named_count}
use Rattle.hp_flat.proofs.SmallCode.{value_count}
use Rattle.hp_flat.proofs.Points.{AtPoint, same_around}
use Rattle.hp_flat.proofs.SlotCalls.{Is, IsPlainRight, calc_slots, map_slots}
use Rattle.hp_flat.proofs.SlotCode.{own_word, part_word, part_reads, Slotted, slotted_both, Source, copy_slots, value_source, value_as}
use Rattle.hp_flat.proofs.SlotValues.{Fine, Grid, Value, named_value}

-- the value of a call of `transpose` is none of its own
pub no_transpose : (typed : Typed) {s : Scope} {y : Tree} → HasShape s y Matrix → IsPlainRight typed y
no_transpose typed (of_stack {rest = none} out p rest) = refl
no_transpose typed _ = tt

module _ (typed : Typed) where
  abbrev h : Homes
  h = homes_of typed

  -- what is known at a point, and of the frame that is filtered around: its columns are no matrices, one for each name
  pub record Here (s : Scope) (around : Columns) : Type 0 where
    pub at : AtPoint (known_of typed) s around
    pub fine : AllByRecursion (Fine typed) (slots_of h around.arrays)
    pub grid : AllByRecursion (Grid typed false) (slots_of h around.arrays)
    pub many : length around.arrays ≡ length around.names

  item_of : (P : ℕ → Type 0) (us : List Unknown) (k : ℕ) → AllByRecursion P (slots_of h us) → k < length us → P (slot_of h (slice_index_or us k of_nothing))
  item_of P [] k are less = absurd (omega (arith, less))
  item_of P (u ∷ us) zero are less = are.0
  item_of P (u ∷ us) (suc k) are less = item_of P us k are.1 (omega (arith, less))

  pub column_source : (around : Columns) (c : List ℕ) → AllByRecursion (Fine typed) (slots_of h around.arrays) → AllByRecursion (Grid typed false) (slots_of h around.arrays) → length around.arrays ≡ length around.names
      → Source typed false (slots_of h (column_named around c))
  column_source around c fine grid many =
      let place = position_or_len (λ (name : Name). bytes_eq c name.bytes) around.names in
      by (nat_lt place (length around.names)) place (λ e. subst (λ (n : ℕ). place < n) (sym many) (ltb-true place (length around.names) e))
    where
      by : (b : Bool) (k : ℕ) → (b ≡ true → k < length around.arrays)
          → Source typed false (slots_of h (elim (cond b (Some k) None) as (λ (o : Option ℕ). List Unknown) [ None ↦ [] | Some k ↦ slice_index_or around.arrays k of_nothing ∷ [] ]))
      by true k less = record { fine = (item_of (Fine typed) around.arrays k fine (less refl), tt); grid = (item_of (Grid typed false) around.arrays k grid (less refl), tt); side = refl }
      by false k less = record { fine = tt; grid = tt; side = refl }

  -- ---- names

  pub variable_slots : (n : Head) (around : Columns) (x : List ℕ) (a : Shape) → Is typed n.id a → shape_named (known_of typed) x ≡ Some a → Slotted typed (flat h around (variable n x))
  unfolding flat homes_of homes_in
  variable_slots n around x a is known =
      copy_slots typed n.at (is_matrix (Some a)) (at_node (known_of typed) n.id) (arrays_named (known_of typed) x) (value_as typed n.id a is)
      (value_source typed (slots_of h (arrays_named (known_of typed) x)) (subst (λ (o : Option Shape). Value typed (is_matrix o) (slots_of h (arrays_named (known_of typed) x))) known (named_value typed x)))

  pub column_slots : (n : Head) (around : Columns) (c : List ℕ) → Is typed n.id Ints → Source typed false (slots_of h (column_named around c)) → Slotted typed (flat h around (column n c))
  unfolding flat homes_of homes_in
  column_slots n around c is source = copy_slots typed n.at false (at_node (known_of typed) n.id) (column_named around c) (value_as typed n.id Ints is) source

  -- ---- calls

  pub any_call : (around : Columns) (n : Head) (name : List ℕ) (dotted : Bool) (xs : Args) → bytes_eq name (codes "filter") ≡ false → Slotted typed (flat_among h around around xs)
      → Slotted typed (named_call h n dotted (function_named dotted name) xs) → Slotted typed (flat h around (call n name dotted xs))
  unfolding flat
  any_call around n name dotted xs other args own =
      slotted_both typed (flat_among h around (frame_around h.known name xs around) xs) (named_call h n dotted (function_named dotted name) xs)
      (subst (λ (behind : Columns). Slotted typed (flat_among h around behind xs)) (same_around h.known name xs around other) args) own

  pub called : (around : Columns) (n : Head) (f : Function) (name : List ℕ) (xs : Args) → function_named false name ≡ Some f → bytes_eq name (codes "filter") ≡ false → Slotted typed (flat_among h around around xs)
      → Slotted typed (call_code h n f xs (arguments_of h.known xs)) → Slotted typed (flat h around (call n name false xs))
  unfolding named_call
  called around n f name xs is other args own = any_call around n name false xs other args (rw is own)

  pub one_argument : (around : Columns) (x : Tree) → Slotted typed (flat h around x) → Slotted typed (flat_among h around around (plain x none))
  unfolding flat_among
  one_argument around x one = slotted_both typed (flat h around x) stop one tt

  pub two_arguments : (around behind : Columns) (x y : Tree) → Slotted typed (flat h around x) → Slotted typed (flat h behind y) → Slotted typed (flat_among h around behind (plain x (plain y none)))
  unfolding flat_among
  two_arguments around behind x y one other = slotted_both typed (flat h around x) (joined (flat h behind y) stop) one (slotted_both typed (flat h behind y) stop other tt)

  -- ---- the frame of a variable, and that of a filter

  frame_source : (found : Option Shape) (columns : List Name) (us : List Unknown) (c : List ℕ) → found ≡ Some (Frame columns) → Value typed false (slots_of h us) → length us ≡ length columns
      → Source typed false (slots_of h (column_named (columns_of found us) c))
  frame_source found columns us c is value many =
      subst (λ (o : Option Shape). Source typed false (slots_of h (column_named (columns_of o us) c))) (sym is) (column_source (record { names = columns; arrays = us }) c value.fine value.grid many)

  field_source : (d c : List ℕ) (columns : List Name) → shape_named (known_of typed) d ≡ Some (Frame columns) → Source typed false (slots_of h (column_named (columns_of (shape_named (known_of typed) d) (arrays_named (known_of typed) d)) c))
  unfolding homes_of homes_in
  field_source d c columns is =
      frame_source (shape_named (known_of typed) d) columns (arrays_named (known_of typed) d) c is
      (subst (λ (o : Option Shape). Value typed (is_matrix o) (slots_of h (arrays_named (known_of typed) d))) is (named_value typed d)) (named_count h d (Frame columns) is)

  -- ---- operators

  pub not_slots : (n : Head) (x : Tree) → Is typed n.id Bools → number_of x ≢ n.id → Is typed (number_of x) Bools → Slotted typed (unary_code h n Not true x)
  unfolding unary_code elem_fits homes_of homes_in
  not_slots n x is r first =
      map_slots typed n.at n.id Bools (ins_of h x) (calc_elem calc.Not n.at (Input 0) (Number (pos 0))) is refl refl
      (calc_fits (words_in h) (length (ins_of h x)) [] calc.Not n.at (Input 0) (Number (pos 0)) (lt-ltb 0 (length (ins_of h x)) (omega (arith, value_count h (number_of x) (Some Bools) first))) refl)
      (part_reads typed n.id (number_of x) Bools r first refl)

  pub word_slots : (n : Head) (o : UnOp) (a b : Shape) (x : Tree) → Is typed n.id a → Is typed (number_of x) b → Slotted typed (unary_code h n o false x)
  unfolding unary_code
  word_slots n o a b x is first = calc_slots typed n.at (word_at h n.id) (unary_calc o) (word_of h x) (word_of h x) (own_word typed n.id a is) (part_word typed x b first) (part_word typed x b first)

  pub field_slots : (n : Head) (around : Columns) (d c : List ℕ) (columns : List Name) → Is typed n.id Ints → shape_named (known_of typed) d ≡ Some (Frame columns) → Slotted typed (flat h around (field n d c))
  unfolding flat homes_of homes_in
  field_slots n around d c columns is known =
      copy_slots typed n.at false (at_node (known_of typed) n.id) (column_named (columns_of (shape_named (known_of typed) d) (arrays_named (known_of typed) d)) c) (value_as typed n.id Ints is) (field_source d c columns known)
