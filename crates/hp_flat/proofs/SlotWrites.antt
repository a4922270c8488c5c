-- What is written into the slots of one expression's value stands there, and all other slots are as before.
use Rattle.std.proofs.Common.{◌≡◌, ℕ, ◌+◌, ◌≤◌, ◌<◌, Bool, true, false, if◌then◌else◌, List, [], ◌∷◌, map, length, IsTrue, refl, ap, ◌∙◌, arith}
use Rattle.std.specs.List.{AllZip, range_with_len}
use Rattle.hp_meaning.specs.declared.value.Column.{Column}
use Rattle.hp_meaning.specs.declared.value.Value.{Value}
use Rattle.hp_air.specs.declared.slot.Slot.{Slot}
use Rattle.hp_air.specs.declared.what.What.TheVariants as what
use Rattle.hp_air.specs.Carried.{is_among}
use Rattle.hp_air.specs.Meaning.{units, has_balanced}
use Rattle.hp_air.specs.Unknowns.{Unknown, of_node}
use Rattle.hp_air.specs.Wholes.{Whole, Env, with_slots}
use Rattle.hp_flat.specs.Homes.{Homes, slot_of, slots_of}
use Rattle.hp_flat.specs.Standing.{Stands, a_word, an_array, a_matrix, a_frame, ColumnsStand, KeepsOthers}
use Rattle.hp_flat.proofs.ColumnWrites.{columns_written, others_as_before}
use Rattle.hp_flat.proofs.LastSteps.{AreApart, not_its_own}

-- the column of an array of an expression
column_of_node : Unknown → ℕ
column_of_node (of_node k c) = c
column_of_node _ = 0

-- a copy is at most two units
pub copy_units : (slots : List Slot) (os ins : List ℕ) → units slots (what.Copy os ins) ≤ 2
unfolding units
copy_units slots os ins = few (has_balanced slots os)
  where
    few : (b : Bool) → (if b then 2 else 1) ≤ 2
    few true = omega arith
    few false = omega arith

module _ (h : Homes) where
  -- ---- copies

  -- what stands in some slots stands in others that hold the same
  abbrev pub AreCopied : Env → Env → (outs ins : List Unknown) → Type 0
  AreCopied e f outs ins = AllZip (λ u x. f.slots (slot_of h u) ≡ x) outs (map e.slots (slots_of h ins))

  columns_copied : (e f : Env) (outs ins : List Unknown) (columns : List Column) → AreCopied e f outs ins → ColumnsStand h e ins columns → ColumnsStand h f outs columns
  columns_copied e f [] [] columns same stand = stand
  columns_copied e f (u ∷ outs) (v ∷ ins) (c ∷ columns) same stand = (same.0 ∙ stand.0, columns_copied e f outs ins columns same.1 stand.1)
  columns_copied e f (u ∷ outs) (v ∷ ins) [] same stand = absurd stand
  columns_copied e f [] (v ∷ ins) columns same stand = absurd same
  columns_copied e f (u ∷ outs) [] columns same stand = absurd same

  pub copy_stands : (e f : Env) (outs ins : List Unknown) (w : ℕ) (a : Value) → AreCopied e f outs ins → f.words w ≡ e.words w → Stands h e ins w a → Stands h f outs w a
  copy_stands e f outs ins w a same word (a_word is) = a_word (word ∙ is)
  copy_stands e f (u ∷ []) ins w a same word (an_array is) = an_array (same.0 ∙ is)
  copy_stands e f [] ins w a same word (an_array is) = absurd same
  copy_stands e f (u ∷ v ∷ outs) ins w a same word (an_array is) = absurd same.1
  copy_stands e f (u ∷ []) ins w a same word (a_matrix is) = a_matrix (same.0 ∙ is)
  copy_stands e f [] ins w a same word (a_matrix is) = absurd same
  copy_stands e f (u ∷ v ∷ outs) ins w a same word (a_matrix is) = absurd same.1
  copy_stands e f outs ins w a same word (a_frame {columns = columns} stand) = a_frame (columns_copied e f outs ins columns same stand)

  -- ---- the slots of one value

  one_column : (id b c : ℕ) → of_node id b ≡ of_node id c → b ≡ c
  unfolding column_of_node
  one_column id b c same = ap column_of_node same

  module _ (apart : AreApart h) (id : ℕ) where
    -- the columns from a on
    abbrev pub outs : (a w : ℕ) → List Unknown
    outs a w = map (of_node id) (range_with_len a w)

    abbrev pub AreAmong : (a w : ℕ) → Type 0
    AreAmong a w = (c : ℕ) → a ≤ c → c < a + w → IsTrue (is_among h.arrays (of_node id c))

    -- all the slots of the value are written
    pub value_written : (w : ℕ) (wholes : List Whole) (e : Env) → AreAmong 0 w → length wholes ≡ w → AllZip (λ u x. (with_slots (slots_of h (outs 0 w)) wholes e).slots (slot_of h u) ≡ x) (outs 0 w) wholes
    value_written w wholes e among many = columns_written h apart (of_node id) (one_column id) w wholes e among many

    pub value_keeps : (w : ℕ) (wholes : List Whole) (e : Env) → AreAmong 0 w → KeepsOthers h (id ∷ []) e (with_slots (slots_of h (outs 0 w)) wholes e)
    value_keeps w wholes e among = record {
      slots = λ u not. others_as_before h apart (of_node id) (one_column id) 0 w wholes e.slots among u (λ c same. not_its_own id c u not same);
      variables = λ v less. refl;
      words = λ k not. refl;
    }
