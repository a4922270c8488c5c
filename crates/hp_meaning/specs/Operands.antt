-- What a value can be taken as by a construct: a word, an array, a matrix or a frame.
use Rattle.std.specs.Prelude.{ℤ, Bool, true, false, if◌then◌else◌, List, Option, Some, None}
use Rattle.hp_meaning.specs.declared.value.Column.{Column}
use Rattle.hp_meaning.specs.declared.value.Kind.{Kind}
use Rattle.hp_meaning.specs.declared.value.Kind.TheVariants.{Number, Truth}
use Rattle.hp_word.specs.declared.matrix.Matrix.{Matrix as Grid}
use Rattle.hp_meaning.specs.declared.value.Value.{Value}
use Rattle.hp_meaning.specs.declared.value.Value.TheVariants.{Word, List as Listed, Matrix, Frame}

abbrev pub is_kind : Kind → Kind → Bool
is_kind Number Number = true
is_kind Truth Truth = true
is_kind _ _ = false

abbrev pub as_word : Value → Option (Kind × ℤ)
as_word (Word kind x) = Some (kind, x)
as_word _ = None

abbrev pub as_list : Value → Option (Kind × List ℤ)
as_list (Listed kind xs) = Some (kind, xs)
as_list _ = None

abbrev pub as_matrix : Value → Option Grid
as_matrix (Matrix m) = Some m
as_matrix _ = None

abbrev pub as_frame : Value → Option (List Column)
as_frame (Frame columns) = Some columns
as_frame _ = None

-- a word of this kind
abbrev pub as_word_of : Kind → Value → Option ℤ
as_word_of wanted (Word kind x) = if is_kind wanted kind then Some x else None
as_word_of wanted _ = None

abbrev pub as_number : Value → Option ℤ
as_number a = as_word_of Number a

abbrev pub as_truth : Value → Option ℤ
as_truth a = as_word_of Truth a

-- an array of this kind
abbrev pub as_list_of : Kind → Value → Option (List ℤ)
as_list_of wanted (Listed kind xs) = if is_kind wanted kind then Some xs else None
as_list_of wanted _ = None

abbrev pub as_numbers : Value → Option (List ℤ)
as_numbers a = as_list_of Number a

abbrev pub as_truths : Value → Option (List ℤ)
as_truths a = as_list_of Truth a

-- one word, or the words of an array
pub data Cells : Type 0 where
  One : ℤ → Cells
  Many : List ℤ → Cells

-- words of this kind
abbrev pub as_cells : Kind → Value → Option Cells
as_cells wanted (Word kind x) = if is_kind wanted kind then Some (One x) else None
as_cells wanted (Listed kind xs) = if is_kind wanted kind then Some (Many xs) else None
as_cells wanted _ = None
