-- Where the program of a script keeps what the script names: a slot for each array of the script, and a word for each
-- variable and each expression.
use Rattle.std.specs.Prelude.{◌≡◌, ℕ, ◌+◌, Bool, true, false, List, [], ◌∷◌, map, length, codes, bytes_eq, slice_get, Option, Some, None, refl}
use Rattle.std.specs.List.{position_or_len}
use Rattle.std.specs.Option.{option_map}
use Rattle.hp_script.specs.declared.typed.Shape.{Shape}
use Rattle.hp_script.specs.declared.typed.Shape.TheVariants as shape
use Rattle.hp_script.specs.declared.typed.Typed.{Typed}
use Rattle.hp_script.specs.declared.typed.Var.{Var}
use Rattle.hp_script.specs.Mirror.{Tree, Block, variable, block_of}
use Rattle.hp_script.specs.Trees as trees
use Rattle.hp_air.specs.declared.slot.Slot.{Slot}
use Rattle.hp_air.specs.Frames.{node_slot, var_slot, balanced_slot}
use Rattle.hp_air.specs.Unknowns.{Unknown, of_variable, of_node, balanced_of, of_nothing, same_unknown, Known, known_of, shape_at, number_of, constructs_of, unknowns_among}
use Rattle.hp_meaning.specs.ReadCalls.{reads_of}

pub record Homes : Type 0 where
  -- the types of the script's expressions, and its variables
  pub known : Known
  -- its calls that read tables, by their numbers, in the order of the text
  pub reads : List ℕ
  -- its arrays, in the order of their slots
  pub arrays : List Unknown

-- the arrays of variables come first, then those of expressions, and then the balanced copies of stencils
unfoldable pub homes_in : Known → Block → Homes
homes_in g body = record { known = g; reads = reads_of body; arrays = unknowns_among g (constructs_of g body) }

unfoldable pub homes_of : Typed → Homes
homes_of typed = homes_in (known_of typed) (block_of typed.script.body)

-- ---- slots

-- the slot of an array: its place among the arrays of the script
unfoldable pub slot_of : Homes → Unknown → ℕ
slot_of h u = position_or_len (same_unknown u) h.arrays

abbrev pub slots_of : Homes → List Unknown → List ℕ
slots_of h us = map (slot_of h) us

abbrev pub is_matrix : Option Shape → Bool
is_matrix (Some shape.Matrix) = true
is_matrix _ = false

-- what stands in the slot of an array
unfoldable pub slot_for : Known → Unknown → Slot
slot_for g (of_variable v c) = record (var_slot v c) { matrix = is_matrix (option_map (λ var. var.shape) (slice_get g.vars v)) }
slot_for g (of_node node c) = record (node_slot node c) { matrix = is_matrix (shape_at g node) }
slot_for g (balanced_of node) = balanced_slot node
slot_for g of_nothing = record { node = None; var = None; column = 0; matrix = false; balanced = false }

-- the slots of a program: one for each array of its script, and no other
unfoldable pub slots_in : Homes → List Slot
slots_in h = map (slot_for h.known) h.arrays

-- ---- words

-- The words of the variables come first, by their numbers, and then those of the expressions, by theirs. The word of
-- what is no number and no truth value is never set.
unfoldable pub word_named : Homes → List ℕ → ℕ
word_named h x = position_or_len (λ v. bytes_eq x v.name.bytes) h.known.vars

unfoldable pub word_at : Homes → (node : ℕ) → ℕ
word_at h node = length h.known.vars + node

-- the word in which the value of an expression stands: that of a variable, or the expression's own
unfoldable pub word_of : Homes → Tree → ℕ
word_of h (variable n x) = word_named h x
word_of h x = word_at h (number_of x)

unfoldable pub words_in : Homes → ℕ
words_in h = length h.known.vars + length h.known.shapes

-- ---- worked rows

abbrev var : List ℕ → Shape → Var
var name found = record { name = trees.named name; shape = found }

-- a frame of two columns and a number as variables, and an expression that is an array
abbrev sample : Homes
sample =
    record {
      known = record {
        shapes = Some shape.Ints ∷ [];
        vars = var (codes "d") (shape.Frame (trees.named (codes "a") ∷ trees.named (codes "b") ∷ [])) ∷ var (codes "x") shape.Int ∷ [];
      };
      reads = [];
      arrays = of_variable 0 0 ∷ of_variable 0 1 ∷ of_node 0 0 ∷ [];
    }

slot_rows : (slot_of sample (of_variable 0 1) ≡ 1) × (slot_of sample (of_node 0 0) ≡ 2)
unfolding slot_of same_unknown
slot_rows = (refl, refl)

word_rows : (word_named sample (codes "x") ≡ 1) × (word_at sample 0 ≡ 2)
unfolding word_named word_at
word_rows = (refl, refl)
