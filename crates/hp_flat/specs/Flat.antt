-- A script as operations of the array IR: expressions first parts first, each into its own slots or word, and statements
-- into those of variables.
use Rattle.std.specs.Prelude.{ℕ, Bool, true, false, List, [], ◌∷◌, Option, Some}
use Rattle.hp_word.specs.declared.place.Place.{Place}
use Rattle.hp_word.specs.Words.{truth}
use Rattle.hp_script.specs.declared.typed.Shape.{Shape}
use Rattle.hp_script.specs.declared.typed.Shape.TheVariants as shape
use Rattle.hp_script.specs.declared.typed.Typed.{Typed}
use Rattle.hp_script.specs.Functions.{function_named}
use Rattle.hp_script.specs.Mirror.{Tree, Args, Block, number, truth as truth_tree, text, variable, column, field, unary, binary, index, call, none, plain, range, lambda, named, done, assign, print, export, choose, loop, block_of}
use Rattle.hp_program.specs.Programs.{Prog, stop, choose as branch, loop as turns, joined}
use Rattle.hp_air.specs.declared.what.Op.{Op}
use Rattle.hp_air.specs.declared.what.What.TheVariants as what
use Rattle.hp_air.specs.Unknowns.{Columns, columns_of, column_named, shape_at, shape_named, number_of, at_node, arrays_at, arrays_named, frame_around, no_frame}
use Rattle.hp_flat.specs.Homes.{Homes, homes_of, slot_of, word_at, word_of, word_named}
use Rattle.hp_flat.specs.FlatCalls.{code_of, array_copy, word_copy, ins_of, frame_at, unary_code, binary_code, index_code, named_call}

-- ---- expressions

-- The operations of an expression: they put its value into the slots of its arrays, or into its word; `around` is the
-- frame that the innermost filter around filters. The name of a number or a truth value has no operation: its value
-- stands in the word of the variable. A lambda has none either, as it is an element of its call's operation.
unfoldable mutual
  pub flat : Homes → (around : Columns) → Tree → Prog Op
  flat h around (number n z) = code_of n.at (what.Const (word_at h n.id) z)
  flat h around (truth_tree n holds) = code_of n.at (what.Const (word_at h n.id) (truth holds))
  flat h around (text n bytes) = stop
  flat h around (variable n x) = array_copy h n.at (at_node h.known n.id) (arrays_named h.known x)
  flat h around (column n c) = array_copy h n.at (at_node h.known n.id) (column_named around c)
  flat h around (field n d c) = array_copy h n.at (at_node h.known n.id) (column_named (columns_of (shape_named h.known d) (arrays_named h.known d)) c)
  flat h around (unary n op dotted x) = joined (flat h around x) (unary_code h n op dotted x)
  flat h around (binary n op dotted x y) = joined (flat h around x) (binary_code h n op dotted x y (flat h around y))
  flat h around (index n x i) = joined (flat h around x) (joined (flat h around i) (index_code h n x i))
  flat h around (call n f dotted xs) = joined (flat_among h around (frame_around h.known f xs around) xs) (named_call h n dotted (function_named dotted f) xs)

  -- those of the first argument, and those of the arguments behind it
  pub flat_among : Homes → (around behind : Columns) → Args → Prog Op
  flat_among h around behind none = stop
  flat_among h around behind (plain x xs) = joined (flat h around x) (flat_among h behind behind xs)
  flat_among h around behind (range x y xs) = joined (flat h around x) (joined (flat h around y) (flat_among h behind behind xs))
  flat_among h around behind (lambda parameter x xs) = flat_among h behind behind xs
  flat_among h around behind (named name at x xs) = joined (flat h around x) (flat_among h behind behind xs)

-- outside of all filters
abbrev pub flat_at : Homes → Tree → Prog Op
flat_at h x = flat h no_frame x

-- ---- statements

-- the value of an expression, which stands in its own place, to that of a variable
unfoldable pub store_code : Homes → Place → List ℕ → Tree → Prog Op
store_code h at x e = elim (arrays_at h.known e) [ [] ↦ word_copy at (word_named h x) (word_of h e) | (_ ∷ _) ↦ array_copy h at (arrays_named h.known x) (arrays_at h.known e) ]

abbrev pub is_truths : Option Shape → Bool
is_truths (Some shape.Bool) = true
is_truths (Some shape.Bools) = true
is_truths _ = false

abbrev pub holds_truths : Homes → Tree → Bool
holds_truths h e = is_truths (shape_at h.known (number_of e))

-- `println` of a word or of an array
unfoldable pub print_code : Homes → Place → Tree → Prog Op
print_code h at e = elim (arrays_at h.known e) [ [] ↦ code_of at (what.PrintWord (word_of h e) (holds_truths h e)) | (x ∷ _) ↦ code_of at (what.PrintList (slot_of h x) (holds_truths h e)) ]

unfoldable pub export_code : Homes → Place → Tree → Prog Op
export_code h at e = code_of at (what.Export (ins_of h e) (frame_at h e).names)

unfoldable pub flat_block : Homes → Block → Prog Op
flat_block h done = stop
flat_block h (assign at x e rest) = joined (flat_at h e) (joined (store_code h at x e) (flat_block h rest))
flat_block h (print at e rest) = joined (flat_at h e) (joined (print_code h at e) (flat_block h rest))
flat_block h (export at e rest) = joined (flat_at h e) (joined (export_code h at e) (flat_block h rest))
flat_block h (choose at test body other rest) = joined (flat_at h test) (branch (word_of h test) (flat_block h body) (flat_block h other) (flat_block h rest))
flat_block h (loop at test body rest) = turns (flat_at h test) (word_of h test) (flat_block h body) (flat_block h rest)

-- ---- scripts

unfoldable pub flat_script : Typed → Prog Op
flat_script typed = flat_block (homes_of typed) (block_of typed.script.body)
