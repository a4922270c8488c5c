-- Constructs by the slots of their operands: what is of one array is of its slot.
use Rattle.std.proofs.Common.{◌≡◌, ◌≢◌, ◌<◌, ℕ, ◌==◌, zero, suc, Bool, true, false, if◌then◌else◌, List, [], ◌∷◌, ◌++◌, map, length, take, get_or, ◌+◌, slice_index_or, Option, Some, None, refl, sym, ap, ◌∙◌, append_assoc, append-nil, arith}
use Rattle.std.proofs.lemmas.List.{map-append, take_more}
use Rattle.std.proofs.lemmas.List.FromFn.{length-map-range_with_len}
use Rattle.std.specs.Prelude.{bytes_eq, codes, position, slice_get}
use Rattle.std.specs.List.{position_or_len, range_with_len}
use Rattle.std.specs.Option.{option_and_then, option_map}
use Rattle.hp_word.specs.declared.elem.Elem.{Elem}
use Rattle.hp_word.specs.declared.elem.Elem.TheVariants.{Input, Word}
use Rattle.hp_word.specs.declared.fold.FoldKind.{FoldKind}
use Rattle.hp_word.specs.declared.name.Name.{Name}
use Rattle.hp_word.specs.declared.place.Place.{Place}
use Rattle.hp_script.specs.declared.tree.BinOp.TheVariants as binary_op
use Rattle.hp_script.specs.declared.typed.Shape.{Shape}
use Rattle.hp_script.specs.declared.typed.Shape.TheVariants as shape
use Rattle.hp_script.specs.Mirror.{Head, Tree, Args, number, truth, text, variable, column, field, unary, binary, index, call, none, plain, range, lambda, named}
use Rattle.hp_program.specs.Programs.{Prog, stop}
use Rattle.hp_air.specs.declared.what.Op.{Op}
use Rattle.hp_air.specs.declared.what.What.TheVariants as what
use Rattle.hp_air.specs.Unknowns.{Unknown, of_node, of_variable, of_nothing, Known, width, shape_at, at_node, arrays_at, at_variable, shape_named, arrays_named, variable_named, Columns, columns_of, column_named, number_of, first, second, all}
use Rattle.hp_meaning.specs.ArgumentShapes.{one_plain}
use Rattle.hp_flat.specs.Homes.{Homes, slot_of, slots_of, word_at, word_of, word_named}
use Rattle.hp_flat.specs.Flat.{store_code, print_code, holds_truths}
use Rattle.hp_flat.specs.FlatCalls.{code_of, array_copy, word_copy, of_array, of_arrays, of_first, out_of, key_in, product_code, calculated_code, index_code}
use Rattle.hp_normal.specs.PlacesFound.{columns_in, column_place}
use Rattle.hp_normal.specs.Programs.{only_of, first_of, slots_there, sides_at, flipped, on_array, on_arrays, on_first, operand_at, eager_code, index_by, print_by, product_plain, product_flipped}

-- ---- lists of arrays

pub many_arrays : (node count : ℕ) → length (map (of_node node) (range_with_len 0 count)) ≡ count
many_arrays node count = length-map-range_with_len (of_node node) 0 count

pub slots_of_both : (h : Homes) (us vs : List Unknown) → slots_of h (us ++ vs) ≡ slots_of h us ++ slots_of h vs
slots_of_both h us vs = map-append (slot_of h) us vs

-- what is made of one array, of two and of the first one
pub array_there : (h : Homes) (us : List Unknown) (made : ℕ → Prog Op) (k : ℕ) → only_of (slots_of h us) ≡ Some k → on_array h us made ≡ made k
unfolding on_array
array_there h [] made k e = absurd cc
array_there h (u ∷ []) made k e = same (slot_of h u) e
  where
    same : (s : ℕ) → Some s ≡ Some k → made s ≡ made k
    same s e = ap made cc
array_there h (u ∷ v ∷ us) made k e = absurd cc

pub array_missing : (h : Homes) (us : List Unknown) (made : ℕ → Prog Op) → only_of (slots_of h us) ≡ None → on_array h us made ≡ stop
unfolding on_array
array_missing h [] made e = refl
array_missing h (u ∷ []) made e = absurd cc
array_missing h (u ∷ v ∷ us) made e = refl

pub arrays_there : (h : Homes) (us vs : List Unknown) (made : ℕ → ℕ → Prog Op) (k l : ℕ) → only_of (slots_of h us) ≡ Some k → only_of (slots_of h vs) ≡ Some l → on_arrays h us vs made ≡ made k l
unfolding on_arrays
arrays_there h [] vs made k l e f = absurd cc
arrays_there h (u ∷ x ∷ us) vs made k l e f = absurd cc
arrays_there h (u ∷ []) [] made k l e f = absurd cc
arrays_there h (u ∷ []) (v ∷ w ∷ vs) made k l e f = absurd cc
arrays_there h (u ∷ []) (v ∷ []) made k l e f = same (slot_of h u) (slot_of h v) e f
  where
    same : (s t : ℕ) → Some s ≡ Some k → Some t ≡ Some l → made s t ≡ made k l
    same s t e f = cc

pub left_missing : (h : Homes) (us vs : List Unknown) (made : ℕ → ℕ → Prog Op) → only_of (slots_of h us) ≡ None → on_arrays h us vs made ≡ stop
unfolding on_arrays
left_missing h [] vs made e = refl
left_missing h (u ∷ []) vs made e = absurd cc
left_missing h (u ∷ x ∷ us) vs made e = refl

pub right_missing : (h : Homes) (us vs : List Unknown) (made : ℕ → ℕ → Prog Op) → only_of (slots_of h vs) ≡ None → on_arrays h us vs made ≡ stop
unfolding on_arrays
right_missing h [] vs made e = refl
right_missing h (u ∷ []) [] made e = refl
right_missing h (u ∷ []) (v ∷ []) made e = absurd cc
right_missing h (u ∷ []) (v ∷ w ∷ vs) made e = refl
right_missing h (u ∷ x ∷ us) vs made e = refl

pub first_there : (h : Homes) (us : List Unknown) (made : ℕ → Prog Op) (k : ℕ) → first_of (slots_of h us) ≡ Some k → on_first h us made ≡ made k
unfolding on_first
first_there h [] made k e = absurd cc
first_there h (u ∷ us) made k e = same (slot_of h u) e
  where
    same : (s : ℕ) → Some s ≡ Some k → made s ≡ made k
    same s e = ap made cc

pub first_missing : (h : Homes) (us : List Unknown) (made : ℕ → Prog Op) → first_of (slots_of h us) ≡ None → on_first h us made ≡ stop
unfolding on_first
first_missing h [] made e = refl
first_missing h (u ∷ us) made e = absurd cc

-- every one of them
pub ruleset slot_forms = (array_there, array_missing, arrays_there, left_missing, right_missing, first_there, first_missing)

-- ---- operators

empty : (us : List Unknown) → length us ≡ 0 → us ≡ []
empty [] e = refl
empty (u ∷ us) e = absurd cc

no_array : {B : Type 0} (us : List Unknown) (a b : B) → length us ≡ 0 → (elim us [ [] ↦ a | (_ ∷ _) ↦ b ]) ≡ a
no_array [] a b e = refl
no_array (u ∷ us) a b e = absurd cc

some_array : {B : Type 0} (us : List Unknown) (a b : B) → length us ≢ 0 → (elim us [ [] ↦ a | (_ ∷ _) ↦ b ]) ≡ b
some_array [] a b e = absurd (e refl)
some_array (u ∷ us) a b e = refl

pub operand_word : (h : Homes) (inputs : ℕ) (x : Tree) → length (arrays_at h.known x) ≡ 0 → operand_at h inputs x ≡ Word (word_of h x)
unfolding operand_at
operand_word h inputs x e = no_array (arrays_at h.known x) _ _ e

pub operand_array : (h : Homes) (inputs : ℕ) (x : Tree) → length (arrays_at h.known x) ≢ 0 → operand_at h inputs x ≡ Input inputs
unfolding operand_at
operand_array h inputs x e = some_array (arrays_at h.known x) _ _ e

pub product_by_words : (h : Homes) (n : Head) (x y : Tree) → length (arrays_at h.known x) ≡ 0 → eager_code h n binary_op.Mul false x y ≡ calculated_code h n binary_op.Mul x y
unfolding eager_code
product_by_words h n x y e = no_array (arrays_at h.known x) _ _ e

pub product_by_arrays : (h : Homes) (n : Head) (x y : Tree) → length (arrays_at h.known x) ≢ 0 → eager_code h n binary_op.Mul false x y ≡ product_code h n x y
unfolding eager_code
product_by_arrays h n x y e = some_array (arrays_at h.known x) _ _ e

pub store_word : (h : Homes) (at : Place) (x : List ℕ) (e : Tree) → length (arrays_at h.known e) ≡ 0 → store_code h at x e ≡ word_copy at (word_named h x) (word_of h e)
unfolding store_code
store_word h at x e n = no_array (arrays_at h.known e) _ _ n

pub store_arrays : (h : Homes) (at : Place) (x : List ℕ) (e : Tree) → length (arrays_at h.known e) ≢ 0 → store_code h at x e ≡ array_copy h at (arrays_named h.known x) (arrays_at h.known e)
unfolding store_code
store_arrays h at x e n = some_array (arrays_at h.known e) _ _ n

pub print_forms : (h : Homes) (at : Place) (e : Tree) → print_code h at e ≡ print_by h at e
unfolding print_code
print_forms h at e = by_slots (arrays_at h.known e)
  where
    by_slots : (us : List Unknown) → ◌≡◌ {A = Prog Op} (elim us [ [] ↦ code_of at (what.PrintWord (word_of h e) (holds_truths h e)) | (x ∷ _) ↦ code_of at (what.PrintList (slot_of h x) (holds_truths h e)) ])
        (elim (first_of (slots_of h us)) [ None ↦ code_of at (what.PrintWord (word_of h e) (holds_truths h e)) | Some k ↦ code_of at (what.PrintList k (holds_truths h e)) ])
    by_slots [] = refl
    by_slots (u ∷ us) = refl

pub index_forms : (h : Homes) (n : Head) (x i : Tree) → index_code h n x i ≡ on_array h (arrays_at h.known x) (λ a. index_by h n a i)
unfolding index_code on_array
index_forms h n x i = by_slots (arrays_at h.known x) (arrays_at h.known i)
  where
    by_slots : (us ks : List Unknown) → of_array us (λ array. elim ks [ [] ↦ code_of n.at (what.At (word_at h n.id) (slot_of h array) (word_of h i)) | (k ∷ _) ↦ code_of n.at (what.Pick (out_of h n) (slot_of h array) (slot_of h k)) ])
        ≡ of_array us (λ array. elim (first_of (slots_of h ks)) [ None ↦ code_of n.at (what.At (word_at h n.id) (slot_of h array) (word_of h i)) | Some k ↦ code_of n.at (what.Pick (out_of h n) (slot_of h array) k) ])
    by_slots us [] = refl
    by_slots us (k ∷ ks) = refl

-- ---- products

pub product_is_plain : (h : Homes) (n : Head) (x y : Tree) → flipped y ≡ None → product_code h n x y ≡ product_plain h n x y
unfolding product_code one_plain on_arrays
product_is_plain h n x (call m f false (plain z none)) e = other _ _ (bytes_eq f (codes "transpose")) e
  where
    other : (p q : Prog Op) (b : Bool) → (if b then Some z else None) ≡ None → (if b then p else q) ≡ q
    other p q true e = absurd cc
    other p q false e = refl
product_is_plain h n x y e = refl

pub product_is_flipped : (h : Homes) (n : Head) (x y z : Tree) → flipped y ≡ Some z → product_code h n x y ≡ product_flipped h n x z
unfolding product_code one_plain on_arrays
product_is_flipped h n x (number m v) z e = absurd cc
product_is_flipped h n x (truth m b) z e = absurd cc
product_is_flipped h n x (text m bytes) z e = absurd cc
product_is_flipped h n x (variable m v) z e = absurd cc
product_is_flipped h n x (column m c) z e = absurd cc
product_is_flipped h n x (field m d c) z e = absurd cc
product_is_flipped h n x (unary m op dotted v) z e = absurd cc
product_is_flipped h n x (binary m op dotted v w) z e = absurd cc
product_is_flipped h n x (index m v i) z e = absurd cc
product_is_flipped h n x (call m f true xs) z e = absurd cc
product_is_flipped h n x (call m f false none) z e = never _ _ (bytes_eq f (codes "transpose")) e
  where
    never : (p q : Prog Op) (b : Bool) → ◌≡◌ {A = Option Tree} (if b then None else None) (Some z) → p ≡ q
    never p q true e = absurd cc
    never p q false e = absurd cc
product_is_flipped h n x (call m f false (plain v none)) z e = this _ (bytes_eq f (codes "transpose")) e
  where
    same : (v z : Tree) → Some v ≡ Some z → v ≡ z
    same v z e = cc

    this : (q : Prog Op) (b : Bool) → (if b then Some v else None) ≡ Some z
        → (if b then product_flipped h n x v else q) ≡ product_flipped h n x z
    this q true e = ap (λ (t : Tree). product_flipped h n x t) (same v z e)
    this q false e = absurd cc
product_is_flipped h n x (call m f false xs) z e = never _ _ (bytes_eq f (codes "transpose")) e
  where
    never : (p q : Prog Op) (b : Bool) → ◌≡◌ {A = Option Tree} (if b then None else None) (Some z) → p ≡ q
    never p q true e = absurd cc
    never p q false e = absurd cc

-- ---- columns of frames

within : {X : Type 0} (p : X → Bool) (xs : List X) (k : ℕ) → position p xs ≡ Some k → k < length xs
within p xs k e = grind arith

at_place : (slot : Unknown → ℕ) (us : List Unknown) (k : ℕ) → k < length us → slot (slice_index_or us k of_nothing) ≡ slice_index_or (map slot us) k 0
at_place slot [] k less = absurd (omega (arith, less))
at_place slot (u ∷ us) zero less = refl
at_place slot (u ∷ us) (suc k) less = at_place slot us k (omega (arith, less))

one_column : (h : Homes) (us : List Unknown) (count : ℕ) (found : Option ℕ) → length us ≡ count → ((k : ℕ) → found ≡ Some k → k < count)
    → ◌≡◌ {A = List ℕ} (slots_of h (elim found [ None ↦ [] | Some k ↦ slice_index_or us k of_nothing ∷ [] ])) (slots_there found (slots_of h us))
one_column h us count None many less = refl
one_column h us count (Some k) many less = ap (λ (s : ℕ). s ∷ []) (at_place (slot_of h) us k (rw many (less k refl)))

pub column_by : (h : Homes) (us : List Unknown) (found : Option Shape) (c : List ℕ) → length us ≡ width found
    → slots_of h (column_named (columns_of found us) c) ≡ slots_there (column_place found c) (slots_of h us)
column_by h us None c many = refl
column_by h us (Some shape.Int) c many = refl
column_by h us (Some shape.Bool) c many = refl
column_by h us (Some shape.Ints) c many = refl
column_by h us (Some shape.Bools) c many = refl
column_by h us (Some shape.Matrix) c many = refl
column_by h us (Some (shape.Frame names)) c many = one_column h us (length names) (position (λ name. bytes_eq c name.bytes) names) many (λ k e. within (λ name. bytes_eq c name.bytes) names k e)

-- the position of a column, whatever the arrays of its frame are
pub key_is : (found : Option Shape) (us : List Unknown) (c : List ℕ) → key_in (columns_of found us) c ≡ position_or_len (λ column. bytes_eq c column.bytes) (columns_in found)
unfolding key_in
key_is None us c = refl
key_is (Some shape.Int) us c = refl
key_is (Some shape.Bool) us c = refl
key_is (Some shape.Ints) us c = refl
key_is (Some shape.Bools) us c = refl
key_is (Some shape.Matrix) us c = refl
key_is (Some (shape.Frame names)) us c = refl

pub node_column : (h : Homes) (node : ℕ) (c : List ℕ)
    → slots_of h (column_named (columns_of (shape_at h.known node) (at_node h.known node)) c) ≡ slots_there (column_place (shape_at h.known node) c) (slots_of h (at_node h.known node))
node_column h node c = column_by h (at_node h.known node) (shape_at h.known node) c (many_arrays node (width (shape_at h.known node)))

variable_many : (v : Option ℕ) (found : ℕ → Option Shape) → length (at_variable v (option_and_then found v)) ≡ width (option_and_then found v)
variable_many None found = refl
variable_many (Some k) found = length-map-range_with_len (of_variable k) 0 (width (found k))

pub variable_column : (h : Homes) (x c : List ℕ)
    → slots_of h (column_named (columns_of (shape_named h.known x) (arrays_named h.known x)) c) ≡ slots_there (column_place (shape_named h.known x) c) (slots_of h (arrays_named h.known x))
variable_column h x c =
    column_by h (arrays_named h.known x) (shape_named h.known x) c (variable_many (variable_named h.known x) (λ k. option_map (λ v. v.shape) (slice_get h.known.vars k)))

-- ---- arguments

pub side_there : (g : Known) (values : List ℕ) (i node : ℕ) → slice_get values i ≡ Some node → slice_index_or (sides_at g values) i [] ≡ at_node g node
side_there g [] i node e = absurd cc
side_there g (k ∷ values) zero node e = same k node e
  where
    same : (k node : ℕ) → Some k ≡ Some node → at_node g k ≡ at_node g node
    same k node e = ap (at_node g) cc
side_there g (k ∷ values) (suc i) node e = side_there g values i node e

pub side_missing : (g : Known) (values : List ℕ) (i : ℕ) → slice_get values i ≡ None → slice_index_or (sides_at g values) i [] ≡ []
side_missing g [] i e = refl
side_missing g (k ∷ values) zero e = absurd cc
side_missing g (k ∷ values) (suc i) e = side_missing g values i e

every_side : (h : Homes) (values : List ℕ) (node : ℕ) → slots_of h (all (sides_at h.known (values ++ node ∷ []))) ≡ slots_of h (all (sides_at h.known values)) ++ slots_of h (at_node h.known node)
every_side h [] node = ap (slots_of h) (append-nil (at_node h.known node))
every_side h (k ∷ values) node =
    map-append (slot_of h) (at_node h.known k) (all (sides_at h.known (values ++ node ∷ [])))
    ∙ ap (λ (l : List ℕ). slots_of h (at_node h.known k) ++ l) (every_side h values node)
    ∙ sym (append_assoc (slots_of h (at_node h.known k)) (slots_of h (all (sides_at h.known values))) (slots_of h (at_node h.known node)))
    ∙ ap (λ (l : List ℕ). l ++ slots_of h (at_node h.known node)) (sym (map-append (slot_of h) (at_node h.known k) (all (sides_at h.known values))))

-- one more value
pub next_side : (h : Homes) (made new : List ℕ) (values : List ℕ) (i node : ℕ) → i < length values → node ≡ get_or values i node
    → made ≡ slots_of h (all (sides_at h.known (take i values))) → new ≡ made ++ slots_of h (at_node h.known node) → new ≡ slots_of h (all (sides_at h.known (take (i + 1) values)))
next_side h made new values i node lt is m n =
    let whole : take (i + 1) values ≡ take i values ++ node ∷ [] = take_more values i node lt ∙ ap (λ (k : ℕ). take i values ++ k ∷ []) (sym is) in
    rw (n, m, whole, every_side h (take i values) node) refl
