-- How much the operations of single constructs are: one or two, with the arrays that each can need moved.
use Rattle.std.proofs.Common.{◌≡◌, ℕ, ◌+◌, ◌≤◌, Bool, true, false, cond, codes, bytes_eq, List, [], ◌∷◌, ◌++◌, length, Option, Some, None, ap, ◌∙◌, arith}
use Rattle.std.proofs.lemmas.List.{length-append, length-map}
use Rattle.std.proofs.lemmas.List.FromFn.{length-range_with_len}
use Rattle.std.specs.List.{range_with_len}
use Rattle.hp_word.specs.declared.elem.Elem.{Elem}
use Rattle.hp_word.specs.declared.place.Place.{Place}
use Rattle.hp_script.specs.declared.function.Function.{Function}
use Rattle.hp_script.specs.declared.function.Function.TheVariants as function
use Rattle.hp_script.specs.declared.tree.BinOp.{BinOp}
use Rattle.hp_script.specs.declared.tree.BinOp.TheVariants as binary_op
use Rattle.hp_script.specs.declared.tree.UnOp.{UnOp}
use Rattle.hp_script.specs.declared.typed.Shape.{Shape}
use Rattle.hp_script.specs.Mirror.{Head, Tree, Args, call, none, plain}
use Rattle.hp_program.specs.Programs.{Prog, joined}
use Rattle.hp_air.specs.declared.what.Op.{Op}
use Rattle.hp_air.specs.declared.what.What.{What}
use Rattle.hp_air.specs.declared.what.What.TheVariants as what
use Rattle.hp_air.specs.Kept.{moves_in}
use Rattle.hp_air.specs.Unknowns.{Unknown, arrays_named, of_node, shape_at, width, at_node, arrays_at, first, second, all}
use Rattle.hp_meaning.specs.ArgumentShapes.{first_plain, two_plain, three_plain, one_range, lambda_and_plain, all_written}
use Rattle.hp_meaning.specs.ValueOf.{column_name, measures_in}
use Rattle.hp_flat.specs.Homes.{Homes, slot_of, slots_of, word_at, word_of, word_named}
use Rattle.hp_flat.specs.Elements.{elem_of}
use Rattle.hp_flat.specs.Flat.{holds_truths, store_code, print_code, export_code}
use Rattle.hp_flat.specs.FlatCalls.{code_of, where_some, out_of, array_copy, word_copy, ins_of, product_code, multiplied, calculated_code, dotted_code, unary_code, lazy_code, index_code, call_code}
use Rattle.hp_flat.proofs.Heft.{heft, heft_joined, some_light, array_light, arrays_light, first_light}

-- operations, looks at words, and the arrays that can need a move
abbrev pub units_of : What → ℕ
units_of w = 1 + moves_in w

abbrev pub size : Prog Op → ℕ
size p = heft 1 units_of p

pub size_joined : (p q : Prog Op) → size (joined p q) ≡ size p + size q
size_joined p q = heft_joined 1 units_of p q

-- ---- how many arrays a value has

pub value_count : (h : Homes) (node : ℕ) (a : Option Shape) → shape_at h.known node ≡ a → length (slots_of h (at_node h.known node)) ≡ width a
value_count h node a is =
    length-map (at_node h.known node) (slot_of h) ∙ length-map (range_with_len 0 (width (shape_at h.known node))) (of_node node) ∙ length-range_with_len 0 (width (shape_at h.known node)) ∙ ap width is

pub two_counts : (h : Homes) (x y : Tree) → length (slots_of h (arrays_at h.known x ++ arrays_at h.known y)) ≡ length (slots_of h (arrays_at h.known x)) + length (slots_of h (arrays_at h.known y))
two_counts h x y =
    omega (arith, length-map (arrays_at h.known x ++ arrays_at h.known y) (slot_of h), length-append (arrays_at h.known x) (arrays_at h.known y), length-map (arrays_at h.known x) (slot_of h), length-map (arrays_at h.known y) (slot_of h))

-- ---- copies

pub copy_small : (h : Homes) (at : Place) (os ins : List Unknown) → size (array_copy h at os ins) ≤ 1
unfolding array_copy moves_in
copy_small h at [] ins = omega arith
copy_small h at (o ∷ os) ins = omega arith

-- ---- operators

pub unary_small : (h : Homes) (n : Head) (op : UnOp) (dotted : Bool) (x : Tree) → size (unary_code h n op dotted x) ≤ 1 + length (ins_of h x)
unfolding unary_code moves_in
unary_small h n op false x = omega arith
unary_small h n op true x = omega arith

pub dotted_small : (h : Homes) (n : Head) (elem : Elem) (x y : Tree) → size (dotted_code h n elem x y) ≤ 1 + (length (ins_of h x) + length (ins_of h y))
unfolding dotted_code moves_in
dotted_small h n elem x y = omega (arith, two_counts h x y)

pub product_small : (h : Homes) (n : Head) (x y : Tree) → size (product_code h n x y) ≤ 1
unfolding product_code moves_in
product_small h n x (call m f false (plain y none)) =
    by (bytes_eq f (codes "transpose")) _ _ (arrays_light 1 units_of 1 (arrays_at h.known x) (arrays_at h.known y) _ (λ a b. omega arith)) (arrays_light 1 units_of 1 (arrays_at h.known x) (at_node h.known m.id) _ (λ a b. omega arith))
  where
    by : (b : Bool) (p q : Prog Op) → size p ≤ 1 → size q ≤ 1 → size (cond b p q) ≤ 1
    by true p q one other = one
    by false p q one other = other
product_small h n x y = arrays_light 1 units_of 1 (arrays_at h.known x) (arrays_at h.known y) _ (λ a b. omega arith)

multiplied_small : (h : Homes) (n : Head) (x y : Tree) (words : Prog Op) → size words ≤ 1 → size (multiplied h n x y words) ≤ 1
multiplied_small h n x y words one = by (arrays_at h.known x)
  where
    by : (us : List Unknown) → size (elim us [ [] ↦ words | (_ ∷ _) ↦ product_code h n x y ]) ≤ 1
    by [] = one
    by (u ∷ us) = product_small h n x y

pub times_small : (h : Homes) (n : Head) (x y : Tree) → size (multiplied h n x y (calculated_code h n binary_op.Mul x y)) ≤ 1
unfolding moves_in
times_small h n x y = multiplied_small h n x y (calculated_code h n binary_op.Mul x y) (omega arith)

pub calculated_small : (h : Homes) (n : Head) (op : BinOp) (x y : Tree) → size (calculated_code h n op x y) ≤ 1
unfolding moves_in
calculated_small h n op x y = omega arith

-- the second side, a copy of its word, the word that the first side decides, and the look at the word of the first side
pub lazy_small : (h : Homes) (n : Head) (op : BinOp) (x y : Tree) (other : Prog Op) → size (lazy_code h n op x y other) ≤ 3 + size other
unfolding lazy_code word_copy moves_in
lazy_small h n binary_op.And x y other = omega (arith, size_joined other (word_copy n.at (word_at h n.id) (word_of h y)))
lazy_small h n op x y other = omega (arith, size_joined other (word_copy n.at (word_at h n.id) (word_of h y)))

pub index_small : (h : Homes) (n : Head) (x i : Tree) → size (index_code h n x i) ≤ 1
unfolding index_code moves_in
index_small h n x i = array_light 1 units_of 1 (arrays_at h.known x) _ (λ array. by array (arrays_at h.known i))
  where
    by : (array : Unknown) (us : List Unknown)
        → size (elim us [ [] ↦ code_of n.at (what.At (word_at h n.id) (slot_of h array) (word_of h i)) | (k ∷ _) ↦ code_of n.at (what.Pick (out_of h n) (slot_of h array) (slot_of h k)) ]) ≤ 1
    by array [] = omega arith
    by array (k ∷ ks) = omega arith

-- ---- calls

-- the arrays of a call that can need a move beside its first
abbrev pub spread : Homes → Function → Args → List (List Unknown) → ℕ
spread h function.Map xs sides = elim (lambda_and_plain xs) [ None ↦ 0 | Some p ↦ length (ins_of h p.2) ]
spread h function.DataFrame xs sides = length (slots_of h (all sides))
spread h function.Stack xs sides = length (slots_of h (all sides))
spread h _ xs sides = 0

pub call_small : (h : Homes) (n : Head) (f : Function) (xs : Args) (sides : List (List Unknown)) → size (call_code h n f xs sides) ≤ 1 + spread h f xs sides
unfolding call_code moves_in
call_small h n (function.Scalar f) xs sides = some_light 1 units_of 1 (two_plain xs) _ (λ p. omega arith)
call_small h n (function.Fold kind) xs sides = array_light 1 units_of 1 (first sides) _ (λ array. omega arith)
call_small h n function.Count xs sides = array_light 1 units_of 1 (first sides) _ (λ array. omega arith)
call_small h n function.Length xs sides = first_light 1 units_of 1 (first sides) _ (λ array. omega arith)
call_small h n function.Nrow xs sides = first_light 1 units_of 1 (first sides) _ (λ array. omega arith)
call_small h n function.Fill xs sides = some_light 1 units_of 1 (two_plain xs) _ (λ p. omega arith)
call_small h n function.Collect xs sides = some_light 1 units_of 1 (one_range xs) _ (λ p. omega arith)
call_small h n function.Cumsum xs sides = array_light 1 units_of 1 (first sides) _ (λ array. omega arith)
call_small h n function.Map xs sides = by (lambda_and_plain xs)
  where
    by : (o : Option (List ℕ × Tree × Tree))
        → size (where_some o (λ p. code_of n.at (what.Map (out_of h n) (ins_of h p.2) (elem_of h p.0 p.1)))) ≤ 1 + elim o [ None ↦ 0 | Some p ↦ length (ins_of h p.2) ]
    by (Some p) = omega arith
    by None = omega arith
call_small h n function.Stencil xs sides = some_light 1 units_of 1 (lambda_and_plain xs) _ (λ p. array_light 1 units_of 1 (arrays_at h.known p.2) _ (λ array. omega arith))
call_small h n function.Vcat xs sides = arrays_light 1 units_of 1 (first sides) (second sides) _ (λ a b. omega arith)
call_small h n function.DataFrame xs sides = omega arith
call_small h n function.ReadCsv xs sides = omega arith
call_small h n function.Filter xs sides = array_light 1 units_of 1 (second sides) _ (λ mask. omega arith)
call_small h n function.Join xs sides = some_light 1 units_of 1 (three_plain xs) _ (λ p. some_light 1 units_of 1 (column_name p.2) _ (λ key. omega arith))
call_small h n function.Aggregate xs sides =
    some_light 1 units_of 1 (first_plain xs) _ (λ p. some_light 1 units_of 1 (first_plain p.1) _ (λ q. some_light 1 units_of 1 (column_name q.0) _ (λ key. some_light 1 units_of 1 (measures_in (all_written q.1)) _ (λ ms. omega arith))))
call_small h n function.Sort xs sides =
    some_light 1 units_of 1 (first_plain xs) _ (λ p. some_light 1 units_of 1 (first_plain p.1) _ (λ q. some_light 1 units_of 1 (column_name q.0) _ (λ key. omega arith)))
call_small h n function.Stack xs sides = omega arith
call_small h n function.Row xs sides = some_light 1 units_of 1 (two_plain xs) _ (λ p. array_light 1 units_of 1 (arrays_at h.known p.0) _ (λ m. omega arith))
call_small h n function.Transpose xs sides = omega arith

-- ---- statements

pub store_small : (h : Homes) (at : Place) (x : List ℕ) (e : Tree) → size (store_code h at x e) ≤ 1
unfolding store_code word_copy moves_in
store_small h at x e = by (arrays_at h.known e)
  where
    by : (us : List Unknown)
        → size (elim us [ [] ↦ word_copy at (word_named h x) (word_of h e) | (_ ∷ _) ↦ array_copy h at (arrays_named h.known x) (arrays_at h.known e) ]) ≤ 1
    by [] = omega arith
    by (u ∷ us) = copy_small h at (arrays_named h.known x) (arrays_at h.known e)

pub print_small : (h : Homes) (at : Place) (e : Tree) → size (print_code h at e) ≤ 1
unfolding print_code moves_in
print_small h at e = by (arrays_at h.known e)
  where
    by : (us : List Unknown)
        → size (elim us [ [] ↦ code_of at (what.PrintWord (word_of h e) (holds_truths h e)) | (x ∷ _) ↦ code_of at (what.PrintList (slot_of h x) (holds_truths h e)) ]) ≤ 1
    by [] = omega arith
    by (u ∷ us) = omega arith

pub export_small : (h : Homes) (at : Place) (e : Tree) → size (export_code h at e) ≤ 1
unfolding export_code moves_in
export_small h at e = omega arith
