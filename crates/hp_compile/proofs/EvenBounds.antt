-- What a script asks of a balanced copy is of one kind: it and another array are up to each other. So a greatest solution
-- leaves no balanced copy in uneven pieces: it could lie in blocks.
use Rattle.std.proofs.Common.{◌≡◌, ◌≢◌, ℕ, zero, suc, Bool, true, false, List, [], ◌∷◌, ◌++◌, map, flat_map, zip, bytes_eq, codes, slice_index_or, position, Option, Some, None, cond, IsTrue, refl, subst, sym}
use Rattle.std.proofs.lemmas.Bool.{eq-eqb}
use Rattle.std.specs.List.{AllByRecursion, range_with_len}
use Rattle.hp_lattice.specs.declared.dist.Dist.{Dist}
use Rattle.hp_lattice.specs.declared.dist.Dist.TheVariants.{Rep, Var, Block}
use Rattle.hp_script.specs.declared.function.Function.{Function}
use Rattle.hp_script.specs.declared.function.Function.TheVariants as function
use Rattle.hp_script.specs.declared.tree.BinOp.{BinOp}
use Rattle.hp_script.specs.declared.tree.BinOp.TheVariants as op
use Rattle.hp_script.specs.declared.typed.Shape.{Shape}
use Rattle.hp_script.specs.declared.typed.Shape.TheVariants as shape
use Rattle.hp_script.specs.declared.typed.Typed.{Typed}
use Rattle.hp_script.specs.declared.typed.Var.{Var as Variable}
use Rattle.hp_script.specs.Functions.{function_named}
use Rattle.hp_script.specs.Mirror.{Tree, Args, Block as Statements, number, truth, text, variable, column, field, unary, binary, index, call, none, plain, range, lambda, named, done, assign, print, export, choose, loop, block_of}
use Rattle.hp_air.specs.declared.constraint.Relation.{Relation}
use Rattle.hp_air.specs.declared.constraint.Relation.TheVariants.{Same, Up, AtMost}
use Rattle.hp_air.specs.Arrays.{Arrays, Length, Fill, Range, Read, Copy, Map, Reduce, Scan, Stencil, Filter, Join, Group, Concat, Sort, At, Pick, Frame, Stack, Row, Product, ProductT, PrintWord, PrintList, Export}
use Rattle.hp_air.specs.Carried.{is_balanced}
use Rattle.hp_air.specs.Constraints.{Bound, same, up_to, at_most, equal, equal_all, bounds_of}
use Rattle.hp_air.specs.ScriptBounds.{bounds_among, column_bounds, first_column, script_bounds}
use Rattle.hp_air.specs.Unknowns.{Known, Columns, Unknown, of_variable, of_node, balanced_of, of_nothing, same_unknown, width, shape_at, at_node, arrays_at, at_variable, variable_named, shape_named, arrays_named, columns_of, column_named, copied, of_one, of_two, arguments_of, first, second, all, call_arrays, call_of, product_of, binary_of, index_of, filtered_frame, frame_around, no_frame, constructs_in, constructs_among, constructs_at, print_of, constructs_of, constructs, unknowns, known_of}
use Rattle.hp_flat.proofs.ServedCode.{all_both}

-- ---- arrays that are no balanced copies, and constraints

-- the array is no balanced copy
abbrev pub IsPlain : Unknown → Type 0
IsPlain u = is_balanced u ≡ false

abbrev pub ArePlain : List Unknown → Type 0
ArePlain us = AllByRecursion IsPlain us

-- a constraint by its relation: one that does not let its low array be raised names no balanced copy
abbrev pub asks_plain : Relation → (low high : Unknown) → Type 0
asks_plain Up low high = Unit {0}
asks_plain Same low high = IsPlain low × IsPlain high
asks_plain (AtMost limit) low high = IsPlain low × IsPlain high

abbrev pub AsksPlain : Bound Unknown → Type 0
AsksPlain b = asks_plain b.relation b.low b.high

abbrev pub AskPlain : List (Bound Unknown) → Type 0
AskPlain bounds = AllByRecursion AsksPlain bounds

-- a construct asks so
abbrev Fair : Arrays Unknown → Type 0
Fair c = AskPlain (bounds_of c)

abbrev AreFair : List (Arrays Unknown) → Type 0
AreFair cs = AllByRecursion Fair cs

-- ---- arrays of values, variables and columns

nodes_plain : (node : ℕ) (columns : List ℕ) → ArePlain (map (of_node node) columns)
nodes_plain node [] = tt
nodes_plain node (c ∷ cs) = (refl, nodes_plain node cs)

variables_plain : (v : ℕ) (columns : List ℕ) → ArePlain (map (of_variable v) columns)
variables_plain v [] = tt
variables_plain v (c ∷ cs) = (refl, variables_plain v cs)

value_plain : (g : Known) (node : ℕ) → ArePlain (at_node g node)
value_plain g node = nodes_plain node (range_with_len 0 (width (shape_at g node)))

variable_plain : (v : Option ℕ) (found : Option Shape) → ArePlain (at_variable v found)
variable_plain (Some v) found = variables_plain v (range_with_len 0 (width found))
variable_plain None found = tt

named_plain : (g : Known) (x : List ℕ) → ArePlain (arrays_named g x)
named_plain g x = variable_plain (variable_named g x) (shape_named g x)

item_plain : (us : List Unknown) (k : ℕ) → ArePlain us → IsPlain (slice_index_or us k of_nothing)
item_plain [] k p = refl
item_plain (u ∷ us) zero p = p.0
item_plain (u ∷ us) (suc k) p = item_plain us k p.1

HasPlain : Columns → Type 0
HasPlain columns = ArePlain columns.arrays

columns_plain : (found : Option Shape) (arrays : List Unknown) → ArePlain arrays → ArePlain (columns_of found arrays).arrays
columns_plain (Some (shape.Frame names)) arrays p = p
columns_plain (Some shape.Int) arrays p = tt
columns_plain (Some shape.Bool) arrays p = tt
columns_plain (Some shape.Ints) arrays p = tt
columns_plain (Some shape.Bools) arrays p = tt
columns_plain (Some shape.Matrix) arrays p = tt
columns_plain None arrays p = tt

column_plain : (columns : Columns) (c : List ℕ) → ArePlain columns.arrays → ArePlain (column_named columns c)
column_plain columns c p = by (position (λ name. bytes_eq c name.bytes) columns.names)
  where
    by : (found : Option ℕ) → ArePlain (elim found [ None ↦ [] | Some k ↦ slice_index_or columns.arrays k of_nothing ∷ [] ])
    by None = tt
    by (Some k) = (item_plain columns.arrays k p, tt)

-- the arrays of each side
ArePlainSides : List (List Unknown) → Type 0
ArePlainSides sides = AllByRecursion ArePlain sides

sides_plain : (g : Known) (xs : Args) → AllByRecursion ArePlain (arguments_of g xs)
sides_plain g none = tt
sides_plain g (plain x xs) = (value_plain g _, sides_plain g xs)
sides_plain g (range x y xs) = sides_plain g xs
sides_plain g (lambda p x xs) = sides_plain g xs
sides_plain g (named name at x xs) = (value_plain g _, sides_plain g xs)

side_plain : (sides : List (List Unknown)) (k : ℕ) → AllByRecursion ArePlain sides → ArePlain (slice_index_or sides k [])
side_plain [] k p = tt
side_plain (s ∷ sides) zero p = p.0
side_plain (s ∷ sides) (suc k) p = side_plain sides k p.1

all_plain : (sides : List (List Unknown)) → AllByRecursion ArePlain sides → ArePlain (all sides)
all_plain [] p = tt
all_plain (s ∷ sides) p = all_both IsPlain s (all sides) p.0 (all_plain sides p.1)

-- ---- lists of constraints

equal_asks : (x y : Unknown) → IsPlain x → IsPlain y → AskPlain (equal x y)
equal_asks x y p q = ((p, q), ((q, p), tt))

equal_all_asks : (x : Unknown) (ys : List Unknown) → IsPlain x → ArePlain ys → AskPlain (equal_all x ys)
equal_all_asks x [] p q = tt
equal_all_asks x (y ∷ ys) p q = ((p, q.0), ((q.0, p), equal_all_asks x ys p q.1))

zipped_asks : (os ins : List Unknown) → ArePlain os → ArePlain ins → AskPlain (flat_map (λ p. equal p.0 p.1) (zip os ins))
zipped_asks [] ins p q = tt
zipped_asks (o ∷ os) [] p q = tt
zipped_asks (o ∷ os) (i ∷ ins) p q = ((p.0, q.0), ((q.0, p.0), zipped_asks os ins p.1 q.1))

-- ---- constructs

copied_fair : (os ins : List Unknown) → ArePlain os → ArePlain ins → AreFair (copied os ins)
unfolding bounds_of
copied_fair [] ins p q = tt
copied_fair (o ∷ os) ins p q = (zipped_asks (o ∷ os) ins p q, tt)

map_fair : (out : Unknown) (ins : List Unknown) → IsPlain out → ArePlain ins → Fair (Map out ins)
unfolding bounds_of
map_fair out ins p q = equal_all_asks out ins p q

one_fair : (xs : List Unknown) (made : Unknown → Arrays Unknown) → ArePlain xs → ((x : Unknown) → IsPlain x → Fair (made x)) → AreFair (of_one xs made)
unfolding bounds_of
one_fair [] made p f = tt
one_fair (x ∷ []) made p f = (f x p.0, tt)
one_fair (x ∷ y ∷ xs) made p f = tt

two_fair : (xs ys : List Unknown) (made : Unknown → Unknown → Arrays Unknown) → ArePlain xs → ArePlain ys → ((x y : Unknown) → IsPlain x → IsPlain y → Fair (made x y)) → AreFair (of_two xs ys made)
unfolding bounds_of
two_fair (x ∷ []) (y ∷ []) made p q f = (f x y p.0 q.0, tt)
two_fair [] ys made p q f = tt
two_fair (x ∷ z ∷ xs) ys made p q f = tt
two_fair (x ∷ []) [] made p q f = tt
two_fair (x ∷ []) (y ∷ z ∷ ys) made p q f = tt

lengths_fair : (xs : List Unknown) → AreFair (map Length xs)
unfolding bounds_of
lengths_fair [] = tt
lengths_fair (x ∷ xs) = (tt, lengths_fair xs)

read_fair : (value : List Unknown) → ArePlain value → Fair (Read value)
unfolding bounds_of
read_fair [] p = tt
read_fair (o ∷ os) p = equal_all_asks o os p.0 p.1

filter_fair : (value ins : List Unknown) (mask : Unknown) → ArePlain value → ArePlain ins → IsPlain mask → Fair (Filter value ins mask)
unfolding bounds_of
filter_fair [] ins mask p q m = tt
filter_fair (o ∷ os) [] mask p q m = tt
filter_fair (o ∷ os) (x ∷ ins) mask p q m = ((m, q.0), ((q.0, m), ((p.0, p.0), (tt, (tt, tt)))))

join_fair : (value lefts rights : List Unknown) → ArePlain value → Fair (Join value lefts rights)
unfolding bounds_of
join_fair [] lefts rights p = tt
join_fair (o ∷ os) [] rights p = tt
join_fair (o ∷ os) (l ∷ lefts) [] p = tt
join_fair (o ∷ os) (l ∷ lefts) (r ∷ rights) p = ((p.0, p.0), (tt, (tt, (tt, tt))))

group_fair : (value ins : List Unknown) → ArePlain value → Fair (Group value ins)
unfolding bounds_of
group_fair [] ins p = tt
group_fair (o ∷ os) [] p = tt
group_fair (o ∷ os) (x ∷ ins) p = ((p.0, p.0), (tt, (tt, tt)))

sort_fair : (value ins : List Unknown) → ArePlain value → Fair (Sort value ins)
unfolding bounds_of
sort_fair [] ins p = tt
sort_fair (o ∷ os) ins p = ((p.0, p.0), tt)

frame_fair : (value ins : List Unknown) → ArePlain value → ArePlain ins → Fair (Frame value ins)
unfolding bounds_of
frame_fair [] ins p q = tt
frame_fair (o ∷ os) ins p q = equal_all_asks o ins p.0 q

call_fair : (node : ℕ) (value : List Unknown) (f : Function) (sides : List (List Unknown)) → ArePlain value → AllByRecursion ArePlain sides → AreFair (call_arrays node value f sides)
unfolding call_arrays bounds_of
call_fair node value function.Map sides p q = (map_fair (of_node node 0) (first sides) refl (side_plain sides 0 q), tt)
call_fair node value function.Fill sides p q = (tt, tt)
call_fair node value function.Collect sides p q = (tt, tt)
call_fair node value function.ReadCsv sides p q = (read_fair value p, tt)
call_fair node value function.Length sides p q = lengths_fair (first sides)
call_fair node value function.Nrow sides p q = lengths_fair (first sides)
call_fair node value (function.Fold kind) sides p q = one_fair (first sides) (Reduce kind) (side_plain sides 0 q) (λ x is. tt)
call_fair node value function.Count sides p q = one_fair (first sides) _ (side_plain sides 0 q) (λ x is. tt)
call_fair node value function.Cumsum sides p q = one_fair (first sides) (Scan (of_node node 0)) (side_plain sides 0 q) (λ x is. equal_asks (of_node node 0) x refl is)
call_fair node value function.Stencil sides p q = one_fair (first sides) (λ array. Stencil (of_node node 0) array (balanced_of node)) (side_plain sides 0 q) (λ x is. (tt, (tt, (tt, (tt, tt)))))
call_fair node value function.Filter sides p q = one_fair (second sides) (Filter value (first sides)) (side_plain sides 1 q) (λ x is. filter_fair value (first sides) x p (side_plain sides 0 q) is)
call_fair node value function.Join sides p q = (join_fair value (first sides) (second sides) p, tt)
call_fair node value function.Aggregate sides p q = (group_fair value (first sides) p, tt)
call_fair node value function.Vcat sides p q = two_fair (first sides) (second sides) (Concat (of_node node 0)) (side_plain sides 0 q) (side_plain sides 1 q) (λ x y is iy. (tt, (tt, (tt, (tt, tt)))))
call_fair node value function.Sort sides p q = (sort_fair value (first sides) p, tt)
call_fair node value function.DataFrame sides p q = (frame_fair value (all sides) p (all_plain sides q), tt)
call_fair node value function.Stack sides p q = (equal_all_asks (of_node node 0) (all sides) refl (all_plain sides q), tt)
call_fair node value function.Row sides p q = one_fair (first sides) (Row (of_node node 0)) (side_plain sides 0 q) (λ x is. equal_asks (of_node node 0) x refl is)
call_fair node value (function.Scalar f) sides p q = tt
call_fair node value function.Transpose sides p q = tt

calls_fair : (node : ℕ) (value : List Unknown) (dotted : Bool) (f : Option Function) (sides : List (List Unknown)) → ArePlain value → AllByRecursion ArePlain sides → AreFair (call_of node value dotted f sides)
unfolding bounds_of
calls_fair node value true f sides p q = (map_fair (of_node node 0) (all sides) refl (all_plain sides q), tt)
calls_fair node value false (Some f) sides p q = call_fair node value f sides p q
calls_fair node value false None sides p q = tt

one_of_both : (b : Bool) (cs ds : List (Arrays Unknown)) → AreFair cs → AreFair ds → AreFair (cond b cs ds)
unfolding bounds_of
one_of_both true cs ds p q = p
one_of_both false cs ds p q = q

index_fair : (node : ℕ) (array at : List Unknown) → ArePlain array → ArePlain at → AreFair (index_of node array at)
unfolding bounds_of
index_fair node array [] p q = one_fair array At p (λ x is. ((is, is), tt))
index_fair node array (k ∷ ks) p q = one_fair array (λ x. Pick (of_node node 0) x k) p (λ x is. ((is, is), equal_asks (of_node node 0) k refl q.0))

times_fair : (node : ℕ) (xs ys : List Unknown) → ArePlain xs → ArePlain ys → AreFair (of_two xs ys (Product (of_node node 0)))
unfolding bounds_of
times_fair node xs ys p q = two_fair xs ys (Product (of_node node 0)) p q (λ a b ia ib. ((ia, ia), equal_asks (of_node node 0) b refl ib))

flipped_fair : (node : ℕ) (xs ys : List Unknown) → ArePlain xs → ArePlain ys → AreFair (of_two xs ys (ProductT (of_node node 0)))
unfolding bounds_of
flipped_fair node xs ys p q = two_fair xs ys (ProductT (of_node node 0)) p q (λ a b ia ib. ((ia, ib), ((ib, ia), ((refl, refl), tt))))

product_fair : (g : Known) (node : ℕ) (x y : Tree) → AreFair (product_of g node x y)
unfolding bounds_of
product_fair g node x (call h f false (plain y none)) =
    one_of_both (bytes_eq f (codes "transpose")) _ _ (flipped_fair node (arrays_at g x) (arrays_at g y) (value_plain g _) (value_plain g _)) (times_fair node (arrays_at g x) (at_node g h.id) (value_plain g _) (value_plain g _))
product_fair g node x y = times_fair node (arrays_at g x) (arrays_at g y) (value_plain g _) (value_plain g _)

binary_fair : (g : Known) (node : ℕ) (o : BinOp) (dotted : Bool) (x y : Tree) → AreFair (binary_of g node o dotted x y)
unfolding bounds_of
binary_fair g node o true x y = (map_fair (of_node node 0) (arrays_at g x ++ arrays_at g y) refl (all_both IsPlain (arrays_at g x) (arrays_at g y) (value_plain g _) (value_plain g _)), tt)
binary_fair g node op.Mul false x y = product_fair g node x y
binary_fair g node _ false x y = tt

-- ---- expressions

joined : (cs ds : List (Arrays Unknown)) → AreFair cs → AreFair ds → AreFair (cs ++ ds)
joined cs ds p q = all_both Fair cs ds p q

around_plain : (g : Known) (f : List ℕ) (xs : Args) (around : Columns) → ArePlain around.arrays → ArePlain (frame_around g f xs around).arrays
around_plain g f xs around p = by (bytes_eq f (codes "filter"))
  where
    filtered : (ys : Args) → ArePlain (filtered_frame g ys).arrays
    filtered (plain x ys) = columns_plain (shape_at g _) (arrays_at g x) (value_plain g _)
    filtered none = tt
    filtered (range x y ys) = tt
    filtered (lambda name x ys) = tt
    filtered (named name at x ys) = tt

    by : (b : Bool) → ArePlain (cond b (filtered_frame g xs) around).arrays
    by true = filtered xs
    by false = p

mutual
  unfolding constructs_in constructs_among

  in_fair : (g : Known) (around : Columns) (x : Tree) → ArePlain around.arrays → AreFair (constructs_in g around x)
  in_fair g around (number h value) p = tt
  in_fair g around (truth h holds) p = tt
  in_fair g around (text h bytes) p = tt
  in_fair g around (variable h x) p = copied_fair (at_node g h.id) (arrays_named g x) (value_plain g h.id) (named_plain g x)
  in_fair g around (column h c) p = copied_fair (at_node g h.id) (column_named around c) (value_plain g h.id) (column_plain around c p)
  in_fair g around (field h d c) p =
      copied_fair (at_node g h.id) (column_named (columns_of (shape_named g d) (arrays_named g d)) c) (value_plain g h.id)
      (column_plain (columns_of (shape_named g d) (arrays_named g d)) c (columns_plain (shape_named g d) (arrays_named g d) (named_plain g d)))
  in_fair g around (unary h o dotted x) p = joined (constructs_in g around x) _ (in_fair g around x p) (one_of_both dotted (Map (of_node h.id 0) (arrays_at g x) ∷ []) [] (map_fair (of_node h.id 0) (arrays_at g x) refl (value_plain g _), tt) tt)
  in_fair g around (binary h o dotted x y) p =
      joined (constructs_in g around x ++ constructs_in g around y) _ (joined (constructs_in g around x) _ (in_fair g around x p) (in_fair g around y p)) (binary_fair g h.id o dotted x y)
  in_fair g around (index h x i) p =
      joined (constructs_in g around x ++ constructs_in g around i) _ (joined (constructs_in g around x) _ (in_fair g around x p) (in_fair g around i p)) (index_fair h.id (arrays_at g x) (arrays_at g i) (value_plain g _) (value_plain g _))
  in_fair g around (call h f dotted xs) p =
      joined (constructs_among g around (frame_around g f xs around) xs) _ (among_fair g around (frame_around g f xs around) xs p (around_plain g f xs around p))
      (calls_fair h.id (at_node g h.id) dotted (function_named dotted f) (arguments_of g xs) (value_plain g h.id) (sides_plain g xs))

  among_fair : (g : Known) (around behind : Columns) (xs : Args) → ArePlain around.arrays → ArePlain behind.arrays → AreFair (constructs_among g around behind xs)
  among_fair g around behind none p q = tt
  among_fair g around behind (plain x xs) p q = joined (constructs_in g around x) _ (in_fair g around x p) (among_fair g behind behind xs q q)
  among_fair g around behind (range x y xs) p q =
      joined (constructs_in g around x ++ constructs_in g around y) _ (joined (constructs_in g around x) _ (in_fair g around x p) (in_fair g around y p)) (among_fair g behind behind xs q q)
  among_fair g around behind (lambda name x xs) p q = among_fair g behind behind xs q q
  among_fair g around behind (named name at x xs) p q = joined (constructs_in g around x) _ (in_fair g around x p) (among_fair g behind behind xs q q)

-- ---- scripts

print_fair : (us : List Unknown) → Fair (print_of us)
unfolding bounds_of
print_fair [] = tt
print_fair (u ∷ us) = tt

export_fair : (us : List Unknown) → Fair (Export us)
unfolding bounds_of
export_fair us = tt

block_fair : (g : Known) (b : Statements) → AreFair (constructs_of g b)
unfolding constructs_of
block_fair g done = tt
block_fair g (assign at x e rest) =
    joined (constructs_at g e ++ copied (arrays_named g x) (arrays_at g e)) _
    (joined (constructs_at g e) _ (in_fair g no_frame e tt) (copied_fair (arrays_named g x) (arrays_at g e) (named_plain g x) (value_plain g _))) (block_fair g rest)
block_fair g (print at e rest) = joined (constructs_at g e) _ (in_fair g no_frame e tt) (print_fair (arrays_at g e), block_fair g rest)
block_fair g (export at e rest) = joined (constructs_at g e) _ (in_fair g no_frame e tt) (export_fair (arrays_at g e), block_fair g rest)
block_fair g (choose at test body other rest) =
    joined ((constructs_at g test ++ constructs_of g body) ++ constructs_of g other) _
    (joined (constructs_at g test ++ constructs_of g body) _ (joined (constructs_at g test) _ (in_fair g no_frame test tt) (block_fair g body)) (block_fair g other)) (block_fair g rest)
block_fair g (loop at test body rest) =
    joined (constructs_at g test ++ constructs_of g body) _ (joined (constructs_at g test) _ (in_fair g no_frame test tt) (block_fair g body)) (block_fair g rest)

construct_bounds : (cs : List (Arrays Unknown)) → AreFair cs → AskPlain (flat_map bounds_of cs)
construct_bounds [] p = tt
construct_bounds (c ∷ cs) p = all_both AsksPlain (bounds_of c) (flat_map bounds_of cs) p.0 (construct_bounds cs p.1)

-- ---- frames

itself : (n : ℕ) → same_unknown (balanced_of n) (balanced_of n) ≡ true
unfolding same_unknown
itself n = eq-eqb n n refl

column_asks : (u : Unknown) → AskPlain (column_bounds u)
unfolding column_bounds
column_asks (of_variable v c) = by (same_unknown (of_variable v c) (of_variable v 0))
  where
    by : (b : Bool) → AskPlain (cond b [] (equal (of_variable v c) (of_variable v 0)))
    by true = tt
    by false = equal_asks (of_variable v c) (of_variable v 0) refl refl
column_asks (of_node n c) = by (same_unknown (of_node n c) (of_node n 0))
  where
    by : (b : Bool) → AskPlain (cond b [] (equal (of_node n c) (of_node n 0)))
    by true = tt
    by false = equal_asks (of_node n c) (of_node n 0) refl refl
column_asks (balanced_of n) = subst (λ b. AskPlain (cond b [] (equal (balanced_of n) (balanced_of n)))) (sym (itself n)) tt
column_asks of_nothing = by (same_unknown of_nothing of_nothing)
  where
    by : (b : Bool) → AskPlain (cond b [] (equal of_nothing of_nothing))
    by true = tt
    by false = equal_asks of_nothing of_nothing refl refl

columns_ask : (us : List Unknown) → AskPlain (flat_map column_bounds us)
columns_ask [] = tt
columns_ask (u ∷ us) = all_both AsksPlain (column_bounds u) (flat_map column_bounds us) (column_asks u) (columns_ask us)

-- what a script asks of balanced copies is that they and others are up to each other
pub script_asks : (typed : Typed) → AskPlain (script_bounds typed)
unfolding script_bounds bounds_among constructs
script_asks typed =
    all_both AsksPlain (flat_map column_bounds (unknowns typed)) (flat_map bounds_of (constructs typed)) (columns_ask (unknowns typed))
    (construct_bounds (constructs typed) (block_fair (known_of typed) (block_of typed.script.body)))
