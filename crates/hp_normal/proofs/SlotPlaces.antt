-- The slots of a script's arrays: those of one value stand side by side, from the first slot of the value on.
use Rattle.std.proofs.Common.{◌≡◌, ◌≢◌, ◌<◌, ◌≤◌, ◌+◌, ◌==◌, ◌&&◌, ℕ, zero, suc, Bool, true, false, cond, List, [], ◌∷◌, ◌++◌, map, length, slice_index_or, Option, Some, None, refl, sym, ap, ◌∙◌, append_assoc, arith}
use Rattle.std.proofs.lemmas.List.FromFn.{length-map-range_with_len}
use Rattle.std.specs.Prelude.{not}
use Rattle.std.specs.List.{AllByRecursion, range_with_len, position_or_len}
use Rattle.hp_script.specs.declared.typed.Shape.{Shape}
use Rattle.hp_script.specs.declared.typed.Var.{Var}
use Rattle.hp_air.specs.Unknowns.{Unknown, of_variable, of_node, balanced_of, same_unknown, width, at_node, variables_from, nodes_from}
use Rattle.hp_flat.specs.Homes.{Homes, slot_of, slots_of}
use Rattle.hp_normal.specs.HomesHeld.{homes_with, firsts, var_widths, node_widths, widths}

-- ---- places in lists

-- items that do not pass are gone past
pub passes : {X : Type 0} (p : X → Bool) (xs ys : List X) → AllByRecursion (λ x. p x ≡ false) xs → position_or_len p (xs ++ ys) ≡ length xs + position_or_len p ys
passes p [] ys none = omega arith
passes p (x ∷ xs) ys none = rw none.0 (ap (λ (n : ℕ). 1 + n) (passes p xs ys none.1) ∙ omega arith)

-- ---- columns of one value

-- names of arrays of one value, by their columns
equal_twice : (n c : ℕ) → ((n == n) && (c == c)) ≡ true
equal_twice n c = grind arith

column_apart : (n b e : ℕ) → ((n == n) && ((b + suc e) == b)) ≡ false
column_apart n b e = grind arith

number_apart : (n k c b : ℕ) → n ≢ k → ((n == k) && (c == b)) ≡ false
number_apart n k c b apart = grind arith

-- a column stands at its place among those of its value
node_column : (n b w d : ℕ) (ys : List Unknown) → d < w → position_or_len (same_unknown (of_node n (b + d))) (map (of_node n) (range_with_len b w) ++ ys) ≡ d
unfolding same_unknown
node_column n b zero d ys less = absurd (omega (arith, less))
node_column n b (suc w) zero ys less =
    let first : b + 0 ≡ b = omega arith in
    rw (first, equal_twice n b) refl
node_column n b (suc w) (suc d) ys less =
    let next : b + suc d ≡ (b + 1) + d = omega arith in
    rw (column_apart n b d) (ap (λ (m : ℕ). 1 + m) (ap (λ (c : ℕ). position_or_len (same_unknown (of_node n c)) (map (of_node n) (range_with_len (b + 1) w) ++ ys)) next ∙ node_column n (b + 1) w d ys (omega (arith, less))) ∙ omega arith)

first_column : (n w d : ℕ) (ys : List Unknown) → d < w → position_or_len (same_unknown (of_node n d)) (map (of_node n) (range_with_len 0 w) ++ ys) ≡ d
first_column n w d ys less =
    let same : d ≡ 0 + d = omega arith in
    ap (λ (c : ℕ). position_or_len (same_unknown (of_node n c)) (map (of_node n) (range_with_len 0 w) ++ ys)) same ∙ node_column n 0 w d ys less

-- the columns of another value are gone past
node_apart : (m n c b w : ℕ) → m ≢ n → AllByRecursion (λ u. same_unknown (of_node m c) u ≡ false) (map (of_node n) (range_with_len b w))
unfolding same_unknown
node_apart m n c b zero apart = tt
node_apart m n c b (suc w) apart = (number_apart m n c b apart, node_apart m n c (b + 1) w apart)

-- ---- expressions

pub regrouped : (a b p q : ℕ) → (a + b) + p ≡ q → a + (b + p) ≡ q
regrouped a b p q e = omega (arith, e)

further : (n j : ℕ) → n + suc j ≢ n
further n j e = absurd (omega (arith, e))

-- the array of an expression stands behind those of the expressions before it
node_place : (n k c before : ℕ) (shapes : List (Option Shape)) (rest : List Unknown) → c < width (slice_index_or shapes k None)
    → before + position_or_len (same_unknown (of_node (n + k) c)) (nodes_from n shapes ++ rest) ≡ slice_index_or (firsts before (node_widths shapes)) k 0 + c
unfolding nodes_from firsts
node_place n k c before [] rest less = absurd (none_there k less)
  where
    none_there : (k : ℕ) → c < width (slice_index_or {A = Option Shape} [] k None) → ⊥
    none_there zero l = omega (arith, l)
    none_there (suc k) l = omega (arith, l)
node_place n zero c before (found ∷ shapes) rest less =
    let this : n + 0 ≡ n = omega arith in
    let nested = append_assoc (map (of_node n) (range_with_len 0 (width found))) (nodes_from (n + 1) shapes) rest in
    rw (this, nested) (ap (λ (m : ℕ). before + m) (first_column n (width found) c (nodes_from (n + 1) shapes ++ rest) less))
node_place n (suc k) c before (found ∷ shapes) rest less =
    let next : n + suc k ≡ (n + 1) + k = omega arith in
    let nested = append_assoc (map (of_node n) (range_with_len 0 (width found))) (nodes_from (n + 1) shapes) rest in
    let past = passes (same_unknown (of_node (n + suc k) c)) (map (of_node n) (range_with_len 0 (width found))) (nodes_from (n + 1) shapes ++ rest) (node_apart (n + suc k) n c 0 (width found) (further n k)) in
    let many = length-map-range_with_len (of_node n) 0 (width found) in
    let rest_of = node_place (n + 1) k c (before + width found) shapes rest less in
    ap (λ (l : List Unknown). before + position_or_len (same_unknown (of_node (n + suc k) c)) l) nested
    ∙ ap (λ (m : ℕ). before + m) past
    ∙ ap (λ (m : ℕ). before + (m + position_or_len (same_unknown (of_node (n + suc k) c)) (nodes_from (n + 1) shapes ++ rest))) many
    ∙ ap (λ (i : ℕ). before + (width found + position_or_len (same_unknown (of_node i c)) (nodes_from (n + 1) shapes ++ rest))) next
    ∙ regrouped before (width found) _ _ rest_of

-- ---- variables

var_column : (n b w d : ℕ) (ys : List Unknown) → d < w → position_or_len (same_unknown (of_variable n (b + d))) (map (of_variable n) (range_with_len b w) ++ ys) ≡ d
unfolding same_unknown
var_column n b zero d ys less = absurd (omega (arith, less))
var_column n b (suc w) zero ys less =
    let first : b + 0 ≡ b = omega arith in
    rw (first, equal_twice n b) refl
var_column n b (suc w) (suc d) ys less =
    let next : b + suc d ≡ (b + 1) + d = omega arith in
    rw (column_apart n b d) (ap (λ (m : ℕ). 1 + m) (ap (λ (c : ℕ). position_or_len (same_unknown (of_variable n c)) (map (of_variable n) (range_with_len (b + 1) w) ++ ys)) next ∙ var_column n (b + 1) w d ys (omega (arith, less))) ∙ omega arith)

first_var_column : (n w d : ℕ) (ys : List Unknown) → d < w → position_or_len (same_unknown (of_variable n d)) (map (of_variable n) (range_with_len 0 w) ++ ys) ≡ d
first_var_column n w d ys less =
    let same : d ≡ 0 + d = omega arith in
    ap (λ (c : ℕ). position_or_len (same_unknown (of_variable n c)) (map (of_variable n) (range_with_len 0 w) ++ ys)) same ∙ var_column n 0 w d ys less

var_apart : (m n c b w : ℕ) → m ≢ n → AllByRecursion (λ u. same_unknown (of_variable m c) u ≡ false) (map (of_variable n) (range_with_len b w))
unfolding same_unknown
var_apart m n c b zero apart = tt
var_apart m n c b (suc w) apart = (number_apart m n c b apart, var_apart m n c (b + 1) w apart)

-- a variable's array is none of an expression
node_no_var : (k c n b w : ℕ) → AllByRecursion (λ u. same_unknown (of_node k c) u ≡ false) (map (of_variable n) (range_with_len b w))
unfolding same_unknown
node_no_var k c n b zero = tt
node_no_var k c n b (suc w) = (refl, node_no_var k c n (b + 1) w)

abbrev pub shape_among : List Var → ℕ → Option Shape
shape_among [] j = None
shape_among (var ∷ vars) zero = Some var.shape
shape_among (var ∷ vars) (suc j) = shape_among vars j

-- the array of a variable stands behind those of the variables before it
var_place : (n j c before : ℕ) (vars : List Var) (behind : List ℕ) (rest : List Unknown) → c < width (shape_among vars j)
    → before + position_or_len (same_unknown (of_variable (n + j) c)) (variables_from n vars ++ rest) ≡ slice_index_or (firsts before (var_widths vars ++ behind)) j 0 + c
unfolding variables_from firsts
var_place n j c before [] behind rest less = absurd (omega (arith, less))
var_place n zero c before (var ∷ vars) behind rest less =
    let this : n + 0 ≡ n = omega arith in
    let nested = append_assoc (map (of_variable n) (range_with_len 0 (width (Some var.shape)))) (variables_from (n + 1) vars) rest in
    rw (this, nested) (ap (λ (m : ℕ). before + m) (first_var_column n (width (Some var.shape)) c (variables_from (n + 1) vars ++ rest) less))
var_place n (suc j) c before (var ∷ vars) behind rest less =
    let w = width (Some var.shape) in
    let next : n + suc j ≡ (n + 1) + j = omega arith in
    let nested = append_assoc (map (of_variable n) (range_with_len 0 w)) (variables_from (n + 1) vars) rest in
    let past = passes (same_unknown (of_variable (n + suc j) c)) (map (of_variable n) (range_with_len 0 w)) (variables_from (n + 1) vars ++ rest) (var_apart (n + suc j) n c 0 w (further n j)) in
    let many = length-map-range_with_len (of_variable n) 0 w in
    let rest_of = var_place (n + 1) j c (before + w) vars behind rest less in
    ap (λ (l : List Unknown). before + position_or_len (same_unknown (of_variable (n + suc j) c)) l) nested
    ∙ ap (λ (m : ℕ). before + m) past
    ∙ ap (λ (m : ℕ). before + (m + position_or_len (same_unknown (of_variable (n + suc j) c)) (variables_from (n + 1) vars ++ rest))) many
    ∙ ap (λ (i : ℕ). before + (w + position_or_len (same_unknown (of_variable i c)) (variables_from (n + 1) vars ++ rest))) next
    ∙ regrouped before w _ _ rest_of

-- the array of an expression stands behind those of all variables
behind_vars : (n k c before : ℕ) (vars : List Var) (shapes : List (Option Shape)) (rest : List Unknown) → c < width (slice_index_or shapes k None)
    → before + position_or_len (same_unknown (of_node k c)) (variables_from n vars ++ (nodes_from 0 shapes ++ rest)) ≡ slice_index_or (firsts before (var_widths vars ++ node_widths shapes)) (length vars + k) 0 + c
unfolding variables_from firsts
behind_vars n k c before [] shapes rest less =
    let same : k ≡ 0 + k = omega arith in
    ap (λ (i : ℕ). before + position_or_len (same_unknown (of_node i c)) (nodes_from 0 shapes ++ rest)) same ∙ node_place 0 k c before shapes rest less
    ∙ ap (λ (i : ℕ). slice_index_or (firsts before (node_widths shapes)) i 0 + c) same
behind_vars n k c before (var ∷ vars) shapes rest less =
    let w = width (Some var.shape) in
    let nested = append_assoc (map (of_variable n) (range_with_len 0 w)) (variables_from (n + 1) vars) (nodes_from 0 shapes ++ rest) in
    let past = passes (same_unknown (of_node k c)) (map (of_variable n) (range_with_len 0 w)) (variables_from (n + 1) vars ++ (nodes_from 0 shapes ++ rest)) (node_no_var k c n 0 w) in
    let many = length-map-range_with_len (of_variable n) 0 w in
    let rest_of = behind_vars (n + 1) k c (before + w) vars shapes rest less in
    let place : suc (length vars + k) ≡ length (var ∷ vars) + k = omega arith in
    ap (λ (l : List Unknown). before + position_or_len (same_unknown (of_node k c)) l) nested
    ∙ ap (λ (m : ℕ). before + m) past
    ∙ ap (λ (m : ℕ). before + (m + position_or_len (same_unknown (of_node k c)) (variables_from (n + 1) vars ++ (nodes_from 0 shapes ++ rest)))) many
    ∙ regrouped before w _ _ rest_of
    ∙ ap (λ (i : ℕ). slice_index_or (firsts before (var_widths (var ∷ vars) ++ node_widths shapes)) i 0 + c) place

-- ---- values

-- names of arrays whose slots follow each other
side_by_side : (slot : Unknown → ℕ) (f : ℕ → Unknown) (first b w : ℕ) → ((c : ℕ) → c < b + w → slot (f c) ≡ first + c) → map slot (map f (range_with_len b w)) ≡ range_with_len (first + b) w
side_by_side slot f first b zero each = refl
side_by_side slot f first b (suc w) each =
    let next : (first + b) + 1 ≡ first + (b + 1) = omega arith in
    let this : slot (f b) ≡ first + b = each b (omega arith) in
    let rest = side_by_side slot f first (b + 1) w (λ c less. each c (omega (arith, less))) in
    rw this (ap (λ (l : List ℕ). (first + b) ∷ l) (rest ∙ ap (λ (n : ℕ). range_with_len n w) (sym next)))

from_first : (first w : ℕ) → range_with_len (first + 0) w ≡ range_with_len first w
from_first first w = ap (λ (n : ℕ). range_with_len n w) (omega arith)

-- the slots of the value of an expression
pub node_slots : (shapes : List (Option Shape)) (vars : List Var) (reads copies : List ℕ) (k : ℕ)
    → slots_of (homes_with shapes vars reads copies) (at_node (record { shapes = shapes; vars = vars }) k) ≡ range_with_len (slice_index_or (firsts 0 (widths shapes vars)) (length vars + k) 0) (width (slice_index_or shapes k None))
unfolding slot_of
node_slots shapes vars reads copies k =
    let h = homes_with shapes vars reads copies in
    let first = slice_index_or (firsts 0 (widths shapes vars)) (length vars + k) 0 in
    let w = width (slice_index_or shapes k None) in
    side_by_side (slot_of h) (of_node k) first 0 w (λ c less. omega (arith, behind_vars 0 k c 0 vars shapes (map balanced_of copies) (omega (arith, less)))) ∙ from_first first w

-- a variable's array by its number
var_at : (shapes : List (Option Shape)) (vars : List Var) (copies : List ℕ) (v c : ℕ) → c < width (shape_among vars v)
    → position_or_len (same_unknown (of_variable v c)) (variables_from 0 vars ++ (nodes_from 0 shapes ++ map balanced_of copies)) ≡ slice_index_or (firsts 0 (widths shapes vars)) v 0 + c
var_at shapes vars copies v c less =
    let same : v ≡ 0 + v = omega arith in
    let found = var_place 0 v c 0 vars (node_widths shapes) (nodes_from 0 shapes ++ map balanced_of copies) less in
    ap (λ (i : ℕ). position_or_len (same_unknown (of_variable i c)) (variables_from 0 vars ++ (nodes_from 0 shapes ++ map balanced_of copies))) same ∙ omega (arith, found)

-- the slots of a variable
pub var_slots : (shapes : List (Option Shape)) (vars : List Var) (reads copies : List ℕ) (v : ℕ)
    → slots_of (homes_with shapes vars reads copies) (map (of_variable v) (range_with_len 0 (width (shape_among vars v)))) ≡ range_with_len (slice_index_or (firsts 0 (widths shapes vars)) v 0) (width (shape_among vars v))
unfolding slot_of
var_slots shapes vars reads copies v =
    let h = homes_with shapes vars reads copies in
    let first = slice_index_or (firsts 0 (widths shapes vars)) v 0 in
    let w = width (shape_among vars v) in
    side_by_side (slot_of h) (of_variable v) first 0 w (λ c less. var_at shapes vars copies v c (omega (arith, less))) ∙ from_first first w
