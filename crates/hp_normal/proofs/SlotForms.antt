-- The slots of a script value after value are those of its arrays.
use Rattle.std.proofs.Common.{◌≡◌, ℕ, ◌+◌, ◌<◌, zero, suc, List, [], ◌∷◌, ◌++◌, map, length, take, get_or, slice_index_or, Option, Some, None, refl, sym, ap, ◌∙◌, append_assoc, append-nil, arith}
use Rattle.std.proofs.lemmas.List.{map-append, take_more, length-take-le}
use Rattle.std.proofs.lemmas.List.FromFn.{map-range_with_len_more}
use Rattle.std.specs.Prelude.{slice_get}
use Rattle.std.specs.List.{range_with_len}
use Rattle.std.specs.Option.{option_map}
use Rattle.hp_script.specs.declared.typed.Shape.{Shape}
use Rattle.hp_script.specs.declared.typed.Var.{Var}
use Rattle.hp_air.specs.declared.slot.Slot.{Slot}
use Rattle.hp_air.specs.Frames.{node_slot, var_slot, balanced_slot}
use Rattle.hp_air.specs.Unknowns.{Unknown, of_variable, of_node, balanced_of, Known, width, variables_from, nodes_from}
use Rattle.hp_flat.specs.Homes.{slot_for, slots_in, is_matrix}
use Rattle.hp_normal.specs.HomesHeld.{homes_with}
use Rattle.hp_normal.specs.SlotsHeld.{columns_for, var_slots, node_slots}

columns_are : (g : Known) (array : ℕ → Unknown) (slot : ℕ → Slot) (a w : ℕ) → ((c : ℕ) → slot_for g (array c) ≡ slot c) → map (slot_for g) (map array (range_with_len a w)) ≡ map slot (range_with_len a w)
columns_are g array slot a zero each = refl
columns_are g array slot a (suc w) each = rw (each a) (ap (λ (l : List Slot). slot a ∷ l) (columns_are g array slot (a + 1) w each))

-- ---- variables

get_behind : (before : List Var) (var : Var) (vars : List Var) → slice_get (before ++ var ∷ vars) (length before) ≡ Some var
get_behind [] var vars = refl
get_behind (x ∷ before) var vars = get_behind before var vars

vars_are : (shapes : List (Option Shape)) (before vars : List Var) (n : ℕ) → length before ≡ n
    → map (slot_for (record { shapes = shapes; vars = before ++ vars })) (variables_from n vars) ≡ var_slots n vars
unfolding variables_from var_slots slot_for
vars_are shapes before [] n long = refl
vars_are shapes before (var ∷ vars) n long =
    let g : Known = record { shapes = shapes; vars = before ++ var ∷ vars } in
    let w = width (Some var.shape) in
    let here : slice_get (before ++ var ∷ vars) n ≡ Some var = ap (λ (k : ℕ). slice_get (before ++ var ∷ vars) k) (sym long) ∙ get_behind before var vars in
    let this = columns_are g (of_variable n) (λ c. record (var_slot n c) { matrix = is_matrix (Some var.shape) }) 0 w
    (λ c. ap (λ (o : Option Var). record (var_slot n c) { matrix = is_matrix (option_map (λ v. v.shape) o) }) here) in
    let nested : (before ++ var ∷ []) ++ vars ≡ before ++ var ∷ vars = append_assoc before (var ∷ []) vars in
    let more : length (before ++ var ∷ []) ≡ n + 1 = one_longer before var n long in
    let next : map (slot_for (record { shapes = shapes; vars = (before ++ var ∷ []) ++ vars })) (variables_from (n + 1) vars) ≡ var_slots (n + 1) vars = vars_are shapes (before ++ var ∷ []) vars (n + 1) more in
    let rest : map (slot_for g) (variables_from (n + 1) vars) ≡ var_slots (n + 1) vars = rw nested at next in
    map-append (slot_for g) (map (of_variable n) (range_with_len 0 w)) (variables_from (n + 1) vars) ∙ rw (this, rest) refl
  where
    one_longer : (before : List Var) (var : Var) (n : ℕ) → length before ≡ n → length (before ++ var ∷ []) ≡ n + 1
    one_longer [] var n long = omega (arith, long)
    one_longer (x ∷ before) var zero long = absurd cc
    one_longer (x ∷ before) var (suc n) long = ap suc (one_longer before var n (omega (arith, long))) ∙ omega arith

-- ---- expressions

shape_behind : (before : List (Option Shape)) (found : Option Shape) (shapes : List (Option Shape)) → slice_index_or (before ++ found ∷ shapes) (length before) None ≡ found
shape_behind [] found shapes = refl
shape_behind (x ∷ before) found shapes = shape_behind before found shapes

nodes_are : (vars : List Var) (before shapes : List (Option Shape)) (n : ℕ) → length before ≡ n
    → map (slot_for (record { shapes = before ++ shapes; vars = vars })) (nodes_from n shapes) ≡ node_slots n shapes
unfolding nodes_from node_slots slot_for
nodes_are vars before [] n long = refl
nodes_are vars before (found ∷ shapes) n long =
    let g : Known = record { shapes = before ++ found ∷ shapes; vars = vars } in
    let w = width found in
    let here : slice_index_or (before ++ found ∷ shapes) n None ≡ found = ap (λ (k : ℕ). slice_index_or (before ++ found ∷ shapes) k None) (sym long) ∙ shape_behind before found shapes in
    let this = columns_are g (of_node n) (λ c. record (node_slot n c) { matrix = is_matrix found }) 0 w
    (λ c. ap (λ (o : Option Shape). record (node_slot n c) { matrix = is_matrix o }) here) in
    let nested : (before ++ found ∷ []) ++ shapes ≡ before ++ found ∷ shapes = append_assoc before (found ∷ []) shapes in
    let more : length (before ++ found ∷ []) ≡ n + 1 = one_longer before found n long in
    let next : map (slot_for (record { shapes = (before ++ found ∷ []) ++ shapes; vars = vars })) (nodes_from (n + 1) shapes) ≡ node_slots (n + 1) shapes = nodes_are vars (before ++ found ∷ []) shapes (n + 1) more in
    let rest : map (slot_for g) (nodes_from (n + 1) shapes) ≡ node_slots (n + 1) shapes = rw nested at next in
    map-append (slot_for g) (map (of_node n) (range_with_len 0 w)) (nodes_from (n + 1) shapes) ∙ rw (this, rest) refl
  where
    one_longer : (before : List (Option Shape)) (found : Option Shape) (n : ℕ) → length before ≡ n → length (before ++ found ∷ []) ≡ n + 1
    one_longer [] found n long = omega (arith, long)
    one_longer (x ∷ before) found zero long = absurd cc
    one_longer (x ∷ before) found (suc n) long = ap suc (one_longer before found n (omega (arith, long))) ∙ omega arith

copies_are : (g : Known) (copies : List ℕ) → map (slot_for g) (map balanced_of copies) ≡ map balanced_slot copies
unfolding slot_for
copies_are g [] = refl
copies_are g (k ∷ copies) = ap (λ (l : List Slot). balanced_slot k ∷ l) (copies_are g copies)

-- the slots of a script
pub all_slots : (shapes : List (Option Shape)) (vars : List Var) (reads copies : List ℕ)
    → slots_in (homes_with shapes vars reads copies) ≡ (var_slots 0 vars ++ node_slots 0 shapes) ++ map balanced_slot copies
unfolding slots_in
all_slots shapes vars reads copies =
    let g : Known = record { shapes = shapes; vars = vars } in
    map-append (slot_for g) (variables_from 0 vars) (nodes_from 0 shapes ++ map balanced_of copies)
    ∙ ap (λ (l : List Slot). map (slot_for g) (variables_from 0 vars) ++ l) (map-append (slot_for g) (nodes_from 0 shapes) (map balanced_of copies))
    ∙ rw (vars_are shapes [] vars 0 refl, nodes_are vars [] shapes 0 refl, copies_are g copies) (sym (append_assoc (var_slots 0 vars) (node_slots 0 shapes) (map balanced_slot copies)))

-- ---- one more column

pub next_column : (old mid new : List Slot) (slot : ℕ → Slot) (i : ℕ) → mid ≡ old ++ map slot (range_with_len 0 i) → new ≡ mid ++ slot i ∷ [] → new ≡ old ++ map slot (range_with_len 0 (i + 1))
next_column old mid new slot i m n =
    n ∙ ap (λ (l : List Slot). l ++ slot i ∷ []) m ∙ append_assoc old (map slot (range_with_len 0 i)) (slot i ∷ []) ∙ ap (λ (l : List Slot). old ++ l) (sym (map-range_with_len_more slot 0 i i (omega arith)))

-- ---- one more value

further : (n m : ℕ) → (n + 1) + m ≡ n + suc m
further n m = omega arith

vars_last : (n : ℕ) (vars : List Var) (var : Var) → var_slots n (vars ++ var ∷ []) ≡ var_slots n vars ++ columns_for (var_slot (n + length vars) 0) (Some var.shape)
unfolding var_slots
vars_last n [] var = append-nil _ ∙ ap (λ (k : ℕ). columns_for (var_slot k 0) (Some var.shape)) (omega arith)
vars_last n (x ∷ vars) var =
    ap (λ (l : List Slot). columns_for (var_slot n 0) (Some x.shape) ++ l) (vars_last (n + 1) vars var ∙ ap (λ (k : ℕ). var_slots (n + 1) vars ++ columns_for (var_slot k 0) (Some var.shape)) (further n (length vars)))
    ∙ sym (append_assoc (columns_for (var_slot n 0) (Some x.shape)) (var_slots (n + 1) vars) _)

pub next_var : (old mid new : List Slot) (vars : List Var) (i : ℕ) (var : Var) → i < length vars → var ≡ get_or vars i var
    → mid ≡ old ++ var_slots 0 (take i vars) → new ≡ mid ++ columns_for (var_slot i 0) (Some var.shape) → new ≡ old ++ var_slots 0 (take (i + 1) vars)
next_var old mid new vars i var lt is m n =
    let whole : take (i + 1) vars ≡ take i vars ++ var ∷ [] = take_more vars i var lt ∙ ap (λ (x : Var). take i vars ++ x ∷ []) (sym is) in
    let long : 0 + length (take i vars) ≡ i = omega (arith, length-take-le i vars (omega (arith, lt))) in
    let last = vars_last 0 (take i vars) var ∙ ap (λ (k : ℕ). var_slots 0 (take i vars) ++ columns_for (var_slot k 0) (Some var.shape)) long in
    rw (n, m, whole, last) (append_assoc old _ _)

nodes_last : (n : ℕ) (shapes : List (Option Shape)) (found : Option Shape) → node_slots n (shapes ++ found ∷ []) ≡ node_slots n shapes ++ columns_for (node_slot (n + length shapes) 0) found
unfolding node_slots
nodes_last n [] found = append-nil _ ∙ ap (λ (k : ℕ). columns_for (node_slot k 0) found) (omega arith)
nodes_last n (x ∷ shapes) found =
    ap (λ (l : List Slot). columns_for (node_slot n 0) x ++ l) (nodes_last (n + 1) shapes found ∙ ap (λ (k : ℕ). node_slots (n + 1) shapes ++ columns_for (node_slot k 0) found) (further n (length shapes)))
    ∙ sym (append_assoc (columns_for (node_slot n 0) x) (node_slots (n + 1) shapes) _)

pub next_node : (old mid new : List Slot) (shapes : List (Option Shape)) (i : ℕ) (found : Option Shape) → i < length shapes → found ≡ get_or shapes i found
    → mid ≡ old ++ node_slots 0 (take i shapes) → new ≡ mid ++ columns_for (node_slot i 0) found → new ≡ old ++ node_slots 0 (take (i + 1) shapes)
next_node old mid new shapes i found lt is m n =
    let whole : take (i + 1) shapes ≡ take i shapes ++ found ∷ [] = take_more shapes i found lt ∙ ap (λ (x : Option Shape). take i shapes ++ x ∷ []) (sym is) in
    let long : 0 + length (take i shapes) ≡ i = omega (arith, length-take-le i shapes (omega (arith, lt))) in
    let last = nodes_last 0 (take i shapes) found ∙ ap (λ (k : ℕ). node_slots 0 (take i shapes) ++ columns_for (node_slot k 0) found) long in
    rw (n, m, whole, last) (append_assoc old _ _)
