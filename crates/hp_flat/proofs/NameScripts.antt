-- How many names the slots, words and lists of a script's program have: fewer than 2^30.
use Rattle.std.proofs.Common.{◌≡◌, ℕ, zero, suc, ◌+◌, ◌*◌, ◌≤◌, ◌<◌, ◌^◌, List, [], ◌∷◌, ◌++◌, map, length, slice_get, option_map, option_and_then, Option, Some, None, IsTrue, sym, ap, ◌∙◌, arith}
use Rattle.std.proofs.lemmas.Bool.{and_parts}
use Rattle.std.proofs.lemmas.List.{length-append, length-map}
use Rattle.std.proofs.lemmas.List.FromFn.{length-range_with_len}
use Rattle.std.proofs.Math.Nat.{suc-mul}
use Rattle.std.specs.Prelude.{slice_index_or}
use Rattle.std.specs.List.{list_all, range_with_len}
use Rattle.hp_script.specs.declared.typed.Shape.{Shape}
use Rattle.hp_script.specs.declared.typed.Shape.TheVariants as shape
use Rattle.hp_script.specs.declared.typed.Typed.{Typed}
use Rattle.hp_script.specs.declared.typed.Var.{Var}
use Rattle.hp_script.specs.Checked.{start_of}
use Rattle.hp_script.specs.Fitting.{FitsBlock, fits_done, fits_first, fits_again, fits_print, fits_export, fits_if, fits_while}
use Rattle.hp_script.specs.Mirror.{Tree, Block, number, truth, text, variable, column, field, unary, binary, index, call, block_of}
use Rattle.hp_script.specs.Nodes.{nodes_in, nodes_of}
use Rattle.hp_script.specs.Scope.{Scope, variables_with, shape_among}
use Rattle.hp_script.specs.Shapes.{is_narrow, is_narrow_entry}
use Rattle.hp_script.specs.Trees as trees
use Rattle.hp_script.proofs.TestLemmas.{true_le}
use Rattle.hp_script.proofs.TypingLaws.{sound}
use Rattle.hp_air.specs.Kept.{items_in, names_of}
use Rattle.hp_air.specs.Unknowns.{Unknown, of_node, of_variable, known_of, at_variable, variable_named, width, variables_from, nodes_from, constructs_of}
use Rattle.hp_flat.specs.Flat.{flat_block, flat_script}
use Rattle.hp_flat.specs.Homes.{homes_in, homes_of, slot_for, slots_in, words_in}
use Rattle.hp_flat.specs.KeptLaws.{HaveFewNames}
use Rattle.hp_flat.proofs.Heft.{heft_sums}
use Rattle.hp_flat.proofs.NameCode.{names}
use Rattle.hp_flat.proofs.NameTrees.{few_items}
use Rattle.hp_flat.proofs.SmallScripts.{few_nodes}
use Rattle.hp_flat.proofs.StencilCopies.{Copies, copies, block_copies}

-- ---- widths

narrow_width : (a : Shape) → IsTrue (is_narrow a) → width (Some a) ≤ 1024
narrow_width (shape.Frame names) narrow = true_le (length names) 1024 narrow
narrow_width shape.Int narrow = omega arith
narrow_width shape.Bool narrow = omega arith
narrow_width shape.Ints narrow = omega arith
narrow_width shape.Bools narrow = omega arith
narrow_width shape.Matrix narrow = omega arith

entry_width : (found : Option Shape) → IsTrue (is_narrow_entry found) → width found ≤ 1024
entry_width (Some a) narrow = narrow_width a narrow
entry_width None narrow = omega arith

value_width : (shapes : List (Option Shape)) (k : ℕ) → IsTrue (list_all is_narrow_entry shapes) → width (slice_index_or shapes k None) ≤ 1024
value_width [] zero narrow = omega arith
value_width [] (suc k) narrow = omega arith
value_width (found ∷ shapes) zero narrow = entry_width found (and_parts (is_narrow_entry found) (list_all is_narrow_entry shapes) narrow).0
value_width (found ∷ shapes) (suc k) narrow = value_width shapes k (and_parts (is_narrow_entry found) (list_all is_narrow_entry shapes) narrow).1

place_width : (vars : List Var) (k : ℕ) → IsTrue (list_all (λ (var : Var). is_narrow var.shape) vars) → width (option_map (λ (var : Var). var.shape) (slice_get vars k)) ≤ 1024
place_width [] zero narrow = omega arith
place_width [] (suc k) narrow = omega arith
place_width (var ∷ vars) zero narrow = narrow_width var.shape (and_parts (is_narrow var.shape) (list_all (λ (v : Var). is_narrow v.shape) vars) narrow).0
place_width (var ∷ vars) (suc k) narrow = place_width vars k (and_parts (is_narrow var.shape) (list_all (λ (v : Var). is_narrow v.shape) vars) narrow).1

made_many : (made : ℕ → Unknown) (w : ℕ) → length (map made (range_with_len 0 w)) ≡ w
made_many made w = length-map (range_with_len 0 w) made ∙ length-range_with_len 0 w

named_width : (vars : List Var) (place : Option ℕ) → IsTrue (list_all (λ (var : Var). is_narrow var.shape) vars)
    → length (at_variable place (option_and_then (λ k. option_map (λ (var : Var). var.shape) (slice_get vars k)) place)) ≤ 1024
named_width vars None narrow = omega arith
named_width vars (Some k) narrow = omega (arith, made_many (of_variable k) (width (option_map (λ (var : Var). var.shape) (slice_get vars k))), place_width vars k narrow)

-- ---- slots

variables_many : (n : ℕ) (vars : List Var) → IsTrue (list_all (λ (var : Var). is_narrow var.shape) vars) → length (variables_from n vars) ≤ length vars * 1024
unfolding variables_from
variables_many n [] narrow = omega arith
variables_many n (var ∷ vars) narrow =
    let parts = and_parts (is_narrow var.shape) (list_all (λ (v : Var). is_narrow v.shape) vars) narrow in
    omega (
      arith,
      length-append (map (of_variable n) (range_with_len 0 (width (Some var.shape)))) (variables_from (n + 1) vars),
      made_many (of_variable n) (width (Some var.shape)),
      narrow_width var.shape parts.0,
      variables_many (n + 1) vars parts.1,
      suc-mul (length vars) 1024,
    )

nodes_many : (n : ℕ) (shapes : List (Option Shape)) → IsTrue (list_all is_narrow_entry shapes) → length (nodes_from n shapes) ≤ length shapes * 1024
unfolding nodes_from
nodes_many n [] narrow = omega arith
nodes_many n (found ∷ shapes) narrow =
    let parts = and_parts (is_narrow_entry found) (list_all is_narrow_entry shapes) narrow in
    omega (
      arith,
      length-append (map (of_node n) (range_with_len 0 (width found))) (nodes_from (n + 1) shapes),
      made_many (of_node n) (width found),
      entry_width found parts.0,
      nodes_many (n + 1) shapes parts.1,
      suc-mul (length shapes) 1024,
    )

-- ---- variables

some_nodes : (x : Tree) → 1 ≤ length (nodes_in x)
some_nodes (number n z) = omega arith
some_nodes (truth n holds) = omega arith
some_nodes (text n bytes) = omega arith
some_nodes (variable n x) = omega arith
some_nodes (column n c) = omega arith
some_nodes (field n d c) = omega arith
some_nodes (unary n op dotted x) = omega arith
some_nodes (binary n op dotted x y) = omega (arith, length-append (nodes_in x) (n.id ∷ nodes_in y))
some_nodes (index n x i) = omega (arith, length-append (nodes_in x) (n.id ∷ nodes_in i))
some_nodes (call n f dotted xs) = omega arith

one_variable : (first : Option Shape) (vars : List Var) (x : List ℕ) (a : Shape) → length (variables_with first vars x a) ≤ length vars + 1
one_variable (Some found) vars x a = omega arith
one_variable None vars x a = omega (arith, length-append vars (record { name = trees.named x; shape = a } ∷ []))

few_variables : {s : Scope} {b : Block} {t : Scope} → FitsBlock s b t → length t.vars ≤ length s.vars + length (nodes_of b)
unfolding nodes_of
few_variables fits_done = omega arith
few_variables {s = s} (fits_first {x = x} {e = e} {rest = rest} {a = a} p new next) =
    omega (arith, few_variables next, one_variable (shape_among s.vars x) s.vars x a, some_nodes e, length-append (nodes_in e) (nodes_of rest))
few_variables {s = s} (fits_again {x = x} {e = e} {rest = rest} {a = a} p same next) =
    omega (arith, few_variables next, one_variable (shape_among s.vars x) s.vars x a, some_nodes e, length-append (nodes_in e) (nodes_of rest))
few_variables (fits_print {e = e} {rest = rest} p can next) = omega (arith, few_variables next, length-append (nodes_in e) (nodes_of rest))
few_variables (fits_export {d = e} {rest = rest} p next) = omega (arith, few_variables next, length-append (nodes_in e) (nodes_of rest))
few_variables (fits_if {c = e} {body = body} {other = other} {rest = rest} p taken passed next) =
    omega (
      arith,
      few_variables taken,
      few_variables passed,
      few_variables next,
      length-append ((nodes_in e ++ nodes_of body) ++ nodes_of other) (nodes_of rest),
      length-append (nodes_in e ++ nodes_of body) (nodes_of other),
      length-append (nodes_in e) (nodes_of body),
    )
few_variables (fits_while {c = e} {body = body} {rest = rest} p turn next) =
    omega (arith, few_variables turn, few_variables next, length-append (nodes_in e ++ nodes_of body) (nodes_of rest), length-append (nodes_in e) (nodes_of body))

-- ---- scripts

within : (slots copied vars nodes items most : ℕ) → slots ≤ vars * 1024 + nodes * 1024 + copied → copied ≤ nodes → vars ≤ nodes → items ≤ nodes * 5120 → nodes ≤ 65536 → 536870912 < most → slots + (vars + nodes) + items < most
within slots copied vars nodes items most a b c d e f = omega (arith, a, b, c, d, e, f)

script_names : (typed : Typed) → (behind : Scope) → FitsBlock (start_of (block_of typed.script.body)) (block_of typed.script.body) behind → typed.vars ≡ behind.vars
    → names_of (slots_in (homes_of typed)) (words_in (homes_of typed)) (flat_script typed) < 2 ^ 30
unfolding flat_script names_of homes_of homes_in slots_in words_in
script_names typed behind fits same =
    let body = block_of typed.script.body in
    let h = homes_of typed in
    let cs = constructs_of (known_of typed) body in
    let own : Copies (copies cs) (nodes_of body) = block_copies (known_of typed) body in
    let copied = own.fewer in
    let narrow_vars = typed.narrow_vars in
    let narrow_shapes = typed.narrow_shapes in
    let slots : length (slots_in h) ≡ (length (variables_from 0 typed.vars) + length (nodes_from 0 typed.shapes)) + length (copies cs) =
    length-map h.arrays (slot_for h.known) ∙ length-append (variables_from 0 typed.vars ++ nodes_from 0 typed.shapes) (copies cs) ∙ ap (λ (n : ℕ). n + length (copies cs)) (length-append (variables_from 0 typed.vars) (nodes_from 0 typed.shapes)) in
    let numbers : length (nodes_of body) ≡ length typed.shapes = ap length typed.script.numbered ∙ length-range_with_len 0 typed.script.nodes ∙ sym typed.one_each in
    let vars : length typed.vars ≡ length behind.vars = ap (λ (vs : List Var). length vs) same in
    let items : names (flat_block h body) ≤ length (nodes_of body) * (5 * 1024) =
    few_items h 1024 (omega arith) (λ k. value_width typed.shapes k narrow_shapes) (λ x. named_width typed.vars (variable_named (known_of typed) x) narrow_vars) body in
    within _ (length (copies cs)) (length typed.vars) (length typed.shapes) _ (2 ^ 30)
    (omega (arith, slots, variables_many 0 typed.vars narrow_vars, nodes_many 0 typed.shapes narrow_shapes)) (omega (arith, copied, numbers)) (omega (arith, few_variables fits, vars, numbers))
    (omega (arith, heft_sums items_in (flat_block h body), items, numbers)) (omega (arith, few_nodes typed, numbers)) (omega arith)

pub have_few_names : HaveFewNames
have_few_names typed checked =
    let fit = sound typed checked in
    script_names typed fit.behind fit.fits fit.vars
