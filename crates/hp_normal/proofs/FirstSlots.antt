-- The first slots of values: those that are listed, and those of the values that are left.
use Rattle.std.proofs.Common.{◌≡◌, ℕ, ◌+◌, ◌<◌, ◌≤◌, List, [], ◌∷◌, ◌++◌, map, length, drop, get_or, Option, Some, refl, sym, ap, ◌∙◌, append_assoc}
use Rattle.std.proofs.lemmas.List.{drop_more, drop_all}
use Rattle.hp_script.specs.declared.typed.Shape.{Shape}
use Rattle.hp_script.specs.declared.typed.Var.{Var}
use Rattle.hp_air.specs.Unknowns.{width}
use Rattle.hp_normal.specs.HomesHeld.{firsts, var_widths, node_widths}

-- one more value
one_more : (all made new : List ℕ) (next last w : ℕ) (rest : List ℕ) → all ≡ made ++ firsts next (w ∷ rest) → last ≡ next + w → new ≡ made ++ next ∷ [] → all ≡ new ++ firsts last rest
unfolding firsts
one_more all made new next last w rest a l n =
    a ∙ sym (append_assoc made (next ∷ []) (firsts (next + w) rest)) ∙ ap (λ (k : ℕ). (made ++ next ∷ []) ++ firsts k rest) (sym l) ∙ ap (λ (t : List ℕ). t ++ firsts last rest) (sym n)

pub next_var : (all made new : List ℕ) (next last : ℕ) (vars : List Var) (i : ℕ) (var : Var) (rest : List ℕ) → i < length vars → var ≡ get_or vars i var
    → all ≡ made ++ firsts next (var_widths (drop i vars) ++ rest) → last ≡ next + width (Some var.shape) → new ≡ made ++ next ∷ []
    → all ≡ new ++ firsts last (var_widths (drop (i + 1) vars) ++ rest)
next_var all made new next last vars i var rest lt is a l n =
    let whole : drop i vars ≡ var ∷ drop (i + 1) vars = drop_more vars i var lt ∙ ap (λ (x : Var). x ∷ drop (i + 1) vars) (sym is) in
    one_more all made new next last (width (Some var.shape)) (var_widths (drop (i + 1) vars) ++ rest) (a ∙ ap (λ (vs : List Var). made ++ firsts next (var_widths vs ++ rest)) whole) l n

-- the variables are listed
pub past_vars : (all made : List ℕ) (next : ℕ) (vars : List Var) (i : ℕ) (shapes : List (Option Shape)) → length vars ≤ i
    → all ≡ made ++ firsts next (var_widths (drop i vars) ++ node_widths shapes) → all ≡ made ++ firsts next (node_widths shapes)
past_vars all made next vars i shapes past a = a ∙ ap (λ (vs : List Var). made ++ firsts next (var_widths vs ++ node_widths shapes)) (drop_all i vars past)

pub next_node : (all made new : List ℕ) (next last : ℕ) (shapes : List (Option Shape)) (i : ℕ) (found : Option Shape) → i < length shapes → found ≡ get_or shapes i found
    → all ≡ made ++ firsts next (node_widths (drop i shapes)) → last ≡ next + width found → new ≡ made ++ next ∷ [] → all ≡ new ++ firsts last (node_widths (drop (i + 1) shapes))
next_node all made new next last shapes i found lt is a l n =
    let whole : drop i shapes ≡ found ∷ drop (i + 1) shapes = drop_more shapes i found lt ∙ ap (λ (x : Option Shape). x ∷ drop (i + 1) shapes) (sym is) in
    one_more all made new next last (width found) (node_widths (drop (i + 1) shapes)) (a ∙ ap (λ (s : List (Option Shape)). made ++ firsts next (node_widths s)) whole) l n

-- all are listed
pub past_nodes : (all made new : List ℕ) (next : ℕ) (shapes : List (Option Shape)) (i : ℕ) → length shapes ≤ i
    → all ≡ made ++ firsts next (node_widths (drop i shapes)) → new ≡ made ++ next ∷ [] → new ≡ all
unfolding firsts
past_nodes all made new next shapes i past a n = n ∙ sym (a ∙ ap (λ (s : List (Option Shape)). made ++ firsts next (node_widths s)) (drop_all i shapes past))
