-- The key is pushed, then the columns before it and those behind it.
use Rattle.std.proofs.Common.{◌+◌, ◌-◌, ◌++◌, length, ◌∙◌, ap, map, take, drop, List, [], ◌∷◌, ℤ, Bor, Vec, Global}
use Rattle.hp_kernels.proofs.SortLemmas.{key_is_first}
use Rattle.hp_kernels.proofs.sorting.key_first.Goals as goal

pub returns : goal.returns
returns c =
    let columns = c.args.columns.now in
    let key = c.args.key in
    let now : Bor (List ℤ) → List ℤ = λ cells. cells.now in
    let items : Vec ℤ Global → List ℤ = λ cells. cells.items in
    let pushed = ap (map now) (c.in_ok-push.ensures.items ∙ ap (λ (l : List (Bor (List ℤ))). l ++ c.as_slice.result ∷ []) c.new-made.ensures.items)
    ∙ ap (λ (cells : List ℤ). cells ∷ []) (c.as_slice.ensures.value ∙ ap items c.index-columns-key.is) in
    c.in_ok-add_columns-2.ensures
    ∙ ap (λ (l : List (List ℤ)). l ++ map items (take (length columns - (key + 1)) (drop (key + 1) columns))) (c.in_ok-add_columns.ensures ∙ ap (λ (l : List (List ℤ)). l ++ map items (take key columns)) pushed)
    ∙ key_is_first items columns key c.index-columns-key.result c.requires
