-- Cells that are counted, and ranks that are made, one after the other.
use Rattle.std.proofs.Common.{◌≡◌, ◌∙◌, sym, subst, ap, arith, ℕ, ◌+◌, ◌<◌, ◌≤◌, List, [], ◌∷◌, ◌++◌, drop, get_or, length, length-append, map}
use Rattle.std.specs.Prelude.{min}
use Rattle.std.specs.List.{flat_map, range_with_len}
use Rattle.std.proofs.lemmas.List.{drop_more, drop_all, map-append}
use Rattle.std.proofs.lemmas.List.FromFn.{map-range_with_len_more}
use Rattle.hp_network.specs.Network.{most}
use Rattle.hp_rank.specs.declared.rank.Rank.{Rank}
use Rattle.hp_spmd.specs.declared.store.Piece.{Piece}
use Rattle.hp_spmd.specs.declared.store.Store.{Store}

abbrev pub cells_from : List Piece → ℕ
cells_from pieces = length (flat_map (λ (p : Piece). p.cells) pieces)

-- so many cells, and those of these pieces, or the greatest count
abbrev pub counted_to : ℕ → List Piece → ℕ
counted_to n pieces = min (n + cells_from pieces) most

pub cells_more : (pieces : List Piece) (i n now : ℕ) (d : Piece) → i < length pieces → now ≡ min (n + length (get_or pieces i d).cells) most → counted_to now (drop (i + 1) pieces) ≡ counted_to n (drop i pieces)
cells_more pieces i n now d lt is =
    let e : cells_from (drop i pieces) ≡ length (get_or pieces i d).cells + cells_from (drop (i + 1) pieces)
    = ap cells_from (drop_more pieces i d lt) ∙ length-append (get_or pieces i d).cells (flat_map (λ (p : Piece). p.cells) (drop (i + 1) pieces)) in
    omega (arith, e, is)

pub cells_end : (pieces items : List Piece) (i n : ℕ) → items ≡ pieces → length items ≤ i → n ≤ most → counted_to n (drop i pieces) ≡ counted_to 0 pieces → n ≡ min (cells_from pieces) most
cells_end pieces items i n same le within h =
    let past : length pieces ≤ i = subst (λ l. length l ≤ i) same le in
    let e : cells_from (drop i pieces) ≡ 0 = ap cells_from (drop_all i pieces past) in
    omega (arith, e, within, h)

pub ranks_more : (f : ℕ → Store) (k : ℕ) (made now : List Rank) (x : Rank) → map (λ (r : Rank). r.store) made ≡ map f (range_with_len 0 k) → now ≡ made ++ x ∷ [] → x.store ≡ f k → map (λ (r : Rank). r.store) now ≡ map f (range_with_len 0 (k + 1))
ranks_more f k made now x h e same =
    ap (map (λ (r : Rank). r.store)) e ∙ map-append (λ (r : Rank). r.store) made (x ∷ []) ∙ (λ i. h i ++ same i ∷ []) ∙ sym (map-range_with_len_more f 0 k k (omega arith))
