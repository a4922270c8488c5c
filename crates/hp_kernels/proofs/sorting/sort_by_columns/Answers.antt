-- The places from 0 on are sorted by how their rows stand.
use Rattle.std.proofs.Common.{◌≡◌, rules, ◌∙◌, ap, subst, sym, List, ℤ, map, Bor, arith}
use Rattle.std.specs.List.{range_with_len}
use Rattle.std.specs.Ordering.{is_lt}
use Rattle.std.proofs.lemmas.Fn.{always_returns_same}
use Rattle.hp_word.specs.RowRules.{IsSortingOf}
use Rattle.hp_kernels.proofs.SortLemmas.{places_more, places_before, places_ranked, sorted_are, sorted_places_are}
use Rattle.hp_kernels.proofs.sorting.sort_by_columns.Goals as goal

pub loop-i-preserved : goal.loop-i-preserved
loop-i-preserved c = places_more c.loop-i.places.items c.push.new.self.items c.loop-i.i c.loop-i.invariant c.in_ok-push.ensures.items

pub returns-clause-places : goal.returns-clause-places
returns-clause-places c =
    let columns : List (List ℤ) = map (λ (cells : Bor (List ℤ)). cells.now) c.args.columns.now in
    let last : c.loop-i.i ≡ c.args.rows = omega (arith, c.loop-i.auto.i-end) in
    sorted_are columns c.args.rows c.loop-i.places.items c.sort_by.new.self.items (c.loop-i.invariant ∙ ap (range_with_len 0) last)
    (c.in_ok-sort_by.ensures.sorted (places_before columns) (places_ranked columns) (always_returns_same _ (λ a r. is_lt r ≡ places_before columns a.0.now a.1.0.now) _ (λ a r f k. search rules)))
    (c.in_ok-sort_by.ensures.stable (places_before columns) (places_ranked columns) (always_returns_same _ (λ a r. is_lt r ≡ places_before columns a.0.now a.1.0.now) _ (λ a r f k. search rules)))

pub returns-clause-sorting : goal.returns-clause-sorting
returns-clause-sorting c =
    let columns : List (List ℤ) = map (λ (cells : Bor (List ℤ)). cells.now) c.args.columns.now in
    subst (IsSortingOf columns c.args.rows) (sym (returns-clause-places c)) (sorted_places_are columns c.args.rows)
