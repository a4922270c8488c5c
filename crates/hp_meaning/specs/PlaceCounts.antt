-- How often places stand in a list, as it is held: a bridge to the rule of orders.
use Rattle.std.specs.Prelude.{◌≡◌, ℕ, ◌+◌, if◌then◌else◌, List}
use Rattle.std.specs.Option.{option_map_or}
use Rattle.indexmap.specs.IndexMap.{get}
use Rattle.hp_word.specs.declared.order.RowPlace.{RowPlace}
use Rattle.hp_word.specs.RowRules.{is_place, times_in}
use Rattle.hp_meaning.specs.declared.places.PlaceCounts.{PlaceCounts}

-- the number that is held of a place
unfoldable pub times_held : PlaceCounts → RowPlace → ℕ
times_held it p = option_map_or (λ times. times) (get is_place it.counts p) 0

-- of each place it is held how often it stands in this list
abbrev pub CountsOf : List RowPlace → PlaceCounts → Type 0
CountsOf places it = (p : RowPlace) → times_held it p ≡ times_in places p

-- one more is held of a place, and the same of any other
abbrev pub AddsPlace : RowPlace → (old new : PlaceCounts) → Type 0
AddsPlace place old new = (p : RowPlace) → times_held new p ≡ (if is_place place p then times_held old p + 1 else times_held old p)
