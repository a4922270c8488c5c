-- How a list lies in a table of nodes that name their neighbours.
use Rattle.std.specs.Prelude.{◌≡◌, ℕ, ◌==◌, zero, suc, true, false, List, [], ◌∷◌, Option, None, Some, length, slice_get, slice_index_or, slice_set}
use Rattle.std.specs.List.{IsDistinct, last_or}
use Rattle.hp_links.specs.declared.board.Node.{Node}
use Rattle.hp_links.specs.Boards.{Linked, board, is_in}

abbrev pub free : Node
free = record { linked = false; before = None; after = None }

abbrev pub node_at : List Node → ℕ → Node
node_at table k = slice_index_or table k free

-- the nodes that are reached from one by at most so many steps
abbrev pub reached : ℕ → List Node → Option ℕ → List ℕ
reached zero table at = []
reached (suc steps) table None = []
reached (suc steps) table (Some node) = node ∷ reached steps table (node_at table node).after

-- what is seen of a table and the first node of its list
abbrev pub seen : List Node → Option ℕ → Linked
seen table first = board (length table) (reached (length table) table first)

-- each node of a list names the one before it and the one after it; the first comes after `before`
abbrev pub Follow : List Node → Option ℕ → List ℕ → Type 0
Follow table before [] = Unit {0}
Follow table before (node ∷ list) = (node_at table node ≡ record { linked = true; before = before; after = slice_get list 0 }) × Follow table (Some node) list

-- the list lies in the table, from its first to its last node, and all other nodes are free
pub record IsLinked (table : List Node) (first last : Option ℕ) (list : List ℕ) : Type 0 where
  pub first_is : first ≡ slice_get list 0
  pub last_is : last ≡ last_or None list
  pub follow : Follow table None list
  pub once : IsDistinct (◌==◌) list
  pub linked : (node : ℕ) → (node_at table node).linked ≡ is_in node list

-- ---- what is changed where nodes are linked

abbrev pub with_after : Option ℕ → Option ℕ → List Node → List Node
with_after None next table = table
with_after (Some node) next table = slice_set table node (record (node_at table node) { after = next })

abbrev pub with_before : Option ℕ → Option ℕ → List Node → List Node
with_before None next table = table
with_before (Some node) next table = slice_set table node (record (node_at table node) { before = next })

-- the end of a list, which changes where no node stands there
abbrev pub led_to : Option ℕ → Option ℕ → Option ℕ → Option ℕ
led_to None next end = next
led_to (Some node) next end = end
