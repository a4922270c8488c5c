-- What is seen of a board: how many nodes its table has, and which of them are linked, in order.
use Rattle.std.specs.Prelude.{◌≡◌, ℕ, ◌==◌, ◌<◌, Bool, true, not, List, [], ◌∷◌, refl}
use Rattle.std.specs.List.{IsDistinct, filter, list_any}

-- the nodes are the numbers below `nodes`; those in the list are linked
pub record Linked : Type 0 where
  pub nodes : ℕ
  pub list : List ℕ

abbrev pub board : ℕ → List ℕ → Linked
board nodes list = record { nodes = nodes; list = list }

-- whether a node is in a list
abbrev pub is_in : ℕ → List ℕ → Bool
is_in node list = list_any (λ other. node == other) list

-- the list without a node, in the same order
abbrev pub without : ℕ → List ℕ → List ℕ
without node list = filter (λ other. not (node == other)) list

-- what holds of every board: no node is linked twice, and each is of the table
pub record IsBoard (b : Linked) : Type 0 where
  pub once : IsDistinct (◌==◌) b.list
  pub within : (node : ℕ) → is_in node b.list ≡ true → node < b.nodes

-- ---- worked rows

without_row : without 7 (3 ∷ 7 ∷ 5 ∷ []) ≡ 3 ∷ 5 ∷ []
without_row = refl
