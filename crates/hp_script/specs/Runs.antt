-- What runs through a script assign.
use Rattle.std.specs.Prelude.{ℕ, ◌≡◌, true, ◌↔◌, List, [], ◌∷◌, ◌++◌, Some}
use Rattle.hp_word.specs.declared.place.Place.{Place}
use Rattle.hp_script.specs.Mirror.{Tree, Block, done, assign, print, export, choose, loop}
use Rattle.hp_script.specs.declared.typed.Shape.{Shape}
use Rattle.hp_script.specs.Checked.{second_branch, behind_branches, behind_loop}
use Rattle.hp_script.specs.Fitting.{FitsBlock}
use Rattle.hp_script.specs.Shaped.{HasShape}
use Rattle.hp_script.specs.Scope.{Scope, has, is_set, after_assignment}

-- `IsRun block names`: some run through the block to its end assigns these names, in this order. An `if` runs one of its
-- branches, a `while` its body any number of times.
pub data IsRun : Block → List (List ℕ) → Type 0 where
  run_done : IsRun done []
  run_assign : {at : Place} {x : List ℕ} {e : Tree} {rest : Block} {names : List (List ℕ)} → IsRun rest names → IsRun (assign at x e rest) (x ∷ names)
  run_print : {at : Place} {e : Tree} {rest : Block} {names : List (List ℕ)} → IsRun rest names → IsRun (print at e rest) names
  run_export : {at : Place} {e : Tree} {rest : Block} {names : List (List ℕ)} → IsRun rest names → IsRun (export at e rest) names
  run_first : {at : Place} {c : Tree} {body other rest : Block} {names more : List (List ℕ)} → IsRun body names → IsRun rest more → IsRun (choose at c body other rest) (names ++ more)
  run_second : {at : Place} {c : Tree} {body other rest : Block} {names more : List (List ℕ)} → IsRun other names → IsRun rest more → IsRun (choose at c body other rest) (names ++ more)
  -- the test fails
  run_past : {at : Place} {c : Tree} {body rest : Block} {names : List (List ℕ)} → IsRun rest names → IsRun (loop at c body rest) names
  -- one turn, and the loop again
  run_turn : {at : Place} {c : Tree} {body rest : Block} {names more : List (List ℕ)} → IsRun body names → IsRun (loop at c body rest) more → IsRun (loop at c body rest) (names ++ more)

-- A place among the statements of a block, before one of them or at an end.
pub data Position : Block → Type 0 where
  here : {b : Block} → Position b
  past_assign : {at : Place} {x : List ℕ} {e : Tree} {rest : Block} → Position rest → Position (assign at x e rest)
  past_print : {at : Place} {e : Tree} {rest : Block} → Position rest → Position (print at e rest)
  past_export : {at : Place} {e : Tree} {rest : Block} → Position rest → Position (export at e rest)
  in_first : {at : Place} {c : Tree} {body other rest : Block} → Position body → Position (choose at c body other rest)
  in_second : {at : Place} {c : Tree} {body other rest : Block} → Position other → Position (choose at c body other rest)
  past_if : {at : Place} {c : Tree} {body other rest : Block} → Position rest → Position (choose at c body other rest)
  in_turn : {at : Place} {c : Tree} {body rest : Block} → Position body → Position (loop at c body rest)
  past_loop : {at : Place} {c : Tree} {body rest : Block} → Position rest → Position (loop at c body rest)

-- `Arrives p names`: some run from the begin of the block comes to the position `p`, and has assigned these names before, in
-- this order.
pub data Arrives : (b : Block) → Position b → List (List ℕ) → Type 0 where
  arrives_here : {b : Block} → Arrives b here []
  arrives_assign : {at : Place} {x : List ℕ} {e : Tree} {rest : Block} {p : Position rest} {names : List (List ℕ)} → Arrives rest p names → Arrives (assign at x e rest) (past_assign p) (x ∷ names)
  arrives_print : {at : Place} {e : Tree} {rest : Block} {p : Position rest} {names : List (List ℕ)} → Arrives rest p names → Arrives (print at e rest) (past_print p) names
  arrives_export : {at : Place} {e : Tree} {rest : Block} {p : Position rest} {names : List (List ℕ)} → Arrives rest p names → Arrives (export at e rest) (past_export p) names
  -- into a branch of an `if`
  arrives_first : {at : Place} {c : Tree} {body other rest : Block} {p : Position body} {names : List (List ℕ)} → Arrives body p names → Arrives (choose at c body other rest) (in_first p) names
  arrives_second : {at : Place} {c : Tree} {body other rest : Block} {p : Position other} {names : List (List ℕ)} → Arrives other p names → Arrives (choose at c body other rest) (in_second p) names
  -- behind an `if`, through its first branch or its second
  arrives_by_first : {at : Place} {c : Tree} {body other rest : Block} {p : Position rest} {names more : List (List ℕ)}
      → IsRun body names → Arrives rest p more → Arrives (choose at c body other rest) (past_if p) (names ++ more)
  arrives_by_second : {at : Place} {c : Tree} {body other rest : Block} {p : Position rest} {names more : List (List ℕ)}
      → IsRun other names → Arrives rest p more → Arrives (choose at c body other rest) (past_if p) (names ++ more)
  -- into the body of a `while`, or behind it
  arrives_turn : {at : Place} {c : Tree} {body rest : Block} {p : Position body} {names : List (List ℕ)} → Arrives body p names → Arrives (loop at c body rest) (in_turn p) names
  arrives_past : {at : Place} {c : Tree} {body rest : Block} {p : Position rest} {names : List (List ℕ)} → Arrives rest p names → Arrives (loop at c body rest) (past_loop p) names
  -- a turn of a `while`, and from its begin on to wherever that leads
  arrives_again : {at : Place} {c : Tree} {body rest : Block} {p : Position (loop at c body rest)} {names more : List (List ℕ)}
      → IsRun body names → Arrives (loop at c body rest) p more → Arrives (loop at c body rest) p (names ++ more)

-- `IsScopeAt s block p t`: where `s` is known at the begin of the block, `t` is known of names at the position `p`. What is
-- assigned before has a type; nothing is said of what stands behind.
pub data IsScopeAt : Scope → (b : Block) → Position b → Scope → Type 0 where
  at_here : {s : Scope} {b : Block} → IsScopeAt s b here s
  at_assign : {s t : Scope} {at : Place} {x : List ℕ} {e : Tree} {rest : Block} {p : Position rest} {a : Shape}
      → HasShape s e a → IsScopeAt (after_assignment s x (Some a)) rest p t → IsScopeAt s (assign at x e rest) (past_assign p) t
  at_print : {s t : Scope} {at : Place} {e : Tree} {rest : Block} {p : Position rest} → IsScopeAt s rest p t → IsScopeAt s (print at e rest) (past_print p) t
  at_export : {s t : Scope} {at : Place} {e : Tree} {rest : Block} {p : Position rest} → IsScopeAt s rest p t → IsScopeAt s (export at e rest) (past_export p) t
  at_first : {s t : Scope} {at : Place} {c : Tree} {body other rest : Block} {p : Position body} → IsScopeAt s body p t → IsScopeAt s (choose at c body other rest) (in_first p) t
  at_second : {s first t : Scope} {at : Place} {c : Tree} {body other rest : Block} {p : Position other}
      → FitsBlock s body first → IsScopeAt (second_branch s first) other p t → IsScopeAt s (choose at c body other rest) (in_second p) t
  at_if : {s first second t : Scope} {at : Place} {c : Tree} {body other rest : Block} {p : Position rest}
      → FitsBlock s body first → FitsBlock (second_branch s first) other second → IsScopeAt (behind_branches first second) rest p t
      → IsScopeAt s (choose at c body other rest) (past_if p) t
  at_turn : {s t : Scope} {at : Place} {c : Tree} {body rest : Block} {p : Position body} → IsScopeAt s body p t → IsScopeAt s (loop at c body rest) (in_turn p) t
  at_loop : {s turn t : Scope} {at : Place} {c : Tree} {body rest : Block} {p : Position rest}
      → FitsBlock s body turn → IsScopeAt (behind_loop s turn) rest p t → IsScopeAt s (loop at c body rest) (past_loop p) t

-- The ways of what is known at a position, with loops passed over or run once, set the names that all runs set that come
-- there from the start.
abbrev pub SetsLikeRuns : (body : Block) → Position body → Scope → Type 0
SetsLikeRuns body p t = (x : List ℕ) → is_set t.ways x ≡ true ↔ ((names : List (List ℕ)) → Arrives body p names → has x names ≡ true)

-- ---- worked rows

-- behind `while c`, whose body sets `x`, a run has not set it: the body may be passed over
row_of_loops : (at : Place) (c e : Tree) (x : List ℕ) → Arrives (loop at c (assign at x e done) done) (past_loop here) []
row_of_loops at c e x = arrives_past arrives_here

-- or it has, twice
row_of_turns : (at : Place) (c e : Tree) (x : List ℕ) → Arrives (loop at c (assign at x e done) done) (past_loop here) (x ∷ x ∷ [])
row_of_turns at c e x = arrives_again (run_assign run_done) (arrives_again (run_assign run_done) (arrives_past arrives_here))
