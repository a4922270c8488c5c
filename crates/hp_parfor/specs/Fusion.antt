-- Which loops can be one, and what a program is in which all such loops are one.
use Rattle.std.specs.Prelude.{◌≡◌, ℕ, ◌==◌, ◌≤◌, Bool, true, false, not, ◌&&◌, List, [], ◌∷◌, ◌++◌, map, flat_map, length, Option, Some, None, IsTrue}
use Rattle.std.specs.List.{list_any}
use Rattle.hp_word.specs.declared.elem.Elem.{Elem}
use Rattle.hp_word.specs.declared.elem.Elem.TheVariants.{Number, Word, Input, Near, Earlier, Calc', Both', Either'}
use Rattle.hp_word.specs.declared.elem.Elem.TheBlock.{Row_of-Elem, end_of-Elem, more_of-Elem}
use Rattle.hp_lattice.specs.declared.dist.Dist.{Dist}
use Rattle.hp_lattice.specs.Lattice.{is_below}
use Rattle.hp_program.specs.Programs.{Prog, stop, plain, choose, loop}
use Rattle.hp_air.specs.declared.what.Op.{Op}
use Rattle.hp_air.specs.Kept.{is_one_of}
use Rattle.hp_air.specs.Placed.{dist_at}
use Rattle.hp_parfor.specs.declared.parfor.Parfor.{Parfor}
use Rattle.hp_parfor.specs.LoopMeaning.{loop_moves}
use Rattle.hp_parfor.specs.Parts.{Part, Does, Loops, loop_reads, loop_writes, loop_words}

-- ---- words that elements read

unfoldable mutual
  pub words_read : Elem → List ℕ
  words_read (Number n) = []
  words_read (Word w) = w ∷ []
  words_read (Input k) = []
  words_read (Near k by) = []
  words_read (Earlier k) = []
  words_read (Calc' op at p a q b) = part_words a ++ part_words b
  words_read (Both' p a q b) = part_words a ++ part_words b
  words_read (Either' p a q b) = part_words a ++ part_words b

  -- a part is held as the only element of a row
  pub part_words : {n : _} → Row_of-Elem n → List ℕ
  part_words end_of-Elem = []
  part_words (more_of-Elem e rest) = words_read e

-- the words that a loop's lets read
abbrev pub let_words : Parfor → List ℕ
let_words p = flat_map words_read p.lets

-- ---- two loops

-- some number stands in both lists
abbrev pub share : List ℕ → List ℕ → Bool
share ks js = list_any (is_one_of js) ks

abbrev pub is_same_dist : Dist → Dist → Bool
is_same_dist a b = is_below a b && is_below b a

-- Two loops of one list, the second directly after the first, can be one: the second's leader is the first's leader or
-- one of its outs, and both leaders have one distribution; none of the second's arrays needs a move; the second reads no
-- fold of the first, and none of its halos is an out of the first; and it writes nothing that the first reads or writes.
unfoldable pub is_fusable : (ℕ → Dist) → (first second : Parfor) → Bool
is_fusable d p q =
    is_one_of (p.leader ∷ loop_writes p) q.leader && is_same_dist (d p.leader) (d q.leader) && loop_moves d q == 0 && not (share (let_words q) (loop_words p))
    && not (share (map (λ h. h.array) q.halos) (loop_writes p)) && not (share (loop_writes q) (loop_reads p ++ loop_writes p)) && not (share (loop_words q) (let_words p ++ loop_words p))

abbrev pub Fusable : List Dist → (first second : Parfor) → Type 0
Fusable dists p q = IsTrue (is_fusable (dist_at dists) p q)

-- ---- programs

-- the loop that a list of steps begins with
abbrev pub first_loop : Prog Part → Option Parfor
first_loop (plain (Loops p) rest) = Some p
first_loop _ = None

-- a loop can be one with that which a list of steps begins with
abbrev pub goes_on : (ℕ → Dist) → Part → Option Parfor → Bool
goes_on d (Loops p) (Some q) = is_fusable d p q
goes_on d _ _ = false

-- no list of the program, at any depth, holds two such loops
unfoldable pub is_fused : (ℕ → Dist) → Prog Part → Bool
is_fused d stop = true
is_fused d (plain part p) = not (goes_on d part (first_loop p)) && is_fused d p
is_fused d (choose w first second p) = is_fused d first && is_fused d second && is_fused d p
is_fused d (loop test w body p) = is_fused d test && is_fused d body && is_fused d p

abbrev pub Fused : Prog Part → List Dist → Type 0
Fused p dists = IsTrue (is_fused (dist_at dists) p)

-- ---- programs with fewer loops

-- loops, and steps behind them
abbrev pub loops_before : List Parfor → Prog Part → Prog Part
loops_before [] p = p
loops_before (l ∷ ls) p = plain (Loops l) (loops_before ls p)

-- the steps begin with a loop
abbrev pub begins_with_loop : Prog Part → Bool
begins_with_loop (plain (Loops p) rest) = true
begins_with_loop _ = false

-- The second program has the steps of the first in their order at each depth, but that each longest run of loops directly
-- after one another became a run of at least one loop and at most as many.
pub data Shrunk : Prog Part → Prog Part → Type 0 where
  no_step : Shrunk stop stop
  operation : {op : Op} {p q : Prog Part} → Shrunk p q → Shrunk (plain (Does op) p) (plain (Does op) q)
  -- a longest run: no loop follows
  run_of_loops : (ls ms : List Parfor) {p q : Prog Part} → 1 ≤ length ms → length ms ≤ length ls → begins_with_loop p ≡ false → Shrunk p q → Shrunk (loops_before ls p) (loops_before ms q)
  branch : {w : ℕ} {first second p first2 second2 p2 : Prog Part} → Shrunk first first2 → Shrunk second second2 → Shrunk p p2 → Shrunk (choose w first second p) (choose w first2 second2 p2)
  turns : {w : ℕ} {test body p test2 body2 p2 : Prog Part} → Shrunk test test2 → Shrunk body body2 → Shrunk p p2 → Shrunk (loop test w body p) (loop test2 w body2 p2)
