-- The operations of constructs on arrays and matrices, where their operands stand.
use Rattle.std.proofs.Common.{◌≡◌, ℕ, ◌≤◌, ℤ, pos, Bool, true, false, cond, List, [], ◌∷◌, length, Option, Some, None, Result, Ok, IsTrue, refl, ap₂, subst}
use Rattle.hp_word.specs.declared.order.Order.{Order}
use Rattle.hp_word.specs.declared.place.Place.{Place}
use Rattle.hp_word.specs.declared.place.Trap.{Trap}
use Rattle.hp_word.specs.declared.table.Table.{Table}
use Rattle.hp_word.specs.ListRules as lists
use Rattle.hp_word.specs.Runs.{State}
use Rattle.hp_script.specs.Mirror.{Tree}
use Rattle.hp_script.specs.Nodes.{nodes_in}
use Rattle.hp_meaning.specs.declared.seen.Seen.{Seen}
use Rattle.hp_meaning.specs.declared.value.Kind.TheVariants.{Number}
use Rattle.hp_meaning.specs.declared.value.Value.{Value}
use Rattle.hp_meaning.specs.declared.value.Value.TheVariants.{Word, List as Listed}
use Rattle.hp_meaning.specs.ListRules.{length_value, summed, filled}
use Rattle.hp_meaning.specs.Operands.{is_kind}
use Rattle.hp_meaning.specs.Outcomes.{Answer, Gives, given, told, ended}
use Rattle.hp_meaning.specs.WordRules.{listed}
use Rattle.hp_program.specs.Programs.{Prog, run}
use Rattle.hp_air.specs.declared.slot.Slot.{Slot}
use Rattle.hp_air.specs.declared.what.Op.{Op}
use Rattle.hp_air.specs.declared.what.What.TheVariants as what
use Rattle.hp_air.specs.Carried.{is_among}
use Rattle.hp_air.specs.Meaning.{does, units}
use Rattle.hp_air.specs.Unknowns.{Unknown, of_node, arrays_at}
use Rattle.hp_air.specs.Wholes.{Whole, Env, cells}
use Rattle.hp_flat.specs.FlatCalls.{code_of, of_array, of_first}
use Rattle.hp_flat.specs.Homes.{Homes, slot_of, word_at, word_of}
use Rattle.hp_flat.specs.Standing.{Stands, a_word, an_array, a_matrix, a_frame, ComesToValue, comes_to_none}
use Rattle.hp_flat.proofs.KeptHomes.{Within}
use Rattle.hp_flat.proofs.LastSteps.{AreApart, d, word_step, array_step}
use Rattle.hp_flat.proofs.OperandRuns.{Ready}

-- an array of the kind that is wanted, or none
pub array_of_kind : {A : Type 0} (P : A → Type 0) (b : Bool) (one other : A) → P one → P other → P (cond b one other)
array_of_kind P true one other p q = p
array_of_kind P false one other p q = q

-- The numbers of the construct, and of what was done before, are among those of the expression; and its array has a slot.
pub record IsOwn (h : Homes) (z : Tree) (id : ℕ) (nodes : List ℕ) : Type 0 where
  pub own : Within (id ∷ []) (nodes_in z)
  pub others : Within nodes (nodes_in z)

pub record HasArray (h : Homes) (z : Tree) (id : ℕ) : Type 0 where
  pub home : arrays_at h.known z ≡ of_node id 0 ∷ []
  pub among : IsTrue (is_among h.arrays (of_node id 0))

module _ (h : Homes) (slots : List Slot) (tables : List Table) (orders : List Order) (apart : AreApart h) where
  -- what the last operation of a construct comes to, from this environment on
  abbrev pub Ends : (z : Tree) (n m : Seen) (s : State Env ℕ) (e : Env) (work : ℕ) → Answer Value → Prog Op → Type 0
  Ends z n m s e work answer code = ComesToValue h z n s (ended answer m) (run (d h slots tables orders) code (record s { env = e; seen = work }))

  pub length_last : {z : Tree} {nodes : List ℕ} {n m : Seen} {s : State Env ℕ} {e : Env} {work left : ℕ} (at : Place) (id : ℕ) (us : List Unknown) (w : ℕ) (a : Value) → Stands h e us w a
      → word_of h z ≡ word_at h id → IsOwn h z id nodes → Ready h nodes n s m e work left → 5 ≤ left → Ends z n m s e work (length_value a) (of_first us (λ array. code_of at (what.Length (word_at h id) (slot_of h array))))
  unfolding length_value does units
  length_last {z = z} {n = n} {m = m} {s = s} {e = e} {work = work} at id us w a (an_array {u = u} {kind = k} {xs = xs} is) home is_own ready enough =
      subst (λ (whole : Whole). Ends z n m s e work (Gives (Word Number (pos (length (cells whole))))) (code_of at (what.Length (word_at h id) (slot_of h u)))) is
      (word_step h slots tables orders at (what.Length (word_at h id) (slot_of h u)) id Number (Ok (pos (length (cells (e.slots (slot_of h u)))))) home is_own.own is_own.others ready enough refl)
  length_last at id us w a (a_word is) home is_own ready enough = comes_to_none
  length_last at id us w a (a_matrix is) home is_own ready enough = comes_to_none
  length_last at id us w a (a_frame stand) home is_own ready enough = comes_to_none

  pub cumsum_last : {z : Tree} {nodes : List ℕ} {n m : Seen} {s : State Env ℕ} {e : Env} {work left : ℕ} (at : Place) (id : ℕ) (us : List Unknown) (w : ℕ) (a : Value) → Stands h e us w a
      → HasArray h z id → IsOwn h z id nodes → Ready h nodes n s m e work left → 6 ≤ left → Ends z n m s e work (summed a) (of_array us (λ array. code_of at (what.Scan (slot_of h (of_node id 0)) (slot_of h array))))
  unfolding summed does units
  cumsum_last {z = z} {n = n} {m = m} {s = s} {e = e} {work = work} at id us w a (an_array {u = u} {kind = k} {xs = xs} is) has is_own ready enough =
      array_of_kind (λ (found : Option (List ℤ)). Ends z n m s e work (given found (λ xs. Gives (Listed Number (lists.prefix_sums xs)))) (code_of at (what.Scan (slot_of h (of_node id 0)) (slot_of h u)))) (is_kind Number k) (Some xs) None
      (subst (λ (whole : Whole). Ends z n m s e work (Gives (Listed Number (lists.prefix_sums (cells whole)))) (code_of at (what.Scan (slot_of h (of_node id 0)) (slot_of h u)))) is
      (array_step h slots tables orders apart at (what.Scan (slot_of h (of_node id 0)) (slot_of h u)) id Number (Ok (lists.prefix_sums (cells (e.slots (slot_of h u))))) has.home has.among is_own.own is_own.others ready enough refl))
      comes_to_none
  cumsum_last at id us w a (a_word is) has is_own ready enough = comes_to_none
  cumsum_last at id us w a (a_matrix is) has is_own ready enough = comes_to_none
  cumsum_last at id us w a (a_frame stand) has is_own ready enough = comes_to_none

  pub fill_last : {z : Tree} {nodes : List ℕ} {n m : Seen} {s : State Env ℕ} {e : Env} {work left : ℕ} (at : Place) (id : ℕ) (us vs : List Unknown) (w q : ℕ) (a b : Value) → Stands h e us w a → Stands h e vs q b
      → HasArray h z id → IsOwn h z id nodes → Ready h nodes n s m e work left → 5 ≤ left → Ends z n m s e work (filled at a b) (code_of at (what.Fill (slot_of h (of_node id 0)) w q))
  unfolding filled does units
  fill_last {z = z} {n = n} {m = m} {s = s} {e = e} {work = work} at id us vs w q (Word k x) (Word j c) (a_word is) (a_word count) has is_own ready enough =
      array_of_kind (λ (found : Option ℤ). Ends z n m s e work (given found (λ c. listed k (told (lists.filled at c x)))) (code_of at (what.Fill (slot_of h (of_node id 0)) w q))) (is_kind Number j) (Some c) None
      (subst (λ (made : Result (List ℤ) Trap). Ends z n m s e work (listed k (told made)) (code_of at (what.Fill (slot_of h (of_node id 0)) w q))) (ap₂ (λ (c x : ℤ). lists.filled at c x) count is)
      (array_step h slots tables orders apart at (what.Fill (slot_of h (of_node id 0)) w q) id k (lists.filled at (e.words q) (e.words w)) has.home has.among is_own.own is_own.others ready enough refl))
      comes_to_none
  fill_last at id us vs w q (Word k x) _ (a_word is) (an_array count) has is_own ready enough = comes_to_none
  fill_last at id us vs w q (Word k x) _ (a_word is) (a_matrix count) has is_own ready enough = comes_to_none
  fill_last at id us vs w q (Word k x) _ (a_word is) (a_frame count) has is_own ready enough = comes_to_none
  fill_last at id us vs w q _ b (an_array is) other has is_own ready enough = comes_to_none
  fill_last at id us vs w q _ b (a_matrix is) other has is_own ready enough = comes_to_none
  fill_last at id us vs w q _ b (a_frame is) other has is_own ready enough = comes_to_none
