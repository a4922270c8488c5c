-- After enough rounds of turns each rank has come as far as the lockstep, and has logged at least as much.
use Rattle.std.proofs.Common.{◌≡◌, ◌∙◌, refl, sym, subst, ap, arith, ℕ, ◌+◌, ◌-◌, ◌<◌, ◌≤◌, List, ◌++◌, append_assoc, get_or, slice_get, true, false, Bool, Option, Some, None, ◌⊎◌, inl, inr}
use Rattle.hp_word.specs.declared.place.Trap.{Trap}
use Rattle.hp_word.specs.declared.table.Tables.{Tables}
use Rattle.hp_network.specs.Network.{Room, rounds}
use Rattle.hp_network.proofs.Worlds.{World, Below, below_same, grows_trans, after}
use Rattle.hp_network.proofs.Joins.{reaches_same, after_more, below_after}
use Rattle.hp_network.proofs.Rounds.{rounds_add, course_rounds}
use Rattle.hp_network.proofs.States.{run_goes}
use Rattle.hp_spmd.specs.declared.code.Code.{Code}
use Rattle.hp_spmd.specs.declared.store.Store.{Store}
use Rattle.hp_spmd.specs.Exchanges.{wants}
use Rattle.hp_spmd.specs.Lockstep.{State, state_of, first_state, lockstep_of}
use Rattle.hp_spmd.specs.Spread.{IsPlaced}
use Rattle.hp_turns.specs.Apart.{MayRunApart, LogGrows, LogsPast, paid}
use Rattle.hp_turns.specs.Turns.{machine, start, run}
use Rattle.hp_turns.proofs.Acts.{kind_at, IsRankOf, ranks_own}
use Rattle.hp_turns.proofs.Agree.{orders_agree}
use Rattle.hp_turns.proofs.First.{first_world, first_is}
use Rattle.hp_turns.proofs.Scenes.{comes_of, comes_there}
use Rattle.hp_turns.proofs.Tied.{MailTo, expects}
use Rattle.hp_turns.proofs.Written.{forward, listed_logs}

-- the lockstep's rank, whose inbox alone may be another
record Listed (s : State) (r : ℕ) (y : Store) : Type 0 where
  rank : Store
  store : slice_get s.ranks r ≡ Some rank
  logs : LogGrows rank y

mail_listed : (n : ℕ) (s : State) (w : World Store) (r : ℕ) (b : Bool) (y : Store) → MailTo n s w r b → LogGrows (w r).now y → Listed s r y
mail_listed n s w r false y mail g = record { rank = (w r).now; store = mail.store; logs = g }
mail_listed n s w r true y mail g = record { rank = record (w r).now { inbox = mail.ms }; store = mail.store; logs = record { rest = g.rest; log = g.log; later = g.later } }

passed : (code : Code) (tables : Tables) (room : Room) (n k : ℕ) (rest : List ℕ) → MayRunApart code tables n → (turns : List ℕ) → turns ≡ rounds n (paid code tables n k (first_state code n)) ++ rest → (run code tables room n turns).trap ≡ None → LogsPast code tables room n k turns
passed code tables room n k rest p turns split q =
    let m = machine code tables room in
    let o = first_world code n in
    let s = state_of (lockstep_of code tables n k) in
    let end = run code tables room n turns in
    let c = comes_of code tables room n p k in
    let v = c.world in
    let there = comes_there code tables room n k (first_state code n) o c in
    let first = rounds n (paid code tables n k (first_state code n)) in
    let y = after m n o first in
    let z = after m n o turns in
    let is = run_goes m n (IsRankOf n) (ranks_own code tables room n) turns (start code n) o refl (first_is code n) q in
    let below : Below v y =
    subst (λ j. Below v (after m n o (rounds n j))) c.pays (course_rounds m n (IsPlaced code n) o c.stages o v o c.course (reaches_same m n o) (reaches_same m n o) (below_same o)) in
    let later : Below y z = subst (Below y) (sym (ap (after m n o) split ∙ after_more m n first rest o)) (below_after m n rest y) in
    let logs : (r : ℕ) (d : Store) → r < n → LogGrows (get_or s.ranks r d) (get_or end.ranks r d) =
    λ r d lr.
    let up = grows_trans (v r) (y r) (z r) (below r) (later r) in
    let g = forward code tables room n p v z there (record { turns = turns; comes = refl }) r lr up.more in
    let a = mail_listed n s v r (expects (wants (kind_at code c.held.at.pos)) r) (z r).now (c.held.at.mail r lr) g in
    listed_logs s.ranks end.ranks r d a.rank (z r).now a.store (is.ranks r lr) a.logs in
    record { logs = logs; orders = orders_agree n s.ranks end.ranks c.held.at.count is.count logs }

pub rounds_pass : (code : Code) (tables : Tables) (room : Room) (n k count : ℕ) (more : List ℕ) → MayRunApart code tables n → paid code tables n k (first_state code n) ≤ count
    → ((t : Trap) × ((run code tables room n (rounds n count ++ more)).trap ≡ Some t)) ⊎ LogsPast code tables room n k (rounds n count ++ more)
rounds_pass code tables room n k count more p le = by (run code tables room n turns).trap refl
  where
    turns : List ℕ
    turns = rounds n count ++ more

    cost : ℕ
    cost = paid code tables n k (first_state code n)

    rest : ℕ
    rest = count - cost

    all : count ≡ cost + rest
    all = omega (arith, le)

    split : rounds n count ++ more ≡ rounds n cost ++ (rounds n rest ++ more)
    split = ap (λ l. l ++ more) (ap (rounds n) all ∙ rounds_add n cost rest) ∙ append_assoc (rounds n cost) (rounds n rest) more

    by : (t : Option Trap) → (run code tables room n turns).trap ≡ t → ((t : Trap) × ((run code tables room n turns).trap ≡ Some t)) ⊎ LogsPast code tables room n k turns
    by (Some t) q = inl (t, q)
    by None q = inr (passed code tables room n k (rounds n rest ++ more) p turns split q)
