-- Two orders of turns after which all ranks have halted leave the same, whatever room the queues have.
use Rattle.std.proofs.Common.{◌≡◌, ◌∙◌, sym, subst, ap, arith, ℕ, ◌+◌, ◌≤◌}
use Rattle.hp_word.specs.declared.table.Tables.{Tables}
use Rattle.hp_spmd.specs.declared.code.Code.{Code}
use Rattle.hp_spmd.specs.Lockstep.{State, Ended, IsOver, first_state, lockstep_of, state_of, step}
use Rattle.hp_spmd.proofs.LockMore.{same_later}
use Rattle.hp_turns.specs.Turns.{kept_orders}
use Rattle.hp_turns.proofs.Clauses.{ends_only}
use Rattle.hp_compile.specs.RanksLaws.{ProgramsEndAlike}
use Rattle.hp_compile.proofs.RunsApart.{may_run_apart}

-- where the lockstep has ended, it has ended so at each later limit
ended_later : (code : Code) (tables : Tables) (n k m : ℕ) (end : State) → k ≤ m → lockstep_of code tables n k ≡ Ended end → lockstep_of code tables n m ≡ Ended end
ended_later code tables n k m end le e = same_later (step code tables) k m (first_state code n) le (subst IsOver (sym e) tt) ∙ e

one_end : (code : Code) (tables : Tables) (n j k : ℕ) (first second : State) → lockstep_of code tables n j ≡ Ended first → lockstep_of code tables n k ≡ Ended second → first ≡ second
one_end code tables n j k first second p q =
    let less : j ≤ j + k = omega arith in
    let more : k ≤ j + k = omega arith in
    ap state_of (sym (ended_later code tables n j (j + k) first less p) ∙ ended_later code tables n k (j + k) second more q)

pub programs_end_alike : ProgramsEndAlike
programs_end_alike p r room first second h halted1 halted2 =
    let a = ends_only r.code r.tables r.room r.count first (may_run_apart p r h) halted1 in
    let b = ends_only r.code r.tables room r.count second (may_run_apart p r h) halted2 in
    let same = one_end r.code r.tables r.count a.limit b.limit a.end b.end a.ends b.ends in
    let stores = a.stores ∙ ap (λ (s : State). s.ranks) same ∙ sym b.stores in
    record { stores = stores; out = a.out ∙ ap (λ (s : State). s.out) same ∙ sym b.out; orders = ap (λ xs. (kept_orders xs).list) stores }
