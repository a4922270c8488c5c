-- A look at lengths.
use Rattle.std.proofs.Common.{◌≡◌, ◌∙◌, refl, sym, subst, ap, arith, ℕ, ◌+◌, ◌<◌, ◌≤◌, List, [], ◌∷◌, length, get_or, map, Option, Some, None}
use Rattle.std.specs.List.{All, AllByRecursion}
use Rattle.hp_word.specs.declared.place.Place.{Place}
use Rattle.hp_word.specs.declared.place.Trap.{Trap}
use Rattle.hp_word.specs.declared.table.Tables.{Tables}
use Rattle.hp_spmd.specs.declared.code.Code.{Code}
use Rattle.hp_spmd.specs.declared.instr.CheckRule.{CheckRule}
use Rattle.hp_spmd.specs.declared.instr.Instr.{Instr}
use Rattle.hp_spmd.specs.declared.instr.Instr.TheVariants as instr
use Rattle.hp_spmd.specs.declared.store.Store.{Store}
use Rattle.hp_spmd.specs.Layout.{Env, Layout}
use Rattle.hp_spmd.specs.Local.{local_next}
use Rattle.hp_spmd.specs.Lockstep.{position_of}
use Rattle.hp_spmd.specs.Next.{lifted}
use Rattle.hp_spmd.specs.Scalars.{check_data, check_of, lengths_of, unless}
use Rattle.hp_spmd.specs.Store.{data_of}
use Rattle.hp_spmd.proofs.ShareNext.{next_shared}
use Rattle.hp_snippet.specs.Outcomes.{Does}
use Rattle.hp_snippet.specs.Promises.{IsSound, IsStraight, IsWork, LeavesShared, Performs, StandBehind, Stays, price_of}
use Rattle.hp_snippet.proofs.Keeping.{word_stays, words_layout, zip_map}
use Rattle.hp_snippet.proofs.Naming.{each_below, named_at}
use Rattle.hp_snippet.proofs.Performing.{computed_by, rank_same, together_one}
use Rattle.hp_alone.specs.Looking.{MayLook, check_code, lengths_in, looked_at, nothing_written, unless_trap}
use Rattle.hp_alone.specs.Scalars.{IsVector}
use Rattle.hp_alone.proofs.Alone.{alone_fails, alone_went}
use Rattle.hp_alone.proofs.WordsMade.{one_straight, vector_length}

-- each rank sees the lengths of the whole vectors
lengths_seen : (code : Code) (ranks : List Store) (env : Env) (arrays : List ℕ) → 1 ≤ length ranks → AllByRecursion (λ k. k < length code.arrays) arrays → AllByRecursion (λ k. IsVector (env.arrays k)) arrays → Layout code ranks env
    → (i : ℕ) (d : Store) → i < length ranks → lengths_of arrays (get_or ranks i d).arrays ≡ lengths_in env arrays
lengths_seen code ranks env [] some below are l i d lt = refl
lengths_seen code ranks env (k ∷ arrays) some below are l i d lt =
    ap (λ n. n ∷ lengths_of arrays (get_or ranks i d).arrays) (vector_length code ranks env k some below.0 are.0 l i d lt)
    ∙ ap (λ ns. length (env.arrays k).cells ∷ ns) (lengths_seen code ranks env arrays some below.1 are.1 l i d lt)

pub check_goes : (code : Code) (tables : Tables) (arrays : List ℕ) (rule : CheckRule) (at : Place) (x : Store) (lengths : List ℕ) → lengths_of arrays x.arrays ≡ lengths
    → local_next code.arrays tables (instr.Check arrays rule at) x ≡ lifted (unless (check_of rule at lengths) (data_of x)) x
unfolding check_data
check_goes code tables arrays rule at x lengths e = ap (λ ls. lifted (unless (check_of rule at ls) (data_of x)) x) e

-- a rank that has only moved on
pub looked_stays : (x : Store) → Stays nothing_written x (computed_by data_of x)
looked_stays x = record { number = refl; ranks_are = refl; words = λ w apart. refl; arrays = λ k apart. refl; loose = λ k apart. refl; executed = refl; log = refl }

pub looked_lays : (code : Code) (ranks : List Store) (env : Env) → Layout code ranks env → Layout code (map (computed_by data_of) ranks) env
looked_lays code ranks env l =
    let stays = zip_map (Stays nothing_written) (computed_by data_of) ranks (λ k d lt. looked_stays (get_or ranks k d)) in
    words_layout code nothing_written ranks (map (computed_by data_of) ranks) env env refl stays l refl (λ w value e. word_stays code nothing_written ranks (map (computed_by data_of) ranks) env stays l w value tt e)

looks : (arrays : List ℕ) (rule : CheckRule) (at : Place) → Performs (MayLook arrays) (looked_at arrays rule at) nothing_written (check_code arrays rule at)
looks arrays rule at code tables price s env h needs =
    let i = instr.Check arrays rule at in
    let below = each_below (λ a. a) (length code.arrays) arrays (named_at code (position_of s.ranks) i h.stand.0) in
    by_trap (check_of rule at (lengths_in env arrays))
    (λ k d lt. check_goes code tables arrays rule at (get_or s.ranks k d) (lengths_in env arrays) (lengths_seen code s.ranks env arrays h.some below needs h.lays k d lt))
  where
    by_trap : (o : Option Trap) → All (λ x. local_next code.arrays tables (instr.Check arrays rule at) x ≡ lifted (unless o (data_of x)) x) s.ranks
        → Does code tables price (IsSound code tables (length s.ranks) (position_of s.ranks + 1)) (λ t. Unit {0}) Env (StandBehind code nothing_written s.ranks) 1 (price_of price (check_code arrays rule at)) (position_of s.ranks + 1) s (unless_trap o env)
    by_trap None goes =
        alone_went code tables price (instr.Check arrays rule at) s env env nothing_written data_of refl h goes
        (λ k d lt. let x = get_or s.ranks k d in rank_same code (length s.ranks) x (computed_by data_of x) refl refl refl refl refl (h.each k d lt))
        (λ k d lt. looked_stays (get_or s.ranks k d))
        (looked_lays code s.ranks env h.lays)
    by_trap (Some t) goes =
        alone_fails code tables price (instr.Check arrays rule at) s env t refl h (together_one (local_next code.arrays tables (instr.Check arrays rule at)) t s.ranks h.some goes)

pub check_performs : (arrays : List ℕ) (rule : CheckRule) (at : Place) (list : List Instr) → list ≡ check_code arrays rule at → Performs (MayLook arrays) (looked_at arrays rule at) nothing_written list
check_performs arrays rule at list e = subst (Performs (MayLook arrays) (looked_at arrays rule at) nothing_written) (sym e) (looks arrays rule at)

pub check_straight : (arrays : List ℕ) (rule : CheckRule) (at : Place) (list : List Instr) → list ≡ check_code arrays rule at → IsStraight list
check_straight arrays rule at list e = one_straight (instr.Check arrays rule at) list refl tt e

pub check_shares : (arrays : List ℕ) (rule : CheckRule) (at : Place) (list : List Instr) → list ≡ check_code arrays rule at → (code : Code) → AllByRecursion (LeavesShared code) list
check_shares arrays rule at list e code = subst (AllByRecursion (LeavesShared code)) (sym e) ((λ tables x y. next_shared code tables (instr.Check arrays rule at) x y tt), tt)

pub check_work : (arrays : List ℕ) (rule : CheckRule) (at : Place) (list : List Instr) → list ≡ check_code arrays rule at → IsWork 1 list
check_work arrays rule at list e = subst (IsWork 1) (sym e) (record { few = omega arith; cheap = λ ranks. omega arith })
