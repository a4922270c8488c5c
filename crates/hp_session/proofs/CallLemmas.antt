-- What a call of the machine and the put of what it wrote mean for the session.
use Rattle.std.proofs.Common.{◌≡◌, ◌∙◌, refl, sym, subst, ap, ℕ, ◌-◌, ◌<◌, Bool, true, false, List, ◌++◌, length, take, drop, Option, Result, Ok, Err, IfOk, OnOk, OnErr, is_err, inl, inr}
use Rattle.std.proofs.lemmas.List.{take_rest}
use Rattle.hp_word.specs.declared.place.NoMemory.{NoMemory}
use Rattle.hp_word.specs.declared.table.Tables.{Tables}
use Rattle.hp_network.specs.Network.{State}
use Rattle.hp_outside.specs.Counts.{counted, counted_on}
use Rattle.hp_outside.specs.Outside.{Grew, HasCause}
use Rattle.hp_outside.specs.declared.sinks.Failed.{Failed}
use Rattle.hp_spmd.specs.declared.code.Code.{Code}
use Rattle.hp_spmd.specs.declared.store.Store.{Store}
use Rattle.hp_machine.specs.declared.running.RunEnd.{RunEnd}
use Rattle.hp_machine.specs.declared.running.RunEnd.TheVariants as answer
use Rattle.hp_machine.specs.Ends.{EndsBy}
use Rattle.hp_machine.specs.Machines.{Running}
use Rattle.hp_session.specs.declared.playing.PlayEnd.TheVariants as end
use Rattle.hp_session.specs.Playing.{AskedBy, StandsAs, TookBy, WasAsked, end_of, has_failed}

-- what the machine answered told how the session ends, if it does
pub answer_stands : (code : Code) (tables : Tables) (room : ℕ) (s later : State Store) (taken : List ℕ) (bound : ℕ) (r : Result RunEnd NoMemory)
    → IfOk r (λ e. Running room code tables (λ m. EndsBy m s later e)) → IfOk r (λ e. e ≡ answer.Spent → length taken ≡ bound)
    → Running room code tables (λ m. StandsAs m s later taken bound (end_of r))
answer_stands code tables room s later taken bound (Ok answer.Ended) told spent some = told some
answer_stands code tables room s later taken bound (Ok (answer.Trapped at kind)) told spent some = told some
answer_stands code tables room s later taken bound (Ok answer.Spent) told spent some = ((told some).0, spent refl)
answer_stands code tables room s later taken bound (Ok answer.Wrote) told spent some = told some
answer_stands code tables room s later taken bound (Err e) told spent some = tt

pub answer_asked : (before now made : ℕ) (r : Result RunEnd NoMemory) → OnOk r (now ≡ counted_on before made) → OnErr r (now ≡ counted (counted_on before made)) → AskedBy before now made (end_of r)
answer_asked before now made (Ok answer.Ended) asked refused = asked
answer_asked before now made (Ok (answer.Trapped at kind)) asked refused = asked
answer_asked before now made (Ok answer.Spent) asked refused = asked
answer_asked before now made (Ok answer.Wrote) asked refused = asked
answer_asked before now made (Err e) asked refused = refused

pub either_asked : (before now made : ℕ) (r : Result RunEnd NoMemory) → OnOk r (now ≡ counted_on before made) → OnErr r (now ≡ counted (counted_on before made)) → WasAsked before now made end.PutFailed
either_asked before now made (Ok e) asked refused = inl asked
either_asked before now made (Err e) asked refused = inr refused

-- no answer of the machine tells of a put
pub none_failed : (r : Result RunEnd NoMemory) → has_failed (end_of r) ≡ false
none_failed (Ok answer.Ended) = refl
none_failed (Ok (answer.Trapped at kind)) = refl
none_failed (Ok answer.Spent) = refl
none_failed (Ok answer.Wrote) = refl
none_failed (Err e) = refl

-- what stands behind what was written before
pub rest_is : (before now all : List ℕ) (k : ℕ) → k ≡ length before → all ≡ now → now ≡ before ++ drop (length before) now → now ≡ before ++ take (length all - k) (drop k all)
rest_is before now all k long same is =
    is ∙ ap (λ rest. before ++ rest) ((λ i. drop (sym long i) (sym same i)) ∙ sym (take_rest all k))

module _ (before now text : List ℕ) (old new : Option (List ℕ)) (put : Result (Unit {0}) Failed) (is : now ≡ before ++ text) where
  pub put_failed_took : OnErr put ((taken : ℕ) × (taken < length text) × Grew old new (take taken text)) → is_err put ≡ true → TookBy before now old new true
  put_failed_took part failed = by put part failed
    where
      by : (p : Result (Unit {0}) Failed) → OnErr p ((taken : ℕ) × (taken < length text) × Grew old new (take taken text)) → is_err p ≡ true → TookBy before now old new true
      by (Ok x) h f = absurd cc
      by (Err e) h f = (text, is, h.0, h.1, h.2)

  pub put_all_took : OnOk put (Grew old new text) → is_err put ≡ false → TookBy before now old new false
  put_all_took all failed = by put all failed
    where
      by : (p : Result (Unit {0}) Failed) → OnOk p (Grew old new text) → is_err p ≡ false → TookBy before now old new false
      by (Ok x) h f = (text, is, h)
      by (Err e) h f = absurd cc

-- a count of faults that is as it was before
pub cause_behind : (before mid now : ℕ) (failed : Bool) → mid ≡ before → HasCause mid now failed → HasCause before now failed
cause_behind before mid now failed is h = subst (λ k. HasCause k now failed) is h
