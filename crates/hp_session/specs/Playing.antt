-- How a session ended, what its sink took, and how often its order of turns was asked.
use Rattle.std.specs.Prelude.{◌≡◌, ◌<◌, ◌⊎◌, ℕ, Bool, true, false, List, [], ◌∷◌, ◌++◌, length, take, Option, Some, None, Result, Ok, Err}
use Rattle.hp_word.specs.declared.place.NoMemory.{NoMemory}
use Rattle.hp_word.specs.Lengths.{trap}
use Rattle.hp_network.specs.Network.{Machine, State, HasEnded, run}
use Rattle.hp_outside.specs.Counts.{counted, counted_on}
use Rattle.hp_outside.specs.Outside.{Grew}
use Rattle.hp_spmd.specs.declared.store.Store.{Store}
use Rattle.hp_machine.specs.declared.running.RunEnd.{RunEnd}
use Rattle.hp_machine.specs.declared.running.RunEnd.TheVariants as answer
use Rattle.hp_machine.specs.Ends.{GoesOn}
use Rattle.hp_session.specs.declared.playing.PlayEnd.{PlayEnd}
use Rattle.hp_session.specs.declared.playing.PlayEnd.TheVariants as end

-- ---- how it ended

abbrev pub put_failed : PlayEnd → Bool
put_failed end.PutFailed = true
put_failed _ = false

-- How a session ended, by the state then and the turns by then, of at most so many. The first three are never the case at once;
-- where a put failed or memory was refused, the state may be any.
abbrev pub EndsAs : Machine Store → State Store → (taken : List ℕ) → (bound : ℕ) → PlayEnd → Type 0
EndsAs m s taken bound end.Ended = (s.trap ≡ None) × HasEnded m s
EndsAs m s taken bound (end.Trapped at kind) = (s.trap ≡ Some (trap at kind)) × (HasEnded m s → ⊥)
EndsAs m s taken bound end.Spent = GoesOn m s × (length taken ≡ bound)
EndsAs m s taken bound end.PutFailed = Unit {0}
EndsAs m s taken bound end.NoMemory = Unit {0}

-- ---- what the sink took

-- A put failed: before the last turn the sink had taken all that was written, and it took a front of what this turn wrote that
-- is shorter than that.
pub record FallsShort {X : Type 0} (m : Machine X) (first : State X) (taken : List ℕ) (old new : Option (List ℕ)) : Type 0 where
  pub before : List ℕ
  pub last : ℕ
  pub turns : taken ≡ before ++ last ∷ []
  pub text : List ℕ
  pub wrote : (run m first taken).out ≡ (run m first before).out ++ text
  pub part : ℕ
  pub shorter : part < length text
  pub took : Grew old new ((run m first before).out ++ take part text)

-- What the sink took of a session of these turns from a state in which nothing was written: all that they wrote, unless a put
-- failed.
abbrev pub Took : {X : Type 0} → Machine X → (first : State X) → (taken : List ℕ) → (old new : Option (List ℕ)) → PlayEnd → Type 0
Took m first taken old new end.PutFailed = FallsShort m first taken old new
Took m first taken old new _ = Grew old new (run m first taken).out

-- ---- how often the order was asked

-- Once for each turn that was made, and once more for a turn whose memory was refused; where a put failed, by either.
abbrev pub WasAsked : (before now made : ℕ) → PlayEnd → Type 0
WasAsked before now made end.PutFailed = (now ≡ counted_on before made) ⊎ (now ≡ counted (counted_on before made))
WasAsked before now made end.NoMemory = now ≡ counted (counted_on before made)
WasAsked before now made _ = now ≡ counted_on before made

-- ---- on the way: a call of the machine, and the put of what it wrote

-- how the session ends with what the machine answered, if it does
abbrev pub end_of : Result RunEnd NoMemory → Option PlayEnd
end_of (Ok answer.Ended) = Some end.Ended
end_of (Ok (answer.Trapped at kind)) = Some (end.Trapped at kind)
end_of (Ok answer.Spent) = Some end.Spent
end_of (Ok answer.Wrote) = None
end_of (Err e) = Some end.NoMemory

abbrev pub has_failed : Option PlayEnd → Bool
has_failed None = false
has_failed (Some e) = put_failed e

-- a session that goes on does so behind a turn that wrote
abbrev pub StandsAs : Machine Store → (s later : State Store) → (taken : List ℕ) → (bound : ℕ) → Option PlayEnd → Type 0
StandsAs m s later taken bound None = GoesOn m later × (length s.out < length later.out)
StandsAs m s later taken bound (Some e) = EndsAs m later taken bound e

-- what was written since `before`, by which the sink grew, or of which it took a shorter front
abbrev pub TookBy : (before now : List ℕ) → (old new : Option (List ℕ)) → (failed : Bool) → Type 0
TookBy before now old new true = (text : List ℕ) × (now ≡ before ++ text) × (part : ℕ) × (part < length text) × Grew old new (take part text)
TookBy before now old new false = (text : List ℕ) × (now ≡ before ++ text) × Grew old new text

abbrev pub AskedBy : (before now made : ℕ) → Option PlayEnd → Type 0
AskedBy before now made None = now ≡ counted_on before made
AskedBy before now made (Some e) = WasAsked before now made e
