-- What the fuel of a script changes of its meaning: how far it comes, and nothing else.
use Rattle.std.specs.Prelude.{◌≡◌, ℕ, ◌-◌, ◌<◌, ◌≤◌, IsSomeAnd, Option, Some}
use Rattle.hp_word.specs.Runs.{with_more}
use Rattle.hp_meaning.specs.declared.seq.SeqStatus.{SeqStatus}
use Rattle.hp_meaning.specs.declared.seq.SeqStatus.TheVariants as status
use Rattle.hp_meaning.specs.Run.{End}

-- the script is over: it has come to its end or to a trap, and not to a loop turn for which there is no fuel
abbrev pub IsOver : SeqStatus → Type 0
IsOver status.Done = Unit {0}
IsOver (status.Trap at kind) = Unit {0}
IsOver status.Fuel = ⊥

-- the same end, with this much more fuel left
abbrev pub end_with_more : ℕ → End → End
end_with_more more e = record e { at = with_more more e.at }

-- the same end, with this much fuel left
abbrev pub end_with : ℕ → End → End
end_with left e = record e { at = record e.at { fuel = left } }

-- The end under some fuel of a script that begins so many loop turns: with enough fuel it is this end, with what is then
-- left; with less it is out of fuel.
pub record EndsAfter (turns : ℕ) (e : End) (fuel : ℕ) (found : Option End) : Type 0 where
  pub enough : turns ≤ fuel → found ≡ Some (end_with (fuel - turns) e)
  pub too_few : fuel < turns → IsSomeAnd found (λ other. other.status ≡ status.Fuel)
