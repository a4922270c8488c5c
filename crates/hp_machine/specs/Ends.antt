-- How a call that makes many turns ends.
use Rattle.std.specs.Prelude.{◌≡◌, ◌<◌, Bool, length, Option, Some, None, if◌then◌else◌}
use Rattle.hp_word.specs.Lengths.{trap}
use Rattle.hp_network.specs.Network as network
use Rattle.hp_network.specs.Network.{State, HasEnded}
use Rattle.hp_spmd.specs.declared.store.Store.{Store}
use Rattle.hp_machine.specs.declared.machine.Turned.{Turned}
use Rattle.hp_machine.specs.declared.machine.Turned.TheVariants as turned
use Rattle.hp_machine.specs.declared.running.RunEnd.{RunEnd}
use Rattle.hp_machine.specs.declared.running.RunEnd.TheVariants as end

-- no rank has trapped, and not all have halted
abbrev pub GoesOn : network.Machine Store → State Store → Type 0
GoesOn m s = (s.trap ≡ None) × (HasEnded m s → ⊥)

-- What a call answers, by the state at its beginning and the later one. Before its last turn it has written nothing, so that
-- the output has grown where that turn wrote. No two of these are the case at once.
abbrev pub EndsBy : network.Machine Store → (s later : State Store) → RunEnd → Type 0
EndsBy m s later end.Ended = (later.trap ≡ None) × HasEnded m later
EndsBy m s later (end.Trapped at kind) = (later.trap ≡ Some (trap at kind)) × (HasEnded m later → ⊥)
EndsBy m s later end.Spent = GoesOn m later × (later.out ≡ s.out)
EndsBy m s later end.Wrote = GoesOn m later × (length s.out < length later.out)

-- ---- on the way

-- whether a state is one with which a call ends at its beginning
abbrev pub StandsAs : network.Machine Store → State Store → Option RunEnd → Type 0
StandsAs m s None = GoesOn m s
StandsAs m s (Some end.Ended) = (s.trap ≡ None) × HasEnded m s
StandsAs m s (Some (end.Trapped at kind)) = s.trap ≡ Some (trap at kind)
StandsAs m s (Some end.Spent) = ⊥
StandsAs m s (Some end.Wrote) = ⊥

-- how a call ends after a turn that came to this and wrote or did not, if it does
abbrev pub end_of : Turned → (wrote : Bool) → Option RunEnd
end_of turned.Moved wrote = if wrote then Some end.Wrote else None
end_of turned.Waited wrote = if wrote then Some end.Wrote else None
end_of turned.Ended wrote = Some end.Ended
end_of (turned.Trapped at kind) wrote = Some (end.Trapped at kind)

-- what a turn from a state to the later one means for the call
abbrev pub ComesTo : network.Machine Store → (s later : State Store) → Option RunEnd → Type 0
ComesTo m s later None = GoesOn m later × (later.out ≡ s.out)
ComesTo m s later (Some end.Ended) = EndsBy m s later end.Ended
ComesTo m s later (Some (end.Trapped at kind)) = EndsBy m s later (end.Trapped at kind)
ComesTo m s later (Some end.Spent) = ⊥
ComesTo m s later (Some end.Wrote) = EndsBy m s later end.Wrote
