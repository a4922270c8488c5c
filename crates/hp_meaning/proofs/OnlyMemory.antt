-- Where a script has an end, only memory keeps it from being told.
use Rattle.std.proofs.Common.{◌≡◌, ◌≢◌, Option, Some, None, Result, Ok, Err, refl}
use Rattle.std.specs.Prelude.{IsSome, IfErr}
use Rattle.hp_word.specs.declared.place.Trap.{Trap}
use Rattle.hp_meaning.specs.declared.seen.Stop.{Stop}
use Rattle.hp_meaning.specs.declared.seen.Stop.TheVariants as stop
use Rattle.hp_meaning.specs.declared.seq.SeqEnd.{SeqEnd}
use Rattle.hp_meaning.specs.Run.{End}
use Rattle.hp_meaning.specs.Running.{EndsAs}

none_some : {A : Type 0} (o : Option A) → o ≡ None → IsSome o → ⊥
none_some None none some = absurd cc
none_some (Some a) none some = absurd cc

wrong_is_another : stop.Wrong ≢ stop.NoMemory
wrong_is_another e = cc

trap_is_another : (t : Trap) → stop.Trap t ≢ stop.NoMemory
trap_is_another t e = cc

pub only_memory : (end : Option End) (r : Result SeqEnd Stop) → EndsAs end r → IsSome end → IfErr r (λ e. e ≡ stop.NoMemory)
only_memory end (Ok a) ends some = tt
only_memory end (Err stop.NoMemory) ends some = refl
only_memory end (Err stop.Wrong) ends some = absurd (none_some end (ends wrong_is_another).1 some)
only_memory end (Err (stop.Trap t)) ends some = absurd (none_some end (ends (trap_is_another t)).1 some)
