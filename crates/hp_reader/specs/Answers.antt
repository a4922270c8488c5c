-- The answers of the reader.
use Rattle.std.specs.Prelude.{◌≡◌}
use Rattle.hp_word.specs.declared.place.Place.{Place}
use Rattle.hp_script.specs.declared.rule.Rule.{Rule}
use Rattle.hp_reader.specs.declared.error.ReadError.{ReadError}
use Rattle.hp_reader.specs.declared.error.ReadError.TheVariants as errors

-- the error is a refusal that is right, or memory was refused
abbrev pub RefusedBy : (Place → Rule → Type 0) → ReadError → Type 0
RefusedBy P (errors.Refused refusal) = P refusal.at refusal.rule
RefusedBy P errors.NoMemory = Unit {0}

abbrev pub IsNoMemory : ReadError → Type 0
IsNoMemory (errors.Refused refusal) = ⊥
IsNoMemory errors.NoMemory = Unit {0}

-- the error is this refusal, unless memory was refused
abbrev pub IsRefusal : Place → Rule → ReadError → Type 0
IsRefusal at rule (errors.Refused refusal) = (refusal.at ≡ at) × (refusal.rule ≡ rule)
IsRefusal at rule errors.NoMemory = Unit {0}
