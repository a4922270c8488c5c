-- What a call to the outside does: what it takes, and what it says where it fails.
use Rattle.std.specs.Prelude.{◌≡◌, ℕ, ◌<◌, ◌≤◌, ◌⊎◌, Bool, true, false, List, ◌++◌, Option, Some, None, Result, Ok, Err}
use Rattle.std.specs.Bool.{OnTrue, OnFalse}
use Rattle.hp_outside.specs.Counts.{last_count}
use Rattle.hp_outside.specs.declared.files.FileError.{FileError}
use Rattle.hp_outside.specs.declared.files.FileError.TheVariants.{Failed, NoMemory}

-- the count of faults rose, or stands at its last value, from which it can't rise
abbrev pub Rose : ℕ → ℕ → Type 0
Rose before now = (before < now) ⊎ (now ≡ last_count)

-- A fault is told only where the count of faults rose, and any other answer leaves the count.
pub record HasCause (before now : ℕ) (is_fault : Bool) : Type 0 where
  pub later : before ≤ now
  pub failed : OnTrue is_fault (Rose before now)
  pub kept : OnFalse is_fault (now ≡ before)

-- whether a read answered that the outside failed, and not that memory was refused
abbrev pub is_fault : {T : Type 0} → Result T FileError → Bool
is_fault (Ok x) = false
is_fault (Err Failed) = true
is_fault (Err NoMemory) = false

-- what was written and these bytes after it, where it is told what was written
abbrev pub grown : Option (List ℕ) → List ℕ → Option (List ℕ)
grown None taken = None
grown (Some bytes) taken = Some (bytes ++ taken)

-- a sink took these bytes, and no others
abbrev pub Grew : Option (List ℕ) → Option (List ℕ) → List ℕ → Type 0
Grew old new taken = new ≡ grown old taken
