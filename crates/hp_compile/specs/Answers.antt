-- The answers of a compilation: a script that ranks can run, or why there is none.
use Rattle.std.specs.Prelude.{◌≡◌, ℕ, List, Option, Some, None, Result, Ok, Err}
use Rattle.hp_word.specs.declared.place.Place.{Place}
use Rattle.hp_script.specs.declared.typed.Typed.{Typed}
use Rattle.hp_built.specs.Ranks.{for_ranks}
use Rattle.hp_built.specs.Unbuilt.{first_unbuilt}
use Rattle.hp_reader.specs.Reading.{Fits, Refuses}
use Rattle.hp_compile.specs.declared.error.CompileError.{CompileError}
use Rattle.hp_compile.specs.declared.error.CompileError.TheVariants as errors

-- the bytes spell a script that fits, of which all constructs can be run by ranks
pub record FitsRanks (bytes : List ℕ) (typed : Typed) : Type 0 where
  pub fits : Fits bytes typed
  pub built : first_unbuilt for_ranks typed ≡ None

-- the bytes spell a script that fits, in which this is the first place of a construct that ranks cannot run yet
pub record IsUnbuilt (bytes : List ℕ) (at : Place) : Type 0 where
  pub typed : Typed
  pub fits : Fits bytes typed
  pub first : first_unbuilt for_ranks typed ≡ Some at

-- why there is no program; want of memory says nothing of the bytes
abbrev pub Explains : List ℕ → CompileError → Type 0
Explains bytes (errors.Refused refusal) = Refuses bytes refusal.at refusal.rule
Explains bytes (errors.NotBuilt at) = IsUnbuilt bytes at
Explains bytes errors.NoMemory = Unit {0}
