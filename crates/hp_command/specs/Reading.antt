-- Which bytes are a script that is built, and how and where `run` refuses others.
use Rattle.std.specs.Prelude.{◌≡◌, ℕ, List, [], Option, Some, Err}
use Rattle.hp_word.specs.declared.place.Place.{Place}
use Rattle.hp_script.specs.declared.rule.Rule.{Rule}
use Rattle.hp_script.specs.declared.rule.Rule.TheVariants as rules
use Rattle.hp_script.specs.declared.typed.Typed.{Typed}
use Rattle.hp_script.specs.Mirror.{block_of}
use Rattle.hp_reader.specs.Reading.{Refuses, Fits}
use Rattle.hp_meaning.specs.Forms.{built}
use Rattle.hp_spmd.specs.declared.code.Code.{Code}
use Rattle.hp_lower.specs.Correct.{Runs}

-- the bytes that were read spell the script, which fits; where the bytes of the file are told, they spell it
pub record FitsFile (told : Option (List ℕ)) (typed : Typed) : Type 0 where
  pub read : List ℕ
  pub fits_read : Fits read typed
  pub fits_told : (bytes : List ℕ) → told ≡ Some bytes → Fits bytes typed

-- some script that fits is spelled by the file
pub record FitsWhereTold (told : Option (List ℕ)) : Type 0 where
  pub typed : Typed
  pub fits : FitsFile told typed

-- ---- runs

-- the bytes spell a script that fits, of which the statement at this place is the first that is not built
pub record FitsUnbuilt (bytes : List ℕ) (at : Place) : Type 0 where
  pub typed : Typed
  pub fits : Fits bytes typed
  pub not_built : built [] (block_of typed.script.body) ≡ Err at

-- The bytes are not run: they are refused, or a statement is not built.
pub data RefusesRun (bytes : List ℕ) (at : Place) : Rule → Type 0 where
  NoFit : {rule : Rule} → Refuses bytes at rule → RefusesRun bytes at rule
  NotBuilt : FitsUnbuilt bytes at → RefusesRun bytes at rules.NotBuilt

-- the code runs the script that the file spells, which fits
pub record IsCompiled (told : Option (List ℕ)) (code : Code) : Type 0 where
  pub script : FitsWhereTold told
  pub runs : Runs script.typed.script.body code
