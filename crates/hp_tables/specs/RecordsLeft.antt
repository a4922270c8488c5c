-- The records that the reader of a text has yet to give. Nobody need believe it: `Records::new` says that they are all
-- records of the text.
use denote.Ref.{Bor}
use Rattle.std.specs.Prelude.{◌≡◌, ◌+◌, ℕ, true, false, List, [], length, Option, Some, None, IsSome}
use Rattle.csv.specs.Reading.{Ready, default_config, has_failed, is_flexible, reader_config, reader_state, reader_trim, records_from, source_of}
use Rattle.csv.specs.declared.parser.State.{State}
use Rattle.csv.specs.declared.reader.Reader.{Reader}
use Rattle.csv.specs.declared.reader.Trim.TheVariants as trim

-- the records of a text, where it is known, from a state; there are never as many as are asked for
unfoldable pub left_from : State → Option (List ℕ) → List (List (List ℕ))
left_from state None = []
left_from state (Some text) = records_from default_config (length text + 2) state text

-- the text that is left, if the reader has not failed
abbrev pub text_left : Reader (Bor (List ℕ)) → Option (List ℕ)
text_left reader = source_of (λ s. Some s.now) reader

abbrev pub records_left : Reader (Bor (List ℕ)) → List (List (List ℕ))
records_left reader = left_from (reader_state reader) (text_left reader)

-- a reader of a text in memory with the default rules, which gives each record by itself
pub record IsGoing (reader : Reader (Bor (List ℕ))) : Type 0 where
  pub config : reader_config reader ≡ default_config
  pub untrimmed : reader_trim reader ≡ trim.None
  pub flexible : is_flexible reader ≡ true
  pub ready : Ready reader
  pub known : IsSome (text_left reader)

-- such a reader, or one that has failed
abbrev pub IsReading : Reader (Bor (List ℕ)) → Type 0
IsReading reader = has_failed reader ≡ false → IsGoing reader
