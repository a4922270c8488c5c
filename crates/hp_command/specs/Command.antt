-- The words of the command line.
use Rattle.std.specs.Prelude.{ℕ, ◌^◌, nat_le, ◌&&◌, Bool, if◌then◌else◌, Option, Some, None, List, [], ◌∷◌, length, codes, slice_index_or}
use Rattle.std.specs.Char.{is_ascii_digit}
use Rattle.std.specs.List.{list_all}
use Rattle.std.specs.Option.{option_map}
use Rattle.std.specs.Str.{bytes_eq}
use Rattle.std.specs.Str.Parse.{digits_value}

-- 1 to 20 decimal digits
abbrev pub is_number : List ℕ → Bool
is_number digits = list_all is_ascii_digit digits && (nat_le 1 (length digits) && nat_le (length digits) 20)

-- a number of the command line, at least the one bound and at most the other
abbrev pub number_in : ℕ → ℕ → List ℕ → Option ℕ
number_in least most digits =
    let value = digits_value 10 digits in
    if is_number digits && (nat_le least value && nat_le value most) then Some value else None

-- what the words of the command line ask for
pub data Asked : Type 0 where
  -- `check FILE`
  checks : Asked
  -- `seq FILE [--turns T]`: with so many loop turns, 1 to 2^26
  evaluates : (turns : ℕ) → Asked
  -- `run FILE --ranks N`: on so many ranks, 1 to 32
  runs : (ranks : ℕ) → Asked

-- the loop turns of `seq` where none are given, and the most
abbrev pub default_turns : ℕ
default_turns = 2 ^ 24

abbrev pub most_turns : ℕ
most_turns = 2 ^ 26

-- `check FILE` and `seq FILE`
abbrev pub asked_of_file : List ℕ → Option Asked
asked_of_file command =
    if bytes_eq command (codes "check") then Some checks else if bytes_eq command (codes "seq") then Some (evaluates default_turns) else None

-- `seq FILE --turns T` and `run FILE --ranks N`
abbrev pub asked_with : (command option number : List ℕ) → Option Asked
asked_with command option number =
    if bytes_eq command (codes "seq") && bytes_eq option (codes "--turns") then option_map evaluates (number_in 1 most_turns number)
    else if bytes_eq command (codes "run") && bytes_eq option (codes "--ranks") then option_map runs (number_in 1 32 number) else None

-- what words of a command's form ask for
abbrev pub asked_by : List (List ℕ) → Option Asked
asked_by (command ∷ file ∷ []) = asked_of_file command
asked_by (command ∷ file ∷ option ∷ number ∷ []) = asked_with command option number
asked_by words = None

-- the name FILE
abbrev pub file_of : List (List ℕ) → List ℕ
file_of words = slice_index_or words 1 []
