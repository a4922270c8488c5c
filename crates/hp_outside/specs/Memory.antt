-- Files and a sink in memory: which of their calls fail, and what each call leaves.
use Rattle.std.specs.Prelude.{ℕ, ◌+◌, Bool, not, ◌&&◌, nat_le, ◌==◌, if◌then◌else◌, List, [], ◌∷◌, ◌++◌, length, Option, Some, None}
use Rattle.std.specs.List.{list_any}
use Rattle.std.specs.Str.{bytes_eq}
use Rattle.hp_outside.specs.Counts.{counted}
use Rattle.hp_outside.specs.declared.files.memory.MemFile.{MemFile}
use Rattle.hp_outside.specs.declared.files.memory.MemFiles.{MemFiles}

-- whether the call of this number is one that fails
abbrev pub fails_at : List ℕ → ℕ → Bool
fails_at failing call = list_any (λ number. number == call) failing

-- the bytes of the first file of a name
abbrev pub held_by : List MemFile → List ℕ → Option (List ℕ)
held_by [] name = None
held_by (file ∷ files) name = if bytes_eq file.name.bytes name then Some file.bytes else held_by files name

-- the bytes that the next read has to give from, unless it is one that fails or there is no such file
abbrev pub served : MemFiles → List ℕ → Option (List ℕ)
served store name = if fails_at store.failing (counted store.calls) then None else held_by store.files name

-- the files after a read of a name, which failed or did not
abbrev pub after_read : MemFiles → List ℕ → Bool → MemFiles
after_read store name fault = if fault
    then record store { calls = counted store.calls; faults = counted store.faults; failed = Some name }
    else record store { calls = counted store.calls }

-- A sink in memory: the bytes that it took, how many it has room for in all, the numbers of the
-- calls that fail, and how many calls and faults there were.
pub record SinkState : Type 0 where
  pub written : List ℕ
  pub room : ℕ
  pub failing : List ℕ
  pub calls : ℕ
  pub faults : ℕ

-- whether the next call takes a piece: it is not one that fails, and there is room for all of it
abbrev pub takes : SinkState → List ℕ → Bool
takes sink piece = not (fails_at sink.failing (counted sink.calls)) && nat_le (length sink.written + length piece) sink.room

-- the sink after a call with a piece
abbrev pub after_put : SinkState → List ℕ → SinkState
after_put sink piece = if takes sink piece
    then record sink { written = sink.written ++ piece; calls = counted sink.calls }
    else record sink { calls = counted sink.calls; faults = counted sink.faults }
