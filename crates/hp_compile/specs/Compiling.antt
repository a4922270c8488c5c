-- What a script is compiled to.
use Rattle.std.specs.Prelude.{◌≡◌, ℕ, ◌≤◌, List}
use Rattle.hp_lattice.specs.declared.dist.Dists.{Dists}
use Rattle.hp_meaning.specs.Fitting.{Serves as GoWith}
use Rattle.hp_parfor.specs.declared.parfors.Parfors.{Parfors}
use Rattle.hp_parfor.specs.Parts.{program_of}
use Rattle.hp_script.specs.declared.typed.Typed.{Typed}
use Rattle.hp_spmd.specs.declared.code.Code.{Code}
use Rattle.hp_spmd.specs.Exchanges.{HasForm}
use Rattle.hp_lowering.specs.CodeOf.{code_list}
use Rattle.hp_lowering.specs.Follows.{Follows}
use Rattle.hp_lowering.specs.Room.{code_arrays, code_loose, code_words}
use Rattle.hp_compile.specs.HeadlineLaws.{HoldsOnRanks}
use Rattle.hp_compile.specs.Meant.{Ranks}

-- The code of all ranks for a program with loops that lies so: the code of each of its steps, with branches and loops of steps as
-- jumps; it has the form of exchanges, and its loops, and what it sends, are the program's.
pub record IsCodeOf (parfors : Parfors) (dists : Dists) (code : Code) : Type 0 where
  pub list : code.list ≡ code_list parfors.slots parfors.words (program_of parfors.body) dists.list
  pub words : code.words ≡ code_words parfors.words
  pub arrays : code.arrays ≡ code_arrays parfors.slots (program_of parfors.body) dists.list
  pub loose : code.loose ≡ code_loose (program_of parfors.body)
  pub form : HasForm code.list
  pub follows : Follows code parfors.slots parfors.words (program_of parfors.body) dists.list

-- Ranks that run a compiled script: 1 to 32 of them, of its code, over tables that go with its files, with any room of the queues.
pub record RunScript (typed : Typed) (code : Code) (r : Ranks) : Type 0 where
  pub some : 1 ≤ r.count
  pub few : r.count ≤ 32
  pub same : r.code ≡ code
  pub tables : GoWith r.tables.list typed.reads

-- What the headline says holds of all such ranks, after any turns.
abbrev pub RanksRunScript : Typed → Dists → Code → Type 0
RanksRunScript typed dists code = (r : Ranks) (turns : List ℕ) → RunScript typed code r → HoldsOnRanks typed dists.list r turns
