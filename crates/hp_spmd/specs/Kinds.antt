-- The ten shapes of instructions: what each leaves to a rank.
use Rattle.std.specs.Prelude.{ℕ, Bool, true, false, Option}
use Rattle.hp_spmd.specs.declared.instr.Instr.{Instr}
use Rattle.hp_spmd.specs.declared.instr.Instr.TheVariants as instr
use Rattle.hp_spmd.specs.declared.instr.Output.{Output}
use Rattle.hp_spmd.specs.declared.instr.Packing.{Packing}
use Rattle.hp_spmd.specs.declared.instr.Unpacking.{Unpacking}

pub data Kind : Type 0 where
  -- it changes the rank's data, or traps
  Computes : Kind
  -- it goes to an instruction; where a word is named, only if that word is 0
  Jumps : (target : ℕ) → (unless : Option ℕ) → Kind
  Packs : Packing → Kind
  Posts : Kind
  Takes : Kind
  PostsRoot : Kind
  TakesRoot : Kind
  Unpacks : Unpacking → Kind
  Writes : Output → Kind
  Halts : Kind

-- a Post and a Take are to and from all ranks, or at the root
abbrev pub post_kind : (root : Bool) → Kind
post_kind false = Posts
post_kind true = PostsRoot

abbrev pub take_kind : (root : Bool) → Kind
take_kind false = Takes
take_kind true = TakesRoot

abbrev pub kind_of : Instr → Kind
kind_of (instr.Const to value) = Computes
kind_of (instr.Calc to op left right at) = Computes
kind_of (instr.Jump target unless) = Jumps target unless
kind_of instr.Halt = Halts
kind_of (instr.Length to array) = Computes
kind_of (instr.Check arrays rule at) = Computes
kind_of (instr.Fill to value count at) = Computes
kind_of (instr.Range to first last at) = Computes
kind_of (instr.Table to table) = Computes
kind_of (instr.Copy to from) = Computes
kind_of (instr.Loop l) = Computes
kind_of (instr.Scan to from start part) = Computes
kind_of (instr.At to array index at) = Computes
kind_of (instr.Pick to array index at) = Computes
kind_of (instr.Select to mask from) = Computes
kind_of (instr.Join j) = Computes
kind_of (instr.Group to from key measures) = Computes
kind_of (instr.Sort to from key) = Computes
kind_of (instr.Stack to from flat at) = Computes
kind_of (instr.Row to matrix index at) = Computes
kind_of (instr.Product to left right flip at) = Computes
kind_of (instr.Pack what) = Packs what
kind_of (instr.Post root) = post_kind root
kind_of (instr.Take root) = take_kind root
kind_of (instr.Unpack what) = Unpacks what
kind_of (instr.Write what) = Writes what

-- the instructions that a rank does alone
abbrev pub IsLocal : Kind → Type 0
IsLocal Computes = Unit {0}
IsLocal (Jumps target unless) = Unit {0}
IsLocal (Packs what) = Unit {0}
IsLocal Posts = ⊥
IsLocal Takes = ⊥
IsLocal PostsRoot = ⊥
IsLocal TakesRoot = ⊥
IsLocal (Unpacks what) = Unit {0}
IsLocal (Writes output) = ⊥
IsLocal Halts = ⊥
