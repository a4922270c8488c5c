-- What a code must say so that its arrays stay shared, and how they are shared in a run.
use Rattle.std.specs.Prelude.{ℕ, ◌≡◌, ◌<◌, ◌⊎◌, Bool, true, false, List, [], ◌∷◌, All}
use Rattle.hp_spmd.specs.declared.code.Code.{Code}
use Rattle.hp_lattice.specs.declared.dist.Dist.{Dist}
use Rattle.hp_lattice.specs.declared.dist.Dist.TheVariants.{Rep, Var, Block}
use Rattle.hp_spmd.specs.declared.instr.Instr.{Instr}
use Rattle.hp_spmd.specs.declared.instr.Instr.TheVariants as instr
use Rattle.hp_spmd.specs.declared.instr.Unpacking.{Unpacking}
use Rattle.hp_spmd.specs.declared.instr.Unpacking.TheVariants.{Folds, Below, Seal, Total, Moved, Halo, Into, Glued, Got}
use Rattle.hp_spmd.specs.declared.instr.Target.{Target}
use Rattle.hp_spmd.specs.declared.instr.Target.TheVariants.{Whole, Loose}
use Rattle.hp_spmd.specs.declared.store.Store.{Store}
use Rattle.hp_spmd.specs.Layout.{Share}
use Rattle.hp_spmd.specs.Store.{dist_at}

-- An array may have the cuts of another one: it has that one's distribution, or lies in pieces of any lengths where that
-- one lies in blocks, since blocks are such pieces.
abbrev pub LiesAs : (from to : Dist) → Type 0
LiesAs from to = (to ≡ from) ⊎ ((from ≡ Block) × (to ≡ Var))

-- each copy may have the cuts of what it is a copy of
abbrev pub CopyAlike : List Dist → (to from : List ℕ) → Type 0
CopyAlike dists [] from = Unit {0}
CopyAlike dists (t ∷ to) [] = Unit {0}
CopyAlike dists (t ∷ to) (f ∷ from) = LiesAs (dist_at dists f) (dist_at dists t) × CopyAlike dists to from

-- An unpack that makes no array. What the others make is shared only where the messages are so, which no store tells.
abbrev pub LeavesArrays : Unpacking → Type 0
LeavesArrays (Folds list) = Unit {0}
LeavesArrays (Below to) = Unit {0}
LeavesArrays (Seal to loose at) = ⊥
LeavesArrays (Total to left) = ⊥
LeavesArrays (Moved to from need) = ⊥
LeavesArrays (Halo to array reach) = Unit {0}
LeavesArrays (Into to) = Unit {0}
LeavesArrays (Glued to loose left right) = ⊥
LeavesArrays (Got columns) = Unit {0}

-- arrays that may all have the cuts of one that lies so; where that one is replicated, so are they
abbrev pub AllLie : List Dist → Dist → List ℕ → Type 0
AllLie dists dist arrays = All (λ k. LiesAs dist (dist_at dists k)) arrays

-- the arrays that are made, if it is arrays, may have the cuts of one that lies so
abbrev pub Lies : List Dist → Dist → Target → Type 0
Lies dists dist (Whole arrays) = AllLie dists dist arrays
Lies dists dist (Loose columns) = Unit {0}

abbrev pub IsReplicated : List Dist → Target → Type 0
IsReplicated dists to = Lies dists Rep to

-- a matrix may have the cuts of the first of its rows, and arrays end to end are replicated
abbrev pub StacksAlike : List Dist → ℕ → List ℕ → (flat : Bool) → Type 0
StacksAlike dists to from true = dist_at dists to ≡ Rep
StacksAlike dists to [] false = ⊥
StacksAlike dists to (f ∷ from) false = LiesAs (dist_at dists f) (dist_at dists to)

-- a product may have the cuts of its right side, and that with one transposed is replicated
abbrev pub ProductsAlike : List Dist → Target → (right : ℕ) → (flip : Bool) → Type 0
ProductsAlike dists to right false = Lies dists (dist_at dists right) to
ProductsAlike dists to right true = IsReplicated dists to

-- What the cuts of an instruction's results need of the code. What gets the cuts of another array may have them: the outs
-- of a loop those of the leader, copies and running sums those of what they are made of, picked elements those of the
-- positions, a matrix those of its first row, a row those of its matrix, a product those of its right side. Rows that are
-- whole on each rank are replicated. The cuts of a fill, a range and a table are those of their own distribution. An unpack
-- makes no array.
abbrev pub SpreadsWell : List Dist → Instr → Type 0
SpreadsWell dists (instr.Loop l) = All (λ o. LiesAs (dist_at dists l.leader) (dist_at dists o.array)) l.outs
SpreadsWell dists (instr.Copy to from) = CopyAlike dists to from
SpreadsWell dists (instr.Scan to from start part) = LiesAs (dist_at dists from) (dist_at dists to)
SpreadsWell dists (instr.Pick to array index at) = LiesAs (dist_at dists index) (dist_at dists to)
SpreadsWell dists (instr.Select to mask from) = IsReplicated dists to
SpreadsWell dists (instr.Join j) = IsReplicated dists j.to
SpreadsWell dists (instr.Group to from key measures) = IsReplicated dists to
SpreadsWell dists (instr.Sort to from key) = AllLie dists Rep to
SpreadsWell dists (instr.Stack to from flat at) = StacksAlike dists to from flat
SpreadsWell dists (instr.Row to matrix index at) = LiesAs (dist_at dists matrix) (dist_at dists to)
SpreadsWell dists (instr.Product to left right flip at) = ProductsAlike dists to right flip
SpreadsWell dists (instr.Unpack what) = LeavesArrays what
SpreadsWell dists i = Unit {0}

-- each instruction of a list meets this
abbrev pub Spreads : List Dist → List Instr → Type 0
Spreads dists [] = Unit {0}
Spreads dists (i ∷ is) = SpreadsWell dists i × Spreads dists is

-- the store of one rank among so many, with its arrays shared so
pub record IsPlaced (code : Code) (ranks : ℕ) (x : Store) : Type 0 where
  pub ranks_are : x.ranks ≡ ranks
  pub number_below : x.number < ranks
  pub shared : Share code x
