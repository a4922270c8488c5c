-- The form of exchanges: a Pack is directly followed by Post, Take and Unpack, or where it gathers for rank 0 by
-- Post and Take at the root and a Write; these stand nowhere else, and no Jump goes into an exchange. Behind a join or
-- aggregate that is logged stands the Pack of a size.
use Rattle.std.specs.Prelude.{◌≡◌, List, [], ◌∷◌}
use Rattle.hp_spmd.specs.declared.instr.Instr.{Instr}
use Rattle.hp_spmd.specs.declared.instr.Instr.TheVariants as instr
use Rattle.hp_spmd.specs.declared.instr.Packing.{Packing}
use Rattle.hp_spmd.specs.declared.instr.Packing.TheVariants.{Words, Sizes, Partial, Move, Hash, Gather}
use Rattle.hp_spmd.specs.declared.instr.Target.{Target}
use Rattle.hp_spmd.specs.declared.instr.Target.TheVariants.{Whole, Loose}
use Rattle.hp_spmd.specs.Kinds.{Kind, Computes, Jumps, Packs, Posts, Takes, PostsRoot, TakesRoot, Unpacks, Writes, Halts, kind_of}
use Rattle.hp_spmd.specs.Store.{instr_at}

-- how far an exchange has come between two instructions
pub data Phase : Type 0 where
  Outside : Phase
  Packed : Phase
  Posted : Phase
  Taken : Phase
  RootPacked : Phase
  RootPosted : Phase
  RootTaken : Phase

-- the phase in which an instruction of a shape may stand
abbrev pub wants : Kind → Phase
wants Computes = Outside
wants (Jumps target unless) = Outside
wants (Packs what) = Outside
wants Posts = Packed
wants Takes = Posted
wants PostsRoot = RootPacked
wants TakesRoot = RootPosted
wants (Unpacks what) = Taken
wants (Writes output) = RootTaken
wants Halts = Outside

-- the phase after a pack
abbrev pub packs : Packing → Phase
packs (Words ws) = Packed
packs (Sizes loose) = Packed
packs (Partial loose) = Packed
packs (Move arrays need) = Packed
packs (Hash arrays key) = Packed
packs (Gather output) = RootPacked

-- the phase after an instruction of a shape
abbrev pub leaves : Kind → Phase
leaves Computes = Outside
leaves (Jumps target unless) = Outside
leaves (Packs what) = packs what
leaves Posts = Posted
leaves Takes = Taken
leaves PostsRoot = RootPosted
leaves TakesRoot = RootTaken
leaves (Unpacks what) = Outside
leaves (Writes output) = Outside
leaves Halts = Outside

-- the instructions lead from one phase to another, each standing in its own
abbrev pub LeadsPhase : Phase → List Instr → Phase → Type 0
LeadsPhase s [] t = s ≡ t
LeadsPhase s (i ∷ is) t = (s ≡ wants (kind_of i)) × LeadsPhase (leaves (kind_of i)) is t

-- a jump goes to an instruction outside of exchanges
abbrev pub JumpsOutside : List Instr → Kind → Type 0
JumpsOutside list Computes = Unit {0}
JumpsOutside list (Jumps target unless) = wants (kind_of (instr_at list target)) ≡ Outside
JumpsOutside list (Packs what) = Unit {0}
JumpsOutside list Posts = Unit {0}
JumpsOutside list Takes = Unit {0}
JumpsOutside list PostsRoot = Unit {0}
JumpsOutside list TakesRoot = Unit {0}
JumpsOutside list (Unpacks what) = Unit {0}
JumpsOutside list (Writes output) = Unit {0}
JumpsOutside list Halts = Unit {0}

-- each jump among some instructions of a list does
abbrev pub AllJumpOutside : (list some : List Instr) → Type 0
AllJumpOutside list [] = Unit {0}
AllJumpOutside list (i ∷ is) = JumpsOutside list (kind_of i) × AllJumpOutside list is

-- the pack of a size
abbrev pub PacksSize : Instr → Type 0
PacksSize (instr.Pack (Sizes loose)) = Unit {0}
PacksSize i = ⊥

-- where rows go that are each rank's own, the next instruction packs how many they are
abbrev pub SizeBehind : Target → (next : Instr) → Type 0
SizeBehind (Whole arrays) next = Unit {0}
SizeBehind (Loose columns) next = PacksSize next

abbrev pub IsSized : Instr → (next : Instr) → Type 0
IsSized (instr.Join j) next = SizeBehind j.to next
IsSized (instr.Group to from key measures) next = SizeBehind to next
IsSized i next = Unit {0}

-- A join or aggregate that ranks log is directly followed by the pack of its rows' number: a rank that is past it has got
-- word from all ranks, so each of them has logged it.
abbrev pub SizesFollow : List Instr → Type 0
SizesFollow [] = Unit {0}
SizesFollow (i ∷ is) = IsSized i (instr_at is 0) × SizesFollow is

-- a whole code has the form
pub record HasForm (list : List Instr) : Type 0 where
  pub leads : LeadsPhase Outside list Outside
  pub jumps : AllJumpOutside list list
  pub sizes : SizesFollow list
