-- The order of distributions: whole on each rank, below pieces of any lengths, below even blocks.
use Rattle.std.specs.Prelude.{◌≡◌, Bool, true, false, if◌then◌else◌, IsTrue, refl}
use Rattle.hp_lattice.specs.declared.dist.Dist.{Dist}
use Rattle.hp_lattice.specs.declared.dist.Dist.TheVariants.{Rep, Var, Block}

-- the first is at most the second
abbrev pub is_below : Dist → Dist → Bool
is_below Rep b = true
is_below Var Rep = false
is_below Var Var = true
is_below Var Block = true
is_below Block Rep = false
is_below Block Var = false
is_below Block Block = true

-- the lesser of two, which is the greatest that is at most both
abbrev pub met : Dist → Dist → Dist
met a b = if is_below a b then a else b

-- whole stays whole; what lies in pieces may lie in blocks
abbrev pub raised : Dist → Dist
raised Rep = Rep
raised Var = Block
raised Block = Block

-- `c` is at most both, and whatever is at most both is at most `c`
pub record IsGreatestBelow (a b c : Dist) : Type 0 where
  pub first : IsTrue (is_below c a)
  pub second : IsTrue (is_below c b)
  pub greatest : (d : Dist) → IsTrue (is_below d a) → IsTrue (is_below d b) → IsTrue (is_below d c)

-- ---- worked rows

-- an array in even blocks and one in uneven pieces can both lie in uneven pieces, and in nothing greater
met_row : met Block Var ≡ Var
met_row = refl

raised_row : raised Var ≡ Block
raised_row = refl
