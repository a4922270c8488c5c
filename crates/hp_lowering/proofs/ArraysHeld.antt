-- What a program's arrays are on the ranks, and how they lie there.
use Rattle.std.proofs.Common.{◌≡◌, ◌∙◌, refl, sym, subst, ap, true, false, ℕ, ◌<◌}
use Rattle.std.specs.Prelude.{◌&&◌}
use Rattle.std.specs.Bool.{IsTrue}
use Rattle.std.proofs.lemmas.Bool.{false≢true}
use Rattle.hp_lattice.specs.declared.dist.Dist.{Dist}
use Rattle.hp_lattice.specs.declared.dist.Dist.TheVariants.{Rep, Var, Block}
use Rattle.hp_lattice.specs.Lattice.{is_below, raised}
use Rattle.hp_spmd.specs.Layout as layout
use Rattle.hp_parfor.specs.LoopMeaning.{is_rep}
use Rattle.hp_air.specs.Wholes as wholes
use Rattle.hp_air.specs.Wholes.{Vector, Grid, cells}
use Rattle.hp_snippet.specs.Holds.{IsCut}
use Rattle.hp_lowering.specs.Room.{Room}
use Rattle.hp_lowering.specs.Standing.{IsArray, IsOf, whole_of}
use Rattle.hp_lowering.proofs.CarriesArrays.{cells_are}

-- ---- what they are

array_is : (w : wholes.Whole) → IsArray w → whole_of w ≡ layout.vector (cells w)
array_is (Vector xs) is = refl
array_is (Grid m) is = absurd is

-- the ranks' pieces of a slot are pieces of its elements
pub cells_held : (room : Room) (k : ℕ) (e : wholes.Env) (f : layout.Env) → IsOf room e f → k < room.slots → (f.arrays k).cells ≡ cells (e.slots k)
cells_held room k e f h lt = ap (λ (w : layout.Whole). w.cells) (h.slots k lt) ∙ cells_are (e.slots k)

-- those of one that is no matrix are pieces of a vector
pub vector_held : (room : Room) (k : ℕ) (e : wholes.Env) (f : layout.Env) → IsOf room e f → k < room.slots → room.matrix k ≡ false → f.arrays k ≡ layout.vector (cells (e.slots k))
vector_held room k e f h lt none = h.slots k lt ∙ array_is (e.slots k) (h.arrays k lt none)

pub one_row : (room : Room) (k : ℕ) (e : wholes.Env) (f : layout.Env) → IsOf room e f → k < room.slots → room.matrix k ≡ false → (f.arrays k).rows ≡ 1
one_row room k e f h lt none = ap (λ (w : layout.Whole). w.rows) (vector_held room k e f h lt none)

-- ---- how they lie

pub at_most_whole : (d : Dist) → IsTrue (is_below d Rep) → d ≡ Rep
at_most_whole Rep le = refl
at_most_whole Var le = absurd (false≢true le)
at_most_whole Block le = absurd (false≢true le)

pub is_whole_on_each : (d : Dist) → is_rep d ≡ true → d ≡ Rep
is_whole_on_each Rep is = refl
is_whole_on_each Var is = absurd (false≢true is)
is_whole_on_each Block is = absurd (false≢true is)

-- of two that lie alike, where not both are whole on each rank
pub both_cut : (a b : Dist) → a ≡ b → (is_rep a && (is_rep b && true)) ≡ false → IsCut b
both_cut a Var same not_all = tt
both_cut a Block same not_all = tt
both_cut a Rep same not_all = absurd (false≢true (sym (subst (λ d. (is_rep d && (true && true)) ≡ false) same not_all)))

-- of three that may be dealt out as each other, where not all are whole on each rank
pub record AreCut (out left right : Dist) : Type 0 where
  pub out_cut : IsCut out
  pub left_cut : IsCut left
  pub right_cut : IsCut right

-- what may be dealt out as an array that is whole on each rank is whole, too
whole_as : (a : Dist) → IsTrue (is_below a (raised Rep)) → is_rep a ≡ true
whole_as Rep le = refl
whole_as Var le = absurd (false≢true le)
whole_as Block le = absurd (false≢true le)

-- and what a cut array may be dealt out as is cut
cut_as_well : (a b : Dist) → IsCut a → IsTrue (is_below a (raised b)) → IsCut b
cut_as_well a Var is le = tt
cut_as_well a Block is le = tt
cut_as_well Rep Rep is le = absurd is
cut_as_well Var Rep is le = absurd (false≢true le)
cut_as_well Block Rep is le = absurd (false≢true le)

pub all_cut : (out left right : Dist) → IsTrue (is_below out (raised left)) → IsTrue (is_below out (raised right)) → IsTrue (is_below left (raised out)) → IsTrue (is_below right (raised out))
    → (is_rep out && (is_rep left && (is_rep right && true))) ≡ false → AreCut out left right
all_cut Rep left right a b c d not_all = absurd (false≢true (sym not_all ∙ (λ i. whole_as left c i && (whole_as right d i && true))))
all_cut Var left right a b c d not_all = record { out_cut = tt; left_cut = cut_as_well Var left tt a; right_cut = cut_as_well Var right tt b }
all_cut Block left right a b c d not_all = record { out_cut = tt; left_cut = cut_as_well Block left tt a; right_cut = cut_as_well Block right tt b }
