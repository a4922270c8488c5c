-- Pieces that are shared as their distribution says, and lists of them.
use Rattle.std.proofs.Common.{◌≡◌, ◌∙◌, refl, sym, subst, ap, arith, ℕ, zero, suc, ◌-◌, ◌<◌, ◌≤◌, List, [], ◌∷◌, length, drop, get_or, set, one-mul, inl, inr}
use Rattle.std.specs.Prelude.{ℤ}
use Rattle.std.proofs.lemmas.List.{length-take, length-drop}
use Rattle.std.proofs.lemmas.List.FromFn.{length-map-range_with_len}
use Rattle.hp_lattice.specs.declared.dist.Dist.{Dist}
use Rattle.hp_lattice.specs.declared.dist.Dist.TheVariants.{Rep, Var, Block}
use Rattle.hp_spmd.specs.declared.store.Piece.{Piece}
use Rattle.hp_cuts.specs.Blocks.{block_start, block_cuts}
use Rattle.hp_spmd.specs.Cuts.{first_cuts, own_from, own_until}
use Rattle.hp_spmd.specs.Layout.{Rises, MayCut, IsShared, AreShared}
use Rattle.hp_spmd.specs.Loops.{cut_as}
use Rattle.hp_spmd.specs.Spread.{LiesAs}
use Rattle.hp_spmd.specs.Store.{piece_at, dist_at, piece_of, dealt}
use Rattle.hp_cuts.proofs.BlockLemmas.{start_begin, start_end, start_rises}
use Rattle.hp_spmd.proofs.LocalCuts.{block_cuts_at, kept_part, own_until_within}

-- ---- cuts of blocks

-- one for each rank and one behind them
pub block_cuts_count : (len ranks : ℕ) → length (block_cuts len ranks) ≡ suc ranks
unfolding block_cuts
block_cuts_count len ranks = length-map-range_with_len (λ r. block_start r len ranks) 0 (suc ranks)

block_cuts_step : (k len ranks : ℕ) → k < ranks → get_or (block_cuts len ranks) k 0 ≤ get_or (block_cuts len ranks) (suc k) 0
block_cuts_step k len ranks h =
    let at_k = block_cuts_at k len ranks (omega arith) in
    let at_next = block_cuts_at (suc k) len ranks (omega arith) in
    let rises = start_rises k (suc k) len ranks (omega arith) in
    omega (arith, at_k, at_next, rises)

-- blocks are pieces of some lengths
pub block_cuts_rise : (len ranks : ℕ) → 1 ≤ ranks → Rises (block_cuts len ranks) len ranks
block_cuts_rise len ranks some =
    record {
      count = block_cuts_count len ranks;
      first = block_cuts_at 0 len ranks (omega arith) ∙ start_begin len ranks;
      last = block_cuts_at ranks len ranks (omega arith) ∙ start_end len ranks some;
      rises = λ k h. block_cuts_step k len ranks h;
    }

-- the first cuts are some that an array of its length may have
pub first_cuts_may : (dist : Dist) (len ranks : ℕ) → 1 ≤ ranks → MayCut dist len ranks (first_cuts dist len ranks)
first_cuts_may Rep len ranks some = refl
first_cuts_may Var len ranks some = block_cuts_rise len ranks some
first_cuts_may Block len ranks some = refl

-- ---- pieces

-- the rank's piece of a whole vector that is dealt out
pub dealt_shared : (dist : Dist) (number ranks : ℕ) (whole : List ℤ) → 1 ≤ ranks → number < ranks → IsShared dist ranks number (dealt dist number ranks whole)
unfolding piece_of
dealt_shared dist number ranks whole some below =
    let cuts = first_cuts dist (length whole) ranks in
    let from = own_from dist cuts number in
    let until = own_until dist cuts number in
    let within = own_until_within dist number ranks (length whole) below in
    let cells = ap length (kept_part from until whole) ∙ length-take (until - from) (drop from whole) in
    let rest = length-drop from whole in
    record {
      some = omega arith;
      len = length whole;
      cut = first_cuts_may dist (length whole) ranks some;
      filled = omega (arith, cells, rest, within, one-mul (until - from));
    }

-- a piece with the rows and the cuts of another one and as many own cells
pub same_cuts_shared : (dist : Dist) (ranks number : ℕ) (p : Piece) (cells : List ℤ) → length cells ≡ length p.cells → IsShared dist ranks number p → IsShared dist ranks number (cut_as p cells)
same_cuts_shared dist ranks number p cells e h = record { some = h.some; len = h.len; cut = h.cut; filled = e ∙ h.filled }

blocks_in_pieces : (ranks number : ℕ) (p : Piece) → 1 ≤ ranks → IsShared Block ranks number p → IsShared Var ranks number p
blocks_in_pieces ranks number p some h = record { some = h.some; len = h.len; cut = subst (λ cuts. Rises cuts h.len ranks) (sym h.cut) (block_cuts_rise h.len ranks some); filled = h.filled }

-- a piece that is shared by one distribution is so by each that may have its cuts
pub lies_shared : (from to : Dist) (ranks number : ℕ) (p : Piece) → 1 ≤ ranks → LiesAs from to → IsShared from ranks number p → IsShared to ranks number p
lies_shared from to ranks number p some (inl same) h = subst (λ d. IsShared d ranks number p) (sym same) h
lies_shared from to ranks number p some (inr pieces) h =
    subst (λ d. IsShared d ranks number p) (sym pieces.1) (blocks_in_pieces ranks number p some (subst (λ d. IsShared d ranks number p) pieces.0 h))

-- ---- lists of pieces

-- each piece of a store that is shared is so by its own distribution
pub shared_at : (dists : List Dist) (ranks number : ℕ) (pieces : List Piece) (k : ℕ) → AreShared dists ranks number pieces → k < length dists → IsShared (dist_at dists k) ranks number (piece_at pieces k)
shared_at [] ranks number pieces k h l = absurd (omega (arith, l))
shared_at (d ∷ ds) ranks number [] k h l = absurd h
shared_at (d ∷ ds) ranks number (p ∷ ps) zero h l = h.0
shared_at (d ∷ ds) ranks number (p ∷ ps) (suc k) h l = let l' : k < length ds = omega (arith, l) in shared_at ds ranks number ps k h.1 l'

-- a piece that is set is shared; one past the end is not set
pub set_shared : (dists : List Dist) (ranks number : ℕ) (pieces : List Piece) (k : ℕ) (piece : Piece) → AreShared dists ranks number pieces → IsShared (dist_at dists k) ranks number piece → AreShared dists ranks number (set pieces k piece)
set_shared [] ranks number [] k piece h is = tt
set_shared [] ranks number (p ∷ ps) k piece h is = absurd h
set_shared (d ∷ ds) ranks number [] k piece h is = absurd h
set_shared (d ∷ ds) ranks number (p ∷ ps) zero piece h is = (is, h.1)
set_shared (d ∷ ds) ranks number (p ∷ ps) (suc k) piece h is = (h.0, set_shared ds ranks number ps k piece h.1 is)
