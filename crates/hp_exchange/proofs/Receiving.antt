-- That an array to which another one is moved may have the cuts of the need, and that these are what each rank needs.
use Rattle.std.proofs.Common.{◌≡◌, ◌∙◌, refl, sym, subst, ap, arith, inl, inr, ℕ, suc, ◌<◌, ◌≤◌, min, List, length, get_or}
use Rattle.std.specs.List.{All}
use Rattle.hp_lattice.specs.declared.dist.Dist.{Dist}
use Rattle.hp_lattice.specs.declared.dist.Dist.TheVariants.{Rep, Var, Block}
use Rattle.hp_spmd.specs.declared.code.Code.{Code}
use Rattle.hp_spmd.specs.declared.instr.Need.TheVariants.{Like, Blocks, Whole}
use Rattle.hp_spmd.specs.declared.store.Piece.{Piece}
use Rattle.hp_spmd.specs.declared.store.Store.{Store}
use Rattle.hp_cuts.specs.Blocks.{block_cuts}
use Rattle.hp_spmd.specs.Cuts.{own_from, own_until}
use Rattle.hp_spmd.specs.Layout.{Env, Layout, MayCut, Rises}
use Rattle.hp_spmd.specs.Needs.{need_cuts, need_span}
use Rattle.hp_spmd.specs.Scalars.{greatest_count}
use Rattle.hp_spmd.specs.Spread.{LiesAs}
use Rattle.hp_spmd.specs.Store.{dist_at, piece_at}
use Rattle.hp_spmd.proofs.LocalCuts.{block_cuts_at}
use Rattle.hp_spmd.proofs.ShareCuts.{block_cuts_rise}
use Rattle.hp_snippet.specs.Holds.{IsCut}
use Rattle.hp_snippet.specs.Moves.{columns_of}
use Rattle.hp_snippet.proofs.MoveParts.{columns_seen, own_bounds}
use Rattle.hp_snippet.proofs.Moving.{Receives}

-- ---- the cuts of another array

lies_may : (from to : Dist) (cuts : List ℕ) (len n : ℕ) → 1 ≤ n → LiesAs from to → MayCut from len n cuts → MayCut to len n cuts
lies_may from to cuts len n some (inl same) h = subst (λ d. MayCut d len n cuts) (sym same) h
lies_may from to cuts len n some (inr pieces) h =
    let is : cuts ≡ block_cuts len n = subst (λ d. MayCut d len n cuts) pieces.0 h in
    subst (λ d. MayCut d len n cuts) (sym pieces.1) (subst (λ c. Rises c len n) (sym is) (block_cuts_rise len n some))

lies_from : (from to : Dist) (cuts : List ℕ) (r : ℕ) → LiesAs from to → own_from to cuts r ≡ own_from from cuts r
lies_from from to cuts r (inl same) = ap (λ d. own_from d cuts r) same
lies_from from to cuts r (inr pieces) = ap (λ d. own_from d cuts r) pieces.1 ∙ sym (ap (λ d. own_from d cuts r) pieces.0)

lies_until : (from to : Dist) (cuts : List ℕ) (r : ℕ) → LiesAs from to → own_until to cuts r ≡ own_until from cuts r
lies_until from to cuts r (inl same) = ap (λ d. own_until d cuts r) same
lies_until from to cuts r (inr pieces) = ap (λ d. own_until d cuts r) pieces.1 ∙ sym (ap (λ d. own_until d cuts r) pieces.0)

-- as the first rank sees the leader, whose cuts are some that an array of so many columns may have
like_receives : (dists : List Dist) (leader to : ℕ) (pieces : List Piece) (columns n : ℕ) → 1 ≤ n → columns ≤ greatest_count → LiesAs (dist_at dists leader) (dist_at dists to)
    → MayCut (dist_at dists leader) columns n (piece_at pieces leader).cuts → Receives (dist_at dists to) dists (Like leader) pieces columns n
unfolding need_cuts need_span
like_receives dists leader to pieces columns n some short lies may =
    let from = dist_at dists leader in
    let cuts = (piece_at pieces leader).cuts in
    record {
      may = lies_may from (dist_at dists to) cuts columns n some lies may;
      from = λ r lt.
          let bounds = own_bounds from cuts columns n some may r lt in
          let rises = bounds.0 in
          let within = bounds.1 in
          let still : own_from from cuts r ≡ min (own_from from cuts r) greatest_count = omega (arith, rises, within, short) in
          lies_from from (dist_at dists to) cuts r lies ∙ still;
      until = λ r lt.
          let bounds = own_bounds from cuts columns n some may r lt in
          let within = bounds.1 in
          let still : own_until from cuts r ≡ min (own_until from cuts r) greatest_count = omega (arith, within, short) in
          lies_until from (dist_at dists to) cuts r lies ∙ still;
    }

pub receives_like : (code : Code) (ranks : List Store) (env : Env) (l : Layout code ranks env) (array leader to : ℕ) (d : Store) (lt : array < length code.arrays) → leader < length code.arrays → 1 ≤ length ranks → (l.arrays array lt).columns ≤ greatest_count
    → LiesAs (dist_at code.arrays leader) (dist_at code.arrays to) → All (λ x. columns_of (piece_at x.arrays array) ≡ columns_of (piece_at x.arrays leader)) ranks
    → Receives (dist_at code.arrays to) code.arrays (Like leader) (get_or ranks 0 d).arrays (l.arrays array lt).columns (length ranks)
receives_like code ranks env l array leader to d lt ld some short lies same =
    let x = get_or ranks 0 d in
    let first : 0 < length ranks = omega (arith, some) in
    let led = l.arrays leader ld in
    let columns = (l.arrays array lt).columns in
    let equal : led.columns ≡ columns = sym (columns_seen code ranks env l some leader ld 0 d first) ∙ sym (same 0 d first) ∙ columns_seen code ranks env l some array lt 0 d first in
    like_receives code.arrays leader to x.arrays columns (length ranks) some short lies
    (subst (MayCut (dist_at code.arrays leader) columns (length ranks)) (sym (led.held 0 d first).cuts_are)
    (subst (λ c. MayCut (dist_at code.arrays leader) c (length ranks) (l.cuts leader)) equal led.may))

-- ---- blocks

pub receives_blocks : (dist : Dist) (dists : List Dist) (pieces : List Piece) (columns n : ℕ) → 1 ≤ n → IsCut dist → Receives dist dists Blocks pieces columns n
unfolding need_cuts need_span
receives_blocks Rep dists pieces columns n some cut = absurd cut
receives_blocks Var dists pieces columns n some cut =
    record { may = block_cuts_rise columns n some; from = λ r lt. let le : r ≤ n = omega (arith, lt) in block_cuts_at r columns n le; until = λ r lt. block_cuts_at (suc r) columns n lt }
receives_blocks Block dists pieces columns n some cut =
    record { may = refl; from = λ r lt. let le : r ≤ n = omega (arith, lt) in block_cuts_at r columns n le; until = λ r lt. block_cuts_at (suc r) columns n lt }

-- ---- all

pub receives_whole : (dist : Dist) (dists : List Dist) (pieces : List Piece) (columns n : ℕ) → dist ≡ Rep → Receives dist dists Whole pieces columns n
unfolding need_cuts need_span
receives_whole dist dists pieces columns n is = subst (λ d. Receives d dists Whole pieces columns n) (sym is) (record { may = refl; from = λ r lt. refl; until = λ r lt. refl })
