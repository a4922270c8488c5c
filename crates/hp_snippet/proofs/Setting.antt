-- Items of a list that are set by their numbers, and ranks by theirs.
use Rattle.std.proofs.Common.{◌≡◌, ◌∙◌, refl, sym, ap, arith, ℕ, zero, suc, ◌+◌, ◌<◌, List, [], ◌∷◌, length, length-set, get_or, set}
use Rattle.std.proofs.lemmas.List.{get_or-set_other}
use Rattle.hp_lattice.specs.declared.dist.Dist.{Dist}
use Rattle.hp_spmd.specs.declared.store.Piece.{Piece}
use Rattle.hp_spmd.specs.declared.store.Store.{Store}
use Rattle.hp_spmd.specs.Layout.{AreShared, IsShared, Numbered}
use Rattle.hp_spmd.specs.Setting.{with_all}
use Rattle.hp_spmd.specs.Store.{dist_at}
use Rattle.hp_spmd.proofs.ShareCuts.{set_shared}
use Rattle.hp_snippet.specs.Promises.{IsNoneOf}

-- an item that is not set
pub set_other : {X : Type 0} (to : List ℕ) (made xs : List X) (k : ℕ) (d : X) → IsNoneOf to k → get_or (with_all to made xs) k d ≡ get_or xs k d
set_other [] made xs k d apart = refl
set_other (t ∷ to) [] xs k d apart = refl
set_other {X} (t ∷ to) (m ∷ made) xs k d apart = set_other {X = X} to made (set xs t m) k d apart.1 ∙ get_or-set_other xs t k m d (λ e. apart.0 (sym e))

pub set_count : {X : Type 0} (to : List ℕ) (made xs : List X) → length (with_all to made xs) ≡ length xs
set_count [] made xs = refl
set_count (t ∷ to) [] xs = refl
set_count {X} (t ∷ to) (m ∷ made) xs = set_count {X = X} to made (set xs t m) ∙ length-set xs t m

-- pieces that are shared, each by the distribution of its array
abbrev pub ShareEach : List Dist → (ranks number : ℕ) → List ℕ → List Piece → Type 0
ShareEach dists ranks number [] made = Unit {0}
ShareEach dists ranks number (t ∷ to) [] = Unit {0}
ShareEach dists ranks number (t ∷ to) (p ∷ made) = IsShared (dist_at dists t) ranks number p × ShareEach dists ranks number to made

pub set_each_shared : (dists : List Dist) (ranks number : ℕ) (to : List ℕ) (made pieces : List Piece) → ShareEach dists ranks number to made → AreShared dists ranks number pieces → AreShared dists ranks number (with_all to made pieces)
set_each_shared dists ranks number [] made pieces each h = h
set_each_shared dists ranks number (t ∷ to) [] pieces each h = h
set_each_shared dists ranks number (t ∷ to) (p ∷ made) pieces each h = set_each_shared dists ranks number to made (set pieces t p) each.1 (set_shared dists ranks number pieces t p h each.0)

-- a rank has as many arrays as the code
pub shared_count : (dists : List Dist) (ranks number : ℕ) (pieces : List Piece) → AreShared dists ranks number pieces → length pieces ≡ length dists
shared_count [] ranks number [] h = refl
shared_count [] ranks number (p ∷ ps) h = absurd h
shared_count (d ∷ ds) ranks number [] h = absurd h
shared_count (d ∷ ds) ranks number (p ∷ ps) h = ap suc (shared_count ds ranks number ps h.1)

-- a rank has its place as its number
pub numbered_at : (j : ℕ) (xs : List Store) (k : ℕ) (d : Store) → Numbered j xs → k < length xs → (get_or xs k d).number ≡ j + k
numbered_at j [] k d n lt = absurd (omega (arith, lt))
numbered_at j (x ∷ xs) zero d n lt = let same : j ≡ j + 0 = omega arith in n.0 ∙ same
numbered_at j (x ∷ xs) (suc k) d n lt =
    let on : k < length xs = omega (arith, lt) in
    let same : suc j + k ≡ j + suc k = omega arith in
    numbered_at (suc j) xs k d n.1 on ∙ same
