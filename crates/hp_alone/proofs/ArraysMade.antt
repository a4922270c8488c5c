-- Arrays that all ranks set, each to its own pieces of wholes.
use Rattle.std.proofs.Common.{◌≡◌, ◌∙◌, sym, subst, ap, ℕ, ◌<◌, inl, inr, List, [], length, get_or, map, ◌⊎◌}
use Rattle.std.specs.Prelude.{◌*◌, slice_index}
use Rattle.std.specs.List.{All, AllByRecursion}
use Rattle.std.proofs.lemmas.List.{length-map}
use Rattle.std.proofs.lemmas.List.Elements.{All-map}
use Rattle.hp_lattice.specs.declared.dist.Dist.{Dist}
use Rattle.hp_spmd.specs.declared.code.Code.{Code}
use Rattle.hp_spmd.specs.declared.store.Piece.{Piece}
use Rattle.hp_spmd.specs.declared.store.Store.{Store}
use Rattle.hp_spmd.specs.Layout.{Env, HoldsPiece, IsLaid, Layout, MayCut, Whole, vector}
use Rattle.hp_spmd.specs.Setting.{with_all}
use Rattle.hp_spmd.specs.Store.{dist_at, piece_at}
use Rattle.hp_snippet.specs.Moves.{changed}
use Rattle.hp_snippet.specs.Promises.{AreOnce, IsNoneOf, Slots}
use Rattle.hp_snippet.proofs.Keeping.{LiesBehind}
use Rattle.hp_snippet.proofs.MoveWholes.{StandsAt, among, changed_at, changed_other, set_all_at}

-- one array that is set: how many columns the whole has, and the pieces of the ranks
pub record OnePiece (dist : Dist) (ranks : List Store) (whole : Whole) (cuts : List ℕ) (made : Store → Piece) : Type 0 where
  pub columns : ℕ
  pub size : length whole.cells ≡ whole.rows * columns
  pub may : MayCut dist columns (length ranks) cuts
  pub held : All (λ (x : Store). HoldsPiece dist cuts whole x.number (made x)) ranks

-- All ranks set these arrays, each to its piece of a whole.
pub record SetPieces (code : Code) (ranks : List Store) (to : List ℕ) (wholes : List Whole) (cuts : List (List ℕ)) (made : Store → List Piece) : Type 0 where
  pub once : AreOnce to
  pub named : AllByRecursion (λ t. t < length code.arrays) to
  pub wholes_count : length to ≡ length wholes
  pub cuts_count : length to ≡ length cuts
  pub made_count : (x : Store) → length to ≡ length (made x)
  pub each : (j : ℕ) → j < length to → OnePiece (dist_at code.arrays (slice_index to j)) ranks (get_or wholes j (vector [])) (get_or cuts j []) (λ x. piece_at (made x) j)

below_all : (n m : ℕ) (ns : List ℕ) → m ≡ n → AllByRecursion (λ t. t < n) ns → AllByRecursion (λ t. t < m) ns
below_all n m ns e h = subst (λ k. AllByRecursion (λ t. t < k) ns) (sym e) h

-- An array is none of these, or lies in its pieces.
pub set_lies : (code : Code) (ranks : List Store) (env : Env) (l : Layout code ranks env) (written : Slots) (to : List ℕ) (wholes : List Whole) (cuts : List (List ℕ)) (made : Store → List Piece) (g : Store → Store) (after : Env)
    → written.arrays ≡ to → after.arrays ≡ changed to wholes env.arrays → ((x : Store) → (g x).arrays ≡ with_all to (made x) x.arrays) → ((x : Store) → (g x).number ≡ x.number)
    → All (λ (x : Store). length x.arrays ≡ length code.arrays) ranks → SetPieces code ranks to wholes cuts made
    → (slot : ℕ) → slot < length code.arrays → LiesBehind code written (map g ranks) env after l.cuts (changed to cuts l.cuts) slot
set_lies code ranks env l written to wholes cuts made g after written_are after_are arrays numbers counts h slot lt = by_place (among to slot)
  where
    pieces_are : (j : ℕ) → j < length to → (k : ℕ) (d : Store) → k < length ranks → piece_at (g (get_or ranks k d)).arrays (slice_index to j) ≡ piece_at (made (get_or ranks k d)) j
    pieces_are j there k d within =
        let x = get_or ranks k d in
        ap (λ a. piece_at a (slice_index to j)) (arrays x) ∙ set_all_at to (made x) x.arrays j h.once (h.made_count x) there (below_all (length code.arrays) (length x.arrays) to (counts k d within) h.named)

    lies : (j : ℕ) → j < length to → IsLaid (dist_at code.arrays (slice_index to j)) (map g ranks) (slice_index to j) (changed to cuts l.cuts (slice_index to j)) (after.arrays (slice_index to j))
    lies j there =
        let t = slice_index to j in
        let one = h.each j there in
        let whole = get_or wholes j (vector []) in
        let cs = get_or cuts j [] in
        subst (λ c. IsLaid (dist_at code.arrays t) (map g ranks) t c (after.arrays t)) (sym (changed_at to cuts l.cuts j [] h.once h.cuts_count there))
        (subst (λ w. IsLaid (dist_at code.arrays t) (map g ranks) t cs w) (sym (ap (λ e. e t) after_are ∙ changed_at to wholes env.arrays j (vector []) h.once h.wholes_count there))
        (record {
          columns = one.columns;
          size = one.size;
          may = subst (λ n. MayCut (dist_at code.arrays t) one.columns n cs) (sym (length-map ranks g)) one.may;
          held = All-map (λ (y : Store). HoldsPiece (dist_at code.arrays t) cs whole y.number (piece_at y.arrays t)) g ranks
              (λ k d within.
              let x = get_or ranks k d in
              subst (λ r. HoldsPiece (dist_at code.arrays t) cs whole r (piece_at (g x).arrays t)) (sym (numbers x))
              (subst (λ p. HoldsPiece (dist_at code.arrays t) cs whole x.number p) (sym (pieces_are j there k d within)) (one.held k d within)));
        }))

    by_place : IsNoneOf to slot ⊎ StandsAt to slot → LiesBehind code written (map g ranks) env after l.cuts (changed to cuts l.cuts) slot
    by_place (inl none) =
        inl (subst (λ ns. IsNoneOf ns slot) (sym written_are) none, ap (λ e. e slot) after_are ∙ changed_other to wholes env.arrays slot none, changed_other to cuts l.cuts slot none)
    by_place (inr at) =
        inr (subst (λ k. IsLaid (dist_at code.arrays k) (map g ranks) k (changed to cuts l.cuts k) (after.arrays k)) at.is (lies at.place at.within))
