-- The pieces of the ranks below one are the front of the whole.
use Rattle.std.proofs.Common.{◌≡◌, ◌∙◌, sym, ap, arith, ℕ, zero, suc, ◌+◌, ◌-◌, ◌*◌, ◌<◌, ◌≤◌, List, [], ◌∷◌, ◌++◌, length, take, drop, get_or}
use Rattle.std.specs.Prelude.{flat_map}
use Rattle.std.proofs.Math.Seq.{take-add}
use Rattle.std.proofs.lemmas.List.{drop-drop}
use Rattle.std.proofs.lemmas.List.Elements.{recursion_from_All}
use Rattle.hp_lattice.specs.declared.dist.Dist.{Dist}
use Rattle.hp_spmd.specs.declared.store.Store.{Store}
use Rattle.hp_spmd.specs.Layout.{HoldsPiece, IsLaid, Numbered, Whole}
use Rattle.hp_spmd.specs.Store.{kept, piece_at}
use Rattle.hp_spmd.proofs.LocalCuts.{kept_part}
use Rattle.hp_snippet.specs.Holds.{IsCut}
use Rattle.hp_snippet.proofs.Ranges.{Cuts, GivePiece, cuts_of, each_piece}

-- two parts, one behind the other
kept_join : {X : Type 0} (a b c : ℕ) (xs : List X) → a ≤ b → b ≤ c → kept a b 0 xs ++ kept b c 0 xs ≡ kept a c 0 xs
kept_join {X} a b c xs first second =
    let upto : a + (b - a) ≡ b = omega (arith, first) in
    let both : (b - a) + (c - b) ≡ c - a = omega (arith, first, second) in
    ap (λ l. l ++ kept b c 0 xs) (kept_part a b xs)
    ∙ ap (λ l. take (b - a) (drop a xs) ++ l) (kept_part b c xs)
    ∙ ap (λ n. take (b - a) (drop a xs) ++ take (c - b) (drop n xs)) (sym upto)
    ∙ ap (λ l. take (b - a) (drop a xs) ++ take (c - b) l) (sym (drop-drop (b - a) a xs))
    ∙ sym (take-add (b - a) (c - b) (drop a xs))
    ∙ ap (λ n. take n (drop a xs)) both
    ∙ sym (kept_part a c xs)

kept_none : {X : Type 0} (a : ℕ) (xs : List X) → kept a a 0 xs ≡ []
kept_none {X} a xs = let none : a - a ≡ 0 = omega arith in kept_part a a xs ∙ ap (λ n. take n (drop a xs)) none

cuts_rise : {X : Type 0} (cut : ℕ → ℕ) (n : ℕ) (whole : List X) → Cuts cut n whole → (k m : ℕ) → k + m ≤ n → cut k ≤ cut (k + m)
cuts_rise cut n whole c k zero le = let same : k ≡ k + 0 = omega arith in let at = ap cut same in omega (arith, at)
cuts_rise {X} cut n whole c k (suc m) le =
    let one : k < n = omega (arith, le) in
    let rest : suc k + m ≤ n = omega (arith, le) in
    let up = c.rises k one in
    let on = cuts_rise {X = X} cut n whole c (suc k) m rest in
    let same : suc k + m ≡ k + suc m = omega arith in
    let at = ap cut same in
    omega (arith, up, on, at)

below_from : {S X : Type 0} (cut : ℕ → ℕ) (n : ℕ) (whole : List X) (part : S → List X) → Cuts cut n whole → (k r : ℕ) (xs : List S) → k + length xs ≡ n → r ≤ length xs → GivePiece cut whole part k xs
    → flat_map part (take r xs) ≡ kept (cut k) (cut (k + r)) 0 whole
below_from {S} {X} cut n whole part c k zero xs e le h =
    let same : k + 0 ≡ k = omega arith in
    sym (ap (λ j. kept (cut k) (cut j) 0 whole) same ∙ kept_none {X = X} (cut k) whole)
below_from cut n whole part c k (suc r) [] e le h = absurd (omega (arith, le))
below_from {S} {X} cut n whole part c k (suc r) (x ∷ xs) e le h =
    let one : k < n = omega (arith, e) in
    let on : suc k + length xs ≡ n = omega (arith, e) in
    let few : r ≤ length xs = omega (arith, le) in
    let within : suc k + r ≤ n = omega (arith, on, few) in
    let same : suc k + r ≡ k + suc r = omega arith in
    ap (λ l. l ++ flat_map part (take r xs)) h.0
    ∙ ap (λ l. kept (cut k) (cut (suc k)) 0 whole ++ l) (below_from {S = S} {X = X} cut n whole part c (suc k) r xs on few h.1)
    ∙ kept_join {X = X} (cut k) (cut (suc k)) (cut (suc k + r)) whole (c.rises k one) (cuts_rise {X = X} cut n whole c (suc k) r within)
    ∙ ap (λ j. kept (cut k) (cut j) 0 whole) same

-- the own cells of an array that is cut, of the ranks below one, are those before its own
pub cells_below : (dist : Dist) (ranks : List Store) (slot : ℕ) (cuts : List ℕ) (whole : Whole) (r : ℕ) → IsCut dist → 1 ≤ length ranks → Numbered 0 ranks → IsLaid dist ranks slot cuts whole → r ≤ length ranks
    → flat_map (λ (x : Store). (piece_at x.arrays slot).cells) (take r ranks) ≡ take (whole.rows * get_or cuts r 0) whole.cells
cells_below dist ranks slot cuts whole r is some numbers laid le =
    let cut = λ (k : ℕ). whole.rows * get_or cuts k 0 in
    let part = λ (x : Store). (piece_at x.arrays slot).cells in
    let c = cuts_of dist (length ranks) cuts whole laid.columns is some laid.size laid.may in
    let all : 0 + length ranks ≡ length ranks = omega arith in
    let same : 0 + r ≡ r = omega arith in
    let whole_of : cut r - 0 ≡ cut r = omega arith in
    below_from cut (length ranks) whole.cells part c 0 r ranks all le (each_piece dist cuts whole slot is 0 ranks numbers (recursion_from_All (λ (x : Store). HoldsPiece dist cuts whole x.number (piece_at x.arrays slot)) ranks laid.held))
    ∙ ap (λ a. kept a (cut (0 + r)) 0 whole.cells) c.first
    ∙ ap (λ j. kept 0 (cut j) 0 whole.cells) same
    ∙ kept_part 0 (cut r) whole.cells
    ∙ ap (λ n. take n whole.cells) whole_of
