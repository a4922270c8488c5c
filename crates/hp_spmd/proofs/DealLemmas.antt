-- A rank's own part of what is dealt out: of a range, and of a table's column.
use Rattle.std.proofs.Common.{◌≡◌, ◌∙◌, refl, sym, ap, arith, ℕ, ℤ, zero, suc, ◌+◌, ◌-◌, ◌<◌, ◌≤◌, pos, ◌+ℤ◌, List, [], ◌∷◌, length, map, take, drop, Some, None}
use Rattle.std.specs.Prelude.{slice_get}
use Rattle.std.specs.List.{range_with_len}
use Rattle.std.proofs.lemmas.Int.{ints}
use Rattle.std.proofs.lemmas.List.{length-take, length-drop, get_or-take, get_or-drop}
use Rattle.std.proofs.lemmas.List.FromFn.{length-map-range_with_len, get_or-map-range_with_len, fill_by_all}
use Rattle.hp_word.specs.declared.table.Table.{Table}
use Rattle.hp_word.specs.ListRules.{span}
use Rattle.hp_lattice.specs.declared.dist.Dist.{Dist}
use Rattle.hp_lattice.specs.declared.dist.Dist.TheVariants.{Rep, Var, Block}
use Rattle.hp_cuts.proofs.BlockLemmas.{start_rises}
use Rattle.hp_spmd.specs.Arrays.{columns_at}
use Rattle.hp_spmd.specs.Cuts.{first_cuts, own_from, own_until}
use Rattle.hp_spmd.specs.Store.{kept}
use Rattle.hp_spmd.proofs.LocalCuts.{block_cuts_at, kept_part, own_until_within}

-- ---- ranges

pub span_length : (first : ℤ) (n : ℕ) → length (span first n) ≡ n
unfolding span
span_length first n = length-map-range_with_len (λ k. first +ℤ pos k) 0 n

-- the numbers between two places are numbers from a later one on
span_between : (first : ℤ) (a b n : ℕ) → b ≤ n → take (b - a) (drop a (span first n)) ≡ span (first +ℤ pos a) (b - a)
unfolding span
span_between first a b n le =
    let whole = map (λ k. first +ℤ pos k) (range_with_len 0 n) in
    let taken = length-take (b - a) (drop a whole) in
    let rest = length-drop a whole in
    let all = length-map-range_with_len (λ k. first +ℤ pos k) 0 n in
    let count : length (take (b - a) (drop a whole)) ≡ b - a = omega (arith, taken, rest, all, le) in
    fill_by_all (λ k. (first +ℤ pos a) +ℤ pos k) (take (b - a) (drop a whole)) (b - a) (pos 0) count
    (λ k lt.
    let further : first +ℤ pos (a + k) ≡ (first +ℤ pos a) +ℤ pos k = omega (arith, ints) in
    get_or-take (b - a) (drop a whole) k (pos 0) lt ∙ get_or-drop a whole k (pos 0)
    ∙ get_or-map-range_with_len (λ k. first +ℤ pos k) 0 n (a + k) (a + k) (pos 0) (omega (arith, lt, le)) (omega arith) ∙ further)

-- the cells of a rank's piece of a range, by its own first place and count
pub span_in_piece : (dist : Dist) (number ranks n from count : ℕ) (first : ℤ) → number < ranks → from ≡ own_from dist (first_cuts dist n ranks) number → count ≡ own_until dist (first_cuts dist n ranks) number - own_from dist (first_cuts dist n ranks) number
    → kept (own_from dist (first_cuts dist n ranks) number) (own_until dist (first_cuts dist n ranks) number) 0 (span first n) ≡ span (first +ℤ pos from) count
span_in_piece dist number ranks n from count first below f c =
    let begin = own_from dist (first_cuts dist n ranks) number in
    let end = own_until dist (first_cuts dist n ranks) number in
    kept_part begin end (span first n) ∙ span_between first begin end n (own_until_within dist number ranks n below)
    ∙ ap (λ z. span (first +ℤ pos z) (end - begin)) (sym f) ∙ ap (span (first +ℤ pos from)) (sym c)

-- ---- slices

own_rises : (dist : Dist) (number ranks n : ℕ) → number < ranks → own_from dist (first_cuts dist n ranks) number ≤ own_until dist (first_cuts dist n ranks) number
own_rises Rep number ranks n h = omega arith
own_rises Var number ranks n h =
    let a = block_cuts_at number n ranks (omega arith) in
    let b = block_cuts_at (suc number) n ranks (omega arith) in
    omega (arith, a, b, start_rises number (suc number) n ranks (omega arith))
own_rises Block number ranks n h =
    let a = block_cuts_at number n ranks (omega arith) in
    let b = block_cuts_at (suc number) n ranks (omega arith) in
    omega (arith, a, b, start_rises number (suc number) n ranks (omega arith))

-- a rank's own places are within the array
pub own_within : (dist : Dist) (number ranks n from count : ℕ) → number < ranks → from ≡ own_from dist (first_cuts dist n ranks) number → count ≡ own_until dist (first_cuts dist n ranks) number - own_from dist (first_cuts dist n ranks) number
    → from + count ≤ n
own_within dist number ranks n from count below f c = let rises = own_rises dist number ranks n below in let within = own_until_within dist number ranks n below in omega (arith, f, c, rises, within)

-- the own cells of a rank, as a slice
pub kept_between : (a b from count : ℕ) (whole : List ℤ) → from ≡ a → count ≡ b - a → kept a b 0 whole ≡ take ((from + count) - from) (drop from whole)
kept_between a b from count whole f c =
    let same : b - a ≡ (from + count) - from = omega (arith, c) in
    kept_part a b whole ∙ ap (λ n. take n (drop a whole)) same ∙ ap (λ k. take ((from + count) - from) (drop k whole)) (sym f)

-- ---- tables

pub columns_there : (tables : List Table) (k : ℕ) (t : Table) → slice_get tables k ≡ Some t → columns_at tables k ≡ t.columns
columns_there [] k t e = absurd (cc)
columns_there (x ∷ tables) zero t e = let same : x ≡ t = cc in ap (λ (t : Table). t.columns) same
columns_there (x ∷ tables) (suc k) t e = columns_there tables k t e

pub columns_past : (tables : List Table) (k : ℕ) → slice_get tables k ≡ None → columns_at tables k ≡ []
columns_past [] k e = refl
columns_past (x ∷ tables) zero e = absurd (cc)
columns_past (x ∷ tables) (suc k) e = columns_past tables k e
