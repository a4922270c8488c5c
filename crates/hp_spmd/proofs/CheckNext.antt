-- What a check of the lengths of a few arrays comes to, and steps of the loop that adds lengths.
use Rattle.std.proofs.Common.{◌≡◌, ◌∙◌, refl, sym, ap, arith, ℕ, ◌+◌, ◌-◌, ◌<◌, ◌≤◌, List, [], ◌∷◌, length, get_or, drop, Bool, true, false, cond, Some, None, Ok, Err, ◌&&◌}
use Rattle.std.specs.Prelude.{◌==◌, min, nat_le, nat_lt, sum}
use Rattle.std.proofs.lemmas.Bool.Decides.{nat_tests}
use Rattle.std.proofs.lemmas.List.{drop_more}
use Rattle.std.proofs.lemmas.List.Sums.{sum_by-cons}
use Rattle.hp_word.specs.declared.place.Place.{Place}
use Rattle.hp_word.specs.declared.place.Trap.{Trap}
use Rattle.hp_word.specs.declared.place.TrapKind.TheVariants.{Mismatch, TooLong, Empty}
use Rattle.hp_word.specs.Lengths.{longest, trap}
use Rattle.hp_lattice.specs.declared.dist.Dist.{Dist}
use Rattle.hp_lattice.specs.declared.dist.Dist.TheVariants.{Rep, Var, Block}
use Rattle.hp_spmd.specs.declared.instr.CheckRule.TheVariants as check
use Rattle.hp_spmd.specs.declared.store.Piece.{Piece}
use Rattle.hp_cuts.specs.Blocks.{block_cuts}
use Rattle.hp_spmd.specs.Layout.{Rises, MayCut, IsShared, Whole, HoldsPiece}
use Rattle.hp_spmd.specs.Scalars.{unless, check_data, greatest_count, lengths_of, piece_length}
use Rattle.hp_spmd.specs.Store.{Data, piece_at}
use Rattle.hp_cuts.proofs.BlockLemmas.{start_end}
use Rattle.hp_spmd.proofs.LocalCuts.{block_cuts_at}
use Rattle.hp_spmd.proofs.ShareCuts.{block_cuts_count}

-- ---- steps of the loop

-- a length that is within what is left
pub fits_one : (n m left : ℕ) → n ≤ left → nat_le (n + m) left ≡ nat_le m (left - n)
fits_one n m left h = grind (arith, nat_tests)

pub breaks_one : (n m left : ℕ) → left < n → nat_le (n + m) left ≡ false
breaks_one n m left h = grind (arith, nat_tests)

sum_here : (pieces : List Piece) (arrays : List ℕ) (i : ℕ) (d : ℕ) → i < length arrays
    → sum (lengths_of (drop i arrays) pieces) ≡ piece_length (piece_at pieces (get_or arrays i d)) + sum (lengths_of (drop (i + 1) arrays) pieces)
sum_here pieces arrays i d h =
    let len = λ (k : ℕ). piece_length (piece_at pieces k) in
    ap (λ l. sum (lengths_of l pieces)) (drop_more arrays i d h) ∙ sum_by-cons (λ n. n) (len (get_or arrays i d)) (lengths_of (drop (i + 1) arrays) pieces)

pub fits_more : (pieces : List Piece) (arrays : List ℕ) (i d left n : ℕ) → i < length arrays → n ≡ piece_length (piece_at pieces (get_or arrays i d)) → n ≤ left
    → nat_le (sum (lengths_of (drop (i + 1) arrays) pieces)) (left - n) ≡ nat_le (sum (lengths_of (drop i arrays) pieces)) left
fits_more pieces arrays i d left n h e g =
    let rest = sum (lengths_of (drop (i + 1) arrays) pieces) in
    sym (fits_one n rest left g) ∙ ap (λ k. nat_le (k + rest) left) e ∙ ap (λ k. nat_le k left) (sym (sum_here pieces arrays i d h))

pub fits_no_more : (pieces : List Piece) (arrays : List ℕ) (i d left n : ℕ) → i < length arrays → n ≡ piece_length (piece_at pieces (get_or arrays i d)) → left < n
    → nat_le (sum (lengths_of (drop i arrays) pieces)) left ≡ false
fits_no_more pieces arrays i d left n h e g =
    let rest = sum (lengths_of (drop (i + 1) arrays) pieces) in
    ap (λ k. nat_le k left) (sum_here pieces arrays i d h) ∙ ap (λ k. nat_le (k + rest) left) (sym e) ∙ breaks_one n rest left g

-- ---- a check of one or two arrays

unless_cond : (b : Bool) (t : Trap) (d : Data) → unless (cond b None (Some t)) d ≡ cond b (Ok d) (Err t)
unless_cond true t d = refl
unless_cond false t d = refl

and_true : (b : Bool) → (b && true) ≡ b
and_true true = refl
and_true false = refl

pub check_equal_two : (a b : ℕ) (at : Place) (d : Data)
    → check_data (a ∷ b ∷ []) check.Equal at d ≡ cond (piece_length (piece_at d.arrays b) == piece_length (piece_at d.arrays a)) (Ok d) (Err (trap at Mismatch))
unfolding check_data
check_equal_two a b at d =
    let same = piece_length (piece_at d.arrays b) == piece_length (piece_at d.arrays a) in
    ap (λ t. unless (cond t None (Some (trap at Mismatch))) d) (and_true same) ∙ unless_cond same (trap at Mismatch) d

pub check_fits_two : (a b : ℕ) (at : Place) (d : Data)
    → check_data (a ∷ b ∷ []) check.Fits at d ≡ cond (nat_le (piece_length (piece_at d.arrays a) + piece_length (piece_at d.arrays b)) longest) (Ok d) (Err (trap at TooLong))
unfolding check_data
check_fits_two a b at d =
    let n = piece_length (piece_at d.arrays a) in
    let m = piece_length (piece_at d.arrays b) in
    let both : 0 + n + m ≡ n + m = omega arith in
    ap (λ k. unless (cond (nat_le k longest) None (Some (trap at TooLong))) d) both ∙ unless_cond (nat_le (n + m) longest) (trap at TooLong) d

pub check_some_one : (a : ℕ) (at : Place) (d : Data)
    → check_data (a ∷ []) check.Some at d ≡ cond (nat_lt 0 (piece_length (piece_at d.arrays a))) (Ok d) (Err (trap at Empty))
unfolding check_data
check_some_one a at d = unless_cond (nat_lt 0 (piece_length (piece_at d.arrays a))) (trap at Empty) d

-- ---- the length of an array that lies on the ranks

last_rising : (cuts : List ℕ) (len ranks : ℕ) → Rises cuts len ranks → get_or cuts (length cuts - 1) 0 ≡ len
last_rising cuts len ranks h =
    let there : length cuts - 1 ≡ ranks = omega (arith, h.count) in
    ap (λ k. get_or cuts k 0) there ∙ h.last

last_block : (len ranks : ℕ) → 1 ≤ ranks → get_or (block_cuts len ranks) (length (block_cuts len ranks) - 1) 0 ≡ len
last_block len ranks some =
    let there : length (block_cuts len ranks) - 1 ≡ ranks = omega (arith, block_cuts_count len ranks) in
    let within : ranks ≤ ranks = omega arith in
    ap (λ k. get_or (block_cuts len ranks) k 0) there ∙ block_cuts_at ranks len ranks within ∙ start_end len ranks some

-- the last cut is the length
pub last_cut : (dist : Dist) (len ranks : ℕ) (cuts : List ℕ) → 1 ≤ ranks → MayCut dist len ranks cuts → get_or cuts (length cuts - 1) 0 ≡ len
last_cut Rep len ranks cuts some h = ap (λ l. get_or l (length l - 1) 0) h
last_cut Var len ranks cuts some h = last_rising cuts len ranks h
last_cut Block len ranks cuts some h = ap (λ l. get_or l (length l - 1) 0) h ∙ last_block len ranks some

-- a count that is told apart
pub told_whole : (n : ℕ) → n ≤ greatest_count → min n greatest_count ≡ n
told_whole n h = omega (arith, h)

-- the length of an array that is shared, and of one that a rank holds a piece of
pub shared_length : (dist : Dist) (ranks number : ℕ) (p : Piece) → 1 ≤ ranks → (h : IsShared dist ranks number p) → h.len ≤ greatest_count → piece_length p ≡ h.len
shared_length dist ranks number p some h told = ap (λ n. min n greatest_count) (last_cut dist h.len ranks p.cuts some h.cut) ∙ told_whole h.len told

pub held_length : (dist : Dist) (ranks number columns : ℕ) (cuts : List ℕ) (whole : Whole) (p : Piece) → 1 ≤ ranks → columns ≤ greatest_count → MayCut dist columns ranks cuts → HoldsPiece dist cuts whole number p → piece_length p ≡ columns
held_length dist ranks number columns cuts whole p some told may h =
    ap (λ l. min (get_or l (length l - 1) 0) greatest_count) h.cuts_are ∙ ap (λ n. min n greatest_count) (last_cut dist columns ranks cuts some may) ∙ told_whole columns told
