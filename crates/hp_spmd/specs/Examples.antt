-- Small cases of how arrays lie on the ranks, and of checks of their lengths.
use Rattle.std.specs.Prelude.{ℕ, ◌≡◌, refl, [], ◌∷◌, map, Some, None}
use Rattle.hp_word.specs.declared.place.Place.{Place}
use Rattle.hp_word.specs.declared.place.TrapKind.TheVariants.{Mismatch, TooLong, Empty}
use Rattle.hp_word.specs.Lengths.{trap}
use Rattle.hp_spmd.specs.declared.code.Code.{Code}
use Rattle.hp_lattice.specs.declared.dist.Dist.TheVariants.{Rep, Var}
use Rattle.hp_spmd.specs.declared.instr.CheckRule.TheVariants as check
use Rattle.hp_cuts.specs.Blocks.{block_cuts}
use Rattle.hp_spmd.specs.Scalars.{piece_length, check_of}
use Rattle.hp_spmd.specs.Store.{kept, piece_of, first_store}

-- an array of 10 elements on 4 ranks: the first two blocks have one element more
pub ten_on_four : block_cuts 10 4 ≡ 0 ∷ 3 ∷ 6 ∷ 8 ∷ 10 ∷ []
unfolding block_cuts
ten_on_four = refl

-- one that is shorter than the ranks: the last of them have no element
pub two_on_five : block_cuts 2 5 ≡ 0 ∷ 1 ∷ 2 ∷ 2 ∷ 2 ∷ 2 ∷ []
unfolding block_cuts
two_on_five = refl

-- the second of the four ranks keeps of these 10 elements
pub second_of_four : kept {X = ℕ} 3 6 0 (0 ∷ 1 ∷ 2 ∷ 3 ∷ 4 ∷ 5 ∷ 6 ∷ 7 ∷ 8 ∷ 9 ∷ []) ≡ 3 ∷ 4 ∷ 5 ∷ []
second_of_four = refl

-- On 3 ranks each rank begins with no element of each array. The cuts of an uneven one are one for each rank and one
-- behind them, those of a replicated one are its beginning and its end.
pub first_cuts_on_three : (code : Code) (number : ℕ) → code.arrays ≡ Var ∷ Rep ∷ [] → map (λ p. p.cuts) (first_store code number 3).arrays ≡ (0 ∷ 0 ∷ 0 ∷ 0 ∷ []) ∷ (0 ∷ 0 ∷ []) ∷ []
unfolding first_store piece_of block_cuts
first_cuts_on_three code number e = rw e refl

-- an array whose last rank's part begins at 2 and ends before 3 has 3 elements
pub cut_at_three : piece_length (record { rows = 1; cuts = 0 ∷ 2 ∷ 3 ∷ []; cells = [] }) ≡ 3
cut_at_three = refl

-- arrays of 3 and of 4 elements are not equal in length, two of 4 are
pub three_and_four : (at : Place) → check_of check.Equal at (3 ∷ 4 ∷ []) ≡ Some (trap at Mismatch)
three_and_four at = refl

pub four_and_four : (at : Place) → check_of check.Equal at (4 ∷ 4 ∷ []) ≡ None
four_and_four at = refl

-- one element more than an array may have
pub one_too_many : (at : Place) → check_of check.Fits at (1048576 ∷ 1 ∷ []) ≡ Some (trap at TooLong)
one_too_many at = refl

pub as_many_as_may_be : (at : Place) → check_of check.Fits at (1048575 ∷ 1 ∷ []) ≡ None
as_many_as_may_be at = refl

-- an array without elements, and one with an element
pub no_element : (at : Place) → check_of check.Some at (0 ∷ []) ≡ Some (trap at Empty)
no_element at = refl

pub one_element : (at : Place) → check_of check.Some at (1 ∷ []) ≡ None
one_element at = refl
