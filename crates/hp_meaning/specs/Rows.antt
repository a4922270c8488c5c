-- Worked rows: what short scripts mean.
use Rattle.std.specs.Prelude.{ℕ, pos, List, [], ◌∷◌, ◌≡◌, codes, refl}
use Rattle.std.specs.Fmt.{digits}
use Rattle.std.specs.Int.{int_wrap}
use Rattle.hp_word.specs.declared.name.Name.{Name}
use Rattle.hp_word.specs.declared.place.Place.{Place}
use Rattle.hp_word.specs.declared.place.TrapKind.TheVariants.{Mismatch, TooLong}
use Rattle.hp_meaning.specs.declared.line.Line.{Line}
use Rattle.hp_meaning.specs.declared.line.Line.TheVariants.{Fill, PrintSum, AddArrays, AddNumber}
use Rattle.hp_word.specs.ListRules.{filled}
use Rattle.hp_meaning.specs.Meaning.{Ending, eval}
use Rattle.hp_meaning.specs.declared.seq.SeqStatus.TheVariants as status

-- the names x, y and z
abbrev x : Name
x = record { bytes = 120 ∷ [] }

abbrev y : Name
y = record { bytes = 121 ∷ [] }

abbrev z : Name
z = record { bytes = 122 ∷ [] }

abbrev place : ℕ → ℕ → Place
place line col = record { line = line; col = col }

abbrev meaning_of : List Line → Ending
meaning_of lines = eval lines (record { list = [] }) (record { list = [] }) 0

-- `x = fill(3, 10)`, `println(sum(x))`: 30
abbrev first : List Line
first = Fill x (place 1 5) (pos 3) (pos 10) ∷ PrintSum x ∷ []

first_out : (meaning_of first).at.out ≡ codes "30\n"
unfolding eval filled int_wrap digits
first_out = refl

first_done : (meaning_of first).status ≡ status.Done
unfolding eval filled
first_done = refl

first_ticks : (meaning_of first).at.ticks ≡ 7
unfolding eval filled
first_ticks = refl

-- `x = fill(1, 3)`, `y = fill(1, 4)`, `z = x .+ y`, `println(sum(z))`: the trap Mismatch at the sign
mismatch : (meaning_of (Fill x (place 1 5) (pos 1) (pos 3) ∷ Fill y (place 2 5) (pos 1) (pos 4) ∷ AddArrays z (place 3 7) x y ∷ PrintSum z ∷ [])).status ≡ status.Trap (place 3 7) Mismatch
unfolding eval filled
mismatch = refl

-- `x = fill(1, 5)`, `y = x .+ 2`, `z = x .+ y`, `println(sum(z))`: 20
added_out : (meaning_of (Fill x (place 1 5) (pos 1) (pos 5) ∷ AddNumber y (place 2 7) x (pos 2) ∷ AddArrays z (place 3 7) x y ∷ PrintSum z ∷ [])).at.out ≡ codes "20\n"
unfolding eval filled int_wrap digits
added_out = refl

-- a name stands for its newest array: `x = fill(1, 5)`, `x = x .+ 2`, `println(sum(x))`: 15
newest : (meaning_of (Fill x (place 1 5) (pos 1) (pos 5) ∷ AddNumber x (place 2 7) x (pos 2) ∷ PrintSum x ∷ [])).at.out ≡ codes "15\n"
unfolding eval filled int_wrap digits
newest = refl

-- a sum wraps: `x = fill(999999999999999999, 10)`, `println(sum(x))`: -8446744073709551626
wrapped : (meaning_of (Fill x (place 1 5) (pos 999999999999999999) (pos 10) ∷ PrintSum x ∷ [])).at.out ≡ codes "-8446744073709551626\n"
unfolding eval filled int_wrap digits
wrapped = refl

-- what was written before a trap stays: `x = fill(3, 1)`, `println(sum(x))`, `y = fill(1, 1048577)`
abbrev long : List Line
long = Fill x (place 1 5) (pos 3) (pos 1) ∷ PrintSum x ∷ Fill y (place 3 5) (pos 1) (pos 1048577) ∷ []

long_traps : (meaning_of long).status ≡ status.Trap (place 3 5) TooLong
unfolding eval filled
long_traps = refl

long_out : (meaning_of long).at.out ≡ codes "3\n"
unfolding eval filled int_wrap digits
long_out = refl

-- the empty script writes nothing
empty_out : (meaning_of []).at.out ≡ []
unfolding eval filled
empty_out = refl
