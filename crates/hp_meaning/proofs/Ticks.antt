-- A script takes at most four ticks a line.
use Rattle.std.proofs.Common.{ℕ, suc, ◌+◌, ◌*◌, ◌≤◌, List, [], ◌∷◌, length, ℤ, arith, Result, Ok, Err}
use Rattle.hp_word.specs.declared.name.Name.{Name}
use Rattle.hp_word.specs.declared.place.Trap.{Trap}
use Rattle.hp_word.specs.ListRules.{filled}
use Rattle.hp_meaning.specs.declared.line.Line.{Line}
use Rattle.hp_meaning.specs.declared.line.Line.TheVariants.{Fill, PrintSum, AddArrays, AddNumber}
use Rattle.hp_meaning.specs.Arrays.{sum_of, added_number}
use Rattle.hp_meaning.specs.Meaning.{Seen, Ending, array_of, assigned, line_meaning, then_lines, lines_meaning}

-- a line that goes on takes at most four ticks
abbrev TakesFew : Seen → Result Seen Trap → Type 0
TakesFew s (Ok next) = next.ticks ≤ s.ticks + 4
TakesFew s (Err t) = Unit {0}

assigned_few : (name : Name) (r : Result (List ℤ) Trap) (s : Seen) → TakesFew s (assigned name r s)
assigned_few name (Ok xs) s = omega arith
assigned_few name (Err t) s = tt

line_few : (l : Line) (s : Seen) → TakesFew s (line_meaning l s)
line_few (Fill name at value count) s = assigned_few name (filled at count value) s
line_few (PrintSum name) s = omega arith
line_few (AddArrays name at left right) s = assigned_few name (sum_of at (array_of s.env left.bytes) (array_of s.env right.bytes)) s
line_few (AddNumber name at left n) s = assigned_few name (Ok (added_number (array_of s.env left.bytes) n)) s

then_few : (m : ℕ) (r : Result Seen Trap) (s : Seen) (rest : Seen → Ending) → TakesFew s r → ((next : Seen) → (rest next).at.ticks ≤ next.ticks + 4 * m) → (then_lines r s rest).at.ticks ≤ s.ticks + 4 * suc m
then_few m (Ok next) s rest few later = omega (arith, few, later next)
then_few m (Err t) s rest few later = omega arith

pub ticks_few : (lines : List Line) (s : Seen) → (lines_meaning lines s).at.ticks ≤ s.ticks + 4 * length lines
ticks_few [] s = omega arith
ticks_few (l ∷ ls) s = then_few (length ls) (line_meaning l s) s (lines_meaning ls) (line_few l s) (λ next. ticks_few ls next)
