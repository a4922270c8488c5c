-- Words on which all ranks agree.
use Rattle.std.specs.Prelude.{ℕ, ◌==◌, if◌then◌else◌, ℤ, pos, Option, Some, None}
use Rattle.hp_spmd.specs.Layout.{Env}

-- all ranks agree on a word
abbrev pub HasValue : Option ℤ → Type 0
HasValue None = ⊥
HasValue (Some value) = Unit {0}

-- the value of a word, and 0 where it has none
abbrev pub value_or_zero : Option ℤ → ℤ
value_or_zero None = pos 0
value_or_zero (Some value) = value

-- all ranks have this value in a word
abbrev pub with_value : ℕ → ℤ → Env → Env
with_value to value env = record env { words = λ w. if to == w then Some value else env.words w }
