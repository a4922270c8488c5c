-- What the program of a script in which no rule breaks keeps, of its size and of its operations.
use Rattle.std.specs.Prelude.{◌<◌, ◌^◌, IsTrue}
use Rattle.hp_script.specs.declared.typed.Typed.{Typed}
use Rattle.hp_script.specs.Checked.{Checked}
use Rattle.hp_air.specs.Kept.{are_kept, size_of, names_of}
use Rattle.hp_flat.specs.Flat.{flat_script}
use Rattle.hp_flat.specs.Homes.{homes_of, slots_in, words_in}

-- operations, branches, loops and the arrays that can need a move are together fewer than 2^24
abbrev pub AreSmall : Type 0
AreSmall = (typed : Typed) → Checked typed → size_of (flat_script typed) < 2 ^ 24

-- slots, words and the items of all lists of operations are together fewer than 2^30
abbrev pub HaveFewNames : Type 0
HaveFewNames = (typed : Typed) → Checked typed → names_of (slots_in (homes_of typed)) (words_in (homes_of typed)) (flat_script typed) < 2 ^ 30

-- Each slot and word of an operation is one of the program's, what it writes is apart from what it reads, and its frames,
-- copies and matrices are as it asks for.
abbrev pub AreKept : Type 0
AreKept = (typed : Typed) → Checked typed → IsTrue (are_kept (slots_in (homes_of typed)) (words_in (homes_of typed)) (flat_script typed))
