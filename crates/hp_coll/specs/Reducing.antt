-- What a reduction over all ranks does.
use Rattle.std.specs.Prelude.{ℕ, ◌≡◌, ◌==◌, if◌then◌else◌, All, ℤ, pos, List, [], ◌∷◌, flat_map, map, Option, Some, None, Result, Ok, refl}
use Rattle.hp_word.specs.declared.fold.FoldKind.{FoldKind}
use Rattle.hp_word.specs.declared.fold.FoldKind.TheVariants.{Min}
use Rattle.hp_word.specs.declared.place.Trap.{Trap}
use Rattle.hp_word.specs.Folds.{fold_of}
use Rattle.hp_word.specs.LoopRules.{word_at}
use Rattle.hp_spmd.specs.declared.code.Code.{Code}
use Rattle.hp_spmd.specs.declared.instr.Folding.{Folding}
use Rattle.hp_spmd.specs.declared.instr.Instr.{Instr}
use Rattle.hp_spmd.specs.declared.instr.Packing.TheVariants.{Words}
use Rattle.hp_spmd.specs.declared.instr.Packing.{Packing}
use Rattle.hp_spmd.specs.declared.instr.Unpacking.TheVariants.{Folds}
use Rattle.hp_spmd.specs.declared.instr.Unpacking.{Unpacking}
use Rattle.hp_spmd.specs.declared.store.Store.{Store}
use Rattle.hp_spmd.specs.Layout.{Env}
use Rattle.hp_snippet.specs.Outcomes.{After}
use Rattle.hp_snippet.specs.Promises.{AreOnce, Slots, exchange_code}

-- ---- the code

abbrev pub word_names : List Folding → List ℕ
word_names folds = map (λ (f : Folding). f.word) folds

abbrev pub named_folds : List Folding → List (ℕ × FoldKind)
named_folds folds = map (λ (f : Folding). (f.word, f.kind)) folds

abbrev pub what_is_packed : List Folding → Packing
what_is_packed folds = Words (word_names folds)

abbrev pub what_is_unpacked : List Folding → Unpacking
what_is_unpacked folds = Folds (named_folds folds)

abbrev pub reduce_code : List Folding → List Instr
reduce_code folds = exchange_code (what_is_packed folds) (what_is_unpacked folds)

-- ---- what it does

-- the words that all ranks have in one place, in rank order
abbrev pub words_of_all : List Store → ℕ → List ℤ
words_of_all ranks w = map (λ (x : Store). word_at x.words w) ranks

-- the value of a word after a reduction: of one that is folded, the fold of all ranks' words; of another, what it was
abbrev pub folded_value : List Folding → List Store → (ℕ → Option ℤ) → ℕ → Option ℤ
folded_value [] ranks words w = words w
folded_value (f ∷ fs) ranks words w = if f.word == w then Some (fold_of f.kind (words_of_all ranks f.word)) else folded_value fs ranks words w

abbrev pub reduced : List Folding → List Store → Env → Result (After Env) Trap
reduced folds ranks env = Ok (record { env = record env { words = folded_value folds ranks env.words }; text = [] })

-- no word is folded twice
abbrev pub FoldsOnce : List Folding → Code → List Store → Env → Type 0
FoldsOnce folds code ranks env = AreOnce (word_names folds)

abbrev pub reduce_writes : List Folding → Slots
reduce_writes folds = record { words = word_names folds; arrays = []; loose = [] }

-- Where the word of each rank is the fold of the rank's own part of some values, as a loop over own places leaves it, the fold of
-- all ranks' words is that of all the values, in rank order. A part may be empty.
abbrev pub FoldsOfParts : Type 0
FoldsOfParts =
    (kind : FoldKind) (w : ℕ) (ranks : List Store) (part : Store → List ℤ) → All (λ (x : Store). word_at x.words w ≡ fold_of kind (part x)) ranks
    → fold_of kind (words_of_all ranks w) ≡ fold_of kind (flat_map part ranks)

-- ---- worked rows

abbrev min_of : ℕ → Folding
min_of w = record { word = w; kind = Min; value = 0 }

-- the least of 5 and 6 on three ranks, the first of which has no element; the word beside it stays
least_row : (x : Store)
    → (folded_value (min_of 1 ∷ []) (record x { words = pos 9 ∷ fold_of Min [] ∷ [] } ∷ record x { words = pos 9 ∷ pos 6 ∷ [] } ∷ record x { words = pos 9 ∷ pos 5 ∷ [] } ∷ []) (λ w. None) 1 ≡ Some (pos 5))
    × (folded_value (min_of 1 ∷ []) [] (λ w. Some (pos 9)) 0 ≡ Some (pos 9))
least_row x = (refl, refl)
