-- Messages, and the words at one position of each.
use Rattle.std.specs.Prelude.{ℕ, zero, suc, ℤ, List, [], ◌∷◌, map, slice_set}
use Rattle.hp_word.specs.declared.fold.FoldKind.{FoldKind}
use Rattle.hp_word.specs.declared.table.Message.{Message}
use Rattle.hp_word.specs.Folds.{fold_of}
use Rattle.hp_word.specs.LoopRules.{word_at}

abbrev pub message_of : List ℤ → Message
message_of words = record { words = words }

-- the word on rank 0, and nothing on the others
abbrev pub of_first : ℕ → ℤ → List ℤ
of_first zero word = word ∷ []
of_first (suc rank) word = []

-- ---- unpacks

-- the messages' words at a position, in rank order
abbrev pub words_across : ℕ → List Message → List ℤ
words_across k inbox = map (λ m. word_at m.words k) inbox

-- each word becomes the fold of the messages' words at its position, from position k on
abbrev pub with_words_folded : ℕ → List Message → List (ℕ × FoldKind) → List ℤ → List ℤ
with_words_folded k inbox [] words = words
with_words_folded k inbox (f ∷ fs) words = with_words_folded (suc k) inbox fs (slice_set words f.0 (fold_of f.1 (words_across k inbox)))
