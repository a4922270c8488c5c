-- Folds of the messages' words, step by step.
use Rattle.std.proofs.Common.{◌≡◌, ℕ, ◌+◌, ◌<◌, ℤ, List, length, get_or, take, ap, sym, ◌∙◌}
use Rattle.std.proofs.lemmas.List.{map_more}
use Rattle.hp_word.specs.declared.fold.FoldKind.{FoldKind}
use Rattle.hp_word.specs.declared.table.Message.{Message}
use Rattle.hp_word.specs.Folds.{fold_of, joined}
use Rattle.hp_word.proofs.FoldLemmas.{fold_of_one_more}
use Rattle.hp_spmd.specs.Messages.{words_across}
use Rattle.hp_word.specs.LoopRules.{word_at}

pub across_more : (kind : FoldKind) (k i : ℕ) (inbox : List Message) (m : Message) → i < length inbox → m ≡ get_or inbox i m
    → joined kind (fold_of kind (words_across k (take i inbox))) (word_at m.words k) ≡ fold_of kind (words_across k (take (i + 1) inbox))
across_more kind k i inbox m h e =
    ap (λ (n : Message). joined kind (fold_of kind (words_across k (take i inbox))) (word_at n.words k)) e
    ∙ sym (fold_of_one_more kind (words_across k (take i inbox)) (word_at (get_or inbox i m).words k))
    ∙ ap (fold_of kind) (sym (map_more (λ (n : Message). word_at n.words k) inbox i m h))

pub across_step : (kind : FoldKind) (k i : ℕ) (inbox items : List Message) (m : Message) (word before after : ℤ) → items ≡ inbox → i < length items → m ≡ get_or items i m → word ≡ word_at m.words k
    → before ≡ fold_of kind (words_across k (take i inbox)) → after ≡ joined kind before word → after ≡ fold_of kind (words_across k (take (i + 1) inbox))
across_step kind k i inbox items m word before after s h e w b a =
    let here : i < length inbox = rw s at h in
    let read : m ≡ get_or inbox i m = e ∙ ap (λ l. get_or l i m) s in
    a ∙ ap (λ x. joined kind x word) b ∙ ap (joined kind (fold_of kind (words_across k (take i inbox)))) w ∙ across_more kind k i inbox m here read
