-- Words that each rank sends to all.
use Rattle.std.proofs.Common.{◌≡◌, ◌∙◌, refl, sym, subst, ap, ℕ, suc, ◌<◌, List, [], ◌∷◌, map}
use Rattle.std.specs.List.{AllByRecursion}
use Rattle.std.proofs.lemmas.List.{get_or-replicate}
use Rattle.hp_word.specs.declared.table.Message.{Message}
use Rattle.hp_word.specs.LoopRules.{word_at}
use Rattle.hp_lattice.specs.declared.dist.Dist.{Dist}
use Rattle.hp_spmd.specs.declared.instr.Packing.TheVariants.{Words}
use Rattle.hp_spmd.specs.declared.store.Store.{Store}
use Rattle.hp_spmd.specs.Exchange.{packed}
use Rattle.hp_spmd.specs.Messages.{message_of, words_across}
use Rattle.hp_spmd.specs.Store.{no_message}
use Rattle.hp_snippet.specs.Exchanging.{mail_for}
use Rattle.hp_snippet.proofs.Exchanges.{map_map}
use Rattle.hp_coll.specs.Reducing.{words_of_all}

-- each rank's words of these names, one message from each
abbrev pub mail : List ℕ → List Store → List Message
mail names ranks = map (λ (x : Store). message_of (map (word_at x.words) names)) ranks

pub mail_here : (w : ℕ) (names : List ℕ) (ranks : List Store) → words_across 0 (mail (w ∷ names) ranks) ≡ words_of_all ranks w
mail_here w names ranks = map_map (λ (m : Message). word_at m.words 0) (λ (x : Store). message_of (map (word_at x.words) (w ∷ names))) (λ (x : Store). word_at x.words w) (λ x. refl) ranks

pub mail_later : (k w : ℕ) (names : List ℕ) (ranks : List Store) → words_across (suc k) (mail (w ∷ names) ranks) ≡ words_across k (mail names ranks)
mail_later k w names ranks =
    map_map (λ (m : Message). word_at m.words (suc k)) (λ (x : Store). message_of (map (word_at x.words) (w ∷ names))) (λ (x : Store). word_at (map (word_at x.words) names) k) (λ x. refl) ranks
    ∙ sym (map_map (λ (m : Message). word_at m.words k) (λ (x : Store). message_of (map (word_at x.words) names)) (λ (x : Store). word_at (map (word_at x.words) names) k) (λ x. refl) ranks)

-- what a rank gets from all
pub mail_of : (dists : List Dist) (names : List ℕ) (n to : ℕ) (xs : List Store) → to < n → AllByRecursion (λ (x : Store). x.ranks ≡ n) xs → mail_for dists (Words names) xs to ≡ mail names xs
unfolding packed
mail_of dists names n to [] lt h = refl
mail_of dists names n to (x ∷ xs) lt h =
    let m = message_of (map (word_at x.words) names) in
    let few : to < x.ranks = subst (λ k. to < k) (sym h.0) lt in
    ap (λ y. y ∷ mail_for dists (Words names) xs to) (get_or-replicate x.ranks to m no_message few)
    ∙ ap (λ ys. m ∷ ys) (mail_of dists names n to xs lt h.1)
