-- What each rank makes of the words of all.
use Rattle.std.proofs.Common.{◌≡◌, ◌∙◌, refl, sym, subst, ap, arith, ℕ, suc, ◌<◌, inl, inr, ℤ, pos, false, List, [], ◌∷◌, map, length, length-set, get_or, set, cond, Some, Ok}
use Rattle.std.specs.Prelude.{Option}
use Rattle.std.specs.List.{AllByRecursion}
use Rattle.std.proofs.lemmas.Bool.{cases_eq, eq-eqb, ne_eqb}
use Rattle.std.proofs.lemmas.List.{get_or-set_same, get_or-set_other}
use Rattle.std.proofs.lemmas.List.Elements.{All-map, recursion_from_All}
use Rattle.std.proofs.lemmas.List.Folds.{flat_map-map}
use Rattle.hp_word.specs.declared.fold.FoldKind.{FoldKind}
use Rattle.hp_word.specs.declared.table.Message.{Message}
use Rattle.hp_word.specs.Folds.{fold_of}
use Rattle.hp_word.specs.LoopRules.{word_at}
use Rattle.hp_word.proofs.FoldLemmas.{fold_of_pieces}
use Rattle.hp_lattice.specs.declared.dist.Dist.{Dist}
use Rattle.hp_spmd.specs.declared.code.Code.{Code}
use Rattle.hp_spmd.specs.declared.instr.Folding.{Folding}
use Rattle.hp_spmd.specs.declared.instr.Instr.{Instr}
use Rattle.hp_spmd.specs.declared.instr.Instr.TheVariants as instr
use Rattle.hp_spmd.specs.declared.store.Store.{Store}
use Rattle.hp_spmd.specs.Exchange.{unpacked}
use Rattle.hp_spmd.specs.Layout.{Env}
use Rattle.hp_spmd.specs.Local.{pack_done}
use Rattle.hp_spmd.specs.Lockstep.{position_of}
use Rattle.hp_spmd.specs.Messages.{with_words_folded, words_across}
use Rattle.hp_spmd.specs.Store.{Data, data_of}
use Rattle.hp_spmd.proofs.ShareNext.{next_shared}
use Rattle.hp_snippet.specs.Exchanging.{mail_for}
use Rattle.hp_snippet.specs.Promises.{AreOnce, IsNoneOf, IsStraight, IsWork, LeavesShared, Performs, StandBefore, Stays}
use Rattle.hp_snippet.proofs.Keeping.{words_layout, zip_map}
use Rattle.hp_snippet.proofs.Naming.{each_below, named_at}
use Rattle.hp_snippet.proofs.Performing.{behind, behind_ranks, exchange_went}
use Rattle.hp_coll.proofs.Mail.{mail, mail_here, mail_later, mail_of}
use Rattle.hp_coll.specs.Reducing.{FoldsOfParts, FoldsOnce, folded_value, named_folds, reduce_code, reduce_writes, reduced, what_is_packed, what_is_unpacked, word_names, words_of_all}

-- ---- the words that arrive

-- from the k-th word of the messages on are those of these folds
abbrev Brings : List Message → List Store → ℕ → List Folding → Type 0
Brings inbox ranks k [] = Unit {0}
Brings inbox ranks k (f ∷ fs) = (words_across k inbox ≡ words_of_all ranks f.word) × Brings inbox ranks (suc k) fs

brings_later : (w : ℕ) (names : List ℕ) (ranks : List Store) (k : ℕ) (fs : List Folding) → Brings (mail names ranks) ranks k fs → Brings (mail (w ∷ names) ranks) ranks (suc k) fs
brings_later w names ranks k [] h = tt
brings_later w names ranks k (f ∷ fs) h = (mail_later k w names ranks ∙ h.0, brings_later w names ranks (suc k) fs h.1)

brings : (ranks : List Store) (fs : List Folding) → Brings (mail (word_names fs) ranks) ranks 0 fs
brings ranks [] = tt
brings ranks (f ∷ fs) = (mail_here f.word (word_names fs) ranks, brings_later f.word (word_names fs) ranks 0 fs (brings ranks fs))

-- ---- the words that are set

folded_count : (inbox : List Message) (k : ℕ) (fs : List Folding) (words : List ℤ) → length (with_words_folded k inbox (named_folds fs) words) ≡ length words
folded_count inbox k [] words = refl
folded_count inbox k (f ∷ fs) words =
    folded_count inbox (suc k) fs (set words f.word (fold_of f.kind (words_across k inbox))) ∙ length-set words f.word (fold_of f.kind (words_across k inbox))

folded_others : (inbox : List Message) (k : ℕ) (fs : List Folding) (words : List ℤ) (w : ℕ) → IsNoneOf (word_names fs) w → word_at (with_words_folded k inbox (named_folds fs) words) w ≡ word_at words w
folded_others inbox k [] words w h = refl
folded_others inbox k (f ∷ fs) words w h =
    folded_others inbox (suc k) fs (set words f.word (fold_of f.kind (words_across k inbox))) w h.1
    ∙ get_or-set_other words f.word w (fold_of f.kind (words_across k inbox)) (pos 0) (λ e. h.0 (sym e))

still_below : (words : List ℤ) (w : ℕ) (value : ℤ) (gs : List Folding) → AllByRecursion (λ (g : Folding). g.word < length words) gs → AllByRecursion (λ (g : Folding). g.word < length (set words w value)) gs
still_below words w value [] h = tt
still_below words w value (g ∷ gs) h = (subst (λ n. g.word < n) (sym (length-set words w value)) h.0, still_below words w value gs h.1)

some_same : (a b : ℤ) → Some a ≡ Some b → a ≡ b
some_same a b e = cc

-- a word that has a value after a reduction has it on each rank
folded_is : (inbox : List Message) (ranks : List Store) (k : ℕ) (fs : List Folding) (words : List ℤ) (before : ℕ → Option ℤ) (w : ℕ) (value : ℤ) → Brings inbox ranks k fs → AreOnce (word_names fs)
    → AllByRecursion (λ (f : Folding). f.word < length words) fs → (before w ≡ Some value → word_at words w ≡ value) → folded_value fs ranks before w ≡ Some value
    → word_at (with_words_folded k inbox (named_folds fs) words) w ≡ value
folded_is inbox ranks k [] words before w value b once below held e = held e
folded_is inbox ranks k (f ∷ fs) words before w value b once below held e = elim (cases_eq f.word w) [
  | inl same ↦
      let now : fold_of f.kind (words_of_all ranks f.word) ≡ value = some_same (fold_of f.kind (words_of_all ranks f.word)) value (sym (ap (λ t. cond t (Some (fold_of f.kind (words_of_all ranks f.word))) (folded_value fs ranks before w)) (eq-eqb f.word w same)) ∙ e) in
      let made = fold_of f.kind (words_across k inbox) in
      folded_others inbox (suc k) fs (set words f.word made) w (subst (IsNoneOf (word_names fs)) same once.0)
      ∙ ap (word_at (set words f.word made)) (sym same)
      ∙ get_or-set_same words f.word made (pos 0) below.0
      ∙ ap (fold_of f.kind) b.0
      ∙ now
  | inr other ↦
      let made = fold_of f.kind (words_across k inbox) in
      folded_is inbox ranks (suc k) fs (set words f.word made) before w value b.1 once.1 (still_below words f.word made fs below.1)
      (λ h. get_or-set_other words f.word w made (pos 0) (λ e. other (sym e)) ∙ held h)
      (sym (ap (λ t. cond t (Some (fold_of f.kind (words_of_all ranks f.word))) (folded_value fs ranks before w)) (ne_eqb f.word w other)) ∙ e)
]

-- ---- all ranks

-- the data of a rank with the words that it makes
abbrev folded : List Dist → List Folding → List Store → Store → Data
folded dists folds ranks x = record (data_of x) { words = with_words_folded 0 (mail_for dists (what_is_packed folds) ranks x.number) (named_folds folds) x.words }

folded_makes : (dists : List Dist) (folds : List Folding) (ranks : List Store) (x : Store) → unpacked dists (what_is_unpacked folds) x.number x.ranks (mail_for dists (what_is_packed folds) ranks x.number) (data_of x) ≡ Ok (folded dists folds ranks x)
unfolding unpacked
folded_makes dists folds ranks x = refl

folded_stays : (dists : List Dist) (folds : List Folding) (ranks : List Store) (x : Store) → Stays (reduce_writes folds) x (behind dists (what_is_packed folds) ranks (folded dists folds ranks) x)
unfolding pack_done
folded_stays dists folds ranks x =
    record {
      number = refl;
      ranks_are = refl;
      words = λ w apart. folded_others (mail_for dists (what_is_packed folds) ranks x.number) 0 folds x.words w apart;
      arrays = λ k apart. refl;
      loose = λ k apart. refl;
      executed = refl;
      log = refl;
    }

-- the words of one rank
folded_word : (code : Code) (folds : List Folding) (ranks : List Store) (env : Env) (k : ℕ) (d : Store) → StandBefore code (reduce_code folds) (record { ranks = ranks; out = [] }) env → AreOnce (word_names folds) → k < length ranks
    → (w : ℕ) (value : ℤ) → folded_value folds ranks env.words w ≡ Some value → word_at (folded code.arrays folds ranks (get_or ranks k d)).words w ≡ value
folded_word code folds ranks env k d h once lt w value e =
    let x = get_or ranks k d in
    let n = length ranks in
    let rank = h.each k d lt in
    let placed = rank.placed in
    let got = mail_of code.arrays (word_names folds) n x.number ranks placed.number_below (recursion_from_All (λ (y : Store). y.ranks ≡ n) ranks h.lays.counts) in
    let arrives : Brings (mail_for code.arrays (what_is_packed folds) ranks x.number) ranks 0 folds = subst (λ m. Brings m ranks 0 folds) (sym got) (brings ranks folds) in
    let within = each_below (λ (f : ℕ × FoldKind). f.0) code.words (named_folds folds) (named_at code (suc (suc (suc (position_of ranks)))) (instr.Unpack (what_is_unpacked folds)) h.stand.1.1.1.0) in
    let below : AllByRecursion (λ (f : Folding). f.word < length x.words) folds = named_below folds (length x.words) code.words (sym rank.words) within in
    folded_is (mail_for code.arrays (what_is_packed folds) ranks x.number) ranks 0 folds x.words env.words w value arrives once below (λ held. h.lays.words w value held k d lt) e
  where
    named_below : (fs : List Folding) (n count : ℕ) → count ≡ n → AllByRecursion (λ (f : ℕ × FoldKind). f.0 < count) (named_folds fs) → AllByRecursion (λ (f : Folding). f.word < n) fs
    named_below [] n count e h = tt
    named_below (f ∷ fs) n count e h = (subst (λ m. f.word < m) e h.0, named_below fs n count e h.1)

pub reduces : (folds : List Folding) → Performs (FoldsOnce folds) (reduced folds) (reduce_writes folds) (reduce_code folds)
unfolding pack_done
reduces folds code tables price s env h once =
    let ranks = s.ranks in
    let f = folded code.arrays folds ranks in
    let g = behind code.arrays (what_is_packed folds) ranks f in
    let stays = zip_map (Stays (reduce_writes folds)) g ranks (λ k d lt. folded_stays code.arrays folds ranks (get_or ranks k d)) in
    let after : Env = record env { words = folded_value folds ranks env.words } in
    exchange_went code tables price (what_is_packed folds) (what_is_unpacked folds) s env after (reduce_writes folds) f h (λ k d lt. folded_makes code.arrays folds ranks (get_or ranks k d))
    (behind_ranks code (length ranks) (what_is_packed folds) ranks f h.each (λ x. refl) (λ x. folded_count (mail_for code.arrays (what_is_packed folds) ranks x.number) 0 folds x.words) (λ x. refl))
    stays
    (words_layout code (reduce_writes folds) ranks (map g ranks) env after refl stays h.lays refl
    (λ w value e. All-map (λ (y : Store). word_at y.words w ≡ value) g ranks
    (λ k d lt. folded_word code folds ranks env k d (record { stand = h.stand; some = h.some; each = h.each; lays = h.lays }) once lt w value e)))

-- ---- what can be seen of it

pub list_reduces : (folds : List Folding) (list : List Instr) → list ≡ reduce_code folds → Performs (FoldsOnce folds) (reduced folds) (reduce_writes folds) list
list_reduces folds list e = subst (Performs (FoldsOnce folds) (reduced folds) (reduce_writes folds)) (sym e) (reduces folds)

pub reduce_straight : (folds : List Folding) (list : List Instr) → list ≡ reduce_code folds → IsStraight list
reduce_straight folds list e = subst IsStraight (sym e) (record { leads = (refl, (refl, (refl, (refl, refl)))); jumps = (tt, (tt, (tt, (tt, tt)))); sizes = (tt, (tt, (tt, (tt, tt)))) })

pub reduce_shares : (folds : List Folding) (list : List Instr) → list ≡ reduce_code folds → (code : Code) → AllByRecursion (LeavesShared code) list
reduce_shares folds list e code =
    subst (AllByRecursion (LeavesShared code)) (sym e)
    ((λ tables x y. next_shared code tables (instr.Pack (what_is_packed folds)) x y tt), ((λ tables x y. next_shared code tables (instr.Post false) x y tt), ((λ tables x y. next_shared code tables (instr.Take false) x y tt), (tt, tt))))

pub reduce_work : (folds : List Folding) (list : List Instr) → list ≡ reduce_code folds → IsWork 1 list
reduce_work folds list e = subst (IsWork 1) (sym e) (record { few = omega arith; cheap = λ ranks. omega arith })

-- ---- folds of parts

parts_words : (kind : FoldKind) (w : ℕ) (part : Store → List ℤ) (xs : List Store) → AllByRecursion (λ (x : Store). word_at x.words w ≡ fold_of kind (part x)) xs → words_of_all xs w ≡ map (fold_of kind) (map part xs)
parts_words kind w part [] h = refl
parts_words kind w part (x ∷ xs) h = ap (λ v. v ∷ words_of_all xs w) h.0 ∙ ap (λ vs. fold_of kind (part x) ∷ vs) (parts_words kind w part xs h.1)

pub folds_of_parts : FoldsOfParts
folds_of_parts kind w ranks part h =
    ap (fold_of kind) (parts_words kind w part ranks (recursion_from_All (λ (x : Store). word_at x.words w ≡ fold_of kind (part x)) ranks h))
    ∙ fold_of_pieces kind (map part ranks)
    ∙ ap (fold_of kind) (flat_map-map (λ (p : List ℤ). p) part ranks)
