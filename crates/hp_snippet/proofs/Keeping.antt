-- Ranks of which only what is written has changed stand for the rest as before.
use Rattle.std.proofs.Common.{◌≡◌, ◌∙◌, refl, sym, subst, ap, arith, ℕ, suc, ◌<◌, ℤ, List, [], ◌∷◌, length, get_or, map, Some, ◌⊎◌, inl, inr}
use Rattle.std.specs.List.{All, AllZip, AllByRecursion}
use Rattle.std.proofs.lemmas.List.Elements.{AllZip-get_or, length_all_zip, recursion_from_All}
use Rattle.hp_word.specs.LoopRules.{word_at}
use Rattle.hp_lattice.specs.declared.dist.Dist.{Dist}
use Rattle.hp_spmd.specs.declared.code.Code.{Code}
use Rattle.hp_spmd.specs.declared.store.Store.{Store}
use Rattle.hp_spmd.specs.Layout.{Env, HoldsPiece, IsLaid, Layout, MayCut, Numbered, Whole}
use Rattle.hp_spmd.specs.Store.{dist_at, piece_at}
use Rattle.hp_snippet.specs.Promises.{IsNoneOf, Slots, Stays}

-- ---- rank by rank

pub stays_count : (written : Slots) (xs ys : List Store) → AllZip (Stays written) xs ys → length ys ≡ length xs
stays_count written xs ys h = sym (length_all_zip (Stays written) xs ys h)

pub stays_at : (written : Slots) (xs ys : List Store) → AllZip (Stays written) xs ys → (k : ℕ) (d : Store) → k < length ys → Stays written (get_or xs k d) (get_or ys k d)
stays_at written xs ys h k d lt = AllZip-get_or (Stays written) xs ys k d d h (let same = stays_count written xs ys h in omega (arith, lt, same))

pub stays_numbered : (written : Slots) (xs ys : List Store) (k : ℕ) → AllZip (Stays written) xs ys → Numbered k xs → Numbered k ys
stays_numbered written [] [] k h n = tt
stays_numbered written [] (y ∷ ys) k h n = absurd h
stays_numbered written (x ∷ xs) [] k h n = absurd h
stays_numbered written (x ∷ xs) (y ∷ ys) k h n = (h.0.number ∙ n.0, stays_numbered written xs ys (suc k) h.1 n.1)

-- each of these ranks and what becomes of it
pub zip_map : (R : Store → Store → Type 0) (g : Store → Store) (xs : List Store) → All (λ x. R x (g x)) xs → AllZip R xs (map g xs)
zip_map R g xs h = by_turns xs (recursion_from_All (λ x. R x (g x)) xs h)
  where
    by_turns : (xs : List Store) → AllByRecursion (λ x. R x (g x)) xs → AllZip R xs (map g xs)
    by_turns [] h = tt
    by_turns (x ∷ xs) h = (h.0, by_turns xs h.1)

-- ---- an array that is not written lies as before

stays_laid : (written : Slots) (dist : Dist) (xs ys : List Store) (slot : ℕ) (cuts : List ℕ) (whole : Whole) → IsNoneOf written.arrays slot → AllZip (Stays written) xs ys → IsLaid dist xs slot cuts whole → IsLaid dist ys slot cuts whole
stays_laid written dist xs ys slot cuts whole apart a h =
    let same = stays_count written xs ys a in
    record {
      columns = h.columns;
      size = h.size;
      may = subst (λ n. MayCut dist h.columns n cuts) (sym same) h.may;
      held = λ k d lt.
          let on : k < length xs = omega (arith, lt, same) in
          let at = stays_at written xs ys a k d lt in
          subst (λ r. HoldsPiece dist cuts whole r (piece_at (get_or ys k d).arrays slot)) (sym at.number)
          (subst (λ p. HoldsPiece dist cuts whole (get_or xs k d).number p) (sym (at.arrays slot apart)) (h.held k d on));
    }

-- ---- the whole

-- an array is not written and stands for what it stood for, or it lies so
abbrev pub LiesBehind : (code : Code) (written : Slots) (ys : List Store) (before after : Env) (old new : ℕ → List ℕ) → ℕ → Type 0
LiesBehind code written ys before after old new slot =
    (IsNoneOf written.arrays slot × (after.arrays slot ≡ before.arrays slot) × (new slot ≡ old slot)) ⊎ IsLaid (dist_at code.arrays slot) ys slot (new slot) (after.arrays slot)

pub stays_layout : (code : Code) (written : Slots) (xs ys : List Store) (before after : Env) (l : Layout code xs before) (cuts : ℕ → List ℕ) → AllZip (Stays written) xs ys
    → ((slot : ℕ) → slot < length code.arrays → LiesBehind code written ys before after l.cuts cuts slot)
    → ((w : ℕ) (value : ℤ) → after.words w ≡ Some value → All (λ y. word_at y.words w ≡ value) ys)
    → Layout code ys after
stays_layout code written xs ys before after l cuts a lie words =
    let count = stays_count written xs ys a in
    record {
      numbers = stays_numbered written xs ys 0 a l.numbers;
      counts = λ k d lt. let on : k < length xs = omega (arith, lt, count) in (stays_at written xs ys a k d lt).ranks_are ∙ l.counts k d on ∙ sym count;
      cuts = cuts;
      arrays = λ slot h. laid slot h (lie slot h);
      words = words;
    }
  where
    laid : (slot : ℕ) → slot < length code.arrays → LiesBehind code written ys before after l.cuts cuts slot → IsLaid (dist_at code.arrays slot) ys slot (cuts slot) (after.arrays slot)
    laid slot h (inl same) =
        subst (λ whole. IsLaid (dist_at code.arrays slot) ys slot (cuts slot) whole) (sym same.1)
        (subst (λ cs. IsLaid (dist_at code.arrays slot) ys slot cs (before.arrays slot)) (sym same.2)
        (stays_laid written (dist_at code.arrays slot) xs ys slot (l.cuts slot) (before.arrays slot) same.0 a (l.arrays slot h)))
    laid slot h (inr lies) = lies

-- a word that is not written has on each rank the value that it had
pub word_stays : (code : Code) (written : Slots) (xs ys : List Store) (before : Env) → AllZip (Stays written) xs ys → Layout code xs before → (w : ℕ) (value : ℤ) → IsNoneOf written.words w → before.words w ≡ Some value
    → All (λ y. word_at y.words w ≡ value) ys
word_stays code written xs ys before a l w value apart e k d lt =
    let count = stays_count written xs ys a in
    let on : k < length xs = omega (arith, lt, count) in
    (stays_at written xs ys a k d lt).words w apart ∙ l.words w value e k d on

-- where no array is written
pub words_layout : (code : Code) (written : Slots) (xs ys : List Store) (before after : Env) → written.arrays ≡ [] → AllZip (Stays written) xs ys → Layout code xs before → after.arrays ≡ before.arrays
    → ((w : ℕ) (value : ℤ) → after.words w ≡ Some value → All (λ y. word_at y.words w ≡ value) ys)
    → Layout code ys after
words_layout code written xs ys before after none a l same words =
    stays_layout code written xs ys before after l l.cuts a (λ slot h. inl (subst (λ names. IsNoneOf names slot) (sym none) tt, ap (λ e. e slot) same, refl)) words
