-- What a loop makes of its rows: arrays and words that are set.
use Rattle.std.proofs.Common.{◌≡◌, ◌∙◌, refl, sym, subst, ap, arith, ℕ, ◌<◌, ℤ, pos, List, [], ◌∷◌, map, length, length-set, set, Option, Some, None, inl, inr, ◌⊎◌}
use Rattle.std.specs.Prelude.{slice_set}
use Rattle.std.specs.List.{AllByRecursion}
use Rattle.std.proofs.lemmas.List.{get_or-map, get_or-set_other, get_or-set_same, length-map}
use Rattle.hp_word.specs.declared.fold.FoldKind.TheVariants.{Sum}
use Rattle.hp_word.specs.Folds.{fold_of}
use Rattle.hp_word.specs.LoopRules.{column_of, word_at}
use Rattle.hp_spmd.specs.declared.instr.Folding.{Folding}
use Rattle.hp_spmd.specs.declared.instr.Out.{Out}
use Rattle.hp_spmd.specs.declared.store.Piece.{Piece}
use Rattle.hp_spmd.specs.Loops.{cut_as, with_folds, with_outs}
use Rattle.hp_spmd.specs.Setting.{with_all}
use Rattle.hp_snippet.specs.Moves.{changed}
use Rattle.hp_snippet.specs.Promises.{AreOnce, IsNoneOf}
use Rattle.hp_snippet.proofs.MoveWholes.{StandsAt, among, changed_at, changed_other}

-- ---- outs

pub outs_all : (outs : List Out) (leader : Piece) (rows : List (List ℤ)) (pieces : List Piece)
    → with_outs outs leader rows pieces ≡ with_all (map (λ (o : Out). o.array) outs) (map (λ (o : Out). cut_as leader (column_of o.value rows)) outs) pieces
outs_all [] leader rows pieces = refl
outs_all (o ∷ os) leader rows pieces = outs_all os leader rows (slice_set pieces o.array (cut_as leader (column_of o.value rows)))

-- ---- folds

pub folds_count : (folds : List Folding) (rows : List (List ℤ)) (words : List ℤ) → length (with_folds folds rows words) ≡ length words
folds_count [] rows words = refl
folds_count (f ∷ fs) rows words = folds_count fs rows (set words f.word (fold_of f.kind (column_of f.value rows))) ∙ length-set words f.word (fold_of f.kind (column_of f.value rows))

-- a word that is none of a fold
pub folds_other : (folds : List Folding) (rows : List (List ℤ)) (words : List ℤ) (w : ℕ) → IsNoneOf (map (λ (f : Folding). f.word) folds) w → word_at (with_folds folds rows words) w ≡ word_at words w
folds_other [] rows words w apart = refl
folds_other (f ∷ fs) rows words w apart =
    folds_other fs rows (set words f.word (fold_of f.kind (column_of f.value rows))) w apart.1 ∙ get_or-set_other words f.word w (fold_of f.kind (column_of f.value rows)) (pos 0) (λ e. apart.0 (sym e))

still_below : (words : List ℤ) (w : ℕ) (value : ℤ) (fs : List Folding) → AllByRecursion (λ (f : Folding). f.word < length words) fs → AllByRecursion (λ (f : Folding). f.word < length (set words w value)) fs
still_below words w value [] h = tt
still_below words w value (f ∷ fs) h = (subst (λ n. f.word < n) (sym (length-set words w value)) h.0, still_below words w value fs h.1)

-- the word of each fold
pub folds_are : (folds : List Folding) (rows : List (List ℤ)) (words : List ℤ) → AreOnce (map (λ (f : Folding). f.word) folds) → AllByRecursion (λ (f : Folding). f.word < length words) folds
    → AllByRecursion (λ (f : Folding). word_at (with_folds folds rows words) f.word ≡ fold_of f.kind (column_of f.value rows)) folds
folds_are [] rows words once below = tt
folds_are (f ∷ fs) rows words once below =
    let value = fold_of f.kind (column_of f.value rows) in (
      folds_other fs rows (set words f.word value) f.word once.0 ∙ get_or-set_same words f.word value (pos 0) below.0,
      folds_are fs rows (set words f.word value) once.1 (still_below words f.word value fs below.1),
    )

-- ---- words that have no value then

pub record Kept (names : List ℕ) (before : ℕ → Option ℤ) (w : ℕ) (value : ℤ) : Type 0 where
  pub apart : IsNoneOf names w
  pub had : before w ≡ Some value

-- a fold has no value
abbrev no_value : Folding → Option ℤ
no_value f = None

none_some : (o : Option ℤ) (value : ℤ) → o ≡ None → o ≡ Some value → ⊥
none_some o value e f = cc

-- a word that has a value where those of folds have none
pub words_but : (folds : List Folding) (before : ℕ → Option ℤ) (w : ℕ) (value : ℤ) → AreOnce (map (λ (f : Folding). f.word) folds) → changed (map (λ (f : Folding). f.word) folds) (map no_value folds) before w ≡ Some value
    → Kept (map (λ (f : Folding). f.word) folds) before w value
words_but folds before w value once e = by_place (among (map (λ (f : Folding). f.word) folds) w)
  where
    no_fold : Folding
    no_fold = record { word = 0; kind = Sum; value = 0 }

    by_place : IsNoneOf (map (λ (f : Folding). f.word) folds) w ⊎ StandsAt (map (λ (f : Folding). f.word) folds) w → Kept (map (λ (f : Folding). f.word) folds) before w value
    by_place (inl apart) = record { apart = apart; had = sym (changed_other (map (λ (f : Folding). f.word) folds) (map no_value folds) before w apart) ∙ e }
    by_place (inr at) =
        let names = map (λ (f : Folding). f.word) folds in
        let nones = map no_value folds in
        let count : length names ≡ length nones = length-map folds (λ (f : Folding). f.word) ∙ sym (length-map folds no_value) in
        let there = at.within in
        let many = length-map folds (λ (f : Folding). f.word) in
        let within : at.place < length folds = omega (arith, there, many) in
        absurd (none_some (changed names nones before w) value (ap (changed names nones before) (sym at.is) ∙ changed_at names nones before at.place None once count at.within ∙ get_or-map no_value folds at.place no_fold None within) e)
