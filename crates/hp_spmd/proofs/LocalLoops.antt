-- What a loop has made, written to a store.
use Rattle.std.proofs.Common.{◌≡◌, ℕ, ◌+◌, ◌<◌, ◌≤◌, ℤ, pos, List, [], ◌∷◌, map, length, get_or, set, drop, refl, ap, sym, ◌∙◌, arith}
use Rattle.std.proofs.lemmas.List.{drop_more, drop_all}
use Rattle.hp_spmd.specs.declared.instr.Folding.{Folding}
use Rattle.hp_spmd.specs.declared.instr.Out.{Out}
use Rattle.hp_spmd.specs.declared.store.Piece.{Piece}
use Rattle.hp_spmd.specs.Loops.{with_folds, with_outs}
use Rattle.hp_spmd.specs.LoopParts.{out_piece, fold_word, with_pieces, with_words}

pub pieces_of_outs : (outs : List Out) (leader : Piece) (rows : List (List ℤ)) (pieces : List Piece) → with_pieces outs (map (out_piece leader.rows leader.cuts rows) outs) pieces ≡ with_outs outs leader rows pieces
pieces_of_outs [] leader rows pieces = refl
pieces_of_outs (o ∷ outs) leader rows pieces = pieces_of_outs outs leader rows (set pieces o.array (out_piece leader.rows leader.cuts rows o))

pub words_of_folds : (folds : List Folding) (rows : List (List ℤ)) (words : List ℤ) → with_words folds (map (fold_word rows) folds) words ≡ with_folds folds rows words
words_of_folds [] rows words = refl
words_of_folds (f ∷ folds) rows words = words_of_folds folds rows (set words f.word (fold_word rows f))

with_no_pieces : (outs : List Out) (pieces : List Piece) → with_pieces outs [] pieces ≡ pieces
with_no_pieces [] pieces = refl
with_no_pieces (o ∷ outs) pieces = refl

with_no_words : (folds : List Folding) (words : List ℤ) → with_words folds [] words ≡ words
with_no_words [] words = refl
with_no_words (f ∷ folds) words = refl

pub words_step : (folds items : List Folding) (made words after : List ℤ) (k : ℕ) (d : Folding) → items ≡ folds → k < length items → k < length made → after ≡ set words (get_or items k d).word (get_or made k (pos 0)) → with_words (drop (k + 1) folds) (drop (k + 1) made) after ≡ with_words (drop k folds) (drop k made) words
words_step folds items made words after k d t h g a =
    let named : k < length folds = omega (arith, ap length t) in
    let ws = drop_more made k (pos 0) g in
    let fs = drop_more folds k d named in
    let written : after ≡ set words (get_or folds k d).word (get_or made k (pos 0)) = a ∙ ap (λ l. set words (get_or l k d).word (get_or made k (pos 0))) t in
    ap (with_words (drop (k + 1) folds) (drop (k + 1) made)) written ∙ sym (ap (λ l. with_words l (drop k made) words) fs ∙ ap (λ l. with_words (get_or folds k d ∷ drop (k + 1) folds) l words) ws)

pub words_past : (folds : List Folding) (made words after : List ℤ) (k : ℕ) → length made ≤ k → after ≡ words → with_words (drop (k + 1) folds) (drop (k + 1) made) after ≡ with_words (drop k folds) (drop k made) words
words_past folds made words after k h a =
    let none_now = drop_all k made h in
    let later : length made ≤ k + 1 = omega arith in
    let none_then = drop_all (k + 1) made later in
    ap (with_words (drop (k + 1) folds) (drop (k + 1) made)) a
    ∙ ap (λ l. with_words (drop (k + 1) folds) l words) none_then ∙ with_no_words (drop (k + 1) folds) words
    ∙ sym (ap (λ l. with_words (drop k folds) l words) none_now ∙ with_no_words (drop k folds) words)

pub no_more_pieces : (outs : List Out) (left pieces : List Piece) → left ≡ [] → with_pieces outs left pieces ≡ pieces
no_more_pieces outs left pieces h = ap (λ l. with_pieces outs l pieces) h ∙ with_no_pieces outs pieces
