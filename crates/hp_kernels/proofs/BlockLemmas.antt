-- The cells and the rows of a block, and what is made of them.
use Rattle.std.proofs.Common.{◌≡◌, ◌<◌, ◌≤◌, ◌+◌, zero, suc, ℕ, ℤ, pos, List, [], ◌∷◌, ◌++◌, map, length, get_or, set, take, replicate, refl, ap, sym, ◌∙◌, arith}
use Rattle.std.specs.List.{range_with_len}
use Rattle.std.specs.Vec.{with_items}
use Rattle.std.specs.declared.vec.Vec.{Vec}
use Rattle.std.proofs.lemmas.List.{map-append, map-set, length-map, length-take-le, get_or-take, map_more, with_items_is, get_or-replicate, length-replicate, replicate_more}
use Rattle.std.proofs.lemmas.List.FromFn.{fill_by_all}
use Rattle.hp_word.specs.declared.fold.FoldKind.{FoldKind}
use Rattle.hp_word.specs.Folds.{fold_of, joined}
use Rattle.hp_word.specs.LoopRules.{column_of, word_at}
use Rattle.hp_word.proofs.FoldLemmas.{fold_of_none, fold_of_one_more, fold_of_parts}
use Rattle.hp_kernels.specs.declared.loops.columns.Operand.{Operand}
use Rattle.hp_kernels.specs.declared.loops.columns.Operand.TheVariants.{Same}
use Rattle.hp_kernels.specs.declared.loops.made.LetFold.{LetFold}
use Rattle.hp_kernels.specs.LoopColumns.{cell_of, changed_by, first_cells, first_rows, joined_with, row_of, with_cells}
use Rattle.hp_kernels.specs.Loops.{fold_word}

-- ---- cells

pub same_cells : (places : ℕ) (word : ℤ) → replicate places word ≡ first_cells places (Same word)
same_cells places word = fill_by_all (cell_of (Same word)) (replicate places word) places (pos 0) (length-replicate places word) (λ k l. get_or-replicate places k word (pos 0) l)

pub taken_cells : (places : ℕ) (cells : List ℤ) → places ≤ length cells → take places cells ≡ map (word_at cells) (range_with_len 0 places)
taken_cells places cells long = fill_by_all (word_at cells) (take places cells) places (pos 0) (length-take-le places cells long) (λ k l. get_or-take places cells k (pos 0) l)

-- ---- folds

pub fold_more : (kind : FoldKind) (word : ℤ) (i : ℕ) → fold_of kind (replicate (i + 1) word) ≡ joined kind (fold_of kind (replicate i word)) word
fold_more kind word i = ap (fold_of kind) (sym (replicate_more i word)) ∙ fold_of_one_more kind (replicate i word) word

pub ruleset fold_steps = (fold_more, fold_of_none)

-- ---- a list that is changed item by item

-- the first k items changed
abbrev pub first_changed : {A X : Type 0} → (A → X → X) → ℕ → List A → List X → List X
first_changed f zero by xs = xs
first_changed f (suc k) [] xs = xs
first_changed f (suc k) (a ∷ by) [] = []
first_changed f (suc k) (a ∷ by) (x ∷ xs) = f a x ∷ first_changed f k by xs

changed_next : {A X : Type 0} → (f : A → X → X) (k : ℕ) (by : List A) (xs : List X) (d : A) (x e : X) → k < length by → k < length xs → x ≡ get_or (first_changed f k by xs) k e → set (first_changed f k by xs) k (f (get_or by k d) x) ≡ first_changed f (suc k) by xs
changed_next f k [] xs d x e h g r = absurd (omega arith)
changed_next f k (b ∷ by) [] d x e h g r = absurd (omega arith)
changed_next f zero (b ∷ by) (y ∷ xs) d x e h g r = ap (λ z. f b z ∷ xs) r
changed_next f (suc k) (b ∷ by) (y ∷ xs) d x e h g r = ap (λ l. f b y ∷ l) (changed_next f k by xs d x e (omega arith) (omega arith) r)

changed_past : {A X : Type 0} → (f : A → X → X) (k : ℕ) (by : List A) (xs : List X) → length xs ≤ k → first_changed f k by xs ≡ first_changed f (suc k) by xs
changed_past f zero [] xs h = refl
changed_past f zero (b ∷ by) [] h = refl
changed_past f zero (b ∷ by) (y ∷ xs) h = absurd (omega arith)
changed_past f (suc k) [] xs h = refl
changed_past f (suc k) (b ∷ by) [] h = refl
changed_past f (suc k) (b ∷ by) (y ∷ xs) h = ap (λ l. f b y ∷ l) (changed_past f k by xs (omega arith))

changed_all : {A X : Type 0} → (f : A → X → X) (k : ℕ) (by : List A) (xs : List X) → length by ≤ k → first_changed f k by xs ≡ changed_by f by xs
changed_all f zero [] xs h = refl
changed_all f zero (b ∷ by) xs h = absurd (omega arith)
changed_all f (suc k) [] xs h = refl
changed_all f (suc k) (b ∷ by) [] h = refl
changed_all f (suc k) (b ∷ by) (y ∷ xs) h = ap (λ l. f b y ∷ l) (changed_all f k by xs (omega arith))

changed_length : {A X : Type 0} → (f : A → X → X) (k : ℕ) (by : List A) (xs : List X) → length (first_changed f k by xs) ≡ length xs
changed_length f zero by xs = refl
changed_length f (suc k) [] xs = refl
changed_length f (suc k) (b ∷ by) [] = refl
changed_length f (suc k) (b ∷ by) (y ∷ xs) = ap suc (changed_length f k by xs)

-- one step of a loop that changes items in place
pub changed_step : {A X : Type 0} → (f : A → X → X) (k : ℕ) (by : List A) (xs now after : List X) (d : A) (x e : X) → now ≡ first_changed f k by xs → k < length by → k < length now → x ≡ get_or now k e
    → after ≡ set now k (f (get_or by k d) x) → after ≡ first_changed f (k + 1) by xs
changed_step f k by xs now after d x e s h g r a =
    let within : k < length xs = omega (arith, changed_length f k by xs, ap length s) in
    let read : x ≡ get_or (first_changed f k by xs) k e = r ∙ ap (λ l. get_or l k e) s in
    let one : suc k ≡ k + 1 = omega arith in
    a ∙ ap (λ l. set l k (f (get_or by k d) x)) s ∙ changed_next f k by xs d x e h within read ∙ ap (λ n. first_changed f n by xs) one

pub changed_stays : {A X : Type 0} → (f : A → X → X) (k : ℕ) (by : List A) (xs now : List X) → now ≡ first_changed f k by xs → length now ≤ k → now ≡ first_changed f (k + 1) by xs
changed_stays f k by xs now s h =
    let past : length xs ≤ k = omega (arith, changed_length f k by xs, ap length s) in
    let one : suc k ≡ k + 1 = omega arith in
    s ∙ changed_past f k by xs past ∙ ap (λ n. first_changed f n by xs) one

pub changed_end : {A X : Type 0} → (f : A → X → X) (k : ℕ) (by : List A) (xs now : List X) → now ≡ first_changed f k by xs → length by ≤ k → now ≡ changed_by f by xs
changed_end f k by xs now s h = s ∙ changed_all f k by xs h

item_of_map : {X Y : Type 0} → (view : X → Y) (xs : List X) (k : ℕ) (d : X) (e : Y) → k < length xs → get_or (map view xs) k e ≡ view (get_or xs k d)
item_of_map view [] k d e l = absurd (omega arith)
item_of_map view (x ∷ xs) zero d e l = refl
item_of_map view (x ∷ xs) (suc k) d e l = item_of_map view xs k d e (omega arith)

-- one more column has the cells of a block
pub column_step : {Z : Type 0} → (rows : List (List ℤ)) (k : ℕ) (outs : List ℕ) (first now after : List (Vec ℤ Z)) (d w : Vec ℤ Z) → map (λ (c : Vec ℤ Z). c.items) now ≡ first_changed (with_cells rows) k outs (map (λ (c : Vec ℤ Z). c.items) first)
    → k < length outs → k < length now → w.items ≡ with_cells rows (get_or outs k 0) (get_or now k d).items → after ≡ set now k w
    → map (λ (c : Vec ℤ Z). c.items) after ≡ first_changed (with_cells rows) (k + 1) outs (map (λ (c : Vec ℤ Z). c.items) first)
column_step {Z = Z} rows k outs first now after d w s h g c a =
    let view : Vec ℤ Z → List ℤ = λ v. v.items in
    let within : k < length (map view now) = omega (arith, length-map now view) in
    let read : (get_or now k d).items ≡ get_or (map view now) k [] = sym (item_of_map view now k d [] g) in
    changed_step (with_cells rows) k outs (map view first) (map view now) (map view after) 0 (get_or now k d).items [] s h within read
    (ap (map view) a ∙ map-set view now k w ∙ ap (set (map view now) k) c)

-- one more column of no cells
pub column_pushed : {Z : Type 0} → (outs : List ℕ) (i : ℕ) (before after : List (Vec ℤ Z)) (w : Vec ℤ Z) → map (λ (c : Vec ℤ Z). c.items) before ≡ map (λ k. column_of k []) (take i outs) → i < length outs → w.items ≡ [] → after ≡ before ++ w ∷ []
    → map (λ (c : Vec ℤ Z). c.items) after ≡ map (λ k. column_of k []) (take (i + 1) outs)
column_pushed {Z = Z} outs i before after w b l e a =
    let view : Vec ℤ Z → List ℤ = λ v. v.items in
    ap (map view) a ∙ map-append view before (w ∷ []) ∙ (λ j. b j ++ e j ∷ []) ∙ sym (map_more (λ k. column_of k []) outs i 0 l)

pub column_stays : {Z : Type 0} → (rows : List (List ℤ)) (k : ℕ) (outs : List ℕ) (first now : List (Vec ℤ Z)) → map (λ (c : Vec ℤ Z). c.items) now ≡ first_changed (with_cells rows) k outs (map (λ (c : Vec ℤ Z). c.items) first)
    → length now ≤ k → map (λ (c : Vec ℤ Z). c.items) now ≡ first_changed (with_cells rows) (k + 1) outs (map (λ (c : Vec ℤ Z). c.items) first)
column_stays {Z = Z} rows k outs first now s h =
    let view : Vec ℤ Z → List ℤ = λ v. v.items in
    changed_stays (with_cells rows) k outs (map view first) (map view now) s (omega (arith, length-map now view))

changed_by-length : {A X : Type 0} → (f : A → X → X) (by : List A) (xs : List X) → length (changed_by f by xs) ≡ length xs
changed_by-length f [] xs = refl
changed_by-length f (a ∷ by) [] = refl
changed_by-length f (a ∷ by) (x ∷ xs) = ap suc (changed_by-length f by xs)

-- a vector that was written through a slice of all its items
pub written_back : {A X Y Z : Type 0} → (view : X → Y) (f : A → Y → Y) (by : List A) (v : Vec X Z) (lent after : List X) → v.len ≡ length v.items → length after ≡ length lent → lent ≡ v.items → map view after ≡ changed_by f by (map view lent)
    → map view (with_items v after).items ≡ changed_by f by (map view v.items)
written_back view f by v lent after n l e a =
    ap (map view) (with_items_is v after (l ∙ ap length e ∙ sym n)) ∙ a ∙ ap (λ xs. changed_by f by (map view xs)) e

pub written_words : {A X Z : Type 0} → (f : A → X → X) (by : List A) (v : Vec X Z) (lent after : List X) → v.len ≡ length v.items → lent ≡ v.items → after ≡ changed_by f by lent → (with_items v after).items ≡ changed_by f by v.items
written_words f by v lent after n e a =
    let same = a ∙ ap (changed_by f by) e in
    with_items_is v after (ap length same ∙ changed_by-length f by v.items ∙ sym n) ∙ same

-- ---- more rows

pub columns_more : (rows more : List (List ℤ)) (outs : List ℕ) → changed_by (with_cells more) outs (map (λ k. column_of k rows) outs) ≡ map (λ k. column_of k (rows ++ more)) outs
columns_more rows more [] = refl
columns_more rows more (k ∷ outs) =
    (λ j. sym (map-append (λ row. word_at row k) rows more) j ∷ columns_more rows more outs j)

pub words_more : (rows more : List (List ℤ)) (folds : List LetFold) → changed_by (joined_with more) folds (map (fold_word rows) folds) ≡ map (fold_word (rows ++ more)) folds
words_more rows more [] = refl
words_more rows more (f ∷ folds) =
    let first : joined_with more f (fold_word rows f) ≡ fold_word (rows ++ more) f =
    sym (fold_of_parts f.kind (column_of f.value rows) (column_of f.value more)) ∙ ap (fold_of f.kind) (sym (map-append (λ row. word_at row f.value) rows more)) in
    (λ j. first j ∷ words_more rows more folds j)

-- the cells of a let at the first places are the column of its rows
pub let_cells : (kept : List Operand) (k places : ℕ) (column : Operand) → ((i : ℕ) → cell_of column i ≡ word_at (row_of kept i) k) → first_cells places column ≡ column_of k (first_rows places kept)
let_cells kept k places column same = from 0 places
  where
    from : (a n : ℕ) → map (cell_of column) (range_with_len a n) ≡ column_of k (map (row_of kept) (range_with_len a n))
    from a zero = refl
    from a (suc n) = (λ j. same a j ∷ from (a + 1) n j)
