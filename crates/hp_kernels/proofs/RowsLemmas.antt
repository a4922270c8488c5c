-- The lets of a block, one after the other, and the rows of the loop, block after block.
use Rattle.std.proofs.Common.{◌≡◌, ◌<◌, ◌≤◌, ◌+◌, zero, suc, ℕ, ℤ, Bool, true, List, [], ◌∷◌, ◌++◌, map, length, get_or, take, Some, None, Result, Ok, Err, inl, inr, refl, ap, sym, ◌∙◌, subst, arith}
use Rattle.std.specs.List.{range_with_len}
use Rattle.std.proofs.lemmas.List.{map-append, take_more, append_assoc, append-nil}
use Rattle.std.proofs.lemmas.List.FromFn.{map-range_with_len_more}
use Rattle.std.proofs.lemmas.Bool.{cases_lt}
use Rattle.hp_word.specs.declared.elem.Elem.{Elem}
use Rattle.hp_word.specs.declared.place.Trap.{Trap}
use Rattle.hp_word.specs.Elem.{Sight, elem_value}
use Rattle.hp_word.specs.LoopRules.{and_then, lets_after, rows_below}
use Rattle.hp_kernels.specs.declared.loops.columns.Operand.{Operand}
use Rattle.hp_kernels.specs.declared.loops.columns.Reach.{Reach}
use Rattle.hp_kernels.specs.declared.loops.made.LetFold.{LetFold}
use Rattle.hp_kernels.specs.declared.loops.made.Made.{Made}
use Rattle.hp_kernels.specs.LoopColumns.{AreLong, Computes, IsColumn, IsLong, ReadsAs, cell_of, first_rows, row_of}
use Rattle.hp_kernels.specs.Loops.{IsMadeOf, MakesAll}
use Rattle.hp_kernels.proofs.ColumnLemmas.{lowers_then, not_further}
use Rattle.hp_kernels.proofs.ValueLemmas.{are_long_less}

-- ---- one more let

and_then_assoc : {A B C : Type 0} → (r : Result A Trap) (f : A → Result B Trap) (g : B → Result C Trap) → and_then (and_then r f) g ≡ and_then r (λ a. and_then (f a) g)
and_then_assoc (Ok a) f g = refl
and_then_assoc (Err t) f g = refl

-- the lets behind which one more stands
lets_more : (sight : List ℤ → Sight) (lets : List ℤ) (es : List Elem) (e : Elem)
    → lets_after sight lets (es ++ e ∷ []) ≡ and_then (lets_after sight lets es) (λ ls. and_then (elem_value (sight ls) e) (λ v. Ok (ls ++ v ∷ [])))
lets_more sight lets [] e = refl
lets_more sight lets (x ∷ es) e =
    ap (and_then (elem_value (sight lets) x)) (λ j v. lets_more sight (lets ++ v ∷ []) es e j)
    ∙ sym (and_then_assoc (elem_value (sight lets) x) (λ v. lets_after sight (lets ++ v ∷ []) es) (λ ls. and_then (elem_value (sight ls) e) (λ v. Ok (ls ++ v ∷ []))))

long_more : (places : ℕ) (kept : List Operand) (column : Operand) → AreLong places kept → IsLong places column → AreLong places (kept ++ column ∷ [])
long_more places [] column are is zero = is
long_more places [] column are is (suc k) = tt {0}
long_more places (c ∷ kept) column are is zero = are 0
long_more places (c ∷ kept) column are is (suc k) = long_more places kept column (λ n. are (suc n)) is k

-- no let at all
pub computes_none : (sight : ℕ → List ℤ → Sight) (reach : Reach) → Computes sight [] reach reach []
computes_none sight reach = record { lowers = inl refl; gives = λ i l. refl; long = λ k. tt {0} }

pub computes_more : (sight : ℕ → List ℤ → Sight) (es : List Elem) (e : Elem) (old mid new : Reach) (kept : List Operand) (column : Operand)
    → Computes sight es old mid kept → IsColumn (λ i. true) (λ i. elem_value (sight i (row_of kept i)) e) mid new column → Computes sight (es ++ e ∷ []) old new (kept ++ column ∷ [])
computes_more sight es e old mid new kept column first is =
    let further : ℕ → List ℤ → Result (List ℤ) Trap = λ i ls. and_then (elem_value (sight i ls) e) (λ v. Ok (ls ++ v ∷ [])) in
    let within : new.places ≤ mid.places = not_further (λ i. true) (λ i. elem_value (sight i (row_of kept i)) e) mid new is.lowers in
    let there : (i : ℕ) → i < mid.places → lets_after (sight i) [] (es ++ e ∷ []) ≡ further i (row_of kept i) =
    λ i l. lets_more (sight i) [] es e ∙ ap (λ r. and_then r (further i)) (first.gives i l) in
    record {
      lowers = lowers_then (λ i. true) (λ i. true) (λ i. lets_after (sight i) [] es) (λ i. elem_value (sight i (row_of kept i)) e) (λ i. lets_after (sight i) [] (es ++ e ∷ [])) old mid new first.lowers is.lowers
          (λ i t trap. lets_more (sight i) [] es e ∙ ap (λ r. and_then r (further i)) trap)
          (λ i l c. refl)
          (λ i t l c trap. there i l ∙ ap (λ r. and_then r (λ v. Ok (row_of kept i ++ v ∷ []))) trap);
      gives = λ i l.
          (let below : i < mid.places = omega arith in
          there i below ∙ ap (λ r. and_then r (λ v. Ok (row_of kept i ++ v ∷ []))) (is.gives i l refl) ∙ ap Ok (sym (map-append (λ (c : Operand). cell_of c i) kept (column ∷ []))));
      long = long_more new.places kept column (are_long_less new.places mid.places kept within first.long) is.long;
    }

pub computes_next : (sight : ℕ → List ℤ → Sight) (es : List Elem) (k : ℕ) (e : Elem) (old mid new : Reach) (kept after : List Operand) (column : Operand) → k < length es → e ≡ get_or es k e
    → Computes sight (take k es) old mid kept → IsColumn (λ i. true) (λ i. elem_value (sight i (row_of kept i)) e) mid new column → after ≡ kept ++ column ∷ [] → Computes sight (take (k + 1) es) old new after
computes_next sight es k e old mid new kept after column l there first is a =
    subst (λ (ks : List Operand). Computes sight (take (k + 1) es) old new ks) (sym a)
    (subst (λ (xs : List Elem). Computes sight xs old new (kept ++ column ∷ [])) (sym (take_more es k e l ∙ ap (λ x. take k es ++ x ∷ []) (sym there))) (computes_more sight (take k es) e old mid new kept column first is))

pub column_owned : (counts : ℕ → Bool) (f : ℕ → Result ℤ Trap) (old new : Reach) (x made : Operand) → IsColumn counts f old new x → ReadsAs new.places x made → IsColumn counts f old new made
column_owned counts f old new x made is reads = record { lowers = is.lowers; gives = λ i l c. is.gives i l c ∙ ap Ok (sym (reads.same i l)); long = reads.long }

-- ---- rows, block after block

-- the rows of a block behind those before it
pub block_rows : (row : ℕ → Result (List ℤ) Trap) (first n : ℕ) (rows : List (List ℤ)) (made : ℕ → List ℤ) → rows_below row first ≡ Ok rows → ((i : ℕ) → i < n → row (first + i) ≡ Ok (made i))
    → rows_below row (first + n) ≡ Ok (rows ++ map made (range_with_len 0 n))
block_rows row first zero rows made e f = ap (rows_below row) (let z : first + 0 ≡ first = omega arith in z) ∙ e ∙ ap Ok (sym (append-nil rows))
block_rows row first (suc n) rows made e f =
    let one : first + suc n ≡ suc (first + n) = omega arith in
    let last : n < suc n = omega arith in
    let step : suc n ≡ n + 1 = omega arith in
    ap (rows_below row) one
    ∙ ap (λ r. and_then r (λ above. and_then (row (first + n)) (λ x. Ok (above ++ x ∷ [])))) (block_rows row first n rows made e (λ i l. (let less : i < suc n = omega arith in f i less)))
    ∙ ap (λ r. and_then r (λ x. Ok ((rows ++ map made (range_with_len 0 n)) ++ x ∷ []))) (f n last)
    ∙ ap Ok (append_assoc rows (map made (range_with_len 0 n)) (made n ∷ []) ∙ ap (λ l. rows ++ l) (sym (map-range_with_len_more made 0 n n (let z : 0 + n ≡ n = omega arith in z)) ∙ ap (λ k. map made (range_with_len 0 k)) (sym step)))

rows_past_trap : (row : ℕ → Result (List ℤ) Trap) (i n : ℕ) (rows : List (List ℤ)) (t : Trap) → i < n → rows_below row i ≡ Ok rows → row i ≡ Err t → rows_below row n ≡ Err t
rows_past_trap row i zero rows t h e f = absurd (omega arith)
rows_past_trap row i (suc n) rows t h e f =
    elim (cases_lt i n) [
      | inl g ↦ ap (λ r. and_then r (λ above. and_then (row n) (λ x. Ok (above ++ x ∷ [])))) (rows_past_trap row i n rows t g e f)
      | inr g ↦ let same : i ≡ n = omega arith in
          ap (λ r. and_then r (λ above. and_then (row n) (λ x. Ok (above ++ x ∷ [])))) (ap (rows_below row) (sym same) ∙ e) ∙ ap (λ r. and_then r (λ x. Ok (rows ++ x ∷ []))) (ap row (sym same) ∙ f)
    ]

no_trap : {A : Type 0} → (t : Trap) → None ≡ Some t → A
no_trap t e = absurd (cc)

-- a block that went to its end: its rows are behind those before
pub tells_all : (sight : ℕ → List ℤ → Sight) (lets : List Elem) (first next places : ℕ) (old new : Reach) (rows : List (List ℤ)) (kept : List Operand)
    → rows_below (λ i. lets_after (sight i) [] lets) first ≡ Ok rows → Computes (λ i. sight (first + i)) lets old new kept → old.places ≡ places → new.trap ≡ None → next ≡ first + places
    → (rows_below (λ i. lets_after (sight i) [] lets) next ≡ Ok (rows ++ first_rows places kept)) × (AreLong places kept)
tells_all sight lets first next places old new rows kept before is starts none n =
    elim is.lowers [
      | inl same ↦
          let whole : new.places ≡ places = ap (λ (r : Reach). r.places) same ∙ starts in (
            ap (rows_below (λ i. lets_after (sight i) [] lets)) n
                ∙ block_rows (λ i. lets_after (sight i) [] lets) first places rows (row_of kept) before (λ i l. (let below : i < new.places = omega (arith, whole) in is.gives i below)),
            subst (λ (m : ℕ). AreLong m kept) whole is.long,
          )
      | inr s ↦ no_trap s.trap (sym none ∙ s.ended)
    ]

-- a block that ended sooner: its trap is that of all rows
pub tells_trap : (sight : ℕ → List ℤ → Sight) (lets : List Elem) (first count : ℕ) (old new : Reach) (rows : List (List ℤ)) (kept : List Operand) (t : Trap) (outs : List ℕ) (folds : List LetFold)
    → rows_below (λ i. lets_after (sight i) [] lets) first ≡ Ok rows → Computes (λ i. sight (first + i)) lets old new kept → old.trap ≡ None → new.trap ≡ Some t → first + old.places ≤ count
    → MakesAll outs folds (rows_below (λ i. lets_after (sight i) [] lets) count) (Err t)
tells_trap sight lets first count old new rows kept t outs folds before is starts some within =
    elim is.lowers [
      | inl same ↦ no_trap t (sym starts ∙ sym (ap (λ (r : Reach). r.trap) same) ∙ some)
      | inr s ↦
          let row : ℕ → Result (List ℤ) Trap = λ i. lets_after (sight i) [] lets in
          let sooner : new.places < old.places = s.sooner in
          let below : first + new.places < count = omega arith in
          let so_far = block_rows row first new.places rows (row_of kept) before (λ i l. is.gives i l) in
          let trapped = rows_past_trap row (first + new.places) count _ s.trap below so_far s.trapped in
          let one : s.trap ≡ t = some_same s.trap t (sym s.ended ∙ some) in
          subst (λ r. MakesAll outs folds r (Err t)) (sym (trapped ∙ ap Err one)) refl
    ]
  where
    some_same : (a b : Trap) → Some a ≡ Some b → a ≡ b
    some_same a b e = cc

pub all_rows : (row : ℕ → Result (List ℤ) Trap) (n m : ℕ) (rows : List (List ℤ)) (made : Made) (outs : List ℕ) (folds : List LetFold) → n ≡ m → rows_below row n ≡ Ok rows → IsMadeOf outs folds rows made → MakesAll outs folds (rows_below row m) (Ok made)
all_rows row n m rows made outs folds s e h = subst (λ r. MakesAll outs folds r (Ok made)) (sym (ap (rows_below row) (sym s) ∙ e)) h
