-- The column of each kind of element.
use Rattle.std.proofs.Common.{◌≡◌, ◌<◌, ◌≤◌, zero, suc, ℕ, ℤ, Bool, true, false, List, [], ◌∷◌, length, get_or, Result, Ok, Err, IfOk, refl, ap, sym, ◌∙◌, arith}
use Rattle.hp_word.specs.declared.elem.Elem.{Elem}
use Rattle.hp_word.specs.declared.elem.Elem.TheVariants.{Number, Word, Input, Near, Earlier}
use Rattle.hp_word.specs.declared.elem.Elem.TheViews.{Calc, Both, Either}
use Rattle.hp_word.specs.declared.place.Place.{Place}
use Rattle.hp_word.specs.declared.word.CalcOp.{CalcOp}
use Rattle.hp_word.specs.Elem.{Sight, elem_value, trapped_at}
use Rattle.hp_word.specs.LoopRules.{word_at}
use Rattle.hp_word.specs.Words.{calculated}
use Rattle.hp_word.proofs.ElemLemmas.{value_Number, value_Word, value_Input, value_Near, value_Earlier, value_Calc, value_Both, value_Either}
use Rattle.hp_kernels.specs.declared.loops.columns.Operand.{Operand}
use Rattle.hp_kernels.specs.declared.loops.columns.Operand.TheVariants.{Same, Cells, Made}
use Rattle.hp_kernels.specs.declared.loops.columns.Reach.{Reach}
use Rattle.hp_kernels.specs.LoopColumns.{AreLong, IsColumn, IsLong, cell_of, guarded_by, let_at, row_of}
use Rattle.hp_kernels.proofs.ColumnLemmas.{plain_column, column_as, calc_column}

-- ---- lets that are kept

pub let_long : (kept : List Operand) (k places : ℕ) (d : Operand) → k < length kept → AreLong places kept → IsLong places (get_or kept k d)
let_long [] k places d l a = absurd (omega arith)
let_long (c ∷ kept) zero places d l a = a 0
let_long (c ∷ kept) (suc k) places d l a = let_long kept k places d (omega arith) (λ n. a (suc n))

pub let_word : (kept : List Operand) (k i : ℕ) (d : Operand) → k < length kept → word_at (row_of kept i) k ≡ cell_of (get_or kept k d) i
let_word [] k i d l = absurd (omega arith)
let_word (c ∷ kept) zero i d l = refl
let_word (c ∷ kept) (suc k) i d l = let_word kept k i d (omega arith)

pub long_less : (m n : ℕ) (column : Operand) → m ≤ n → IsLong n column → IsLong m column
long_less m n (Same word) le long = tt {0}
long_less m n (Cells cells) le long = (let have : n ≤ length cells.now = long in omega arith)
long_less m n (Made cells) le long = (let have : n ≤ length cells.items = long in omega arith)

pub are_long_less : (m n : ℕ) (kept : List Operand) → m ≤ n → AreLong n kept → AreLong m kept
are_long_less m n kept le long k = long_less m n (let_at kept k) le (long k)

-- ---- results

pub on_ok : {A E : Type 0} (P Q : A → Type 0) (r : Result A E) → ((x : A) → P x → Q x) → IfOk r P → IfOk r Q
on_ok P Q (Ok x) f h = f x h
on_ok P Q (Err e) f h = tt {0}

-- ---- elements

pub number_column : (counts : ℕ → Bool) (sight : ℕ → Sight) (e : Elem) (n x : ℤ) (reach : Reach) → e ≡ Number n → x ≡ n → IsColumn counts (λ i. elem_value (sight i) e) reach reach (Same x)
number_column counts sight e n x reach is same = plain_column counts (λ i. elem_value (sight i) e) reach (Same x) (λ i l. ap (elem_value (sight i)) is ∙ value_Number (sight i) n ∙ ap Ok (sym same)) (tt {0})

pub word_column : (counts : ℕ → Bool) (sight : ℕ → Sight) (e : Elem) (k : ℕ) (x : ℤ) (reach : Reach) → e ≡ Word k → ((i : ℕ) → (sight i).word k ≡ x) → IsColumn counts (λ i. elem_value (sight i) e) reach reach (Same x)
word_column counts sight e k x reach is same = plain_column counts (λ i. elem_value (sight i) e) reach (Same x) (λ i l. ap (elem_value (sight i)) is ∙ value_Word (sight i) k ∙ ap Ok (same i)) (tt {0})

pub input_column : (counts : ℕ → Bool) (sight : ℕ → Sight) (e : Elem) (k : ℕ) (reach : Reach) (column : Operand) → e ≡ Input k → IsLong reach.places column → ((i : ℕ) → i < reach.places → cell_of column i ≡ (sight i).input k)
    → IsColumn counts (λ i. elem_value (sight i) e) reach reach column
input_column counts sight e k reach column is long same = plain_column counts (λ i. elem_value (sight i) e) reach column (λ i l. ap (elem_value (sight i)) is ∙ value_Input (sight i) k ∙ ap Ok (sym (same i l))) long

pub near_column : (counts : ℕ → Bool) (sight : ℕ → Sight) (e : Elem) (k : ℕ) (by : ℤ) (reach : Reach) (column : Operand) → e ≡ Near k by → IsLong reach.places column → ((i : ℕ) → i < reach.places → cell_of column i ≡ (sight i).near k by)
    → IsColumn counts (λ i. elem_value (sight i) e) reach reach column
near_column counts sight e k by reach column is long same = plain_column counts (λ i. elem_value (sight i) e) reach column (λ i l. ap (elem_value (sight i)) is ∙ value_Near (sight i) k by ∙ ap Ok (sym (same i l))) long

pub earlier_column : (counts : ℕ → Bool) (sight : ℕ → Sight) (e : Elem) (k : ℕ) (reach : Reach) (column : Operand) → e ≡ Earlier k → IsLong reach.places column → ((i : ℕ) → cell_of column i ≡ (sight i).earlier k)
    → IsColumn counts (λ i. elem_value (sight i) e) reach reach column
earlier_column counts sight e k reach column is long same = plain_column counts (λ i. elem_value (sight i) e) reach column (λ i l. ap (elem_value (sight i)) is ∙ value_Earlier (sight i) k ∙ ap Ok (sym (same i))) long

pub operation_column : (counts : ℕ → Bool) (sight : ℕ → Sight) (e : Elem) (op : CalcOp) (at : Place) (a b : Elem) (old mid new end : Reach) (x y made : Operand) → e ≡ Calc op at a b
    → IsColumn counts (λ i. elem_value (sight i) a) old mid x → IsColumn counts (λ i. elem_value (sight i) b) mid new y
    → IsColumn counts (λ i. trapped_at at (calculated op (cell_of x i) (cell_of y i))) new end made
    → IsColumn counts (λ i. elem_value (sight i) e) old end made
operation_column counts sight e op at a b old mid new end x y made is first second both =
    column_as counts _ (λ i. elem_value (sight i) e) old end made (λ i l. sym (ap (elem_value (sight i)) is ∙ value_Calc (sight i) op at a b))
    (calc_column counts (λ i. elem_value (sight i) a) (λ i. elem_value (sight i) b) op at old mid new end x y made first second both)

pub both_column : (counts : ℕ → Bool) (sight : ℕ → Sight) (e a b : Elem) (old new : Reach) (made : Operand) → e ≡ Both a b
    → IsColumn counts (λ i. guarded_by true (elem_value (sight i) a) (elem_value (sight i) b)) old new made → IsColumn counts (λ i. elem_value (sight i) e) old new made
both_column counts sight e a b old new made is column = column_as counts _ (λ i. elem_value (sight i) e) old new made (λ i l. sym (ap (elem_value (sight i)) is ∙ value_Both (sight i) a b)) column

pub either_column : (counts : ℕ → Bool) (sight : ℕ → Sight) (e a b : Elem) (old new : Reach) (made : Operand) → e ≡ Either a b
    → IsColumn counts (λ i. guarded_by false (elem_value (sight i) a) (elem_value (sight i) b)) old new made → IsColumn counts (λ i. elem_value (sight i) e) old new made
either_column counts sight e a b old new made is column = column_as counts _ (λ i. elem_value (sight i) e) old new made (λ i l. sym (ap (elem_value (sight i)) is ∙ value_Either (sight i) a b)) column
