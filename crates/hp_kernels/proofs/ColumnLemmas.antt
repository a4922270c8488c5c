-- Columns of a block: a stage that lowers the limit, and then another one, lower it together.
use Rattle.std.proofs.Common.{◌≡◌, ◌<◌, ◌≤◌, inl, inr, ℕ, ℤ, pos, Bool, true, false, not, ◌&&◌, if◌then◌else◌, List, Some, None, Result, Ok, Err, refl, ap, sym, ◌∙◌, subst, arith}
use Rattle.hp_word.specs.declared.place.Place.{Place}
use Rattle.hp_word.specs.declared.place.Trap.{Trap}
use Rattle.hp_word.specs.declared.place.TrapKind.{TrapKind}
use Rattle.hp_word.specs.declared.word.CalcOp.{CalcOp}
use Rattle.hp_word.specs.Elem.{trapped_at, calc_of, both_of, either_of}
use Rattle.hp_word.specs.LoopRules.{word_at}
use Rattle.hp_word.specs.Words.{calculated, is_true, truth}
use Rattle.hp_kernels.specs.declared.loops.cells.Fault.{Fault}
use Rattle.hp_kernels.specs.declared.loops.columns.Operand.{Operand}
use Rattle.hp_kernels.specs.declared.loops.columns.Operand.TheVariants.{Same}
use Rattle.hp_kernels.specs.declared.loops.columns.Reach.{Reach}
use Rattle.hp_kernels.specs.LoopColumns.{Fills, IsColumn, IsFirstFault, IsLong, Lowers, Stops, cell_of, guarded_by, is_wanted}

-- ---- limits

-- a block never goes further
pub not_further : {A : Type 0} (counts : ℕ → Bool) (f : ℕ → Result A Trap) (old new : Reach) → Lowers counts f old new → new.places ≤ old.places
not_further counts f old new l = elim l [ inl e ↦ (let p : new.places ≡ old.places = ap (λ (r : Reach). r.places) e in omega arith) | inr s ↦ (let p : new.places < old.places = s.sooner in omega arith) ]

-- two stages, of which a trap of the first is one of the whole, and one of the second too, where the first goes on
pub lowers_then : {A B C : Type 0} (counts further : ℕ → Bool) (f : ℕ → Result A Trap) (g : ℕ → Result B Trap) (h : ℕ → Result C Trap) (old mid new : Reach)
    → Lowers counts f old mid → Lowers further g mid new
    → ((i : ℕ) (t : Trap) → f i ≡ Err t → h i ≡ Err t)
    → ((i : ℕ) → i < mid.places → further i ≡ true → counts i ≡ true)
    → ((i : ℕ) (t : Trap) → i < mid.places → further i ≡ true → g i ≡ Err t → h i ≡ Err t)
    → Lowers counts h old new
lowers_then counts further f g h old mid new first second falls within goes =
    elim second [
      | inl same ↦ elim first [
        | inl was ↦ inl (same ∙ was)
        | inr s ↦ inr (subst (λ (r : Reach). Stops counts h old r) (sym same) (record { trap = s.trap; sooner = s.sooner; ended = s.ended; counted = s.counted; trapped = falls mid.places s.trap s.trapped }))
      ]
      | inr s ↦
          let mid_within : mid.places ≤ old.places = not_further counts f old mid first in
          let later : new.places < mid.places = s.sooner in
          inr (record {
            trap = s.trap;
            sooner = omega arith;
            ended = s.ended;
            counted = within new.places later s.counted;
            trapped = goes new.places s.trap later s.counted s.trapped;
          })
    ]

-- what is asked for is the same at all places of the block
pub lowers_as : {A : Type 0} (counts : ℕ → Bool) (f g : ℕ → Result A Trap) (old new : Reach) → ((i : ℕ) → i < old.places → f i ≡ g i) → Lowers counts f old new → Lowers counts g old new
lowers_as counts f g old new same l =
    elim l [
      | inl e ↦ inl e
      | inr s ↦ inr (record { trap = s.trap; sooner = s.sooner; ended = s.ended; counted = s.counted; trapped = sym (same new.places s.sooner) ∙ s.trapped })
    ]

-- ---- columns

-- no trap and no change
pub plain_column : (counts : ℕ → Bool) (f : ℕ → Result ℤ Trap) (reach : Reach) (column : Operand) → ((i : ℕ) → i < reach.places → f i ≡ Ok (cell_of column i)) → IsLong reach.places column → IsColumn counts f reach reach column
plain_column counts f reach column same long = record { lowers = inl refl; gives = λ i l c. same i l; long = long }

pub column_as : (counts : ℕ → Bool) (f g : ℕ → Result ℤ Trap) (old new : Reach) (column : Operand) → ((i : ℕ) → i < old.places → f i ≡ g i) → IsColumn counts f old new column → IsColumn counts g old new column
column_as counts f g old new column same is =
    let within : new.places ≤ old.places = not_further counts f old new is.lowers in
    record {
      lowers = lowers_as counts f g old new same is.lowers;
      gives = λ i l c. (let below : i < old.places = omega arith in sym (same i below) ∙ is.gives i l c);
      long = is.long;
    }

-- ---- operations

calc_first : (op : CalcOp) (at : Place) (x y : Result ℤ Trap) (t : Trap) → x ≡ Err t → calc_of op at x y ≡ Err t
unfolding calc_of
calc_first op at x y t e = ap (λ r. calc_of op at r y) e

calc_values : (op : CalcOp) (at : Place) (x y : Result ℤ Trap) (a b : ℤ) → x ≡ Ok a → y ≡ Ok b → calc_of op at x y ≡ trapped_at at (calculated op a b)
unfolding calc_of
calc_values op at x y a b e f = λ j. calc_of op at (e j) (f j)

calc_second : (op : CalcOp) (at : Place) (x y : Result ℤ Trap) (a : ℤ) (t : Trap) → x ≡ Ok a → y ≡ Err t → calc_of op at x y ≡ Err t
unfolding calc_of
calc_second op at x y a t e f = λ j. calc_of op at (e j) (f j)

-- an operation on two columns, one made after the other
pub calc_column : (counts : ℕ → Bool) (f g : ℕ → Result ℤ Trap) (op : CalcOp) (at : Place) (old mid new end : Reach) (x y made : Operand)
    → IsColumn counts f old mid x → IsColumn counts g mid new y → IsColumn counts (λ i. trapped_at at (calculated op (cell_of x i) (cell_of y i))) new end made
    → IsColumn counts (λ i. calc_of op at (f i) (g i)) old end made
calc_column counts f g op at old mid new end x y made first second is =
    let h : ℕ → Result ℤ Trap = λ i. calc_of op at (f i) (g i) in
    let mid_in : mid.places ≤ old.places = not_further counts f old mid first.lowers in
    let new_in : new.places ≤ mid.places = not_further counts g mid new second.lowers in
    let end_in = not_further counts (λ i. trapped_at at (calculated op (cell_of x i) (cell_of y i))) new end is.lowers in
    let values : (i : ℕ) → i < new.places → counts i ≡ true → h i ≡ trapped_at at (calculated op (cell_of x i) (cell_of y i)) =
    λ i l c. (let below : i < mid.places = omega arith in calc_values op at (f i) (g i) (cell_of x i) (cell_of y i) (first.gives i below c) (second.gives i l c)) in
    let two = lowers_then counts counts f g h old mid new first.lowers second.lowers (λ i t e. calc_first op at (f i) (g i) t e) (λ i l c. c)
    (λ i t l c e. calc_second op at (f i) (g i) (cell_of x i) t (first.gives i l c) e) in
    record {
      lowers = lowers_then counts counts h (λ i. trapped_at at (calculated op (cell_of x i) (cell_of y i))) h old new end two is.lowers (λ i t e. e) (λ i l c. c) (λ i t l c e. values i l c ∙ e);
      gives = λ i l c. (let below : i < new.places = omega (arith, end_in) in values i below c ∙ is.gives i l c);
      long = is.long;
    }

-- cells that an operation filled, without a fault and with one
trapped : (at : Place) (r : Result ℤ TrapKind) (x : ℤ) → r ≡ Ok x → trapped_at at r ≡ Ok x
trapped at r x e = ap (trapped_at at) e

pub filled_column : (counts : ℕ → Bool) (f : ℕ → Result ℤ TrapKind) (at : Place) (reach : Reach) (column : Operand) (cells : List ℤ) → ((i : ℕ) → cell_of column i ≡ word_at cells i)
    → Fills counts f reach.places cells None → IsLong reach.places column → IsColumn counts (λ i. trapped_at at (f i)) reach reach column
filled_column counts f at reach column cells is filled long = record { lowers = inl refl; gives = λ i l c. trapped at (f i) (cell_of column i) (filled i l c ∙ ap Ok (sym (is i))); long = long }

pub ended_column : (counts : ℕ → Bool) (f : ℕ → Result ℤ TrapKind) (at : Place) (old new : Reach) (column : Operand) (cells : List ℤ) (fault : Fault) → ((i : ℕ) → cell_of column i ≡ word_at cells i)
    → IsFirstFault counts f old.places cells fault → new.places ≡ fault.place → new.trap ≡ Some (record { at = at; kind = fault.kind }) → IsLong new.places column
    → IsColumn counts (λ i. trapped_at at (f i)) old new column
ended_column counts f at old new column cells fault is filled place trap long =
    let within : fault.place < old.places = filled.within in
    record {
      lowers = inr (record {
        trap = record { at = at; kind = fault.kind };
        sooner = omega (arith, place);
        ended = trap;
        counted = ap counts place ∙ filled.counted;
        trapped = ap (λ n. trapped_at at (f n)) place ∙ ap (trapped_at at) filled.fails;
      });
      gives = λ i l c. (let below : i < fault.place = omega (arith, place) in trapped at (f i) (cell_of column i) (filled.before i below c ∙ ap Ok (sym (is i))));
      long = long;
    }

-- ---- the second part of a guard

guarded_trap : (wanted : Bool) (x y : Result ℤ Trap) (t : Trap) → x ≡ Err t → guarded_by wanted x y ≡ Err t
unfolding both_of either_of
guarded_trap true x y t e = ap (λ r. both_of r y) e
guarded_trap false x y t e = ap (λ r. either_of r y) e

goes_true : (b : Bool) (y : Result ℤ Trap) (d : ℤ) → b ≡ true → (if b then y else Ok d) ≡ y
goes_true true y d e = refl
goes_true false y d e = absurd (cc)

goes_false : (b : Bool) (y : Result ℤ Trap) (d : ℤ) → not b ≡ true → (if b then Ok d else y) ≡ y
goes_false true y d e = absurd (cc)
goes_false false y d e = refl

stays_false : (b : Bool) (y : Result ℤ Trap) (d : ℤ) → b ≡ false → (if b then y else Ok d) ≡ Ok d
stays_false true y d e = absurd (cc)
stays_false false y d e = refl

stays_true : (b : Bool) (y : Result ℤ Trap) (d : ℤ) → not b ≡ false → (if b then Ok d else y) ≡ Ok d
stays_true true y d e = refl
stays_true false y d e = absurd (cc)

guarded_on : (wanted : Bool) (x y : Result ℤ Trap) (a : ℤ) → x ≡ Ok a → is_wanted wanted a ≡ true → guarded_by wanted x y ≡ y
unfolding both_of either_of
guarded_on true x y a e w = ap (λ r. both_of r y) e ∙ goes_true (is_true a) y (pos 0) w
guarded_on false x y a e w = ap (λ r. either_of r y) e ∙ goes_false (is_true a) y (pos 1) w

guarded_off : (wanted : Bool) (x y : Result ℤ Trap) (a : ℤ) → x ≡ Ok a → is_wanted wanted a ≡ false → guarded_by wanted x y ≡ Ok (truth (not wanted))
unfolding both_of either_of
guarded_off true x y a e w = ap (λ r. both_of r y) e ∙ stays_false (is_true a) y (pos 0) w
guarded_off false x y a e w = ap (λ r. either_of r y) e ∙ stays_true (is_true a) y (pos 1) w

-- the first part is one word, which does not decide
pub guard_passes : (counts : ℕ → Bool) (wanted : Bool) (f g : ℕ → Result ℤ Trap) (old mid new : Reach) (x made : Operand)
    → IsColumn counts f old mid x → ((i : ℕ) → is_wanted wanted (cell_of x i) ≡ true) → IsColumn counts g mid new made → IsColumn counts (λ i. guarded_by wanted (f i) (g i)) old new made
guard_passes counts wanted f g old mid new x made first passes second =
    let within = not_further counts g mid new second.lowers in
    record {
      lowers = lowers_then counts counts f g (λ i. guarded_by wanted (f i) (g i)) old mid new first.lowers second.lowers (λ i t e. guarded_trap wanted (f i) (g i) t e) (λ i l c. c)
          (λ i t l c e. guarded_on wanted (f i) (g i) (cell_of x i) (first.gives i l c) (passes i) ∙ e);
      gives = λ i l c. (let below : i < mid.places = omega (arith, within) in guarded_on wanted (f i) (g i) (cell_of x i) (first.gives i below c) (passes i) ∙ second.gives i l c);
      long = second.long;
    }

-- the first part is one word, which decides
pub guard_decides : (counts : ℕ → Bool) (wanted : Bool) (f g : ℕ → Result ℤ Trap) (old new : Reach) (x : Operand) (word : ℤ)
    → IsColumn counts f old new x → ((i : ℕ) → is_wanted wanted (cell_of x i) ≡ false) → word ≡ truth (not wanted) → IsColumn counts (λ i. guarded_by wanted (f i) (g i)) old new (Same word)
guard_decides counts wanted f g old new x word first decides is =
    record {
      lowers = elim first.lowers [
        | inl e ↦ inl e
        | inr s ↦ inr (record { trap = s.trap; sooner = s.sooner; ended = s.ended; counted = s.counted; trapped = guarded_trap wanted (f new.places) (g new.places) s.trap s.trapped })
      ];
      gives = λ i l c. guarded_off wanted (f i) (g i) (cell_of x i) (first.gives i l c) (decides i) ∙ ap Ok (sym is);
      long = tt {0};
    }

and_left : (a b : Bool) → (a && b) ≡ true → a ≡ true
and_left true b e = refl
and_left false b e = e

and_right : (a b : Bool) → (a && b) ≡ true → b ≡ true
and_right true b e = e
and_right false b e = absurd (cc)

and_true : (a b : Bool) → a ≡ true → (a && b) ≡ b
and_true true b e = refl
and_true false b e = absurd (cc)

chosen_true : (b : Bool) (x y : ℤ) → b ≡ true → (if b then x else y) ≡ x
chosen_true true x y e = refl
chosen_true false x y e = absurd (cc)

chosen_false : (b : Bool) (x y : ℤ) → b ≡ false → (if b then x else y) ≡ y
chosen_false true x y e = absurd (cc)
chosen_false false x y e = refl

-- the first part is a column: the second counts where that does not decide
pub guard_chooses : (counts further : ℕ → Bool) (wanted : Bool) (f g : ℕ → Result ℤ Trap) (old mid new : Reach) (x y made : Operand) (between : ℕ → ℤ) (word : ℤ)
    → IsColumn counts f old mid x
    → ((i : ℕ) → i < mid.places → is_true (between i) ≡ (counts i && is_wanted wanted (cell_of x i)))
    → ((i : ℕ) → further i ≡ is_true (between i))
    → IsColumn further g mid new y
    → ((i : ℕ) → i < new.places → cell_of made i ≡ (if is_true (between i) then cell_of y i else word))
    → word ≡ truth (not wanted) → IsLong new.places made
    → IsColumn counts (λ i. guarded_by wanted (f i) (g i)) old new made
guard_chooses counts further wanted f g old mid new x y made between word first narrows mask second chooses is long =
    let within = not_further further g mid new second.lowers in
    let counted : (i : ℕ) → i < mid.places → further i ≡ true → (counts i && is_wanted wanted (cell_of x i)) ≡ true = λ i l e. sym (narrows i l) ∙ sym (mask i) ∙ e in
    record {
      lowers = lowers_then counts further f g (λ i. guarded_by wanted (f i) (g i)) old mid new first.lowers second.lowers
          (λ i t e. guarded_trap wanted (f i) (g i) t e)
          (λ i l e. and_left (counts i) (is_wanted wanted (cell_of x i)) (counted i l e))
          (λ i t l e trap.
          let c : counts i ≡ true = and_left (counts i) (is_wanted wanted (cell_of x i)) (counted i l e) in
          guarded_on wanted (f i) (g i) (cell_of x i) (first.gives i l c) (and_right (counts i) (is_wanted wanted (cell_of x i)) (counted i l e)) ∙ trap);
      gives = λ i l c.
          (let below : i < mid.places = omega (arith, within) in
          let wants : is_true (between i) ≡ is_wanted wanted (cell_of x i) = narrows i below ∙ and_true (counts i) (is_wanted wanted (cell_of x i)) c in
          by_case i l below c (is_wanted wanted (cell_of x i)) refl wants);
      long = long;
    }
  where
    by_case : (i : ℕ) → i < new.places → i < mid.places → counts i ≡ true → (b : Bool) → is_wanted wanted (cell_of x i) ≡ b → is_true (between i) ≡ is_wanted wanted (cell_of x i) → guarded_by wanted (f i) (g i) ≡ Ok (cell_of made i)
    by_case i l below c true e wants =
        guarded_on wanted (f i) (g i) (cell_of x i) (first.gives i below c) e ∙ second.gives i l (mask i ∙ wants ∙ e)
        ∙ ap Ok (sym (chooses i l ∙ chosen_true (is_true (between i)) (cell_of y i) word (wants ∙ e)))
    by_case i l below c false e wants =
        guarded_off wanted (f i) (g i) (cell_of x i) (first.gives i below c) e
        ∙ ap Ok (sym (chooses i l ∙ chosen_false (is_true (between i)) (cell_of y i) word (wants ∙ e) ∙ is))
