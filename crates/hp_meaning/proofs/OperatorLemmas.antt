-- What operators give, step by step.
use Rattle.std.proofs.Common.{◌≡◌, ℤ, true, false, List, Some, None, Result, Ok, Err, ap, sym, ◌∙◌}
use Rattle.hp_word.specs.declared.place.Place.{Place}
use Rattle.hp_word.specs.declared.place.TrapKind.{TrapKind}
use Rattle.hp_word.specs.declared.word.CalcOp.{CalcOp}
use Rattle.hp_word.specs.Lengths.{trap}
use Rattle.hp_word.specs.Words.{calculated}
use Rattle.hp_script.specs.declared.tree.BinOp.{BinOp}
use Rattle.hp_meaning.specs.declared.seen.Stop.{Stop}
use Rattle.hp_meaning.specs.declared.seen.Stop.TheVariants as stop
use Rattle.hp_meaning.specs.declared.value.Kind.{Kind}
use Rattle.hp_meaning.specs.declared.value.Value.{Value}
use Rattle.hp_meaning.specs.declared.value.Value.TheVariants.{Word, List as Listed}
use Rattle.hp_meaning.specs.Operands.{as_word_of, Cells, as_cells}
use Rattle.hp_meaning.specs.Outcomes.{Answer, Gives, Refuses, given, answered, Tells}
use Rattle.hp_meaning.specs.WordRules.{calculated_at, calculated_words, worded, listed, spread, elementwise, plain_value, dotted_value, is_lazy, calc_of, operands_of, result_of}
use Rattle.hp_meaning.proofs.Answering.{also_gives, also_halts, given_some, given_none, traps, refuses, yes_of, no_of}

-- ---- two words

pub calculated_traps : (at : Place) (op : CalcOp) (x y : ℤ) (kind : TrapKind) (e : Stop) → Err kind ≡ calculated op x y → e ≡ stop.Trap (trap at kind) → Tells (calculated_at at op x y) (Err e)
calculated_traps at op x y kind e h t = λ ne. traps (calculated_at at op x y) e (trap at kind) t (ap (answered at) (sym h))

pub words_left : (at : Place) (op : CalcOp) (k r : Kind) (a b : Value) (e : Stop) → (e ≡ stop.Wrong) × (as_word_of k a ≡ None) → Tells (calculated_words at op k r a b) (Err e)
unfolding calculated_words
words_left at op k r a b e h = λ ne. given_none (as_word_of k a) e (λ x. given (as_word_of k b) (λ y. worded r (calculated_at at op x y))) h.0 h.1

pub words_right : (at : Place) (op : CalcOp) (k r : Kind) (a b : Value) (x : ℤ) (e : Stop) → as_word_of k a ≡ Some x → (e ≡ stop.Wrong) × (as_word_of k b ≡ None) → Tells (calculated_words at op k r a b) (Err e)
unfolding calculated_words
words_right at op k r a b x e g h = λ ne.
    given_some (as_word_of k a) x (λ x. given (as_word_of k b) (λ y. worded r (calculated_at at op x y))) g
    ∙ given_none (as_word_of k b) e (λ y. worded r (calculated_at at op x y)) h.0 h.1

pub both_words : (at : Place) (op : CalcOp) (k r : Kind) (a b : Value) (x y : ℤ) → as_word_of k a ≡ Some x → as_word_of k b ≡ Some y → calculated_words at op k r a b ≡ worded r (calculated_at at op x y)
unfolding calculated_words
both_words at op k r a b x y g h =
    given_some (as_word_of k a) x (λ x. given (as_word_of k b) (λ y. worded r (calculated_at at op x y))) g
    ∙ given_some (as_word_of k b) y (λ y. worded r (calculated_at at op x y)) h

pub words_stop : (at : Place) (op : CalcOp) (k r : Kind) (a b : Value) (x y : ℤ) (e : Stop) → as_word_of k a ≡ Some x → as_word_of k b ≡ Some y → Tells (calculated_at at op x y) (Err e) → Tells (calculated_words at op k r a b) (Err e)
words_stop at op k r a b x y e g h s = λ ne. both_words at op k r a b x y g h ∙ also_halts (calculated_at at op x y) e (λ z. Gives (Word r z)) (s ne)

pub words_made : (at : Place) (op : CalcOp) (k r : Kind) (a b : Value) (x y z : ℤ) → as_word_of k a ≡ Some x → as_word_of k b ≡ Some y → calculated_at at op x y ≡ Gives z → calculated_words at op k r a b ≡ Gives (Word r z)
words_made at op k r a b x y z g h s = both_words at op k r a b x y g h ∙ also_gives (calculated_at at op x y) z (λ z. Gives (Word r z)) s

-- ---- element by element

pub cells_left : (at : Place) (op : CalcOp) (k r : Kind) (a b : Value) (e : Stop) → (e ≡ stop.Wrong) × (as_cells k a ≡ None) → Tells (elementwise at op k r a b) (Err e)
unfolding elementwise
cells_left at op k r a b e h = λ ne. given_none (as_cells k a) e (λ x. given (as_cells k b) (λ y. listed r (spread at op x y))) h.0 h.1

pub cells_right : (at : Place) (op : CalcOp) (k r : Kind) (a b : Value) (x : Cells) (e : Stop) → as_cells k a ≡ Some x → (e ≡ stop.Wrong) × (as_cells k b ≡ None) → Tells (elementwise at op k r a b) (Err e)
unfolding elementwise
cells_right at op k r a b x e g h = λ ne.
    given_some (as_cells k a) x (λ x. given (as_cells k b) (λ y. listed r (spread at op x y))) g
    ∙ given_none (as_cells k b) e (λ y. listed r (spread at op x y)) h.0 h.1

both_cells : (at : Place) (op : CalcOp) (k r : Kind) (a b : Value) (x y : Cells) → as_cells k a ≡ Some x → as_cells k b ≡ Some y → elementwise at op k r a b ≡ listed r (spread at op x y)
unfolding elementwise
both_cells at op k r a b x y g h =
    given_some (as_cells k a) x (λ x. given (as_cells k b) (λ y. listed r (spread at op x y))) g
    ∙ given_some (as_cells k b) y (λ y. listed r (spread at op x y)) h

pub cells_stop : (at : Place) (op : CalcOp) (k r : Kind) (a b : Value) (x y : Cells) (e : Stop) → as_cells k a ≡ Some x → as_cells k b ≡ Some y → Tells (spread at op x y) (Err e) → Tells (elementwise at op k r a b) (Err e)
cells_stop at op k r a b x y e g h s = λ ne. both_cells at op k r a b x y g h ∙ also_halts (spread at op x y) e (λ zs. Gives (Listed r zs)) (s ne)

pub cells_made : (at : Place) (op : CalcOp) (k r : Kind) (a b : Value) (x y : Cells) (zs : List ℤ) → as_cells k a ≡ Some x → as_cells k b ≡ Some y → spread at op x y ≡ Gives zs → elementwise at op k r a b ≡ Gives (Listed r zs)
cells_made at op k r a b x y zs g h s = both_cells at op k r a b x y g h ∙ also_gives (spread at op x y) zs (λ zs. Gives (Listed r zs)) s

-- ---- plain and dotted operators

pub plain_lazy : (at : Place) (op : BinOp) (a b : Value) → true ≡ is_lazy op → Tells (plain_value at op a b) (Err stop.Wrong)
unfolding plain_value
plain_lazy at op a b h = λ ne. refuses _ (yes_of (is_lazy op) Refuses (calculated_words at (calc_of op) (operands_of op) (result_of op) a b) h)

pub plain_is : (at : Place) (op : BinOp) (a b : Value) → false ≡ is_lazy op → plain_value at op a b ≡ calculated_words at (calc_of op) (operands_of op) (result_of op) a b
unfolding plain_value
plain_is at op a b h = no_of (is_lazy op) Refuses (calculated_words at (calc_of op) (operands_of op) (result_of op) a b) h

pub dotted_lazy : (at : Place) (op : BinOp) (a b : Value) → true ≡ is_lazy op → Tells (dotted_value at op a b) (Err stop.Wrong)
unfolding dotted_value
dotted_lazy at op a b h = λ ne. refuses _ (yes_of (is_lazy op) Refuses (elementwise at (calc_of op) (operands_of op) (result_of op) a b) h)

pub dotted_is : (at : Place) (op : BinOp) (a b : Value) → false ≡ is_lazy op → dotted_value at op a b ≡ elementwise at (calc_of op) (operands_of op) (result_of op) a b
unfolding dotted_value
dotted_is at op a b h = no_of (is_lazy op) Refuses (elementwise at (calc_of op) (operands_of op) (result_of op) a b) h

pub tells_same : {A : Type 0} (a b : Answer A) (r : Result A Stop) → a ≡ b → Tells b r → Tells a r
tells_same a b (Ok x) e h = e ∙ h
tells_same a b (Err s) e h = λ ne. e ∙ h ne
