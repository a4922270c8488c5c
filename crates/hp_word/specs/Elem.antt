-- What an element gives at one place of its loop's arrays.
use Rattle.std.specs.Prelude.{◌≡◌, ℕ, ℤ, pos, negsuc, Result, Ok, Err, if◌then◌else◌, refl}
use Rattle.hp_word.specs.declared.elem.Elem.{Elem}
use Rattle.hp_word.specs.declared.elem.Elem.TheVariants.{Number, Word, Input, Near, Earlier, Calc', Both', Either'}
use Rattle.hp_word.specs.declared.elem.Elem.TheViews.{Calc, Both}
use Rattle.hp_word.specs.declared.word.CalcOp.TheVariants.{Div}
use Rattle.hp_word.specs.declared.elem.Elem.TheBlock.{Row_of-Elem, end_of-Elem, more_of-Elem}
use Rattle.hp_word.specs.declared.place.Place.{Place}
use Rattle.hp_word.specs.declared.place.Trap.{Trap}
use Rattle.hp_word.specs.declared.place.TrapKind.{TrapKind}
use Rattle.hp_word.specs.declared.place.TrapKind.TheVariants.{Divide}
use Rattle.hp_word.specs.declared.word.CalcOp.{CalcOp}
use Rattle.hp_word.specs.Words.{calculated, is_true}

-- what an element reads at one place: scalar words, inputs' elements at this place, halos' elements so many places further, and what earlier lets gave
pub record Sight : Type 0 where
  pub word : ℕ → ℤ
  pub input : ℕ → ℤ
  pub near : ℕ → ℤ → ℤ
  pub earlier : ℕ → ℤ

-- the answer of an operation, with its place in a trap
abbrev pub trapped_at : Place → Result ℤ TrapKind → Result ℤ Trap
trapped_at place (Ok value) = Ok value
trapped_at place (Err why) = Err (record { at = place; kind = why })

-- an operation on two parts, of which the first trap counts
unfoldable pub calc_of : CalcOp → Place → Result ℤ Trap → Result ℤ Trap → Result ℤ Trap
calc_of op place (Err trap) second = Err trap
calc_of op place (Ok x) (Err trap) = Err trap
calc_of op place (Ok x) (Ok y) = trapped_at place (calculated op x y)

-- 0 where the first part is 0, and else the second part, whose trap counts in that case alone
unfoldable pub both_of : Result ℤ Trap → Result ℤ Trap → Result ℤ Trap
both_of (Err trap) second = Err trap
both_of (Ok x) second = if is_true x then second else Ok (pos 0)

-- 1 where the first part is not 0, and else the second part, whose trap counts in that case alone
unfoldable pub either_of : Result ℤ Trap → Result ℤ Trap → Result ℤ Trap
either_of (Err trap) second = Err trap
either_of (Ok x) second = if is_true x then Ok (pos 1) else second

-- the value of an element, or the trap of the first operation that has none
unfoldable mutual
  pub elem_value : Sight → Elem → Result ℤ Trap
  elem_value sight (Number n) = Ok n
  elem_value sight (Word k) = Ok (sight.word k)
  elem_value sight (Input k) = Ok (sight.input k)
  elem_value sight (Near k by) = Ok (sight.near k by)
  elem_value sight (Earlier k) = Ok (sight.earlier k)
  elem_value sight (Calc' op place p a q b) = calc_of op place (only_value sight a) (only_value sight b)
  elem_value sight (Both' p a q b) = both_of (only_value sight a) (only_value sight b)
  elem_value sight (Either' p a q b) = either_of (only_value sight a) (only_value sight b)

  -- the value of the only element of a row, as which a part is held
  pub only_value : {n : _} → Sight → Row_of-Elem n → Result ℤ Trap
  only_value sight end_of-Elem = Ok (pos 0)
  only_value sight (more_of-Elem elem rest) = elem_value sight elem

-- ---- worked rows

-- each word is 9, and an element is its distance
abbrev sight_row : Sight
sight_row = record { word = λ k. pos 9; input = λ k. pos k; near = λ k by. by; earlier = λ k. pos 0 }

quotient_row : (place : Place) → elem_value sight_row (Calc Div place (Word 0) (Near 0 (negsuc 1))) ≡ Ok (negsuc 3)
unfolding elem_value only_value calc_of Rattle.hp_word.specs.declared.elem.Elem.TheBlock.hidden-the_row-Elem-0 denote.Hole.Carrier.hidden
quotient_row place = refl

trap_row : (place : Place) → elem_value sight_row (Calc Div place (Input 3) (Earlier 0)) ≡ Err (record { at = place; kind = Divide })
unfolding elem_value only_value calc_of Rattle.hp_word.specs.declared.elem.Elem.TheBlock.hidden-the_row-Elem-0 denote.Hole.Carrier.hidden
trap_row place = refl

-- the second part of `Both` is not looked at where the first is 0
guarded_row : (sight : Sight) (place : Place) → elem_value sight (Both (Number (pos 0)) (Calc Div place (Number (pos 1)) (Number (pos 0)))) ≡ Ok (pos 0)
unfolding elem_value only_value both_of calc_of Rattle.hp_word.specs.declared.elem.Elem.TheBlock.hidden-the_row-Elem-0 denote.Hole.Carrier.hidden
guarded_row sight place = refl
