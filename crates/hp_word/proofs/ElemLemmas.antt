-- The value of an element by its constructor.
use Rattle.std.proofs.Common.{◌≡◌, ℕ, ℤ, Result, Ok, refl}
use Rattle.hp_word.specs.declared.elem.Elem.{Elem}
use Rattle.hp_word.specs.declared.elem.Elem.TheVariants.{Number, Word, Input, Near, Earlier}
use Rattle.hp_word.specs.declared.elem.Elem.TheViews.{Calc, Both, Either}
use Rattle.hp_word.specs.declared.place.Place.{Place}
use Rattle.hp_word.specs.declared.word.CalcOp.{CalcOp}
use Rattle.hp_word.specs.Words.{calculated}
use Rattle.hp_word.specs.Elem.{Sight, elem_value, only_value, trapped_at, calc_of, both_of, either_of}

-- ---- one equation for each constructor

pub value_Number : (sight : Sight) (n : ℤ) → elem_value sight (Number n) ≡ Ok n
unfolding elem_value
value_Number sight n = refl

pub value_Word : (sight : Sight) (k : ℕ) → elem_value sight (Word k) ≡ Ok (sight.word k)
unfolding elem_value
value_Word sight k = refl

pub value_Input : (sight : Sight) (k : ℕ) → elem_value sight (Input k) ≡ Ok (sight.input k)
unfolding elem_value
value_Input sight k = refl

pub value_Near : (sight : Sight) (k : ℕ) (by : ℤ) → elem_value sight (Near k by) ≡ Ok (sight.near k by)
unfolding elem_value
value_Near sight k by = refl

pub value_Earlier : (sight : Sight) (k : ℕ) → elem_value sight (Earlier k) ≡ Ok (sight.earlier k)
unfolding elem_value
value_Earlier sight k = refl

pub value_Calc : (sight : Sight) (op : CalcOp) (place : Place) (a b : Elem)
    → elem_value sight (Calc op place a b) ≡ calc_of op place (elem_value sight a) (elem_value sight b)
unfolding elem_value only_value Rattle.hp_word.specs.declared.elem.Elem.TheBlock.hidden-the_row-Elem-0 denote.Hole.Carrier.hidden
value_Calc sight op place a b = refl

pub value_Both : (sight : Sight) (a b : Elem) → elem_value sight (Both a b) ≡ both_of (elem_value sight a) (elem_value sight b)
unfolding elem_value only_value Rattle.hp_word.specs.declared.elem.Elem.TheBlock.hidden-the_row-Elem-0 denote.Hole.Carrier.hidden
value_Both sight a b = refl

pub value_Either : (sight : Sight) (a b : Elem) → elem_value sight (Either a b) ≡ either_of (elem_value sight a) (elem_value sight b)
unfolding elem_value only_value Rattle.hp_word.specs.declared.elem.Elem.TheBlock.hidden-the_row-Elem-0 denote.Hole.Carrier.hidden
value_Either sight a b = refl

-- ---- what is known of an operation once both parts have values

pub calc_of_values : (op : CalcOp) (place : Place) (x y : ℤ) → calc_of op place (Ok x) (Ok y) ≡ trapped_at place (calculated op x y)
unfolding calc_of
calc_of_values op place x y = refl
