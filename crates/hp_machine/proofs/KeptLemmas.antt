-- Instructions that leave the arrays of a rank.
use Rattle.std.proofs.Common.{◌≡◌, ◌∙◌, refl, ap, ℕ, zero, suc, cond, eqb, Bool, true, false, List, Option, Some, None, Result, Ok, Err}
use Rattle.hp_word.specs.declared.place.Trap.{Trap}
use Rattle.hp_word.specs.declared.table.Message.{Message}
use Rattle.hp_word.specs.declared.table.Tables.{Tables}
use Rattle.hp_word.specs.Elem.{trapped_at}
use Rattle.hp_word.specs.ListRules.{element_at}
use Rattle.hp_word.specs.LoopRules.{and_then, word_at}
use Rattle.hp_word.specs.Words.{calculated}
use Rattle.hp_lattice.specs.declared.dist.Dist.{Dist}
use Rattle.hp_spmd.specs.declared.code.Code.{Code}
use Rattle.hp_spmd.specs.declared.instr.Instr.{Instr}
use Rattle.hp_spmd.specs.declared.instr.Instr.TheVariants as instr
use Rattle.hp_spmd.specs.declared.store.Piece.{Piece}
use Rattle.hp_spmd.specs.declared.store.Store.{Store}
use Rattle.hp_spmd.specs.Act.{Act, HasHalted, Trips, Goes, Sends, Gets, Prints, act, act_by, of_next, first_only, after_take}
use Rattle.hp_spmd.specs.Arrays.{at_data, cells_at}
use Rattle.hp_spmd.specs.Kinds.{kind_of}
use Rattle.hp_spmd.specs.Local.{jumped, local_next, pack_done}
use Rattle.hp_spmd.specs.Next.{lifted}
use Rattle.hp_spmd.specs.Scalars.{calc_data, check_data, check_of, const_data, length_data, lengths_of, unless, with_word}
use Rattle.hp_spmd.specs.Store.{Data, data_of, instr_at}
use Rattle.hp_turns.specs.Turns.{cells_of}
use Rattle.hp_machine.specs.Parts.{ComesTo}
use Rattle.hp_machine.specs.Sound.{keeps_arrays}

-- each store that the action comes to has these arrays
abbrev NextKeeps : List Piece → Act → Type 0
NextKeeps arrays HasHalted = Unit {0}
NextKeeps arrays (Trips t) = Unit {0}
NextKeeps arrays (Goes x) = x.arrays ≡ arrays
NextKeeps arrays (Sends to message x) = x.arrays ≡ arrays
NextKeeps arrays (Gets sender f) = (message : Message) → (f message).arrays ≡ arrays
NextKeeps arrays (Prints text x) = x.arrays ≡ arrays

comes_kept : (arrays : List Piece) (a : Act) (y : Store) → NextKeeps arrays a → ComesTo a y → y.arrays ≡ arrays
comes_kept arrays HasHalted y h c = absurd c
comes_kept arrays (Trips t) y h c = absurd c
comes_kept arrays (Goes x) y h c = ap (λ (z : Store). z.arrays) c ∙ h
comes_kept arrays (Sends to message x) y h c = ap (λ (z : Store). z.arrays) c ∙ h
comes_kept arrays (Gets sender f) y h c = ap (λ (z : Store). z.arrays) c.1 ∙ h c.0
comes_kept arrays (Prints text x) y h c = ap (λ (z : Store). z.arrays) c ∙ h

made_kept : {A : Type 0} (r : Result A Trap) (f : A → Data) (x : Store) → ((a : A) → (f a).arrays ≡ x.arrays) → NextKeeps x.arrays (of_next (lifted (and_then r (λ a. Ok (f a))) x))
made_kept (Ok a) f x h = h a
made_kept (Err t) f x h = tt

unless_kept : (r : Option Trap) (x : Store) → NextKeeps x.arrays (of_next (lifted (unless r (data_of x)) x))
unless_kept None x = refl
unless_kept (Some t) x = tt

post_kept : (b : Bool) (x y : Store) → x.arrays ≡ y.arrays → (cond b x y).arrays ≡ y.arrays
post_kept true x y e = e
post_kept false x y e = refl

root_kept : (number : ℕ) (a : Act) (x : Store) → NextKeeps x.arrays a → NextKeeps x.arrays (first_only number a x)
root_kept zero a x h = h
root_kept (suc number) a x h = refl

take_kept : (x : Store) (message : Message) → (after_take x message).arrays ≡ x.arrays
take_kept x message = post_kept (eqb (suc x.got) x.ranks) _ _ refl

by_kept : (dists : List Dist) (tables : Tables) (i : Instr) (x : Store) → keeps_arrays i ≡ true → NextKeeps x.arrays (act_by (kind_of i) (local_next dists tables i x) x)
unfolding const_data calc_data length_data check_data at_data jumped pack_done
by_kept dists tables (instr.Const to value) x h = refl
by_kept dists tables (instr.Calc to op left right at) x h =
    made_kept (trapped_at at (calculated op (word_at x.words left) (word_at x.words right))) (λ value. with_word to value (data_of x)) x (λ value. refl)
by_kept dists tables (instr.Jump target unless) x h = refl
by_kept dists tables instr.Halt x h = tt
by_kept dists tables (instr.Length to array) x h = refl
by_kept dists tables (instr.Check arrays rule at) x h = unless_kept (check_of rule at (lengths_of arrays x.arrays)) x
by_kept dists tables (instr.At to array index at) x h =
    made_kept (element_at at (cells_at x.arrays array) (word_at x.words index)) (λ value. with_word to value (data_of x)) x (λ value. refl)
by_kept dists tables (instr.Pack what) x h = refl
by_kept dists tables (instr.Post false) x h = post_kept (eqb (suc x.sent) x.ranks) _ _ refl
by_kept dists tables (instr.Post true) x h = refl
by_kept dists tables (instr.Take false) x h = take_kept x
by_kept dists tables (instr.Take true) x h = root_kept x.number (Gets x.got (after_take x)) x (take_kept x)
by_kept dists tables (instr.Write what) x h = root_kept x.number _ x refl
by_kept dists tables _ x h = absurd cc

-- a rank that has done such an instruction holds what it held
pub cells_kept : (code : Code) (tables : Tables) (x y : Store) → keeps_arrays (instr_at code.list x.position) ≡ true → ComesTo (act code tables x) y → cells_of y ≡ cells_of x
unfolding act
cells_kept code tables x y is c =
    ap (λ arrays. cells_of (record y { arrays = arrays })) (comes_kept x.arrays (act code tables x) y (by_kept code.arrays tables (instr_at code.list x.position) x is) c)
