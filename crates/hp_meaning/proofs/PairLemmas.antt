-- Operations on two arrays, element by element.
use Rattle.std.proofs.Common.{◌≡◌, ℕ, ℤ, ◌<◌, List, map, length, get_or, pos, sym, ap, arith, eq-eqb}
use Rattle.std.specs.Prelude.{zip, ◌==◌}
use Rattle.std.proofs.lemmas.Slice.Zip.{get_or-zip}
use Rattle.hp_word.specs.declared.place.Place.{Place}
use Rattle.hp_word.specs.declared.place.TrapKind.TheVariants.{Mismatch}
use Rattle.hp_word.specs.declared.word.CalcOp.{CalcOp}
use Rattle.hp_word.specs.Lengths.{trap}
use Rattle.hp_meaning.specs.Outcomes.{Answer, Traps, all_of}
use Rattle.hp_meaning.specs.WordRules.{calculated_at, pairwise}
use Rattle.hp_meaning.proofs.Answering.{yes_of}

abbrev paired : Place → CalcOp → ℤ × ℤ → Answer ℤ
paired at op p = calculated_at at op p.0 p.1

pub at_place : (at : Place) (op : CalcOp) (xs ys : List ℤ) (k : ℕ) → length xs ≡ length ys → k < length xs
    → paired at op (get_or (zip xs ys) k (pos 0, pos 0)) ≡ calculated_at at op (get_or xs k (pos 0)) (get_or ys k (pos 0))
at_place at op xs ys k same lt = ap (paired at op) (get_or-zip xs ys k (pos 0, pos 0) lt (omega arith))

pub whole : (at : Place) (op : CalcOp) (xs ys : List ℤ) → length xs ≡ length ys → pairwise at op xs ys ≡ all_of (map (paired at op) (zip xs ys))
unfolding pairwise
whole at op xs ys same = yes_of (length xs == length ys) (all_of (map (paired at op) (zip xs ys))) (Traps (trap at Mismatch)) (sym (eq-eqb (length xs) (length ys) same))
