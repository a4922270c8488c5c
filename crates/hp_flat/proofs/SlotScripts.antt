-- What every operation of the program of a script in which no rule breaks keeps, from its two halves: its lists, and its slots
-- and words.
use Rattle.std.proofs.Common.{ℕ, Bool, true, false, ◌&&◌, List, [], ◌∷◌, IsTrue, refl}
use Rattle.std.proofs.lemmas.Bool.{and_from, and_parts}
use Rattle.std.specs.List.{list_all}
use Rattle.hp_program.specs.Programs.{Prog, operations}
use Rattle.hp_air.specs.declared.slot.Slot.{Slot}
use Rattle.hp_air.specs.declared.what.Op.{Op}
use Rattle.hp_air.specs.Arrays.{arrays_of}
use Rattle.hp_air.specs.Kept.{is_within, has_lists, is_apart, has_frames, has_copy, has_matrices, is_kept, are_kept}
use Rattle.hp_flat.proofs.SlotCode.{is_slotted, is_word}
use Rattle.hp_flat.proofs.Throughout.{Throughout, all_operations, all_looks}

-- six tests from one of them and the five others
sixth : (w l a f c m : Bool) → IsTrue l → IsTrue (w && a && f && c && m) → IsTrue (w && l && a && f && c && m)
sixth true true a f c m p q = q
sixth true false a f c m p q = absurd cc
sixth false true a f c m p q = q
sixth false false a f c m p q = absurd cc

both_halves : (slots : List Slot) (words : ℕ) (ops : List Op) → IsTrue (list_all (λ (op : Op). has_lists op.what) ops) → IsTrue (list_all (λ (op : Op). is_slotted slots words op.what) ops)
    → IsTrue (list_all (λ (op : Op). is_kept slots words op.what) ops)
both_halves slots words [] lists slotted = refl
both_halves slots words (op ∷ ops) lists slotted =
    let one = and_parts (has_lists op.what) (list_all (λ (o : Op). has_lists o.what) ops) lists in
    let other = and_parts (is_slotted slots words op.what) (list_all (λ (o : Op). is_slotted slots words o.what) ops) slotted in
    let a = arrays_of op.what in
    and_from _ _ (sixth (is_within slots words op.what) (has_lists op.what) (is_apart a) (has_frames slots a) (has_copy slots a) (has_matrices slots a) one.0 other.0) (both_halves slots words ops one.1 other.1)

-- what is left is `Throughout (is_word words) (is_slotted slots words)` of the script's program
pub kept_from : (slots : List Slot) (words : ℕ) (p : Prog Op) → IsTrue (list_all (λ (op : Op). has_lists op.what) (operations p)) → Throughout (is_word words) (is_slotted slots words) p → IsTrue (are_kept slots words p)
kept_from slots words p lists all = and_from _ _ (both_halves slots words (operations p) lists (all_operations (is_word words) (is_slotted slots words) p all)) (all_looks (is_word words) (is_slotted slots words) p all)
