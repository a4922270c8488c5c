-- The code of an operation, by what it is.
use Rattle.std.proofs.Common.{◌≡◌, ◌∙◌, refl, sym, ap, cond, Bool, ℕ, List, [], ◌∷◌, ◌++◌, append-nil}
use Rattle.std.specs.Prelude.{ℤ}
use Rattle.std.specs.List.{list_all}
use Rattle.hp_word.specs.declared.place.Place.{Place}
use Rattle.hp_word.specs.declared.word.CalcOp.{CalcOp}
use Rattle.hp_lattice.specs.declared.dist.Dist.{Dist}
use Rattle.hp_spmd.specs.declared.instr.Instr.{Instr}
use Rattle.hp_air.specs.declared.what.Op.{Op}
use Rattle.hp_air.specs.declared.slot.Slot.{Slot}
use Rattle.hp_air.specs.declared.what.What.{What}
use Rattle.hp_air.specs.declared.what.What.TheVariants as what
use Rattle.hp_air.specs.Arrays as arrays
use Rattle.hp_alone.specs.Joining.{join_code}
use Rattle.hp_alone.specs.Summing.{sums_code}
use Rattle.hp_coll.specs.Scanning.{scan_code}
use Rattle.hp_exchange.specs.Concats.{concat_code}
use Rattle.hp_lowering.specs.PartCode.{copied_or_dealt, part_code, whole_code}
use Rattle.hp_lowering.specs.Room.{Room, part_word, start_word}
use Rattle.hp_parfor.specs.LoopMeaning.{is_rep, is_replicated}
use Rattle.hp_parfor.specs.Parts.{Does}
use Rattle.hp_parfor.specs.Talk.{dealt}

module _ (room : Room) (slots : List Slot) (d : ℕ → Dist) (op : Op) where
  pub done_code : (w : What) → op.what ≡ w → part_code room slots d (Does op) ≡ whole_code room slots d (is_replicated d (Does (record { at = op.at; what = w }))) op.at w
  unfolding part_code
  done_code w is = ap (λ v. whole_code room slots d (is_replicated d (Does (record { at = op.at; what = v }))) op.at v) is

  -- whether these arrays are whole on each rank
  abbrev pub are_whole : List ℕ → Bool
  are_whole arrays = list_all (λ k. is_rep (d k)) arrays

  pub copy_done : (outs ins : List ℕ) (list : List Instr) → op.what ≡ what.Copy outs ins → list ≡ copied_or_dealt (cond (are_whole (outs ++ ins)) [] (dealt slots d outs ins)) outs ins → list ≡ part_code room slots d (Does op)
  unfolding whole_code arrays.arrays_of arrays.outs arrays.sides
  copy_done outs ins list is made =
      made ∙ ap (λ (l : List ℕ). copied_or_dealt (cond (are_whole (outs ++ l)) [] (dealt slots d outs ins)) outs ins) (sym (append-nil ins)) ∙ sym (done_code (what.Copy outs ins) is)

  pub scan_done : (out array : ℕ) (list : List Instr) → op.what ≡ what.Scan out array → list ≡ cond (are_whole (out ∷ array ∷ [])) (sums_code out array (part_word room) (start_word room)) (scan_code out array (part_word room) (start_word room)) → list ≡ part_code room slots d (Does op)
  unfolding whole_code arrays.arrays_of arrays.outs arrays.sides
  scan_done out array list is made = made ∙ sym (done_code (what.Scan out array) is)

  pub concat_done : (out left right : ℕ) (list : List Instr) → op.what ≡ what.Concat out left right → list ≡ cond (are_whole (out ∷ left ∷ right ∷ [])) (join_code out left right op.at) (concat_code left right 0 out op.at)
      → list ≡ part_code room slots d (Does op)
  unfolding whole_code arrays.arrays_of arrays.outs arrays.sides
  concat_done out left right list is made = made ∙ sym (done_code (what.Concat out left right) is)

-- an operation of none of these kinds has no code
none_of : (room : Room) (slots : List Slot) (d : ℕ → Dist) (alone : Bool) (at : Place) (w : What) → ((to : ℕ) (value : ℤ) → w ≡ what.Const to value → ⊥) → ((to : ℕ) (op : CalcOp) (left right : ℕ) → w ≡ what.Calc to op left right → ⊥)
    → ((to array : ℕ) → w ≡ what.Length to array → ⊥) → ((out value count : ℕ) → w ≡ what.Fill out value count → ⊥) → ((out first last : ℕ) → w ≡ what.Range out first last → ⊥) → ((outs ins : List ℕ) → w ≡ what.Copy outs ins → ⊥)
    → ((out array : ℕ) → w ≡ what.Scan out array → ⊥) → ((out left right : ℕ) → w ≡ what.Concat out left right → ⊥) → ((to array index : ℕ) → w ≡ what.At to array index → ⊥) → ((out array index : ℕ) → w ≡ what.Pick out array index → ⊥)
    → ((word : ℕ) (truth : Bool) → w ≡ what.PrintWord word truth → ⊥) → ((array : ℕ) (truth : Bool) → w ≡ what.PrintList array truth → ⊥)
    → whole_code room slots d alone at w ≡ []
unfolding whole_code
none_of room slots d alone at (what.Const to value) a b c e f g h i j k l m = absurd (a to value refl)
none_of room slots d alone at (what.Calc to op left right) a b c e f g h i j k l m = absurd (b to op left right refl)
none_of room slots d alone at (what.Length to array) a b c e f g h i j k l m = absurd (c to array refl)
none_of room slots d alone at (what.Fill out value count) a b c e f g h i j k l m = absurd (e out value count refl)
none_of room slots d alone at (what.Range out first last) a b c e f g h i j k l m = absurd (f out first last refl)
none_of room slots d alone at (what.Copy outs ins) a b c e f g h i j k l m = absurd (g outs ins refl)
none_of room slots d alone at (what.Scan out array) a b c e f g h i j k l m = absurd (h out array refl)
none_of room slots d alone at (what.Concat out left right) a b c e f g h i j k l m = absurd (i out left right refl)
none_of room slots d alone at (what.At to array index) a b c e f g h i j k l m = absurd (j to array index refl)
none_of room slots d alone at (what.Pick out array index) a b c e f g h i j k l m = absurd (k out array index refl)
none_of room slots d alone at (what.PrintWord word truth) a b c e f g h i j k l m = absurd (l word truth refl)
none_of room slots d alone at (what.PrintList array truth) a b c e f g h i j k l m = absurd (m array truth refl)
none_of room slots d alone at _ a b c e f g h i j k l m = refl

pub none_done : (room : Room) (slots : List Slot) (d : ℕ → Dist) (op : Op) (list : List Instr) → ((to : ℕ) (value : ℤ) → op.what ≡ what.Const to value → ⊥) → ((to : ℕ) (kind : CalcOp) (left right : ℕ) → op.what ≡ what.Calc to kind left right → ⊥)
    → ((to array : ℕ) → op.what ≡ what.Length to array → ⊥) → ((out value count : ℕ) → op.what ≡ what.Fill out value count → ⊥) → ((out first last : ℕ) → op.what ≡ what.Range out first last → ⊥) → ((outs ins : List ℕ) → op.what ≡ what.Copy outs ins → ⊥)
    → ((out array : ℕ) → op.what ≡ what.Scan out array → ⊥) → ((out left right : ℕ) → op.what ≡ what.Concat out left right → ⊥) → ((to array index : ℕ) → op.what ≡ what.At to array index → ⊥) → ((out array index : ℕ) → op.what ≡ what.Pick out array index → ⊥)
    → ((word : ℕ) (truth : Bool) → op.what ≡ what.PrintWord word truth → ⊥) → ((array : ℕ) (truth : Bool) → op.what ≡ what.PrintList array truth → ⊥)
    → list ≡ [] → list ≡ part_code room slots d (Does op)
unfolding part_code
none_done room slots d op list a b c e f g h i j k l m made = made ∙ sym (none_of room slots d (is_replicated d (Does op)) op.at op.what a b c e f g h i j k l m)
