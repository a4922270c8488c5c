-- Worked rows: distributions by which a short program can run, and such by which it cannot.
use Rattle.std.proofs.Common.{arith}
use Rattle.std.specs.Prelude.{pos, List, [], ◌∷◌, refl}
use Rattle.hp_word.specs.declared.elem.Elem.{Elem}
use Rattle.hp_word.specs.declared.elem.Elem.TheVariants.{Input, Number}
use Rattle.hp_word.specs.declared.elem.Elem.TheViews.{Calc}
use Rattle.hp_word.specs.declared.place.Place.{Place}
use Rattle.hp_word.specs.declared.word.CalcOp.TheVariants.{Gt}
use Rattle.hp_lattice.specs.declared.dist.Dist.TheVariants.{Rep, Var, Block}
use Rattle.hp_program.specs.Programs.{Prog, stop, plain, operations}
use Rattle.hp_air.specs.declared.slot.Slot.{Slot}
use Rattle.hp_air.specs.declared.what.Op.{Op}
use Rattle.hp_air.specs.declared.what.What.{What}
use Rattle.hp_air.specs.declared.what.What.TheVariants as what
use Rattle.hp_air.specs.Arrays.{arrays_of}
use Rattle.hp_air.specs.Constraints.{range_meets, frame_meets, map_meets, filter_meets, stencil_meets}
use Rattle.hp_air.specs.Frames.{node_slot, balanced_slot, first_of}
use Rattle.hp_air.specs.Placed.{Placed}

abbrev at : Place
at = record { line = 1; col = 1 }

abbrev op : What → Prog Op → Prog Op
op w rest = plain (record { at = at; what = w }) rest

-- whether a cell is above 4
abbrev above : Elem
above = Calc Gt at (Input 0) (Number (pos 4))

-- two arrays in blocks, a frame of them, its mask, the filtered frame, and the sums of neighbours in its first column
abbrev slots : List Slot
slots =
    node_slot 0 0 ∷ node_slot 1 0 ∷ node_slot 2 0 ∷ node_slot 2 1 ∷ node_slot 3 0 ∷ node_slot 4 0 ∷ node_slot 4 1 ∷ node_slot 5 0 ∷ balanced_slot 5 ∷ []

abbrev program : Prog Op
program =
    op (what.Range 0 0 1) (op (what.Range 1 0 1) (op (what.Frame (2 ∷ 3 ∷ []) (0 ∷ 1 ∷ [])) (op (what.Map 4 (2 ∷ []) above)
    (op (what.Filter (5 ∷ 6 ∷ []) (2 ∷ 3 ∷ []) 4) (op (what.Stencil 7 5 8 0 (Number (pos 0))) stop)))))

-- the filtered frame lies in pieces, all else in blocks
placed_row : Placed slots program (Block ∷ Block ∷ Block ∷ Block ∷ Block ∷ Var ∷ Var ∷ Block ∷ Block ∷ [])
unfolding first_of operations arrays_of
placed_row =
    record {
      each = omega arith;
      frames = (refl, (refl, (refl, (refl, (refl, (refl, (refl, (refl, (refl, tt)))))))));
      rows = (range_meets, (range_meets, (frame_meets (refl, (refl, tt)), (map_meets (refl, tt), (filter_meets refl refl refl refl, (stencil_meets refl refl refl refl, tt))))));
      balanced = (λ e. absurd cc, tt);
    }

-- the second column of the filtered frame lies otherwise than the first
uneven_row : Placed slots program (Block ∷ Block ∷ Block ∷ Block ∷ Block ∷ Var ∷ Rep ∷ Block ∷ Block ∷ []) → ⊥
unfolding first_of operations arrays_of
uneven_row p = absurd cc

-- the balanced copy lies in pieces
pieces_row : Placed slots program (Block ∷ Block ∷ Block ∷ Block ∷ Block ∷ Var ∷ Var ∷ Block ∷ Var ∷ []) → ⊥
pieces_row p = p.balanced.0 refl
