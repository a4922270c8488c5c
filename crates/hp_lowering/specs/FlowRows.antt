-- Worked rows: the lockstep of a short code beside the meaning of its program.
use Rattle.std.specs.Prelude.{◌≡◌, pos, [], ◌∷◌, Some, None, map, refl}
use Rattle.std.specs.Int.{int_wrap}
use Rattle.std.proofs.Common.{lit<}
use Rattle.hp_word.specs.declared.place.Place.{Place}
use Rattle.hp_word.specs.declared.table.Tables.{Tables}
use Rattle.hp_word.specs.declared.word.CalcOp.TheVariants.{Sub}
use Rattle.hp_word.specs.Runs.{turns}
use Rattle.hp_spmd.specs.declared.code.Code.{Code}
use Rattle.hp_spmd.specs.declared.instr.Instr.TheVariants as instr
use Rattle.hp_spmd.specs.declared.store.Store.{Store}
use Rattle.hp_spmd.specs.Lockstep.{first_state, lockstep_of, run_by, state_of, step}
use Rattle.hp_spmd.specs.Scalars.{calc_data, const_data}
use Rattle.hp_spmd.specs.Store.{first_store}
use Rattle.hp_program.specs.Programs.{Prog, by_word, decided, loop, run, stop, told}
use Rattle.hp_air.specs.declared.what.What.TheVariants as what
use Rattle.hp_air.specs.Meaning.{does, units, work_of}
use Rattle.hp_parfor.specs.LoopMeaning.{part_does, part_units, parts_mean}
use Rattle.hp_parfor.specs.Parts.{Part}
use Rattle.hp_parfor.specs.TalkRows.{op}
use Rattle.hp_lowering.specs.CodeOf.{code_from, code_list}
use Rattle.hp_lowering.specs.PartCode.{part_code, whole_code}

abbrev at : Place
at = record { line = 1; col = 1 }

-- ---- i = 2; while i { i = i - 1 }

abbrev counting : Prog Part
counting = op (what.Const 0 (pos 2)) (op (what.Const 1 (pos 1)) (loop stop 0 (op (what.Calc 0 Sub 0 1) stop) stop))

abbrev counting_code : Code
counting_code =
    record {
      list = instr.Const 0 (pos 2) ∷ instr.Const 1 (pos 1) ∷ instr.Jump 5 (Some 0) ∷ instr.Calc 0 Sub 0 1 at ∷ instr.Jump 2 None ∷ instr.Halt ∷ [];
      words = 4;
      arrays = [];
      loose = 0;
      small = lit< tt;
      ends = refl;
      within = refl;
      targets = refl;
    }

counting_list : code_list [] 2 counting [] ≡ counting_code.list
unfolding code_list code_from part_code whole_code
counting_list = refl

abbrev none : Tables
none = record { list = [] }

-- two turns have two subtractions and three looks, behind two constants: a work of 7; on each of two ranks 9 instructions
counting_work : work_of (parts_mean [] [] counting [] [] 20) ≡ 7
unfolding parts_mean run turns decided by_word told part_does part_units does units int_wrap
counting_work = refl

counting_words : map (λ (x : Store). x.words) (state_of (lockstep_of counting_code none 2 9)).ranks ≡ (pos 0 ∷ pos 1 ∷ pos 0 ∷ pos 0 ∷ []) ∷ (pos 0 ∷ pos 1 ∷ pos 0 ∷ pos 0 ∷ []) ∷ []
unfolding run_by step first_state first_store const_data calc_data int_wrap
counting_words = refl
