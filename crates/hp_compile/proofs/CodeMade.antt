-- The code that is made of the program of a script is the program's, which it follows, as all of its steps are built.
use Rattle.std.proofs.Common.{◌≡◌, ℕ, Bool, true, List, [], ◌∷◌, IsTrue, sym, subst}
use Rattle.std.specs.List.{AllByRecursion, list_all}
use Rattle.hp_script.specs.declared.typed.Typed.{Typed}
use Rattle.hp_program.specs.Programs.{Prog, operations, replaced}
use Rattle.hp_program.proofs.Keeping.{first_holds, second_holds}
use Rattle.hp_flat.specs.Flat.{flat_script}
use Rattle.hp_lattice.specs.declared.dist.Dists.{Dists}
use Rattle.hp_parfor.specs.declared.parfors.Parfors.{Parfors}
use Rattle.hp_parfor.specs.Built.{built}
use Rattle.hp_parfor.specs.Parts.{Part, program_of}
use Rattle.hp_spmd.specs.declared.code.Code.{Code}
use Rattle.hp_spmd.specs.Exchanges.{HasForm}
use Rattle.hp_lowering.specs.CodeOf.{code_list}
use Rattle.hp_lowering.specs.Follows.{Follows}
use Rattle.hp_lowering.specs.PartCode.{is_part_built}
use Rattle.hp_lowering.specs.Room.{code_arrays, code_loose, code_words}
use Rattle.hp_compile.specs.Answers.{FitsRanks}
use Rattle.hp_compile.specs.Compiling.{IsCodeOf}
use Rattle.hp_compile.specs.Placing.{IsProgramOf}
use Rattle.hp_compile.proofs.RunScripts.{all_steps_built}

one_by_one : (parts : List Part) → IsTrue (list_all is_part_built parts) → AllByRecursion (λ part. IsTrue (is_part_built part)) parts
one_by_one [] all = tt
one_by_one (part ∷ parts) all = (first_holds _ _ all, one_by_one parts (second_holds (is_part_built part) _ all))

pub built_steps : (bytes : List ℕ) (typed : Typed) (parfors : Parfors) (dists : Dists) → FitsRanks bytes typed → IsProgramOf typed parfors dists → AllByRecursion (λ part. IsTrue (is_part_built part)) (operations (program_of parfors.body))
built_steps bytes typed parfors dists fits program =
    subst (λ (p : Prog Part). AllByRecursion (λ part. IsTrue (is_part_built part)) (operations p)) (sym program.steps)
    (one_by_one (operations (replaced built (flat_script typed))) (all_steps_built typed fits.fits.checked fits.built))

pub code_made : (bytes : List ℕ) (typed : Typed) (parfors : Parfors) (dists : Dists) (code : Code) → FitsRanks bytes typed → IsProgramOf typed parfors dists
    → code.list ≡ code_list parfors.slots parfors.words (program_of parfors.body) dists.list
    → code.words ≡ code_words parfors.words
    → code.arrays ≡ code_arrays parfors.slots (program_of parfors.body) dists.list
    → code.loose ≡ code_loose (program_of parfors.body)
    → HasForm code.list
    → (AllByRecursion (λ part. IsTrue (is_part_built part)) (operations (program_of parfors.body)) → Follows code parfors.slots parfors.words (program_of parfors.body) dists.list)
    → IsCodeOf parfors dists code
code_made bytes typed parfors dists code fits program list words arrays loose form follows =
    record { list = list; words = words; arrays = arrays; loose = loose; form = form; follows = follows (built_steps bytes typed parfors dists fits program) }
