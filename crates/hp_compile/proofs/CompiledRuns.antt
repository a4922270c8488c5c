-- Ranks that run a compiled script do what the headline says.
use Rattle.std.proofs.Common.{◌≡◌, ◌∙◌, ℕ, List, IsTrue, ap, subst}
use Rattle.std.specs.List.{AllByRecursion}
use Rattle.hp_lattice.specs.declared.dist.Dists.{Dists}
use Rattle.hp_script.specs.declared.typed.Typed.{Typed}
use Rattle.hp_program.specs.Programs.{Prog, operations, replaced}
use Rattle.hp_air.specs.declared.slot.Slot.{Slot}
use Rattle.hp_flat.specs.Flat.{flat_script}
use Rattle.hp_flat.specs.Homes.{homes_of, slots_in, words_in}
use Rattle.hp_parfor.specs.declared.parfors.Parfors.{Parfors}
use Rattle.hp_parfor.specs.Built.{built}
use Rattle.hp_parfor.specs.KeptParts.{are_parts}
use Rattle.hp_parfor.specs.Parts.{Part, program_of}
use Rattle.hp_parfor.specs.PlacedParts.{PlacedParts}
use Rattle.hp_spmd.specs.declared.code.Code.{Code}
use Rattle.hp_lowering.specs.CodeOf.{code_list}
use Rattle.hp_lowering.specs.PartCode.{is_part_built}
use Rattle.hp_lowering.specs.Room.{code_arrays}
use Rattle.hp_compile.specs.Answers.{FitsRanks}
use Rattle.hp_compile.specs.Compiling.{IsCodeOf, RanksRunScript}
use Rattle.hp_compile.specs.HeadlineLaws.{Headline, script_program}
use Rattle.hp_compile.specs.Placing.{IsProgramOf}
use Rattle.hp_compile.specs.RanksLaws.{ProgramsAreCarried}
use Rattle.hp_compile.proofs.CodeMade.{built_steps}

module _ (typed : Typed) (parfors : Parfors) (dists : Dists) (program : IsProgramOf typed parfors dists) where
  -- what holds of the program that was made holds of the script's
  moved : (P : List Slot → ℕ → Prog Part → Type 0) → P parfors.slots parfors.words (program_of parfors.body) → P (slots_in (homes_of typed)) (words_in (homes_of typed)) (replaced built (flat_script typed))
  moved P h =
      subst (λ (s : List Slot). P s (words_in (homes_of typed)) (replaced built (flat_script typed))) program.slots
      (subst (λ (w : ℕ). P parfors.slots w (replaced built (flat_script typed))) program.words (subst (λ (p : Prog Part). P parfors.slots parfors.words p) program.steps h))

  pub compiled_runs : ProgramsAreCarried → Headline → (bytes : List ℕ) (code : Code) → FitsRanks bytes typed → IsCodeOf parfors dists code → RanksRunScript typed dists code
  compiled_runs carried headline bytes code fits is r turns run =
      headline typed dists.list r turns fits.fits.checked run.tables
      (carried (script_program typed dists.list) r run.some run.few (moved (λ s w p. IsTrue (are_parts s w p)) parfors.kept) (moved (λ s w p. PlacedParts s p dists.list) program.lies)
      (moved (λ s w p. r.code.list ≡ code_list s w p dists.list) (ap (λ (c : Code). c.list) run.same ∙ is.list))
      (moved (λ s w p. r.code.arrays ≡ code_arrays s p dists.list) (ap (λ (c : Code). c.arrays) run.same ∙ is.arrays))
      (moved (λ s w p. AllByRecursion (λ part. IsTrue (is_part_built part)) (operations p)) (built_steps bytes typed parfors dists fits program)))
