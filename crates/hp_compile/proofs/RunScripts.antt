-- A script in which each construct is one that ranks can run has a program of which ranks can run each step.
use Rattle.std.proofs.Common.{◌≡◌, ℕ, Bool, true, false, if◌then◌else◌, List, [], ◌∷◌, ◌++◌, flat_map, Option, Some, None, IsTrue, refl, subst, sym, ◌∙◌}
use Rattle.std.proofs.lemmas.Bool.{and_from}
use Rattle.std.proofs.lemmas.List.Folds.{list_all-append}
use Rattle.std.specs.List.{list_all}
use Rattle.hp_word.specs.declared.place.Place.{Place}
use Rattle.hp_script.specs.declared.typed.Typed.{Typed}
use Rattle.hp_script.specs.Checked.{Checked, start_of}
use Rattle.hp_script.specs.Fitting.{FitsBlock, fits_done, fits_first, fits_again, fits_print, fits_export, fits_if, fits_while}
use Rattle.hp_script.specs.Mirror.{Tree, Block, block_of}
use Rattle.hp_script.specs.Scope.{Scope}
use Rattle.hp_script.proofs.TypingLaws.{sound}
use Rattle.hp_program.specs.Programs.{Prog, joined, operations, replaced}
use Rattle.hp_program.proofs.Keeping.{first_holds, second_holds}
use Rattle.hp_program.proofs.Replaced.{operations_replaced}
use Rattle.hp_air.specs.declared.what.Op.{Op}
use Rattle.hp_air.specs.declared.what.What.{What}
use Rattle.hp_air.specs.declared.what.What.TheVariants as what
use Rattle.hp_air.specs.Unknowns.{Unknown, arrays_at, arrays_named, no_frame}
use Rattle.hp_built.specs.Constructs.{assigned_construct, printed_construct}
use Rattle.hp_built.specs.Ranks.{for_ranks}
use Rattle.hp_built.specs.Unbuilt.{earlier, first_unbuilt, is_before, least, place_unless, shape_of, unbuilt_in, unbuilt_of}
use Rattle.hp_flat.specs.Flat.{flat_at, flat_block, flat_script, store_code, print_code, holds_truths}
use Rattle.hp_flat.specs.FlatCalls.{array_copy, code_of, word_copy}
use Rattle.hp_flat.specs.Homes.{Homes, homes_in, homes_of, slot_of, word_of, word_named}
use Rattle.hp_flat.proofs.Throughout.{all_operations}
use Rattle.hp_flat.proofs.ToldScripts.{told_script}
use Rattle.hp_flat.proofs.ToldTypes.{ToldBlock}
use Rattle.hp_parfor.specs.Built.{built, built_at}
use Rattle.hp_parfor.specs.Parts.{Part}
use Rattle.hp_lowering.specs.PartCode.{is_part_built}
use Rattle.hp_compile.proofs.RunTrees.{Runs, copied_runs, first_nil, is_run, run_both, runs, second_nil}

-- ---- statements

stored_runs : (h : Homes) (at : Place) (x : List ℕ) (e : Tree) → Runs (store_code h at x e)
unfolding store_code word_copy
stored_runs h at x e = by (arrays_at h.known e)
  where
    by : (us : List Unknown) → Runs (elim us [ [] ↦ word_copy at (word_named h x) (word_of h e) | (_ ∷ _) ↦ array_copy h at (arrays_named h.known x) (arrays_at h.known e) ])
    by [] = (refl, tt)
    by (u ∷ us) = copied_runs h at (arrays_named h.known x) (arrays_at h.known e)

printed_runs : (h : Homes) (at : Place) (e : Tree) → Runs (print_code h at e)
unfolding print_code
printed_runs h at e = by (arrays_at h.known e)
  where
    by : (us : List Unknown) → Runs (elim us [ [] ↦ code_of at (what.PrintWord (word_of h e) (holds_truths h e)) | (x ∷ _) ↦ code_of at (what.PrintList (slot_of h x) (holds_truths h e)) ])
    by [] = (refl, tt)
    by (u ∷ us) = (refl, tt)

-- what a statement's own construct, its value and the statements behind it have
statement_parts : (own value rest : List Place) → (own ++ value) ++ rest ≡ [] → (value ≡ []) × (rest ≡ [])
statement_parts own value rest e = (second_nil own value (first_nil (own ++ value) rest e), second_nil (own ++ value) rest e)

abbrev value_places : Homes → Tree → List Place
value_places h x = unbuilt_in for_ranks h.known.shapes x

abbrev rest_places : Homes → Block → List Place
rest_places h b = unbuilt_of for_ranks h.known.shapes b

block_runs : (h : Homes) {s : Scope} {b : Block} {t : Scope} (f : FitsBlock s b t) → ToldBlock h.known f → unbuilt_of for_ranks h.known.shapes b ≡ [] → Runs (flat_block h b)
unfolding flat_block unbuilt_of
block_runs h fits_done t e = tt
block_runs h (fits_first {at = at} {x = x} {e = v} {rest = rest} p new next) t e =
    run_both (flat_at h v) _ (runs h p t.0.0 t.0.1 (statement_parts (place_unless for_ranks at (assigned_construct (shape_of h.known.shapes v))) (value_places h v) (rest_places h rest) e).0 no_frame)
    (run_both (store_code h at x v) (flat_block h rest) (stored_runs h at x v) (block_runs h next t.1 (statement_parts (place_unless for_ranks at (assigned_construct (shape_of h.known.shapes v))) (value_places h v) (rest_places h rest) e).1))
block_runs h (fits_again {at = at} {x = x} {e = v} {rest = rest} p new next) t e =
    run_both (flat_at h v) _ (runs h p t.0.0 t.0.1 (statement_parts (place_unless for_ranks at (assigned_construct (shape_of h.known.shapes v))) (value_places h v) (rest_places h rest) e).0 no_frame)
    (run_both (store_code h at x v) (flat_block h rest) (stored_runs h at x v) (block_runs h next t.1 (statement_parts (place_unless for_ranks at (assigned_construct (shape_of h.known.shapes v))) (value_places h v) (rest_places h rest) e).1))
block_runs h (fits_print {at = at} {e = v} {rest = rest} p can next) t e =
    run_both (flat_at h v) _ (runs h p t.0.0 t.0.1 (statement_parts (place_unless for_ranks at (printed_construct (shape_of h.known.shapes v))) (value_places h v) (rest_places h rest) e).0 no_frame)
    (run_both (print_code h at v) (flat_block h rest) (printed_runs h at v) (block_runs h next t.1 (statement_parts (place_unless for_ranks at (printed_construct (shape_of h.known.shapes v))) (value_places h v) (rest_places h rest) e).1))
block_runs h (fits_export p next) t e = absurd cc
block_runs h (fits_if {c = c} {body = body} {other = other} {rest = rest} p taken passed next) t e =
    let branches = rest_places h body ++ rest_places h other in
    let whole : value_places h c ++ branches ≡ [] = first_nil (value_places h c ++ branches) (rest_places h rest) e in
    let both : branches ≡ [] = second_nil (value_places h c) branches whole in
    run_both (flat_at h c) _ (runs h p t.0.0 t.0.1 (first_nil (value_places h c) branches whole) no_frame) (
      refl,
      block_runs h taken t.1 (first_nil (rest_places h body) (rest_places h other) both),
      block_runs h passed t.2 (second_nil (rest_places h body) (rest_places h other) both),
      block_runs h next t.3 (second_nil (value_places h c ++ branches) (rest_places h rest) e),
    )
block_runs h (fits_while {c = c} {body = body} {rest = rest} p taken next) t e =
    let whole : value_places h c ++ rest_places h body ≡ [] = first_nil (value_places h c ++ rest_places h body) (rest_places h rest) e in (
      runs h p t.0.0 t.0.1 (first_nil (value_places h c) (rest_places h body) whole) no_frame,
      refl,
      block_runs h taken t.1 (second_nil (value_places h c) (rest_places h body) whole),
      block_runs h next t.2 (second_nil (value_places h c ++ rest_places h body) (rest_places h rest) e),
    )

-- ---- scripts

none_least : (ps : List Place) → least ps ≡ None → ps ≡ []
unfolding least
none_least [] e = refl
none_least (p ∷ ps) e = by (least ps) e
  where
    by : (o : Option Place) → earlier (Some p) o ≡ None → p ∷ ps ≡ []
    by None is = absurd cc
    by (Some q) is = two (is_before q p) is
      where
        two : (b : Bool) → (if b then Some q else Some p) ≡ None → p ∷ ps ≡ []
        two true is = absurd cc
        two false is = absurd cc

script_runs : (typed : Typed) → Checked typed → first_unbuilt for_ranks typed ≡ None → Runs (flat_script typed)
unfolding flat_script homes_of homes_in first_unbuilt
script_runs typed checked none =
    let fit = sound typed checked in
    block_runs (homes_of typed) fit.fits (told_script typed checked fit.behind fit.fits) (none_least (unbuilt_of for_ranks typed.shapes (block_of typed.script.body)) none)

-- ---- steps

step_built : (at : Place) (w : What) → IsTrue (is_run w) → IsTrue (list_all is_part_built (operations (built_at at w)))
unfolding built_at operations
step_built at (what.Map out ins elem) p = refl
step_built at (what.Reduce to kind array elem) p = refl
step_built at (what.Stencil out array balanced reach elem) p = refl
step_built at (what.Const to value) p = refl
step_built at (what.Calc to op left right) p = refl
step_built at (what.Length to array) p = refl
step_built at (what.Fill out value count) p = refl
step_built at (what.Range out first last) p = refl
step_built at (what.Copy outs ins) p = refl
step_built at (what.Scan out array) p = refl
step_built at (what.Concat out left right) p = refl
step_built at (what.At to array index) p = refl
step_built at (what.Pick out array index) p = refl
step_built at (what.PrintWord word truth) p = refl
step_built at (what.PrintList array truth) p = refl
step_built at (what.Read outs table) p = absurd cc
step_built at (what.Filter outs ins mask) p = absurd cc
step_built at (what.Join outs lefts left_key rights right_key) p = absurd cc
step_built at (what.Group outs ins key measures) p = absurd cc
step_built at (what.Sort outs ins key) p = absurd cc
step_built at (what.Frame outs ins) p = absurd cc
step_built at (what.Stack out ins) p = absurd cc
step_built at (what.Row out matrix index) p = absurd cc
step_built at (what.Product out left right) p = absurd cc
step_built at (what.ProductT out left right) p = absurd cc
step_built at (what.Export arrays names) p = absurd cc

steps_built : (ops : List Op) → IsTrue (list_all (λ (op : Op). is_run op.what) ops) → IsTrue (list_all is_part_built (flat_map (λ op. operations (built op)) ops))
steps_built [] all = refl
steps_built (op ∷ ops) all =
    list_all-append is_part_built (operations (built op)) _ ∙ and_from _ _ (step_built op.at op.what (first_holds _ _ all)) (steps_built ops (second_holds (is_run op.what) _ all))

-- each step of the program with loops is one that ranks can run
pub all_steps_built : (typed : Typed) → Checked typed → first_unbuilt for_ranks typed ≡ None → IsTrue (list_all is_part_built (operations (replaced built (flat_script typed))))
all_steps_built typed checked none =
    subst (λ (l : List Part). IsTrue (list_all is_part_built l)) (sym (operations_replaced built (flat_script typed)))
    (steps_built (operations (flat_script typed)) (all_operations (λ w. true) is_run (flat_script typed) (script_runs typed checked none)))
