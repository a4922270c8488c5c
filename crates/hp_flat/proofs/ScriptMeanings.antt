-- The program of a script in which no rule breaks ends as the script does, where each expression comes to its value.
use Rattle.std.proofs.Common.{◌≡◌, ℕ, zero, suc, ◌+◌, ◌<◌, ◌==◌, ◌||◌, Bool, true, false, List, [], ◌++◌, Option, Some, None, IsSome, is_some, refl, sym, ap, ap₂, subst, ◌∙◌, append-nil, arith}
use Rattle.std.proofs.lemmas.Bool.{eqb-true}
use Rattle.std.specs.List.{AllByRecursion, range_with_len}
use Rattle.hp_word.specs.declared.order.Order.{Order}
use Rattle.hp_word.specs.declared.table.Table.{Table}
use Rattle.hp_word.specs.Runs as runs
use Rattle.hp_script.specs.declared.typed.ReadSpec.{ReadSpec}
use Rattle.hp_script.specs.declared.typed.Typed.{Typed}
use Rattle.hp_script.specs.declared.typed.Var.{Var}
use Rattle.hp_script.specs.Checked.{Checked, start_of, files_of}
use Rattle.hp_script.specs.Mirror.{Block, block_of}
use Rattle.hp_script.specs.Nodes.{nodes_of}
use Rattle.hp_script.specs.Scope.{Scope, shape_among}
use Rattle.hp_script.proofs.TypingLaws.{sound}
use Rattle.hp_meaning.specs.declared.seq.SeqStatus.{SeqStatus}
use Rattle.hp_meaning.specs.Fitting.{Serves}
use Rattle.hp_meaning.specs.ReadCalls.{reads_of, table_for}
use Rattle.hp_meaning.specs.Run.{End, eval}
use Rattle.hp_meaning.specs.Run as meaning
use Rattle.hp_meaning.specs.Scopes.{value_named}
use Rattle.hp_meaning.proofs.NeverWrong.{script_ends}
use Rattle.hp_meaning.proofs.Parts.{Supplies}
use Rattle.hp_meaning.proofs.ReadOrder.{supplied, reads_rise}
use Rattle.hp_meaning.proofs.SafeBlocks.{Holds}
use Rattle.hp_program.specs.Programs as programs
use Rattle.hp_air.specs.Meaning.{Done, Stopped, OutOfFuel, ending, mean}
use Rattle.hp_air.specs.Arrays.{Arrays, Stencil}
use Rattle.hp_air.specs.Carried.{IsItem}
use Rattle.hp_air.specs.Unknowns.{Unknown, constructs, constructs_of, unknowns}
use Rattle.hp_air.specs.Wholes.{Env, unset}
use Rattle.hp_flat.specs.Flat.{flat_script}
use Rattle.hp_flat.specs.FlatLaws.{EndsAs, as_done, as_trapped, as_spent, ending_by, script_ending, MeanTheSame, HaveOneMeaning}
use Rattle.hp_flat.specs.Homes.{Homes, homes_of, homes_in, slots_in}
use Rattle.hp_flat.specs.Standing.{is_node_of}
use Rattle.hp_flat.proofs.AlikeRuns.{ends_as, start_alike}
use Rattle.hp_flat.proofs.BlockMeanings.{block_means}
use Rattle.hp_flat.proofs.KeptHomes.{Differ}
use Rattle.hp_flat.proofs.LastSteps.{AreApart}
use Rattle.hp_flat.proofs.MeaningRooms.{HasHomes, HasCopy}
use Rattle.hp_flat.proofs.MeaningTrees.{trees_mean}
use Rattle.hp_flat.proofs.MeantTrees.{AreNamed, TreesMean}
use Rattle.hp_flat.proofs.RowScripts.{all_items}
use Rattle.hp_flat.proofs.ShortScopes.{AreShortVars}
use Rattle.hp_flat.proofs.SlotLaws.{are_apart_slots, copies_have, expressions_have, variables_have}
use Rattle.hp_flat.proofs.StoredValues.{VariablesAreAmong}
use Rattle.hp_flat.proofs.ToldScripts.{told_script}
use Rattle.hp_flat.proofs.VariableNames.{named_among}

-- ---- before the first statement

no_other : (j k : ℕ) (b c : Bool) → (j == k) ≡ b → (j ≡ k → ⊥) → c ≡ false → (b || c) ≡ false
no_other j k true c same other rest = absurd (other (eqb-true j k same))
no_other j k false c differ other rest = rest

-- numbers that rise differ
range_without : (k a n : ℕ) → k < a → is_node_of (range_with_len a n) k ≡ false
range_without k a zero less = refl
range_without k a (suc n) less = no_other a k (a == k) (is_node_of (range_with_len (a + 1) n) k) refl (λ same. omega (arith, same, less)) (range_without k (a + 1) n (omega (arith, less)))

range_differs : (a n : ℕ) → Differ (range_with_len a n)
range_differs a zero = tt
range_differs a (suc n) = (range_without a (a + 1) n (omega arith), range_differs (a + 1) n)

starts : (last : Scope) (body : Block) → Holds last (start_of body) []
unfolding value_named
starts last body = record { surely = record { known = λ x set. absurd cc }; all = record { typed = λ x a found. absurd cc } }

none_short : AreShortVars []
unfolding value_named
none_short x a found = absurd cc

-- ---- scripts

module _ (typed : Typed) where
  abbrev home : Homes
  home = homes_of typed

  arrays_are_apart : AreApart home
  unfolding homes_of homes_in unknowns constructs
  arrays_are_apart u v among same = are_apart_slots typed u v among same

  variables_are_among : VariablesAreAmong home
  unfolding homes_of homes_in unknowns constructs
  variables_are_among k var c at less = variables_have typed k var c at less

  variables_are_named : (last : Scope) → typed.vars ≡ last.vars → AreNamed home last
  unfolding homes_of homes_in
  variables_are_named last same x a e = named_among typed.vars typed.shapes x ∙ (ap (λ (vars : List Var). shape_among vars x) same ∙ e)

  copy_is_there : (c : Arrays Unknown) → IsItem (constructs typed) c → HasCopy home c
  unfolding homes_of homes_in unknowns constructs
  copy_is_there (Stencil out array copy) item = copies_have typed out array copy item
  copy_is_there _ item = tt

  copies_are_there : AllByRecursion (HasCopy home) (constructs_of home.known (block_of typed.script.body))
  unfolding homes_of homes_in constructs
  copies_are_there = all_items (HasCopy home) (constructs typed) copy_is_there

  -- the tables of the script's calls
  tables_are_there : (tables : List Table) → Checked typed → Serves tables typed.reads → Supplies (λ id. table_for (reads_of (block_of typed.script.body)) id tables) (reads_of (block_of typed.script.body) ++ []) (files_of (block_of typed.script.body) ++ [])
  tables_are_there tables checked serve =
      let body = block_of typed.script.body in
      let there : Supplies (λ id. table_for (reads_of body) id tables) (reads_of body) (files_of body) =
      supplied 0 (reads_of body) tables (files_of body) (reads_rise body typed.script.nodes typed.script.numbered) (subst (λ (l : List ReadSpec). Serves tables l) checked.reads serve) in
      subst (λ (ids : List ℕ). Supplies (λ id. table_for (reads_of body) id tables) ids (files_of body ++ [])) (sym (append-nil (reads_of body)))
      (subst (λ (l : List ReadSpec). Supplies (λ id. table_for (reads_of body) id tables) (reads_of body) l) (sym (append-nil (files_of body))) there)

  script_means : (tables : List Table) (orders : List Order) (fuel : ℕ) (e : End) → TreesMean home (slots_in home) tables orders → Checked typed → Serves tables typed.reads
      → eval (block_of typed.script.body) tables orders fuel ≡ Some e → EndsAs e (mean (slots_in home) (flat_script typed) tables orders fuel)
  unfolding flat_script homes_of homes_in eval mean
  script_means tables orders fuel e trees checked serve is =
      let body = block_of typed.script.body in
      let fit = sound typed checked in
      let differ : Differ (nodes_of body) = subst Differ (sym typed.script.numbered) (range_differs 0 typed.script.nodes) in
      let block = (block_means home (slots_in home) tables orders arrays_are_apart variables_are_among fit.behind (variables_are_named fit.behind fit.vars) trees fit.fits
      (told_script typed checked fit.behind fit.fits) differ (record { out = refl; clear = refl }) (λ y k same. same) (λ x a found. absurd cc) copies_are_there).take [] [] (tables_are_there tables checked serve) in
      ends_as home e (block.0 (meaning.start fuel) (programs.start unset fuel) (record { holds = starts fit.behind body; short = none_short }) (start_alike home fuel)) is

-- what holds of the slots of the script
has_homes : (typed : Typed) → HasHomes (homes_of typed)
unfolding homes_of homes_in unknowns constructs
has_homes typed = record { apart = arrays_are_apart typed; nodes = λ k c less. expressions_have typed k c less }

pub mean_the_same : MeanTheSame
mean_the_same typed checked tables orders fuel e serve is =
    script_means typed tables orders fuel e (trees_mean (homes_of typed) (slots_in (homes_of typed)) tables orders (has_homes typed)) checked serve is

-- ---- one meaning

-- an end that is compared
same_ending : (e : End) (ran : runs.Ran Env ℕ) → EndsAs e ran → script_ending (Some e) ≡ ending ran
same_ending e ran (as_done {s = s} status out bad fuel work) = ap₂ (λ (k : SeqStatus) (b : List ℕ). ending_by k e.at.out b) status (sym bad) ∙ ap (λ (o : List ℕ). Done o s.env.bad) (sym out)
same_ending e ran (as_trapped {t = t} status out work) = ap (λ (k : SeqStatus). ending_by k e.at.out e.at.seen.met.bad) status ∙ ap (λ (o : List ℕ). Stopped o) (sym out)
same_ending e ran (as_spent status out work) = ap (λ (k : SeqStatus). ending_by k e.at.out e.at.seen.met.bad) status ∙ ap (λ (o : List ℕ). OutOfFuel o) (sym out)

pub have_one_meaning : HaveOneMeaning
have_one_meaning typed checked tables orders fuel serve = by_end (eval (block_of typed.script.body) tables orders fuel) refl
    (script_ends typed.script tables orders fuel checked.fits (subst (λ (l : List ReadSpec). Serves tables l) checked.reads serve))
  where
    by_end : (found : Option End) → eval (block_of typed.script.body) tables orders fuel ≡ found → IsSome (eval (block_of typed.script.body) tables orders fuel)
        → script_ending (eval (block_of typed.script.body) tables orders fuel) ≡ ending (mean (slots_in (homes_of typed)) (flat_script typed) tables orders fuel)
    by_end (Some e) is some = ap script_ending is ∙ same_ending e (mean (slots_in (homes_of typed)) (flat_script typed) tables orders fuel) (mean_the_same typed checked tables orders fuel e serve is)
    by_end None is some = let none : is_some (eval (block_of typed.script.body) tables orders fuel) ≡ false = ap is_some is in absurd cc
