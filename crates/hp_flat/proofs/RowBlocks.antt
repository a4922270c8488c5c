-- The operations of statements beside what the script does there: one operation for each construct.
use Rattle.std.proofs.Common.{◌≡◌, ℕ, zero, suc, List, [], ◌∷◌, ◌++◌, map, Option, Some, None, refl, sym, ap, subst, ◌∙◌, append_assoc}
use Rattle.std.proofs.lemmas.List.{map-append}
use Rattle.std.specs.List.{AllByRecursion, range_with_len}
use Rattle.hp_word.specs.declared.place.Place.{Place}
use Rattle.hp_word.specs.declared.word.CalcOp.TheVariants as calc
use Rattle.hp_script.specs.declared.typed.Shape.{Shape}
use Rattle.hp_script.specs.Fitting.{FitsBlock, fits_done, fits_first, fits_again, fits_print, fits_export, fits_if, fits_while}
use Rattle.hp_script.specs.Mirror.{Tree, Block}
use Rattle.hp_script.specs.Scope.{Scope, shape_among}
use Rattle.hp_script.specs.Shaped.{IsOutside}
use Rattle.hp_script.proofs.TestLemmas.{bytes_same}
use Rattle.hp_program.specs.Programs.{Prog, stop, choose as branch, loop as turns, joined, operations}
use Rattle.hp_air.specs.declared.slot.Slot.{Slot}
use Rattle.hp_air.specs.declared.what.Op.{Op}
use Rattle.hp_air.specs.declared.what.What.TheVariants as what
use Rattle.hp_air.specs.Arrays.{Arrays, PrintWord, PrintList, Export, arrays_of, renamed}
use Rattle.hp_air.specs.Unknowns.{Unknown, of_node, of_variable, arrays_at, arrays_named, at_variable, number_of, shape_at, shape_named, variable_named, width, copied, print_of, no_frame, constructs_in, constructs_of}
use Rattle.hp_flat.specs.Homes.{Homes, slot_of, word_of, word_named}
use Rattle.hp_flat.specs.Flat.{flat_at, flat_block, store_code, print_code, export_code, holds_truths}
use Rattle.hp_flat.specs.FlatCalls.{code_of, array_copy, word_copy, ins_of, frame_at}
use Rattle.hp_flat.specs.StepByStep.{Follows, both_end}
use Rattle.hp_flat.proofs.Fronts.{gives_both, gives_mapped}
use Rattle.hp_flat.proofs.RowCalls.{each}
use Rattle.hp_flat.proofs.RowCode.{step_rows, scalar_rows, copy_rows}
use Rattle.hp_flat.proofs.RowFrames.{none_framed}
use Rattle.hp_flat.proofs.RowParts.{Rows, follow, joined_rows}
use Rattle.hp_flat.proofs.RowSteps.{follows_both, follows_joined, follows_as, HasSlots, rows, row, Back, named_back, all_back}
use Rattle.hp_flat.proofs.RowTrees.{tree_rows}
use Rattle.hp_flat.proofs.ToldTypes.{ToldBlock}
use Rattle.hp_flat.proofs.VariableNames.{kept_with, kept_block, assigned_first, outside_block}

module _ (h : Homes) (slots : List Slot) (stand : HasSlots h slots) where
  -- the variables have the types of this point
  abbrev pub Named : Scope → Type 0
  Named s = (x : List ℕ) (a : Shape) → shape_among s.vars x ≡ Some a → shape_named h.known x ≡ Some a

  -- ---- the value of a variable

  no_variable : (found : Option ℕ) (a : Shape) → width (Some a) ≡ 0 → at_variable found (Some a) ≡ []
  no_variable None a e = refl
  no_variable (Some v) a e = ap (λ (w : ℕ). map (of_variable v) (range_with_len 0 w)) e

  no_names : (x : List ℕ) (a : Shape) → shape_named h.known x ≡ Some a → width (Some a) ≡ 0 → arrays_named h.known x ≡ []
  no_names x a e none_wide = ap (λ (o : Option Shape). at_variable (variable_named h.known x) o) e ∙ no_variable (variable_named h.known x) a none_wide

  no_width : (node w : ℕ) → map (of_node node) (range_with_len 0 w) ≡ [] → w ≡ 0
  no_width node zero e = refl
  no_width node (suc w) e = absurd cc

  no_value : (e : Tree) (a : Shape) → shape_at h.known (number_of e) ≡ Some a → arrays_at h.known e ≡ [] → width (Some a) ≡ 0
  no_value e a is none_at =
      no_width (number_of e) (width (Some a)) (ap (λ (o : Option Shape). map (of_node (number_of e)) (range_with_len 0 (width o))) (sym is) ∙ none_at)

  stored : (at : Place) (x : List ℕ) (e : Tree) (us : List Unknown) → (us ≡ [] → arrays_named h.known x ≡ [])
      → Follows (rows h slots (elim us [ [] ↦ word_copy at (word_named h x) (word_of h e) | (_ ∷ _) ↦ array_copy h at (arrays_named h.known x) (arrays_at h.known e) ])) (copied (arrays_named h.known x) (arrays_at h.known e))
  unfolding word_copy renamed arrays_of
  stored at x e [] none_named =
      follows_as (ap (λ (l : List Unknown). copied l (arrays_at h.known e)) (sym (none_named refl))) (scalar_rows h slots at (what.Calc (word_named h x) calc.Max (word_of h e) (word_of h e)) refl)
  stored at x e (u ∷ us) none_named =
      copy_rows h slots at (arrays_named h.known x) (arrays_at h.known e) (named_back h slots stand x) (each h slots stand (number_of e))

  store_rows : (at : Place) (x : List ℕ) (e : Tree) (a : Shape) → shape_at h.known (number_of e) ≡ Some a → shape_named h.known x ≡ Some a
      → Follows (rows h slots (store_code h at x e)) (copied (arrays_named h.known x) (arrays_at h.known e))
  unfolding store_code
  store_rows at x e a is named = stored at x e (arrays_at h.known e) (λ none_at. no_names x a named (no_value e a is none_at))

  -- ---- outputs

  printed : (at : Place) (e : Tree) (us : List Unknown) → AllByRecursion (Back h slots) us
      → Follows (rows h slots (elim us [ [] ↦ code_of at (what.PrintWord (word_of h e) (holds_truths h e)) | (x ∷ _) ↦ code_of at (what.PrintList (slot_of h x) (holds_truths h e)) ])) (print_of us ∷ [])
  unfolding renamed arrays_of
  printed at e [] are = step_rows h slots at (what.PrintWord (word_of h e) (holds_truths h e)) PrintWord refl refl
  printed at e (u ∷ us) are = step_rows h slots at (what.PrintList (slot_of h u) (holds_truths h e)) (PrintList u) (ap PrintList are.0) refl

  print_rows : (at : Place) (e : Tree) → Follows (rows h slots (print_code h at e)) (print_of (arrays_at h.known e) ∷ [])
  unfolding print_code
  print_rows at e = printed at e (arrays_at h.known e) (each h slots stand (number_of e))

  export_rows : (at : Place) (e : Tree) → Follows (rows h slots (export_code h at e)) (Export (arrays_at h.known e) ∷ [])
  unfolding export_code renamed arrays_of
  export_rows at e =
      step_rows h slots at (what.Export (ins_of h e) (frame_at h e).names) (Export (arrays_at h.known e)) (ap Export (all_back h slots (arrays_at h.known e) (each h slots stand (number_of e)))) refl

  -- ---- branches and loops

  three_lists : (p q r : List Op) → map (row h slots) ((p ++ q) ++ r) ≡ (map (row h slots) p ++ map (row h slots) q) ++ map (row h slots) r
  three_lists p q r = map-append (row h slots) (p ++ q) r ∙ ap (λ (l : List (Arrays Unknown)). l ++ map (row h slots) r) (map-append (row h slots) p q)

  branch_rows : {ps qs rs : List (Arrays Unknown)} (w : ℕ) (p q r : Prog Op) → Follows (rows h slots p) ps → Follows (rows h slots q) qs → Follows (rows h slots r) rs
      → Follows (rows h slots (branch w p q r)) ((ps ++ qs) ++ rs)
  unfolding rows operations
  branch_rows {ps = ps} {qs = qs} {rs = rs} w p q r first second behind =
      subst (λ (l : List (Arrays Unknown)). Follows l ((ps ++ qs) ++ rs)) (sym (three_lists (operations p) (operations q) (operations r))) (follows_both (follows_both first second) behind)

  loop_rows : {ps qs rs : List (Arrays Unknown)} (w : ℕ) (p q r : Prog Op) → Follows (rows h slots p) ps → Follows (rows h slots q) qs → Follows (rows h slots r) rs
      → Follows (rows h slots (turns p w q r)) ((ps ++ qs) ++ rs)
  unfolding rows operations
  loop_rows {ps = ps} {qs = qs} {rs = rs} w p q r first second behind =
      subst (λ (l : List (Arrays Unknown)). Follows l ((ps ++ qs) ++ rs)) (sym (three_lists (operations p) (operations q) (operations r))) (follows_both (follows_both first second) behind)

  four_lists : (t b o r : List (Arrays Unknown)) → t ++ ((b ++ o) ++ r) ≡ ((t ++ b) ++ o) ++ r
  four_lists t b o r = ap (λ (l : List (Arrays Unknown)). t ++ l) (append_assoc b o r) ∙ sym (append_assoc t b (o ++ r)) ∙ sym (append_assoc (t ++ b) o r)

  stop_rows : Follows (rows h slots stop) []
  unfolding rows operations
  stop_rows = both_end

  -- ---- blocks

  -- a statement of one operation behind its expression
  assign_rows : (e : Tree) (code rest : Prog Op) (own behind : List (Arrays Unknown)) → Rows h slots stand (flat_at h e) (constructs_in h.known no_frame e) → Follows (rows h slots code) own → Rows h slots stand rest behind
      → Rows h slots stand (joined (flat_at h e) (joined code rest)) ((constructs_in h.known no_frame e ++ own) ++ behind)
  assign_rows e code rest own behind first made next =
      gives_mapped (λ r. follows_as (sym (append_assoc (constructs_in h.known no_frame e) own behind)) (follows_joined h slots (flat_at h e) (joined code rest) r.0.0 (follows_joined h slots code rest r.0.1 r.1)))
      (gives_both (gives_both first (follow h slots stand code own made)) next)

  pub block_rows : {s : Scope} {b : Block} {t : Scope} (f : FitsBlock s b t) → ToldBlock h.known f → IsOutside s → Named t → Rows h slots stand (flat_block h b) (constructs_of h.known b)
  unfolding flat_block constructs_of
  block_rows fits_done told out known = follow h slots stand stop [] stop_rows
  block_rows {s = s} (fits_first {at = at} {x = x} {e = e} {rest = rest} {a = a} p new next) told out known =
      assign_rows e (store_code h at x e) (flat_block h rest) (copied (arrays_named h.known x) (arrays_at h.known e)) (constructs_of h.known rest)
      (tree_rows h slots stand p told.0 out no_frame (none_framed h slots))
      (store_rows at x e a told.0.0 (known x a (kept_block next x a (assigned_first (shape_among s.vars x) s.vars x a (bytes_same x x refl) refl new))))
      (block_rows next told.1 out known)
  block_rows {s = s} (fits_again {at = at} {x = x} {e = e} {rest = rest} {a = a} p same next) told out known =
      assign_rows e (store_code h at x e) (flat_block h rest) (copied (arrays_named h.known x) (arrays_at h.known e)) (constructs_of h.known rest)
      (tree_rows h slots stand p told.0 out no_frame (none_framed h slots))
      (store_rows at x e a told.0.0 (known x a (kept_block next x a (kept_with (shape_among s.vars x) s.vars x a x a same))))
      (block_rows next told.1 out known)
  block_rows (fits_print {at = at} {e = e} {rest = rest} p can next) told out known =
      joined_rows h slots stand (flat_at h e) (joined (print_code h at e) (flat_block h rest)) (constructs_in h.known no_frame e) (print_of (arrays_at h.known e) ∷ constructs_of h.known rest)
      (tree_rows h slots stand p told.0 out no_frame (none_framed h slots))
      (joined_rows h slots stand (print_code h at e) (flat_block h rest) (print_of (arrays_at h.known e) ∷ []) (constructs_of h.known rest)
      (follow h slots stand (print_code h at e) (print_of (arrays_at h.known e) ∷ []) (print_rows at e)) (block_rows next told.1 out known))
  block_rows (fits_export {at = at} {d = e} {rest = rest} p next) told out known =
      joined_rows h slots stand (flat_at h e) (joined (export_code h at e) (flat_block h rest)) (constructs_in h.known no_frame e) (Export (arrays_at h.known e) ∷ constructs_of h.known rest)
      (tree_rows h slots stand p told.0 out no_frame (none_framed h slots))
      (joined_rows h slots stand (export_code h at e) (flat_block h rest) (Export (arrays_at h.known e) ∷ []) (constructs_of h.known rest)
      (follow h slots stand (export_code h at e) (Export (arrays_at h.known e) ∷ []) (export_rows at e)) (block_rows next told.1 out known))
  block_rows (fits_if {first = first} {second = second} {c = c} {body = body} {other = other} {rest = rest} p taken passed next) told out known =
      let test = constructs_in h.known no_frame c in
      gives_mapped (λ r. follows_as (four_lists test (constructs_of h.known body) (constructs_of h.known other) (constructs_of h.known rest))
      (follows_joined h slots (flat_at h c) (branch (word_of h c) (flat_block h body) (flat_block h other) (flat_block h rest)) r.0.0.0
      (branch_rows (word_of h c) (flat_block h body) (flat_block h other) (flat_block h rest) r.0.0.1 r.0.1 r.1)))
      (gives_both (gives_both (gives_both (tree_rows h slots stand p told.0 out no_frame (none_framed h slots))
      (block_rows taken told.1 out (λ x a e. known x a (kept_block next x a (kept_block passed x a e)))))
      (block_rows passed told.2 (outside_block taken out) (λ x a e. known x a (kept_block next x a e))))
      (block_rows next told.3 (outside_block passed (outside_block taken out)) known))
  block_rows (fits_while {c = c} {body = body} {rest = rest} p turn next) told out known =
      gives_mapped (λ r. loop_rows (word_of h c) (flat_at h c) (flat_block h body) (flat_block h rest) r.0.0 r.0.1 r.1)
      (gives_both (gives_both (tree_rows h slots stand p told.0 out no_frame (none_framed h slots)) (block_rows turn told.1 out (λ x a e. known x a (kept_block next x a e))))
      (block_rows next told.2 (outside_block turn out) known))
