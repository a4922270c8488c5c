-- In a script in which no rule breaks, what has a value has a type, and frames have not too many columns.
use Rattle.std.proofs.Common.{◌≡◌, ℕ, Bool, true, false, ◌||◌, cond, bytes_eq, List, [], ◌∷◌, ◌++◌, length, map, Option, Some, None, is_some, IsTrue, IsSome, refl, sym, ap, subst, ◌∙◌}
use Rattle.std.specs.List.{list_all}
use Rattle.std.proofs.lemmas.List.{length-map}
use Rattle.std.proofs.lemmas.List.FromFn.{length-range_with_len}
use Rattle.std.proofs.lemmas.List.Folds.{list_all-append}
use Rattle.hp_script.specs.declared.tree.Script.{Script}
use Rattle.hp_script.specs.declared.typed.Shape.{Shape}
use Rattle.hp_script.specs.declared.typed.Var.{Var}
use Rattle.hp_script.specs.Checked.{second_branch, behind_branches, behind_loop, after, break_in, entries_in, start_of, first_break}
use Rattle.hp_script.specs.Mirror.{Block, done, assign, print, export, choose, loop, block_of}
use Rattle.hp_script.specs.Nodes.{nodes_of}
use Rattle.hp_script.specs.Scope.{Scope, has, is_set, shape_among, variables_with, after_assignment}
use Rattle.hp_script.specs.Shapes.{is_narrow, is_narrow_entry}
use Rattle.hp_script.specs.Trees.{named}
use Rattle.hp_script.specs.Valued.{values_of}
use Rattle.hp_script.specs.Walk.{shape_of}
use Rattle.std.proofs.lemmas.Slice.Eq.{bytes_eq-Decides}
use Rattle.hp_script.proofs.Shaped.{outside, Sound, shaped}
use Rattle.hp_script.proofs.Fits.{Fits, fits_nothing, fits_append}
use Rattle.hp_script.proofs.FittingTrees.{tree_fits}
use Rattle.hp_script.proofs.ValuedLemmas.{values_many}
use Rattle.hp_script.proofs.TestLemmas.{and_left, and_right, or_left, or_right, and_both}

-- ---- variables

-- a name is found among more variables where it was among the first
found_step : (same : Bool) (kind : Shape) (first all : Option Shape) → (IsSome first → IsSome all) → IsSome (cond same (Some kind) first) → IsSome (cond same (Some kind) all)
found_step true kind first all next h = refl
found_step false kind first all next h = next h

found_before : (vars more : List Var) (x : List ℕ) → IsSome (shape_among vars x) → IsSome (shape_among (vars ++ more) x)
found_before [] more x h = absurd cc
found_before (var ∷ vars) more x h = found_step (bytes_eq x var.name.bytes) var.shape (shape_among vars x) (shape_among (vars ++ more) x) (found_before vars more x) h

found_with : (first : Option Shape) (vars : List Var) (x y : List ℕ) (kind : Shape) → IsSome (shape_among vars y) → IsSome (shape_among (variables_with first vars x kind) y)
found_with (Some first) vars x y kind h = h
found_with None vars x y kind h = found_before vars _ y h

-- the last of the variables is found
last_step : (same : Bool) (kind : Shape) (all : Option Shape) → IsSome all → IsSome (cond same (Some kind) all)
last_step true kind all h = refl
last_step false kind all h = h

found_last : (vars : List Var) (x y : List ℕ) (kind : Shape) → bytes_eq y x ≡ true → IsSome (shape_among (vars ++ record { name = named x; shape = kind } ∷ []) y)
found_last [] x y kind e = last_only (bytes_eq y x) kind e
  where
    last_only : (same : Bool) (kind : Shape) → same ≡ true → IsSome (cond same (Some kind) None)
    last_only true kind e = refl
    last_only false kind e = absurd cc
found_last (var ∷ vars) x y kind e = last_step (bytes_eq y var.name.bytes) var.shape _ (found_last vars x y kind e)

same_found : (vars : List Var) (x y : List ℕ) → bytes_eq y x ≡ true → IsSome (shape_among vars x) → IsSome (shape_among vars y)
same_found vars x y e h = subst (λ z. IsSome (shape_among vars z)) (sym ((bytes_eq-Decides y x).0 e)) h

-- a name that is assigned is found
found_assigned : (first : Option Shape) (vars : List Var) (x y : List ℕ) (kind : Shape) → shape_among vars x ≡ first → bytes_eq y x ≡ true → IsSome (shape_among (variables_with first vars x kind) y)
found_assigned (Some first) vars x y kind e same = same_found vars x y same (ap is_some e)
found_assigned None vars x y kind e same = found_last vars x y kind same

narrow_with : (first : Option Shape) (vars : List Var) (x : List ℕ) (kind : Shape) → IsTrue (is_narrow kind) → IsTrue (list_all (λ var. is_narrow var.shape) vars)
    → IsTrue (list_all (λ var. is_narrow var.shape) (variables_with first vars x kind))
narrow_with (Some first) vars x kind n h = h
narrow_with None vars x kind n h = list_all-append (λ (var : Var). is_narrow var.shape) vars _ ∙ and_both _ _ h (and_both (is_narrow kind) true n refl)

-- ---- ways

-- what is set behind an assignment of another name was set before it
pub set_before : (ways : List (List (List ℕ))) (x y : List ℕ) → bytes_eq y x ≡ false → is_set (map (λ way. x ∷ way) ways) y ≡ true → is_set ways y ≡ true
set_before [] x y other h = refl
set_before (way ∷ ways) x y other h =
    let first = other_way (bytes_eq y x) (has y way) other (and_left (bytes_eq y x || has y way) _ h) in
    and_both _ _ first (set_before ways x y other (and_right (bytes_eq y x || has y way) _ h))
  where
    other_way : (same one : Bool) → same ≡ false → (same || one) ≡ true → one ≡ true
    other_way true one e h = absurd cc
    other_way false one e h = h

-- ---- scopes

assigned_known : (s : Scope) (x y : List ℕ) (kind : Shape) (same : Bool) → Sound s None → bytes_eq y x ≡ same → is_set (map (λ way. x ∷ way) s.ways) y ≡ true
    → IsSome (shape_among (variables_with (shape_among s.vars x) s.vars x kind) y)
assigned_known s x y kind true sound e h = found_assigned (shape_among s.vars x) s.vars x y kind refl e
assigned_known s x y kind false sound e h = found_with (shape_among s.vars x) s.vars x y kind (sound.known y (set_before s.ways x y e h))

pub assigned_sound : (s : Scope) (x : List ℕ) (found : Option Shape) → Sound s None → IsTrue (is_narrow_entry found) → Sound (after_assignment s x found) None
assigned_sound s x None sound n = sound
assigned_sound s x (Some kind) sound n = record {
  known = λ y h. assigned_known s x y kind (bytes_eq y x) sound refl h;
  narrow = narrow_with (shape_among s.vars x) s.vars x kind n sound.narrow;
  stands = sound.stands;
}

assigned_found : (s : Scope) (x y : List ℕ) (found : Option Shape) → IsSome (shape_among s.vars y) → IsSome (shape_among (after_assignment s x found).vars y)
assigned_found s x y None h = h
assigned_found s x y (Some kind) h = found_with (shape_among s.vars x) s.vars x y kind h

-- a variable stays one
found_after : (s : Scope) (b : Block) (y : List ℕ) → IsSome (shape_among s.vars y) → IsSome (shape_among (after s b).vars y)
unfolding after
found_after s done y h = h
found_after s (assign at x e rest) y h = found_after (after_assignment s x (shape_of s e)) rest y (assigned_found s x y (shape_of s e) h)
found_after s (print at e rest) y h = found_after s rest y h
found_after s (export at e rest) y h = found_after s rest y h
found_after s (choose at test body other rest) y h =
    found_after (behind_branches (after s body) (after (second_branch s (after s body)) other)) rest y
    (found_after (second_branch s (after s body)) other y (found_after s body y h))
found_after s (loop at test body rest) y h = found_after (behind_loop s (after s body)) rest y (found_after s body y h)

pub second_sound : (s : Scope) (body : Block) → Sound s None → Sound (after s body) None → Sound (second_branch s (after s body)) None
second_sound s body before first = record { known = λ y h. found_after s body y (before.known y h); narrow = first.narrow; stands = first.stands }

-- what each of more ways sets, each of the later ones sets
set_later : (first second : List (List (List ℕ))) (y : List ℕ) → is_set (first ++ second) y ≡ true → is_set second y ≡ true
set_later first second y h =
    and_right (is_set first y) (is_set second y) (sym (list_all-append (λ (way : List (List ℕ)). has y way) first second) ∙ h)

pub branches_sound : (first second : Scope) → Sound second None → Sound (behind_branches first second) None
branches_sound first second sound = record { known = λ y h. sound.known y (set_later first.ways second.ways y h); narrow = sound.narrow; stands = sound.stands }

pub loop_sound : (before body : Scope) → Sound body None → Sound (behind_loop before body) None
loop_sound before body sound = record { known = λ y h. sound.known y (set_later before.ways body.ways y h); narrow = sound.narrow; stands = sound.stands }

pub start_sound : (body : Block) → Sound (start_of body) None
start_sound body = record { known = λ y h. absurd cc; narrow = refl; stands = outside }

-- ---- blocks

-- a block of which the tests pass
pub record Passed (s : Scope) (b : Block) : Type 0 where
  pub fits : Fits (entries_in s b) (values_of b)
  pub sound : Sound (after s b) None

pub passes_on : (s : Scope) (b : Block) → Sound s None → break_in s b ≡ None → Passed s b
unfolding break_in after entries_in values_of
passes_on s done sound h = record { fits = fits_nothing; sound = sound }
passes_on s (assign at x e rest) sound h =
    let shape = shaped s None e sound (or_left _ _ h) in
    let next = passes_on (after_assignment s x (shape_of s e)) rest (assigned_sound s x (shape_of s e) sound shape.narrow) (or_right _ _ (or_right _ _ h)) in
    record { fits = fits_append (tree_fits s None e sound (or_left _ _ h)) next.fits; sound = next.sound }
passes_on s (print at e rest) sound h =
    let next = passes_on s rest sound (or_right _ _ (or_right _ _ h)) in
    record { fits = fits_append (tree_fits s None e sound (or_left _ _ h)) next.fits; sound = next.sound }
passes_on s (export at e rest) sound h =
    let next = passes_on s rest sound (or_right _ _ (or_right _ _ h)) in
    record { fits = fits_append (tree_fits s None e sound (or_left _ _ h)) next.fits; sound = next.sound }
passes_on s (choose at test body other rest) sound h =
    let inner = or_right _ _ (or_right _ _ h) in
    let first = passes_on s body sound (or_left _ _ inner) in
    let second = passes_on (second_branch s (after s body)) other (second_sound s body sound first.sound) (or_left _ _ (or_right _ _ inner)) in
    let next = passes_on (behind_branches (after s body) (after (second_branch s (after s body)) other)) rest (branches_sound (after s body) (after (second_branch s (after s body)) other) second.sound) (or_right _ _ (or_right _ _ inner)) in
    record { fits = fits_append (fits_append (fits_append (tree_fits s None test sound (or_left _ _ h)) first.fits) second.fits) next.fits; sound = next.sound }
passes_on s (loop at test body rest) sound h =
    let inner = or_right _ _ (or_right _ _ h) in
    let first = passes_on s body sound (or_left _ _ inner) in
    let next = passes_on (behind_loop s (after s body)) rest (loop_sound s (after s body) first.sound) (or_right _ _ inner) in
    record { fits = fits_append (fits_append (tree_fits s None test sound (or_left _ _ h)) first.fits) next.fits; sound = next.sound }

script_passes : (body : Block) → first_break body ≡ None → Passed (start_of body) body
unfolding first_break
script_passes body h = passes_on (start_of body) body (start_sound body) h

-- ---- scripts

-- the parts that have a type are those that have a value
pub entries_valued : (body : Block) → first_break body ≡ None → map is_some (entries_in (start_of body) body) ≡ values_of body
entries_valued body h = (script_passes body h).fits.valued

pub entries_narrow : (body : Block) → first_break body ≡ None → IsTrue (list_all is_narrow_entry (entries_in (start_of body) body))
entries_narrow body h = (script_passes body h).fits.narrow

pub vars_narrow : (body : Block) → first_break body ≡ None → IsTrue (list_all (λ var. is_narrow var.shape) (after (start_of body) body).vars)
vars_narrow body h = (script_passes body h).sound.narrow

pub entries_many : (body : Block) → first_break body ≡ None → length (entries_in (start_of body) body) ≡ length (nodes_of body)
entries_many body h =
    sym (length-map (entries_in (start_of body) body) is_some) ∙ ap length (entries_valued body h) ∙ values_many body

-- ---- what is said of a script in which no rule breaks

module _ (script : Script) (fits : first_break (block_of script.body) ≡ None) where
  pub one_each : (shapes : List (Option Shape)) → shapes ≡ entries_in (start_of (block_of script.body)) (block_of script.body) → length shapes ≡ script.nodes
  one_each shapes e = ap length e ∙ entries_many (block_of script.body) fits ∙ ap length script.numbered ∙ length-range_with_len 0 script.nodes

  pub valued : (shapes : List (Option Shape)) → shapes ≡ entries_in (start_of (block_of script.body)) (block_of script.body) → map is_some shapes ≡ values_of (block_of script.body)
  valued shapes e = ap (map is_some) e ∙ entries_valued (block_of script.body) fits

  pub narrow_vars : (vars : List Var) → vars ≡ (after (start_of (block_of script.body)) (block_of script.body)).vars → IsTrue (list_all (λ var. is_narrow var.shape) vars)
  narrow_vars vars e = ap (list_all (λ (var : Var). is_narrow var.shape)) e ∙ vars_narrow (block_of script.body) fits

  pub narrow_shapes : (shapes : List (Option Shape)) → shapes ≡ entries_in (start_of (block_of script.body)) (block_of script.body) → IsTrue (list_all is_narrow_entry shapes)
  narrow_shapes shapes e = ap (list_all is_narrow_entry) e ∙ entries_narrow (block_of script.body) fits
