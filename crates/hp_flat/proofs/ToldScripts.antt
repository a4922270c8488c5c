-- What is told of the expressions of a script in which no rule breaks: each has its type at its number.
use Rattle.std.proofs.Common.{◌≡◌, ℕ, suc, ◌+◌, List, [], ◌∷◌, ◌++◌, length, Option, None, refl, sym, ap, ap₂, subst, ◌∙◌, append_assoc, append-nil, arith}
use Rattle.std.specs.Prelude.{slice_index_or}
use Rattle.std.specs.List.{AllZip, range_with_len}
use Rattle.hp_script.specs.declared.typed.Shape.{Shape}
use Rattle.hp_script.specs.declared.typed.Typed.{Typed}
use Rattle.hp_script.specs.Checked.{Checked, start_of, second_branch, behind_branches, behind_loop, after, entries_in}
use Rattle.hp_script.specs.Fitting.{FitsBlock, fits_done, fits_first, fits_again, fits_print, fits_export, fits_if, fits_while}
use Rattle.hp_script.specs.Mirror.{Block, block_of}
use Rattle.hp_script.specs.Nodes.{nodes_of}
use Rattle.hp_script.specs.Scope.{Scope, after_assignment}
use Rattle.hp_script.proofs.BlockComplete.{block_passes}
use Rattle.hp_script.proofs.Completeness.{complete}
use Rattle.hp_air.specs.Unknowns.{Known, known_of}
use Rattle.hp_flat.specs.FlatLaws.{AreTold}
use Rattle.hp_flat.proofs.Fronts.{AreAt, Gives, gives_nothing, gives_both, gives_as, gives_mapped}
use Rattle.hp_flat.proofs.ToldTrees.{tells}
use Rattle.hp_flat.proofs.ToldTypes.{ToldBlock}

-- ---- statements

pub tells_block : (g : Known) {s : Scope} {b : Block} {t : Scope} (f : FitsBlock s b t) → Gives (AreAt g) (ToldBlock g f) (nodes_of b) (entries_in s b)
unfolding nodes_of entries_in
tells_block g fits_done = gives_nothing
tells_block g {s = s} (fits_first {x = x} {rest = rest} p new next) =
    gives_both (tells g p) (gives_as (ap (λ (o : Option Shape). entries_in (after_assignment s x o) rest) (sym (complete p).shape)) (tells_block g next))
tells_block g {s = s} (fits_again {x = x} {rest = rest} p new next) =
    gives_both (tells g p) (gives_as (ap (λ (o : Option Shape). entries_in (after_assignment s x o) rest) (sym (complete p).shape)) (tells_block g next))
tells_block g (fits_print p can next) = gives_both (tells g p) (tells_block g next)
tells_block g (fits_export p next) = gives_both (tells g p) (tells_block g next)
tells_block g {s = s} (fits_if {first = first} {second = second} {body = body} {other = other} {rest = rest} p taken passed next) =
    let first_is : first ≡ after s body = (block_passes taken).behind in
    let second_is : second ≡ after (second_branch s (after s body)) other = (block_passes passed).behind ∙ ap (λ (k : Scope). after (second_branch s k) other) first_is in
    gives_mapped (λ r. (r.0.0.0, r.0.0.1, r.0.1, r.1))
    (gives_both (gives_both (gives_both (tells g p) (tells_block g taken))
    (gives_as (ap (λ (k : Scope). entries_in (second_branch s k) other) first_is) (tells_block g passed)))
    (gives_as (ap₂ (λ (k m : Scope). entries_in (behind_branches k m) rest) first_is second_is) (tells_block g next)))
tells_block g {s = s} (fits_while {turn = turn} {body = body} {rest = rest} p taken next) =
    gives_mapped (λ r. (r.0.0, r.0.1, r.1))
    (gives_both (gives_both (tells g p) (tells_block g taken))
    (gives_as (ap (λ (k : Scope). entries_in (behind_loop s k) rest) (block_passes taken).behind) (tells_block g next)))

-- ---- scripts

-- each of the types is at its place
at_places : (before shapes : List (Option Shape)) → AllZip (λ (k : ℕ) (e : Option Shape). slice_index_or (before ++ shapes) k None ≡ e) (range_with_len (length before) (length shapes)) shapes
at_places before [] = tt
at_places before (e ∷ shapes) = (found before e shapes, shifted before e shapes (at_places (before ++ e ∷ []) shapes))
  where
    found : (before : List (Option Shape)) (e : Option Shape) (shapes : List (Option Shape)) → slice_index_or (before ++ e ∷ shapes) (length before) None ≡ e
    found [] e shapes = refl
    found (b ∷ before) e shapes = found before e shapes

    longer : (before : List (Option Shape)) (e : Option Shape) → length (before ++ e ∷ []) ≡ length before + 1
    longer [] e = refl
    longer (b ∷ before) e = ap suc (longer before e) ∙ omega arith

    shifted : (before : List (Option Shape)) (e : Option Shape) (shapes : List (Option Shape))
        → AllZip (λ (k : ℕ) (f : Option Shape). slice_index_or ((before ++ e ∷ []) ++ shapes) k None ≡ f) (range_with_len (length (before ++ e ∷ [])) (length shapes)) shapes
        → AllZip (λ (k : ℕ) (f : Option Shape). slice_index_or (before ++ e ∷ shapes) k None ≡ f) (range_with_len (length before + 1) (length shapes)) shapes
    shifted before e shapes all =
        subst (λ (n : ℕ). AllZip (λ (k : ℕ) (f : Option Shape). slice_index_or (before ++ e ∷ shapes) k None ≡ f) (range_with_len n (length shapes)) shapes) (longer before e)
        (subst (λ (l : List (Option Shape)). AllZip (λ (k : ℕ) (f : Option Shape). slice_index_or l k None ≡ f) (range_with_len (length (before ++ e ∷ [])) (length shapes)) shapes) (append_assoc before (e ∷ []) shapes) all)

pub are_told : AreTold
are_told typed checked =
    subst (λ (l : List (Option Shape)). AreAt (known_of typed) (nodes_of (block_of typed.script.body)) l) checked.shapes
    (subst (λ (ns : List ℕ). AreAt (known_of typed) ns typed.shapes) (sym typed.script.numbered)
    (subst (λ (n : ℕ). AreAt (known_of typed) (range_with_len 0 n) typed.shapes) typed.one_each (at_places [] typed.shapes)))

-- of the rows by which the script fits
pub told_script : (typed : Typed) → Checked typed → (behind : Scope) (fits : FitsBlock (start_of (block_of typed.script.body)) (block_of typed.script.body) behind) → ToldBlock (known_of typed) fits
told_script typed checked behind fits =
    let body = block_of typed.script.body in
    let all : AreAt (known_of typed) (nodes_of body) (entries_in (start_of body) body) = are_told typed checked in
    let ended = subst (λ (ns : List ℕ). AreAt (known_of typed) ns (entries_in (start_of body) body ++ [])) (sym (append-nil (nodes_of body)))
    (subst (λ (l : List (Option Shape)). AreAt (known_of typed) (nodes_of body) l) (sym (append-nil (entries_in (start_of body) body))) all) in
    ((tells_block (known_of typed) fits).take [] [] ended).0
