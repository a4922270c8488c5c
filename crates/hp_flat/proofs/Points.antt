-- What is known at a point of a script that fits: no lambda is around, its variables have the types of the whole script,
-- frames are proper, and the frame that is filtered around has the columns that it is said to have.
use Rattle.std.proofs.Common.{◌≡◌, ℕ, false, codes, bytes_eq, if◌then◌else◌, List, Some, None, refl, sym, ap, ◌∙◌}
use Rattle.hp_word.specs.declared.name.Name.{Name}
use Rattle.hp_script.specs.declared.typed.Shape.{Shape}
use Rattle.hp_script.specs.declared.typed.Typed.{Typed}
use Rattle.hp_script.specs.declared.typed.Var.{Var}
use Rattle.hp_script.specs.Checked.{start_of}
use Rattle.hp_script.specs.Fitting.{FitsBlock, fits_done, fits_first, fits_again, fits_print, fits_export, fits_if, fits_while}
use Rattle.hp_script.specs.Mirror.{Args, Block, block_of}
use Rattle.hp_script.specs.Scope.{Scope, with_columns, shape_among}
use Rattle.hp_script.specs.Shaped.{IsOutside}
use Rattle.hp_air.specs.Unknowns.{Known, Columns, filtered_frame, frame_around, no_frame, known_of, shape_named}
use Rattle.hp_flat.proofs.FrameTypes.{AreProper, IsProper, proper_block}
use Rattle.hp_flat.proofs.VariableNames.{kept_block, named_among}

pub record AtPoint (g : Known) (s : Scope) (around : Columns) : Type 0 where
  pub out : IsOutside s
  pub named : (x : List ℕ) (a : Shape) → shape_among s.vars x ≡ Some a → shape_named g x ≡ Some a
  pub proper : AreProper s
  pub sees : (columns : List Name) → s.around ≡ Some columns → around.names ≡ columns

-- in the mask of a filter
pub in_mask : {g : Known} {s : Scope} {around : Columns} → AtPoint g s around → (columns : List Name) (inner : Columns) → inner.names ≡ columns → AtPoint g (with_columns s (Some columns)) inner
in_mask p columns inner same = record { out = p.out; named = p.named; proper = p.proper; sees = λ others e. let is : columns ≡ others = cc in same ∙ is }

-- in the arguments of another call
pub same_around : (g : Known) (f : List ℕ) (xs : Args) (around : Columns) → bytes_eq f (codes "filter") ≡ false → around ≡ frame_around g f xs around
same_around g f xs around other = sym (ap (λ b. if b then filtered_frame g xs else around) other)

-- ---- statements

-- what is said of the variables at a point is so of the whole script
abbrev pub KnownAt : Known → Scope → Type 0
KnownAt g t = (x : List ℕ) (a : Shape) → shape_among t.vars x ≡ Some a → (shape_named g x ≡ Some a) × IsProper a

-- and so before a block
pub known_before : (g : Known) {s : Scope} {b : Block} {t : Scope} → FitsBlock s b t → KnownAt g t → KnownAt g s
known_before g f known x a e = known x a (kept_block f x a e)

pub none_some : {A B : Type 0} (x : A) → None ≡ Some x → B
none_some x e = absurd cc

pub at_statement : {g : Known} {s : Scope} {b : Block} {t : Scope} → FitsBlock s b t → IsOutside s → s.around ≡ None → KnownAt g t → AtPoint g s no_frame
at_statement f out alone known = record {
  out = out;
  named = λ x a e. (known x a (kept_block f x a e)).0;
  proper = λ x a e. (known x a (kept_block f x a e)).1;
  sees = λ columns e. none_some columns (sym alone ∙ e);
}

-- no statement stands in the mask of a filter
pub alone_block : {s : Scope} {b : Block} {t : Scope} → FitsBlock s b t → s.around ≡ None → t.around ≡ None
alone_block fits_done alone = alone
alone_block (fits_first p new next) alone = alone_block next alone
alone_block (fits_again p same next) alone = alone_block next alone
alone_block (fits_print p can next) alone = alone_block next alone
alone_block (fits_export p next) alone = alone_block next alone
alone_block (fits_if p taken passed next) alone = alone_block next (alone_block passed (alone_block taken alone))
alone_block (fits_while p turn next) alone = alone_block next (alone_block turn alone)

-- the variables at the end of a script are those of the script
pub known_script : (typed : Typed) (behind : Scope) → typed.vars ≡ behind.vars → FitsBlock (start_of (block_of typed.script.body)) (block_of typed.script.body) behind → KnownAt (known_of typed) behind
known_script typed behind vars fits x a e = (
  named_among typed.vars typed.shapes x ∙ ap (λ (vs : List Var). shape_among vs x) vars ∙ e,
  proper_block fits refl (λ y b none. none_named b none) x a e,
)
  where
    none_named : (b : Shape) → None ≡ Some b → IsProper b
    none_named b none = absurd cc
