-- What becomes of a program of the array IR: maps, reductions and stencils become loops, and all else stays.
use Rattle.std.specs.Prelude.{◌≡◌, ℕ, List, [], ◌∷◌, slice_index_or}
use Rattle.hp_word.specs.declared.elem.Elem.{Elem}
use Rattle.hp_word.specs.declared.fold.FoldKind.{FoldKind}
use Rattle.hp_word.specs.declared.place.Place.{Place}
use Rattle.hp_program.specs.Programs.{Prog, stop, plain}
use Rattle.hp_air.specs.declared.what.Op.{Op}
use Rattle.hp_air.specs.declared.what.What.{What}
use Rattle.hp_air.specs.declared.what.What.TheVariants as what
use Rattle.hp_air.specs.Wholes.{Env}
use Rattle.hp_parfor.specs.declared.parfor.Parfor.{Parfor}
use Rattle.hp_parfor.specs.Parts.{Part, Does, Loops}

-- a map: a loop over the places of its first in
abbrev pub map_loop : Place → (out : ℕ) (ins : List ℕ) → Elem → Parfor
map_loop at out ins elem =
    record { leader = slice_index_or ins 0 0; inputs = ins; halos = []; lets = elem ∷ []; outs = record { array = out; value = 0 } ∷ []; folds = []; at = at }

-- a reduction: a loop over the places of its array
abbrev pub reduce_loop : Place → (to : ℕ) → FoldKind → (array : ℕ) → Elem → Parfor
reduce_loop at to kind array elem =
    record { leader = array; inputs = array ∷ []; halos = []; lets = elem ∷ []; outs = []; folds = record { word = to; kind = kind; value = 0 } ∷ []; at = at }

-- a stencil, behind the copy to its balanced copy: a loop over and round the places of that
abbrev pub stencil_loop : Place → (out balanced reach : ℕ) → Elem → Parfor
stencil_loop at out balanced reach elem =
    record { leader = balanced; inputs = []; halos = record { array = balanced; reach = reach } ∷ []; lets = elem ∷ []; outs = record { array = out; value = 0 } ∷ []; folds = []; at = at }

-- the copy of an array to its balanced copy
abbrev pub dealt_copy : Place → (array balanced : ℕ) → Op
dealt_copy at array balanced = record { at = at; what = what.Copy (balanced ∷ []) (array ∷ []) }

-- the steps that stand for an operation at a place
unfoldable pub built_at : Place → What → Prog Part
built_at at (what.Map out ins elem) = plain (Loops (map_loop at out ins elem)) stop
built_at at (what.Reduce to kind array elem) = plain (Loops (reduce_loop at to kind array elem)) stop
built_at at (what.Stencil out array balanced reach elem) =
    plain (Does (dealt_copy at array balanced)) (plain (Loops (stencil_loop at out balanced reach elem)) stop)
built_at at op = plain (Does (record { at = at; what = op })) stop

abbrev pub built : Op → Prog Part
built op = built_at op.at op.what

-- At a trap, words and what the orders of rows hang on are the same; an array may differ, since the balanced copy of a
-- stencil that traps is made before its loop.
pub record IsSameAtTrap (e f : Env) : Type 0 where
  pub words : e.words ≡ f.words
  pub executed : e.executed ≡ f.executed
  pub bad : e.bad ≡ f.bad
