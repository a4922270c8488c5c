-- Moves of ranges: what each rank gets of an array, and what the ranks stand for then.
use Rattle.std.specs.Prelude.{ℕ, ◌+◌, ◌*◌, ◌==◌, ◌≤◌, ◌≡◌, if◌then◌else◌, ◌-◌, All, List, [], ◌∷◌, length, map, slice_index_or, Result, Ok}
use Rattle.std.specs.List.{AllZip}
use Rattle.hp_word.specs.declared.place.Trap.{Trap}
use Rattle.hp_word.specs.declared.table.Tables.{Tables}
use Rattle.hp_cuts.specs.declared.cuts.Span.{Span}
use Rattle.hp_lattice.specs.declared.dist.Dist.{Dist}
use Rattle.hp_spmd.specs.declared.code.Code.{Code}
use Rattle.hp_spmd.specs.declared.instr.Instr.{Instr}
use Rattle.hp_spmd.specs.declared.instr.Need.{Need}
use Rattle.hp_spmd.specs.declared.store.Piece.{Piece}
use Rattle.hp_spmd.specs.declared.store.Store.{Store}
use Rattle.hp_spmd.specs.Kinds.{Kind}
use Rattle.hp_spmd.specs.Layout.{Env, Whole}
use Rattle.hp_spmd.specs.Lockstep.{State, position_of}
use Rattle.hp_spmd.specs.Needs.{need_cuts, need_span}
use Rattle.hp_spmd.specs.Scalars.{greatest_count, piece_length}
use Rattle.hp_spmd.specs.Store.{dist_at, kept, piece_at}
use Rattle.hp_snippet.specs.Holds.{IsCut}
use Rattle.hp_snippet.specs.Outcomes.{After, Does}
use Rattle.hp_snippet.specs.Promises.{IsSound, Slots, StandBefore, StandBehind, price_of}

-- ---- what the ranks stand for

-- what stands at these numbers becomes these items, one for one; a number for which there is none keeps what it has
abbrev pub changed : {X : Type 0} → List ℕ → List X → (ℕ → X) → ℕ → X
changed [] items f = f
changed (t ∷ to) [] f = f
changed (t ∷ to) (x ∷ items) f = changed to items (λ k. if k == t then x else f k)

-- these arrays stand for other wholes
abbrev pub with_wholes : List ℕ → List Whole → Env → Env
with_wholes to wholes env = record env { arrays = changed to wholes env.arrays }

-- what is after an operation that writes nothing
abbrev pub silently : Env → Result (After Env) Trap
silently env = Ok (record { env = env; text = [] })

-- Arrays stand for what others stood for, one for one.
abbrev pub copied : (to from : List ℕ) → List Store → Env → Result (After Env) Trap
copied to from ranks env = silently (with_wholes to (map env.arrays from) env)

-- arrays alone are written
abbrev pub arrays_alone : List ℕ → Slots
arrays_alone to = record { words = []; arrays = to; loose = [] }

-- ---- what a rank gets

-- a range of the columns of a whole, as a piece that is cut so
abbrev pub range_of : Whole → (cuts : List ℕ) → Span → Piece
range_of whole cuts range = record { rows = whole.rows; cuts = cuts; cells = kept (whole.rows * range.from) (whole.rows * range.until) 0 whole.cells }

-- exactly what a rank needs of an array, with the cuts of the need
abbrev pub needed : Need → List Dist → Env → Store → (array : ℕ) → Piece
needed need dists env x array =
    let len = piece_length (piece_at x.arrays array) in
    range_of (env.arrays array) (need_cuts need x.arrays len x.ranks) (need_span need dists x.arrays x.number len x.ranks)

-- a rank has, in each array of the first list, exactly what it needed of the one of the second that stands in its place
abbrev pub HasGot : (to from : List ℕ) → Need → Code → Env → (before after : Store) → Type 0
HasGot to from need code env x y = AllZip (λ t f. piece_at y.arrays t ≡ needed need code.arrays env x f) to from

-- ---- what a move needs

-- how many columns a whole array has, as each piece of it tells: the last cut
abbrev pub columns_of : Piece → ℕ
columns_of p = slice_index_or p.cuts (length p.cuts - 1) 0

-- the array lies in pieces, and is no longer than counts go
pub record IsMovable (code : Code) (ranks : List Store) (array : ℕ) : Type 0 where
  pub cut : IsCut (dist_at code.arrays array)
  pub short : All (λ x. columns_of (piece_at x.arrays array) ≤ greatest_count) ranks

-- ---- what is promised

-- The instructions perform an operation, and each rank has then what `Gets` says of it before and after.
abbrev pub Moves : (Gets : Code → Env → (before after : Store) → Type 0) → (Needs : Code → List Store → Env → Type 0) → (operation : List Store → Env → Result (After Env) Trap) → (written : Slots) → List Instr → Type 0
Moves Gets Needs operation written list =
    (code : Code) (tables : Tables) (price : Kind → ℕ) (s : State) (env : Env) → StandBefore code list s env → Needs code s.ranks env
    → Does code tables price (IsSound code tables (length s.ranks) (position_of s.ranks + length list)) (λ t. Unit {0}) Env (λ t after. StandBehind code written s.ranks t after × AllZip (Gets code env) s.ranks t.ranks)
    (length list) (price_of price list) (position_of s.ranks + length list) s (operation s.ranks env)
