-- What loops and programs with loops mean, over whole arrays, and how much work they are.
use Rattle.std.specs.Prelude.{◌≡◌, ℕ, ◌+◌, ◌==◌, ℤ, pos, Bool, true, false, not, ◌&&◌, if◌then◌else◌, List, [], ◌∷◌, map, length, count_by, Result, Ok, Err, IsTrue, refl}
use Rattle.std.specs.List.{list_any, list_all}
use Rattle.hp_word.specs.declared.fold.FoldKind.{FoldKind}
use Rattle.hp_word.specs.declared.fold.FoldKind.TheVariants as folds
use Rattle.hp_word.specs.declared.order.Order.{Order}
use Rattle.hp_word.specs.declared.place.Place.{Place}
use Rattle.hp_word.specs.declared.place.Trap.{Trap}
use Rattle.hp_word.specs.declared.place.TrapKind.TheVariants.{Mismatch, Empty}
use Rattle.hp_word.specs.declared.table.Table.{Table}
use Rattle.hp_word.specs.Folds.{fold_of}
use Rattle.hp_word.specs.Lengths.{trap}
use Rattle.hp_word.specs.LoopRules.{and_then, column_of}
use Rattle.hp_word.specs.Runs.{Ran}
use Rattle.hp_lattice.specs.declared.dist.Dist.{Dist}
use Rattle.hp_lattice.specs.declared.dist.Dist.TheVariants.{Rep, Var, Block}
use Rattle.hp_spmd.specs.declared.instr.Folding.{Folding}
use Rattle.hp_spmd.specs.declared.instr.Out.{Out}
use Rattle.hp_program.specs.Programs.{Prog, Effect, Doing, operations, run, start}
use Rattle.hp_air.specs.declared.slot.Slot.{Slot}
use Rattle.hp_air.specs.Wholes.{Vector, cells, Env, unset, changed_all, with_slots, lists_at}
use Rattle.hp_air.specs.Meaning.{silent, looped, does, units, work_of, serves}
use Rattle.hp_air.specs.Placed.{dist_at}
use Rattle.hp_parfor.specs.declared.parfor.Halo.{Halo}
use Rattle.hp_parfor.specs.declared.parfor.Parfor.{Parfor}
use Rattle.hp_parfor.specs.Parts.{Part, Does, Loops, loop_writes, loop_words, part_arrays}

-- ---- loops

-- a fold that there is not of no values
abbrev pub needs_some : FoldKind → Bool
needs_some folds.Min = true
needs_some folds.Max = true
needs_some _ = false

-- The places of a loop whose leader is so long: a trap where an input has another length, and then where there is no
-- place and a fold is a least or a greatest.
unfoldable pub places_of : Place → (long : ℕ) → (inputs : List (List ℤ)) → List Folding → Result ℕ Trap
places_of at long inputs folds =
    if not (list_all (λ xs. length xs == long) inputs) then Err (trap at Mismatch)
    else if long == 0 && list_any (λ f. needs_some f.kind) folds then Err (trap at Empty) else Ok long

-- the values of a loop's lets at so many places, from the first on; the first trap counts
unfoldable pub loop_rows : Parfor → Env → (places : ℕ) → Result (List (List ℤ)) Trap
loop_rows p e places = looped e.words (lists_at e p.inputs) (lists_at e (map (λ h. h.array) p.halos)) p.lets places

-- the outs are the lists of their lets' values, and the fold words the folds of such lists
unfoldable pub loop_made : Parfor → (rows : List (List ℤ)) → Env → Env
loop_made p rows e =
    record (with_slots (loop_writes p) (map (λ o. Vector (column_of o.value rows)) p.outs) e) {
      words = changed_all (loop_words p) (map (λ f. fold_of f.kind (column_of f.value rows)) p.folds) e.words;
    }

-- what a loop does
unfoldable pub loop_does : Parfor → Env → Result (Effect Env) Trap
loop_does p e =
    and_then (places_of p.at (length (cells (e.slots p.leader))) (lists_at e p.inputs) p.folds)
    (λ places. and_then (loop_rows p e places) (λ rows. silent (loop_made p rows e)))

-- ---- work

abbrev pub is_rep : Dist → Bool
is_rep Rep = true
is_rep _ = false

abbrev pub is_var : Dist → Bool
is_var Var = true
is_var _ = false

-- an array in uneven pieces is moved to another array's pieces, unless it is that array
abbrev pub is_moved : (ℕ → Dist) → (to x : ℕ) → Bool
is_moved d to x = not (x == to) && is_var (d x)

-- all arrays of a part are whole on each rank
abbrev pub is_replicated : (ℕ → Dist) → Part → Bool
is_replicated d part = list_all (λ k. is_rep (d k)) (part_arrays part)

-- the moves of a loop: one of each input that is moved to the leader, and one for each halo
unfoldable pub loop_moves : (ℕ → Dist) → Parfor → ℕ
loop_moves d p = if is_replicated d (Loops p) then 0 else count_by (is_moved d p.leader) p.inputs + length p.halos

-- an operation counts as in the array IR; a loop is a unit, one is for its folds' words, and one for each move
unfoldable pub part_units : List Slot → (ℕ → Dist) → Part → ℕ
part_units slots d (Does op) = units slots op.what
part_units slots d (Loops p) = 2 + loop_moves d p

-- ---- programs

unfoldable pub part_does : List Table → List Order → Part → Env → Result (Effect Env) Trap
part_does tables orders (Does op) e = does tables orders op.at op.what e
part_does tables orders (Loops p) e = loop_does p e

-- what the parts of a program with these slots do, where they have these distributions
abbrev pub part_doing : List Slot → List Dist → List Table → List Order → Doing Part Env
part_doing slots dists tables orders = record { does = part_does tables orders; units = part_units slots (dist_at dists); word = λ e. e.words }

-- what a program comes to; the work alone hangs on the distributions
unfoldable pub parts_mean : List Slot → List Dist → Prog Part → List Table → List Order → (fuel : ℕ) → Ran Env ℕ
parts_mean slots dists p tables orders fuel = run (part_doing slots dists tables orders) p (start unset fuel)

-- its work where the slots have these distributions
abbrev pub parts_work : List Slot → Prog Part → List Table → List Order → (fuel : ℕ) → List Dist → ℕ
parts_work slots p tables orders fuel dists = work_of (parts_mean slots dists p tables orders fuel)

-- ---- tables

abbrev pub part_serves : List Table → Part → Bool
part_serves tables (Does op) = serves tables op.what
part_serves tables (Loops p) = true

-- the tables have as many columns as each `Read` of the program names
abbrev pub PartsServed : Prog Part → List Table → Type 0
PartsServed p tables = IsTrue (list_all (part_serves tables) (operations p))

-- ---- worked rows

-- lengths come before folds of no values
places_rows : (at : Place) (f : Folding) → f.kind ≡ folds.Min
    → (places_of at 1 ((pos 7 ∷ []) ∷ []) (f ∷ []) ≡ Ok 1) × (places_of at 0 [] (f ∷ []) ≡ Err (trap at Empty)) × (places_of at 0 ((pos 7 ∷ []) ∷ []) (f ∷ []) ≡ Err (trap at Mismatch))
unfolding places_of
places_rows at f e = (refl, (rw e refl), refl)

-- what loops count: a reduction two, a map of two arrays in uneven pieces one more for the second, a stencil one more for
-- its halo; and two where all is whole on each rank
abbrev worked : (leader : ℕ) (inputs : List ℕ) → List Halo → List Out → List Folding → Part
worked leader inputs halos outs folds = Loops (record { leader = leader; inputs = inputs; halos = halos; lets = []; outs = outs; folds = folds; at = record { line = 1; col = 1 } })

units_rows : (part_units [] (λ k. Var) (worked 0 (0 ∷ []) [] [] (record { word = 0; kind = folds.Sum; value = 0 } ∷ [])) ≡ 2)
    × (part_units [] (λ k. Var) (worked 0 (0 ∷ 1 ∷ []) [] (record { array = 2; value = 0 } ∷ []) []) ≡ 3)
    × (part_units [] (λ k. Block) (worked 0 [] (record { array = 0; reach = 1 } ∷ []) (record { array = 2; value = 0 } ∷ []) []) ≡ 3)
    × (part_units [] (λ k. Rep) (worked 0 (0 ∷ 1 ∷ []) [] (record { array = 2; value = 0 } ∷ []) []) ≡ 2)
unfolding part_units loop_moves
units_rows = (refl, refl, refl, refl)
