-- A loop over a vector, of which each rank does its own places: what such a loop may read, and what it makes.
use Rattle.std.specs.Prelude.{◌≡◌, ℕ, ◌<◌, ◌≤ℤ◌, ℤ, pos, neg_ℤ, ◌+ℤ◌, All, Some, None, Option, List, [], ◌∷◌, length, map, slice_index, slice_index_or, Result, Ok, refl}
use Rattle.std.specs.Int.{int_wrap}
use Rattle.std.specs.List.{AllByRecursion, AllZip}
use Rattle.hp_cuts.specs.declared.cuts.Span.{Span}
use Rattle.hp_word.specs.declared.elem.Elem.{Elem}
use Rattle.hp_word.specs.declared.elem.Elem.TheBlock.{Row_of-Elem, end_of-Elem, more_of-Elem}
use Rattle.hp_word.specs.declared.elem.Elem.TheVariants.{Number, Word, Input, Near, Earlier, Calc', Both', Either'}
use Rattle.hp_word.specs.declared.place.Trap.{Trap}
use Rattle.hp_word.specs.declared.fold.FoldKind.TheVariants.{Sum}
use Rattle.hp_word.specs.Elem.{Sight, elem_value}
use Rattle.hp_word.specs.Folds.{fold_of}
use Rattle.hp_word.specs.LoopRules.{and_then, cell_at, column_of, lets_after, rows_below, word_at}
use Rattle.hp_lattice.specs.declared.dist.Dist.TheVariants.{Rep}
use Rattle.hp_spmd.specs.declared.code.Code.{Code}
use Rattle.hp_spmd.specs.declared.instr.Folding.{Folding}
use Rattle.hp_spmd.specs.declared.instr.HaloFrom.{HaloFrom}
use Rattle.hp_spmd.specs.declared.instr.HaloFrom.TheVariants.{Loose, Whole}
use Rattle.hp_spmd.specs.declared.instr.Instr.{Instr}
use Rattle.hp_spmd.specs.declared.instr.Instr.TheVariants as instr
use Rattle.hp_spmd.specs.declared.instr.Loop.{Loop}
use Rattle.hp_spmd.specs.declared.instr.Out.{Out}
use Rattle.hp_spmd.specs.declared.store.Store.{Store}
use Rattle.hp_spmd.specs.Cuts.{own_from, own_until}
use Rattle.hp_spmd.specs.Layout.{Env, vector}
use Rattle.hp_spmd.specs.Needs.{block_span, span}
use Rattle.hp_spmd.specs.Spread.{LiesAs}
use Rattle.hp_spmd.specs.Store.{dist_at, kept, piece_at}
use Rattle.hp_snippet.specs.Halos.{halo_of}
use Rattle.hp_snippet.specs.Moves.{changed, silently}
use Rattle.hp_snippet.specs.Outcomes.{After}
use Rattle.hp_snippet.specs.Promises.{AreOnce, Slots}
use Rattle.hp_snippet.specs.Values.{HasValue, value_or_zero}

abbrev pub loop_code : Loop → List Instr
loop_code l = instr.Loop l ∷ []

-- ---- the loop over whole arrays

-- What a let reads at the place i of whole vectors, after these lets. `around` are the vectors that the loop's halos are round, one
-- for each.
abbrev pub whole_sight : Loop → (around : List ℕ) → Env → ℕ → List ℤ → Sight
whole_sight l around env i lets =
    record {
      word = λ w. value_or_zero (env.words w);
      input = λ k. word_at (env.arrays (slice_index l.inputs k)).cells i;
      near = λ k by. cell_at (env.arrays (slice_index around k)).cells (pos i +ℤ by);
      earlier = word_at lets;
    }

-- the values of the lets at the place i, or the first trap
abbrev pub whole_row : Loop → (around : List ℕ) → Env → ℕ → Result (List ℤ) Trap
whole_row l around env i = lets_after (whole_sight l around env i) [] l.lets

-- the values at all places of the leader
abbrev pub whole_rows : Loop → (around : List ℕ) → Env → Result (List (List ℤ)) Trap
whole_rows l around env = rows_below (whole_row l around env) (length (env.arrays l.leader).cells)

-- ---- what it makes

abbrev pub out_arrays : Loop → List ℕ
out_arrays l = map (λ (o : Out). o.array) l.outs

abbrev pub fold_words : Loop → List ℕ
fold_words l = map (λ (f : Folding). f.word) l.folds

abbrev pub loop_writes : Loop → Slots
loop_writes l = record { words = fold_words l; arrays = out_arrays l; loose = [] }

-- each out is the vector of its let's values, and each fold word has this value, or none
abbrev pub made_whole : Loop → (Folding → Option ℤ) → (rows : List (List ℤ)) → Env → Env
made_whole l folded rows env =
    record {
      arrays = changed (out_arrays l) (map (λ (o : Out). vector (column_of o.value rows)) l.outs) env.arrays;
      words = changed (fold_words l) (map folded l.folds) env.words;
    }

-- the outs are made, and all ranks agree on the folds
abbrev pub looped : Loop → (around : List ℕ) → List Store → Env → Result (After Env) Trap
looped l around ranks env = and_then (whole_rows l around env) (λ rows. silently (made_whole l (λ f. Some (fold_of f.kind (column_of f.value rows))) rows env))

-- the outs are made, and the ranks need not agree on the words of the folds
abbrev pub looped_in_parts : Loop → (around : List ℕ) → List Store → Env → Result (After Env) Trap
looped_in_parts l around ranks env = and_then (whole_rows l around env) (λ rows. silently (made_whole l (λ f. None) rows env))

-- ---- what it may read

-- an element of a halo may be read so many places further
abbrev pub IsNear : HaloFrom → ℤ → Type 0
IsNear (Loose column reach) by = (by ≤ℤ pos reach) × (neg_ℤ by ≤ℤ pos reach)
IsNear (Whole array) by = Unit {0}

-- Words on which all ranks agree, inputs and halos that there are, and no place beyond a halo's reach. A child is a row of one
-- element.
abbrev mutual
  pub MayRead : Env → Loop → Elem → Type 0
  MayRead env l (Number n) = Unit {0}
  MayRead env l (Word w) = HasValue (env.words w)
  MayRead env l (Input k) = k < length l.inputs
  MayRead env l (Near k by) = (k < length l.halos) × IsNear (slice_index_or l.halos k (Whole 0)) by
  MayRead env l (Earlier k) = Unit {0}
  MayRead env l (Calc' op at p a q b) = RowMayRead env l a × RowMayRead env l b
  MayRead env l (Both' p a q b) = RowMayRead env l a × RowMayRead env l b
  MayRead env l (Either' p a q b) = RowMayRead env l a × RowMayRead env l b

  pub RowMayRead : {m : _} → Env → Loop → Row_of-Elem m → Type 0
  RowMayRead env l end_of-Elem = Unit {0}
  RowMayRead env l (more_of-Elem e rest) = MayRead env l e × RowMayRead env l rest

-- ---- what a rank must have

-- the places of the leader that a rank has
abbrev pub own_places : Code → Loop → Store → Span
own_places code l x =
    let cuts = (piece_at x.arrays l.leader).cuts in
    span (own_from (dist_at code.arrays l.leader) cuts x.number) (own_until (dist_at code.arrays l.leader) cuts x.number)

-- what a rank has of cells at these places
abbrev pub own_part : Code → Loop → Store → List ℤ → List ℤ
own_part code l x cells = kept (own_places code l x).from (own_places code l x).until 0 cells

-- a rank has an input at its own places
abbrev pub HasOwn : Code → Loop → Env → Store → ℕ → Type 0
HasOwn code l env x k = (piece_at x.arrays k).cells ≡ own_part code l x (env.arrays k).cells

-- a rank has what is round its own places of a vector: a halo of its block, which its own places are, or all of the vector, where
-- its own places begin with the first
abbrev pub HasRound : Code → Loop → Env → Store → HaloFrom → ℕ → Type 0
HasRound code l env x (Loose column reach) k =
    (slice_index_or x.loose column [] ≡ halo_of reach (env.arrays k).cells x.number x.ranks) × (own_places code l x ≡ block_span x.number (length (env.arrays k).cells) x.ranks)
HasRound code l env x (Whole array) k = ((piece_at x.arrays array).cells ≡ (env.arrays k).cells) × ((own_places code l x).from ≡ 0)

pub record HasRead (code : Code) (l : Loop) (around : List ℕ) (env : Env) (x : Store) : Type 0 where
  pub inputs : AllByRecursion (HasOwn code l env x) l.inputs
  pub halos : AllZip (HasRound code l env x) l.halos around

-- No array and no word is written twice, the leader is a vector, each out may have its cuts; each rank has what the lets read, and
-- they read no more.
pub record MayLoop (l : Loop) (around : List ℕ) (code : Code) (ranks : List Store) (env : Env) : Type 0 where
  pub outs_once : AreOnce (out_arrays l)
  pub words_once : AreOnce (fold_words l)
  pub vector : (env.arrays l.leader).rows ≡ 1
  pub alike : All (λ o. LiesAs (dist_at code.arrays l.leader) (dist_at code.arrays o.array)) l.outs
  pub has : All (HasRead code l around env) ranks
  pub reads : AllByRecursion (MayRead env l) l.lets

-- the same, where the leader is whole on each rank
abbrev pub MayLoopWhole : Loop → (around : List ℕ) → Code → List Store → Env → Type 0
MayLoopWhole l around code ranks env = (dist_at code.arrays l.leader ≡ Rep) × MayLoop l around code ranks env

-- ---- what each rank has

-- each fold word is the fold of the values at the rank's own places
abbrev pub HasFolds : Loop → (around : List ℕ) → Code → Env → (before after : Store) → Type 0
HasFolds l around code env x y =
    (rows : List (List ℤ)) → whole_rows l around env ≡ Ok rows → AllByRecursion (λ (f : Folding). word_at y.words f.word ≡ fold_of f.kind (own_part code l x (column_of f.value rows))) l.folds

-- ---- worked rows

-- a loop that copies a vector and adds it up
abbrev worked : Loop
worked = record { leader = 0; inputs = 0 ∷ []; halos = []; lets = Input 0 ∷ []; outs = record { array = 2; value = 0 } ∷ []; folds = record { word = 1; kind = Sum; value = 0 } ∷ [] }

abbrev two_cells : Env
two_cells = record { arrays = λ k. vector (pos 7 ∷ pos 8 ∷ []); words = λ w. Some (pos w) }

-- what it leaves in the array 2 and in the words 1 and 0
abbrev left_by : Result (After Env) Trap → Result (List ℤ × Option ℤ × Option ℤ) Trap
left_by made = and_then made (λ after. Ok ((after.env.arrays 2).cells, after.env.words 1, after.env.words 0))

loop_rows : (left_by (looped worked [] [] two_cells) ≡ Ok (pos 7 ∷ pos 8 ∷ [], Some (pos 15), Some (pos 0))) × (left_by (looped_in_parts worked [] [] two_cells) ≡ Ok (pos 7 ∷ pos 8 ∷ [], None, Some (pos 0)))
unfolding elem_value int_wrap
loop_rows = (refl, refl)
