-- What holds on every rank between two lines.
use Rattle.std.proofs.Common.{◌≡◌, ℕ, suc, ◌<◌, ◌≤◌, List, [], ◌∷◌, map, length, ℤ, sym, ap, ◌∙◌, subst, length-set}
use Rattle.std.specs.Prelude.{slice_set}
use Rattle.hp_word.specs.Lengths.{longest}
use Rattle.hp_meaning.specs.Meaning.{Binding, ints_of}
use Rattle.hp_lattice.specs.declared.dist.Dist.TheVariants.{Block}
use Rattle.hp_spmd.specs.declared.store.Piece.{Piece}
use Rattle.hp_spmd.specs.declared.store.Store.{Store}
use Rattle.hp_cuts.specs.Blocks.{block_cuts}
use Rattle.hp_lattice.specs.declared.dist.Dist.{Dist}
use Rattle.hp_spmd.specs.Cuts.{own_from, own_until}
use Rattle.hp_spmd.specs.Layout.{Numbered}
use Rattle.hp_spmd.specs.Lockstep.{position_of}
use Rattle.hp_spmd.specs.Store.{piece_at, kept}
use Rattle.hp_lower.proofs.Steps.{Each}

-- a rank's piece of a whole vector that is cut so, and no longer than an array may be
pub record HoldsVector (dist : Dist) (cuts : List ℕ) (whole : List ℤ) (number : ℕ) (piece : Piece) : Type 0 where
  pub rows_are : piece.rows ≡ 1
  pub cuts_are : piece.cuts ≡ cuts
  pub cells_are : piece.cells ≡ kept (own_from dist cuts number) (own_until dist cuts number) 0 whole
  pub short : length whole ≤ longest

-- the same of one that lies in blocks
abbrev pub HoldsWhole : (ranks number : ℕ) → Piece → List ℤ → Type 0
HoldsWhole ranks number piece whole = HoldsVector Block (block_cuts (length whole) ranks) whole number piece

-- a rank's pieces of the arrays that were assigned, the newest first
abbrev pub Lies : ℕ → ℕ → List Piece → List Binding → Type 0
Lies ranks number pieces [] = Unit {0}
Lies ranks number pieces (b ∷ bs) =
    HoldsVector Block (block_cuts (length (ints_of b.value)) ranks) (ints_of b.value) number (piece_at pieces (length bs)) × Lies ranks number pieces bs

-- the arrays from this slot on are not assigned yet
abbrev pub AreEmpty : (ranks number from arrays : ℕ) → List Piece → Type 0
AreEmpty ranks number from arrays pieces = (slot : ℕ) → from ≤ slot → slot < arrays → HoldsVector Block (block_cuts 0 ranks) [] number (piece_at pieces slot)

-- a rank between two lines: of so many ranks, with so many arrays, at this position, under these assignments
pub record Holds (ranks arrays position : ℕ) (env : List Binding) (x : Store) : Type 0 where
  pub ranks_are : x.ranks ≡ ranks
  pub position_is : x.position ≡ position
  pub words_are : length x.words ≡ 3
  pub arrays_are : length x.arrays ≡ arrays
  pub lies : Lies ranks x.number x.arrays env
  pub rest : AreEmpty ranks x.number (length env) arrays x.arrays

pub Numbered_map : (g : Store → Store) → ((x : Store) → (g x).number ≡ x.number) → (k : ℕ) (xs : List Store) → Numbered k xs → Numbered k (map g xs)
Numbered_map g h k [] n = tt
Numbered_map g h k (x ∷ xs) n = (h x ∙ n.0, Numbered_map g h (suc k) xs n.1)

-- a store with one word changed, at the next instruction
abbrev pub word_set : ℕ → ℤ → Store → Store
word_set k v x = record x { words = slice_set x.words k v; position = suc x.position }

pub Holds_word_set : (n c p : ℕ) (env : List Binding) (k : ℕ) (v : ℤ) (x : Store) → Holds n c p env x → Holds n c (suc p) env (word_set k v x)
Holds_word_set n c p env k v x h =
    record {
      ranks_are = h.ranks_are;
      position_is = ap suc h.position_is;
      words_are = length-set x.words k v ∙ h.words_are;
      arrays_are = h.arrays_are;
      lies = h.lies;
      rest = h.rest;
    }

-- a store in which only messages and counts are changed, at the next instruction
pub Holds_same : (n c p : ℕ) (env : List Binding) (x y : Store) → y.ranks ≡ x.ranks → y.position ≡ suc x.position → y.words ≡ x.words → y.arrays ≡ x.arrays → y.number ≡ x.number → Holds n c p env x → Holds n c (suc p) env y
Holds_same n c p env x y er ep ew ea en h =
    record {
      ranks_are = er ∙ h.ranks_are;
      position_is = ep ∙ ap suc h.position_is;
      words_are = ap length ew ∙ h.words_are;
      arrays_are = ap length ea ∙ h.arrays_are;
      lies = subst (λ k. Lies n k y.arrays env) (sym en) (subst (λ a. Lies n x.number a env) (sym ea) h.lies);
      rest = subst (λ k. AreEmpty n k (length env) c y.arrays) (sym en) (subst (λ a. AreEmpty n x.number (length env) c a) (sym ea) h.rest);
    }

pub position_each : (n c p : ℕ) (env : List Binding) (x : Store) (xs : List Store) → Each (Holds n c p env) (x ∷ xs) → position_of (x ∷ xs) ≡ p
position_each n c p env x xs e = e.0.position_is
