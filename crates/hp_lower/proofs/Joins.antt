-- The pieces of an array, in rank order, are the whole.
use Rattle.std.proofs.Common.{◌≡◌, ℕ, suc, ◌+◌, ◌-◌, ◌≤◌, List, [], ◌∷◌, ◌++◌, map, length, take, drop, get_or, ℤ, refl, sym, ap, ◌∙◌, subst, arith, Bool, true, false, cond, ◌⊎◌, ⊎_elim}
use Rattle.std.specs.Prelude.{flat_map}
use Rattle.std.specs.Str.{bytes_eq}
use Rattle.std.proofs.Math.Seq.{take-add}
use Rattle.std.proofs.lemmas.Bool.{false≢true}
use Rattle.std.proofs.lemmas.Slice.Eq.{bytes_eq-Decides}
use Rattle.std.proofs.lemmas.List.{drop-drop, take_all, length-map}
use Rattle.hp_meaning.specs.Meaning.{Binding, ints_of, array_of}
use Rattle.hp_lattice.specs.declared.dist.Dist.TheVariants.{Block}
use Rattle.hp_spmd.specs.declared.store.Piece.{Piece}
use Rattle.hp_spmd.specs.declared.store.Store.{Store}
use Rattle.hp_cuts.specs.Blocks.{block_start, block_cuts}
use Rattle.hp_spmd.specs.Layout.{Numbered}
use Rattle.hp_spmd.specs.Store.{piece_at, kept}
use Rattle.hp_cuts.proofs.BlockLemmas.{start_begin, start_end, start_rises}
use Rattle.hp_spmd.proofs.LocalCuts.{block_cuts_at, kept_part}
use Rattle.hp_lower.specs.Code.{slot_of}
use Rattle.hp_lower.proofs.Holds.{HoldsVector, Lies}
use Rattle.hp_lower.proofs.Steps.{Each}

-- cells of the piece of each rank from number k on, where rank j has the places from cut j on
abbrev ArePieces : (ℕ → ℕ) → List ℤ → ℕ → List (List ℤ) → Type 0
ArePieces cut whole k [] = Unit {0}
ArePieces cut whole k (p ∷ ps) = (p ≡ take (cut (suc k) - cut k) (drop (cut k) whole)) × ArePieces cut whole (suc k) ps

pieces_join : (cut : ℕ → ℕ) → ((r s : ℕ) → r ≤ s → cut r ≤ cut s) → (whole : List ℤ) (k m : ℕ) (ps : List (List ℤ)) → k + length ps ≡ m → ArePieces cut whole k ps → flat_map (λ p. p) ps ≡ take (cut m - cut k) (drop (cut k) whole)
pieces_join cut rises whole k m [] e h =
    let same : k ≡ m = omega arith in
    let none : cut m - cut k ≡ 0 = omega (arith, ap cut same) in
    rw none refl
pieces_join cut rises whole k m (p ∷ ps) e h =
    let rest = pieces_join cut rises whole (suc k) m ps (omega arith) h.1 in
    let one = rises k (suc k) (omega arith) in
    let all = rises (suc k) m (omega arith) in
    let parts : cut m - cut k ≡ (cut (suc k) - cut k) + (cut m - cut (suc k)) = omega arith in
    let from : cut k + (cut (suc k) - cut k) ≡ cut (suc k) = omega arith in
    let moved : drop (cut (suc k)) whole ≡ drop (cut (suc k) - cut k) (drop (cut k) whole) = sym (drop-drop (cut (suc k) - cut k) (cut k) whole ∙ ap (λ a. drop a whole) from) in
    ap (λ q. q ++ flat_map (λ p. p) ps) h.0
    ∙ ap (λ q. take (cut (suc k) - cut k) (drop (cut k) whole) ++ q) (rest ∙ ap (take (cut m - cut (suc k))) moved)
    ∙ sym (ap (λ a. take a (drop (cut k) whole)) parts ∙ take-add (cut (suc k) - cut k) (cut m - cut (suc k)) (drop (cut k) whole))

-- ---- names

-- an assignment of this name is among these
abbrev pub IsBound : List Binding → List ℕ → Type 0
IsBound [] name = ⊥
IsBound (b ∷ bs) name = (b.name ≡ name) ⊎ IsBound bs name

abbrev pub name_of : Binding → List ℕ
name_of b = b.name

-- what a name stands for lies in its slot
abbrev LiesAt : ℕ → ℕ → List Piece → List ℤ → ℕ → Type 0
LiesAt n number pieces whole slot = HoldsVector Block (block_cuts (length whole) n) whole number (piece_at pieces slot)

chosen : (n number : ℕ) (pieces : List Piece) (b : Binding) (bs : List Binding) (name : List ℕ) (t : Bool) → bytes_eq b.name name ≡ t → Lies n number pieces (b ∷ bs) → (t ≡ false → LiesAt n number pieces (array_of bs name) (slot_of (map name_of bs) name)) → LiesAt n number pieces (cond t (ints_of b.value) (array_of bs name)) (cond t (length (map name_of bs)) (slot_of (map name_of bs) name))
chosen n number pieces b bs name true e lies rest = subst (LiesAt n number pieces (ints_of b.value)) (sym (length-map bs name_of)) lies.0
chosen n number pieces b bs name false e lies rest = rest refl

pub lies_at : (n number : ℕ) (pieces : List Piece) (env : List Binding) (name : List ℕ) → IsBound env name → Lies n number pieces env → HoldsVector Block (block_cuts (length (array_of env name)) n) (array_of env name) number (piece_at pieces (slot_of (map name_of env) name))
lies_at n number pieces [] name bound lies = absurd bound
lies_at n number pieces (b ∷ bs) name bound lies =
    chosen n number pieces b bs name (bytes_eq b.name name) refl lies (λ e. lies_at n number pieces bs name (⊎_elim (λ same. absurd (false≢true (sym e ∙ (bytes_eq-Decides b.name name).1 same))) (λ h. h) bound) lies.1)

-- ---- the pieces of an array

abbrev cells : ℕ → Store → List ℤ
cells slot x = (piece_at x.arrays slot).cells

are_pieces : (n slot k : ℕ) (whole : List ℤ) (xs : List Store) → k + length xs ≤ n → Numbered k xs → Each (λ x. HoldsVector Block (block_cuts (length whole) n) whole x.number (piece_at x.arrays slot)) xs → ArePieces (λ r. block_start r (length whole) n) whole k (map (cells slot) xs)
are_pieces n slot k whole [] le num each = tt
are_pieces n slot k whole (x ∷ xs) le num each =
    let len = length whole in
    let cuts = block_cuts len n in
    let from = ap (λ r. get_or cuts r 0) num.0 ∙ block_cuts_at k len n (omega arith) in
    let until = ap (λ r. get_or cuts (suc r) 0) num.0 ∙ block_cuts_at (suc k) len n (omega arith) in (
      each.0.cells_are ∙ ap (λ a. kept a (get_or cuts (suc x.number) 0) 0 whole) from ∙ ap (λ b. kept (block_start k len n) b 0 whole) until ∙ kept_part (block_start k len n) (block_start (suc k) len n) whole,
      are_pieces n slot (suc k) whole xs (omega arith) num.1 each.1,
    )

-- all pieces together
pub whole_joins : (n slot : ℕ) (whole : List ℤ) (xs : List Store) → 1 ≤ n → length xs ≡ n → Numbered 0 xs → Each (λ x. HoldsVector Block (block_cuts (length whole) n) whole x.number (piece_at x.arrays slot)) xs → flat_map (λ p. p) (map (λ x. (piece_at x.arrays slot).cells) xs) ≡ whole
whole_joins n slot whole xs some e num each =
    let len = length whole in
    let cut = λ (r : ℕ). block_start r len n in
    let count : 0 + length (map (cells slot) xs) ≡ n = omega (arith, length-map xs (cells slot)) in
    let first = start_begin len n in
    let last = start_end len n some in
    let size : block_start n len n - block_start 0 len n ≡ len = omega arith in
    pieces_join cut (λ r s h. start_rises r s len n h) whole 0 n (map (cells slot) xs) count (are_pieces n slot 0 whole xs (omega arith) num each)
    ∙ ap (λ a. take a (drop (block_start 0 len n) whole)) size
    ∙ ap (λ a. take len (drop a whole)) first
    ∙ take_all len whole (omega arith)
