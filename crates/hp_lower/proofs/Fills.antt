-- The instructions of `x = fill(v, k)` do what the line means.
use Rattle.std.proofs.Common.{◌≡◌, ℕ, suc, ◌<◌, ◌≤◌, ◌≢◌, List, [], ◌∷◌, map, length, ℤ, pos, negsuc, refl, sym, ap, ◌∙◌, subst, arith, length-set, Bool, true, false, cond, Result, Ok, Err, replicate}
use Rattle.std.specs.Prelude.{slice_set, nat_le, IfOk}
use Rattle.std.proofs.lemmas.Bool.{leb-true}
use Rattle.std.proofs.lemmas.List.{get_or-set_same, get_or-set_other, length-replicate}
use Rattle.hp_word.specs.declared.place.Place.{Place}
use Rattle.hp_word.specs.declared.place.Trap.{Trap}
use Rattle.hp_word.specs.declared.table.Tables.{Tables}
use Rattle.hp_word.specs.declared.place.TrapKind.TheVariants.{TooLong}
use Rattle.hp_word.specs.Lengths.{length_of, longest, trap}
use Rattle.hp_meaning.specs.Meaning.{Binding, Ints, binding, ints_of}
use Rattle.hp_spmd.specs.declared.code.Code.{Code}
use Rattle.hp_lattice.specs.declared.dist.Dist.{Dist}
use Rattle.hp_lattice.specs.declared.dist.Dist.TheVariants.{Block}
use Rattle.hp_spmd.specs.declared.instr.Instr.TheVariants as instr
use Rattle.hp_spmd.specs.declared.store.Piece.{Piece}
use Rattle.hp_spmd.specs.declared.store.Store.{Store}
use Rattle.hp_cuts.specs.Blocks.{block_cuts}
use Rattle.hp_spmd.specs.Arrays.{fill_data, with_array}
use Rattle.hp_spmd.specs.Local.{local_next}
use Rattle.hp_spmd.specs.Next.{Next, Goes, Traps, lifted}
use Rattle.hp_spmd.specs.Scalars.{const_data}
use Rattle.hp_spmd.specs.Lockstep.{state, One, joined_to, together, step, Trapped, run}
use Rattle.hp_word.specs.ListRules.{filled}
use Rattle.hp_word.specs.LoopRules.{and_then, word_at}
use Rattle.hp_spmd.specs.Layout.{Numbered}
use Rattle.hp_spmd.specs.Store.{data_of, dealt, piece_of, dist_at, instr_at, no_piece}
use Rattle.hp_spmd.proofs.LockRun.{run_trips}
use Rattle.hp_lower.proofs.Holds.{HoldsVector, AreEmpty, Lies, Holds, word_set, Holds_word_set, position_each}
use Rattle.hp_lower.proofs.Steps.{Each, Each_map, computes, step_at}

pub const_goes : (dists : List Dist) (tables : Tables) (k : ℕ) (v : ℤ) (x : Store) → local_next dists tables (instr.Const k v) x ≡ Goes (word_set k v x)
unfolding const_data
const_goes dists tables k v x = refl

-- a rank whose words hold the value and the count
pub record Ready (n c p : ℕ) (env : List Binding) (v k : ℤ) (x : Store) : Type 0 where
  pub holds : Holds n c p env x
  pub value_is : word_at x.words 0 ≡ v
  pub count_is : word_at x.words 1 ≡ k

pub ready : (n c p : ℕ) (env : List Binding) (v k : ℤ) (x : Store) → Holds n c p env x → Ready n c (suc (suc p)) env v k (word_set 1 k (word_set 0 v x))
ready n c p env v k x h =
    let l0 : 0 < length x.words = omega (arith, h.words_are) in
    let l1 : 1 < length (slice_set x.words 0 v) = omega (arith, h.words_are, length-set x.words 0 v) in
    let ne : 0 ≢ 1 = omega arith in
    record {
      holds = Holds_word_set n c (suc p) env 1 k (word_set 0 v x) (Holds_word_set n c p env 0 v x h);
      value_is = get_or-set_other (slice_set x.words 0 v) 1 0 k (pos 0) ne ∙ get_or-set_same x.words 0 v (pos 0) l0;
      count_is = get_or-set_same (slice_set x.words 0 v) 1 k (pos 0) l1;
    }

-- a store in which an array is set to its piece, at the next instruction
abbrev pub array_set : List Dist → ℕ → ℕ → ℤ → Store → Store
array_set dists slot len v x =
    record x {
      arrays = slice_set x.arrays slot (dealt (dist_at dists slot) x.number x.ranks (replicate len v));
      position = suc x.position;
    }

pub fill_goes : (dists : List Dist) (tables : Tables) (slot : ℕ) (at : Place) (n c p len : ℕ) (env : List Binding) (v k : ℤ) → length_of at k ≡ Ok len → (x : Store) → Ready n c p env v k x → local_next dists tables (instr.Fill slot 0 1 at) x ≡ Goes (array_set dists slot len v x)
unfolding fill_data filled
fill_goes dists tables slot at n c p len env v k e x r =
    let made = λ (o : Result ℕ Trap) (w : ℤ). lifted (and_then (and_then o (λ m. Ok (replicate m w))) (λ whole. Ok (with_array slot (dealt (dist_at dists slot) x.number x.ranks whole) (data_of x)))) x in
    ap (λ w. made (length_of at (word_at x.words 1)) w) r.value_is
    ∙ ap (λ w. made (length_of at w) v) r.count_is
    ∙ ap (λ o. made o v) e

pub fill_traps : (dists : List Dist) (tables : Tables) (slot : ℕ) (at : Place) (n c p : ℕ) (env : List Binding) (v k : ℤ) (t : Trap) → length_of at k ≡ Err t → (x : Store) → Ready n c p env v k x → local_next dists tables (instr.Fill slot 0 1 at) x ≡ Traps t
unfolding fill_data filled
fill_traps dists tables slot at n c p env v k t e x r =
    let made = λ (o : Result ℕ Trap). lifted (and_then (and_then o (λ m. Ok (replicate m (word_at x.words 0)))) (λ whole. Ok (with_array slot (dealt (dist_at dists slot) x.number x.ranks whole) (data_of x)))) x in
    ap (λ w. made (length_of at w)) r.count_is ∙ ap made e

-- the pieces of the older arrays are left
pub Lies_set : (n number slot : ℕ) (pieces : List Piece) (piece : Piece) (env : List Binding) → length env ≤ slot → Lies n number pieces env → Lies n number (slice_set pieces slot piece) env
Lies_set n number slot pieces piece [] le lies = tt
Lies_set n number slot pieces piece (b ∷ bs) le lies =
    let ne : length bs ≢ slot = omega arith in
    let below : length bs ≤ slot = omega arith in
    let same = get_or-set_other pieces slot (length bs) piece no_piece ne in
    (subst (λ q. HoldsVector Block (block_cuts (length (ints_of b.value)) n) (ints_of b.value) number q) (sym same) lies.0, Lies_set n number slot pieces piece bs below lies.1)

-- so are those that are not assigned yet
pub Empty_set : (n number from c : ℕ) (pieces : List Piece) (piece : Piece) → AreEmpty n number from c pieces → AreEmpty n number (suc from) c (slice_set pieces from piece)
Empty_set n number from c pieces piece rest slot le lt =
    let ne : slot ≢ from = omega arith in
    let le' : from ≤ slot = omega arith in
    subst (HoldsVector Block (block_cuts 0 n) [] number) (sym (get_or-set_other pieces from slot piece no_piece ne)) (rest slot le' lt)

-- a length that a word asks for is one that an array may have
length_within : (at : Place) (k : ℤ) → IfOk (length_of at k) (λ len. len ≤ longest)
length_within at (negsuc n) = tt
length_within at (pos n) = cases at n (nat_le n longest) refl
  where
    cases : (at : Place) (n : ℕ) (t : Bool) → nat_le n longest ≡ t → IfOk (cond t (Ok n) (Err (trap at TooLong))) (λ len. len ≤ longest)
    cases at n true e = leb-true n longest e
    cases at n false e = tt

pub length_short : (at : Place) (k : ℤ) (len : ℕ) → length_of at k ≡ Ok len → len ≤ longest
length_short at k len e = subst (λ r. IfOk r (λ len. len ≤ longest)) e (length_within at k)

-- the piece that Fill makes is that of the whole
pub fill_piece : (n number len : ℕ) (v : ℤ) → len ≤ longest → HoldsVector Block (block_cuts (length (replicate len v)) n) (replicate len v) number (dealt Block number n (replicate len v))
unfolding piece_of
fill_piece n number len v few = record { rows_are = refl; cuts_are = refl; cells_are = refl; short = subst (λ k. k ≤ longest) (sym (length-replicate len v)) few }

pub Holds_array_set : (dists : List Dist) (n c p len : ℕ) (env : List Binding) (name : List ℕ) (v : ℤ) → length env < c → len ≤ longest → dist_at dists (length env) ≡ Block → (x : Store) → Holds n c p env x → Holds n c (suc p) (binding name (Ints (replicate len v)) ∷ env) (array_set dists (length env) len v x)
Holds_array_set dists n c p len env name v lt few block x h =
    let piece = dealt (dist_at dists (length env)) x.number x.ranks (replicate len v) in
    let within : length env < length x.arrays = omega (arith, h.arrays_are) in
    let same = get_or-set_same x.arrays (length env) piece no_piece within in
    let is : piece ≡ dealt Block x.number n (replicate len v) =
    ap (λ d. dealt d x.number x.ranks (replicate len v)) block ∙ ap (λ r. dealt Block x.number r (replicate len v)) h.ranks_are in
    record {
      ranks_are = h.ranks_are;
      position_is = ap suc h.position_is;
      words_are = h.words_are;
      arrays_are = length-set x.arrays (length env) piece ∙ h.arrays_are;
      lies = (
        subst (λ q. HoldsVector Block (block_cuts (length (replicate len v)) n) (replicate len v) x.number q) (sym (same ∙ is)) (fill_piece n x.number len v few),
        Lies_set n x.number (length env) x.arrays piece env (omega arith) h.lies,
      );
      rest = Empty_set n x.number (length env) c x.arrays piece h.rest;
    }

-- the first trap is the answer, whatever the others do
pub together_trap : (f : Store → Next) (x : Store) (xs : List Store) (t : Trap) → f x ≡ Traps t → together f (x ∷ xs) ≡ One t
together_trap f x xs t e = ap (λ o. joined_to o (together f xs)) e

module _ (code : Code) (tables : Tables) (n c p : ℕ) (env : List Binding) (name : List ℕ) (at : Place) (v k : ℤ) where
  -- the ranks after the two constants
  abbrev set_two : List Store → List Store
  set_two ranks = map (word_set 1 k) (map (word_set 0 v) ranks)

  two : (x : Store) (xs : List Store) (out : List ℕ) → Each (Holds n c p env) (x ∷ xs) → instr_at code.list p ≡ instr.Const 0 v → instr_at code.list (suc p) ≡ instr.Const 1 k → (j : ℕ) → run code tables (suc (suc j)) (state (x ∷ xs) out) ≡ run code tables j (state (set_two (x ∷ xs)) out)
  two x xs out each i0 i1 j =
      let next = Each_map (Holds n c p env) (Holds n c (suc p) env) (word_set 0 v) (λ y h. Holds_word_set n c p env 0 v y h) (x ∷ xs) each in
      computes code tables (Holds n c p env) (word_set 0 v) (x ∷ xs) out p (instr.Const 0 v) (position_each n c p env x xs each) i0 (λ f s. refl) (λ y h. const_goes code.arrays tables 0 v y) each (suc j)
      ∙ computes code tables (Holds n c (suc p) env) (word_set 1 k) (map (word_set 0 v) (x ∷ xs)) out (suc p) (instr.Const 1 k) (position_each n c (suc p) env (word_set 0 v x) (map (word_set 0 v) xs) next) i1 (λ f s. refl) (λ y h. const_goes code.arrays tables 1 k y) next j

  readies : (xs : List Store) → Each (Holds n c p env) xs → Each (Ready n c (suc (suc p)) env v k) (set_two xs)
  readies [] e = tt
  readies (x ∷ xs) e = (ready n c p env v k x e.0, readies xs e.1)

  -- the ranks after the line
  abbrev pub filled_ranks : ℕ → List Store → List Store
  filled_ranks len ranks = map (array_set code.arrays (length env) len v) (set_two ranks)

  pub fill_leads : (len : ℕ) → length_of at k ≡ Ok len → (x : Store) (xs : List Store) (out : List ℕ) → Each (Holds n c p env) (x ∷ xs) → instr_at code.list p ≡ instr.Const 0 v → instr_at code.list (suc p) ≡ instr.Const 1 k → instr_at code.list (suc (suc p)) ≡ instr.Fill (length env) 0 1 at → (j : ℕ) → run code tables (suc (suc (suc j))) (state (x ∷ xs) out) ≡ run code tables j (state (filled_ranks len (x ∷ xs)) out)
  fill_leads len e x xs out each i0 i1 i2 j =
      let next = readies (x ∷ xs) each in
      two x xs out each i0 i1 (suc j)
      ∙ computes code tables (Ready n c (suc (suc p)) env v k) (array_set code.arrays (length env) len v) (set_two (x ∷ xs)) out (suc (suc p)) (instr.Fill (length env) 0 1 at) (next.0.holds.position_is) i2 (λ f s. refl) (λ y r. fill_goes code.arrays tables (length env) at n c (suc (suc p)) len env v k e y r) next j

  pub fill_trips : (t : Trap) → length_of at k ≡ Err t → (x : Store) (xs : List Store) (out : List ℕ) → Each (Holds n c p env) (x ∷ xs) → instr_at code.list p ≡ instr.Const 0 v → instr_at code.list (suc p) ≡ instr.Const 1 k → instr_at code.list (suc (suc p)) ≡ instr.Fill (length env) 0 1 at → (j : ℕ) → run code tables (suc (suc (suc j))) (state (x ∷ xs) out) ≡ Trapped t (state (set_two (x ∷ xs)) out)
  fill_trips t e x xs out each i0 i1 i2 j =
      let next = readies (x ∷ xs) each in
      let first = fill_traps code.arrays tables (length env) at n c (suc (suc p)) env v k t e (word_set 1 k (word_set 0 v x)) next.0 in
      let one = together_trap (local_next code.arrays tables (instr.Fill (length env) 0 1 at)) (word_set 1 k (word_set 0 v x)) (set_two xs) t first in
      two x xs out each i0 i1 (suc j)
      ∙ run_trips (step code tables) j (state (set_two (x ∷ xs)) out) t
      (step_at code tables (set_two (x ∷ xs)) out (suc (suc p)) (instr.Fill (length env) 0 1 at) next.0.holds.position_is i2 ∙ rw one refl)

  pub fill_each : (len : ℕ) → length env < c → len ≤ longest → dist_at code.arrays (length env) ≡ Block → (xs : List Store) → Each (Holds n c p env) xs → Each (Holds n c (suc (suc (suc p))) (binding name (Ints (replicate len v)) ∷ env)) (filled_ranks len xs)
  fill_each len lt few block [] e = tt
  fill_each len lt few block (x ∷ xs) e =
      (Holds_array_set code.arrays n c (suc (suc p)) len env name v lt few block (word_set 1 k (word_set 0 v x)) (ready n c p env v k x e.0).holds, fill_each len lt few block xs e.1)

  pub fill_numbered : (len i : ℕ) (xs : List Store) → Numbered i xs → Numbered i (filled_ranks len xs)
  fill_numbered len i [] e = tt
  fill_numbered len i (x ∷ xs) e = (e.0, fill_numbered len (suc i) xs e.1)

  pub fill_length : (len : ℕ) (xs : List Store) → length (filled_ranks len xs) ≡ length xs
  fill_length len [] = refl
  fill_length len (x ∷ xs) = ap suc (fill_length len xs)
