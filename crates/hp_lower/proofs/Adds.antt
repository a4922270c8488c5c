-- The loops that add arrays, and an array and a number, do what the lines mean.
use Rattle.std.proofs.Common.{◌≡◌, ℕ, zero, suc, ◌-◌, ◌<◌, ◌≤◌, List, [], ◌∷◌, map, length, get_or, ℤ, pos, ◌+ℤ◌, refl, sym, ap, ◌∙◌, subst, arith, Result, Ok, cond, Bool, true, false, length-set, Some, None}
use Rattle.std.specs.Prelude.{slice_set, min, nat_le, nat_lt, ◌&&◌}
use Rattle.std.proofs.lemmas.List.{take_all, length-map, get_or-map, get_or-set_same}
use Rattle.std.proofs.lemmas.Bool.{eq-eqb, ne_eqb}
use Rattle.std.proofs.Math.Dec.{lit≤}
use Rattle.hp_word.specs.declared.elem.Elem.{Elem}
use Rattle.hp_word.specs.declared.elem.Elem.TheVariants.{Input, Number}
use Rattle.hp_word.specs.declared.place.Place.{Place}
use Rattle.hp_word.specs.declared.place.Trap.{Trap}
use Rattle.hp_word.specs.declared.table.Tables.{Tables}
use Rattle.hp_word.specs.declared.word.CalcOp.TheVariants.{Add}
use Rattle.hp_word.specs.Elem.{calc_of}
use Rattle.hp_word.specs.Words.{wrap}
use Rattle.hp_word.proofs.ElemLemmas.{value_Calc, value_Input, value_Number}
use Rattle.hp_meaning.specs.Arrays.{added, added_number}
use Rattle.hp_meaning.specs.Meaning.{Binding, Ints, binding, array_of}
use Rattle.hp_spmd.specs.declared.code.Code.{Code}
use Rattle.hp_lattice.specs.declared.dist.Dist.{Dist}
use Rattle.hp_lattice.specs.declared.dist.Dist.TheVariants.{Block}
use Rattle.hp_word.specs.declared.place.TrapKind.TheVariants.{Mismatch}
use Rattle.hp_word.specs.Lengths.{longest, trap}
use Rattle.hp_spmd.specs.declared.instr.CheckRule.TheVariants.{Equal}
use Rattle.hp_spmd.specs.declared.instr.Instr.{Instr}
use Rattle.hp_spmd.specs.declared.instr.Instr.TheVariants as instr
use Rattle.hp_spmd.specs.declared.store.Piece.{Piece}
use Rattle.hp_spmd.specs.declared.store.Store.{Store}
use Rattle.hp_word.specs.LoopRules.{and_then, rows_below, word_at}
use Rattle.hp_cuts.specs.Blocks.{block_cuts}
use Rattle.hp_spmd.specs.Local.{local_next}
use Rattle.hp_spmd.specs.Loops.{cut_as, loop_data, lets_at, made_of, sight_at}
use Rattle.hp_spmd.specs.Next.{Goes, Traps, lifted, moved}
use Rattle.hp_spmd.specs.Scalars.{check_data, greatest_count, piece_length, unless}
use Rattle.hp_spmd.specs.Cuts.{own_from, own_until}
use Rattle.hp_spmd.specs.Lockstep.{state, run, step, Trapped}
use Rattle.hp_spmd.specs.Layout.{Numbered}
use Rattle.hp_spmd.specs.Store.{data_of, piece_at, kept, no_piece, instr_at}
use Rattle.hp_lower.specs.Code.{slot_of, make_loop, add_elem, add_number_elem}
use Rattle.hp_spmd.proofs.CheckNext.{last_cut, told_whole}
use Rattle.hp_spmd.proofs.LockRun.{run_trips}
use Rattle.hp_lower.proofs.Fills.{Lies_set, Empty_set, together_trap}
use Rattle.hp_lower.proofs.Holds.{HoldsVector, Holds, Holds_same, Numbered_map, position_each}
use Rattle.hp_lower.proofs.Joins.{IsBound, name_of, lies_at}
use Rattle.hp_lower.proofs.Rows.{rows_made, column_made}
use Rattle.hp_lower.proofs.Steps.{Each, Each_map, computes, step_at}

-- ---- a loop of one let that makes an array

-- a store in which an array is set to these cells, with the leader's cuts, at the next instruction
abbrev pub made : ℕ → ℕ → List ℤ → Store → Store
made leader slot cells x =
    record x {
      arrays = slice_set x.arrays slot (cut_as (piece_at x.arrays leader) cells);
      position = suc x.position;
    }

pub loop_makes : (dists : List Dist) (tables : Tables) (leader slot : ℕ) (inputs : List ℕ) (elem : Elem) (vs : List ℤ) (x : Store)
    → length vs ≡ length (piece_at x.arrays leader).cells
    → ((i : ℕ) → i < length vs → lets_at (make_loop leader inputs elem slot) (data_of x) i ≡ Ok (word_at vs i ∷ []))
    → local_next dists tables (instr.Loop (make_loop leader inputs elem slot)) x ≡ Goes (made leader slot vs x)
unfolding loop_data
loop_makes dists tables leader slot inputs elem vs x len h =
    let l = make_loop leader inputs elem slot in
    let rows = rows_made vs (lets_at l (data_of x)) h (length vs) (omega arith) ∙ ap (λ ws. Ok (map (λ c. c ∷ []) ws)) (take_all (length vs) vs (omega arith)) in
    let all = λ (r : Result (List (List ℤ)) Trap). lifted (and_then r (λ rs. Ok (made_of l rs (data_of x)))) x in
    ap (λ m. all (rows_below (lets_at l (data_of x)) m)) (sym len)
    ∙ ap all rows
    ∙ ap (λ ws. Goes (made leader slot ws x)) (column_made vs)

-- ---- the two elements

add_lets : (a b slot i : ℕ) (at : Place) (x : Store) → lets_at (make_loop a (a ∷ b ∷ []) (add_elem at) slot) (data_of x) i ≡ Ok (wrap (word_at (piece_at x.arrays a).cells i +ℤ word_at (piece_at x.arrays b).cells i) ∷ [])
unfolding lets_at sight_at calc_of
add_lets a b slot i at x =
    let s = sight_at (make_loop a (a ∷ b ∷ []) (add_elem at) slot) (data_of x) i [] in
    rw (value_Calc s Add at (Input 0) (Input 1), value_Input s 0, value_Input s 1) refl

add_number_lets : (a slot i : ℕ) (at : Place) (n : ℤ) (x : Store) → lets_at (make_loop a (a ∷ []) (add_number_elem at n) slot) (data_of x) i ≡ Ok (wrap (word_at (piece_at x.arrays a).cells i +ℤ n) ∷ [])
unfolding lets_at sight_at calc_of
add_number_lets a slot i at n x =
    let s = sight_at (make_loop a (a ∷ []) (add_number_elem at n) slot) (data_of x) i [] in
    rw (value_Calc s Add at (Input 0) (Number n), value_Input s 0, value_Number s n) refl

-- ---- whole arrays

pub length_added : (xs ys : List ℤ) → length xs ≡ length ys → length (added xs ys) ≡ length xs
length_added [] ys e = refl
length_added (x ∷ xs) [] e = absurd (omega (arith, e))
length_added (x ∷ xs) (y ∷ ys) e = ap suc (length_added xs ys (omega (arith, e)))

at_added : (xs ys : List ℤ) (i : ℕ) → length xs ≡ length ys → i < length xs → word_at (added xs ys) i ≡ wrap (word_at xs i +ℤ word_at ys i)
at_added [] ys i e lt = absurd (omega (arith, lt))
at_added (x ∷ xs) [] i e lt = absurd (omega (arith, e))
at_added (x ∷ xs) (y ∷ ys) zero e lt = refl
at_added (x ∷ xs) (y ∷ ys) (suc i) e lt = at_added xs ys i (omega (arith, e)) (omega (arith, lt))

added_none : (xs : List ℤ) → added xs [] ≡ []
added_none [] = refl
added_none (x ∷ xs) = refl

added_cond : (t : Bool) (x y : ℤ) (xs ys : List ℤ) → added (cond t (x ∷ xs) xs) (cond t (y ∷ ys) ys) ≡ cond t (wrap (x +ℤ y) ∷ added xs ys) (added xs ys)
added_cond true x y xs ys = refl
added_cond false x y xs ys = refl

-- the parts of two arrays add up to the part of their sum
pub kept_added : (a b k : ℕ) (xs ys : List ℤ) → added (kept a b k xs) (kept a b k ys) ≡ kept a b k (added xs ys)
kept_added a b k [] ys = refl
kept_added a b k (x ∷ xs) [] = added_none (kept a b k (x ∷ xs))
kept_added a b k (x ∷ xs) (y ∷ ys) =
    let t = nat_le a k && nat_lt k b in
    added_cond t x y (kept a b (suc k) xs) (kept a b (suc k) ys)
    ∙ ap (λ l. cond t (wrap (x +ℤ y) ∷ l) l) (kept_added a b (suc k) xs ys)

number_cond : (t : Bool) (n x : ℤ) (xs : List ℤ) → added_number (cond t (x ∷ xs) xs) n ≡ cond t (wrap (x +ℤ n) ∷ added_number xs n) (added_number xs n)
number_cond true n x xs = refl
number_cond false n x xs = refl

pub kept_added_number : (a b k : ℕ) (n : ℤ) (xs : List ℤ) → added_number (kept a b k xs) n ≡ kept a b k (added_number xs n)
kept_added_number a b k n [] = refl
kept_added_number a b k n (x ∷ xs) =
    let t = nat_le a k && nat_lt k b in
    number_cond t n x (kept a b (suc k) xs) ∙ ap (λ l. cond t (wrap (x +ℤ n) ∷ l) l) (kept_added_number a b (suc k) n xs)

length_cond : (t : Bool) (x y : ℤ) (xs ys : List ℤ) → length xs ≡ length ys → length (cond t (x ∷ xs) xs) ≡ length (cond t (y ∷ ys) ys)
length_cond true x y xs ys e = ap suc e
length_cond false x y xs ys e = e

-- the parts of two arrays of one length have one length
pub kept_same_length : (a b k : ℕ) (xs ys : List ℤ) → length xs ≡ length ys → length (kept a b k xs) ≡ length (kept a b k ys)
kept_same_length a b k [] [] e = refl
kept_same_length a b k [] (y ∷ ys) e = absurd (omega (arith, e))
kept_same_length a b k (x ∷ xs) [] e = absurd (omega (arith, e))
kept_same_length a b k (x ∷ xs) (y ∷ ys) e = length_cond (nat_le a k && nat_lt k b) x y (kept a b (suc k) xs) (kept a b (suc k) ys) (kept_same_length a b (suc k) xs ys (omega (arith, e)))

-- ---- the loops

pub add_goes : (dists : List Dist) (tables : Tables) (a b slot : ℕ) (at : Place) (x : Store) → length (piece_at x.arrays a).cells ≡ length (piece_at x.arrays b).cells
    → local_next dists tables (instr.Loop (make_loop a (a ∷ b ∷ []) (add_elem at) slot)) x ≡ Goes (made a slot (added (piece_at x.arrays a).cells (piece_at x.arrays b).cells) x)
add_goes dists tables a b slot at x e =
    let xs = (piece_at x.arrays a).cells in
    let ys = (piece_at x.arrays b).cells in
    let len = length_added xs ys e in
    loop_makes dists tables a slot (a ∷ b ∷ []) (add_elem at) (added xs ys) x len
    (λ i lt. add_lets a b slot i at x ∙ ap (λ v. Ok (v ∷ [])) (sym (at_added xs ys i e (omega arith))))

pub add_number_goes : (dists : List Dist) (tables : Tables) (a slot : ℕ) (at : Place) (n : ℤ) (x : Store)
    → local_next dists tables (instr.Loop (make_loop a (a ∷ []) (add_number_elem at n) slot)) x ≡ Goes (made a slot (added_number (piece_at x.arrays a).cells n) x)
add_number_goes dists tables a slot at n x =
    let xs = (piece_at x.arrays a).cells in
    let len = length-map xs (λ (v : ℤ). wrap (v +ℤ n)) in
    loop_makes dists tables a slot (a ∷ []) (add_number_elem at n) (added_number xs n) x len
    (λ i lt. add_number_lets a slot i at n x ∙ ap (λ v. Ok (v ∷ [])) (sym (get_or-map (λ (v : ℤ). wrap (v +ℤ n)) xs i (pos 0) (pos 0) (omega arith))))

-- ---- what holds after the loop

-- a slot is set to the piece of a new whole that has the leader's length
pub Holds_made : (n c p leader : ℕ) (env : List Binding) (name : List ℕ) (whole new cells : List ℤ) (x : Store)
    → length env < c → length new ≡ length whole → Holds n c p env x
    → HoldsVector Block (block_cuts (length whole) n) whole x.number (piece_at x.arrays leader)
    → cells ≡ kept (own_from Block (block_cuts (length whole) n) x.number) (own_until Block (block_cuts (length whole) n) x.number) 0 new
    → Holds n c (suc p) (binding name (Ints new) ∷ env) (made leader (length env) cells x)
Holds_made n c p leader env name whole new cells x lt len h led is =
    let piece : Piece = cut_as (piece_at x.arrays leader) cells in
    let within : length env < length x.arrays = omega (arith, h.arrays_are) in
    let same = get_or-set_same x.arrays (length env) piece no_piece within in
    let cuts : block_cuts (length whole) n ≡ block_cuts (length new) n = ap (λ l. block_cuts l n) (sym len) in
    let held : HoldsVector Block (block_cuts (length new) n) new x.number piece =
    record {
      rows_are = led.rows_are;
      cuts_are = led.cuts_are ∙ cuts;
      cells_are = is ∙ ap (λ q. kept (own_from Block q x.number) (own_until Block q x.number) 0 new) cuts;
      short = subst (λ k. k ≤ longest) (sym len) led.short;
    } in
    record {
      ranks_are = h.ranks_are;
      position_is = ap suc h.position_is;
      words_are = h.words_are;
      arrays_are = length-set x.arrays (length env) piece ∙ h.arrays_are;
      lies = (
        subst (λ q. HoldsVector Block (block_cuts (length new) n) new x.number q) (sym same) held,
        Lies_set n x.number (length env) x.arrays piece env (omega arith) h.lies,
      );
      rest = Empty_set n x.number (length env) c x.arrays piece h.rest;
    }

-- the cells of two pieces that lie alike, added
pub added_cells : (cuts : List ℕ) (number : ℕ) (xs ys : List ℤ) (a b : Piece) → HoldsVector Block cuts xs number a → HoldsVector Block cuts ys number b
    → added a.cells b.cells ≡ kept (own_from Block cuts number) (own_until Block cuts number) 0 (added xs ys)
added_cells cuts number xs ys a b ha hb =
    ap (λ l. added l b.cells) ha.cells_are
    ∙ ap (added (kept (own_from Block cuts number) (own_until Block cuts number) 0 xs)) hb.cells_are
    ∙ kept_added (own_from Block cuts number) (own_until Block cuts number) 0 xs ys

pub added_number_cells : (cuts : List ℕ) (number : ℕ) (n : ℤ) (xs : List ℤ) (a : Piece) → HoldsVector Block cuts xs number a
    → added_number a.cells n ≡ kept (own_from Block cuts number) (own_until Block cuts number) 0 (added_number xs n)
added_number_cells cuts number n xs a ha =
    ap (λ l. added_number l n) ha.cells_are ∙ kept_added_number (own_from Block cuts number) (own_until Block cuts number) 0 n xs

-- ---- an array and a number

module _ (code : Code) (tables : Tables) (n c p : ℕ) (env : List Binding) (name : List ℕ) (at : Place) (operand : List ℕ) (v : ℤ) where
  -- the slot of the operand
  abbrev from : ℕ
  from = slot_of (map name_of env) operand

  abbrev number_set : Store → Store
  number_set x = made from (length env) (added_number (piece_at x.arrays from).cells v) x

  abbrev pub numbered_ranks : List Store → List Store
  numbered_ranks ranks = map number_set ranks

  pub number_leads : (x : Store) (xs : List Store) (out : List ℕ) → Each (Holds n c p env) (x ∷ xs)
      → instr_at code.list p ≡ instr.Loop (make_loop (slot_of (map name_of env) operand) (slot_of (map name_of env) operand ∷ []) (add_number_elem at v) (length env))
      → (j : ℕ) → run code tables (suc j) (state (x ∷ xs) out) ≡ run code tables j (state (numbered_ranks (x ∷ xs)) out)
  number_leads x xs out each i0 j =
      computes code tables (Holds n c p env) number_set (x ∷ xs) out p (instr.Loop (make_loop from (from ∷ []) (add_number_elem at v) (length env)))
      (position_each n c p env x xs each) i0 (λ f s. refl) (λ y h. add_number_goes code.arrays tables from (length env) at v y) each j

  pub number_each : length env < c → IsBound env operand → (xs : List Store) → Each (Holds n c p env) xs
      → Each (Holds n c (suc p) (binding name (Ints (added_number (array_of env operand) v)) ∷ env)) (numbered_ranks xs)
  number_each lt bound [] each = tt
  number_each lt bound (x ∷ xs) each =
      let whole = array_of env operand in
      let led = lies_at n x.number x.arrays env operand bound each.0.lies in (
        Holds_made n c p from env name whole (added_number whole v) (added_number (piece_at x.arrays from).cells v) x lt (length-map whole (λ (u : ℤ). wrap (u +ℤ v))) each.0 led
            (added_number_cells (block_cuts (length whole) n) x.number v whole (piece_at x.arrays from) led),
        number_each lt bound xs each.1,
      )

  pub number_numbered : (i : ℕ) (xs : List Store) → Numbered i xs → Numbered i (numbered_ranks xs)
  number_numbered i xs h = Numbered_map number_set (λ x. refl) i xs h

  pub number_length : (xs : List Store) → length (numbered_ranks xs) ≡ length xs
  number_length xs = length-map xs number_set

-- ---- two arrays

short_told : (n few many : ℕ) → n ≤ few → few ≤ many → n ≤ many
short_told n few many h g = omega (arith, h, g)

-- the length that a rank sees of an array
vector_length : (n number : ℕ) (whole : List ℤ) (p : Piece) → 1 ≤ n → HoldsVector Block (block_cuts (length whole) n) whole number p → piece_length p ≡ length whole
vector_length n number whole p some h =
    ap (λ l. min (get_or l (length l - 1) 0) greatest_count) h.cuts_are
    ∙ ap (λ k. min k greatest_count) (last_cut Block (length whole) n (block_cuts (length whole) n) some refl)
    ∙ told_whole (length whole) (short_told (length whole) longest greatest_count h.short (lit≤ tt))

module _ (code : Code) (tables : Tables) (n c p : ℕ) (env : List Binding) (name : List ℕ) (at : Place) (first second : List ℕ) where
  -- the slots of the operands
  abbrev left : ℕ
  left = slot_of (map name_of env) first

  abbrev right : ℕ
  right = slot_of (map name_of env) second

  abbrev add_check : Instr
  add_check = instr.Check (left ∷ right ∷ []) Equal at

  abbrev add_set : Store → Store
  add_set x = made left (length env) (added (piece_at x.arrays left).cells (piece_at x.arrays right).cells) x

  abbrev pub added_ranks : List Store → List Store
  added_ranks ranks = map add_set (map moved ranks)

  lengths : (q : ℕ) → 1 ≤ n → IsBound env first → IsBound env second → (x : Store) → Holds n c q env x
      → (piece_length (piece_at x.arrays left) ≡ length (array_of env first)) × (piece_length (piece_at x.arrays right) ≡ length (array_of env second))
  lengths q some b1 b2 x h = (
    vector_length n x.number (array_of env first) (piece_at x.arrays left) some (lies_at n x.number x.arrays env first b1 h.lies),
    vector_length n x.number (array_of env second) (piece_at x.arrays right) some (lies_at n x.number x.arrays env second b2 h.lies),
  )

  check_goes : 1 ≤ n → IsBound env first → IsBound env second → length (array_of env first) ≡ length (array_of env second) → (x : Store) → Holds n c p env x
      → local_next code.arrays tables add_check x ≡ Goes (moved x)
  unfolding check_data
  check_goes some b1 b2 e x h =
      let l = lengths p some b1 b2 x h in
      ap (λ t. lifted (unless (cond (t && true) None (Some (trap at Mismatch))) (data_of x)) x) (eq-eqb (piece_length (piece_at x.arrays right)) (piece_length (piece_at x.arrays left)) (l.1 ∙ sym e ∙ sym l.0))

  check_traps : 1 ≤ n → IsBound env first → IsBound env second → (length (array_of env first) ≡ length (array_of env second) → ⊥) → (x : Store) → Holds n c p env x
      → local_next code.arrays tables add_check x ≡ Traps (trap at Mismatch)
  unfolding check_data
  check_traps some b1 b2 ne x h =
      let l = lengths p some b1 b2 x h in
      ap (λ t. lifted (unless (cond (t && true) None (Some (trap at Mismatch))) (data_of x)) x) (ne_eqb (piece_length (piece_at x.arrays right)) (piece_length (piece_at x.arrays left)) (λ same. ne (sym l.0 ∙ sym same ∙ l.1)))

  moved_each : (xs : List Store) → Each (Holds n c p env) xs → Each (Holds n c (suc p) env) (map moved xs)
  moved_each xs each = Each_map (Holds n c p env) (Holds n c (suc p) env) moved (λ x h. Holds_same n c p env x (moved x) refl refl refl refl refl h) xs each

  cells_alike : IsBound env first → IsBound env second → length (array_of env first) ≡ length (array_of env second) → (q : ℕ) (x : Store) → Holds n c q env x
      → length (piece_at x.arrays left).cells ≡ length (piece_at x.arrays right).cells
  cells_alike b1 b2 e q x h =
      let xs = array_of env first in
      let ys = array_of env second in
      let ha = lies_at n x.number x.arrays env first b1 h.lies in
      let hb = lies_at n x.number x.arrays env second b2 h.lies in
      let cuts = block_cuts (length xs) n in
      ap length ha.cells_are
      ∙ kept_same_length (own_from Block cuts x.number) (own_until Block cuts x.number) 0 xs ys e
      ∙ ap (λ q. length (kept (own_from Block q x.number) (own_until Block q x.number) 0 ys)) (ap (λ l. block_cuts l n) e)
      ∙ sym (ap length hb.cells_are)

  pub add_leads : 1 ≤ n → IsBound env first → IsBound env second → length (array_of env first) ≡ length (array_of env second)
      → (x : Store) (xs : List Store) (out : List ℕ) → Each (Holds n c p env) (x ∷ xs)
      → instr_at code.list p ≡ instr.Check (slot_of (map name_of env) first ∷ slot_of (map name_of env) second ∷ []) Equal at
      → instr_at code.list (suc p) ≡ instr.Loop (make_loop (slot_of (map name_of env) first) (slot_of (map name_of env) first ∷ slot_of (map name_of env) second ∷ []) (add_elem at) (length env))
      → (j : ℕ) → run code tables (suc (suc j)) (state (x ∷ xs) out) ≡ run code tables j (state (added_ranks (x ∷ xs)) out)
  add_leads some b1 b2 e x xs out each i0 i1 j =
      let next = moved_each (x ∷ xs) each in
      computes code tables (Holds n c p env) moved (x ∷ xs) out p add_check (position_each n c p env x xs each) i0 (λ f s. refl) (λ y h. check_goes some b1 b2 e y h) each (suc j)
      ∙ computes code tables (Holds n c (suc p) env) add_set (map moved (x ∷ xs)) out (suc p) (instr.Loop (make_loop left (left ∷ right ∷ []) (add_elem at) (length env)))
      next.0.position_is i1 (λ f s. refl) (λ y h. add_goes code.arrays tables left right (length env) at y (cells_alike b1 b2 e (suc p) y h)) next j

  pub add_trips : 1 ≤ n → IsBound env first → IsBound env second → (length (array_of env first) ≡ length (array_of env second) → ⊥)
      → (x : Store) (xs : List Store) (out : List ℕ) → Each (Holds n c p env) (x ∷ xs)
      → instr_at code.list p ≡ instr.Check (slot_of (map name_of env) first ∷ slot_of (map name_of env) second ∷ []) Equal at
      → (j : ℕ) → run code tables (suc j) (state (x ∷ xs) out) ≡ Trapped (trap at Mismatch) (state (x ∷ xs) out)
  add_trips some b1 b2 ne x xs out each i0 j =
      let one = together_trap (local_next code.arrays tables add_check) x xs (trap at Mismatch) (check_traps some b1 b2 ne x each.0) in
      run_trips (step code tables) j (state (x ∷ xs) out) (trap at Mismatch)
      (step_at code tables (x ∷ xs) out p add_check (position_each n c p env x xs each) i0 ∙ rw one refl)

  added_store : length env < c → IsBound env first → IsBound env second → length (array_of env first) ≡ length (array_of env second) → (x : Store) → Holds n c (suc p) env x
      → Holds n c (suc (suc p)) (binding name (Ints (added (array_of env first) (array_of env second))) ∷ env) (add_set x)
  added_store lt b1 b2 e x h =
      let xs = array_of env first in
      let ys = array_of env second in
      let cuts = block_cuts (length xs) n in
      let ha = lies_at n x.number x.arrays env first b1 h.lies in
      let hb = lies_at n x.number x.arrays env second b2 h.lies in
      let hb2 = subst (λ l. HoldsVector Block (block_cuts l n) ys x.number (piece_at x.arrays right)) (sym e) hb in
      Holds_made n c (suc p) left env name xs (added xs ys) (added (piece_at x.arrays left).cells (piece_at x.arrays right).cells) x lt (length_added xs ys e) h ha
      (added_cells cuts x.number xs ys (piece_at x.arrays left) (piece_at x.arrays right) ha hb2)

  pub add_each : length env < c → IsBound env first → IsBound env second → length (array_of env first) ≡ length (array_of env second) → (xs : List Store) → Each (Holds n c p env) xs
      → Each (Holds n c (suc (suc p)) (binding name (Ints (added (array_of env first) (array_of env second))) ∷ env)) (added_ranks xs)
  add_each lt b1 b2 e xs each =
      Each_map (Holds n c (suc p) env) (Holds n c (suc (suc p)) (binding name (Ints (added (array_of env first) (array_of env second))) ∷ env)) add_set (λ x h. added_store lt b1 b2 e x h) (map moved xs) (moved_each xs each)

  pub add_numbered : (i : ℕ) (xs : List Store) → Numbered i xs → Numbered i (added_ranks xs)
  add_numbered i xs h = Numbered_map add_set (λ x. refl) i (map moved xs) (Numbered_map moved (λ x. refl) i xs h)

  pub add_length : (xs : List Store) → length (added_ranks xs) ≡ length xs
  add_length xs = length-map (map moved xs) add_set ∙ length-map xs moved
