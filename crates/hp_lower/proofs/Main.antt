-- The lockstep run of a script's code does what the script means.
use Rattle.std.proofs.Common.{◌≡◌, ℕ, suc, ◌+◌, ◌*◌, ◌<◌, ◌≤◌, List, [], ◌∷◌, ◌++◌, map, length, ℤ, refl, sym, ap, ◌∙◌, subst, arith, Result, Ok, Err, replicate, false, true, Some, None, ⊎_elim, inl, inr, Bool, cond, eqb, get_or, append-nil, one-mul}
use Rattle.std.specs.Prelude.{Contains}
use Rattle.std.specs.List.{AllByRecursion}
use Rattle.std.proofs.lemmas.List.{length-map}
use Rattle.std.proofs.lemmas.Simd.{map-map}
use Rattle.std.proofs.lemmas.Bool.{cases_eq, cases_lt, eq-eqb, ne_eqb}
use Rattle.std.proofs.lemmas.Bool.Decides.{eqb_tells}
use Rattle.std.proofs.lemmas.List.Elements.{All-from_recursion, Contains-append_cases}
use Rattle.hp_word.specs.declared.fold.FoldKind.TheVariants.{Sum}
use Rattle.hp_word.specs.declared.name.Name.{Name}
use Rattle.hp_word.specs.declared.place.Place.{Place}
use Rattle.hp_word.specs.declared.place.Trap.{Trap}
use Rattle.hp_word.specs.declared.table.Tables.{Tables}
use Rattle.hp_word.specs.Folds.{fold_of}
use Rattle.hp_word.specs.Lengths.{length_of}
use Rattle.hp_word.specs.ListRules.{filled}
use Rattle.hp_word.specs.LoopRules.{and_then}
use Rattle.hp_word.specs.Text.{printed}
use Rattle.hp_word.proofs.FoldLemmas.{fold_of_pieces}
use Rattle.hp_meaning.specs.declared.line.Line.{Line}
use Rattle.hp_meaning.specs.declared.line.Line.TheVariants.{Fill, PrintSum, AddArrays, AddNumber}
use Rattle.hp_meaning.specs.Forms.{ReadsAssigned}
use Rattle.hp_word.specs.declared.place.TrapKind.TheVariants.{Mismatch}
use Rattle.hp_word.specs.Lengths.{trap}
use Rattle.hp_meaning.specs.Arrays.{added, added_number, sum_of}
use Rattle.hp_meaning.specs.declared.seq.SeqStatus.TheVariants as status
use Rattle.hp_meaning.specs.Meaning.{Binding, Value, Ints, binding, ints_of, array_of, Seen, seen, Ending, assigned, then_lines, lines_meaning}
use Rattle.hp_spmd.specs.declared.code.Code.{Code}
use Rattle.hp_lattice.specs.declared.dist.Dist.TheVariants.{Block}
use Rattle.hp_spmd.specs.declared.instr.Instr.{Instr}
use Rattle.hp_spmd.specs.declared.instr.Instr.TheVariants as instr
use Rattle.hp_spmd.specs.declared.instr.Output.TheVariants.{Word}
use Rattle.hp_spmd.specs.declared.instr.Packing.TheVariants.{Words, Gather}
use Rattle.hp_spmd.specs.declared.instr.Unpacking.TheVariants.{Folds}
use Rattle.hp_spmd.specs.declared.store.Piece.{Piece}
use Rattle.hp_spmd.specs.declared.store.Store.{Store}
use Rattle.hp_cuts.specs.Blocks.{block_cuts}
use Rattle.hp_spmd.specs.Cuts.{own_from, own_until}
use Rattle.hp_spmd.specs.Layout.{HoldsPiece, IsLaid, Numbered, Layout, vector}
use Rattle.hp_spmd.specs.Lockstep.{State, state, Reached, Ended, Trapped, Limit, Ends, step, run}
use Rattle.hp_spmd.specs.Store.{piece_at, dist_at, instr_at, kept}
use Rattle.hp_spmd.proofs.LockRun.{run_ends}
use Rattle.hp_lower.specs.Code.{slot_of, lines_code, sum_loop, make_loop, add_elem, add_number_elem}
use Rattle.hp_lower.specs.Correct.{IsTrap, env_of, slot_value}
use Rattle.hp_spmd.specs.declared.instr.CheckRule.TheVariants.{Equal}
use Rattle.hp_lower.proofs.Adds.{add_leads, add_trips, add_each, add_numbered, add_length, number_leads, number_each, number_numbered, number_length}
use Rattle.hp_lower.proofs.Fills.{length_short, fill_leads, fill_trips, fill_each, fill_numbered, fill_length, filled_ranks}
use Rattle.hp_lower.proofs.Holds.{AreEmpty, HoldsVector, HoldsWhole, Lies, Holds}
use Rattle.hp_lower.proofs.Joins.{IsBound, name_of, lies_at, whole_joins}
use Rattle.hp_lower.proofs.Steps.{Each, step_at}
use Rattle.hp_lower.proofs.Sums.{own_sum, after_9, each_9, sum_leads, sum_text, sum_numbered, sum_length}

-- these instructions stand in the list from this place on
abbrev pub HasAt : List Instr → ℕ → List Instr → Type 0
HasAt list p [] = Unit {0}
HasAt list p (i ∷ is) = (instr_at list p ≡ i) × HasAt list (suc p) is

-- a run that is over does what the meaning says
abbrev pub Meets : Code → Reached → Ending → Type 0
Meets code (Ended s) e = (e.status ≡ status.Done) × (s.out ≡ e.at.out) × Layout code s.ranks (env_of e.at.env)
Meets code (Trapped t s) e = IsTrap e.status × (s.out ≡ e.at.out)
Meets code (Limit s) e = ⊥

-- After some instructions, at most sixteen for each tick from here on, the run from this state is over, and does what
-- the meaning says.
abbrev pub Finishes : Code → Tables → State → ℕ → Ending → Type 0
Finishes code tables s ticks e = (m : ℕ) × Meets code (run code tables m s) e × (m + 16 * ticks ≤ 16 * e.at.ticks)

-- how many arrays lines make
abbrev pub fills : List Line → ℕ
fills [] = 0
fills (Fill name at value count ∷ ls) = suc (fills ls)
fills (PrintSum name ∷ ls) = fills ls
fills (AddArrays name at left right ∷ ls) = suc (fills ls)
fills (AddNumber name at left n ∷ ls) = suc (fills ls)

-- ---- the layout

-- a slot that is not assigned yet has no elements
value_above : (bs : List Binding) (slot : ℕ) → length bs ≤ slot → slot_value bs slot ≡ []
value_above [] slot le = refl
value_above (b ∷ bs) slot le =
    let ne : slot ≡ length bs → ⊥ = λ e. omega (arith, e, le) in
    ap (λ t. cond t (ints_of b.value) (slot_value bs slot)) (ne_eqb slot (length bs) ne) ∙ value_above bs slot (omega arith)

-- a slot's array lies in it
lies_below : (n number slot : ℕ) (pieces : List Piece) (bs : List Binding) → slot < length bs → Lies n number pieces bs → HoldsVector Block (block_cuts (length (slot_value bs slot)) n) (slot_value bs slot) number (piece_at pieces slot)
lies_below n number slot pieces [] lt lies = absurd (omega (arith, lt))
lies_below n number slot pieces (b ∷ bs) lt lies =
    ⊎_elim
    (λ e. subst (HoldsWhole n number (piece_at pieces slot)) (sym (ap (λ t. cond t (ints_of b.value) (slot_value bs slot)) (eq-eqb slot (length bs) e))) (subst (λ k. HoldsWhole n number (piece_at pieces k) (ints_of b.value)) (sym e) lies.0))
    (λ ne.
    let lt' : slot < length bs = omega (arith, lt, ne) in
    subst (HoldsWhole n number (piece_at pieces slot)) (sym (ap (λ t. cond t (ints_of b.value) (slot_value bs slot)) (ne_eqb slot (length bs) ne))) (lies_below n number slot pieces bs lt' lies.1))
    (cases_eq slot (length bs))

lies_slot : (n number slot c : ℕ) (pieces : List Piece) (bs : List Binding) → slot < c → Lies n number pieces bs → AreEmpty n number (length bs) c pieces → HoldsWhole n number (piece_at pieces slot) (slot_value bs slot)
lies_slot n number slot c pieces bs lt lies rest =
    ⊎_elim
    (λ below. lies_below n number slot pieces bs below lies)
    (λ above. subst (HoldsWhole n number (piece_at pieces slot)) (sym (value_above bs slot above)) (rest slot above lt))
    (cases_lt slot (length bs))

-- a vector's cells are one row of its columns
held_piece : (cuts : List ℕ) (whole : List ℤ) (number : ℕ) (p : Piece) → HoldsVector Block cuts whole number p → HoldsPiece Block cuts (vector whole) number p
held_piece cuts whole number p h =
    record {
      rows_are = h.rows_are;
      cuts_are = h.cuts_are;
      cells_are = h.cells_are ∙ ap (λ a. kept a (own_until Block cuts number) 0 whole) (sym (one-mul (own_from Block cuts number))) ∙ ap (λ b. kept (1 * own_from Block cuts number) b 0 whole) (sym (one-mul (own_until Block cuts number)));
    }

each_lies : (n c p slot : ℕ) (env : List Binding) → slot < c → (xs : List Store) → Each (Holds n c p env) xs
    → AllByRecursion (λ x. HoldsPiece Block (block_cuts (length (slot_value env slot)) n) (vector (slot_value env slot)) x.number (piece_at x.arrays slot)) xs
each_lies n c p slot env lt [] each = tt
each_lies n c p slot env lt (x ∷ xs) each =
    (held_piece (block_cuts (length (slot_value env slot)) n) (slot_value env slot) x.number (piece_at x.arrays slot) (lies_slot n x.number slot c x.arrays env lt each.0.lies each.0.rest), each_lies n c p slot env lt xs each.1)

each_counts : (n c p m : ℕ) (env : List Binding) → n ≡ m → (xs : List Store) → Each (Holds n c p env) xs → AllByRecursion (λ x. x.ranks ≡ m) xs
each_counts n c p m env e [] each = tt
each_counts n c p m env e (x ∷ xs) each = (each.0.ranks_are ∙ e, each_counts n c p m env e xs each.1)

-- all arrays of a code lie in blocks, and it has so many
abbrev pub InBlocks : Code → ℕ → Type 0
InBlocks code c = ((k : ℕ) → dist_at code.arrays k ≡ Block) × (length code.arrays ≡ c)

no_word : (value : ℤ) → None ≡ Some value → ⊥
no_word value e = cc

layout : (code : Code) (n c p : ℕ) (env : List Binding) → InBlocks code c → (xs : List Store) → length xs ≡ n → Numbered 0 xs → Each (Holds n c p env) xs → Layout code xs (env_of env)
layout code n c p env blocks xs count numbers each =
    record {
      numbers = numbers;
      counts = All-from_recursion (λ x. x.ranks ≡ length xs) xs (each_counts n c p (length xs) env (sym count) xs each);
      cuts = λ slot. block_cuts (length (slot_value env slot)) n;
      arrays = λ slot lt.
          let lt' : slot < c = omega (arith, lt, blocks.1) in
          let whole = slot_value env slot in
          subst (λ d. IsLaid d xs slot (block_cuts (length whole) n) (vector whole)) (sym (blocks.0 slot))
          (record {
            columns = length whole;
            size = sym (one-mul (length whole));
            may = ap (block_cuts (length whole)) (sym count);
            held = All-from_recursion (λ x. HoldsPiece Block (block_cuts (length whole) n) (vector whole) x.number (piece_at x.arrays slot)) xs (each_lies n c p slot env lt' xs each);
          });
      words = λ w value e. absurd (no_word value e);
    }

-- ---- the lines

-- the names stay bound, and a new one is bound
bound_more : (names : List (List ℕ)) (env : List Binding) (name : List ℕ) (value : Value) → ((m : List ℕ) → Contains names m → IsBound env m) → (m : List ℕ) → Contains (names ++ name ∷ []) m → IsBound (binding name value ∷ env) m
bound_more names env name value known m h =
    ⊎_elim (λ old. inr (known m old)) (λ new. inl (only name m new)) (Contains-append_cases names (name ∷ []) m h)
  where
    only : (a b : List ℕ) → Contains (a ∷ []) b → a ≡ b
    only a b h = let first : h.0 ≡ 0 = omega (arith, h.1) in ap (λ k. get_or (a ∷ []) k b) (sym first) ∙ h.2

each_at : (n c p : ℕ) (env : List Binding) (name : List ℕ) → IsBound env name → (xs : List Store) → Each (Holds n c p env) xs → Each (λ x. HoldsVector Block (block_cuts (length (array_of env name)) n) (array_of env name) x.number (piece_at x.arrays (slot_of (map name_of env) name))) xs
each_at n c p env name bound [] each = tt
each_at n c p env name bound (x ∷ xs) each = (lies_at n x.number x.arrays env name bound each.0.lies, each_at n c p env name bound xs each.1)

-- the sum of the ranks' sums is that of the whole
whole_sum : (n c p : ℕ) (env : List Binding) (name : List ℕ) → IsBound env name → (xs : List Store) → 1 ≤ n → length xs ≡ n → Numbered 0 xs → Each (Holds n c p env) xs → fold_of Sum (map (own_sum (slot_of (map name_of env) name)) xs) ≡ fold_of Sum (array_of env name)
whole_sum n c p env name bound xs some count num each =
    let slot = slot_of (map name_of env) name in
    let cells = λ (x : Store). (piece_at x.arrays slot).cells in
    sym (ap (fold_of Sum) (map-map (fold_of Sum) cells xs))
    ∙ fold_of_pieces Sum (map cells xs)
    ∙ ap (fold_of Sum) (whole_joins n slot (array_of env name) xs some count num (each_at n c p env name bound xs each))

-- what all lines share: the code, the tables, and how many ranks and arrays there are
record Run (code : Code) (n c : ℕ) : Type 0 where
  some : 1 ≤ n
  blocks : InBlocks code c

fill_run : (code : Code) (tables : Tables) (n c p : ℕ) (env : List Binding) (name : Name) (at : Place) (v k : ℤ) (ticks : ℕ) (rest : Seen → Ending) (x : Store) (xs : List Store) (out : List ℕ)
    → Run code n c → length env < c → Each (Holds n c p env) (x ∷ xs) → Numbered 0 (x ∷ xs) → length (x ∷ xs) ≡ n
    → instr_at code.list p ≡ instr.Const 0 v → instr_at code.list (suc p) ≡ instr.Const 1 k → instr_at code.list (suc (suc p)) ≡ instr.Fill (length env) 0 1 at
    → ((len : ℕ) (y : Store) (ys : List Store) → Each (Holds n c (suc (suc (suc p))) (binding name.bytes (Ints (replicate len v)) ∷ env)) (y ∷ ys) → Numbered 0 (y ∷ ys) → length (y ∷ ys) ≡ n → Finishes code tables (state (y ∷ ys) out) (ticks + 4) (rest (seen (binding name.bytes (Ints (replicate len v)) ∷ env) out (ticks + 4))))
    → (r : Result ℕ Trap) → length_of at k ≡ r → Finishes code tables (state (x ∷ xs) out) ticks (then_lines (assigned name (and_then r (λ len. Ok (replicate len v))) (seen env out ticks)) (seen env out ticks) rest)
fill_run code tables n c p env name at v k ticks rest x xs out shared lt each num count i0 i1 i2 next (Ok len) e =
    let leads = fill_leads code tables n c p env name.bytes at v k len e x xs out each i0 i1 i2 in
    let ys = filled_ranks code tables n c p env name.bytes at v k len (x ∷ xs) in
    let go = next len _ _
    (fill_each code tables n c p env name.bytes at v k len lt (length_short at k len e) (shared.blocks.0 (length env)) (x ∷ xs) each)
    (fill_numbered code tables n c p env name.bytes at v k len 0 (x ∷ xs) num)
    (fill_length code tables n c p env name.bytes at v k len (x ∷ xs) ∙ count) in
    (suc (suc (suc go.0)), subst (λ q. Meets code q (rest (seen (binding name.bytes (Ints (replicate len v)) ∷ env) out (ticks + 4)))) (sym (leads go.0)) go.1, omega (arith, go.2))
fill_run code tables n c p env name at v k ticks rest x xs out shared lt each num count i0 i1 i2 next (Err t) e =
    let trips = fill_trips code tables n c p env name.bytes at v k t e x xs out each i0 i1 i2 0 in
    (3, subst (λ q. Meets code q (Rattle.hp_meaning.specs.Meaning.trapped t (seen env out ticks))) (sym trips) (tt, refl), omega arith)

sum_run : (code : Code) (tables : Tables) (n c p : ℕ) (env : List Binding) (name : Name) (ticks : ℕ) (e : Ending) (x : Store) (xs : List Store) (out : List ℕ)
    → Run code n c → IsBound env name.bytes → Each (Holds n c p env) (x ∷ xs) → Numbered 0 (x ∷ xs) → length (x ∷ xs) ≡ n
    → HasAt code.list p (instr.Loop (sum_loop (slot_of (map name_of env) name.bytes)) ∷ instr.Pack (Words (2 ∷ [])) ∷ instr.Post false ∷ instr.Take false ∷ instr.Unpack (Folds ((2, Sum) ∷ [])) ∷ instr.Pack (Gather (Word 2 false)) ∷ instr.Post true ∷ instr.Take true ∷ instr.Write (Word 2 false) ∷ [])
    → ((y : Store) (ys : List Store) → Each (Holds n c (suc (suc (suc (suc (suc (suc (suc (suc (suc p))))))))) env) (y ∷ ys) → Numbered 0 (y ∷ ys) → length (y ∷ ys) ≡ n → Finishes code tables (state (y ∷ ys) (out ++ printed false (fold_of Sum (array_of env name.bytes)))) (ticks + 3) e)
    → Finishes code tables (state (x ∷ xs) out) ticks e
sum_run code tables n c p env name ticks e x xs out shared bound each num count has next =
    let slot = slot_of (map name_of env) name.bytes in
    let leads = sum_leads code tables n c p env slot x xs out each has.0 has.1.0 has.1.1.0 has.1.1.1.0 has.1.1.1.1.0 has.1.1.1.1.1.0 has.1.1.1.1.1.1.0 has.1.1.1.1.1.1.1.0 has.1.1.1.1.1.1.1.1.0 in
    let text = sum_text code tables n c p env slot x xs shared.some num.0 each ∙ ap (printed false) (whole_sum n c p env name.bytes bound (x ∷ xs) shared.some count num each) in
    let go = next _ _
    (each_9 code tables n c p env slot (x ∷ xs) each)
    (sum_numbered code tables n c p env slot 0 (x ∷ xs) num)
    (sum_length code tables n c p env slot (x ∷ xs) ∙ count) in
    let reached = leads go.0 ∙ ap (λ t. run code tables go.0 (state (after_9 code tables n c p env slot (x ∷ xs)) (out ++ t))) text in
    (suc (suc (suc (suc (suc (suc (suc (suc (suc go.0)))))))), subst (λ q. Meets code q e) (sym reached) go.1, omega (arith, go.2))

add_run : (code : Code) (tables : Tables) (n c p : ℕ) (env : List Binding) (name : Name) (at : Place) (left right : Name) (ticks : ℕ) (rest : Seen → Ending) (x : Store) (xs : List Store) (out : List ℕ)
    → Run code n c → length env < c → IsBound env left.bytes → IsBound env right.bytes → Each (Holds n c p env) (x ∷ xs) → Numbered 0 (x ∷ xs) → length (x ∷ xs) ≡ n
    → instr_at code.list p ≡ instr.Check (slot_of (map name_of env) left.bytes ∷ slot_of (map name_of env) right.bytes ∷ []) Equal at
    → instr_at code.list (suc p) ≡ instr.Loop (make_loop (slot_of (map name_of env) left.bytes) (slot_of (map name_of env) left.bytes ∷ slot_of (map name_of env) right.bytes ∷ []) (add_elem at) (length env))
    → ((sum : List ℤ) (y : Store) (ys : List Store) → Each (Holds n c (suc (suc p)) (binding name.bytes (Ints sum) ∷ env)) (y ∷ ys) → Numbered 0 (y ∷ ys) → length (y ∷ ys) ≡ n → Finishes code tables (state (y ∷ ys) out) (ticks + 4) (rest (seen (binding name.bytes (Ints sum) ∷ env) out (ticks + 4))))
    → Finishes code tables (state (x ∷ xs) out) ticks (then_lines (assigned name (sum_of at (array_of env left.bytes) (array_of env right.bytes)) (seen env out ticks)) (seen env out ticks) rest)
add_run code tables n c p env name at left right ticks rest x xs out shared lt b1 b2 each num count i0 i1 next =
    ⊎_elim alike differ (eqb_tells (length (array_of env left.bytes)) (length (array_of env right.bytes)))
  where
    goal : Bool → Ending
    goal t = then_lines (assigned name (cond t (Ok (added (array_of env left.bytes) (array_of env right.bytes))) (Err (trap at Mismatch))) (seen env out ticks)) (seen env out ticks) rest

    alike : (eqb (length (array_of env left.bytes)) (length (array_of env right.bytes)) ≡ true) × (length (array_of env left.bytes) ≡ length (array_of env right.bytes))
        → Finishes code tables (state (x ∷ xs) out) ticks (then_lines (assigned name (sum_of at (array_of env left.bytes) (array_of env right.bytes)) (seen env out ticks)) (seen env out ticks) rest)
    alike h =
        let leads = add_leads code tables n c p env name.bytes at left.bytes right.bytes shared.some b1 b2 h.1 x xs out each i0 i1 in
        let go = next (added (array_of env left.bytes) (array_of env right.bytes)) _ _
        (add_each code tables n c p env name.bytes at left.bytes right.bytes lt b1 b2 h.1 (x ∷ xs) each)
        (add_numbered code tables n c p env name.bytes at left.bytes right.bytes 0 (x ∷ xs) num)
        (add_length code tables n c p env name.bytes at left.bytes right.bytes (x ∷ xs) ∙ count) in
        subst (λ t. Finishes code tables (state (x ∷ xs) out) ticks (goal t)) (sym h.0)
        (suc (suc go.0), subst (λ q. Meets code q (goal true)) (sym (leads go.0)) go.1, omega (arith, go.2))

    differ : (eqb (length (array_of env left.bytes)) (length (array_of env right.bytes)) ≡ false) × (length (array_of env left.bytes) ≡ length (array_of env right.bytes) → ⊥)
        → Finishes code tables (state (x ∷ xs) out) ticks (then_lines (assigned name (sum_of at (array_of env left.bytes) (array_of env right.bytes)) (seen env out ticks)) (seen env out ticks) rest)
    differ h =
        let trips = add_trips code tables n c p env name.bytes at left.bytes right.bytes shared.some b1 b2 h.1 x xs out each i0 0 in
        subst (λ t. Finishes code tables (state (x ∷ xs) out) ticks (goal t)) (sym h.0)
        (1, subst (λ q. Meets code q (goal false)) (sym trips) (tt, refl), omega arith)

number_run : (code : Code) (tables : Tables) (n c p : ℕ) (env : List Binding) (name : Name) (at : Place) (left : Name) (v : ℤ) (ticks : ℕ) (e : Ending) (x : Store) (xs : List Store) (out : List ℕ)
    → length env < c → IsBound env left.bytes → Each (Holds n c p env) (x ∷ xs) → Numbered 0 (x ∷ xs) → length (x ∷ xs) ≡ n
    → instr_at code.list p ≡ instr.Loop (make_loop (slot_of (map name_of env) left.bytes) (slot_of (map name_of env) left.bytes ∷ []) (add_number_elem at v) (length env))
    → ((y : Store) (ys : List Store) → Each (Holds n c (suc p) (binding name.bytes (Ints (added_number (array_of env left.bytes) v)) ∷ env)) (y ∷ ys) → Numbered 0 (y ∷ ys) → length (y ∷ ys) ≡ n → Finishes code tables (state (y ∷ ys) out) (ticks + 4) e)
    → Finishes code tables (state (x ∷ xs) out) ticks e
number_run code tables n c p env name at left v ticks e x xs out lt bound each num count i0 next =
    let leads = number_leads code tables n c p env name.bytes at left.bytes v x xs out each i0 in
    let go = next _ _
    (number_each code tables n c p env name.bytes at left.bytes v lt bound (x ∷ xs) each)
    (number_numbered code tables n c p env name.bytes at left.bytes v 0 (x ∷ xs) num)
    (number_length code tables n c p env name.bytes at left.bytes v (x ∷ xs) ∙ count) in
    (suc go.0, subst (λ q. Meets code q e) (sym (leads go.0)) go.1, omega (arith, go.2))

-- no new name
known_same : (names : List (List ℕ)) (env : List Binding) → ((m : List ℕ) → Contains names m → IsBound env m) → (m : List ℕ) → Contains (names ++ []) m → IsBound env m
known_same names env known m h = known m (subst (λ l. Contains l m) (append-nil names) h)

length_names : (env : List Binding) → length (map name_of env) ≡ length env
length_names env = length-map env name_of

-- the code of lines does what they mean, whatever came before
pub lines_run : (code : Code) (tables : Tables) (n c p : ℕ) (env : List Binding) (names : List (List ℕ)) (lines : List Line) (ticks : ℕ) (x : Store) (xs : List Store) (out : List ℕ)
    → 1 ≤ n → InBlocks code c → length env + fills lines ≤ c
    → ((m : List ℕ) → Contains names m → IsBound env m) → ReadsAssigned names lines
    → Each (Holds n c p env) (x ∷ xs) → Numbered 0 (x ∷ xs) → length (x ∷ xs) ≡ n
    → HasAt code.list p (lines_code (map name_of env) lines)
    → Finishes code tables (state (x ∷ xs) out) ticks (lines_meaning lines (seen env out ticks))
unfolding filled
lines_run code tables n c p env names [] ticks x xs out some blocks room known reads each num count has =
    let ends : step code tables (state (x ∷ xs) out) ≡ Ends = step_at code tables (x ∷ xs) out p instr.Halt each.0.position_is has.0 in
    (0, subst (λ q. Meets code q (lines_meaning [] (seen env out ticks))) (sym (run_ends (step code tables) 0 (state (x ∷ xs) out) ends)) (refl, refl, layout code n c p env blocks (x ∷ xs) count num each), omega arith)
lines_run code tables n c p env names (Fill name at v k ∷ ls) ticks x xs out some blocks room known reads each num count has =
    fill_run code tables n c p env name at v k ticks (lines_meaning ls) x xs out (record { some = some; blocks = blocks }) (omega arith) each num count has.0 has.1.0
    (has.1.1.0 ∙ ap (λ l. instr.Fill l 0 1 at) (length_names env))
    (λ len y ys each2 num2 count2. lines_run code tables n c (suc (suc (suc p))) (binding name.bytes (Ints (replicate len v)) ∷ env) (names ++ name.bytes ∷ []) ls (ticks + 4) y ys out some blocks (omega arith) (bound_more names env name.bytes (Ints (replicate len v)) known) reads.1 each2 num2 count2 has.1.1.1)
    (length_of at k) refl
lines_run code tables n c p env names (PrintSum name ∷ ls) ticks x xs out some blocks room known reads each num count has =
    sum_run code tables n c p env name ticks (lines_meaning (PrintSum name ∷ ls) (seen env out ticks)) x xs out (record { some = some; blocks = blocks }) (known name.bytes reads.0.0) each num count
    (has.0, (has.1.0, (has.1.1.0, (has.1.1.1.0, (has.1.1.1.1.0, (has.1.1.1.1.1.0, (has.1.1.1.1.1.1.0, (has.1.1.1.1.1.1.1.0, (has.1.1.1.1.1.1.1.1.0, tt)))))))))
    (λ y ys each2 num2 count2. lines_run code tables n c (suc (suc (suc (suc (suc (suc (suc (suc (suc p))))))))) env (names ++ []) ls (ticks + 3) y ys (out ++ printed false (fold_of Sum (array_of env name.bytes))) some blocks room (known_same names env known) reads.1 each2 num2 count2 has.1.1.1.1.1.1.1.1.1)
lines_run code tables n c p env names (AddArrays name at left right ∷ ls) ticks x xs out some blocks room known reads each num count has =
    add_run code tables n c p env name at left right ticks (lines_meaning ls) x xs out (record { some = some; blocks = blocks }) (omega arith) (known left.bytes reads.0.0) (known right.bytes reads.0.1.0) each num count has.0
    (has.1.0 ∙ ap (λ l. instr.Loop (make_loop (slot_of (map name_of env) left.bytes) (slot_of (map name_of env) left.bytes ∷ slot_of (map name_of env) right.bytes ∷ []) (add_elem at) l)) (length_names env))
    (λ sum y ys each2 num2 count2. lines_run code tables n c (suc (suc p)) (binding name.bytes (Ints sum) ∷ env) (names ++ name.bytes ∷ []) ls (ticks + 4) y ys out some blocks (omega arith) (bound_more names env name.bytes (Ints sum) known) reads.1 each2 num2 count2 has.1.1)
lines_run code tables n c p env names (AddNumber name at left v ∷ ls) ticks x xs out some blocks room known reads each num count has =
    number_run code tables n c p env name at left v ticks (lines_meaning (AddNumber name at left v ∷ ls) (seen env out ticks)) x xs out (omega arith) (known left.bytes reads.0.0) each num count
    (has.0 ∙ ap (λ l. instr.Loop (make_loop (slot_of (map name_of env) left.bytes) (slot_of (map name_of env) left.bytes ∷ []) (add_number_elem at v) l)) (length_names env))
    (λ y ys each2 num2 count2. lines_run code tables n c (suc p) (binding name.bytes (Ints (added_number (array_of env left.bytes) v)) ∷ env) (names ++ name.bytes ∷ []) ls (ticks + 4) y ys out some blocks (omega arith) (bound_more names env name.bytes (Ints (added_number (array_of env left.bytes) v)) known) reads.1 each2 num2 count2 has.1)
