-- One vector behind another, both whole on each rank.
use Rattle.std.proofs.Common.{◌≡◌, ◌∙◌, refl, sym, subst, ap, arith, Bool, true, false, cond, ℕ, ◌+◌, ◌*◌, ◌<◌, ◌≤◌, inl, inr, ℤ, List, [], ◌∷◌, ◌++◌, append-nil, length, length-append, get_or, map, add-zero, div-one, lit<, Some, None, Ok, Err}
use Rattle.std.specs.Prelude.{◌-◌, min, nat_le, nat_lt, slice_index_or, sum, flat_map}
use Rattle.std.specs.List.{All, AllByRecursion, list_all}
use Rattle.std.proofs.lemmas.Bool.{and_parts, cases_lt, le-leb, lt-leb, ltb-true}
use Rattle.hp_word.specs.declared.place.Place.{Place}
use Rattle.hp_word.specs.declared.place.TrapKind.TheVariants.{TooLong}
use Rattle.hp_word.specs.declared.table.Tables.{Tables}
use Rattle.hp_word.specs.Lengths.{longest, trap}
use Rattle.hp_word.specs.ListRules.{appended}
use Rattle.hp_lattice.specs.declared.dist.Dist.TheVariants.{Rep}
use Rattle.hp_spmd.specs.declared.code.Code.{Code}
use Rattle.hp_spmd.specs.declared.instr.CheckRule.TheVariants.{Fits}
use Rattle.hp_spmd.specs.declared.instr.Instr.{Instr}
use Rattle.hp_spmd.specs.declared.instr.Instr.TheVariants as instr
use Rattle.hp_spmd.specs.declared.store.Piece.{Piece}
use Rattle.hp_spmd.specs.declared.store.Store.{Store}
use Rattle.hp_spmd.specs.Arrays.{with_array}
use Rattle.hp_spmd.specs.Kinds.{Kind}
use Rattle.hp_spmd.specs.Layout.{Env, IsLaid, vector}
use Rattle.hp_spmd.specs.Local.{local_next}
use Rattle.hp_spmd.specs.Lockstep.{State, position_of, state}
use Rattle.hp_spmd.specs.Matrices.{stack_data, whole_piece}
use Rattle.hp_spmd.specs.Next.{Goes, lifted}
use Rattle.hp_spmd.specs.Scalars.{greatest_count, lengths_of, piece_length, unless}
use Rattle.hp_spmd.specs.Store.{data_of, dist_at, piece_at}
use Rattle.hp_spmd.proofs.MovedLemmas.{sum_first}
use Rattle.hp_spmd.proofs.ShareNext.{next_shared}
use Rattle.hp_snippet.specs.Moves.{arrays_alone}
use Rattle.hp_snippet.specs.Outcomes.{Does}
use Rattle.hp_snippet.specs.Promises.{IsSound, IsStraight, IsWork, LeavesShared, Performs, StandBefore, StandBehind, price_of}
use Rattle.hp_snippet.proofs.Naming.{each_below, named_at}
use Rattle.hp_snippet.proofs.Performing.{computed_by, rank_same, together_one}
use Rattle.hp_alone.specs.Dealing.{array_made}
use Rattle.hp_alone.specs.Joining.{MayJoin, join_code, joined}
use Rattle.hp_alone.specs.Looking.{nothing_written}
use Rattle.hp_alone.proofs.Alone.{alone_then, first_fails, stand_behind}
use Rattle.hp_alone.proofs.ArraysMade.{OnePiece}
use Rattle.hp_alone.proofs.Looked.{check_goes, looked_lays, looked_stays}
use Rattle.hp_alone.proofs.PieceMade.{set_piece, sets_piece, whole_held}
use Rattle.hp_alone.proofs.WordsMade.{vector_columns, whole_cells}

-- ---- lengths

-- counts that stand still above a limit are within it together just where those are that they stand for
fits_alike : (m n limit most : ℕ) → limit < most → nat_le (sum (min m most ∷ min n most ∷ [])) limit ≡ nat_le (m + n) limit
fits_alike m n limit most lt =
    let a = min m most in
    let b = min n most in
    let both : sum (a ∷ b ∷ []) ≡ a + b = sum_first a (b ∷ []) ∙ ap (λ k. a + k) (sum_first b [] ∙ add-zero b) in
    ap (λ k. nat_le k limit) both
    ∙ elim (cases_lt limit (m + n)) as (λ _. nat_le (a + b) limit ≡ nat_le (m + n) limit) [
      | inl over ↦ let more : limit < a + b = omega (arith, lt, over) in lt-leb (a + b) limit more ∙ sym (lt-leb (m + n) limit over)
      | inr fits ↦ let within : a + b ≤ limit = omega (arith, lt, fits) in le-leb (a + b) limit within ∙ sym (le-leb (m + n) limit fits)
    ]

limit_below : longest < greatest_count
limit_below = lit< tt

-- ---- what each rank does

stack_goes : (code : Code) (tables : Tables) (to left right : ℕ) (at : Place) (x : Store) (cells : List ℤ) → flat_map (λ (q : Piece). q.cells) (map (piece_at x.arrays) (left ∷ right ∷ [])) ≡ cells → nat_le (length cells) longest ≡ true
    → local_next code.arrays tables (instr.Stack to (left ∷ right ∷ []) true at) x ≡ Goes (computed_by (set_piece to (λ y. whole_piece 1 cells)) x)
unfolding stack_data
stack_goes code tables to left right at x cells e fits =
    ap (λ cs. lifted (cond (nat_le (length cs) longest) (Ok (with_array to (whole_piece 1 cs) (data_of x))) (Err (trap at TooLong))) x) e
    ∙ ap (λ b. lifted (cond b (Ok (with_array to (whole_piece 1 cells) (data_of x))) (Err (trap at TooLong))) x) fits

module _ (code : Code) (tables : Tables) (price : Kind → ℕ) (s : State) (env : Env) (to left right : ℕ) (at : Place) (h : StandBefore code (join_code to left right at) s env) (needs : MayJoin to left right code s.ranks env) where
  abbrev look : Instr
  look = instr.Check (left ∷ right ∷ []) Fits at

  abbrev stack : Instr
  stack = instr.Stack to (left ∷ right ∷ []) true at

  abbrev first : List ℤ
  first = (env.arrays left).cells

  abbrev second : List ℤ
  second = (env.arrays right).cells

  sides_there : AllByRecursion (λ k. k < length code.arrays) (left ∷ right ∷ [])
  sides_there = each_below (λ a. a) (length code.arrays) (left ∷ right ∷ []) (named_at code (position_of s.ranks) look h.stand.0)

  -- a vector that is whole on each rank is as long as each sees it
  seen : (k : ℕ) → k < length code.arrays → dist_at code.arrays k ≡ Rep → (env.arrays k).rows ≡ 1 → All (λ (x : Store). piece_length (piece_at x.arrays k) ≡ min (length (env.arrays k).cells) greatest_count) s.ranks
  seen k there rep one i d lt =
      let laid = subst (λ dist. IsLaid dist s.ranks k (h.lays.cuts k) (env.arrays k)) rep (h.lays.arrays k there) in
      ap (λ cs. min (slice_index_or cs (length cs - 1) 0) greatest_count) ((laid.held i d lt).cuts_are ∙ laid.may) ∙ ap (λ n. min n greatest_count) (sym (vector_columns (env.arrays k) laid.columns one laid.size))

  -- all see alike whether both are too long
  test_alike : All (λ (x : Store). nat_le (sum (lengths_of (left ∷ right ∷ []) x.arrays)) longest ≡ nat_le (length first + length second) longest) s.ranks
  test_alike i d lt =
      let x = get_or s.ranks i d in
      ap (λ n. nat_le (sum (n ∷ piece_length (piece_at x.arrays right) ∷ [])) longest) (seen left sides_there.0 needs.left_whole needs.left_vector i d lt)
      ∙ ap (λ n. nat_le (sum (min (length first) greatest_count ∷ n ∷ [])) longest) (seen right sides_there.1.0 needs.right_whole needs.right_vector i d lt)
      ∙ fits_alike (length first) (length second) longest greatest_count limit_below

  looks : (b : Bool) → nat_le (length first + length second) longest ≡ b → All (λ x. local_next code.arrays tables look x ≡ lifted (unless (cond b None (Some (trap at TooLong))) (data_of x)) x) s.ranks
  looks b e i d lt =
      let x = get_or s.ranks i d in
      check_goes code tables (left ∷ right ∷ []) Fits at x (lengths_of (left ∷ right ∷ []) x.arrays) refl ∙ ap (λ t. lifted (unless (cond t None (Some (trap at TooLong))) (data_of x)) x) (test_alike i d lt ∙ e)

  -- where they fit

  abbrev checked : List Store
  checked = map (computed_by data_of) s.ranks

  before : StandBefore code (stack ∷ []) (state checked s.out) env
  before =
      stand_behind code tables price look (stack ∷ []) s env data_of h env
      (λ i d lt. let x = get_or s.ranks i d in rank_same code (length s.ranks) x (computed_by data_of x) refl refl refl refl refl (h.each i d lt))
      (looked_lays code s.ranks env h.lays)

  ends_meet : All (λ (x : Store). flat_map (λ (q : Piece). q.cells) (map (piece_at x.arrays) (left ∷ right ∷ [])) ≡ first ++ second) checked
  ends_meet i d lt =
      let x = get_or checked i d in
      ap (λ cs. cs ++ ((piece_at x.arrays right).cells ++ [])) (whole_cells code checked env left sides_there.0 needs.left_whole before.lays i d lt)
      ∙ ap (λ cs. first ++ cs) (append-nil (piece_at x.arrays right).cells ∙ whole_cells code checked env right sides_there.1.0 needs.right_whole before.lays i d lt)

  piece : OnePiece (dist_at code.arrays to) checked (vector (first ++ second)) (0 ∷ length (first ++ second) ∷ []) (λ x. whole_piece 1 (first ++ second))
  piece =
      let n = length (first ++ second) in
      let size : n ≡ 1 * n = omega arith in
      subst (λ dist. OnePiece dist checked (vector (first ++ second)) (0 ∷ n ∷ []) (λ x. whole_piece 1 (first ++ second))) (sym needs.to_whole)
      (record {
        columns = n;
        size = size;
        may = refl;
        held = λ i d lt. whole_held (vector (first ++ second)) n (get_or checked i d).number (whole_piece 1 (first ++ second)) size refl (ap (λ m. 0 ∷ m ∷ []) (div-one n)) refl;
      })

  to_there : to < length code.arrays
  to_there = ltb-true to (length code.arrays) (and_parts (nat_lt to (length code.arrays)) (list_all (λ k. nat_lt k (length code.arrays)) (left ∷ right ∷ [])) (named_at code (position_of checked) stack before.stand.0)).0

  stacks : nat_le (length first + length second) longest ≡ true
      → Does code tables price (IsSound code tables (length checked) (position_of checked + 1)) (λ t. Unit {0}) Env (StandBehind code (arrays_alone (to ∷ [])) checked) 1 (price_of price (stack ∷ [])) (position_of checked + 1) (state checked s.out) (array_made to (Ok (first ++ second)) env)
  stacks fits =
      sets_piece code tables price stack to (state checked s.out) env (vector (first ++ second)) (0 ∷ length (first ++ second) ∷ []) (λ x. whole_piece 1 (first ++ second)) refl needs.to_whole to_there before
      (λ i d lt. stack_goes code tables to left right at (get_or checked i d) (first ++ second) (ends_meet i d lt) (ap (λ n. nat_le n longest) (length-append first second) ∙ fits))
      piece

  by_fit : (b : Bool) → nat_le (length first + length second) longest ≡ b
      → Does code tables price (IsSound code tables (length s.ranks) (position_of s.ranks + 2)) (λ t. Unit {0}) Env (StandBehind code (arrays_alone (to ∷ [])) s.ranks) 2 (price_of price (join_code to left right at)) (position_of s.ranks + 2) s (array_made to (cond b (Ok (first ++ second)) (Err (trap at TooLong))) env)
  by_fit true e =
      alone_then code tables price look (stack ∷ []) s env data_of h nothing_written (arrays_alone (to ∷ [])) (array_made to (Ok (first ++ second)) env) refl (looks true e) (λ i d lt. looked_stays (get_or s.ranks i d)) (stacks e)
  by_fit false e = first_fails code tables price look (stack ∷ []) s env (trap at TooLong) refl h (together_one (local_next code.arrays tables look) (trap at TooLong) s.ranks h.some (looks false e))

joins : (to left right : ℕ) (at : Place) → Performs (MayJoin to left right) (joined to left right at) (arrays_alone (to ∷ [])) (join_code to left right at)
unfolding appended
joins to left right at code tables price s env h needs = by_fit code tables price s env to left right at h needs (nat_le (length (env.arrays left).cells + length (env.arrays right).cells) longest) refl

-- ---- what is promised of a list that is this code

pub join_performs : (to left right : ℕ) (at : Place) (list : List Instr) → list ≡ join_code to left right at → Performs (MayJoin to left right) (joined to left right at) (arrays_alone (to ∷ [])) list
join_performs to left right at list e = subst (Performs (MayJoin to left right) (joined to left right at) (arrays_alone (to ∷ []))) (sym e) (joins to left right at)

pub join_straight : (to left right : ℕ) (at : Place) (list : List Instr) → list ≡ join_code to left right at → IsStraight list
join_straight to left right at list e = subst IsStraight (sym e) (record { leads = (refl, (refl, refl)); jumps = (tt, (tt, tt)); sizes = (tt, (tt, tt)) })

pub join_shares : (to left right : ℕ) (at : Place) (list : List Instr) → list ≡ join_code to left right at → (code : Code) → dist_at code.arrays to ≡ Rep → AllByRecursion (LeavesShared code) list
join_shares to left right at list e code rep =
    subst (AllByRecursion (LeavesShared code)) (sym e) ((λ tables x y. next_shared code tables (instr.Check (left ∷ right ∷ []) Fits at) x y tt), ((λ tables x y. next_shared code tables (instr.Stack to (left ∷ right ∷ []) true at) x y rep), tt))

pub join_work : (to left right : ℕ) (at : Place) (list : List Instr) → list ≡ join_code to left right at → IsWork 3 list
join_work to left right at list e = subst (IsWork 3) (sym e) (record { few = omega arith; cheap = λ ranks. omega arith })
