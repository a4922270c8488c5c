-- Arrays that are dealt out anew.
use Rattle.std.proofs.Common.{◌≡◌, ◌∙◌, refl, sym, subst, ap, arith, ℕ, ◌+◌, ◌*◌, ◌<◌, ◌≤◌, ℤ, List, [], ◌∷◌, length, get_or, Result, Ok, Err}
use Rattle.std.specs.Prelude.{◌&&◌, nat_lt}
use Rattle.std.specs.List.{All, AllByRecursion}
use Rattle.std.proofs.lemmas.Bool.{and_parts, ltb-true}
use Rattle.hp_word.specs.declared.place.Place.{Place}
use Rattle.hp_word.specs.declared.place.Trap.{Trap}
use Rattle.hp_word.specs.declared.table.Tables.{Tables}
use Rattle.hp_word.specs.ListRules.{filled, range_of}
use Rattle.hp_word.specs.LoopRules.{and_then, word_at}
use Rattle.hp_lattice.specs.declared.dist.Dist.{Dist}
use Rattle.hp_spmd.specs.declared.code.Code.{Code}
use Rattle.hp_spmd.specs.declared.instr.Instr.{Instr}
use Rattle.hp_spmd.specs.declared.instr.Instr.TheVariants as instr
use Rattle.hp_spmd.specs.declared.store.Piece.{Piece}
use Rattle.hp_spmd.specs.declared.store.Store.{Store}
use Rattle.hp_spmd.specs.Arrays.{fill_data, range_data, with_array}
use Rattle.hp_spmd.specs.Cuts.{first_cuts, own_from, own_until}
use Rattle.hp_spmd.specs.Kinds.{Kind, Computes, kind_of}
use Rattle.hp_spmd.specs.Layout.{Env, HoldsPiece, Layout, vector}
use Rattle.hp_spmd.specs.Local.{local_next}
use Rattle.hp_spmd.specs.Lockstep.{State, position_of}
use Rattle.hp_spmd.specs.Next.{lifted}
use Rattle.hp_spmd.specs.Spread.{SpreadsWell}
use Rattle.hp_spmd.specs.Store.{Data, data_of, dealt, dist_at, kept, piece_of}
use Rattle.hp_spmd.proofs.ShareCuts.{first_cuts_may}
use Rattle.hp_spmd.proofs.ShareNext.{next_shared}
use Rattle.hp_snippet.specs.Moves.{arrays_alone}
use Rattle.hp_snippet.specs.Outcomes.{Does}
use Rattle.hp_snippet.specs.Promises.{IsSound, IsStraight, IsWork, LeavesShared, Performs, StandBefore, StandBehind, price_of}
use Rattle.hp_snippet.specs.Values.{value_or_zero}
use Rattle.hp_snippet.proofs.Naming.{named_at}
use Rattle.hp_snippet.proofs.Performing.{together_one}
use Rattle.hp_alone.specs.Dealing.{array_made, fill_code, filled_array, range_code, ranged_array}
use Rattle.hp_alone.specs.Scalars.{HaveValues}
use Rattle.hp_alone.proofs.Alone.{alone_fails}
use Rattle.hp_alone.proofs.ArraysMade.{OnePiece}
use Rattle.hp_alone.proofs.PieceMade.{sets_piece}
use Rattle.hp_alone.proofs.WordsMade.{agreed, one_straight}

-- ---- an array that is dealt out

-- the piece of a rank
abbrev dealt_piece : Code → ℕ → List ℤ → Store → Piece
dealt_piece code to whole x = dealt (dist_at code.arrays to) x.number x.ranks whole

-- that is its piece of the whole
dealt_held : (dist : Dist) (number ranks n : ℕ) (whole : List ℤ) → ranks ≡ n → HoldsPiece dist (first_cuts dist (length whole) n) (vector whole) number (dealt dist number ranks whole)
unfolding piece_of
dealt_held dist number ranks n whole e =
    let cuts = first_cuts dist (length whole) n in
    let from = own_from dist cuts number in
    let until = own_until dist cuts number in
    let a : from ≡ 1 * from = omega arith in
    let b : until ≡ 1 * until = omega arith in
    record {
      rows_are = refl;
      cuts_are = ap (λ r. first_cuts dist (length whole) r) e;
      cells_are = ap (λ r. kept (own_from dist (first_cuts dist (length whole) r) number) (own_until dist (first_cuts dist (length whole) r) number) 0 whole) e
          ∙ ap (λ f. kept f until 0 whole) a ∙ ap (λ u. kept (1 * from) u 0 whole) b;
    }

dealt_one : (code : Code) (to : ℕ) (whole : List ℤ) (ranks : List Store) (env : Env) → 1 ≤ length ranks → Layout code ranks env
    → OnePiece (dist_at code.arrays to) ranks (vector whole) (first_cuts (dist_at code.arrays to) (length whole) (length ranks)) (dealt_piece code to whole)
dealt_one code to whole ranks env some l =
    let same : length whole ≡ 1 * length whole = omega arith in
    record {
      columns = length whole;
      size = same;
      may = first_cuts_may (dist_at code.arrays to) (length whole) (length ranks) some;
      held = λ k d within. let x = get_or ranks k d in dealt_held (dist_at code.arrays to) x.number x.ranks (length ranks) whole (l.counts k d within);
    }

-- Where each rank makes its part of one vector, or all trap so, they have that vector in the array.
pub deals_array : (code : Code) (tables : Tables) (price : Kind → ℕ) (i : Instr) (to : ℕ) (s : State) (env : Env) (r : Result (List ℤ) Trap) → kind_of i ≡ Computes → SpreadsWell code.arrays i → to < length code.arrays
    → StandBefore code (i ∷ []) s env
    → All (λ x. local_next code.arrays tables i x ≡ lifted (and_then r (λ whole. Ok (with_array to (dealt (dist_at code.arrays to) x.number x.ranks whole) (data_of x)))) x) s.ranks
    → Does code tables price (IsSound code tables (length s.ranks) (position_of s.ranks + 1)) (λ t. Unit {0}) Env (StandBehind code (arrays_alone (to ∷ [])) s.ranks) 1 (price_of price (i ∷ [])) (position_of s.ranks + 1) s (array_made to r env)
deals_array code tables price i to s env (Ok whole) computes spreads there h goes =
    sets_piece code tables price i to s env (vector whole) (first_cuts (dist_at code.arrays to) (length whole) (length s.ranks)) (dealt_piece code to whole) computes spreads there h goes
    (dealt_one code to whole s.ranks env h.some h.lays)
deals_array code tables price i to s env (Err t) computes spreads there h goes =
    alone_fails code tables price i s env t computes h (together_one (local_next code.arrays tables i) t s.ranks h.some goes)

-- ---- a word as often as another says

fill_goes : (code : Code) (tables : Tables) (to value count : ℕ) (at : Place) (x : Store) (a b : ℤ) → word_at x.words value ≡ a → word_at x.words count ≡ b
    → local_next code.arrays tables (instr.Fill to value count at) x ≡ lifted (and_then (filled at b a) (λ whole. Ok (with_array to (dealt (dist_at code.arrays to) x.number x.ranks whole) (data_of x)))) x
unfolding fill_data
fill_goes code tables to value count at x a b e f =
    let made : List ℤ → Result Data Trap = λ whole. Ok (with_array to (dealt (dist_at code.arrays to) x.number x.ranks whole) (data_of x)) in
    ap (λ w. lifted (and_then (filled at (word_at x.words count) w) made) x) e ∙ ap (λ w. lifted (and_then (filled at w a) made) x) f

fills : (to value count : ℕ) (at : Place) → Performs (HaveValues value count) (filled_array to value count at) (arrays_alone (to ∷ [])) (fill_code to value count at)
fills to value count at code tables price s env h needs =
    let named = named_at code (position_of s.ranks) (instr.Fill to value count at) h.stand.0 in
    let there = ltb-true to (length code.arrays) (and_parts (nat_lt to (length code.arrays)) (nat_lt value code.words) (and_parts (nat_lt to (length code.arrays) && nat_lt value code.words) (nat_lt count code.words) named).0).0 in
    let a = agreed code s.ranks env value needs.0 h.lays in
    let b = agreed code s.ranks env count needs.1 h.lays in
    deals_array code tables price (instr.Fill to value count at) to s env (filled at (value_or_zero (env.words count)) (value_or_zero (env.words value))) refl tt there h
    (λ k d lt. fill_goes code tables to value count at (get_or s.ranks k d) (value_or_zero (env.words value)) (value_or_zero (env.words count)) (a k d lt) (b k d lt))

-- ---- the numbers from one word up to another

range_goes : (code : Code) (tables : Tables) (to first last : ℕ) (at : Place) (x : Store) (a b : ℤ) → word_at x.words first ≡ a → word_at x.words last ≡ b
    → local_next code.arrays tables (instr.Range to first last at) x ≡ lifted (and_then (range_of at a b) (λ whole. Ok (with_array to (dealt (dist_at code.arrays to) x.number x.ranks whole) (data_of x)))) x
unfolding range_data
range_goes code tables to first last at x a b e f =
    let made : List ℤ → Result Data Trap = λ whole. Ok (with_array to (dealt (dist_at code.arrays to) x.number x.ranks whole) (data_of x)) in
    ap (λ w. lifted (and_then (range_of at w (word_at x.words last)) made) x) e ∙ ap (λ w. lifted (and_then (range_of at a w) made) x) f

ranges : (to first last : ℕ) (at : Place) → Performs (HaveValues first last) (ranged_array to first last at) (arrays_alone (to ∷ [])) (range_code to first last at)
ranges to first last at code tables price s env h needs =
    let named = named_at code (position_of s.ranks) (instr.Range to first last at) h.stand.0 in
    let there = ltb-true to (length code.arrays) (and_parts (nat_lt to (length code.arrays)) (nat_lt first code.words) (and_parts (nat_lt to (length code.arrays) && nat_lt first code.words) (nat_lt last code.words) named).0).0 in
    let a = agreed code s.ranks env first needs.0 h.lays in
    let b = agreed code s.ranks env last needs.1 h.lays in
    deals_array code tables price (instr.Range to first last at) to s env (range_of at (value_or_zero (env.words first)) (value_or_zero (env.words last))) refl tt there h
    (λ k d lt. range_goes code tables to first last at (get_or s.ranks k d) (value_or_zero (env.words first)) (value_or_zero (env.words last)) (a k d lt) (b k d lt))

-- ---- what is promised of a list that is this code

pub fill_performs : (to value count : ℕ) (at : Place) (list : List Instr) → list ≡ fill_code to value count at → Performs (HaveValues value count) (filled_array to value count at) (arrays_alone (to ∷ [])) list
fill_performs to value count at list e = subst (Performs (HaveValues value count) (filled_array to value count at) (arrays_alone (to ∷ []))) (sym e) (fills to value count at)

pub range_performs : (to first last : ℕ) (at : Place) (list : List Instr) → list ≡ range_code to first last at → Performs (HaveValues first last) (ranged_array to first last at) (arrays_alone (to ∷ [])) list
range_performs to first last at list e = subst (Performs (HaveValues first last) (ranged_array to first last at) (arrays_alone (to ∷ []))) (sym e) (ranges to first last at)

-- ---- what can be seen of it

pub fill_straight : (to value count : ℕ) (at : Place) (list : List Instr) → list ≡ fill_code to value count at → IsStraight list
fill_straight to value count at list e = one_straight (instr.Fill to value count at) list refl tt e

pub fill_shares : (to value count : ℕ) (at : Place) (list : List Instr) → list ≡ fill_code to value count at → (code : Code) → AllByRecursion (LeavesShared code) list
fill_shares to value count at list e code = subst (AllByRecursion (LeavesShared code)) (sym e) ((λ tables x y. next_shared code tables (instr.Fill to value count at) x y tt), tt)

pub fill_work : (to value count : ℕ) (at : Place) (list : List Instr) → list ≡ fill_code to value count at → IsWork 1 list
fill_work to value count at list e = subst (IsWork 1) (sym e) (record { few = omega arith; cheap = λ ranks. omega arith })

pub range_straight : (to first last : ℕ) (at : Place) (list : List Instr) → list ≡ range_code to first last at → IsStraight list
range_straight to first last at list e = one_straight (instr.Range to first last at) list refl tt e

pub range_shares : (to first last : ℕ) (at : Place) (list : List Instr) → list ≡ range_code to first last at → (code : Code) → AllByRecursion (LeavesShared code) list
range_shares to first last at list e code = subst (AllByRecursion (LeavesShared code)) (sym e) ((λ tables x y. next_shared code tables (instr.Range to first last at) x y tt), tt)

pub range_work : (to first last : ℕ) (at : Place) (list : List Instr) → list ≡ range_code to first last at → IsWork 1 list
range_work to first last at list e = subst (IsWork 1) (sym e) (record { few = omega arith; cheap = λ ranks. omega arith })
