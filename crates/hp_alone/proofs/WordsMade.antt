-- Words that all ranks make alike.
use Rattle.std.proofs.Common.{◌≡◌, ◌∙◌, refl, sym, subst, ap, arith, cond, ℕ, ◌+◌, ◌<◌, ◌≤◌, inl, inr, ℤ, pos, List, [], ◌∷◌, length, length-set, get_or, set, map, Option, Some, None, Result, Ok, Err}
use Rattle.std.specs.Prelude.{◌==◌, ◌*◌, ◌&&◌, min, nat_lt}
use Rattle.std.specs.List.{All, AllByRecursion}
use Rattle.std.proofs.lemmas.Bool.{and_parts, cases_eq, eq-eqb, ltb-true, ne_eqb}
use Rattle.std.proofs.lemmas.List.{get_or-set_other, get_or-set_same}
use Rattle.std.proofs.lemmas.List.Elements.{All-map}
use Rattle.hp_word.specs.declared.place.Place.{Place}
use Rattle.hp_word.specs.declared.place.Trap.{Trap}
use Rattle.hp_word.specs.declared.table.Tables.{Tables}
use Rattle.hp_word.specs.declared.word.CalcOp.{CalcOp}
use Rattle.hp_word.specs.Elem.{trapped_at}
use Rattle.hp_word.specs.ListRules.{element_at}
use Rattle.hp_word.specs.LoopRules.{and_then, word_at}
use Rattle.hp_word.specs.Words.{calculated}
use Rattle.hp_lattice.specs.declared.dist.Dist.TheVariants.{Rep}
use Rattle.hp_spmd.specs.declared.code.Code.{Code}
use Rattle.hp_spmd.specs.declared.instr.Instr.{Instr}
use Rattle.hp_spmd.specs.declared.instr.Instr.TheVariants as instr
use Rattle.hp_spmd.specs.declared.store.Store.{Store}
use Rattle.hp_spmd.specs.Arrays.{at_data}
use Rattle.hp_spmd.specs.declared.instr.Instr.TheVariants.{Halt}
use Rattle.hp_spmd.specs.Exchanges.{IsSized, leaves, wants}
use Rattle.hp_spmd.specs.Kinds.{Kind, Computes, kind_of}
use Rattle.hp_spmd.specs.Layout.{Env, IsLaid, Layout, Whole}
use Rattle.hp_spmd.specs.Local.{local_next}
use Rattle.hp_spmd.specs.Lockstep.{State, position_of}
use Rattle.hp_spmd.specs.Next.{lifted}
use Rattle.hp_spmd.specs.Scalars.{calc_data, const_data, count_word, greatest_count, length_data, piece_length, with_word}
use Rattle.hp_spmd.specs.Spread.{SpreadsWell}
use Rattle.hp_spmd.specs.Store.{Data, data_of, dist_at, piece_at}
use Rattle.hp_spmd.proofs.CheckNext.{held_length, told_whole}
use Rattle.hp_spmd.proofs.ShareNext.{next_shared}
use Rattle.hp_snippet.specs.Outcomes.{Does}
use Rattle.hp_snippet.specs.Promises.{IsNoJump, IsRankOf, IsSound, IsStraight, IsWork, LeavesShared, Performs, StandBefore, StandBehind, Stays, price_of}
use Rattle.hp_snippet.specs.Values.{HasValue, value_or_zero, with_value}
use Rattle.hp_snippet.proofs.Keeping.{words_layout, zip_map}
use Rattle.hp_snippet.proofs.Naming.{named_at}
use Rattle.hp_snippet.proofs.Performing.{computed_by, together_one}
use Rattle.hp_snippet.proofs.Ranges.{cells_of_one}
use Rattle.hp_alone.specs.Scalars.{IsVector, HaveValues, MayCount, MayTake, NeedsNothing, at_code, calc_code, calculated_word, const_code, constant, counted, element_taken, length_code, word_alone, word_made}
use Rattle.hp_alone.proofs.Alone.{alone_fails, alone_went, rank_alone}

-- ---- a word that is set

-- a rank with a word set
abbrev pub set_word : ℕ → ℤ → Store → Data
set_word to value x = with_word to value (data_of x)

pub word_set_stays : (to : ℕ) (value : ℤ) (x : Store) → Stays (word_alone to) x (computed_by (set_word to value) x)
word_set_stays to value x =
    record {
      number = refl;
      ranks_are = refl;
      words = λ w apart. get_or-set_other x.words to w value (pos 0) (λ e. apart.0 (sym e));
      arrays = λ k apart. refl;
      loose = λ k apart. refl;
      executed = refl;
      log = refl;
    }

some_same : (a b : ℤ) → Some a ≡ Some b → a ≡ b
some_same a b e = cc

-- a word of one rank, once one is set
pub word_of : (to : ℕ) (value : ℤ) (before : ℕ → Option ℤ) (words : List ℤ) (w : ℕ) (v : ℤ) → to < length words → (before w ≡ Some v → word_at words w ≡ v) → cond (to == w) (Some value) (before w) ≡ Some v → word_at (set words to value) w ≡ v
word_of to value before words w v there held e = elim (cases_eq to w) [
  | inl same ↦
      ap (word_at (set words to value)) (sym same) ∙ get_or-set_same words to value (pos 0) there ∙ some_same value v (sym (ap (λ t. cond t (Some value) (before w)) (eq-eqb to w same)) ∙ e)
  | inr other ↦
      get_or-set_other words to w value (pos 0) (λ e. other (sym e)) ∙ held (sym (ap (λ t. cond t (Some value) (before w)) (ne_eqb to w other)) ∙ e)
]

-- a word that has a value then has it on each rank
pub word_set_lays : (code : Code) (to : ℕ) (value : ℤ) (ranks : List Store) (env : Env) → to < code.words → All (IsRankOf code (length ranks)) ranks → Layout code ranks env
    → Layout code (map (computed_by (set_word to value)) ranks) (with_value to value env)
word_set_lays code to value ranks env there each l =
    let stays = zip_map (Stays (word_alone to)) (computed_by (set_word to value)) ranks (λ k d lt. word_set_stays to value (get_or ranks k d)) in
    words_layout code (word_alone to) ranks (map (computed_by (set_word to value)) ranks) env (with_value to value env) refl stays l refl
    (λ w v e.
    All-map (λ (y : Store). word_at y.words w ≡ v) (computed_by (set_word to value)) ranks
    (λ k d lt. word_of to value env.words (get_or ranks k d).words w v (subst (λ n. to < n) (sym (each k d lt).words) there) (λ held. l.words w v held k d lt) e))

-- ---- what a piece of code that sets a word does

-- Where all ranks set a word to one value, or trap so, they have that value in it.
pub sets_word : (code : Code) (tables : Tables) (price : Kind → ℕ) (i : Instr) (to : ℕ) (s : State) (env : Env) (r : Result ℤ Trap) → kind_of i ≡ Computes → SpreadsWell code.arrays i → to < code.words
    → StandBefore code (i ∷ []) s env
    → All (λ x. local_next code.arrays tables i x ≡ lifted (and_then r (λ value. Ok (with_word to value (data_of x)))) x) s.ranks
    → Does code tables price (IsSound code tables (length s.ranks) (position_of s.ranks + 1)) (λ t. Unit {0}) Env (StandBehind code (word_alone to) s.ranks) 1 (price_of price (i ∷ [])) (position_of s.ranks + 1) s (word_made to r env)
sets_word code tables price i to s env (Ok value) computes spreads there h goes =
    alone_went code tables price i s env (with_value to value env) (word_alone to) (set_word to value) computes h goes
    (λ k d lt. let x = get_or s.ranks k d in
    rank_alone code tables (length s.ranks) i (set_word to value) x h.some spreads (named_at code (position_of s.ranks) i h.stand.0) (goes k d lt) (length-set x.words to value) refl (h.each k d lt))
    (λ k d lt. word_set_stays to value (get_or s.ranks k d))
    (word_set_lays code to value s.ranks env there h.each h.lays)
sets_word code tables price i to s env (Err t) computes spreads there h goes =
    alone_fails code tables price i s env t computes h (together_one (local_next code.arrays tables i) t s.ranks h.some goes)

-- ---- a number

pub const_goes : (code : Code) (tables : Tables) (to : ℕ) (value : ℤ) (x : Store) → local_next code.arrays tables (instr.Const to value) x ≡ lifted (Ok (with_word to value (data_of x))) x
unfolding const_data
const_goes code tables to value x = refl

constants : (to : ℕ) (value : ℤ) → Performs NeedsNothing (constant to value) (word_alone to) (const_code to value)
constants to value code tables price s env h needs =
    sets_word code tables price (instr.Const to value) to s env (Ok value) refl tt (ltb-true to code.words (named_at code (position_of s.ranks) (instr.Const to value) h.stand.0)) h
    (λ k d lt. const_goes code tables to value (get_or s.ranks k d))

-- ---- an operation on two words

calc_goes : (code : Code) (tables : Tables) (to : ℕ) (op : CalcOp) (left right : ℕ) (at : Place) (x : Store) (a b : ℤ) → word_at x.words left ≡ a → word_at x.words right ≡ b
    → local_next code.arrays tables (instr.Calc to op left right at) x ≡ lifted (and_then (trapped_at at (calculated op a b)) (λ value. Ok (with_word to value (data_of x)))) x
unfolding calc_data
calc_goes code tables to op left right at x a b e f =
    ap (λ w. lifted (and_then (trapped_at at (calculated op w (word_at x.words right))) (λ value. Ok (with_word to value (data_of x)))) x) e
    ∙ ap (λ w. lifted (and_then (trapped_at at (calculated op a w)) (λ value. Ok (with_word to value (data_of x)))) x) f

-- a word on which all agree has its value on each rank
pub agreed : (code : Code) (ranks : List Store) (env : Env) (w : ℕ) → HasValue (env.words w) → Layout code ranks env → All (λ (x : Store). word_at x.words w ≡ value_or_zero (env.words w)) ranks
agreed code ranks env w has l = by_value (env.words w) refl has
  where
    by_value : (o : Option ℤ) → env.words w ≡ o → HasValue o → All (λ (x : Store). word_at x.words w ≡ value_or_zero (env.words w)) ranks
    by_value None e has = absurd has
    by_value (Some value) e has = λ k d lt. l.words w value e k d lt ∙ sym (ap value_or_zero e)

calculates : (to : ℕ) (op : CalcOp) (left right : ℕ) (at : Place) → Performs (HaveValues left right) (calculated_word to op left right at) (word_alone to) (calc_code to op left right at)
calculates to op left right at code tables price s env h needs =
    let named = named_at code (position_of s.ranks) (instr.Calc to op left right at) h.stand.0 in
    let there = ltb-true to code.words (and_parts (nat_lt to code.words) (nat_lt left code.words) (and_parts (nat_lt to code.words && nat_lt left code.words) (nat_lt right code.words) named).0).0 in
    let a = agreed code s.ranks env left needs.0 h.lays in
    let b = agreed code s.ranks env right needs.1 h.lays in
    sets_word code tables price (instr.Calc to op left right at) to s env (trapped_at at (calculated op (value_or_zero (env.words left)) (value_or_zero (env.words right)))) refl tt there h
    (λ k d lt. calc_goes code tables to op left right at (get_or s.ranks k d) (value_or_zero (env.words left)) (value_or_zero (env.words right)) (a k d lt) (b k d lt))

-- ---- the length of an array

-- as many elements as columns
pub vector_columns : (whole : Whole) (columns : ℕ) → whole.rows ≡ 1 → length whole.cells ≡ whole.rows * columns → length whole.cells ≡ columns
vector_columns whole columns one size = let e = size ∙ ap (λ r. r * columns) one in let f : 1 * columns ≡ columns = omega arith in e ∙ f

-- each rank is told the length of a whole vector
pub vector_length : (code : Code) (ranks : List Store) (env : Env) (array : ℕ) → 1 ≤ length ranks → array < length code.arrays → IsVector (env.arrays array) → Layout code ranks env
    → All (λ (x : Store). piece_length (piece_at x.arrays array) ≡ length (env.arrays array).cells) ranks
vector_length code ranks env array some there is l k d lt =
    let laid = l.arrays array there in
    let same = vector_columns (env.arrays array) laid.columns is.one_row laid.size in
    let short : laid.columns ≤ greatest_count = subst (λ n. n ≤ greatest_count) same is.short in
    let x = get_or ranks k d in
    held_length (dist_at code.arrays array) (length ranks) x.number laid.columns (l.cuts array) (env.arrays array) (piece_at x.arrays array) some short laid.may (laid.held k d lt) ∙ sym same

length_goes : (code : Code) (tables : Tables) (to array : ℕ) (x : Store) (n : ℕ) → piece_length (piece_at x.arrays array) ≡ n → n ≤ greatest_count
    → local_next code.arrays tables (instr.Length to array) x ≡ lifted (Ok (with_word to (pos n) (data_of x))) x
unfolding length_data count_word
length_goes code tables to array x n e short =
    ap (λ m. lifted (Ok (with_word to (pos (min m greatest_count)) (data_of x))) x) e ∙ ap (λ m. lifted (Ok (with_word to (pos m) (data_of x))) x) (told_whole n short)

counts : (to array : ℕ) → Performs (MayCount array) (counted to array) (word_alone to) (length_code to array)
counts to array code tables price s env h needs =
    let named = and_parts (nat_lt to code.words) (nat_lt array (length code.arrays)) (named_at code (position_of s.ranks) (instr.Length to array) h.stand.0) in
    let lengths = vector_length code s.ranks env array h.some (ltb-true array (length code.arrays) named.1) needs h.lays in
    sets_word code tables price (instr.Length to array) to s env (Ok (pos (length (env.arrays array).cells))) refl tt (ltb-true to code.words named.0) h
    (λ k d lt. length_goes code tables to array (get_or s.ranks k d) (length (env.arrays array).cells) (lengths k d lt) needs.short)

-- ---- an element

at_goes : (code : Code) (tables : Tables) (to array index : ℕ) (at : Place) (x : Store) (cells : List ℤ) (i : ℤ) → (piece_at x.arrays array).cells ≡ cells → word_at x.words index ≡ i
    → local_next code.arrays tables (instr.At to array index at) x ≡ lifted (and_then (element_at at cells i) (λ value. Ok (with_word to value (data_of x)))) x
unfolding at_data
at_goes code tables to array index at x cells i e f =
    ap (λ c. lifted (and_then (element_at at c (word_at x.words index)) (λ value. Ok (with_word to value (data_of x)))) x) e
    ∙ ap (λ w. lifted (and_then (element_at at cells w) (λ value. Ok (with_word to value (data_of x)))) x) f

-- an array that is whole on each rank has all its cells there
pub whole_cells : (code : Code) (ranks : List Store) (env : Env) (array : ℕ) → array < length code.arrays → dist_at code.arrays array ≡ Rep → Layout code ranks env
    → All (λ (x : Store). (piece_at x.arrays array).cells ≡ (env.arrays array).cells) ranks
whole_cells code ranks env array there rep l k d lt =
    let x = get_or ranks k d in
    let laid = subst (λ dist. IsLaid dist ranks array (l.cuts array) (env.arrays array)) rep (l.arrays array there) in
    cells_of_one ranks array (l.cuts array) (env.arrays array) x.number x laid (laid.held k d lt)

takes : (to array index : ℕ) (at : Place) → Performs (MayTake array index) (element_taken to array index at) (word_alone to) (at_code to array index at)
takes to array index at code tables price s env h needs =
    let named = and_parts (nat_lt to code.words && nat_lt array (length code.arrays)) (nat_lt index code.words) (named_at code (position_of s.ranks) (instr.At to array index at) h.stand.0) in
    let both = and_parts (nat_lt to code.words) (nat_lt array (length code.arrays)) named.0 in
    let cells = whole_cells code s.ranks env array (ltb-true array (length code.arrays) both.1) needs.0 h.lays in
    let i = agreed code s.ranks env index needs.1 h.lays in
    sets_word code tables price (instr.At to array index at) to s env (element_at at (env.arrays array).cells (value_or_zero (env.words index))) refl tt (ltb-true to code.words both.0) h
    (λ k d lt. at_goes code tables to array index at (get_or s.ranks k d) (env.arrays array).cells (value_or_zero (env.words index)) (cells k d lt) (i k d lt))

-- ---- what is promised of a list that is this code

pub const_performs : (to : ℕ) (value : ℤ) (list : List Instr) → list ≡ const_code to value → Performs NeedsNothing (constant to value) (word_alone to) list
const_performs to value list e = subst (Performs NeedsNothing (constant to value) (word_alone to)) (sym e) (constants to value)

pub calc_performs : (to : ℕ) (op : CalcOp) (left right : ℕ) (at : Place) (list : List Instr) → list ≡ calc_code to op left right at → Performs (HaveValues left right) (calculated_word to op left right at) (word_alone to) list
calc_performs to op left right at list e = subst (Performs (HaveValues left right) (calculated_word to op left right at) (word_alone to)) (sym e) (calculates to op left right at)

pub length_performs : (to array : ℕ) (list : List Instr) → list ≡ length_code to array → Performs (MayCount array) (counted to array) (word_alone to) list
length_performs to array list e = subst (Performs (MayCount array) (counted to array) (word_alone to)) (sym e) (counts to array)

pub at_performs : (to array index : ℕ) (at : Place) (list : List Instr) → list ≡ at_code to array index at → Performs (MayTake array index) (element_taken to array index at) (word_alone to) list
at_performs to array index at list e = subst (Performs (MayTake array index) (element_taken to array index at) (word_alone to)) (sym e) (takes to array index at)

-- ---- what can be seen of it

pub one_straight : (i : Instr) (list : List Instr) → kind_of i ≡ Computes → IsSized i Halt → list ≡ i ∷ [] → IsStraight list
one_straight i list computes sized e =
    subst IsStraight (sym e)
    (record {
      leads = (sym (ap wants computes), ap leaves computes);
      jumps = (subst IsNoJump (sym computes) tt, tt);
      sizes = (sized, tt);
    })

pub const_straight : (to : ℕ) (value : ℤ) (list : List Instr) → list ≡ const_code to value → IsStraight list
const_straight to value list e = one_straight (instr.Const to value) list refl tt e

pub const_shares : (to : ℕ) (value : ℤ) (list : List Instr) → list ≡ const_code to value → (code : Code) → AllByRecursion (LeavesShared code) list
const_shares to value list e code = subst (AllByRecursion (LeavesShared code)) (sym e) ((λ tables x y. next_shared code tables (instr.Const to value) x y tt), tt)

pub const_work : (to : ℕ) (value : ℤ) (list : List Instr) → list ≡ const_code to value → IsWork 1 list
const_work to value list e = subst (IsWork 1) (sym e) (record { few = omega arith; cheap = λ ranks. omega arith })

pub calc_straight : (to : ℕ) (op : CalcOp) (left right : ℕ) (at : Place) (list : List Instr) → list ≡ calc_code to op left right at → IsStraight list
calc_straight to op left right at list e = one_straight (instr.Calc to op left right at) list refl tt e

pub calc_shares : (to : ℕ) (op : CalcOp) (left right : ℕ) (at : Place) (list : List Instr) → list ≡ calc_code to op left right at → (code : Code) → AllByRecursion (LeavesShared code) list
calc_shares to op left right at list e code = subst (AllByRecursion (LeavesShared code)) (sym e) ((λ tables x y. next_shared code tables (instr.Calc to op left right at) x y tt), tt)

pub calc_work : (to : ℕ) (op : CalcOp) (left right : ℕ) (at : Place) (list : List Instr) → list ≡ calc_code to op left right at → IsWork 1 list
calc_work to op left right at list e = subst (IsWork 1) (sym e) (record { few = omega arith; cheap = λ ranks. omega arith })

pub length_straight : (to array : ℕ) (list : List Instr) → list ≡ length_code to array → IsStraight list
length_straight to array list e = one_straight (instr.Length to array) list refl tt e

pub length_shares : (to array : ℕ) (list : List Instr) → list ≡ length_code to array → (code : Code) → AllByRecursion (LeavesShared code) list
length_shares to array list e code = subst (AllByRecursion (LeavesShared code)) (sym e) ((λ tables x y. next_shared code tables (instr.Length to array) x y tt), tt)

pub length_work : (to array : ℕ) (list : List Instr) → list ≡ length_code to array → IsWork 1 list
length_work to array list e = subst (IsWork 1) (sym e) (record { few = omega arith; cheap = λ ranks. omega arith })

pub at_straight : (to array index : ℕ) (at : Place) (list : List Instr) → list ≡ at_code to array index at → IsStraight list
at_straight to array index at list e = one_straight (instr.At to array index at) list refl tt e

pub at_shares : (to array index : ℕ) (at : Place) (list : List Instr) → list ≡ at_code to array index at → (code : Code) → AllByRecursion (LeavesShared code) list
at_shares to array index at list e code = subst (AllByRecursion (LeavesShared code)) (sym e) ((λ tables x y. next_shared code tables (instr.At to array index at) x y tt), tt)

pub at_work : (to array index : ℕ) (at : Place) (list : List Instr) → list ≡ at_code to array index at → IsWork 1 list
at_work to array index at list e = subst (IsWork 1) (sym e) (record { few = omega arith; cheap = λ ranks. omega arith })
