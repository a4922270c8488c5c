-- Elements at the positions that each rank's own part says.
use Rattle.std.proofs.Common.{◌≡◌, ◌∙◌, refl, sym, subst, ap, arith, Bool, true, false, cond, ℕ, suc, ◌+◌, ◌*◌, ◌<◌, ◌&&◌, leb, ltb, ℤ, List, [], ◌∷◌, ◌++◌, length, get_or, map, Result, Ok, Err}
use Rattle.std.specs.Prelude.{flat_map, nat_lt}
use Rattle.std.specs.List.{All, AllByRecursion, AllZip}
use Rattle.std.proofs.lemmas.Bool.{and_parts, ltb-true}
use Rattle.std.proofs.lemmas.List.Elements.{recursion_from_All}
use Rattle.hp_word.specs.declared.place.Place.{Place}
use Rattle.hp_word.specs.declared.place.Trap.{Trap}
use Rattle.hp_word.specs.declared.table.Tables.{Tables}
use Rattle.hp_word.specs.ListRules.{element_at, elements_at}
use Rattle.hp_word.specs.LoopRules.{all_ok, and_then}
use Rattle.hp_lattice.specs.declared.dist.Dist.{Dist}
use Rattle.hp_lattice.specs.declared.dist.Dist.TheVariants.{Rep, Var, Block}
use Rattle.hp_spmd.specs.declared.code.Code.{Code}
use Rattle.hp_spmd.specs.declared.instr.Instr.{Instr}
use Rattle.hp_spmd.specs.declared.instr.Instr.TheVariants as instr
use Rattle.hp_spmd.specs.declared.store.Piece.{Piece}
use Rattle.hp_spmd.specs.declared.store.Store.{Store}
use Rattle.hp_spmd.specs.Arrays.{pick_data, with_array}
use Rattle.hp_spmd.specs.Cuts.{own_from, own_until}
use Rattle.hp_spmd.specs.Kinds.{Kind}
use Rattle.hp_spmd.specs.Layout.{Env, IsLaid, vector}
use Rattle.hp_spmd.specs.Local.{local_next}
use Rattle.hp_spmd.specs.Lockstep.{One, State, joined_to, position_of, together}
use Rattle.hp_spmd.specs.Loops.{cut_as}
use Rattle.hp_spmd.specs.Next.{Next, Goes, lifted}
use Rattle.hp_spmd.specs.Spread.{LiesAs}
use Rattle.hp_spmd.specs.Store.{Data, data_of, dist_at, kept, piece_at}
use Rattle.hp_spmd.proofs.GatherLemmas.{HasLength, all_count}
use Rattle.hp_spmd.proofs.ShareNext.{next_shared}
use Rattle.hp_snippet.specs.Holds.{IsCut}
use Rattle.hp_snippet.specs.Moves.{arrays_alone}
use Rattle.hp_snippet.specs.Outcomes.{Does}
use Rattle.hp_snippet.specs.Promises.{IsSound, IsStraight, IsWork, LeavesShared, Performs, StandBefore, StandBehind, price_of}
use Rattle.hp_snippet.proofs.Naming.{named_at}
use Rattle.hp_snippet.proofs.Performing.{computed_by, together_one}
use Rattle.hp_snippet.proofs.Ranges.{cells_join}
use Rattle.hp_alone.specs.Dealing.{array_made}
use Rattle.hp_alone.specs.Picking.{MayPick, elements_picked, pick_code}
use Rattle.hp_alone.proofs.Alone.{alone_fails}
use Rattle.hp_alone.proofs.ArraysMade.{OnePiece}
use Rattle.hp_alone.proofs.Copied.{lies_held, lies_may}
use Rattle.hp_alone.proofs.PieceMade.{set_piece, sets_piece}
use Rattle.hp_alone.proofs.WordsMade.{one_straight, vector_columns, whole_cells}

-- ---- values of a list, or the first trap

ok_same : {A : Type 0} (x y : A) → (◌≡◌ {A = Result A Trap} (Ok x) (Ok y)) → x ≡ y
ok_same x y e = cc

err_same : {A : Type 0} (t u : Trap) → (◌≡◌ {A = Result A Trap} (Err t) (Err u)) → t ≡ u
err_same t u e = cc

ok_not_err : {A : Type 0} (x : A) (t : Trap) → (◌≡◌ {A = Result A Trap} (Ok x) (Err t)) → ⊥
ok_not_err x t e = cc

-- each item gives the one in its place
abbrev Give : {A B : Type 0} → (A → Result B Trap) → List A → List B → Type 0
Give f xs ys = AllZip (λ x y. f x ≡ Ok y) xs ys

one_more : {A B : Type 0} (f : A → Result B Trap) (x : A) (xs : List A) (r : Result B Trap) (rest : Result (List B) Trap) (ys : List B) → f x ≡ r → ((zs : List B) → rest ≡ Ok zs → Give f xs zs)
    → and_then r (λ y. and_then rest (λ zs. Ok (y ∷ zs))) ≡ Ok ys → Give f (x ∷ xs) ys
one_more {A} {B} f x xs (Ok y) (Ok zs) ys is on e = subst (Give f (x ∷ xs)) (ok_same {A = List B} (y ∷ zs) ys e) (is, on zs refl)
one_more {A} {B} f x xs (Ok y) (Err t) ys is on e = absurd (ok_not_err {A = List B} ys t (sym e))
one_more {A} {B} f x xs (Err t) rest ys is on e = absurd (ok_not_err {A = List B} ys t (sym e))

gives_each : {A B : Type 0} (f : A → Result B Trap) (xs : List A) (ys : List B) → all_ok (map f xs) ≡ Ok ys → Give f xs ys
unfolding all_ok
gives_each {A} {B} f [] ys e = subst (Give f []) (ok_same {A = List B} [] ys e) tt
gives_each {A} {B} f (x ∷ xs) ys e = one_more {A = A} {B = B} f x xs (f x) (all_ok (map f xs)) ys refl (λ zs is. gives_each {A = A} {B = B} f xs zs is) e

all_given : {A B : Type 0} (f : A → Result B Trap) (xs : List A) (ys : List B) → Give f xs ys → all_ok (map f xs) ≡ Ok ys
unfolding all_ok
all_given f [] [] h = refl
all_given f [] (y ∷ ys) h = absurd h
all_given f (x ∷ xs) [] h = absurd h
all_given {A} {B} f (x ∷ xs) (y ∷ ys) h = rw (h.0, all_given {A = A} {B = B} f xs ys h.1) refl

-- so do those of a part of the places
part_more : {A B : Type 0} (f : A → Result B Trap) (t : Bool) (x : A) (y : B) (xs : List A) (ys : List B) → f x ≡ Ok y → Give f xs ys → Give f (cond t (x ∷ xs) xs) (cond t (y ∷ ys) ys)
part_more f true x y xs ys is h = (is, h)
part_more f false x y xs ys is h = h

part_gives : {A B : Type 0} (f : A → Result B Trap) (a b k : ℕ) (xs : List A) (ys : List B) → Give f xs ys → Give f (kept a b k xs) (kept a b k ys)
part_gives f a b k [] [] h = tt
part_gives f a b k [] (y ∷ ys) h = absurd h
part_gives f a b k (x ∷ xs) [] h = absurd h
part_gives {A} {B} f a b k (x ∷ xs) (y ∷ ys) h = part_more {A = A} {B = B} f (leb a k && ltb k b) x y (kept a b (suc k) xs) (kept a b (suc k) ys) h.0 (part_gives {A = A} {B = B} f a b (suc k) xs ys h.1)

-- ---- one list behind another

-- what both come to
abbrev one_behind : {B : Type 0} → (first second : Result (List B) Trap) → Result (List B) Trap
one_behind first second = and_then first (λ ys. and_then second (λ zs. Ok (ys ++ zs)))

none_before : {B : Type 0} (r : Result (List B) Trap) → r ≡ one_behind (Ok []) r
none_before (Ok ys) = refl
none_before (Err t) = refl

one_before : {B : Type 0} (r : Result B Trap) (first second : Result (List B) Trap) → and_then r (λ y. and_then (one_behind first second) (λ ys. Ok (y ∷ ys))) ≡ one_behind (and_then r (λ y. and_then first (λ ys. Ok (y ∷ ys)))) second
one_before (Ok y) (Ok ys) (Ok zs) = refl
one_before (Ok y) (Ok ys) (Err t) = refl
one_before (Ok y) (Err t) second = refl
one_before (Err t) first second = refl

all_behind : {A B : Type 0} (f : A → Result B Trap) (xs ys : List A) → all_ok (map f (xs ++ ys)) ≡ one_behind (all_ok (map f xs)) (all_ok (map f ys))
unfolding all_ok
all_behind {A} {B} f [] ys = none_before {B = B} (all_ok (map f ys))
all_behind {A} {B} f (x ∷ xs) ys = ap (λ r. and_then (f x) (λ y. and_then r (λ zs. Ok (y ∷ zs)))) (all_behind {A = A} {B = B} f xs ys) ∙ one_before {B = B} (f x) (all_ok (map f xs)) (all_ok (map f ys))

none_traps : {A B : Type 0} (f : A → Result B Trap) (t : Trap) → all_ok (map f []) ≡ Err t → ⊥
unfolding all_ok
none_traps {A} {B} f t e = ok_not_err {A = List B} [] t e

-- Where the parts of all ranks, one behind the other, come to a trap, it is that of the lowest rank that has one.
lowest_trap : {A B : Type 0} (g : Store → Next) (f : A → Result B Trap) (part : Store → List A) (d : Store → List B → Data) (t : Trap) (ranks : List Store) → AllByRecursion (λ x. g x ≡ lifted (and_then (all_ok (map f (part x))) (λ ys. Ok (d x ys))) x) ranks
    → all_ok (map f (flat_map part ranks)) ≡ Err t → together g ranks ≡ One t
lowest_trap {A} {B} g f part d t [] h e = absurd (none_traps {A = A} {B = B} f t e)
lowest_trap {A} {B} g f part d t (x ∷ ranks) h e =
    by_parts (all_ok (map f (part x))) (all_ok (map f (flat_map part ranks))) h.0 (λ is. lowest_trap {A = A} {B = B} g f part d t ranks h.1 is) (sym (all_behind {A = A} {B = B} f (part x) (flat_map part ranks)) ∙ e)
  where
    by_parts : (first second : Result (List B) Trap) → g x ≡ lifted (and_then first (λ ys. Ok (d x ys))) x → (second ≡ Err t → together g ranks ≡ One t) → one_behind first second ≡ Err t → joined_to (g x) (together g ranks) ≡ One t
    by_parts (Ok ys) (Ok zs) goes on e = absurd (ok_not_err {A = List B} (ys ++ zs) t e)
    by_parts (Ok ys) (Err u) goes on e = ap (λ n. joined_to n (together g ranks)) goes ∙ ap (λ r. joined_to (lifted (Ok (d x ys)) x) r) (on e)
    by_parts (Err u) second goes on e = ap (λ n. joined_to n (together g ranks)) goes ∙ ap One (err_same {A = List B} u t e)

-- ---- elements

kept_elements : (at : Place) (cells : List ℤ) (a b : ℕ) (positions elements : List ℤ) → elements_at at cells positions ≡ Ok elements → elements_at at cells (kept a b 0 positions) ≡ Ok (kept a b 0 elements)
unfolding elements_at
kept_elements at cells a b positions elements e =
    all_given (element_at at cells) (kept a b 0 positions) (kept a b 0 elements) (part_gives (element_at at cells) a b 0 positions elements (gives_each (element_at at cells) positions elements e))

as_many : (at : Place) (cells positions elements : List ℤ) → elements_at at cells positions ≡ Ok elements → length elements ≡ length positions
unfolding elements_at
as_many at cells positions elements e = subst (HasLength (length positions)) e (all_count (element_at at cells) positions)

-- ---- what each rank picks

pick_goes : (code : Code) (tables : Tables) (to array index : ℕ) (at : Place) (x : Store) (cells positions : List ℤ) → (piece_at x.arrays array).cells ≡ cells → (piece_at x.arrays index).cells ≡ positions
    → local_next code.arrays tables (instr.Pick to array index at) x ≡ lifted (and_then (elements_at at cells positions) (λ picked. Ok (with_array to (cut_as (piece_at x.arrays index) picked) (data_of x)))) x
unfolding pick_data
pick_goes code tables to array index at x cells positions e f =
    let made : List ℤ → Result Data Trap = λ picked. Ok (with_array to (cut_as (piece_at x.arrays index) picked) (data_of x)) in
    ap (λ c. lifted (and_then (elements_at at c (piece_at x.arrays index).cells) made) x) e ∙ ap (λ p. lifted (and_then (elements_at at cells p) made) x) f

-- the piece of a rank, of a vector that is cut so
abbrev cut_piece : Dist → (cuts : List ℕ) → (index : ℕ) → List ℤ → Store → Piece
cut_piece dist cuts index elements x = cut_as (piece_at x.arrays index) (kept (1 * own_from dist cuts x.number) (1 * own_until dist cuts x.number) 0 elements)

module _ (code : Code) (tables : Tables) (price : Kind → ℕ) (s : State) (env : Env) (to array index : ℕ) (at : Place) (h : StandBefore code (pick_code to array index at) s env) (needs : MayPick to array index code s.ranks env) where
  abbrev i : Instr
  i = instr.Pick to array index at

  abbrev cells : List ℤ
  cells = (env.arrays array).cells

  abbrev positions : List ℤ
  positions = (env.arrays index).cells

  abbrev dist : Dist
  dist = dist_at code.arrays index

  abbrev cuts : List ℕ
  cuts = h.lays.cuts index

  to_there : to < length code.arrays
  to_there = ltb-true to (length code.arrays) (and_parts (nat_lt to (length code.arrays)) (nat_lt array (length code.arrays) && nat_lt index (length code.arrays)) (named_at code (position_of s.ranks) i h.stand.0)).0

  others_there : (array < length code.arrays) × (index < length code.arrays)
  others_there =
      let others = and_parts (nat_lt array (length code.arrays)) (nat_lt index (length code.arrays)) (and_parts (nat_lt to (length code.arrays)) (nat_lt array (length code.arrays) && nat_lt index (length code.arrays)) (named_at code (position_of s.ranks) i h.stand.0)).1 in
      (ltb-true array (length code.arrays) others.0, ltb-true index (length code.arrays) others.1)

  laid : IsLaid dist s.ranks index cuts (env.arrays index)
  laid = h.lays.arrays index others_there.1

  all_cells : All (λ (x : Store). (piece_at x.arrays array).cells ≡ cells) s.ranks
  all_cells = whole_cells code s.ranks env array others_there.0 needs.whole h.lays

  -- the positions of a rank
  own_positions : All (λ (x : Store). (piece_at x.arrays index).cells ≡ kept (1 * own_from dist cuts x.number) (1 * own_until dist cuts x.number) 0 positions) s.ranks
  own_positions k d lt = let x = get_or s.ranks k d in (laid.held k d lt).cells_are ∙ ap (λ r. kept (r * own_from dist cuts x.number) (r * own_until dist cuts x.number) 0 positions) needs.positions

  -- where there is an element at each position
  goes_on : (elements : List ℤ) → elements_at at cells positions ≡ Ok elements → All (λ x. local_next code.arrays tables i x ≡ Goes (computed_by (set_piece to (cut_piece dist cuts index elements)) x)) s.ranks
  goes_on elements e k d lt =
      let x = get_or s.ranks k d in
      let a = own_from dist cuts x.number in
      let b = own_until dist cuts x.number in
      pick_goes code tables to array index at x cells (kept (1 * a) (1 * b) 0 positions) (all_cells k d lt) (own_positions k d lt)
      ∙ ap (λ r. lifted (and_then r (λ picked. Ok (with_array to (cut_as (piece_at x.arrays index) picked) (data_of x)))) x) (kept_elements at cells (1 * a) (1 * b) positions elements e)

  piece : (elements : List ℤ) → elements_at at cells positions ≡ Ok elements → OnePiece (dist_at code.arrays to) s.ranks (vector elements) cuts (cut_piece dist cuts index elements)
  piece elements e =
      let columns = vector_columns (env.arrays index) laid.columns needs.positions laid.size in
      let many = as_many at cells positions elements e in
      let once : laid.columns ≡ 1 * laid.columns = omega arith in
      record {
        columns = laid.columns;
        size = many ∙ columns ∙ once;
        may = lies_may dist (dist_at code.arrays to) laid.columns (length s.ranks) cuts h.some needs.lies laid.may;
        held = λ k d lt.
            let x = get_or s.ranks k d in
            let own = laid.held k d lt in
            lies_held dist (dist_at code.arrays to) cuts (vector elements) x.number (cut_piece dist cuts index elements x) needs.lies (record { rows_are = own.rows_are ∙ needs.positions; cuts_are = own.cuts_are; cells_are = refl });
      }

  -- where there is none at some position
  each_picks : All (λ x. local_next code.arrays tables i x ≡ lifted (and_then (elements_at at cells (piece_at x.arrays index).cells) (λ picked. Ok (with_array to (cut_as (piece_at x.arrays index) picked) (data_of x)))) x) s.ranks
  each_picks k d lt = let x = get_or s.ranks k d in pick_goes code tables to array index at x cells (piece_at x.arrays index).cells (all_cells k d lt) refl

  traps_in_pieces : (t : Trap) → elements_at at cells positions ≡ Err t → IsCut dist → together (local_next code.arrays tables i) s.ranks ≡ One t
  unfolding elements_at
  traps_in_pieces t e is =
      lowest_trap (local_next code.arrays tables i) (element_at at cells) (λ (x : Store). (piece_at x.arrays index).cells) (λ x picked. with_array to (cut_as (piece_at x.arrays index) picked) (data_of x)) t s.ranks
      (recursion_from_All (λ x. local_next code.arrays tables i x ≡ lifted (and_then (elements_at at cells (piece_at x.arrays index).cells) (λ picked. Ok (with_array to (cut_as (piece_at x.arrays index) picked) (data_of x)))) x) s.ranks each_picks)
      (ap (λ ps. elements_at at cells ps) (cells_join dist s.ranks index cuts (env.arrays index) is h.some h.lays.numbers laid) ∙ e)

  traps : (t : Trap) → elements_at at cells positions ≡ Err t → together (local_next code.arrays tables i) s.ranks ≡ One t
  traps t e = by_dist dist refl
    where
      by_dist : (d : Dist) → dist ≡ d → together (local_next code.arrays tables i) s.ranks ≡ One t
      by_dist Var is = traps_in_pieces t e (subst IsCut (sym is) tt)
      by_dist Block is = traps_in_pieces t e (subst IsCut (sym is) tt)
      by_dist Rep is =
          together_one (local_next code.arrays tables i) t s.ranks h.some
          (λ k d lt.
          let x = get_or s.ranks k d in
          let own = whole_cells code s.ranks env index others_there.1 is h.lays k d lt in
          pick_goes code tables to array index at x cells positions (all_cells k d lt) own
          ∙ ap (λ r. lifted (and_then r (λ picked. Ok (with_array to (cut_as (piece_at x.arrays index) picked) (data_of x)))) x) e)

  by_elements : (r : Result (List ℤ) Trap) → elements_at at cells positions ≡ r
      → Does code tables price (IsSound code tables (length s.ranks) (position_of s.ranks + 1)) (λ t. Unit {0}) Env (StandBehind code (arrays_alone (to ∷ [])) s.ranks) 1 (price_of price (pick_code to array index at)) (position_of s.ranks + 1) s (array_made to r env)
  by_elements (Ok elements) e = sets_piece code tables price i to s env (vector elements) cuts (cut_piece dist cuts index elements) refl needs.lies to_there h (goes_on elements e) (piece elements e)
  by_elements (Err t) e = alone_fails code tables price i s env t refl h (traps t e)

picks : (to array index : ℕ) (at : Place) → Performs (MayPick to array index) (elements_picked to array index at) (arrays_alone (to ∷ [])) (pick_code to array index at)
picks to array index at code tables price s env h needs = by_elements code tables price s env to array index at h needs (elements_at at (env.arrays array).cells (env.arrays index).cells) refl

-- ---- what is promised of a list that is this code

pub pick_performs : (to array index : ℕ) (at : Place) (list : List Instr) → list ≡ pick_code to array index at → Performs (MayPick to array index) (elements_picked to array index at) (arrays_alone (to ∷ [])) list
pick_performs to array index at list e = subst (Performs (MayPick to array index) (elements_picked to array index at) (arrays_alone (to ∷ []))) (sym e) (picks to array index at)

pub pick_straight : (to array index : ℕ) (at : Place) (list : List Instr) → list ≡ pick_code to array index at → IsStraight list
pick_straight to array index at list e = one_straight (instr.Pick to array index at) list refl tt e

pub pick_shares : (to array index : ℕ) (at : Place) (list : List Instr) → list ≡ pick_code to array index at → (code : Code) → LiesAs (dist_at code.arrays index) (dist_at code.arrays to) → AllByRecursion (LeavesShared code) list
pick_shares to array index at list e code lies = subst (AllByRecursion (LeavesShared code)) (sym e) ((λ tables x y. next_shared code tables (instr.Pick to array index at) x y lies), tt)

pub pick_work : (to array index : ℕ) (at : Place) (list : List Instr) → list ≡ pick_code to array index at → IsWork 1 list
pick_work to array index at list e = subst (IsWork 1) (sym e) (record { few = omega arith; cheap = λ ranks. omega arith })
