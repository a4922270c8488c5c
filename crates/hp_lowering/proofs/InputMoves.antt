-- The inputs of a loop on arrays that are cut: one that lies in other pieces than the leader is moved, so that each rank has its own
-- places of all of them.
use Rattle.std.proofs.Common.{◌≡◌, ◌∙◌, refl, sym, subst, ap, arith, Bool, true, false, not, one-mul, inl, inr, ℕ, suc, ◌+◌, ◌-◌, ◌*◌, ◌<◌, ◌≤◌, List, [], ◌∷◌, ◌++◌, append_assoc, append-nil, length, get_or, Result, Ok}
use Rattle.std.specs.Prelude.{◌&&◌, if◌then◌else◌}
use Rattle.std.specs.List.{All, AllByRecursion, AllZip}
use Rattle.std.proofs.lemmas.Bool.{cases_eq, false≢true, ne_eqb}
use Rattle.std.proofs.lemmas.List.Elements.{AllZip-get_or}
use Rattle.hp_word.specs.declared.place.Trap.{Trap}
use Rattle.hp_word.specs.declared.table.Tables.{Tables}
use Rattle.hp_lattice.specs.declared.dist.Dist.{Dist}
use Rattle.hp_lattice.specs.declared.dist.Dist.TheVariants.{Rep, Var, Block}
use Rattle.hp_spmd.specs.declared.code.Code.{Code}
use Rattle.hp_spmd.specs.declared.instr.Instr.{Instr}
use Rattle.hp_spmd.specs.declared.instr.Loop.{Loop}
use Rattle.hp_spmd.specs.declared.instr.Need.TheVariants.{Like}
use Rattle.hp_spmd.specs.declared.store.Store.{Store}
use Rattle.hp_spmd.specs.Cuts.{own_from, own_until}
use Rattle.hp_spmd.specs.Layout.{Env, Layout, Whole}
use Rattle.hp_spmd.specs.Lockstep.{State}
use Rattle.hp_spmd.specs.Needs.{span}
use Rattle.hp_spmd.specs.Scalars.{greatest_count}
use Rattle.hp_spmd.specs.Spread.{LiesAs}
use Rattle.hp_spmd.specs.Store.{dist_at, kept, piece_at}
use Rattle.hp_parfor.specs.LoopMeaning.{is_moved, is_var}
use Rattle.hp_snippet.specs.Holds.{IsCut}
use Rattle.hp_snippet.specs.Moves.{HasGot, IsMovable, arrays_alone, columns_of, copied, silently, with_wholes}
use Rattle.hp_snippet.specs.Outcomes.{After}
use Rattle.hp_snippet.specs.Promises.{IsNoneOf, Slots, Stays}
use Rattle.hp_snippet.specs.Values.{HasValue}
use Rattle.hp_snippet.proofs.Keeping.{stays_at, stays_count}
use Rattle.hp_snippet.proofs.MoveParts.{columns_seen}
use Rattle.hp_snippet.proofs.MoveWholes.{changed_at, changed_other}
use Rattle.hp_snippet.proofs.Ranges.{from_is, may_rise, rise_within, until_is}
use Rattle.hp_snippet.proofs.Setting.{numbered_at}
use Rattle.hp_alone.specs.OwnLoops.{HasOwn, own_places}
use Rattle.hp_alone.specs.Scalars.{IsVector}
use Rattle.hp_alone.proofs.OwnParts.{leader_may, own_of_cuts, own_of_length, own_of_move, places_are}
use Rattle.hp_exchange.specs.Ranges.{MayAlign, move_code}
use Rattle.hp_exchange.proofs.RangeMoves.{align_delivers, move_straight}
use Rattle.hp_lowering.specs.PartCode.{input_moves, inputs_at}
use Rattle.hp_lowering.specs.Room.{Room, spare}
use Rattle.hp_lowering.proofs.Chaining.{Piece, Stand, no_piece, piece_of, pieces_join}

-- ---- what the ranks stand for

-- what the ranks stand for once the inputs from the i-th on are moved
abbrev pub moved_env : Room → (ℕ → Dist) → (leader i : ℕ) → List ℕ → Env → Env
moved_env room d leader i [] f = f
moved_env room d leader i (x ∷ xs) f = moved_env room d leader (suc i) xs (if is_moved d leader x then with_wholes (spare room i ∷ []) (f.arrays x ∷ []) f else f)

-- A vector as long as the leader, which lies as that one.
pub record IsInput (room : Room) (d : ℕ → Dist) (leader : ℕ) (f : Env) (x : ℕ) : Type 0 where
  pub below : x < room.slots
  pub same : d x ≡ d leader
  pub one : (f.arrays x).rows ≡ 1
  pub long : length (f.arrays x).cells ≡ length (f.arrays leader).cells

-- The arrays of a code lie as the slots, the leader is cut, and so many spare arrays lie in uneven pieces.
pub record LiesCut (code : Code) (room : Room) (d : ℕ → Dist) (leader most : ℕ) : Type 0 where
  pub there : room.slots ≤ length code.arrays
  pub lies : (k : ℕ) → k < room.slots → dist_at code.arrays k ≡ d k
  pub led : leader < room.slots
  pub cut : IsCut (d leader)
  pub spares : (i : ℕ) → i < most → dist_at code.arrays (spare room i) ≡ Var

-- The program's words have values, and the leader is a vector; these are inputs; and of each of these other arrays, all below a bound, each
-- rank has its own places.
pub record HasInputs (code : Code) (l : Loop) (room : Room) (d : ℕ → Dist) (rest : List ℕ) (bound : ℕ) (names : List ℕ) (ranks : List Store) (f : Env) : Type 0 where
  pub values : (w : ℕ) → w < room.words → HasValue (f.words w)
  pub vector : IsVector (f.arrays l.leader)
  pub fit : AllByRecursion (IsInput room d l.leader f) rest
  pub own : AllByRecursion (λ k. (k < bound) × All (λ (x : Store). HasOwn code l f x k) ranks) names

-- the program's words have values, the leader is a vector, and each rank has its own places of these arrays
pub record InputsHeld (code : Code) (l : Loop) (words : ℕ) (names : List ℕ) (ranks : List Store) (f : Env) : Type 0 where
  pub values : (w : ℕ) → w < words → HasValue (f.words w)
  pub vector : IsVector (f.arrays l.leader)
  pub own : AllByRecursion (λ k. All (λ (x : Store). HasOwn code l f x k) ranks) names

-- ---- lists

pub all_join : {X : Type 0} (P : X → Type 0) (xs ys : List X) → AllByRecursion P xs → AllByRecursion P ys → AllByRecursion P (xs ++ ys)
all_join P [] ys a b = b
all_join {X} P (x ∷ xs) ys a b = (a.0, all_join {X = X} P xs ys a.1 b)

pub all_turned : {X : Type 0} (P Q : X → Type 0) (xs : List X) → ((x : X) → P x → Q x) → AllByRecursion P xs → AllByRecursion Q xs
all_turned P Q [] turn a = tt
all_turned {X} P Q (x ∷ xs) turn a = (turn x a.0, all_turned {X = X} P Q xs turn a.1)

pub same_after : (a b : After Env) (r : Result (After Env) Trap) → r ≡ Ok a → r ≡ Ok b → a ≡ b
same_after a b r e g = cc

-- ---- a piece without an instruction

-- what the ranks have says more
pub turned_piece : (code : Code) (tables : Tables) (n m : ℕ) (From To : List Store → Env → Type 0) → ((s : State) (f : Env) → Stand code n m From s f → To s.ranks f) → Piece code tables n m [] From To (λ f. silently f)
turned_piece code tables n m From To turn =
    let plain = no_piece code tables n m To in
    let to : (s : State) (f : Env) → Stand code n m From s f → Stand code n m To s f = λ s f h. record { some = h.some; count = h.count; each = h.each; at_one = h.at_one; executed = h.executed; logged = h.logged; lays = h.lays; has = turn s f h } in
    record {
      goes = λ s f h stand. plain.goes s f (to s f h) stand;
      keeps = λ s f h stand k lt. plain.keeps s f (to s f h) stand k lt;
    }

-- ---- what ranks keep

-- an input that a rank has at its own places is not written
pub own_keeps : (code : Code) (l : Loop) (f g : Env) (written : Slots) (x y : Store) (k : ℕ) → Stays written x y → IsNoneOf written.arrays l.leader → IsNoneOf written.arrays k → g.arrays k ≡ f.arrays k → HasOwn code l f x k → HasOwn code l g y k
own_keeps code l f g written x y k stays lead apart same has =
    let D = dist_at code.arrays l.leader in
    let cuts = (piece_at x.arrays l.leader).cuts in
    let own = own_places code l x in
    let places : own_places code l y ≡ own = ap (λ p. span (own_from D p.cuts y.number) (own_until D p.cuts y.number)) (stays.arrays l.leader lead) ∙ ap (λ r. span (own_from D cuts r) (own_until D cuts r)) stays.number in
    ap (λ p. p.cells) (stays.arrays k apart) ∙ has ∙ sym (ap (λ s. kept s.from s.until 0 (g.arrays k).cells) places ∙ ap (λ w. kept own.from own.until 0 w.cells) same)

pub places_keep : (code : Code) (l : Loop) (written : Slots) (x y : Store) → Stays written x y → IsNoneOf written.arrays l.leader → own_places code l y ≡ own_places code l x
places_keep code l written x y stays lead =
    let D = dist_at code.arrays l.leader in
    let cuts = (piece_at x.arrays l.leader).cuts in
    ap (λ p. span (own_from D p.cuts y.number) (own_until D p.cuts y.number)) (stays.arrays l.leader lead) ∙ ap (λ r. span (own_from D cuts r) (own_until D cuts r)) stays.number

-- ---- lengths

as_long : (rows columns n : ℕ) → rows ≡ 1 → n ≡ rows * columns → columns ≡ n
as_long rows columns n one e = sym (e ∙ ap (λ r. r * columns) one ∙ one-mul columns)

-- a vector is as long as each rank sees it
seen_long : (code : Code) (ranks : List Store) (f : Env) (lay : Layout code ranks f) → 1 ≤ length ranks → (k : ℕ) → k < length code.arrays → (f.arrays k).rows ≡ 1 → All (λ (x : Store). columns_of (piece_at x.arrays k) ≡ length (f.arrays k).cells) ranks
seen_long code ranks f lay some k there one i d lt = columns_seen code ranks f lay some k there i d lt ∙ as_long (f.arrays k).rows (lay.arrays k there).columns (length (f.arrays k).cells) one (lay.arrays k there).size

pub can_move : (code : Code) (ranks : List Store) (f : Env) (lay : Layout code ranks f) → 1 ≤ length ranks → (k : ℕ) → k < length code.arrays → IsCut (dist_at code.arrays k) → (f.arrays k).rows ≡ 1 → length (f.arrays k).cells ≤ greatest_count → IsMovable code ranks k
can_move code ranks f lay some k there cut one short =
    record { cut = cut; short = λ i d lt. (let x = get_or ranks i d in subst (λ c. c ≤ greatest_count) (sym (seen_long code ranks f lay some k there one i d lt)) short) }

-- own places are within what is counted
pub own_counted : (code : Code) (l : Loop) (ranks : List Store) (f : Env) (lay : Layout code ranks f) → 1 ≤ length ranks → l.leader < length code.arrays → IsCut (dist_at code.arrays l.leader) → IsVector (f.arrays l.leader)
    → All (λ (x : Store). ((own_places code l x).from ≤ greatest_count) × ((own_places code l x).until ≤ greatest_count)) ranks
own_counted code l ranks f lay some there cut vector i d lt =
    let x = get_or ranks i d in
    let n = length ranks in
    let D = dist_at code.arrays l.leader in
    let cuts = lay.cuts l.leader in
    let len = length (f.arrays l.leader).cells in
    let rising = may_rise D len n cuts cut some (leader_may code l ranks f lay there vector.one_row) in
    let number : x.number ≡ 0 + i = numbered_at 0 ranks i d lay.numbers lt in
    let one : x.number + (length ranks - x.number) ≡ n = omega (arith, number, lt) in
    let next : suc x.number + (length ranks - suc x.number) ≡ n = omega (arith, number, lt) in
    let first = rise_within cuts len n rising x.number (length ranks - x.number) one in
    let last = rise_within cuts len n rising (suc x.number) (length ranks - suc x.number) next in
    let short = vector.short in
    let places = places_are code l ranks f lay there i d lt in
    let from : (own_places code l x).from ≡ get_or cuts x.number 0 = ap (λ s. s.from) places ∙ from_is D cuts x.number cut in
    let until : (own_places code l x).until ≡ get_or cuts (suc x.number) 0 = ap (λ s. s.until) places ∙ until_is D cuts x.number cut in
    (omega (arith, first, short, from), omega (arith, last, short, until))

-- ---- distributions

lies_uneven : (from to : Dist) → IsCut from → to ≡ Var → LiesAs from to
lies_uneven Rep to cut e = absurd cut
lies_uneven Var to cut e = inl e
lies_uneven Block to cut e = inr (refl, e)

not_var : (dist : Dist) → is_var dist ≡ false → dist ≡ Var → ⊥
not_var dist test e = false≢true (sym test ∙ ap is_var e)

-- ---- inputs

module _ (code : Code) (tables : Tables) (n m : ℕ) (room : Room) (d : ℕ → Dist) (l : Loop) (most : ℕ) (lies : LiesCut code room d l.leader most) where
  abbrev Has : List ℕ → ℕ → List ℕ → List Store → Env → Type 0
  Has rest i names = HasInputs code l room d rest (room.slots + i) names

  slot_there : (k : ℕ) → k < room.slots → k < length code.arrays
  slot_there k lt = let there = lies.there in omega (arith, lt, there)

  lead_there : l.leader < length code.arrays
  lead_there = slot_there l.leader lies.led

  lead_cut : IsCut (dist_at code.arrays l.leader)
  lead_cut = subst IsCut (sym (lies.lies l.leader lies.led)) lies.cut

  some_ranks : (From : List Store → Env → Type 0) (s : State) (f : Env) → Stand code n m From s f → 1 ≤ length s.ranks
  some_ranks From s f h = let some = h.some in let count = h.count in omega (arith, some, count)

  -- a slot lies as the leader
  lies_so : (f : Env) (x : ℕ) → IsInput room d l.leader f x → dist_at code.arrays x ≡ dist_at code.arrays l.leader
  lies_so f x is = lies.lies x is.below ∙ is.same ∙ sym (lies.lies l.leader lies.led)

  -- ---- an input that stays where it is

  stays_own : (x : ℕ) → is_moved d l.leader x ≡ false → (ranks : List Store) (f : Env) → Layout code ranks f → IsVector (f.arrays l.leader) → IsInput room d l.leader f x → All (λ (y : Store). HasOwn code l f y x) ranks
  stays_own x moved ranks f lay vector is = elim (cases_eq x l.leader) [
    | inl same ↦ subst (λ k. All (λ (y : Store). HasOwn code l f y k) ranks) (sym same) (own_of_cuts code l ranks f lay l.leader lead_there lead_there refl refl vector.one_row)
    | inr other ↦
        let test : is_var (d x) ≡ false = sym (ap (λ b. not b && is_var (d x)) (ne_eqb x l.leader other)) ∙ moved in
        let even : dist_at code.arrays l.leader ≡ Var → ⊥ = λ e. not_var (d x) test (is.same ∙ sym (lies.lies l.leader lies.led) ∙ e) in
        own_of_length code l ranks f lay x lead_there (slot_there x is.below) (lies_so f x is) even vector.one_row is.one is.long
  ]

  stays_piece : (i x : ℕ) (rest names : List ℕ) → is_moved d l.leader x ≡ false → Piece code tables n m [] (Has (x ∷ rest) i names) (Has rest (suc i) (names ++ (x ∷ []))) (λ f. silently f)
  stays_piece i x rest names moved =
      turned_piece code tables n m (Has (x ∷ rest) i names) (Has rest (suc i) (names ++ (x ∷ [])))
      (λ s f h.
      let has = h.has in
      let slot = has.fit.0.below in
      record {
        values = has.values;
        vector = has.vector;
        fit = has.fit.1;
        own = all_join (λ k. (k < room.slots + suc i) × All (λ (y : Store). HasOwn code l f y k) s.ranks) names (x ∷ [])
            (all_turned (λ k. (k < room.slots + i) × All (λ (y : Store). HasOwn code l f y k) s.ranks) (λ k. (k < room.slots + suc i) × All (λ (y : Store). HasOwn code l f y k) s.ranks) names (λ k a. (let low = a.0 in omega (arith, low), a.1)) has.own)
            ((omega (arith, slot), stays_own x moved s.ranks f h.lays has.vector has.fit.0), tt);
      })

  -- ---- an input that is moved

  may_align : (i x : ℕ) (rest names : List ℕ) → i < most → (s : State) (f : Env) → Stand code n m (Has (x ∷ rest) i names) s f → MayAlign x l.leader (spare room i) code s.ranks f
  may_align i x rest names within s f h =
      let is = h.has.fit.0 in
      let vector = h.has.vector in
      let some = some_ranks (Has (x ∷ rest) i names) s f h in
      let there = slot_there x is.below in
      record {
        movable = can_move code s.ranks f h.lays some x there (subst IsCut (sym (lies_so f x is)) lead_cut) is.one (subst (λ k. k ≤ greatest_count) (sym is.long) vector.short);
        same_length = λ k e lt. seen_long code s.ranks f h.lays some x there is.one k e lt ∙ is.long ∙ sym (seen_long code s.ranks f h.lays some l.leader lead_there vector.one_row k e lt);
        lies = lies_uneven (dist_at code.arrays l.leader) (dist_at code.arrays (spare room i)) lead_cut (lies.spares i within);
      }

  -- no slot is a spare array
  apart : (i k : ℕ) → k < room.slots + i → IsNoneOf (spare room i ∷ []) k
  apart i k lt = (λ e. (let same = e in absurd (omega (arith, lt, same))), tt)

  after_move : (i x : ℕ) (rest names : List ℕ) → i < most → (s : State) (f : Env) → Stand code n m (Has (x ∷ rest) i names) s f → (ys : List Store) → AllZip (Stays (arrays_alone (spare room i ∷ []))) s.ranks ys
      → AllZip (HasGot (spare room i ∷ []) (x ∷ []) (Like l.leader) code f) s.ranks ys → Has rest (suc i) (names ++ (spare room i ∷ [])) ys (with_wholes (spare room i ∷ []) (f.arrays x ∷ []) f)
  after_move i x rest names within s f h ys zips got =
      let to = spare room i in
      let g = with_wholes (to ∷ []) (f.arrays x ∷ []) f in
      let written = arrays_alone (to ∷ []) in
      let has = h.has in
      let count = stays_count written s.ranks ys zips in
      let led = lies.led in
      let lead_low : l.leader < room.slots + i = omega (arith, led) in
      let other : (k : ℕ) → k < room.slots + i → g.arrays k ≡ f.arrays k = λ k lt. changed_other {X = Whole} (to ∷ []) (f.arrays x ∷ []) f.arrays k (apart i k lt) in
      let here : g.arrays to ≡ f.arrays x = changed_at {X = Whole} (to ∷ []) (f.arrays x ∷ []) f.arrays 0 (f.arrays x) (tt, tt) refl (omega arith) in
      let lead_same = other l.leader lead_low in
      record {
        values = has.values;
        vector = subst IsVector (sym lead_same) has.vector;
        fit = all_turned (IsInput room d l.leader f) (IsInput room d l.leader g) rest
            (λ k is.
            let slot = is.below in
            let same = other k (omega (arith, slot)) in
            record { below = is.below; same = is.same; one = ap (λ w. w.rows) same ∙ is.one; long = ap (λ w. length w.cells) same ∙ is.long ∙ sym (ap (λ w. length w.cells) lead_same) })
            has.fit.1;
        own = all_join (λ k. (k < room.slots + suc i) × All (λ (y : Store). HasOwn code l g y k) ys) names (to ∷ [])
            (all_turned (λ k. (k < room.slots + i) × All (λ (y : Store). HasOwn code l f y k) s.ranks) (λ k. (k < room.slots + suc i) × All (λ (y : Store). HasOwn code l g y k) ys) names
            (λ k a.
            let low = a.0 in
            (omega (arith, low), λ j e lt. own_keeps code l f g written (get_or s.ranks j e) (get_or ys j e) k (stays_at written s.ranks ys zips j e lt) (apart i l.leader lead_low) (apart i k low) (other k low) (a.1 j e (omega (arith, lt, count)))))
            has.own) (
              (
                omega arith,
                λ j e lt.
                    let within_xs : j < length s.ranks = omega (arith, lt, count) in
                    let x1 = get_or s.ranks j e in
                    let y1 = get_or ys j e in
                    let counted = own_counted code l s.ranks f h.lays (some_ranks (Has (x ∷ rest) i names) s f h) lead_there lead_cut has.vector j e within_xs in
                    own_of_move code l f g x1 y1 x to (AllZip-get_or (HasGot (to ∷ []) (x ∷ []) (Like l.leader) code f) s.ranks ys j e e got within_xs).0 (places_keep code l written x1 y1 (stays_at written s.ranks ys zips j e lt) (apart i l.leader lead_low))
                    here has.fit.0.one counted.0 counted.1,
              ),
              tt,
            );
      }

  moved_piece : (i x : ℕ) (rest names : List ℕ) → i < most
      → Piece code tables n m (move_code (spare room i ∷ []) (x ∷ []) (Like l.leader)) (Has (x ∷ rest) i names) (Has rest (suc i) (names ++ (spare room i ∷ []))) (λ f. silently (with_wholes (spare room i ∷ []) (f.arrays x ∷ []) f))
  moved_piece i x rest names within =
      let to = spare room i in
      let list = move_code (to ∷ []) (x ∷ []) (Like l.leader) in
      let From = Has (x ∷ rest) i names in
      let To = Has rest (suc i) (names ++ (to ∷ [])) in
      piece_of code tables n m list From To (HasGot (to ∷ []) (x ∷ []) (Like l.leader)) (MayAlign x l.leader to) (copied (to ∷ []) (x ∷ [])) (arrays_alone (to ∷ [])) (move_straight (to ∷ []) (x ∷ []) (Like l.leader) list refl) (align_delivers x l.leader to list refl)
      (may_align i x rest names within)
      (λ s f h ys after is zips got lays.
      let same = ap (λ a. a.env) (same_after (record { env = with_wholes (to ∷ []) (f.arrays x ∷ []) f; text = [] }) after (silently (with_wholes (to ∷ []) (f.arrays x ∷ []) f)) refl is) in
      subst (To ys) same (after_move i x rest names within s f h ys zips got))
      (λ f. silently (with_wholes (to ∷ []) (f.arrays x ∷ []) f)) (λ ranks f. refl)

  -- ---- all of them

  abbrev Held : List ℕ → List Store → Env → Type 0
  Held names = InputsHeld code l room.words names

  abbrev moves_are : ℕ → List ℕ → List Instr
  moves_are i xs = input_moves room d l.leader i xs

  abbrev names_are : ℕ → List ℕ → List ℕ
  names_are i xs = inputs_at room d l.leader i xs

  one_more : (i x : ℕ) (xs names : List ℕ) → i < most → (b : Bool) → is_moved d l.leader x ≡ b
      → ((more : List ℕ) → Piece code tables n m (moves_are (suc i) xs) (Has xs (suc i) more) (Held (more ++ names_are (suc i) xs)) (λ f. silently (moved_env room d l.leader (suc i) xs f)))
      → Piece code tables n m ((if b then move_code (spare room i ∷ []) (x ∷ []) (Like l.leader) else []) ++ moves_are (suc i) xs) (Has (x ∷ xs) i names) (Held (names ++ ((if b then spare room i else x) ∷ names_are (suc i) xs)))
      (λ f. silently (moved_env room d l.leader (suc i) xs (if b then with_wholes (spare room i ∷ []) (f.arrays x ∷ []) f else f)))
  one_more i x xs names within true moved rest =
      let to = spare room i in
      subst (λ ns. Piece code tables n m (move_code (to ∷ []) (x ∷ []) (Like l.leader) ++ moves_are (suc i) xs) (Has (x ∷ xs) i names) (Held ns) (λ f. silently (moved_env room d l.leader (suc i) xs (with_wholes (to ∷ []) (f.arrays x ∷ []) f)))) (append_assoc names (to ∷ []) (names_are (suc i) xs))
      (pieces_join code tables n m (move_code (to ∷ []) (x ∷ []) (Like l.leader)) (moves_are (suc i) xs) (Has (x ∷ xs) i names) (Has xs (suc i) (names ++ (to ∷ []))) (Held ((names ++ (to ∷ [])) ++ names_are (suc i) xs))
      (λ f. silently (with_wholes (to ∷ []) (f.arrays x ∷ []) f)) (λ f. silently (moved_env room d l.leader (suc i) xs f)) (moved_piece i x xs names within) (rest (names ++ (to ∷ []))) (λ f. refl))
  one_more i x xs names within false moved rest =
      subst (λ ns. Piece code tables n m (moves_are (suc i) xs) (Has (x ∷ xs) i names) (Held ns) (λ f. silently (moved_env room d l.leader (suc i) xs f))) (append_assoc names (x ∷ []) (names_are (suc i) xs))
      (pieces_join code tables n m [] (moves_are (suc i) xs) (Has (x ∷ xs) i names) (Has xs (suc i) (names ++ (x ∷ []))) (Held ((names ++ (x ∷ [])) ++ names_are (suc i) xs))
      (λ f. silently f) (λ f. silently (moved_env room d l.leader (suc i) xs f)) (stays_piece i x xs names moved) (rest (names ++ (x ∷ []))) (λ f. refl))

  -- each rank has then its own places of all inputs, where they stand
  pub inputs_piece : (i : ℕ) (xs names : List ℕ) → i + length xs ≤ most → Piece code tables n m (moves_are i xs) (Has xs i names) (Held (names ++ names_are i xs)) (λ f. silently (moved_env room d l.leader i xs f))
  inputs_piece i [] names fits =
      turned_piece code tables n m (Has [] i names) (Held (names ++ []))
      (λ s f h. record {
        values = h.has.values;
        vector = h.has.vector;
        own = subst (AllByRecursion (λ k. All (λ (x : Store). HasOwn code l f x k) s.ranks)) (sym (append-nil names)) (all_turned (λ k. (k < room.slots + i) × All (λ (x : Store). HasOwn code l f x k) s.ranks) (λ k. All (λ (x : Store). HasOwn code l f x k) s.ranks) names (λ k a. a.1) h.has.own);
      })
  inputs_piece i (x ∷ xs) names fits =
      let within : i < most = omega (arith, fits) in
      let less : suc i + length xs ≤ most = omega (arith, fits) in
      one_more i x xs names within (is_moved d l.leader x) refl (λ more. inputs_piece (suc i) xs more less)
