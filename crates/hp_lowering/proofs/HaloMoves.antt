-- The halos of a loop on arrays that are cut: each rank gets what is round its block.
use Rattle.std.proofs.Common.{◌≡◌, ◌∙◌, refl, sym, subst, ap, arith, ℕ, suc, ◌<◌, ◌≤◌, List, [], ◌∷◌, ◌++◌, append_assoc, append-nil, length, get_or, map}
use Rattle.std.specs.List.{All, AllByRecursion, AllZip}
use Rattle.std.proofs.lemmas.List.Elements.{AllZip-get_or}
use Rattle.hp_word.specs.declared.table.Tables.{Tables}
use Rattle.hp_lattice.specs.declared.dist.Dist.TheVariants.{Block}
use Rattle.hp_spmd.specs.declared.code.Code.{Code}
use Rattle.hp_spmd.specs.declared.instr.HaloFrom.{HaloFrom}
use Rattle.hp_spmd.specs.declared.instr.HaloFrom.TheVariants.{Loose, Whole}
use Rattle.hp_spmd.specs.declared.instr.Loop.{Loop}
use Rattle.hp_spmd.specs.declared.store.Store.{Store}
use Rattle.hp_spmd.specs.Layout.{Env, Layout}
use Rattle.hp_spmd.specs.Lockstep.{State}
use Rattle.hp_spmd.specs.Needs.{block_span}
use Rattle.hp_spmd.specs.Store.{dist_at}
use Rattle.hp_parfor.specs.declared.parfor.Halo.{Halo}
use Rattle.hp_snippet.specs.Halos.{halo_of}
use Rattle.hp_snippet.specs.Holds.{IsCut}
use Rattle.hp_snippet.specs.Moves.{silently}
use Rattle.hp_snippet.specs.Promises.{Stays}
use Rattle.hp_snippet.proofs.Keeping.{stays_at, stays_count}
use Rattle.hp_alone.specs.OwnLoops.{HasOwn, HasRound}
use Rattle.hp_alone.proofs.OwnParts.{places_are_block}
use Rattle.hp_exchange.specs.Halos.{HasHalo, MayHalo, as_it_was, halo_code, loose_alone}
use Rattle.hp_exchange.proofs.Haloing.{halo_straight, halo_surrounds}
use Rattle.hp_lowering.specs.PartCode.{halo_moves, halos_at}
use Rattle.hp_lowering.proofs.Chaining.{Piece, Stand, piece_of, pieces_join}
use Rattle.hp_lowering.proofs.InputMoves.{InputsHeld, all_turned, can_move, own_keeps, places_keep, same_after, turned_piece}

-- ---- what the ranks have

-- a halo stands in a loose column below a bound
abbrev pub IsBelow : ℕ → HaloFrom → Type 0
IsBelow bound (Loose column reach) = column < bound
IsBelow bound (Whole array) = ⊥

-- besides the inputs, each rank has these halos of these arrays, in loose columns below a bound
pub record HasRounds (code : Code) (l : Loop) (words : ℕ) (names : List ℕ) (bound : ℕ) (halos : List HaloFrom) (around : List ℕ) (ranks : List Store) (f : Env) : Type 0 where
  pub held : InputsHeld code l words names ranks f
  pub round : AllZip (λ h k. IsBelow bound h × All (λ (x : Store). HasRound code l f x h k) ranks) halos around

-- besides the inputs, each rank has these halos of these arrays
pub record RoundsHeld (code : Code) (l : Loop) (words : ℕ) (names : List ℕ) (halos : List HaloFrom) (around : List ℕ) (ranks : List Store) (f : Env) : Type 0 where
  pub held : InputsHeld code l words names ranks f
  pub round : AllZip (λ h k. All (λ (x : Store). HasRound code l f x h k) ranks) halos around

-- ---- lists that go together

pub zip_turned : {X Y : Type 0} (P Q : X → Y → Type 0) (xs : List X) (ys : List Y) → ((x : X) (y : Y) → P x y → Q x y) → AllZip P xs ys → AllZip Q xs ys
zip_turned P Q [] [] turn h = tt
zip_turned P Q [] (y ∷ ys) turn h = absurd h
zip_turned P Q (x ∷ xs) [] turn h = absurd h
zip_turned {X} {Y} P Q (x ∷ xs) (y ∷ ys) turn h = (turn x y h.0, zip_turned {X = X} {Y = Y} P Q xs ys turn h.1)

zip_join : {X Y : Type 0} (P : X → Y → Type 0) (xs more : List X) (ys others : List Y) → AllZip P xs ys → AllZip P more others → AllZip P (xs ++ more) (ys ++ others)
zip_join P [] more [] others a b = b
zip_join P [] more (y ∷ ys) others a b = absurd a
zip_join P (x ∷ xs) more [] others a b = absurd a
zip_join {X} {Y} P (x ∷ xs) more (y ∷ ys) others a b = (a.0, zip_join {X = X} {Y = Y} P xs more ys others a.1 b)

-- ---- halos that are there stay

halo_same : (reach : ℕ) (f : Env) (k : ℕ) (x y : Store) → y.number ≡ x.number → y.ranks ≡ x.ranks → halo_of reach (f.arrays k).cells x.number x.ranks ≡ halo_of reach (f.arrays k).cells y.number y.ranks
halo_same reach f k x y number ranks = ap (λ r. halo_of reach (f.arrays k).cells r x.ranks) (sym number) ∙ ap (λ r. halo_of reach (f.arrays k).cells y.number r) (sym ranks)

block_same : (len : ℕ) (x y : Store) → y.number ≡ x.number → y.ranks ≡ x.ranks → block_span x.number len x.ranks ≡ block_span y.number len y.ranks
block_same len x y number ranks = ap (λ r. block_span r len x.ranks) (sym number) ∙ ap (λ r. block_span y.number len r) (sym ranks)

round_keeps : (code : Code) (l : Loop) (f : Env) (j : ℕ) (x y : Store) (h : HaloFrom) (k : ℕ) → Stays (loose_alone j) x y → IsBelow j h → HasRound code l f x h k → HasRound code l f y h k
round_keeps code l f j x y (Loose column reach) k stays below has = (
  stays.loose column ((λ e. (let same = e in absurd (omega (arith, below, same)))), tt) ∙ has.0 ∙ halo_same reach f k x y stays.number stays.ranks_are,
  places_keep code l (loose_alone j) x y stays tt ∙ has.1 ∙ block_same (length (f.arrays k).cells) x y stays.number stays.ranks_are,
)
round_keeps code l f j x y (Whole array) k stays below has = absurd below

-- ---- halos

module _ (code : Code) (tables : Tables) (n m : ℕ) (words : ℕ) (l : Loop) (names : List ℕ) (there : l.leader < length code.arrays) (block : dist_at code.arrays l.leader ≡ Block) where
  abbrev Has : ℕ → List HaloFrom → List ℕ → List Store → Env → Type 0
  Has j halos around = HasRounds code l words names j halos around

  -- the leader is a vector in pieces
  may_halo : (j : ℕ) (halos : List HaloFrom) (around : List ℕ) (array : ℕ) → array ≡ l.leader → (s : State) (f : Env) → Stand code n m (Has j halos around) s f → MayHalo array code s.ranks f
  may_halo j halos around array led s f h =
      let vector = h.has.held.vector in
      let some = h.some in
      let count = h.count in
      let ranks : 1 ≤ length s.ranks = omega (arith, some, count) in
      subst (λ k. MayHalo k code s.ranks f) (sym led)
      (record { movable = can_move code s.ranks f h.lays ranks l.leader there (subst IsCut (sym block) tt) vector.one_row vector.short; vector = vector.one_row })

  after_halo : (j : ℕ) (halos : List HaloFrom) (around : List ℕ) (array reach : ℕ) → array ≡ l.leader → (s : State) (f : Env) → Stand code n m (Has j halos around) s f → (ys : List Store) → AllZip (Stays (loose_alone j)) s.ranks ys
      → AllZip (HasHalo array reach j code f) s.ranks ys → Layout code ys f → Has (suc j) (halos ++ (Loose j reach ∷ [])) (around ++ (array ∷ [])) ys f
  after_halo j halos around array reach led s f h ys zips got lays =
      let has = h.has in
      let held = has.held in
      let count = stays_count (loose_alone j) s.ranks ys zips in
      record {
        held = record {
          values = held.values;
          vector = held.vector;
          own = all_turned (λ k. All (λ (x : Store). HasOwn code l f x k) s.ranks) (λ k. All (λ (x : Store). HasOwn code l f x k) ys) names
              (λ k a i e lt. own_keeps code l f f (loose_alone j) (get_or s.ranks i e) (get_or ys i e) k (stays_at (loose_alone j) s.ranks ys zips i e lt) tt tt refl (a i e (omega (arith, lt, count)))) held.own;
        };
        round = zip_join (λ r k. IsBelow (suc j) r × All (λ (x : Store). HasRound code l f x r k) ys) halos (Loose j reach ∷ []) around (array ∷ [])
            (zip_turned (λ r k. IsBelow j r × All (λ (x : Store). HasRound code l f x r k) s.ranks) (λ r k. IsBelow (suc j) r × All (λ (x : Store). HasRound code l f x r k) ys) halos around
            (λ r k a. (below_more j r a.0, λ i e lt. round_keeps code l f j (get_or s.ranks i e) (get_or ys i e) r k (stays_at (loose_alone j) s.ranks ys zips i e lt) a.0 (a.1 i e (omega (arith, lt, count))))) has.round) (
              (
                omega arith,
                λ i e lt.
                    let x = get_or s.ranks i e in
                    let y = get_or ys i e in
                    let within : i < length s.ranks = omega (arith, lt, count) in
                    let stays = stays_at (loose_alone j) s.ranks ys zips i e lt in (
                      AllZip-get_or (HasHalo array reach j code f) s.ranks ys i e e got within ∙ halo_same reach f array x y stays.number stays.ranks_are,
                      places_are_block code l ys f lays (length (f.arrays array).cells) there block held.vector.one_row (ap (λ k. length (f.arrays k).cells) led) i e lt,
                    ),
              ),
              tt,
            );
      }
    where
      below_more : (b : ℕ) (r : HaloFrom) → IsBelow b r → IsBelow (suc b) r
      below_more b (Loose column k) lt = omega (arith, lt)
      below_more b (Whole k) lt = lt

  halo_piece : (j : ℕ) (halos : List HaloFrom) (around : List ℕ) (array reach : ℕ) → array ≡ l.leader → Piece code tables n m (halo_code array reach j) (Has j halos around) (Has (suc j) (halos ++ (Loose j reach ∷ [])) (around ++ (array ∷ []))) (λ f. silently f)
  halo_piece j halos around array reach led =
      let To = Has (suc j) (halos ++ (Loose j reach ∷ [])) (around ++ (array ∷ [])) in
      piece_of code tables n m (halo_code array reach j) (Has j halos around) To (HasHalo array reach j) (MayHalo array) as_it_was (loose_alone j) (halo_straight array reach j (halo_code array reach j) refl) (halo_surrounds array reach j (halo_code array reach j) refl)
      (may_halo j halos around array led)
      (λ s f h ys after is zips got lays.
      let same = ap (λ a. a.env) (same_after (record { env = f; text = [] }) after (silently f) refl is) in
      subst (To ys) same (after_halo j halos around array reach led s f h ys zips got (subst (Layout code ys) (sym same) lays)))
      (λ f. silently f) (λ ranks f. refl)

  -- each rank has then all halos
  pub halos_piece : (j : ℕ) (hs : List Halo) (halos : List HaloFrom) (around : List ℕ) → AllByRecursion (λ (h : Halo). h.array ≡ l.leader) hs
      → Piece code tables n m (halo_moves j hs) (Has j halos around) (RoundsHeld code l words names (halos ++ halos_at j hs) (around ++ map (λ (h : Halo). h.array) hs)) (λ f. silently f)
  halos_piece j [] halos around led =
      turned_piece code tables n m (Has j halos around) (RoundsHeld code l words names (halos ++ []) (around ++ []))
      (λ s f h. record {
        held = h.has.held;
        round = subst (λ hs. AllZip (λ r k. All (λ (x : Store). HasRound code l f x r k) s.ranks) hs (around ++ [])) (sym (append-nil halos))
            (subst (λ ks. AllZip (λ r k. All (λ (x : Store). HasRound code l f x r k) s.ranks) halos ks) (sym (append-nil around))
            (zip_turned (λ r k. IsBelow j r × All (λ (x : Store). HasRound code l f x r k) s.ranks) (λ r k. All (λ (x : Store). HasRound code l f x r k) s.ranks) halos around (λ r k a. a.1) h.has.round));
      })
  halos_piece j (h ∷ hs) halos around led =
      let list = halo_code h.array h.reach j ++ halo_moves (suc j) hs in
      let one = Loose j h.reach ∷ [] in
      let arrays = map (λ (g : Halo). g.array) hs in
      subst (λ rs. Piece code tables n m list (Has j halos around) (RoundsHeld code l words names rs (around ++ (h.array ∷ arrays))) (λ f. silently f)) (append_assoc halos one (halos_at (suc j) hs))
      (subst (λ ks. Piece code tables n m list (Has j halos around) (RoundsHeld code l words names ((halos ++ one) ++ halos_at (suc j) hs) ks) (λ f. silently f)) (append_assoc around (h.array ∷ []) arrays)
      (pieces_join code tables n m (halo_code h.array h.reach j) (halo_moves (suc j) hs) (Has j halos around) (Has (suc j) (halos ++ one) (around ++ (h.array ∷ []))) (RoundsHeld code l words names ((halos ++ one) ++ halos_at (suc j) hs) ((around ++ (h.array ∷ [])) ++ arrays))
      (λ f. silently f) (λ f. silently f) (halo_piece j halos around h.array h.reach led.0) (halos_piece (suc j) hs (halos ++ one) (around ++ (h.array ∷ [])) led.1) (λ f. refl)))
