-- Copies of arrays.
use Rattle.std.proofs.Common.{◌≡◌, ◌∙◌, refl, sym, subst, arith, ℕ, zero, suc, ◌<◌, ◌≤◌, inl, inr, List, [], ◌∷◌, length, get_or, map}
use Rattle.std.specs.Prelude.{nat_lt, slice_index}
use Rattle.std.specs.List.{All, AllByRecursion, list_all}
use Rattle.std.proofs.lemmas.Bool.{and_parts}
use Rattle.std.proofs.lemmas.List.{length-map}
use Rattle.hp_word.specs.declared.table.Tables.{Tables}
use Rattle.hp_lattice.specs.declared.dist.Dist.{Dist}
use Rattle.hp_lattice.specs.declared.dist.Dist.TheVariants.{Block}
use Rattle.hp_spmd.specs.declared.code.Code.{Code}
use Rattle.hp_spmd.specs.declared.instr.Instr.{Instr}
use Rattle.hp_spmd.specs.declared.instr.Instr.TheVariants as instr
use Rattle.hp_spmd.specs.declared.store.Piece.{Piece}
use Rattle.hp_spmd.specs.declared.store.Store.{Store}
use Rattle.hp_spmd.specs.Arrays.{copy_data, with_arrays}
use Rattle.hp_spmd.specs.Layout.{Env, HoldsPiece, Layout, MayCut, Rises, Whole, vector}
use Rattle.hp_spmd.specs.Local.{local_next}
use Rattle.hp_spmd.specs.Lockstep.{position_of}
use Rattle.hp_spmd.specs.Next.{Goes}
use Rattle.hp_spmd.specs.Spread.{CopyAlike, LiesAs}
use Rattle.hp_spmd.specs.Store.{Data, data_of, dist_at, no_piece, piece_at}
use Rattle.hp_spmd.proofs.ShareCuts.{block_cuts_rise}
use Rattle.hp_spmd.proofs.ShareNext.{next_shared}
use Rattle.hp_snippet.specs.Moves.{arrays_alone, changed, copied, with_wholes}
use Rattle.hp_snippet.specs.Promises.{IsStraight, IsWork, LeavesShared, Performs, Stays}
use Rattle.hp_snippet.proofs.Keeping.{stays_layout, word_stays, zip_map}
use Rattle.hp_snippet.proofs.Naming.{each_below, named_at}
use Rattle.hp_snippet.proofs.Performing.{computed_by}
use Rattle.hp_snippet.proofs.Setting.{set_other, shared_count}
use Rattle.hp_alone.specs.Copying.{MayCopy, copy_code}
use Rattle.hp_alone.proofs.Alone.{alone_went, rank_alone}
use Rattle.hp_alone.proofs.ArraysMade.{OnePiece, SetPieces, set_lies}
use Rattle.hp_alone.proofs.WordsMade.{one_straight}

-- ---- cuts of another array

-- an array that may have the cuts of another one may have these
pub lies_may : (from to : Dist) (len n : ℕ) (cuts : List ℕ) → 1 ≤ n → LiesAs from to → MayCut from len n cuts → MayCut to len n cuts
lies_may from to len n cuts some (inl same) may = subst (λ d. MayCut d len n cuts) (sym same) may
lies_may from to len n cuts some (inr blocks) may =
    let block : MayCut Block len n cuts = subst (λ d. MayCut d len n cuts) blocks.0 may in
    subst (λ d. MayCut d len n cuts) (sym blocks.1) (subst (λ c. Rises c len n) (sym block) (block_cuts_rise len n some))

-- and a piece by these cuts is one of it, too
pub lies_held : (from to : Dist) (cuts : List ℕ) (whole : Whole) (number : ℕ) (p : Piece) → LiesAs from to → HoldsPiece from cuts whole number p → HoldsPiece to cuts whole number p
lies_held from to cuts whole number p (inl same) h = subst (λ d. HoldsPiece d cuts whole number p) (sym same) h
lies_held from to cuts whole number p (inr blocks) h =
    let block : HoldsPiece Block cuts whole number p = subst (λ d. HoldsPiece d cuts whole number p) blocks.0 h in
    subst (λ d. HoldsPiece d cuts whole number p) (sym blocks.1) (record { rows_are = block.rows_are; cuts_are = block.cuts_are; cells_are = block.cells_are })

-- ---- one of several

copy_alike_at : (dists : List Dist) (to from : List ℕ) (j : ℕ) → CopyAlike dists to from → length to ≡ length from → j < length to → LiesAs (dist_at dists (slice_index from j)) (dist_at dists (slice_index to j))
copy_alike_at dists [] from j alike same lt = absurd (omega (arith, lt))
copy_alike_at dists (t ∷ to) [] j alike same lt = absurd (omega (arith, same))
copy_alike_at dists (t ∷ to) (f ∷ from) zero alike same lt = alike.0
copy_alike_at dists (t ∷ to) (f ∷ from) (suc j) alike same lt =
    let rest : length to ≡ length from = omega (arith, same) in
    let on : j < length to = omega (arith, lt) in
    copy_alike_at dists to from j alike.1 rest on

below_at : (n : ℕ) (ns : List ℕ) (j : ℕ) → AllByRecursion (λ k. k < n) ns → j < length ns → slice_index ns j < n
below_at n [] j h lt = absurd (omega (arith, lt))
below_at n (k ∷ ns) zero h lt = h.0
below_at n (k ∷ ns) (suc j) h lt = let on : j < length ns = omega (arith, lt) in below_at n ns j h.1 on

map_at : {X : Type 0} (f : ℕ → X) (xs : List ℕ) (j : ℕ) (d : X) → j < length xs → get_or (map f xs) j d ≡ f (slice_index xs j)
map_at f [] j d lt = absurd (omega (arith, lt))
map_at f (x ∷ xs) zero d lt = refl
map_at {X} f (x ∷ xs) (suc j) d lt = let on : j < length xs = omega (arith, lt) in map_at {X = X} f xs j d on

-- ---- all of them

-- a rank with its copies
abbrev copied_data : (to from : List ℕ) → Store → Data
copied_data to from x = with_arrays to (map (piece_at x.arrays) from) (data_of x)

copied_stays : (to from : List ℕ) (x : Store) → Stays (arrays_alone to) x (computed_by (copied_data to from) x)
copied_stays to from x =
    record {
      number = refl;
      ranks_are = refl;
      words = λ w apart. refl;
      arrays = λ k apart. set_other {X = Piece} to (map (piece_at x.arrays) from) x.arrays k no_piece apart;
      loose = λ k apart. refl;
      executed = refl;
      log = refl;
    }

copied_pieces : (code : Code) (to from : List ℕ) (ranks : List Store) (env : Env) (l : Layout code ranks env) → 1 ≤ length ranks → MayCopy to from code ranks env → AllByRecursion (λ k. k < length code.arrays) to → AllByRecursion (λ k. k < length code.arrays) from
    → SetPieces code ranks to (map env.arrays from) (map l.cuts from) (λ x. map (piece_at x.arrays) from)
copied_pieces code to from ranks env l some may to_named from_named =
    record {
      once = may.once;
      named = to_named;
      wholes_count = may.same ∙ sym (length-map from env.arrays);
      cuts_count = may.same ∙ sym (length-map from l.cuts);
      made_count = λ x. may.same ∙ sym (length-map from (piece_at x.arrays));
      each = one;
    }
  where
    one : (j : ℕ) → j < length to → OnePiece (dist_at code.arrays (slice_index to j)) ranks (get_or (map env.arrays from) j (vector [])) (get_or (map l.cuts from) j []) (λ x. piece_at (map (piece_at x.arrays) from) j)
    one j lt =
        let there : j < length from = subst (λ n. j < n) may.same lt in
        let f = slice_index from j in
        let t = slice_index to j in
        let lies = copy_alike_at code.arrays to from j may.alike may.same lt in
        let laid = l.arrays f (below_at (length code.arrays) from j from_named there) in
        let whole_is = map_at {X = Whole} env.arrays from j (vector []) there in
        let cuts_are = map_at {X = List ℕ} l.cuts from j [] there in
        subst (λ w. OnePiece (dist_at code.arrays t) ranks w (get_or (map l.cuts from) j []) (λ x. piece_at (map (piece_at x.arrays) from) j)) (sym whole_is)
        (subst (λ c. OnePiece (dist_at code.arrays t) ranks (env.arrays f) c (λ x. piece_at (map (piece_at x.arrays) from) j)) (sym cuts_are)
        (record {
          columns = laid.columns;
          size = laid.size;
          may = lies_may (dist_at code.arrays f) (dist_at code.arrays t) laid.columns (length ranks) (l.cuts f) some lies laid.may;
          held = λ k d within.
              let x = get_or ranks k d in
              subst (λ p. HoldsPiece (dist_at code.arrays t) (l.cuts f) (env.arrays f) x.number p) (sym (map_at {X = Piece} (piece_at x.arrays) from j no_piece there))
              (lies_held (dist_at code.arrays f) (dist_at code.arrays t) (l.cuts f) (env.arrays f) x.number (piece_at x.arrays f) lies (laid.held k d within));
        }))

copied_lays : (code : Code) (to from : List ℕ) (ranks : List Store) (env : Env) → 1 ≤ length ranks → (counts : All (λ (x : Store). length x.arrays ≡ length code.arrays) ranks) → MayCopy to from code ranks env
    → AllByRecursion (λ k. k < length code.arrays) to → AllByRecursion (λ k. k < length code.arrays) from → Layout code ranks env
    → Layout code (map (computed_by (copied_data to from)) ranks) (with_wholes to (map env.arrays from) env)
copied_lays code to from ranks env some counts may to_named from_named l =
    let g = computed_by (copied_data to from) in
    let after = with_wholes to (map env.arrays from) env in
    let cuts = map l.cuts from in
    let stays = zip_map (Stays (arrays_alone to)) g ranks (λ k d lt. copied_stays to from (get_or ranks k d)) in
    stays_layout code (arrays_alone to) ranks (map g ranks) env after l (changed to cuts l.cuts) stays
    (set_lies code ranks env l (arrays_alone to) to (map env.arrays from) cuts (λ x. map (piece_at x.arrays) from) g after refl refl (λ x. refl) (λ x. refl) counts
    (copied_pieces code to from ranks env l some may to_named from_named))
    (λ w value e. word_stays code (arrays_alone to) ranks (map g ranks) env stays l w value tt e)

copy_goes : (code : Code) (tables : Tables) (to from : List ℕ) (x : Store) → local_next code.arrays tables (instr.Copy to from) x ≡ Goes (computed_by (copied_data to from) x)
unfolding copy_data
copy_goes code tables to from x = refl

copies : (to from : List ℕ) → Performs (MayCopy to from) (copied to from) (arrays_alone to) (copy_code to from)
copies to from code tables price s env h needs =
    let i = instr.Copy to from in
    let named = named_at code (position_of s.ranks) i h.stand.0 in
    let both = and_parts (list_all (λ k. nat_lt k (length code.arrays)) to) (list_all (λ k. nat_lt k (length code.arrays)) from) named in
    let to_named = each_below (λ a. a) (length code.arrays) to both.0 in
    let from_named = each_below (λ a. a) (length code.arrays) from both.1 in
    alone_went code tables price i s env (with_wholes to (map env.arrays from) env) (arrays_alone to) (copied_data to from) refl h
    (λ k d lt. copy_goes code tables to from (get_or s.ranks k d))
    (λ k d lt. let x = get_or s.ranks k d in rank_alone code tables (length s.ranks) i (copied_data to from) x h.some needs.alike named (copy_goes code tables to from x) refl refl (h.each k d lt))
    (λ k d lt. copied_stays to from (get_or s.ranks k d))
    (copied_lays code to from s.ranks env h.some (λ k d lt. let x = get_or s.ranks k d in shared_count code.arrays x.ranks x.number x.arrays (h.each k d lt).placed.shared) needs to_named from_named h.lays)

pub copy_performs : (to from : List ℕ) (list : List Instr) → list ≡ copy_code to from → Performs (MayCopy to from) (copied to from) (arrays_alone to) list
copy_performs to from list e = subst (Performs (MayCopy to from) (copied to from) (arrays_alone to)) (sym e) (copies to from)

pub copy_straight : (to from : List ℕ) (list : List Instr) → list ≡ copy_code to from → IsStraight list
copy_straight to from list e = one_straight (instr.Copy to from) list refl tt e

pub copy_shares : (to from : List ℕ) (list : List Instr) → list ≡ copy_code to from → (code : Code) → CopyAlike code.arrays to from → AllByRecursion (LeavesShared code) list
copy_shares to from list e code alike = subst (AllByRecursion (LeavesShared code)) (sym e) ((λ tables x y. next_shared code tables (instr.Copy to from) x y alike), tt)

pub copy_work : (to from : List ℕ) (list : List Instr) → list ≡ copy_code to from → IsWork 1 list
copy_work to from list e = subst (IsWork 1) (sym e) (record { few = omega arith; cheap = λ ranks. omega arith })
