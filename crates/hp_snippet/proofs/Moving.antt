-- A whole move: an exchange in which each rank gets exactly what it needs of some arrays.
use Rattle.std.proofs.Common.{◌≡◌, ◌∙◌, ◌⊎◌, refl, sym, subst, ap, arith, Bool, true, false, ℕ, zero, suc, ◌+◌, ◌*◌, ◌<◌, ◌≤◌, inl, inr, List, [], ◌∷◌, length, map, get_or, Result, Ok, Err}
use Rattle.std.specs.Prelude.{◌&&◌, nat_lt, slice_index}
use Rattle.std.specs.List.{All, AllByRecursion, AllZip, list_all}
use Rattle.std.specs.Bool.{IsTrue}
use Rattle.std.proofs.lemmas.Bool.{and_parts, false≢true, ltb-true}
use Rattle.std.proofs.lemmas.List.{get_or-map, get_or_default, length-map}
use Rattle.std.proofs.lemmas.List.Elements.{All-map}
use Rattle.std.proofs.lemmas.List.FromFn.{fill_by_all}
use Rattle.hp_word.specs.declared.place.Trap.{Trap}
use Rattle.hp_word.specs.declared.table.Tables.{Tables}
use Rattle.hp_lattice.specs.declared.dist.Dist.{Dist}
use Rattle.hp_spmd.specs.declared.code.Code.{Code}
use Rattle.hp_spmd.specs.declared.instr.Instr.{Instr}
use Rattle.hp_spmd.specs.declared.instr.Instr.TheVariants as instr
use Rattle.hp_spmd.specs.declared.instr.Need.{Need}
use Rattle.hp_spmd.specs.declared.instr.Need.TheVariants as need
use Rattle.hp_spmd.specs.declared.instr.Packing.TheVariants.{Move}
use Rattle.hp_spmd.specs.declared.instr.Unpacking.TheVariants.{Moved}
use Rattle.hp_spmd.specs.declared.store.Piece.{Piece}
use Rattle.hp_spmd.specs.declared.store.Store.{Store}
use Rattle.hp_spmd.specs.Cuts.{own_from, own_until}
use Rattle.hp_spmd.specs.Exchange.{unpacked}
use Rattle.hp_spmd.specs.Kinds.{Kind}
use Rattle.hp_spmd.specs.Layout.{Env, HoldsPiece, IsLaid, IsShared, Layout, MayCut, Whole}
use Rattle.hp_spmd.specs.Local.{pack_done}
use Rattle.hp_spmd.specs.Lockstep.{State, state, position_of}
use Rattle.hp_spmd.specs.Names.{need_within}
use Rattle.hp_spmd.specs.Needs.{need_cuts, need_span}
use Rattle.hp_spmd.specs.Scalars.{piece_length}
use Rattle.hp_spmd.specs.Setting.{with_all}
use Rattle.hp_spmd.specs.Store.{Data, data_of, dist_at, instr_at, kept, no_piece, piece_at}
use Rattle.hp_spmd.specs.Unpacks.{moved_cells, moved_data}
use Rattle.hp_spmd.proofs.ShareCuts.{shared_at}
use Rattle.hp_snippet.specs.Exchanging.{mail_for}
use Rattle.hp_snippet.specs.Moves.{HasGot, IsMovable, Moves, arrays_alone, changed, needed, with_wholes}
use Rattle.hp_snippet.specs.Outcomes.{After, Does, Went}
use Rattle.hp_snippet.specs.Promises.{AreOnce, IsNoneOf, IsRankOf, IsSound, Performs, Slots, StandBefore, StandBehind, Stays, exchange_code, price_of}
use Rattle.hp_snippet.proofs.Keeping.{LiesBehind, stays_layout, word_stays, zip_map}
use Rattle.hp_snippet.proofs.MoveParts.{IsMove, IsNamed, columns_short, cuts_agree, item_of, length_seen, moved_are, ranks_alike, spans_agree}
use Rattle.hp_snippet.proofs.MoveWholes.{StandsAt, among, changed_at, changed_other, held_shared, set_all_at, set_all_shared}
use Rattle.hp_snippet.proofs.Naming.{each_below, named_at}
use Rattle.hp_snippet.proofs.Setting.{numbered_at, set_other, shared_count}
use Rattle.hp_snippet.proofs.Performing.{exchange_comes, behind}

-- ---- what an array that is moved to is

-- An array of this distribution may have the cuts of the need, for an array of so many columns, and each rank's part of it is
-- what the rank needs. `pieces` are those of some rank.
pub record Receives (dist : Dist) (dists : List Dist) (what : Need) (pieces : List Piece) (columns ranks : ℕ) : Type 0 where
  pub may : MayCut dist columns ranks (need_cuts what pieces columns ranks)
  pub from : (r : ℕ) → r < ranks → own_from dist (need_cuts what pieces columns ranks) r ≡ (need_span what dists pieces r columns ranks).from
  pub until : (r : ℕ) → r < ranks → own_until dist (need_cuts what pieces columns ranks) r ≡ (need_span what dists pieces r columns ranks).until

-- Arrays may be moved to others: all is named, each of the others once, and they may have the cuts of the need.
pub record CanMove (code : Code) (ranks : List Store) (env : Env) (to from : List ℕ) (what : Need) : Type 0 where
  pub move : IsMove code ranks env from what
  pub each : All (IsRankOf code (length ranks)) ranks
  pub once : AreOnce to
  pub same : length to ≡ length from
  pub to_named : AllByRecursion (λ t. t < length code.arrays) to
  pub receives : (d : Store) (j : ℕ) → j < length from → (lt : slice_index from j < length code.arrays)
      → Receives (dist_at code.arrays (slice_index to j)) code.arrays what (get_or ranks 0 d).arrays (move.lays.arrays (slice_index from j) lt).columns (length ranks)

zip_places : (R : ℕ → ℕ → Type 0) (xs ys : List ℕ) → length xs ≡ length ys → ((j : ℕ) → j < length xs → R (slice_index xs j) (slice_index ys j)) → AllZip R xs ys
zip_places R [] [] e h = tt
zip_places R [] (y ∷ ys) e h = absurd (omega (arith, e))
zip_places R (x ∷ xs) [] e h = absurd (omega (arith, e))
zip_places R (x ∷ xs) (y ∷ ys) e h =
    let same : length xs ≡ length ys = omega (arith, e) in
    let first : 0 < length (x ∷ xs) = omega arith in
    (h 0 first, zip_places R xs ys same (λ j lt. let on : suc j < length (x ∷ xs) = omega (arith, lt) in h (suc j) on))

all_to : (P Q : ℕ → Type 0) (xs : List ℕ) → ((k : ℕ) → P k → Q k) → AllByRecursion P xs → AllByRecursion Q xs
all_to P Q [] f h = tt
all_to P Q (x ∷ xs) f h = (f x h.0, all_to P Q xs f h.1)

-- what holds at each place, wherever what is not there is looked for
pub all_places : (P : Store → Type 0) (xs : List Store) (d : Store) → ((i : ℕ) → i < length xs → P (get_or xs i d)) → All P xs
all_places P xs d h = λ i e lt. subst P (get_or_default xs i d e lt) (h i lt)

module _ (code : Code) (ranks : List Store) (env : Env) (to from : List ℕ) (what : Need) (m : CanMove code ranks env to from what) (d : Store) where
  some_ranks : 0 < length ranks
  some_ranks = let some = m.move.some in omega (arith, some)

  from_named : (j : ℕ) → j < length from → slice_index from j < length code.arrays
  from_named j lt = item_of (λ k. k < length code.arrays) from m.move.named j lt

  number_below : (i : ℕ) → i < length ranks → (get_or ranks i d).number < length ranks
  number_below i li = let number = numbered_at 0 ranks i d m.move.lays.numbers li in omega (arith, number, li)

  -- the cuts of an array that is moved, as the first rank sees them
  abbrev cuts_for : ℕ → List ℕ
  cuts_for k = let ps = (get_or ranks 0 d).arrays in need_cuts what ps (piece_length (piece_at ps k)) (length ranks)

  -- the data of a rank that has got its arrays
  abbrev data_got : Store → Data
  data_got x = record (data_of x) { arrays = with_all to (map (needed what code.arrays env x) from) x.arrays }

  -- ---- what it makes

  piece_made : (i : ℕ) → i < length ranks → (j : ℕ) → j < length from
      → needed what code.arrays env (get_or ranks i d) (slice_index from j)
      ≡ (let y = get_or ranks i d in
      let p = piece_at y.arrays (slice_index from j) in
      record { rows = p.rows; cuts = need_cuts what y.arrays (piece_length p) y.ranks; cells = moved_cells code.arrays from what y.number y.ranks (mail_for code.arrays (Move from what) ranks y.number) y.arrays j })
  piece_made i li j lt =
      let y = get_or ranks i d in
      let p = piece_at y.arrays (slice_index from j) in
      let cuts = need_cuts what y.arrays (piece_length p) y.ranks in
      let got = needed what code.arrays env y (slice_index from j) in
      let held = (m.move.lays.arrays (slice_index from j) (from_named j lt)).held i d li in
      ap (λ rows. record { rows = rows; cuts = cuts; cells = got.cells }) (sym held.rows_are)
      ∙ ap (λ cells. record { rows = p.rows; cuts = cuts; cells = cells }) (sym (moved_are code ranks env from what m.move i d li j lt))

  moves_make_at : (i : ℕ) → i < length ranks → (let x = get_or ranks i d in unpacked code.arrays (Moved to from what) x.number x.ranks (mail_for code.arrays (Move from what) ranks x.number) (data_of x) ≡ Ok (data_got x))
  unfolding unpacked moved_data
  moves_make_at i li =
      let x = get_or ranks i d in
      let inbox = mail_for code.arrays (Move from what) ranks x.number in
      let made : ℕ → Piece = (
      λ j.
      let p = piece_at x.arrays (slice_index from j) in
      record { rows = p.rows; cuts = need_cuts what x.arrays (piece_length p) x.ranks; cells = moved_cells code.arrays from what x.number x.ranks inbox x.arrays j }
      ) in
      let got = needed what code.arrays env x in
      ap (λ pieces. Ok (record (data_of x) { arrays = with_all to pieces x.arrays }))
      (sym (fill_by_all made (map got from) (length from) no_piece (length-map from got) (λ j lt. get_or-map got from j 0 no_piece lt ∙ piece_made i li j lt)))

  -- ---- what it holds

  holds_needed : (i : ℕ) → i < length ranks → (j : ℕ) (lt : j < length from)
      → HoldsPiece (dist_at code.arrays (slice_index to j)) (cuts_for (slice_index from j)) (env.arrays (slice_index from j)) (get_or ranks i d).number (needed what code.arrays env (get_or ranks i d) (slice_index from j))
  holds_needed i li j lt =
      let k = slice_index from j in
      let y = get_or ranks i d in
      let ps = (get_or ranks 0 d).arrays in
      let n = length ranks in
      let count = length code.arrays in
      let whole = env.arrays k in
      let l = m.move.lays in
      let named = from_named j lt in
      let columns = (l.arrays k named).columns in
      let receives = m.receives d j lt named in
      let dist = dist_at code.arrays (slice_index to j) in
      let cuts = need_cuts what ps columns n in
      let alike = ranks_alike code ranks env l i 0 d d li some_ranks in
      let short = columns_short code ranks env l m.move.some k named (item_of (IsMovable code ranks) from m.move.movable j lt) in
      let len = length_seen code ranks env l m.move.some k named short i d li in
      let first_len = length_seen code ranks env l m.move.some k named short 0 d some_ranks in
      let of_ranks = l.counts i d li in
      let below = number_below i li in
      let range : need_span what code.arrays y.arrays y.number (piece_length (piece_at y.arrays k)) y.ranks ≡ need_span what code.arrays ps y.number columns n = (
      ap (λ c. need_span what code.arrays y.arrays y.number c y.ranks) len ∙ ap (need_span what code.arrays y.arrays y.number columns) of_ranks ∙ spans_agree code.arrays what count y.arrays ps y.number columns n alike m.move.need_named
      ) in
      subst (λ c. HoldsPiece dist (need_cuts what ps c n) whole y.number (needed what code.arrays env y k)) (sym first_len)
      (record {
        rows_are = refl;
        cuts_are = ap (λ c. need_cuts what y.arrays c y.ranks) len ∙ ap (need_cuts what y.arrays columns) of_ranks ∙ cuts_agree what count y.arrays ps columns n alike m.move.need_named;
        cells_are =
            ap (λ r. kept (whole.rows * r.from) (whole.rows * r.until) 0 whole.cells) range
            ∙ ap (λ f. kept (whole.rows * f) (whole.rows * (need_span what code.arrays ps y.number columns n).until) 0 whole.cells) (sym (receives.from y.number below))
            ∙ ap (λ u. kept (whole.rows * own_from dist cuts y.number) (whole.rows * u) 0 whole.cells) (sym (receives.until y.number below));
      })

  may_have : (j : ℕ) (lt : j < length from) → MayCut (dist_at code.arrays (slice_index to j)) (m.move.lays.arrays (slice_index from j) (from_named j lt)).columns (length ranks) (cuts_for (slice_index from j))
  may_have j lt =
      let k = slice_index from j in
      let named = from_named j lt in
      let columns = (m.move.lays.arrays k named).columns in
      let short = columns_short code ranks env m.move.lays m.move.some k named (item_of (IsMovable code ranks) from m.move.movable j lt) in
      let first_len = length_seen code ranks env m.move.lays m.move.some k named short 0 d some_ranks in
      subst (λ c. MayCut (dist_at code.arrays (slice_index to j)) columns (length ranks) (need_cuts what (get_or ranks 0 d).arrays c (length ranks))) (sym first_len) (m.receives d j lt named).may

  -- ---- one rank

  in_store : (i : ℕ) → i < length ranks → AllByRecursion (λ t. t < length (get_or ranks i d).arrays) to
  in_store i li =
      let x = get_or ranks i d in
      let count = shared_count code.arrays x.ranks x.number x.arrays (m.each i d li).placed.shared in
      all_to (λ t. t < length code.arrays) (λ t. t < length x.arrays) to (λ t h. omega (arith, h, count)) m.to_named

  set_to : (i : ℕ) → i < length ranks → (j : ℕ) → j < length to → piece_at (data_got (get_or ranks i d)).arrays (slice_index to j) ≡ needed what code.arrays env (get_or ranks i d) (slice_index from j)
  set_to i li j lt =
      let x = get_or ranks i d in
      let got = needed what code.arrays env x in
      let same = m.same in
      let many : length to ≡ length (map got from) = same ∙ sym (length-map from got) in
      let in_from : j < length from = omega (arith, lt, same) in
      set_all_at to (map got from) x.arrays j m.once many lt (in_store i li) ∙ get_or-map got from j 0 no_piece in_from

  rank_got : (i : ℕ) → i < length ranks → IsRankOf code (length ranks) (behind code.arrays (Move from what) ranks data_got (get_or ranks i d))
  unfolding pack_done
  rank_got i li =
      let x = get_or ranks i d in
      let h = m.each i d li in
      let got = needed what code.arrays env x in
      let same = m.same in
      record {
        placed = record {
          ranks_are = h.placed.ranks_are;
          number_below = h.placed.number_below;
          shared = set_all_shared code.arrays x.ranks x.number to (map got from) x.arrays
              (λ j lt lm.
              let in_from : j < length from = omega (arith, lt, same) in
              let k = slice_index from j in
              let named = from_named j in_from in
              let laid = m.move.lays.arrays k named in
              let source = shared_at code.arrays x.ranks x.number x.arrays k h.placed.shared named in
              let row = source.some in
              let rows = (laid.held i d li).rows_are in
              let some_row : 1 ≤ (env.arrays k).rows = omega (arith, row, rows) in
              subst (IsShared (dist_at code.arrays (slice_index to j)) x.ranks x.number) (sym (get_or-map got from j 0 no_piece in_from))
              (subst (λ r. IsShared (dist_at code.arrays (slice_index to j)) r x.number (got k)) (sym h.placed.ranks_are)
              (held_shared (dist_at code.arrays (slice_index to j)) (cuts_for k) (env.arrays k) laid.columns (length ranks) x.number (got k) m.move.some h.placed.number_below some_row laid.size (may_have j in_from) (holds_needed i li j in_from))))
              h.placed.shared;
        };
        words = h.words;
        loose = h.loose;
      }

  stays_got : (x : Store) → Stays (arrays_alone to) x (behind code.arrays (Move from what) ranks data_got x)
  unfolding pack_done
  stays_got x =
      record {
        number = refl;
        ranks_are = refl;
        words = λ w none. refl;
        arrays = λ k none. set_other {X = Piece} to (map (needed what code.arrays env x) from) x.arrays k no_piece none;
        loose = λ k none. refl;
        executed = refl;
        log = refl;
      }

  has_got : (i : ℕ) → i < length ranks → HasGot to from what code env (get_or ranks i d) (behind code.arrays (Move from what) ranks data_got (get_or ranks i d))
  has_got i li = zip_places (λ t f. piece_at (data_got (get_or ranks i d)).arrays t ≡ needed what code.arrays env (get_or ranks i d) f) to from m.same (λ j lt. set_to i li j lt)

  -- ---- all ranks

  abbrev ranks_got : List Store
  ranks_got = map (behind code.arrays (Move from what) ranks data_got) ranks

  cuts_at : (j : ℕ) → j < length to → changed to (map cuts_for from) m.move.lays.cuts (slice_index to j) ≡ cuts_for (slice_index from j)
  cuts_at j lt =
      let same = m.same in
      let many : length to ≡ length (map cuts_for from) = same ∙ sym (length-map from cuts_for) in
      let in_from : j < length from = omega (arith, lt, same) in
      changed_at {X = List ℕ} to (map cuts_for from) m.move.lays.cuts j [] m.once many lt ∙ get_or-map cuts_for from j 0 [] in_from

  whole_at : (j : ℕ) → j < length to → changed to (map env.arrays from) env.arrays (slice_index to j) ≡ env.arrays (slice_index from j)
  whole_at j lt =
      let same = m.same in
      let none = env.arrays 0 in
      let many : length to ≡ length (map env.arrays from) = same ∙ sym (length-map from env.arrays) in
      let in_from : j < length from = omega (arith, lt, same) in
      changed_at {X = Whole} to (map env.arrays from) env.arrays j none m.once many lt ∙ get_or-map env.arrays from j 0 none in_from

  laid_at : (j : ℕ) → j < length to → IsLaid (dist_at code.arrays (slice_index to j)) ranks_got (slice_index to j) (changed to (map cuts_for from) m.move.lays.cuts (slice_index to j)) (changed to (map env.arrays from) env.arrays (slice_index to j))
  unfolding pack_done
  laid_at j lt =
      let same = m.same in
      let in_from : j < length from = omega (arith, lt, same) in
      let t = slice_index to j in
      let k = slice_index from j in
      let dist = dist_at code.arrays t in
      let laid = m.move.lays.arrays k (from_named j in_from) in
      let turned = behind code.arrays (Move from what) ranks data_got in
      subst (λ cs. IsLaid dist ranks_got t cs (changed to (map env.arrays from) env.arrays t)) (sym (cuts_at j lt))
      (subst (λ w. IsLaid dist ranks_got t (cuts_for k) w) (sym (whole_at j lt))
      (record {
        columns = laid.columns;
        size = laid.size;
        may = subst (λ n. MayCut dist laid.columns n (cuts_for k)) (sym (length-map ranks turned)) (may_have j in_from);
        held = All-map (λ (y : Store). HoldsPiece dist (cuts_for k) (env.arrays k) y.number (piece_at y.arrays t)) turned ranks (held_at j lt in_from);
      }))
    where
      held_at : (j : ℕ) → j < length to → (in_from : j < length from)
          → All (λ (x : Store). HoldsPiece (dist_at code.arrays (slice_index to j)) (cuts_for (slice_index from j)) (env.arrays (slice_index from j)) x.number (piece_at (data_got x).arrays (slice_index to j))) ranks
      held_at j lt in_from =
          all_places (λ x. HoldsPiece (dist_at code.arrays (slice_index to j)) (cuts_for (slice_index from j)) (env.arrays (slice_index from j)) x.number (piece_at (data_got x).arrays (slice_index to j))) ranks d
          (λ i li.
          let x = get_or ranks i d in
          subst (HoldsPiece (dist_at code.arrays (slice_index to j)) (cuts_for (slice_index from j)) (env.arrays (slice_index from j)) x.number) (sym (set_to i li j lt)) (holds_needed i li j in_from))

  lie_got : (slot : ℕ) → slot < length code.arrays → LiesBehind code (arrays_alone to) ranks_got env (with_wholes to (map env.arrays from) env) m.move.lays.cuts (changed to (map cuts_for from) m.move.lays.cuts) slot
  lie_got slot lt = by_place (among to slot)
    where
      by_place : IsNoneOf to slot ⊎ StandsAt to slot → LiesBehind code (arrays_alone to) ranks_got env (with_wholes to (map env.arrays from) env) m.move.lays.cuts (changed to (map cuts_for from) m.move.lays.cuts) slot
      by_place (inl none) = inl (none, changed_other {X = Whole} to (map env.arrays from) env.arrays slot none, changed_other {X = List ℕ} to (map cuts_for from) m.move.lays.cuts slot none)
      by_place (inr at) =
          inr
          (subst (λ t. IsLaid (dist_at code.arrays t) ranks_got t (changed to (map cuts_for from) m.move.lays.cuts t) (changed to (map env.arrays from) env.arrays t)) at.is (laid_at at.place at.within))

  stay_got : AllZip (Stays (arrays_alone to)) ranks ranks_got
  stay_got = zip_map (Stays (arrays_alone to)) (behind code.arrays (Move from what) ranks data_got) ranks (λ i e li. stays_got (get_or ranks i e))

  lays_got : Layout code ranks_got (with_wholes to (map env.arrays from) env)
  lays_got =
      stays_layout code (arrays_alone to) ranks ranks_got env (with_wholes to (map env.arrays from) env) m.move.lays (changed to (map cuts_for from) m.move.lays.cuts) stay_got lie_got
      (λ w value e. word_stays code (arrays_alone to) ranks ranks_got env stay_got m.move.lays w value tt e)

  -- An exchange by which arrays are moved comes to its end: each rank has exactly what it needed, and all else is as it was.
  pub moves_go : (tables : Tables) (price : Kind → ℕ) (out : List ℕ) → StandBefore code (exchange_code (Move from what) (Moved to from what)) (state ranks out) env
      → Went code tables price (IsSound code tables (length ranks) (position_of ranks + 4)) (λ t. Unit {0}) Env (λ t after. StandBehind code (arrays_alone to) ranks t after × AllZip (HasGot to from what code env) ranks t.ranks) 4
      (price_of price (exchange_code (Move from what) (Moved to from what))) (position_of ranks + 4) (state ranks out) (record { env = with_wholes to (map env.arrays from) env; text = [] })
  moves_go tables price out h =
      let turned = behind code.arrays (Move from what) ranks data_got in
      exchange_comes code tables price (Move from what) (Moved to from what) (state ranks out) env (with_wholes to (map env.arrays from) env) (λ t after. StandBehind code (arrays_alone to) ranks t after × AllZip (HasGot to from what code env) ranks t.ranks) data_got h
      (all_places (λ x. unpacked code.arrays (Moved to from what) x.number x.ranks (mail_for code.arrays (Move from what) ranks x.number) (data_of x) ≡ Ok (data_got x)) ranks d moves_make_at)
      (All-map (IsRankOf code (length ranks)) turned ranks (all_places (λ x. IsRankOf code (length ranks) (turned x)) ranks d rank_got))
      (record { lays = lays_got; stays = stay_got }, zip_map (HasGot to from what code env) turned ranks (all_places (λ x. HasGot to from what code env x (turned x)) ranks d has_got))

-- ---- from what stands in the code

-- the array that a need names is one of the code's
need_named : (count : ℕ) (what : Need) → IsTrue (need_within count what) → IsNamed count what
need_named count (need.Like array) h = ltb-true array count h
need_named count need.Blocks h = tt
need_named count (need.Wide reach) h = tt
need_named count need.Whole h = tt
need_named count (need.First other) h = ltb-true other count h
need_named count (need.Second other) h = ltb-true other count h

-- what a pack of a move names
pub record NamesMoved (code : Code) (from : List ℕ) (what : Need) : Type 0 where
  pub arrays : AllByRecursion (λ k. k < length code.arrays) from
  pub need : IsNamed (length code.arrays) what

pub pack_names : (code : Code) (place : ℕ) (from : List ℕ) (what : Need) → instr_at code.list place ≡ instr.Pack (Move from what) → NamesMoved code from what
pack_names code place from what is =
    let parts = and_parts (list_all (λ k. nat_lt k (length code.arrays)) from) (need_within (length code.arrays) what) (named_at code place (instr.Pack (Move from what)) is) in
    record { arrays = each_below {X = ℕ} (λ k. k) (length code.arrays) from parts.0; need = need_named (length code.arrays) what parts.1 }

unpack_names : (code : Code) (place : ℕ) (to from : List ℕ) (what : Need) → instr_at code.list place ≡ instr.Unpack (Moved to from what) → AllByRecursion (λ t. t < length code.arrays) to
unpack_names code place to from what is =
    let tests = named_at code place (instr.Unpack (Moved to from what)) is in
    each_below {X = ℕ} (λ k. k) (length code.arrays) to (first_of_three (list_all (λ k. nat_lt k (length code.arrays)) to) (list_all (λ k. nat_lt k (length code.arrays)) from) (need_within (length code.arrays) what) tests)
  where
    first_of_three : (a b c : Bool) → IsTrue (a && b && c) → IsTrue a
    first_of_three true b c h = refl
    first_of_three false b c h = absurd (false≢true h)

-- arrays may be moved where the instructions stand and the others may have the cuts
pub can_move : (code : Code) (s : State) (env : Env) (to from : List ℕ) (what : Need) (h : StandBefore code (exchange_code (Move from what) (Moved to from what)) s env)
    → AllByRecursion (IsMovable code s.ranks) from → AreOnce to → length to ≡ length from
    → ((d : Store) (j : ℕ) → j < length from → (lt : slice_index from j < length code.arrays)
    → Receives (dist_at code.arrays (slice_index to j)) code.arrays what (get_or s.ranks 0 d).arrays (h.lays.arrays (slice_index from j) lt).columns (length s.ranks))
    → CanMove code s.ranks env to from what
can_move code s env to from what h movable once same receives =
    let names = pack_names code (position_of s.ranks) from what h.stand.0 in
    record {
      move = record { some = h.some; lays = h.lays; named = names.arrays; movable = movable; need_named = names.need };
      each = h.each;
      once = once;
      same = same;
      to_named = unpack_names code (suc (suc (suc (position_of s.ranks)))) to from what h.stand.1.1.1.0;
      receives = receives;
    }

-- the same of one array
pub can_move_one : (code : Code) (s : State) (env : Env) (to from : ℕ) (what : Need) (h : StandBefore code (exchange_code (Move (from ∷ []) what) (Moved (to ∷ []) (from ∷ []) what)) s env) → IsMovable code s.ranks from
    → ((d : Store) (lt : from < length code.arrays) → Receives (dist_at code.arrays to) code.arrays what (get_or s.ranks 0 d).arrays (h.lays.arrays from lt).columns (length s.ranks))
    → CanMove code s.ranks env (to ∷ []) (from ∷ []) what
can_move_one code s env to from what h movable receives = can_move code s env (to ∷ []) (from ∷ []) what h (movable, tt) (tt, tt) refl by_place
  where
    by_place : (d : Store) (j : ℕ) → j < length (from ∷ []) → (lt : slice_index (from ∷ []) j < length code.arrays)
        → Receives (dist_at code.arrays (slice_index (to ∷ []) j)) code.arrays what (get_or s.ranks 0 d).arrays (h.lays.arrays (slice_index (from ∷ []) j) lt).columns (length s.ranks)
    by_place d zero lt named = receives d named
    by_place d (suc j) lt named = absurd (omega (arith, lt))

-- ---- less is promised

less_done : (code : Code) (tables : Tables) (price : Kind → ℕ) (I : State → Type 0) (P Q : State → Env → Type 0) (most cost until : ℕ) (s : State) (r : Result (After Env) Trap)
    → Does code tables price I (λ t. Unit {0}) Env (λ t after. P t after × Q t after) most cost until s r → Does code tables price I (λ t. Unit {0}) Env P most cost until s r
less_done code tables price I P Q most cost until s (Ok a) h =
    record { count = h.count; cost = h.cost; to = h.to; leads = h.leads; count_within = h.count_within; cost_within = h.cost_within; place = h.place; out = h.out; stands = λ t. (h.stands t).0 }
less_done code tables price I P Q most cost until s (Err t) h = h

-- instructions that perform an operation in which each rank gets something perform it
pub moves_perform : (Gets : Code → Env → (before after : Store) → Type 0) (Needs : Code → List Store → Env → Type 0) (operation : List Store → Env → Result (After Env) Trap) (written : Slots) (list : List Instr)
    → Moves Gets Needs operation written list → Performs Needs operation written list
moves_perform Gets Needs operation written list m code tables price s env h needs =
    less_done code tables price (IsSound code tables (length s.ranks) (position_of s.ranks + length list)) (StandBehind code written s.ranks) (λ t after. AllZip (Gets code env) s.ranks t.ranks)
    (length list) (price_of price list) (position_of s.ranks + length list) s (operation s.ranks env) (m code tables price s env h needs)
