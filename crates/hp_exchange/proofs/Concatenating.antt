-- That the instructions that put one vector behind another do what they promise.
use Rattle.std.proofs.Common.{◌≡◌, ◌∙◌, refl, sym, subst, ap, arith, inl, inr, Bool, true, false, cond, ℕ, suc, ◌+◌, ◌<◌, ◌≤◌, ℤ, List, [], ◌∷◌, ◌++◌, append-nil, length, map, get_or, get_or-set_same, get_or-set_other, one-mul, Result, Ok, Err}
use Rattle.std.specs.Prelude.{◌&&◌, nat_le, nat_lt, slice_index_or, sum}
use Rattle.std.specs.Bool.{IsTrue}
use Rattle.std.specs.List.{All, AllByRecursion, AllZip}
use Rattle.std.proofs.lemmas.Bool.{cases_eq, false≢true, leb-true, ltb-true}
use Rattle.std.proofs.lemmas.List.{length-map}
use Rattle.std.proofs.lemmas.List.Elements.{All-map}
use Rattle.hp_word.specs.declared.place.Place.{Place}
use Rattle.hp_word.specs.declared.place.Trap.{Trap}
use Rattle.hp_word.specs.declared.place.TrapKind.TheVariants.{TooLong}
use Rattle.hp_word.specs.declared.table.Tables.{Tables}
use Rattle.hp_word.specs.Lengths.{longest, trap}
use Rattle.hp_word.specs.ListRules.{appended}
use Rattle.hp_word.specs.LoopRules.{and_then}
use Rattle.hp_spmd.specs.declared.code.Code.{Code}
use Rattle.hp_spmd.specs.declared.instr.CheckRule.TheVariants.{Fits}
use Rattle.hp_spmd.specs.declared.instr.Instr.{Instr}
use Rattle.hp_spmd.specs.declared.instr.Instr.TheVariants as instr
use Rattle.hp_spmd.specs.declared.instr.Need.TheVariants.{First, Second}
use Rattle.hp_spmd.specs.declared.instr.Packing.{Packing}
use Rattle.hp_spmd.specs.declared.instr.Packing.TheVariants.{Move}
use Rattle.hp_spmd.specs.declared.instr.Unpacking.TheVariants.{Glued, Into}
use Rattle.hp_spmd.specs.declared.store.Store.{Store}
use Rattle.hp_spmd.specs.Arrays.{with_array}
use Rattle.hp_spmd.specs.Cuts.{first_cuts}
use Rattle.hp_spmd.specs.Kinds.{Kind, Computes, Packs, Posts, Takes, Unpacks}
use Rattle.hp_spmd.specs.Layout.{Env, HoldsPiece, IsLaid, Layout, MayCut, Whole, vector}
use Rattle.hp_spmd.specs.Local.{local_next, pack_done}
use Rattle.hp_spmd.specs.Lockstep.{state, position_of}
use Rattle.hp_spmd.specs.Scalars.{piece_length}
use Rattle.hp_spmd.specs.Store.{Data, data_of, dealt, dist_at, no_piece, piece_at}
use Rattle.hp_spmd.proofs.ShareCuts.{dealt_shared, first_cuts_may, set_shared}
use Rattle.hp_spmd.proofs.ShareNext.{next_shared}
use Rattle.hp_snippet.specs.Exchanging.{IsExchange}
use Rattle.hp_snippet.specs.Leads.{Leads}
use Rattle.hp_snippet.specs.Moves.{changed, needed, silently, with_wholes}
use Rattle.hp_snippet.specs.Outcomes.{Does, Trips, Went}
use Rattle.hp_snippet.specs.Promises.{IsRankOf, IsSound, IsStraight, IsWork, LeavesShared, StandBefore, StandBehind, Stays, price_of}
use Rattle.hp_snippet.proofs.Exchanges.{together_stops}
use Rattle.hp_snippet.proofs.Keeping.{LiesBehind, stays_layout, word_stays, words_layout, zip_map}
use Rattle.hp_snippet.proofs.Leading.{leads_join, leads_none}
use Rattle.hp_snippet.proofs.MoveParts.{IsMove, columns_seen}
use Rattle.hp_snippet.proofs.MoveWholes.{changed_at, changed_other}
use Rattle.hp_snippet.proofs.Setting.{shared_count}
use Rattle.hp_snippet.proofs.Moving.{moves_perform, pack_names}
use Rattle.hp_snippet.proofs.Naming.{named_at}
use Rattle.hp_snippet.proofs.Performing.{agree_at, all_map, behind, behind_at, computed_at, computed_by, computes_sound, exchange_sound, rank_same, sound_behind, together_one}
use Rattle.hp_exchange.specs.Concats.{Concatenates, DealsBoth, HasBlock, MayConcat, concat_code, concat_writes, concatenated}
use Rattle.hp_exchange.proofs.ConcatParts.{all_three, check_goes, check_traps, columns_are, dealt_held, nothing, vector_movable}
use Rattle.hp_exchange.proofs.Gluing.{glued_makes, into_makes}
use Rattle.hp_exchange.proofs.Halves.{fits_alike}
use Rattle.hp_exchange.proofs.Loosening.{data_loose, loose_each, loose_has, loose_lays}

module _ (code : Code) (tables : Tables) (price : Kind → ℕ) (ranks : List Store) (env : Env) (out : List ℕ) (left right part to : ℕ) (at : Place) (h : StandBefore code (concat_code left right part to at) (state ranks out) env) (needs : MayConcat left right to code ranks env) where
  abbrev first_cells : List ℤ
  first_cells = (env.arrays left).cells

  abbrev second_cells : List ℤ
  second_cells = (env.arrays right).cells

  abbrev last_place : ℕ
  last_place = position_of ranks + 9

  -- ---- what is named

  left_named : left < length code.arrays
  left_named = (pack_names code (suc (position_of ranks)) (left ∷ []) (First right) h.stand.1.0).arrays.0

  right_named : right < length code.arrays
  right_named = (pack_names code (suc (position_of ranks)) (left ∷ []) (First right) h.stand.1.0).need

  part_named : part < code.loose
  part_named = ltb-true part code.loose (named_at code (suc (suc (suc (suc (position_of ranks))))) (instr.Unpack (Into part)) h.stand.1.1.1.1.0)

  to_named : to < length code.arrays
  to_named = ltb-true to (length code.arrays) (first_of (nat_lt to (length code.arrays)) (nat_lt part code.loose) (nat_lt left (length code.arrays)) (nat_lt right (length code.arrays)) (named_at code (suc (suc (suc (suc (suc (suc (suc (suc (position_of ranks))))))))) (instr.Unpack (Glued to part left right)) h.stand.1.1.1.1.1.1.1.1.0))
    where
      first_of : (a b c d : Bool) → IsTrue (a && b && c && d) → IsTrue a
      first_of true b c d e = refl
      first_of false b c d e = absurd (false≢true e)

  -- ---- the look at the lengths

  test_alike : (i : ℕ) (d : Store) → i < length ranks → (let x = get_or ranks i d in nat_le (sum (piece_length (piece_at x.arrays left) ∷ piece_length (piece_at x.arrays right) ∷ [])) longest) ≡ nat_le (length first_cells + length second_cells) longest
  test_alike i d li =
      let x = get_or ranks i d in
      let a = columns_seen code ranks env h.lays h.some left left_named i d li ∙ columns_are code ranks env h.lays left left_named needs.left_vector in
      let b = columns_seen code ranks env h.lays h.some right right_named i d li ∙ columns_are code ranks env h.lays right right_named needs.right_vector in
      fits_alike (piece_length (piece_at x.arrays left)) (piece_length (piece_at x.arrays right)) (length first_cells) (length second_cells) (λ le. omega (arith, a, b, le)) (λ le. omega (arith, a, b, le))

  trips_long : nat_le (length first_cells + length second_cells) longest ≡ false
      → Trips code tables price (IsSound code tables (length ranks) last_place) 9 (price_of price (concat_code left right part to at)) (state ranks out) (trap at TooLong)
  trips_long e =
      record {
        count = 0;
        cost = 0;
        to = state ranks out;
        leads = leads_none code tables price (IsSound code tables (length ranks) last_place) (state ranks out) (record { each = h.each; agree = λ lt. agree_at code tables (instr.Check (left ∷ right ∷ []) Fits at) ranks h.stand.0 tt });
        count_within = omega arith;
        cost_within = omega arith;
        out = refl;
        trips = together_stops code tables (instr.Check (left ∷ right ∷ []) Fits at) ranks out (trap at TooLong) tt h.stand.0
            (together_one (local_next code.arrays tables (instr.Check (left ∷ right ∷ []) Fits at)) (trap at TooLong) ranks h.some (λ i d li. check_traps code.arrays tables left right at (get_or ranks i d) (test_alike i d li ∙ e)));
      }

  -- ---- behind the look

  abbrev ranks_checked : List Store
  ranks_checked = map (computed_by data_of) ranks

  some_checked : 1 ≤ length ranks_checked
  some_checked = let same = length-map ranks (computed_by data_of) in let some = h.some in omega (arith, same, some)

  each_checked : All (IsRankOf code (length ranks)) ranks_checked
  each_checked = all_map (IsRankOf code (length ranks)) (IsRankOf code (length ranks)) (computed_by data_of) (λ x is. rank_same code (length ranks) x (computed_by data_of x) refl refl refl refl refl is) ranks h.each

  stay_checked : AllZip (Stays nothing) ranks ranks_checked
  stay_checked = zip_map (Stays nothing) (computed_by data_of) ranks (λ i d li. record { number = refl; ranks_are = refl; words = λ w none. refl; arrays = λ k none. refl; loose = λ k none. refl; executed = refl; log = refl })

  lays_checked : Layout code ranks_checked env
  lays_checked = words_layout code nothing ranks ranks_checked env env refl stay_checked h.lays refl (λ w value e. word_stays code nothing ranks ranks_checked env stay_checked h.lays w value tt e)

  place_checked : position_of ranks_checked ≡ suc (position_of ranks)
  place_checked = let one : position_of ranks + 1 ≡ suc (position_of ranks) = omega arith in computed_at data_of ranks h.some ∙ one

  -- ---- behind the first exchange

  abbrev cells_first : Store → List ℤ
  cells_first x = (needed (First right) code.arrays env x left).cells

  abbrev sends_first : Packing
  sends_first = Move (left ∷ []) (First right)

  abbrev turned_first : Store → Store
  turned_first = behind code.arrays sends_first ranks_checked (data_loose code ranks_checked env sends_first part cells_first)

  abbrev ranks_first : List Store
  ranks_first = map turned_first ranks_checked

  some_first : 1 ≤ length ranks_first
  some_first = let same = length-map ranks_checked turned_first in let some = some_checked in omega (arith, same, some)

  each_first : All (IsRankOf code (length ranks)) ranks_first
  each_first = loose_each code ranks_checked env sends_first part cells_first (length ranks) each_checked

  lays_first : Layout code ranks_first env
  lays_first = loose_lays code ranks_checked env sends_first part cells_first lays_checked

  place_first : position_of ranks_first ≡ suc (suc (suc (suc (suc (position_of ranks)))))
  place_first =
      let four = behind_at code.arrays sends_first ranks_checked (data_loose code ranks_checked env sends_first part cells_first) some_checked in
      let one = place_checked in
      omega (arith, four, one)

  -- a rank has in the loose column what its block has of the first vector
  has_first : All (λ y. slice_index_or y.loose part [] ≡ (needed (First right) code.arrays env y left).cells) ranks_first
  unfolding pack_done
  has_first =
      All-map (λ (y : Store). slice_index_or y.loose part [] ≡ (needed (First right) code.arrays env y left).cells) turned_first ranks_checked
      (λ i d li. loose_has code ranks_checked env sends_first part cells_first (length ranks) (get_or ranks_checked i d) part_named (each_checked i d li))

  -- ---- behind the second exchange

  abbrev sends_second : Packing
  sends_second = Move (right ∷ []) (Second left)

  abbrev data_both : Store → Data
  data_both x = with_array to (dealt (dist_at code.arrays to) x.number x.ranks (first_cells ++ second_cells)) (data_of x)

  abbrev turned_both : Store → Store
  turned_both = behind code.arrays sends_second ranks_first data_both

  abbrev ranks_both : List Store
  ranks_both = map turned_both ranks_first

  place_both : position_of ranks_both ≡ last_place
  place_both =
      let four = behind_at code.arrays sends_second ranks_first data_both some_first in
      let five = place_first in
      omega (arith, four, five)

  count_both : length ranks_both ≡ length ranks
  count_both = length-map ranks_first turned_both ∙ length-map ranks_checked turned_first ∙ length-map ranks (computed_by data_of)

  each_both : All (IsRankOf code (length ranks)) ranks_both
  unfolding pack_done
  each_both =
      All-map (IsRankOf code (length ranks)) turned_both ranks_first
      (λ i d li.
      let x = get_or ranks_first i d in
      let is = each_first i d li in
      let count = is.placed.ranks_are in
      let some = h.some in
      let below = is.placed.number_below in
      let some_here : 1 ≤ x.ranks = omega (arith, count, some) in
      let below_here : x.number < x.ranks = omega (arith, count, below) in
      record {
        placed = record {
          ranks_are = count;
          number_below = below;
          shared = set_shared code.arrays x.ranks x.number x.arrays to (dealt (dist_at code.arrays to) x.number x.ranks (first_cells ++ second_cells)) is.placed.shared (dealt_shared (dist_at code.arrays to) x.number x.ranks (first_cells ++ second_cells) some_here below_here);
        };
        words = is.words;
        loose = is.loose;
      })

  stay_both : AllZip (Stays (concat_writes part to)) ranks ranks_both
  unfolding pack_done
  stay_both =
      all_three (Stays (concat_writes part to)) (computed_by data_of) turned_first turned_both ranks
      (λ i d li.
      let x = get_or ranks i d in
      record {
        number = refl;
        ranks_are = refl;
        words = λ w none. refl;
        arrays = λ k none. get_or-set_other x.arrays to k (dealt (dist_at code.arrays to) x.number x.ranks (first_cells ++ second_cells)) no_piece (λ e. none.0 (sym e));
        loose = λ k none. get_or-set_other x.loose part k (cells_first x) [] (λ e. none.0 (sym e));
        executed = refl;
        log = refl;
      })

  in_arrays : (x : Store) → IsRankOf code (length ranks) x → to < length x.arrays
  in_arrays x is = let count = shared_count code.arrays x.ranks x.number x.arrays is.placed.shared in let named = to_named in omega (arith, count, named)

  got_both : AllZip (HasBlock left right part to code env) ranks ranks_both
  unfolding pack_done
  got_both =
      all_three (HasBlock left right part to code env) (computed_by data_of) turned_first turned_both ranks
      (λ i d li.
      let x = get_or ranks i d in
      let is = h.each i d li in
      let loose = is.loose in
      let named = part_named in
      let there : part < length x.loose = omega (arith, loose, named) in
      record {
        block = get_or-set_same x.arrays to (dealt (dist_at code.arrays to) x.number x.ranks (first_cells ++ second_cells)) no_piece (in_arrays x is);
        first = get_or-set_same x.loose part (cells_first x) [] there;
      })

  -- ---- what they stand for then

  abbrev both_cuts : List ℕ
  both_cuts = first_cuts (dist_at code.arrays to) (length (first_cells ++ second_cells)) (length ranks)

  abbrev env_both : Env
  env_both = with_wholes (to ∷ []) (vector (first_cells ++ second_cells) ∷ []) env

  laid_to : IsLaid (dist_at code.arrays to) ranks_both to (changed (to ∷ []) (both_cuts ∷ []) h.lays.cuts to) (env_both.arrays to)
  unfolding pack_done
  laid_to =
      let dist = dist_at code.arrays to in
      let cells = first_cells ++ second_cells in
      let zero_first : 0 < length (to ∷ []) = omega arith in
      subst (λ cs. IsLaid dist ranks_both to cs (env_both.arrays to)) (sym (changed_at {X = List ℕ} (to ∷ []) (both_cuts ∷ []) h.lays.cuts 0 [] (tt, tt) refl zero_first))
      (subst (λ w. IsLaid dist ranks_both to both_cuts w) (sym (changed_at {X = Whole} (to ∷ []) (vector cells ∷ []) env.arrays 0 (vector cells) (tt, tt) refl zero_first))
      (record {
        columns = length cells;
        size = sym (one-mul (length cells));
        may = subst (λ n. MayCut dist (length cells) n both_cuts) (sym count_both) (first_cuts_may dist (length cells) (length ranks) h.some);
        held = All-map (λ (y : Store). HoldsPiece dist both_cuts (vector cells) y.number (piece_at y.arrays to)) turned_both ranks_first
            (λ i d li.
            let x = get_or ranks_first i d in
            let is = each_first i d li in
            subst (HoldsPiece dist both_cuts (vector cells) x.number) (sym (get_or-set_same x.arrays to (dealt dist x.number x.ranks cells) no_piece (in_arrays x is)))
            (dealt_held dist x.number x.ranks (length ranks) cells is.placed.ranks_are));
      }))

  lays_both : Layout code ranks_both env_both
  lays_both =
      stays_layout code (concat_writes part to) ranks ranks_both env env_both h.lays (changed (to ∷ []) (both_cuts ∷ []) h.lays.cuts) stay_both (λ slot lt. lies slot)
      (λ w value e. word_stays code (concat_writes part to) ranks ranks_both env stay_both h.lays w value tt e)
    where
      lies : (slot : ℕ) → LiesBehind code (concat_writes part to) ranks_both env env_both h.lays.cuts (changed (to ∷ []) (both_cuts ∷ []) h.lays.cuts) slot
      lies slot =
          elim (cases_eq to slot) as (λ _. LiesBehind code (concat_writes part to) ranks_both env env_both h.lays.cuts (changed (to ∷ []) (both_cuts ∷ []) h.lays.cuts) slot) [
            | inl e ↦ inr (subst (λ t. IsLaid (dist_at code.arrays t) ranks_both t (changed (to ∷ []) (both_cuts ∷ []) h.lays.cuts t) (env_both.arrays t)) e laid_to)
            | inr other ↦
                inl
                ((other, tt), changed_other {X = Whole} (to ∷ []) (vector (first_cells ++ second_cells) ∷ []) env.arrays slot (other, tt), changed_other {X = List ℕ} (to ∷ []) (both_cuts ∷ []) h.lays.cuts slot (other, tt))
          ]

  -- ---- the whole way

  abbrev is_first : Type 0
  is_first = IsExchange code (position_of ranks_checked) sends_first (Into part)

  exchange_first : is_first
  exchange_first =
      subst (λ p. IsExchange code p sends_first (Into part)) (sym place_checked)
      (record { packs = h.stand.1.0; posts = h.stand.1.1.0; takes = h.stand.1.1.1.0; unpacks = h.stand.1.1.1.1.0 })

  exchange_second : IsExchange code (position_of ranks_first) sends_second (Glued to part left right)
  exchange_second =
      subst (λ p. IsExchange code p sends_second (Glued to part left right)) (sym place_first)
      (record { packs = h.stand.1.1.1.1.1.0; posts = h.stand.1.1.1.1.1.1.0; takes = h.stand.1.1.1.1.1.1.1.0; unpacks = h.stand.1.1.1.1.1.1.1.1.0 })

  sound_checked : IsSound code tables (length ranks) last_place (state ranks_checked out)
  sound_checked = record { each = each_checked; agree = λ lt. agree_at code tables (instr.Pack sends_first) ranks_checked exchange_first.packs tt }

  sound_first : IsSound code tables (length ranks) last_place (state ranks_first out)
  sound_first = record { each = each_first; agree = λ lt. agree_at code tables (instr.Pack sends_second) ranks_first exchange_second.packs tt }

  module _ (e : nat_le (length first_cells + length second_cells) longest ≡ true) where
    fits : length first_cells + length second_cells ≤ longest
    fits = leb-true (length first_cells + length second_cells) longest e

    move_first : IsMove code ranks_checked env (left ∷ []) (First right)
    move_first =
        let within = fits in
        let short : length first_cells ≤ longest = omega (arith, within) in
        record {
          some = some_checked;
          lays = lays_checked;
          named = (left_named, tt);
          movable = (vector_movable code ranks_checked env lays_checked left left_named some_checked needs.left_vector needs.left_cut short, tt);
          need_named = right_named;
        }

    move_second : IsMove code ranks_first env (right ∷ []) (Second left)
    move_second =
        let within = fits in
        let short : length second_cells ≤ longest = omega (arith, within) in
        record {
          some = some_first;
          lays = lays_first;
          named = (right_named, tt);
          movable = (vector_movable code ranks_first env lays_first right right_named some_first needs.right_vector needs.right_cut short, tt);
          need_named = left_named;
        }

    leads_checked : Leads code tables price (IsSound code tables (length ranks) last_place) 1 (price Computes) (state ranks out) (state ranks_checked out)
    leads_checked =
        computes_sound code tables price (instr.Check (left ∷ right ∷ []) Fits at) ranks out (length ranks) last_place data_of tt tt h.stand.0 h.each
        (λ i d li. check_goes code.arrays tables left right at (get_or ranks i d) (test_alike i d li ∙ e)) sound_checked

    leads_first : Leads code tables price (IsSound code tables (length ranks) last_place) 4 (price (Packs sends_first) + (price Posts + (price Takes + price (Unpacks (Into part))))) (state ranks_checked out) (state ranks_first out)
    leads_first =
        exchange_sound code tables price sends_first (Into part) ranks_checked out (length ranks) last_place (data_loose code ranks_checked env sends_first part cells_first) some_checked exchange_first each_checked
        (λ i d li. into_makes code ranks_checked env left right part move_first i d li) sound_first

    leads_second : Leads code tables price (IsSound code tables (length ranks) last_place) 4 (price (Packs sends_second) + (price Posts + (price Takes + price (Unpacks (Glued to part left right))))) (state ranks_first out) (state ranks_both out)
    leads_second =
        exchange_sound code tables price sends_second (Glued to part left right) ranks_first out (length ranks) last_place data_both some_first exchange_second each_first
        (λ i d li.
        let is = each_first i d li in
        let count = is.placed.ranks_are in
        let below = is.placed.number_below in
        glued_makes code ranks_first env left right part to move_second needs.to_cut needs.left_vector needs.right_vector fits i d li (omega (arith, count, below)) (has_first i d li))
        (sound_behind code tables (length ranks) last_place (state ranks_both out) each_both place_both)

    goes_both : Went code tables price (IsSound code tables (length ranks) last_place) (λ t. Unit {0}) Env (λ t after. StandBehind code (concat_writes part to) ranks t after × AllZip (HasBlock left right part to code env) ranks t.ranks)
        9 (price_of price (concat_code left right part to at)) last_place (state ranks out) (record { env = env_both; text = [] })
    goes_both =
        let one = price (Packs sends_first) + (price Posts + (price Takes + price (Unpacks (Into part)))) in
        let two = price (Packs sends_second) + (price Posts + (price Takes + price (Unpacks (Glued to part left right)))) in
        let I = IsSound code tables (length ranks) last_place in
        record {
          count = 1 + (4 + 4);
          cost = price Computes + (one + two);
          to = state ranks_both out;
          leads = leads_join code tables price I 1 (price Computes) (4 + 4) (one + two) (state ranks out) (state ranks_checked out) (state ranks_both out) leads_checked
              (leads_join code tables price I 4 one 4 two (state ranks_checked out) (state ranks_first out) (state ranks_both out) leads_first leads_second);
          count_within = omega arith;
          cost_within = omega arith;
          place = place_both;
          out = sym (append-nil out);
          stands = λ t. (record { lays = lays_both; stays = stay_both }, got_both);
        }

-- ---- by whether both are short enough

appended_short : (at : Place) (xs ys : List ℤ) → nat_le (length xs + length ys) longest ≡ true → appended at xs ys ≡ Ok (xs ++ ys)
unfolding appended
appended_short at xs ys e = ap (λ b. cond b (Ok (xs ++ ys)) (Err (trap at TooLong))) e

appended_long : (at : Place) (xs ys : List ℤ) → nat_le (length xs + length ys) longest ≡ false → appended at xs ys ≡ Err (trap at TooLong)
unfolding appended
appended_long at xs ys e = ap (λ b. cond b (Ok (xs ++ ys)) (Err (trap at TooLong))) e

deals_both : (left right part to : ℕ) (at : Place) → DealsBoth left right part to at (concat_code left right part to at)
deals_both left right part to at code tables price s env h needs = by_test (nat_le (length (env.arrays left).cells + length (env.arrays right).cells) longest) refl
  where
    by_result : Result (List ℤ) Trap → Type 0
    by_result r =
        Does code tables price (IsSound code tables (length s.ranks) (position_of s.ranks + 9)) (λ t. Unit {0}) Env (λ t after. StandBehind code (concat_writes part to) s.ranks t after × AllZip (HasBlock left right part to code env) s.ranks t.ranks)
        9 (price_of price (concat_code left right part to at)) (position_of s.ranks + 9) s (and_then r (λ cells. silently (with_wholes (to ∷ []) (vector cells ∷ []) env)))

    by_test : (b : Bool) → nat_le (length (env.arrays left).cells + length (env.arrays right).cells) longest ≡ b → by_result (appended at (env.arrays left).cells (env.arrays right).cells)
    by_test true e = subst by_result (sym (appended_short at (env.arrays left).cells (env.arrays right).cells e)) (goes_both code tables price s.ranks env s.out left right part to at h needs e)
    by_test false e = subst by_result (sym (appended_long at (env.arrays left).cells (env.arrays right).cells e)) (trips_long code tables price s.ranks env s.out left right part to at h needs e)

-- ---- of a list that is these instructions

pub concat_deals : (left right part to : ℕ) (at : Place) (list : List Instr) → list ≡ concat_code left right part to at → DealsBoth left right part to at list
concat_deals left right part to at list e = subst (DealsBoth left right part to at) (sym e) (deals_both left right part to at)

pub list_concatenates : (left right part to : ℕ) (at : Place) (list : List Instr) → list ≡ concat_code left right part to at → Concatenates left right part to at list
list_concatenates left right part to at list e =
    moves_perform (HasBlock left right part to) (MayConcat left right to) (concatenated left right to at) (concat_writes part to) list (concat_deals left right part to at list e)

pub concat_straight : (left right part to : ℕ) (at : Place) (list : List Instr) → list ≡ concat_code left right part to at → IsStraight list
concat_straight left right part to at list e =
    subst IsStraight (sym e)
    (record {
      leads = (refl, (refl, (refl, (refl, (refl, (refl, (refl, (refl, (refl, refl)))))))));
      jumps = (tt, (tt, (tt, (tt, (tt, (tt, (tt, (tt, (tt, tt)))))))));
      sizes = (tt, (tt, (tt, (tt, (tt, (tt, (tt, (tt, (tt, tt)))))))));
    })

pub concat_shares : (left right part to : ℕ) (at : Place) (list : List Instr) → list ≡ concat_code left right part to at → (code : Code) → AllByRecursion (LeavesShared code) list
concat_shares left right part to at list e code =
    let check = λ (tables : Tables) (x y : Store). next_shared code tables (instr.Check (left ∷ right ∷ []) Fits at) x y tt in
    let first = λ (tables : Tables) (x y : Store). next_shared code tables (instr.Pack (Move (left ∷ []) (First right))) x y tt in
    let second = λ (tables : Tables) (x y : Store). next_shared code tables (instr.Pack (Move (right ∷ []) (Second left))) x y tt in
    let post = λ (tables : Tables) (x y : Store). next_shared code tables (instr.Post false) x y tt in
    let take = λ (tables : Tables) (x y : Store). next_shared code tables (instr.Take false) x y tt in
    subst (AllByRecursion (LeavesShared code)) (sym e) (check, (first, (post, (take, (tt, (second, (post, (take, (tt, tt)))))))))

pub concat_work : (left right part to : ℕ) (at : Place) (list : List Instr) → list ≡ concat_code left right part to at → IsWork 2 list
concat_work left right part to at list e = subst (IsWork 2) (sym e) (record { few = omega arith; cheap = λ ranks. omega arith })
