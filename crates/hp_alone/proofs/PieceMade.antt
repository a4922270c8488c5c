-- One array that all ranks set, each to its piece of a whole.
use Rattle.std.proofs.Common.{◌≡◌, ◌∙◌, refl, sym, arith, ℕ, zero, suc, ◌+◌, ◌*◌, ◌<◌, ◌≤◌, List, [], ◌∷◌, length, get_or, map}
use Rattle.std.specs.Prelude.{slice_index}
use Rattle.std.specs.List.{All}
use Rattle.std.proofs.lemmas.List.{get_or-set_other}
use Rattle.hp_word.specs.declared.table.Tables.{Tables}
use Rattle.hp_lattice.specs.declared.dist.Dist.TheVariants.{Rep}
use Rattle.hp_spmd.specs.declared.code.Code.{Code}
use Rattle.hp_spmd.specs.declared.instr.Instr.{Instr}
use Rattle.hp_spmd.specs.declared.store.Piece.{Piece}
use Rattle.hp_spmd.specs.declared.store.Store.{Store}
use Rattle.hp_spmd.specs.Arrays.{with_array}
use Rattle.hp_spmd.specs.Kinds.{Kind, Computes, kind_of}
use Rattle.hp_spmd.specs.Layout.{Env, HoldsPiece, Layout, Whole, vector}
use Rattle.hp_spmd.specs.Local.{local_next}
use Rattle.hp_spmd.specs.Lockstep.{State, position_of}
use Rattle.hp_spmd.specs.Next.{Goes}
use Rattle.hp_spmd.specs.Spread.{SpreadsWell}
use Rattle.hp_spmd.specs.Store.{Data, data_of, dist_at, no_piece}
use Rattle.hp_snippet.specs.Moves.{arrays_alone, changed, silently, with_wholes}
use Rattle.hp_snippet.specs.Outcomes.{Does}
use Rattle.hp_snippet.specs.Promises.{IsRankOf, IsSound, StandBefore, StandBehind, Stays, price_of}
use Rattle.hp_snippet.proofs.Keeping.{stays_layout, word_stays, zip_map}
use Rattle.hp_snippet.proofs.Naming.{named_at}
use Rattle.hp_snippet.proofs.Performing.{computed_by}
use Rattle.hp_snippet.proofs.Ranges.{kept_all}
use Rattle.hp_snippet.proofs.Setting.{shared_count}
use Rattle.hp_alone.proofs.Alone.{alone_went, rank_alone}
use Rattle.hp_alone.proofs.ArraysMade.{OnePiece, SetPieces, set_lies}

-- a rank with its piece
abbrev pub set_piece : ℕ → (Store → Piece) → Store → Data
set_piece to made x = with_array to (made x) (data_of x)

piece_stays : (to : ℕ) (made : Store → Piece) (x : Store) → Stays (arrays_alone (to ∷ [])) x (computed_by (set_piece to made) x)
piece_stays to made x =
    record {
      number = refl;
      ranks_are = refl;
      words = λ w apart. refl;
      arrays = λ k apart. get_or-set_other x.arrays to k (made x) no_piece (λ e. apart.0 (sym e));
      loose = λ k apart. refl;
      executed = refl;
      log = refl;
    }

pub one_set : (code : Code) (to : ℕ) (whole : Whole) (cuts : List ℕ) (made : Store → Piece) (ranks : List Store) → to < length code.arrays → OnePiece (dist_at code.arrays to) ranks whole cuts made
    → SetPieces code ranks (to ∷ []) (whole ∷ []) (cuts ∷ []) (λ x. made x ∷ [])
one_set code to whole cuts made ranks there piece = record { once = (tt, tt); named = (there, tt); wholes_count = refl; cuts_count = refl; made_count = λ x. refl; each = one }
  where
    one : (j : ℕ) → j < 1 → OnePiece (dist_at code.arrays (slice_index (to ∷ []) j)) ranks (get_or (whole ∷ []) j (vector [])) (get_or (cuts ∷ []) j []) (λ x. get_or (made x ∷ []) j no_piece)
    one zero lt = piece
    one (suc j) lt = absurd (omega (arith, lt))

piece_lays : (code : Code) (to : ℕ) (whole : Whole) (cuts : List ℕ) (made : Store → Piece) (ranks : List Store) (env : Env) → to < length code.arrays → All (IsRankOf code (length ranks)) ranks → OnePiece (dist_at code.arrays to) ranks whole cuts made
    → Layout code ranks env → Layout code (map (computed_by (set_piece to made)) ranks) (with_wholes (to ∷ []) (whole ∷ []) env)
piece_lays code to whole cuts made ranks env there each piece l =
    let g = computed_by (set_piece to made) in
    let after = with_wholes (to ∷ []) (whole ∷ []) env in
    let stays = zip_map (Stays (arrays_alone (to ∷ []))) g ranks (λ k d lt. piece_stays to made (get_or ranks k d)) in
    stays_layout code (arrays_alone (to ∷ [])) ranks (map g ranks) env after l (changed (to ∷ []) (cuts ∷ []) l.cuts) stays
    (set_lies code ranks env l (arrays_alone (to ∷ [])) (to ∷ []) (whole ∷ []) (cuts ∷ []) (λ x. made x ∷ []) g after refl refl (λ x. refl) (λ x. refl)
    (λ k d lt. let x = get_or ranks k d in shared_count code.arrays x.ranks x.number x.arrays (each k d lt).placed.shared)
    (one_set code to whole cuts made ranks there piece))
    (λ w value e. word_stays code (arrays_alone (to ∷ [])) ranks (map g ranks) env stays l w value tt e)

-- Where each rank sets an array to its piece of a whole, all together have the whole in it.
pub sets_piece : (code : Code) (tables : Tables) (price : Kind → ℕ) (i : Instr) (to : ℕ) (s : State) (env : Env) (whole : Whole) (cuts : List ℕ) (made : Store → Piece) → kind_of i ≡ Computes → SpreadsWell code.arrays i → to < length code.arrays
    → StandBefore code (i ∷ []) s env → All (λ x. local_next code.arrays tables i x ≡ Goes (computed_by (set_piece to made) x)) s.ranks → OnePiece (dist_at code.arrays to) s.ranks whole cuts made
    → Does code tables price (IsSound code tables (length s.ranks) (position_of s.ranks + 1)) (λ t. Unit {0}) Env (StandBehind code (arrays_alone (to ∷ [])) s.ranks) 1 (price_of price (i ∷ [])) (position_of s.ranks + 1) s (silently (with_wholes (to ∷ []) (whole ∷ []) env))
sets_piece code tables price i to s env whole cuts made computes spreads there h goes piece =
    alone_went code tables price i s env (with_wholes (to ∷ []) (whole ∷ []) env) (arrays_alone (to ∷ [])) (set_piece to made) computes h goes
    (λ k d lt. let x = get_or s.ranks k d in
    rank_alone code tables (length s.ranks) i (set_piece to made) x h.some spreads (named_at code (position_of s.ranks) i h.stand.0) (goes k d lt) refl refl (h.each k d lt))
    (λ k d lt. piece_stays to made (get_or s.ranks k d))
    (piece_lays code to whole cuts made s.ranks env there h.each piece h.lays)

-- a piece that is the whole
pub whole_held : (whole : Whole) (columns number : ℕ) (p : Piece) → length whole.cells ≡ whole.rows * columns → p.rows ≡ whole.rows → p.cuts ≡ 0 ∷ columns ∷ [] → p.cells ≡ whole.cells → HoldsPiece Rep (0 ∷ columns ∷ []) whole number p
whole_held whole columns number p size rows cuts cells =
    let least : whole.rows * 0 ≤ 0 = omega arith in
    let within : 0 + length whole.cells ≤ whole.rows * columns = omega (arith, size) in
    record {
      rows_are = rows;
      cuts_are = cuts;
      cells_are = cells ∙ sym (kept_all (whole.rows * 0) (whole.rows * columns) 0 whole.cells least within);
    }
