-- A loop of which each rank does its own places is the loop of the whole.
use Rattle.std.proofs.Common.{◌≡◌, ◌∙◌, refl, sym, subst, ap, arith, one-mul, ℕ, ◌+◌, ◌*◌, ◌<◌, ◌≤◌, ℤ, List, [], ◌∷◌, length, get_or, map, None, Result, Ok, Err}
use Rattle.std.specs.Prelude.{◌&&◌, nat_lt, slice_index}
use Rattle.std.specs.Bool.{IsTrue}
use Rattle.std.specs.List.{All, AllByRecursion, AllZip, list_all}
use Rattle.std.proofs.lemmas.Bool.{and_parts, ltb-true}
use Rattle.std.proofs.lemmas.List.{get_or-map, length-map}
use Rattle.hp_word.specs.declared.place.Trap.{Trap}
use Rattle.hp_word.specs.Folds.{fold_of}
use Rattle.hp_word.specs.LoopRules.{and_then, column_of, word_at}
use Rattle.hp_spmd.specs.declared.code.Code.{Code}
use Rattle.hp_spmd.specs.declared.instr.Folding.{Folding}
use Rattle.hp_spmd.specs.declared.instr.Instr.TheVariants as instr
use Rattle.hp_spmd.specs.declared.instr.Loop.{Loop}
use Rattle.hp_spmd.specs.declared.instr.Out.{Out}
use Rattle.hp_spmd.specs.declared.store.Piece.{Piece}
use Rattle.hp_spmd.specs.declared.store.Store.{Store}
use Rattle.hp_spmd.specs.Cuts.{own_from, own_until}
use Rattle.hp_spmd.specs.Layout.{Env, HoldsPiece, Layout, Whole, vector}
use Rattle.hp_spmd.specs.Lockstep.{position_of}
use Rattle.hp_spmd.specs.Loops.{cut_as, with_folds}
use Rattle.hp_spmd.specs.Names.{halo_within, instr_within, lets_within}
use Rattle.hp_spmd.specs.Setting.{with_all}
use Rattle.hp_spmd.specs.Spread.{LiesAs}
use Rattle.hp_spmd.specs.Store.{dist_at, kept, no_piece, piece_at}
use Rattle.hp_snippet.specs.Moves.{Moves, changed, silently}
use Rattle.hp_snippet.specs.Outcomes.{Does}
use Rattle.hp_snippet.specs.Promises.{IsRankOf, IsSound, StandBehind, Stays, price_of}
use Rattle.hp_snippet.proofs.Keeping.{stays_layout, word_stays, zip_map}
use Rattle.hp_snippet.proofs.Naming.{named_at}
use Rattle.hp_snippet.proofs.Performing.{computed_by}
use Rattle.hp_snippet.proofs.Setting.{set_other, shared_count}
use Rattle.hp_alone.specs.OwnLoops.{HasFolds, MayLoop, loop_code, loop_writes, looped_in_parts, made_whole, out_arrays, own_part, own_places, whole_row, whole_rows}
use Rattle.hp_alone.proofs.Alone.{alone_comes, alone_fails, rank_alone}
use Rattle.hp_alone.proofs.ArraysMade.{OnePiece, SetPieces, set_lies}
use Rattle.hp_alone.proofs.Copied.{lies_held, lies_may}
use Rattle.hp_alone.proofs.LoopMade.{folds_are, folds_count, folds_other, outs_all, words_but}
use Rattle.hp_alone.proofs.OwnParts.{leader_may, places_are}
use Rattle.hp_alone.proofs.OwnRows.{column_kept, rows_count, same_ok}
use Rattle.hp_alone.proofs.RanksLoop.{own_data, ranks_make, ranks_trap}

-- ---- what the loop names

pub record Names (code : Code) (l : Loop) : Type 0 where
  pub leader : l.leader < length code.arrays
  pub outs : AllByRecursion (λ k. k < length code.arrays) (out_arrays l)
  pub folds : AllByRecursion (λ (f : Folding). f.word < code.words) l.folds

outs_below : (arrays lets : ℕ) (outs : List Out) → IsTrue (list_all (λ (o : Out). nat_lt o.array arrays && nat_lt o.value lets) outs) → AllByRecursion (λ k. k < arrays) (map (λ (o : Out). o.array) outs)
outs_below arrays lets [] h = tt
outs_below arrays lets (o ∷ os) h =
    let parts = and_parts (nat_lt o.array arrays && nat_lt o.value lets) (list_all (λ (p : Out). nat_lt p.array arrays && nat_lt p.value lets) os) h in
    (ltb-true o.array arrays (and_parts (nat_lt o.array arrays) (nat_lt o.value lets) parts.0).0, outs_below arrays lets os parts.1)

folds_below : (words lets : ℕ) (folds : List Folding) → IsTrue (list_all (λ (f : Folding). nat_lt f.word words && nat_lt f.value lets) folds) → AllByRecursion (λ (f : Folding). f.word < words) folds
folds_below words lets [] h = tt
folds_below words lets (f ∷ fs) h =
    let parts = and_parts (nat_lt f.word words && nat_lt f.value lets) (list_all (λ (g : Folding). nat_lt g.word words && nat_lt g.value lets) fs) h in
    (ltb-true f.word words (and_parts (nat_lt f.word words) (nat_lt f.value lets) parts.0).0, folds_below words lets fs parts.1)

pub names_of : (code : Code) (l : Loop) → IsTrue (instr_within code.words (length code.arrays) code.loose (instr.Loop l)) → Names code l
names_of code l named =
    let n = length code.arrays in
    let leader = nat_lt l.leader n in
    let inputs = list_all (λ k. nat_lt k n) l.inputs in
    let halos = list_all (halo_within n code.loose) l.halos in
    let lets = lets_within code.words (length l.inputs) (length l.halos) 0 l.lets in
    let outs = list_all (λ (o : Out). nat_lt o.array n && nat_lt o.value (length l.lets)) l.outs in
    let folds = list_all (λ (f : Folding). nat_lt f.word code.words && nat_lt f.value (length l.lets)) l.folds in
    let a = and_parts (leader && inputs && halos && lets && outs) folds named in
    let b = and_parts (leader && inputs && halos && lets) outs a.0 in
    let c = and_parts (leader && inputs && halos) lets b.0 in
    let d = and_parts (leader && inputs) halos c.0 in
    record {
      leader = ltb-true l.leader n (and_parts leader inputs d.0).0;
      outs = outs_below n (length l.lets) l.outs b.1;
      folds = folds_below code.words (length l.lets) l.folds a.1;
    }

-- ---- what one rank makes

-- the piece that an out becomes on a rank
abbrev own_piece : Code → Loop → (rows : List (List ℤ)) → Store → Out → Piece
own_piece code l rows x o = cut_as (piece_at x.arrays l.leader) (column_of o.value (kept (own_places code l x).from (own_places code l x).until 0 rows))

own_arrays : (code : Code) (l : Loop) (rows : List (List ℤ)) (x : Store) → (computed_by (own_data code l rows) x).arrays ≡ with_all (out_arrays l) (map (own_piece code l rows x) l.outs) x.arrays
own_arrays code l rows x = outs_all l.outs (piece_at x.arrays l.leader) (kept (own_places code l x).from (own_places code l x).until 0 rows) x.arrays

own_stays : (code : Code) (l : Loop) (rows : List (List ℤ)) (x : Store) → Stays (loop_writes l) x (computed_by (own_data code l rows) x)
own_stays code l rows x =
    record {
      number = refl;
      ranks_are = refl;
      words = λ w apart. folds_other l.folds (kept (own_places code l x).from (own_places code l x).until 0 rows) x.words w apart;
      arrays = λ k apart. ap (λ a. piece_at a k) (own_arrays code l rows x) ∙ set_other {X = Piece} (out_arrays l) (map (own_piece code l rows x) l.outs) x.arrays k no_piece apart;
      loose = λ k apart. refl;
      executed = refl;
      log = refl;
    }

-- ---- the outs

-- an out by its place among them
abbrev no_out : Out
no_out = record { array = 0; value = 0 }

abbrev out_whole : List (List ℤ) → Out → Whole
out_whole rows o = vector (column_of o.value rows)

out_held : (code : Code) (l : Loop) (ranks : List Store) (env : Env) (lay : Layout code ranks env) (around : List ℕ) (rows : List (List ℤ)) → l.leader < length code.arrays → MayLoop l around code ranks env → (o : Out) → LiesAs (dist_at code.arrays l.leader) (dist_at code.arrays o.array)
    → (k : ℕ) (d : Store) → k < length ranks → (let x = get_or ranks k d in HoldsPiece (dist_at code.arrays o.array) (lay.cuts l.leader) (out_whole rows o) x.number (own_piece code l rows x o))
out_held code l ranks env lay around rows there may o alike k d lt =
    let x = get_or ranks k d in
    let dist = dist_at code.arrays l.leader in
    let cuts = lay.cuts l.leader in
    let held = (lay.arrays l.leader there).held k d lt in
    let column = column_of o.value rows in
    let from = own_from dist cuts x.number in
    let until = own_until dist cuts x.number in
    lies_held dist (dist_at code.arrays o.array) cuts (out_whole rows o) x.number (own_piece code l rows x o) alike
    (record {
      rows_are = held.rows_are ∙ may.vector;
      cuts_are = held.cuts_are;
      cells_are = column_kept o.value (own_places code l x).from (own_places code l x).until rows
          ∙ ap (λ s. kept s.from s.until 0 column) (places_are code l ranks env lay there k d lt)
          ∙ ap (λ a. kept a until 0 column) (sym (one-mul from)) ∙ ap (λ b. kept (1 * from) b 0 column) (sym (one-mul until));
    })

one_out : (code : Code) (l : Loop) (ranks : List Store) (env : Env) (lay : Layout code ranks env) (around : List ℕ) (rows : List (List ℤ)) → 1 ≤ length ranks → l.leader < length code.arrays → MayLoop l around code ranks env → length rows ≡ length (env.arrays l.leader).cells
    → (o : Out) → LiesAs (dist_at code.arrays l.leader) (dist_at code.arrays o.array) → OnePiece (dist_at code.arrays o.array) ranks (out_whole rows o) (lay.cuts l.leader) (λ x. own_piece code l rows x o)
one_out code l ranks env lay around rows some there may long o alike =
    let n = length (env.arrays l.leader).cells in
    record {
      columns = n;
      size = length-map rows (λ row. word_at row o.value) ∙ long ∙ sym (one-mul n);
      may = lies_may (dist_at code.arrays l.leader) (dist_at code.arrays o.array) n (length ranks) (lay.cuts l.leader) some alike (leader_may code l ranks env lay there may.vector);
      held = out_held code l ranks env lay around rows there may o alike;
    }

outs_are : (code : Code) (l : Loop) (ranks : List Store) (env : Env) (lay : Layout code ranks env) (around : List ℕ) (rows : List (List ℤ)) → 1 ≤ length ranks → Names code l → MayLoop l around code ranks env → length rows ≡ length (env.arrays l.leader).cells
    → SetPieces code ranks (out_arrays l) (map (out_whole rows) l.outs) (map (λ (o : Out). lay.cuts l.leader) l.outs) (λ x. map (own_piece code l rows x) l.outs)
outs_are code l ranks env lay around rows some names may long =
    let count = length-map l.outs (λ (o : Out). o.array) in
    record {
      once = may.outs_once;
      named = names.outs;
      wholes_count = count ∙ sym (length-map l.outs (out_whole rows));
      cuts_count = count ∙ sym (length-map l.outs (λ (o : Out). lay.cuts l.leader));
      made_count = λ x. count ∙ sym (length-map l.outs (own_piece code l rows x));
      each = λ j lt. (let within : j < length l.outs = omega (arith, lt, count) in by_out j within);
    }
  where
    by_out : (j : ℕ) → j < length l.outs → OnePiece (dist_at code.arrays (slice_index (out_arrays l) j)) ranks (get_or (map (out_whole rows) l.outs) j (vector [])) (get_or (map (λ (o : Out). lay.cuts l.leader) l.outs) j []) (λ x. piece_at (map (own_piece code l rows x) l.outs) j)
    by_out j within =
        let o = get_or l.outs j no_out in
        let one = one_out code l ranks env lay around rows some names.leader may long o (may.alike j no_out within) in
        let array = get_or-map {X = Out} {Y = ℕ} (λ (p : Out). p.array) l.outs j no_out 0 within in
        let whole = get_or-map {X = Out} {Y = Whole} (out_whole rows) l.outs j no_out (vector []) within in
        let cuts = get_or-map {X = Out} {Y = List ℕ} (λ (p : Out). lay.cuts l.leader) l.outs j no_out [] within in
        subst (λ a. OnePiece (dist_at code.arrays a) ranks (get_or (map (out_whole rows) l.outs) j (vector [])) (get_or (map (λ (p : Out). lay.cuts l.leader) l.outs) j []) (λ x. piece_at (map (own_piece code l rows x) l.outs) j)) (sym array)
        (subst (λ w. OnePiece (dist_at code.arrays o.array) ranks w (get_or (map (λ (p : Out). lay.cuts l.leader) l.outs) j []) (λ x. piece_at (map (own_piece code l rows x) l.outs) j)) (sym whole)
        (subst (λ c. OnePiece (dist_at code.arrays o.array) ranks (out_whole rows o) c (λ x. piece_at (map (own_piece code l rows x) l.outs) j)) (sym cuts)
        (record {
          columns = one.columns;
          size = one.size;
          may = one.may;
          held = λ k d lt.
              let x = get_or ranks k d in
              subst (HoldsPiece (dist_at code.arrays o.array) (lay.cuts l.leader) (out_whole rows o) x.number) (sym (get_or-map {X = Out} {Y = Piece} (own_piece code l rows x) l.outs j no_out no_piece within)) (one.held k d lt);
        })))

-- ---- all ranks

-- what the ranks stand for where they need not agree on folds
parts_lay : (code : Code) (l : Loop) (around : List ℕ) (rows : List (List ℤ)) (ranks : List Store) (env : Env) → 1 ≤ length ranks → Names code l → All (IsRankOf code (length ranks)) ranks → MayLoop l around code ranks env → length rows ≡ length (env.arrays l.leader).cells → Layout code ranks env
    → Layout code (map (computed_by (own_data code l rows)) ranks) (made_whole l (λ f. None) rows env)
parts_lay code l around rows ranks env some names each may long lay =
    let g = computed_by (own_data code l rows) in
    let after = made_whole l (λ f. None) rows env in
    let cuts = map (λ (o : Out). lay.cuts l.leader) l.outs in
    let stays = zip_map (Stays (loop_writes l)) g ranks (λ k d lt. own_stays code l rows (get_or ranks k d)) in
    stays_layout code (loop_writes l) ranks (map g ranks) env after lay (changed (out_arrays l) cuts lay.cuts) stays
    (set_lies code ranks env lay (loop_writes l) (out_arrays l) (map (out_whole rows) l.outs) cuts (λ x. map (own_piece code l rows x) l.outs) g after refl refl (own_arrays code l rows) (λ x. refl)
    (λ k d lt. let x = get_or ranks k d in shared_count code.arrays x.ranks x.number x.arrays (each k d lt).placed.shared)
    (outs_are code l ranks env lay around rows some names may long))
    (λ w value e. (let had = words_but l.folds env.words w value may.words_once e in word_stays code (loop_writes l) ranks (map g ranks) env stays lay w value had.apart had.had))

-- each rank has the folds of its own part
folds_have : (code : Code) (l : Loop) (around : List ℕ) (rows : List (List ℤ)) (ranks : List Store) (env : Env) → Names code l → All (IsRankOf code (length ranks)) ranks → MayLoop l around code ranks env → whole_rows l around env ≡ Ok rows
    → AllZip (HasFolds l around code env) ranks (map (computed_by (own_data code l rows)) ranks)
folds_have code l around rows ranks env names each may e =
    zip_map (HasFolds l around code env) (computed_by (own_data code l rows)) ranks
    (λ k d lt other same.
    let x = get_or ranks k d in
    let mine = kept (own_places code l x).from (own_places code l x).until 0 rows in
    let is : rows ≡ other = same_ok rows other (sym e ∙ same) in
    subst (λ rs. AllByRecursion (λ (f : Folding). word_at (with_folds l.folds mine x.words) f.word ≡ fold_of f.kind (own_part code l x (column_of f.value rs))) l.folds) is
    (by_columns x l.folds (with_folds l.folds mine x.words) (folds_are l.folds mine x.words may.words_once (below x (each k d lt).words l.folds names.folds))))
  where
    below : (x : Store) → length x.words ≡ code.words → (fs : List Folding) → AllByRecursion (λ (f : Folding). f.word < code.words) fs → AllByRecursion (λ (f : Folding). f.word < length x.words) fs
    below x count [] h = tt
    below x count (f ∷ fs) h = (subst (λ n. f.word < n) (sym count) h.0, below x count fs h.1)

    by_columns : (x : Store) (fs : List Folding) (words : List ℤ) → AllByRecursion (λ (f : Folding). word_at words f.word ≡ fold_of f.kind (column_of f.value (kept (own_places code l x).from (own_places code l x).until 0 rows))) fs
        → AllByRecursion (λ (f : Folding). word_at words f.word ≡ fold_of f.kind (own_part code l x (column_of f.value rows))) fs
    by_columns x [] words h = tt
    by_columns x (f ∷ fs) words h = (h.0 ∙ ap (fold_of f.kind) (column_kept f.value (own_places code l x).from (own_places code l x).until rows), by_columns x fs words h.1)

pub loop_in_parts : (l : Loop) (around : List ℕ) → Moves (HasFolds l around) (MayLoop l around) (looped_in_parts l around) (loop_writes l) (loop_code l)
loop_in_parts l around code tables price s env h may = by_rows (whole_rows l around env) refl
  where
    by_rows : (r : Result (List (List ℤ)) Trap) → whole_rows l around env ≡ r
        → Does code tables price (IsSound code tables (length s.ranks) (position_of s.ranks + 1)) (λ t. Unit {0}) Env (λ t after. StandBehind code (loop_writes l) s.ranks t after × AllZip (HasFolds l around code env) s.ranks t.ranks)
        1 (price_of price (loop_code l)) (position_of s.ranks + 1) s (and_then r (λ rows. silently (made_whole l (λ f. None) rows env)))
    by_rows (Ok rows) e =
        let i = instr.Loop l in
        let named = named_at code (position_of s.ranks) i h.stand.0 in
        let names = names_of code l named in
        let f = own_data code l rows in
        let goes = ranks_make code tables l around s.ranks env rows h.some names.leader h.each h.lays may e in
        let long = rows_count (whole_row l around env) (length (env.arrays l.leader).cells) rows e in
        alone_comes code tables price i s env (made_whole l (λ g. None) rows env) (λ t after. StandBehind code (loop_writes l) s.ranks t after × AllZip (HasFolds l around code env) s.ranks t.ranks) f refl h goes
        (λ k d lt. let x = get_or s.ranks k d in
        rank_alone code tables (length s.ranks) i f x h.some may.alike named (goes k d lt) (folds_count l.folds (kept (own_places code l x).from (own_places code l x).until 0 rows) x.words) refl (h.each k d lt)) (
          record { lays = parts_lay code l around rows s.ranks env h.some names h.each may long h.lays; stays = zip_map (Stays (loop_writes l)) (computed_by f) s.ranks (λ k d lt. own_stays code l rows (get_or s.ranks k d)) },
          folds_have code l around rows s.ranks env names h.each may e,
        )
    by_rows (Err t) e =
        let i = instr.Loop l in
        let named = named_at code (position_of s.ranks) i h.stand.0 in
        let names = names_of code l named in
        alone_fails code tables price i s env t refl h (ranks_trap code tables l around s.ranks env t h.some names.leader h.each h.lays may e)
