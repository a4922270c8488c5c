-- What a rank does by a loop over its own places, and what all ranks do together.
use Rattle.std.proofs.Common.{◌≡◌, ◌∙◌, refl, sym, subst, ap, arith, one-mul, ℕ, suc, ◌+◌, ◌-◌, ◌*◌, ◌<◌, ◌≤◌, ℤ, List, [], ◌∷◌, length, get_or, Ok, Err}
use Rattle.std.specs.List.{All, AllByRecursion}
use Rattle.std.proofs.lemmas.List.Elements.{recursion_from_All}
use Rattle.hp_word.specs.declared.place.Trap.{Trap}
use Rattle.hp_word.specs.declared.table.Tables.{Tables}
use Rattle.hp_word.specs.LoopRules.{rows_below, word_at}
use Rattle.hp_lattice.specs.declared.dist.Dist.{Dist}
use Rattle.hp_lattice.specs.declared.dist.Dist.TheVariants.{Rep, Var, Block}
use Rattle.hp_spmd.specs.declared.code.Code.{Code}
use Rattle.hp_spmd.specs.declared.instr.Instr.TheVariants as instr
use Rattle.hp_spmd.specs.declared.instr.Loop.{Loop}
use Rattle.hp_spmd.specs.declared.store.Store.{Store}
use Rattle.hp_spmd.specs.Cuts.{own_from, own_until}
use Rattle.hp_spmd.specs.Layout.{Env, Layout, MayCut}
use Rattle.hp_spmd.specs.Local.{local_next}
use Rattle.hp_spmd.specs.Lockstep.{One, together}
use Rattle.hp_spmd.specs.Loops.{lets_at, loop_data, made_of}
use Rattle.hp_spmd.specs.Next.{Goes}
use Rattle.hp_spmd.specs.Store.{Data, data_of, dist_at, kept, piece_at}
use Rattle.hp_snippet.specs.Holds.{IsCut}
use Rattle.hp_snippet.specs.Promises.{IsRankOf}
use Rattle.hp_snippet.specs.Values.{HasValue, value_or_zero}
use Rattle.hp_snippet.proofs.MoveLists.{range_count}
use Rattle.hp_snippet.proofs.MoveParts.{own_bounds}
use Rattle.hp_snippet.proofs.Performing.{computed_by, together_one}
use Rattle.hp_snippet.proofs.Ranges.{from_is, may_rise, until_is}
use Rattle.hp_alone.specs.Looping.{rows_from}
use Rattle.hp_alone.specs.OwnLoops.{HasRead, MayLoop, MayRead, own_places, whole_row, whole_rows}
use Rattle.hp_alone.proofs.LetsSeen.{lets_seen}
use Rattle.hp_alone.proofs.LowestTrap.{made_by, trap_of_parts}
use Rattle.hp_alone.proofs.OwnParts.{leader_may, places_are}
use Rattle.hp_alone.proofs.OwnRows.{own_rows}
use Rattle.hp_alone.proofs.RowsJoined.{rows_alike}
use Rattle.hp_alone.proofs.WordsMade.{agreed}

-- ---- the places of a rank

-- they are some of the leader's, and it has as many cells of it
pub record HasPlaces (code : Code) (l : Loop) (env : Env) (x : Store) : Type 0 where
  pub rises : (own_places code l x).from ≤ (own_places code l x).until
  pub within : (own_places code l x).until ≤ length (env.arrays l.leader).cells
  pub count : length (piece_at x.arrays l.leader).cells ≡ (own_places code l x).until - (own_places code l x).from

pub have_places : (code : Code) (l : Loop) (ranks : List Store) (env : Env) (lay : Layout code ranks env) → 1 ≤ length ranks → l.leader < length code.arrays → (env.arrays l.leader).rows ≡ 1 → All (IsRankOf code (length ranks)) ranks
    → All (HasPlaces code l env) ranks
have_places code l ranks env lay some there one each k d lt =
    let x = get_or ranks k d in
    let whole = env.arrays l.leader in
    let laid = lay.arrays l.leader there in
    let dist = dist_at code.arrays l.leader in
    let cuts = lay.cuts l.leader in
    let from = own_from dist cuts x.number in
    let until = own_until dist cuts x.number in
    let bounds = own_bounds dist cuts (length whole.cells) (length ranks) some (leader_may code l ranks env lay there one) x.number (each k d lt).placed.number_below in
    let columns_few : until ≤ laid.columns = subst (λ n. until ≤ n) (laid.size ∙ ap (λ r. r * laid.columns) one ∙ one-mul laid.columns) bounds.1 in
    let same = places_are code l ranks env lay there k d lt in
    let held = laid.held k d lt in
    record {
      rises = subst (λ s. s.from ≤ s.until) (sym same) bounds.0;
      within = subst (λ s. s.until ≤ length whole.cells) (sym same) bounds.1;
      count = ap length held.cells_are ∙ range_count {X = ℤ} whole.rows from until laid.columns whole.cells columns_few laid.size ∙ ap (λ r. r * (until - from)) one ∙ one-mul (until - from) ∙ ap (λ s. s.until - s.from) (sym same);
    }

-- ---- one rank

-- a rank of which the lets read what is read of the whole makes the rows of its own places
pub rank_goes : (code : Code) (tables : Tables) (l : Loop) (around : List ℕ) (env : Env) (x : Store) → HasPlaces code l env x → HasRead code l around env x → ((w : ℕ) → HasValue (env.words w) → word_at x.words w ≡ value_or_zero (env.words w))
    → AllByRecursion (MayRead env l) l.lets
    → local_next code.arrays tables (instr.Loop l) x ≡ made_by (λ y rows. made_of l rows (data_of y)) x (rows_from (whole_row l around env) (own_places code l x).from ((own_places code l x).until - (own_places code l x).from))
unfolding loop_data
rank_goes code tables l around env x places has words reads =
    let from = (own_places code l x).from in
    let own = (own_places code l x).until - from in
    ap (λ n. made_by (λ y rows. made_of l rows (data_of y)) x (rows_below (lets_at l (data_of x)) n)) places.count
    ∙ ap (made_by (λ y rows. made_of l rows (data_of y)) x)
    (rows_alike (lets_at l (data_of x)) (λ i. whole_row l around env (from + i)) own (λ i lt. lets_seen l around code env x i has words reads lt))

-- all ranks, each by itself
pub ranks_go : (code : Code) (tables : Tables) (l : Loop) (around : List ℕ) (ranks : List Store) (env : Env) → 1 ≤ length ranks → l.leader < length code.arrays → All (IsRankOf code (length ranks)) ranks → Layout code ranks env → MayLoop l around code ranks env
    → All (λ x. local_next code.arrays tables (instr.Loop l) x ≡ made_by (λ y rows. made_of l rows (data_of y)) x (rows_from (whole_row l around env) (own_places code l x).from ((own_places code l x).until - (own_places code l x).from))) ranks
ranks_go code tables l around ranks env some there each lay may k d lt =
    rank_goes code tables l around env (get_or ranks k d) (have_places code l ranks env lay some there may.vector each k d lt) (may.has k d lt) (λ w has. agreed code ranks env w has lay k d lt) may.reads

-- ---- where the whole has its rows

-- the data of a rank that has done its places
abbrev pub own_data : Code → Loop → (rows : List (List ℤ)) → Store → Data
own_data code l rows x = made_of l (kept (own_places code l x).from (own_places code l x).until 0 rows) (data_of x)

pub ranks_make : (code : Code) (tables : Tables) (l : Loop) (around : List ℕ) (ranks : List Store) (env : Env) (rows : List (List ℤ)) → 1 ≤ length ranks → l.leader < length code.arrays → All (IsRankOf code (length ranks)) ranks → Layout code ranks env → MayLoop l around code ranks env
    → whole_rows l around env ≡ Ok rows → All (λ x. local_next code.arrays tables (instr.Loop l) x ≡ Goes (computed_by (own_data code l rows) x)) ranks
ranks_make code tables l around ranks env rows some there each lay may e k d lt =
    let x = get_or ranks k d in
    let places = have_places code l ranks env lay some there may.vector each k d lt in
    ranks_go code tables l around ranks env some there each lay may k d lt
    ∙ ap (made_by (λ y mine. made_of l mine (data_of y)) x)
    (own_rows (whole_row l around env) (length (env.arrays l.leader).cells) (own_places code l x).from (own_places code l x).until rows places.rises places.within e)

-- ---- where it has a trap

-- ranks that all have all places
all_trap : (code : Code) (tables : Tables) (l : Loop) (around : List ℕ) (ranks : List Store) (env : Env) (t : Trap) → 1 ≤ length ranks → l.leader < length code.arrays → All (IsRankOf code (length ranks)) ranks → (lay : Layout code ranks env) → MayLoop l around code ranks env
    → dist_at code.arrays l.leader ≡ Rep → whole_rows l around env ≡ Err t → together (local_next code.arrays tables (instr.Loop l)) ranks ≡ One t
all_trap code tables l around ranks env t some there each lay may rep trap =
    together_one (local_next code.arrays tables (instr.Loop l)) t ranks some
    (λ k d lt.
    let x = get_or ranks k d in
    let n = length (env.arrays l.leader).cells in
    let cuts : lay.cuts l.leader ≡ 0 ∷ n ∷ [] = subst (λ dist. MayCut dist n (length ranks) (lay.cuts l.leader)) rep (leader_may code l ranks env lay there may.vector) in
    let places = places_are code l ranks env lay there k d lt in
    let from : (own_places code l x).from ≡ 0 = ap (λ s. s.from) places ∙ ap (λ dist. own_from dist (lay.cuts l.leader) x.number) rep ∙ ap (λ cs. get_or cs 0 0) cuts in
    let until : (own_places code l x).until ≡ n = ap (λ s. s.until) places ∙ ap (λ dist. own_until dist (lay.cuts l.leader) x.number) rep ∙ ap (λ cs. get_or cs 1 0) cuts in
    let own : (own_places code l x).until - (own_places code l x).from ≡ n = omega (arith, from, until) in
    ranks_go code tables l around ranks env some there each lay may k d lt
    ∙ ap (made_by (λ y mine. made_of l mine (data_of y)) x)
    (ap (λ f. rows_from (whole_row l around env) f ((own_places code l x).until - (own_places code l x).from)) from
    ∙ ap (rows_from (whole_row l around env) 0) own
    ∙ rows_alike (λ i. whole_row l around env (0 + i)) (whole_row l around env) n (λ i less. (let same : 0 + i ≡ i = omega arith in ap (whole_row l around env) same))
    ∙ trap))

-- ranks between whose cuts the places are
parts_trap : (code : Code) (tables : Tables) (l : Loop) (around : List ℕ) (ranks : List Store) (env : Env) (t : Trap) → 1 ≤ length ranks → l.leader < length code.arrays → All (IsRankOf code (length ranks)) ranks → (lay : Layout code ranks env) → MayLoop l around code ranks env
    → IsCut (dist_at code.arrays l.leader) → whole_rows l around env ≡ Err t → together (local_next code.arrays tables (instr.Loop l)) ranks ≡ One t
parts_trap code tables l around ranks env t some there each lay may cut trap =
    let dist = dist_at code.arrays l.leader in
    let cuts = lay.cuts l.leader in
    let n = length (env.arrays l.leader).cells in
    let f = local_next code.arrays tables (instr.Loop l) in
    let made = λ (y : Store) (rows : List (List ℤ)). made_of l rows (data_of y) in
    let rises = may_rise dist n (length ranks) cuts cut some (leader_may code l ranks env lay there may.vector) in
    let goes = λ (x : Store). f x ≡ made_by made x (rows_from (whole_row l around env) (get_or cuts x.number 0) (get_or cuts (suc x.number) 0 - get_or cuts x.number 0)) in
    let between : All goes ranks = λ k d lt. (
    let x = get_or ranks k d in
    let places = places_are code l ranks env lay there k d lt in
    let from = ap (λ s. s.from) places ∙ from_is dist cuts x.number cut in
    let until = ap (λ s. s.until) places ∙ until_is dist cuts x.number cut in
    ranks_go code tables l around ranks env some there each lay may k d lt
    ∙ ap (λ a. made_by made x (rows_from (whole_row l around env) a ((own_places code l x).until - a))) from
    ∙ ap (λ b. made_by made x (rows_from (whole_row l around env) (get_or cuts x.number 0) (b - get_or cuts x.number 0))) until) in
    trap_of_parts f (whole_row l around env) made (λ r. get_or cuts r 0) n t ranks lay.numbers rises.rises rises.first rises.last (recursion_from_All goes ranks between) trap

-- the first trap of the whole is that of the lowest rank that has one
pub ranks_trap : (code : Code) (tables : Tables) (l : Loop) (around : List ℕ) (ranks : List Store) (env : Env) (t : Trap) → 1 ≤ length ranks → l.leader < length code.arrays → All (IsRankOf code (length ranks)) ranks → (lay : Layout code ranks env) → MayLoop l around code ranks env
    → whole_rows l around env ≡ Err t → together (local_next code.arrays tables (instr.Loop l)) ranks ≡ One t
ranks_trap code tables l around ranks env t some there each lay may trap = by_dist (dist_at code.arrays l.leader) refl
  where
    by_dist : (dist : Dist) → dist_at code.arrays l.leader ≡ dist → together (local_next code.arrays tables (instr.Loop l)) ranks ≡ One t
    by_dist Rep e = all_trap code tables l around ranks env t some there each lay may e trap
    by_dist Var e = parts_trap code tables l around ranks env t some there each lay may (subst IsCut (sym e) tt) trap
    by_dist Block e = parts_trap code tables l around ranks env t some there each lay may (subst IsCut (sym e) tt) trap
