-- A loop over arrays that are whole on each rank: all ranks have the same folds.
use Rattle.std.proofs.Common.{◌≡◌, ◌∙◌, refl, sym, subst, ap, arith, ℕ, zero, suc, ◌+◌, ◌<◌, ◌≤◌, inl, inr, ◌⊎◌, ℤ, List, [], ◌∷◌, length, get_or, map, Option, Some, None, Result, Ok, Err}
use Rattle.std.specs.List.{All, AllByRecursion, AllZip}
use Rattle.std.proofs.lemmas.List.{get_or-map, length-map}
use Rattle.std.proofs.lemmas.List.Elements.{AllZip-get_or}
use Rattle.hp_word.specs.declared.fold.FoldKind.TheVariants.{Sum}
use Rattle.hp_word.specs.declared.place.Trap.{Trap}
use Rattle.hp_word.specs.Folds.{fold_of}
use Rattle.hp_word.specs.LoopRules.{and_then, column_of, word_at}
use Rattle.hp_lattice.specs.declared.dist.Dist.TheVariants.{Rep}
use Rattle.hp_spmd.specs.declared.code.Code.{Code}
use Rattle.hp_spmd.specs.declared.instr.Folding.{Folding}
use Rattle.hp_spmd.specs.declared.instr.Instr.{Instr}
use Rattle.hp_spmd.specs.declared.instr.Instr.TheVariants as instr
use Rattle.hp_spmd.specs.declared.instr.Loop.{Loop}
use Rattle.hp_spmd.specs.declared.store.Store.{Store}
use Rattle.hp_spmd.specs.Cuts.{own_from, own_until}
use Rattle.hp_spmd.specs.Layout.{Env, Layout, MayCut}
use Rattle.hp_spmd.specs.Lockstep.{position_of}
use Rattle.hp_spmd.specs.Spread.{SpreadsWell}
use Rattle.hp_spmd.specs.Store.{dist_at, kept}
use Rattle.hp_spmd.proofs.ShareNext.{next_shared}
use Rattle.hp_snippet.specs.Moves.{Moves, changed, silently}
use Rattle.hp_snippet.specs.Outcomes.{Does}
use Rattle.hp_snippet.specs.Promises.{IsNoneOf, IsSound, IsStraight, IsWork, LeavesShared, Performs, StandBehind, price_of}
use Rattle.hp_snippet.proofs.Keeping.{stays_count}
use Rattle.hp_snippet.proofs.MoveWholes.{StandsAt, among, changed_at, changed_other}
use Rattle.hp_snippet.proofs.Moving.{moves_perform}
use Rattle.hp_snippet.proofs.Naming.{named_at}
use Rattle.hp_snippet.proofs.Ranges.{kept_all}
use Rattle.hp_alone.specs.OwnLoops.{HasFolds, MayLoop, MayLoopWhole, fold_words, loop_code, loop_writes, looped, looped_in_parts, made_whole, own_part, own_places, whole_row, whole_rows}
use Rattle.hp_alone.proofs.Looped.{loop_in_parts, names_of}
use Rattle.hp_alone.proofs.OwnParts.{leader_may, places_are}
use Rattle.hp_alone.proofs.OwnRows.{rows_count}
use Rattle.hp_alone.proofs.WordsMade.{one_straight}

-- the part of a rank is the whole
own_is_whole : (code : Code) (l : Loop) (ranks : List Store) (env : Env) (lay : Layout code ranks env) (cells : List ℤ) → l.leader < length code.arrays → (env.arrays l.leader).rows ≡ 1 → dist_at code.arrays l.leader ≡ Rep → length cells ≡ length (env.arrays l.leader).cells
    → All (λ (x : Store). own_part code l x cells ≡ cells) ranks
own_is_whole code l ranks env lay cells there one rep long k d lt =
    let x = get_or ranks k d in
    let n = length (env.arrays l.leader).cells in
    let cuts : lay.cuts l.leader ≡ 0 ∷ n ∷ [] = subst (λ dist. MayCut dist n (length ranks) (lay.cuts l.leader)) rep (leader_may code l ranks env lay there one) in
    let places = places_are code l ranks env lay there k d lt in
    let from : (own_places code l x).from ≡ 0 = ap (λ s. s.from) places ∙ ap (λ dist. own_from dist (lay.cuts l.leader) x.number) rep ∙ ap (λ cs. get_or cs 0 0) cuts in
    let until : (own_places code l x).until ≡ n = ap (λ s. s.until) places ∙ ap (λ dist. own_until dist (lay.cuts l.leader) x.number) rep ∙ ap (λ cs. get_or cs 1 0) cuts in
    let first : 0 ≤ 0 = omega arith in
    let last : 0 + length cells ≤ n = omega (arith, long) in
    ap (λ a. kept a (own_places code l x).until 0 cells) from ∙ ap (λ b. kept 0 b 0 cells) until ∙ kept_all {X = ℤ} 0 n 0 cells first last

-- a fold by its place among them
abbrev no_fold : Folding
no_fold = record { word = 0; kind = Sum; value = 0 }

recursion_at : (P : Folding → Type 0) (fs : List Folding) (j : ℕ) → AllByRecursion P fs → j < length fs → P (get_or fs j no_fold)
recursion_at P [] j h lt = absurd (omega (arith, lt))
recursion_at P (f ∷ fs) zero h lt = h.0
recursion_at P (f ∷ fs) (suc j) h lt = let on : j < length fs = omega (arith, lt) in recursion_at P fs j h.1 on

same_some : (a b : ℤ) → Some a ≡ Some b → a ≡ b
same_some a b e = cc

-- a fold has no value
abbrev no_value : Folding → Option ℤ
no_value f = None

-- what the folds' words are on each rank
abbrev folded : List (List ℤ) → Folding → Option ℤ
folded rows f = Some (fold_of f.kind (column_of f.value rows))

-- ranks that stand for the loop with folds of parts stand for that with the folds
whole_lay : (code : Code) (l : Loop) (around : List ℕ) (rows : List (List ℤ)) (ranks after : List Store) (env : Env) (lay : Layout code ranks env) → l.leader < length code.arrays → dist_at code.arrays l.leader ≡ Rep → MayLoop l around code ranks env → whole_rows l around env ≡ Ok rows → length after ≡ length ranks
    → Layout code after (made_whole l (λ f. None) rows env) → AllZip (HasFolds l around code env) ranks after → Layout code after (made_whole l (folded rows) rows env)
whole_lay code l around rows ranks after env lay there rep may e same lays have =
    record {
      numbers = lays.numbers;
      counts = lays.counts;
      cuts = lays.cuts;
      arrays = lays.arrays;
      words = λ w value is. by_place w value is (among (fold_words l) w);
    }
  where
    by_place : (w : ℕ) (value : ℤ) → changed (fold_words l) (map (folded rows) l.folds) env.words w ≡ Some value → IsNoneOf (fold_words l) w ⊎ StandsAt (fold_words l) w → All (λ (y : Store). word_at y.words w ≡ value) after
    by_place w value is (inl apart) =
        lays.words w value (changed_other (fold_words l) (map no_value l.folds) env.words w apart ∙ sym (changed_other (fold_words l) (map (folded rows) l.folds) env.words w apart) ∙ is)
    by_place w value is (inr at) = λ k d lt. (
        let f = get_or l.folds at.place no_fold in
        let there_too = at.within in
        let many = length-map l.folds (λ (g : Folding). g.word) in
        let count : length (fold_words l) ≡ length (map (folded rows) l.folds) = many ∙ sym (length-map l.folds (folded rows)) in
        let within : at.place < length l.folds = omega (arith, there_too, many) in
        let word : f.word ≡ w = sym (get_or-map {X = Folding} {Y = ℕ} (λ (g : Folding). g.word) l.folds at.place no_fold 0 within) ∙ at.is in
        let told : folded rows f ≡ Some value = (
        sym (get_or-map {X = Folding} {Y = Option ℤ} (folded rows) l.folds at.place no_fold None within)
        ∙ sym (changed_at (fold_words l) (map (folded rows) l.folds) env.words at.place None may.words_once count at.within)
        ∙ ap (changed (fold_words l) (map (folded rows) l.folds) env.words) at.is
        ∙ is) in
        let on : k < length ranks = omega (arith, lt, same) in
        let x = get_or ranks k d in
        let column = column_of f.value rows in
        let long : length column ≡ length (env.arrays l.leader).cells = length-map rows (λ row. word_at row f.value) ∙ rows_count (whole_row l around env) (length (env.arrays l.leader).cells) rows e in
        let own = own_is_whole code l ranks env lay column there may.vector rep long k d on in
        let has = AllZip-get_or (HasFolds l around code env) ranks after k d d have on in
        let mine = recursion_at (λ (g : Folding). word_at (get_or after k d).words g.word ≡ fold_of g.kind (own_part code l x (column_of g.value rows))) l.folds at.place (has rows e) within in
        ap (word_at (get_or after k d).words) (sym word) ∙ mine ∙ ap (fold_of f.kind) own ∙ same_some (fold_of f.kind column) value told)

whole_loop : (l : Loop) (around : List ℕ) → Performs (MayLoopWhole l around) (looped l around) (loop_writes l) (loop_code l)
whole_loop l around code tables price s env h may = by_rows (whole_rows l around env) refl (loop_in_parts l around code tables price s env h may.1)
  where
    by_rows : (r : Result (List (List ℤ)) Trap) → whole_rows l around env ≡ r
        → Does code tables price (IsSound code tables (length s.ranks) (position_of s.ranks + 1)) (λ t. Unit {0}) Env (λ t after. StandBehind code (loop_writes l) s.ranks t after × AllZip (HasFolds l around code env) s.ranks t.ranks)
        1 (price_of price (loop_code l)) (position_of s.ranks + 1) s (and_then r (λ rows. silently (made_whole l (λ f. None) rows env)))
        → Does code tables price (IsSound code tables (length s.ranks) (position_of s.ranks + 1)) (λ t. Unit {0}) Env (StandBehind code (loop_writes l) s.ranks)
        1 (price_of price (loop_code l)) (position_of s.ranks + 1) s (and_then r (λ rows. silently (made_whole l (folded rows) rows env)))
    by_rows (Ok rows) e went =
        let names = names_of code l (named_at code (position_of s.ranks) (instr.Loop l) h.stand.0) in
        let stands = went.stands tt in
        record {
          count = went.count;
          cost = went.cost;
          to = went.to;
          leads = went.leads;
          count_within = went.count_within;
          cost_within = went.cost_within;
          place = went.place;
          out = went.out;
          stands = λ t. record {
            lays = whole_lay code l around rows s.ranks went.to.ranks env h.lays names.leader may.0 may.1 e (stays_count (loop_writes l) s.ranks went.to.ranks stands.0.stays) stands.0.lays stands.1;
            stays = stands.0.stays;
          };
        }
    by_rows (Err t) e trips = trips

-- ---- what is promised of a list that is this code

pub own_loop_folds : (l : Loop) (list : List Instr) → list ≡ loop_code l → (around : List ℕ) → Moves (HasFolds l around) (MayLoop l around) (looped_in_parts l around) (loop_writes l) list
own_loop_folds l list e around = subst (Moves (HasFolds l around) (MayLoop l around) (looped_in_parts l around) (loop_writes l)) (sym e) (loop_in_parts l around)

pub own_loop_performs : (l : Loop) (list : List Instr) → list ≡ loop_code l → (around : List ℕ) → Performs (MayLoop l around) (looped_in_parts l around) (loop_writes l) list
own_loop_performs l list e around = moves_perform (HasFolds l around) (MayLoop l around) (looped_in_parts l around) (loop_writes l) list (own_loop_folds l list e around)

pub own_loop_whole : (l : Loop) (list : List Instr) → list ≡ loop_code l → (around : List ℕ) → Performs (MayLoopWhole l around) (looped l around) (loop_writes l) list
own_loop_whole l list e around = subst (Performs (MayLoopWhole l around) (looped l around) (loop_writes l)) (sym e) (whole_loop l around)

-- ---- what can be seen of it

pub own_loop_straight : (l : Loop) (list : List Instr) → list ≡ loop_code l → IsStraight list
own_loop_straight l list e = one_straight (instr.Loop l) list refl tt e

pub own_loop_shares : (l : Loop) (list : List Instr) → list ≡ loop_code l → (code : Code) → SpreadsWell code.arrays (instr.Loop l) → AllByRecursion (LeavesShared code) list
own_loop_shares l list e code alike = subst (AllByRecursion (LeavesShared code)) (sym e) ((λ tables x y. next_shared code tables (instr.Loop l) x y alike), tt)

pub own_loop_work : (l : Loop) (list : List Instr) → list ≡ loop_code l → IsWork 1 list
own_loop_work l list e = subst (IsWork 1) (sym e) (record { few = omega arith; cheap = λ ranks. omega arith })
