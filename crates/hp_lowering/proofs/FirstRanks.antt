-- Before the first instruction the ranks stand for what a program begins with.
use Rattle.std.proofs.Common.{◌≡◌, ◌∙◌, refl, sym, subst, ap, arith, ℕ, zero, suc, ◌+◌, ◌<◌, ◌≤◌, List, [], ◌∷◌, length, map, get_or, Some, pos}
use Rattle.std.specs.Prelude.{replicate}
use Rattle.std.specs.List.{All, range_with_len}
use Rattle.std.proofs.lemmas.List.{length-replicate}
use Rattle.std.proofs.lemmas.List.FromFn.{get_or-map-range_with_len}
use Rattle.hp_word.specs.LoopRules.{word_at}
use Rattle.hp_lattice.specs.declared.dist.Dist.{Dist}
use Rattle.hp_spmd.specs.declared.code.Code.{Code}
use Rattle.hp_spmd.specs.declared.store.Store.{Store}
use Rattle.hp_spmd.specs.Cuts.{first_cuts}
use Rattle.hp_spmd.specs.Layout.{Env, HoldsPiece, IsLaid, Layout, MayCut, Numbered, vector}
use Rattle.hp_spmd.specs.Lockstep.{first_state, position_of}
use Rattle.hp_spmd.specs.Store.{dealt, dist_at, first_store, piece_at, piece_of}
use Rattle.hp_spmd.proofs.ShareCuts.{first_cuts_may}
use Rattle.hp_spmd.proofs.ShareRun.{first_placed}
use Rattle.hp_turns.proofs.First.{first_count}
use Rattle.hp_air.specs.Wholes.{unset}
use Rattle.hp_snippet.specs.Promises.{IsRankOf}
use Rattle.hp_lowering.specs.Room.{Room}
use Rattle.hp_lowering.specs.Standing.{LogsExecuted, StandFor}

-- ---- one rank

first_at : (code : Code) (n k : ℕ) (d : Store) → k < n → get_or (first_state code n).ranks k d ≡ first_store code k n
unfolding first_state
first_at code n k d lt = let same : 0 + k ≡ k = omega arith in get_or-map-range_with_len {X = Store} (λ r. first_store code r n) 0 n k k d lt same

-- what holds of each rank's first store
all_first : (code : Code) (n : ℕ) (P : Store → Type 0) → ((k : ℕ) → k < n → P (first_store code k n)) → All P (first_state code n).ranks
all_first code n P h k d lt =
    let count = first_count code n in
    let on : k < n = omega (arith, lt, count) in
    subst P (sym (first_at code n k d on)) (h k on)

first_rank : (code : Code) (n k : ℕ) → 1 ≤ n → k < n → IsRankOf code n (first_store code k n)
unfolding first_store
first_rank code n k some lt = record { placed = first_placed code k n some lt; words = length-replicate code.words (pos 0); loose = length-replicate code.loose [] }

first_position : (code : Code) (n k : ℕ) → (first_store code k n).position ≡ 0
unfolding first_store
first_position code n k = refl

first_executed : (code : Code) (n k : ℕ) → (first_store code k n).executed ≡ 0
unfolding first_store
first_executed code n k = refl

first_logged : (code : Code) (n k : ℕ) → LogsExecuted (first_store code k n)
unfolding first_store
first_logged code n k = tt

first_ranks : (code : Code) (n k : ℕ) → (first_store code k n).ranks ≡ n
unfolding first_store
first_ranks code n k = refl

no_word : (m w : ℕ) → word_at (replicate m (pos 0)) w ≡ pos 0
no_word zero w = refl
no_word (suc m) zero = refl
no_word (suc m) (suc w) = no_word m w

first_word : (code : Code) (n k w : ℕ) → word_at (first_store code k n).words w ≡ pos 0
unfolding first_store
first_word code n k w = no_word code.words w

dealt_piece : (dist : Dist) (number ranks : ℕ) → HoldsPiece dist (first_cuts dist 0 ranks) (vector []) number (dealt dist number ranks [])
unfolding piece_of
dealt_piece dist number ranks = record { rows_are = refl; cuts_are = refl; cells_are = refl }

first_piece : (code : Code) (n k slot : ℕ) → slot < length code.arrays → HoldsPiece (dist_at code.arrays slot) (first_cuts (dist_at code.arrays slot) 0 n) (vector []) (first_store code k n).number (piece_at (first_store code k n).arrays slot)
unfolding first_store
first_piece code n k slot lt =
    let dist = dist_at code.arrays slot in
    subst (λ p. HoldsPiece dist (first_cuts dist 0 n) (vector []) k p) (sym (dealt_at code.arrays slot lt)) (dealt_piece dist k n)
  where
    dealt_at : (dists : List Dist) (slot : ℕ) → slot < length dists → piece_at (map (λ dist. dealt dist k n []) dists) slot ≡ dealt (dist_at dists slot) k n []
    dealt_at [] slot lt = absurd (omega (arith, lt))
    dealt_at (dist ∷ dists) zero lt = refl
    dealt_at (dist ∷ dists) (suc slot) lt = dealt_at dists slot (omega (arith, lt))

-- ---- all ranks

first_number : (code : Code) (n r : ℕ) → (first_store code r n).number ≡ r
unfolding first_store
first_number code n r = refl

numbered_from : (code : Code) (n a m : ℕ) → Numbered a (map (λ r. first_store code r n) (range_with_len a m))
numbered_from code n a zero = tt
numbered_from code n a (suc m) =
    let one : a + 1 ≡ suc a = omega arith in
    (first_number code n a, subst (λ k. Numbered k (map (λ r. first_store code r n) (range_with_len (a + 1) m))) one (numbered_from code n (a + 1) m))

first_numbered : (code : Code) (n : ℕ) → Numbered 0 (first_state code n).ranks
unfolding first_state
first_numbered code n = numbered_from code n 0 n

-- every array is the empty vector, and every word 0
abbrev first_env : Env
first_env = record { arrays = λ k. vector []; words = λ w. Some (pos 0) }

first_laid : (code : Code) (n slot : ℕ) → 1 ≤ n → slot < length code.arrays → IsLaid (dist_at code.arrays slot) (first_state code n).ranks slot (first_cuts (dist_at code.arrays slot) 0 n) (vector [])
first_laid code n slot some lt =
    let dist = dist_at code.arrays slot in
    record {
      columns = 0;
      size = omega arith;
      may = subst (λ m. MayCut dist 0 m (first_cuts dist 0 n)) (sym (first_count code n)) (first_cuts_may dist 0 n some);
      held = all_first code n (λ x. HoldsPiece dist (first_cuts dist 0 n) (vector []) x.number (piece_at x.arrays slot)) (λ k on. first_piece code n k slot lt);
    }

some_of : {X : Type 0} (a b : X) → Some a ≡ Some b → a ≡ b
some_of a b e = cc

first_layout : (code : Code) (n : ℕ) → 1 ≤ n → Layout code (first_state code n).ranks first_env
first_layout code n some =
    record {
      numbers = first_numbered code n;
      counts = all_first code n (λ x. x.ranks ≡ length (first_state code n).ranks) (λ k on. first_ranks code n k ∙ sym (first_count code n));
      cuts = λ slot. first_cuts (dist_at code.arrays slot) 0 n;
      arrays = λ slot lt. first_laid code n slot some lt;
      words = λ w value e. all_first code n (λ x. word_at x.words w ≡ value) (λ k on. first_word code n k w ∙ some_of (pos 0) value e);
    }

position_first : (xs : List Store) (d : Store) → 0 < length xs → position_of xs ≡ (get_or xs 0 d).position
position_first [] d some = absurd (omega (arith, some))
position_first (x ∷ xs) d some = refl

pub first_place : (code : Code) (n : ℕ) → 1 ≤ n → position_of (first_state code n).ranks ≡ 0
first_place code n some =
    let d = first_store code 0 n in
    let on : 0 < n = omega (arith, some) in
    let count = first_count code n in
    position_first (first_state code n).ranks d (omega (arith, on, count)) ∙ ap (λ (x : Store). x.position) (first_at code n 0 d on) ∙ first_position code n 0

pub first_stands : (code : Code) (room : Room) (n : ℕ) → 1 ≤ n → StandFor code room n (first_state code n) unset
first_stands code room n some =
    record {
      some = some;
      count = first_count code n;
      each = all_first code n (IsRankOf code n) (λ k on. first_rank code n k some on);
      at_one = all_first code n (λ x. x.position ≡ position_of (first_state code n).ranks) (λ k on. first_position code n k ∙ sym (first_place code n some));
      executed = all_first code n (λ x. x.executed ≡ 0) (λ k on. first_executed code n k);
      logged = all_first code n LogsExecuted (λ k on. first_logged code n k);
      bad = refl;
      env = first_env;
      lays = first_layout code n some;
      is = record { slots = λ k lt. refl; words = λ w lt. refl; short = λ k lt. omega arith; arrays = λ k lt none. tt };
    }

pub first_out : (code : Code) (n : ℕ) → (first_state code n).out ≡ []
unfolding first_state
first_out code n = refl
