-- A loop on arrays that are cut, and the reduction of its folds: together they make what the loop over whole arrays makes.
use Rattle.std.proofs.Common.{◌≡◌, ◌∙◌, refl, sym, subst, ap, arith, cond, inl, inr, ◌⊎◌, ℕ, ◌+◌, ◌<◌, ◌≤◌, ℤ, List, [], ◌∷◌, ◌++◌, length, map, Option, Some, None, Result, Ok, Err}
use Rattle.std.specs.Prelude.{◌==◌}
use Rattle.std.specs.List.{All, AllByRecursion, AllZip}
use Rattle.std.proofs.lemmas.Bool.{cases_eq, eq-eqb, ne_eqb}
use Rattle.std.proofs.lemmas.List.{length-map}
use Rattle.hp_word.specs.declared.place.Trap.{Trap}
use Rattle.hp_word.specs.declared.table.Tables.{Tables}
use Rattle.hp_word.specs.Folds.{fold_of}
use Rattle.hp_word.specs.LoopRules.{and_then, column_of, word_at}
use Rattle.hp_spmd.specs.declared.code.Code.{Code}
use Rattle.hp_spmd.specs.declared.instr.Folding.{Folding}
use Rattle.hp_spmd.specs.declared.instr.Instr.{Instr}
use Rattle.hp_spmd.specs.declared.instr.Loop.{Loop}
use Rattle.hp_spmd.specs.declared.instr.Out.{Out}
use Rattle.hp_spmd.specs.declared.store.Store.{Store}
use Rattle.hp_spmd.specs.Layout.{Env, vector}
use Rattle.hp_spmd.specs.Lockstep.{State, position_of}
use Rattle.hp_spmd.specs.Spread.{LiesAs}
use Rattle.hp_spmd.specs.Store.{dist_at}
use Rattle.hp_snippet.specs.Holds.{IsCut}
use Rattle.hp_snippet.specs.Moves.{changed, silently}
use Rattle.hp_snippet.specs.Outcomes.{After, Does, IsSilent, one_after}
use Rattle.hp_snippet.specs.Promises.{AreOnce, IsNoneOf, IsSound, Performs, StandBehind, price_of}
use Rattle.hp_snippet.specs.Values.{HasValue}
use Rattle.hp_snippet.proofs.MoveWholes.{StandsAt, among, changed_at, changed_other}
use Rattle.hp_alone.specs.OwnLoops.{HasFolds, MayLoop, MayRead, fold_words, loop_code, loop_writes, looped, looped_in_parts, made_whole, out_arrays, own_part, whole_row, whole_rows}
use Rattle.hp_alone.proofs.LoopedWhole.{own_loop_folds, own_loop_straight}
use Rattle.hp_alone.proofs.OwnParts.{fold_of_own_parts, has_read, own_parts_join}
use Rattle.hp_alone.proofs.OwnRows.{rows_count}
use Rattle.hp_coll.specs.Reducing.{folded_value, reduce_code, reduce_writes, reduced, word_names, words_of_all}
use Rattle.hp_coll.proofs.Folding.{reduce_straight, reduces}
use Rattle.hp_lowering.specs.PartCode.{folds_over}
use Rattle.hp_lowering.proofs.Chaining.{GoesAs, Piece, Stand, as_moves, piece_of, pieces_join}
use Rattle.hp_lowering.proofs.HaloMoves.{RoundsHeld, zip_turned}
use Rattle.hp_lowering.proofs.InputMoves.{turned_piece}

-- ---- words that are changed

-- what is changed at a number hangs on what was there alone
changed_from : {X : Type 0} (to : List ℕ) (items : List X) (f g : ℕ → X) (w : ℕ) → f w ≡ g w → changed to items f w ≡ changed to items g w
changed_from [] items f g w e = e
changed_from (t ∷ to) [] f g w e = e
changed_from {X} (t ∷ to) (x ∷ items) f g w e = changed_from {X = X} to items (λ k. cond (k == t) x (f k)) (λ k. cond (k == t) x (g k)) w (ap (λ v. cond (w == t) x v) e)

-- what is changed twice has what it was changed to last
changed_twice : {X : Type 0} (to : List ℕ) (items before : List X) (f : ℕ → X) (w : ℕ) → AreOnce to → length to ≡ length items → changed to items (changed to before f) w ≡ changed to items f w
changed_twice {X} to items before f w once same = by_place (among to w)
  where
    by_place : IsNoneOf to w ⊎ StandsAt to w → changed to items (changed to before f) w ≡ changed to items f w
    by_place (inl none) = changed_from {X = X} to items (changed to before f) f w (changed_other {X = X} to before f w none)
    by_place (inr at) =
        ap (changed to items (changed to before f)) (sym at.is)
        ∙ changed_at {X = X} to items (changed to before f) at.place (f w) once same at.within ∙ sym (changed_at {X = X} to items f at.place (f w) once same at.within)
        ∙ ap (changed to items f) at.is

-- the values of the folds of these rows
abbrev values_of : List (List ℤ) → List Folding → List (Option ℤ)
values_of rows folds = map (λ (g : Folding). Some (fold_of g.kind (column_of g.value rows))) folds

-- all ranks agree on the folds of these rows
abbrev with_folded : List Folding → List (List ℤ) → Env → Env
with_folded folds rows f = record f { words = changed (word_names folds) (values_of rows folds) f.words }

-- the words of all ranks have these folds
abbrev AreFolded : List Folding → List (List ℤ) → List Store → Type 0
AreFolded folds rows ranks = AllByRecursion (λ (g : Folding). fold_of g.kind (words_of_all ranks g.word) ≡ fold_of g.kind (column_of g.value rows)) folds

folded_so : (folds : List Folding) (rows : List (List ℤ)) (ranks : List Store) (words : ℕ → Option ℤ) (w : ℕ) → AreOnce (word_names folds) → AreFolded folds rows ranks → folded_value folds ranks words w ≡ changed (word_names folds) (values_of rows folds) words w
folded_so [] rows ranks words w once are = refl
folded_so (g ∷ folds) rows ranks words w once are = elim (cases_eq g.word w) [
  | inl same ↦
      let value = Some (fold_of g.kind (column_of g.value rows)) in
      ap (λ b. cond b (Some (fold_of g.kind (words_of_all ranks g.word))) (folded_value folds ranks words w)) (eq-eqb g.word w same)
      ∙ ap Some are.0
      ∙ sym
      (changed_other {X = Option ℤ} (word_names folds) (values_of rows folds) (λ k. cond (k == g.word) value (words k)) w (subst (IsNoneOf (word_names folds)) same once.0)
      ∙ ap (λ b. cond b value (words w)) (eq-eqb w g.word (sym same)))
  | inr other ↦
      let value = Some (fold_of g.kind (column_of g.value rows)) in
      ap (λ b. cond b (Some (fold_of g.kind (words_of_all ranks g.word))) (folded_value folds ranks words w)) (ne_eqb g.word w other)
      ∙ folded_so folds rows ranks words w once.1 are.1
      ∙ changed_from {X = Option ℤ} (word_names folds) (values_of rows folds) words (λ k. cond (k == g.word) value (words k)) w (sym (ap (λ b. cond b value (words w)) (ne_eqb w g.word (λ e. other (sym e)))))
]

-- ---- the reduction

-- no fold stands twice, and the words of all ranks have the folds
abbrev MayFold : List Folding → List (List ℤ) → Code → List Store → Env → Type 0
MayFold folds rows code ranks f = AreOnce (word_names folds) × AreFolded folds rows ranks

folds_perform : (folds : List Folding) (rows : List (List ℤ)) → Performs (MayFold folds rows) (λ ranks f. silently (with_folded folds rows f)) (reduce_writes folds) (reduce_code folds)
folds_perform folds rows code tables price s f h needs =
    let list = reduce_code folds in
    let same : reduced folds s.ranks f ≡ silently (with_folded folds rows f) = λ i. silently (record f { words = λ w. folded_so folds rows s.ranks f.words w needs.0 needs.1 i }) in
    subst (Does code tables price (IsSound code tables (length s.ranks) (position_of s.ranks + length list)) (λ t. Unit {0}) Env (StandBehind code (reduce_writes folds) s.ranks) (length list) (price_of price list) (position_of s.ranks + length list) s) same
    (reduces folds code tables price s f h needs.0)

module _ (code : Code) (tables : Tables) (n m : ℕ) where
  -- what says nothing
  abbrev pub Nothing : List Store → Env → Type 0
  Nothing ranks f = Unit {0}

  folds_piece : (folds : List Folding) (rows : List (List ℤ)) → AreOnce (word_names folds) → Piece code tables n m (folds_over folds) (λ ranks f. AreFolded folds rows ranks) Nothing (λ f. silently (with_folded folds rows f))
  folds_piece [] rows once = turned_piece code tables n m (λ ranks f. AreFolded [] rows ranks) Nothing (λ s f h. tt)
  folds_piece (g ∷ folds) rows once =
      let all = g ∷ folds in
      let op = λ (ranks : List Store) (f : Env). silently (with_folded all rows f) in
      piece_of code tables n m (reduce_code all) (λ ranks f. AreFolded all rows ranks) Nothing (λ c f x y. Unit {0}) (MayFold all rows) op (reduce_writes all) (reduce_straight all (reduce_code all) refl)
      (as_moves (MayFold all rows) op (reduce_writes all) (reduce_code all) (folds_perform all rows)) (λ s f h. (once, h.has)) (λ s f h ys after is zips got lays. tt) (λ f. silently (with_folded all rows f)) (λ ranks f. refl)

-- ---- each fold of all ranks

folds_apart : (P : Folding → Store → Store → Type 0) (folds : List Folding) (xs ys : List Store) → AllZip (λ x y. AllByRecursion (λ g. P g x y) folds) xs ys → AllByRecursion (λ g. AllZip (P g) xs ys) folds
folds_apart P [] xs ys h = tt
folds_apart P (g ∷ folds) xs ys h = (
  zip_turned (λ x y. AllByRecursion (λ k. P k x y) (g ∷ folds)) (P g) xs ys (λ x y a. a.0) h,
  folds_apart P folds xs ys (zip_turned (λ x y. AllByRecursion (λ k. P k x y) (g ∷ folds)) (λ x y. AllByRecursion (λ k. P k x y) folds) xs ys (λ x y a. a.1) h),
)

each_turned : (P Q : Folding → Type 0) (folds : List Folding) → ((g : Folding) → P g → Q g) → AllByRecursion P folds → AllByRecursion Q folds
each_turned P Q [] turn h = tt
each_turned P Q (g ∷ folds) turn h = (turn g h.0, each_turned P Q folds turn h.1)

-- ---- the loop

same_makes : (l : Loop) (around : List ℕ) (rows : List (List ℤ)) (f : Env) → AreOnce (fold_words l)
    → one_after (silently (made_whole l (λ g. None) rows f)) (λ g. silently (with_folded l.folds rows g)) ≡ silently (made_whole l (λ g. Some (fold_of g.kind (column_of g.value rows))) rows f)
same_makes l around rows f once =
    let count : length (word_names l.folds) ≡ length (values_of rows l.folds) = length-map l.folds (λ (g : Folding). g.word) ∙ sym (length-map l.folds (λ (g : Folding). Some (fold_of g.kind (column_of g.value rows)))) in
    λ i. silently (record f {
      arrays = changed (out_arrays l) (map (λ (o : Out). vector (column_of o.value rows)) l.outs) f.arrays;
      words = λ w. changed_twice {X = Option ℤ} (word_names l.folds) (values_of rows l.folds) (map (λ (g : Folding). None) l.folds) f.words w once count i;
    })

module _ (code : Code) (tables : Tables) (n m words : ℕ) (l : Loop) (around : List ℕ) (there : l.leader < length code.arrays) (cut : IsCut (dist_at code.arrays l.leader)) (outs_once : AreOnce (out_arrays l)) (words_once : AreOnce (fold_words l))
    (alike : All (λ (o : Out). LiesAs (dist_at code.arrays l.leader) (dist_at code.arrays o.array)) l.outs) (reads : (f : Env) → ((w : ℕ) → w < words → HasValue (f.words w)) → AllByRecursion (MayRead f l) l.lets) where
  abbrev Ready : List Store → Env → Type 0
  Ready ranks f = RoundsHeld code l words l.inputs l.halos around ranks f

  -- the rows are known
  record With (r : Result (List (List ℤ)) Trap) (ranks : List Store) (f : Env) : Type 0 where
    ready : Ready ranks f
    is : whole_rows l around f ≡ r

  may_loop : (From : List Store → Env → Type 0) → ((ranks : List Store) (f : Env) → From ranks f → Ready ranks f) → (s : State) (f : Env) → Stand code n m From s f → MayLoop l around code s.ranks f
  may_loop From ready s f h =
      let has = ready s.ranks f h.has in
      record {
        outs_once = outs_once;
        words_once = words_once;
        vector = has.held.vector.one_row;
        alike = alike;
        has = has_read code l around s.ranks f has.held.own has.round;
        reads = reads f has.held.values;
      }

  -- each fold is that of all places
  all_folded : (rows : List (List ℤ)) (s : State) (f : Env) → Stand code n m (With (Ok rows)) s f → (ys : List Store) → AllZip (HasFolds l around code f) s.ranks ys → AreFolded l.folds rows ys
  all_folded rows s f h ys got =
      let has = h.has in
      let some = h.some in
      let count = h.count in
      let ranks : 1 ≤ length s.ranks = omega (arith, some, count) in
      let long = rows_count (whole_row l around f) (length (f.arrays l.leader).cells) rows has.is in
      let P : Folding → Store → Store → Type 0 = λ g x y. word_at y.words g.word ≡ fold_of g.kind (own_part code l x (column_of g.value rows)) in
      each_turned (λ g. AllZip (P g) s.ranks ys) (λ g. fold_of g.kind (words_of_all ys g.word) ≡ fold_of g.kind (column_of g.value rows)) l.folds
      (λ g zips.
      let column = column_of g.value rows in
      let size : length column ≡ length (f.arrays l.leader).cells = length-map rows (λ (row : List ℤ). word_at row g.value) ∙ long in
      fold_of_own_parts g.kind g.word (λ (x : Store). own_part code l x column) s.ranks ys zips
      ∙ ap (fold_of g.kind) (own_parts_join code l s.ranks f column h.lays ranks there cut has.ready.held.vector.one_row size))
      (folds_apart P l.folds s.ranks ys (zip_turned (HasFolds l around code f) (λ x y. AllByRecursion (λ g. P g x y) l.folds) s.ranks ys (λ x y a. a rows has.is) got))

  -- where the rows are there, the ranks have the folds of their own parts
  loop_made : (rows : List (List ℤ)) → Piece code tables n m (loop_code l) (With (Ok rows)) (λ ranks f. AreFolded l.folds rows ranks) (looped_in_parts l around [])
  loop_made rows =
      piece_of code tables n m (loop_code l) (With (Ok rows)) (λ ranks f. AreFolded l.folds rows ranks) (HasFolds l around) (MayLoop l around) (looped_in_parts l around) (loop_writes l) (own_loop_straight l (loop_code l) refl) (own_loop_folds l (loop_code l) refl around)
      (may_loop (With (Ok rows)) (λ ranks f h. h.ready)) (λ s f h ys after is zips got lays. all_folded rows s f h ys got) (looped_in_parts l around []) (λ ranks f. refl)

  -- where there is a trap, nothing is behind it
  abbrev Never : List Store → Env → Type 0
  Never ranks f = ⊥

  both_ends : (r : Result (After Env) Trap) (t : Trap) (after : After Env) → r ≡ Err t → r ≡ Ok after → ⊥
  both_ends r t after e is = cc

  no_after : (t : Trap) (f : Env) (after : After Env) → whole_rows l around f ≡ Err t → looped_in_parts l around [] f ≡ Ok after → ⊥
  no_after t f after e is = both_ends (looped_in_parts l around [] f) t after (ap (λ (r : Result (List (List ℤ)) Trap). and_then r (λ rows. silently (made_whole l (λ g. None) rows f))) e) is

  loop_trapped : (t : Trap) → Piece code tables n m (loop_code l) (With (Err t)) Never (looped_in_parts l around [])
  loop_trapped t =
      piece_of code tables n m (loop_code l) (With (Err t)) Never (HasFolds l around) (MayLoop l around) (looped_in_parts l around) (loop_writes l) (own_loop_straight l (loop_code l) refl) (own_loop_folds l (loop_code l) refl around)
      (may_loop (With (Err t)) (λ ranks f h. h.ready)) (λ s f h ys after is zips got lays. no_after t f after h.has.is is) (looped_in_parts l around []) (λ ranks f. refl)

  never_piece : (list : List Instr) → Piece code tables n m list Never (Nothing code tables n m) (λ f. silently f)
  never_piece list = record { goes = λ s f h stand. absurd h.has; keeps = λ s f h stand k lt. absurd h.has }

  abbrev all_code : List Instr
  all_code = loop_code l ++ folds_over l.folds

  abbrev made_by : Result (List (List ℤ)) Trap → Env → Result (After Env) Trap
  made_by (Ok rows) f = one_after (looped_in_parts l around [] f) (λ g. silently (with_folded l.folds rows g))
  made_by (Err t) f = one_after (looped_in_parts l around [] f) (λ g. silently g)

  by_rows : (r : Result (List (List ℤ)) Trap) → Piece code tables n m all_code (With r) (Nothing code tables n m) (made_by r)
  by_rows (Ok rows) =
      pieces_join code tables n m (loop_code l) (folds_over l.folds) (With (Ok rows)) (λ ranks f. AreFolded l.folds rows ranks) (Nothing code tables n m) (looped_in_parts l around []) (λ f. silently (with_folded l.folds rows f))
      (loop_made rows) (folds_piece code tables n m l.folds rows words_once) silent
    where
      silent_rows : (f : Env) (r : Result (List (List ℤ)) Trap) → IsSilent (and_then r (λ rs. silently (made_whole l (λ g. None) rs f)))
      silent_rows f (Ok rs) = refl
      silent_rows f (Err t) = tt

      silent : (f : Env) → IsSilent (looped_in_parts l around [] f)
      silent f = silent_rows f (whole_rows l around f)
  by_rows (Err t) =
      pieces_join code tables n m (loop_code l) (folds_over l.folds) (With (Err t)) Never (Nothing code tables n m) (looped_in_parts l around []) (λ f. silently f) (loop_trapped t) (never_piece (folds_over l.folds)) silent
    where
      silent_rows : (f : Env) (r : Result (List (List ℤ)) Trap) → IsSilent (and_then r (λ rs. silently (made_whole l (λ g. None) rs f)))
      silent_rows f (Ok rs) = refl
      silent_rows f (Err u) = tt

      silent : (f : Env) → IsSilent (looped_in_parts l around [] f)
      silent f = silent_rows f (whole_rows l around f)

  -- what is made is what the whole makes
  same_made : (r : Result (List (List ℤ)) Trap) (f : Env) → whole_rows l around f ≡ r → made_by r f ≡ looped l around [] f
  same_made (Ok rows) f e =
      ap (λ (q : Result (List (List ℤ)) Trap). one_after (and_then q (λ rs. silently (made_whole l (λ g. None) rs f))) (λ g. silently (with_folded l.folds rows g))) e
      ∙ same_makes l around rows f words_once
      ∙ sym (ap (λ (q : Result (List (List ℤ)) Trap). and_then q (λ rs. silently (made_whole l (λ g. Some (fold_of g.kind (column_of g.value rs))) rs f))) e)
  same_made (Err t) f e =
      ap (λ (q : Result (List (List ℤ)) Trap). one_after (and_then q (λ rs. silently (made_whole l (λ g. None) rs f))) (λ g. silently g)) e
      ∙ sym (ap (λ (q : Result (List (List ℤ)) Trap). and_then q (λ rs. silently (made_whole l (λ g. Some (fold_of g.kind (column_of g.value rs))) rs f))) e)

  known : (s : State) (f : Env) → Stand code n m Ready s f → Stand code n m (With (whole_rows l around f)) s f
  known s f h = record { some = h.some; count = h.count; each = h.each; at_one = h.at_one; executed = h.executed; logged = h.logged; lays = h.lays; has = record { ready = h.has; is = refl } }

  -- the loop and the reduction of its folds
  pub loop_piece : Piece code tables n m all_code Ready (Nothing code tables n m) (looped l around [])
  loop_piece =
      record {
        goes = λ s f h stand. subst (GoesAs code tables n m all_code (Nothing code tables n m) s) (same_made (whole_rows l around f) f refl) ((by_rows (whole_rows l around f)).goes s f (known s f h) stand);
        keeps = λ s f h stand k lt. (by_rows (whole_rows l around f)).keeps s f (known s f h) stand k lt;
      }
