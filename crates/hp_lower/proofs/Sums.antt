-- The instructions of `println(sum(x))` do what the line means.
use Rattle.std.proofs.Common.{◌≡◌, ℕ, suc, ◌-◌, ◌<◌, List, [], ◌∷◌, ◌++◌, map, length, ℤ, pos, refl, ap, ◌∙◌, arith, length-set, Ok, replicate, false, true}
use Rattle.std.specs.Prelude.{slice_set}
use Rattle.std.proofs.lemmas.List.{get_or-set_same, get_or-replicate, take_all, length-map}
use Rattle.hp_word.specs.declared.fold.FoldKind.TheVariants.{Sum}
use Rattle.hp_word.specs.declared.table.Tables.{Tables}
use Rattle.hp_word.specs.Elem.{elem_value}
use Rattle.hp_word.specs.Folds.{fold_of}
use Rattle.hp_word.specs.Text.{printed}
use Rattle.hp_meaning.specs.Meaning.{Binding}
use Rattle.hp_spmd.specs.declared.code.Code.{Code}
use Rattle.hp_lattice.specs.declared.dist.Dist.{Dist}
use Rattle.hp_spmd.specs.declared.instr.Instr.TheVariants as instr
use Rattle.hp_spmd.specs.declared.instr.Output.TheVariants.{Word}
use Rattle.hp_spmd.specs.declared.instr.Packing.TheVariants.{Words, Gather}
use Rattle.hp_spmd.specs.declared.instr.Unpacking.TheVariants.{Folds}
use Rattle.hp_spmd.specs.declared.store.Store.{Store}
use Rattle.hp_word.specs.LoopRules.{rows_below, and_then, column_of, word_at}
use Rattle.hp_spmd.specs.Local.{local_next, pack_done}
use Rattle.hp_spmd.specs.Loops.{loop_data, lets_at, made_of, sight_at}
use Rattle.hp_spmd.specs.Exchange.{packed, unpacked, written}
use Rattle.hp_spmd.specs.Messages.{words_across, message_of, of_first}
use Rattle.hp_spmd.specs.Next.{Goes, lifted, moved}
use Rattle.hp_spmd.specs.Lockstep.{State, state, step, step_by, position_of, run_by, run, delivered, delivered_to_root, root_inbox, text_of}
use Rattle.hp_spmd.specs.Layout.{Numbered}
use Rattle.hp_spmd.specs.Store.{data_of, piece_at, instr_at, message_at, no_message}
use Rattle.hp_spmd.proofs.LockRun.{run_steps}
use Rattle.hp_lower.specs.Code.{sum_loop}
use Rattle.hp_lower.proofs.Holds.{Holds, Holds_same, Numbered_map, word_set, Holds_word_set}
use Rattle.hp_lower.proofs.Rows.{rows_made, column_made}
use Rattle.hp_lower.proofs.Steps.{Each, Each_map, computes, step_at}

-- ---- the loop

row_is : (slot : ℕ) (x : Store) (i : ℕ) → lets_at (sum_loop slot) (data_of x) i ≡ Ok (word_at (piece_at x.arrays slot).cells i ∷ [])
unfolding lets_at sight_at elem_value
row_is slot x i = refl

-- the sum of a rank's own cells of an array
abbrev pub own_sum : ℕ → Store → ℤ
own_sum slot x = fold_of Sum (piece_at x.arrays slot).cells

pub loop_goes : (dists : List Dist) (tables : Tables) (slot : ℕ) (x : Store) → local_next dists tables (instr.Loop (sum_loop slot)) x ≡ Goes (word_set 2 (own_sum slot x) x)
unfolding loop_data
loop_goes dists tables slot x =
    let cells = (piece_at x.arrays slot).cells in
    let rows = rows_made cells (lets_at (sum_loop slot) (data_of x)) (λ i lt. row_is slot x i) (length cells) (omega arith) ∙ ap (λ l. Ok (map (λ c. c ∷ []) l)) (take_all (length cells) cells (omega arith)) in
    ap (λ r. lifted (and_then r (λ rs. Ok (made_of (sum_loop slot) rs (data_of x)))) x) rows ∙ ap (λ l. Goes (word_set 2 (fold_of Sum l) x)) (column_made cells)

-- ---- the exchange of the sums

-- a rank with its message for each rank: its word 2
abbrev pub pack_words : Store → Store
pack_words x =
    record x { outbox = replicate x.ranks (message_of (word_at x.words 2 ∷ [])); sent = 0; got = 0; position = suc x.position }

-- a rank with its message for rank 0: word 2 of rank 0
abbrev pub pack_root : Store → Store
pack_root x =
    record x {
      outbox = message_of (of_first x.number (word_at x.words 2)) ∷ replicate (x.ranks - 1) no_message;
      sent = 0;
      got = 0;
      position = suc x.position;
    }

abbrev pub unpack_sum : Store → Store
unpack_sum x = word_set 2 (fold_of Sum (words_across 0 x.inbox)) x

pack_words_goes : (dists : List Dist) (tables : Tables) (x : Store) → local_next dists tables (instr.Pack (Words (2 ∷ []))) x ≡ Goes (pack_words x)
unfolding pack_done packed
pack_words_goes dists tables x = refl

pack_root_goes : (dists : List Dist) (tables : Tables) (x : Store) → local_next dists tables (instr.Pack (Gather (Word 2 false))) x ≡ Goes (pack_root x)
unfolding pack_done packed
pack_root_goes dists tables x = refl

unpack_goes : (dists : List Dist) (tables : Tables) (x : Store) → local_next dists tables (instr.Unpack (Folds ((2, Sum) ∷ []))) x ≡ Goes (unpack_sum x)
unfolding unpacked
unpack_goes dists tables x = refl

-- what the ranks have got once each has posted its sum
sums_across : (slot n c p k : ℕ) (env : List Binding) → k < n → (xs : List Store) → Each (Holds n c p env) xs → words_across 0 (map (λ y. message_at y.outbox k) (map pack_words (map (λ y. word_set 2 (own_sum slot y) y) xs))) ≡ map (own_sum slot) xs
sums_across slot n c p k env lt [] each = refl
sums_across slot n c p k env lt (x ∷ xs) each =
    let message = message_of (word_at (slice_set x.words 2 (own_sum slot x)) 2 ∷ []) in
    let few : k < x.ranks = omega (arith, each.0.ranks_are) in
    let long : 2 < length x.words = omega (arith, each.0.words_are) in
    let mine : message_at (replicate x.ranks message) k ≡ message = get_or-replicate x.ranks k message no_message few in
    let set : word_at (slice_set x.words 2 (own_sum slot x)) 2 ≡ own_sum slot x = get_or-set_same x.words 2 (own_sum slot x) (pos 0) long in
    let head : word_at (message_at (replicate x.ranks message) k).words 0 ≡ own_sum slot x = ap (λ m. word_at m.words 0) mine ∙ set in
    ap (λ w. w ∷ words_across 0 (map (λ y. message_at y.outbox k) (map pack_words (map (λ y. word_set 2 (own_sum slot y) y) xs)))) head
    ∙ ap (λ l. own_sum slot x ∷ l) (sums_across slot n c p k env lt xs each.1)

module _ (code : Code) (tables : Tables) (n c p : ℕ) (env : List Binding) (slot : ℕ) where
  -- the ranks after each instruction
  abbrev pub after_1 : List Store → List Store
  after_1 ranks = map (λ y. word_set 2 (own_sum slot y) y) ranks

  abbrev pub after_2 : List Store → List Store
  after_2 ranks = map pack_words (after_1 ranks)

  abbrev pub after_3 : List Store → List Store
  after_3 ranks = map (delivered (after_2 ranks)) (after_2 ranks)

  abbrev pub after_4 : List Store → List Store
  after_4 ranks = map moved (after_3 ranks)

  abbrev pub after_5 : List Store → List Store
  after_5 ranks = map unpack_sum (after_4 ranks)

  abbrev pub after_6 : List Store → List Store
  after_6 ranks = map pack_root (after_5 ranks)

  abbrev pub after_7 : List Store → List Store
  after_7 ranks = map (delivered_to_root (after_6 ranks)) (after_6 ranks)

  abbrev pub after_8 : List Store → List Store
  after_8 ranks = map moved (after_7 ranks)

  abbrev pub after_9 : List Store → List Store
  after_9 ranks = map moved (after_8 ranks)

  -- what holds on each rank stays but for the position
  same : (q : ℕ) (g : Store → Store) → ((x : Store) → (g x).ranks ≡ x.ranks) → ((x : Store) → (g x).position ≡ suc x.position) → ((x : Store) → (g x).words ≡ x.words) → ((x : Store) → (g x).arrays ≡ x.arrays) → ((x : Store) → (g x).number ≡ x.number) → (xs : List Store) → Each (Holds n c q env) xs → Each (Holds n c (suc q) env) (map g xs)
  same q g hr hp hw ha hn xs each =
      Each_map (Holds n c q env) (Holds n c (suc q) env) g (λ x h. Holds_same n c q env x (g x) (hr x) (hp x) (hw x) (ha x) (hn x) h) xs each

  each_1 : (xs : List Store) → Each (Holds n c p env) xs → Each (Holds n c (suc p) env) (after_1 xs)
  each_1 xs each = Each_map (Holds n c p env) (Holds n c (suc p) env) (λ y. word_set 2 (own_sum slot y) y) (λ y h. Holds_word_set n c p env 2 (own_sum slot y) y h) xs each

  each_2 : (xs : List Store) → Each (Holds n c p env) xs → Each (Holds n c (suc (suc p)) env) (after_2 xs)
  each_2 xs each = same (suc p) pack_words (λ x. refl) (λ x. refl) (λ x. refl) (λ x. refl) (λ x. refl) (after_1 xs) (each_1 xs each)

  each_3 : (xs : List Store) → Each (Holds n c p env) xs → Each (Holds n c (suc (suc (suc p))) env) (after_3 xs)
  each_3 xs each = same (suc (suc p)) (delivered (after_2 xs)) (λ x. refl) (λ x. refl) (λ x. refl) (λ x. refl) (λ x. refl) (after_2 xs) (each_2 xs each)

  each_4 : (xs : List Store) → Each (Holds n c p env) xs → Each (Holds n c (suc (suc (suc (suc p)))) env) (after_4 xs)
  each_4 xs each = same (suc (suc (suc p))) moved (λ x. refl) (λ x. refl) (λ x. refl) (λ x. refl) (λ x. refl) (after_3 xs) (each_3 xs each)

  each_5 : (xs : List Store) → Each (Holds n c p env) xs → Each (Holds n c (suc (suc (suc (suc (suc p))))) env) (after_5 xs)
  each_5 xs each =
      let q = suc (suc (suc (suc p))) in
      Each_map (Holds n c q env) (Holds n c (suc q) env) unpack_sum (λ y h. Holds_word_set n c q env 2 (fold_of Sum (words_across 0 y.inbox)) y h) (after_4 xs) (each_4 xs each)

  each_6 : (xs : List Store) → Each (Holds n c p env) xs → Each (Holds n c (suc (suc (suc (suc (suc (suc p)))))) env) (after_6 xs)
  each_6 xs each = same (suc (suc (suc (suc (suc p))))) pack_root (λ x. refl) (λ x. refl) (λ x. refl) (λ x. refl) (λ x. refl) (after_5 xs) (each_5 xs each)

  each_7 : (xs : List Store) → Each (Holds n c p env) xs → Each (Holds n c (suc (suc (suc (suc (suc (suc (suc p))))))) env) (after_7 xs)
  each_7 xs each = same (suc (suc (suc (suc (suc (suc p)))))) (delivered_to_root (after_6 xs)) (λ x. refl) (λ x. refl) (λ x. refl) (λ x. refl) (λ x. refl) (after_6 xs) (each_6 xs each)

  each_8 : (xs : List Store) → Each (Holds n c p env) xs → Each (Holds n c (suc (suc (suc (suc (suc (suc (suc (suc p)))))))) env) (after_8 xs)
  each_8 xs each = same (suc (suc (suc (suc (suc (suc (suc p))))))) moved (λ x. refl) (λ x. refl) (λ x. refl) (λ x. refl) (λ x. refl) (after_7 xs) (each_7 xs each)

  pub each_9 : (xs : List Store) → Each (Holds n c p env) xs → Each (Holds n c (suc (suc (suc (suc (suc (suc (suc (suc (suc p))))))))) env) (after_9 xs)
  each_9 xs each = same (suc (suc (suc (suc (suc (suc (suc (suc p)))))))) moved (λ x. refl) (λ x. refl) (λ x. refl) (λ x. refl) (λ x. refl) (after_8 xs) (each_8 xs each)

  -- one instruction that is no computation
  moves : (ranks ranks2 : List Store) (out out2 : List ℕ) (q : ℕ) (i : Rattle.hp_spmd.specs.declared.instr.Instr.Instr) → position_of ranks ≡ q → instr_at code.list q ≡ i → step_by (Rattle.hp_spmd.specs.Kinds.kind_of i) (local_next code.arrays tables i) (state ranks out) ≡ Rattle.hp_spmd.specs.Lockstep.Steps (state ranks2 out2) → (k : ℕ) → run code tables (suc k) (state ranks out) ≡ run code tables k (state ranks2 out2)
  moves ranks ranks2 out out2 q i at is e k = run_steps (step code tables) k (state ranks out) (state ranks2 out2) (step_at code tables ranks out q i at is ∙ e)

  -- nine instructions
  pub sum_leads : (x : Store) (xs : List Store) (out : List ℕ) → Each (Holds n c p env) (x ∷ xs)
      → instr_at code.list p ≡ instr.Loop (sum_loop slot)
      → instr_at code.list (suc p) ≡ instr.Pack (Words (2 ∷ []))
      → instr_at code.list (suc (suc p)) ≡ instr.Post false
      → instr_at code.list (suc (suc (suc p))) ≡ instr.Take false
      → instr_at code.list (suc (suc (suc (suc p)))) ≡ instr.Unpack (Folds ((2, Sum) ∷ []))
      → instr_at code.list (suc (suc (suc (suc (suc p))))) ≡ instr.Pack (Gather (Word 2 false))
      → instr_at code.list (suc (suc (suc (suc (suc (suc p)))))) ≡ instr.Post true
      → instr_at code.list (suc (suc (suc (suc (suc (suc (suc p))))))) ≡ instr.Take true
      → instr_at code.list (suc (suc (suc (suc (suc (suc (suc (suc p)))))))) ≡ instr.Write (Word 2 false)
      → (k : ℕ) → run code tables (suc (suc (suc (suc (suc (suc (suc (suc (suc k))))))))) (state (x ∷ xs) out) ≡ run code tables k (state (after_9 (x ∷ xs)) (out ++ text_of (Word 2 false) (after_8 (x ∷ xs))))
  sum_leads x xs out each i0 i1 i2 i3 i4 i5 i6 i7 i8 k =
      let ranks = x ∷ xs in
      let q = suc (suc p) in
      let e1 = each_1 ranks each in
      let e2 = each_2 ranks each in
      let e3 = each_3 ranks each in
      let e4 = each_4 ranks each in
      let e5 = each_5 ranks each in
      let e6 = each_6 ranks each in
      let e7 = each_7 ranks each in
      let e8 = each_8 ranks each in
      computes code tables (Holds n c p env) (λ y. word_set 2 (own_sum slot y) y) ranks out p (instr.Loop (sum_loop slot)) each.0.position_is i0 (λ f s. refl) (λ y h. loop_goes code.arrays tables slot y) each _
      ∙ computes code tables (Holds n c (suc p) env) pack_words (after_1 ranks) out (suc p) (instr.Pack (Words (2 ∷ []))) e1.0.position_is i1 (λ f s. refl) (λ y h. pack_words_goes code.arrays tables y) e1 _
      ∙ moves (after_2 ranks) (after_3 ranks) out out q (instr.Post false) e2.0.position_is i2 refl _
      ∙ moves (after_3 ranks) (after_4 ranks) out out (suc q) (instr.Take false) e3.0.position_is i3 refl _
      ∙ computes code tables (Holds n c (suc (suc q)) env) unpack_sum (after_4 ranks) out (suc (suc q)) (instr.Unpack (Folds ((2, Sum) ∷ []))) e4.0.position_is i4 (λ f s. refl) (λ y h. unpack_goes code.arrays tables y) e4 _
      ∙ computes code tables (Holds n c (suc (suc (suc q))) env) pack_root (after_5 ranks) out (suc (suc (suc q))) (instr.Pack (Gather (Word 2 false))) e5.0.position_is i5 (λ f s. refl) (λ y h. pack_root_goes code.arrays tables y) e5 _
      ∙ moves (after_6 ranks) (after_7 ranks) out out (suc (suc (suc (suc q)))) (instr.Post true) e6.0.position_is i6 refl _
      ∙ moves (after_7 ranks) (after_8 ranks) out out (suc (suc (suc (suc (suc q))))) (instr.Take true) e7.0.position_is i7 refl _
      ∙ moves (after_8 ranks) (after_9 ranks) out (out ++ text_of (Word 2 false) (after_8 ranks)) (suc (suc (suc (suc (suc (suc q)))))) (instr.Write (Word 2 false)) e8.0.position_is i8 refl k

  -- what rank 0 writes is the sum of the ranks' sums
  pub sum_text : (x : Store) (xs : List Store) → 0 < n → x.number ≡ 0 → Each (Holds n c p env) (x ∷ xs) → text_of (Word 2 false) (after_8 (x ∷ xs)) ≡ printed false (fold_of Sum (map (own_sum slot) (x ∷ xs)))
  unfolding written
  sum_text x xs pos_n zero_is each =
      let ranks = x ∷ xs in
      let e4 = each_4 ranks each in
      let few : x.number < n = omega (arith, zero_is) in
      let across = sums_across slot n c p x.number env few ranks each in
      let got = fold_of Sum (words_across 0 (map (λ y. message_at y.outbox x.number) (after_2 ranks))) in
      let words = slice_set x.words 2 (own_sum slot x) in
      let long : 2 < length words = omega (arith, each.0.words_are, length-set x.words 2 (own_sum slot x)) in
      let word : word_at (slice_set words 2 got) 2 ≡ got = get_or-set_same words 2 got (pos 0) long in
      let head : word_at (of_first x.number (word_at (slice_set words 2 got) 2)) 0 ≡ word_at (slice_set words 2 got) 2 = ap (λ r. word_at (of_first r (word_at (slice_set words 2 got) 2)) 0) zero_is in
      let taken = ap (λ r. printed false (word_at (message_at (root_inbox (after_6 ranks) r (map (λ y. message_at y.outbox x.number) (after_2 ranks))) 0).words 0)) zero_is in
      taken ∙ ap (printed false) (head ∙ word) ∙ ap (λ l. printed false (fold_of Sum l)) across

  pub sum_numbered : (i : ℕ) (xs : List Store) → Numbered i xs → Numbered i (after_9 xs)
  sum_numbered i xs h =
      Numbered_map moved (λ x. refl) i (after_8 xs) (Numbered_map moved (λ x. refl) i (after_7 xs) (Numbered_map (delivered_to_root (after_6 xs)) (λ x. refl) i (after_6 xs) (Numbered_map pack_root (λ x. refl) i (after_5 xs) (Numbered_map unpack_sum (λ x. refl) i (after_4 xs) (Numbered_map moved (λ x. refl) i (after_3 xs) (Numbered_map (delivered (after_2 xs)) (λ x. refl) i (after_2 xs) (Numbered_map pack_words (λ x. refl) i (after_1 xs) (Numbered_map (λ y. word_set 2 (own_sum slot y) y) (λ x. refl) i xs h))))))))

  pub sum_length : (xs : List Store) → length (after_9 xs) ≡ length xs
  sum_length xs = simp length-map
