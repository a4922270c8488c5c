-- Rows that go to the target of their key, one by one.
use Rattle.std.proofs.Common.{◌≡◌, ◌∙◌, refl, sym, ap, arith, inl, inr, ℕ, zero, suc, ◌+◌, ◌<◌, ◌≤◌, List, [], ◌∷◌, ◌++◌, append_assoc, append-nil, length, map, min, get_or, replicate, set, take, cond, eqb}
use Rattle.std.specs.Prelude.{ℤ, pos, flat_map}
use Rattle.std.specs.List.{range_with_len}
use Rattle.std.proofs.lemmas.Bool.{eq-eqb, ne_eqb, cases_eq}
use Rattle.std.proofs.lemmas.List.{get_or-map, get_or_past, get_or-replicate, get_or-set_same, get_or-set_other, length-replicate, length-set, take_all, length-map}
use Rattle.std.proofs.lemmas.List.FromFn.{length-map-range_with_len, get_or-map-range_with_len, fill_by_all}
use Rattle.hp_cuts.specs.Targets.{target_of}
use Rattle.hp_word.specs.declared.table.Message.{Message}
use Rattle.hp_word.specs.LoopRules.{word_at}
use Rattle.hp_word.specs.RowRules.{column_at}
use Rattle.hp_spmd.specs.declared.store.Piece.{Piece}
use Rattle.hp_spmd.specs.Arrays.{cells_at}
use Rattle.hp_spmd.specs.HashParts.{messages_with, row_behind, rows_to}
use Rattle.hp_spmd.specs.Messages.{message_of}
use Rattle.hp_spmd.specs.Scalars.{greatest_count}
use Rattle.hp_spmd.specs.Store.{no_message}

pub map_map : {A B C : Type 0} (f : A → B) (g : B → C) (xs : List A) → map g (map f xs) ≡ map (λ x. g (f x)) xs
map_map f g [] = refl
map_map f g (x ∷ xs) = ap (λ l. g (f x) ∷ l) (map_map f g xs)

-- ---- the key column

pub key_there : (pieces : List Piece) (arrays : List ℕ) (key : ℕ) → key < length arrays → cells_at pieces (get_or arrays key 0) ≡ column_at key (map (cells_at pieces) arrays)
key_there pieces arrays key lt = sym (get_or-map (cells_at pieces) arrays key 0 [] lt)

pub key_past : (pieces : List Piece) (arrays : List ℕ) (key : ℕ) → length arrays ≤ key → [] ≡ column_at key (map (cells_at pieces) arrays)
key_past pieces arrays key le = sym (get_or_past (map (cells_at pieces) arrays) key [] (omega (arith, le, length-map arrays (cells_at pieces))))

-- ---- what is listed place by place

flat_range : {X : Type 0} (f : ℕ → List X) (a n : ℕ) → flat_map f (range_with_len a (suc n)) ≡ flat_map f (range_with_len a n) ++ f (a + n)
flat_range f a zero = let same : a ≡ a + 0 = omega arith in append-nil (f a) ∙ ap f same
flat_range f a (suc n) =
    let same : (a + 1) + n ≡ a + suc n = omega arith in
    ap (λ l. f a ++ l) (flat_range f (a + 1) n) ∙ sym (append_assoc (f a) (flat_map f (range_with_len (a + 1) n)) (f ((a + 1) + n))) ∙ ap (λ k. (f a ++ flat_map f (range_with_len (a + 1) n)) ++ f k) same

-- one more list
pub flat_more : {X : Type 0} (f : ℕ → List X) (n : ℕ) → flat_map f (range_with_len 0 (n + 1)) ≡ flat_map f (range_with_len 0 n) ++ f n
flat_more f n =
    let one : n + 1 ≡ suc n = omega arith in
    let from : 0 + n ≡ n = omega arith in
    ap (λ k. flat_map f (range_with_len 0 k)) one ∙ flat_range f 0 n ∙ ap (λ k. flat_map f (range_with_len 0 n) ++ f k) from

-- ---- one more row

goes : (ranks : ℕ) (keys : List ℤ) (row : ℕ → List ℤ) (rank k : ℕ) → target_of ranks (word_at keys k) ≡ rank → rows_to ranks keys row rank (k + 1) ≡ rows_to ranks keys row rank k ++ row k
goes ranks keys row rank k e =
    let f = λ (i : ℕ). cond (eqb (target_of ranks (word_at keys i)) rank) (row i) [] in
    flat_more f k ∙ ap (λ b. flat_map f (range_with_len 0 k) ++ cond b (row k) []) (eq-eqb (target_of ranks (word_at keys k)) rank e)

stays : (ranks : ℕ) (keys : List ℤ) (row : ℕ → List ℤ) (rank k : ℕ) → (target_of ranks (word_at keys k) ≡ rank → ⊥) → rows_to ranks keys row rank (k + 1) ≡ rows_to ranks keys row rank k
stays ranks keys row rank k ne =
    let f = λ (i : ℕ). cond (eqb (target_of ranks (word_at keys i)) rank) (row i) [] in
    flat_more f k ∙ ap (λ b. flat_map f (range_with_len 0 k) ++ cond b (row k) []) (ne_eqb (target_of ranks (word_at keys k)) rank ne) ∙ append-nil (flat_map f (range_with_len 0 k))

-- no message has a row yet
pub no_rows : (ranks : ℕ) (keys : List ℤ) (row : ℕ → List ℤ) (before : List Message) → before ≡ replicate ranks no_message → before ≡ messages_with ranks keys row 0
no_rows ranks keys row before h =
    h ∙ fill_by_all (λ rank. message_of (rows_to ranks keys row rank 0)) (replicate ranks no_message) ranks no_message (length-replicate ranks no_message) (λ rank l. get_or-replicate ranks rank no_message no_message l)

pub row_goes : (ranks : ℕ) (keys : List ℤ) (row : ℕ → List ℤ) (k to : ℕ) (before now : List Message) (old m : Message) → to < ranks → to ≡ target_of ranks (word_at keys k) → before ≡ messages_with ranks keys row k
    → m ≡ message_of ((get_or before to old).words ++ row k) → now ≡ set before to m → now ≡ messages_with ranks keys row (k + 1)
row_goes ranks keys row k to before now old m lt is h e s =
    let f = λ (rank : ℕ). message_of (rows_to ranks keys row rank k) in
    let g = λ (rank : ℕ). message_of (rows_to ranks keys row rank (k + 1)) in
    let count : length before ≡ ranks = ap length h ∙ length-map-range_with_len f 0 ranks in
    let at = λ (rank : ℕ) (l : rank < ranks). (ap (λ l. get_or l rank old) h ∙ get_or-map-range_with_len f 0 ranks rank rank old l (omega arith)) in
    s ∙ fill_by_all g (set before to m) ranks old (length-set before to m ∙ count)
    (λ rank l.
    elim (cases_eq rank to) [
      | inl same ↦
          let there : to < length before = omega (arith, lt, count) in
          ap (λ r. get_or (set before to m) r old) same ∙ get_or-set_same before to m old there ∙ e
          ∙ ap (λ (o : Message). message_of (o.words ++ row k)) (at to lt) ∙ ap message_of (sym (goes ranks keys row to k (sym is))) ∙ ap g (sym same)
      | inr other ↦
          get_or-set_other before to rank m old other ∙ at rank l ∙ ap message_of (sym (stays ranks keys row rank k (λ w. other (sym w ∙ sym is))))
    ])

-- a row with its place and its cells
pub row_is : (pieces : List Piece) (arrays : List ℕ) (before row i : ℕ) (place : ℤ) (old first now : Message) → first ≡ message_of (old.words ++ place ∷ []) → place ≡ pos (min (before + suc row) greatest_count)
    → now ≡ message_of (first.words ++ map (λ k. word_at (cells_at pieces k) row) (take i arrays)) → length arrays ≤ i → now ≡ message_of (old.words ++ row_behind before (map (cells_at pieces) arrays) row)
row_is pieces arrays before row i place old first now f p n le =
    let cells = λ (l : List ℕ). map (λ k. word_at (cells_at pieces k) row) l in
    n ∙ ap (λ l. message_of (first.words ++ cells l)) (take_all i arrays le) ∙ ap (λ (m : Message). message_of (m.words ++ cells arrays)) f
    ∙ ap message_of (append_assoc old.words (place ∷ []) (cells arrays)) ∙ ap (λ z. message_of (old.words ++ z ∷ cells arrays)) p
    ∙ ap (λ l. message_of (old.words ++ pos (min (before + suc row) greatest_count) ∷ l)) (sym (map_map (cells_at pieces) (λ (l : List ℤ). word_at l row) arrays))

pub empty_count : (ranks : ℕ) (messages : List Message) → messages ≡ replicate ranks no_message → length messages ≡ ranks
empty_count ranks messages e = ap length e ∙ length-replicate ranks no_message
