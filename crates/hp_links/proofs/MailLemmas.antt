-- What a put and a take do to all queues of a table.
use Rattle.std.proofs.Common.{◌≡◌, ℕ, zero, suc, ◌+◌, ◌-◌, ◌^◌, ◌<◌, ◌≤◌, List, [], ◌∷◌, ◌++◌, length, map, Option, None, Some, IfSome, ◌⊎◌, refl, sym, ap, ◌∙◌, subst, inl, inr, arith, replicate}
use Rattle.std.specs.Prelude.{slice_index_or, slice_set, slice_get, sum_by}
use Rattle.std.proofs.lemmas.List.{get_or-set_same, get_or-set_other, get_or_past, get_or-map, get_or_push, get_or_append_left, length-append, length-replicate, length-set}
use Rattle.std.proofs.lemmas.List.Sums.{sum_by-cons, sum_by-set, get_or-le-sum_by}
use Rattle.std.proofs.lemmas.Bool.{cases_eq}
use Rattle.hp_word.specs.declared.table.Message.{Message}
use Rattle.hp_links.specs.declared.mailboxes.Ends.{Ends}
use Rattle.hp_links.specs.declared.mailboxes.Letter.{Letter}
use Rattle.hp_links.specs.declared.mailboxes.Pair.{Pair}
use Rattle.hp_links.specs.Chains.{Chain, IsMail, IsQueue, all_unused, before, ends_at, first_of, full, held, last_from, last_of, letter_at, longer, messages, messages_of, no_ends, pair, row_at, seen, shorter, tied, unused, with_ends}
use Rattle.hp_links.specs.Mails.{Mail, no_mail, queue_in, queue_at, with_message, with_queue, without_front}
use Rattle.hp_links.proofs.ChainLemmas.{Kept, kept, Grown, grown, IsLast, last_is, some_last, one_count, some_none, same_some, messages_length, unused_length}

-- ---- lists of lists

map_agrees : {A B : Type 0} (f g : A → B) (xs : List A) (d : A) → ((j : ℕ) → f (slice_index_or xs j d) ≡ g (slice_index_or xs j d)) → map f xs ≡ map g xs
map_agrees f g [] d h = refl
map_agrees f g (x ∷ xs) d h = ap (λ y. y ∷ map f xs) (h 0) ∙ ap (λ ys. g x ∷ ys) (map_agrees f g xs d (λ j. h (suc j)))

-- a list of which one item is set and the others agree
set_agrees : {A B : Type 0} (f g : A → B) (xs : List A) (i : ℕ) (v d : A) (w : B) → f v ≡ w → ((j : ℕ) → (j ≡ i → ⊥) → f (slice_index_or xs j d) ≡ g (slice_index_or xs j d))
    → map f (slice_set xs i v) ≡ slice_set (map g xs) i w
set_agrees f g [] i v d w same h = refl
set_agrees f g (x ∷ xs) zero v d w same h = ap (λ y. y ∷ map f xs) same ∙ ap (λ ys. w ∷ ys) (map_agrees f g xs d (λ j. h (suc j) (λ e. omega (arith, e))))
set_agrees f g (x ∷ xs) (suc i) v d w same h =
    ap (λ y. y ∷ map f (slice_set xs i v)) (h 0 (λ e. omega (arith, e))) ∙ ap (λ ys. g x ∷ ys) (set_agrees f g xs i v d w same (λ j other. h (suc j) (λ e. other (omega (arith, e)))))

-- ---- ends that are set

same_ends : (queues : List (List Ends)) (a b : ℕ) (e : Ends) → a < length queues → b < length (row_at queues a) → ends_at (with_ends a b e queues) a b ≡ e
same_ends queues a b e here there =
    ap (λ row. slice_index_or row b no_ends) (get_or-set_same queues a (slice_set (row_at queues a) b e) [] here)
    ∙ get_or-set_same (row_at queues a) b e no_ends there

-- a queue is this one, or another
pub cases_pair : (a b c d : ℕ) → ((c ≡ a) × (d ≡ b)) ⊎ (((c ≡ a) × (d ≡ b)) → ⊥)
cases_pair a b c d = elim (cases_eq c a) [
  | inl same ↦ elim (cases_eq d b) [
    | inl too ↦ inl (same, too)
    | inr other ↦ inr (λ h. other h.1)
  ]
  | inr other ↦ inr (λ h. other h.0)
]

other_ends : (queues : List (List Ends)) (a b c d : ℕ) (e : Ends) → a < length queues → (((c ≡ a) × (d ≡ b)) → ⊥) → ends_at (with_ends a b e queues) c d ≡ ends_at queues c d
other_ends queues a b c d e here other = elim (cases_eq c a) [
  | inl same ↦ subst (λ x. ends_at (with_ends a b e queues) x d ≡ ends_at queues x d) (sym same)
      (ap (λ row. slice_index_or row d no_ends) (get_or-set_same queues a (slice_set (row_at queues a) b e) [] here)
      ∙ get_or-set_other (row_at queues a) b d e no_ends (λ s. other (same, s)))
  | inr apart ↦ ap (λ row. slice_index_or row d no_ends) (get_or-set_other queues a c (slice_set (row_at queues a) b e) [] apart)
]

pair_apart : (a b c d : ℕ) → Some (pair c d) ≡ Some (pair a b) → (c ≡ a) × (d ≡ b)
pair_apart a b c d e = (ap (λ (p : Pair). p.sender) (same_some (pair c d) (pair a b) e), ap (λ (p : Pair). p.receiver) (same_some (pair c d) (pair a b) e))

-- how many messages there are, where one queue's ends are set
held_set : (queues : List (List Ends)) (a b : ℕ) (e : Ends) → a < length queues → b < length (row_at queues a) → held (with_ends a b e queues) + (ends_at queues a b).count ≡ held queues + e.count
held_set queues a b e here there =
    let count : Ends → ℕ = λ (x : Ends). x.count in
    let outer = sum_by-set (sum_by count) queues a (slice_set (row_at queues a) b e) [] here in
    let inner = sum_by-set count (row_at queues a) b e no_ends there in
    omega (arith, outer, inner)

pub count_within : (queues : List (List Ends)) (a b : ℕ) → a < length queues → b < length (row_at queues a) → (ends_at queues a b).count ≤ held queues
count_within queues a b here there =
    let count : Ends → ℕ = λ (x : Ends). x.count in
    let outer = get_or-le-sum_by (sum_by count) queues a [] here in
    let inner = get_or-le-sum_by count (row_at queues a) b no_ends there in
    omega (arith, outer, inner)

-- what is seen where the ends of one queue are set, and the others have the messages that they had
seen_set : (table now : List Letter) (queues : List (List Ends)) (a b : ℕ) (e : Ends) (q : List Message) → a < length queues
    → messages_of now e ≡ q → ((c d : ℕ) → (((c ≡ a) × (d ≡ b)) → ⊥) → messages_of now (ends_at queues c d) ≡ messages_of table (ends_at queues c d))
    → map (map (messages_of now)) (with_ends a b e queues) ≡ with_queue a b q (map (map (messages_of table)) queues)
seen_set table now queues a b e q here same others =
    set_agrees (map (messages_of now)) (map (messages_of table)) queues a (slice_set (row_at queues a) b e) [] (slice_set (slice_index_or (map (map (messages_of table)) queues) a []) b q)
    (set_agrees (messages_of now) (messages_of table) (row_at queues a) b e no_ends q same (λ d other. others a d (λ h. other h.1))
    ∙ ap (λ row. slice_set row b q) (sym (get_or-map (map (messages_of table)) queues a [] [] here)))
    (λ c other. map_agrees (messages_of now) (messages_of table) (row_at queues c) no_ends (λ d. others c d (λ h. other h.0)))

pub seen_queue : (table : List Letter) (queues : List (List Ends)) (a b : ℕ) → a < length queues → b < length (row_at queues a) → queue_in (map (map (messages_of table)) queues) a b ≡ messages_of table (ends_at queues a b)
seen_queue table queues a b here there =
    ap (λ row. slice_index_or row b []) (get_or-map (map (messages_of table)) queues a [] [] here) ∙ get_or-map (messages_of table) (row_at queues a) b no_ends [] there

-- ---- the node that is filled, and the one that is tied to it

set_same : (table : List Letter) (i : ℕ) (x : Letter) → i < length table → letter_at (slice_set table i x) i ≡ x
set_same table i x inside = get_or-set_same table i x (unused None) inside

set_other : (table : List Letter) (i j : ℕ) (x : Letter) → (j ≡ i → ⊥) → letter_at (slice_set table i x) j ≡ letter_at table j
set_other table i j x other = get_or-set_other table i j x (unused None) other

pub tied_length : (last : Option ℕ) (i : ℕ) (table : List Letter) → length (tied last i table) ≡ length table
tied_length None i table = refl
tied_length (Some l) i table = length-set table l (record (letter_at table l) { next = Some i })

-- a node that is neither
put_other : (last : Option ℕ) (i j : ℕ) (table : List Letter) (x : Letter) → (j ≡ i → ⊥) → (last ≡ Some j → ⊥) → letter_at (tied last i (slice_set table i x)) j ≡ letter_at table j
put_other None i j table x apart other = set_other table i j x apart
put_other (Some l) i j table x apart other = set_other (slice_set table i x) l j (record (letter_at (slice_set table i x) l) { next = Some i }) (λ e. other (ap Some (sym e))) ∙ set_other table i j x apart

-- the filled one
put_new : (last : Option ℕ) (i : ℕ) (table : List Letter) (x : Letter) → i < length table → (last ≡ Some i → ⊥) → letter_at (tied last i (slice_set table i x)) i ≡ x
put_new None i table x inside other = set_same table i x inside
put_new (Some l) i table x inside other = set_other (slice_set table i x) l i (record (letter_at (slice_set table i x) l) { next = Some i }) (λ e. other (ap Some (sym e))) ∙ set_same table i x inside

-- the tied one
put_last : (l i : ℕ) (table : List Letter) (x : Letter) → l < length table → (l ≡ i → ⊥) → letter_at (tied (Some l) i (slice_set table i x)) l ≡ record (letter_at table l) { next = Some i }
put_last l i table x inside other =
    set_same (slice_set table i x) l (record (letter_at (slice_set table i x) l) { next = Some i }) (let s = length-set table i x in omega (arith, s, inside))
    ∙ ap (λ (n : Letter). record n { next = Some i }) (set_other table i l x other)

set_columns : (queues : List (List Ends)) (a b : ℕ) (e : Ends) (c n : ℕ) → a < length queues → length (row_at queues c) ≡ n → length (row_at (with_ends a b e queues) c) ≡ n
set_columns queues a b e c n here is = elim (cases_eq c a) [
  | inl same ↦ subst (λ x. length (row_at (with_ends a b e queues) x) ≡ n) (sym same)
      (ap length (get_or-set_same queues a (slice_set (row_at queues a) b e) [] here) ∙ length-set (row_at queues a) b e ∙ subst (λ x. length (row_at queues x) ≡ n) same is)
  | inr apart ↦ ap length (get_or-set_other queues a c (slice_set (row_at queues a) b e) [] apart) ∙ is
]

-- ---- a put

last_owned : (table : List Letter) (p : Pair) (k : ℕ) (at last : Option ℕ) (l : ℕ) → Chain table (Some p) k at → last ≡ last_from table k at None → last ≡ Some l → IsLast table p l
last_owned table p zero at last l c is e = absurd (some_none l (sym e ∙ is))
last_owned table p (suc k) at last l c is e = last_is table p l k at None c (sym is ∙ e)

pub last_inside : (table : List Letter) (p : Pair) (e : Ends) → IsQueue table p e → IfSome e.last (λ l. l < length table)
last_inside table p e is = by e.last refl
  where
    by : (last : Option ℕ) → e.last ≡ last → IfSome last (λ l. l < length table)
    by None at = tt
    by (Some l) at = (last_owned table p e.count e.first e.last l is.chain is.last at).inside

unowned : (p : Pair) (o : Option Pair) → o ≡ None → o ≡ Some p → ⊥
unowned p o none some = some_none p (sym some ∙ none)

record Longer (table now : List Letter) (p : Pair) (i : ℕ) (m : Message) (e : Ends) : Type 0 where
  queue : IsQueue now p (longer e i)
  messages : messages_of now (longer e i) ≡ messages_of table e ++ m ∷ []

longer_first : (table : List Letter) (p : Pair) (i : ℕ) (m : Message) → i < length table → Longer table (slice_set table i (full p m)) p i m no_ends
longer_first table p i m inside =
    let new = set_same table i (full p m) inside in
    let long = length-set table i (full p m) in
    record {
      queue = record {
        chain = (omega (arith, long, inside), ap (λ (n : Letter). n.owner) new, ap (λ (n : Letter). n.next) new);
        last = refl;
      };
      messages = ap (λ (n : Letter). n.message ∷ []) new;
    }

longer_queue : (table : List Letter) (p : Pair) (i : ℕ) (m : Message) (k : ℕ) (at last : Option ℕ) → Chain table (Some p) k at → last ≡ last_from table k at None
    → i < length table → (letter_at table i).owner ≡ None → Longer table (tied last i (slice_set table i (full p m))) p i m (record { first = at; last = last; count = k })
longer_queue table p i m zero at last c is inside free =
    subst (λ l. Longer table (tied l i (slice_set table i (full p m))) p i m (record { first = at; last = l; count = 0 })) (sym is)
    (subst (λ f. Longer table (slice_set table i (full p m)) p i m (record { first = f; last = None; count = 0 })) (sym c) (longer_first table p i m inside))
longer_queue table p i m (suc k) None last c is inside free = absurd c
longer_queue table p i m (suc k) (Some j) last c is inside free =
    let found = some_last table p k (Some j) None c in
    subst (λ z. Longer table (tied z i (slice_set table i (full p m))) p i m (record { first = Some j; last = z; count = suc k })) (sym (is ∙ found.1)) (by found.0 found.1)
  where
    by : (l : ℕ) → last_from table (suc k) (Some j) None ≡ Some l → Longer table (tied (Some l) i (slice_set table i (full p m))) p i m (record { first = Some j; last = Some l; count = suc k })
    by l e =
        let now = tied (Some l) i (slice_set table i (full p m)) in
        let end = last_is table p l k (Some j) None c e in
        let apart : l ≡ i → ⊥ = λ s. unowned p (letter_at table i).owner free (subst (λ x. (letter_at table x).owner ≡ Some p) s end.owner) in
        let long = tied_length (Some l) i (slice_set table i (full p m)) ∙ length-set table i (full p m) in
        let g = grown table now p i l m k (Some j) None (omega (arith, long)) (omega (arith, long, inside)) (put_new (Some l) i table (full p m) inside (λ s. apart (same_some l i s)))
        (put_last l i table (full p m) end.inside apart) end.end
        (λ n owned other. put_other (Some l) i n table (full p m) (λ s. unowned p (letter_at table i).owner free (subst (λ x. (letter_at table x).owner ≡ Some p) s owned)) (λ s. other (sym (same_some l n s)))) c e in
        record { queue = record { chain = g.chain; last = sym (g.last None) }; messages = g.messages }

-- the table behind a put, and what is seen of it
pub record Put (ranks : ℕ) (table now : List Letter) (queues new : List (List Ends)) (next : Option ℕ) (spare a b : ℕ) (m : Message) : Type 0 where
  pub is : IsMail ranks now new next (spare - 1)
  pub shows : seen ranks now new (spare - 1) ≡ with_message a b m (seen ranks table queues spare)

module _ (ranks : ℕ) (table : List Letter) (queues : List (List Ends)) (i a b : ℕ) (m : Message) where
  abbrev e : Ends
  e = ends_at queues a b

  abbrev now : List Letter
  now = tied e.last i (slice_set table i (full (pair a b) m))

  abbrev new : List (List Ends)
  new = with_ends a b (longer e i) queues

  now_length : length now ≡ length table
  now_length = tied_length e.last i (slice_set table i (full (pair a b) m)) ∙ length-set table i (full (pair a b) m)

  put_unused : (k : ℕ) → IsMail ranks table queues (Some i) (suc k) → Chain now None k (letter_at table i).next
  put_unused k is =
      let q = is.queue a b in
      (kept table now None k k (letter_at table i).next (let l = now_length in omega (arith, l)) (omega arith)
      (λ j n lt ch. put_other e.last i j table (full (pair a b) m)
      (λ s. let same = one_count table None (suc n) (suc k) (Some i) (subst (λ x. Chain table None (suc n) (Some x)) s ch) is.unused in omega (arith, same, lt))
      (λ s. unowned (pair a b) (letter_at table j).owner ch.1 (last_owned table (pair a b) e.count e.first e.last j q.chain q.last s).owner))
      is.unused.2).chain

  put_kept : (k c d : ℕ) → IsMail ranks table queues (Some i) (suc k) → (((c ≡ a) × (d ≡ b)) → ⊥) → Kept table now (Some (pair c d)) (ends_at queues c d).count (ends_at queues c d).first
  put_kept k c d is other =
      let q = is.queue a b in
      kept table now (Some (pair c d)) (ends_at queues c d).count (ends_at queues c d).count (ends_at queues c d).first (let l = now_length in omega (arith, l)) (omega arith)
      (λ j n lt ch. put_other e.last i j table (full (pair a b) m)
      (λ s. unowned (pair c d) (letter_at table i).owner is.unused.1 (subst (λ x. (letter_at table x).owner ≡ Some (pair c d)) s ch.1))
      (λ s. other (pair_apart a b c d (sym ch.1 ∙ (last_owned table (pair a b) e.count e.first e.last j q.chain q.last s).owner))))
      (is.queue c d).chain

  put_queue : (k c d : ℕ) → IsMail ranks table queues (Some i) (suc k) → a < length queues → b < length (row_at queues a) → IsQueue now (pair c d) (ends_at new c d)
  put_queue k c d is here there = elim (cases_pair a b c d) [
    | inl same ↦ let q = is.queue a b in
        subst (λ x. IsQueue now (pair x d) (ends_at new x d)) (sym same.0) (subst (λ y. IsQueue now (pair a y) (ends_at new a y)) (sym same.1)
        (subst (IsQueue now (pair a b)) (sym (same_ends queues a b (longer e i) here there)) (longer_queue table (pair a b) i m e.count e.first e.last q.chain q.last is.unused.0 is.unused.1).queue))
    | inr other ↦ let q = is.queue c d in let k2 = put_kept k c d is other in
        subst (IsQueue now (pair c d)) (sym (other_ends queues a b c d (longer e i) here other)) (record { chain = k2.chain; last = q.last ∙ sym (k2.last None) })
  ]

  put_count : (k : ℕ) → IsMail ranks table queues (Some i) (suc k) → a < length queues → b < length (row_at queues a) → held new + k ≡ length now
  put_count k is here there =
      let set = held_set queues a b (longer e i) here there in
      let l = now_length in
      let c = is.count in
      omega (arith, set, l, c)

  put_columns : (k c : ℕ) → IsMail ranks table queues (Some i) (suc k) → a < length queues → c < ranks → length (row_at new c) ≡ ranks
  put_columns k c is here within = set_columns queues a b (longer e i) c ranks here (is.columns c within)

  put_is : (k : ℕ) → IsMail ranks table queues (Some i) (suc k) → a < length queues → b < length (row_at queues a) → Put ranks table now queues new (letter_at table i).next (suc k) a b m
  put_is k is here there =
      let q = is.queue a b in
      let one = longer_queue table (pair a b) i m e.count e.first e.last q.chain q.last is.unused.0 is.unused.1 in
      let back : k ≡ suc k - 1 = omega arith in
      record {
        is = subst (IsMail ranks now new (letter_at table i).next) back (record {
          few = (let l = now_length in let f = is.few in omega (arith, l, f));
          rows = length-set queues a (slice_set (row_at queues a) b (longer e i)) ∙ is.rows;
          columns = λ c within. put_columns k c is here within;
          queue = λ c d. put_queue k c d is here there;
          unused = put_unused k is;
          count = put_count k is here there;
        });
        shows = ap (λ qs. record { ranks = ranks; queues = qs; spare = suc k - 1 })
            (seen_set table now queues a b (longer e i) (messages_of table e ++ m ∷ []) here one.messages (λ c d other. (put_kept k c d is other).messages)
            ∙ ap (λ x. with_queue a b (x ++ m ∷ []) (map (map (messages_of table)) queues)) (sym (seen_queue table queues a b here there)));
      }

-- ---- a take

last_behind : (table : List Letter) (o : Option Pair) (k : ℕ) (next last : Option ℕ) (b : Option ℕ) → Chain table o k next → last ≡ last_from table k next b → last_of next last ≡ last_from table k next None
last_behind table o zero None last b c is = refl
last_behind table o zero (Some j) last b c is = absurd (some_none j c)
last_behind table o (suc k) None last b c is = absurd c
last_behind table o (suc k) (Some j) last b c is = is

-- what stood at the front of a queue, and the list behind it
pub record Front (table now : List Letter) (p : Pair) (i : ℕ) (e : Ends) : Type 0 where
  pub some : 1 ≤ e.count
  pub inside : i < length table
  pub owner : (letter_at table i).owner ≡ Some p
  pub queue : IsQueue now p (shorter e (letter_at table i).next)
  pub messages : messages_of table e ≡ (letter_at table i).message ∷ messages_of now (shorter e (letter_at table i).next)

front_queue : (table : List Letter) (p : Pair) (i : ℕ) (free : Option ℕ) (k : ℕ) (at last : Option ℕ) → Chain table (Some p) k at → last ≡ last_from table k at None → at ≡ Some i
    → Front table (slice_set table i (unused free)) p i (record { first = at; last = last; count = k })
front_queue table p i free zero at last c is e = absurd (some_none i (sym e ∙ c))
front_queue table p i free (suc k) None last c is e = absurd (some_none i (sym e))
front_queue table p i free (suc k) (Some j) last c is e = subst (λ x. Front table (slice_set table x (unused free)) p x (record { first = Some j; last = last; count = suc k })) (same_some j i e)
    (let now = slice_set table j (unused free) in
    let rest = kept table now (Some p) k k (letter_at table j).next (let l = length-set table j (unused free) in omega (arith, l)) (omega arith)
    (λ n m lt ch. set_other table j n (unused free) (λ s. let same = one_count table (Some p) (suc m) (suc k) (Some j) (subst (λ x. Chain table (Some p) (suc m) (Some x)) s ch) c in omega (arith, same, lt)))
    c.2 in
    let back : k ≡ suc k - 1 = omega arith in
    record {
      some = omega arith;
      inside = c.0;
      owner = c.1;
      queue = subst (λ n. IsQueue now p (record { first = (letter_at table j).next; last = last_of (letter_at table j).next last; count = n })) back
          (record { chain = rest.chain; last = last_behind table (Some p) k (letter_at table j).next last (Some j) c.2 is ∙ sym (rest.last None) });
      messages = subst (λ n. (letter_at table j).message ∷ messages table k (letter_at table j).next ≡ (letter_at table j).message ∷ messages now n (letter_at table j).next) back
          (ap (λ x. (letter_at table j).message ∷ x) (sym rest.messages));
    })

pub record Taken (ranks : ℕ) (table now : List Letter) (queues new : List (List Ends)) (i spare a b : ℕ) : Type 0 where
  pub is : IsMail ranks now new (Some i) (suc spare)
  pub front : slice_get (queue_at (seen ranks table queues spare) a b) 0 ≡ Some (letter_at table i).message
  pub shows : seen ranks now new (suc spare) ≡ without_front (queue_at (seen ranks table queues spare) a b) a b (seen ranks table queues spare)

module _ (ranks : ℕ) (table : List Letter) (queues : List (List Ends)) (i a b spare : ℕ) (free : Option ℕ) where
  abbrev e2 : Ends
  e2 = ends_at queues a b

  abbrev now2 : List Letter
  now2 = slice_set table i (unused free)

  abbrev new2 : List (List Ends)
  new2 = with_ends a b (shorter e2 (letter_at table i).next) queues

  front_is : IsMail ranks table queues free spare → e2.first ≡ Some i → Front table now2 (pair a b) i e2
  front_is is at = let q = is.queue a b in front_queue table (pair a b) i free e2.count e2.first e2.last q.chain q.last at

  take_unused : IsMail ranks table queues free spare → e2.first ≡ Some i → Chain now2 None (suc spare) (Some i)
  take_unused is at =
      let f = front_is is at in
      let long = length-set table i (unused free) in
      let new = set_same table i (unused free) f.inside in
      let rest = kept table now2 None spare spare free (omega (arith, long)) (omega arith)
      (λ j n lt ch. set_other table i j (unused free) (λ s. unowned (pair a b) (letter_at table j).owner ch.1 (subst (λ x. (letter_at table x).owner ≡ Some (pair a b)) (sym s) f.owner)))
      is.unused in
      (omega (arith, long, f.inside), ap (λ (n : Letter). n.owner) new, subst (λ (n : Letter). Chain now2 None spare n.next) (sym new) rest.chain)

  take_kept : (c d : ℕ) → IsMail ranks table queues free spare → e2.first ≡ Some i → (((c ≡ a) × (d ≡ b)) → ⊥) → Kept table now2 (Some (pair c d)) (ends_at queues c d).count (ends_at queues c d).first
  take_kept c d is at other =
      let f = front_is is at in
      let long = length-set table i (unused free) in
      kept table now2 (Some (pair c d)) (ends_at queues c d).count (ends_at queues c d).count (ends_at queues c d).first (omega (arith, long)) (omega arith)
      (λ j n lt ch. set_other table i j (unused free) (λ s. other (pair_apart a b c d (sym ch.1 ∙ subst (λ x. (letter_at table x).owner ≡ Some (pair a b)) (sym s) f.owner))))
      (is.queue c d).chain

  take_queue : (c d : ℕ) → IsMail ranks table queues free spare → e2.first ≡ Some i → a < length queues → b < length (row_at queues a) → IsQueue now2 (pair c d) (ends_at new2 c d)
  take_queue c d is at here there = elim (cases_pair a b c d) [
    | inl same ↦
        subst (λ x. IsQueue now2 (pair x d) (ends_at new2 x d)) (sym same.0) (subst (λ y. IsQueue now2 (pair a y) (ends_at new2 a y)) (sym same.1)
        (subst (IsQueue now2 (pair a b)) (sym (same_ends queues a b (shorter e2 (letter_at table i).next) here there)) (front_is is at).queue))
    | inr other ↦ let q = is.queue c d in let k2 = take_kept c d is at other in
        subst (IsQueue now2 (pair c d)) (sym (other_ends queues a b c d (shorter e2 (letter_at table i).next) here other)) (record { chain = k2.chain; last = q.last ∙ sym (k2.last None) })
  ]

  take_count : IsMail ranks table queues free spare → e2.first ≡ Some i → a < length queues → b < length (row_at queues a) → held new2 + suc spare ≡ length now2
  take_count is at here there =
      let set = held_set queues a b (shorter e2 (letter_at table i).next) here there in
      let l = length-set table i (unused free) in
      let c = is.count in
      let some = (front_is is at).some in
      omega (arith, set, l, c, some)

  seen_front : IsMail ranks table queues free spare → e2.first ≡ Some i → a < length queues → b < length (row_at queues a)
      → queue_at (seen ranks table queues spare) a b ≡ (letter_at table i).message ∷ messages_of now2 (shorter e2 (letter_at table i).next)
  seen_front is at here there = seen_queue table queues a b here there ∙ (front_is is at).messages

  take_is : IsMail ranks table queues free spare → e2.first ≡ Some i → a < length queues → b < length (row_at queues a) → Taken ranks table now2 queues new2 i spare a b
  take_is is at here there =
      let s = shorter e2 (letter_at table i).next in
      let front = seen_front is at here there in
      record {
        is = record {
          few = (let l = length-set table i (unused free) in let f = is.few in omega (arith, l, f));
          rows = length-set queues a (slice_set (row_at queues a) b s) ∙ is.rows;
          columns = λ c within. set_columns queues a b s c ranks here (is.columns c within);
          queue = λ c d. take_queue c d is at here there;
          unused = take_unused is at;
          count = take_count is at here there;
        };
        front = ap (λ q. slice_get q 0) front;
        shows = ap (λ qs. record { ranks = ranks; queues = qs; spare = suc spare }) (seen_set table now2 queues a b s (messages_of now2 s) here refl (λ c d other. (take_kept c d is at other).messages))
            ∙ ap (λ q. without_front q a b (seen ranks table queues spare)) (sym front);
      }

none_messages : (table : List Letter) (k : ℕ) → messages table k None ≡ []
none_messages table zero = refl
none_messages table (suc k) = refl

-- a queue with no first node is empty
pub take_none : (ranks : ℕ) (table : List Letter) (queues : List (List Ends)) (a b spare : ℕ) → a < length queues → b < length (row_at queues a) → (ends_at queues a b).first ≡ None
    → queue_at (seen ranks table queues spare) a b ≡ []
take_none ranks table queues a b spare here there none =
    seen_queue table queues a b here there ∙ ap (messages table (ends_at queues a b).count) none ∙ none_messages table (ends_at queues a b).count

-- ---- no message

no_ends_at : (n k a b : ℕ) → slice_index_or (slice_index_or (replicate n (replicate k no_ends)) a []) b no_ends ≡ no_ends
no_ends_at zero k a b = refl
no_ends_at (suc n) k zero b = same k b
  where
    same : (k b : ℕ) → slice_index_or (replicate k no_ends) b no_ends ≡ no_ends
    same zero b = refl
    same (suc k) zero = refl
    same (suc k) (suc b) = same k b
no_ends_at (suc n) k (suc a) b = no_ends_at n k a b

row_length : (n k a : ℕ) → a < n → length (slice_index_or (replicate n (replicate k no_ends)) a []) ≡ k
row_length zero k a within = absurd (omega (arith, within))
row_length (suc n) k zero within = length-replicate k no_ends
row_length (suc n) k (suc a) within = row_length n k a (omega (arith, within))

none_held : {X : Type 0} (f : X → ℕ) (n : ℕ) (x : X) → f x ≡ 0 → sum_by f (replicate n x) ≡ 0
none_held f zero x none = refl
none_held f (suc n) x none = let rest = none_held f n x none in let all = sum_by-cons f x (replicate n x) in omega (arith, none, rest, all)

map_same : {A B : Type 0} (f : A → B) (n : ℕ) (x : A) → map f (replicate n x) ≡ replicate n (f x)
map_same f zero x = refl
map_same f (suc n) x = ap (λ ys. f x ∷ ys) (map_same f n x)

unused_chain : (k : ℕ) → Chain (all_unused k) None k (before k)
unfolding all_unused
unused_chain zero = refl
unused_chain (suc k) =
    let xs = all_unused k in
    let x = unused (before k) in
    let size = unused_length k in
    let long = length-append xs (x ∷ []) in
    let here : letter_at (xs ++ x ∷ []) k ≡ x = get_or_push xs x (unused None) k size in
    let rest = kept xs (xs ++ x ∷ []) None k k (before k) (omega (arith, long)) (omega arith) (λ i m lt ch. get_or_append_left xs (x ∷ []) (unused None) i ch.0) (unused_chain k) in
    (omega (arith, long, size), ap (λ (n : Letter). n.owner) here, subst (λ (n : Letter). Chain (xs ++ x ∷ []) None k n.next) (sym here) rest.chain)

pub unused_more : (k : ℕ) → all_unused k ++ unused (before k) ∷ [] ≡ all_unused (k + 1)
unfolding all_unused
unused_more k = let s : suc k ≡ k + 1 = omega arith in subst (λ n. all_unused k ++ unused (before k) ∷ [] ≡ all_unused n) s refl

pub before_more : (k : ℕ) → Some k ≡ before (k + 1)
before_more k = let s : suc k ≡ k + 1 = omega arith in ap before s

pub before_is : (k : ℕ) → 1 ≤ k → before k ≡ Some (k - 1)
before_is zero some = absurd (omega arith)
before_is (suc k) some = let back : k ≡ suc k - 1 = omega arith in ap Some back

pub none_is : (ranks spare : ℕ) → spare < 2 ^ 32 → IsMail ranks (all_unused spare) (replicate ranks (replicate ranks no_ends)) (before spare) spare
none_is ranks spare few =
    let size = unused_length spare in
    record {
      few = omega (arith, size, few);
      rows = length-replicate ranks (replicate ranks no_ends);
      columns = λ a within. row_length ranks ranks a within;
      queue = λ a b. subst (IsQueue (all_unused spare) (pair a b)) (sym (no_ends_at ranks ranks a b)) (record { chain = refl; last = refl });
      unused = unused_chain spare;
      count = (let none = none_held (sum_by (λ (e : Ends). e.count)) ranks (replicate ranks no_ends) (none_held (λ (e : Ends). e.count) ranks no_ends refl) in omega (arith, none, size));
    }

pub none_seen : (ranks : ℕ) (table : List Letter) (spare : ℕ) → seen ranks table (replicate ranks (replicate ranks no_ends)) spare ≡ no_mail ranks spare
none_seen ranks table spare =
    ap (λ qs. record { ranks = ranks; queues = qs; spare = spare }) (map_same (map (messages_of table)) ranks (replicate ranks no_ends) ∙ ap (replicate ranks) (map_same (messages_of table) ranks no_ends))

-- ---- what the calls find

-- mailboxes, by what is seen of them, and a pair of its ranks
pub record IsSeen (ranks : ℕ) (table : List Letter) (queues : List (List Ends)) (free : Option ℕ) (spare : ℕ) (mail : Mail) (a b : ℕ) : Type 0 where
  pub is : IsMail ranks table queues free spare
  pub shows : seen ranks table queues spare ≡ mail
  pub sender : a < mail.ranks
  pub receiver : b < mail.ranks

module _ {ranks : ℕ} {table : List Letter} {queues : List (List Ends)} {free : Option ℕ} {spare : ℕ} {mail : Mail} {a b : ℕ} where
  pub row_within : IsSeen ranks table queues free spare mail a b → a < length queues
  row_within s = let same = ap (λ (m : Mail). m.ranks) s.shows in let rows = s.is.rows in omega (arith, same, rows, s.sender)

  pub column_within : IsSeen ranks table queues free spare mail a b → b < length (row_at queues a)
  column_within s =
      let same = ap (λ (m : Mail). m.ranks) s.shows in
      let columns = s.is.columns a (omega (arith, same, s.sender)) in
      omega (arith, same, columns, s.receiver)

  pub count_few : IsSeen ranks table queues free spare mail a b → (ends_at queues a b).count + spare ≤ length table
  count_few s = let c = count_within queues a b (row_within s) (column_within s) in let all = s.is.count in omega (arith, c, all)

  pub length_seen : IsSeen ranks table queues free spare mail a b → (ends_at queues a b).count ≡ length (queue_at mail a b)
  length_seen s =
      let e = ends_at queues a b in
      sym (messages_length table (Some (pair a b)) e.count e.first (s.is.queue a b).chain) ∙ ap length (sym (seen_queue table queues a b (row_within s) (column_within s)))
      ∙ ap (λ (m : Mail). length (queue_at m a b)) s.shows

  spare_is : IsSeen ranks table queues free spare mail a b → spare ≡ mail.spare
  spare_is s = ap (λ (m : Mail). m.spare) s.shows

  -- there is an unused node where there is room
  pub free_some : IsSeen ranks table queues free spare mail a b → 1 ≤ mail.spare → free ≡ None → ⊥
  free_some s room none = by spare (let same = spare_is s in omega (arith, same, room)) (subst (Chain table None spare) none s.is.unused)
    where
      by : (k : ℕ) → 1 ≤ k → Chain table None k None → ⊥
      by zero some c = omega (arith, some)
      by (suc k) some c = c

  put_from : (i : ℕ) (m : Message) → IsSeen ranks table queues free spare mail a b → free ≡ Some i → Put ranks table (now ranks table queues i a b m) queues (new ranks table queues i a b m) (letter_at table i).next spare a b m
  put_from i m s at = by spare (subst (λ f. IsMail ranks table queues f spare) at s.is)
    where
      by : (k : ℕ) → IsMail ranks table queues (Some i) k → Put ranks table (now ranks table queues i a b m) queues (new ranks table queues i a b m) (letter_at table i).next k a b m
      by zero is = absurd (some_none i is.unused)
      by (suc k) is = put_is ranks table queues i a b m k is (row_within s) (column_within s)

  pub free_within : (i : ℕ) → IsSeen ranks table queues free spare mail a b → free ≡ Some i → i < length table
  free_within i s at = by spare (subst (Chain table None spare) at s.is.unused)
    where
      by : (k : ℕ) → Chain table None k (Some i) → i < length table
      by zero c = absurd (some_none i c)
      by (suc k) c = c.0

  pub put_closes : (i : ℕ) (m : Message) (old last : Ends) (t1 t2 : List Letter) (q2 : List (List Ends)) (next : Option ℕ) → IsSeen ranks table queues free spare mail a b → free ≡ Some i
      → old ≡ ends_at queues a b → t1 ≡ slice_set table i (full (pair a b) m) → t2 ≡ tied old.last i t1 → last ≡ longer old i → q2 ≡ with_ends a b last queues → next ≡ (letter_at table i).next
      → IsMail ranks t2 q2 next (spare - 1) × (seen ranks t2 q2 (spare - 1) ≡ with_message a b m mail)
  put_closes i m old last t1 t2 q2 next s at old_is t1_is t2_is last_is q2_is next_is =
      let p = put_from i m s at in
      let table_is : t2 ≡ now ranks table queues i a b m = t2_is ∙ ap (λ (e : Ends). tied e.last i t1) old_is ∙ ap (tied (ends_at queues a b).last i) t1_is in
      let queues_is : q2 ≡ new ranks table queues i a b m = q2_is ∙ ap (λ l. with_ends a b l queues) (last_is ∙ ap (λ e. longer e i) old_is) in (
        subst (λ t. IsMail ranks t q2 next (spare - 1)) (sym table_is) (subst (λ q. IsMail ranks (now ranks table queues i a b m) q next (spare - 1)) (sym queues_is)
            (subst (λ n. IsMail ranks (now ranks table queues i a b m) (new ranks table queues i a b m) n (spare - 1)) (sym next_is) p.is)),
        ap (λ t. seen ranks t q2 (spare - 1)) table_is ∙ ap (λ q. seen ranks (now ranks table queues i a b m) q (spare - 1)) queues_is ∙ p.shows ∙ ap (with_message a b m) s.shows,
      )

  pub take_closes : (i : ℕ) (old last : Ends) (t2 : List Letter) (q2 : List (List Ends)) (next : Option ℕ) → IsSeen ranks table queues free spare mail a b
      → old ≡ ends_at queues a b → old.first ≡ Some i → t2 ≡ slice_set table i (unused free) → next ≡ (letter_at table i).next → last ≡ shorter old next → q2 ≡ with_ends a b last queues
      → IsMail ranks t2 q2 (Some i) (spare + 1) × ((seen ranks t2 q2 (spare + 1) ≡ without_front (queue_at mail a b) a b mail) × (slice_get (queue_at mail a b) 0 ≡ Some (letter_at table i).message))
  take_closes i old last t2 q2 next s old_is first_is t2_is next_is last_is q2_is =
      let t = take_is ranks table queues i a b spare free s.is (ap (λ (e : Ends). e.first) (sym old_is) ∙ first_is) (row_within s) (column_within s) in
      let queues_is : q2 ≡ new2 ranks table queues i a b spare free = q2_is ∙ ap (λ l. with_ends a b l queues) (last_is ∙ ap (λ e. shorter e next) old_is ∙ ap (shorter (ends_at queues a b)) next_is) in
      let more : spare + 1 ≡ suc spare = omega arith in (
        subst (λ k. IsMail ranks t2 q2 (Some i) k) (sym more) (subst (λ x. IsMail ranks x q2 (Some i) (suc spare)) (sym t2_is) (subst (λ q. IsMail ranks (now2 ranks table queues i a b spare free) q (Some i) (suc spare)) (sym queues_is) t.is)),
        (
          ap (seen ranks t2 q2) more ∙ ap (λ x. seen ranks x q2 (suc spare)) t2_is ∙ ap (λ q. seen ranks (now2 ranks table queues i a b spare free) q (suc spare)) queues_is
              ∙ t.shows ∙ ap (λ m. without_front (queue_at m a b) a b m) s.shows,
          ap (λ m. slice_get (queue_at m a b) 0) (sym s.shows) ∙ t.front,
        ),
      )

  pub take_within : (i : ℕ) (old : Ends) → IsSeen ranks table queues free spare mail a b → old ≡ ends_at queues a b → old.first ≡ Some i → (i < length table) × (1 ≤ old.count)
  take_within i old s old_is first_is =
      let f = front_is ranks table queues i a b spare free s.is (ap (λ (e : Ends). e.first) (sym old_is) ∙ first_is) in
      (f.inside, subst (λ (e : Ends). 1 ≤ e.count) (sym old_is) f.some)

  pub none_taken : (old : Ends) → IsSeen ranks table queues free spare mail a b → old ≡ ends_at queues a b → old.first ≡ None → queue_at mail a b ≡ []
  none_taken old s old_is none =
      ap (λ (m : Mail). queue_at m a b) (sym s.shows) ∙ take_none ranks table queues a b spare (row_within s) (column_within s) (ap (λ (e : Ends). e.first) (sym old_is) ∙ none)

  pub last_within : (i : ℕ) (x : Letter) (old : Ends) (t1 : List Letter) → IsSeen ranks table queues free spare mail a b → old ≡ ends_at queues a b → t1 ≡ slice_set table i x → IfSome old.last (λ l. l < length t1)
  last_within i x old t1 s old_is t1_is =
      subst (λ (e : Ends). IfSome e.last (λ l. l < length t1)) (sym old_is)
      (subst (λ n. IfSome (ends_at queues a b).last (λ l. l < n)) (sym (ap length t1_is ∙ length-set table i x)) (last_inside table (pair a b) (ends_at queues a b) (s.is.queue a b)))

pub none_by : (o : Option ℕ) → ((x : ℕ) → o ≡ Some x → ⊥) → o ≡ None
none_by None others = refl
none_by (Some x) others = absurd (others x refl)
