-- What a change of a table of nodes does to the queues in it.
use Rattle.std.proofs.Common.{◌≡◌, ℕ, zero, suc, ◌+◌, ◌-◌, ◌<◌, ◌≤◌, List, [], ◌∷◌, ◌++◌, length, map, Option, None, Some, refl, sym, ap, ◌∙◌, subst, inl, inr, arith}
use Rattle.std.specs.Prelude.{slice_index_or, slice_set, slice_get, sum_by}
use Rattle.std.proofs.lemmas.List.{get_or-set_same, get_or-set_other, get_or_past, get_or-map, length-set, length-append}
use Rattle.hp_word.specs.declared.table.Message.{Message}
use Rattle.hp_links.specs.declared.mailboxes.Ends.{Ends}
use Rattle.hp_links.specs.declared.mailboxes.Letter.{Letter}
use Rattle.hp_links.specs.declared.mailboxes.Pair.{Pair}
use Rattle.hp_links.specs.Chains.{Chain, letter_at, messages, last_from, unused, full, tied, before, all_unused}

pub some_none : {X : Type 0} (x : X) → Some x ≡ None → ⊥
some_none x e = cc

pub same_some : {X : Type 0} (x y : X) → Some x ≡ Some y → x ≡ y
same_some x y e = cc

-- ---- a list that a change leaves

-- a list of one owner has one count
pub one_count : (table : List Letter) (o : Option Pair) (j k : ℕ) (at : Option ℕ) → Chain table o j at → Chain table o k at → j ≡ k
one_count table o zero zero at c d = refl
one_count table o zero (suc k) None c d = absurd d
one_count table o zero (suc k) (Some i) c d = absurd (some_none i c)
one_count table o (suc j) k None c d = absurd c
one_count table o (suc j) zero (Some i) c d = absurd (some_none i d)
one_count table o (suc j) (suc k) (Some i) c d = ap suc (one_count table o j k (letter_at table i).next c.2 d.2)

pub record Kept (table now : List Letter) (o : Option Pair) (k : ℕ) (at : Option ℕ) : Type 0 where
  pub chain : Chain now o k at
  pub messages : messages now k at ≡ messages table k at
  pub last : (b : Option ℕ) → last_from now k at b ≡ last_from table k at b

-- a list whose nodes are left is left; they are named by how many nodes there are from them on
pub kept : (table now : List Letter) (o : Option Pair) (bound k : ℕ) (at : Option ℕ) → length table ≤ length now → k ≤ bound
    → ((i m : ℕ) → m < bound → Chain table o (suc m) (Some i) → letter_at now i ≡ letter_at table i) → Chain table o k at → Kept table now o k at
kept table now o bound zero at more within same c = record { chain = c; messages = refl; last = λ b. refl }
kept table now o bound (suc k) None more within same c = absurd c
kept table now o bound (suc k) (Some i) more within same c =
    let here : letter_at now i ≡ letter_at table i = same i k (omega (arith, within)) c in
    let rest = kept table now o bound k (letter_at table i).next more (omega (arith, within)) same c.2 in
    record {
      chain = (omega (arith, c.0, more), ap (λ (n : Letter). n.owner) here ∙ c.1, subst (λ (n : Letter). Chain now o k n.next) (sym here) rest.chain);
      messages = subst (λ (n : Letter). n.message ∷ messages now k n.next ≡ (letter_at table i).message ∷ messages table k (letter_at table i).next) (sym here) (ap (λ l. (letter_at table i).message ∷ l) rest.messages);
      last = λ b. subst (λ (n : Letter). last_from now k n.next (Some i) ≡ last_from table k (letter_at table i).next (Some i)) (sym here) (rest.last (Some i));
    }

-- ---- one node more at the end

pub record Grown (table now : List Letter) (p : Pair) (k : ℕ) (at : Option ℕ) (i : ℕ) (m : Message) : Type 0 where
  pub chain : Chain now (Some p) (suc k) at
  pub messages : messages now (suc k) at ≡ messages table k at ++ m ∷ []
  pub last : (b : Option ℕ) → last_from now (suc k) at b ≡ Some i

-- the last node of a list is tied to a new one
pub grown : (table now : List Letter) (p : Pair) (i l : ℕ) (m : Message) (k : ℕ) (at b : Option ℕ) → length table ≤ length now → i < length now
    → letter_at now i ≡ full p m → letter_at now l ≡ record (letter_at table l) { next = Some i } → (letter_at table l).next ≡ None
    → ((j : ℕ) → (letter_at table j).owner ≡ Some p → (j ≡ l → ⊥) → letter_at now j ≡ letter_at table j)
    → Chain table (Some p) (suc k) at → last_from table (suc k) at b ≡ Some l → Grown table now p (suc k) at i m
grown table now p i l m k None b more inside new last end same c e = absurd c
grown table now p i l m zero (Some j) b more inside new last end same c e = subst (λ x. Grown table now p 1 (Some x) i m) (sym (same_some j l e)) at_last
  where
    last_owner : (letter_at table l).owner ≡ Some p
    last_owner = subst (λ x. (letter_at table x).owner ≡ Some p) (same_some j l e) c.1

    last_inside : l < length now
    last_inside = let s = same_some j l e in omega (arith, s, c.0, more)

    one : Chain now (Some p) 1 (Some i)
    one = (inside, ap (λ (n : Letter). n.owner) new, ap (λ (n : Letter). n.next) new)

    at_last : Grown table now p 1 (Some l) i m
    at_last =
        record {
          chain = (last_inside, ap (λ (n : Letter). n.owner) last ∙ last_owner, subst (λ (n : Letter). Chain now (Some p) 1 n.next) (sym last) one);
          messages = subst (λ (n : Letter). n.message ∷ messages now 1 n.next ≡ (letter_at table l).message ∷ m ∷ []) (sym last) (ap (λ (n : Letter). (letter_at table l).message ∷ n.message ∷ []) new);
          last = λ b2. subst (λ (n : Letter). last_from now 1 n.next (Some l) ≡ Some i) (sym last) refl;
        }
grown table now p i l m (suc k) (Some j) b more inside new last end same c e =
    let here : letter_at now j ≡ letter_at table j =
    same j c.1 (λ s. subst (Chain table (Some p) (suc k)) (ap (λ x. (letter_at table x).next) s ∙ end) c.2) in
    let rest = grown table now p i l m k (letter_at table j).next (Some j) more inside new last end same c.2 e in
    record {
      chain = (omega (arith, c.0, more), ap (λ (n : Letter). n.owner) here ∙ c.1, subst (λ (n : Letter). Chain now (Some p) (suc (suc k)) n.next) (sym here) rest.chain);
      messages = subst (λ (n : Letter). n.message ∷ messages now (suc (suc k)) n.next ≡ (letter_at table j).message ∷ messages table (suc k) (letter_at table j).next ++ m ∷ []) (sym here) (ap (λ x. (letter_at table j).message ∷ x) rest.messages);
      last = λ b2. subst (λ (n : Letter). last_from now (suc (suc k)) n.next (Some j) ≡ Some i) (sym here) (rest.last (Some j));
    }

pub record IsLast (table : List Letter) (p : Pair) (l : ℕ) : Type 0 where
  pub inside : l < length table
  pub owner : (letter_at table l).owner ≡ Some p
  pub end : (letter_at table l).next ≡ None

-- the last node of a list has no next one
pub last_is : (table : List Letter) (p : Pair) (l k : ℕ) (at b : Option ℕ) → Chain table (Some p) (suc k) at → last_from table (suc k) at b ≡ Some l → IsLast table p l
last_is table p l k None b c e = absurd c
last_is table p l zero (Some j) b c e = subst (IsLast table p) (same_some j l e) (record { inside = c.0; owner = c.1; end = c.2 })
last_is table p l (suc k) (Some j) b c e = last_is table p l k (letter_at table j).next (Some j) c.2 e

pub some_last : (table : List Letter) (p : Pair) (k : ℕ) (at b : Option ℕ) → Chain table (Some p) (suc k) at → (l : ℕ) × (last_from table (suc k) at b ≡ Some l)
some_last table p k None b c = absurd c
some_last table p zero (Some j) b c = (j, refl)
some_last table p (suc k) (Some j) b c = some_last table p k (letter_at table j).next (Some j) c.2

pub messages_length : (table : List Letter) (o : Option Pair) (k : ℕ) (at : Option ℕ) → Chain table o k at → length (messages table k at) ≡ k
messages_length table o zero at c = refl
messages_length table o (suc k) None c = absurd c
messages_length table o (suc k) (Some i) c = ap suc (messages_length table o k (letter_at table i).next c.2)

-- ---- unused nodes

pub unused_length : (k : ℕ) → length (all_unused k) ≡ k
unfolding all_unused
unused_length zero = refl
unused_length (suc k) = length-append (all_unused k) (unused (before k) ∷ []) ∙ let h = unused_length k in omega (arith, h)
