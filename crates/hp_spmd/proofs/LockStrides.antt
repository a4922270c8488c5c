-- A run by whole exchanges is a run by instructions.
use Rattle.std.proofs.Common.{◌≡◌, ◌∙◌, refl, sym, subst, ap, arith, ℕ, zero, suc, ◌≤◌, List, [], ◌∷◌, length, map}
use Rattle.std.specs.List.{AllZip, range_with_len}
use Rattle.hp_word.specs.declared.table.Tables.{Tables}
use Rattle.hp_spmd.specs.declared.code.Code.{Code}
use Rattle.hp_spmd.specs.declared.instr.Packing.{Packing}
use Rattle.hp_spmd.specs.declared.store.Store.{Store}
use Rattle.hp_spmd.specs.Exchanges.{HasForm}
use Rattle.hp_spmd.specs.Kinds.{Kind, Packs, Posts, Takes, PostsRoot, TakesRoot, kind_of}
use Rattle.hp_spmd.specs.Laws.{IsRun}
use Rattle.hp_spmd.specs.Local.{local_next}
use Rattle.hp_spmd.specs.Lockstep.{State, state, Step, Ends, Trips, Steps, at_limit, go_on, run_by, step, step_by, stride, stride_by, then_step, position_of, first_state}
use Rattle.hp_spmd.specs.Next.{Next}
use Rattle.hp_spmd.specs.Store.{instr_at, first_store}
use Rattle.hp_spmd.proofs.Forms.{IsPost, IsTake, exchange_at}
use Rattle.hp_spmd.proofs.LockFrame.{AreAt, Kept, KeepsAll, place_after, step_keeps, together_at}
use Rattle.hp_spmd.proofs.LockLoop.{first_together}

-- ranks, at least one, that are at one place
pub record IsTied (s : State) : Type 0 where
  pub some : 1 ≤ length s.ranks
  pub at : AreAt (position_of s.ranks) s.ranks

kept_at : (place : ℕ) (xs ys : List Store) → AllZip (Kept place) xs ys → AreAt place ys
kept_at place [] [] h = tt
kept_at place [] (y ∷ ys) h = absurd h
kept_at place (x ∷ xs) [] h = absurd h
kept_at place (x ∷ xs) (y ∷ ys) h = (h.0.is_there, kept_at place xs ys h.1)

-- the ranks of the next state are at the next place
record TiedAt (place : ℕ) (s : State) : Type 0 where
  tied : IsTied s
  there : position_of s.ranks ≡ place

tied_at : (place : ℕ) (xs ys : List Store) (out : List ℕ) → 1 ≤ length xs → AllZip (Kept place) xs ys → TiedAt place (state ys out)
tied_at place [] ys out some h = absurd (omega (arith, some))
tied_at place (x ∷ xs) [] out some h = absurd h
tied_at place (x ∷ xs) (y ∷ ys) out some h =
    let first : 1 ≤ length (y ∷ ys) = omega arith in
    record {
      tied = record { some = first; at = subst (λ p. AreAt p (y ∷ ys)) (sym h.0.is_there) (kept_at place (x ∷ xs) (y ∷ ys) h) };
      there = h.0.is_there;
    }

next_tied : (code : Code) (tables : Tables) (s s2 : State) → IsTied s → step code tables s ≡ Steps s2 → TiedAt (place_after (kind_of (instr_at code.list (position_of s.ranks))) s.ranks) s2
next_tied code tables s s2 tied e =
    let place = place_after (kind_of (instr_at code.list (position_of s.ranks))) s.ranks in
    tied_at place s.ranks s2.ranks s2.out tied.some (subst (KeepsAll place s.ranks) e (step_keeps code tables s tied.at))

-- ---- one stride

-- a stride is one instruction, or three that all go on
data IsStride (code : Code) (tables : Tables) (s : State) : Type 0 where
  one : stride code tables s ≡ step code tables s → IsStride code tables s
  three : (s1 s2 s3 : State) → step code tables s ≡ Steps s1 → step code tables s1 ≡ Steps s2 → step code tables s2 ≡ Steps s3 → stride code tables s ≡ Steps s3 → IsTied s3 → IsStride code tables s

-- the step of a Post, or of a Take, goes on
record GoesOn (t : Step) : Type 0 where
  next : State
  is : t ≡ Steps next

post_goes : (k : Kind) (f : Store → Next) (s : State) → IsPost k → GoesOn (step_by k f s)
post_goes Posts f s h = record { next = _; is = refl }
post_goes PostsRoot f s h = record { next = _; is = refl }
post_goes _ f s h = absurd h

take_goes : (k : Kind) (f : Store → Next) (s : State) → IsTake k → GoesOn (step_by k f s)
take_goes Takes f s h = record { next = _; is = refl }
take_goes TakesRoot f s h = record { next = _; is = refl }
take_goes _ f s h = absurd h

post_place : (k : Kind) (xs : List Store) → IsPost k → place_after k xs ≡ suc (position_of xs)
post_place Posts xs h = refl
post_place PostsRoot xs h = refl
post_place _ xs h = absurd h

packed_stride : (code : Code) (tables : Tables) (s : State) (what : Packing) → HasForm code.list → IsTied s → kind_of (instr_at code.list (position_of s.ranks)) ≡ Packs what
    → stride code tables s ≡ then_step (then_step (step code tables s) (step code tables)) (step code tables) → (t : Step) → step code tables s ≡ t → IsStride code tables s
unfolding step
packed_stride code tables s what form tied is strides Ends e = one (strides ∙ ap (λ u. then_step (then_step u (step code tables)) (step code tables)) e ∙ sym e)
packed_stride code tables s what form tied is strides (Trips t) e = one (strides ∙ ap (λ u. then_step (then_step u (step code tables)) (step code tables)) e ∙ sym e)
packed_stride code tables s what form tied is strides (Steps s1) e =
    let p = position_of s.ranks in
    let exchange = exchange_at code.list form p what is in
    let at1 = next_tied code tables s s1 tied e in
    let p1 : position_of s1.ranks ≡ suc p = at1.there ∙ ap (λ k. place_after k s.ranks) is in
    let k1 = kind_of (instr_at code.list (position_of s1.ranks)) in
    let post : IsPost k1 = subst (λ q. IsPost (kind_of (instr_at code.list q))) (sym p1) exchange.posts in
    let go1 = post_goes k1 (local_next code.arrays tables (instr_at code.list (position_of s1.ranks))) s1 post in
    let s2 = go1.next in
    let at2 = next_tied code tables s1 s2 at1.tied go1.is in
    let p2 : position_of s2.ranks ≡ suc (suc p) = at2.there ∙ post_place k1 s1.ranks post ∙ ap suc p1 in
    let k2 = kind_of (instr_at code.list (position_of s2.ranks)) in
    let take : IsTake k2 = subst (λ q. IsTake (kind_of (instr_at code.list q))) (sym p2) exchange.takes in
    let go2 = take_goes k2 (local_next code.arrays tables (instr_at code.list (position_of s2.ranks))) s2 take in
    let s3 = go2.next in
    let at3 = next_tied code tables s2 s3 at2.tied go2.is in
    three s1 s2 s3 e go1.is go2.is
    (strides
    ∙ ap (λ u. then_step (then_step u (step code tables)) (step code tables)) e
    ∙ ap (λ u. then_step u (step code tables)) go1.is
    ∙ go2.is)
    at3.tied

by_kind : (code : Code) (tables : Tables) (s : State) (k : Kind) → HasForm code.list → IsTied s → kind_of (instr_at code.list (position_of s.ranks)) ≡ k → stride code tables s ≡ stride_by k (step code tables) s → IsStride code tables s
by_kind code tables s (Packs what) form tied is e = packed_stride code tables s what form tied is e (step code tables s) refl
by_kind code tables s _ form tied is e = one e

stride_is : (code : Code) (tables : Tables) (s : State) → HasForm code.list → IsTied s → IsStride code tables s
unfolding stride
stride_is code tables s form tied = by_kind code tables s (kind_of (instr_at code.list (position_of s.ranks))) form tied refl refl

-- ---- runs

limit_same : (code : Code) (tables : Tables) (s : State) → IsStride code tables s → run_by (stride code tables) 0 s ≡ run_by (step code tables) 0 s
unfolding run_by
limit_same code tables s (one e) = ap (λ t. at_limit t s) e
limit_same code tables s (three s1 s2 s3 e1 e2 e3 e tied) = ap (λ t. at_limit t s) e ∙ sym (ap (λ t. at_limit t s) e1)

one_on : (code : Code) (tables : Tables) (k : ℕ) (s : State) (t : Step) → step code tables s ≡ t → stride code tables s ≡ t → ((s2 : State) → t ≡ Steps s2 → IsRun code tables k s2) → IsRun code tables (suc k) s
unfolding run_by
one_on code tables k s Ends e e2 more = record { count = suc k; least = omega arith; most = omega arith; same = ap (λ t. go_on t s (run_by (stride code tables) k)) e2 ∙ sym (ap (λ t. go_on t s (run_by (step code tables) k)) e) }
one_on code tables k s (Trips u) e e2 more = record { count = suc k; least = omega arith; most = omega arith; same = ap (λ t. go_on t s (run_by (stride code tables) k)) e2 ∙ sym (ap (λ t. go_on t s (run_by (step code tables) k)) e) }
one_on code tables k s (Steps s2) e e2 more =
    let rest = more s2 refl in
    record {
      count = suc rest.count;
      least = omega (arith, rest.least);
      most = omega (arith, rest.most);
      same = ap (λ t. go_on t s (run_by (stride code tables) k)) e2 ∙ rest.same ∙ sym (ap (λ t. go_on t s (run_by (step code tables) rest.count)) e);
    }

three_on : (code : Code) (tables : Tables) (k : ℕ) (s s1 s2 s3 : State) → step code tables s ≡ Steps s1 → step code tables s1 ≡ Steps s2 → step code tables s2 ≡ Steps s3 → stride code tables s ≡ Steps s3 → IsRun code tables k s3 → IsRun code tables (suc k) s
unfolding run_by
three_on code tables k s s1 s2 s3 e1 e2 e3 e rest =
    let m = rest.count in
    record {
      count = suc (suc (suc m));
      least = omega (arith, rest.least);
      most = omega (arith, rest.most);
      same =
          ap (λ t. go_on t s (run_by (stride code tables) k)) e ∙ rest.same
          ∙ sym (ap (λ t. go_on t s2 (run_by (step code tables) m)) e3)
          ∙ sym (ap (λ t. go_on t s1 (run_by (step code tables) (suc m))) e2)
          ∙ sym (ap (λ t. go_on t s (run_by (step code tables) (suc (suc m)))) e1);
    }

pub strides_run : (code : Code) (tables : Tables) → HasForm code.list → (k : ℕ) (s : State) → IsTied s → IsRun code tables k s
strides_run code tables form zero s tied = record { count = 0; least = omega arith; most = omega arith; same = limit_same code tables s (stride_is code tables s form tied) }
strides_run code tables form (suc k) s tied = on (stride_is code tables s form tied) (λ s2 h. strides_run code tables form k s2 h)
  where
    on : IsStride code tables s → ((s2 : State) → IsTied s2 → IsRun code tables k s2) → IsRun code tables (suc k) s
    on (one e) more = one_on code tables k s (step code tables s) refl e (λ s2 is. more s2 (next_tied code tables s s2 tied is).tied)
    on (three s1 s2 s3 e1 e2 e3 e tied3) more = three_on code tables k s s1 s2 s3 e1 e2 e3 e (more s3 tied3)

-- from the first state on
pub exchanges_run : (code : Code) (tables : Tables) (ranks limit : ℕ) → 1 ≤ ranks → HasForm code.list → IsRun code tables limit (first_state code ranks)
unfolding first_state
exchanges_run code tables ranks limit some form =
    let xs = map (λ r. first_store code r ranks) (range_with_len 0 ranks) in
    let first = first_together code ranks xs some refl in
    strides_run code tables form limit (first_state code ranks) (record { some = omega (arith, some, first.1); at = together_at (position_of xs) xs first.0 })
