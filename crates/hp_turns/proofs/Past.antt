-- Once a rank is to trap where the lockstep traps, the others come no further than to the take of its next message: none unpacks
-- again, and rank 0 writes nothing.
use Rattle.std.proofs.Common.{◌≡◌, ◌≢◌, ◌∙◌, refl, sym, subst, ap, arith, ℕ, zero, suc, ◌<◌, ◌≤◌, List, [], ◌++◌, append_assoc, append-nil, set, cond, eqb, true, false, Bool, Result, ◌⊎◌, inl, inr}
use Rattle.std.proofs.lemmas.Bool.{false≢true}
use Rattle.std.proofs.lemmas.List.Elements.{All-append}
use Rattle.hp_word.specs.declared.place.Trap.{Trap}
use Rattle.hp_word.specs.declared.table.Message.{Message}
use Rattle.hp_word.specs.declared.table.Tables.{Tables}
use Rattle.hp_network.specs.Network as network
use Rattle.hp_network.specs.Network.{Room}
use Rattle.hp_network.proofs.Ends.{KeepsPast}
use Rattle.hp_spmd.specs.declared.code.Code.{Code}
use Rattle.hp_spmd.specs.declared.instr.Packing.{Packing}
use Rattle.hp_spmd.specs.declared.instr.Packing.TheVariants.{Gather}
use Rattle.hp_spmd.specs.declared.store.Store.{Store}
use Rattle.hp_spmd.specs.Act.{act_by, of_next, first_only, after_post, after_take}
use Rattle.hp_spmd.specs.Act as act
use Rattle.hp_spmd.specs.Exchanges.{Phase, Outside, Posted, Taken, RootPosted, RootTaken, HasForm, wants, packs}
use Rattle.hp_spmd.specs.Kinds.{Kind, Computes, Jumps, Packs, Posts, Takes, PostsRoot, TakesRoot, Unpacks, Writes, Halts}
use Rattle.hp_spmd.specs.Local.{alone, computed, jumped, pack_done, next_place}
use Rattle.hp_spmd.specs.Next.{Next, Goes, Traps, moved, lifted}
use Rattle.hp_spmd.specs.Spread.{IsPlaced}
use Rattle.hp_spmd.specs.Exchange.{packed, written}
use Rattle.hp_spmd.specs.Store.{Data, data_of, instr_at, no_message}
use Rattle.hp_spmd.proofs.Executed.{RaisesTo, computed_raises}
use Rattle.hp_spmd.proofs.LockActs.{take_more}
use Rattle.hp_spmd.proofs.LockFrame as Kept
use Rattle.hp_spmd.proofs.LockFrame.{alone_keeps}
use Rattle.hp_turns.specs.Apart.{LogGrows, KeepsBy}
use Rattle.hp_turns.specs.Turns.{machine, of_act}
use Rattle.hp_turns.proofs.Acts.{kind_at, next_at, act_is, next_phase, jumped_phase}

-- how far a rank has come without a message from rank t
abbrev pub Fine : (t r : ℕ) → Kind → Store → Type 0
Fine t r Computes x = Unit {0}
Fine t r (Jumps target unless) x = Unit {0}
Fine t r (Packs what) x = Unit {0}
Fine t r Posts x = x.got ≡ 0
Fine t r Takes x = x.got ≤ t
Fine t r PostsRoot x = x.got ≡ 0
Fine t r TakesRoot x = x.got ≤ t
Fine t r (Unpacks what) x = ⊥
Fine t r (Writes output) x = r ≢ 0
Fine t r Halts x = Unit {0}

-- What is known of rank r then, beside a rank that it was: it goes on from it, or it is to trap as well.
pub record Onward (code : Code) (n t r : ℕ) (was x : Store) : Type 0 where
  pub number_is : x.number ≡ r
  pub placed : IsPlaced code n x
  pub logs : LogGrows was x
  pub executed : was.executed ≤ x.executed
  pub fine : Fine t r (kind_at code x.position) x

is_outside : Phase → Bool
is_outside Outside = true
is_outside _ = false

is_root_taken : Phase → Bool
is_root_taken RootTaken = true
is_root_taken _ = false

-- before the messages are taken
is_early : Phase → Bool
is_early Taken = false
is_early RootTaken = false
is_early _ = true

-- where the rank stands does not matter outside of exchanges
fine_outside : (t r : ℕ) (k : Kind) (x : Store) → is_outside (wants k) ≡ true → Fine t r k x
unfolding is_outside
fine_outside t r Computes x e = tt
fine_outside t r (Jumps target unless) x e = tt
fine_outside t r (Packs what) x e = tt
fine_outside t r Halts x e = tt
fine_outside t r _ x e = absurd (false≢true e)

fine_early : (t r : ℕ) (k : Kind) (x : Store) → x.got ≡ 0 → is_early (wants k) ≡ true → Fine t r k x
unfolding is_early
fine_early t r Computes x z e = tt
fine_early t r (Jumps target unless) x z e = tt
fine_early t r (Packs what) x z e = tt
fine_early t r Posts x z e = z
fine_early t r Takes x z e = omega (arith, z)
fine_early t r PostsRoot x z e = z
fine_early t r TakesRoot x z e = omega (arith, z)
fine_early t r Halts x z e = tt
fine_early t r _ x z e = absurd (false≢true e)

fine_written : (t r : ℕ) (k : Kind) (x : Store) → r ≢ 0 → is_root_taken (wants k) ≡ true → Fine t r k x
unfolding is_root_taken
fine_written t r (Writes output) x ne e = ne
fine_written t r _ x ne e = absurd (false≢true e)

packs_early : (what : Packing) → is_early (packs what) ≡ true
unfolding is_early
packs_early (Gather output) = refl
packs_early _ = refl

outside_true : is_outside Outside ≡ true
unfolding is_outside
outside_true = refl

posted_early : is_early Posted ≡ true
unfolding is_early
posted_early = refl

root_posted_early : is_early RootPosted ≡ true
unfolding is_early
root_posted_early = refl

root_taken_true : is_root_taken RootTaken ≡ true
unfolding is_root_taken
root_taken_true = refl

-- ---- logs

pub log_same : (x y : Store) → y.log ≡ x.log → LogGrows x y
log_same x y e = record { rest = []; log = ap (λ l. l.list) e ∙ sym (append-nil x.log.list); later = λ k d lt. absurd (omega (arith, lt)) }

pub log_trans : (x y z : Store) → x.executed ≤ y.executed → LogGrows x y → LogGrows y z → LogGrows x z
log_trans x y z le p q =
    record {
      rest = p.rest ++ q.rest;
      log = q.log ∙ ap (λ l. l ++ q.rest) p.log ∙ append_assoc x.log.list p.rest q.rest;
      later = All-append (λ o. x.executed < o.number) p.rest q.rest p.later (λ k d lt. let h = q.later k d lt in omega (arith, h, le));
    }

-- ---- what ranks do then

-- a rank that is to trap as well
pub record TripsToo (code : Code) (tables : Tables) (room : Room) (n : ℕ) (was x : Store) : Type 0 where
  pub trap : Trap
  pub trips : (machine code tables room).act x ≡ network.Trips trap
  pub placed : IsPlaced code n x
  pub logs : LogGrows was x

abbrev pub PastOf : Code → Tables → Room → (n t : ℕ) → (ℕ → Store) → ℕ → Store → Type 0
PastOf code tables room n t was r x = Onward code n t r (was r) x ⊎ TripsToo code tables room n (was r) x

computes_halts : Computes ≡ Halts → ⊥
computes_halts e = cc

posts_halts : Posts ≡ Halts → ⊥
posts_halts e = cc

posts_root_halts : PostsRoot ≡ Halts → ⊥
posts_root_halts e = cc

takes_root_halts : TakesRoot ≡ Halts → ⊥
takes_root_halts e = cc

packs_halts : (what : Packing) → Packs what ≡ Halts → ⊥
packs_halts what e = cc

writes_halts : (output : _) → Writes output ≡ Halts → ⊥
writes_halts output e = cc

-- a rank whose log is the same
same_log : (code : Code) (tables : Tables) (room : Room) (n t : ℕ) (was : ℕ → Store) (r : ℕ) (x y : Store) → Onward code n t r (was r) x → y.number ≡ x.number → IsPlaced code n y → y.log ≡ x.log → y.executed ≡ x.executed → Fine t r (kind_at code y.position) y → PastOf code tables room n t was r y
same_log code tables room n t was r x y h number placed log executed fine =
    inl (record {
      number_is = number ∙ h.number_is;
      placed = placed;
      logs = log_trans (was r) x y h.executed h.logs (log_same x y log);
      executed = let a = h.executed in omega (arith, a, executed);
      fine = fine;
    })

-- placed, whatever the messages and the position
stays_placed : (code : Code) (n : ℕ) (x : Store) (outbox inbox : List Message) (sent got position : ℕ) → IsPlaced code n x → IsPlaced code n (record x { outbox = outbox; inbox = inbox; sent = sent; got = got; position = position })
stays_placed code n x outbox inbox sent got position h = record { ranks_are = h.ranks_are; number_below = h.number_below; shared = h.shared }

moves_placed : (code : Code) (n : ℕ) (x : Store) → IsPlaced code n x → IsPlaced code n (moved x)
moves_placed code n x h = record { ranks_are = h.ranks_are; number_below = h.number_below; shared = h.shared }

module _ (code : Code) (tables : Tables) (room : Room) (n t : ℕ) (was : ℕ → Store) (form : HasForm code.list) (among : t < n) where
  computes_past : (r : ℕ) (x : Store) (next : Next) → Onward code n t r (was r) x → kind_at code x.position ≡ Computes → Kept.Keeps x next → KeepsBy code n x.position Computes x next → KeepsPast (PastOf code tables room n t was) t r (of_act (of_next next))
  computes_past r x (Traps u) h is kept keeps = tt
  computes_past r x (Goes y) h is kept keeps =
      inl (record {
        number_is = kept.same_number ∙ h.number_is;
        placed = keeps.placed;
        logs = log_trans (was r) x y h.executed h.logs keeps.logs;
        executed = let a = h.executed in let b = keeps.executed in omega (arith, a, b);
        fine = fine_outside t r (kind_at code y.position) y (ap (λ p. is_outside (wants (kind_at code p))) kept.is_there ∙ ap is_outside (next_phase code x.position Computes form is computes_halts) ∙ outside_true);
      })

  post_past : (r : ℕ) (x : Store) (b : Bool) (outbox : List Message) (sent : ℕ) → Onward code n t r (was r) x → kind_at code x.position ≡ Posts → x.got ≡ 0
      → PastOf code tables room n t was r (cond b (moved (record x { outbox = outbox; sent = 0 })) (record x { outbox = outbox; sent = sent }))
  post_past r x true outbox sent h is none =
      let y = moved (record x { outbox = outbox; sent = 0 }) in
      same_log code tables room n t was r x y h refl (stays_placed code n x outbox x.inbox 0 x.got (suc x.position) h.placed) refl refl
      (fine_early t r (kind_at code (suc x.position)) y none (ap is_early (next_phase code x.position Posts form is posts_halts) ∙ posted_early))
  post_past r x false outbox sent h is none =
      let y = record x { outbox = outbox; sent = sent } in
      same_log code tables room n t was r x y h refl (stays_placed code n x outbox x.inbox sent x.got x.position h.placed) refl refl
      (subst (λ k. Fine t r k y) (sym is) none)

  take_past : (r : ℕ) (x : Store) (k : Kind) → Onward code n t r (was r) x → kind_at code x.position ≡ k → x.got ≤ t → ((y : Store) → y.got ≤ t → Fine t r k y) → x.got ≢ t → (m : Message) → PastOf code tables room n t was r (after_take x m)
  take_past r x k h is le fine ne m =
      let inbox = set x.inbox x.got m in
      let y : Store = record x { inbox = inbox; got = suc x.got } in
      let more : after_take x m ≡ y = take_more x m (λ e. let a = h.placed.ranks_are in omega (arith, e, a, le, ne, among)) in
      subst (PastOf code tables room n t was r) (sym more)
      (same_log code tables room n t was r x y h refl (stays_placed code n x x.outbox inbox x.sent (suc x.got) x.position h.placed) refl refl
      (subst (λ j. Fine t r j y) (sym is) (fine y (omega (arith, le, ne)))))

  move_past : (r : ℕ) (x : Store) → Onward code n t r (was r) x → Fine t r (kind_at code (suc x.position)) (moved x) → PastOf code tables room n t was r (moved x)
  move_past r x h fine = same_log code tables room n t was r x (moved x) h refl (moves_placed code n x h.placed) refl refl fine

  root_past : (r number : ℕ) (x : Store) → number ≡ r → Onward code n t r (was r) x → kind_at code x.position ≡ TakesRoot → x.got ≤ t → KeepsPast (PastOf code tables room n t was) t r (of_act (first_only number (act.Gets x.got (after_take x)) x))
  root_past r zero x e h is le = λ ne. take_past r x TakesRoot h is le (λ y g. g) ne
  root_past r (suc k) x e h is le =
      move_past r x h (fine_written t r (kind_at code (suc x.position)) (moved x) (λ z. let q : suc k ≡ r = e in omega (arith, q, z)) (ap is_root_taken (next_phase code x.position TakesRoot form is takes_root_halts) ∙ root_taken_true))

  write_past : (r number : ℕ) (x : Store) (text : List ℕ) (output : _) → number ≡ r → Onward code n t r (was r) x → kind_at code x.position ≡ Writes output → r ≢ 0 → KeepsPast (PastOf code tables room n t was) t r (of_act (first_only number (act.Prints text (moved x)) x))
  write_past r zero x text output e h is ne = absurd (ne (sym e))
  write_past r (suc k) x text output e h is ne =
      move_past r x h (fine_outside t r (kind_at code (suc x.position)) (moved x) (ap is_outside (next_phase code x.position (Writes output) form is (writes_halts output)) ∙ outside_true))

  kind_past : (r : ℕ) (x : Store) (k : Kind) (f : Data → Result Data Trap) → RaisesTo x.executed (f (data_of x)) → Onward code n t r (was r) x → kind_at code x.position ≡ k → Fine t r k x → KeepsBy code n x.position k x (alone code.arrays k f x) → KeepsPast (PastOf code tables room n t was) t r (of_act (act_by k (alone code.arrays k f x) x))
  unfolding jumped pack_done
  kind_past r x Computes f raises h is fine keeps = computes_past r x (lifted (f (data_of x)) x) h is (alone_keeps code.arrays Computes f x tt raises) keeps
  kind_past r x (Jumps target unless) f raises h is fine keeps =
      let q = next_place target unless x.words x.position in
      let y : Store = record x { position = q } in
      same_log code tables room n t was r x y h refl (stays_placed code n x x.outbox x.inbox x.sent x.got q h.placed) refl refl
      (fine_outside t r (kind_at code q) y (ap is_outside (jumped_phase code x.position target unless x.words form is) ∙ outside_true))
  kind_past r x (Packs what) f raises h is fine keeps =
      let outbox = packed code.arrays what x.number x.ranks (data_of x) in
      let y : Store = moved (record x { outbox = outbox; sent = 0; got = 0 }) in
      same_log code tables room n t was r x y h refl (stays_placed code n x outbox x.inbox 0 0 (suc x.position) h.placed) refl refl
      (fine_early t r (kind_at code (suc x.position)) y refl (ap is_early (next_phase code x.position (Packs what) form is (packs_halts what)) ∙ packs_early what))
  kind_past r x Posts f raises h is fine keeps = post_past r x (eqb (suc x.sent) x.ranks) (set x.outbox x.sent no_message) (suc x.sent) h is fine
  kind_past r x Takes f raises h is fine keeps = λ ne. take_past r x Takes h is fine (λ y g. g) ne
  kind_past r x PostsRoot f raises h is fine keeps =
      let outbox = set x.outbox 0 no_message in
      let y : Store = moved (record x { outbox = outbox }) in
      same_log code tables room n t was r x y h refl (stays_placed code n x outbox x.inbox x.sent x.got (suc x.position) h.placed) refl refl
      (fine_early t r (kind_at code (suc x.position)) y fine (ap is_early (next_phase code x.position PostsRoot form is posts_root_halts) ∙ root_posted_early))
  kind_past r x TakesRoot f raises h is fine keeps = root_past r x.number x h.number_is h is fine
  kind_past r x (Unpacks what) f raises h is fine keeps = absurd fine
  kind_past r x (Writes output) f raises h is fine keeps = write_past r x.number x (written output x.inbox) output h.number_is h is fine
  kind_past r x Halts f raises h is fine keeps = tt

  -- what is known of a rank is kept by what it does
  pub past_keeps : ((place : ℕ) (x : Store) → IsPlaced code n x → KeepsBy code n place (kind_at code place) x (next_at code tables place x)) → (r : ℕ) (x : Store) → PastOf code tables room n t was r x → KeepsPast (PastOf code tables room n t was) t r ((machine code tables room).act x)
  past_keeps keeps r x (inl h) =
      let p = x.position in
      subst (KeepsPast (PastOf code tables room n t was) t r) (sym (act_is code tables room x p (kind_at code p) refl refl))
      (kind_past r x (kind_at code p) (computed code.arrays tables x.number x.ranks (instr_at code.list p)) (computed_raises code.arrays tables x.number x.ranks (instr_at code.list p) (data_of x)) h refl h.fine (keeps p x h.placed))
  past_keeps keeps r x (inr h) = subst (KeepsPast (PastOf code tables room n t was) t r) (sym h.trips) tt
