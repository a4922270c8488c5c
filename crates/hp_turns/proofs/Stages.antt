-- Each instruction of the lockstep is a stage: each rank does it alone.
use Rattle.std.proofs.Common.{◌≡◌, ◌∙◌, refl, sym, subst, ap, arith, ℕ, zero, suc, ◌<◌, ◌≤◌, List, [], ◌∷◌, length, map, Option, Some, None, slice_get, false, Result, Ok, Err}
use Rattle.std.specs.List.{All}
use Rattle.std.proofs.lemmas.List.{length-map}
use Rattle.hp_word.specs.declared.place.Trap.{Trap}
use Rattle.hp_word.specs.declared.table.Tables.{Tables}
use Rattle.hp_network.specs.Network as network
use Rattle.hp_network.specs.Network.{Room, Machine}
use Rattle.hp_network.proofs.Worlds.{Entry, World, does, gone}
use Rattle.hp_network.proofs.Ends.{get_at}
use Rattle.hp_spmd.specs.declared.code.Code.{Code}
use Rattle.hp_spmd.specs.declared.instr.Packing.{Packing}
use Rattle.hp_spmd.specs.declared.store.Store.{Store}
use Rattle.hp_spmd.specs.Act.{act_by, of_next}
use Rattle.hp_spmd.specs.Exchanges.{Phase, Outside, HasForm, wants, leaves}
use Rattle.hp_spmd.specs.Kinds.{Kind, Computes, Jumps, Packs, Posts, Takes, PostsRoot, TakesRoot, Unpacks, Writes, Halts}
use Rattle.hp_spmd.specs.Local.{alone, computed, jumped, pack_done, next_place}
use Rattle.hp_spmd.specs.Lockstep.{State, state, Step, Steps, Trips, Ends, Together, One as OneTrap, with_first, joined_to, together, of_together, delivered, delivered_to_root, root_inbox, text_of, place_of_first, position_of, step, step_by}
use Rattle.hp_spmd.specs.Lockstep as lock
use Rattle.hp_spmd.specs.Exchange.{unpacked}
use Rattle.hp_spmd.specs.Next.{Next, Goes, Traps, moved, at_place, lifted}
use Rattle.hp_spmd.specs.Ranks.{IsTogether}
use Rattle.hp_spmd.specs.Spread.{IsPlaced}
use Rattle.hp_spmd.specs.Store.{Data, data_of, instr_at}
use Rattle.hp_spmd.proofs.LockFrame.{alone_keeps}
use Rattle.hp_turns.specs.Apart.{price}
use Rattle.hp_turns.specs.Turns.{machine, of_act}
use Rattle.hp_turns.proofs.Acts.{kind_at, next_at, act_is, next_phase, jumped_phase}
use Rattle.hp_turns.proofs.Alone.{does_is, alone_one}
use Rattle.hp_turns.proofs.Tied.{expects, IsAt, Plain, MailTo, At, plain_at, Led, Done, led_by}

-- ---- lists of ranks

some_same : {A : Type 0} (x y : A) → Some x ≡ Some y → x ≡ y
some_same x y p = cc

pub get_map : {A B : Type 0} (f : A → B) (xs : List A) (k : ℕ) (x : A) → slice_get xs k ≡ Some x → slice_get (map f xs) k ≡ Some (f x)
get_map f [] k x q = absurd (differ q)
  where
    differ : None ≡ Some x → ⊥
    differ p = cc
get_map f (y ∷ ys) zero x q = ap (λ z. Some (f z)) (some_same y x q)
get_map f (y ∷ ys) (suc k) x q = get_map f ys k x q

pub record Went (f : Store → Next) (x : Store) (ys : List Store) (k : ℕ) : Type 0 where
  pub to : Store
  pub listed : slice_get ys k ≡ Some to
  pub goes : f x ≡ Goes to

not_all : {A : Type 0} (t : Trap) (ys : List Store) → OneTrap t ≡ lock.All ys → A
not_all t ys q = absurd (differ q)
  where
    differ : OneTrap t ≡ lock.All ys → ⊥
    differ p = cc

all_same : (xs ys : List Store) → lock.All xs ≡ lock.All ys → xs ≡ ys
all_same xs ys p = cc

-- of ranks that all go on, each does
together_went : (f : Store → Next) (xs ys : List Store) → together f xs ≡ lock.All ys → (k : ℕ) (x : Store) → slice_get xs k ≡ Some x → Went f x ys k
together_went f [] ys q k x g = absurd (differ g)
  where
    differ : None ≡ Some x → ⊥
    differ p = cc
together_went f (z ∷ xs) ys q k x g = by (f z) refl (together f xs) refl q k g (λ rest p j h. together_went f xs rest p j x h)
  where
    by : (next : Next) → f z ≡ next → (t : Together) → together f xs ≡ t → joined_to next t ≡ lock.All ys → (k : ℕ) → slice_get (z ∷ xs) k ≡ Some x → ((rest : List Store) → together f xs ≡ lock.All rest → (j : ℕ) → slice_get xs j ≡ Some x → Went f x rest j) → Went f x ys k
    by (Traps u) e t p h k g more = not_all u ys h
    by (Goes y) e (OneTrap u) p h k g more = not_all u ys h
    by (Goes y) e (lock.All rest) p h zero g more =
        record { to = y; listed = ap (λ l. slice_get l 0) (sym (all_same (y ∷ rest) ys h)); goes = ap f (sym (some_same z x g)) ∙ e }
    by (Goes y) e (lock.All rest) p h (suc k) g more =
        let w = more rest p k g in
        record { to = w.to; listed = ap (λ l. slice_get l (suc k)) (sym (all_same (y ∷ rest) ys h)) ∙ w.listed; goes = w.goes }

together_count : (f : Store → Next) (xs ys : List Store) → together f xs ≡ lock.All ys → length ys ≡ length xs
together_count f [] ys q = ap length (sym (all_same [] ys q))
together_count f (z ∷ xs) ys q = by (f z) (together f xs) refl q (λ rest p. together_count f xs rest p)
  where
    by : (next : Next) (t : Together) → together f xs ≡ t → joined_to next t ≡ lock.All ys → ((rest : List Store) → together f xs ≡ lock.All rest → length rest ≡ length xs) → length ys ≡ length (z ∷ xs)
    by (Traps u) t p h more = not_all u ys h
    by (Goes y) (OneTrap u) p h more = not_all u ys h
    by (Goes y) (lock.All rest) p h more = ap length (sym (all_same (y ∷ rest) ys h)) ∙ ap suc (more rest p)

-- what all ranks together come to
pub record AllGoOn (f : Store → Next) (s s2 : State) : Type 0 where
  pub all : together f s.ranks ≡ lock.All s2.ranks
  pub out : s2.out ≡ s.out

pub steps_same : (s t : State) → Steps s ≡ Steps t → s ≡ t
steps_same s t p = cc

pub of_together_is : (f : Store → Next) (s s2 : State) → of_together (together f s.ranks) s.out ≡ Steps s2 → AllGoOn f s s2
of_together_is f s s2 q = by (together f s.ranks) refl q
  where
    by : (t : Together) → together f s.ranks ≡ t → of_together t s.out ≡ Steps s2 → AllGoOn f s s2
    by (lock.All xs) p h = let e = steps_same (state xs s.out) s2 h in record { all = p ∙ ap (λ z. lock.All z.ranks) e; out = sym (ap (λ z. z.out) e) }
    by (OneTrap t) p h = absurd (differ h)
      where
        differ : Trips t ≡ Steps s2 → ⊥
        differ r = cc

-- ---- a rank that has done an instruction

AtNext : ℕ → ℕ → ℕ → Next → Type 0
AtNext n p r (Goes y) = IsAt n p r y
AtNext n p r (Traps t) = Unit {0}

lifted_at : (n p r : ℕ) (d : Result Data Trap) (x : Store) → IsAt n p r x → AtNext n (suc p) r (lifted d x)
unfolding AtNext
lifted_at n p r (Err t) x h = tt
lifted_at n p r (Ok d) x h =
    record { on = record { number_is = h.on.number_is; ranks_are = h.on.ranks_are; position_is = ap suc h.on.position_is; outbox_has = h.on.outbox_has; inbox_has = h.on.inbox_has }; sent_is = h.sent_is; got_is = h.got_is }

packs_at : (code : Code) (n p r : ℕ) (what : Packing) (x : Store) → 1 ≤ n → IsAt n p r x → IsAt n (suc p) r (pack_done code.arrays what x)
unfolding pack_done
packs_at code n p r what x some h =
    let kept = alone_keeps code.arrays (Packs what) (λ d. Ok d) x tt (omega arith) in
    let outbox : length (pack_done code.arrays what x).outbox ≡ n = kept.outbox_has (h.on.outbox_has ∙ sym h.on.ranks_are) (subst (λ k. 1 ≤ k) (sym h.on.ranks_are) some) ∙ h.on.ranks_are in
    record { on = record { number_is = h.on.number_is; ranks_are = h.on.ranks_are; position_is = ap suc h.on.position_is; outbox_has = outbox; inbox_has = h.on.inbox_has }; sent_is = refl; got_is = refl }

together_at : (code : Code) (n p r : ℕ) (k : Kind) (f : Data → Result Data Trap) (x : Store) → IsTogether k → 1 ≤ n → IsAt n p r x → AtNext n (suc p) r (alone code.arrays k f x)
unfolding AtNext
together_at code n p r Computes f x t some h = lifted_at n p r (f (data_of x)) x h
together_at code n p r (Packs what) f x t some h = packs_at code n p r what x some h
together_at code n p r (Unpacks what) f x t some h = lifted_at n p r (unpacked code.arrays what x.number x.ranks x.inbox (data_of x)) x h
together_at code n p r (Jumps target unless) f x t some h = absurd t
together_at code n p r Posts f x t some h = absurd t
together_at code n p r Takes f x t some h = absurd t
together_at code n p r PostsRoot f x t some h = absurd t
together_at code n p r TakesRoot f x t some h = absurd t
together_at code n p r (Writes output) f x t some h = absurd t
together_at code n p r Halts f x t some h = absurd t

at_of : (n p r : ℕ) (next : Next) (y : Store) → next ≡ Goes y → AtNext n p r next → IsAt n p r y
unfolding AtNext
at_of n p r next y e h = subst (AtNext n p r) e h

together_acts : (k : Kind) (next : Next) (x : Store) → IsTogether k → act_by k next x ≡ of_next next
together_acts Computes next x h = refl
together_acts (Packs what) next x h = refl
together_acts (Unpacks what) next x h = refl
together_acts (Jumps target unless) next x h = absurd h
together_acts Posts next x h = absurd h
together_acts Takes next x h = absurd h
together_acts PostsRoot next x h = absurd h
together_acts TakesRoot next x h = absurd h
together_acts (Writes output) next x h = absurd h
together_acts Halts next x h = absurd h

pub moved_at : (n p r : ℕ) (x : Store) → IsAt n p r x → IsAt n (suc p) r (moved x)
moved_at n p r x h =
    record { on = record { number_is = h.on.number_is; ranks_are = h.on.ranks_are; position_is = ap suc h.on.position_is; outbox_has = h.on.outbox_has; inbox_has = h.on.inbox_has }; sent_is = h.sent_is; got_is = h.got_is }

-- ---- a move of each rank that posts and takes nothing

-- where a rank is then, and what it posted and took
pub record Still (s : State) (w : World Store) (r : ℕ) (e : Entry Store) : Type 0 where
  pub store : slice_get s.ranks r ≡ Some e.now
  pub sent_is : e.sent ≡ (w r).sent
  pub took_is : e.took ≡ (w r).took

pub still_mail : (n : ℕ) (s s2 : State) (w v : World Store) (phase : Phase) → ((r : ℕ) → expects phase r ≡ false) → ((r : ℕ) → r < n → Plain n s w r) → ((r : ℕ) → r < n → Still s2 w r (v r)) → (r : ℕ) → r < n → MailTo n s2 v r (expects phase r)
still_mail n s s2 w v phase none plain still r lt =
    subst (MailTo n s2 v r) (sym (none r))
    (record {
      store = (still r lt).store;
      empty = λ a la. ap (λ f. length (f r)) (still a la).sent_is ∙ (plain r lt).empty a la ∙ sym (ap (λ f. f a) (still r lt).took_is);
    })

pub one_done : (code : Code) (tables : Tables) (room : Room) (n : ℕ) (w : World Store) (q : ℕ) (out : List ℕ) (r : ℕ) (e : Entry Store) → IsPlaced code n (w r).now → does (machine code tables room) n w r ≡ Some e → IsAt n q r e.now → (r ≡ 0 → out ≡ e.wrote) → Done code tables room n w 1 q out r e
one_done code tables room n w q out r e placed d at wrote =
    record { cost = 1; within = omega arith; some = omega arith; alone = alone_one (machine code tables room) n w r (IsPlaced code n) e placed d; at = at; out_is = wrote }

-- what the lockstep is held to where its ranks are now
pub record Held (code : Code) (tables : Tables) (n : ℕ) (s : State) (w : World Store) : Type 0 where
  pub some : 1 ≤ n
  pub form : HasForm code.list
  pub at : At code n s w
  pub placed : (r : ℕ) → r < n → IsPlaced code n (w r).now

pub goes_led : (code : Code) (tables : Tables) (room : Room) (n : ℕ) (s s2 : State) (w : World Store) (k : Kind) (q : ℕ) → price n k ≡ 1 → Held code tables n s w → (phase : Phase) → wants (kind_at code q) ≡ phase → ((r : ℕ) → expects phase r ≡ false) → ((r : ℕ) → r < n → Plain n s w r)
    → length s2.ranks ≡ n → s2.out ≡ s.out → ((r : ℕ) → r < n → (y : Store) × ((machine code tables room).act (w r).now ≡ network.Goes y) × (slice_get s2.ranks r ≡ Some y) × IsAt n q r y) → Led code tables room n w k s2
goes_led code tables room n s s2 w k q one held phase e none plain count out each =
    led_by code tables room n w k q s2 (λ r f. Still s2 w r f) held.some count
    (λ r lt.
    let d = each r lt in
    let f = gone d.0 (w r) in (
      f,
      subst (λ most. Done code tables room n w most q s2.out r f) (sym one)
          (one_done code tables room n w q s2.out r f (held.placed r lt) (does_is (machine code tables room) n w r (network.Goes d.0) lt d.1) d.3 (λ z. out ∙ held.at.out ∙ ap (λ j. (w j).wrote) (sym z))),
      record { store = d.2; sent_is = refl; took_is = refl },
    ))
    (λ v still r lt. subst (λ p. MailTo n s2 v r (expects p r)) (sym e) (still_mail n s s2 w v phase none plain still r lt))

-- ---- Computes, Packs and Unpacks

pub together_led : (code : Code) (tables : Tables) (room : Room) (n : ℕ) (s s2 : State) (w : World Store) (k : Kind) → IsTogether k → price n k ≡ 1 → (held : Held code tables n s w) → kind_at code held.at.pos ≡ k → (phase : Phase) → leaves k ≡ phase → ((r : ℕ) → expects phase r ≡ false) → ((r : ℕ) → expects (wants k) r ≡ false) → (k ≡ Halts → ⊥)
    → AllGoOn (next_at code tables held.at.pos) s s2 → Led code tables room n w k s2
together_led code tables room n s s2 w k alike one held is phase leads none before some t =
    let p = held.at.pos in
    let f = next_at code tables p in
    let plain = plain_at code n s w held.at (wants k) (ap wants is) before in
    goes_led code tables room n s s2 w k (suc p) one held phase (next_phase code p k held.form is some ∙ leads) none plain (together_count f s.ranks s2.ranks t.all ∙ held.at.count) t.out
    (λ r lt.
    let x = (w r).now in
    let at = held.at.ranks r lt in
    let went = together_went f s.ranks s2.ranks t.all r x (plain r lt).store in
    let acts = act_is code tables room x p k at.on.position_is is ∙ ap of_act (together_acts k (f x) x alike ∙ ap of_next went.goes) in
    let there = together_at code n p r (kind_at code p) (computed code.arrays tables x.number x.ranks (instr_at code.list p)) x (subst IsTogether (sym is) alike) held.some at in
    (went.to, acts, went.listed, at_of n (suc p) r (f x) went.to went.goes there))

-- ---- Jumps

pub jump_led : (code : Code) (tables : Tables) (room : Room) (n : ℕ) (s : State) (w : World Store) (target : ℕ) (unless : Option ℕ) (held : Held code tables n s w) → kind_at code held.at.pos ≡ Jumps target unless
    → All (λ x. next_place target unless x.words x.position ≡ place_of_first target unless s.ranks) s.ranks → Led code tables room n w (Jumps target unless) (state (map (at_place (place_of_first target unless s.ranks)) s.ranks) s.out)
unfolding jumped
jump_led code tables room n s w target unless held is agree =
    let p = held.at.pos in
    let q = place_of_first target unless s.ranks in
    let plain = plain_at code n s w held.at Outside (ap wants is) (λ r. refl) in
    let agrees : (r : ℕ) → r < n → next_place target unless (w r).now.words (w r).now.position ≡ q =
    λ r lt. subst (λ x. next_place target unless x.words x.position ≡ q) (get_at s.ranks r (w r).now (w r).now (plain r lt).store) (agree r (w r).now (let c = held.at.count in omega (arith, c, lt))) in
    let zero_lt : 0 < n = let h = held.some in omega (arith, h) in
    let phase : wants (kind_at code q) ≡ Outside =
    subst (λ z. wants (kind_at code z) ≡ Outside) (ap (next_place target unless (w 0).now.words) (sym (held.at.ranks 0 zero_lt).on.position_is) ∙ agrees 0 zero_lt) (jumped_phase code p target unless (w 0).now.words held.form is) in
    goes_led code tables room n s (state (map (at_place q) s.ranks) s.out) w (Jumps target unless) q refl held Outside phase (λ r. refl) plain (length-map s.ranks (at_place q) ∙ held.at.count) refl
    (λ r lt.
    let x = (w r).now in
    let at = held.at.ranks r lt in
    let acts = act_is code tables room x p (Jumps target unless) at.on.position_is is ∙ ap (λ k. of_act (of_next (alone code.arrays k (computed code.arrays tables x.number x.ranks (instr_at code.list p)) x))) is ∙ ap (λ z. network.Goes (at_place z x)) (agrees r lt) in (
      at_place q x,
      acts,
      get_map (at_place q) s.ranks r x (plain r lt).store,
      record { on = record { number_is = at.on.number_is; ranks_are = at.on.ranks_are; position_is = refl; outbox_has = at.on.outbox_has; inbox_has = at.on.inbox_has }; sent_is = at.sent_is; got_is = at.got_is },
    ))
