-- What a rank does alone by one instruction: a move, a post to each rank, or a take from each.
use Rattle.std.proofs.Common.{◌≡◌, ◌≢◌, ◌∙◌, refl, sym, subst, ap, arith, ℕ, zero, suc, ◌+◌, ◌<◌, ◌≤◌, List, [], ◌∷◌, ◌++◌, length, length-drop, length-set, get_or, set, drop, drop_at, Some, None, eqb, lt-ltb, cond, true, false, Bool}
use Rattle.std.proofs.lemmas.Bool.{eqb-true, eqb-false}
use Rattle.std.proofs.lemmas.List.{get_or-set_other}
use Rattle.hp_word.specs.declared.table.Message.{Message}
use Rattle.hp_word.specs.declared.table.Tables.{Tables}
use Rattle.hp_network.specs.Network as network
use Rattle.hp_network.specs.Network.{Room, Machine, Sends, Gets}
use Rattle.hp_network.proofs.Worlds.{Entry, World, put, put_here, put_other, queue, posted, got, got_from, does_by, does}
use Rattle.hp_network.proofs.States.{took_same, sent_same}
use Rattle.hp_network.proofs.Alone.{Alone, put_back}
use Rattle.hp_spmd.specs.declared.code.Code.{Code}
use Rattle.hp_spmd.specs.declared.store.Store.{Store}
use Rattle.hp_spmd.specs.Act.{after_post, after_posts, after_take, after_takes}
use Rattle.hp_spmd.specs.Kinds.{Posts}
use Rattle.hp_spmd.specs.Spread.{IsPlaced}
use Rattle.hp_spmd.specs.Store.{message_at, no_message}
use Rattle.hp_spmd.proofs.LockActs.{post_more, take_more}
use Rattle.hp_turns.specs.Turns.{machine}
use Rattle.hp_turns.proofs.Acts.{kind_at, act_is}

-- the move of one of n ranks, by what it does next
pub does_is : {X : Type 0} (m : Machine X) (n : ℕ) (w : World X) (r : ℕ) (a : network.Act X) → r < n → m.act (w r).now ≡ a → does m n w r ≡ does_by m.room (λ k. queue w k r) (λ k. length (queue w r k)) a (w r)
unfolding does
does_is m n w r a lt e =
    ap (λ b. cond b (does_by m.room (λ k. queue w k r) (λ k. length (queue w r k)) (m.act (w r).now) (w r)) None) (lt-ltb r n lt)
    ∙ ap (λ z. does_by m.room (λ k. queue w k r) (λ k. length (queue w r k)) z (w r)) e

pub does_put : {X : Type 0} (m : Machine X) (n : ℕ) (w : World X) (r : ℕ) (e : Entry X) (a : network.Act X) → r < n → m.act e.now ≡ a → does m n (put w r e) r ≡ does_by m.room (λ k. queue (put w r e) k r) (λ k. length (queue (put w r e) r k)) a e
does_put m n w r e a lt q =
    does_is m n (put w r e) r a lt (ap (λ z. m.act z.now) (put_here w r e) ∙ q)
    ∙ ap (does_by m.room (λ k. queue (put w r e) k r) (λ k. length (queue (put w r e) r k)) a) (put_here w r e)

-- one move
pub alone_one : {X : Type 0} (m : Machine X) (n : ℕ) (w : World X) (r : ℕ) (P : X → Type 0) (e : Entry X) → P (w r).now → does m n w r ≡ Some e → Alone m n w r P 1 (w r) e
alone_one m n w r P e here q = (here, (e, ap (λ z. does m n z r) (put_back w r) ∙ q, refl))

-- ---- posts

-- all that a posted to b is taken
abbrev pub Empty : World Store → ℕ → ℕ → Type 0
Empty w a b = length ((w a).sent b) ≡ (w b).took a

-- one message waits
pub record One (w : World Store) (a b : ℕ) (message : Message) : Type 0 where
  pub before : List Message
  pub sent_is : (w a).sent b ≡ before ++ message ∷ []
  pub took_is : length before ≡ (w b).took a

-- a rank among so many at this place, with messages for all and from all
pub record IsOn (n p r : ℕ) (x : Store) : Type 0 where
  pub number_is : x.number ≡ r
  pub ranks_are : x.ranks ≡ n
  pub position_is : x.position ≡ p
  pub outbox_has : length x.outbox ≡ n
  pub inbox_has : length x.inbox ≡ n

pub record PostsDone (code : Code) (tables : Tables) (room : Room) (n : ℕ) (w : World Store) (r k j : ℕ) (y : Store) (e g : Entry Store) : Type 0 where
  pub alone : Alone (machine code tables room) n w r (IsPlaced code n) (suc k) e g
  pub now_is : g.now ≡ after_posts (suc k) y
  pub below : (s : ℕ) → s < j → g.sent s ≡ e.sent s
  pub sent_is : (s : ℕ) → j ≤ s → s < n → g.sent s ≡ e.sent s ++ message_at y.outbox s ∷ []
  pub took_is : g.took ≡ e.took
  pub wrote_is : g.wrote ≡ e.wrote

post_does : (code : Code) (tables : Tables) (room : Room) (n : ℕ) (w : World Store) (r p j : ℕ) (y : Store) (e : Entry Store) → r < n → kind_at code p ≡ Posts → e.now ≡ y → IsOn n p r y → y.sent ≡ j → e.took ≡ (w r).took → length (e.sent j) ≡ (w j).took r
    → does (machine code tables room) n (put w r e) r ≡ Some (posted j (message_at y.outbox j) (after_post y) e)
post_does code tables room n w r p j y e lt is now on first took even =
    let m = machine code tables room in
    let z = put w r e in
    let acts : m.act e.now ≡ Sends j (message_at y.outbox j) (after_post y) = ap m.act now ∙ act_is code tables room y p Posts on.position_is is ∙ ap (λ i. Sends i (message_at y.outbox i) (after_post y)) first in
    let queue_is : queue z r j ≡ drop ((w j).took r) (e.sent j) = ap (λ i. drop i ((put w r e r).sent j)) (took_same w r e r j (ap (λ f. f r) took)) ∙ ap (λ d. drop ((w j).took r) (d.sent j)) (put_here w r e) in
    let none : length (queue z r j) ≡ 0 = let l = length-drop ((w j).took r) (e.sent j) in let q = ap length queue_is in omega (arith, l, q, even) in
    does_put m n w r e (Sends j (message_at y.outbox j) (after_post y)) lt acts
    ∙ ap (λ b. cond b (Some (posted j (message_at y.outbox j) (after_post y) e)) None) (ap room.fits none ∙ room.some)

-- the rank after one post that is not the last
record PostMore (n p r j : ℕ) (y z : Store) : Type 0 where
  on : IsOn n p r z
  sent_is : z.sent ≡ suc j
  later : (s : ℕ) → s ≢ j → message_at z.outbox s ≡ message_at y.outbox s

post_on : (n p r j : ℕ) (y : Store) → IsOn n p r y → y.sent ≡ j → suc j < n → PostMore n p r j y (after_post y)
post_on n p r j y on first lt =
    let z = record y { outbox = set y.outbox y.sent no_message; sent = suc y.sent } in
    let more : PostMore n p r j y z = record {
      on = record { number_is = on.number_is; ranks_are = on.ranks_are; position_is = on.position_is; outbox_has = length-set y.outbox y.sent no_message ∙ on.outbox_has; inbox_has = on.inbox_has };
      sent_is = ap suc first;
      later = λ s ne. get_or-set_other y.outbox y.sent s no_message no_message (λ h. ne (h ∙ first));
    } in
    subst (PostMore n p r j y) (sym (post_more y (λ h. let a = on.ranks_are in omega (arith, h, a, first, lt)))) more

placed_if : (code : Code) (n : ℕ) (b : Bool) (x y : Store) → IsPlaced code n x → IsPlaced code n y → IsPlaced code n (cond b x y)
placed_if code n true x y h g = h
placed_if code n false x y h g = g

pub post_placed : (code : Code) (n : ℕ) (x : Store) → IsPlaced code n x → IsPlaced code n (after_post x)
post_placed code n x h =
    placed_if code n (eqb (suc x.sent) x.ranks) _ _ (record { ranks_are = h.ranks_are; number_below = h.number_below; shared = h.shared }) (record { ranks_are = h.ranks_are; number_below = h.number_below; shared = h.shared })

pub take_placed : (code : Code) (n : ℕ) (x : Store) (m : Message) → IsPlaced code n x → IsPlaced code n (after_take x m)
take_placed code n x m h =
    placed_if code n (eqb (suc x.got) x.ranks) _ _ (record { ranks_are = h.ranks_are; number_below = h.number_below; shared = h.shared }) (record { ranks_are = h.ranks_are; number_below = h.number_below; shared = h.shared })

sent_on : (n j s : ℕ) (b : Bool) → eqb s j ≡ b → (f e g : ℕ → List Message) (z y : ℕ → Message) → j ≤ s → s < n → f j ≡ e j ++ y j ∷ [] → ((i : ℕ) → i ≢ j → f i ≡ e i) → ((i : ℕ) → i ≢ j → z i ≡ y i) → ((i : ℕ) → i < suc j → g i ≡ f i)
    → ((i : ℕ) → suc j ≤ i → i < n → g i ≡ f i ++ z i ∷ []) → g s ≡ e s ++ y s ∷ []
sent_on n j s true q f e g z y le ls here other later below rest =
    let same = eqb-true s j q in
    below s (omega (arith, same)) ∙ ap f same ∙ here ∙ ap (λ i. e i ++ y i ∷ []) (sym same)
sent_on n j s false q f e g z y le ls here other later below rest =
    let ne = eqb-false s j q in
    rest s (omega (arith, ne, le)) ls ∙ ap (λ l. l ++ z s ∷ []) (other s ne) ∙ ap (λ m. e s ++ m ∷ []) (later s ne)

took_on : (n j s : ℕ) (b : Bool) → eqb s j ≡ b → (f e g : ℕ → ℕ) → j ≤ s → s < n → f j ≡ suc (e j) → ((i : ℕ) → i ≢ j → f i ≡ e i) → ((i : ℕ) → i < suc j → g i ≡ f i) → ((i : ℕ) → suc j ≤ i → i < n → g i ≡ suc (f i)) → g s ≡ suc (e s)
took_on n j s true q f e g le ls here other below rest =
    let same = eqb-true s j q in
    below s (omega (arith, same)) ∙ ap f same ∙ here ∙ ap (λ i. suc (e i)) (sym same)
took_on n j s false q f e g le ls here other below rest =
    let ne = eqb-false s j q in
    rest s (omega (arith, ne, le)) ls ∙ ap suc (other s ne)

pub posts_alone : (code : Code) (tables : Tables) (room : Room) (n : ℕ) (w : World Store) (r p : ℕ) → r < n → kind_at code p ≡ Posts → (k j : ℕ) (y : Store) (e : Entry Store) → j + suc k ≡ n → e.now ≡ y → IsOn n p r y → y.sent ≡ j → IsPlaced code n y → e.took ≡ (w r).took
    → ((s : ℕ) → j ≤ s → s < n → length (e.sent s) ≡ (w s).took r) → (g : Entry Store) × PostsDone code tables room n w r k j y e g
posts_alone code tables room n w r p lt is zero j y e all now on first placed took even =
    let f = posted j (message_at y.outbox j) (after_post y) e in (
      f,
      record {
        alone = (subst (IsPlaced code n) (sym now) placed, (f, post_does code tables room n w r p j y e lt is now on first took (even j (omega arith) (omega (arith, all))), refl));
        now_is = refl;
        below = λ s ls. put_other e.sent j s (e.sent j ++ message_at y.outbox j ∷ []) (omega (arith, ls));
        sent_is = λ s le ls. let same : s ≡ j = omega (arith, le, ls, all) in ap f.sent same ∙ put_here e.sent j (e.sent j ++ message_at y.outbox j ∷ []) ∙ ap (λ i. e.sent i ++ message_at y.outbox i ∷ []) (sym same);
        took_is = refl;
        wrote_is = refl;
      },
    )
posts_alone code tables room n w r p lt is (suc k) j y e all now on first placed took even =
    let z = after_post y in
    let f = posted j (message_at y.outbox j) z e in
    let more = post_on n p r j y on first (omega (arith, all)) in
    let other : (s : ℕ) → s ≢ j → f.sent s ≡ e.sent s = λ s ne. put_other e.sent j s (e.sent j ++ message_at y.outbox j ∷ []) ne in
    let rest = posts_alone code tables room n w r p lt is k (suc j) z f (omega (arith, all)) refl more.on more.sent_is (post_placed code n y placed) took
    (λ s le ls. ap length (other s (omega (arith, le))) ∙ even s (omega (arith, le)) ls) in (
      rest.0,
      record {
        alone = (subst (IsPlaced code n) (sym now) placed, (f, post_does code tables room n w r p j y e lt is now on first took (even j (omega arith) (omega (arith, all))), rest.1.alone));
        now_is = rest.1.now_is;
        below = λ s ls. rest.1.below s (omega (arith, ls)) ∙ other s (omega (arith, ls));
        sent_is = λ s le ls. sent_on n j s (eqb s j) refl f.sent e.sent rest.0.sent (message_at z.outbox) (message_at y.outbox) le ls (put_here e.sent j (e.sent j ++ message_at y.outbox j ∷ [])) other more.later rest.1.below rest.1.sent_is;
        took_is = rest.1.took_is;
        wrote_is = rest.1.wrote_is;
      },
    )

-- ---- takes

-- what an instruction that takes from all does next
abbrev pub TakesFrom : Code → Tables → Room → (p r : ℕ) → Type 0
TakesFrom code tables room p r = (x : Store) → x.position ≡ p → x.number ≡ r → (machine code tables room).act x ≡ Gets x.got (after_take x)

pub record TakesDone (code : Code) (tables : Tables) (room : Room) (n : ℕ) (w : World Store) (r : ℕ) (ms : List Message) (j : ℕ) (y : Store) (e g : Entry Store) : Type 0 where
  pub alone : Alone (machine code tables room) n w r (IsPlaced code n) (length ms) e g
  pub now_is : g.now ≡ after_takes ms y
  pub below : (s : ℕ) → s < j → g.took s ≡ e.took s
  pub took_is : (s : ℕ) → j ≤ s → s < n → g.took s ≡ suc (e.took s)
  pub sent_is : g.sent ≡ e.sent
  pub wrote_is : g.wrote ≡ e.wrote

take_does : (code : Code) (tables : Tables) (room : Room) (n : ℕ) (w : World Store) (r p j : ℕ) (message : Message) (y : Store) (e : Entry Store) → r < n → TakesFrom code tables room p r → e.now ≡ y → IsOn n p r y → y.got ≡ j → e.sent ≡ (w r).sent → e.took j ≡ (w r).took j → One w j r message
    → does (machine code tables room) n (put w r e) r ≡ Some (got j (after_take y message) e)
take_does code tables room n w r p j message y e lt acts now on first sent took one =
    let m = machine code tables room in
    let z = put w r e in
    let next : m.act e.now ≡ Gets j (after_take y) = ap m.act now ∙ acts y on.position_is on.number_is ∙ ap (λ i. Gets i (after_take y)) first in
    let queue_is : queue z j r ≡ message ∷ [] =
    ap (λ d. drop (d.took j) ((put w r e j).sent r)) (put_here w r e)
    ∙ ap (drop (e.took j)) (sent_same w r e j r (ap (λ f. f r) sent) ∙ one.sent_is)
    ∙ drop_at one.before (message ∷ []) (e.took j) (one.took_is ∙ sym took) in
    does_put m n w r e (Gets j (after_take y)) lt next
    ∙ ap (λ q. got_from q j (after_take y) e) queue_is

record TakeMore (n p r j : ℕ) (z : Store) : Type 0 where
  on : IsOn n p r z
  got_is : z.got ≡ suc j

take_on : (n p r j : ℕ) (message : Message) (y : Store) → IsOn n p r y → y.got ≡ j → suc j < n → TakeMore n p r j (after_take y message)
take_on n p r j message y on first lt =
    let z = record y { inbox = set y.inbox y.got message; got = suc y.got } in
    let more : TakeMore n p r j z = record {
      on = record { number_is = on.number_is; ranks_are = on.ranks_are; position_is = on.position_is; outbox_has = on.outbox_has; inbox_has = length-set y.inbox y.got message ∙ on.inbox_has };
      got_is = ap suc first;
    } in
    subst (TakeMore n p r j) (sym (take_more y message (λ h. let a = on.ranks_are in omega (arith, h, a, first, lt)))) more

pub takes_alone : (code : Code) (tables : Tables) (room : Room) (n : ℕ) (w : World Store) (r p : ℕ) → r < n → TakesFrom code tables room p r → (ms : List Message) (j : ℕ) (y : Store) (e : Entry Store) → 1 ≤ length ms → j + length ms ≡ n → e.now ≡ y → IsOn n p r y → y.got ≡ j → IsPlaced code n y → e.sent ≡ (w r).sent
    → ((s : ℕ) → j ≤ s → e.took s ≡ (w r).took s) → ((i : ℕ) → i < length ms → One w (j + i) r (get_or ms i no_message)) → (g : Entry Store) × TakesDone code tables room n w r ms j y e g
takes_alone code tables room n w r p lt acts [] j y e some all now on first placed sent took ones = absurd (omega (arith, some))
takes_alone code tables room n w r p lt acts (message ∷ []) j y e some all now on first placed sent took ones =
    let f = got j (after_take y message) e in
    let at : j + 0 ≡ j = omega arith in
    let one : One w j r message = subst (λ i. One w i r message) at (ones 0 (omega arith)) in (
      f,
      record {
        alone = (subst (IsPlaced code n) (sym now) placed, (f, take_does code tables room n w r p j message y e lt acts now on first sent (took j (omega arith)) one, refl));
        now_is = refl;
        below = λ s ls. put_other e.took j s (suc (e.took j)) (omega (arith, ls));
        took_is = λ s le ls. let same : s ≡ j = omega (arith, le, ls, all) in ap f.took same ∙ put_here e.took j (suc (e.took j)) ∙ ap (λ i. suc (e.took i)) (sym same);
        sent_is = refl;
        wrote_is = refl;
      },
    )
takes_alone code tables room n w r p lt acts (message ∷ m2 ∷ ms) j y e some all now on first placed sent took ones =
    let z = after_take y message in
    let f = got j z e in
    let at : j + 0 ≡ j = omega arith in
    let one : One w j r message = subst (λ i. One w i r message) at (ones 0 (omega arith)) in
    let more = take_on n p r j message y on first (omega (arith, all)) in
    let other : (s : ℕ) → s ≢ j → f.took s ≡ e.took s = λ s ne. put_other e.took j s (suc (e.took j)) ne in
    let rest = takes_alone code tables room n w r p lt acts (m2 ∷ ms) (suc j) z f (omega arith) (omega (arith, all)) refl more.on more.got_is (take_placed code n y message placed) sent
    (λ s le. other s (omega (arith, le)) ∙ took s (omega (arith, le)))
    (λ i li. let shift : j + suc i ≡ suc j + i = omega arith in subst (λ q. One w q r (get_or (m2 ∷ ms) i no_message)) shift (ones (suc i) (omega (arith, li)))) in (
      rest.0,
      record {
        alone = (subst (IsPlaced code n) (sym now) placed, (f, take_does code tables room n w r p j message y e lt acts now on first sent (took j (omega arith)) one, rest.1.alone));
        now_is = rest.1.now_is;
        below = λ s ls. rest.1.below s (omega (arith, ls)) ∙ other s (omega (arith, ls));
        took_is = λ s le ls. took_on n j s (eqb s j) refl f.took e.took rest.0.took le ls (put_here e.took j (suc (e.took j))) other rest.1.below rest.1.took_is;
        sent_is = rest.1.sent_is;
        wrote_is = rest.1.wrote_is;
      },
    )
