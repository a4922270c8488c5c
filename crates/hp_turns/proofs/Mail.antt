-- Posts, takes and writes of the lockstep are stages too.
use Rattle.std.proofs.Common.{◌≡◌, ◌≢◌, ◌∙◌, refl, sym, subst, ap, arith, ℕ, zero, suc, ◌+◌, ◌<◌, ◌≤◌, List, [], ◌∷◌, ◌++◌, length, length-append, length-drop, map, get_or, set, Some, None, slice_get, cond}
use Rattle.std.proofs.lemmas.List.{length-map, length-set, get_or-map}
use Rattle.hp_word.specs.declared.table.Message.{Message}
use Rattle.hp_word.specs.declared.table.Tables.{Tables}
use Rattle.hp_network.specs.Network as network
use Rattle.hp_network.specs.Network.{Room, Machine}
use Rattle.hp_network.proofs.Worlds.{Entry, World, queue, put_here, put_other, gone, posted, said}
use Rattle.hp_network.proofs.Ends.{get_at}
use Rattle.hp_spmd.specs.declared.code.Code.{Code}
use Rattle.hp_spmd.specs.declared.instr.Output.{Output}
use Rattle.hp_spmd.specs.declared.store.Store.{Store}
use Rattle.hp_spmd.specs.Act.{act_by, of_next, first_only, after_post, after_posts, after_take, after_takes}
use Rattle.hp_spmd.specs.Act as act
use Rattle.hp_spmd.specs.Exchanges.{Outside, Packed, Posted, Taken, RootPacked, RootPosted, RootTaken, wants}
use Rattle.hp_spmd.specs.Kinds.{Kind, Posts, Takes, PostsRoot, TakesRoot, Writes, Halts}
use Rattle.hp_spmd.specs.Lockstep.{State, state, delivered, delivered_to_root, root_inbox, text_of}
use Rattle.hp_spmd.specs.Exchange.{written}
use Rattle.hp_spmd.specs.Next.{moved}
use Rattle.hp_spmd.specs.Store.{message_at, no_message}
use Rattle.hp_spmd.proofs.LockActs.{posts_all, takes_all}
use Rattle.hp_turns.specs.Turns.{machine, of_act}
use Rattle.hp_turns.proofs.Acts.{kind_at, act_is, next_phase}
use Rattle.hp_turns.proofs.Alone.{Empty, One, does_is, posts_alone, TakesFrom, takes_alone}
use Rattle.hp_turns.proofs.Tied.{expects, IsAt, Letters, Plain, MailTo, plain_at, letters_at, Led, Done, led_by}
use Rattle.hp_turns.proofs.Stages.{get_map, Held, Still, still_mail, one_done, moved_at}

halts_not : (k : Kind) → wants k ≢ Outside → k ≡ Halts → ⊥
halts_not k ne e = ne (ap wants e)

-- ---- Writes

first_text : (output : Output) (xs : List Store) (x : Store) → slice_get xs 0 ≡ Some x → text_of output xs ≡ written output x.inbox
first_text output [] x q = absurd (differ q)
  where
    differ : None ≡ Some x → ⊥
    differ p = cc
first_text output (y ∷ ys) x q = ap (λ z. written output z.inbox) (same q)
  where
    same : Some y ≡ Some x → y ≡ x
    same p = cc

first_act : (r number : ℕ) (a : act.Act) (x : Store) → number ≡ r → r ≡ 0 → first_only number a x ≡ a
first_act r zero a x e z = refl
first_act r (suc k) a x e z = absurd (let h : suc k ≡ r = e in omega (arith, h, z))

other_act : (r number : ℕ) (a : act.Act) (x : Store) → number ≡ r → r ≢ 0 → first_only number a x ≡ act.Goes (moved x)
other_act r zero a x e ne = absurd (ne (sym e))
other_act r (suc k) a x e ne = refl

is_zero : {A : Type 0} (r : ℕ) → (r ≡ 0 → A) → (r ≢ 0 → A) → A
is_zero zero yes_case no_case = yes_case refl
is_zero (suc r) yes_case no_case = no_case (λ e. omega (arith, e))

root_taken : RootTaken ≢ Outside
root_taken e = cc

pub write_led : (code : Code) (tables : Tables) (room : Room) (n : ℕ) (s : State) (w : World Store) (output : Output) (held : Held code tables n s w) → kind_at code held.at.pos ≡ Writes output
    → Led code tables room n w (Writes output) (state (map moved s.ranks) (s.out ++ text_of output s.ranks))
write_led code tables room n s w output held is =
    let p = held.at.pos in
    let m = machine code tables room in
    let s2 = state (map moved s.ranks) (s.out ++ text_of output s.ranks) in
    let plain = plain_at code n s w held.at RootTaken (ap wants is) (λ r. refl) in
    let phase : wants (kind_at code (suc p)) ≡ Outside = next_phase code p (Writes output) held.form is (halts_not (Writes output) root_taken) in
    led_by code tables room n w (Writes output) (suc p) s2 (λ r f. Still s2 w r f) held.some (length-map s.ranks moved ∙ held.at.count)
    (λ r lt.
    let x = (w r).now in
    let at = held.at.ranks r lt in
    let text = written output x.inbox in
    let acts = act_is code tables room x p (Writes output) at.on.position_is is in
    let there = moved_at n p r x at in
    let listed = get_map moved s.ranks r x (plain r lt).store in
    is_zero r
    (λ zr.
    let f = said text (moved x) (w r) in
    let d = does_is m n w r (network.Prints text (moved x)) lt (acts ∙ ap of_act (first_act r x.number (act.Prints text (moved x)) x at.on.number_is zr)) in
    let wrote : s.out ++ text_of output s.ranks ≡ (w r).wrote ++ text =
    ap (λ l. l ++ text_of output s.ranks) (held.at.out ∙ ap (λ j. (w j).wrote) (sym zr)) ∙ ap (λ l. (w r).wrote ++ l) (first_text output s.ranks x (ap (slice_get s.ranks) (sym zr) ∙ (plain r lt).store)) in
    (f, one_done code tables room n w (suc p) s2.out r f (held.placed r lt) d there (λ e. wrote), record { store = listed; sent_is = refl; took_is = refl }))
    (λ ne.
    let f = gone (moved x) (w r) in
    let d = does_is m n w r (network.Goes (moved x)) lt (acts ∙ ap of_act (other_act r x.number (act.Prints text (moved x)) x at.on.number_is ne)) in
    (f, one_done code tables room n w (suc p) s2.out r f (held.placed r lt) d there (λ e. absurd (ne e)), record { store = listed; sent_is = refl; took_is = refl })))
    (λ v still r lt. subst (λ ph. MailTo n s2 v r (expects ph r)) (sym phase) (still_mail n s s2 w v Outside (λ k. refl) plain still r lt))

-- ---- Posts

packed_not : Packed ≢ Outside
packed_not e = cc

-- what a rank that has posted to all has done
record Sent (n : ℕ) (s2 : State) (w : World Store) (ms : List Message) (r : ℕ) (e : Entry Store) : Type 0 where
  store : slice_get s2.ranks r ≡ Some (record e.now { inbox = ms })
  sent_is : (b : ℕ) → b < n → e.sent b ≡ (w r).sent b ++ message_at (w r).now.outbox b ∷ []
  took_is : e.took ≡ (w r).took

outbox_at : (s : List Store) (w : World Store) (a b : ℕ) → a < length s → slice_get s a ≡ Some (w a).now → get_or (map (λ y. message_at y.outbox b) s) a no_message ≡ message_at (w a).now.outbox b
outbox_at s w a b la q = get_or-map (λ y. message_at y.outbox b) s a (w a).now no_message la ∙ ap (λ x. message_at x.outbox b) (get_at s a (w a).now (w a).now q)

-- the rank with this inbox
abbrev boxed : Store → List Message → Store
boxed x ms = record x { inbox = ms }

pub post_led : (code : Code) (tables : Tables) (room : Room) (n : ℕ) (s : State) (w : World Store) (held : Held code tables n s w) → kind_at code held.at.pos ≡ Posts
    → Led code tables room n w Posts (state (map (delivered s.ranks) s.ranks) s.out)
post_led code tables room n s w held is =
    let p = held.at.pos in
    let s2 = state (map (delivered s.ranks) s.ranks) s.out in
    let plain = plain_at code n s w held.at Packed (ap wants is) (λ r. refl) in
    let phase : wants (kind_at code (suc p)) ≡ Posted = next_phase code p Posts held.form is (halts_not Posts packed_not) in
    let ms : ℕ → List Message = λ r. map (λ y. message_at y.outbox r) s.ranks in
    led_by code tables room n w Posts (suc p) s2 (λ r f. Sent n s2 w (ms r) r f) held.some (length-map s.ranks (delivered s.ranks) ∙ held.at.count)
    (λ r lt. post_each code tables room n s w held is plain r lt n refl)
    (λ v sent r lt.
    subst (λ ph. MailTo n s2 v r (expects ph r)) (sym phase)
    (record {
      ms = ms r;
      count = length-map s.ranks (λ y. message_at y.outbox r) ∙ held.at.count;
      store = (sent r lt).store;
      waiting = λ a la.
          record {
            before = (w a).sent r;
            sent_is = (sent a la).sent_is r lt ∙ ap (λ m. (w a).sent r ++ m ∷ []) (sym (outbox_at s.ranks w a r (let c = held.at.count in omega (arith, c, la)) (plain a la).store));
            took_is = (plain r lt).empty a la ∙ sym (ap (λ f. f a) (sent r lt).took_is);
          };
    }))
  where
    post_each : (code : Code) (tables : Tables) (room : Room) (n : ℕ) (s : State) (w : World Store) (held : Held code tables n s w) → kind_at code held.at.pos ≡ Posts → ((r : ℕ) → r < n → Plain n s w r) → (r : ℕ) → r < n → (count : ℕ) → count ≡ n
        → (e : Entry Store) × Done code tables room n w n (suc held.at.pos) s.out r e × Sent n (state (map (delivered s.ranks) s.ranks) s.out) w (map (λ y. message_at y.outbox r) s.ranks) r e
    post_each code tables room n s w held is plain r lt zero all = absurd (omega (arith, lt, all))
    post_each code tables room n s w held is plain r lt (suc k) all =
        let x = (w r).now in
        let at = held.at.ranks r lt in
        let g = posts_alone code tables room n w r held.at.pos lt is k 0 x (w r) (omega (arith, all)) refl at.on at.sent_is (held.placed r lt) refl (λ b le lb. (plain b lb).empty r lt) in
        let some : 1 ≤ x.ranks = let a = at.on.ranks_are in let h = held.some in omega (arith, a, h) in
        let whole : g.0.now ≡ moved (record x { outbox = map (λ m. no_message) x.outbox; sent = 0 }) =
        g.1.now_is ∙ ap (λ j. after_posts j x) (all ∙ sym at.on.ranks_are) ∙ posts_all x some at.sent_is (at.on.outbox_has ∙ sym at.on.ranks_are) in
        let there : IsAt n (suc held.at.pos) r (moved (record x { outbox = map (λ m. no_message) x.outbox; sent = 0 })) =
        record { on = record { number_is = at.on.number_is; ranks_are = at.on.ranks_are; position_is = ap suc at.on.position_is; outbox_has = length-map x.outbox (λ m. no_message) ∙ at.on.outbox_has; inbox_has = at.on.inbox_has }; sent_is = refl; got_is = at.got_is } in
        let z : Store = moved (record x { outbox = map (λ m. no_message) x.outbox; sent = 0 }) in
        let inbox : delivered s.ranks x ≡ boxed z (map (λ y. message_at y.outbox r) s.ranks) = ap (λ j. boxed z (map (λ y. message_at y.outbox j) s.ranks)) at.on.number_is in (
          g.0,
          record { cost = suc k; within = omega (arith, all); some = omega arith; alone = g.1.alone; at = subst (IsAt n (suc held.at.pos) r) (sym whole) there; out_is = λ e. held.at.out ∙ ap (λ j. (w j).wrote) (sym e) ∙ sym g.1.wrote_is },
          record {
            store = get_map (delivered s.ranks) s.ranks r x (plain r lt).store ∙ ap Some (inbox ∙ ap (λ (u : Store). boxed u (map (λ y. message_at y.outbox r) s.ranks)) (sym whole));
            sent_is = λ b lb. g.1.sent_is b (omega arith) lb;
            took_is = g.1.took_is;
          },
        )

-- ---- Takes

posted_not : Posted ≢ Outside
posted_not e = cc

-- what a rank that has taken from all has done
pub record Got (n : ℕ) (s2 : State) (w : World Store) (r : ℕ) (e : Entry Store) : Type 0 where
  pub store : slice_get s2.ranks r ≡ Some e.now
  pub took_is : (a : ℕ) → a < n → e.took a ≡ suc ((w r).took a)
  pub sent_is : e.sent ≡ (w r).sent

taken_empty : (w v : World Store) (a r : ℕ) (m : Message) → One w a r m → (v a).sent r ≡ (w a).sent r → (v r).took a ≡ suc ((w r).took a) → Empty v a r
taken_empty w v a r m one sent took =
    let l = length-append one.before (m ∷ []) in
    let t = one.took_is in
    ap length (sent ∙ one.sent_is) ∙ (let all : length (one.before ++ m ∷ []) ≡ suc ((w r).took a) = omega (arith, l, t) in all) ∙ sym took

take_each : (code : Code) (tables : Tables) (room : Room) (n : ℕ) (s : State) (w : World Store) (held : Held code tables n s w) (r : ℕ) → r < n → TakesFrom code tables room held.at.pos r → Letters n s w r
    → (e : Entry Store) × Done code tables room n w n (suc held.at.pos) s.out r e × Got n (state (map moved s.ranks) s.out) w r e
take_each code tables room n s w held r lt acts letters =
    let x = (w r).now in
    let at = held.at.ranks r lt in
    let ms = letters.ms in
    let some : 1 ≤ length ms = let c = letters.count in let h = held.some in omega (arith, c, h) in
    let all : 0 + length ms ≡ n = let c = letters.count in omega (arith, c) in
    let g = takes_alone code tables room n w r held.at.pos lt acts ms 0 x (w r) some all refl at.on at.got_is (held.placed r lt) refl (λ a le. refl)
    (λ i li. let shift : i ≡ 0 + i = omega arith in subst (λ q. One w q r (get_or ms i no_message)) shift (letters.waiting i (let c = letters.count in omega (arith, c, li)))) in
    let whole : g.0.now ≡ moved (record x { inbox = ms; got = 0 }) = g.1.now_is ∙ takes_all x ms some at.got_is (at.on.inbox_has ∙ sym letters.count) (letters.count ∙ sym at.on.ranks_are) in
    let there : IsAt n (suc held.at.pos) r (moved (record x { inbox = ms; got = 0 })) =
    record { on = record { number_is = at.on.number_is; ranks_are = at.on.ranks_are; position_is = ap suc at.on.position_is; outbox_has = at.on.outbox_has; inbox_has = letters.count }; sent_is = at.sent_is; got_is = refl } in (
      g.0,
      record { cost = length ms; within = let c = letters.count in omega (arith, c); some = some; alone = g.1.alone; at = subst (IsAt n (suc held.at.pos) r) (sym whole) there; out_is = λ e. held.at.out ∙ ap (λ j. (w j).wrote) (sym e) ∙ sym g.1.wrote_is },
      record {
        store = get_map moved s.ranks r (record x { inbox = ms }) letters.store ∙ ap Some (ap (λ j. moved (record x { inbox = ms; got = j })) at.got_is ∙ sym whole);
        took_is = λ a la. g.1.took_is a (omega arith) la;
        sent_is = g.1.sent_is;
      },
    )

pub take_led : (code : Code) (tables : Tables) (room : Room) (n : ℕ) (s : State) (w : World Store) (held : Held code tables n s w) → kind_at code held.at.pos ≡ Takes → Led code tables room n w Takes (state (map moved s.ranks) s.out)
take_led code tables room n s w held is =
    let p = held.at.pos in
    let s2 = state (map moved s.ranks) s.out in
    let letters : (r : ℕ) → r < n → Letters n s w r = λ r lt. letters_at code n s w held.at Posted r (ap wants is) refl lt in
    let phase : wants (kind_at code (suc p)) ≡ Taken = next_phase code p Takes held.form is (halts_not Takes posted_not) in
    led_by code tables room n w Takes (suc p) s2 (λ r f. Got n s2 w r f) held.some (length-map s.ranks moved ∙ held.at.count)
    (λ r lt. take_each code tables room n s w held r lt (λ x there number. act_is code tables room x p Takes there is) (letters r lt))
    (λ v got r lt.
    subst (λ ph. MailTo n s2 v r (expects ph r)) (sym phase)
    (record { store = (got r lt).store; empty = λ a la. taken_empty w v a r (get_or (letters r lt).ms a no_message) ((letters r lt).waiting a la) (ap (λ f. f r) (got a la).sent_is) ((got r lt).took_is a la) }))

-- ---- at the root

root_packed : RootPacked ≢ Outside
root_packed e = cc

root_posted : RootPosted ≢ Outside
root_posted e = cc

-- what a rank that has posted to rank 0 has done
record SentRoot (n : ℕ) (s2 : State) (w : World Store) (ms : List Message) (r : ℕ) (e : Entry Store) : Type 0 where
  store : r ≢ 0 → slice_get s2.ranks r ≡ Some e.now
  root : r ≡ 0 → slice_get s2.ranks r ≡ Some (record e.now { inbox = ms })
  first : e.sent 0 ≡ (w r).sent 0 ++ message_at (w r).now.outbox 0 ∷ []
  others : (b : ℕ) → b ≢ 0 → e.sent b ≡ (w r).sent b
  took_is : e.took ≡ (w r).took

root_box : (s : List Store) (number r : ℕ) (inbox : List Message) → number ≡ r → r ≢ 0 → root_inbox s number inbox ≡ inbox
root_box s zero r inbox e ne = absurd (ne (sym e))
root_box s (suc k) r inbox e ne = refl

root_first : (s : List Store) (number r : ℕ) (inbox : List Message) → number ≡ r → r ≡ 0 → root_inbox s number inbox ≡ map (λ y. message_at y.outbox 0) s
root_first s zero r inbox e z = refl
root_first s (suc k) r inbox e z = absurd (let h : suc k ≡ r = e in omega (arith, h, z))

empty_queue : (w : World Store) (a b : ℕ) → Empty w a b → length (queue w a b) ≡ 0
empty_queue w a b e = let l = length-drop ((w b).took a) ((w a).sent b) in omega (arith, l, e)

pub post_root_led : (code : Code) (tables : Tables) (room : Room) (n : ℕ) (s : State) (w : World Store) (held : Held code tables n s w) → kind_at code held.at.pos ≡ PostsRoot
    → Led code tables room n w PostsRoot (state (map (delivered_to_root s.ranks) s.ranks) s.out)
post_root_led code tables room n s w held is =
    let p = held.at.pos in
    let m = machine code tables room in
    let s2 = state (map (delivered_to_root s.ranks) s.ranks) s.out in
    let plain = plain_at code n s w held.at RootPacked (ap wants is) (λ r. refl) in
    let phase : wants (kind_at code (suc p)) ≡ RootPosted = next_phase code p PostsRoot held.form is (halts_not PostsRoot root_packed) in
    let ms = map (λ y. message_at y.outbox 0) s.ranks in
    let zero_lt : 0 < n = let h = held.some in omega (arith, h) in
    led_by code tables room n w PostsRoot (suc p) s2 (λ r f. SentRoot n s2 w ms r f) held.some (length-map s.ranks (delivered_to_root s.ranks) ∙ held.at.count)
    (λ r lt.
    let x = (w r).now in
    let at = held.at.ranks r lt in
    let y = moved (record x { outbox = set x.outbox 0 no_message }) in
    let message = message_at x.outbox 0 in
    let f = posted 0 message y (w r) in
    let acts = act_is code tables room x p PostsRoot at.on.position_is is in
    let none : length (queue w r 0) ≡ 0 = empty_queue w r 0 ((plain 0 zero_lt).empty r lt) in
    let d = does_is m n w r (network.Sends 0 message y) lt acts ∙ ap (λ b. cond b (Some f) None) (ap room.fits none ∙ room.some) in
    let there : IsAt n (suc p) r y =
    record { on = record { number_is = at.on.number_is; ranks_are = at.on.ranks_are; position_is = ap suc at.on.position_is; outbox_has = length-set x.outbox 0 no_message ∙ at.on.outbox_has; inbox_has = at.on.inbox_has }; sent_is = at.sent_is; got_is = at.got_is } in
    let listed = get_map (delivered_to_root s.ranks) s.ranks r x (plain r lt).store in (
      f,
      one_done code tables room n w (suc p) s2.out r f (held.placed r lt) d there (λ e. held.at.out ∙ ap (λ j. (w j).wrote) (sym e)),
      record {
        store = λ ne. listed ∙ ap (λ l. Some (record y { inbox = l })) (root_box s.ranks x.number r x.inbox at.on.number_is ne);
        root = λ z. listed ∙ ap (λ l. Some (record y { inbox = l })) (root_first s.ranks x.number r x.inbox at.on.number_is z);
        first = put_here (w r).sent 0 ((w r).sent 0 ++ message ∷ []);
        others = λ b ne. put_other (w r).sent 0 b ((w r).sent 0 ++ message ∷ []) ne;
        took_is = refl;
      },
    ))
    (λ v sent r lt.
    subst (λ ph. MailTo n s2 v r (expects ph r)) (sym phase) (root_mail s2 v r lt ms sent (length-map s.ranks (λ y. message_at y.outbox 0) ∙ held.at.count) (λ a la. outbox_at s.ranks w a 0 (let c = held.at.count in omega (arith, c, la)) (plain a la).store) (λ b lb a la. (plain b lb).empty a la)))
  where
    root_mail : (s2 : State) (v : World Store) (r : ℕ) → r < n → (ms : List Message) → ((r : ℕ) → r < n → SentRoot n s2 w ms r (v r)) → length ms ≡ n → ((a : ℕ) → a < n → get_or ms a no_message ≡ message_at (w a).now.outbox 0) → ((b : ℕ) → b < n → (a : ℕ) → a < n → Empty w a b) → MailTo n s2 v r (expects RootPosted r)
    root_mail s2 v zero lt ms sent count box empty =
        record {
          ms = ms;
          count = count;
          store = (sent 0 lt).root refl;
          waiting = λ a la.
              record { before = (w a).sent 0; sent_is = (sent a la).first ∙ ap (λ m. (w a).sent 0 ++ m ∷ []) (sym (box a la)); took_is = empty 0 lt a la ∙ sym (ap (λ f. f a) (sent 0 lt).took_is) };
        }
    root_mail s2 v (suc r) lt ms sent count box empty =
        let ne : suc r ≢ 0 = λ e. omega (arith, e) in
        record { store = (sent (suc r) lt).store ne; empty = λ a la. ap length ((sent a la).others (suc r) ne) ∙ empty (suc r) lt a la ∙ sym (ap (λ f. f a) (sent (suc r) lt).took_is) }

-- what a rank that has taken at the root has done
record GotRoot (n : ℕ) (s2 : State) (w : World Store) (r : ℕ) (e : Entry Store) : Type 0 where
  store : slice_get s2.ranks r ≡ Some e.now
  first : r ≡ 0 → (a : ℕ) → a < n → e.took a ≡ suc ((w r).took a)
  others : r ≢ 0 → e.took ≡ (w r).took
  sent_is : e.sent ≡ (w r).sent

pub take_root_led : (code : Code) (tables : Tables) (room : Room) (n : ℕ) (s : State) (w : World Store) (held : Held code tables n s w) → kind_at code held.at.pos ≡ TakesRoot → Led code tables room n w TakesRoot (state (map moved s.ranks) s.out)
take_root_led code tables room n s w held is =
    let p = held.at.pos in
    let m = machine code tables room in
    let s2 = state (map moved s.ranks) s.out in
    let zero_lt : 0 < n = let h = held.some in omega (arith, h) in
    let letters : Letters n s w 0 = letters_at code n s w held.at RootPosted 0 (ap wants is) refl zero_lt in
    let plain : (r : ℕ) → r < n → r ≢ 0 → Plain n s w r = λ r lt ne. other_plain r lt ne (subst (λ ph. MailTo n s w r (expects ph r)) (ap wants is) (held.at.mail r lt)) in
    let phase : wants (kind_at code (suc p)) ≡ RootTaken = next_phase code p TakesRoot held.form is (halts_not TakesRoot root_posted) in
    led_by code tables room n w TakesRoot (suc p) s2 (λ r f. GotRoot n s2 w r f) held.some (length-map s.ranks moved ∙ held.at.count)
    (λ r lt.
    let x = (w r).now in
    let at = held.at.ranks r lt in
    is_zero r
    (λ z.
    let acts : TakesFrom code tables room p r = λ y there number. act_is code tables room y p TakesRoot there is ∙ ap of_act (first_act r y.number (act.Gets y.got (after_take y)) y number z) in
    let g = take_each code tables room n s w held r lt acts (subst (Letters n s w) (sym z) letters) in
    (g.0, g.1, record { store = g.2.store; first = λ e a la. g.2.took_is a la; others = λ ne. absurd (ne z); sent_is = g.2.sent_is }))
    (λ ne.
    let f = gone (moved x) (w r) in
    let d = does_is m n w r (network.Goes (moved x)) lt (act_is code tables room x p TakesRoot at.on.position_is is ∙ ap of_act (other_act r x.number (act.Gets x.got (after_take x)) x at.on.number_is ne)) in
    let one = one_done code tables room n w (suc p) s2.out r f (held.placed r lt) d (moved_at n p r x at) (λ e. absurd (ne e)) in (
      f,
      record { cost = one.cost; within = let a = one.within in let h = held.some in omega (arith, a, h); some = one.some; alone = one.alone; at = one.at; out_is = one.out_is },
      record { store = get_map moved s.ranks r x (plain r lt ne).store; first = λ e. absurd (ne e); others = λ e. refl; sent_is = refl },
    )))
    (λ v got r lt.
    subst (λ ph. MailTo n s2 v r (expects ph r)) (sym phase)
    (record {
      store = (got r lt).store;
      empty = λ a la.
          is_zero r
          (λ z. taken_empty w v a r (get_or letters.ms a no_message) (subst (λ j. One w a j (get_or letters.ms a no_message)) (sym z) (letters.waiting a la)) (ap (λ f. f r) (got a la).sent_is) ((got r lt).first z a la))
          (λ ne. ap (λ f. length (f r)) (got a la).sent_is ∙ (plain r lt ne).empty a la ∙ sym (ap (λ f. f a) ((got r lt).others ne)));
    }))
  where
    other_plain : (r : ℕ) → r < n → r ≢ 0 → MailTo n s w r (expects RootPosted r) → Plain n s w r
    other_plain zero lt ne mail = absurd (ne refl)
    other_plain (suc r) lt ne mail = mail
