-- Where runs end: all ranks have halted, each has to wait, or a rank traps; and what the others do once one is to trap.
use Rattle.std.proofs.Common.{◌≡◌, ◌≢◌, ◌∙◌, refl, sym, subst, ap, arith, ℕ, zero, suc, ◌<◌, ◌≤◌, ltb, ltb-true, ltb-false, Bool, true, false, cond, List, [], ◌∷◌, ◌++◌, get_or, length, length-drop, slice_get, Option, Some, None, ◌⊎◌, inl, inr}
use Rattle.std.proofs.lemmas.List.{drop_all}
use Rattle.hp_word.specs.declared.place.Trap.{Trap}
use Rattle.hp_word.specs.declared.table.Message.{Message}
use Rattle.hp_network.specs.Network.{Act, HasHalted, Trips, Goes, Sends, Gets, Prints, Room, Machine, State, IsHalt, HasEnded, Waits, IsStuck, done, done_at, unless_trapped, turn, run}
use Rattle.hp_network.proofs.Worlds.{Entry, World, queue, posted, got_from, does_by, does, next, after, put_all, Below, below_same, below_trans}
use Rattle.hp_network.proofs.Joins.{Reaches, reaches_below, reaches_next, below_next, next_none, next_some, join, IsQuiet, blocked_stays}
use Rattle.hp_network.proofs.Rounds.{IsIn}
use Rattle.hp_network.proofs.States.{IsOf, KeepsRanks, Turned, went, trapped, turn_is, run_trapped, run_more, some_none}

-- ---- who cannot move

none_if : {X : Type 0} (b : Bool) (o : Option (Entry X)) → o ≡ None → cond b o None ≡ None
none_if true o q = q
none_if false o q = refl

halt_none : {X : Type 0} (room : Room) (from : ℕ → List Message) (to : ℕ → ℕ) (act : Act X) (e : Entry X) → IsHalt act → does_by room from to act e ≡ None
halt_none room from to HasHalted e h = refl
halt_none room from to _ e h = absurd h

-- a rank that has halted cannot move
pub halt_stops : {X : Type 0} (m : Machine X) (n : ℕ) (w : World X) (r : ℕ) → IsHalt (m.act (w r).now) → does m n w r ≡ None
unfolding does
halt_stops m n w r h =
    let from : ℕ → List Message = λ k. queue w k r in
    let to : ℕ → ℕ = λ k. length (queue w r k) in
    none_if (ltb r n) (does_by m.room from to (m.act (w r).now) (w r)) (halt_none m.room from to (m.act (w r).now) (w r) h)

-- nor can one that is to trap
pub trap_stops : {X : Type 0} (m : Machine X) (n : ℕ) (w : World X) (r : ℕ) (t : Trap) → m.act (w r).now ≡ Trips t → does m n w r ≡ None
unfolding does
trap_stops m n w r t h =
    let from : ℕ → List Message = λ k. queue w k r in
    let to : ℕ → ℕ = λ k. length (queue w r k) in
    none_if (ltb r n) (does_by m.room from to (m.act (w r).now) (w r)) (ap (λ a. does_by m.room from to a (w r)) h)

-- all of n ranks have halted
abbrev pub AllHalt : {X : Type 0} → Machine X → ℕ → World X → Type 0
AllHalt m n w = (r : ℕ) → r < n → IsHalt (m.act (w r).now)

-- what a rank cannot do that is not among them
pub past_stops : {X : Type 0} (m : Machine X) (n : ℕ) (w : World X) (r : ℕ) → n ≤ r → does m n w r ≡ None
unfolding does
past_stops {X = X} m n w r le = by (ltb r n) refl (does_by m.room (λ k. queue w k r) (λ k. length (queue w r k)) (m.act (w r).now) (w r))
  where
    by : (b : Bool) → ltb r n ≡ b → (o : Option (Entry X)) → cond b o None ≡ None
    by true q o = absurd (let h = ltb-true r n q in omega (arith, h, le))
    by false q o = refl

pub quiet_if : {X : Type 0} (m : Machine X) (n : ℕ) (w : World X) → ((r : ℕ) → r < n → does m n w r ≡ None) → IsQuiet m n w
quiet_if m n w h r = by (ltb r n) refl
  where
    by : (b : Bool) → ltb r n ≡ b → does m n w r ≡ None
    by true q = h r (ltb-true r n q)
    by false q = past_stops m n w r (let g = ltb-false r n q in omega (arith, g))

pub halted_quiet : {X : Type 0} (m : Machine X) (n : ℕ) (w : World X) → AllHalt m n w → IsQuiet m n w
halted_quiet m n w h = quiet_if m n w (λ r lt. halt_stops m n w r (h r lt))

wait_none : {X : Type 0} (m : Machine X) (n : ℕ) (own : ℕ → X → Type 0) (s : State X) (w : World X) (r : ℕ) (act : Act X) → IsOf n own s w → IsHalt act ⊎ Waits m s r act → does_by m.room (λ k. queue w k r) (λ k. length (queue w r k)) act (w r) ≡ None
wait_none m n own s w r HasHalted is h = refl
wait_none m n own s w r (Trips t) is h = refl
wait_none m n own s w r (Goes x) is (inl h) = absurd h
wait_none m n own s w r (Goes x) is (inr h) = absurd h
wait_none m n own s w r (Sends to message x) is (inl h) = absurd h
wait_none m n own s w r (Sends to message x) is (inr h) =
    ap (λ b. cond b (Some (posted to message x (w r))) None) (ap (λ q. m.room.fits (length q)) (sym (is.queues r to)) ∙ h)
wait_none m n own s w r (Gets sender f) is (inl h) = absurd h
wait_none m n own s w r (Gets sender f) is (inr h) = ap (λ q. got_from q sender f (w r)) (sym (is.queues sender r) ∙ h)
wait_none m n own s w r (Prints text x) is (inl h) = absurd h
wait_none m n own s w r (Prints text x) is (inr h) = absurd h

-- nor can any in a state that is stuck
pub stuck_quiet : {X : Type 0} (m : Machine X) (n : ℕ) (own : ℕ → X → Type 0) (s : State X) (w : World X) → IsOf n own s w → IsStuck m s → IsQuiet m n w
unfolding does
stuck_quiet m n own s w is stuck =
    quiet_if m n w
    (λ r lt. none_if (ltb r n) (does_by m.room (λ k. queue w k r) (λ k. length (queue w r k)) (m.act (w r).now) (w r)) (wait_none m n own s w r (m.act (w r).now) is (stuck.waits r (w r).now (is.ranks r lt))))

-- and none of them is to trap
pub stuck_sound : {X : Type 0} (m : Machine X) (n : ℕ) (own : ℕ → X → Type 0) (s : State X) (w : World X) → IsOf n own s w → IsStuck m s → (r : ℕ) (t : Trap) → r < n → m.act (w r).now ≡ Trips t → ⊥
stuck_sound {X = X} m n own s w is stuck r t lt e = by (m.act (w r).now) (stuck.waits r (w r).now (is.ranks r lt)) e
  where
    by : (act : Act X) → IsHalt act ⊎ Waits m s r act → act ≡ Trips t → ⊥
    by HasHalted h q = absurd (differ q)
      where
        halted : Act X
        halted = HasHalted

        differ : halted ≡ Trips t → ⊥
        differ p = cc
    by (Trips u) (inl h) q = absurd h
    by (Trips u) (inr h) q = absurd h
    by (Goes x) (inl h) q = absurd h
    by (Goes x) (inr h) q = absurd h
    by (Sends to message x) (inl h) q = absurd h
    by (Sends to message x) (inr h) q = absurd (differ q)
      where
        differ : Sends to message x ≡ Trips t → ⊥
        differ p = cc
    by (Gets sender f) (inl h) q = absurd h
    by (Gets sender f) (inr h) q = absurd (differ q)
      where
        differ : Gets sender f ≡ Trips t → ⊥
        differ p = cc
    by (Prints text x) (inl h) q = absurd h
    by (Prints text x) (inr h) q = absurd h

-- a rank that is to trap has not halted
pub trips_not_halted : {X : Type 0} (act : Act X) (t : Trap) → act ≡ Trips t → IsHalt act → ⊥
trips_not_halted act t q h = subst IsHalt q h

-- ---- lists of ranks

pub get_at : {A : Type 0} (xs : List A) (k : ℕ) (d x : A) → slice_get xs k ≡ Some x → get_or xs k d ≡ x
get_at [] k d x q = absurd (differ q)
  where
    differ : None ≡ Some x → ⊥
    differ p = cc
get_at (y ∷ ys) zero d x q = same q
  where
    same : Some y ≡ Some x → y ≡ x
    same p = cc
get_at (y ∷ ys) (suc k) d x q = get_at ys k d x q

pub get_same : {A : Type 0} (xs ys : List A) → length xs ≡ length ys → ((k : ℕ) → k < length xs → slice_get xs k ≡ slice_get ys k) → xs ≡ ys
get_same [] [] e h = refl
get_same [] (y ∷ ys) e h = absurd (omega (arith, e))
get_same (x ∷ xs) [] e h = absurd (omega (arith, e))
get_same (x ∷ xs) (y ∷ ys) e h =
    let first : Some x ≡ Some y = h 0 (omega arith) in
    ap (λ z. z ∷ xs) (same first) ∙ ap (λ zs. y ∷ zs) (get_same xs ys (omega (arith, e)) (λ k lt. h (suc k) (omega (arith, lt))))
  where
    same : Some x ≡ Some y → x ≡ y
    same p = cc

-- states of one world have the same ranks
pub one_ranks : {X : Type 0} (n : ℕ) (xs ys : List X) (w : World X) → length xs ≡ n → length ys ≡ n → ((r : ℕ) → r < n → slice_get xs r ≡ Some (w r).now) → ((r : ℕ) → r < n → slice_get ys r ≡ Some (w r).now) → xs ≡ ys
one_ranks n xs ys w p q h g = get_same xs ys (p ∙ sym q) (λ k lt. let l : k < n = omega (arith, lt, p) in h k l ∙ sym (g k l))

pub ended_halts : {X : Type 0} (m : Machine X) (n : ℕ) (own : ℕ → X → Type 0) (s : State X) (w : World X) → IsOf n own s w → HasEnded m s → AllHalt m n w
ended_halts m n own s w is h r lt = subst (λ x. IsHalt (m.act x)) (get_at s.ranks r (w r).now (w r).now (is.ranks r lt)) (h r (w r).now (let c = is.count in omega (arith, c, lt)))

pub halts_ended : {X : Type 0} (m : Machine X) (n : ℕ) (own : ℕ → X → Type 0) (s : State X) (w : World X) → IsOf n own s w → AllHalt m n w → HasEnded m s
halts_ended m n own s w is h r d lt =
    let l : r < n = let c = is.count in omega (arith, c, lt) in
    subst (λ x. IsHalt (m.act x)) (sym (get_at s.ranks r d (w r).now (is.ranks r l))) (h r l)

-- ---- a rank that is to trap

-- it has moved at least as often as in any other world
pub trips_top : {X : Type 0} (m : Machine X) (n : ℕ) (o x v : World X) (r : ℕ) (t : Trap) → Reaches m n o x → Reaches m n o v → m.act (x r).now ≡ Trips t → (v r).moves ≤ (x r).moves
trips_top m n o x v r t p q e =
    let j = join m n o x v p q in
    let here : (j.at r) ≡ x r = sym (ap (λ (z : World _). z r) j.left.comes) ∙ blocked_stays m n x r (λ z g. trap_stops m n z r t (ap (λ d. m.act d.now) g ∙ e)) j.left.turns in
    let most = j.moves r in
    let same = ap (λ d. d.moves) here in
    omega (arith, most, same)

pub trips_stays : {X : Type 0} (m : Machine X) (n : ℕ) (x y : World X) (r : ℕ) (t : Trap) → Reaches m n x y → m.act (x r).now ≡ Trips t → y r ≡ x r
trips_stays m n x y r t p e = sym (ap (λ (z : World _). z r) p.comes) ∙ blocked_stays m n x r (λ z g. trap_stops m n z r t (ap (λ d. m.act d.now) g ∙ e)) p.turns

-- What the others do then: without a message from rank t, and with no output.
abbrev pub KeepsPast : {X : Type 0} → (ℕ → X → Type 0) → (t r : ℕ) → Act X → Type 0
KeepsPast past t r HasHalted = Unit {0}
KeepsPast past t r (Trips trap) = Unit {0}
KeepsPast past t r (Goes x) = past r x
KeepsPast past t r (Sends to message x) = past r x
KeepsPast past t r (Gets sender f) = sender ≢ t → (message : Message) → past r (f message)
KeepsPast past t r (Prints text x) = ⊥

-- rank t is to trap in v, all that it posted is taken, and what is claimed of each rank is kept by what it does
pub record Stopped {X : Type 0} (m : Machine X) (n : ℕ) (past : ℕ → X → Type 0) (v : World X) (t : ℕ) : Type 0 where
  pub trap : Trap
  pub trips : m.act (v t).now ≡ Trips trap
  pub among : t < n
  pub empty : (k : ℕ) → k < n → queue v t k ≡ []
  pub here : (r : ℕ) → r < n → past r (v r).now
  pub keeps : (r : ℕ) (x : X) → r < n → past r x → KeepsPast past t r (m.act x)

abbrev PastTo : {X : Type 0} → (ℕ → X → Type 0) → ℕ → Entry X → Option (Entry X) → Type 0
PastTo past r e None = Unit {0}
PastTo past r e (Some f) = past r f.now × (f.wrote ≡ e.wrote)

past_if : {X : Type 0} (past : ℕ → X → Type 0) (r : ℕ) (e : Entry X) (b : Bool) (o : Option (Entry X)) → PastTo past r e o → PastTo past r e (cond b o None)
past_if past r e true o h = h
past_if past r e false o h = tt

past_got : {X : Type 0} (past : ℕ → X → Type 0) (t r k : ℕ) (e : Entry X) (f : Message → X) (q : List Message) → (q ≢ [] → k ≢ t) → (k ≢ t → (message : Message) → past r (f message)) → PastTo past r e (got_from q k f e)
past_got past t r k e f [] some h = tt
past_got past t r k e f (message ∷ rest) some h = (h (some (λ p. differ p)) message, refl)
  where
    differ : message ∷ rest ≡ [] → ⊥
    differ p = cc

past_by : {X : Type 0} (past : ℕ → X → Type 0) (t r : ℕ) (room : Room) (from : ℕ → List Message) (to : ℕ → ℕ) (act : Act X) (e : Entry X) → from t ≡ [] → KeepsPast past t r act → PastTo past r e (does_by room from to act e)
past_by past t r room from to HasHalted e none h = tt
past_by past t r room from to (Trips trap) e none h = tt
past_by past t r room from to (Goes x) e none h = (h, refl)
past_by past t r room from to (Sends k message x) e none h = past_if past r e (room.fits (to k)) (Some (posted k message x e)) (h, refl)
past_by past t r room from to (Gets k f) e none h = past_got past t r k e f (from k) (λ some same. some (ap from same ∙ none)) h
past_by past t r room from to (Prints text x) e none h = absurd h

record PastAll {X : Type 0} (m : Machine X) (n : ℕ) (past : ℕ → X → Type 0) (v : World X) (t : ℕ) (y : World X) : Type 0 where
  stays : y t ≡ v t
  below : Below v y
  past_is : (r : ℕ) → r < n → past r (y r).now
  wrote : (r : ℕ) → r < n → (y r).wrote ≡ (v r).wrote

past_does : {X : Type 0} (m : Machine X) (n : ℕ) (past : ℕ → X → Type 0) (v : World X) (t : ℕ) (y : World X) (r : ℕ) → Stopped m n past v t → PastAll m n past v t y → r < n → PastTo past r (y r) (does m n y r)
unfolding does
past_does m n past v t y r s a lt =
    let from : ℕ → List Message = λ k. queue y k r in
    let to : ℕ → ℕ = λ k. length (queue y r k) in
    let none : from t ≡ [] =
    let l = length-drop ((v r).took t) ((v t).sent r) in
    let z = ap length (s.empty r lt) in
    let g = (a.below r).took t in
    let e = ap (λ d. length (d.sent r)) a.stays in
    drop_all ((y r).took t) ((y t).sent r) (omega (arith, l, z, g, e)) in
    past_if past r (y r) (ltb r n) (does_by m.room from to (m.act (y r).now) (y r)) (past_by past t r m.room from to (m.act (y r).now) (y r) none (s.keeps r (y r).now lt (a.past_is r lt)))

past_next : {X : Type 0} (m : Machine X) (n : ℕ) (past : ℕ → X → Type 0) (v : World X) (t : ℕ) (y : World X) (r : ℕ) → Stopped m n past v t → PastAll m n past v t y → PastAll m n past v t (next m n y r)
past_next {X = X} m n past v t y r s a = by (does m n y r) refl
  where
    by : (o : Option (Entry X)) → does m n y r ≡ o → PastAll m n past v t (next m n y r)
    by None q = subst (PastAll m n past v t) (sym (next_none m n y r q)) a
    by (Some e) q = among (ltb r n) refl
      where
        differ : None ≡ Some e → ⊥
        differ p = cc

        among : (b : Bool) → ltb r n ≡ b → PastAll m n past v t (next m n y r)
        among false c = absurd (differ (sym (past_stops m n y r (let h = ltb-false r n c in omega (arith, h))) ∙ q))
        among true c =
            let lt = ltb-true r n c in
            let h = subst (PastTo past r (y r)) q (past_does m n past v t y r s a lt) in
            let stop : does m n y t ≡ None = trap_stops m n y t s.trap (ap (λ d. m.act d.now) a.stays ∙ s.trips) in
            let z = next_some m n y r e q in
            record {
              stays = ap (λ (u : World _). u t) z ∙ put_all (λ d. d ≡ v t) y r e t (λ g. absurd (differ (sym stop ∙ ap (does m n y) g ∙ q))) (λ g. a.stays);
              below = below_trans v y (next m n y r) a.below (below_next m n y r);
              past_is = λ k lk. subst (λ (u : World _). past k (u k).now) (sym z) (put_all (λ d. past k d.now) y r e k (λ g. subst (λ j. past j e.now) (sym g) h.0) (λ g. a.past_is k lk));
              wrote = λ k lk. subst (λ (u : World _). (u k).wrote ≡ (v k).wrote) (sym z) (put_all (λ d. d.wrote ≡ (v k).wrote) y r e k (λ g. h.1 ∙ ap (λ j. (y j).wrote) (sym g) ∙ a.wrote k lk) (λ g. a.wrote k lk));
            }

past_after : {X : Type 0} (m : Machine X) (n : ℕ) (past : ℕ → X → Type 0) (v : World X) (t : ℕ) → Stopped m n past v t → (rs : List ℕ) (y : World X) → PastAll m n past v t y → PastAll m n past v t (after m n y rs)
unfolding after
past_after m n past v t s [] y a = a
past_after m n past v t s (r ∷ rs) y a = past_after m n past v t s rs (next m n y r) (past_next m n past v t y r s a)

past_all : {X : Type 0} (m : Machine X) (n : ℕ) (past : ℕ → X → Type 0) (v y : World X) (t : ℕ) → Stopped m n past v t → Reaches m n v y → PastAll m n past v t y
past_all m n past v y t s p =
    subst (PastAll m n past v t) p.comes (past_after m n past v t s p.turns v (record { stays = refl; below = below_same v; past_is = s.here; wrote = λ r lt. refl }))

-- what is claimed of a rank that has moved on from a world in which rank t is to trap
pub past_there : {X : Type 0} (m : Machine X) (n : ℕ) (past : ℕ → X → Type 0) (o v x : World X) (t r : ℕ) → Stopped m n past v t → Reaches m n o v → Reaches m n o x → r < n → (v r).moves ≤ (x r).moves → past r (x r).now
past_there m n past o v x t r s p q lt le =
    let j = join m n o x v q p in
    let most = j.moves r in
    let here : j.at r ≡ x r = (reaches_below m n x j.at j.left r).same (omega (arith, most, le)) in
    subst (λ d. past r d.now) here ((past_all m n past v j.at t s j.right).past_is r lt)

-- and it has written nothing
pub wrote_there : {X : Type 0} (m : Machine X) (n : ℕ) (past : ℕ → X → Type 0) (o v x : World X) (t r : ℕ) → Stopped m n past v t → Reaches m n o v → Reaches m n o x → r < n → (v r).moves ≤ (x r).moves → (x r).wrote ≡ (v r).wrote
wrote_there m n past o v x t r s p q lt le =
    let j = join m n o x v q p in
    let most = j.moves r in
    let here : j.at r ≡ x r = (reaches_below m n x j.at j.left r).same (omega (arith, most, le)) in
    subst (λ d. d.wrote ≡ (v r).wrote) here ((past_all m n past v j.at t s j.right).wrote r lt)

-- ---- turns of a rank that is to trap

trips_turn : {X : Type 0} (m : Machine X) (n : ℕ) (own : ℕ → X → Type 0) (s : State X) (w : World X) (t : ℕ) (u : Trap) → t < n → s.trap ≡ None → IsOf n own s w → m.act (w t).now ≡ Trips u → (turn m s t).trap ≡ Some u
unfolding turn
trips_turn m n own s w t u lt none is e =
    ap (λ o. (unless_trapped o s (done_at (slice_get s.ranks t) m s t)).trap) none
    ∙ ap (λ o. (done_at o m s t).trap) (is.ranks t lt)
    ∙ ap (λ a. (done a m s t).trap) e

-- A run that has a turn of it traps.
pub run_trips : {X : Type 0} (m : Machine X) (n : ℕ) (own : ℕ → X → Type 0) → KeepsRanks m own → (t : ℕ) (u : Trap) → t < n → (rs : List ℕ) → IsIn t rs → (s : State X) (w : World X) → s.trap ≡ None → IsOf n own s w → m.act (w t).now ≡ Trips u → (run m s rs).trap ≡ None → ⊥
unfolding run
run_trips m n own keeps t u lt [] i s w none is e q = i
run_trips m n own keeps t u lt (r ∷ rs) (inl h) s w none is e q =
    let first : (turn m s r).trap ≡ Some u = subst (λ k. (turn m s k).trap ≡ Some u) (sym h) (trips_turn m n own s w t u lt none is e) in
    some_none (run m (turn m s r) rs).trap u (ap (λ z. z.trap) (run_trapped m (turn m s r) u first rs) ∙ first) q
run_trips m n own keeps t u lt (r ∷ rs) (inr i) s w none is e q = by (turn_is m n own s w r none is keeps) (λ a b c. run_trips m n own keeps t u lt rs i (turn m s r) (next m n w r) a b c q)
  where
    by : Turned m n own (turn m s r) w (next m n w r) r → ((turn m s r).trap ≡ None → IsOf n own (turn m s r) (next m n w r) → m.act (next m n w r t).now ≡ Trips u → ⊥) → ⊥
    by (went a b) more = more a b (ap (λ d. m.act d.now) (trips_stays m n w (next m n w r) t u (reaches_next m n w r) e) ∙ e)
    by (trapped v a b l c) more = some_none (run m (turn m s r) rs).trap v (ap (λ z. z.trap) (run_trapped m (turn m s r) v a rs) ∙ a) q

-- a run in which no rank has trapped is one in which none had trapped
pub front_goes : {X : Type 0} (m : Machine X) (rs ss : List ℕ) (s : State X) → (run m s (rs ++ ss)).trap ≡ None → (run m s rs).trap ≡ None
front_goes m rs ss s q = by (run m s rs).trap refl
  where
    by : (o : Option Trap) → (run m s rs).trap ≡ o → (run m s rs).trap ≡ None
    by None e = e
    by (Some u) e = some_none (run m s (rs ++ ss)).trap u (ap (λ z. z.trap) (run_more m rs ss s ∙ run_trapped m (run m s rs) u e ss) ∙ e) q
