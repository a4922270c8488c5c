-- A run of the lockstep is a course of the ranks.
use Rattle.std.proofs.Common.{◌≡◌, ◌∙◌, refl, sym, subst, ap, arith, ℕ, zero, suc, ◌+◌, ◌<◌, ◌≤◌, List, [], ◌∷◌, length, Some, slice_get, true, false, Bool}
use Rattle.std.specs.List.{All}
use Rattle.hp_word.specs.declared.place.Trap.{Trap}
use Rattle.hp_word.specs.declared.table.Tables.{Tables}
use Rattle.hp_network.specs.Network as network
use Rattle.hp_network.specs.Network.{Room, Machine, IsHalt}
use Rattle.hp_network.proofs.Worlds.{World}
use Rattle.hp_network.proofs.Alone.{Course, cost_of}
use Rattle.hp_network.proofs.Ends.{AllHalt, get_at}
use Rattle.hp_spmd.specs.declared.code.Code.{Code}
use Rattle.hp_spmd.specs.declared.instr.Packing.{Packing}
use Rattle.hp_spmd.specs.declared.instr.Packing.TheVariants.{Gather}
use Rattle.hp_spmd.specs.declared.store.Store.{Store}
use Rattle.hp_spmd.specs.Act.{act_by, of_next}
use Rattle.hp_spmd.specs.Exchanges.{Phase, Outside, Taken, HasForm, wants, packs}
use Rattle.hp_spmd.specs.Kinds.{Kind, Computes, Jumps, Packs, Posts, Takes, PostsRoot, TakesRoot, Unpacks, Writes, Halts, kind_of}
use Rattle.hp_spmd.specs.Lockstep.{State, state, Step, Steps, Trips, Ends, Together, One as OneTrap, with_first, joined_to, together, of_together, position_of, step, step_by, Reached, Ended, Trapped, Limit, at_limit, go_on, run_by, state_of, first_state}
use Rattle.hp_spmd.specs.Lockstep as lock
use Rattle.hp_spmd.specs.Local.{alone, computed, pack_done}
use Rattle.hp_spmd.specs.Next.{Next, Goes, Traps}
use Rattle.hp_spmd.specs.Spread.{IsPlaced}
use Rattle.hp_spmd.specs.Store.{instr_at}
use Rattle.hp_turns.specs.Apart.{Agree, AgreeBy, paid, paid_then, price}
use Rattle.hp_turns.specs.Turns.{machine, of_act}
use Rattle.hp_turns.proofs.Acts.{kind_at, next_at, act_is}
use Rattle.hp_turns.proofs.Tied.{expects, Plain, MailTo, At, at_position, plain_at, Led}
use Rattle.hp_turns.proofs.Stages.{Held, together_led, jump_led, of_together_is, steps_same}
use Rattle.hp_turns.proofs.Mail.{write_led, post_led, take_led, post_root_led, take_root_led}

-- ---- one step

packs_none : (what : Packing) (r : ℕ) → expects (packs what) r ≡ false
packs_none (Gather output) r = refl
packs_none _ r = refl

ends_not : {A : Type 0} (s : State) → Ends ≡ Steps s → A
ends_not s q = absurd (differ q)
  where
    differ : Ends ≡ Steps s → ⊥
    differ p = cc

computes_halts : Computes ≡ Halts → ⊥
computes_halts e = cc

packs_halts : (what : Packing) → Packs what ≡ Halts → ⊥
packs_halts what e = cc

unpacks_halts : (what : _) → Unpacks what ≡ Halts → ⊥
unpacks_halts what e = cc

led_kind : (code : Code) (tables : Tables) (room : Room) (n : ℕ) (s s2 : State) (w : World Store) (k : Kind) (held : Held code tables n s w) → kind_at code held.at.pos ≡ k → AgreeBy k (next_at code tables held.at.pos) s.ranks
    → step_by k (next_at code tables held.at.pos) s ≡ Steps s2 → Led code tables room n w k s2
led_kind code tables room n s s2 w Computes held is agree e =
    together_led code tables room n s s2 w Computes tt refl held is Outside refl (λ r. refl) (λ r. refl) computes_halts (of_together_is (next_at code tables held.at.pos) s s2 e)
led_kind code tables room n s s2 w (Jumps target unless) held is agree e = subst (Led code tables room n w (Jumps target unless)) (steps_same _ s2 e) (jump_led code tables room n s w target unless held is agree)
led_kind code tables room n s s2 w (Packs what) held is agree e =
    together_led code tables room n s s2 w (Packs what) tt refl held is (packs what) refl (packs_none what) (λ r. refl) (packs_halts what) (of_together_is (next_at code tables held.at.pos) s s2 e)
led_kind code tables room n s s2 w Posts held is agree e = subst (Led code tables room n w Posts) (steps_same _ s2 e) (post_led code tables room n s w held is)
led_kind code tables room n s s2 w Takes held is agree e = subst (Led code tables room n w Takes) (steps_same _ s2 e) (take_led code tables room n s w held is)
led_kind code tables room n s s2 w PostsRoot held is agree e = subst (Led code tables room n w PostsRoot) (steps_same _ s2 e) (post_root_led code tables room n s w held is)
led_kind code tables room n s s2 w TakesRoot held is agree e = subst (Led code tables room n w TakesRoot) (steps_same _ s2 e) (take_root_led code tables room n s w held is)
led_kind code tables room n s s2 w (Unpacks what) held is agree e =
    together_led code tables room n s s2 w (Unpacks what) tt refl held is Outside refl (λ r. refl) (λ r. refl) (unpacks_halts what) (of_together_is (next_at code tables held.at.pos) s s2 e)
led_kind code tables room n s s2 w (Writes output) held is agree e = subst (Led code tables room n w (Writes output)) (steps_same _ s2 e) (write_led code tables room n s w output held is)
led_kind code tables room n s s2 w Halts held is agree e = ends_not s2 e

-- the step of the lockstep is that of the instruction at which all ranks are
pub step_is : (code : Code) (tables : Tables) (n : ℕ) (s : State) (w : World Store) (held : Held code tables n s w) → step code tables s ≡ step_by (kind_at code held.at.pos) (next_at code tables held.at.pos) s
unfolding step
step_is code tables n s w held = ap (λ p. step_by (kind_at code p) (next_at code tables p) s) (at_position code n s w held.some held.at)

pub step_led : (code : Code) (tables : Tables) (room : Room) (n : ℕ) (s s2 : State) (w : World Store) (held : Held code tables n s w) → Agree code tables s.ranks → step code tables s ≡ Steps s2 → Led code tables room n w (kind_at code held.at.pos) s2
step_led code tables room n s s2 w held agree e =
    let p = at_position code n s w held.some held.at in
    led_kind code tables room n s s2 w (kind_at code held.at.pos) held refl (subst (λ q. AgreeBy (kind_at code q) (next_at code tables q) s.ranks) p agree) (sym (step_is code tables n s w held) ∙ e)

-- ---- where the lockstep ends or traps

pub ends_halts : (code : Code) (tables : Tables) (room : Room) (n : ℕ) (s : State) (w : World Store) (held : Held code tables n s w) → step code tables s ≡ Ends → AllHalt (machine code tables room) n w
ends_halts code tables room n s w held e = by (kind_at code held.at.pos) refl (sym (step_is code tables n s w held) ∙ e)
  where
    together_not : (t : Together) (out : List ℕ) → of_together t out ≡ Ends → ⊥
    together_not (lock.All xs) out q = absurd (differ q)
      where
        differ : Steps (state xs out) ≡ Ends → ⊥
        differ p = cc
    together_not (OneTrap t) out q = absurd (differ q)
      where
        differ : Trips t ≡ Ends → ⊥
        differ p = cc

    steps_not : (u : State) → Steps u ≡ Ends → ⊥
    steps_not u q = cc

    by : (k : Kind) → kind_at code held.at.pos ≡ k → step_by k (next_at code tables held.at.pos) s ≡ Ends → AllHalt (machine code tables room) n w
    by Computes is q = absurd (together_not _ _ q)
    by (Jumps target unless) is q = absurd (steps_not _ q)
    by (Packs what) is q = absurd (together_not _ _ q)
    by Posts is q = absurd (steps_not _ q)
    by Takes is q = absurd (steps_not _ q)
    by PostsRoot is q = absurd (steps_not _ q)
    by TakesRoot is q = absurd (steps_not _ q)
    by (Unpacks what) is q = absurd (together_not _ _ q)
    by (Writes output) is q = absurd (steps_not _ q)
    by Halts is q = λ r lt. subst IsHalt (sym (act_is code tables room (w r).now held.at.pos Halts (held.at.ranks r lt).on.position_is is)) tt

-- the instructions by which a rank may trap
abbrev pub MayTrap : Kind → Type 0
MayTrap Computes = Unit {0}
MayTrap (Unpacks what) = Unit {0}
MayTrap _ = ⊥

-- The lockstep traps here: a rank does, by an instruction that may trap, and no message waits.
pub record TrapHere (code : Code) (tables : Tables) (room : Room) (n : ℕ) (s : State) (w : World Store) : Type 0 where
  pub rank : ℕ
  pub among : rank < n
  pub trap : Trap
  pub trips : (machine code tables room).act (w rank).now ≡ network.Trips trap
  pub place : ℕ
  pub there : (r : ℕ) → r < n → (w r).now.position ≡ place
  pub may : MayTrap (kind_at code place)
  pub agree : AgreeBy (kind_at code place) (next_at code tables place) s.ranks
  pub count : length s.ranks ≡ n
  pub plain : (r : ℕ) → r < n → Plain n s w r

record OneTraps (f : Store → Next) (xs : List Store) : Type 0 where
  place : ℕ
  inside : place < length xs
  store : Store
  listed : slice_get xs place ≡ Some store
  trap : Trap
  traps : f store ≡ Traps trap

one_traps : (f : Store → Next) (xs : List Store) (t : Trap) → together f xs ≡ OneTrap t → OneTraps f xs
one_traps f [] t q = absurd (differ q)
  where
    differ : lock.All [] ≡ OneTrap t → ⊥
    differ p = cc
one_traps f (x ∷ xs) t q = by (f x) refl (together f xs) refl (λ u p. one_traps f xs u p)
  where
    shift : OneTraps f xs → OneTraps f (x ∷ xs)
    shift o = record { place = suc o.place; inside = let h = o.inside in omega (arith, h); store = o.store; listed = o.listed; trap = o.trap; traps = o.traps }

    all_not : (ys : List Store) → joined_to (f x) (together f xs) ≡ lock.All ys → OneTraps f (x ∷ xs)
    all_not ys e = absurd (differ (sym e ∙ q))
      where
        differ : lock.All ys ≡ OneTrap t → ⊥
        differ p = cc

    by : (next : Next) → f x ≡ next → (rest : Together) → together f xs ≡ rest → ((u : Trap) → together f xs ≡ OneTrap u → OneTraps f xs) → OneTraps f (x ∷ xs)
    by (Traps u) e rest p more = record { place = 0; inside = omega arith; store = x; listed = refl; trap = u; traps = e }
    by (Goes y) e (OneTrap u) p more = shift (more u p)
    by (Goes y) e (lock.All ys) p more = all_not (y ∷ ys) (ap (λ z. joined_to z (together f xs)) e ∙ ap (joined_to (Goes y)) p)

pack_traps : {A : Type 0} (code : Code) (tables : Tables) (p : ℕ) (what : Packing) (x : Store) (t : Trap) → kind_at code p ≡ Packs what → next_at code tables p x ≡ Traps t → A
pack_traps code tables p what x t is e = absurd (differ (sym (ap (λ k. alone code.arrays k (computed code.arrays tables x.number x.ranks (instr_at code.list p)) x) is) ∙ e))
  where
    differ : Goes (pack_done code.arrays what x) ≡ Traps t → ⊥
    differ q = cc

pub trips_traps : (code : Code) (tables : Tables) (room : Room) (n : ℕ) (s : State) (w : World Store) (t : Trap) (held : Held code tables n s w) → Agree code tables s.ranks → step code tables s ≡ Trips t → TrapHere code tables room n s w
trips_traps code tables room n s w t held agree e = by (kind_at code held.at.pos) refl (sym (step_is code tables n s w held) ∙ e)
  where
    p : ℕ
    p = held.at.pos

    f : Store → Next
    f = next_at code tables held.at.pos

    together_one : (u : Together) (out : List ℕ) → of_together u out ≡ Trips t → u ≡ OneTrap t
    together_one (lock.All xs) out q = absurd (differ q)
      where
        differ : Steps (state xs out) ≡ Trips t → ⊥
        differ p = cc
    together_one (OneTrap u) out q = ap OneTrap (same q)
      where
        same : Trips u ≡ Trips t → u ≡ t
        same p = cc

    steps_not : (u : State) → Steps u ≡ Trips t → ⊥
    steps_not u q = cc

    ends_no : Ends ≡ Trips t → ⊥
    ends_no q = cc

    some_same : (x y : Store) → Some x ≡ Some y → x ≡ y
    some_same x y p = cc

    found : (k : Kind) → kind_at code p ≡ k → MayTrap k → act_by k ≡ (λ next x. of_next next) → (phase : Phase) → wants k ≡ phase → ((r : ℕ) → expects phase r ≡ false) → OneTraps f s.ranks → TrapHere code tables room n s w
    found k is may acts phase ph none o =
        let plain = plain_at code n s w held.at phase (ap wants is ∙ ph) none in
        let lt : o.place < n = let c = held.at.count in let i = o.inside in omega (arith, c, i) in
        let same : o.store ≡ (w o.place).now = some_same o.store (w o.place).now (sym o.listed ∙ (plain o.place lt).store) in
        record {
          rank = o.place;
          among = lt;
          trap = o.trap;
          trips =
              act_is code tables room (w o.place).now p k (held.at.ranks o.place lt).on.position_is is ∙ ap (λ g. of_act (g (f (w o.place).now) (w o.place).now)) acts
              ∙ ap (λ next. of_act (of_next next)) (ap f (sym same) ∙ o.traps);
          place = p;
          there = λ r l. (held.at.ranks r l).on.position_is;
          may = subst MayTrap (sym is) may;
          agree = subst (λ q. AgreeBy (kind_at code q) (next_at code tables q) s.ranks) (at_position code n s w held.some held.at) agree;
          count = held.at.count;
          plain = plain;
        }

    by : (k : Kind) → kind_at code p ≡ k → step_by k f s ≡ Trips t → TrapHere code tables room n s w
    by Computes is q = found Computes is tt refl Outside refl (λ r. refl) (one_traps f s.ranks t (together_one (together f s.ranks) s.out q))
    by (Jumps target unless) is q = absurd (steps_not _ q)
    by (Packs what) is q = let o = one_traps f s.ranks t (together_one (together f s.ranks) s.out q) in pack_traps code tables p what o.store o.trap is o.traps
    by Posts is q = absurd (steps_not _ q)
    by Takes is q = absurd (steps_not _ q)
    by PostsRoot is q = absurd (steps_not _ q)
    by TakesRoot is q = absurd (steps_not _ q)
    by (Unpacks what) is q = found (Unpacks what) is tt refl Taken refl (λ r. refl) (one_traps f s.ranks t (together_one (together f s.ranks) s.out q))
    by (Writes output) is q = absurd (steps_not _ q)
    by Halts is q = absurd (ends_no q)

-- ---- runs

-- what the code promises of each state of the lockstep from here on
pub record Good (code : Code) (tables : Tables) (n : ℕ) (s : State) : Type 0 where
  pub agree : (j : ℕ) → Agree code tables (state_of (run_by (step code tables) j s)).ranks
  pub shared : (j : ℕ) → All (IsPlaced code n) (state_of (run_by (step code tables) j s)).ranks

abbrev pub Stop : Code → Tables → Room → (n k stages : ℕ) → World Store → Reached → Type 0
Stop code tables room n k stages w (Ended s) = AllHalt (machine code tables room) n w
Stop code tables room n k stages w (Trapped t s) = TrapHere code tables room n s w
Stop code tables room n k stages w (Limit s) = (stages ≡ k) × (step code tables s ≡ Ends → ⊥)

-- where the ranks are when the lockstep has come so far
pub record Comes (code : Code) (tables : Tables) (room : Room) (n k : ℕ) (s : State) (w : World Store) : Type 0 where
  pub stages : ℕ
  pub most : stages ≤ k
  pub world : World Store
  pub course : Course (machine code tables room) n (IsPlaced code n) stages w world
  pub ups : (r : ℕ) → r < n → (w r).moves + stages ≤ (world r).moves
  pub pays : cost_of (machine code tables room) n (IsPlaced code n) stages w world course ≡ paid code tables n k s
  pub held : Held code tables n (state_of (run_by (step code tables) k s)) world
  pub stop : Stop code tables room n k stages world (run_by (step code tables) k s)

pub limit_same : (t : Step) (s : State) → state_of (at_limit t s) ≡ s
limit_same Ends s = refl
limit_same (Trips t) s = refl
limit_same (Steps s2) s = refl

pub here_same : (code : Code) (tables : Tables) (s : State) → state_of (run_by (step code tables) 0 s) ≡ s
unfolding run_by
here_same code tables s = limit_same (step code tables s) s

later_good : (code : Code) (tables : Tables) (n : ℕ) (s s2 : State) → step code tables s ≡ Steps s2 → Good code tables n s → Good code tables n s2
unfolding run_by
later_good code tables n s s2 e g =
    record {
      agree = λ j. subst (λ t. Agree code tables (state_of (go_on t s (run_by (step code tables) j))).ranks) e (g.agree (suc j));
      shared = λ j. subst (λ t. All (IsPlaced code n) (state_of (go_on t s (run_by (step code tables) j))).ranks) e (g.shared (suc j));
    }

placed_by : (code : Code) (n r : ℕ) (s : State) (w : World Store) (b : Bool) → r < length s.ranks → MailTo n s w r b → All (IsPlaced code n) s.ranks → IsPlaced code n (w r).now
placed_by code n r s w false lt mail all = subst (IsPlaced code n) (get_at s.ranks r (w r).now (w r).now mail.store) (all r (w r).now lt)
placed_by code n r s w true lt mail all =
    let x = (w r).now in
    let h : IsPlaced code n (record x { inbox = mail.ms }) = subst (IsPlaced code n) (get_at s.ranks r x (record x { inbox = mail.ms }) mail.store) (all r x lt) in
    record { ranks_are = h.ranks_are; number_below = h.number_below; shared = h.shared }

pub held_of : (code : Code) (tables : Tables) (n : ℕ) (s : State) (w : World Store) → 1 ≤ n → HasForm code.list → At code n s w → Good code tables n s → Held code tables n s w
held_of code tables n s w some form at good =
    record {
      some = some;
      form = form;
      at = at;
      placed = λ r lt. placed_by code n r s w (expects (wants (kind_at code at.pos)) r) (let c = at.count in omega (arith, c, lt)) (at.mail r lt) (subst (λ z. All (IsPlaced code n) z.ranks) (here_same code tables s) (good.shared 0));
    }

-- the run is over here
here_comes : (code : Code) (tables : Tables) (room : Room) (n k : ℕ) (s : State) (w : World Store) → Held code tables n s w → 0 ≡ paid code tables n k s → state_of (run_by (step code tables) k s) ≡ s → Stop code tables room n k 0 w (run_by (step code tables) k s) → Comes code tables room n k s w
here_comes code tables room n k s w held pays same stop =
    record { stages = 0; most = omega arith; world = w; course = refl; ups = λ r lt. omega arith; pays = pays; held = subst (λ z. Held code tables n z w) (sym same) held; stop = stop }

pub run_comes : (code : Code) (tables : Tables) (room : Room) (n : ℕ) → 1 ≤ n → HasForm code.list → (k : ℕ) (s : State) (w : World Store) → At code n s w → Good code tables n s → Comes code tables room n k s w
unfolding run_by paid
run_comes code tables room n some form zero s w at good =
    let held = held_of code tables n s w some form at good in
    here_comes code tables room n 0 s w held refl (here_same code tables s) (by (step code tables s) refl)
  where
    by : (t : Step) → step code tables s ≡ t → Stop code tables room n 0 0 w (at_limit (step code tables s) s)
    by Ends e = subst (λ t. Stop code tables room n 0 0 w (at_limit t s)) (sym e) (ends_halts code tables room n s w (held_of code tables n s w some form at good) e)
    by (Trips t) e = subst (λ t. Stop code tables room n 0 0 w (at_limit t s)) (sym e) (refl, λ q. differ (sym e ∙ q))
      where
        differ : Trips t ≡ Ends → ⊥
        differ p = cc
    by (Steps s2) e = subst (λ t. Stop code tables room n 0 0 w (at_limit t s)) (sym e) (refl, λ q. differ (sym e ∙ q))
      where
        differ : Steps s2 ≡ Ends → ⊥
        differ p = cc
run_comes code tables room n some form (suc k) s w at good = by (step code tables s) refl (λ s2 w2 at2 good2. run_comes code tables room n some form k s2 w2 at2 good2)
  where
    held : Held code tables n s w
    held = held_of code tables n s w some form at good

    here : ℕ
    here = price n (kind_of (instr_at code.list (position_of s.ranks)))

    by : (t : Step) → step code tables s ≡ t → ((s2 : State) (w2 : World Store) → At code n s2 w2 → Good code tables n s2 → Comes code tables room n k s2 w2) → Comes code tables room n (suc k) s w
    by Ends e more =
        here_comes code tables room n (suc k) s w held (sym (ap (paid_then here (paid code tables n k)) e)) (ap (λ t. state_of (go_on t s (run_by (step code tables) k))) e)
        (subst (λ t. Stop code tables room n (suc k) 0 w (go_on t s (run_by (step code tables) k))) (sym e) (ends_halts code tables room n s w held e))
    by (Trips t) e more =
        here_comes code tables room n (suc k) s w held (sym (ap (paid_then here (paid code tables n k)) e)) (ap (λ t. state_of (go_on t s (run_by (step code tables) k))) e)
        (subst (λ t. Stop code tables room n (suc k) 0 w (go_on t s (run_by (step code tables) k))) (sym e) (trips_traps code tables room n s w t held (subst (λ z. Agree code tables z.ranks) (here_same code tables s) (good.agree 0)) e))
    by (Steps s2) e more =
        let agree = subst (λ z. Agree code tables z.ranks) (here_same code tables s) (good.agree 0) in
        let led = step_led code tables room n s s2 w held agree e in
        let rest = more s2 led.world led.at (later_good code tables n s s2 e good) in
        let first : led.stage.most ≡ here = led.pays ∙ ap (λ p. price n (kind_at code p)) (sym (at_position code n s w some held.at)) in
        record {
          stages = suc rest.stages;
          most = let h = rest.most in omega (arith, h);
          world = rest.world;
          course = (led.world, led.stage, rest.course);
          ups = λ r lt. let a = led.ups r lt in let b = rest.ups r lt in omega (arith, a, b);
          pays = ap (λ q. q + cost_of (machine code tables room) n (IsPlaced code n) rest.stages led.world rest.world rest.course) first ∙ ap (λ q. here + q) rest.pays ∙ sym (ap (paid_then here (paid code tables n k)) e);
          held = subst (λ t. Held code tables n (state_of (go_on t s (run_by (step code tables) k))) rest.world) (sym e) rest.held;
          stop = subst (λ t. Stop code tables room n (suc k) (suc rest.stages) rest.world (go_on t s (run_by (step code tables) k))) (sym e) (shift k rest.stages rest.world (run_by (step code tables) k s2) rest.stop);
        }
      where
        shift : (k j : ℕ) (v : World Store) (reached : Reached) → Stop code tables room n k j v reached → Stop code tables room n (suc k) (suc j) v reached
        shift k j v (Ended u) h = h
        shift k j v (Trapped t u) h = h
        shift k j v (Limit u) h = (ap suc h.0, h.1)
