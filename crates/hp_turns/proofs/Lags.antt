-- A rank that lags behind a trap has the log that it has in the lockstep: an order is logged directly before a message to all ranks.
use Rattle.std.proofs.Common.{◌≡◌, ◌≢◌, ◌∙◌, refl, sym, subst, ap, arith, ℕ, zero, suc, ◌<◌, ◌≤◌, List, [], ◌∷◌, ◌++◌, length, length-append, set, Option, Some, None, cond, eqb, true, false, Bool, Result, Ok, Err, ◌⊎◌, inl, inr}
use Rattle.std.proofs.lemmas.Bool.{eqb-true, eqb-false, false≢true}
use Rattle.hp_word.specs.declared.order.Orders.{Orders}
use Rattle.hp_word.specs.declared.place.Trap.{Trap}
use Rattle.hp_word.specs.declared.table.Message.{Message}
use Rattle.hp_word.specs.declared.table.Tables.{Tables}
use Rattle.hp_network.specs.Network as network
use Rattle.hp_network.specs.Network.{Room, Machine}
use Rattle.hp_network.proofs.Worlds.{Entry, World, put, put_here, put_other, queue, posted, got_from, does_by, does, next, after}
use Rattle.hp_network.proofs.Joins.{Reaches, reaches_trans, reaches_next, below_next, below_after, next_none, next_some}
use Rattle.hp_spmd.specs.declared.code.Code.{Code}
use Rattle.hp_spmd.specs.declared.instr.Packing.{Packing}
use Rattle.hp_spmd.specs.declared.store.Store.{Store}
use Rattle.hp_spmd.specs.Act.{act_by, of_next, first_only, after_post, after_take}
use Rattle.hp_spmd.specs.Act as act
use Rattle.hp_spmd.specs.Exchanges.{Phase, Packed, HasForm, wants, leaves, packs}
use Rattle.hp_spmd.specs.Kinds.{Kind, Computes, Jumps, Packs, Posts, Takes, PostsRoot, TakesRoot, Unpacks, Writes, Halts}
use Rattle.hp_spmd.specs.Local.{alone, computed, jumped, pack_done}
use Rattle.hp_spmd.specs.Exchange.{packed, unpacked}
use Rattle.hp_spmd.specs.Next.{Next, Goes, Traps, moved, lifted}
use Rattle.hp_spmd.specs.Spread.{IsPlaced}
use Rattle.hp_spmd.specs.Store.{Data, data_of, instr_at, no_message}
use Rattle.hp_spmd.proofs.Executed.{RaisesTo, computed_raises}
use Rattle.hp_spmd.proofs.LockActs.{post_more}
use Rattle.hp_spmd.proofs.LockFrame as frame
use Rattle.hp_spmd.proofs.LockFrame.{alone_keeps}
use Rattle.hp_turns.specs.Apart.{KeepsBy}
use Rattle.hp_turns.specs.Turns.{machine, of_act}
use Rattle.hp_turns.proofs.Acts.{kind_at, next_at, act_is, next_phase}
use Rattle.hp_turns.proofs.Alone.{does_is}
use Rattle.hp_turns.proofs.Leaves.{LeavesLog, unpacked_leaves}

abbrev is_packed : Phase → Bool
is_packed Packed = true
is_packed _ = false

packed_is : (p : Phase) → p ≡ Packed → is_packed p ≡ true
packed_is p e = ap is_packed e

-- a rank with a message for rank t before it
abbrev pub Pend : ℕ → Kind → Store → Type 0
Pend t Posts x = x.sent ≤ t
Pend t (Packs what) x = packs what ≡ Packed
Pend t _ x = ⊥

-- its log is still this one, or it has a message for rank t before it
abbrev pub Lags : Code → ℕ → Orders → Store → Type 0
Lags code t log x = (x.log ≡ log) ⊎ Pend t (kind_at code x.position) x

abbrev LagsNext : Code → ℕ → Orders → network.Act Store → Type 0
LagsNext code t log network.HasHalted = Unit {0}
LagsNext code t log (network.Trips u) = Unit {0}
LagsNext code t log (network.Goes x) = Lags code t log x
LagsNext code t log (network.Sends to message x) = to ≢ t → Lags code t log x
LagsNext code t log (network.Gets sender f) = (message : Message) → Lags code t log (f message)
LagsNext code t log (network.Prints text x) = Lags code t log x

pend_pack : (t : ℕ) (k : Kind) (x : Store) → leaves k ≡ Packed → Pend t k x
pend_pack t k x e = by k e (packed_is (leaves k) e)
  where
    by : (k : Kind) → leaves k ≡ Packed → is_packed (leaves k) ≡ true → Pend t k x
    by (Packs what) q p = q
    by _ q p = absurd (false≢true p)

pend_post : (t : ℕ) (k : Kind) (x : Store) → wants k ≡ Packed → x.sent ≤ t → Pend t k x
pend_post t k x e le = by k (packed_is (wants k) e)
  where
    by : (k : Kind) → is_packed (wants k) ≡ true → Pend t k x
    by Posts p = le
    by _ p = absurd (false≢true p)

post_log : (x : Store) → (after_post x).log ≡ x.log
post_log x = by (eqb (suc x.sent) x.ranks)
  where
    by : (b : Bool) → (cond b (moved (record x { outbox = set x.outbox x.sent no_message; sent = 0 })) (record x { outbox = set x.outbox x.sent no_message; sent = suc x.sent })).log ≡ x.log
    by true = refl
    by false = refl

take_log : (x : Store) (m : Message) → (after_take x m).log ≡ x.log
take_log x m = by (eqb (suc x.got) x.ranks)
  where
    by : (b : Bool) → (cond b (moved (record x { inbox = set x.inbox x.got m; got = 0 })) (record x { inbox = set x.inbox x.got m; got = suc x.got })).log ≡ x.log
    by true = refl
    by false = refl

computes_halts : Computes ≡ Halts → ⊥
computes_halts e = cc

packs_halts : (what : Packing) → Packs what ≡ Halts → ⊥
packs_halts what e = cc

computes_lags : (code : Code) (n t : ℕ) (log : Orders) (x : Store) (next : Next) → x.log ≡ log → frame.Keeps x next → KeepsBy code n x.position Computes x next → LagsNext code t log (of_act (of_next next))
computes_lags code n t log x (Traps u) same kept keeps = tt
computes_lags code n t log x (Goes y) same kept keeps = by keeps.packs
  where
    by : (y.log ≡ x.log) ⊎ (leaves (kind_at code (suc x.position)) ≡ Packed) → Lags code t log y
    by (inl e) = inl (e ∙ same)
    by (inr e) = inr (pend_pack t (kind_at code y.position) y (ap (λ p. leaves (kind_at code p)) kept.is_there ∙ e))

unpacks_lags : (code : Code) (t : ℕ) (log : Orders) (x : Store) (d : Result Data Trap) → x.log ≡ log → LeavesLog (data_of x) d → LagsNext code t log (of_act (of_next (lifted d x)))
unpacks_lags code t log x (Err u) same leaves = tt
unpacks_lags code t log x (Ok d) same leaves = inl (leaves.0 ∙ same)

root_lags : (code : Code) (t number : ℕ) (log : Orders) (a : act.Act) (x : Store) → x.log ≡ log → LagsNext code t log (of_act a) → LagsNext code t log (of_act (first_only number a x))
root_lags code t zero log a x same h = h
root_lags code t (suc k) log a x same h = inl same

-- a rank with its log
same_lags : (code : Code) (n t : ℕ) (log : Orders) (x : Store) (k : Kind) (f : Data → Result Data Trap) → RaisesTo x.executed (f (data_of x)) → x.log ≡ log → KeepsBy code n x.position k x (alone code.arrays k f x) → LagsNext code t log (of_act (act_by k (alone code.arrays k f x) x))
unfolding jumped pack_done
same_lags code n t log x Computes f raises same keeps = computes_lags code n t log x (lifted (f (data_of x)) x) same (alone_keeps code.arrays Computes f x tt raises) keeps
same_lags code n t log x (Jumps target unless) f raises same keeps = inl same
same_lags code n t log x (Packs what) f raises same keeps = inl same
same_lags code n t log x Posts f raises same keeps = λ ne. inl (post_log x ∙ same)
same_lags code n t log x Takes f raises same keeps = λ m. inl (take_log x m ∙ same)
same_lags code n t log x PostsRoot f raises same keeps = λ ne. inl same
same_lags code n t log x TakesRoot f raises same keeps = root_lags code t x.number log (act.Gets x.got (after_take x)) x same (λ m. inl (take_log x m ∙ same))
same_lags code n t log x (Unpacks what) f raises same keeps = unpacks_lags code t log x (unpacked code.arrays what x.number x.ranks x.inbox (data_of x)) same (unpacked_leaves code.arrays what x.number x.ranks x.inbox (data_of x))
same_lags code n t log x (Writes output) f raises same keeps = root_lags code t x.number log _ x same (inl same)
same_lags code n t log x Halts f raises same keeps = tt

-- a rank with a message before it
pend_lags : (code : Code) (n t : ℕ) (log : Orders) (x : Store) (k : Kind) (f : Data → Result Data Trap) → HasForm code.list → t < n → x.ranks ≡ n → kind_at code x.position ≡ k → Pend t k x → LagsNext code t log (of_act (act_by k (alone code.arrays k f x) x))
unfolding pack_done
pend_lags code n t log x (Packs what) f form lt ranks is pend =
    inr (pend_post t (kind_at code (suc x.position)) (moved (record x { outbox = packed code.arrays what x.number x.ranks (data_of x); sent = 0; got = 0 })) (next_phase code x.position (Packs what) form is (packs_halts what) ∙ pend) (omega arith))
pend_lags code n t log x Posts f form lt ranks is pend = λ ne.
    let y : Store = record x { outbox = set x.outbox x.sent no_message; sent = suc x.sent } in
    subst (Lags code t log) (sym (post_more x (λ e. omega (arith, e, ranks, pend, ne, lt)))) (inr (subst (λ k. Pend t k y) (sym is) (let le : suc x.sent ≤ t = omega (arith, pend, ne) in le)))
pend_lags code n t log x _ f form lt ranks is pend = absurd pend

lags_next : (code : Code) (tables : Tables) (room : Room) (n t : ℕ) (log : Orders) (x : Store) → HasForm code.list → t < n → ((place : ℕ) (y : Store) → IsPlaced code n y → KeepsBy code n place (kind_at code place) y (next_at code tables place y)) → IsPlaced code n x → Lags code t log x
    → LagsNext code t log ((machine code tables room).act x)
lags_next code tables room n t log x form lt keeps placed lags =
    subst (LagsNext code t log) (sym (act_is code tables room x x.position (kind_at code x.position) refl refl)) (by lags)
  where
    f : Data → Result Data Trap
    f = computed code.arrays tables x.number x.ranks (instr_at code.list x.position)

    k : Kind
    k = kind_at code x.position

    by : Lags code t log x → LagsNext code t log (of_act (act_by k (alone code.arrays k f x) x))
    by (inl same) = same_lags code n t log x k f (computed_raises code.arrays tables x.number x.ranks (instr_at code.list x.position) (data_of x)) same (keeps x.position x placed)
    by (inr pend) = pend_lags code n t log x k f form lt placed.ranks_are refl pend

-- ---- worlds

-- what a rank that has moved is, unless it has posted to rank t
abbrev LagsTo : Code → ℕ → Orders → Entry Store → Option (Entry Store) → Type 0
LagsTo code t log e None = Unit {0}
LagsTo code t log e (Some f) = length (f.sent t) ≤ length (e.sent t) → Lags code t log f.now

lags_got : (code : Code) (t : ℕ) (log : Orders) (q : List Message) (k : ℕ) (f : Message → Store) (e : Entry Store) → ((m : Message) → Lags code t log (f m)) → LagsTo code t log e (got_from q k f e)
lags_got code t log [] k f e h = tt
lags_got code t log (m ∷ ms) k f e h = λ le. h m

lags_if : (code : Code) (t : ℕ) (log : Orders) (b : Bool) (e : Entry Store) (o : Option (Entry Store)) → LagsTo code t log e o → LagsTo code t log e (cond b o None)
lags_if code t log true e o h = h
lags_if code t log false e o h = tt

lags_by : (code : Code) (t : ℕ) (log : Orders) (room : Room) (from : ℕ → List Message) (to : ℕ → ℕ) (a : network.Act Store) (e : Entry Store) → LagsNext code t log a → LagsTo code t log e (does_by room from to a e)
lags_by code t log room from to network.HasHalted e h = tt
lags_by code t log room from to (network.Trips u) e h = tt
lags_by code t log room from to (network.Goes x) e h = λ le. h
lags_by code t log room from to (network.Sends k m x) e h =
    lags_if code t log (room.fits (to k)) e (Some (posted k m x e))
    (λ le. h (λ same.
    let one = length-append (e.sent k) (m ∷ []) in
    let new = ap length (put_here e.sent k (e.sent k ++ m ∷ [])) in
    let at = ap (λ j. length (put e.sent k (e.sent k ++ m ∷ []) j)) same in
    let old = ap (λ j. length (e.sent j)) same in
    omega (arith, le, one, new, at, old)))
lags_by code t log room from to (network.Gets k f) e h = lags_got code t log (from k) k f e h
lags_by code t log room from to (network.Prints text x) e h = λ le. h

front_length : {A : Type 0} (xs ys rest : List A) → ys ≡ xs ++ rest → length xs ≤ length ys
front_length xs ys rest e = let l = length-append xs rest in let q = ap length e in omega (arith, l, q)

pub lags_after : (code : Code) (tables : Tables) (room : Room) (n t r bound : ℕ) (log : Orders) → HasForm code.list → t < n → r < n → ((place : ℕ) (y : Store) → IsPlaced code n y → KeepsBy code n place (kind_at code place) y (next_at code tables place y)) → (o : World Store)
    → ((z : World Store) → Reaches (machine code tables room) n o z → (z r).moves ≤ bound → IsPlaced code n (z r).now) → (rs : List ℕ) (z : World Store) → Reaches (machine code tables room) n o z → (after (machine code tables room) n z rs r).moves ≤ bound
    → length ((after (machine code tables room) n z rs r).sent t) ≤ length ((z r).sent t) → Lags code t log (z r).now → Lags code t log (after (machine code tables room) n z rs r).now
unfolding after
lags_after code tables room n t r bound log form lt lr keeps o placed [] z at few less lags = lags
lags_after code tables room n t r bound log form lt lr keeps o placed (s ∷ rs) z at few less lags =
    by (does m n z s) refl (eqb s r) refl (λ shorter h. lags_after code tables room n t r bound log form lt lr keeps o placed rs y (reaches_trans m n o z y at (reaches_next m n z s)) few shorter h)
  where
    m : Machine Store
    m = machine code tables room

    y : World Store
    y = next m n z s

    end : World Store
    end = after m n y rs

    stays : y r ≡ z r → (length ((end r).sent t) ≤ length ((y r).sent t) → Lags code t log (y r).now → Lags code t log (end r).now) → Lags code t log (end r).now
    stays e more = more (subst (λ d. length ((end r).sent t) ≤ length (d.sent t)) (sym e) less) (subst (λ d. Lags code t log d.now) (sym e) lags)

    by : (d : Option (Entry Store)) → does m n z s ≡ d → (b : Bool) → eqb s r ≡ b → (length ((end r).sent t) ≤ length ((y r).sent t) → Lags code t log (y r).now → Lags code t log (end r).now) → Lags code t log (end r).now
    by None q b c more = stays (ap (λ (u : World Store). u r) (next_none m n z s q)) more
    by (Some e) q false c more = stays (ap (λ (u : World Store). u r) (next_some m n z s e q) ∙ put_other z s r e (λ h. eqb-false s r c (sym h))) more
    by (Some e) q true c more =
        let same : s ≡ r = eqb-true s r c in
        let here : y r ≡ e = ap (λ (u : World Store). u r) (next_some m n z s e q) ∙ ap (put z s e) (sym same) ∙ put_here z s e in
        let grown = below_after m n rs y r in
        let up = front_length ((y r).sent t) ((end r).sent t) (grown.sent t).0 (grown.sent t).1 in
        let first = front_length ((z r).sent t) ((y r).sent t) ((below_next m n z s r).sent t).0 ((below_next m n z s r).sent t).1 in
        let low = (below_next m n z s r).more in
        let top = grown.more in
        let x = (z r).now in
        let next_lags = lags_next code tables room n t log x form lt keeps (placed z at (omega (arith, low, top, few))) lags in
        let d : does m n z r ≡ Some e = ap (does m n z) (sym same) ∙ q in
        let to : LagsTo code t log (z r) (Some e) =
        subst (LagsTo code t log (z r)) (sym (does_is m n z r (m.act x) lr refl) ∙ d) (lags_by code t log room (λ k. queue z k r) (λ k. length (queue z r k)) (m.act x) (z r) next_lags) in
        let short : length (e.sent t) ≤ length ((z r).sent t) = subst (λ f. length (f.sent t) ≤ length ((z r).sent t)) here (omega (arith, up, less)) in
        more (omega (arith, less, first)) (subst (λ f. Lags code t log f.now) (sym here) (to short))
