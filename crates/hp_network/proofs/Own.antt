-- A claim of one rank that all it does keeps holds wherever the rank comes to.
use Rattle.std.proofs.Common.{◌≡◌, ◌∙◌, refl, sym, subst, ap, arith, ℕ, ◌≤◌, eqb, ltb, Bool, true, false, cond, List, [], ◌∷◌, length, Option, Some, None}
use Rattle.std.proofs.lemmas.Bool.{eqb-true, eqb-false}
use Rattle.hp_word.specs.declared.table.Message.{Message}
use Rattle.hp_network.specs.Network.{Act, HasHalted, Trips, Goes, Sends, Gets, Prints, Room, Machine}
use Rattle.hp_network.proofs.Worlds.{Entry, World, put, put_here, put_other, queue, posted, got_from, does_by, does, next, after}
use Rattle.hp_network.proofs.Joins.{Reaches, reaches_trans, reaches_next, reaches_below, below_next, below_after, next_none, next_some, join}

-- the claim holds of the rank after it has done this
abbrev pub Hands : {X : Type 0} → (X → Type 0) → Act X → Type 0
Hands P HasHalted = Unit {0}
Hands P (Trips t) = Unit {0}
Hands P (Goes x) = P x
Hands P (Sends to message x) = P x
Hands P (Gets sender f) = (message : Message) → P (f message)
Hands P (Prints text x) = P x

abbrev HandsTo : {X : Type 0} → (X → Type 0) → Option (Entry X) → Type 0
HandsTo P None = Unit {0}
HandsTo P (Some e) = P e.now

hands_if : {X : Type 0} (P : X → Type 0) (b : Bool) (o : Option (Entry X)) → HandsTo P o → HandsTo P (cond b o None)
hands_if P true o h = h
hands_if P false o h = tt

hands_got : {X : Type 0} (P : X → Type 0) (q : List Message) (k : ℕ) (f : Message → X) (e : Entry X) → ((message : Message) → P (f message)) → HandsTo P (got_from q k f e)
hands_got P [] k f e h = tt
hands_got P (message ∷ rest) k f e h = h message

hands_by : {X : Type 0} (P : X → Type 0) (room : Room) (from : ℕ → List Message) (to : ℕ → ℕ) (a : Act X) (e : Entry X) → Hands P a → HandsTo P (does_by room from to a e)
hands_by P room from to HasHalted e h = tt
hands_by P room from to (Trips t) e h = tt
hands_by P room from to (Goes x) e h = h
hands_by P room from to (Sends k message x) e h = hands_if P (room.fits (to k)) (Some (posted k message x e)) h
hands_by P room from to (Gets k f) e h = hands_got P (from k) k f e h
hands_by P room from to (Prints text x) e h = h

hands_does : {X : Type 0} (m : Machine X) (n : ℕ) (P : X → Type 0) (w : World X) (r : ℕ) → Hands P (m.act (w r).now) → HandsTo P (does m n w r)
unfolding does
hands_does m n P w r h =
    let from : ℕ → List Message = λ k. queue w k r in
    let to : ℕ → ℕ = λ k. length (queue w r k) in
    hands_if P (ltb r n) (does_by m.room from to (m.act (w r).now) (w r)) (hands_by P m.room from to (m.act (w r).now) (w r) h)

-- along turns, as long as the rank has moved so often at most
own_after : {X : Type 0} (m : Machine X) (n : ℕ) (P : X → Type 0) (o : World X) (r bound : ℕ) → ((z : World X) → Reaches m n o z → (z r).moves ≤ bound → P (z r).now → Hands P (m.act (z r).now))
    → (rs : List ℕ) (z : World X) → Reaches m n o z → (after m n z rs r).moves ≤ bound → P (z r).now → P (after m n z rs r).now
unfolding after
own_after m n P o r bound keeps [] z at few h = h
own_after {X = X} m n P o r bound keeps (s ∷ rs) z at few h =
    by (does m n z s) refl (eqb s r) refl (λ g. own_after m n P o r bound keeps rs (next m n z s) (reaches_trans m n o z (next m n z s) at (reaches_next m n z s)) few g)
  where
    y : World X
    y = next m n z s

    by : (d : Option (Entry X)) → does m n z s ≡ d → (b : Bool) → eqb s r ≡ b → (P (y r).now → P (after m n y rs r).now) → P (after m n y rs r).now
    by None q b c more = more (subst (λ (u : World X). P (u r).now) (sym (next_none m n z s q)) h)
    by (Some e) q false c more =
        let stays : y r ≡ z r = ap (λ (u : World X). u r) (next_some m n z s e q) ∙ put_other z s r e (λ g. eqb-false s r c (sym g)) in
        more (subst (λ (d : Entry X). P d.now) (sym stays) h)
    by (Some e) q true c more =
        let same : s ≡ r = eqb-true s r c in
        let here : y r ≡ e = ap (λ (u : World X). u r) (next_some m n z s e q) ∙ ap (put z s e) (sym same) ∙ put_here z s e in
        let low = (below_next m n z s r).more in
        let top = (below_after m n rs y r).more in
        let d : does m n z r ≡ Some e = ap (does m n z) (sym same) ∙ q in
        let to : HandsTo P (Some e) = subst (HandsTo P) d (hands_does m n P z r (keeps z at (omega (arith, low, top, few)) h)) in
        more (subst (λ (f : Entry X). P f.now) (sym here) to)

-- from where the rank is in one world to where it is in another in which it has moved as often or more
pub own_there : {X : Type 0} (m : Machine X) (n : ℕ) (P : X → Type 0) (o v x : World X) (r : ℕ) → ((z : World X) → Reaches m n o z → (z r).moves ≤ (x r).moves → P (z r).now → Hands P (m.act (z r).now))
    → Reaches m n o v → Reaches m n o x → (v r).moves ≤ (x r).moves → P (v r).now → P (x r).now
own_there {X = X} m n P o v x r keeps at there le h =
    let j = join m n o v x at there in
    let most = j.moves r in
    let here : j.at r ≡ x r = (reaches_below m n x j.at j.right r).same (omega (arith, most, le)) in
    let comes : after m n v j.left.turns r ≡ x r = ap (λ (z : World X). z r) j.left.comes ∙ here in
    subst (λ (d : Entry X). P d.now) comes (own_after m n P o r (x r).moves keeps j.left.turns v at (subst (λ (d : Entry X). d.moves ≤ (x r).moves) (sym comes) (omega arith)) h)
