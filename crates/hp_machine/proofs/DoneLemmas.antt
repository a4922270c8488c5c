-- What a turn makes of each action.
use Rattle.std.proofs.Common.{◌≡◌, ◌∙◌, refl, sym, subst, ap, arith, ℕ, suc, ◌<◌, ◌≤◌, ltb, ltb-true, ltb-false, Bool, true, false, if◌then◌else◌, List, [], ◌∷◌, ◌++◌, set, map, length, None, Result, Ok, Err, OnErr, inl, inr}
use Rattle.std.proofs.lemmas.List.{map-set}
use Rattle.hp_word.specs.declared.table.Message.{Message}
use Rattle.hp_word.specs.declared.table.Tables.{Tables}
use Rattle.hp_links.specs.Mails.{Mail, queue_at, with_message, without_front}
use Rattle.hp_network.specs.Network as network
use Rattle.hp_network.specs.Network.{State, Counts, Machine, counts_at, done, taken}
use Rattle.hp_network.specs.Rows.{at_most}
use Rattle.hp_network.proofs.States.{get_past}
use Rattle.hp_rank.specs.declared.rank.Did.TheVariants as did
use Rattle.hp_rank.specs.declared.rank.Rank.{Rank}
use Rattle.hp_rank.specs.Steps.{Does, Gave, Wrote, receiver_of}
use Rattle.hp_rank.proofs.RankLemmas.{does_past}
use Rattle.hp_spmd.specs.declared.code.Code.{Code}
use Rattle.hp_spmd.specs.declared.store.Store.{Store}
use Rattle.hp_spmd.specs.Act.{Act, HasHalted, Trips, Goes, Sends, Gets, Prints, act}
use Rattle.hp_turns.specs.Turns.{machine}
use Rattle.hp_machine.specs.declared.action.Deed.{Deed}
use Rattle.hp_machine.specs.declared.action.Deed.TheVariants as deed
use Rattle.hp_machine.specs.Parts.{HasRoom, has_space}
use Rattle.hp_machine.specs.States.{Comes, HasMoved, TakesFront, counts_of, counted_for, state_by}
use Rattle.hp_machine.proofs.ActLemmas.{IsAmong}
use Rattle.hp_machine.proofs.RoomLemmas.{queues_set}

-- ---- states

abbrev untrapped : List Store → (ℕ → ℕ → List Message) → List ℕ → List Counts → State Store
untrapped ranks queues out counts = record { ranks = ranks; queues = queues; out = out; trap = None; counts = counts }

-- the ranks of a state with one that has come to y, and these queues
with_parts : (ranks : List Rank) (r : ℕ) (y : Store) (before after : ℕ → ℕ → List Message) (out : List ℕ) (counts : List Counts) → before ≡ after
    → untrapped (set (map (λ rank. rank.store) ranks) r y) before out counts ≡ untrapped (map (λ rank. rank.store) (set ranks r (record { store = y }))) after out counts
with_parts ranks r y before after out counts e =
    λ i. record { ranks = sym (map-set (λ rank. rank.store) ranks r (record { store = y })) i; queues = e i; out = out; trap = None; counts = counts }

if_true : {A : Type 0} (b : Bool) (x y : A) → b ≡ true → (if b then x else y) ≡ x
if_true true x y is = refl
if_true false x y is = absurd cc

-- ---- each action

goes_moved : (code : Code) (tables : Tables) (room : ℕ) (some : 1 ≤ room) (r : ℕ) (y : Store) (mail : Mail) (out : List ℕ) → HasMoved (machine code tables (at_most room some)) (Goes y) r 0 y mail mail out out
goes_moved code tables room some r y mail out =
    record {
      comes = refl;
      does = λ ranks ms ws ps. let counts = counts_of ms ws ps in
          with_parts ranks r y (queue_at mail) (queue_at mail) out (counted_for counts (counts_at (state_by ranks mail out None ms ws ps) r) r 0 y) refl;
    }

prints_moved : (code : Code) (tables : Tables) (room : ℕ) (some : 1 ≤ room) (r : ℕ) (text : List ℕ) (y : Store) (mail : Mail) (out : List ℕ) → HasMoved (machine code tables (at_most room some)) (Prints text y) r 0 y mail mail out (out ++ text)
prints_moved code tables room some r text y mail out =
    record {
      comes = refl;
      does = λ ranks ms ws ps. let counts = counts_of ms ws ps in
          with_parts ranks r y (queue_at mail) (queue_at mail) (out ++ text) (counted_for counts (counts_at (state_by ranks mail out None ms ws ps) r) r 0 y) refl;
    }

sends_moved : (code : Code) (tables : Tables) (room : ℕ) (some : 1 ≤ room) (n r to : ℕ) (message : Message) (y : Store) (mail : Mail) (out : List ℕ) → HasRoom n room mail → r < n → to < n → ltb (length (queue_at mail r to)) room ≡ true
    → HasMoved (machine code tables (at_most room some)) (Sends to message y) r (length message.words) y mail (with_message r to message mail) out out
sends_moved code tables room some n r to message y mail out h lr lt fits =
    record {
      comes = refl;
      does = λ ranks ms ws ps. let counts = counts_of ms ws ps in
          if_true (ltb (length (queue_at mail r to)) room) _ _ fits
          ∙ with_parts ranks r y (network.with_queue (queue_at mail) r to (queue_at mail r to ++ message ∷ [])) (queue_at (with_message r to message mail)) out
          (counted_for counts (counts_at (state_by ranks mail out None ms ws ps) r) r (length message.words) y)
          (queues_set mail n room r to (queue_at mail r to ++ message ∷ []) (with_message r to message mail).spare h lr lt);
    }

gets_moved : (code : Code) (tables : Tables) (room : ℕ) (some : 1 ≤ room) (n r from : ℕ) (f : Message → Store) (message : Message) (rest : List Message) (mail : Mail) (out : List ℕ) → HasRoom n room mail → r < n → from < n → queue_at mail from r ≡ message ∷ rest
    → HasMoved (machine code tables (at_most room some)) (Gets from f) r 0 (f message) mail (without_front (message ∷ rest) from r mail) out out
gets_moved code tables room some n r from f message rest mail out h lr lf is =
    record {
      comes = (message, refl);
      does = λ ranks ms ws ps. let counts = counts_of ms ws ps in let s = state_by ranks mail out None ms ws ps in
          ap (λ q. taken q (machine code tables (at_most room some)) s r from f) is
          ∙ with_parts ranks r (f message) (network.with_queue (queue_at mail) from r rest) (queue_at (without_front (message ∷ rest) from r mail)) out
          (counted_for counts (counts_at s r) r 0 (f message)) (queues_set mail n room from r rest (suc mail.spare) h lf lr);
    }

-- ---- what a step did

pub moved_comes : (code : Code) (tables : Tables) (room : ℕ) (some : 1 ≤ room) (a : Act) (r : ℕ) (x y : Store) (mail : Mail) (out : List ℕ) → Does a did.Moved x y → HasMoved (machine code tables (at_most room some)) a r 0 y mail mail out out
moved_comes code tables room some (Goes z) r x y mail out h = subst (λ w. HasMoved (machine code tables (at_most room some)) (Goes w) r 0 y mail mail out out) h (goes_moved code tables room some r y mail out)
moved_comes code tables room some HasHalted r x y mail out h = absurd h
moved_comes code tables room some (Trips t) r x y mail out h = absurd h
moved_comes code tables room some (Sends to message z) r x y mail out h = absurd h
moved_comes code tables room some (Gets sender f) r x y mail out h = absurd h
moved_comes code tables room some (Prints text z) r x y mail out h = absurd h

pub posts_comes : (code : Code) (tables : Tables) (room : ℕ) (some : 1 ≤ room) (a : Act) (n r to : ℕ) (message : Message) (x y : Store) (mail : Mail) (out : List ℕ) → HasRoom n room mail → r < n → IsAmong n a → has_space (receiver_of a) (queue_at mail r) room ≡ true → Does a (did.Posts to message) x y
    → HasMoved (machine code tables (at_most room some)) a r (length message.words) y mail (with_message r to message mail) out out
posts_comes code tables room some (Sends k m z) n r to message x y mail out room_is lr among fits h =
    let e : Sends to message y ≡ Sends k m z = λ i. Sends (h.0 i) (h.1 i) (h.2 i) in
    subst (λ a. HasMoved (machine code tables (at_most room some)) a r (length message.words) y mail (with_message r to message mail) out out) e
    (sends_moved code tables room some n r to message y mail out room_is lr (subst (λ j. j < n) (sym h.0) among) (subst (λ j. ltb (length (queue_at mail r j)) room ≡ true) (sym h.0) fits))
posts_comes code tables room some HasHalted n r to message x y mail out room_is lr among fits h = absurd h
posts_comes code tables room some (Trips t) n r to message x y mail out room_is lr among fits h = absurd h
posts_comes code tables room some (Goes z) n r to message x y mail out room_is lr among fits h = absurd h
posts_comes code tables room some (Gets sender f) n r to message x y mail out room_is lr among fits h = absurd h
posts_comes code tables room some (Prints text z) n r to message x y mail out room_is lr among fits h = absurd h

-- what a post needs of the queues
pub posts_fit : (a : Act) (n r to room : ℕ) (message : Message) (x y : Store) (mail : Mail) → IsAmong n a → has_space (receiver_of a) (queue_at mail r) room ≡ true → Does a (did.Posts to message) x y → (to < n) × (length (queue_at mail r to) < room)
posts_fit (Sends k m z) n r to room message x y mail among fits h =
    (subst (λ j. j < n) (sym h.0) among, subst (λ j. length (queue_at mail r j) < room) (sym h.0) (ltb-true (length (queue_at mail r k)) room fits))
posts_fit HasHalted n r to room message x y mail among fits h = absurd h
posts_fit (Trips t) n r to room message x y mail among fits h = absurd h
posts_fit (Goes z) n r to room message x y mail among fits h = absurd h
posts_fit (Gets sender f) n r to room message x y mail among fits h = absurd h
posts_fit (Prints text z) n r to room message x y mail among fits h = absurd h

pub wants_among : (a : Act) (n from : ℕ) (x y : Store) → IsAmong n a → Does a (did.Wants from) x y → from < n
wants_among (Gets sender f) n from x y among h = subst (λ j. j < n) (sym h.0) among
wants_among HasHalted n from x y among h = absurd h
wants_among (Trips t) n from x y among h = absurd h
wants_among (Goes z) n from x y among h = absurd h
wants_among (Sends to message z) n from x y among h = absurd h
wants_among (Prints text z) n from x y among h = absurd h

pub wants_same : (a : Act) (from : ℕ) (x y : Store) → Does a (did.Wants from) x y → y ≡ x
wants_same (Gets sender f) from x y h = h.1
wants_same HasHalted from x y h = absurd h
wants_same (Trips t) from x y h = absurd h
wants_same (Goes z) from x y h = absurd h
wants_same (Sends to message z) from x y h = absurd h
wants_same (Prints text z) from x y h = absurd h

pub writes_same : (a : Act) (bytes : _) (x y : Store) → Does a (did.Writes bytes) x y → y ≡ x
writes_same (Prints text z) bytes x y h = h.1
writes_same HasHalted bytes x y h = absurd h
writes_same (Trips t) bytes x y h = absurd h
writes_same (Goes z) bytes x y h = absurd h
writes_same (Sends to message z) bytes x y h = absurd h
writes_same (Gets sender f) bytes x y h = absurd h

pub takes_comes : (code : Code) (tables : Tables) (room : ℕ) (some : 1 ≤ room) (a : Act) (n r from : ℕ) (d : Deed) (q : List Message) (x x1 y : Store) (mail : Mail) (out : List ℕ) → HasRoom n room mail → r < n → from < n → act code tables x1 ≡ a → queue_at mail from r ≡ q
    → Does a (did.Wants from) x x1 → TakesFront q code d x1 y → Comes (machine code tables (at_most room some)) a d r x y mail (without_front q from r mail) out out
takes_comes code tables room some (Gets sender f) n r from d [] x x1 y mail out room_is lr lf acts is h t =
    subst (λ e. Comes (machine code tables (at_most room some)) (Gets sender f) e r x y mail mail out out) (sym t.0)
    (record { store_is = t.1 ∙ h.1; mail_is = refl; out_is = refl }, λ ranks ms ws ps. inr (subst (λ j. queue_at mail j r ≡ []) h.0 is))
takes_comes code tables room some (Gets sender f) n r from d (message ∷ rest) x x1 y mail out room_is lr lf acts is h t =
    let M = machine code tables (at_most room some) in
    let new = without_front (message ∷ rest) from r mail in
    let gave : y ≡ f message = subst (λ a. Gave a message y) acts (t.1 tables) in
    subst (λ e. Comes M (Gets sender f) e r x y mail new out out) (sym t.0)
    (subst (λ j. HasMoved M (Gets j f) r 0 y mail new out out) h.0
    (subst (λ z. HasMoved M (Gets from f) r 0 z mail new out out) (sym gave) (gets_moved code tables room some n r from f message rest mail out room_is lr lf is)))
takes_comes code tables room some HasHalted n r from d q x x1 y mail out room_is lr lf acts is h t = absurd h
takes_comes code tables room some (Trips k) n r from d q x x1 y mail out room_is lr lf acts is h t = absurd h
takes_comes code tables room some (Goes z) n r from d q x x1 y mail out room_is lr lf acts is h t = absurd h
takes_comes code tables room some (Sends to message z) n r from d q x x1 y mail out room_is lr lf acts is h t = absurd h
takes_comes code tables room some (Prints text z) n r from d q x x1 y mail out room_is lr lf acts is h t = absurd h

pub writes_comes : (code : Code) (tables : Tables) (room : ℕ) (some : 1 ≤ room) (a : Act) (r : ℕ) (bytes : _) (x x1 y : Store) (mail : Mail) (out out2 : List ℕ) → act code tables x1 ≡ a → Does a (did.Writes bytes) x x1 → ((t : Tables) → Wrote (act code t x1) y) → out2 ≡ out ++ bytes.items
    → HasMoved (machine code tables (at_most room some)) a r 0 y mail mail out out2
writes_comes code tables room some (Prints text z) r bytes x x1 y mail out out2 acts h w o =
    let M = machine code tables (at_most room some) in
    let wrote : y ≡ z = subst (λ a. Wrote a y) acts (w tables) in
    subst (λ v. HasMoved M (Prints text v) r 0 y mail mail out out2) wrote
    (subst (λ u. HasMoved M (Prints text y) r 0 y mail mail out u) (sym (o ∙ ap (λ t. out ++ t) h.0)) (prints_moved code tables room some r text y mail out))
writes_comes code tables room some HasHalted r bytes x x1 y mail out out2 acts h w o = absurd h
writes_comes code tables room some (Trips k) r bytes x x1 y mail out out2 acts h w o = absurd h
writes_comes code tables room some (Goes z) r bytes x x1 y mail out out2 acts h w o = absurd h
writes_comes code tables room some (Sends to message z) r bytes x x1 y mail out out2 acts h w o = absurd h
writes_comes code tables room some (Gets sender f) r bytes x x1 y mail out out2 acts h w o = absurd h

pub trapped_comes : (code : Code) (tables : Tables) (room : ℕ) (some : 1 ≤ room) (a : Act) (r : ℕ) (at : _) (kind : _) (x y : Store) (mail : Mail) (out : List ℕ) → Does a (did.Trapped at kind) x y → Comes (machine code tables (at_most room some)) a (deed.Trapped at kind) r x y mail mail out out
trapped_comes code tables room some (Trips t) r at kind x y mail out h = (record { store_is = h.1; mail_is = refl; out_is = refl }, ap Trips h.0)
trapped_comes code tables room some HasHalted r at kind x y mail out h = absurd h
trapped_comes code tables room some (Goes z) r at kind x y mail out h = absurd h
trapped_comes code tables room some (Sends to message z) r at kind x y mail out h = absurd h
trapped_comes code tables room some (Gets sender f) r at kind x y mail out h = absurd h
trapped_comes code tables room some (Prints text z) r at kind x y mail out h = absurd h

pub halted_comes : (code : Code) (tables : Tables) (room : ℕ) (some : 1 ≤ room) (a : Act) (r : ℕ) (x y : Store) (mail : Mail) (out : List ℕ) → Does a did.Halted x y → Comes (machine code tables (at_most room some)) a deed.Waited r x y mail mail out out
halted_comes code tables room some HasHalted r x y mail out h = (record { store_is = h; mail_is = refl; out_is = refl }, λ ranks ms ws ps. inl tt)
halted_comes code tables room some (Trips t) r x y mail out h = absurd h
halted_comes code tables room some (Goes z) r x y mail out h = absurd h
halted_comes code tables room some (Sends to message z) r x y mail out h = absurd h
halted_comes code tables room some (Gets sender f) r x y mail out h = absurd h
halted_comes code tables room some (Prints text z) r x y mail out h = absurd h

-- a post to a queue that takes no more has to wait
pub blocked_comes : (code : Code) (tables : Tables) (room : ℕ) (some : 1 ≤ room) (a : Act) (r : ℕ) (x : Store) (mail : Mail) (out : List ℕ) → has_space (receiver_of a) (queue_at mail r) room ≡ false → Comes (machine code tables (at_most room some)) a deed.Waited r x x mail mail out out
blocked_comes code tables room some (Sends to message z) r x mail out full = (record { store_is = refl; mail_is = refl; out_is = refl }, λ ranks ms ws ps. inr full)
blocked_comes code tables room some HasHalted r x mail out full = absurd cc
blocked_comes code tables room some (Trips t) r x mail out full = absurd cc
blocked_comes code tables room some (Goes z) r x mail out full = absurd cc
blocked_comes code tables room some (Gets sender f) r x mail out full = absurd cc
blocked_comes code tables room some (Prints text z) r x mail out full = absurd cc

-- ---- that there is an instruction

halted_apart : (a : Act) (from : ℕ) (x x1 : Store) → Does a did.Halted x x → Does a (did.Wants from) x x1 → ⊥
halted_apart HasHalted from x x1 h g = g
halted_apart (Trips t) from x x1 h g = h
halted_apart (Goes z) from x x1 h g = h
halted_apart (Sends to message z) from x x1 h g = h
halted_apart (Gets sender f) from x x1 h g = h
halted_apart (Prints text z) from x x1 h g = h

halted_writes : (a : Act) (bytes : _) (x x1 : Store) → Does a did.Halted x x → Does a (did.Writes bytes) x x1 → ⊥
halted_writes HasHalted bytes x x1 h g = g
halted_writes (Trips t) bytes x x1 h g = h
halted_writes (Goes z) bytes x x1 h g = h
halted_writes (Sends to message z) bytes x x1 h g = h
halted_writes (Gets sender f) bytes x x1 h g = h
halted_writes (Prints text z) bytes x x1 h g = h

inside_if : (code : Code) (tables : Tables) (x : Store) → (Does (act code tables x) did.Halted x x → ⊥) → (b : Bool) → ltb x.position (length code.list) ≡ b → x.position < length code.list
inside_if code tables x never true is = ltb-true x.position (length code.list) is
inside_if code tables x never false is = absurd (never (does_past code tables x (get_past code.list x.position (let h = ltb-false x.position (length code.list) is in omega (arith, h)))))

pub wants_inside : (code : Code) (tables : Tables) (from : ℕ) (x x1 : Store) → Does (act code tables x) (did.Wants from) x x1 → x.position < length code.list
wants_inside code tables from x x1 h = inside_if code tables x (λ g. halted_apart (act code tables x) from x x1 g h) (ltb x.position (length code.list)) refl

pub writes_inside : (code : Code) (tables : Tables) (bytes : _) (x x1 : Store) → Does (act code tables x) (did.Writes bytes) x x1 → x.position < length code.list
writes_inside code tables bytes x x1 h = inside_if code tables x (λ g. halted_writes (act code tables x) bytes x x1 g h) (ltb x.position (length code.list)) refl

-- the same, where this was tested for all tables
pub blocked : (code : Code) (tables : Tables) (room number : ℕ) (free : Bool) (x : Store) (mail : Mail) (out : List ℕ) → ((t : Tables) → free ≡ has_space (receiver_of (act code t x)) (queue_at mail number) room) → free ≡ false
    → (some : 1 ≤ room) → Comes (machine code tables (at_most room some)) (act code tables x) deed.Waited number x x mail mail out out
blocked code tables room number free x mail out h is some = blocked_comes code tables room some (act code tables x) number x mail out (sym (h tables) ∙ is)

pub on_err : {T E P : Type 0} (r : Result T E) → P → OnErr r P
on_err (Ok x) p = tt
on_err (Err e) p = p
