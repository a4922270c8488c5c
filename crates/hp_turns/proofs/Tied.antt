-- A state of the lockstep and what the ranks have done apart: between a Post and a Take the messages that the lockstep has
-- delivered wait in the queues.
use Rattle.std.proofs.Common.{◌≡◌, ◌∙◌, refl, subst, ap, arith, ℕ, zero, suc, ◌<◌, ◌≤◌, List, [], ◌∷◌, length, get_or, Some, None, slice_get, ltb, ltb-true, ltb-false, true, false, Bool}
use Rattle.hp_word.specs.declared.table.Message.{Message}
use Rattle.hp_word.specs.declared.table.Tables.{Tables}
use Rattle.hp_network.specs.Network.{Room}
use Rattle.hp_network.proofs.Worlds.{Entry, World}
use Rattle.hp_network.proofs.Alone.{Alone, alone_count, Stage}
use Rattle.hp_spmd.specs.declared.code.Code.{Code}
use Rattle.hp_spmd.specs.declared.store.Store.{Store}
use Rattle.hp_spmd.specs.Exchanges.{Phase, Posted, RootPosted, wants}
use Rattle.hp_spmd.specs.Kinds.{Kind}
use Rattle.hp_spmd.specs.Lockstep.{State, position_of}
use Rattle.hp_spmd.specs.Spread.{IsPlaced}
use Rattle.hp_spmd.specs.Store.{no_message}
use Rattle.hp_turns.specs.Apart.{price}
use Rattle.hp_turns.specs.Turns.{machine}
use Rattle.hp_turns.proofs.Acts.{kind_at}
use Rattle.hp_turns.proofs.Alone.{Empty, One, IsOn}

-- the ranks to which messages wait in a phase
abbrev pub expects : Phase → ℕ → Bool
expects Posted r = true
expects RootPosted zero = true
expects RootPosted (suc r) = false
expects _ r = false

-- a rank at the beginning of an instruction
pub record IsAt (n p r : ℕ) (x : Store) : Type 0 where
  pub on : IsOn n p r x
  pub sent_is : x.sent ≡ 0
  pub got_is : x.got ≡ 0

-- the lockstep's rank has the messages in its inbox that wait for this one
pub record Letters (n : ℕ) (s : State) (w : World Store) (r : ℕ) : Type 0 where
  pub ms : List Message
  pub count : length ms ≡ n
  pub store : slice_get s.ranks r ≡ Some (record (w r).now { inbox = ms })
  pub waiting : (a : ℕ) → a < n → One w a r (get_or ms a no_message)

-- the lockstep's rank is this one, and no message waits for it
pub record Plain (n : ℕ) (s : State) (w : World Store) (r : ℕ) : Type 0 where
  pub store : slice_get s.ranks r ≡ Some (w r).now
  pub empty : (a : ℕ) → a < n → Empty w a r

abbrev pub MailTo : ℕ → State → World Store → ℕ → Bool → Type 0
MailTo n s w r false = Plain n s w r
MailTo n s w r true = Letters n s w r

pub record At (code : Code) (n : ℕ) (s : State) (w : World Store) : Type 0 where
  pub pos : ℕ
  pub count : length s.ranks ≡ n
  pub out : s.out ≡ (w 0).wrote
  pub ranks : (r : ℕ) → r < n → IsAt n pos r (w r).now
  pub mail : (r : ℕ) → r < n → MailTo n s w r (expects (wants (kind_at code pos)) r)

-- the position of all ranks is that of the first one
first_of : (xs : List Store) (x : Store) → slice_get xs 0 ≡ Some x → position_of xs ≡ x.position
first_of [] x q = absurd (differ q)
  where
    differ : None ≡ Some x → ⊥
    differ p = cc
first_of (y ∷ ys) x q = ap (λ z. z.position) (same q)
  where
    same : Some y ≡ Some x → y ≡ x
    same p = cc

mail_position : (code : Code) (n p : ℕ) (s : State) (w : World Store) (b : Bool) → (w 0).now.position ≡ p → MailTo n s w 0 b → position_of s.ranks ≡ p
mail_position code n p s w false at m = first_of s.ranks (w 0).now m.store ∙ at
mail_position code n p s w true at m = first_of s.ranks (record (w 0).now { inbox = m.ms }) m.store ∙ at

pub at_position : (code : Code) (n : ℕ) (s : State) (w : World Store) → 1 ≤ n → (at : At code n s w) → position_of s.ranks ≡ at.pos
at_position code n s w some at = mail_position code n at.pos s w (expects (wants (kind_at code at.pos)) 0) (at.ranks 0 (omega (arith, some))).on.position_is (at.mail 0 (omega (arith, some)))

-- in these phases no message waits
pub plain_at : (code : Code) (n : ℕ) (s : State) (w : World Store) (at : At code n s w) (phase : Phase) → wants (kind_at code at.pos) ≡ phase → ((r : ℕ) → expects phase r ≡ false) → (r : ℕ) → r < n → Plain n s w r
plain_at code n s w at phase e none r lt = subst (MailTo n s w r) (ap (λ p. expects p r) e ∙ none r) (at.mail r lt)

pub letters_at : (code : Code) (n : ℕ) (s : State) (w : World Store) (at : At code n s w) (phase : Phase) (r : ℕ) → wants (kind_at code at.pos) ≡ phase → expects phase r ≡ true → r < n → Letters n s w r
letters_at code n s w at phase r e all lt = subst (MailTo n s w r) (ap (λ p. expects p r) e ∙ all) (at.mail r lt)

-- ---- one instruction of all ranks

-- where the ranks come to, each alone, by an instruction of this shape, and that the lockstep's next state is there
pub record Led (code : Code) (tables : Tables) (room : Room) (n : ℕ) (w : World Store) (k : Kind) (s : State) : Type 0 where
  pub world : World Store
  pub stage : Stage (machine code tables room) n (IsPlaced code n) w world
  pub pays : stage.most ≡ price n k
  pub ups : (r : ℕ) → r < n → (w r).moves < (world r).moves
  pub at : At code n s world

-- what one rank does of it
pub record Done (code : Code) (tables : Tables) (room : Room) (n : ℕ) (w : World Store) (most q : ℕ) (out : List ℕ) (r : ℕ) (e : Entry Store) : Type 0 where
  pub cost : ℕ
  pub within : cost ≤ most
  pub some : 1 ≤ cost
  pub alone : Alone (machine code tables room) n w r (IsPlaced code n) cost (w r) e
  pub at : IsAt n q r e.now
  pub out_is : r ≡ 0 → out ≡ e.wrote

pub record Gathered {X : Type 0} (n : ℕ) (w : World X) (Q : ℕ → Entry X → Type 0) : Type 0 where
  pub world : World X
  pub those : (r : ℕ) → r < n → Q r (world r)
  pub rest : (r : ℕ) → n ≤ r → world r ≡ w r

gather : {X : Type 0} (n : ℕ) (w : World X) (Q : ℕ → Entry X → Type 0) → ((r : ℕ) → r < n → (e : Entry X) × Q r e) → Gathered n w Q
gather {X = X} n w Q f =
    record {
      world = λ r. pick r (ltb r n) refl;
      those = λ r lt. picked r (ltb r n) refl lt;
      rest = λ r le. left r (ltb r n) refl le;
    }
  where
    pick : (r : ℕ) (b : Bool) → ltb r n ≡ b → Entry X
    pick r true q = (f r (ltb-true r n q)).0
    pick r false q = w r

    picked : (r : ℕ) (b : Bool) (q : ltb r n ≡ b) → r < n → Q r (pick r b q)
    picked r true q lt = (f r (ltb-true r n q)).1
    picked r false q lt = absurd (let h = ltb-false r n q in omega (arith, h, lt))

    left : (r : ℕ) (b : Bool) (q : ltb r n ≡ b) → n ≤ r → pick r b q ≡ w r
    left r true q le = absurd (let h = ltb-true r n q in omega (arith, h, le))
    left r false q le = refl

pub led_by : (code : Code) (tables : Tables) (room : Room) (n : ℕ) (w : World Store) (k : Kind) (q : ℕ) (s : State) (Q : ℕ → Entry Store → Type 0) → 1 ≤ n → length s.ranks ≡ n
    → ((r : ℕ) → r < n → (e : Entry Store) × Done code tables room n w (price n k) q s.out r e × Q r e)
    → ((v : World Store) → ((r : ℕ) → r < n → Q r (v r)) → (r : ℕ) → r < n → MailTo n s v r (expects (wants (kind_at code q)) r)) → Led code tables room n w k s
led_by code tables room n w k q s Q some count each mail =
    let m = machine code tables room in
    let g = gather n w (λ r e. Done code tables room n w (price n k) q s.out r e × Q r e) (λ r lt. let d = each r lt in (d.0, (d.1, d.2))) in
    record {
      world = g.world;
      stage = record {
        most = price n k;
        goes = λ r lt. let d = (g.those r lt).0 in record { cost = d.cost; within = d.within; alone = d.alone };
        rest = g.rest;
      };
      pays = refl;
      ups = λ r lt. let d = (g.those r lt).0 in let c = alone_count m n w r (IsPlaced code n) d.cost (w r) (g.world r) d.alone in let o = d.some in omega (arith, c, o);
      at = record {
        pos = q;
        count = count;
        out = (g.those 0 (omega (arith, some))).0.out_is refl;
        ranks = λ r lt. (g.those r lt).0.at;
        mail = mail g.world (λ r lt. (g.those r lt).1);
      };
    }
