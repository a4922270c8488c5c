-- What holds between the turns of a call.
use Rattle.std.proofs.Common.{◌≡◌, ◌∙◌, refl, sym, subst, ap, arith, ℕ, zero, suc, ◌+◌, ◌-◌, ◌^◌, ◌<◌, ◌≤◌, List, [], ◌∷◌, ◌++◌, get_or, length, length-append, Option, Some, None}
use Rattle.std.proofs.lemmas.List.{length-map}
use Rattle.hp_word.specs.declared.place.Place.{Place}
use Rattle.hp_word.specs.declared.place.TrapKind.{TrapKind}
use Rattle.hp_word.specs.declared.table.Tables.{Tables}
use Rattle.hp_network.specs.Network as network
use Rattle.hp_network.specs.Network.{HasEnded, no_counts, run}
use Rattle.hp_network.specs.Rows.{at_most}
use Rattle.hp_outside.specs.Counts.{counted, counted_on}
use Rattle.hp_rank.specs.declared.rank.Rank.{Rank}
use Rattle.hp_spmd.specs.declared.code.Code.{Code}
use Rattle.hp_spmd.specs.declared.store.Store.{Store}
use Rattle.hp_spmd.specs.Lockstep.{first_state}
use Rattle.hp_turns.specs.Turns.{machine, start}
use Rattle.hp_machine.specs.declared.machine.Machine.{Machine}
use Rattle.hp_machine.specs.Ends.{ComesTo, GoesOn}
use Rattle.hp_machine.specs.Follows.{Follows, Takes}
use Rattle.hp_machine.specs.Machines.{Running, state_of, trap_of}
use Rattle.hp_machine.specs.States.{counts_of}
use Rattle.hp_machine.proofs.FollowLemmas.{follows_more, follows_none, follows_run}
use Rattle.hp_machine.proofs.MoveLemmas.{moves_within}

-- A call that began at a machine and has made turns, none of which wrote: the numbers before it and those by now, and how
-- often the order was asked before and by now.
pub record Stays (code : Code) (tables : Tables) (order : ℕ → Option ℕ) (asked now : ℕ) (first later : Machine) (before after : List ℕ) : Type 0 where
  pub follows : Running first.room code tables (λ m. Follows m order asked (state_of first) (state_of later) before after)
  pub goes : Running first.room code tables (λ m. HasEnded m (state_of later) → ⊥)
  pub going : later.trap ≡ None
  pub out : later.out.items ≡ first.out.items
  pub ranks : length later.ranks.items ≡ length first.ranks.items
  pub room : later.room ≡ first.room
  pub more : length before ≤ length after
  pub counted : now ≡ counted_on asked (length after - length before)

none_of : (o : Option (Place × TrapKind)) → trap_of o ≡ None → o ≡ None
none_of None is = refl
none_of (Some t) is = absurd cc

one_longer : (xs ys : List ℕ) (x : ℕ) → ys ≡ xs ++ x ∷ [] → length ys ≡ length xs + 1
one_longer xs ys x is = ap length is ∙ length-append xs (x ∷ [])

-- before the first turn
pub stays_none : (code : Code) (tables : Tables) (order : ℕ → Option ℕ) (asked : ℕ) (first : Machine) (before : List ℕ) → Running first.room code tables (λ m. GoesOn m (state_of first)) → Stays code tables order asked asked first first before before
stays_none code tables order asked first before goes =
    let none : length before - length before ≡ 0 = omega arith in
    record {
      follows = λ some. follows_none (machine code tables (at_most first.room some)) order asked (state_of first) before;
      goes = λ some. (goes some).1;
      going = none_of first.trap (goes first.sound.least).0;
      out = refl;
      ranks = refl;
      room = refl;
      more = omega arith;
      counted = sym (ap (counted_on asked) none);
    }

module _ (code : Code) (tables : Tables) (order order2 : ℕ → Option ℕ) (asked now : ℕ) (first mid later : Machine) (before between after : List ℕ) where
  abbrev pub TakesOne : Type 0
  TakesOne = Running mid.room code tables (λ m. Takes m order2 now (state_of mid) (state_of later) between after)

  -- one more turn, whether the call ends with it or not
  pub takes_follows : ((k : ℕ) → order2 k ≡ order k) → Stays code tables order asked now first mid before between → TakesOne → Running first.room code tables (λ m. Follows m order asked (state_of first) (state_of later) before after)
  takes_follows same h takes some =
      let one = subst (λ room. Running room code tables (λ m. Takes m order2 now (state_of mid) (state_of later) between after)) h.room takes some in
      let ranks = length-map mid.ranks.items (λ (rank : Rank). rank.store) ∙ h.ranks ∙ sym (length-map first.ranks.items (λ (rank : Rank). rank.store)) in
      follows_more (machine code tables (at_most first.room some)) order asked (state_of first) before order2 now (state_of mid) (state_of later) between after same h.counted ranks h.out (h.follows some) one

  pub takes_counted : Stays code tables order asked now first mid before between → TakesOne → (length after ≡ length between + 1) × (counted now ≡ counted_on asked (length after - length before))
  takes_counted h takes =
      let one = takes mid.sound.least in
      let longer = one_longer between after one.rank one.appended in
      let more = h.more in
      let made : length after - length before ≡ suc (length between - length before) = omega (arith, longer, more) in
      (longer, ap counted h.counted ∙ sym (ap (counted_on asked) made))

  -- one more turn that did not write
  pub stays_more : (now2 : ℕ) → ((k : ℕ) → order2 k ≡ order k) → now2 ≡ counted now → length later.ranks.items ≡ length mid.ranks.items → later.room ≡ mid.room
      → Running mid.room code tables (λ m. (HasEnded m (state_of mid) → ⊥) → ComesTo m (state_of mid) (state_of later) None)
      → Stays code tables order asked now first mid before between → TakesOne → Stays code tables order asked now2 first later before after
  stays_more now2 same counts ranks room comes h takes =
      let c = takes_counted h takes in
      let longer = c.0 in
      let more = h.more in
      let comes_here = subst (λ room. Running room code tables (λ m. (HasEnded m (state_of mid) → ⊥) → ComesTo m (state_of mid) (state_of later) None)) h.room comes in
      let some = first.sound.least in
      record {
        follows = takes_follows same h takes;
        goes = λ some. (comes_here some (h.goes some)).0.1;
        going = none_of later.trap (comes_here some (h.goes some)).0.0;
        out = (comes_here some (h.goes some)).1 ∙ h.out;
        ranks = ranks ∙ h.ranks;
        room = room ∙ h.room;
        more = omega (arith, more, longer);
        counted = counts ∙ c.1;
      }

-- ---- no rank has made more moves than there were turns

moves_at : (ms ws ps : List ℕ) (r : ℕ) → length ws ≡ length ms → length ps ≡ length ms → (get_or (counts_of ms ws ps) r no_counts).moves ≡ get_or ms r 0
moves_at [] ws ps r e f = refl
moves_at (m ∷ ms) [] ps r e f = absurd (omega (arith, e))
moves_at (m ∷ ms) (w ∷ ws) [] r e f = absurd (omega (arith, f))
moves_at (m ∷ ms) (w ∷ ws) (p ∷ ps) zero e f = refl
moves_at (m ∷ ms) (w ∷ ws) (p ∷ ps) (suc r) e f = moves_at ms ws ps r (omega (arith, e)) (omega (arith, f))

few_by : (moves made bound : ℕ) → moves ≤ made → made ≤ bound → bound ≤ 2 ^ 26 → moves < 2 ^ 64 - 1
few_by moves made bound a b c = omega (arith, a, b, c)

pub few_moves : (code : Code) (tables : Tables) (order : ℕ → Option ℕ) (asked now bound : ℕ) (first later : Machine) (before after : List ℕ)
    → Running first.room code tables (λ m. state_of first ≡ run m (start code (length first.ranks.items)) before)
    → Stays code tables order asked now first later before after → length after ≤ bound → bound ≤ 2 ^ 26 → (r : ℕ) → get_or later.moves.items r 0 < 2 ^ 64 - 1
few_moves code tables order asked now bound first later before after holds h within few r =
    let some = first.sound.least in
    let m = machine code tables (at_most first.room some) in
    let xs = (first_state code (length first.ranks.items)).ranks in
    let is = follows_run m order asked (network.start xs) (state_of first) (state_of later) before after (holds some) (h.follows some) in
    let e : length later.words.items ≡ length later.moves.items = later.sound.words_of_each ∙ sym later.sound.moves_of_each in
    let f : length later.peak.items ≡ length later.moves.items = later.sound.peak_of_each ∙ sym later.sound.moves_of_each in
    let made = subst (λ z. (network.counts_at z r).moves ≤ length after) (sym is) (moves_within m xs after r) in
    few_by (get_or later.moves.items r 0) (length after) bound (subst (λ k. k ≤ length after) (moves_at later.moves.items later.words.items later.peak.items r e f) made) within few

-- ---- a machine as a run from the start

abbrev machine_of : (code : Code) (tables : Tables) (room : ℕ) → 1 ≤ room → network.Machine Store
machine_of code tables room some = machine code tables (at_most room some)

abbrev pub IsRun : Code → Tables → Machine → List ℕ → Type 0
IsRun code tables machine taken = Running machine.room code tables (λ m. state_of machine ≡ run m (start code (length machine.ranks.items)) taken)

-- a new machine is one of no turns
pub new_is_run : (code : Code) (tables : Tables) (n : ℕ) (machine : Machine) (taken : List ℕ) → state_of machine ≡ start code n → length machine.ranks.items ≡ n → taken ≡ [] → IsRun code tables machine taken
unfolding run
new_is_run code tables n machine taken is ranks none some =
    is ∙ ap (start code) (sym ranks) ∙ ap (run (machine_of code tables machine.room some) (start code (length machine.ranks.items))) (sym none)

-- after a call it is one of all turns since then
pub later_is_run : (code : Code) (tables : Tables) (order : ℕ → Option ℕ) (asked : ℕ) (first later : Machine) (before after : List ℕ) → IsRun code tables first before
    → Running first.room code tables (λ m. Follows m order asked (state_of first) (state_of later) before after) → length later.ranks.items ≡ length first.ranks.items → later.room ≡ first.room → IsRun code tables later after
later_is_run code tables order asked first later before after is follows ranks room =
    subst (λ k. Running later.room code tables (λ m. state_of later ≡ run m (start code k) after)) (sym ranks)
    (subst (λ k. Running k code tables (λ m. state_of later ≡ run m (start code (length first.ranks.items)) after)) (sym room)
    (λ some. follows_run (machine code tables (at_most first.room some)) order asked (start code (length first.ranks.items)) (state_of first) (state_of later) before after (is some) (follows some)))
