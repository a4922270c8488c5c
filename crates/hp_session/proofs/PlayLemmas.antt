-- A session between two writes, and what it has come to where it ends.
use Rattle.std.proofs.Common.{◌≡◌, ◌∙◌, refl, sym, subst, ap, arith, ℕ, ◌-◌, ◌<◌, ◌≤◌, false, List, [], ◌++◌, length, length-append, Option, None, inl, inr}
use Rattle.std.specs.Prelude.{All}
use Rattle.std.proofs.lemmas.List.{length-map}
use Rattle.std.proofs.lemmas.List.Elements.{All-append, All-nil}
use Rattle.hp_word.specs.declared.table.Tables.{Tables}
use Rattle.hp_network.specs.Network.{run}
use Rattle.hp_network.specs.Rows.{at_most}
use Rattle.hp_outside.specs.Counts.{counted, counted_on}
use Rattle.hp_outside.specs.Outside.{Grew, grown}
use Rattle.hp_outside.proofs.Growth.{grown_nothing}
use Rattle.hp_rank.specs.declared.rank.Rank.{Rank}
use Rattle.hp_spmd.specs.declared.code.Code.{Code}
use Rattle.hp_turns.specs.Turns.{machine, start}
use Rattle.hp_machine.specs.declared.machine.Machine.{Machine}
use Rattle.hp_machine.specs.Follows.{AreNamed, Follows}
use Rattle.hp_machine.specs.Machines.{Running, state_of}
use Rattle.hp_machine.proofs.FollowLemmas.{follows_run}
use Rattle.hp_machine.proofs.RunLemmas.{IsRun, new_is_run}
use Rattle.hp_session.specs.declared.playing.PlayEnd.{PlayEnd}
use Rattle.hp_session.specs.declared.playing.PlayEnd.TheVariants as end
use Rattle.hp_session.specs.Playing.{StandsAs, Took, TookBy, WasAsked, put_failed}
use Rattle.hp_session.proofs.StepLemmas.{call_longer, counted_more, falls_short, grew_behind, made_is, named_append, named_same}

-- A new machine has been played, and each write was put: the ranks whose turns were made, how often the order was asked, and
-- the machine and what the sink has by now.
pub record Plays (code : Code) (tables : Tables) (order : ℕ → Option ℕ) (asked now bound : ℕ) (first later : Machine) (taken : List ℕ) (old new : Option (List ℕ)) : Type 0 where
  pub is : Running first.room code tables (λ m. state_of later ≡ run m (start code (length first.ranks.items)) taken)
  pub among : All (λ r. r < length first.ranks.items) taken
  pub named : AreNamed order asked taken
  pub within : length taken ≤ bound
  pub grew : Grew old new later.out.items
  pub counted : now ≡ counted_on asked (length taken)
  pub ranks : length later.ranks.items ≡ length first.ranks.items
  pub room : later.room ≡ first.room

-- a new machine is what a session asks for
pub new_begins : (code : Code) (n : ℕ) (first : Machine) → state_of first ≡ start code n → length first.ranks.items ≡ n → state_of first ≡ start code (length first.ranks.items)
new_begins code n first is ranks = is ∙ ap (start code) (sym ranks)

-- before the first turn
pub plays_none : (code : Code) (tables : Tables) (order : ℕ → Option ℕ) (asked bound : ℕ) (first : Machine) (taken : List ℕ) (old : Option (List ℕ))
    → state_of first ≡ start code (length first.ranks.items) → taken ≡ [] → Plays code tables order asked asked bound first first taken old old
plays_none code tables order asked bound first taken old begins none =
    let empty : first.out.items ≡ [] = ap (λ s. s.out) begins in
    let long = ap length none in
    record {
      is = new_is_run code tables (length first.ranks.items) first taken begins refl none;
      among = subst (All (λ r. r < length first.ranks.items)) (sym none) (All-nil (λ r. r < length first.ranks.items));
      named = subst (AreNamed order asked) (sym none) tt;
      within = omega (arith, long);
      grew = sym (grown_nothing old) ∙ ap (grown old) (sym empty);
      counted = ap (counted_on asked) (sym long);
      ranks = refl;
      room = refl;
    }

-- what a caller of the machine is asked for
pub plays_run : (code : Code) (tables : Tables) (order : ℕ → Option ℕ) (asked now bound : ℕ) (first later : Machine) (taken : List ℕ) (old new : Option (List ℕ))
    → Plays code tables order asked now bound first later taken old new → IsRun code tables later taken
plays_run code tables order asked now bound first later taken old new h =
    subst (λ k. Running later.room code tables (λ m. state_of later ≡ run m (start code k) taken)) (sym h.ranks)
    (subst (λ k. Running k code tables (λ m. state_of later ≡ run m (start code (length first.ranks.items)) taken)) (sym h.room) h.is)

-- the order was asked by the calls before and by this one
asked_by : (asked now : ℕ) (before after turns : List ℕ) → after ≡ before ++ turns → now ≡ counted_on asked (length before) → counted_on now (length after - length before) ≡ counted_on asked (length after)
asked_by asked now before after turns is counts =
    ap (counted_on now) (made_is before after turns is) ∙ ap (λ k. counted_on k (length turns)) counts ∙ counted_more asked (length before) (length turns)
    ∙ ap (counted_on asked) (sym (length-append before turns) ∙ ap length (sym is))

was_asked : (asked now later made all : ℕ) (e : PlayEnd) → counted_on now made ≡ counted_on asked all → WasAsked now later made e → WasAsked asked later all e
was_asked asked now later made all end.Ended same h = h ∙ same
was_asked asked now later made all (end.Trapped at kind) same h = h ∙ same
was_asked asked now later made all end.Spent same h = h ∙ same
was_asked asked now later made all end.PutFailed same (inl h) = inl (h ∙ same)
was_asked asked now later made all end.PutFailed same (inr h) = inr (h ∙ ap counted same)
was_asked asked now later made all end.NoMemory same h = h ∙ ap counted same

module _ (code : Code) (tables : Tables) (order order2 : ℕ → Option ℕ) (asked now bound : ℕ) (first mid later : Machine) (before after : List ℕ) (old between new : Option (List ℕ)) (h : Plays code tables order asked now bound first mid before old between)
    (call : Running mid.room code tables (λ m. Follows m order2 now (state_of mid) (state_of later) before after)) where
  call_here : Running first.room code tables (λ m. Follows m order2 now (state_of mid) (state_of later) before after)
  call_here = subst (λ room. Running room code tables (λ m. Follows m order2 now (state_of mid) (state_of later) before after)) h.room call

  pub call_is : Running first.room code tables (λ m. state_of later ≡ run m (start code (length first.ranks.items)) after)
  call_is some =
      follows_run (machine code tables (at_most first.room some)) order2 now (start code (length first.ranks.items)) (state_of mid) (state_of later) before after (h.is some) (call_here some)

  pub call_among : All (λ r. r < length first.ranks.items) after
  call_among =
      let one = call mid.sound.least in
      let ranks = length-map mid.ranks.items (λ (rank : Rank). rank.store) ∙ h.ranks in
      subst (All (λ r. r < length first.ranks.items)) (sym one.appended)
      (All-append (λ r. r < length first.ranks.items) before one.turns h.among (subst (λ n. All (λ r. r < n) one.turns) ranks one.among))

  pub call_named : ((k : ℕ) → order2 k ≡ order k) → AreNamed order asked after
  call_named same =
      let one = call mid.sound.least in
      subst (AreNamed order asked) (sym one.appended)
      (named_append order asked before one.turns h.named (named_same order order2 (counted_on asked (length before)) one.turns same (subst (λ k. AreNamed order2 k one.turns) h.counted one.named)))

  pub call_asked : counted_on now (length after - length before) ≡ counted_on asked (length after)
  call_asked = let one = call mid.sound.least in asked_by asked now before after one.turns one.appended h.counted

  -- the session goes on
  pub plays_more : (now2 : ℕ) → ((k : ℕ) → order2 k ≡ order k) → length after ≤ bound → now2 ≡ counted_on now (length after - length before)
      → length later.ranks.items ≡ length mid.ranks.items → later.room ≡ mid.room → TookBy mid.out.items later.out.items between new false
      → Plays code tables order asked now2 bound first later after old new
  plays_more now2 same within counts ranks room took =
      record {
        is = call_is;
        among = call_among;
        named = call_named same;
        within = within;
        grew = grew_behind old between new mid.out.items took.0 h.grew took.2 ∙ ap (grown old) (sym took.1);
        counted = counts ∙ call_asked;
        ranks = ranks ∙ h.ranks;
        room = room ∙ h.room;
      }

  pub goes_on : Running mid.room code tables (λ m. StandsAs m (state_of mid) (state_of later) after bound None) → length before < length after
  goes_on stands =
      let some = mid.sound.least in
      call_longer (machine code tables (at_most mid.room some)) order2 now (state_of mid) (state_of later) before after (call some) (stands some).1

  -- the session ends
  pub plays_asked : (now2 : ℕ) (e : PlayEnd) → WasAsked now now2 (length after - length before) e → WasAsked asked now2 (length after) e
  plays_asked now2 e was = was_asked asked now now2 (length after - length before) (length after) e call_asked was

  all_took : TookBy mid.out.items later.out.items between new false → Running first.room code tables (λ m. Grew old new (run m (start code (length first.ranks.items)) after).out)
  all_took took some = grew_behind old between new mid.out.items took.0 h.grew took.2 ∙ ap (grown old) (sym took.1 ∙ ap (λ s. s.out) (call_is some))

  pub plays_took : (e : PlayEnd) → TookBy mid.out.items later.out.items between new (put_failed e) → Running first.room code tables (λ m. Took m (start code (length first.ranks.items)) after old new e)
  plays_took end.Ended took some = all_took took some
  plays_took (end.Trapped at kind) took some = all_took took some
  plays_took end.Spent took some = all_took took some
  plays_took end.PutFailed took some =
      falls_short (machine code tables (at_most first.room some)) order2 now (start code (length first.ranks.items)) (state_of mid) (state_of later) before after old between new (h.is some) (call_is some) (call_here some) h.grew took
  plays_took end.NoMemory took some = all_took took some
