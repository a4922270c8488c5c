-- A piece of code that is sound on its way does what it promises.
use Rattle.std.proofs.Common.{◌≡◌, ◌∙◌, refl, sym, subst, ap, arith, ℕ, suc, ◌+◌, ◌<◌, ◌≤◌, List, [], ◌∷◌, append-nil, map, length, false, Ok, Err, inl, inr}
use Rattle.std.specs.Prelude.{slice_index_or}
use Rattle.std.specs.List.{All, AllByRecursion, AllZip}
use Rattle.std.proofs.lemmas.List.Elements.{All-map, All-weaker, recursion_from_All}
use Rattle.hp_word.specs.declared.place.Trap.{Trap}
use Rattle.hp_word.specs.declared.table.Tables.{Tables}
use Rattle.hp_lattice.specs.declared.dist.Dist.{Dist}
use Rattle.hp_spmd.specs.declared.code.Code.{Code}
use Rattle.hp_spmd.specs.declared.instr.Instr.{Instr}
use Rattle.hp_spmd.specs.declared.instr.Instr.TheVariants as instr
use Rattle.hp_spmd.specs.declared.instr.Packing.{Packing}
use Rattle.hp_spmd.specs.declared.instr.Unpacking.{Unpacking}
use Rattle.hp_spmd.specs.declared.store.Store.{Store}
use Rattle.hp_spmd.specs.Exchange.{unpacked}
use Rattle.hp_spmd.specs.Kinds.{Kind, Packs, Posts, Takes, Unpacks, kind_of}
use Rattle.hp_spmd.specs.Layout.{AreShared, Env, Layout}
use Rattle.hp_spmd.specs.Local.{local_next, pack_done}
use Rattle.hp_spmd.specs.Lockstep.{State, state, Together, All as AllGo, One, delivered, joined_to, position_of, step, together}
use Rattle.hp_spmd.specs.Lockstep as lock
use Rattle.hp_spmd.specs.Next.{Next, Goes, Traps, lifted, moved}
use Rattle.hp_spmd.specs.Ranks.{IsTogether}
use Rattle.hp_spmd.specs.Store.{Data, data_of, instr_at, with_data}
use Rattle.hp_turns.specs.Apart.{Agree, AgreeBy, IsGo, IsTrap}
use Rattle.hp_snippet.specs.Exchanging.{IsExchange, exchanged, mail_for, once_packed, once_posted, once_taken, with_mail}
use Rattle.hp_snippet.specs.Leads.{Leads}
use Rattle.hp_snippet.specs.Outcomes.{Trips, Went}
use Rattle.hp_snippet.specs.Promises.{IsRankOf, IsSound, Slots, StandBefore, StandBehind, Stays, exchange_code, price_of}
use Rattle.hp_snippet.proofs.Exchanges.{KeptOnTheWay, exchange_leads, last_step, packed_place, posted_place, taken_place, to_taken, together_leads, unpack_next}

-- ---- ranks of a code

-- a rank of which as much is there as before, and which has the same arrays
pub rank_same : (code : Code) (ranks : ℕ) (x y : Store) → y.number ≡ x.number → y.ranks ≡ x.ranks → y.arrays ≡ x.arrays → length y.words ≡ length x.words → length y.loose ≡ length x.loose → IsRankOf code ranks x → IsRankOf code ranks y
rank_same code ranks x y number count arrays words loose h =
    record {
      placed = record {
        ranks_are = count ∙ h.placed.ranks_are;
        number_below = subst (λ n. n < ranks) (sym number) h.placed.number_below;
        shared = subst (λ a. AreShared code.arrays y.ranks y.number a) (sym arrays) (subst (λ n. AreShared code.arrays y.ranks n x.arrays) (sym number) (subst (λ r. AreShared code.arrays r x.number x.arrays) (sym count) h.placed.shared));
      };
      words = words ∙ h.words;
      loose = loose ∙ h.loose;
    }

-- what holds of each rank holds of what becomes of it
pub all_map : (P Q : Store → Type 0) (g : Store → Store) → ((x : Store) → P x → Q (g x)) → (xs : List Store) → All P xs → All Q (map g xs)
all_map P Q g f xs h = All-map Q g xs (All-weaker P (λ x. Q (g x)) f xs h)

-- the position of ranks that have all moved on by so many instructions
pub place_by : (g : Store → Store) (n : ℕ) → ((x : Store) → (g x).position ≡ x.position + n) → (xs : List Store) → 1 ≤ length xs → position_of (map g xs) ≡ position_of xs + n
place_by g n h [] some = absurd (omega (arith, some))
place_by g n h (x ∷ xs) some = h x

-- ---- what all do together

-- where each goes on to a store of its own
pub together_all : (f : Store → Next) (g : Store → Store) (xs : List Store) → All (λ x. f x ≡ Goes (g x)) xs → together f xs ≡ AllGo (map g xs)
together_all f g xs h = by_turns xs (recursion_from_All (λ x. f x ≡ Goes (g x)) xs h)
  where
    by_turns : (xs : List Store) → AllByRecursion (λ x. f x ≡ Goes (g x)) xs → together f xs ≡ AllGo (map g xs)
    by_turns [] h = refl
    by_turns (x ∷ xs) h = rw (h.0, by_turns xs h.1) refl

-- where each traps alike
pub together_one : (f : Store → Next) (t : Trap) (xs : List Store) → 1 ≤ length xs → All (λ x. f x ≡ Traps t) xs → together f xs ≡ One t
together_one f t [] some h = absurd (omega (arith, some))
together_one f t (x ∷ xs) some h = let first : 0 < length (x ∷ xs) = omega arith in ap (λ n. joined_to n (together f xs)) (h 0 x first)

-- ---- states on the way

-- the ranks agree at an instruction that is known
pub agree_at : (code : Code) (tables : Tables) (i : Instr) (ranks : List Store) → instr_at code.list (position_of ranks) ≡ i → AgreeBy (kind_of i) (local_next code.arrays tables i) ranks → Agree code tables ranks
agree_at code tables i ranks is h = subst (λ j. AgreeBy (kind_of j) (local_next code.arrays tables j) ranks) (sym is) h

-- a state behind the last instruction
pub sound_behind : (code : Code) (tables : Tables) (ranks until : ℕ) (s : State) → All (IsRankOf code ranks) s.ranks → position_of s.ranks ≡ until → IsSound code tables ranks until s
sound_behind code tables ranks until s each at = record { each = each; agree = λ lt. absurd (omega (arith, lt, at)) }

packed_ranks : (code : Code) (n : ℕ) (what : Packing) (xs : List Store) → All (IsRankOf code n) xs → All (IsRankOf code n) (once_packed code.arrays what xs)
unfolding pack_done
packed_ranks code n what xs h = all_map (IsRankOf code n) (IsRankOf code n) (pack_done code.arrays what) (λ x h. rank_same code n x (pack_done code.arrays what x) refl refl refl refl refl h) xs h

posted_ranks : (code : Code) (n : ℕ) (what : Packing) (xs : List Store) → All (IsRankOf code n) xs → All (IsRankOf code n) (once_posted code.arrays what xs)
posted_ranks code n what xs h =
    let sent = once_packed code.arrays what xs in
    all_map (IsRankOf code n) (IsRankOf code n) (delivered sent) (λ x h. rank_same code n x (delivered sent x) refl refl refl refl refl h) sent (packed_ranks code n what xs h)

taken_ranks : (code : Code) (n : ℕ) (what : Packing) (xs : List Store) → All (IsRankOf code n) xs → All (IsRankOf code n) (once_taken code.arrays what xs)
taken_ranks code n what xs h =
    all_map (IsRankOf code n) (IsRankOf code n) moved (λ x h. rank_same code n x (moved x) refl refl refl refl refl h) (once_posted code.arrays what xs) (posted_ranks code n what xs h)

-- what holds of each rank with its mail
taken_all : (dists : List Dist) (what : Packing) (P : Store → Type 0) (xs ranks : List Store) → All (λ x. P (moved (delivered (once_packed dists what ranks) (pack_done dists what x)))) xs
    → All P (map moved (map (delivered (once_packed dists what ranks)) (map (pack_done dists what) xs)))
taken_all dists what P xs ranks h =
    let sent = once_packed dists what ranks in
    All-map P moved (map (delivered sent) (map (pack_done dists what) xs))
    (All-map (λ y. P (moved y)) (delivered sent) (map (pack_done dists what) xs)
    (All-map (λ y. P (moved (delivered sent y))) (pack_done dists what) xs h))

-- the way of an exchange at whose Unpack all agree
exchange_way : (code : Code) (tables : Tables) (what : Packing) (unpacking : Unpacking) (ranks : List Store) (out : List ℕ) (n until : ℕ) → 1 ≤ length ranks → IsExchange code (position_of ranks) what unpacking → All (IsRankOf code n) ranks
    → AgreeBy (Unpacks unpacking) (local_next code.arrays tables (instr.Unpack unpacking)) (once_taken code.arrays what ranks)
    → KeptOnTheWay (IsSound code tables n until) code.arrays what ranks out
exchange_way code tables what unpacking ranks out n until some is each agree =
    record {
      first = record { each = each; agree = λ lt. agree_at code tables (instr.Pack what) ranks is.packs tt };
      packed = record {
        each = packed_ranks code n what ranks each;
        agree = λ lt. agree_at code tables (instr.Post false) (once_packed code.arrays what ranks) (ap (instr_at code.list) (packed_place code.arrays what ranks some) ∙ is.posts) tt;
      };
      posted = record {
        each = posted_ranks code n what ranks each;
        agree = λ lt. agree_at code tables (instr.Take false) (once_posted code.arrays what ranks) (ap (instr_at code.list) (posted_place code.arrays what ranks some) ∙ is.takes) tt;
      };
      taken = record {
        each = taken_ranks code n what ranks each;
        agree = λ lt. agree_at code tables (instr.Unpack unpacking) (once_taken code.arrays what ranks) (ap (instr_at code.list) (taken_place code.arrays what ranks some) ∙ is.unpacks) agree;
      };
    }

-- ---- exchanges

-- a rank behind an exchange of which it makes these data
abbrev pub behind : List Dist → Packing → List Store → (Store → Data) → Store → Store
behind dists what ranks f x = with_data (f x) (moved (with_mail dists what ranks x))

-- each of these ranks makes these data of the messages for it
abbrev pub AllMake : List Dist → Packing → Unpacking → (ranks : List Store) → (Store → Data) → Type 0
AllMake dists what unpacking ranks f =
    All (λ x. unpacked dists unpacking x.number x.ranks (mail_for dists what ranks x.number) (data_of x) ≡ Ok (f x)) ranks

-- each of these ranks traps so by the messages for it
abbrev pub AllTrap : List Dist → Packing → Unpacking → (ranks : List Store) → Trap → Type 0
AllTrap dists what unpacking ranks t =
    All (λ x. unpacked dists unpacking x.number x.ranks (mail_for dists what ranks x.number) (data_of x) ≡ Err t) ranks

all_go : (code : Code) (tables : Tables) (what : Packing) (unpacking : Unpacking) (ranks : List Store) (f : Store → Data) → AllMake code.arrays what unpacking ranks f
    → AgreeBy (Unpacks unpacking) (local_next code.arrays tables (instr.Unpack unpacking)) (once_taken code.arrays what ranks)
all_go code tables what unpacking ranks f h =
    inr (taken_all code.arrays what (λ y. IsGo (local_next code.arrays tables (instr.Unpack unpacking) y)) ranks ranks
    (λ k d lt. let x = slice_index_or ranks k d in
    subst IsGo (sym (unpack_next code.arrays tables what unpacking ranks x ∙ ap (λ r. lifted r (with_mail code.arrays what ranks x)) (h k d lt))) tt))

all_trap : (code : Code) (tables : Tables) (what : Packing) (unpacking : Unpacking) (ranks : List Store) (t : Trap) → AllTrap code.arrays what unpacking ranks t
    → AgreeBy (Unpacks unpacking) (local_next code.arrays tables (instr.Unpack unpacking)) (once_taken code.arrays what ranks)
all_trap code tables what unpacking ranks t h =
    inl (taken_all code.arrays what (λ y. IsTrap (local_next code.arrays tables (instr.Unpack unpacking) y)) ranks ranks
    (λ k d lt. let x = slice_index_or ranks k d in
    subst IsTrap (sym (unpack_next code.arrays tables what unpacking ranks x ∙ ap (λ r. lifted r (with_mail code.arrays what ranks x)) (h k d lt))) tt))

behind_place : (dists : List Dist) (what : Packing) (ranks : List Store) (f : Store → Data) (x : Store) → (behind dists what ranks f x).position ≡ x.position + 4
unfolding pack_done
behind_place dists what ranks f x = let four : suc (suc (suc (suc x.position))) ≡ x.position + 4 = omega arith in four

-- where they are then
pub behind_at : (dists : List Dist) (what : Packing) (ranks : List Store) (f : Store → Data) → 1 ≤ length ranks → position_of (map (behind dists what ranks f) ranks) ≡ position_of ranks + 4
behind_at dists what ranks f some = place_by (behind dists what ranks f) 4 (behind_place dists what ranks f) ranks some

-- the ranks behind an exchange, as far as they keep what they have
pub behind_ranks : (code : Code) (n : ℕ) (what : Packing) (ranks : List Store) (f : Store → Data) → All (IsRankOf code n) ranks
    → ((x : Store) → (f x).arrays ≡ x.arrays) → ((x : Store) → length (f x).words ≡ length x.words) → ((x : Store) → length (f x).loose ≡ length x.loose)
    → All (IsRankOf code n) (map (behind code.arrays what ranks f) ranks)
unfolding pack_done
behind_ranks code n what ranks f h arrays words loose =
    all_map (IsRankOf code n) (IsRankOf code n) (behind code.arrays what ranks f) (λ x h. rank_same code n x (behind code.arrays what ranks f x) refl refl (arrays x) (words x) (loose x) h) ranks h

-- An exchange of which each rank makes something leads there, and all is sound on the way, where it is at the end.
pub exchange_sound : (code : Code) (tables : Tables) (price : Kind → ℕ) (what : Packing) (unpacking : Unpacking) (ranks : List Store) (out : List ℕ) (n until : ℕ) (f : Store → Data)
    → 1 ≤ length ranks → IsExchange code (position_of ranks) what unpacking → All (IsRankOf code n) ranks → AllMake code.arrays what unpacking ranks f
    → IsSound code tables n until (state (map (behind code.arrays what ranks f) ranks) out)
    → Leads code tables price (IsSound code tables n until) 4 (price (Packs what) + (price Posts + (price Takes + price (Unpacks unpacking)))) (state ranks out) (state (map (behind code.arrays what ranks f) ranks) out)
exchange_sound code tables price what unpacking ranks out n until f some is each make end =
    exchange_leads code tables price (IsSound code tables n until) what unpacking ranks (map (behind code.arrays what ranks f) ranks) out some is
    (exchange_way code tables what unpacking ranks out n until some is each (all_go code tables what unpacking ranks f make))
    (together_all (exchanged code.arrays what unpacking ranks) (behind code.arrays what ranks f) ranks
    (λ k d lt. let x = slice_index_or ranks k d in ap (λ r. lifted r (with_mail code.arrays what ranks x)) (make k d lt)))
    end

-- the state at whose Unpack all trap
pub record TripsThere (code : Code) (tables : Tables) (price : Kind → ℕ) (what : Packing) (ranks : List Store) (out : List ℕ) (n until : ℕ) (t : Trap) : Type 0 where
  pub leads : Leads code tables price (IsSound code tables n until) 3 (price (Packs what) + (price Posts + price Takes)) (state ranks out) (state (once_taken code.arrays what ranks) out)
  pub trips : step code tables (state (once_taken code.arrays what ranks) out) ≡ lock.Trips t

pub exchange_trips : (code : Code) (tables : Tables) (price : Kind → ℕ) (what : Packing) (unpacking : Unpacking) (ranks : List Store) (out : List ℕ) (n until : ℕ) (t : Trap)
    → 1 ≤ length ranks → IsExchange code (position_of ranks) what unpacking → All (IsRankOf code n) ranks → AllTrap code.arrays what unpacking ranks t
    → TripsThere code tables price what ranks out n until t
exchange_trips code tables price what unpacking ranks out n until t some is each trap =
    record {
      leads = to_taken code tables price (IsSound code tables n until) what unpacking ranks out some is
          (exchange_way code tables what unpacking ranks out n until some is each (all_trap code tables what unpacking ranks t trap));
      trips = last_step code tables what unpacking ranks out (One t) some is
          (together_one (exchanged code.arrays what unpacking ranks) t ranks some
          (λ k d lt. let x = slice_index_or ranks k d in ap (λ r. lifted r (with_mail code.arrays what ranks x)) (trap k d lt)));
    }

-- ---- what each does by itself

-- a rank behind an instruction by which it makes these data
abbrev pub computed_by : (Store → Data) → Store → Store
computed_by f x = with_data (f x) (moved x)

-- An instruction that computes leads to what each rank makes by it.
pub computes_sound : (code : Code) (tables : Tables) (price : Kind → ℕ) (i : Instr) (ranks : List Store) (out : List ℕ) (n until : ℕ) (f : Store → Data)
    → IsTogether (kind_of i) → AgreeBy (kind_of i) (local_next code.arrays tables i) ranks → instr_at code.list (position_of ranks) ≡ i → All (IsRankOf code n) ranks
    → All (λ x. local_next code.arrays tables i x ≡ Goes (computed_by f x)) ranks
    → IsSound code tables n until (state (map (computed_by f) ranks) out)
    → Leads code tables price (IsSound code tables n until) 1 (price (kind_of i)) (state ranks out) (state (map (computed_by f) ranks) out)
computes_sound code tables price i ranks out n until f by agree is each goes end =
    together_leads code tables price (IsSound code tables n until) i ranks (map (computed_by f) ranks) out by is (together_all (local_next code.arrays tables i) (computed_by f) ranks goes)
    (record { each = each; agree = λ lt. agree_at code tables i ranks is agree }) end

pub computed_at : (f : Store → Data) (ranks : List Store) → 1 ≤ length ranks → position_of (map (computed_by f) ranks) ≡ position_of ranks + 1
computed_at f ranks some = place_by (computed_by f) 1 (λ x. let one : suc x.position ≡ x.position + 1 = omega arith in one) ranks some

-- ---- a piece of code that is one exchange

-- the instructions that stand there
pub exchange_stands : (code : Code) (what : Packing) (unpacking : Unpacking) (s : State) (env : Env) → StandBefore code (exchange_code what unpacking) s env → IsExchange code (position_of s.ranks) what unpacking
exchange_stands code what unpacking s env h = record { packs = h.stand.0; posts = h.stand.1.0; takes = h.stand.1.1.0; unpacks = h.stand.1.1.1.0 }

-- where each rank makes something of it, the code has gone to its end, and the ranks stand for something, in any sense
pub exchange_comes : (code : Code) (tables : Tables) (price : Kind → ℕ) (what : Packing) (unpacking : Unpacking) (s : State) (before after : Env) (StandsFor : State → Env → Type 0) (f : Store → Data)
    → StandBefore code (exchange_code what unpacking) s before → AllMake code.arrays what unpacking s.ranks f
    → All (IsRankOf code (length s.ranks)) (map (behind code.arrays what s.ranks f) s.ranks) → StandsFor (state (map (behind code.arrays what s.ranks f) s.ranks) s.out) after
    → Went code tables price (IsSound code tables (length s.ranks) (position_of s.ranks + 4)) (λ t. Unit {0}) Env StandsFor 4 (price_of price (exchange_code what unpacking)) (position_of s.ranks + 4) s (record { env = after; text = [] })
exchange_comes code tables price what unpacking s before after StandsFor f h make each stands =
    let at = behind_at code.arrays what s.ranks f h.some in
    record {
      count = 4;
      cost = price (Packs what) + (price Posts + (price Takes + price (Unpacks unpacking)));
      to = state (map (behind code.arrays what s.ranks f) s.ranks) s.out;
      leads = exchange_sound code tables price what unpacking s.ranks s.out (length s.ranks) (position_of s.ranks + 4) f h.some (exchange_stands code what unpacking s before h) h.each make
          (sound_behind code tables (length s.ranks) (position_of s.ranks + 4) (state (map (behind code.arrays what s.ranks f) s.ranks) s.out) each at);
      count_within = omega arith;
      cost_within = omega arith;
      place = at;
      out = sym (append-nil s.out);
      stands = λ t. stands;
    }

-- and what is not written is as it was
pub exchange_went : (code : Code) (tables : Tables) (price : Kind → ℕ) (what : Packing) (unpacking : Unpacking) (s : State) (before after : Env) (written : Slots) (f : Store → Data)
    → StandBefore code (exchange_code what unpacking) s before → AllMake code.arrays what unpacking s.ranks f
    → All (IsRankOf code (length s.ranks)) (map (behind code.arrays what s.ranks f) s.ranks) → AllZip (Stays written) s.ranks (map (behind code.arrays what s.ranks f) s.ranks)
    → Layout code (map (behind code.arrays what s.ranks f) s.ranks) after
    → Went code tables price (IsSound code tables (length s.ranks) (position_of s.ranks + 4)) (λ t. Unit {0}) Env (StandBehind code written s.ranks) 4 (price_of price (exchange_code what unpacking)) (position_of s.ranks + 4) s (record { env = after; text = [] })
exchange_went code tables price what unpacking s before after written f h make each stays lays =
    exchange_comes code tables price what unpacking s before after (StandBehind code written s.ranks) f h make each (record { lays = lays; stays = stays })

-- where all trap, an instruction trips
pub exchange_fails : (code : Code) (tables : Tables) (price : Kind → ℕ) (what : Packing) (unpacking : Unpacking) (s : State) (before : Env) (t : Trap)
    → StandBefore code (exchange_code what unpacking) s before → AllTrap code.arrays what unpacking s.ranks t
    → Trips code tables price (IsSound code tables (length s.ranks) (position_of s.ranks + 4)) 4 (price_of price (exchange_code what unpacking)) s t
exchange_fails code tables price what unpacking s before t h trap =
    let there = exchange_trips code tables price what unpacking s.ranks s.out (length s.ranks) (position_of s.ranks + 4) t h.some (exchange_stands code what unpacking s before h) h.each trap in
    record {
      count = 3;
      cost = price (Packs what) + (price Posts + price Takes);
      to = state (once_taken code.arrays what s.ranks) s.out;
      leads = there.leads;
      count_within = omega arith;
      cost_within = omega arith;
      out = refl;
      trips = there.trips;
    }
