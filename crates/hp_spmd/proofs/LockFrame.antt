-- What an instruction leaves of a rank's store: its number, how many ranks there are, and a message for each rank; all
-- ranks come to one place.
use Rattle.std.proofs.Common.{◌≡◌, ◌∙◌, refl, sym, subst, ap, arith, ℕ, suc, ◌+◌, ◌-◌, ◌<◌, ◌≤◌, List, [], ◌∷◌, length, map, get_or, Result, Ok, Err}
use Rattle.std.specs.List.{All as Each, AllZip}
use Rattle.std.proofs.lemmas.List.{length-replicate, length-map, length-set}
use Rattle.std.proofs.lemmas.List.FromFn.{length-map-range_with_len}
use Rattle.std.proofs.lemmas.List.Elements.{AllZip-get_or, length_all_zip}
use Rattle.hp_word.specs.declared.place.Trap.{Trap}
use Rattle.hp_word.specs.declared.table.Tables.{Tables}
use Rattle.hp_word.specs.LoopRules.{word_at}
use Rattle.std.specs.Prelude.{ℤ, slice_index_or}
use Rattle.hp_lattice.specs.declared.dist.Dist.{Dist}
use Rattle.hp_spmd.specs.Packs.{for_each, hash_packed, move_packed, partial_packed, sizes_packed}
use Rattle.hp_spmd.specs.Scalars.{count_word}
use Rattle.hp_spmd.specs.declared.code.Code.{Code}
use Rattle.hp_spmd.specs.declared.instr.Packing.{Packing}
use Rattle.hp_spmd.specs.declared.instr.Packing.TheVariants.{Words, Sizes, Partial, Move, Hash, Gather}
use Rattle.hp_spmd.specs.declared.store.Store.{Store}
use Rattle.hp_spmd.specs.Kinds.{Kind, Computes, Jumps, Packs, Posts, Takes, PostsRoot, TakesRoot, Unpacks, Writes, Halts, kind_of}
use Rattle.hp_spmd.specs.Local.{alone, computed, local_next, pack_done}
use Rattle.hp_spmd.specs.Lockstep.{State, Step, Ends, Trips, Steps, Together, All, One, with_first, joined_to, together, delivered, delivered_to_root, of_together, place_of_first, step, step_by, position_of}
use Rattle.hp_spmd.specs.Exchange.{packed, unpacked}
use Rattle.hp_spmd.specs.Messages.{message_of}
use Rattle.hp_spmd.specs.Next.{Next, Goes, Traps, at_place, moved, lifted}
use Rattle.hp_spmd.specs.Ranks.{IsRank, AreRanks, AreNumbered, IsTogether}
use Rattle.hp_spmd.specs.Store.{Data, data_of, no_message, instr_at}
use Rattle.hp_spmd.proofs.Executed.{RaisesTo, computed_raises, unpacked_raises}

-- a rank that has taken an instruction, and has come to this place
pub record Kept (place : ℕ) (x y : Store) : Type 0 where
  pub same_number : y.number ≡ x.number
  pub same_ranks : y.ranks ≡ x.ranks
  pub is_there : y.position ≡ place
  pub outbox_has : length x.outbox ≡ x.ranks → 1 ≤ x.ranks → length y.outbox ≡ x.ranks
  pub one_more : y.executed ≤ suc x.executed

abbrev pub Keeps : Store → Next → Type 0
Keeps x (Goes y) = Kept (suc x.position) x y
Keeps x (Traps t) = Unit {0}

lifted_keeps : (r : Result Data Trap) (x : Store) → RaisesTo x.executed r → Keeps x (lifted r x)
lifted_keeps (Err t) x h = tt
lifted_keeps (Ok d) x h = record { same_number = refl; same_ranks = refl; is_there = refl; outbox_has = λ h some. h; one_more = h }

-- a message for each rank
each_count : (ranks : ℕ) (words : ℕ → List ℤ) → length (for_each ranks words) ≡ ranks
each_count ranks words = length-map-range_with_len (λ rank. message_of (words rank)) 0 ranks

packed_count : (dists : List Dist) (what : Packing) (number ranks : ℕ) (d : Data) → 1 ≤ ranks → length (packed dists what number ranks d) ≡ ranks
unfolding packed sizes_packed partial_packed move_packed hash_packed
packed_count dists (Sizes loose) number ranks d some = length-replicate ranks (message_of (count_word (length (slice_index_or d.loose loose [])) ∷ []))
packed_count dists (Partial loose) number ranks d some = length-replicate ranks (message_of (slice_index_or d.loose loose []))
packed_count dists (Move arrays need) number ranks d some = each_count ranks _
packed_count dists (Hash arrays key) number ranks d some = each_count ranks _
packed_count dists (Words ws) number ranks d some = length-replicate ranks (message_of (map (word_at d.words) ws))
packed_count dists (Gather output) number ranks d some = let rest = length-replicate (ranks - 1) no_message in omega (arith, rest, some)

pack_keeps : (dists : List Dist) (what : Packing) (x : Store) → Keeps x (Goes (pack_done dists what x))
unfolding pack_done
pack_keeps dists what x =
    record { same_number = refl; same_ranks = refl; is_there = refl; outbox_has = λ h some. packed_count dists what x.number x.ranks (data_of x) some; one_more = omega arith }

-- what a rank does by itself moves it on
pub alone_keeps : (dists : List Dist) (kind : Kind) (f : Data → Result Data Trap) (x : Store) → IsTogether kind → RaisesTo x.executed (f (data_of x)) → Keeps x (alone dists kind f x)
alone_keeps dists Computes f x h more = lifted_keeps (f (data_of x)) x more
alone_keeps dists (Jumps target unless) f x h more = absurd h
alone_keeps dists (Packs what) f x h more = pack_keeps dists what x
alone_keeps dists Posts f x h more = absurd h
alone_keeps dists Takes f x h more = absurd h
alone_keeps dists PostsRoot f x h more = absurd h
alone_keeps dists TakesRoot f x h more = absurd h
alone_keeps dists (Unpacks what) f x h more = lifted_keeps (unpacked dists what x.number x.ranks x.inbox (data_of x)) x (unpacked_raises dists what x.number x.ranks x.inbox (data_of x))
alone_keeps dists (Writes output) f x h more = absurd h
alone_keeps dists Halts f x h more = absurd h

-- ---- all ranks

-- where all ranks come to by an instruction
abbrev pub place_after : Kind → List Store → ℕ
place_after Computes xs = suc (position_of xs)
place_after (Jumps target unless) xs = place_of_first target unless xs
place_after (Packs what) xs = suc (position_of xs)
place_after Posts xs = suc (position_of xs)
place_after Takes xs = suc (position_of xs)
place_after PostsRoot xs = suc (position_of xs)
place_after TakesRoot xs = suc (position_of xs)
place_after (Unpacks what) xs = suc (position_of xs)
place_after (Writes output) xs = suc (position_of xs)
place_after Halts xs = suc (position_of xs)

-- each rank has taken an instruction
abbrev pub KeepsAll : ℕ → List Store → Step → Type 0
KeepsAll place xs Ends = Unit {0}
KeepsAll place xs (Trips t) = Unit {0}
KeepsAll place xs (Steps s) = AllZip (Kept place) xs s.ranks

-- the ranks are at this place
abbrev pub AreAt : ℕ → List Store → Type 0
AreAt p [] = Unit {0}
AreAt p (x ∷ xs) = (x.position ≡ p) × AreAt p xs

map_keeps : (p place : ℕ) (f : Store → Store) → ((x : Store) → x.position ≡ p → Kept place x (f x)) → (xs : List Store) → AreAt p xs → AllZip (Kept place) xs (map f xs)
map_keeps p place f h [] at = tt
map_keeps p place f h (x ∷ xs) at = (h x at.0, map_keeps p place f h xs at.1)

abbrev KeepsTogether : ℕ → List Store → Together → Type 0
KeepsTogether place xs (All ys) = AllZip (Kept place) xs ys
KeepsTogether place xs (One t) = Unit {0}

first_keeps : (place : ℕ) (x y : Store) (xs : List Store) (rest : Together) → Kept place x y → KeepsTogether place xs rest → KeepsTogether place (x ∷ xs) (with_first y rest)
first_keeps place x y xs (All ys) h hs = (h, hs)
first_keeps place x y xs (One t) h hs = tt

joined_keeps : (p : ℕ) (x : Store) (xs : List Store) (next : Next) (rest : Together) → x.position ≡ p → Keeps x next → KeepsTogether (suc p) xs rest → KeepsTogether (suc p) (x ∷ xs) (joined_to next rest)
joined_keeps p x xs (Goes y) rest at h hs = first_keeps (suc p) x y xs rest (subst (λ q. Kept (suc q) x y) at h) hs
joined_keeps p x xs (Traps t) rest at h hs = tt

together_keeps : (p : ℕ) (f : Store → Next) → ((x : Store) → Keeps x (f x)) → (xs : List Store) → AreAt p xs → KeepsTogether (suc p) xs (together f xs)
together_keeps p f h [] at = tt
together_keeps p f h (x ∷ xs) at = joined_keeps p x xs (f x) (together f xs) at.0 (h x) (together_keeps p f h xs at.1)

of_together_keeps : (place : ℕ) (xs : List Store) (t : Together) (out : List ℕ) → KeepsTogether place xs t → KeepsAll place xs (of_together t out)
of_together_keeps place xs (All ys) out h = h
of_together_keeps place xs (One t) out h = tt

at_place_keeps : (place : ℕ) (x : Store) → Kept place x (at_place place x)
at_place_keeps place x = record { same_number = refl; same_ranks = refl; is_there = refl; outbox_has = λ h some. h; one_more = omega arith }

moved_keeps : (p : ℕ) (x : Store) → x.position ≡ p → Kept (suc p) x (moved x)
moved_keeps p x at = record { same_number = refl; same_ranks = refl; is_there = ap suc at; outbox_has = λ h some. h; one_more = omega arith }

delivered_keeps : (p : ℕ) (ranks : List Store) (x : Store) → x.position ≡ p → Kept (suc p) x (delivered ranks x)
delivered_keeps p ranks x at =
    record {
      same_number = refl;
      same_ranks = refl;
      is_there = ap suc at;
      outbox_has = λ h some. length-map x.outbox (λ m. no_message) ∙ h;
      one_more = omega arith;
    }

root_keeps : (p : ℕ) (ranks : List Store) (x : Store) → x.position ≡ p → Kept (suc p) x (delivered_to_root ranks x)
root_keeps p ranks x at =
    record {
      same_number = refl;
      same_ranks = refl;
      is_there = ap suc at;
      outbox_has = λ h some. length-set x.outbox 0 no_message ∙ h;
      one_more = omega arith;
    }

kind_keeps : (kind : Kind) (f : Store → Next) (s : State) → (IsTogether kind → (x : Store) → Keeps x (f x)) → AreAt (position_of s.ranks) s.ranks → KeepsAll (place_after kind s.ranks) s.ranks (step_by kind f s)
kind_keeps Computes f s h at = of_together_keeps (suc (position_of s.ranks)) s.ranks (together f s.ranks) s.out (together_keeps (position_of s.ranks) f (h tt) s.ranks at)
kind_keeps (Jumps target unless) f s h at =
    let place = place_of_first target unless s.ranks in
    map_keeps (position_of s.ranks) place (at_place place) (λ x e. at_place_keeps place x) s.ranks at
kind_keeps (Packs what) f s h at = of_together_keeps (suc (position_of s.ranks)) s.ranks (together f s.ranks) s.out (together_keeps (position_of s.ranks) f (h tt) s.ranks at)
kind_keeps Posts f s h at = map_keeps (position_of s.ranks) (suc (position_of s.ranks)) (delivered s.ranks) (delivered_keeps (position_of s.ranks) s.ranks) s.ranks at
kind_keeps Takes f s h at = map_keeps (position_of s.ranks) (suc (position_of s.ranks)) moved (moved_keeps (position_of s.ranks)) s.ranks at
kind_keeps PostsRoot f s h at = map_keeps (position_of s.ranks) (suc (position_of s.ranks)) (delivered_to_root s.ranks) (root_keeps (position_of s.ranks) s.ranks) s.ranks at
kind_keeps TakesRoot f s h at = map_keeps (position_of s.ranks) (suc (position_of s.ranks)) moved (moved_keeps (position_of s.ranks)) s.ranks at
kind_keeps (Unpacks what) f s h at = of_together_keeps (suc (position_of s.ranks)) s.ranks (together f s.ranks) s.out (together_keeps (position_of s.ranks) f (h tt) s.ranks at)
kind_keeps (Writes output) f s h at = map_keeps (position_of s.ranks) (suc (position_of s.ranks)) moved (moved_keeps (position_of s.ranks)) s.ranks at
kind_keeps Halts f s h at = tt

pub step_keeps : (code : Code) (tables : Tables) (s : State) → AreAt (position_of s.ranks) s.ranks
    → KeepsAll (place_after (kind_of (instr_at code.list (position_of s.ranks))) s.ranks) s.ranks (step code tables s)
unfolding step
step_keeps code tables s at =
    let i = instr_at code.list (position_of s.ranks) in
    kind_keeps (kind_of i) (local_next code.arrays tables i) s (λ t x. alone_keeps code.arrays (kind_of i) (computed code.arrays tables x.number x.ranks i) x t (computed_raises code.arrays tables x.number x.ranks i (data_of x))) at

ranks_at : (p k n : ℕ) (xs : List Store) → ((j : ℕ) (d : Store) → j < length xs → IsRank n p (k + j) (get_or xs j d)) → AreAt p xs
ranks_at p k n [] h = tt
ranks_at p k n (x ∷ xs) h =
    let first : 0 < length (x ∷ xs) = omega arith in
    ((h 0 x first).position_is, ranks_at p (suc k) n xs (λ j d l. let l' : suc j < length (x ∷ xs) = omega (arith, l) in let e : k + suc j ≡ suc k + j = omega arith in subst (λ m. IsRank n p m (get_or xs j d)) e (h (suc j) d l')))

-- ranks that are together are at one place
pub together_at : (p : ℕ) (xs : List Store) → AreRanks p xs → AreAt p xs
together_at p xs h = ranks_at p 0 (length xs) xs (λ j d l. let e : j ≡ 0 + j = omega arith in subst (λ m. IsRank (length xs) p m (get_or xs j d)) e (h j d l))

rank_goes_on : (n p q k : ℕ) (x y : Store) → 1 ≤ n → IsRank n p k x → Kept q x y → IsRank n q k y
rank_goes_on n p q k x y some h kept =
    let n' : 1 ≤ x.ranks = subst (λ m. 1 ≤ m) (sym h.ranks_are) some in
    record {
      number_is = kept.same_number ∙ h.number_is;
      ranks_are = kept.same_ranks ∙ h.ranks_are;
      position_is = kept.is_there;
      outbox_has = kept.outbox_has (h.outbox_has ∙ sym h.ranks_are) n' ∙ h.ranks_are;
    }

-- ranks that have taken an instruction are at one place
pub ranks_go_on : (p q : ℕ) (xs ys : List Store) → 1 ≤ length xs → AreRanks p xs → AllZip (Kept q) xs ys → AreRanks q ys
ranks_go_on p q xs ys some h kept k d l =
    let e : length ys ≡ length xs = sym (length_all_zip (Kept q) xs ys kept) in
    let l' : k < length xs = subst (λ n. k < n) e l in
    subst (λ n. IsRank n q k (get_or ys k d)) (sym e)
    (rank_goes_on (length xs) p q k (get_or xs k d) (get_or ys k d) some (h k d l') (AllZip-get_or (Kept q) xs ys k d d kept l'))

-- ---- facts on ranks at one position

pub ranks_numbered : (p : ℕ) (xs : List Store) → AreRanks p xs → AreNumbered xs
ranks_numbered p xs h k d l = (h k d l).number_is

pub ranks_room : (p n : ℕ) (xs : List Store) → AreRanks p xs → suc p < n → Each (λ x. suc x.position < n) xs
ranks_room p n xs h room k d l = subst (λ q. suc q < n) (sym (h k d l).position_is) room

pub ranks_boxes : (p : ℕ) (xs : List Store) → AreRanks p xs → Each (λ x. length x.outbox ≡ length xs) xs
ranks_boxes p xs h k d l = (h k d l).outbox_has

pub first_position : (xs : List Store) (d : Store) → 1 ≤ length xs → (get_or xs 0 d).position ≡ position_of xs
first_position [] d some = absurd (omega (arith, some))
first_position (x ∷ xs) d some = refl
