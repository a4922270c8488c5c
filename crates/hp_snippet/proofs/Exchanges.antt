-- What a whole exchange makes of all ranks.
use Rattle.std.proofs.Common.{◌≡◌, ◌∙◌, refl, subst, ap, arith, ℕ, suc, ◌+◌, ◌≤◌, List, [], ◌∷◌, ◌++◌, map, length, false, true, inl, inr}
use Rattle.std.specs.Prelude.{Option}
use Rattle.hp_word.specs.declared.place.Trap.{Trap}
use Rattle.hp_word.specs.declared.table.Tables.{Tables}
use Rattle.hp_lattice.specs.declared.dist.Dist.{Dist}
use Rattle.hp_spmd.specs.declared.code.Code.{Code}
use Rattle.hp_spmd.specs.declared.instr.Instr.{Instr}
use Rattle.hp_spmd.specs.declared.instr.Instr.TheVariants as instr
use Rattle.hp_spmd.specs.declared.instr.Output.{Output}
use Rattle.hp_spmd.specs.declared.instr.Packing.{Packing}
use Rattle.hp_spmd.specs.declared.instr.Packing.TheVariants.{Gather}
use Rattle.hp_spmd.specs.declared.instr.Unpacking.{Unpacking}
use Rattle.hp_spmd.specs.declared.store.Store.{Store}
use Rattle.hp_spmd.specs.Exchange.{packed, unpacked, written}
use Rattle.hp_spmd.specs.Kinds.{Kind, Computes, Jumps, Packs, Posts, Takes, PostsRoot, TakesRoot, Unpacks, Writes, kind_of}
use Rattle.hp_spmd.specs.Layout.{Numbered}
use Rattle.hp_spmd.specs.Local.{local_next, pack_done}
use Rattle.hp_spmd.specs.Lockstep.{State, state, Step, Steps, Together, All, One, delivered, delivered_to_root, root_inbox, joined_to, of_together, position_of, step, step_by, text_of, together}
use Rattle.hp_spmd.specs.Lockstep as lock
use Rattle.hp_spmd.specs.Next.{Next, Goes, lifted, moved}
use Rattle.hp_spmd.specs.Ranks.{IsTogether}
use Rattle.hp_spmd.specs.Store.{data_of, instr_at, message_at}
use Rattle.hp_snippet.specs.Exchanging.{IsExchange, IsWriting, exchanged, mail_for, once_packed, once_posted, once_posted_to_root, once_taken, once_taken_at_root, way_of, way_to_root, with_mail}
use Rattle.hp_snippet.specs.Laws.{StopsThere, once_jumped, once_written}
use Rattle.hp_snippet.specs.Leads.{IsOneOf, Leads, LeadsBy}
use Rattle.hp_snippet.proofs.Leading.{leads_at, leads_join}

-- `I` holds as the exchange begins, and once the ranks have packed, posted and taken
pub record KeptOnTheWay (I : State → Type 0) (dists : List Dist) (what : Packing) (ranks : List Store) (out : List ℕ) : Type 0 where
  pub first : I (state ranks out)
  pub packed : I (state (once_packed dists what ranks) out)
  pub posted : I (state (once_posted dists what ranks) out)
  pub taken : I (state (once_taken dists what ranks) out)

-- the same of an exchange at the root
pub record KeptToTheRoot (I : State → Type 0) (dists : List Dist) (what : Packing) (ranks : List Store) (out : List ℕ) : Type 0 where
  pub first : I (state ranks out)
  pub packed : I (state (once_packed dists what ranks) out)
  pub posted : I (state (once_posted_to_root dists what ranks) out)
  pub taken : I (state (once_taken_at_root dists what ranks) out)

-- ---- all ranks

pub step_at : (code : Code) (tables : Tables) (i : Instr) (ranks : List Store) (out : List ℕ) → instr_at code.list (position_of ranks) ≡ i → step code tables (state ranks out) ≡ step_by (kind_of i) (local_next code.arrays tables i) (state ranks out)
unfolding step
step_at code tables i ranks out is = ap (λ j. step_by (kind_of j) (local_next code.arrays tables j) (state ranks out)) is

pub together_goes : (f : Store → Next) (g : Store → Store) → ((x : Store) → f x ≡ Goes (g x)) → (xs : List Store) → together f xs ≡ All (map g xs)
together_goes f g h [] = refl
together_goes f g h (x ∷ xs) = rw (h x, together_goes f g h xs) refl

-- what they do after a change of each
pub together_map : (f h : Store → Next) (g : Store → Store) → ((x : Store) → f (g x) ≡ h x) → (xs : List Store) → together f (map g xs) ≡ together h xs
together_map f h g e [] = refl
together_map f h g e (x ∷ xs) = ap (λ n. joined_to n (together f (map g xs))) (e x) ∙ ap (joined_to (h x)) (together_map f h g e xs)

pub map_map : {X Y Z : Type 0} (f : Y → Z) (g : X → Y) (h : X → Z) → ((x : X) → f (g x) ≡ h x) → (xs : List X) → map f (map g xs) ≡ map h xs
map_map f g h e [] = refl
map_map f g h e (x ∷ xs) = ap (λ y. y ∷ map f (map g xs)) (e x) ∙ ap (λ ys. h x ∷ ys) (map_map f g h e xs)

-- ranks that all have moved on
pub place_on : (g : Store → Store) → ((x : Store) → (g x).position ≡ suc x.position) → (xs : List Store) → 1 ≤ length xs → position_of (map g xs) ≡ suc (position_of xs)
place_on g h [] some = absurd (omega (arith, some))
place_on g h (x ∷ xs) some = h x

pub map_some : (g : Store → Store) (xs : List Store) → 1 ≤ length xs → 1 ≤ length (map g xs)
map_some g [] some = some
map_some g (x ∷ xs) some = omega arith

pack_place : (dists : List Dist) (what : Packing) (x : Store) → (pack_done dists what x).position ≡ suc x.position
unfolding pack_done
pack_place dists what x = refl

-- ---- the steps

packs_step : (code : Code) (tables : Tables) (what : Packing) (ranks : List Store) (out : List ℕ) → instr_at code.list (position_of ranks) ≡ instr.Pack what → step code tables (state ranks out) ≡ Steps (state (once_packed code.arrays what ranks) out)
packs_step code tables what ranks out is =
    step_at code tables (instr.Pack what) ranks out is
    ∙ ap (λ t. of_together t out) (together_goes (local_next code.arrays tables (instr.Pack what)) (pack_done code.arrays what) (λ x. refl) ranks)

-- the messages that all have packed for one of them
mail_is : (dists : List Dist) (what : Packing) (to : ℕ) (ranks : List Store) → map (λ y. message_at y.outbox to) (once_packed dists what ranks) ≡ mail_for dists what ranks to
unfolding pack_done
mail_is dists what to ranks = map_map (λ y. message_at y.outbox to) (pack_done dists what) (λ y. message_at (packed dists what y.number y.ranks (data_of y)) to) (λ y. refl) ranks

pub unpack_next : (dists : List Dist) (tables : Tables) (what : Packing) (unpacking : Unpacking) (ranks : List Store) (x : Store) → local_next dists tables (instr.Unpack unpacking) (with_mail dists what ranks x) ≡ exchanged dists what unpacking ranks x
unfolding pack_done
unpack_next dists tables what unpacking ranks x =
    ap (λ m. lifted (unpacked dists unpacking x.number x.ranks m (data_of x)) (with_mail dists what ranks x)) (mail_is dists what x.number ranks)

unpacks_together : (dists : List Dist) (tables : Tables) (what : Packing) (unpacking : Unpacking) (ranks : List Store) → together (local_next dists tables (instr.Unpack unpacking)) (once_taken dists what ranks) ≡ together (exchanged dists what unpacking ranks) ranks
unpacks_together dists tables what unpacking ranks =
    let f = local_next dists tables (instr.Unpack unpacking) in
    let sent = once_packed dists what ranks in
    together_map f (λ x. f (moved x)) moved (λ x. refl) (once_posted dists what ranks)
    ∙ together_map (λ x. f (moved x)) (λ x. f (moved (delivered sent x))) (delivered sent) (λ x. refl) sent
    ∙ together_map (λ x. f (moved (delivered sent x))) (exchanged dists what unpacking ranks) (pack_done dists what) (unpack_next dists tables what unpacking ranks) ranks

-- ---- an instruction that each does by itself

by_itself : (k : Kind) (f : Store → Next) (s : State) → IsTogether k → step_by k f s ≡ of_together (together f s.ranks) s.out
by_itself Computes f s h = refl
by_itself (Packs what) f s h = refl
by_itself (Unpacks what) f s h = refl
by_itself _ f s h = absurd h

together_step : (code : Code) (tables : Tables) (i : Instr) (ranks : List Store) (out : List ℕ) (t : Together) → IsTogether (kind_of i) → instr_at code.list (position_of ranks) ≡ i → together (local_next code.arrays tables i) ranks ≡ t
    → step code tables (state ranks out) ≡ of_together t out
together_step code tables i ranks out t h is e =
    step_at code tables i ranks out is ∙ by_itself (kind_of i) (local_next code.arrays tables i) (state ranks out) h ∙ ap (λ t. of_together t out) e

pub together_leads : (code : Code) (tables : Tables) (price : Kind → ℕ) (I : State → Type 0) (i : Instr) (ranks after : List Store) (out : List ℕ) → IsTogether (kind_of i) → instr_at code.list (position_of ranks) ≡ i
    → together (local_next code.arrays tables i) ranks ≡ All after → I (state ranks out) → I (state after out)
    → Leads code tables price I 1 (price (kind_of i)) (state ranks out) (state after out)
together_leads code tables price I i ranks after out h is e a b = leads_at code tables price I i (state ranks out) (state after out) is (together_step code tables i ranks out (All after) h is e) a b

pub together_stops : (code : Code) (tables : Tables) (i : Instr) (ranks : List Store) (out : List ℕ) (t : Trap) → IsTogether (kind_of i) → instr_at code.list (position_of ranks) ≡ i
    → together (local_next code.arrays tables i) ranks ≡ One t → step code tables (state ranks out) ≡ lock.Trips t
together_stops code tables i ranks out t h is e = together_step code tables i ranks out (One t) h is e

-- ---- a jump

pub jump_leads : (code : Code) (tables : Tables) (price : Kind → ℕ) (I : State → Type 0) (target : ℕ) (unless : Option ℕ) (ranks : List Store) (out : List ℕ) → instr_at code.list (position_of ranks) ≡ instr.Jump target unless
    → I (state ranks out) → I (once_jumped target unless ranks out) → Leads code tables price I 1 (price (Jumps target unless)) (state ranks out) (once_jumped target unless ranks out)
jump_leads code tables price I target unless ranks out is a b =
    leads_at code tables price I (instr.Jump target unless) (state ranks out) (once_jumped target unless ranks out) is (step_at code tables (instr.Jump target unless) ranks out is) a b

-- ---- where they are

pub packed_place : (dists : List Dist) (what : Packing) (ranks : List Store) → 1 ≤ length ranks → position_of (once_packed dists what ranks) ≡ suc (position_of ranks)
packed_place dists what ranks some = place_on (pack_done dists what) (pack_place dists what) ranks some

pub posted_place : (dists : List Dist) (what : Packing) (ranks : List Store) → 1 ≤ length ranks → position_of (once_posted dists what ranks) ≡ suc (suc (position_of ranks))
posted_place dists what ranks some =
    let sent = once_packed dists what ranks in
    place_on (delivered sent) (λ x. refl) sent (map_some (pack_done dists what) ranks some) ∙ ap suc (packed_place dists what ranks some)

pub taken_place : (dists : List Dist) (what : Packing) (ranks : List Store) → 1 ≤ length ranks → position_of (once_taken dists what ranks) ≡ suc (suc (suc (position_of ranks)))
taken_place dists what ranks some =
    let sent = once_packed dists what ranks in
    place_on moved (λ x. refl) (once_posted dists what ranks) (map_some (delivered sent) sent (map_some (pack_done dists what) ranks some)) ∙ ap suc (posted_place dists what ranks some)

-- ---- an exchange among all

-- as far as the messages are taken
pub to_taken : (code : Code) (tables : Tables) (price : Kind → ℕ) (I : State → Type 0) (what : Packing) (unpacking : Unpacking) (ranks : List Store) (out : List ℕ)
    → 1 ≤ length ranks → IsExchange code (position_of ranks) what unpacking → KeptOnTheWay I code.arrays what ranks out
    → Leads code tables price I 3 (price (Packs what) + (price Posts + price Takes)) (state ranks out) (state (once_taken code.arrays what ranks) out)
to_taken code tables price I what unpacking ranks out some is kept =
    let s0 = state ranks out in
    let s1 = state (once_packed code.arrays what ranks) out in
    let s2 = state (once_posted code.arrays what ranks) out in
    let s3 = state (once_taken code.arrays what ranks) out in
    let at1 = ap (instr_at code.list) (packed_place code.arrays what ranks some) ∙ is.posts in
    let at2 = ap (instr_at code.list) (posted_place code.arrays what ranks some) ∙ is.takes in
    leads_join code tables price I 1 (price (Packs what)) 2 (price Posts + price Takes) s0 s1 s3
    (leads_at code tables price I (instr.Pack what) s0 s1 is.packs (packs_step code tables what ranks out is.packs) kept.first kept.packed)
    (leads_join code tables price I 1 (price Posts) 1 (price Takes) s1 s2 s3
    (leads_at code tables price I (instr.Post false) s1 s2 at1 (step_at code tables (instr.Post false) (once_packed code.arrays what ranks) out at1) kept.packed kept.posted)
    (leads_at code tables price I (instr.Take false) s2 s3 at2 (step_at code tables (instr.Take false) (once_posted code.arrays what ranks) out at2) kept.posted kept.taken))

pub last_step : (code : Code) (tables : Tables) (what : Packing) (unpacking : Unpacking) (ranks : List Store) (out : List ℕ) (t : Together) → 1 ≤ length ranks → IsExchange code (position_of ranks) what unpacking
    → together (exchanged code.arrays what unpacking ranks) ranks ≡ t → step code tables (state (once_taken code.arrays what ranks) out) ≡ of_together t out
last_step code tables what unpacking ranks out t some is e =
    step_at code tables (instr.Unpack unpacking) (once_taken code.arrays what ranks) out (ap (instr_at code.list) (taken_place code.arrays what ranks some) ∙ is.unpacks)
    ∙ ap (λ t. of_together t out) (unpacks_together code.arrays tables what unpacking ranks ∙ e)

pub exchange_leads : (code : Code) (tables : Tables) (price : Kind → ℕ) (I : State → Type 0) (what : Packing) (unpacking : Unpacking) (ranks after : List Store) (out : List ℕ)
    → 1 ≤ length ranks → IsExchange code (position_of ranks) what unpacking
    → KeptOnTheWay I code.arrays what ranks out → together (exchanged code.arrays what unpacking ranks) ranks ≡ All after → I (state after out)
    → Leads code tables price I 4 (price (Packs what) + (price Posts + (price Takes + price (Unpacks unpacking)))) (state ranks out) (state after out)
exchange_leads code tables price I what unpacking ranks after out some is kept e i =
    let s3 = state (once_taken code.arrays what ranks) out in
    let at3 = ap (instr_at code.list) (taken_place code.arrays what ranks some) ∙ is.unpacks in
    let sum : (price (Packs what) + (price Posts + price Takes)) + price (Unpacks unpacking) ≡ price (Packs what) + (price Posts + (price Takes + price (Unpacks unpacking))) = omega arith in
    subst (λ a. Leads code tables price I 4 a (state ranks out) (state after out)) sum
    (leads_join code tables price I 3 (price (Packs what) + (price Posts + price Takes)) 1 (price (Unpacks unpacking)) (state ranks out) s3 (state after out)
    (to_taken code tables price I what unpacking ranks out some is kept)
    (leads_at code tables price I (instr.Unpack unpacking) s3 (state after out) at3 (last_step code tables what unpacking ranks out (All after) some is e) kept.taken i))

-- ---- by the states on the way

pub together_by : (code : Code) (tables : Tables) (price : Kind → ℕ) (i : Instr) (ranks after : List Store) (out : List ℕ) → IsTogether (kind_of i) → instr_at code.list (position_of ranks) ≡ i
    → together (local_next code.arrays tables i) ranks ≡ All after
    → LeadsBy code tables price (state ranks out ∷ state after out ∷ []) 1 (price (kind_of i)) (state ranks out) (state after out)
together_by code tables price i ranks after out h is e =
    together_leads code tables price (IsOneOf (state ranks out ∷ state after out ∷ [])) i ranks after out h is e (inl refl) (inr (inl refl))

pub jump_by : (code : Code) (tables : Tables) (price : Kind → ℕ) (target : ℕ) (unless : Option ℕ) (ranks : List Store) (out : List ℕ) → instr_at code.list (position_of ranks) ≡ instr.Jump target unless
    → LeadsBy code tables price (state ranks out ∷ once_jumped target unless ranks out ∷ []) 1 (price (Jumps target unless)) (state ranks out) (once_jumped target unless ranks out)
jump_by code tables price target unless ranks out is =
    jump_leads code tables price (IsOneOf (state ranks out ∷ once_jumped target unless ranks out ∷ [])) target unless ranks out is (inl refl) (inr (inl refl))

-- the way of an exchange, and what comes behind
way_kept : (dists : List Dist) (what : Packing) (ranks : List Store) (out : List ℕ) (on : List State) → KeptOnTheWay (IsOneOf (way_of dists what ranks out ++ on)) dists what ranks out
way_kept dists what ranks out on = record { first = inl refl; packed = inr (inl refl); posted = inr (inr (inl refl)); taken = inr (inr (inr (inl refl))) }

pub exchange_by : (code : Code) (tables : Tables) (price : Kind → ℕ) (what : Packing) (unpacking : Unpacking) (ranks after : List Store) (out : List ℕ)
    → 1 ≤ length ranks → IsExchange code (position_of ranks) what unpacking → together (exchanged code.arrays what unpacking ranks) ranks ≡ All after
    → LeadsBy code tables price (way_of code.arrays what ranks out ++ state after out ∷ []) 4 (price (Packs what) + (price Posts + (price Takes + price (Unpacks unpacking)))) (state ranks out) (state after out)
exchange_by code tables price what unpacking ranks after out some is e =
    let end = state after out ∷ [] in
    exchange_leads code tables price (IsOneOf (way_of code.arrays what ranks out ++ end)) what unpacking ranks after out some is (way_kept code.arrays what ranks out end) e (inr (inr (inr (inr (inl refl)))))

pub exchange_stops : (code : Code) (tables : Tables) (price : Kind → ℕ) (what : Packing) (unpacking : Unpacking) (ranks : List Store) (out : List ℕ) (t : Trap)
    → 1 ≤ length ranks → IsExchange code (position_of ranks) what unpacking → together (exchanged code.arrays what unpacking ranks) ranks ≡ One t
    → StopsThere code tables price what ranks out t
exchange_stops code tables price what unpacking ranks out t some is e =
    record {
      leads = to_taken code tables price (IsOneOf (way_of code.arrays what ranks out)) what unpacking ranks out some is (way_kept code.arrays what ranks out []);
      trips = last_step code tables what unpacking ranks out (One t) some is e;
    }

-- ---- an exchange at the root

pub root_posted_place : (dists : List Dist) (what : Packing) (ranks : List Store) → 1 ≤ length ranks → position_of (once_posted_to_root dists what ranks) ≡ suc (suc (position_of ranks))
root_posted_place dists what ranks some =
    let sent = once_packed dists what ranks in
    place_on (delivered_to_root sent) (λ x. refl) sent (map_some (pack_done dists what) ranks some) ∙ ap suc (packed_place dists what ranks some)

pub root_taken_place : (dists : List Dist) (what : Packing) (ranks : List Store) → 1 ≤ length ranks → position_of (once_taken_at_root dists what ranks) ≡ suc (suc (suc (position_of ranks)))
root_taken_place dists what ranks some =
    let sent = once_packed dists what ranks in
    place_on moved (λ x. refl) (once_posted_to_root dists what ranks) (map_some (delivered_to_root sent) sent (map_some (pack_done dists what) ranks some)) ∙ ap suc (root_posted_place dists what ranks some)

-- rank 0 comes first
root_text : (dists : List Dist) (what : Packing) (output : Output) (ranks : List Store) → 1 ≤ length ranks → Numbered 0 ranks → text_of output (once_taken_at_root dists what ranks) ≡ written output (mail_for dists what ranks 0)
unfolding pack_done
root_text dists what output [] some n = absurd (omega (arith, some))
root_text dists what output (x ∷ xs) some n =
    ap (λ r. written output (root_inbox (once_packed dists what (x ∷ xs)) r x.inbox)) n.0 ∙ ap (written output) (mail_is dists what 0 (x ∷ xs))

pub write_leads : (code : Code) (tables : Tables) (price : Kind → ℕ) (I : State → Type 0) (output : Output) (ranks : List Store) (out : List ℕ)
    → 1 ≤ length ranks → Numbered 0 ranks → IsWriting code (position_of ranks) output
    → KeptToTheRoot I code.arrays (Gather output) ranks out
    → I (state (map moved (once_taken_at_root code.arrays (Gather output) ranks)) (out ++ written output (mail_for code.arrays (Gather output) ranks 0)))
    → Leads code tables price I 4 (price (Packs (Gather output)) + (price PostsRoot + (price TakesRoot + price (Writes output)))) (state ranks out)
    (state (map moved (once_taken_at_root code.arrays (Gather output) ranks)) (out ++ written output (mail_for code.arrays (Gather output) ranks 0)))
write_leads code tables price I output ranks out some numbered is kept i =
    let what = Gather output in
    let ds = code.arrays in
    let taken = once_taken_at_root ds what ranks in
    let s0 = state ranks out in
    let s1 = state (once_packed ds what ranks) out in
    let s2 = state (once_posted_to_root ds what ranks) out in
    let s3 = state taken out in
    let s4 = state (map moved taken) (out ++ written output (mail_for ds what ranks 0)) in
    let at1 = ap (instr_at code.list) (packed_place ds what ranks some) ∙ is.posts in
    let at2 = ap (instr_at code.list) (root_posted_place ds what ranks some) ∙ is.takes in
    let at3 = ap (instr_at code.list) (root_taken_place ds what ranks some) ∙ is.writes in
    let writes = step_at code tables (instr.Write output) taken out at3 ∙ ap (λ text. Steps (state (map moved taken) (out ++ text))) (root_text ds what output ranks some numbered) in
    leads_join code tables price I 1 (price (Packs what)) 3 (price PostsRoot + (price TakesRoot + price (Writes output))) s0 s1 s4
    (leads_at code tables price I (instr.Pack what) s0 s1 is.packs (packs_step code tables what ranks out is.packs) kept.first kept.packed)
    (leads_join code tables price I 1 (price PostsRoot) 2 (price TakesRoot + price (Writes output)) s1 s2 s4
    (leads_at code tables price I (instr.Post true) s1 s2 at1 (step_at code tables (instr.Post true) (once_packed ds what ranks) out at1) kept.packed kept.posted)
    (leads_join code tables price I 1 (price TakesRoot) 1 (price (Writes output)) s2 s3 s4
    (leads_at code tables price I (instr.Take true) s2 s3 at2 (step_at code tables (instr.Take true) (once_posted_to_root ds what ranks) out at2) kept.posted kept.taken)
    (leads_at code tables price I (instr.Write output) s3 s4 at3 writes kept.taken i)))

pub write_by : (code : Code) (tables : Tables) (price : Kind → ℕ) (output : Output) (ranks : List Store) (out : List ℕ)
    → 1 ≤ length ranks → Numbered 0 ranks → IsWriting code (position_of ranks) output
    → LeadsBy code tables price (way_to_root code.arrays (Gather output) ranks out ++ once_written code output ranks out ∷ []) 4
    (price (Packs (Gather output)) + (price PostsRoot + (price TakesRoot + price (Writes output)))) (state ranks out) (once_written code output ranks out)
write_by code tables price output ranks out some numbered is =
    let way = way_to_root code.arrays (Gather output) ranks out ++ once_written code output ranks out ∷ [] in
    write_leads code tables price (IsOneOf way) output ranks out some numbered is
    (record { first = inl refl; packed = inr (inl refl); posted = inr (inr (inl refl)); taken = inr (inr (inr (inl refl))) })
    (inr (inr (inr (inr (inl refl)))))
