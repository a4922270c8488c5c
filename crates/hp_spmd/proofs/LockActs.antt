-- The lockstep is made of the ranks' own acts: what each does alone, and a whole exchange of posts and takes.
use Rattle.std.proofs.Common.{◌≡◌, ◌∙◌, refl, sym, ap, arith, ℕ, zero, suc, ◌+◌, ◌≤◌, List, [], ◌∷◌, ◌++◌, append_assoc, length, map, set, cond}
use Rattle.std.proofs.lemmas.Bool.{eq-eqb, ne_eqb}
use Rattle.std.proofs.lemmas.List.{length-append, length-map}
use Rattle.hp_word.specs.declared.table.Message.{Message}
use Rattle.hp_spmd.specs.declared.store.Store.{Store}
use Rattle.hp_spmd.specs.Act.{act_by, of_next, after_post, after_take, after_posts, after_takes}
use Rattle.hp_spmd.specs.Kinds.{Kind, Computes, Jumps, Packs, Unpacks, IsLocal}
use Rattle.hp_spmd.specs.Local.{jumped, next_place}
use Rattle.hp_spmd.specs.Lockstep.{State, step_by, together, of_together, delivered, place_of_first}
use Rattle.hp_spmd.specs.Next.{Next, at_place, moved}
use Rattle.hp_spmd.specs.Ranks.{IsTogether}
use Rattle.hp_spmd.specs.Store.{message_at, no_message}
use Rattle.hp_spmd.proofs.LockPost.{emptied_below, emptied_all}

-- ---- what a rank does alone

-- a local instruction is the whole act of a rank
pub local_acts : (k : Kind) (next : Next) (x : Store) → IsLocal k → act_by k next x ≡ of_next next
local_acts Computes next x h = refl
local_acts (Jumps target unless) next x h = refl
local_acts (Packs what) next x h = refl
local_acts (Unpacks what) next x h = refl
local_acts _ next x h = absurd h

-- and the lockstep's step is that of all ranks
pub local_steps : (k : Kind) (f : Store → Next) (s : State) → IsTogether k → step_by k f s ≡ of_together (together f s.ranks) s.out
local_steps Computes f s h = refl
local_steps (Packs what) f s h = refl
local_steps (Unpacks what) f s h = refl
local_steps _ f s h = absurd h

-- a rank jumps as all do where it goes by itself to where the first one goes
pub jump_acts : (target : ℕ) (unless : _) (ranks : List Store) (x : Store) → next_place target unless x.words x.position ≡ place_of_first target unless ranks → jumped target unless x ≡ at_place (place_of_first target unless ranks) x
unfolding jumped
jump_acts target unless ranks x e = ap (λ p. at_place p x) e

-- ---- posts

pub post_last : (x : Store) → suc x.sent ≡ x.ranks → after_post x ≡ moved (record x { outbox = set x.outbox x.sent no_message; sent = 0 })
post_last x e =
    let outbox = set x.outbox x.sent no_message in
    ap (λ b. cond b (moved (record x { outbox = outbox; sent = 0 })) (record x { outbox = outbox; sent = suc x.sent })) (eq-eqb (suc x.sent) x.ranks e)

pub post_more : (x : Store) → (suc x.sent ≡ x.ranks → ⊥) → after_post x ≡ record x { outbox = set x.outbox x.sent no_message; sent = suc x.sent }
post_more x ne =
    let outbox = set x.outbox x.sent no_message in
    ap (λ b. cond b (moved (record x { outbox = outbox; sent = 0 })) (record x { outbox = outbox; sent = suc x.sent })) (ne_eqb (suc x.sent) x.ranks ne)

-- a rank that has posted to the ranks below this one
posted_below : ℕ → Store → Store
posted_below r x = record x { outbox = emptied_below r x.outbox; sent = r }

posts_from : (k r : ℕ) (x : Store) → r + suc k ≡ x.ranks → after_posts (suc k) (posted_below r x) ≡ moved (record x { outbox = emptied_below (r + suc k) x.outbox; sent = 0 })
unfolding posted_below
posts_from zero r x e =
    let last : suc r ≡ x.ranks = omega (arith, e) in
    let one : suc r ≡ r + 1 = omega arith in
    post_last (posted_below r x) last ∙ ap (λ q. moved (record x { outbox = emptied_below q x.outbox; sent = 0 })) one
posts_from (suc k) r x e =
    let more : suc r + suc k ≡ x.ranks = omega (arith, e) in
    let same : suc r + suc k ≡ r + suc (suc k) = omega arith in
    ap (after_posts (suc k)) (post_more (posted_below r x) (λ h. omega (arith, h, e)))
    ∙ posts_from k (suc r) x more
    ∙ ap (λ q. moved (record x { outbox = emptied_below q x.outbox; sent = 0 })) same

pub posts_all : (x : Store) → 1 ≤ x.ranks → x.sent ≡ 0 → length x.outbox ≡ x.ranks → after_posts x.ranks x ≡ moved (record x { outbox = map (λ m. no_message) x.outbox; sent = 0 })
unfolding posted_below
posts_all x some first boxes = from x.ranks refl
  where
    from : (n : ℕ) → n ≡ x.ranks → after_posts n x ≡ moved (record x { outbox = map (λ m. no_message) x.outbox; sent = 0 })
    from zero e = absurd (omega (arith, e, some))
    from (suc k) e =
        let all : 0 + suc k ≡ x.ranks = omega (arith, e) in
        ap (λ j. after_posts (suc k) (record x { sent = j })) first ∙ posts_from k 0 x all
        ∙ ap (λ l. moved (record x { outbox = l; sent = 0 })) (emptied_all (0 + suc k) x.outbox (boxes ∙ sym all))

-- ---- takes

pub take_last : (x : Store) (m : Message) → suc x.got ≡ x.ranks → after_take x m ≡ moved (record x { inbox = set x.inbox x.got m; got = 0 })
take_last x m e =
    let inbox = set x.inbox x.got m in
    ap (λ b. cond b (moved (record x { inbox = inbox; got = 0 })) (record x { inbox = inbox; got = suc x.got })) (eq-eqb (suc x.got) x.ranks e)

pub take_more : (x : Store) (m : Message) → (suc x.got ≡ x.ranks → ⊥) → after_take x m ≡ record x { inbox = set x.inbox x.got m; got = suc x.got }
take_more x m ne =
    let inbox = set x.inbox x.got m in
    ap (λ b. cond b (moved (record x { inbox = inbox; got = 0 })) (record x { inbox = inbox; got = suc x.got })) (ne_eqb (suc x.got) x.ranks ne)

set_behind : (front rest : List Message) (old m : Message) → set (front ++ old ∷ rest) (length front) m ≡ front ++ m ∷ rest
set_behind [] rest old m = refl
set_behind (f ∷ front) rest old m = ap (λ l. f ∷ l) (set_behind front rest old m)

takes_from : (front rest ms : List Message) (x : Store) → 1 ≤ length ms → length rest ≡ length ms → length front + length ms ≡ x.ranks
    → after_takes ms (record x { inbox = front ++ rest; got = length front }) ≡ moved (record x { inbox = front ++ ms; got = 0 })
takes_from front rest [] x some same all = absurd (omega (arith, some))
takes_from front [] (m ∷ ms) x some same all = absurd (omega (arith, same))
takes_from front (o ∷ rest) (m ∷ []) x some same all =
    let none : rest ≡ [] = nothing rest (omega (arith, same)) in
    take_last (record x { inbox = front ++ o ∷ rest; got = length front }) m (omega (arith, all))
    ∙ ap (λ l. moved (record x { inbox = l; got = 0 })) (set_behind front rest o m ∙ ap (λ l. front ++ m ∷ l) none)
  where
    nothing : (l : List Message) → length l ≡ 0 → l ≡ []
    nothing [] e = refl
    nothing (y ∷ l) e = absurd (omega (arith, e))
takes_from front (o ∷ rest) (m ∷ n ∷ ms) x some same all =
    let count = length-append front (m ∷ []) in
    let rest_is : length rest ≡ length (n ∷ ms) = omega (arith, same) in
    let all_is : length (front ++ m ∷ []) + length (n ∷ ms) ≡ x.ranks = omega (arith, all, count) in
    let more : suc (length front) ≡ length (front ++ m ∷ []) = omega (arith, count) in
    ap (after_takes (n ∷ ms)) (take_more (record x { inbox = front ++ o ∷ rest; got = length front }) m (λ h. omega (arith, h, all)))
    ∙ ap (λ l. after_takes (n ∷ ms) (record x { inbox = l; got = suc (length front) })) (set_behind front rest o m ∙ sym (append_assoc front (m ∷ []) rest))
    ∙ ap (λ g. after_takes (n ∷ ms) (record x { inbox = (front ++ m ∷ []) ++ rest; got = g })) more
    ∙ takes_from (front ++ m ∷ []) rest (n ∷ ms) x (omega arith) rest_is all_is
    ∙ ap (λ l. moved (record x { inbox = l; got = 0 })) (append_assoc front (m ∷ []) (n ∷ ms))

pub takes_all : (x : Store) (ms : List Message) → 1 ≤ length ms → x.got ≡ 0 → length x.inbox ≡ length ms → length ms ≡ x.ranks → after_takes ms x ≡ moved (record x { inbox = ms; got = 0 })
takes_all x ms some first boxes all =
    let count : 0 + length ms ≡ x.ranks = omega (arith, all) in
    ap (λ j. after_takes ms (record x { got = j })) first ∙ takes_from [] x.inbox ms x some boxes count

-- ---- a whole exchange

-- What the lockstep makes of a rank by a Post and a Take is what the rank comes to by posting to all ranks and taking
-- what each of them has for it.
pub exchange_acts : (ranks : List Store) (x : Store) → 1 ≤ x.ranks → x.sent ≡ 0 → x.got ≡ 0 → length x.outbox ≡ x.ranks → length x.inbox ≡ x.ranks → length ranks ≡ x.ranks
    → moved (delivered ranks x) ≡ after_takes (map (λ y. message_at y.outbox x.number) ranks) (after_posts x.ranks x)
exchange_acts ranks x some sent got outbox inbox count =
    let ms = map (λ y. message_at y.outbox x.number) ranks in
    let number : length ms ≡ length ranks = length-map ranks (λ y. message_at y.outbox x.number) in
    let y = moved (record x { outbox = map (λ m. no_message) x.outbox; sent = 0 }) in
    sym (ap (after_takes ms) (posts_all x some sent outbox) ∙ takes_all y ms (omega (arith, number, count, some)) got (inbox ∙ sym count ∙ sym number) (number ∙ count) ∙ ap (λ g. moved (moved (record x { inbox = ms; outbox = map (λ m. no_message) x.outbox; sent = 0; got = g }))) (sym got))
