-- What a rank keeps by each of its actions.
use Rattle.std.proofs.Common.{◌≡◌, refl, sym, subst, arith, ℕ, zero, suc, ◌≤◌, eqb, cond, Bool, true, false, Result, Ok, Err}
use Rattle.std.proofs.lemmas.Bool.{eqb-false}
use Rattle.hp_word.specs.declared.place.Trap.{Trap}
use Rattle.hp_word.specs.declared.table.Message.{Message}
use Rattle.hp_word.specs.declared.table.Tables.{Tables}
use Rattle.hp_spmd.specs.declared.code.Code.{Code}
use Rattle.hp_spmd.specs.declared.store.Store.{Store}
use Rattle.hp_spmd.specs.Act.{Act, HasHalted, Trips, Goes, Sends, Gets, Prints, act, act_by, of_next, first_only, after_post, after_take}
use Rattle.hp_spmd.specs.Exchange.{unpacked, written}
use Rattle.hp_spmd.specs.Kinds.{Kind, Computes, Jumps, Packs, Posts, Takes, PostsRoot, TakesRoot, Unpacks, Writes, Halts, kind_of}
use Rattle.hp_spmd.specs.Local.{alone, computed, jumped, pack_done}
use Rattle.hp_spmd.specs.Next.{lifted, moved}
use Rattle.hp_spmd.specs.Store.{Data, data_of, instr_at}
use Rattle.hp_spmd.proofs.Executed.{RaisesTo, computed_raises, unpacked_raises}
use Rattle.hp_machine.specs.Parts.{ComesTo}
use Rattle.hp_machine.specs.Sound.{IsFine}

-- each store that the action comes to is fine
abbrev NextFine : (n r k : ℕ) → Act → Type 0
NextFine n r k HasHalted = Unit {0}
NextFine n r k (Trips t) = Unit {0}
NextFine n r k (Goes x) = IsFine n r k x
NextFine n r k (Sends to message x) = IsFine n r k x
NextFine n r k (Gets sender f) = (message : Message) → IsFine n r k (f message)
NextFine n r k (Prints text x) = IsFine n r k x

comes_fine : (n r k : ℕ) (a : Act) (y : Store) → NextFine n r k a → ComesTo a y → IsFine n r k y
comes_fine n r k HasHalted y h c = absurd c
comes_fine n r k (Trips t) y h c = absurd c
comes_fine n r k (Goes x) y h c = subst (IsFine n r k) (sym c) h
comes_fine n r k (Sends to message x) y h c = subst (IsFine n r k) (sym c) h
comes_fine n r k (Gets sender f) y h c = subst (IsFine n r k) (sym c.1) (h c.0)
comes_fine n r k (Prints text x) y h c = subst (IsFine n r k) (sym c) h

lifted_fine : (n r k : ℕ) (d : Result Data Trap) (x : Store) → IsFine n r k x → RaisesTo x.executed d → NextFine n r (suc k) (of_next (lifted d x))
lifted_fine n r k (Err t) x h raises = tt
lifted_fine n r k (Ok d) x h raises = let e = h.executed in record { number = h.number; ranks = h.ranks; sent = h.sent; got = h.got; executed = omega (arith, e, raises) }

moved_fine : (n r k : ℕ) (x : Store) → IsFine n r k x → IsFine n r (suc k) (moved x)
moved_fine n r k x h = let e = h.executed in record { number = h.number; ranks = h.ranks; sent = h.sent; got = h.got; executed = omega (arith, e) }

if_fine : (n r k : ℕ) (b : Bool) (x y : Store) → (b ≡ true → IsFine n r k x) → (b ≡ false → IsFine n r k y) → IsFine n r k (cond b x y)
if_fine n r k true x y h g = h refl
if_fine n r k false x y h g = g refl

post_fine : (n r k : ℕ) (x : Store) → 1 ≤ n → IsFine n r k x → IsFine n r (suc k) (after_post x)
post_fine n r k x some h =
    let e = h.executed in
    if_fine n r (suc k) (eqb (suc x.sent) x.ranks) _ _
    (λ is. record { number = h.number; ranks = h.ranks; sent = omega (arith, some); got = h.got; executed = omega (arith, e) })
    (λ is. record { number = h.number; ranks = h.ranks; sent = let ne = eqb-false (suc x.sent) x.ranks is in let s = h.sent in let m = h.ranks in omega (arith, ne, s, m); got = h.got; executed = omega (arith, e) })

take_fine : (n r k : ℕ) (x : Store) (message : Message) → 1 ≤ n → IsFine n r k x → IsFine n r (suc k) (after_take x message)
take_fine n r k x message some h =
    let e = h.executed in
    if_fine n r (suc k) (eqb (suc x.got) x.ranks) _ _
    (λ is. record { number = h.number; ranks = h.ranks; sent = h.sent; got = omega (arith, some); executed = omega (arith, e) })
    (λ is. record { number = h.number; ranks = h.ranks; sent = h.sent; got = let ne = eqb-false (suc x.got) x.ranks is in let s = h.got in let m = h.ranks in omega (arith, ne, s, m); executed = omega (arith, e) })

root_fine : (n r k number : ℕ) (a : Act) (x : Store) → NextFine n r (suc k) a → IsFine n r k x → NextFine n r (suc k) (first_only number a x)
root_fine n r k zero a x h g = h
root_fine n r k (suc number) a x h g = moved_fine n r k x g

kind_fine : (code : Code) (n r m : ℕ) (k : Kind) (f : Data → Result Data Trap) (x : Store) → 1 ≤ n → IsFine n r m x → RaisesTo x.executed (f (data_of x)) → NextFine n r (suc m) (act_by k (alone code.arrays k f x) x)
unfolding jumped pack_done
kind_fine code n r m Computes f x some h raises = lifted_fine n r m (f (data_of x)) x h raises
kind_fine code n r m (Jumps target unless) f x some h raises = let e = h.executed in record { number = h.number; ranks = h.ranks; sent = h.sent; got = h.got; executed = omega (arith, e) }
kind_fine code n r m (Packs what) f x some h raises = let e = h.executed in record { number = h.number; ranks = h.ranks; sent = some; got = some; executed = omega (arith, e) }
kind_fine code n r m Posts f x some h raises = post_fine n r m x some h
kind_fine code n r m Takes f x some h raises = λ message. take_fine n r m x message some h
kind_fine code n r m PostsRoot f x some h raises = let e = h.executed in record { number = h.number; ranks = h.ranks; sent = h.sent; got = h.got; executed = omega (arith, e) }
kind_fine code n r m TakesRoot f x some h raises = root_fine n r m x.number (Gets x.got (after_take x)) x (λ message. take_fine n r m x message some h) h
kind_fine code n r m (Unpacks what) f x some h raises =
    lifted_fine n r m (unpacked code.arrays what x.number x.ranks x.inbox (data_of x)) x h (unpacked_raises code.arrays what x.number x.ranks x.inbox (data_of x))
kind_fine code n r m (Writes output) f x some h raises = root_fine n r m x.number (Prints (written output x.inbox) (moved x)) x (moved_fine n r m x h) h
kind_fine code n r m Halts f x some h raises = tt

-- a rank that has done what it does next is still that rank
pub stays_fine : (code : Code) (tables : Tables) (n r m : ℕ) (x y : Store) → 1 ≤ n → IsFine n r m x → ComesTo (act code tables x) y → IsFine n r (suc m) y
unfolding act
stays_fine code tables n r m x y some h c =
    let i = instr_at code.list x.position in
    let f = computed code.arrays tables x.number x.ranks i in
    comes_fine n r (suc m) (act code tables x) y (kind_fine code n r m (kind_of i) f x some h (computed_raises code.arrays tables x.number x.ranks i (data_of x))) c
