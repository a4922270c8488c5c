-- Ranks that compute one after another.
use Rattle.std.proofs.Common.{◌≡◌, ◌∙◌, refl, sym, subst, ap, arith, ℕ, ◌+◌, ◌<◌, ◌≤◌, List, [], ◌∷◌, ◌++◌, length, take, drop, get_or, set}
use Rattle.std.proofs.lemmas.List.{append-nil, drop_more, get_or-drop, drop-set-lt, drop_all, take_all, take_more_set}
use Rattle.hp_word.specs.declared.place.Place.{Place}
use Rattle.hp_word.specs.declared.place.Trap.{Trap}
use Rattle.hp_word.specs.declared.place.TrapKind.{TrapKind}
use Rattle.hp_word.specs.Lengths.{trap}
use Rattle.hp_spmd.specs.declared.local.Local.TheVariants.{Moved, Trapped}
use Rattle.hp_spmd.specs.declared.lockstep.round.RoundEnd.TheVariants as round
use Rattle.hp_spmd.specs.declared.store.Store.{Store}
use Rattle.hp_spmd.specs.Next.{Next, Goes, Traps, Tells}
use Rattle.hp_spmd.specs.Lockstep.{Together, All, One, with_first, joined_to, together}
use Rattle.hp_spmd.specs.Ranks.{IsRank, AreRanks, TellsAll}

-- the stores of the ranks before, put before the others
abbrev pub firsts : List Store → Together → Together
firsts [] rest = rest
firsts (y ∷ ys) rest = with_first y (firsts ys rest)

firsts_push : (ys : List Store) (y : Store) (rest : Together) → firsts (ys ++ y ∷ []) rest ≡ firsts ys (with_first y rest)
firsts_push [] y rest = refl
firsts_push (z ∷ ys) y rest = ap (λ t. with_first z t) (firsts_push ys y rest)

firsts_all : (ys zs : List Store) → firsts ys (All zs) ≡ All (ys ++ zs)
firsts_all [] zs = refl
firsts_all (y ∷ ys) zs = ap (λ t. with_first y t) (firsts_all ys zs)

firsts_one : (ys : List Store) (t : Trap) → firsts ys (One t) ≡ One t
firsts_one [] t = refl
firsts_one (y ∷ ys) t = ap (λ u. with_first y u) (firsts_one ys t)

-- how far the ranks have come
pub record Done (f : Store → Next) (xs ys : List Store) (i : ℕ) : Type 0 where
  pub rest : drop i ys ≡ drop i xs
  pub so_far : together f xs ≡ firsts (take i ys) (together f (drop i xs))

pub done_none : (f : Store → Next) (xs : List Store) → Done f xs xs 0
done_none f xs = record { rest = refl; so_far = refl }

same_at : (xs ys : List Store) (i : ℕ) (d : Store) → drop i ys ≡ drop i xs → get_or ys i d ≡ get_or xs i d
same_at xs ys i d rest =
    let same : i + 0 ≡ i = omega arith in
    ap (λ j. get_or ys j d) (sym same)
    ∙ sym (get_or-drop i ys 0 d)
    ∙ ap (λ l. get_or l 0 d) rest
    ∙ get_or-drop i xs 0 d
    ∙ ap (λ j. get_or xs j d) same

-- the rank that is next
pub rank_here : (f : Store → Next) (at i : ℕ) (xs ys : List Store) (d : Store) → Done f xs ys i → i < length xs → AreRanks at xs
    → IsRank (length xs) at i (get_or ys i d)
rank_here f at i xs ys d done inside ranks =
    subst (λ y. IsRank (length xs) at i y) (sym (same_at xs ys i d done.rest)) (ranks i d inside)

pub room_here : (f : Store → Next) (most i : ℕ) (xs ys : List Store) (d : Store) → Done f xs ys i → i < length xs → ((k : ℕ) (d : Store) → k < length xs → (get_or xs k d).executed < most)
    → (get_or ys i d).executed < most
room_here f most i xs ys d done inside room = subst (λ y. y.executed < most) (sym (same_at xs ys i d done.rest)) (room i d inside)

next_of : (f : Store → Next) (xs ys : List Store) (i : ℕ) (d : Store) → Done f xs ys i → i < length xs
    → together f xs ≡ firsts (take i ys) (joined_to (f (get_or ys i d)) (together f (drop (i + 1) xs)))
next_of f xs ys i d done inside =
    done.so_far
    ∙ ap (λ l. firsts (take i ys) (together f l)) (drop_more xs i d inside)
    ∙ ap (λ y. firsts (take i ys) (joined_to (f y) (together f (drop (i + 1) xs)))) (sym (same_at xs ys i d done.rest))

abbrev tail_of : List Store → List Store
tail_of [] = []
tail_of (x ∷ xs) = xs

-- it goes on
pub done_one : (f : Store → Next) (xs ys : List Store) (i : ℕ) (d y : Store) → Done f xs ys i → i < length xs → length ys ≡ length xs
    → f (get_or ys i d) ≡ Goes y → Done f xs (set ys i y) (i + 1)
done_one f xs ys i d y done inside same goes =
    let inside' : i < length ys = omega (arith, inside, same) in
    let below : i < i + 1 = omega arith in
    let others : Together = together f (drop (i + 1) xs) in
    record {
      rest =
          drop-set-lt (i + 1) ys i y below
          ∙ ap tail_of (sym (drop_more ys i d inside') ∙ done.rest ∙ drop_more xs i d inside);
      so_far =
          next_of f xs ys i d done inside
          ∙ ap (λ n. firsts (take i ys) (joined_to n others)) goes
          ∙ sym (firsts_push (take i ys) y others)
          ∙ ap (λ l. firsts l others) (sym (take_more_set ys i y inside'));
    }

-- it traps
pub done_trap : (f : Store → Next) (xs ys : List Store) (i : ℕ) (d : Store) (t : Trap) → Done f xs ys i → i < length xs
    → f (get_or ys i d) ≡ Traps t → together f xs ≡ One t
done_trap f xs ys i d t done inside traps =
    next_of f xs ys i d done inside
    ∙ ap (λ n. firsts (take i ys) (joined_to n (together f (drop (i + 1) xs)))) traps
    ∙ firsts_one (take i ys) t

-- all have gone on
pub done_all : (f : Store → Next) (xs ys : List Store) (i : ℕ) → Done f xs ys i → length xs ≤ i → length ys ≡ length xs → together f xs ≡ All ys
done_all f xs ys i done past same =
    let past' : length ys ≤ i = omega (arith, past, same) in
    done.so_far
    ∙ ap (λ l. firsts (take i ys) (together f l)) (drop_all i xs past)
    ∙ firsts_all (take i ys) []
    ∙ ap All (append-nil (take i ys) ∙ take_all i ys past')

-- ---- what an answer tells

pub tells_moved : (n : Next) (old new : Store) → Tells n Moved old new → n ≡ Goes new
tells_moved (Goes x) old new h = ap Goes (sym h)
tells_moved (Traps t) old new h = absurd h

pub tells_trapped : (n : Next) (at : Place) (kind : TrapKind) (old new : Store) → Tells n (Trapped at kind) old new → n ≡ Traps (trap at kind)
tells_trapped (Goes x) at kind old new h = absurd h
tells_trapped (Traps t) at kind old new h = ap Traps h.0

pub tells_all_moved : (t : Together) (new : List Store) → t ≡ All new → TellsAll t round.Moved new
tells_all_moved t new e = subst (λ u. TellsAll u round.Moved new) (sym e) refl

pub tells_all_trapped : (t : Together) (at : Place) (kind : TrapKind) (new : List Store) → t ≡ One (trap at kind) → TellsAll t (round.Trapped at kind) new
tells_all_trapped t at kind new e = subst (λ u. TellsAll u (round.Trapped at kind) new) (sym e) refl
