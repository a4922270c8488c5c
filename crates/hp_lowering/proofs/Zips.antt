-- A step of the lockstep does to each rank what its instruction does.
use Rattle.std.proofs.Common.{ℕ, List, [], ◌∷◌, map}
use Rattle.std.specs.List.{AllZip}
use Rattle.hp_spmd.specs.declared.store.Store.{Store}
use Rattle.hp_spmd.specs.Kinds.{Kind, Computes, Jumps, Packs, Posts, Takes, PostsRoot, TakesRoot, Unpacks, Writes, Halts}
use Rattle.hp_spmd.specs.Lockstep.{State, Step, Steps, Together, All as AllGo, One, delivered, delivered_to_root, joined_to, of_together, place_of_first, step_by, together}
use Rattle.hp_spmd.specs.Next.{Next, Goes, Traps, at_place, moved}
use Rattle.hp_spmd.proofs.ShareNext.{OnNext}

-- the relation holds of each rank and what an instruction of this kind makes of it
abbrev pub Fits : (Store → Store → Type 0) → Kind → (Store → Next) → List Store → Type 0
Fits R Computes f ranks = (x : Store) → OnNext (R x) (f x)
Fits R (Jumps target unless) f ranks = (x : Store) → R x (at_place (place_of_first target unless ranks) x)
Fits R (Packs what) f ranks = (x : Store) → OnNext (R x) (f x)
Fits R Posts f ranks = (x : Store) → R x (delivered ranks x)
Fits R Takes f ranks = (x : Store) → R x (moved x)
Fits R PostsRoot f ranks = (x : Store) → R x (delivered_to_root ranks x)
Fits R TakesRoot f ranks = (x : Store) → R x (moved x)
Fits R (Unpacks what) f ranks = (x : Store) → OnNext (R x) (f x)
Fits R (Writes output) f ranks = (x : Store) → R x (moved x)
Fits R Halts f ranks = Unit {0}

abbrev pub ZipStep : (Store → Store → Type 0) → List Store → Step → Type 0
ZipStep R ranks (Steps t) = AllZip R ranks t.ranks
ZipStep R ranks _ = Unit {0}

abbrev ZipTogether : (Store → Store → Type 0) → List Store → Together → Type 0
ZipTogether R xs (AllGo ys) = AllZip R xs ys
ZipTogether R xs (One t) = Unit {0}

first_zips : (R : Store → Store → Type 0) (x : Store) (xs : List Store) (next : Next) (rest : Together) → OnNext (R x) next → ZipTogether R xs rest → ZipTogether R (x ∷ xs) (joined_to next rest)
first_zips R x xs (Goes y) (AllGo ys) h hs = (h, hs)
first_zips R x xs (Goes y) (One t) h hs = tt
first_zips R x xs (Traps t) rest h hs = tt

together_zips : (R : Store → Store → Type 0) (f : Store → Next) (xs : List Store) → ((x : Store) → OnNext (R x) (f x)) → ZipTogether R xs (together f xs)
together_zips R f [] h = tt
together_zips R f (x ∷ xs) h = first_zips R x xs (f x) (together f xs) (h x) (together_zips R f xs h)

of_together_zips : (R : Store → Store → Type 0) (xs : List Store) (t : Together) (out : List ℕ) → ZipTogether R xs t → ZipStep R xs (of_together t out)
of_together_zips R xs (AllGo ys) out h = h
of_together_zips R xs (One t) out h = tt

map_zips : (R : Store → Store → Type 0) (g : Store → Store) (xs : List Store) → ((x : Store) → R x (g x)) → AllZip R xs (map g xs)
map_zips R g [] h = tt
map_zips R g (x ∷ xs) h = (h x, map_zips R g xs h)

pub step_zips : (R : Store → Store → Type 0) (kind : Kind) (f : Store → Next) (s : State) → Fits R kind f s.ranks → ZipStep R s.ranks (step_by kind f s)
step_zips R Computes f s h = of_together_zips R s.ranks (together f s.ranks) s.out (together_zips R f s.ranks h)
step_zips R (Jumps target unless) f s h = map_zips R (at_place (place_of_first target unless s.ranks)) s.ranks h
step_zips R (Packs what) f s h = of_together_zips R s.ranks (together f s.ranks) s.out (together_zips R f s.ranks h)
step_zips R Posts f s h = map_zips R (delivered s.ranks) s.ranks h
step_zips R Takes f s h = map_zips R moved s.ranks h
step_zips R PostsRoot f s h = map_zips R (delivered_to_root s.ranks) s.ranks h
step_zips R TakesRoot f s h = map_zips R moved s.ranks h
step_zips R (Unpacks what) f s h = of_together_zips R s.ranks (together f s.ranks) s.out (together_zips R f s.ranks h)
step_zips R (Writes output) f s h = map_zips R moved s.ranks h
step_zips R Halts f s h = tt
