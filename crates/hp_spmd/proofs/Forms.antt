-- The form of exchanges: how it joins, and what it says by places.
use Rattle.std.proofs.Common.{◌≡◌, ◌∙◌, refl, sym, subst, ap, arith, ℕ, zero, suc, ◌<◌, List, [], ◌∷◌, ◌++◌, length, Bool, true, false}
use Rattle.std.proofs.lemmas.Bool.{false≢true}
use Rattle.hp_spmd.specs.declared.instr.Instr.{Instr}
use Rattle.hp_spmd.specs.declared.instr.Instr.TheVariants as instr
use Rattle.hp_spmd.specs.declared.instr.Packing.{Packing}
use Rattle.hp_spmd.specs.declared.instr.Packing.TheVariants.{Words, Sizes, Partial, Move, Hash, Gather}
use Rattle.hp_spmd.specs.declared.instr.Target.{Target}
use Rattle.hp_spmd.specs.declared.instr.Target.TheVariants.{Whole, Loose}
use Rattle.hp_spmd.specs.Exchanges.{Phase, Outside, Packed, Posted, RootPacked, RootPosted, wants, packs, leaves, IsSized, LeadsPhase, HasForm, SizeBehind, SizesFollow}
use Rattle.hp_spmd.specs.Kinds.{Kind, Packs, Posts, Takes, PostsRoot, TakesRoot, Halts, kind_of}
use Rattle.hp_spmd.specs.Store.{instr_at}

-- what leads from one phase to a second and what leads on from there lead on together
pub leads_join : (s t u : Phase) (a b : List Instr) → LeadsPhase s a t → LeadsPhase t b u → LeadsPhase s (a ++ b) u
leads_join s t u [] b ha hb = subst (λ p. LeadsPhase p b u) (sym ha) hb
leads_join s t u (i ∷ a) b ha hb = (ha.0, leads_join (leaves (kind_of i)) t u a b ha.1 hb)

-- a size that follows before Halt follows before any instruction, as none is asked for
size_anyway : (to : Target) (next : Instr) → SizeBehind to instr.Halt → SizeBehind to next
size_anyway (Whole arrays) next h = tt
size_anyway (Loose columns) next h = absurd h

sized_anyway : (i next : Instr) → IsSized i instr.Halt → IsSized i next
sized_anyway (instr.Join j) next h = size_anyway j.to next h
sized_anyway (instr.Group to from key measures) next h = size_anyway to next h
sized_anyway _ next h = tt

pub sizes_join : (a b : List Instr) → SizesFollow a → SizesFollow b → SizesFollow (a ++ b)
sizes_join [] b ha hb = hb
sizes_join (i ∷ []) b ha hb = (sized_anyway i (instr_at b 0) ha.0, hb)
sizes_join (i ∷ j ∷ a) b ha hb = (ha.0, sizes_join (j ∷ a) b ha.1 hb)

-- each instruction stands in the phase that the one before it leaves; behind the last one stands Halt
pub leads_next : (s : Phase) (list : List Instr) (k : ℕ) → LeadsPhase s list Outside → k < length list → leaves (kind_of (instr_at list k)) ≡ wants (kind_of (instr_at list (suc k)))
leads_next s [] k h lt = absurd (omega (arith, lt))
leads_next s (i ∷ []) zero h lt = h.1
leads_next s (i ∷ j ∷ is) zero h lt = h.1.0
leads_next s (i ∷ is) (suc k) h lt = leads_next (leaves (kind_of i)) is k h.1 (omega (arith, lt))

-- an instruction of a shape other than Halt is inside of the list
pub inside : (list : List Instr) (k : ℕ) → (kind_of (instr_at list k) ≡ Halts → ⊥) → k < length list
inside [] k ne = absurd (ne refl)
inside (i ∷ is) zero ne = omega arith
inside (i ∷ is) (suc k) ne = omega (arith, inside is k ne)

-- ---- what stands behind a pack

is_packed : Phase → Bool
is_packed Packed = true
is_packed RootPacked = true
is_packed _ = false

is_posted : Phase → Bool
is_posted Posted = true
is_posted RootPosted = true
is_posted _ = false

-- a Post, to all ranks or to the root, and a Take
abbrev pub IsPost : Kind → Type 0
IsPost Posts = Unit {0}
IsPost PostsRoot = Unit {0}
IsPost _ = ⊥

abbrev pub IsTake : Kind → Type 0
IsTake Takes = Unit {0}
IsTake TakesRoot = Unit {0}
IsTake _ = ⊥

packs_packed : (what : Packing) → is_packed (packs what) ≡ true
unfolding is_packed
packs_packed (Words ws) = refl
packs_packed (Sizes loose) = refl
packs_packed (Partial loose) = refl
packs_packed (Move arrays need) = refl
packs_packed (Hash arrays key) = refl
packs_packed (Gather output) = refl

wants_post : (k : Kind) → is_packed (wants k) ≡ true → IsPost k
unfolding is_packed
wants_post Posts e = tt
wants_post PostsRoot e = tt
wants_post _ e = absurd (false≢true e)

wants_take : (k : Kind) → is_posted (wants k) ≡ true → IsTake k
unfolding is_posted
wants_take Takes e = tt
wants_take TakesRoot e = tt
wants_take _ e = absurd (false≢true e)

leaves_posted : (k : Kind) → IsPost k → is_posted (leaves k) ≡ true
unfolding is_posted
leaves_posted Posts h = refl
leaves_posted PostsRoot h = refl
leaves_posted _ h = absurd h

packs_halts : (what : Packing) → Packs what ≡ Halts → ⊥
packs_halts what e = cc

-- behind a pack stand a Post and a Take
pub record IsExchange (list : List Instr) (p : ℕ) : Type 0 where
  pub posts : IsPost (kind_of (instr_at list (suc p)))
  pub takes : IsTake (kind_of (instr_at list (suc (suc p))))

pub exchange_at : (list : List Instr) → HasForm list → (p : ℕ) (what : Packing) → kind_of (instr_at list p) ≡ Packs what → IsExchange list p
exchange_at list form p what is =
    let here : p < length list = inside list p (λ e. packs_halts what (sym is ∙ e)) in
    let next : is_packed (wants (kind_of (instr_at list (suc p)))) ≡ true = ap is_packed (sym (leads_next Outside list p form.leads here)) ∙ ap (λ k. is_packed (leaves k)) is ∙ packs_packed what in
    let posts = wants_post (kind_of (instr_at list (suc p))) next in
    let there : suc p < length list = inside list (suc p) (λ e. subst IsPost e posts) in
    let last : is_posted (wants (kind_of (instr_at list (suc (suc p))))) ≡ true = ap is_posted (sym (leads_next Outside list (suc p) form.leads there)) ∙ leaves_posted (kind_of (instr_at list (suc p))) posts in
    record { posts = posts; takes = wants_take (kind_of (instr_at list (suc (suc p)))) last }
