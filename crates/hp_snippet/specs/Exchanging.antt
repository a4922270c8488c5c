-- What a whole exchange makes of the ranks.
use Rattle.std.specs.Prelude.{ℕ, suc, ◌≡◌, List, [], ◌∷◌, map, false, true}
use Rattle.hp_word.specs.declared.table.Message.{Message}
use Rattle.hp_lattice.specs.declared.dist.Dist.{Dist}
use Rattle.hp_spmd.specs.declared.code.Code.{Code}
use Rattle.hp_spmd.specs.declared.instr.Instr.TheVariants as instr
use Rattle.hp_spmd.specs.declared.instr.Output.{Output}
use Rattle.hp_spmd.specs.declared.instr.Packing.{Packing}
use Rattle.hp_spmd.specs.declared.instr.Packing.TheVariants.{Gather}
use Rattle.hp_spmd.specs.declared.instr.Unpacking.{Unpacking}
use Rattle.hp_spmd.specs.declared.store.Store.{Store}
use Rattle.hp_spmd.specs.Exchange.{packed, unpacked}
use Rattle.hp_spmd.specs.Local.{pack_done}
use Rattle.hp_spmd.specs.Lockstep.{State, state, delivered, delivered_to_root}
use Rattle.hp_spmd.specs.Next.{Next, lifted, moved}
use Rattle.hp_spmd.specs.Store.{data_of, instr_at, message_at}

-- what each rank packs for the rank `to`, in rank order
abbrev pub mail_for : List Dist → Packing → List Store → (to : ℕ) → List Message
mail_for dists what ranks to = map (λ y. message_at (packed dists what y.number y.ranks (data_of y)) to) ranks

-- ---- the ranks on the way

abbrev pub once_packed : List Dist → Packing → List Store → List Store
once_packed dists what ranks = map (pack_done dists what) ranks

abbrev pub once_posted : List Dist → Packing → List Store → List Store
once_posted dists what ranks = map (delivered (once_packed dists what ranks)) (once_packed dists what ranks)

abbrev pub once_taken : List Dist → Packing → List Store → List Store
once_taken dists what ranks = map moved (once_posted dists what ranks)

abbrev pub once_posted_to_root : List Dist → Packing → List Store → List Store
once_posted_to_root dists what ranks = map (delivered_to_root (once_packed dists what ranks)) (once_packed dists what ranks)

abbrev pub once_taken_at_root : List Dist → Packing → List Store → List Store
once_taken_at_root dists what ranks = map moved (once_posted_to_root dists what ranks)

-- one of these ranks before its Unpack: its data are as before the exchange, and it has the messages for it
abbrev pub with_mail : List Dist → Packing → List Store → Store → Store
with_mail dists what ranks x = moved (delivered (once_packed dists what ranks) (pack_done dists what x))

-- One of these ranks after the exchange: what it makes of its data and the messages for it, from all ranks in order, or its trap.
abbrev pub exchanged : List Dist → Packing → Unpacking → List Store → Store → Next
exchanged dists what unpacking ranks x =
    lifted (unpacked dists unpacking x.number x.ranks (mail_for dists what ranks x.number) (data_of x)) (with_mail dists what ranks x)

-- ---- the code of an exchange

-- at this place stand a Pack, a Post, a Take and an Unpack
pub record IsExchange (code : Code) (place : ℕ) (what : Packing) (unpacking : Unpacking) : Type 0 where
  pub packs : instr_at code.list place ≡ instr.Pack what
  pub posts : instr_at code.list (suc place) ≡ instr.Post false
  pub takes : instr_at code.list (suc (suc place)) ≡ instr.Take false
  pub unpacks : instr_at code.list (suc (suc (suc place))) ≡ instr.Unpack unpacking

-- at this place stand a Pack for rank 0, a Post and a Take at the root, and a Write
pub record IsWriting (code : Code) (place : ℕ) (output : Output) : Type 0 where
  pub packs : instr_at code.list place ≡ instr.Pack (Gather output)
  pub posts : instr_at code.list (suc place) ≡ instr.Post true
  pub takes : instr_at code.list (suc (suc place)) ≡ instr.Take true
  pub writes : instr_at code.list (suc (suc (suc place))) ≡ instr.Write output

-- ---- the states on the way

-- from the Pack to the Unpack
abbrev pub way_of : List Dist → Packing → List Store → (out : List ℕ) → List State
way_of dists what ranks out = state ranks out ∷ state (once_packed dists what ranks) out ∷ state (once_posted dists what ranks) out ∷ state (once_taken dists what ranks) out ∷ []

-- from the Pack to the Write
abbrev pub way_to_root : List Dist → Packing → List Store → (out : List ℕ) → List State
way_to_root dists what ranks out =
    state ranks out ∷ state (once_packed dists what ranks) out ∷ state (once_posted_to_root dists what ranks) out ∷ state (once_taken_at_root dists what ranks) out ∷ []
