-- What an instruction does to one rank: a store, or a trap.
use Rattle.std.specs.Prelude.{ℕ, suc, ◌≡◌, Result, Ok, Err}
use Rattle.hp_word.specs.declared.place.Trap.{Trap}
use Rattle.hp_word.specs.Lengths.{trap}
use Rattle.hp_spmd.specs.declared.local.Local.{Local}
use Rattle.hp_spmd.specs.declared.local.Local.TheVariants.{Moved, Trapped}
use Rattle.hp_spmd.specs.declared.store.Store.{Store}
use Rattle.hp_spmd.specs.Store.{Data, with_data}

-- a store after an instruction, or a trap
pub data Next : Type 0 where
  Goes : Store → Next
  Traps : Trap → Next

-- the same store at this instruction
abbrev pub at_place : ℕ → Store → Store
at_place p x = record x { position = p }

-- the same store at the next instruction
abbrev pub moved : Store → Store
moved x = at_place (suc x.position) x

-- a store in which the data have become these, at the next instruction, or the trap that there is in their place
abbrev pub lifted : Result Data Trap → Store → Next
lifted (Ok d) x = Goes (with_data d (moved x))
lifted (Err t) x = Traps t

-- the answer and the new store are what comes next; a trap leaves the store
abbrev pub Tells : Next → Local → Store → Store → Type 0
Tells (Goes x) Moved old new = new ≡ x
Tells (Goes x) (Trapped at kind) old new = ⊥
Tells (Traps t) Moved old new = ⊥
Tells (Traps t) (Trapped at kind) old new = (t ≡ trap at kind) × (new ≡ old)
