-- A rank's log on its own way: what it was, and orders of numbers greater than what the rank had executed.
use Rattle.std.proofs.Common.{◌≡◌, refl, sym, subst, arith, ℕ, ◌≤◌, eqb, cond, true, false, Bool, Result, Ok, Err, zero, suc}
use Rattle.hp_word.specs.declared.place.Trap.{Trap}
use Rattle.hp_word.specs.declared.table.Message.{Message}
use Rattle.hp_word.specs.declared.table.Tables.{Tables}
use Rattle.hp_network.specs.Network.{Room}
use Rattle.hp_network.proofs.Own.{Hands}
use Rattle.hp_spmd.specs.declared.code.Code.{Code}
use Rattle.hp_spmd.specs.declared.store.Store.{Store}
use Rattle.hp_spmd.specs.Act as act
use Rattle.hp_spmd.specs.Act.{act_by, of_next, first_only, after_post, after_take}
use Rattle.hp_spmd.specs.Kinds.{Kind, Computes, Jumps, Packs, Posts, Takes, PostsRoot, TakesRoot, Unpacks, Writes, Halts}
use Rattle.hp_spmd.specs.Local.{alone, computed, jumped, pack_done}
use Rattle.hp_spmd.specs.Exchange.{unpacked}
use Rattle.hp_spmd.specs.Next.{Next, Goes, Traps, moved, lifted}
use Rattle.hp_spmd.specs.Spread.{IsPlaced}
use Rattle.hp_spmd.specs.Store.{Data, data_of, instr_at}
use Rattle.hp_turns.specs.Apart.{LogGrows, KeepsBy}
use Rattle.hp_turns.specs.Turns.{machine, of_act}
use Rattle.hp_turns.proofs.Acts.{kind_at, next_at, act_is}
use Rattle.hp_turns.proofs.Leaves.{LeavesLog, unpacked_leaves}
use Rattle.hp_turns.proofs.Past.{log_same, log_trans}

-- a rank on its way from a rank that it was
pub record Grown (was x : Store) : Type 0 where
  pub logs : LogGrows was x
  pub executed : was.executed ≤ x.executed

pub grown_same : (x : Store) → Grown x x
grown_same x = record { logs = log_same x x refl; executed = omega arith }

-- a rank with the same log, that has executed the same
record Alike (x y : Store) : Type 0 where
  log : y.log ≡ x.log
  executed : y.executed ≡ x.executed

grown_alike : (was x y : Store) → Grown was x → Alike x y → Grown was y
grown_alike was x y g a = record { logs = log_trans was x y g.executed g.logs (log_same x y a.log); executed = let h = g.executed in let e = a.executed in omega (arith, h, e) }

alike_if : (b : Bool) (x y z : Store) → Alike x y → Alike x z → Alike x (cond b y z)
alike_if true x y z h g = h
alike_if false x y z h g = g

post_alike : (x : Store) → Alike x (after_post x)
post_alike x = alike_if (eqb (suc x.sent) x.ranks) x _ _ (record { log = refl; executed = refl }) (record { log = refl; executed = refl })

take_alike : (x : Store) (m : Message) → Alike x (after_take x m)
take_alike x m = alike_if (eqb (suc x.got) x.ranks) x _ _ (record { log = refl; executed = refl }) (record { log = refl; executed = refl })

computes_grown : (code : Code) (n : ℕ) (was x : Store) (next : Next) → Grown was x → KeepsBy code n x.position Computes x next → Hands (Grown was) (of_act (of_next next))
computes_grown code n was x (Traps u) g keeps = tt
computes_grown code n was x (Goes y) g keeps = record { logs = log_trans was x y g.executed g.logs keeps.logs; executed = let h = g.executed in let e = keeps.executed in omega (arith, h, e) }

unpacks_grown : (was x : Store) (d : Result Data Trap) → Grown was x → LeavesLog (data_of x) d → Hands (Grown was) (of_act (of_next (lifted d x)))
unpacks_grown was x (Err u) g leaves = tt
unpacks_grown was x (Ok d) g leaves = grown_alike was x _ g (record { log = leaves.0; executed = leaves.1 })

root_grown : (was : Store) (number : ℕ) (a : act.Act) (x : Store) → Grown was x → Hands (Grown was) (of_act a) → Hands (Grown was) (of_act (first_only number a x))
root_grown was zero a x g h = h
root_grown was (suc k) a x g h = grown_alike was x (moved x) g (record { log = refl; executed = refl })

kind_grown : (code : Code) (n : ℕ) (was x : Store) (k : Kind) (f : Data → Result Data Trap) → Grown was x → KeepsBy code n x.position k x (alone code.arrays k f x) → Hands (Grown was) (of_act (act_by k (alone code.arrays k f x) x))
unfolding jumped pack_done
kind_grown code n was x Computes f g keeps = computes_grown code n was x (lifted (f (data_of x)) x) g keeps
kind_grown code n was x (Jumps target unless) f g keeps = grown_alike was x _ g (record { log = refl; executed = refl })
kind_grown code n was x (Packs what) f g keeps = grown_alike was x _ g (record { log = refl; executed = refl })
kind_grown code n was x Posts f g keeps = grown_alike was x (after_post x) g (post_alike x)
kind_grown code n was x Takes f g keeps = λ m. grown_alike was x (after_take x m) g (take_alike x m)
kind_grown code n was x PostsRoot f g keeps = grown_alike was x _ g (record { log = refl; executed = refl })
kind_grown code n was x TakesRoot f g keeps = root_grown was x.number (act.Gets x.got (after_take x)) x g (λ m. grown_alike was x (after_take x m) g (take_alike x m))
kind_grown code n was x (Unpacks what) f g keeps =
    unpacks_grown was x (unpacked code.arrays what x.number x.ranks x.inbox (data_of x)) g (unpacked_leaves code.arrays what x.number x.ranks x.inbox (data_of x))
kind_grown code n was x (Writes output) f g keeps = root_grown was x.number _ x g (grown_alike was x (moved x) g (record { log = refl; executed = refl }))
kind_grown code n was x Halts f g keeps = tt

-- what is known of a rank on its way is kept by what it does
pub grown_next : (code : Code) (tables : Tables) (room : Room) (n : ℕ) (was x : Store) → ((place : ℕ) (y : Store) → IsPlaced code n y → KeepsBy code n place (kind_at code place) y (next_at code tables place y)) → IsPlaced code n x → Grown was x
    → Hands (Grown was) ((machine code tables room).act x)
grown_next code tables room n was x keeps placed g =
    subst (Hands (Grown was)) (sym (act_is code tables room x x.position (kind_at code x.position) refl refl))
    (kind_grown code n was x (kind_at code x.position) (computed code.arrays tables x.number x.ranks (instr_at code.list x.position)) g (keeps x.position x placed))
