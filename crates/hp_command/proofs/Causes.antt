-- Calls one after another, each with its cause.
use Rattle.std.proofs.Common.{ℕ, ◌≤◌, inl, inr, Bool, true, false, refl, ◌∙◌, arith}
use Rattle.hp_outside.specs.Outside.{Rose, HasCause}

-- what rose since a later moment rose since an earlier one
pub rose_since : (before mid now : ℕ) → before ≤ mid → Rose mid now → Rose before now
rose_since before mid now le rose = elim rose [ inl more ↦ inl (omega arith) | inr last ↦ inr last ]

-- no call has a cause of its own
pub cause_none : (count : ℕ) → HasCause count count false
cause_none count = record { later = omega arith; failed = tt; kept = refl }

-- a call that did not fail, and then one that may have
pub cause_next : (before mid now : ℕ) (fault : Bool) → HasCause before mid false → HasCause mid now fault → HasCause before now fault
cause_next before mid now true first next =
    record { later = omega (arith, first.kept, next.later); failed = rose_since before mid now first.later next.failed; kept = tt }
cause_next before mid now false first next =
    record { later = omega (arith, first.kept, next.later); failed = tt; kept = next.kept ∙ first.kept }
