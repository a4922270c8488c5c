-- A program of few names has few slots.
use Rattle.std.proofs.Common.{◌≡◌, ℕ, ◌<◌, ◌≤◌, ◌^◌, List, length, arith}
use Rattle.hp_program.specs.Programs.{Prog}
use Rattle.hp_air.specs.declared.slot.Slot.{Slot}
use Rattle.hp_air.specs.declared.what.Op.{Op}
use Rattle.hp_air.specs.Kept.{names_of}

below : (n names limit most : ℕ) → n ≤ names → names < limit → limit ≤ most → n < most
below n names limit most p q r = omega (arith, p, q, r)

no_more : (slots : List Slot) (words : ℕ) (p : Prog Op) (n : ℕ) → n ≡ length slots → n ≤ names_of slots words p
unfolding names_of
no_more slots words p n is = omega (arith, is)

pub few_slots : (slots : List Slot) (words : ℕ) (p : Prog Op) (n : ℕ) → names_of slots words p < 2 ^ 30 → n ≡ length slots → n < 2 ^ 32
few_slots slots words p n few is = below n (names_of slots words p) (2 ^ 30) (2 ^ 32) (no_more slots words p n is) few (omega arith)
