use Rattle.std.proofs.Common.{◌≤◌, length, vec_len}
use Rattle.hp_outside.proofs.files.host.read_front.Given as goal

-- no more was read than is allowed
abbrev pub invariant-loop : goal.invariant-loop
invariant-loop g l = (vec_len l.bytes ≤ l.limit) × (length l.bytes.items ≤ l.limit)
