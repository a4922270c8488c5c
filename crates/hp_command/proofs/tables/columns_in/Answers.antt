-- The fault is that of the columns that the call names.
use Rattle.std.proofs.Common.{subst}
use Rattle.hp_tables.specs.Contents.{Tells, answer_of}
use Rattle.hp_command.proofs.tables.columns_in.Goals as goal

pub returns-in-Err-clause-bad : goal.returns-in-Err-clause-bad
returns-in-Err-clause-bad c =
    c.refusal.ensures (answer_of c.args.read.now.columns c.args.bytes.now)
    (subst (λ names. Tells (answer_of names c.args.bytes.now) c.in-Err.error) c.as_slice.ensures c.in-Err.ensures.bad)
