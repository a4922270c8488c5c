use Rattle.std.proofs.Common.{◌∙◌, sym}
use Rattle.hp_machine.proofs.OverLemmas.{one_goes}
use Rattle.hp_machine.proofs.machine.Machine.last_ended.Goals as goal

pub returns-then-not-is_over : goal.returns-then-not-is_over
returns-then-not-is_over c = λ tables some.
    (λ e. absurd cc, λ h. absurd (one_goes c.args.code.now tables c.args.self.now.ranks.items c.args.rank c.index.result.now c.requires c.index.ensures (sym c.is_over.ensures ∙ c.if-not-is_over.true) h))
