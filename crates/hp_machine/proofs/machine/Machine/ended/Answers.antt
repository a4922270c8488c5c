use Rattle.std.proofs.Common.{◌∙◌, sym, ap}
use Rattle.hp_machine.specs.Sound.{all_over}
use Rattle.hp_machine.proofs.OverLemmas.{all_ended, ended_all}
use Rattle.hp_machine.proofs.machine.Machine.ended.Goals as goal

pub returns : goal.returns
returns c = λ tables some.
    let is = c.all_over.ensures ∙ ap (λ ranks. all_over c.args.code.now ranks) c.deref.ensures.value in
    (λ e. all_ended c.args.code.now tables c.args.self.now.ranks.items (sym is ∙ e), λ h. is ∙ ended_all c.args.code.now tables c.args.self.now.ranks.items h)
