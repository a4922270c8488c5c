-- What was read of a file stands for it.
use Rattle.std.proofs.Common.{◌≡◌, sym, ap, subst, arith}
use Rattle.hp_word.specs.declared.name.Name.{Name}
use Rattle.hp_command.specs.TableTexts.{StandsFor}
use Rattle.hp_command.proofs.TableCuts.{front_stands}
use Rattle.hp_command.proofs.tables.text_of.Goals as goal

pub returns-in-Ok-clause-text : goal.returns-in-Ok-clause-text
returns-in-Ok-clause-text g c =
    let holds = g.F.Files.holds c.args.files.now in
    let named : c.in_ok-name.name.bytes ≡ c.args.name.now.bytes = ap (λ (n : Name). n.bytes) c.in_ok-name.ensures.same in
    let stands = front_stands 67108865 holds c.in_ok-name.name.bytes c.in-Ok.bytes.items (omega arith) c.in-Ok.ensures.bytes in
    subst (λ name. StandsFor holds name c.from_vec.result) named (subst (λ front. StandsFor holds c.in_ok-name.name.bytes front) (sym c.from_vec.ensures) stands)
