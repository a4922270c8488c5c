-- What is in a list without a place.
use Rattle.std.proofs.Common.{ap, ◌∙◌}
use Rattle.hp_links.specs.Boards.{Linked, is_in}
use Rattle.hp_infer.proofs.ChainLemmas.{in_less}
use Rattle.hp_infer.proofs.infer.unlink_if_linked.Goals as goal

pub returns-clause-linked : goal.returns-clause-linked
returns-clause-linked c = λ k. ap (λ (b : Linked). is_in k b.list) c.unlink.ensures ∙ in_less k c.args.at c.args.board.now.list
