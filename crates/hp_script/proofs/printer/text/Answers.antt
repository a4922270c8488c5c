-- The text is the canonical one, of which the law is proved.
use Rattle.std.proofs.Common.{◌≡◌, refl, ◌∙◌}
use Rattle.hp_script.specs.Mirror.{block_of}
use Rattle.hp_script.specs.Printing.{text_of_script}
use Rattle.hp_script.proofs.Printed.{text_again}
use Rattle.hp_script.proofs.printer.text.Goals as goal

pub returns-clause-again : goal.returns-clause-again
returns-clause-again c =
    let e : c.add_block.new.out.items ≡ text_of_script (block_of c.args.script.now.body) = c.in_ok-add_block.ensures ∙ rw (c.new-out.ensures.items, c.as_slice.ensures, c.as_slice-2.ensures) refl in
    text_again c.add_block.new.out.items c.args.script.now.body c.args.script.now.nodes e
