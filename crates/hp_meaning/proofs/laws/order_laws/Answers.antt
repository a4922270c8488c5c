-- The laws of orders are lemmas.
use Rattle.hp_meaning.proofs.OrdersSame as same
use Rattle.hp_meaning.proofs.laws.order_laws.Goals as goal

pub returns : goal.returns
returns c = record {
  few_evaluated = same.few_evaluated;
  few_run = same.few_run;
  few_executed = same.few_executed;
  by_number = same.by_number;
  named_agree = same.named_agree;
  no_order = same.no_order;
}
