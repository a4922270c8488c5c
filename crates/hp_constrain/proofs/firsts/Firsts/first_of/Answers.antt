-- The slot is a balanced copy, a column of an expression or a column of a variable.
use Rattle.std.proofs.Common.{◌∙◌, nat_eq}
use Rattle.std.proofs.lemmas.Result.{on_ok_weaker, IfOk-weaker}
use Rattle.indexmap.specs.IndexMap.{get}
use Rattle.hp_constrain.specs.Firsts.{is_of_node, is_of_var}
use Rattle.hp_constrain.proofs.FirstLemmas.{first_balanced, first_of_node, first_of_var, no_var, nodes_more, vars_more, all_passed, other_node, other_var}
use Rattle.hp_constrain.proofs.firsts.Firsts.first_of.Goals as goal

pub returns-then-slot-clause-first : goal.returns-then-slot-clause-first
returns-then-slot-clause-first c before has long stands = first_balanced before c.args.slot.now c.args.number c.if-slot.true long

pub returns-in-Some-default-clause-first : goal.returns-in-Some-default-clause-first
returns-in-Some-default-clause-first c before has long stands =
    IfOk-weaker c.first_with.result _ _
    (λ first e. e ∙ first_of_node before c.args.slot.now c.in-Some-default.node c.args.number _ c.if-slot.false c.in-Some-default.is-0 stands long (has.nodes c.in-Some-default.node.0))
    c.first_with.ensures.first

pub returns-in-Some-default-clause-held : goal.returns-in-Some-default-clause-held
returns-in-Some-default-clause-held c before has long stands =
    on_ok_weaker c.first_with.result
    (λ held. record {
      nodes = nodes_more before c.args.slot.now c.in-Some-default.node c.args.number (get nat_eq c.args.self.now.nodes) (get nat_eq c.first_with.new.firsts) c.if-slot.false c.in-Some-default.is-0 long has.nodes held;
      vars = all_passed is_of_var before c.args.slot.now (get nat_eq c.args.self.now.vars) (λ v. other_var c.args.slot.now v (no_var c.args.slot.now c.in-Some-default.node c.in-Some-default.is-0 stands)) has.vars;
    })
    c.first_with.ensures.held

pub returns-in-None-Some-clause-first : goal.returns-in-None-Some-clause-first
returns-in-None-Some-clause-first c before has long stands =
    IfOk-weaker c.first_with-in-None-Some.result _ _
    (λ first e. e ∙ first_of_var before c.args.slot.now c.in-None-Some.var c.args.number _ c.if-slot.false c.in-None-Some.is-0 c.in-None-Some.is-1 long (has.vars c.in-None-Some.var))
    c.first_with-in-None-Some.ensures.first

pub returns-in-None-Some-clause-held : goal.returns-in-None-Some-clause-held
returns-in-None-Some-clause-held c before has long stands =
    on_ok_weaker c.first_with-in-None-Some.result
    (λ held. record {
      nodes = all_passed is_of_node before c.args.slot.now (get nat_eq c.args.self.now.nodes) (λ n. other_node c.args.slot.now n c.in-None-Some.is-0) has.nodes;
      vars = vars_more before c.args.slot.now c.in-None-Some.var c.args.number (get nat_eq c.args.self.now.vars) (get nat_eq c.first_with-in-None-Some.new.firsts) c.if-slot.false c.in-None-Some.is-1 long has.vars held;
    })
    c.first_with-in-None-Some.ensures.held
