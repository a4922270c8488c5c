use Rattle.std.proofs.Common.{◌≡◌, ◌∙◌, sym, rules, cond, List, [], ◌++◌, FitsSigned, w64, IfOk}
use Rattle.std.specs.List.{list_all}
use Rattle.std.proofs.lemmas.Int.{to_z-of_z}
use Rattle.std.proofs.lemmas.Result.{IfOk-weaker}
use Rattle.hp_spmd.specs.declared.instr.Instr.{Instr}
use Rattle.hp_air.specs.Placed.{dist_at}
use Rattle.hp_air.specs.declared.what.What.TheVariants as what
use Rattle.hp_parfor.specs.LoopMeaning.{is_rep}
use Rattle.hp_parfor.specs.Talk.{dealt}
use Rattle.hp_lowering.specs.PartCode.{copied_or_dealt, whole_code}
use Rattle.hp_lowering.specs.Room.{room_of}
use Rattle.hp_lowering.proofs.OperationCodes.{concat_done, copy_done, done_code, none_done, scan_done}
use Rattle.hp_lowering.proofs.operations.operation_code.Goals as goal

pub returns-in-Const : goal.returns-in-Const
unfolding whole_code
returns-in-Const c =
    let fits : FitsSigned w64 c.in-Const.value = search rules in
    IfOk-weaker c.constant.result _ _ (λ l e. e ∙ sym (done_code (room_of c.args.plan.now.slots.now c.args.plan.now.words) c.args.plan.now.slots.now (dist_at c.args.plan.now.dists.now) c.args.op.now (what.Const c.in-Const.to c.in-Const.value) c.in-Const.is)) (rw (to_z-of_z w64 c.in-Const.value fits) at c.constant.ensures.exact)

pub returns-in-Calc : goal.returns-in-Calc
unfolding whole_code
returns-in-Calc c =
    IfOk-weaker c.calculation.result _ _ (λ l e. e ∙ sym (done_code (room_of c.args.plan.now.slots.now c.args.plan.now.words) c.args.plan.now.slots.now (dist_at c.args.plan.now.dists.now) c.args.op.now (what.Calc c.in-Calc.to c.in-Calc.op c.in-Calc.left c.in-Calc.right) c.in-Calc.is)) c.calculation.ensures.exact

pub returns-in-Length : goal.returns-in-Length
unfolding whole_code
returns-in-Length c =
    IfOk-weaker c.length.result _ _ (λ l e. e ∙ sym (done_code (room_of c.args.plan.now.slots.now c.args.plan.now.words) c.args.plan.now.slots.now (dist_at c.args.plan.now.dists.now) c.args.op.now (what.Length c.in-Length.to c.in-Length.array) c.in-Length.is)) c.length.ensures.exact

pub returns-in-Fill : goal.returns-in-Fill
unfolding whole_code
returns-in-Fill c =
    IfOk-weaker c.fill.result _ _ (λ l e. e ∙ sym (done_code (room_of c.args.plan.now.slots.now c.args.plan.now.words) c.args.plan.now.slots.now (dist_at c.args.plan.now.dists.now) c.args.op.now (what.Fill c.in-Fill.out c.in-Fill.value c.in-Fill.count) c.in-Fill.is)) c.fill.ensures.exact

pub returns-in-Range : goal.returns-in-Range
unfolding whole_code
returns-in-Range c =
    IfOk-weaker c.range.result _ _ (λ l e. e ∙ sym (done_code (room_of c.args.plan.now.slots.now c.args.plan.now.words) c.args.plan.now.slots.now (dist_at c.args.plan.now.dists.now) c.args.op.now (what.Range c.in-Range.out c.in-Range.first c.in-Range.last) c.in-Range.is)) c.range.ensures.exact

pub returns-in-Copy : goal.returns-in-Copy
returns-in-Copy c =
    let d = dist_at c.args.plan.now.dists.now in
    let outs = c.in-Copy.outs in
    let ins = c.in-Copy.ins in
    let made : IfOk c.copied_or_dealt.result (λ (list : List Instr). list ≡ copied_or_dealt (cond (list_all (λ k. is_rep (d k)) (outs ++ ins)) [] (dealt c.args.plan.now.slots.now d outs ins)) outs ins) = search rules in
    IfOk-weaker c.copied_or_dealt.result _ _ (λ l e. copy_done (room_of c.args.plan.now.slots.now c.args.plan.now.words) c.args.plan.now.slots.now (dist_at c.args.plan.now.dists.now) c.args.op.now outs ins l c.in-Copy.is e) made

pub returns-in-Scan : goal.returns-in-Scan
returns-in-Scan c = IfOk-weaker c.sums.result _ _ (λ l e. scan_done (room_of c.args.plan.now.slots.now c.args.plan.now.words) c.args.plan.now.slots.now (dist_at c.args.plan.now.dists.now) c.args.op.now c.in-Scan.out c.in-Scan.array l c.in-Scan.is e) c.sums.ensures

pub returns-in-Concat : goal.returns-in-Concat
returns-in-Concat c = IfOk-weaker c.joined.result _ _ (λ l e. concat_done (room_of c.args.plan.now.slots.now c.args.plan.now.words) c.args.plan.now.slots.now (dist_at c.args.plan.now.dists.now) c.args.op.now c.in-Concat.out c.in-Concat.left c.in-Concat.right l c.in-Concat.is e) c.joined.ensures

pub returns-in-At : goal.returns-in-At
unfolding whole_code
returns-in-At c =
    IfOk-weaker c.element.result _ _ (λ l e. e ∙ sym (done_code (room_of c.args.plan.now.slots.now c.args.plan.now.words) c.args.plan.now.slots.now (dist_at c.args.plan.now.dists.now) c.args.op.now (what.At c.in-At.to c.in-At.array c.in-At.index) c.in-At.is)) c.element.ensures.exact

pub returns-in-Pick : goal.returns-in-Pick
unfolding whole_code
returns-in-Pick c =
    IfOk-weaker c.pick.result _ _ (λ l e. e ∙ sym (done_code (room_of c.args.plan.now.slots.now c.args.plan.now.words) c.args.plan.now.slots.now (dist_at c.args.plan.now.dists.now) c.args.op.now (what.Pick c.in-Pick.out c.in-Pick.array c.in-Pick.index) c.in-Pick.is)) c.pick.ensures.exact

pub returns-in-PrintWord : goal.returns-in-PrintWord
unfolding whole_code
returns-in-PrintWord c =
    IfOk-weaker c.printed_word.result _ _ (λ l e. e ∙ sym (done_code (room_of c.args.plan.now.slots.now c.args.plan.now.words) c.args.plan.now.slots.now (dist_at c.args.plan.now.dists.now) c.args.op.now (what.PrintWord c.in-PrintWord.word c.in-PrintWord.truth) c.in-PrintWord.is)) c.printed_word.ensures

pub returns-in-PrintList : goal.returns-in-PrintList
unfolding whole_code
returns-in-PrintList c =
    IfOk-weaker c.arrive.result _ _ (λ l e. e ∙ sym (done_code (room_of c.args.plan.now.slots.now c.args.plan.now.words) c.args.plan.now.slots.now (dist_at c.args.plan.now.dists.now) c.args.op.now (what.PrintList c.in-PrintList.array c.in-PrintList.truth) c.in-PrintList.is)) c.arrive.ensures.exact

pub returns-in_default : goal.returns-in_default
returns-in_default c =
    none_done (room_of c.args.plan.now.slots.now c.args.plan.now.words) c.args.plan.now.slots.now (dist_at c.args.plan.now.dists.now) c.args.op.now c.new.result c.in_default.not-Const c.in_default.not-Calc c.in_default.not-Length c.in_default.not-Fill c.in_default.not-Range c.in_default.not-Copy c.in_default.not-Scan c.in_default.not-Concat c.in_default.not-At
    c.in_default.not-Pick c.in_default.not-PrintWord c.in_default.not-PrintList c.new.ensures
