use Rattle.std.proofs.Common.{◌≡◌, ◌++◌, ◌∷◌, [], Ok, Err, arith, subst}
use Rattle.hp_script.specs.Mirror.{block_of}
use Rattle.hp_meaning.specs.Forms.{FindsNext, TellsLines, built}
use Rattle.hp_meaning.proofs.BuiltReads.{built_reads}
use Rattle.hp_meaning.proofs.FormLemmas.{has_more, has_stopped, has_all}
use Rattle.hp_meaning.proofs.LineTokens.{few_lines}
use Rattle.hp_meaning.proofs.forms.lines_of.Goals as goal

pub returns-in-Err-clause-told : goal.returns-in-Err-clause-told
returns-in-Err-clause-told c =
    let found : FindsNext c.loop-stmt.list c.stmt-item.result (Err c.in-Err.error) = subst (λ ls. FindsNext ls c.stmt-item.result (Err c.in-Err.error)) c.as_slice.ensures c.in-Err.ensures in
    subst (λ body. TellsLines (built [] (block_of body)) (Err c.in-Err.error)) c.as_slice-stmt-items.ensures
    (has_stopped c.as_slice-stmt-items.result.now c.loop-stmt.list c.loop-stmt.stmt-index c.stmt-item.result c.in-Err.error (omega arith) c.stmt-item.is found c.loop-stmt.invariant)

pub loop-stmt-preserved : goal.loop-stmt-preserved
loop-stmt-preserved c =
    let found : FindsNext c.loop-stmt.list c.stmt-item.result (Ok c.in-Ok.line) = subst (λ ls. FindsNext ls c.stmt-item.result (Ok c.in-Ok.line)) c.as_slice.ensures c.in-Ok.ensures in
    let pushed : c.push.new.self ≡ c.loop-stmt.list ++ c.in-Ok.line ∷ [] = grind (arith, c.in_ok-push-in-Ok.ensures.ok) in
    rw pushed (has_more c.as_slice-stmt-items.result.now c.loop-stmt.list c.loop-stmt.stmt-index c.stmt-item.result c.in-Ok.line (omega arith) c.stmt-item.is found c.loop-stmt.invariant)

pub returns : goal.returns
returns c =
    let body = c.as_slice-stmt-items.result.now in
    let built_is : built [] (block_of c.args.script.now.body) ≡ Ok c.loop-stmt.list =
    subst (λ b. built [] (block_of b) ≡ Ok c.loop-stmt.list) c.as_slice-stmt-items.ensures
    (has_all body c.loop-stmt.list c.loop-stmt.stmt-index (omega arith) c.loop-stmt.invariant) in
    record {
      told = built_is;
      reads = built_reads [] (block_of c.args.script.now.body) c.loop-stmt.list built_is;
      few = few_lines c.args.script.now.body c.loop-stmt.list c.args.script.now.nodes built_is c.args.script.now.numbered c.args.script.now.few;
    }
