use Rattle.std.proofs.Common.{◌≡◌, ℕ, [], ◌∷◌, subst, sym}
use Rattle.hp_script.specs.declared.tree.Stmt.{Stmt}
use Rattle.hp_parse.specs.Machine.{want, stmts, Body}
use Rattle.hp_parse.specs.Readers.{Reader, Finishes, Stops}
use Rattle.hp_parse.proofs.ParseAnswers.{finishes_read, stops_refused, read_numbered, read_few}
use Rattle.hp_parse.proofs.parse.parsed.Goals as goal

pub returns-in-Err-clause-stopped : goal.returns-in-Err-clause-stopped
returns-in-Err-clause-stopped c =
    stops_refused c.args.tokens.now.source c.args.tokens.now.list c.in-Err.error
    (subst (λ r. Stops r (want Body ∷ []) (stmts [] ∷ []) c.in-Err.error) c.new-cursor.ensures c.in-Err.ensures.stopped)

pub invariant_of-result : goal.invariant_of-result
invariant_of-result c =
    let source = c.args.tokens.now.source in
    let list = c.args.tokens.now.list in
    let read = finishes_read source list c.in-Ok.body c.number-nodes.result
    (subst (λ r. Finishes r c.in-Ok.body c.number-nodes.result) c.new-cursor.ensures
    (subst (λ n. Finishes c.new-cursor.result c.in-Ok.body n) (sym c.number-nodes.ensures) c.in-Ok.ensures.read)) in
    record {
      few = read_few source list c.requires.lexed c.in-Ok.body c.number-nodes.result read;
      numbered = read_numbered source list c.in-Ok.body c.number-nodes.result read;
    }
