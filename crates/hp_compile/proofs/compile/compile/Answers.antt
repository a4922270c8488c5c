-- The code is that of the script's program, of which all steps are built.
use Rattle.std.proofs.Common.{rules}
use Rattle.hp_compile.specs.Compiling.{IsCodeOf, RanksRunScript}
use Rattle.hp_compile.proofs.CodeMade.{code_made}
use Rattle.hp_compile.proofs.CompiledRuns.{compiled_runs}
use Rattle.hp_compile.proofs.compile.compile.Goals as goal

-- src/compile.rt:39:1
pub returns-clause-code : goal.returns-clause-code
returns-clause-code c =
    let made : IsCodeOf c.in_ok-parfors.field-0.parfors c.in_ok-parfors.field-0.dists c.in_ok-code.code =
    code_made c.args.bytes.now c.in_ok-typed.typed c.in_ok-parfors.field-0.parfors c.in_ok-parfors.field-0.dists c.in_ok-code.code c.in_ok-typed.ensures.fits c.in_ok-parfors.ensures
    c.in_ok-code.ensures.list c.in_ok-code.ensures.words c.in_ok-code.ensures.arrays c.in_ok-code.ensures.loose c.in_ok-code.ensures.form c.in_ok-code.ensures.follows
    in search rules

pub returns-clause-runs : goal.returns-clause-runs
returns-clause-runs c =
    let made : IsCodeOf c.in_ok-parfors.field-0.parfors c.in_ok-parfors.field-0.dists c.in_ok-code.code =
    code_made c.args.bytes.now c.in_ok-typed.typed c.in_ok-parfors.field-0.parfors c.in_ok-parfors.field-0.dists c.in_ok-code.code c.in_ok-typed.ensures.fits c.in_ok-parfors.ensures
    c.in_ok-code.ensures.list c.in_ok-code.ensures.words c.in_ok-code.ensures.arrays c.in_ok-code.ensures.loose c.in_ok-code.ensures.form c.in_ok-code.ensures.follows
    in
    let runs : RanksRunScript c.in_ok-typed.typed c.in_ok-parfors.field-0.dists c.in_ok-code.code =
    compiled_runs c.in_ok-typed.typed c.in_ok-parfors.field-0.parfors c.in_ok-parfors.field-0.dists c.in_ok-parfors.ensures c.ranks_laws.ensures.carried c.headline_laws.ensures.headline c.args.bytes.now c.in_ok-code.code
    c.in_ok-typed.ensures.fits made
    in search rules
