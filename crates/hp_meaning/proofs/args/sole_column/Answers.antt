-- The column is what the only argument names.
use Rattle.std.proofs.lemmas.Result.{err_from_is_err_and}
use Rattle.hp_script.specs.Mirror.{tree_of, args_of}
use Rattle.hp_meaning.proofs.ArgumentLemmas.{sole_some, sole_none}
use Rattle.hp_meaning.proofs.args.sole_column.Goals as goal

pub returns-in_err-x : goal.returns-in_err-x
returns-in_err-x c =
    let p = err_from_is_err_and c.from_residual.result c.from_residual.ensures.1 in
    rw (p.1, p.2) (c.in_err-x.ensures.0, sole_none (args_of c.args.args.now) c.in_err-x.ensures.1)

pub returns : goal.returns
returns c = rw (sole_some (args_of c.args.args.now) (tree_of c.in_ok-x.x.now) c.in_ok-x.ensures) c.column_name.ensures
