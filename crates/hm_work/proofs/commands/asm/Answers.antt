use Rattle.std.proofs.lemmas.Result.{err_from_is_err_and}
use Rattle.hm_work.proofs.Runs.{asm_source_refused}
use Rattle.hm_work.proofs.commands.asm.Goals as goal

pub returns-in_err-image : goal.returns-in_err-image
returns-in_err-image c =
    let p = err_from_is_err_and c.from_residual.result c.from_residual.ensures.1 in
    let e = c.in_err-image.field-0.0 in
    rw p.1 (asm_source_refused c.args.source.now c.args.out.now e p.0 c.in_err-image.ensures.cause p.2)
