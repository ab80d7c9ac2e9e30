use Rattle.std.proofs.lemmas.Result.{err_from_is_err_and}
use Rattle.hm_work.specs.Images.{image_of}
use Rattle.hm_work.proofs.Runs.{run_image_refused}
use Rattle.hm_work.proofs.commands.run_under.Goals as goal

pub returns-in_err-image : goal.returns-in_err-image
returns-in_err-image c = λ listings are read given.
    let p = err_from_is_err_and c.from_residual.result c.from_residual.ensures.1 in
    let e = c.in_err-image.field-0.0 in
    rw p.1 (run_image_refused listings (image_of c.args.image.now) read c.args.memory.now e p.0 c.in_err-image.ensures.exact p.2)
