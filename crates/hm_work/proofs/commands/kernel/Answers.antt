use Rattle.std.proofs.Common.{ℕ, List, Some, None, true, sym, subst}
use Rattle.std.proofs.lemmas.Result.{err_from_is_err_and}
use Rattle.hm_work.specs.Commands.{IsKernelOutcome}
use Rattle.hm_work.specs.Work.{finishes}
use Rattle.hm_work.proofs.Compiling.{compiled_file, kernel_refused}
use Rattle.hm_work.proofs.commands.kernel.Goals as goal

pub returns-in_err-image : goal.returns-in_err-image
returns-in_err-image c =
    let p = err_from_is_err_and c.from_residual.result c.from_residual.ensures.1 in
    let e = c.in_err-image.field-0.0 in
    rw p.1 (kernel_refused c.args.source.now c.args.out.now e p.0 c.in_err-image.ensures.cause p.2)

pub returns : goal.returns
returns c =
    rw c.written.ensures.value (subst (λ (bytes : List ℕ). IsKernelOutcome c.args.source.now c.args.out.now (finishes true (Some (c.args.out.now, bytes)) None))
    (sym c.in_ok-bytes.ensures.file)
    (compiled_file c.args.source.now c.args.out.now c.in_ok-image.image c.in_ok-image.ensures.found))
