use Rattle.std.proofs.Common.{rules, ◌∙◌, Ok, Err}
use Rattle.hm_cpu.proofs.Services.{asked_there, serves}
use Rattle.hm_mem.specs.Memory.{memory_of}
use Rattle.hm_cpu.proofs.service.breakpoint.Goals as goal

pub returns-in-Err-clause-value : goal.returns-in-Err-clause-value
returns-in-Err-clause-value c =
    let x = c.args.x.now in
    asked_there x.regs (memory_of x.mem) x.output.items c.in_range.ensures.counted c.in_range.ensures.range.fpscr_fits c.in_range.ensures.range.vpr_fits
    (Err c.in-Err.stop) c.in-Err.ensures.value
    ∙ serves _ c.args.k _ (search rules)

pub returns-in-Ok-clause-value : goal.returns-in-Ok-clause-value
returns-in-Ok-clause-value c =
    let x = c.args.x.now in
    c.answer.ensures.value
    ∙ asked_there x.regs (memory_of x.mem) x.output.items c.in_range.ensures.counted c.in_range.ensures.range.fpscr_fits c.in_range.ensures.range.vpr_fits
    (Ok _) c.in-Ok.ensures.value
    ∙ serves _ c.args.k _ (search rules)
