use Rattle.std.proofs.Common.{◌≡◌, ◌+◌, ◌<◌, ◌≤◌, List, ℕ, ap, arith, length, sym, Ok, ◌∙◌}
use Rattle.hm_cpu.proofs.Services.{is_full, prints, words_length}
use Rattle.hm_cpu.specs.Services.{asked_by}
use Rattle.hm_cpu.specs.declared.service.Request.{Request}
use Rattle.hm_mem.specs.Memory.{memory_of}
use Rattle.hm_mem.specs.Seen.{seen}
use Rattle.hm_regs.specs.declared.Regs.{Regs}
use Rattle.hm_run.specs.Program.{answered, cause_of, most_output}
use Rattle.hm_state.specs.State.{state_of}
use Rattle.hm_thumb.specs.Does.{words}
use Rattle.hm_thumb.specs.Steps.{settled}
use Rattle.hm_thumb.specs.declared.Way.TheVariants as way
use Rattle.hm_cpu.proofs.service.answer.Goals as goal

pub returns-then-len-clause-value : goal.returns-then-len-clause-value
returns-then-len-clause-value c =
    let x = c.args.x.now in
    let m = memory_of x.mem in
    let xs = words 1 c.in-Write.len c.in-Write.addr (seen m) in
    let size : length xs ≡ c.in-Write.len = words_length c.in-Write.len c.in-Write.addr (seen m) in
    let ok = x.output.ok in
    let over = c.if-len.true in
    let len = c.len.ensures in
    let full : most_output < length x.output.items + length xs = omega (arith, size, ok, over, len) in
    is_full x.regs m x.output.items xs full
    ∙ ap (λ (q : Request). answered cause_of (state_of x.regs m x.output.items) (asked_by q (seen m))) (sym c.in-Write.is)

pub returns-else-len-clause-value : goal.returns-else-len-clause-value
returns-else-len-clause-value c =
    let x = c.args.x.now in
    let m = memory_of x.mem in
    let xs = words 1 c.in-Write.len c.in-Write.addr (seen m) in
    let size : length xs ≡ c.in-Write.len = words_length c.in-Write.len c.in-Write.addr (seen m) in
    let ok = x.output.ok in
    let room = c.requires.room in
    let fits = c.if-len.false in
    let len = c.len.ensures in
    let few : length x.output.items + length xs ≤ most_output = omega (arith, size, ok, room, fits, len) in
    ap (λ (r : Regs). Ok (state_of r m c.print.new.output.items)) c.settle.ensures.regs
    ∙ ap (λ (o : List ℕ). Ok (state_of (settled 2 way.On x.regs) m o)) c.print.ensures.items
    ∙ prints x.regs m x.output.items xs c.in_range.ensures.counted c.in_range.ensures.range.fpscr_fits c.in_range.ensures.range.vpr_fits few
    ∙ ap (λ (q : Request). answered cause_of (state_of x.regs m x.output.items) (asked_by q (seen m))) (sym c.in-Write.is)
