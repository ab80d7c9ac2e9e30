use Rattle.std.proofs.Common.{◌≡◌, ◌%◌, ap, ◌∙◌}
use Rattle.hm_sched.specs.Printed.{file_text}
use Rattle.hm_state.specs.Start.{reset_pc}
use Rattle.hm_work.specs.Images.{image_of}
use Rattle.hm_work.proofs.Runs.{plan_written}
use Rattle.hm_work.proofs.commands.plan_to.Goals as goal

pub returns : goal.returns
returns c = λ listings are.
    let image = c.in_ok-image.image in
    let odd : reset_pc image % 2 ≡ 1 = c.in_ok-schedule.ensures.odd in
    c.written.ensures.value
    ∙ plan_written listings (image_of c.args.image.now) image c.args.count.count c.args.out.now c.in_ok-print.field-0.items c.in_ok-image.ensures.exact odd
    (c.in_ok-print.ensures.text ∙ ap file_text (c.in_ok-schedule.ensures.planned (listings image) (are.at image)))
