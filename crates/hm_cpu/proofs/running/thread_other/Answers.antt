use Rattle.std.proofs.Common.{ap, ◌∙◌, Ok, Err}
use Rattle.hm_cpu.proofs.Going.{at_once, thread_goes}
use Rattle.hm_cpu.proofs.Keeping.{keeps_moves}
use Rattle.hm_cpu.proofs.Nestings.{lifted, step_stays}
use Rattle.hm_cpu.specs.Cpus.{stepped}
use Rattle.hm_cpu.specs.declared.step_ends.LetterEnd.{LetterEnd}
use Rattle.hm_order.specs.InFlight.{Older}
use Rattle.hm_cpu.proofs.running.thread_other.Goals as goal

pub returns-clause-value : goal.returns-clause-value
returns-clause-value c =
    let x = c.args.x.now in
    let y = c.other_step.new.x in
    let i = c.args.i.now in
    let did = c.in_default.ensures in
    at_once i.instr x y (Ok tt) i.other c.requires.stands (thread_goes i.instr x y (Ok tt) c.requires.thread c.requires.stands did.kept.acts did.value)

pub returns-in-Err-clause-value : goal.returns-in-Err-clause-value
returns-in-Err-clause-value c listing s is sound =
    let x = c.args.x.now in
    let y = c.other_step.new.x in
    let i = c.args.i.now in
    let did = c.in-Err.ensures in
    ap (λ (o : LetterEnd). stepped (Err o) y) c.stop_of.ensures.value
    ∙ at_once i.instr x y (lifted (Err c.in-Err.cause)) i.other c.requires.stands
    (thread_goes i.instr x y (Err c.in-Err.cause) c.requires.thread c.requires.stands did.kept.acts did.value) listing s is sound

pub returns-clause-sound : goal.returns-clause-sound
returns-clause-sound c s sound =
    let x = c.args.x.now in
    let y = c.other_step.new.x in
    let did = c.in_default.ensures in
    step_stays s Older x y (Ok tt) (thread_goes c.args.i.now.instr x y (Ok tt) c.requires.thread c.requires.stands did.kept.acts did.value) sound

pub returns-clause-moves : goal.returns-clause-moves
returns-clause-moves c = keeps_moves c.in_default.ensures.kept

pub returns-in-Err-clause-moves : goal.returns-in-Err-clause-moves
returns-in-Err-clause-moves c = keeps_moves c.in-Err.ensures.kept
