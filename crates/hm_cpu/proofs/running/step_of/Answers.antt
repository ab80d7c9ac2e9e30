use Rattle.std.proofs.Common.{ap, ◌∙◌, Ok, Err}
use Rattle.hm_cpu.proofs.Going.{handler_goes, thread_goes}
use Rattle.hm_cpu.proofs.Keeping.{keeps_moves}
use Rattle.hm_cpu.proofs.Nestings.{is_none, step_stays}
use Rattle.hm_cpu.specs.Cpus.{stepped}
use Rattle.hm_recent.specs.Decodings.{instr_of}
use Rattle.hm_cpu.specs.declared.step_ends.LetterEnd.{LetterEnd}
use Rattle.hm_order.specs.InFlight.{Older}
use Rattle.hm_cpu.proofs.running.step_of.Goals as goal

pub returns-clause-value : goal.returns-clause-value
returns-clause-value c =
    let did = c.in_default.ensures in
    thread_goes (instr_of c.args.i.now) c.args.x.now c.thread_step.new.x (Ok tt) (is_none _ _ c.is_empty.ensures c.if-not-is_empty.false) c.requires.stands
    did.kept.acts did.value

pub returns-in-Err-clause-value : goal.returns-in-Err-clause-value
returns-in-Err-clause-value c listing s is sound =
    let y = c.thread_step.new.x in
    let did = c.in-Err.ensures in
    ap (λ (o : LetterEnd). stepped (Err o) y) c.stop_of.ensures.value
    ∙ thread_goes (instr_of c.args.i.now) c.args.x.now y (Err c.in-Err.cause) (is_none _ _ c.is_empty.ensures c.if-not-is_empty.false) c.requires.stands
    did.kept.acts did.value listing s is sound

pub returns-clause-sound : goal.returns-clause-sound
returns-clause-sound c s sound =
    step_stays s Older c.args.x.now c.thread_step.new.x (Ok tt) (λ listing s is h. returns-clause-value c listing s is h) sound

pub returns-clause-moves : goal.returns-clause-moves
returns-clause-moves c = keeps_moves c.in_default.ensures.kept

pub returns-in-Err-clause-moves : goal.returns-in-Err-clause-moves
returns-in-Err-clause-moves c = keeps_moves c.in-Err.ensures.kept

pub returns-then-not-is_empty-clause-value : goal.returns-then-not-is_empty-clause-value
returns-then-not-is_empty-clause-value c =
    handler_goes (instr_of c.args.i.now) c.args.x.now c.handler_step.new.x c.handler_step.result c.requires.stands c.handler_step.ensures.value

pub returns-then-not-is_empty-clause-sound : goal.returns-then-not-is_empty-clause-sound
returns-then-not-is_empty-clause-sound c s sound =
    step_stays s Older c.args.x.now c.handler_step.new.x c.handler_step.result (λ listing s is h. returns-then-not-is_empty-clause-value c listing s is h)
    sound
