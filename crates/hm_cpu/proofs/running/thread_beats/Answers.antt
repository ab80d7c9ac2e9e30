use Rattle.std.proofs.Common.{◌+◌, ◌-◌, arith, ap, refl, ◌∙◌, Ok, Err}
use Rattle.arrayvec.specs.ArrayVec.{ArrayVec, array_vec_len}
use Rattle.hm_exc.specs.declared.types.Activation.{Activation}
use Rattle.hm_exec.specs.Families.{row_of}
use Rattle.hm_cpu.proofs.Going.{all_done, all_left, beats_go_on, ends_there, one_less, thread_goes}
use Rattle.hm_cpu.proofs.Keeping.{keeps_moves}
use Rattle.hm_cpu.specs.Cpus.{stepped}
use Rattle.hm_cpu.specs.declared.step_ends.StepEnd.TheVariants as step_end
use Rattle.hm_cpu.specs.declared.step_ends.LetterEnd.{LetterEnd}
use Rattle.hm_cpu.specs.declared.step_ends.LetterEnd.TheVariants as letter_end
use Rattle.hm_isa.specs.declared.Instr.{Instr}
use Rattle.hm_isa.specs.declared.Instr.TheVariants as instr
use Rattle.hm_run.specs.Program.{vector_of}
use Rattle.hm_cpu.proofs.running.thread_beats.Goals as goal

pub loop-k-init : goal.loop-k-init
loop-k-init c = record {
  way = all_left (instr.Vector (row_of c.args.v.now)) c.args.x.now _ refl c.requires.stands c.requires.position;
  thread = c.requires.thread;
}

pub loop-k-preserved : goal.loop-k-preserved
loop-k-preserved c =
    let y = c.loop-k.x in
    let z = c.vector_step.new.x in
    let v = row_of c.args.v.now in
    let way = c.loop-k.invariant.way in
    let did = c.in_default.ensures in record {
      way =
          one_less (instr.Vector v) (4 - c.loop-k._k) (4 - (c.loop-k._k + 1)) c.args.x.now y z (omega (arith, c.loop-k-test.true)) way
          (thread_goes (instr.Vector v) y z (Ok tt) c.loop-k.invariant.thread (way.stands (omega (arith, c.loop-k-test.true))) did.kept.acts
          (λ listing here. did.value listing (ap vector_of here)))
          (beats_go_on v y z did.stays did.kept.acts) (keeps_moves did.kept) did.kept.position did.count;
      thread = ap (λ (a : ArrayVec Activation). array_vec_len a) did.kept.acts ∙ c.loop-k.invariant.thread;
    }

pub returns-in-Err-clause-value : goal.returns-in-Err-clause-value
returns-in-Err-clause-value c listing s is sound =
    let y = c.loop-k.x in
    let z = c.vector_step.new.x in
    let i : Instr = instr.Vector (row_of c.args.v.now) in
    let way = c.loop-k.invariant.way in
    let did = c.in-Err.ensures in
    ap (λ (o : LetterEnd). stepped (Err o) z) c.stop_of.ensures.value
    ∙ ends_there i (4 - c.loop-k._k) (4 - (c.loop-k._k + 1)) c.args.x.now y z (omega (arith, c.loop-k-test.true)) way
    (letter_end.Step (step_end.Stopped c.in-Err.cause))
    (thread_goes i y z (Err c.in-Err.cause) c.loop-k.invariant.thread (way.stands (omega (arith, c.loop-k-test.true))) did.kept.acts
    (λ listing here. did.value listing (ap vector_of here))) listing s is sound

pub returns-clause-value : goal.returns-clause-value
returns-clause-value c =
    let v = row_of c.args.v.now in
    all_done (instr.Vector v) (4 - c.loop-k._k) c.args.x.now c.loop-k.x c.loop-k.invariant.way (omega (arith, c.loop-k-test.false))
