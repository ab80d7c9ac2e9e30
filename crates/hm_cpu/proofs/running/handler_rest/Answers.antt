use Rattle.std.proofs.Common.{◌+◌, ◌-◌, ◌<◌, arith, sym, subst, Ok, Err}
use Rattle.arrayvec.specs.ArrayVec.{ArrayVec, array_vec_len}
use Rattle.hm_exc.specs.declared.types.Activation.{Activation}
use Rattle.hm_cpu.proofs.Going.{all_done, all_left, ends_there, handler_goes, one_less}
use Rattle.hm_recent.specs.Decodings.{instr_of}
use Rattle.hm_cpu.proofs.running.handler_rest.Goals as goal

pub loop-k-init : goal.loop-k-init
loop-k-init c = record {
  way = all_left (instr_of c.args.i.now) c.args.x.now _ (omega (arith, c.steps_left-left.ensures.value)) c.requires.stands c.requires.position;
  handler = λ some. c.requires.handler;
}

pub handler_step-requires-clause-entered : goal.handler_step-requires-clause-entered
handler_step-requires-clause-entered c = (c.loop-k.invariant.way.sound c.requires.sound.0 c.requires.sound.1).stacked

pub loop-k-preserved : goal.loop-k-preserved
loop-k-preserved c =
    let y = c.loop-k.x in
    let z = c.handler_step.new.x in
    let i = instr_of c.args.i.now in
    let left = c.steps_left-left.result in
    let way = c.loop-k.invariant.way in
    let stands = way.stands (omega (arith, c.loop-k-test.true)) in
    let did = c.in_default.ensures in record {
      way =
          one_less i (left - c.loop-k._k) (left - (c.loop-k._k + 1)) c.args.x.now y z (omega (arith, c.loop-k-test.true)) way
          (handler_goes i y z (Ok tt) stands did.value) did.stays did.moves did.position did.count;
      handler = λ some.
          let was = way.left (omega (arith, c.loop-k-test.true)) in
          let rest = did.stays (omega (arith, was, some)) in
          subst (λ (a : ArrayVec Activation). 0 < array_vec_len a) (sym rest.2) (c.loop-k.invariant.handler c.loop-k-test.true);
    }

pub returns-in-Err-clause-value : goal.returns-in-Err-clause-value
returns-in-Err-clause-value c =
    let y = c.loop-k.x in
    let z = c.handler_step.new.x in
    let i = instr_of c.args.i.now in
    let left = c.steps_left-left.result in
    let way = c.loop-k.invariant.way in
    ends_there i (left - c.loop-k._k) (left - (c.loop-k._k + 1)) c.args.x.now y z (omega (arith, c.loop-k-test.true)) way c.in-Err.end
    (handler_goes i y z (Err c.in-Err.end) (way.stands (omega (arith, c.loop-k-test.true))) c.in-Err.ensures.value)

pub returns-clause-value : goal.returns-clause-value
returns-clause-value c =
    let left = c.steps_left-left.result in
    all_done (instr_of c.args.i.now) (left - c.loop-k._k) c.args.x.now c.loop-k.x c.loop-k.invariant.way (omega (arith, c.loop-k-test.false))
