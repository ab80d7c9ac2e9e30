use Rattle.std.proofs.Common.{ℕ, ◌+◌, arith, ap, ◌∙◌}
use Rattle.hm_cpu.proofs.Keeping.{listed_still, moves_then}
use Rattle.hm_cpu.specs.Cpus.{nested_of}
use Rattle.hm_machine.proofs.Letters.{letters_on, letters_stop}
use Rattle.hm_machine.specs.Ticked.{early_ended}
use Rattle.hm_machine.proofs.tick.do_letters.Goals as goal

pub returns-in-Err-clause-value : goal.returns-in-Err-clause-value
returns-in-Err-clause-value g c listing s is sound =
    let step = c.in-Err.ensures.value listing s (listed_still c.loop-l.invariant.moves listing is) (c.loop-l.invariant.sound s sound) in
    letters_stop listing s c.loop-l.l-index c.loop-l.step c.args.letters.now (nested_of c.loop-l.x) c.loop-l-test.true c.loop-l.invariant.counted
    (early_ended c.in-Err.early (nested_of c.letter_at.new.x)) step
    ∙ c.loop-l.invariant.value listing s is sound

pub returns-in-Err-clause-moves : goal.returns-in-Err-clause-moves
returns-in-Err-clause-moves g c = moves_then c.loop-l.invariant.moves c.in-Err.ensures.moves

pub loop-l-preserved : goal.loop-l-preserved
loop-l-preserved g c = record {
  value = λ listing s is sound.
      letters_on listing s c.loop-l.l-index c.loop-l.step c.args.letters.now (nested_of c.loop-l.x) c.loop-l-test.true c.loop-l.invariant.counted
      (nested_of c.letter_at.new.x)
      (c.in_default.ensures.value listing s (listed_still c.loop-l.invariant.moves listing is) (c.loop-l.invariant.sound s sound))
      ∙ c.loop-l.invariant.value listing s is sound;
  sound = λ s sound. c.in_default.ensures.sound s (c.loop-l.invariant.sound s sound);
  some = (c.loop-l.invariant.some.0, c.in_default.ensures.sound c.loop-l.invariant.some.0 c.loop-l.invariant.some.1);
  moves = moves_then c.loop-l.invariant.moves c.in_default.ensures.moves;
  position = c.in_default.ensures.position;
  counted = ap (λ (n : ℕ). n + 1) c.loop-l.invariant.counted;
  retired =
      let before = c.loop-l.invariant.retired in
      let count = c.in_default.ensures.count.0 in
      omega (arith, before, count);
  steps =
      let before = c.loop-l.invariant.steps in
      let count = c.in_default.ensures.count.1 in
      omega (arith, before, count);
}
