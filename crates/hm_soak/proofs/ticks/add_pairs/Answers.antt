use Rattle.std.proofs.Common.{◌≡◌, ℕ, ◌∙◌, ap, arith}
use Rattle.hm_soak.specs.Lines.{with_lines}
use Rattle.hm_soak_laws.specs.Schedule.{pairs}
use Rattle.hm_soak.proofs.Lines.{paired_next, paired_none}
use Rattle.hm_soak.proofs.ticks.add_pairs.Goals as goal

pub loop-k-init : goal.loop-k-init
loop-k-init c = paired_none c.args.lines.now

pub add_pair-requires : goal.add_pair-requires
add_pair-requires c =
    let few = c.loop-k.invariant.few in
    let before = c.requires.room in
    record { room = omega arith }

pub loop-k-preserved : goal.loop-k-preserved
loop-k-preserved c = paired_next c.args.lines.now c.loop-k.k c.loop-k.lines c.add_pair.new.lines c.loop-k.invariant c.in_ok-add_pair.ensures.added

pub returns-clause-added : goal.returns-clause-added
returns-clause-added c =
    let e : c.loop-k.k ≡ 4095 = omega arith in
    c.loop-k.invariant.lines ∙ ap (λ (n : ℕ). with_lines (pairs n 1) c.args.lines.now) e

pub returns-clause-few : goal.returns-clause-few
returns-clause-few c =
    let few = c.loop-k.invariant.few in
    let before = c.requires.room in
    omega arith
