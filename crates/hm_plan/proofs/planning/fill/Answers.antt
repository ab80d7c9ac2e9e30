use Rattle.std.proofs.Common.{◌-◌, ◌*◌, ◌<◌, arith, sym, ◌∙◌}
use Rattle.hm_plan.proofs.Growing.{fewer, next_follow, one_more}
use Rattle.hm_plan.proofs.planning.fill.Goals as goal

pub loop-machine-init : goal.loop-machine-init
loop-machine-init c = record { follow = λ image held. held }

pub go_on-kind-requires-clause-bare : goal.go_on-kind-requires-clause-bare
go_on-kind-requires-clause-bare c = (c.loop-machine.invariant.follow c.requires.follow.0 c.requires.follow.1).made

pub go_on-kind-requires-clause-goes : goal.go_on-kind-requires-clause-goes
go_on-kind-requires-clause-goes c = sym c.is_over.ensures.value ∙ c.loop-machine-test.true

pub go_on-kind-requires-clause-ticks : goal.go_on-kind-requires-clause-ticks
go_on-kind-requires-clause-ticks c =
    let image = c.requires.follow.0 in
    let on = sym c.is_over.ensures.value ∙ c.loop-machine-test.true in
    let less = fewer image c.args.n c.loop-machine.lines c.loop-machine.machine (c.loop-machine.invariant.follow image c.requires.follow.1) on in
    let small = c.requires.few in
    omega (arith, less, small)

pub push-requires-clause-some : goal.push-requires-clause-some
push-requires-clause-some c = (c.loop-machine.invariant.follow c.requires.follow.0 c.requires.follow.1).some

-- while it is not over fewer ticks were done than a plan may have
pub push-requires-clause-room : goal.push-requires-clause-room
push-requires-clause-room c =
    let image = c.requires.follow.0 in
    let on = sym c.is_over.ensures.value ∙ c.loop-machine-test.true in
    let held = c.loop-machine.invariant.follow image c.requires.follow.1 in
    let less = fewer image c.args.n c.loop-machine.lines c.loop-machine.machine held on in
    let count = held.count in
    let small = c.requires.few in
    omega (arith, less, count, small)

pub loop-machine-smaller : goal.loop-machine-smaller
loop-machine-smaller c =
    let n = c.args.n in
    let image = c.requires.follow.0 in
    let m = c.loop-machine.machine in
    let on = sym c.is_over.ensures.value ∙ c.loop-machine-test.true in
    let held = c.loop-machine.invariant.follow image c.requires.follow.1 in
    let ticks = one_more image n m c.go_on-kind.new.machine held.flash on c.go_on-kind.ensures.next in
    let less = fewer image n c.loop-machine.lines m held on in
    let left : 4 * n - c.go_on-kind.new.machine.ticks < 4 * n - m.ticks = omega (arith, ticks, less) in
    left

pub loop-machine-preserved : goal.loop-machine-preserved
loop-machine-preserved c = record {
  follow = λ image held.
      next_follow image c.args.n c.loop-machine.lines c.push.new.self c.go_on-kind.result c.loop-machine.machine c.go_on-kind.new.machine
      (c.loop-machine.invariant.follow image held) (sym c.is_over.ensures.value ∙ c.loop-machine-test.true)
      c.go_on-kind.ensures.value c.go_on-kind.ensures.next c.go_on-kind.ensures.flash c.go_on-kind.ensures.bare
      c.in_ok-push.ensures.lines c.in_ok-push.ensures.total c.in_ok-push.ensures.some c.in_ok-push.ensures.kept;
}
