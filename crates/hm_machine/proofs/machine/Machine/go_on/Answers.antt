use Rattle.std.proofs.Common.{◌≡◌, ◌<◌, ℕ, arith, subst}
use Rattle.hm_machine.proofs.Passing.{Going, all_done, ended_by, ended_early, none_done, one_more, running_by}
use Rattle.hm_machine.proofs.machine.Machine.go_on.Goals as goal

pub loop-k-init : goal.loop-k-init
loop-k-init g c = record { going = none_done _ }

pub loop-k-preserved : goal.loop-k-preserved
loop-k-preserved g c =
    let did = c.in_default.ensures in record {
      going = one_more c.loop-k._k c.args.self.now c.loop-k.self c.tick_with.new.self c.loop-k.invariant.going did.shows did.ended did.fewer did.once
          did.out did.fixed (running_by _ did.turn);
    }

pub returns-in-Ended : goal.returns-in-Ended
returns-in-Ended g c =
    let did = c.in-Ended.ensures in
    let within : c.loop-k._k < c.args.count = omega (arith, c.loop-k-test.true) in record {
      passes = ended_early c.loop-k._k c.args.self.now c.loop-k.self c.tick_with.new.self c.loop-k.invariant.going did.shows did.ended did.fewer did.once
          did.out did.fixed c.args.count c.in-Ended.field-0 within (ended_by _ c.in-Ended.field-0 did.turn);
    }

pub returns : goal.returns
returns g c =
    let all : c.loop-k._k ≡ c.args.count = omega arith in
    let going = subst (λ (n : ℕ). Going n c.args.self.now c.loop-k.self) all c.loop-k.invariant.going in
    record { passes = all_done c.args.count c.args.self.now c.loop-k.self going }
