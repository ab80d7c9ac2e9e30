use Rattle.std.proofs.Common.{◌≡◌, ℕ, ◌+◌, ◌-◌, ◌*◌, arith, subst, sym}
use Rattle.hm_machine.proofs.Reels.{found}
use Rattle.hm_machine.specs.Shown.{Shown, Shows}
use Rattle.hm_machine.proofs.reel.bring.Goals as goal

pub returns-then-place-tick-clause-shows : goal.returns-then-place-tick-clause-shows
returns-then-place-tick-clause-shows c start lie at image s h =
    let sum : c.args.place + (c.args.tick - c.args.place) ≡ c.args.tick = omega arith in
    subst (λ (u : ℕ). Shows image s u c.pass.new.self) sum (c.pass.ensures.shows image s c.args.place (at image s h))

pub back-requires : goal.back-requires
back-requires c =
    let near = c.nearest-near.ensures.below in
    let len = c.len.ensures in
    record {
      kept = (c.requires.kept c.nearest-near.result c.index-checkpoint.result.now
          (found c.args.kept.now.items c.nearest-near.result c.index-checkpoint.result.now (omega (arith, near, len)) c.index-checkpoint.ensures)).1;
    }

pub returns-clause-shows : goal.returns-clause-shows
returns-clause-shows c start lie at image s h =
    let near = c.nearest-near.ensures.below in
    let before = c.nearest-near.ensures.before in
    let len = c.len.ensures in
    let from = c.nearest-near.result * c.args.apart in
    let there = lie c.nearest-near.result c.index-checkpoint.result.now
    (found c.args.kept.now.items c.nearest-near.result c.index-checkpoint.result.now (omega (arith, near, len)) c.index-checkpoint.ensures) image s h in
    let back : Shows image s (c.nearest-near.result * c.args.apart) c.back.new.self =
    subst (λ (m : Shown). Shows image s (c.nearest-near.result * c.args.apart) m) (sym c.back.ensures.shows) there in
    let sum : c.nearest-near.result * c.args.apart + (c.args.tick - c.nearest-near.result * c.args.apart) ≡ c.args.tick = omega (arith, before) in
    subst (λ (u : ℕ). Shows image s u c.pass-2.new.self) sum (c.pass-2.ensures.shows image s (c.nearest-near.result * c.args.apart) back)
