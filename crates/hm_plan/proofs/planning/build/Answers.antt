use Rattle.std.proofs.Common.{◌≡◌, arith, true, sym, ◌∙◌, ap, []}
use Rattle.hm_base.specs.Image.{flash_byte}
use Rattle.hm_codes.proofs.Exists.{exists}
use Rattle.hm_machine.specs.Shown.{run_of}
use Rattle.hm_plan.proofs.Growing.{all_lined, first_follow, nothing_lined}
use Rattle.hm_plan_laws.specs.Planned.{is_over}
use Rattle.hm_run_laws.specs.Runs.{Run}
use Rattle.hm_plan.proofs.planning.build.Goals as goal

-- THE END, at once
pub returns-then-is_over-clause-planned : goal.returns-then-is_over-clause-planned
returns-then-is_over-clause-planned c = λ listing is.
    let over : is_over c.args.n (run_of c.in_ok-machine.machine []) ≡ true = sym c.is_over.ensures.value ∙ c.if-is_over.true in
    nothing_lined listing c.args.image.now c.args.n c.begin-schedule.result (run_of c.in_ok-machine.machine []) (c.in_ok-machine.ensures.shows.now listing is)
    over c.begin-schedule.ensures.made

-- THE FIRST TICK
pub go_on-kind-requires-clause-goes : goal.go_on-kind-requires-clause-goes
go_on-kind-requires-clause-goes c = sym c.is_over.ensures.value ∙ c.if-is_over.false

pub go_on-kind-requires-clause-ticks : goal.go_on-kind-requires-clause-ticks
go_on-kind-requires-clause-ticks c =
    let there = exists (flash_byte c.args.image.now) in
    let none : c.in_ok-machine.machine.ticks ≡ 0 = ap (λ (x : Run). x.ticks) (c.in_ok-machine.ensures.shows.now there.0 there.1) in
    omega (arith, none)

pub fill-requires-clause-follow : goal.fill-requires-clause-follow
fill-requires-clause-follow c = (
  c.args.image.now,
  first_follow c.args.image.now c.args.n c.begin-schedule.result c.go_on-kind.result c.in_ok-machine.machine c.go_on-kind.new.machine
      c.in_ok-machine.ensures.shows (sym c.is_over.ensures.value ∙ c.if-is_over.false) c.begin-schedule.ensures.made
      c.go_on-kind.ensures.value c.go_on-kind.ensures.next c.go_on-kind.ensures.flash c.go_on-kind.ensures.bare,
)

-- AND ALL OTHERS
pub write-requires : goal.write-requires
write-requires c =
    let first = first_follow c.args.image.now c.args.n c.begin-schedule.result c.go_on-kind.result c.in_ok-machine.machine c.go_on-kind.new.machine
    c.in_ok-machine.ensures.shows (sym c.is_over.ensures.value ∙ c.if-is_over.false) c.begin-schedule.ensures.made
    c.go_on-kind.ensures.value c.go_on-kind.ensures.next c.go_on-kind.ensures.flash c.go_on-kind.ensures.bare in
    let held = c.in_ok-fill.ensures.follow c.args.image.now first in
    let count = held.count in
    let most = held.most in
    let small = c.requires.few in
    record { some = held.some; room = omega (arith, count, most, small) }

pub returns-clause-planned : goal.returns-clause-planned
returns-clause-planned c = λ listing is.
    let first = first_follow c.args.image.now c.args.n c.begin-schedule.result c.go_on-kind.result c.in_ok-machine.machine c.go_on-kind.new.machine
    c.in_ok-machine.ensures.shows (sym c.is_over.ensures.value ∙ c.if-is_over.false) c.begin-schedule.ensures.made
    c.go_on-kind.ensures.value c.go_on-kind.ensures.next c.go_on-kind.ensures.flash c.go_on-kind.ensures.bare in
    let lines = c.fill.new.lines in
    let held = c.in_ok-fill.ensures.follow c.args.image.now first in
    all_lined listing c.args.image.now c.args.n lines.schedule c.write.new.self.schedule lines.count lines.kind (run_of c.fill.new.machine [])
    (held.stands listing is) c.in_ok-fill.ensures.over held.head c.in_ok-write.ensures.lines
