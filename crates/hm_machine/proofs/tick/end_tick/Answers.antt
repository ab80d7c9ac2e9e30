use Rattle.std.proofs.Common.{[], sym, ◌∙◌, subst}
use Rattle.hm_cpu.specs.Cpus.{nested_of}
use Rattle.hm_run_laws.proofs.Soundness.{counted_sound}
use Rattle.hm_run_laws.specs.Sound.{IsSound}
use Rattle.hm_machine.proofs.Ends.{counted_nested, ends_picked, ends_quiet}
use Rattle.hm_machine.proofs.Ticks.{may_end_well}
use Rattle.hm_sched.specs.Schedule.{TickLine}
use Rattle.hm_window.specs.Positions.{may_end}
use Rattle.std.proofs.Common.{refl}
use Rattle.hm_mem.specs.Memory.{memory_of}
use Rattle.hm_machine.proofs.tick.end_tick.Goals as goal

pub returns-then-not-may_enter-clause-value : goal.returns-then-not-may_enter-clause-value
returns-then-not-may_enter-clause-value c s line es may_enter irq count sound =
    let x = c.args.x.now in
    ends_quiet s line (nested_of x) c.args.tick es _ (may_end_well (may_end x.window.a x.window.b) _ _ (sym c.ending.ensures.value ∙ c.in_default.is))
    (may_enter ∙ c.if-not-may_enter.true)
    (counted_nested x (memory_of c.count_and_arrive.new.mem) c.args.irq.now line c.args.tick es irq c.count_and_arrive.ensures.value)

pub enter_picked-requires-clause-sound : goal.enter_picked-requires-clause-sound
enter_picked-requires-clause-sound c =
    let x = c.args.x.now in
    let s = c.requires.sound.0 in
    let line : TickLine = record { count = 0; letters = []; irq = c.args.irq.now } in (
      s,
      subst (IsSound s) (sym (counted_nested x (memory_of c.count_and_arrive.new.mem) c.args.irq.now line 0 [] refl c.count_and_arrive.ensures.value))
          (counted_sound s c.args.irq.now (nested_of x) c.requires.sound.1),
    )

pub returns-clause-value : goal.returns-clause-value
returns-clause-value c s line es may_enter irq count sound =
    let x = c.args.x.now in
    let counted = counted_nested x (memory_of c.count_and_arrive.new.mem) c.args.irq.now line c.args.tick es irq c.count_and_arrive.ensures.value in
    ends_picked s line (nested_of x) c.args.tick es _ c.enter_picked.result (nested_of c.enter_picked.new.x)
    (may_end_well (may_end x.window.a x.window.b) _ _ (sym c.ending.ensures.value ∙ c.in_default.is)) (may_enter ∙ c.if-not-may_enter.false) counted
    (c.enter_picked.ensures.value s es (subst (IsSound s) (sym counted) (counted_sound s line.irq (nested_of x) sound)))
