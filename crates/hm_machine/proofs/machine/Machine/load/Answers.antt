use Rattle.std.proofs.Common.{◌≡◌, arith, ap, inl}
use Rattle.std.specs.Prelude.{reverse}
use Rattle.hm_machine.proofs.Loads.{first_stands, first_length, running_ticks, shows_start, sound_start, odd_pc}
use Rattle.hm_machine.proofs.Plain.{shown_order, shown_position, shown_taint}
use Rattle.hm_mem.specs.Memory.{Around, memory_of, thread_under}
use Rattle.hm_run.specs.Timed.{bounds_of}
use Rattle.hm_sched.specs.Schedule.{most_irq}
use Rattle.hm_machine.proofs.machine.Machine.load.Goals as goal

pub invariant_of-result : goal.invariant_of-result
invariant_of-result c = record {
  capacity = c.in_ok-output.ensures.exact;
  bounds =
      let around : (memory_of c.in_ok-mem.mem).around ≡ thread_under (bounds_of c.args.s) =
      rw (← c.region-lo.ensures.start, ← c.region-lo.ensures.end, ← c.floor.ensures.value, ← c.process.ensures.value) c.in_ok-mem.ensures.around in
      ap (λ (x : Around). x.bounds) around;
  sound = λ none. sound_start c.args.image.now c.args.s (memory_of c.in_ok-mem.mem) c.flash_word-sp.result c.flash_word-pc.result c.start.result
      c.in_ok-output.output.items _
      c.in_ok-mem.ensures.flash c.in_ok-mem.ensures.bytes c.in_ok-mem.ensures.clean c.in_ok-mem.ensures.devices
      (rw (← c.region-lo.ensures.start, ← c.region-lo.ensures.end, ← c.floor.ensures.value, ← c.process.ensures.value) c.in_ok-mem.ensures.around)
      c.flash_word-sp.ensures c.flash_word-pc.ensures c.start.ensures c.in_ok-output.ensures.items (ap reverse c.new-2.ensures);
  position = λ none. (omega arith, omega arith, λ some. absurd (omega arith));
  running = λ none. inl (first_stands (most_irq c.args.s.format) c.args.s.lines c.region-lo.ensures.sound.each_line
      (running_ticks _ c.first_outcome-outcome.result none c.first_outcome-outcome.ensures.out));
  begun = λ none. first_length c.args.s.lines c.first_outcome-outcome.ensures.most;
  few = omega arith;
  entries = omega arith;
  retired = omega arith;
  steps = omega arith;
}

pub returns-clause-shows : goal.returns-clause-shows
returns-clause-shows c =
    shows_start c.args.image.now c.args.s (memory_of c.in_ok-mem.mem) c.flash_word-sp.result c.flash_word-pc.result c.start.result c.in_ok-output.output.items _
    c.first_outcome-outcome.result
    c.in_ok-mem.ensures.flash c.in_ok-mem.ensures.bytes c.in_ok-mem.ensures.clean c.in_ok-mem.ensures.devices
    (rw (← c.region-lo.ensures.start, ← c.region-lo.ensures.end, ← c.floor.ensures.value, ← c.process.ensures.value) c.in_ok-mem.ensures.around)
    c.flash_word-sp.ensures c.flash_word-pc.ensures c.start.ensures c.in_ok-output.ensures.items (ap reverse c.new-2.ensures)
    c.first_outcome-outcome.ensures.none c.first_outcome-outcome.ensures.out

pub returns-clause-odd : goal.returns-clause-odd
returns-clause-odd c = odd_pc c.args.image.now (memory_of c.in_ok-mem.mem) c.flash_word-pc.result c.in_ok-mem.ensures.flash c.flash_word-pc.ensures
    c.if-pc-eq0.false

pub returns-clause-order : goal.returns-clause-order
returns-clause-order c listing is = shown_order c.args.image.now c.args.s 0 _ (returns-clause-shows c) listing is

pub returns-clause-taint : goal.returns-clause-taint
returns-clause-taint c listing is = shown_taint c.args.image.now c.args.s 0 _ (returns-clause-shows c) listing is

pub returns-clause-position : goal.returns-clause-position
returns-clause-position c listing is = shown_position c.args.image.now c.args.s 0 _ (returns-clause-shows c) listing is
