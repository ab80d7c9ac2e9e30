use Rattle.std.proofs.Common.{◌≡◌, ◌+◌, ◌*◌, ◌≤◌, ◌^◌, List, length}
use Rattle.hm_base.specs.Image.{Segment}
use Rattle.hm_machine.specs.Shown.{Shows, fixed_of}
use Rattle.hm_machine.specs.Tapes.{AreApart, AreKept, first_of}
use Rattle.hm_sched.specs.Schedule.{Sched}
use Rattle.hm_machine.proofs.reel.filled.Given as goal

abbrev pub invariant-loop-k : goal.invariant-loop-k
invariant-loop-k l = record {
  many : length l.kept.items ≡ l._k;
  first : first_of l.kept.items l.machine.output l.machine ≡ l.initial.machine;
  kept : AreKept (fixed_of l.machine) l.machine.output l.kept.items;
  lie : AreApart l.initial.machine (fixed_of l.machine) l.machine.output l.apart l.kept.items;
  shows : (image : List Segment) (s : Sched) → Shows image s 0 l.initial.machine → Shows image s l.reached l.machine;
  fixed : fixed_of l.machine ≡ fixed_of l.initial.machine;
  reached : l.reached + l.apart ≡ l._k * l.apart;
  small : l.reached ≤ l._k * 2 ^ 24;
  begun : l.reached ≤ l.machine.ticks;
}
