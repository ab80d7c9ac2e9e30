use Rattle.std.proofs.Common.{◌≡◌, ◌+◌, ◌*◌, ◌≤◌, drop}
use Rattle.hm_codes.specs.Listing.{Listing, IsListing}
use Rattle.hm_cpu.specs.Cpus.{nested_of, IsPosition, IsSoundUnder, IsSoundUnderSome, KeepsFlash}
use Rattle.hm_run_laws.specs.Nested.{letters}
use Rattle.hm_mem.specs.Memory.{memory_of, flash_at}
use Rattle.hm_sched.specs.Schedule.{Sched}
use Rattle.hm_machine.proofs.tick.do_letters.Given as goal

abbrev pub invariant-loop-l : goal.invariant-loop-l
invariant-loop-l g l = record {
  value : (listing : Listing) (s : Sched) → IsListing (flash_at (memory_of l.initial.x.mem)) listing → IsSoundUnder s l.initial.x
      → letters listing s l.l-index (drop l.l-index l.letters) (nested_of l.x) ≡ letters listing s 0 l.letters (nested_of l.initial.x);
  sound : (s : Sched) → IsSoundUnder s l.initial.x → IsSoundUnder s l.x;
  some : IsSoundUnderSome l.x;
  moves : KeepsFlash l.initial.x l.x;
  position : IsPosition l.x;
  counted : l.step ≡ l.l-index;
  retired : l.x.retired ≤ l.initial.x.retired + 4 * l.l-index;
  steps : l.x.older_steps ≤ l.initial.x.older_steps + 4 * l.l-index;
}
