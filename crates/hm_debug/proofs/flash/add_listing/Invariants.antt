use Rattle.std.proofs.Common.{◌≡◌, ◌-◌, ◌%◌, ◌≤◌, ◌++◌}
use Rattle.hm_base.specs.Image.{flash_size}
use Rattle.hm_codes.specs.Listing.{IsListing, Listing}
use Rattle.hm_debug.specs.Lines.{listing_lines}
use Rattle.hm_mem.specs.Memory.{flash_at}
use Rattle.hm_debug.proofs.flash.add_listing.Given as goal

abbrev pub invariant-lines : goal.invariant-lines
invariant-lines l = record {
  even : l.at % 2 ≡ 0;
  within : l.at ≤ flash_size;
  left : (listing : Listing) → IsListing (flash_at l.machine.memory) listing
      → l.out.items ++ listing_lines (flash_at l.machine.memory) listing l.at (l.count - l._line)
      ≡ l.initial.out.items ++ listing_lines (flash_at l.machine.memory) listing l.addr l.count;
}
