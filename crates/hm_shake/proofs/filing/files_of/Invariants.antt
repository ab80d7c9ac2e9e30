use Rattle.std.proofs.Common.{◌++◌, List, drop}
use Rattle.std.specs.List.{All}
use Rattle.hm_base.specs.Image.{Segment, flash_byte}
use Rattle.hm_codes.specs.Listing.{IsListing, Listing}
use Rattle.hm_shake.specs.Findings.{AreFiled, IsFiled, IsFoundIn}
use Rattle.hm_shake.specs.Repeats.{Repeats}
use Rattle.hm_shake.specs.declared.filing.Written.{Written}
use Rattle.hm_shake.proofs.filing.files_of.Given as goal

-- files of the kinds that are left, behind those so far, are files of all kinds
abbrev pub invariant-loop-found : goal.invariant-loop-found
invariant-loop-found g l = record {
  again : (image : List Segment) → Repeats image l.given.head l.fn.repeater → Repeats image l.given.head l.repeater;
  files : (image : List Segment) (listing : Listing) → IsListing (flash_byte image) listing → Repeats image l.given.head l.fn.repeater
      → All (IsFoundIn listing image l.given.plan l.given.head l.given.irqs.items) l.kinds
      → (rest : List Written)
      → AreFiled (IsFiled listing image l.given.plan l.given.head l.given.irqs.items) l.plain (drop l.found-index l.kinds) rest
      → AreFiled (IsFiled listing image l.given.plan l.given.head l.given.irqs.items) l.plain l.kinds (l.files.items ++ rest);
}
