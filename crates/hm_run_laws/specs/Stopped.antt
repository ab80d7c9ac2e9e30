-- Instructions in order that have stopped.
use Rattle.std.specs.Prelude.{◌≡◌, ◌+◌, List}
use Rattle.hm_base.specs.Image.{Segment}
use Rattle.hm_codes.specs.Listing.{Listing}
use Rattle.hm_run.specs.InOrder.{InOrder, Running, Halted, Full, Faulted, in_order}

-- What stopped the instructions in order did so at its own number: instruction k halts, or has no room for its output, as
-- the k-th; a fault after k instructions is that of the next.
abbrev pub StaysStopped : Listing → List Segment → InOrder → Type 0
StaysStopped listing image (Running s) = Unit {0}
StaysStopped listing image (Halted reason k s) = in_order listing image k ≡ Halted reason k s
StaysStopped listing image (Full k s) = in_order listing image k ≡ Full k s
StaysStopped listing image (Faulted kind pc addr k) = in_order listing image (k + 1) ≡ Faulted kind pc addr k

-- something stopped the instructions in order
abbrev pub HasStopped : InOrder → Type 0
HasStopped (Running s) = ⊥
HasStopped (Halted reason k s) = Unit {0}
HasStopped (Full k s) = Unit {0}
HasStopped (Faulted kind pc addr k) = Unit {0}
