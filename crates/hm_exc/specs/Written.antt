-- The memory while the bytes of a frame are written.
use Rattle.std.specs.Prelude.{ℕ, ◌-◌, true, if◌then◌else◌, slice_index}
use Rattle.hm_exc.specs.declared.types.Activation.{Activation}
use Rattle.hm_mem.specs.Seen.{Seen, covers}

-- the first `count` of them are written, and tainted
abbrev pub written : Activation → ℕ → Seen → Seen
written x count s = record {
  byte = λ a. if covers x.frame count a then slice_index x.bytes (a - x.frame) else s.byte a;
  taint = λ a. if covers x.frame count a then true else s.taint a;
  devices = s.devices;
}
