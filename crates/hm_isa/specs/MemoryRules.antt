-- The rules that tie the letters of the rows V24 to V28 together.
use Rattle.std.specs.Prelude.{ℕ, ◌+◌, Bool, ◌&&◌, ◌||◌, not, nat_eq, nat_le, nat_lt, if◌then◌else◌}

-- V24: VLDRB, VLDRH, VLDRW, VSTRB, VSTRH and VSTRW have an offset or writeback; the base is not pc
-- (DDI0553, "VLDRB, VLDRH, VLDRW" and "VSTRB, VSTRH, VSTRW")
abbrev pub is_contiguous : ℕ → ℕ → ℕ → Bool
is_contiguous p w n = nat_lt 0 (p + w) && not (nat_eq n 15)

-- V25: VLDRB, VLDRH, VSTRB and VSTRH have an offset or writeback; elements are narrower in memory; a store has no sign
-- (DDI0553, "VLDRB, VLDRH, VLDRW" and "VSTRB, VSTRH, VSTRW")
abbrev pub is_widening : ℕ → ℕ → ℕ → ℕ → ℕ → ℕ → Bool
is_widening u p w l h z = nat_lt 0 (p + w) && nat_lt h z && (nat_eq l 1 || nat_eq u 0)

-- V26: the base of VLDRB, VLDRH, VLDRW, VSTRB, VSTRH and VSTRW is not pc; elements are no wider in memory, and bytes there have no scale
-- (DDI0553, "VLDRB, VLDRH, VLDRW, VLDRD (vector)" and "VSTRB, VSTRH, VSTRW, VSTRD (vector)")
abbrev pub is_at_offsets : ℕ → ℕ → ℕ → ℕ → Bool
is_at_offsets n z y o = not (nat_eq n 15) && nat_le y z && (nat_eq o 0 || nat_lt 0 y)

-- V26: VLDRB, VLDRH and VLDRW do not overwrite their offsets, and have a sign only where they widen; VSTRB, VSTRH and VSTRW have none
-- (DDI0553, "VLDRB, VLDRH, VLDRW, VLDRD (vector)" and "VSTRB, VSTRH, VSTRW, VSTRD (vector)")
abbrev pub is_access : ℕ → ℕ → ℕ → ℕ → ℕ → ℕ → Bool
is_access u l d z y m = if nat_eq l 1 then not (nat_eq d m) && (nat_lt y z || nat_eq u 1) else nat_eq u 0

-- V27: VLDRW does not overwrite its addresses; VSTRW may store its own
-- (DDI0553, "VLDRB, VLDRH, VLDRW, VLDRD (vector)" and "VSTRB, VSTRH, VSTRW, VSTRD (vector)")
abbrev pub is_at_addresses : ℕ → ℕ → ℕ → Bool
is_at_addresses l m d = nat_eq l 0 || not (nat_eq d m)

-- V28: the base of VLD20, VLD21, VLD40, VLD41, VLD42, VLD43, VST20, VST21, VST40, VST41, VST42 and VST43 is not pc; two registers have two parts,
-- and none is past the last (DDI0553, "VLD2", "VLD4", "VST2" and "VST4")
abbrev pub is_interleaved : ℕ → ℕ → ℕ → ℕ → Bool
is_interleaved n d p f = not (nat_eq n 15) && (if nat_eq f 1 then nat_le d 4 else nat_lt p 2 && nat_le d 6)
