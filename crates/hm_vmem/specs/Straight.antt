-- The rows of this family.
use Rattle.std.specs.Prelude.{Bool, true, false}
use Rattle.hm_isa.specs.declared.Vector.{Vector}
use Rattle.hm_isa.specs.declared.Vector.TheVariants.{V24, V25}

-- V24 and V25: whether a row is of this family (VLDRB, VLDRH, VLDRW, VSTRB, VSTRH and VSTRW of elements one after another)
-- (DDI0553, "VLDRB, VLDRH, VLDRW" and "VSTRB, VSTRH, VSTRW")
abbrev pub is_straight : Vector → Bool
is_straight (V24 i) = true
is_straight (V25 i) = true
is_straight v = false
