-- The rows of this family.
use Rattle.std.specs.Prelude.{Bool, true, false}
use Rattle.hm_isa.specs.declared.Vector.{Vector}
use Rattle.hm_isa.specs.declared.Vector.TheVariants.{V26, V27}

-- V26 and V27: whether a row is of this family (VLDRB, VLDRH, VLDRW, VSTRB, VSTRH and VSTRW at offsets in a vector, VLDRW and VSTRW at addresses)
-- (DDI0553, "VLDRB, VLDRH, VLDRW, VLDRD (vector)" and "VSTRB, VSTRH, VSTRW, VSTRD (vector)")
abbrev pub is_gather : Vector → Bool
is_gather (V26 i) = true
is_gather (V27 i) = true
is_gather v = false
