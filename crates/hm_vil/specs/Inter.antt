-- The rows of this family.
use Rattle.std.specs.Prelude.{Bool, true, false}
use Rattle.hm_isa.specs.declared.Vector.{Vector}
use Rattle.hm_isa.specs.declared.Vector.TheVariants.{V28}

-- V28: whether a row is of this family (VLD20, VLD21, VLD40, VLD41, VLD42, VLD43, VST20, VST21, VST40, VST41, VST42 and VST43)
-- (DDI0553, "VLD2", "VLD4", "VST2" and "VST4")
abbrev pub is_inter : Vector → Bool
is_inter (V28 i) = true
is_inter v = false
