-- The codes of vector rows have 32 bits.
use Rattle.std.proofs.Common.{◌<◌, ◌^◌, refl}
use Rattle.hm_isa.specs.declared.Vector.{Vector}
use Rattle.hm_isa.specs.Code.{vector_code}
use Rattle.hm_layout.proofs.Lengths.{below_32, has_32, kind_passes}
use Rattle.hm_codes.proofs.Vectors.{coded_vector}

pub code_below : (v : Vector) → vector_code v < 2 ^ 32
code_below v =
    let (k, m, h) = coded_vector.has refl v in
    below_32 k.bits (vector_code v) (kind_passes has_32 k coded_vector.kinds refl m) h.bits
