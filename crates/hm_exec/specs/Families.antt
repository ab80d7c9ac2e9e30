-- The row of an instruction of any family.
use Rattle.hm_isa.specs.declared.Vector.{Vector}
use Rattle.hm_exec.specs.declared.families.Any.{Any}
use Rattle.hm_exec.specs.declared.families.Any.TheVariants.{Arith, Wide, Reduce, Perm, Compare, Straight, Gather, Inter}

-- the vector row that an instruction of a family is
abbrev pub row_of : Any → Vector
row_of (Arith x) = x.row
row_of (Wide x) = x.row
row_of (Reduce x) = x.row
row_of (Perm x) = x.row
row_of (Compare x) = x.row
row_of (Straight x) = x.row
row_of (Gather x) = x.row
row_of (Inter x) = x.row
