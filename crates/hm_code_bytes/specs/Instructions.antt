-- Instructions of programs that are generated: the rows that they are, with their names, registers and numbers.
use Rattle.std.specs.Prelude.{◌≡◌, ℕ}
use Rattle.hm_isa.specs.declared.Instr.{Instr}
use Rattle.hm_isa.specs.declared.Instr.TheVariants as instr
use Rattle.hm_isa.specs.declared.Scalar.TheVariants as scalar
use Rattle.hm_isa.specs.declared.Vector.TheVariants as vector
use Rattle.hm_isa.specs.declared.data.T4.{T4}
use Rattle.hm_isa.specs.declared.data.HalfName.{HalfName}
use Rattle.hm_isa.specs.declared.narrow.S4.{S4}
use Rattle.hm_isa.specs.declared.narrow.S18.{S18}
use Rattle.hm_isa.specs.declared.narrow.ByteName.{ByteName}
use Rattle.hm_isa.specs.declared.vectors.AddName.{AddName}
use Rattle.hm_isa.specs.declared.vectors.BitwiseName.{BitwiseName}
use Rattle.hm_isa.specs.declared.vectors.Element.{Element}
use Rattle.hm_isa.specs.declared.vectors.SignedName.{SignedName}
use Rattle.hm_isa.specs.declared.vectors.V1.{V1}
use Rattle.hm_isa.specs.declared.vectors.V2.{V2}
use Rattle.hm_isa.specs.declared.vectors.V3.{V3}
use Rattle.hm_isa.specs.declared.vectors.V18.{V18}
use Rattle.hm_isa.specs.Words.{imm16}

-- S4: MOVS, CMP, ADDS or SUBS rd,#x, as the name says (DDI0553, "MOV (immediate)", "CMP (immediate)", "ADD (immediate)" and "SUB (immediate)")
pub record IsByteRow (name : ByteName) (d x : ℕ) (i : Instr) : Type 0 where
  pub row : S4
  pub is : i ≡ instr.Scalar (scalar.S4 row)
  pub name_is : row.name ≡ name
  pub d_is : row.d.value ≡ d
  pub x_is : row.i.value ≡ x

-- T4: MOVW or MOVT rd,#x, where four fields make the number (DDI0553, "MOV (immediate)" and "MOVT")
pub record IsHalfRow (name : HalfName) (d x : ℕ) (i : Instr) : Type 0 where
  pub row : T4
  pub is : i ≡ instr.Scalar (scalar.T4 row)
  pub name_is : row.name ≡ name
  pub d_is : row.d.value ≡ d
  pub x_is : imm16 row.i4.value row.i.value row.i3.value row.i8.value ≡ x

-- S18: BKPT #x (DDI0553, "BKPT")
pub record IsBreakpointRow (x : ℕ) (i : Instr) : Type 0 where
  pub row : S18
  pub is : i ≡ instr.Scalar (scalar.S18 row)
  pub x_is : row.i.value ≡ x

-- V18: VDUP qd,rt, of elements of a size (DDI0553, "VDUP")
pub record IsDuplicateRow (size : Element) (d t : ℕ) (i : Instr) : Type 0 where
  pub row : V18
  pub is : i ≡ instr.Vector (vector.V18 row)
  pub size_is : row.size ≡ size
  pub d_is : row.d.value ≡ d
  pub t_is : row.t.value ≡ t

-- V1: VADD, VSUB or VMUL qd,qn,qm, as the name says, of elements of 8 * 2^z bits (DDI0553, "VADD (vector)", "VSUB (vector)" and "VMUL (vector)")
pub record IsAddRow (z : ℕ) (name : AddName) (d n m : ℕ) (i : Instr) : Type 0 where
  pub row : V1
  pub is : i ≡ instr.Vector (vector.V1 row)
  pub name_is : row.name ≡ name
  pub z_is : row.z.value ≡ z
  pub d_is : row.d.value ≡ d
  pub n_is : row.n.value ≡ n
  pub m_is : row.m.value ≡ m

-- V2: VAND, VBIC, VORR, VORN or VEOR qd,qn,qm, as the name says (DDI0553, "VAND", "VBIC (register)", "VORR", "VORN" and "VEOR")
pub record IsBitwiseRow (name : BitwiseName) (d n m : ℕ) (i : Instr) : Type 0 where
  pub row : V2
  pub is : i ≡ instr.Vector (vector.V2 row)
  pub name_is : row.name ≡ name
  pub d_is : row.d.value ≡ d
  pub n_is : row.n.value ≡ n
  pub m_is : row.m.value ≡ m

-- V3: VMAX, VMIN, VABD, VHADD, VRHADD, VHSUB, VQADD or VQSUB qd,qn,qm, as the name says, of elements of 8 * 2^z bits, with a sign where u is 0
-- (DDI0553, "VMAX, VMAXA", "VMIN, VMINA", "VABD", "VHADD", "VRHADD", "VHSUB", "VQADD" and "VQSUB")
pub record IsSignedRow (u z : ℕ) (name : SignedName) (d n m : ℕ) (i : Instr) : Type 0 where
  pub row : V3
  pub is : i ≡ instr.Vector (vector.V3 row)
  pub name_is : row.name ≡ name
  pub u_is : row.u.value ≡ u
  pub z_is : row.z.value ≡ z
  pub d_is : row.d.value ≡ d
  pub n_is : row.n.value ≡ n
  pub m_is : row.m.value ≡ m
