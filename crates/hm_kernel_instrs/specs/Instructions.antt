-- The instructions that the code of an array text is made of.
use Rattle.std.specs.Prelude.{◌≡◌, ℕ, ◌+◌, ◌*◌, ◌≤◌, cond, List}
use Rattle.std.specs.List.{AllZip}
use Rattle.hm_code_bytes.specs.Instructions.{IsAddRow, IsBitwiseRow, IsBreakpointRow, IsByteRow, IsDuplicateRow, IsHalfRow, IsSignedRow}
use Rattle.hm_isa.specs.declared.Instr.{Instr}
use Rattle.hm_isa.specs.declared.Instr.TheVariants as instr
use Rattle.hm_isa.specs.declared.Scalar.TheVariants as scalar
use Rattle.hm_isa.specs.declared.Branch.TheVariants as branch
use Rattle.hm_isa.specs.declared.Vector.TheVariants as vector
use Rattle.hm_isa.specs.declared.narrow.S6.{S6}
use Rattle.hm_isa.specs.declared.narrow.ByteName.TheVariants as byte
use Rattle.hm_isa.specs.declared.data.HalfName.TheVariants as half
use Rattle.hm_isa.specs.declared.jumps.Wlstp.{Wlstp}
use Rattle.hm_isa.specs.declared.jumps.LoopEnd.{LoopEnd}
use Rattle.hm_isa.specs.declared.jumps.LoopEndName.TheVariants as loop_end
use Rattle.hm_isa.specs.declared.jumps.T23.TheVariants as t23
use Rattle.hm_isa.specs.declared.memory.V24.{V24}
use Rattle.hm_isa.specs.declared.vectors.Element.{Element}
use Rattle.hm_isa.specs.declared.vectors.Element.TheVariants as element
use Rattle.hm_isa.specs.declared.vectors.AddName.TheVariants as add
use Rattle.hm_isa.specs.declared.vectors.BitwiseName.TheVariants as bitwise
use Rattle.hm_isa.specs.declared.vectors.SignedName.TheVariants as signed
use Rattle.hm_kernel_lang.specs.declared.text.ElementType.{ElementType}
use Rattle.hm_kernel_lang.specs.declared.text.ElementType.TheVariants.{U8, S8, U16, S16, U32, S32}
use Rattle.hm_kernel_lang.specs.declared.text.Op.{Op}
use Rattle.hm_kernel_lang.specs.declared.text.Op.TheVariants as op
use Rattle.hm_kernel_lang.specs.Language.{is_signed}
use Rattle.hm_kernel_lang.specs.declared.machine.Item.{Item}
use Rattle.hm_kernel_lang.specs.declared.machine.Item.TheVariants.{Plain, Begin, Again, Stop}
use Rattle.hm_kernel_lang.specs.declared.machine.Kind.{Kind}
use Rattle.hm_kernel_lang.specs.declared.machine.Kind.TheVariants.{Clear, Low, High, LowLength, HighLength, Offset, Splat, Load, Store, Do, Further}
use Rattle.hm_kernel_lang.specs.Machine.{size_code}

-- S6: ADD rd,rm (DDI0553, "ADD (register)")
pub record IsSumRow (d m : ℕ) (i : Instr) : Type 0 where
  pub row : S6
  pub is : i ≡ instr.Scalar (scalar.S6 row)
  pub d_is : row.d.value ≡ d
  pub m_is : row.m.value ≡ m

-- the name of a type's size
abbrev pub element_name : ElementType → Element
element_name U8 = element.Bytes
element_name S8 = element.Bytes
element_name U16 = element.Halves
element_name S16 = element.Halves
element_name U32 = element.Words
element_name S32 = element.Words

-- V24: a load or a store of qd at [rn], of elements as they stand: VLDRB, VLDRH, VLDRW, VSTRB, VSTRH or VSTRW
-- (DDI0553, "VLDRB, VLDRH, VLDRW" and "VSTRB, VSTRH, VSTRW")
pub record IsMoveRow (t : ElementType) (l d n : ℕ) (i : Instr) : Type 0 where
  pub row : V24
  pub is : i ≡ instr.Vector (vector.V24 row)
  pub p_is : row.p.value ≡ 1
  pub a_is : row.a.value ≡ 1
  pub w_is : row.w.value ≡ 0
  pub i_is : row.i.value ≡ 0
  pub l_is : row.l.value ≡ l
  pub z_is : row.z.value ≡ size_code t
  pub d_is : row.d.value ≡ d
  pub n_is : row.n.value ≡ n

-- the instruction of an operation on registers q and q + 1 that leaves its result in q, of V1, V2 or V3: VADD, VSUB, VMUL, VMIN, VMAX, VAND,
-- VORR or VEOR (DDI0553, "VADD (vector)", "VSUB (vector)", "VMUL (vector)", "VMIN, VMINA", "VMAX, VMAXA", "VAND", "VORR" and "VEOR")
abbrev pub IsOperation : ElementType → Op → ℕ → Instr → Type 0
IsOperation t op.Add q i = IsAddRow (size_code t) add.Add q q (q + 1) i
IsOperation t op.Sub q i = IsAddRow (size_code t) add.Sub q q (q + 1) i
IsOperation t op.Mul q i = IsAddRow (size_code t) add.Mul q q (q + 1) i
IsOperation t op.Min q i = IsSignedRow (cond (is_signed t) 0 1) (size_code t) signed.Min q q (q + 1) i
IsOperation t op.Max q i = IsSignedRow (cond (is_signed t) 0 1) (size_code t) signed.Max q q (q + 1) i
IsOperation t op.And q i = IsBitwiseRow bitwise.And q q (q + 1) i
IsOperation t op.Or q i = IsBitwiseRow bitwise.Orr q q (q + 1) i
IsOperation t op.Xor q i = IsBitwiseRow bitwise.Eor q q (q + 1) i

-- T23: WLSTP lr,r6, forward by so many halfwords (DDI0553, "WLS, DLS, WLSTP, DLSTP")
pub record IsBeginRow (t : ElementType) (h : ℕ) (i : Instr) : Type 0 where
  pub row : Wlstp
  pub is : i ≡ instr.Branch (branch.T23 (t23.Wlstp row))
  pub z_is : row.z.value ≡ size_code t
  pub n_is : row.n.value ≡ 6
  pub v_is : row.v.value ≡ h

-- T23: LETP lr, back by so many halfwords (DDI0553, "LE, LETP")
pub record IsAgainRow (h : ℕ) (i : Instr) : Type 0 where
  pub row : LoopEnd
  pub is : i ≡ instr.Branch (branch.T23 (t23.End row))
  pub name_is : row.name ≡ loop_end.Letp
  pub v_is : row.v.value ≡ h

-- an instruction is of a kind
abbrev pub IsKind : ElementType → Kind → Instr → Type 0
IsKind t Clear i = IsByteRow byte.Mov 4 0 i
IsKind t (Low n) i = IsHalfRow half.Movw 5 n i
IsKind t (High n) i = IsHalfRow half.Movt 5 n i
IsKind t (LowLength n) i = IsHalfRow half.Movw 6 n i
IsKind t (HighLength n) i = IsHalfRow half.Movt 6 n i
IsKind t Offset i = IsSumRow 5 4 i
IsKind t (Splat q) i = IsDuplicateRow (element_name t) q 5 i
IsKind t (Load q) i = IsMoveRow t 1 q 5 i
IsKind t (Store q) i = IsMoveRow t 0 q 5 i
IsKind t (Do o q) i = IsOperation t o q i
IsKind t Further i = IsByteRow byte.Add 4 16 i

-- an instruction is that of an item: of a kind, the begin or the end of a loop, or the stop
abbrev pub IsItem : ElementType → Item → Instr → Type 0
IsItem t (Plain k) i = IsKind t k i
IsItem t (Begin h) i = IsBeginRow t h i
IsItem t (Again h) i = IsAgainRow h i
IsItem t Stop i = IsBreakpointRow 0 i

-- instructions are those of items, one of each
abbrev pub AreItems : ElementType → List Item → List Instr → Type 0
AreItems t = AllZip (IsItem t)

-- a branch forward stays in flash, and one backward does not go below 0
abbrev pub StaysIn : ℕ → Item → Type 0
StaysIn a (Plain k) = Unit {0}
StaysIn a (Begin h) = a + 4 + 2 * h ≤ 0x100000
StaysIn a (Again h) = 2 * h ≤ a + 4
StaysIn a Stop = Unit {0}
