-- Instructions that are made of their fields are of the kinds that they are meant to be.
use Rattle.std.proofs.Common.{◌≡◌, ℕ, refl}
use Rattle.hm_isa.specs.declared.Branch.TheVariants as branch
use Rattle.hm_isa.specs.declared.Instr.TheVariants as instr
use Rattle.hm_isa.specs.declared.Scalar.TheVariants as scalar
use Rattle.hm_isa.specs.declared.Vector.TheVariants as vector
use Rattle.hm_isa.specs.declared.jumps.LoopEnd.{LoopEnd}
use Rattle.hm_isa.specs.declared.jumps.LoopEndName.TheVariants as loop_end
use Rattle.hm_isa.specs.declared.jumps.T23.TheVariants as t23
use Rattle.hm_isa.specs.declared.jumps.Wlstp.{Wlstp}
use Rattle.hm_isa.specs.declared.memory.V24.{V24}
use Rattle.hm_isa.specs.declared.narrow.S6.{S6}
use Rattle.hm_kernel_lang.specs.declared.text.ElementType.{ElementType}
use Rattle.hm_kernel_lang.specs.Machine.{size_code}
use Rattle.hm_kernel_instrs.specs.Instructions.{IsAgainRow, IsBeginRow, IsMoveRow, IsSumRow}

pub sum_made : (row : S6) (d m : ℕ) → row.d.value ≡ d → row.m.value ≡ m → IsSumRow d m (instr.Scalar (scalar.S6 row))
sum_made row d m e f = record { row = row; is = refl; d_is = e; m_is = f }

pub move_made : (row : V24) (t : ElementType) (l d n : ℕ) → row.p.value ≡ 1 → row.a.value ≡ 1 → row.w.value ≡ 0 → row.l.value ≡ l → row.n.value ≡ n
    → row.d.value ≡ d → row.z.value ≡ size_code t → row.i.value ≡ 0
    → IsMoveRow t l d n (instr.Vector (vector.V24 row))
move_made row t l d n p a w k m e z i = record { row = row; is = refl; p_is = p; a_is = a; w_is = w; i_is = i; l_is = k; z_is = z; d_is = e; n_is = m }

pub begin_made : (row : Wlstp) (t : ElementType) (h : ℕ) → row.z.value ≡ size_code t → row.n.value ≡ 6 → row.v.value ≡ h
    → IsBeginRow t h (instr.Branch (branch.T23 (t23.Wlstp row)))
begin_made row t h z n v = record { row = row; is = refl; z_is = z; n_is = n; v_is = v }

pub again_made : (row : LoopEnd) (h : ℕ) → row.name ≡ loop_end.Letp → row.v.value ≡ h → IsAgainRow h (instr.Branch (branch.T23 (t23.End row)))
again_made row h n v = record { row = row; is = refl; name_is = n; v_is = v }
