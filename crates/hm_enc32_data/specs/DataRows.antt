-- The numbers that are no code of the rows T1 to T7.
use Rattle.std.specs.Prelude.{ℕ, ◌≡◌}
use Rattle.hm_isa.specs.declared.data.T1.{T1}
use Rattle.hm_isa.specs.declared.data.T2.{T2}
use Rattle.hm_isa.specs.declared.data.T3.{T3}
use Rattle.hm_isa.specs.declared.data.T4.{T4}
use Rattle.hm_isa.specs.declared.data.T5.{T5}
use Rattle.hm_isa.specs.declared.data.T6.{T6}
use Rattle.hm_isa.specs.declared.data.T7.{T7}
use Rattle.hm_isa.specs.DataCodes.{code_t1, code_t2, code_t3, code_t4, code_t5, code_t6, code_t7}

-- T1 to T7: w is no code of an operation on a constant or a shifted register, nor of ADDW, SUBW, ADR, MOVW, MOVT, SSAT, USAT, SBFX, UBFX, BFI or BFC
-- (DDI0553, "T32 instruction set encoding", the 32-bit codes)
pub record IsNoData (w : ℕ) : Type 0 where
  pub t1 : (r : T1) → code_t1 r ≡ w → ⊥
  pub t2 : (r : T2) → code_t2 r ≡ w → ⊥
  pub t3 : (r : T3) → code_t3 r ≡ w → ⊥
  pub t4 : (r : T4) → code_t4 r ≡ w → ⊥
  pub t5 : (r : T5) → code_t5 r ≡ w → ⊥
  pub t6 : (r : T6) → code_t6 r ≡ w → ⊥
  pub t7 : (r : T7) → code_t7 r ≡ w → ⊥
