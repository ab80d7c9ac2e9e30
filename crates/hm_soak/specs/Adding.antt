-- Codes that are added to bytes.
use Rattle.std.specs.Prelude.{◌≡◌, ℕ, List, ◌++◌}
use Rattle.hm_isa.specs.declared.Instr.{Instr}
use Rattle.hm_code_bytes.specs.Bytes.{all_halves, half_bytes}
use Rattle.hm_soak_laws.specs.Image.{AreItems}
use Rattle.hm_soak_laws.specs.Soak.{Item}

-- behind the old bytes stand the codes of these items
pub record AddsCodes (xs : List Item) (old new : List ℕ) : Type 0 where
  pub instrs : List Instr
  pub items : AreItems xs instrs
  pub is : new ≡ old ++ half_bytes (all_halves instrs)
