use Rattle.std.proofs.Common.{ℕ, ap, refl, sym, ◌∙◌, subst, [], ◌∷◌, Option, IfSome}
use Rattle.hm_codes.specs.Listing.{HalvesStand, Stands}
use Rattle.hm_isa.specs.Code.{halfwords}
use Rattle.hm_isa.specs.declared.Instr.{Instr}
use Rattle.hm_recent.proofs.Halves.{stands_coded}
use Rattle.hm_mem.specs.Memory.{memory_of, flash_at}
use Rattle.hm_recent.proofs.recent.Cached.decoded.Goals as goal

-- the halfwords are those of what was decoded
pub invariant_of-result : goal.invariant_of-result
invariant_of-result c =
    let flash = flash_at (memory_of c.args.m.now) in
    let i = c.in_ok-fetch.field-0 in record {
      code = λ first second is.
          ap halfwords c.of-instr.ensures.instr
          ∙ stands_coded flash c.args.addr first second i
          (subst (λ (o : Option (ℕ × ℕ)). IfSome o (λ h. HalvesStand flash (h.0 ∷ h.1 ∷ []) c.args.addr)) is c.halves_at-halves.ensures.stand)
          c.in_ok-fetch.ensures;
    }

-- what was decoded stands there
pub returns-clause-kept : goal.returns-clause-kept
returns-clause-kept c =
    let flash = flash_at (memory_of c.args.m.now) in (
      c.of-instr.result,
      refl,
      subst (λ (i : Instr). Stands flash c.args.addr i) (sym c.of-instr.ensures.instr) c.in_ok-fetch.ensures,
    )
