use Rattle.std.proofs.Common.{◌≡◌, ℕ, ◌/◌, ◌%◌, ◌^◌, ap, ◌∙◌}
use Rattle.std.specs.Prelude.{◌==◌}
use Rattle.hm_exc.proofs.Sides.{process_is, process_told}
use Rattle.hm_regs.specs.Stacks.{uses_process}
use Rattle.hm_exc.proofs.exit.is_process.Goals as goal

module _ (c : goal.After-is_set) where
  told : c.is_set.result ≡ uses_process c.args.x.now.regs
  told = c.is_set.ensures.value ∙ ap (λ (v : ℕ). v / 2 ^ 2 % 2 == 1) (c.requires.value ∙ c.requires.fits.value) ∙ process_told c.args.x.now.regs

pub returns-clause-used : goal.returns-clause-used
returns-clause-used c = told c

pub returns-clause-selected : goal.returns-clause-selected
returns-clause-selected c = told c ∙ process_is c.args.x.now.regs c.requires.fits.enters.selects
