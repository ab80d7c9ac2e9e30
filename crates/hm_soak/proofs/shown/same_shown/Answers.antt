use Rattle.std.proofs.Common.{◌≡◌, true, sym, ◌∙◌}
use Rattle.std.proofs.lemmas.Slice.Eq.{bytes_eq-Decides}
use Rattle.hm_soak_laws.proofs.Comparing.{same_regs, same_regs_decides}
use Rattle.hm_soak.proofs.shown.same_shown.Goals as goal

pub returns-then-eq : goal.returns-then-eq
returns-then-eq c =
    let registers : same_regs c.regs.result.now c.regs-2.result.now ≡ true = sym c.eq.ensures ∙ c.if-eq.true in
    let output = bytes_eq-Decides c.output.result.now c.output-then-eq.result.now in
    record {
      same = (
        λ t. record {
          registers = sym c.regs.ensures ∙ (same_regs_decides c.regs.result.now c.regs-2.result.now).0 registers ∙ c.regs-2.ensures;
          output = sym c.output.ensures ∙ output.0 (sym c.eq-then-eq.ensures ∙ t) ∙ c.output-then-eq.ensures;
        },
        λ shown. c.eq-then-eq.ensures ∙ output.1 (c.output.ensures ∙ shown.output ∙ sym c.output-then-eq.ensures),
      );
    }
