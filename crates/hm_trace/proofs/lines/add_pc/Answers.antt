use Rattle.std.proofs.Common.{◌≡◌, ◌++◌, IfOk, ℕ, List, ap, append_assoc, subst, ◌∙◌}
use Rattle.std.specs.Prelude.{codes}
use Rattle.hm_text_base.specs.Texts.{hex8}
use Rattle.hm_trace.specs.Lines.{pc_part}
use Rattle.hm_trace.proofs.lines.add_pc.Goals as goal

pub returns : goal.returns
unfolding pc_part
returns c = record {
  added =
      let out = c.args.out.now.items in
      let is = ap (λ (t : List ℕ). t ++ hex8 c.pc_of.result) c.in_ok-text.ensures
      ∙ append_assoc out (codes " pc ") (hex8 c.pc_of.result)
      ∙ ap (λ (pc : ℕ). out ++ (codes " pc " ++ hex8 pc)) c.pc_of.ensures.value in
      subst (λ (t : List ℕ). IfOk c.hex8.result (λ _. c.hex8.new.out.items ≡ t)) is c.hex8.ensures;
}
