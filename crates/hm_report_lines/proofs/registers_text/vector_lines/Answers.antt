use Rattle.std.proofs.Common.{◌≡◌, ℕ, List, ap, ◌∙◌, add-one, rules}
use Rattle.hm_run.specs.Report.{vector_line}
use Rattle.hm_report_lines.proofs.registers_text.vector_lines.Goals as goal

pub loop-k-preserved : goal.loop-k-preserved
loop-k-preserved c = rw add-one (c.in_ok-vector_line.ensures ∙ ap (λ (o : List ℕ). vector_line c.loop-k.k c.args.words.now o) c.loop-k.invariant)

pub returns : goal.returns
returns c = let end : c.loop-k.k ≡ 8 = search rules in rw end at c.loop-k.invariant
