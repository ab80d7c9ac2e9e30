use Rattle.std.proofs.Common.{◌≡◌, ◌+◌, ◌*◌, ◌≤◌, ◌^◌, take}
use Rattle.hm_kernel_lang.specs.Language.{lines_steps}
use Rattle.hm_kernel_code.proofs.steps.steps_of.Given as goal

abbrev pub invariant-loop-line : goal.invariant-loop-line
invariant-loop-line l = record {
  value : l.total ≡ lines_steps l.text.element l.text.count (take l.line-index l.text.lines.items) + 1;
  small : l.total ≤ l.line-index * 2 ^ 24 + 1;
}
