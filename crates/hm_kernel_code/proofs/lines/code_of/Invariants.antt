use Rattle.std.proofs.Common.{◌≡◌}
use Rattle.hm_kernel_lang.specs.Language.{address}
use Rattle.hm_kernel_code.proofs.Appending.{first_lines}
use Rattle.hm_kernel_code.proofs.lines.code_of.Given as goal

abbrev pub invariant-loop-line : goal.invariant-loop-line
invariant-loop-line l = l.out.items ≡ first_lines (address l.text.arrays.items) l.text.count l.text.lines.items l.line-index
