use Rattle.std.proofs.Common.{◌≡◌, length}
use Rattle.std.specs.List.{list_all}
use Rattle.hm_kernel_text.specs.Words.{is_numeral, words_behind}
use Rattle.hm_kernel_text.proofs.lines.are_numerals.Given as goal

abbrev pub invariant-loop-rest : goal.invariant-loop-rest
invariant-loop-rest l = list_all is_numeral (words_behind l.rest) ≡ list_all is_numeral (words_behind l.text)

abbrev pub decreases-loop-rest : goal.decreases-loop-rest
decreases-loop-rest l = length l.rest
