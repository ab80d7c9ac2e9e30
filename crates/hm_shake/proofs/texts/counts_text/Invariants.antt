use Rattle.std.proofs.Common.{◌≡◌, drop}
use Rattle.hm_shake.specs.Texts.{count_lines, counts_text}
use Rattle.hm_shake.proofs.texts.counts_text.Given as goal

-- what stands there, and the lines that are left
abbrev pub invariant-loop-found : goal.invariant-loop-found
invariant-loop-found l = count_lines (drop l.found-index l.kinds) l.out.items ≡ counts_text l.fn.plain l.kinds
