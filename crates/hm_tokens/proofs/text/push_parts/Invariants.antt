use Rattle.std.proofs.Common.{◌≡◌, ◌++◌, map, drop}
use Rattle.hm_tokens.specs.Lines.{spelled, spelled_behind}
use Rattle.hm_tokens.specs.Texts.{part_token}
use Rattle.hm_tokens.proofs.text.push_parts.Given as goal

abbrev pub invariant-loop-part : goal.invariant-loop-part
invariant-loop-part l = l.out.bytes ++ spelled_behind l.after_word (map part_token (drop l.part-index l.parts))
    ≡ l.initial.out.bytes ++ spelled (map part_token l.parts)
