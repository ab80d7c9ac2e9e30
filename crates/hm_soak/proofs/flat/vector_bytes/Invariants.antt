use Rattle.std.proofs.Common.{◌≡◌, take}
use Rattle.std.specs.List.{flat_map}
use Rattle.hm_code_bytes.specs.Bytes.{word_bytes}
use Rattle.hm_soak.proofs.Adding.{vector_words}
use Rattle.hm_soak.proofs.flat.vector_bytes.Given as goal

abbrev pub invariant-loop-word : goal.invariant-loop-word
invariant-loop-word l = l.bytes.items ≡ flat_map word_bytes (take l.word-index vector_words)
