use Rattle.std.proofs.Common.{◌≡◌, ◌++◌, ◌<◌, ℕ, drop}
use Rattle.std.specs.List.{AllByRecursion}
use Rattle.hm_base.specs.Image.{segment_at}
use Rattle.hm_ihex.specs.Written.{all_pieces, hex_file, text_of}
use Rattle.hm_ihex.proofs.writing.write_hex.Given as goal

abbrev pub invariant-loop-k : goal.invariant-loop-k
invariant-loop-k l = record {
  added : l.out.items ++ text_of l.upper (all_pieces (drop l.k l.image)) ≡ hex_file l.image;
  bytes : (j : ℕ) → j < l.k → AllByRecursion (λ b. b < 256) (segment_at l.image j).bytes;
}
