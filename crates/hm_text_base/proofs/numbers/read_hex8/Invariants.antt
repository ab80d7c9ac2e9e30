use Rattle.std.proofs.Common.{◌≡◌, ◌<◌, ◌^◌, drop}
use Rattle.hm_text_base.specs.Numbers.{hex_in}
use Rattle.hm_text_base.proofs.numbers.read_hex8.Given as goal

abbrev pub invariant-loop-c : goal.invariant-loop-c
invariant-loop-c l = (l.n < 16 ^ l.c-index) × (hex_in l.n (drop l.c-index l.text) ≡ hex_in 0 l.text)
