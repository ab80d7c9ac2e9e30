use Rattle.std.proofs.Common.{◌≡◌, ◌<◌, ◌^◌, drop}
use Rattle.hm_text_base.specs.Numbers.{digits_in}
use Rattle.hm_text_base.proofs.numbers.read_digits.Given as goal

abbrev pub invariant-loop-c : goal.invariant-loop-c
invariant-loop-c l = (l.n < 10 ^ l.c-index) × (digits_in l.n (drop l.c-index l.text) ≡ digits_in 0 l.text)
