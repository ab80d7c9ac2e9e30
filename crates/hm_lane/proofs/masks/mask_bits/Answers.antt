use Rattle.std.proofs.Common.{ℕ, ◌+◌, ◌*◌, eqb, ap, ◌∙◌}
use Rattle.std.specs.Int.{bit_at}
use Rattle.hm_lane.proofs.Bits.{mask_bits_is, chosen, half_whole}
use Rattle.hm_lane.proofs.masks.mask_bits.Goals as goal

pub returns-clause-each : goal.returns-clause-each
returns-clause-each c b j p q =
    ap (λ (n : ℕ). eqb (bit_at n (4 * b + j)) 1) (half_whole c.half_bits-high.result c.half_bits-low.result
    (chosen c.get-2.result c.bits-2.result c.half_bits-high.result c.half_bits-high.ensures c.bits-2.ensures.below))
    ∙ mask_bits_is c.args.r.now c.half_bits-low.result c.half_bits-high.result b j
    (c.half_bits-low.ensures ∙ cc)
    (c.half_bits-high.ensures ∙ cc)
    p q
