use Rattle.std.proofs.Common.{ℕ, eqb, ap, rules}
use Rattle.std.proofs.lemmas.List.Elements.{All-from_get_or}
use Rattle.hm_sched.proofs.WordLaws.{IsWord, bit_of}
use Rattle.hm_sched.proofs.printing.has_irq.Goals as goal

pub returns : goal.returns
returns c = record { value = ap (λ (x : ℕ). eqb x 1) (bit_of c.args.irq.now c.args.n (All-from_get_or IsWord c.args.irq.now 0 (λ i lt. search rules))) }
