use Rattle.std.proofs.Common.{rules}
use Rattle.hm_shake_runs.proofs.Words.{bit_is_words}
use Rattle.hm_shake_runs.proofs.stretches.irq_words.Goals as goal

pub returns-in-Some : goal.returns-in-Some
returns-in-Some c = record { value = rw (c.in-Some.is, c.from.ensures, c.from-in-Some.ensures) (bit_is_words c.in-Some.n (search rules)) }
