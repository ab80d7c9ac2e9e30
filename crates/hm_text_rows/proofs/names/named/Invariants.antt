use Rattle.std.proofs.Common.{◌≡◌, drop}
use Rattle.hm_text_rows.specs.Names.{named}
use Rattle.hm_text_rows.proofs.names.named.Given as goal

abbrev pub invariant-loop-name : goal.invariant-loop-name
invariant-loop-name g l = named (λ p. p.1.now) (drop l.name-index l.fn.names) l.fn.word ≡ named (λ p. p.1.now) l.fn.names l.fn.word
