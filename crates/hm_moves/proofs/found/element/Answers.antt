use Rattle.hm_moves.proofs.found.element.Goals as goal

pub returns-in-Contiguous-clause-value : goal.returns-in-Contiguous-clause-value
returns-in-Contiguous-clause-value c = rw c.in-Contiguous.is (c.contiguous_element.ensures.value c.args.second)

pub returns-in-Interleaved-clause-value : goal.returns-in-Interleaved-clause-value
returns-in-Interleaved-clause-value c = rw c.in-Interleaved.is (c.interleaved_element.ensures.value c.args.second)
