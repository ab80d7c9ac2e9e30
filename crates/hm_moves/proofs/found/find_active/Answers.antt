use Rattle.hm_moves.proofs.found.find_active.Goals as goal

pub returns-in-Contiguous-clause-value : goal.returns-in-Contiguous-clause-value
returns-in-Contiguous-clause-value c = rw c.in-Contiguous.is (c.find_contiguous.ensures.value c.args.second)
