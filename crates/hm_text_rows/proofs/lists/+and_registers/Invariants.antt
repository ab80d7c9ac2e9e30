use Rattle.hm_text_rows.proofs.lists.+and_registers.Given as goal

abbrev pub decreases-and_registers : goal.decreases-and_registers
decreases-and_registers l = l.n
