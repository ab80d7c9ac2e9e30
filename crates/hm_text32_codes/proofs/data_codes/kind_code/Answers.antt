use Rattle.std.proofs.Common.{rules}
use Rattle.hm_text32_codes.specs.Asked.{letters_t1, letters_t2}
use Rattle.hm_text32_codes.proofs.DataForms.{no_first}
use Rattle.hm_text32_codes.proofs.data_codes.kind_code.Goals as goal

pub returns-in-Move-clause-t1 : goal.returns-in-Move-clause-t1
returns-in-Move-clause-t1 c i is asks = let p = no_first (letters_t1 i) _ _ _ is c.in-Move.is in search rules

pub returns-in-Move-clause-t2 : goal.returns-in-Move-clause-t2
returns-in-Move-clause-t2 c i is asks = let p = no_first (letters_t2 i) _ _ _ is c.in-Move.is in search rules
