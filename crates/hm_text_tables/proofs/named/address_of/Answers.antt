use Rattle.hm_text_tables.proofs.Told.{looked_up}
use Rattle.hm_text_tables.proofs.named.address_of.Goals as goal

pub returns-in-Word : goal.returns-in-Word
returns-in-Word c = record { named = rw c.in-Word.is (looked_up c.get.result _ c.get.ensures.value) }
