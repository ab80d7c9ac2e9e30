use Rattle.hm_tokens.proofs.Pieces.{pieces_is}
use Rattle.hm_tokens.proofs.text.InstrText.is_first.Goals as goal

pub returns-in-Word : goal.returns-in-Word
returns-in-Word c = record {
  same =
      rw c.in-Word.is (pieces_is c.args.self.now.mnemonic.now c.args.self.now.letters.now c.args.self.now.suffix.now c.in-Word.name.now c.is_first_word.result
      c.is_first_word.ensures.value);
}
