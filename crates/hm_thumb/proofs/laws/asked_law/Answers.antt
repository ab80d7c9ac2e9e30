use Rattle.hm_thumb.proofs.Ends.{enough-alone, enough-machine}
use Rattle.hm_thumb.proofs.Texts.{asked-live, asked-same}
use Rattle.hm_thumb.proofs.laws.asked_law.Goals as goal

pub returns : goal.returns
returns c = record {
  live = λ bounds r s t l. asked-live bounds s t l r;
  same = λ bounds r s h. asked-same bounds s h r;
  ends = λ bounds n a s up fits. (enough-machine bounds s n a up fits, enough-alone s n a up fits);
}
