use Rattle.hm_run_laws.proofs.Soundness.{at_most_eight, can_enter, counted_sound, entered_sound, letters_sound, next_sound, picked_sound, run_sound}
use Rattle.hm_run_laws.proofs.Soundness.{start_sound, step_sound}
use Rattle.hm_run_laws.proofs.sound.Goals as goal

pub returns : goal.returns
returns c = record {
  start = start_sound;
  step = λ listing s t x h. step_sound s listing t x h;
  letters = λ listing s k ls x h. letters_sound s listing k ls x h;
  counted = λ s line x h. counted_sound s line.irq x.machine h;
  can_enter = λ s x h end. can_enter s x h end;
  picked = λ s x e h p. picked_sound s x e h p;
  few = λ s x h. at_most_eight s x h;
  entered = λ s x e h p end free. entered_sound s x e h p end free;
  next = λ listing s left x h. next_sound s listing left x h;
  always = λ listing image s t none. run_sound s listing image t none;
}
