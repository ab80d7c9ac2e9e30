use Rattle.std.proofs.Common.{refl}
use Rattle.hm_commands.proofs.Carrying.{are_read}
use Rattle.helium_shake.proofs.Shaking.{failed, lost, reached_large, reached_whole}
use Rattle.helium_shake.specs.Words.{meant, reads_of}
use Rattle.helium_shake.proofs.top.obey.Goals as goal

pub returns-in-Err-OutOfMemory : goal.returns-in-Err-OutOfMemory
returns-in-Err-OutOfMemory g c = record {
  effect = λ listings are.
      let h = c.in-Err-OutOfMemory.ensures in
      lost listings (meant c.args.command.now) _ _ h.files h.printed (rw c.in-Err-OutOfMemory.field-0-is at h.count)
      (λ F is. rw c.in-Err-OutOfMemory.field-0-is at h.calls F is);
}

pub returns-in-Err-Failed : goal.returns-in-Err-Failed
returns-in-Err-Failed g c = record {
  effect = λ listings are.
      let h = c.in-Err-Failed.ensures in
      failed listings (meant c.args.command.now) _ _ h.files h.printed (rw c.in-Err-Failed.field-0-is at h.count)
      (λ F is. rw c.in-Err-Failed.field-0-is at h.calls F is);
}

pub returns-in-Err-TooLarge : goal.returns-in-Err-TooLarge
returns-in-Err-TooLarge g c = record {
  effect = λ listings are.
      let h = c.in-Err-TooLarge.ensures in
      let asked = meant c.args.command.now in
      let old = g.H.Host.state c.args.host.now in
      let mid = g.H.Host.state c.read_all.new.host in
      reached_large listings asked old mid _ _
      (are_read _ (reads_of asked) _ old mid refl (λ F is. (rw c.in-Err-TooLarge.field-0-is at h.answer) F is) h.files h.printed
      (rw c.in-Err-TooLarge.field-0-is at h.count)
      (λ F is. rw c.in-Err-TooLarge.field-0-is at h.calls F is)) c.say_refused.ensures.effect c.say_refused.ensures.calls;
}

pub returns-in-Ok : goal.returns-in-Ok
returns-in-Ok g c = record {
  effect = λ listings are.
      let h = c.in-Ok.ensures in
      let asked = meant c.args.command.now in
      let old = g.H.Host.state c.args.host.now in
      let mid = g.H.Host.state c.read_all.new.host in
      let given = rw c.deref.ensures.value at c.perform-found.ensures.effect listings are in
      reached_whole listings asked old mid _ _ _ _ given
      (are_read _ (reads_of asked) _ old mid refl (λ F is. h.answer F is) h.files h.printed h.count (λ F is. h.calls F is))
      c.conclude.ensures.effect c.conclude.ensures.calls c.conclude.ensures.wanted;
}
