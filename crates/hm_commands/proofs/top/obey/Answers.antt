use Rattle.std.proofs.Common.{◌≡◌, List, ℕ, refl, map, length, ap, sym, subst, ◌∙◌}
use Rattle.std.proofs.lemmas.List.{length-map}
use Rattle.hm_commands.specs.Calls.{MakesCalls, read_calls, to_fault, to_memory}
use Rattle.hm_work.specs.Commands.{ComesTo}
use Rattle.hm_words.specs.Words.{meant, reads_of}
use Rattle.hm_commands.proofs.Calling.{none_made}
use Rattle.hm_commands.proofs.Carrying.{are_read, failed, lost, reached_large, reached_whole}
use Rattle.hm_commands.proofs.top.obey.Goals as goal

pub returns-in_default : goal.returns-in_default
returns-in_default g c = record { effect = λ listings are. lost _ _ _ _ (λ F is. is) (λ P is. is) refl (λ F is. none_made _ _) }

pub returns : goal.returns
returns g c = record {
  effect = λ listings are.
      let h = c.in-Err-OutOfMemory.ensures in
      let old = g.H.Host.state c.args.host.now in
      let mid = g.H.Host.state c.read_all.new.host in
      let asked = meant c.args.command.now in
      let names : map (λ n. n.now) c.deref.result.now ≡ reads_of asked = ap (map (λ n. n.now)) c.deref.ensures.value ∙ c.in-Ok.ensures.names in
      lost _ _ old mid h.files h.printed (rw c.in-Err-OutOfMemory.field-0-is at h.count)
      (λ F is. subst (λ (n : List (List ℕ)). MakesCalls (read_calls F n) old.calls mid.calls to_memory) names
      (rw c.in-Err-OutOfMemory.field-0-is at h.calls F is));
}

pub returns-in-Err-Failed : goal.returns-in-Err-Failed
returns-in-Err-Failed g c = record {
  effect = λ listings are.
      let h = c.in-Err-Failed.ensures in
      let old = g.H.Host.state c.args.host.now in
      let mid = g.H.Host.state c.read_all.new.host in
      let asked = meant c.args.command.now in
      let names : map (λ n. n.now) c.deref.result.now ≡ reads_of asked = ap (map (λ n. n.now)) c.deref.ensures.value ∙ c.in-Ok.ensures.names in
      failed _ _ old mid h.files h.printed (rw c.in-Err-Failed.field-0-is at h.count)
      (λ F is. subst (λ (n : List (List ℕ)). MakesCalls (read_calls F n) old.calls mid.calls to_fault) names
      (rw c.in-Err-Failed.field-0-is at h.calls F is));
}

pub returns-in-Err-TooLarge : goal.returns-in-Err-TooLarge
returns-in-Err-TooLarge g c = record {
  effect = λ listings are.
      let h = c.in-Err-TooLarge.ensures in
      let old = g.H.Host.state c.args.host.now in
      let mid = g.H.Host.state c.read_all.new.host in
      let asked = meant c.args.command.now in
      let names : map (λ n. n.now) c.deref.result.now ≡ reads_of asked = ap (map (λ n. n.now)) c.deref.ensures.value ∙ c.in-Ok.ensures.names in
      reached_large (reads_of asked) (ComesTo listings asked) old mid _ _
      (are_read _ _ _ old mid names (λ F is. (rw c.in-Err-TooLarge.field-0-is at h.answer) F is) h.files h.printed (rw c.in-Err-TooLarge.field-0-is at h.count)
      (λ F is. rw c.in-Err-TooLarge.field-0-is at h.calls F is))
      c.refuse.ensures.effect c.refuse.ensures.calls;
}

pub perform-requires-clause-short : goal.perform-requires-clause-short
perform-requires-clause-short g c = rw c.deref-in-Ok-read_all.ensures.value c.in-Ok-read_all.ensures.short

pub perform-requires-clause-each : goal.perform-requires-clause-each
perform-requires-clause-each g c =
    c.deref-in-Ok-read_all.ensures.len ∙ c.in-Ok-read_all.ensures.each
    ∙ sym (length-map c.deref.result.now (λ n. n.now)) ∙ ap (λ l. length (map (λ n. n.now) l)) c.deref.ensures.value ∙ ap length c.in-Ok.ensures.names

pub returns-in-Ok-read_all : goal.returns-in-Ok-read_all
returns-in-Ok-read_all g c = record {
  effect = λ listings are.
      let h = c.in-Ok-read_all.ensures in
      let old = g.H.Host.state c.args.host.now in
      let mid = g.H.Host.state c.read_all.new.host in
      let asked = meant c.args.command.now in
      let names : map (λ n. n.now) c.deref.result.now ≡ reads_of asked = ap (map (λ n. n.now)) c.deref.ensures.value ∙ c.in-Ok.ensures.names in
      let given = rw c.deref-in-Ok-read_all.ensures.value at c.perform.ensures listings are in
      reached_whole (reads_of asked) (ComesTo listings asked) old mid _ _ _ _ given
      (are_read _ _ _ old mid names (λ F is. h.answer F is) h.files h.printed h.count (λ F is. h.calls F is))
      c.conclude.ensures.effect c.conclude.ensures.calls c.conclude.ensures.spent c.conclude.ensures.wanted;
}
