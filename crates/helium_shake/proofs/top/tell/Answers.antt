use Rattle.std.proofs.Common.{◌≡◌, ◌∙◌, [], ◌∷◌, List, ℕ, Err, map, subst}
use Rattle.hm_commands.proofs.Calling.{one_made}
use Rattle.hm_commands.specs.Calls.{MakesCalls, answer_way, with_calls}
use Rattle.hm_host.specs.Host.{Becomes, Prints, print}
use Rattle.hm_shake.specs.declared.filing.Written.{Written}
use Rattle.helium_shake.proofs.Writing.{all_calls, complete, cut_print, cut_print_calls, cut_write_calls}
use Rattle.helium_shake.specs.Effects.{WritesFiles, file_of, found_effect, text_for, with_files, write_call}
use Rattle.helium_shake.proofs.top.tell.Goals as goal

pub returns-in-Err-clause-calls : goal.returns-in-Err-clause-calls
returns-in-Err-clause-calls g c =
    let schedule = c.args.schedule.now in
    let e = c.in-Err.e in
    let old = g.H.Host.state c.args.host.now in
    let new = g.H.Host.state c.write_files.new.host in
    let files = subst (λ (ws : List Written). WritesFiles {T = ℕ} (map (file_of schedule) ws) old.files new.files (Err e))
    c.deref.ensures.value c.in-Err.ensures.files in
    let calls = subst (λ (ws : List Written). MakesCalls (map write_call (map (file_of schedule) ws)) old.calls new.calls (answer_way {T = ℕ} (Err e)))
    c.deref.ensures.value c.in-Err.ensures.calls in
    rw c.failure.ensures.value (cut_write_calls e (found_effect schedule c.args.findings.now) old new files calls)

pub returns-in-Err-print-clause-effect : goal.returns-in-Err-print-clause-effect
returns-in-Err-print-clause-effect g c =
    let schedule = c.args.schedule.now in
    let e = c.in-Err-print.e in
    let old = g.H.Host.state c.args.host.now in
    let mid = g.H.Host.state c.write_files.new.host in
    let new = g.H.Host.state c.print.new.self in
    let written = c.in-Ok-write_files.ensures in
    let files = subst (λ (ws : List Written). Becomes (with_files (map (file_of schedule) ws)) old.files mid.files) c.deref.ensures.value written.files in
    let text_is : c.deref-in-Ok-write_files.result.now ≡ text_for schedule c.args.findings.now =
    c.deref-in-Ok-write_files.ensures.value ∙ c.in-Ok.ensures.value in
    let prints = subst (λ (text : List ℕ). Prints {T = ℕ} text mid.printed new.printed (Err e)) text_is c.in-Err-print.ensures.printed in
    rw c.failure-in-Err-print.ensures.value
    (cut_print e (found_effect schedule c.args.findings.now) old mid new files c.in-Err-print.ensures.files written.count written.printed prints
    c.in-Err-print.ensures.count)

pub returns-in-Err-print-clause-calls : goal.returns-in-Err-print-clause-calls
returns-in-Err-print-clause-calls g c =
    let schedule = c.args.schedule.now in
    let e = c.in-Err-print.e in
    let old = g.H.Host.state c.args.host.now in
    let mid = g.H.Host.state c.write_files.new.host in
    let new = g.H.Host.state c.print.new.self in
    let written = subst (λ (ws : List Written). Becomes (with_calls (map write_call (map (file_of schedule) ws))) old.calls mid.calls)
    c.deref.ensures.value c.in-Ok-write_files.ensures.calls in
    let text_is : c.deref-in-Ok-write_files.result.now ≡ text_for schedule c.args.findings.now =
    c.deref-in-Ok-write_files.ensures.value ∙ c.in-Ok.ensures.value in
    let prints = subst (λ (text : List ℕ). Prints {T = ℕ} text mid.printed new.printed (Err e)) text_is c.in-Err-print.ensures.printed in
    let call = subst (λ (text : List ℕ). MakesCalls (print text ∷ []) mid.calls new.calls (answer_way {T = ℕ} (Err e))) text_is
    (one_made {T = ℕ} (print c.deref-in-Ok-write_files.result.now) mid.calls new.calls (Err e) c.in-Err-print.ensures.calls) in
    rw c.failure-in-Err-print.ensures.value
    (cut_print_calls e (found_effect schedule c.args.findings.now) old.calls mid.calls new.calls mid.printed new.printed written prints call)

pub returns-clause-calls : goal.returns-clause-calls
returns-clause-calls g c =
    let schedule = c.args.schedule.now in
    let old = (g.H.Host.state c.args.host.now).calls in
    let mid = (g.H.Host.state c.write_files.new.host).calls in
    let new = (g.H.Host.state c.print.new.self).calls in
    let written = subst (λ (ws : List Written). Becomes (with_calls (map write_call (map (file_of schedule) ws))) old mid)
    c.deref.ensures.value c.in-Ok-write_files.ensures.calls in
    let text_is : c.deref-in-Ok-write_files.result.now ≡ text_for schedule c.args.findings.now =
    c.deref-in-Ok-write_files.ensures.value ∙ c.in-Ok.ensures.value in
    let printed = subst (λ (text : List ℕ). Becomes (with_calls (print text ∷ [])) mid new) text_is c.in-Ok-print.ensures.calls in
    rw c.status_of.ensures.value
    (all_calls (found_effect schedule c.args.findings.now) old mid new _ (complete c.args.findings.now.files.items) written printed)
