use Rattle.std.proofs.Common.{◌≡◌, ◌∙◌, [], ◌∷◌, List, ℕ, subst}
use Rattle.hm_commands.proofs.Calling.{one_made}
use Rattle.hm_commands.specs.Calls.{MakesCalls, answer_way}
use Rattle.hm_host.specs.Host.{write}
use Rattle.helium_shake.specs.Texts.{file_name}
use Rattle.helium_shake.proofs.top.write_file.Goals as goal

pub returns-in-Ok-clause-calls : goal.returns-in-Ok-clause-calls
returns-in-Ok-clause-calls g c =
    let named : c.as_str.result.now ≡ file_name c.args.schedule.now c.args.file.now.kind = c.as_str.ensures.value ∙ c.in-Ok.ensures.value in
    let old = (g.H.Host.state c.args.host.now).calls in
    let new = (g.H.Host.state c.write.new.self).calls in
    subst (λ (name : List ℕ). MakesCalls (write name c.args.file.now.bytes.items ∷ []) old new (answer_way c.write.result)) named
    (subst (λ (bytes : List ℕ). MakesCalls (write c.as_str.result.now bytes ∷ []) old new (answer_way c.write.result)) c.deref.ensures.value
    (one_made (write c.as_str.result.now c.deref.result.now) old new c.write.result c.write.ensures.calls))
