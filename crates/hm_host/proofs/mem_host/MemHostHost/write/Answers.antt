use Rattle.std.proofs.Common.{ap, refl, ◌∙◌}
use Rattle.hm_host.specs.Host.{HostState}
use Rattle.hm_host.proofs.mem_host.MemHostHost.write.Goals as goal

pub returns-then-failed-clause-files : goal.returns-then-failed-clause-files
returns-then-failed-clause-files c = λ files is. (
  files,
  ap (λ (s : HostState). s.files) c.fault.ensures.state ∙ ap (λ (s : HostState). s.files) c.begin-failed.ensures.state ∙ is,
  λ other ne. refl,
)
