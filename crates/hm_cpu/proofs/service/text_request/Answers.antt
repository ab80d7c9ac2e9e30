use Rattle.std.proofs.Common.{ap, sym, ◌∙◌}
use Rattle.hm_cpu.proofs.Services.{most_is}
use Rattle.hm_mem.specs.Memory.{memory_of}
use Rattle.hm_mem.specs.Seen.{seen}
use Rattle.hm_thumb.specs.Calls.{text, writes}
use Rattle.hm_thumb.specs.Does.{in_machine}
use Rattle.hm_cpu.proofs.service.text_request.Goals as goal

pub returns-in-Err-clause-value : goal.returns-in-Err-clause-value
returns-in-Err-clause-value c =
    let m = memory_of c.args.mem.now in
    ap writes (c.in-Err.ensures.value ∙ ap (λ n. text (in_machine m.around) n c.args.addr (seen m)) (sym most_is))

pub returns-in-Ok-clause-value : goal.returns-in-Ok-clause-value
returns-in-Ok-clause-value c =
    let m = memory_of c.args.mem.now in
    ap writes (c.in-Ok.ensures.value ∙ ap (λ n. text (in_machine m.around) n c.args.addr (seen m)) (sym most_is))
