use Rattle.std.proofs.Common.{◌≡◌, ap, ◌∙◌, rules, true}
use Rattle.hm_base.specs.Image.{word_at}
use Rattle.hm_exc.specs.Entry.{activation, entered_registers}
use Rattle.hm_exc.specs.Frame.{vector_address}
use Rattle.hm_exc.proofs.Stacked.{in_room}
use Rattle.hm_mem.specs.Memory.{byte_at, memory_of}
use Rattle.hm_mem.specs.declared.Dev.{Dev}
use Rattle.hm_exc.proofs.entry.enter.Goals as goal

pub returns-clause-registers : goal.returns-clause-registers
returns-clause-registers c =
    let r = c.args.r.now in
    let a = c.vector_address-addr.ensures.value ∙ ap (λ (d : Dev). vector_address d c.args.e) c.dev.ensures.value in
    c.entered.ensures.value r c.args.w c.args.e c.activation-x.ensures.value
    ∙ ap (entered_registers r c.args.e) (c.word-vector.ensures.value ∙ ap (word_at (byte_at (memory_of c.args.m.now))) a)

pub returns-clause-fits : goal.returns-clause-fits
returns-clause-fits c =
    let t : c.has_room.result ≡ true = search rules in
    c.activation-x.ensures.fits (in_room c.activation-x.result (activation c.args.r.now c.args.w c.args.e) _ c.has_room.result c.activation-x.ensures.value
    c.has_room.ensures.value t)
