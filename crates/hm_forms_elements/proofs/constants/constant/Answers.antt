use Rattle.std.proofs.Common.{rules, ◌≡◌, sym, ◌∙◌, ap}
use Rattle.hm_forms_elements.specs.Constants.{constant_word}
use Rattle.hm_forms_elements.proofs.Immediates.{by_bits, in_bytes}
use Rattle.hm_forms_elements.proofs.constants.constant.Goals as goal

pub returns-then-get-eq0 : goal.returns-then-get-eq0
returns-then-get-eq0 c =
    let r = c.args.row.now in
    let mode : r.cm.value ≡ 14 = search rules in
    let plain : r.op.value ≡ 0 = search rules in
    c.splat-then-get-eq0.ensures ∙ sym (in_bytes r.cm.value r.op.value c.immediate-x.result c.args.b mode plain c.immediate-x.ensures.below)
    ∙ ap (λ x. constant_word r.cm.value r.op.value x c.args.b) c.immediate-x.ensures.value

pub returns-else-get-eq0 : goal.returns-else-get-eq0
returns-else-get-eq0 c =
    let r = c.args.row.now in
    let mode : r.cm.value ≡ 14 = search rules in
    let spread : r.op.value ≡ 1 = search rules in
    c.spread_bits.ensures ∙ sym (by_bits r.cm.value r.op.value c.immediate-x.result c.args.b mode spread)
    ∙ ap (λ x. constant_word r.cm.value r.op.value x c.args.b) c.immediate-x.ensures.value
