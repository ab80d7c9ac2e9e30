use Rattle.std.proofs.Common.{rules, ap, sym, ◌∙◌, ◌-◌, Option, ℕ, drop, length, take}
use Rattle.hm_debug.proofs.Reading.{both, range_finds, range_is, range_none, range_reads}
use Rattle.hm_text_base.specs.Numbers.{number_in}
use Rattle.hm_debug.proofs.command.read_range.Goals as goal

pub returns-then-is_empty-clause-finds : goal.returns-then-is_empty-clause-finds
returns-then-is_empty-clause-finds c =
    range_finds c.args.text.now _ (range_none c.args.text.now c.span.result.0.now c.span.result.1.now c.span.ensures.parts (search rules))

pub returns-in_err-addr-clause-finds : goal.returns-in_err-addr-clause-finds
returns-in_err-addr-clause-finds c =
    let is = range_is c.args.text.now c.span.result.0.now c.span.result.1.now c.span.ensures.parts (search rules) in
    range_finds c.args.text.now _ (c.from_residual.ensures
    ∙ ap (λ (o : Option ℕ). both o (number_in (take (length c.span.result.1.now - 1) (drop 1 c.span.result.1.now)))) c.in_err-addr.ensures.value ∙ is)

pub returns-in_err-n-clause-finds : goal.returns-in_err-n-clause-finds
returns-in_err-n-clause-finds c =
    let is = range_is c.args.text.now c.span.result.0.now c.span.result.1.now c.span.ensures.parts (search rules) in
    range_finds c.args.text.now _ (c.from_residual-in_err-n.ensures ∙ (λ i. both (c.in_ok-addr.ensures.value i) (c.in_err-n.ensures.value i)) ∙ is)

pub returns-clause-reads : goal.returns-clause-reads
returns-clause-reads c =
    let is = range_is c.args.text.now c.span.result.0.now c.span.result.1.now c.span.ensures.parts (search rules) in
    range_reads c.args.text.now _ (sym ((λ i. both (c.in_ok-addr.ensures.value i) (c.in_ok-n.ensures.value i)) ∙ is))

pub returns-clause-finds : goal.returns-clause-finds
returns-clause-finds c =
    let is = range_is c.args.text.now c.span.result.0.now c.span.result.1.now c.span.ensures.parts (search rules) in
    range_finds c.args.text.now _ ((λ i. both (c.in_ok-addr.ensures.value i) (c.in_ok-n.ensures.value i)) ∙ is)
