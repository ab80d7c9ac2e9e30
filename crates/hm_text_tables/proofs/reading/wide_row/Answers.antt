use Rattle.std.proofs.Common.{Some, map, sym, ◌∙◌}
use Rattle.std.proofs.lemmas.Bool.{false≢true}
use Rattle.hm_isa.specs.declared.Instr.{Instr}
use Rattle.hm_layout.specs.Wide.{HasWord}
use Rattle.hm_tokens.specs.Tokens.{tok}
use Rattle.hm_textv.proofs.ByCode.{no_row_else, the_row}
use Rattle.hm_text_tables.proofs.OneRow.{IsGivenIn, WideAt, wide_large, wide_none, wide_word}
use Rattle.hm_text_tables.proofs.reading.wide_row.Goals as goal

pub returns-in_err-code-clause-only : goal.returns-in_err-code-clause-only
returns-in_err-code-clause-only c i r e is =
    absurd (wide_none (map tok c.args.tokens.now) c.args.pc c.args.address
    (record { printed = c.in_err-code.ensures.code; other = c.in_err-code.ensures.other }) i (r, e, is))

pub returns-then-code-gt-LAST_WIDE-clause-only : goal.returns-then-code-gt-LAST_WIDE-clause-only
returns-then-code-gt-LAST_WIDE-clause-only c i r e is =
    absurd (wide_large (map tok c.args.tokens.now) c.args.pc c.args.address c.in_ok-code.code
    (record { printed = c.in_ok-code.ensures.code; other = c.in_ok-code.ensures.other }) c.if-code-gt-LAST_WIDE.true i (r, e, is))

pub returns-in_err-i-clause-only : goal.returns-in_err-i-clause-only
returns-in_err-i-clause-only c i r e is =
    let ts = map tok c.args.tokens.now in
    let given : IsGivenIn ts c.args.pc c.args.address (Some c.in_ok-code.code) =
    record { printed = c.in_ok-code.ensures.code; other = c.in_ok-code.ensures.other } in
    absurd (c.in_err-i.ensures.none i (wide_word ts c.args.pc c.args.address c.in_ok-code.code given i (r, e, is)))

pub returns-then-is_row_at-clause-found : goal.returns-then-is_row_at-clause-found
returns-then-is_row_at-clause-found c = c.is_row_at.ensures.0 c.if-is_row_at.true

pub returns-then-is_row_at-clause-only : goal.returns-then-is_row_at-clause-only
returns-then-is_row_at-clause-only c i r e is =
    let ts = map tok c.args.tokens.now in
    let given : IsGivenIn ts c.args.pc c.args.address (Some c.in_ok-code.code) =
    record { printed = c.in_ok-code.ensures.code; other = c.in_ok-code.ensures.other } in
    let coded = wide_word ts c.args.pc c.args.address c.in_ok-code.code given in
    the_row (WideAt ts c.args.pc c.args.address) (λ (j : Instr). HasWord j c.in_ok-code.code) c.in_ok-i.i coded c.in_ok-i.ensures.exact i (r, e, is)

pub returns-clause-only : goal.returns-clause-only
returns-clause-only c i r e is =
    let ts = map tok c.args.tokens.now in
    let given : IsGivenIn ts c.args.pc c.args.address (Some c.in_ok-code.code) =
    record { printed = c.in_ok-code.ensures.code; other = c.in_ok-code.ensures.other } in
    let coded = wide_word ts c.args.pc c.args.address c.in_ok-code.code given in
    absurd
    (no_row_else (WideAt ts c.args.pc c.args.address) (λ (j : Instr). HasWord j c.in_ok-code.code) c.in_ok-i.i coded c.in_ok-i.ensures.exact
    (λ h. false≢true (sym c.if-is_row_at.false ∙ c.is_row_at.ensures.1 h.2)) i (r, e, is))
