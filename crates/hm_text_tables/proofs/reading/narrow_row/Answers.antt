use Rattle.std.proofs.Common.{◌≡◌, [], ◌∷◌, map, sym, ◌∙◌}
use Rattle.std.proofs.lemmas.Bool.{false≢true}
use Rattle.hm_isa.specs.declared.Instr.{Instr}
use Rattle.hm_isa.specs.Code.{halfwords}
use Rattle.hm_tokens.specs.Tokens.{tok}
use Rattle.hm_textv.proofs.ByCode.{no_row_else, the_row}
use Rattle.hm_text_tables.proofs.OneRow.{NarrowAt, narrow_halves, narrow_large, narrow_none}
use Rattle.hm_text_tables.proofs.reading.narrow_row.Goals as goal

pub returns-in_err-code-clause-only : goal.returns-in_err-code-clause-only
returns-in_err-code-clause-only c i r e is =
    absurd (narrow_none (map tok c.args.tokens.now) c.args.pc c.args.address c.in_err-code.ensures.code i (r, e, is))

pub returns-then-code-gt-LAST_NARROW-clause-only : goal.returns-then-code-gt-LAST_NARROW-clause-only
returns-then-code-gt-LAST_NARROW-clause-only c i r e is =
    absurd (narrow_large (map tok c.args.tokens.now) c.args.pc c.args.address c.in_ok-code.code c.in_ok-code.ensures.code c.if-code-gt-LAST_NARROW.true i
    (r, e, is))

pub returns-in_err-i-clause-only : goal.returns-in_err-i-clause-only
returns-in_err-i-clause-only c i r e is =
    let ts = map tok c.args.tokens.now in
    absurd (c.in_err-i.ensures.none i (narrow_halves ts c.args.pc c.args.address c.in_ok-code.code c.in_ok-code.ensures.code i (r, e, is)))

pub returns-then-is_row_at-clause-found : goal.returns-then-is_row_at-clause-found
returns-then-is_row_at-clause-found c = c.is_row_at.ensures.0 c.if-is_row_at.true

pub returns-then-is_row_at-clause-only : goal.returns-then-is_row_at-clause-only
returns-then-is_row_at-clause-only c i r e is =
    let ts = map tok c.args.tokens.now in
    let coded = narrow_halves ts c.args.pc c.args.address c.in_ok-code.code c.in_ok-code.ensures.code in
    the_row (NarrowAt ts c.args.pc c.args.address) (λ (j : Instr). halfwords j ≡ c.in_ok-code.code ∷ []) c.in_ok-i.i coded c.in_ok-i.ensures.exact i (r, e, is)

pub returns-clause-only : goal.returns-clause-only
returns-clause-only c i r e is =
    let ts = map tok c.args.tokens.now in
    let coded = narrow_halves ts c.args.pc c.args.address c.in_ok-code.code c.in_ok-code.ensures.code in
    absurd
    (no_row_else (NarrowAt ts c.args.pc c.args.address) (λ (j : Instr). halfwords j ≡ c.in_ok-code.code ∷ []) c.in_ok-i.i coded c.in_ok-i.ensures.exact
    (λ h. false≢true (sym c.if-is_row_at.false ∙ c.is_row_at.ensures.1 h.2)) i (r, e, is))
