use Rattle.std.proofs.Common.{◌≡◌, map, sym, ◌∙◌, rules}
use Rattle.std.proofs.lemmas.Bool.{false≢true}
use Rattle.hm_isa.specs.declared.Vector.{Vector}
use Rattle.hm_isa.specs.Code.{vector_code}
use Rattle.hm_tokens.specs.Tokens.{tok}
use Rattle.hm_textv_rows.specs.Rows.{HasTokens}
use Rattle.hm_textv.proofs.ByCode.{no_row_else, the_row}
use Rattle.hm_textv.proofs.Parsing.{no_code, the_code, too_large}
use Rattle.hm_textv.proofs.row_with.Goals as goal

pub returns-in_err-given-clause-only : goal.returns-in_err-given-clause-only
returns-in_err-given-clause-only c v has = absurd (no_code (map tok c.args.tokens.now) c.in_err-given.ensures.code v has)

pub returns-in_err-code-clause-only : goal.returns-in_err-code-clause-only
returns-in_err-code-clause-only c v has =
    absurd (too_large (map tok c.args.tokens.now) c.in_ok-given.given c.in_ok-given.ensures.code (search rules) v has)

pub returns-in_err-v-clause-only : goal.returns-in_err-v-clause-only
returns-in_err-v-clause-only c v has =
    let same : c.in_ok-given.given ≡ c.in_ok-code.code = search rules in
    absurd (c.in_err-v.ensures.none v (the_code (map tok c.args.tokens.now) c.in_ok-code.code (rw same at c.in_ok-given.ensures.code) v has))

pub returns-then-is_text_of-clause-found : goal.returns-then-is_text_of-clause-found
returns-then-is_text_of-clause-found c = c.is_text_of.ensures.0 c.if-is_text_of.true

pub returns-then-is_text_of-clause-only : goal.returns-then-is_text_of-clause-only
returns-then-is_text_of-clause-only c v has =
    let ts = map tok c.args.tokens.now in
    let same : c.in_ok-given.given ≡ c.in_ok-code.code = search rules in
    let coded = the_code ts c.in_ok-code.code (rw same at c.in_ok-given.ensures.code) in
    the_row (λ (u : Vector). HasTokens u ts) (λ (u : Vector). vector_code u ≡ c.in_ok-code.code) c.in_ok-v.v coded c.in_ok-v.ensures.exact v has

pub returns-clause-only : goal.returns-clause-only
returns-clause-only c v has =
    let ts = map tok c.args.tokens.now in
    let same : c.in_ok-given.given ≡ c.in_ok-code.code = search rules in
    let coded = the_code ts c.in_ok-code.code (rw same at c.in_ok-given.ensures.code) in
    absurd
    (no_row_else (λ (u : Vector). HasTokens u ts) (λ (u : Vector). vector_code u ≡ c.in_ok-code.code) c.in_ok-v.v coded c.in_ok-v.ensures.exact
    (λ h. false≢true (sym c.if-is_text_of.false ∙ c.is_text_of.ensures.1 h)) v has)
