use Rattle.std.proofs.Common.{List, ℕ, Some, map, sym, ap, ◌∙◌}
use Rattle.hm_isa.specs.declared.widths.WideRow.{WideRow}
use Rattle.hm_isa.specs.Code.{wide_code}
use Rattle.hm_text_base.specs.Spans.{span}
use Rattle.hm_tokens.specs.Tokens.{point, tok}
use Rattle.hm_text32_codes.specs.Operands.{operands_in, read_wide_operands}
use Rattle.hm_text32_codes.proofs.Forms.{mnemonic_in}
use Rattle.hm_text32_codes.proofs.Rows.{other_law, row_law}
use Rattle.hm_text32_codes.proofs.codes.code_in.Goals as goal

-- the mnemonic and the operands that the calls read are those of the tokens
pub returns : goal.returns
returns c =
    let cut = c.span.ensures.parts ∙ ap (span point) c.first_word.ensures.value in
    let mnemonic = ap (λ (p : List ℕ × List ℕ). p.0) cut in
    let suffix = ap (λ (p : List ℕ × List ℕ). p.1) cut in
    let operands = c.read_wide_operands-o.ensures ∙ ap (λ (f : List ℕ). read_wide_operands f (map tok c.args.tokens.now)) suffix in
    record {
      code =
          λ r t label reaches e. c.code_of.ensures.row r t
          (mnemonic ∙ ap mnemonic_in e ∙ (row_law r).mnemonic t, operands ∙ ap operands_in e ∙ (row_law r).gives t label) reaches;
      other =
          λ r e.
          let o = other_law r _ e in
          c.code_of.ensures.bare o.barrier (o.option, mnemonic ∙ o.mnemonic, operands ∙ o.gives)
          ∙ ap (λ (x : WideRow). Some (wide_code x)) (sym o.is);
    }
