-- No row of one halfword has a mnemonic that begins with v.
use Rattle.std.proofs.Common.{◌≡◌, false, refl, ap, ◌∙◌, arith}
use Rattle.hm_isa.specs.declared.narrow.S25.TheVariants as s25
use Rattle.hm_isa.specs.declared.widths.NarrowRow.{NarrowRow}
use Rattle.hm_isa.specs.declared.widths.NarrowRow.TheVariants as narrow
use Rattle.hm_tokens.specs.Tokens.{Tok}
use Rattle.hm_text_rows.specs.Operands.{first_word}
use Rattle.hm_text16_codes.proofs.Unique.{begins}
use Rattle.hm_text16_rows.specs.Rows.{tokens_of}
use Rattle.hm_text_tables.proofs.VectorNames.{begins_with_v}

pub no_v : (r : NarrowRow) (t : Tok) → begins_with_v (first_word (tokens_of r t)) ≡ false
no_v (narrow.S20 i) t = ap begins_with_v (begins i.name i.x.value i.n.value i.list.value) ∙ grind arith
no_v (narrow.S25 (s25.Conditional i)) t = refl
no_v r t = grind arith
