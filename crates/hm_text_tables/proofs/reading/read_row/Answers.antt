use Rattle.std.proofs.Common.{◌≡◌, List, Some, map, subst}
use Rattle.std.specs.Prelude.{IfSome}
use Rattle.hm_isa.specs.declared.Instr.{Instr}
use Rattle.hm_tokens.specs.Tokens.{Tok, tok}
use Rattle.hm_text_tables.specs.Tables.{IsRowOf}
use Rattle.hm_text_tables.proofs.InTables.{too_many}
use Rattle.hm_text_tables.proofs.reading.read_row.Goals as goal

pub returns-in_err-single-clause-only : goal.returns-in_err-single-clause-only
returns-in_err-single-clause-only c i is =
    absurd (too_many (map tok c.args.tokens.now) c.args.pc c.args.address c.in_err-single.ensures.none i is)

pub returns-clause-found : goal.returns-clause-found
returns-clause-found c =
    subst (λ (x : List Tok). IfSome c.row_with.result (λ i. IsRowOf x c.args.pc c.args.address i)) c.in_ok-single.ensures.found
    (rw c.as_slice.ensures.value at c.row_with.ensures.found)

pub returns-clause-only : goal.returns-clause-only
returns-clause-only c =
    subst (λ (x : List Tok). (i : Instr) → IsRowOf x c.args.pc c.args.address i → c.row_with.result ≡ Some i) c.in_ok-single.ensures.found
    (rw c.as_slice.ensures.value at c.row_with.ensures.only)
