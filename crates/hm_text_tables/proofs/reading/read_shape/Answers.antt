use Rattle.std.proofs.Common.{◌≡◌, List, Some, map, subst}
use Rattle.std.specs.Prelude.{IfSome, option_map}
use Rattle.hm_isa.specs.declared.Instr.{Instr}
use Rattle.hm_tokens.specs.Tokens.{Tok, tok}
use Rattle.hm_isa.specs.Code.{width_of}
use Rattle.hm_text_tables.specs.Tables.{HasTokens, Seen, label_of}
use Rattle.hm_text_tables.proofs.InTables.{too_many_tokens}
use Rattle.hm_text_tables.proofs.reading.read_shape.Goals as goal

pub returns-in_err-single-clause-only : goal.returns-in_err-single-clause-only
returns-in_err-single-clause-only c i u has =
    absurd (too_many_tokens (map tok c.args.tokens.now) c.in_err-single.ensures.none i u has)

pub returns-clause-found : goal.returns-clause-found
returns-clause-found c =
    subst
    (λ (x : List Tok). IfSome c.single_shape.result (λ s. (i : Instr) × (t : Tok) × HasTokens i t x × (s.width ≡ width_of i)
    × (option_map tok s.label ≡ label_of i t)))
    c.in_ok-single.ensures.found (rw c.as_slice.ensures.value at c.single_shape.ensures.found)

pub returns-clause-only : goal.returns-clause-only
returns-clause-only c =
    subst
    (λ (x : List Tok). (i : Instr) (t : Tok) → HasTokens i t x
    → option_map {U = Seen} (λ s. (s.width, option_map tok s.label)) c.single_shape.result ≡ Some (width_of i, label_of i t))
    c.in_ok-single.ensures.found (rw c.as_slice.ensures.value at c.single_shape.ensures.only)
