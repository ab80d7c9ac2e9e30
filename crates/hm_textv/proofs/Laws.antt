-- Every row's text: it is printed in 96 bytes, and read back.
use Rattle.std.proofs.Common.{◌≡◌, ℕ, ◌≤◌, List, length, inl, refl, sym, subst}
use Rattle.hm_isa.specs.declared.Vector.{Vector}
use Rattle.hm_tokens.specs.Lines.{IsLineOf, printed}
use Rattle.hm_textv_rows.specs.Rows.{IsTextOf, tokens_of}
use Rattle.hm_textv_codes.proofs.Rows.{row_law}

pub printed_room : (v : Vector) → length (printed (tokens_of v)) ≤ 96
printed_room v = (row_law v).prints.room

pub printed_read : (v : Vector) (text : List ℕ) → text ≡ printed (tokens_of v) → IsTextOf text v
printed_read v text e = (tokens_of v, subst (λ (t : List ℕ). IsLineOf t (tokens_of v)) (sym e) (row_law v).prints.again, inl refl)
