-- Reading a text: a row that has its tokens is the row of the code that they are given.
use Rattle.std.proofs.Common.{◌≡◌, ℕ, ◌<◌, ◌≤◌, List, length, Option, Some, None, sym, subst, arith}
use Rattle.std.specs.Prelude.{IfSome}
use Rattle.hm_isa.specs.declared.Vector.{Vector}
use Rattle.hm_isa.specs.Code.{vector_code}
use Rattle.hm_text_base.proofs.Steps.{some_is}
use Rattle.hm_tokens.specs.Lines.{IsLineOf}
use Rattle.hm_tokens.specs.Tokens.{Tok}
use Rattle.hm_textv_codes.specs.Asked.{IsCodeIn}
use Rattle.hm_textv_codes.proofs.Rows.{text_law}
use Rattle.hm_textv_rows.specs.Rows.{HasTokens, IsTextOf}
use Rattle.hm_textv.proofs.Fits.{code_below}

pub the_code : (ts : List Tok) (w : ℕ) → IsCodeIn ts (Some w) → (v : Vector) → HasTokens v ts → vector_code v ≡ w
the_code ts w given v has = some_is (vector_code v) w (sym (given v has))

pub no_code : (ts : List Tok) → IsCodeIn ts None → (v : Vector) → HasTokens v ts → ⊥
no_code ts given v has = let f = given v has in cc

pub too_large : (ts : List Tok) (w : ℕ) → IsCodeIn ts (Some w) → 0xffff_ffff < w → (v : Vector) → HasTokens v ts → ⊥
too_large ts w given lt v has = let is = the_code ts w given v has in let below = code_below v in omega arith

-- AND A WHOLE TEXT
abbrev no_tokens : Option (List Tok)
no_tokens = None

abbrev these : List Tok → Option (List Tok)
these ts = Some ts

pub text_found : (text : List ℕ) (ts : List Tok) (r : Option Vector) → IsLineOf text ts → IfSome r (λ v. HasTokens v ts) → IfSome r (IsTextOf text)
text_found text ts (Some v) line has = (ts, line, has)
text_found text ts None line has = tt

pub text_only : (text : List ℕ) (ts : List Tok) (r : Option Vector) → ((us : List Tok) → IsLineOf text us → length us ≤ 40 → these ts ≡ these us)
    → ((v : Vector) → HasTokens v ts → r ≡ Some v) → (v : Vector) → IsTextOf text v → r ≡ Some v
text_only text ts r line row v is =
    let e = some_is ts is.0 (line is.0 is.1 (text_law v is.0 is.2).prints.few) in
    row v (subst (λ (us : List Tok). HasTokens v us) (sym e) is.2)

pub text_none : (text : List ℕ) → ((us : List Tok) → IsLineOf text us → length us ≤ 40 → no_tokens ≡ these us) → (v : Vector) → IsTextOf text v → ⊥
text_none text line v is = let e = line is.0 is.1 (text_law v is.0 is.2).prints.few in cc
