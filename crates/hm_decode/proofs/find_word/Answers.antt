use Rattle.std.proofs.Common.{◌≡◌, ℕ, Option, None, Some, ap, sym, ◌∙◌}
use Rattle.std.specs.Prelude.{IfNone, IfSome}
use Rattle.hm_isa.specs.declared.Instr.{Instr}
use Rattle.hm_isa.specs.declared.Vector.{Vector}
use Rattle.hm_isa.specs.declared.widths.ByWidth.{ByWidth}
use Rattle.hm_isa.specs.declared.widths.ByWidth.TheVariants as by
use Rattle.hm_isa.specs.Code.{halfwords, halves_by_width, two_halves, vector_code}
use Rattle.hm_isa.specs.Widths.{by_width}
use Rattle.hm_codes.proofs.Widths.{joined, rejoined}
use Rattle.hm_enc32.proofs.Rows.{word_halves}
use Rattle.hm_layout.specs.Wide.{HasWord, IsWordOf}
use Rattle.hm_decode.proofs.find_word.Goals as goal

-- two halves tell a code
halves_tell : (c d : ℕ) → two_halves c ≡ two_halves d → c ≡ d
halves_tell c d e = sym (rejoined c) ∙ ap joined e ∙ rejoined d

found : (w : ℕ) (o : Option Instr) → IfSome o (λ i. HasWord i w) → IfSome o (λ i. halfwords i ≡ two_halves w)
found w None h = tt
found w (Some i) h = word_halves i w h

module _ (w : ℕ) (no : (v : Vector) → vector_code v ≡ w → ⊥) where
  no_row_of_width : (b : ByWidth) → (IsWordOf b w → ⊥) → halves_by_width b ≡ two_halves w → ⊥
  no_row_of_width (by.Narrow r) h e = cc
  no_row_of_width (by.Wide r) h e = h (halves_tell _ _ e)
  no_row_of_width (by.Vector r) h e = no r (halves_tell _ _ e)

  none : (o : Option Instr) → IfNone o ((i : Instr) → HasWord i w → ⊥) → IfNone o ((i : Instr) → halfwords i ≡ two_halves w → ⊥)
  none (Some i) h = tt
  none None h = λ i. no_row_of_width (by_width i) (h i)

pub returns-clause-found : goal.returns-clause-found
returns-clause-found c = found c.args.w c.decode32.result c.decode32.ensures.found

pub returns-clause-none : goal.returns-clause-none
returns-clause-none c = none c.args.w c.in_default.ensures.none c.decode32.result c.decode32.ensures.none
