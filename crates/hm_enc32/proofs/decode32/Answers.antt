use Rattle.std.proofs.Common.{◌≡◌, ℕ, sym, ◌∙◌}
use Rattle.hm_isa.specs.declared.Instr.{Instr}
use Rattle.hm_layout.proofs.Exact.{exact}
use Rattle.hm_codes.proofs.Unique.{unique_code}
use Rattle.hm_layout.specs.Wide.{HasWord}
use Rattle.hm_enc32.proofs.Rows.{no_instruction, word_halves}
use Rattle.hm_enc32.proofs.decode32.Goals as goal

one_word : (w : ℕ) (i j : Instr) → HasWord i w → HasWord j w → i ≡ j
one_word w i j h k = unique_code i j (word_halves i w h ∙ sym (word_halves j w k))

pub returns-clause-none : goal.returns-clause-none
returns-clause-none c = no_instruction c.find.result c.args.w c.find.ensures.none

pub returns-clause-exact : goal.returns-clause-exact
returns-clause-exact c =
    exact (λ i. HasWord i c.args.w) (one_word c.args.w) _ c.find.ensures.found (no_instruction c.find.result c.args.w c.find.ensures.none)
