use Rattle.std.proofs.Common.{◌≡◌, sym, ◌∙◌, [], ◌∷◌}
use Rattle.hm_isa.specs.Code.{halfwords}
use Rattle.hm_layout.proofs.Exact.{exact}
use Rattle.hm_codes.proofs.Unique.{unique_code}
use Rattle.hm_enc16.proofs.Rows.{no_instruction}
use Rattle.hm_enc16.proofs.decode16.Goals as goal

pub returns-clause-none : goal.returns-clause-none
returns-clause-none c = no_instruction c.find.result c.args.h c.find.ensures.none

pub returns-clause-exact : goal.returns-clause-exact
returns-clause-exact c =
    exact (λ i. halfwords i ≡ c.args.h ∷ []) (λ i j e f. unique_code i j (e ∙ sym f)) _ c.find.ensures.found
    (no_instruction c.find.result c.args.h c.find.ensures.none)
