use Rattle.std.proofs.Common.{◌≡◌, sym, ◌∙◌}
use Rattle.hm_isa.specs.Code.{vector_code}
use Rattle.hm_layout.proofs.Exact.{exact}
use Rattle.hm_codes.proofs.Vectors.{unique_vector}
use Rattle.hm_encv.proofs.decodev.Goals as goal

pub returns-clause-exact : goal.returns-clause-exact
returns-clause-exact c =
    exact (λ v. vector_code v ≡ c.args.w) (λ u v e f. unique_vector u v (e ∙ sym f)) _ c.find.ensures.found c.find.ensures.none
