use Rattle.std.proofs.Common.{Some, None, ◌∙◌, refl}
use Rattle.std.proofs.lemmas.Bool.Decides.{Decides-eqb}
use Rattle.std.proofs.lemmas.Slice.Eq.{strip_prefix_is}
use Rattle.hm_journal.proofs.Cuts.{tells, tells_end}
use Rattle.hm_journal.proofs.formats.is_report.Goals as goal

pub returns-in-Some : goal.returns-in-Some
returns-in-Some c =
    let front = c.parts_in.result.0.now in
    let behind = c.parts_in.result.1.now in
    let begins = strip_prefix_is Decides-eqb c.args.text.now front (Some c.in-Some.rest) c.in-Some.ensures.cases in
    let ends = tells c.eq.result c.in-Some.rest.now behind c.in-Some.rest.now behind c.eq.ensures refl refl in
    record { value = tells_end front c.in-Some.rest.now behind _ _ _ begins c.parts_in.ensures.value ends }

pub returns-in-None : goal.returns-in-None
returns-in-None c =
    let never = strip_prefix_is Decides-eqb c.args.text.now c.parts_in.result.0.now None c.in-None.ensures.cases in
    record { value = (λ no. absurd cc, λ same. absurd (never c.parts_in.result.1.now (same ∙ c.parts_in.ensures.value))) }
