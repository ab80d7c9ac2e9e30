use Rattle.std.proofs.Common.{rules, sym, ◌∙◌}
use Rattle.std.proofs.lemmas.Slice.Eq.{bytes_eq-Decides}
use Rattle.hm_kernel_text.proofs.NameSteps.{name_at-is}
use Rattle.hm_kernel_text.proofs.names.position.Goals as goal

pub returns-then-eq-clause-name : goal.returns-then-eq-clause-name
returns-then-eq-clause-name c =
    name_at-is c.args.arrays.now c.loop-i.i c.index-arrays-i.result (search rules) c.index-arrays-i.is
    ∙ sym c.as_slice.ensures.value ∙ (bytes_eq-Decides c.as_slice.result.now c.args.name.now).0 (sym c.if-eq.ensures)
