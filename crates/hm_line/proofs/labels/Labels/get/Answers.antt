use Rattle.std.proofs.Common.{◌∙◌, sym, ap}
use Rattle.std.specs.FinMap.{get}
use Rattle.hm_line.proofs.LabelLaws.{got}
use Rattle.hm_line.proofs.labels.Labels.get.Goals as goal

pub returns : goal.returns
returns c = record {
  value = c.copied.ensures ∙ c.get.ensures.value ∙ sym (got c.args.name.now c.self.inside.addresses.entries) ∙ ap (λ m. get m c.args.name.now) c.self.view_is;
}
