use Rattle.std.proofs.Common.{◌≡◌, ℕ, List, ap, sym, ◌∙◌, rules}
use Rattle.std.specs.Prelude.{not}
use Rattle.std.specs.FinMap.{insert}
use Rattle.hm_line.specs.Labels.{LabelMap, labels_of}
use Rattle.hm_line.proofs.LabelLaws.{is_told, inserted}
use Rattle.hm_line.proofs.labels.Labels.add.Goals as goal

pub returns-then-contains_key-clause-told : goal.returns-then-contains_key-clause-told
returns-then-contains_key-clause-told c =
    ap not (sym c.if-contains_key.true)
    ∙ is_told c.args.self.now c.args.name.now c.self.inside.addresses.entries c.contains_key.result c.self.view_is c.contains_key.ensures

pub returns-clause-told : goal.returns-clause-told
returns-clause-told c =
    ap not (sym c.if-contains_key.false)
    ∙ is_told c.args.self.now c.args.name.now c.self.inside.addresses.entries c.contains_key.result c.self.view_is c.contains_key.ensures

pub returns-clause-added : goal.returns-clause-added
returns-clause-added c =
    let items : c.in_ok-name.name.items ≡ c.args.name.now = search rules in
    ap labels_of c.in_ok-insert.ensures.entries
    ∙ inserted c.in_ok-name.name c.args.addr c.self.inside.addresses.entries
    ∙ ap (λ (m : LabelMap). insert m c.in_ok-name.name.items c.args.addr) c.self.view_is
    ∙ ap (λ (q : List ℕ). insert c.args.self.now q c.args.addr) items
