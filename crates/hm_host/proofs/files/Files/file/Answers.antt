use Rattle.std.proofs.Common.{ap, sym, ◌∙◌, map, Some, true, false}
use Rattle.std.specs.Ordering.{nat_cmp}
use Rattle.std.specs.Cmp.Lexicographic.{slice_cmp, nat_list_cmp_total}
use Rattle.std.specs.FinMap.{get, find, get-from_entries}
use Rattle.hm_host.specs.Files.{stored_entry}
use Rattle.hm_host.proofs.FilesLemmas.{find_next}
use Rattle.hm_host.proofs.files.Files.file.Goals as goal

pub loop-stored-init : goal.loop-stored-init
loop-stored-init c =
    ap (λ m. get m c.args.name.now) (sym c.self.view_is)
    ∙ get-from_entries nat_list_cmp_total _ _
    ∙ ap (λ s. find (slice_cmp nat_cmp) c.args.name.now (map stored_entry s)) (sym c.into_iter-stored-iterator.ensures.into_iter_gives.0)

pub returns-then-eq : goal.returns-then-eq
returns-then-eq c = record {
  value = ap Some c.deref.ensures.value
      ∙ sym (c.loop-stored.invariant ∙ find_next _ _ _ _ _ true c.in-Some.ensures.steps c.as_str.ensures.value c.if-eq.ensures);
}

pub loop-stored-preserved : goal.loop-stored-preserved
loop-stored-preserved c = c.loop-stored.invariant ∙ find_next _ _ _ _ _ false c.in-Some.ensures.steps c.as_str.ensures.value c.if-eq.ensures
