use Rattle.std.proofs.Common.{◌≡◌, ap, arith, sym, ◌∙◌, codes, map, None, Some, option_and_then, option_map}
use Rattle.serde_json.specs.Data.{Data}
use Rattle.serde_json.specs.Find.{as_array, get}
use Rattle.serde_json.specs.View.{items_of, items_view, view}
use Rattle.hm_journal.proofs.Found.{checkpoints_in, every_in, ticks_fit}
use Rattle.hm_journal.proofs.Pairs.{items_same}
use Rattle.hm_journal.specs.Journals.{checkpoint_data, number_at}
use Rattle.hm_journal.specs.Views.{checkpoint_of}
use Rattle.hm_journal.proofs.reading.draft_in.Goals as goal

pub returns-in-Some-2-clause-draft : goal.returns-in-Some-2-clause-draft
returns-in-Some-2-clause-draft c j sound f e =
    let most = sound.most in
    let n : Some c.in-Some.every ≡ Some j.every = c.in-Some.ensures j.every (omega (arith, most)) (ap (number_at (codes "every")) e ∙ every_in j) in
    let every : c.in-Some.every ≡ j.every = cc in
    let found : Some (items_view c.in-Some-values_at.values.now.items) ≡ Some (items_of (map checkpoint_data j.checkpoints))
    = c.in-Some-values_at.ensures ∙ ap (λ (d : Data). option_and_then as_array (get (codes "checkpoints") d)) e ∙ checkpoints_in j in
    let items : items_view c.in-Some-values_at.values.now.items ≡ items_of (map checkpoint_data j.checkpoints) = cc in
    let did = c.in_ok-checkpoints.ensures j.checkpoints (ticks_fit j sound) (ap (map view) c.deref.ensures.value ∙ items_same _ _ items) in
    let some : Some (map checkpoint_of c.in-Some-2.checkpoints.items) ≡ Some j.checkpoints =
    sym (ap (option_map (λ v. map checkpoint_of v.items)) c.in-Some-2.is) ∙ did in
    let marks : map checkpoint_of c.in-Some-2.checkpoints.items ≡ j.checkpoints = cc in
    λ i. Some (record { format = sym f i; every = every i; checkpoints = marks i })

pub returns-in-None-clause-draft : goal.returns-in-None-clause-draft
returns-in-None-clause-draft c j sound f e =
    let found : Some (items_view c.in-Some-values_at.values.now.items) ≡ Some (items_of (map checkpoint_data j.checkpoints))
    = c.in-Some-values_at.ensures ∙ ap (λ (d : Data). option_and_then as_array (get (codes "checkpoints") d)) e ∙ checkpoints_in j in
    let items : items_view c.in-Some-values_at.values.now.items ≡ items_of (map checkpoint_data j.checkpoints) = cc in
    let did = c.in_ok-checkpoints.ensures j.checkpoints (ticks_fit j sound) (ap (map view) c.deref.ensures.value ∙ items_same _ _ items) in
    let no : None ≡ Some j.checkpoints = sym (ap (option_map (λ v. map checkpoint_of v.items)) c.in-None.is) ∙ did in
    absurd cc
