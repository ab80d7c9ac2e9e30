use Rattle.std.proofs.Common.{◌≡◌, List, [], ◌∷◌, length, map, refl, ap, sym, ◌∙◌}
use Rattle.std.proofs.lemmas.List.{length-reverse}
use Rattle.std.specs.Prelude.{reverse}
use Rattle.hm_cpu.specs.Cpus.{interrupted_of}
use Rattle.hm_exc.specs.declared.types.Activation.{Activation}
use Rattle.hm_run_laws.specs.Runs.{stacked_of}
use Rattle.hm_machine.proofs.machine.Machine.active.Goals as goal

-- what is shown of activations is what was put away
stacked_back : (zs : List Activation) → map stacked_of (map interrupted_of zs) ≡ zs
stacked_back [] = refl
stacked_back (z ∷ zs) = ap (λ (l : List Activation). z ∷ l) (stacked_back zs)

pub returns : goal.returns
returns c =
    let items = c.self.inside.cpu.acts.items in
    record {
      value = rw (← c.self.view_is) (ap reverse c.as_slice.ensures.value ∙ sym (stacked_back (reverse items)));
      count = rw (← c.self.view_is) (ap length c.as_slice.ensures.value ∙ sym (ap length (stacked_back (reverse items)) ∙ length-reverse items));
    }
