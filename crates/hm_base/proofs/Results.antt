-- What a result tells of the refusal that stood before it.
use Rattle.std.proofs.Common.{◌≡◌, Option, Some, None, Result, Ok, refl}
use Rattle.hm_base.specs.Results.{unless}

-- where the result is there, nothing stopped before it
pub unless_ok : {A E : Type 0} (o : Option E) (r : Result A E) (x : A) → unless o r ≡ Ok x → (o ≡ None) × (r ≡ Ok x)
unless_ok None r x h = (refl, h)
unless_ok (Some e) r x h = absurd cc
