-- What holds of both sides of a choice.
use Rattle.std.proofs.Common.{Bool, true, false, cond}
use Rattle.std.specs.Prelude.{Option, Some, None, Result, IfOk}
use Rattle.hm_base.specs.Results.{unless}

pub either : {A : Type 0} (P : A → Type 0) (b : Bool) (x y : A) → P x → P y → P (cond b x y)
either P true x y h k = h
either P false x y h k = k

pub if_done : {A E : Type 0} (P : A → Type 0) (o : Option E) (x : Result A E) → IfOk x P → IfOk (unless o x) P
if_done P (Some e) x h = tt
if_done P None x h = h
