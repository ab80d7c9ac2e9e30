-- What an access that nothing stops tells, and that what stops a store does not depend on the memory.
use Rattle.std.proofs.Common.{◌≡◌, ℕ, Bool, true, false, Option, Some, None, refl, ◌∙◌, ap, arith}
use Rattle.std.proofs.lemmas.Bool.Decides.{nat_tests}
use Rattle.std.specs.Option.{option_or}
use Rattle.hm_base.specs.declared.FaultKind.{FaultKind}
use Rattle.hm_mem.specs.Devices.{device_word, in_devices}
use Rattle.hm_mem.specs.Memory.{Around, Bounds}
use Rattle.hm_mem.specs.Seen.{Seen, fault_kind, is_barred, is_thread, stop_after, stop_of}
use Rattle.hm_mem.specs.declared.Access.{Access}
use Rattle.hm_mem.specs.declared.Actor.{Actor}

-- of two, neither stops
pub neither_stops : {E : Type 0} (o p : Option E) → option_or o p ≡ None → (o ≡ None) × (p ≡ None)
neither_stops (Some e) p h = absurd cc
neither_stops None p h = (refl, h)

-- outside the devices no word of them stands
pub no_word : (a : ℕ) → in_devices a ≡ false → device_word a ≡ None
no_word a out = grind (arith, nat_tests, out)

-- there is no fault
pub no_fault : (k : Option FaultKind) (barred write : Bool) (a : ℕ) → stop_after k barred write a ≡ None → k ≡ None
no_fault (Some k) true write a h = cc
no_fault (Some k) false write a h = cc
no_fault None barred write a h = refl

pub fault_free : (x : Around) (how : Access) (write : Bool) (len a : ℕ) (s : Seen) → stop_of x how write len a s ≡ None
    → fault_kind (is_thread x.actor) how write len a ≡ None
fault_free x how write len a s h = no_fault (fault_kind (is_thread x.actor) how write len a) (is_barred x.actor x.bounds write len a s) write a h

-- nobody is barred
pub none_barred : (k : Option FaultKind) (barred : Bool) (a : ℕ) → stop_after k barred true a ≡ None → barred ≡ false
none_barred (Some k) barred a h = absurd cc
none_barred None true a h = absurd cc
none_barred None false a h = refl

-- what stops a store does not depend on what the memory holds
barred_store : (x : Bounds) (who : Actor) (len a : ℕ) (s t : Seen) → is_barred who x true len a s ≡ is_barred who x true len a t
barred_store x who len a s t = grind arith

pub stop_of-store : (x : Around) (how : Access) (len a : ℕ) (s t : Seen) → stop_of x how true len a s ≡ stop_of x how true len a t
stop_of-store x how len a s t = rw (barred_store x.bounds x.actor len a s t) refl

-- a store that does not stop does not stop in another memory either, if the same accesses it
pub stop_of-elsewhere : (x y : Around) (how : Access) (len a : ℕ) (s t : Seen) → x ≡ y → stop_of y how true len a t ≡ None → stop_of x how true len a s ≡ None
stop_of-elsewhere x y how len a s t e h = ap (λ z. stop_of z how true len a s) e ∙ (stop_of-store y how len a s t ∙ h)
