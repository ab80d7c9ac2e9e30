-- One effect carries all that is told of an effect.
use Rattle.std.proofs.Common.{◌≡◌, List, ◌∷◌, ◌++◌, Option, Some, None, refl, ap, subst, ◌∙◌, inl, inr, append_assoc, ℕ}
use Rattle.hm_host.specs.Host.{Call, Changes, FileMap, HostState, Made, Stays}
use Rattle.hm_commands.specs.declared.status.Status.{Status}
use Rattle.hm_commands.specs.declared.status.Status.TheVariants.{HostFault, NoMemory}
use Rattle.hm_commands.specs.Calls.{MadeSome, MadeToFault, MakesCalls, Way, to_end, to_fault, to_memory, read_calls, way_of}
use Rattle.hm_commands.specs.Effect.{BeginsOne, IsBegun, ButForFile, Carries, CutsReads, DoesEffect, Effect, IsUntouched, IsNotReached, calls_for}
use Rattle.hm_commands.proofs.Ending.{carried_done}

-- MORE CALLS that were to be made
fault_more : (calls rest : List Call) (old new : List Made) → MadeToFault calls old new → MadeToFault (calls ++ rest) old new
fault_more calls rest old new h = record {
  done = h.done;
  last = h.last;
  left = h.left ++ rest;
  parts_are = ap (λ (c : List Call). c ++ rest) h.parts_are ∙ append_assoc h.done (h.last ∷ h.left) rest;
  made_are = h.made_are;
}

some_more : (calls rest : List Call) (old new : List Made) → MadeSome calls old new → MadeSome (calls ++ rest) old new
some_more calls rest old new h = record {
  done = h.done;
  left = h.left ++ rest;
  parts_are = ap (λ (c : List Call). c ++ rest) h.parts_are ∙ append_assoc h.done h.left rest;
  made_are = h.made_are;
}

changes_more : {A : Type 0} (R Q : A → A → Type 0) (old new : Option A) → ((x y : A) → R x y → Q x y) → Changes R old new → Changes Q old new
changes_more R Q old new f h = λ x is. let k = h x is in (k.0, k.1, f x k.0 k.2)

cut_more : (reads rest : List Call) (old new : Option (List Made)) (way : Way) → CutsReads reads old new way → MakesCalls (reads ++ rest) old new way
cut_more reads rest old new to_end h = absurd h
cut_more reads rest old new to_fault h = changes_more (MadeToFault reads) (MadeToFault (reads ++ rest)) old new (fault_more reads rest) h
cut_more reads rest old new to_memory h = elim h [
  | inl untold ↦ inl untold
  | inr some ↦ inr (changes_more (MadeSome reads) (MadeSome (reads ++ rest)) old new (some_more reads rest) some)
]

-- WHERE NOTHING WAS TOUCHED any effect may have been cut
same_files : (file : Option (List ℕ × List ℕ)) (F : FileMap) → ButForFile file F F
same_files None F = refl
same_files (Some file) F = λ other ne. refl

untouched_carries : (e : Effect) (old new : HostState) (s : Status) → IsUntouched old new s → Carries e old new s
untouched_carries e old new HostFault h = (h.0, inl (record { files = λ F is. (F, h.1 F is, same_files e.file F); printed = h.2 }))
untouched_carries e old new NoMemory h = record { faults = h.0; files = inl h.1; printed = h.2 }
untouched_carries e old new s h = absurd h

untouched_files : (old new : HostState) (s : Status) → IsUntouched old new s → s ≡ NoMemory → Stays old.files new.files
untouched_files old new s h is = (subst (IsUntouched old new) is h).1

-- ONE EFFECT: what is told of an effect is told of one and the same
all_of : (names : List (List ℕ)) (e : Effect) (F : FileMap) (old new : HostState) (s : Status) → old.files ≡ Some F → IsBegun names e old new s
    → DoesEffect (read_calls F names) e old new s
all_of names e F old new s told h =
    record { carries = h.carries; complete = carried_done e old new s h.carries; calls = h.calls F told; spent = h.spent F told }

-- any effect may have been cut where none was reached
none_of : (names : List (List ℕ)) (e : Effect) (F : FileMap) (old new : HostState) (s : Status) → old.files ≡ Some F → IsNotReached names old new s
    → DoesEffect (read_calls F names) e old new s
none_of names e F old new s told h =
    let carries = untouched_carries e old new s h.untouched in
    record {
      carries = carries;
      complete = carried_done e old new s carries;
      calls = cut_more (read_calls F names) (calls_for e) old.calls new.calls (way_of s) (h.calls F told);
      spent = λ wanted. inl (untouched_files old new s h.untouched wanted);
    }

pub does_one : (names : List (List ℕ)) (Is : Effect → Type 0) (F : FileMap) (old new : HostState) (s : Status) → old.files ≡ Some F → (e : Effect) × Is e
    → BeginsOne IsBegun names Is old new s
    → (e : Effect) × Is e × DoesEffect (read_calls F names) e old new s
does_one names Is F old new s told some (inl one) = (one.0, one.1, all_of names one.0 F old new s told one.2)
does_one names Is F old new s told some (inr none) = (some.0, some.1, none_of names some.0 F old new s told none)
