-- What a call does of the effect of its words.
use Rattle.std.proofs.Common.{◌≡◌, List, [], ℕ, Some, None, Result, Ok, Err, refl, sym, subst, ◌∙◌, inl, inr}
use Rattle.hm_base.specs.Image.{Segment}
use Rattle.hm_codes.specs.Listing.{Listing}
use Rattle.hm_commands.proofs.Calling.{made_after}
use Rattle.hm_commands.proofs.Carrying.{AreRead, spent_reads, told_reading, told_reading-told}
use Rattle.hm_commands.specs.Calls.{MakesCalls, read_calls, to_fault, to_memory, way_of}
use Rattle.hm_commands.specs.Effect.{Reading, too_large, whole}
use Rattle.hm_commands.specs.declared.status.Status.{Status}
use Rattle.hm_commands.specs.declared.status.Status.TheVariants.{Done, Ended, HostFault, NoMemory, Refused, Usage}
use Rattle.hm_work.specs.declared.work.Refusal.TheVariants.{FileTooLarge}
use Rattle.hm_work.specs.declared.work.Stop.{Stop}
use Rattle.hm_work.specs.declared.work.Stop.TheVariants as stop
use Rattle.hm_host.specs.Host.{FileMap, HostState, Rose, Stays}
use Rattle.hm_shake.specs.declared.shaking.Findings.{Findings}
use Rattle.helium_shake.specs.Effects.{Carries, Effect, GivesEffect, IsDone, IsEffect, IsEffectFor, Shakes, calls_for, found_effect, refused_effect}
use Rattle.helium_shake.specs.Effects.{usage_effect}
use Rattle.helium_shake.specs.Words.{Asked, reads_of}

-- an effect is carried out behind reads, which left the files, what was printed and the count of faults
done_after : (x : Effect) (old mid new : HostState) (s : Status) → Stays old.files mid.files → Stays old.printed mid.printed → mid.faults ≡ old.faults
    → IsDone x mid new s → IsDone x old new s
done_after x old mid new s files printed same h =
    record { status_is = h.status_is; faults = h.faults ∙ same; files = λ F is. h.files F (files F is); printed = λ P is. h.printed P (printed P is) }

carries_after : (x : Effect) (old mid new : HostState) (s : Status) → Stays old.files mid.files → Stays old.printed mid.printed → mid.faults ≡ old.faults
    → Carries x mid new s → Carries x old new s
carries_after x old mid new Done files printed same h = done_after x old mid new Done files printed same h
carries_after x old mid new Ended files printed same h = done_after x old mid new Ended files printed same h
carries_after x old mid new Usage files printed same h = done_after x old mid new Usage files printed same h
carries_after x old mid new Refused files printed same h = done_after x old mid new Refused files printed same h
carries_after x old mid new HostFault files printed same h = (
  subst (λ (n : ℕ). Rose n new.faults) same h.0,
  elim h.1 [
    | inl c ↦ inl (record {
      files = record {
        done = c.files.done;
        last = c.files.last;
        left = c.files.left;
        parts_are = c.files.parts_are;
        others = λ F is. c.files.others F (files F is);
      };
      printed = λ P is. c.printed P (printed P is);
    })
    | inr c ↦ inr (record { files = λ F is. c.files F (files F is); printed = λ P is. c.printed P (printed P is) })
  ],
)
carries_after x old mid new NoMemory files printed same h = record {
  faults = h.faults ∙ same;
  files = record { done = h.files.done; left = h.files.left; parts_are = h.files.parts_are; files_are = λ F is. h.files.files_are F (files F is) };
  printed = λ P is. h.printed P (printed P is);
}

-- words that ask for nothing: the line of usage was printed
pub usage_said : (listings : List Segment → Listing) (old new : HostState) (s : Status) → Carries usage_effect old new s
    → MakesCalls (calls_for usage_effect) old.calls new.calls (way_of s)
    → Shakes listings None old new s
usage_said listings old new s h calls = record {
  reading = told_reading old.files [];
  told = told_reading-told old.files [];
  begins = inl (usage_effect, refl, record { carries = h; calls = λ F is. calls });
}

-- memory ran out before the effect
pub lost : (listings : List Segment → Listing) (a : Asked) (old new : HostState) → Stays old.files new.files → Stays old.printed new.printed
    → new.faults ≡ old.faults
    → ((F : FileMap) → old.files ≡ Some F → MakesCalls (read_calls F (reads_of a)) old.calls new.calls to_memory) → Shakes listings (Some a) old new NoMemory
lost listings a old new files printed same calls = record {
  reading = told_reading old.files (reads_of a);
  told = told_reading-told old.files (reads_of a);
  begins = inr (record { untouched = (same, files, printed); calls = calls });
}

-- a read failed
pub failed : (listings : List Segment → Listing) (a : Asked) (old new : HostState) → Stays old.files new.files → Stays old.printed new.printed
    → Rose old.faults new.faults
    → ((F : FileMap) → old.files ≡ Some F → MakesCalls (read_calls F (reads_of a)) old.calls new.calls to_fault) → Shakes listings (Some a) old new HostFault
failed listings a old new files printed rose calls = record {
  reading = told_reading old.files (reads_of a);
  told = told_reading-told old.files (reads_of a);
  begins = inr (record { untouched = (rose, files, printed); calls = calls });
}

-- the reads gave this, and then an effect of it was carried out
reached : (listings : List Segment → Listing) (a : Asked) (old mid new : HostState) (s : Status) (reading : Reading) (x : Effect)
    → IsEffect listings (Some a) reading x → AreRead (reads_of a) reading old mid
    → Carries x mid new s → MakesCalls (calls_for x) mid.calls new.calls (way_of s) → Shakes listings (Some a) old new s
reached listings a old mid new s reading x of are h rest = record {
  reading = reading;
  told = λ F is. sym (are.told F is);
  begins = inl (
    x,
    of,
    record {
      carries = carries_after x old mid new s are.files are.printed are.faults h;
      calls = λ F is. made_after (read_calls F (reads_of a)) (calls_for x) old.calls mid.calls new.calls (way_of s) (are.calls F is) rest;
    },
  );
}

-- a file was too large
pub reached_large : (listings : List Segment → Listing) (a : Asked) (old mid new : HostState) (s : Status) → AreRead (reads_of a) too_large old mid
    → Carries (refused_effect FileTooLarge) mid new s → MakesCalls (calls_for (refused_effect FileTooLarge)) mid.calls new.calls (way_of s)
    → Shakes listings (Some a) old new s
reached_large listings a old mid new s are h rest = reached listings a old mid new s too_large (refused_effect FileTooLarge) refl are h rest

-- the reads gave these contents, and then what was made of them was carried out
pub reached_whole : (listings : List Segment → Listing) (a : Asked) (old mid new : HostState) (s : Status) (contents : List (List ℕ))
    (answer : Result Findings Stop)
    → GivesEffect (IsEffectFor listings a contents) a.schedule answer → AreRead (reads_of a) (whole contents) old mid
    → ((x : Effect) → GivesEffect (λ y. y ≡ x) a.schedule answer → Carries x mid new s)
    → ((x : Effect) → GivesEffect (λ y. y ≡ x) a.schedule answer → MakesCalls (calls_for x) mid.calls new.calls (way_of s))
    → (answer ≡ Err stop.NoMemory → (s ≡ NoMemory) × (new ≡ mid)) → Shakes listings (Some a) old new s
reached_whole listings a old mid new s contents (Ok f) gives are h rest wanted =
    let x = found_effect a.schedule f in
    reached listings a old mid new s (whole contents) x gives are (h x refl) (rest x refl)
reached_whole listings a old mid new s contents (Err (stop.Refused why)) gives are h rest wanted =
    let x = refused_effect why in
    reached listings a old mid new s (whole contents) x gives are (h x refl) (rest x refl)
reached_whole listings a old mid new s contents (Err stop.NoMemory) gives are h rest wanted =
    subst (λ (x : HostState). Shakes listings (Some a) old x s) (sym (wanted refl).1)
    (subst (λ (x : Status). Shakes listings (Some a) old mid x) (sym (wanted refl).0)
    (lost listings a old mid are.files are.printed are.faults (λ F is. spent_reads (read_calls F (reads_of a)) old.calls mid.calls (are.calls F is))))
