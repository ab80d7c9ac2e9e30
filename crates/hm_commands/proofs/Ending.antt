-- What a status tells, whatever the host tells.
use Rattle.std.proofs.Common.{◌≡◌, ◌≢◌, ◌⊎◌, ◌<◌, ℕ, ◌∙◌, ap, refl, sym, inl, inr, Option, Some, true, subst, arith, List}
use Rattle.hm_base.specs.Image.{Segment}
use Rattle.hm_codes.specs.Listing.{Listing}
use Rattle.hm_host.specs.Host.{FileMap, HostState, Stays, Rose}
use Rattle.hm_commands.specs.declared.status.Status.{Status}
use Rattle.hm_commands.specs.declared.status.Status.TheVariants.{Usage, Refused, HostFault, NoMemory}
use Rattle.hm_words.specs.Words.{Form, form_of}
use Rattle.hm_work.specs.Work.{Outcome, finishes}
use Rattle.hm_commands.specs.Effect.{Effect, Reading, whole, too_large, missing, reading_of, reads_for, IsEffectAfter, IsEffectBy, IsEffect, effect_for}
use Rattle.hm_commands.specs.Effect.{BeginsOne, IsBegun, IsDone, IsUntouched, Carries, Does, DoesOne}

not_usage : (o : Outcome) → (effect_for o).status ≡ Usage → ⊥
not_usage (finishes true file text) h = cc
not_usage o h = cc

status_not_usage : (Comes : List (List ℕ) → Outcome → Type 0) (r : Reading) (e : Effect) → IsEffectBy Comes r e → e.status ≡ Usage → ⊥
status_not_usage Comes (whole contents) e of h = not_usage of.0 (sym (ap (λ (x : Effect). x.status) of.2) ∙ h)
status_not_usage Comes too_large e of h = let no : Refused ≡ Usage = sym (ap (λ (x : Effect). x.status) of) ∙ h in cc
status_not_usage Comes missing e of h = let no : HostFault ≡ Usage = sym (ap (λ (x : Effect). x.status) of) ∙ h in cc

pub DoesOne-usage : (names : List (List ℕ)) (Comes : List (List ℕ) → Outcome → Type 0) (old new : HostState) (s : Status)
    → DoesOne names (IsEffectBy Comes) old new s → s ≡ Usage → ⊥
DoesOne-usage names Comes old new s h is = elim h.begins [
  | inl one ↦ status_not_usage Comes h.reading one.0 one.1 (subst (Carries one.0 old new) is one.2.carries).status_is
  | inr none ↦ subst (IsUntouched old new) is none.untouched
]

pub DoesOne-host_fault : (names : List (List ℕ)) (Is : Reading → Effect → Type 0) (old new : HostState) (s : Status) → DoesOne names Is old new s
    → s ≡ HostFault → Rose old.faults new.faults
DoesOne-host_fault names Is old new s h is = elim h.begins [
  | inl one ↦ (subst (Carries one.0 old new) is one.2.carries).0
  | inr none ↦ (subst (IsUntouched old new) is none.untouched).0
]

risen : (e : Effect) (old new : HostState) (s : Status) → Carries e old new s → old.faults < new.faults → s ≡ HostFault
risen e old new HostFault h rose = refl
risen e old new s h rose = absurd (let same : new.faults ≡ old.faults = h.faults in omega arith)

untouched_risen : (old new : HostState) (s : Status) → IsUntouched old new s → old.faults < new.faults → s ≡ HostFault
untouched_risen old new HostFault h rose = refl
untouched_risen old new NoMemory h rose = absurd (let same : new.faults ≡ old.faults = h.0 in omega arith)
untouched_risen old new s h rose = absurd h

pub DoesOne-risen : (names : List (List ℕ)) (Is : Reading → Effect → Type 0) (old new : HostState) (s : Status) → DoesOne names Is old new s
    → old.faults < new.faults → s ≡ HostFault
DoesOne-risen names Is old new s h rose = elim h.begins [
  | inl one ↦ risen one.0 old new s one.2.carries rose
  | inr none ↦ untouched_risen old new s none.untouched rose
]

pub DoesOne-quiet : (names : List (List ℕ)) (Is : Reading → Effect → Type 0) (old new : HostState) (s : Status) → DoesOne names Is old new s → s ≡ NoMemory
    → Stays old.printed new.printed
DoesOne-quiet names Is old new s h is = elim h.begins [
  | inl one ↦ (subst (Carries one.0 old new) is one.2.carries).printed
  | inr none ↦ (subst (IsUntouched old new) is none.untouched).2
]

-- ---- by the words

-- what the reads gave is what the files hold that the words name
read_for_words : (form : Option Form) (words : List (List ℕ)) (F : FileMap) (reading : Reading) → reading ≡ reading_of F (reads_for form) → form ≡ form_of words
    → (reading ≡ reading_of F (reads_for (form_of words)))
read_for_words form words F reading read is = read ∙ ap (λ (o : Option Form). reading_of F (reads_for o)) is

pub Does-begins : (listings : List Segment → Listing) (form : Option Form) (words : List (List ℕ)) (old new : HostState) (s : Status) (F : FileMap)
    → form ≡ form_of words → Does listings form old new s → old.files ≡ Some F
    → BeginsOne IsBegun (reads_for (form_of words)) (IsEffect listings words F) old new s
Does-begins listings form words old new s F is h told =
    subst (λ (r : Reading). BeginsOne IsBegun (reads_for (form_of words)) (IsEffectAfter listings (form_of words) r) old new s)
    (read_for_words form words F h.reading (h.told F told) is)
    (subst (λ (o : Option Form). BeginsOne IsBegun (reads_for o) (IsEffectAfter listings o h.reading) old new s) is h.begins)

-- ---- what is complete

pub carried_done : (e : Effect) (old new : HostState) (s : Status) → Carries e old new s → s ≢ HostFault → (s ≡ NoMemory) ⊎ IsDone e old new s
carried_done e old new HostFault h ne = absurd (ne refl)
carried_done e old new NoMemory h ne = inl refl
carried_done e old new s h ne = inr h

pub untouched_wanted : (old new : HostState) (s : Status) → IsUntouched old new s → s ≢ HostFault → s ≡ NoMemory
untouched_wanted old new HostFault h ne = absurd (ne refl)
untouched_wanted old new NoMemory h ne = refl
untouched_wanted old new s h ne = absurd h
