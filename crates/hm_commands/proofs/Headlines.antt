-- The headline of a run, by what the top call carries out.
use Rattle.std.proofs.Common.{◌≡◌, ◌≢◌, ◌⊎◌, ◌≤◌, ◌%◌, ℕ, Bool, true, false, List, [], ◌∷◌, ◌++◌, length, get_or, Option, Some, None, Result, Ok, refl, sym, ap}
use Rattle.std.proofs.Common.{subst, ◌∙◌, inl, inr, arith}
use Rattle.std.specs.Prelude.{if◌then◌else◌}
use Rattle.std.proofs.lemmas.Bool.Decides.{nat_tests}
use Rattle.std.specs.FinMap.{get}
use Rattle.hm_base.specs.Image.{Segment, flash_byte}
use Rattle.hm_base.specs.declared.errors.ImageErr.{ImageErr}
use Rattle.hm_codes.specs.Listing.{Listing, IsListing}
use Rattle.hm_elf.specs.ReadImage.{image_in}
use Rattle.hm_ihex.specs.Files.{hex_in}
use Rattle.hm_ihex.proofs.HexFiles.{hex_only}
use Rattle.hm_work.specs.Images.{IsImageIn, IsImageOf, begins_as_hex, image_of}
use Rattle.hm_elf.proofs.ReadLaws.{image_again}
use Rattle.hm_run_laws.proofs.Lying.{taint_lies}
use Rattle.hm_run_laws.proofs.Headlines.{headline_every, riders_every}
use Rattle.hm_run_laws.specs.Runs.{shown_out}
use Rattle.hm_host.specs.Host.{FileMap, HostState, longest}
use Rattle.hm_run.specs.Report.{report_text, memory_text}
use Rattle.hm_state.specs.Start.{reset_pc}
use Rattle.hm_commands.specs.declared.status.Status.{Status}
use Rattle.hm_commands.specs.declared.status.Status.TheVariants.{Done, Ended, Usage, Refused, HostFault, NoMemory}
use Rattle.hm_work.specs.Commands.{AreListings, reported, told, run_outcome, seq_outcome, unless_refused}
use Rattle.hm_commands.specs.Effect.{Effect, Reading, whole, then_read, reading_of, reads_for, IsEffect, IsEffectAfter, effect_for, with_file, with_text}
use Rattle.hm_commands.specs.Effect.{BeginsOne, Carries, Does, IsBegun}
use Rattle.hm_sched.specs.Schedule.{Sched, plain, ticks_of}
use Rattle.hm_sched.specs.declared.errors.SchedErr.{SchedErr}
use Rattle.hm_sched.proofs.FileLaws.{file_again}
use Rattle.hm_commands.specs.Headline.{IsGiven, IsReported, RunsToHeadline, IsShownInOrder, RunsInOrder}
use Rattle.hm_work.specs.Run.{is_halted, schedule_in}
use Rattle.hm_soak_laws.proofs.Line.{one_listing}
use Rattle.hm_words.specs.Words.{Form, Source, ticks, file, run, seq, form_of, reads_of}
use Rattle.hm_words.proofs.Forms.{form_of-run, form_of-seq}
use Rattle.hm_commands.proofs.Ending.{Does-begins, untouched_wanted}
use Rattle.hm_work.proofs.Listed.{some_listings}
use Rattle.hm_work.proofs.Plainly.{plainly_halted, plainly_shown}
use Rattle.hm_work.proofs.Runs.{reset_refusal-odd}

-- a file that holds an image is read as it
image_of_again : (bytes : List ℕ) (image : List Segment) → IsImageOf bytes image → image_of bytes ≡ Ok image
image_of_again bytes image holds = by_form (begins_as_hex bytes) holds where
  by_form : (hex : Bool) → IsImageIn hex bytes image → (if hex then hex_in bytes else image_in bytes) ≡ Ok image
  by_form true h = hex_only bytes image h
  by_form false h = image_again bytes image h

then_read-whole : (bytes : List ℕ) (more : List (List ℕ)) → length bytes ≤ longest → then_read (Some bytes) (whole more) ≡ whole (bytes ∷ more)
then_read-whole bytes more fits = grind (arith, nat_tests)

read_one : (F : FileMap) (name bytes : List ℕ) → get F name ≡ Some bytes → length bytes ≤ longest → reading_of F (name ∷ []) ≡ whole (bytes ∷ [])
read_one F name bytes image fits = ap (λ (o : Option (List ℕ)). then_read o (whole [])) image ∙ then_read-whole bytes [] fits

-- what is read for a run whose schedule is given: its image and perhaps its schedule
record ReadFor (F : FileMap) (name bytes memory : List ℕ) (source : Source) (s : Sched) : Type 0 where
  more : List (List ℕ)
  reading : reading_of F (reads_of (run name source memory)) ≡ whole (bytes ∷ more)
  schedule : schedule_in source (get_or (bytes ∷ more) 1 []) ≡ Ok s

read_for : (F : FileMap) (name bytes memory : List ℕ) (source : Source) (s : Sched) → get F name ≡ Some bytes → length bytes ≤ longest → IsGiven F source s
    → ReadFor F name bytes memory source s
read_for F name bytes memory (ticks n) s image fits given = record {
  more = [];
  reading = read_one F name bytes image fits;
  schedule = ap (λ (s : Sched). Ok s) (sym given);
}
read_for F name bytes memory (file other) s image fits given = record {
  more = given.0 ∷ [];
  reading = ap (λ (o : Option (List ℕ)). then_read o (reading_of F (other ∷ []))) image
      ∙ ap (λ (o : Option (List ℕ)). then_read (Some bytes) (then_read o (whole []))) given.1
      ∙ ap (then_read (Some bytes)) (then_read-whole given.0 [] given.2)
      ∙ then_read-whole bytes (given.0 ∷ []) fits;
  schedule = file_again given.0 s given.3;
}

-- what a sound run is to do
effect-run : (listings : List Segment → Listing) (words : List (List ℕ)) (F : FileMap) (name bytes memory : List ℕ) (source : Source) (image : List Segment)
    (s : Sched) (e : Effect)
    → form_of words ≡ Some (run name source memory) → ReadFor F name bytes memory source s → IsImageOf bytes image → reset_pc image % 2 ≡ 1
    → IsEffect listings words F e → e ≡ effect_for (reported (shown_out (listings image) image s) memory)
effect-run listings words F name bytes memory source image s e asked read holds odd is =
    let one = subst (λ (o : Option Form). IsEffectAfter listings o (reading_of F (reads_for o)) e) asked is in
    let there = subst (λ (r : Reading). IsEffectAfter listings (Some (run name source memory)) r e) read.reading one in
    there.2 ∙ ap effect_for there.1
    ∙ ap (λ (r : Result Sched SchedErr). effect_for (run_outcome listings (image_of bytes) r memory)) read.schedule
    ∙ ap (λ (i : Result (List Segment) ImageErr). effect_for (run_outcome listings i (Ok s) memory)) (image_of_again bytes image holds)
    ∙ ap (λ o. effect_for (unless_refused o (reported (shown_out (listings image) image s) memory))) (reset_refusal-odd image odd)

-- what an effect that was done leaves
record Left (e : Effect) (F : FileMap) (P : List ℕ) (new : HostState) (s : Status) : Type 0 where
  printed : new.printed ≡ Some (with_text e.text P)
  files : new.files ≡ Some (with_file e.file F)
  ends : s ≡ e.status

left : (e : Effect) (F : FileMap) (P : List ℕ) (old new : HostState) (s : Status) → Carries e old new s
    → old.files ≡ Some F → old.printed ≡ Some P → s ≢ HostFault → (s ≡ NoMemory) ⊎ Left e F P new s
left e F P old new Done h files printed ne = inr (record { printed = h.printed P printed; files = h.files F files; ends = sym h.status_is })
left e F P old new Ended h files printed ne = inr (record { printed = h.printed P printed; files = h.files F files; ends = sym h.status_is })
left e F P old new Usage h files printed ne = inr (record { printed = h.printed P printed; files = h.files F files; ends = sym h.status_is })
left e F P old new Refused h files printed ne = inr (record { printed = h.printed P printed; files = h.files F files; ends = sym h.status_is })
left e F P old new HostFault h files printed ne = absurd (ne refl)
left e F P old new NoMemory h files printed ne = inl refl

-- the effect that was carried out is this one
left_one : (names : List (List ℕ)) (Is : Effect → Type 0) (d : Effect) (F : FileMap) (P : List ℕ) (old new : HostState) (s : Status)
    → ((e : Effect) → Is e → e ≡ d) → BeginsOne IsBegun names Is old new s
    → old.files ≡ Some F → old.printed ≡ Some P → s ≢ HostFault → (s ≡ NoMemory) ⊎ Left d F P new s
left_one names Is d F P old new s only h files printed ne = elim h [
  | inl one ↦ left d F P old new s (subst (λ (e : Effect). Carries e old new s) (only one.0 one.1) one.2.carries) files printed ne
  | inr none ↦ inl (untouched_wanted old new s none.untouched ne)
]

reported_by : (listing : Listing) (F : FileMap) (P memory : List ℕ) (image : List Segment) (s : Sched) (new : HostState) (status : Status)
    → IsListing (flash_byte image) listing
    → Left (effect_for (reported (shown_out listing image s) memory)) F P new status → IsReported F P memory image s new status
reported_by listing F P memory image s new status is h = record {
  report = report_text (shown_out listing image s);
  file = memory_text (shown_out listing image s);
  printed = h.printed;
  files = h.files;
  headline = λ other are.
      let same = one_listing (flash_byte image) listing other is are in
      headline_every other image s _ _ (ap (λ l. report_text (shown_out l image s)) same) (ap (λ l. memory_text (shown_out l image s)) same);
  riders = λ other are. riders_every other image s;
  taint = λ other are. taint_lies other image s (length (ticks_of s.lines));
  ends = λ other are.
      let same = one_listing (flash_byte image) listing other is are in
      h.ends ∙ ap (λ l. if is_halted (shown_out l image s).outcome then Done else Ended) same;
}

pub headline_of : (words : List (List ℕ)) (form : Option Form) (old new : HostState) (status : Status) → form ≡ form_of words
    → ((listings : List Segment → Listing) → AreListings listings → Does listings form old new status) → RunsToHeadline words old new status
headline_of words form old new status same does = λ F P name memory image s h ne.
    let listings = some_listings.0 in
    let x = shown_out (listings image) image s in
    let sound = h.sound in
    let read = read_for F name sound.bytes memory h.source s sound.there sound.short h.given in
    let only = λ (e : Effect). effect-run listings words F name sound.bytes memory h.source image s e (form_of-run words name h.source memory h.asked) read
    sound.holds sound.odd in
    let done = Does-begins listings form words old new status F same (does listings some_listings.1) sound.files in
    elim (left_one (reads_for (form_of words)) (IsEffect listings words F) (effect_for (reported x memory)) F P old new status only done sound.files
    sound.printed ne) [
      | inl wanted ↦ inl wanted
      | inr left ↦ inr (reported_by (listings image) F P memory image s new status (some_listings.1.at image) left)
    ]

-- of words that are no form it says nothing
pub headline_of_none : (words : List (List ℕ)) (old new : HostState) (status : Status) → None ≡ form_of words → RunsToHeadline words old new status
headline_of_none words old new status none = λ F P name memory image s h ne.
    let asked : None ≡ Some (run name h.source memory) = none ∙ form_of-run words name h.source memory h.asked in
    cc

-- ---- instructions in order

effect-seq : (listings : List Segment → Listing) (words : List (List ℕ)) (F : FileMap) (name bytes : List ℕ) (image : List Segment) (n : ℕ) (e : Effect)
    → form_of words ≡ Some (seq name n) → get F name ≡ Some bytes → length bytes ≤ longest → IsImageOf bytes image → reset_pc image % 2 ≡ 1
    → IsEffect listings words F e → e ≡ effect_for (told (shown_out (listings image) image (plain n)))
effect-seq listings words F name bytes image n e asked there short holds odd is =
    let one = subst (λ (o : Option Form). IsEffectAfter listings o (reading_of F (reads_for o)) e) asked is in
    let read = subst (λ (r : Reading). IsEffectAfter listings (Some (seq name n)) r e) (read_one F name bytes there short) one in
    read.2 ∙ ap effect_for read.1
    ∙ ap (λ (i : Result (List Segment) ImageErr). effect_for (seq_outcome listings i n)) (image_of_again bytes image holds)
    ∙ ap (λ o. effect_for (unless_refused o (told (shown_out (listings image) image (plain n))))) (reset_refusal-odd image odd)

shown_by : (listing : Listing) (F : FileMap) (P : List ℕ) (image : List Segment) (n : ℕ) (new : HostState) (status : Status)
    → IsListing (flash_byte image) listing
    → Left (effect_for (told (shown_out listing image (plain n)))) F P new status → IsShownInOrder F P image n new status
shown_by listing F P image n new status is h = record {
  printed = λ other are.
      let same = one_listing (flash_byte image) listing other is are in
      h.printed ∙ ap (λ (text : List ℕ). Some (P ++ text)) (plainly_shown listing other image n same);
  files = h.files;
  ends = λ other are.
      let same = one_listing (flash_byte image) listing other is are in
      h.ends ∙ ap (λ (halted : Bool). if halted then Done else Ended) (plainly_halted listing other image n same);
}

pub order_of : (words : List (List ℕ)) (form : Option Form) (old new : HostState) (status : Status) → form ≡ form_of words
    → ((listings : List Segment → Listing) → AreListings listings → Does listings form old new status) → RunsInOrder words old new status
order_of words form old new status same does = λ F P name image n h ne.
    let listings = some_listings.0 in
    let x = shown_out (listings image) image (plain n) in
    let sound = h.sound in
    let only = λ (e : Effect). effect-seq listings words F name sound.bytes image n e (form_of-seq words name n h.asked) sound.there sound.short sound.holds
    sound.odd in
    let done = Does-begins listings form words old new status F same (does listings some_listings.1) sound.files in
    elim (left_one (reads_for (form_of words)) (IsEffect listings words F) (effect_for (told x)) F P old new status only done sound.files sound.printed ne) [
      | inl wanted ↦ inl wanted
      | inr left ↦ inr (shown_by (listings image) F P image n new status (some_listings.1.at image) left)
    ]

pub order_of_none : (words : List (List ℕ)) (old new : HostState) (status : Status) → None ≡ form_of words → RunsInOrder words old new status
order_of_none words old new status none = λ F P name image n h ne.
    let asked : None ≡ Some (seq name n) = none ∙ form_of-seq words name n h.asked in
    cc
