-- How an effect is carried out, by the host's calls.
use Rattle.std.proofs.Common.{◌≡◌, ℕ, List, [], ◌++◌, Option, Some, None, Result, Ok, Err, refl, ap, sym, subst, ◌∙◌, inl, inr}
use Rattle.std.proofs.lemmas.List.{append-nil}
use Rattle.hm_host.specs.Host.{FileMap, HostState, Call, Made, Stays, Becomes, Rose}
use Rattle.hm_host.specs.declared.host.HostErr.{HostErr}
use Rattle.hm_host.specs.declared.host.HostErr.TheVariants.{Failed, TooLarge, OutOfMemory}
use Rattle.hm_commands.specs.declared.status.Status.{Status}
use Rattle.hm_commands.specs.declared.status.Status.TheVariants.{Done, Ended, Usage, Refused, HostFault, NoMemory}
use Rattle.hm_work.specs.declared.work.Finish.{Finish}
use Rattle.hm_work.specs.declared.work.Refusal.TheVariants.{FileTooLarge}
use Rattle.hm_work.specs.declared.work.Stop.{Stop}
use Rattle.hm_work.specs.declared.work.Stop.TheVariants as stop
use Rattle.hm_work.specs.Work.{Outcome, refuses, finish_of, Gives, GivesOne}
use Rattle.hm_commands.specs.Calls.{read_calls, write_calls, print_calls, with_calls, to_end, to_fault, to_memory, way_of, answer_way, MakesCalls}
use Rattle.hm_commands.specs.Calls.{MakesAll}
use Rattle.hm_commands.specs.Effect.{Effect, Reading, whole, too_large, missing, reading_of, IsEffectBy, effect_for, calls_for, IsDone, Carries, DoesOne}
use Rattle.hm_commands.specs.Effect.{StaysOrMakesAll, failure_of, refused_line, usage_by, IsComplete, WritesFile, PrintsText}
use Rattle.hm_commands.proofs.Calling.{made_after, fault_before, memory_before, all_after}

-- the effect is carried out after calls that left the files and the printed bytes
IsDone-after : (e : Effect) (old mid new : HostState) (s : Status) → Stays old.files mid.files → Stays old.printed mid.printed → mid.faults ≡ old.faults
    → IsDone e mid new s → IsDone e old new s
IsDone-after e old mid new s files printed same h =
    record { status_is = h.status_is; faults = h.faults ∙ same; files = λ F is. h.files F (files F is); printed = λ P is. h.printed P (printed P is) }

pub Carries-after : (e : Effect) (old mid new : HostState) (s : Status) → Stays old.files mid.files → Stays old.printed mid.printed → mid.faults ≡ old.faults
    → Carries e mid new s → Carries e old new s
Carries-after e old mid new Done files printed same h = IsDone-after e old mid new Done files printed same h
Carries-after e old mid new Ended files printed same h = IsDone-after e old mid new Ended files printed same h
Carries-after e old mid new Usage files printed same h = IsDone-after e old mid new Usage files printed same h
Carries-after e old mid new Refused files printed same h = IsDone-after e old mid new Refused files printed same h
Carries-after e old mid new HostFault files printed same h = (
  subst (λ n. Rose n new.faults) same h.0,
  elim h.1 [
    | inl c ↦ inl (record { files = λ F is. c.files F (files F is); printed = λ P is. c.printed P (printed P is) })
    | inr c ↦ inr (record { files = λ F is. c.files F (files F is); printed = λ P is. c.printed P (printed P is) })
  ],
)
Carries-after e old mid new NoMemory files printed same h = record {
  faults = h.faults ∙ same;
  files = elim h.files [ inl stays ↦ inl (λ F is. stays F (files F is)) | inr becomes ↦ inr (λ F is. becomes F (files F is)) ];
  printed = λ P is. h.printed P (printed P is);
}

-- Where the files are not told, nothing binds what the reads gave.
pub told_reading : Option FileMap → List (List ℕ) → Reading
told_reading None names = missing
told_reading (Some F) names = reading_of F names

pub told_reading-told : (files : Option FileMap) (names : List (List ℕ)) (F : FileMap) → files ≡ Some F → told_reading files names ≡ reading_of F names
unfolding told_reading
told_reading-told files names F is = ap (λ o. told_reading o names) is

-- ---- where memory ran out

-- of an effect without a file
pub stays_spent : (done : Status) (text : Option (List ℕ)) (old new : HostState) (s : Status)
    → Carries (record { status = done; file = None; text = text }) old new s → s ≡ NoMemory → Stays old.files new.files
stays_spent done text old new s h is =
    elim (subst (Carries (record { status = done; file = None; text = text }) old new) is h).files [ inl stays ↦ stays | inr same ↦ same ]

pub spent_after : (first rest : List Call) (old mid new : HostState) → Stays old.files mid.files → Becomes (with_calls first) old.calls mid.calls
    → StaysOrMakesAll rest mid new → StaysOrMakesAll (first ++ rest) old new
spent_after first rest old mid new files calls h = elim h [
  | inl stays ↦ inl (λ F is. stays F (files F is))
  | inr all ↦ inr (all_after first rest old.calls mid.calls new.calls calls all)
]

pub spent_write : (e : HostErr) (file : Option (List ℕ × List ℕ)) (calls : List Call) (old new : HostState) → WritesFile {T = ℕ} file old new (Err e)
    → failure_of e ≡ NoMemory → StaysOrMakesAll calls old new
spent_write Failed file calls old new h is = (let no : HostFault ≡ NoMemory = is in absurd cc)
spent_write TooLarge file calls old new h is = absurd h
spent_write OutOfMemory file calls old new h is = inl h

pub spent_print : (e : HostErr) (first : List Call) (text : Option (List ℕ)) (old mid new : HostState) → Becomes (with_calls first) old.calls mid.calls
    → PrintsText {T = ℕ} text mid new (Err e)
    → (e ≡ OutOfMemory → MakesAll (print_calls text) mid.calls new.calls) → failure_of e ≡ NoMemory → StaysOrMakesAll (first ++ print_calls text) old new
spent_print Failed first text old mid new before h all is = (let no : HostFault ≡ NoMemory = is in absurd cc)
spent_print TooLarge first text old mid new before h all is = absurd h
spent_print OutOfMemory first text old mid new before h all is = inr (all_after first (print_calls text) old.calls mid.calls new.calls before (all refl))

-- ---- effects behind reads

-- words that ask for nothing: the line of usage was printed
pub usage_said : (line : List ℕ) (old new : HostState) (s : Status) → Carries (usage_by line) old new s
    → MakesCalls (calls_for (usage_by line)) old.calls new.calls (way_of s)
    → DoesOne [] (λ reading e. e ≡ usage_by line) old new s
usage_said line old new s h calls = record {
  reading = told_reading old.files [];
  told = told_reading-told old.files [];
  begins = inl (
    usage_by line,
    refl,
    record { carries = h; calls = λ F is. calls; spent = λ F is wanted. inl (stays_spent Usage (Some line) old new s h wanted) },
  );
}

-- In what follows, Is gives the effects by what comes of the reads of the files with these names.
-- memory ran out before the effect
pub lost : (names : List (List ℕ)) (Is : Reading → Effect → Type 0) (old new : HostState) → Stays old.files new.files → Stays old.printed new.printed
    → new.faults ≡ old.faults
    → ((F : FileMap) → old.files ≡ Some F → MakesCalls (read_calls F names) old.calls new.calls to_memory) → DoesOne names Is old new NoMemory
lost names Is old new files printed same calls = record {
  reading = told_reading old.files names;
  told = told_reading-told old.files names;
  begins = inr (record { untouched = (same, files, printed); calls = calls });
}

-- a read failed
pub failed : (names : List (List ℕ)) (Is : Reading → Effect → Type 0) (old new : HostState) → Stays old.files new.files → Stays old.printed new.printed
    → Rose old.faults new.faults
    → ((F : FileMap) → old.files ≡ Some F → MakesCalls (read_calls F names) old.calls new.calls to_fault) → DoesOne names Is old new HostFault
failed names Is old new files printed rose calls = record {
  reading = told_reading old.files names;
  told = told_reading-told old.files names;
  begins = inr (record { untouched = (rose, files, printed); calls = calls });
}

-- WHAT THE READS LEFT of a host, and what they gave
pub record AreRead (names : List (List ℕ)) (reading : Reading) (old mid : HostState) : Type 0 where
  pub told : (F : FileMap) → old.files ≡ Some F → reading_of F names ≡ reading
  pub files : Stays old.files mid.files
  pub printed : Stays old.printed mid.printed
  pub faults : mid.faults ≡ old.faults
  pub calls : (F : FileMap) → old.files ≡ Some F → Becomes (with_calls (read_calls F names)) old.calls mid.calls

-- so of the files with other names that are these
pub are_read : (others names : List (List ℕ)) (reading : Reading) (old mid : HostState) → others ≡ names
    → ((F : FileMap) → old.files ≡ Some F → reading_of F others ≡ reading)
    → Stays old.files mid.files → Stays old.printed mid.printed → mid.faults ≡ old.faults
    → ((F : FileMap) → old.files ≡ Some F → Becomes (with_calls (read_calls F others)) old.calls mid.calls) → AreRead names reading old mid
are_read others names reading old mid is told files printed same calls =
    subst (λ (n : List (List ℕ)). AreRead n reading old mid) is
    (record { told = told; files = files; printed = printed; faults = same; calls = calls })

-- the reads gave this, and then an effect of it was carried out
reached : (names : List (List ℕ)) (Is : Reading → Effect → Type 0) (old mid new : HostState) (s : Status) (reading : Reading) (e : Effect) → Is reading e
    → AreRead names reading old mid
    → Carries e mid new s → MakesCalls (calls_for e) mid.calls new.calls (way_of s) → (s ≡ NoMemory → StaysOrMakesAll (calls_for e) mid new)
    → DoesOne names Is old new s
reached names Is old mid new s reading e of are h rest all = record {
  reading = reading;
  told = λ F is. sym (are.told F is);
  begins = inl (
    e,
    of,
    record {
      carries = Carries-after e old mid new s are.files are.printed are.faults h;
      calls = λ F is. made_after (read_calls F names) (calls_for e) old.calls mid.calls new.calls (way_of s) (are.calls F is) rest;
      spent = λ F is wanted. spent_after (read_calls F names) (calls_for e) old mid new are.files (are.calls F is) (all wanted);
    },
  );
}

-- all calls were made, and memory ran out behind them
pub spent_reads : (calls : List Call) (old mid : Option (List Made)) → Becomes (with_calls calls) old mid → MakesCalls calls old mid to_memory
spent_reads calls old mid all =
    inr (λ made is. (with_calls calls made, all made is, record { done = calls; left = []; parts_are = sym (append-nil calls); made_are = refl }))

-- the reads were made, memory was wanted, and no more was done
reads_lost : (names : List (List ℕ)) (Is : Reading → Effect → Type 0) (old mid new : HostState) (s : Status) (reading : Reading)
    → AreRead names reading old mid → s ≡ NoMemory → new ≡ mid → DoesOne names Is old new s
reads_lost names Is old mid new s reading are wanted is =
    subst (λ (x : HostState). DoesOne names Is old x s) (sym is)
    (subst (λ (x : Status). DoesOne names Is old mid x) (sym wanted)
    (lost names Is old mid are.files are.printed are.faults (λ F told. spent_reads (read_calls F names) old.calls mid.calls (are.calls F told))))

-- In what follows, Comes says to which outcomes the contents that were read come.
-- the reads gave these contents, and then the outcome of them was carried out
pub reached_whole : (names : List (List ℕ)) (Comes : List (List ℕ) → Outcome → Type 0) (old mid new : HostState) (s : Status) (contents : List (List ℕ))
    (answer : Result Finish Stop)
    → GivesOne (Comes contents) answer → AreRead names (whole contents) old mid
    → ((o : Outcome) → Gives o answer → Carries (effect_for o) mid new s)
    → ((o : Outcome) → Gives o answer → MakesCalls (calls_for (effect_for o)) mid.calls new.calls (way_of s))
    → ((o : Outcome) → Gives o answer → s ≡ NoMemory → StaysOrMakesAll (calls_for (effect_for o)) mid new)
    → (answer ≡ Err stop.NoMemory → (s ≡ NoMemory) × (new ≡ mid))
    → DoesOne names (IsEffectBy Comes) old new s
reached_whole names Comes old mid new s contents (Ok finish) comes are h rest all wanted =
    let o = finish_of finish in
    reached names (IsEffectBy Comes) old mid new s (whole contents) (effect_for o) (o, comes, refl) are (h o refl) (rest o refl) (all o refl)
reached_whole names Comes old mid new s contents (Err (stop.Refused why)) comes are h rest all wanted =
    let o = refuses why in
    reached names (IsEffectBy Comes) old mid new s (whole contents) (effect_for o) (o, comes, refl) are (h o refl) (rest o refl) (all o refl)
reached_whole names Comes old mid new s contents (Err stop.NoMemory) comes are h rest all wanted =
    reads_lost names (IsEffectBy Comes) old mid new s (whole contents) are (wanted refl).0 (wanted refl).1

-- a file was too large
pub reached_large : (names : List (List ℕ)) (Comes : List (List ℕ) → Outcome → Type 0) (old mid new : HostState) (s : Status)
    → AreRead names too_large old mid
    → Carries (effect_for (refuses FileTooLarge)) mid new s → MakesCalls (calls_for (effect_for (refuses FileTooLarge))) mid.calls new.calls (way_of s)
    → DoesOne names (IsEffectBy Comes) old new s
reached_large names Comes old mid new s are h rest =
    reached names (IsEffectBy Comes) old mid new s too_large (effect_for (refuses FileTooLarge)) refl are h rest
    (λ wanted. inl (stays_spent Refused (Some (refused_line FileTooLarge)) mid new s h wanted))

-- ---- the calls of an effect

-- What an answer without a value says does not depend on the type of the value.
pub cut_write : (e : HostErr) (file : Option (List ℕ × List ℕ)) (rest : List Call) (old new : HostState) → WritesFile {T = ℕ} file old new (Err e)
    → MakesCalls (write_calls file) old.calls new.calls (answer_way {T = ℕ} (Err e))
    → MakesCalls (write_calls file ++ rest) old.calls new.calls (way_of (failure_of e))
cut_write Failed file rest old new h calls = fault_before (write_calls file) rest old.calls new.calls calls
cut_write TooLarge file rest old new h calls = absurd h
cut_write OutOfMemory file rest old new h calls = memory_before (write_calls file) rest old.calls new.calls calls

pub cut_print : (e : HostErr) (first : List Call) (text : Option (List ℕ)) (old mid new : HostState) → Becomes (with_calls first) old.calls mid.calls
    → PrintsText {T = ℕ} text mid new (Err e)
    → MakesCalls (print_calls text) mid.calls new.calls (answer_way {T = ℕ} (Err e))
    → MakesCalls (first ++ print_calls text) old.calls new.calls (way_of (failure_of e))
cut_print Failed first text old mid new before h calls = made_after first (print_calls text) old.calls mid.calls new.calls to_fault before calls
cut_print TooLarge first text old mid new before h calls = absurd h
cut_print OutOfMemory first text old mid new before h calls = made_after first (print_calls text) old.calls mid.calls new.calls to_memory before calls

pub all_made : (status : Status) (first rest : List Call) (old mid new : Option (List Made)) → IsComplete status → Becomes (with_calls first) old mid
    → Becomes (with_calls rest) mid new → MakesCalls (first ++ rest) old new (way_of status)
all_made HostFault first rest old mid new complete before after = absurd complete
all_made NoMemory first rest old mid new complete before after = absurd complete
all_made status first rest old mid new complete before after = made_after first rest old mid new to_end before after
