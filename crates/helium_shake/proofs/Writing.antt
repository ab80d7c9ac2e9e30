-- Files that are written one after another, and what is printed behind them.
use Rattle.std.proofs.Common.{◌≡◌, List, [], ◌∷◌, ℕ, zero, suc, ◌+◌, ◌<◌, ◌≤◌, arith, drop, length, slice_index_or, map, subst, Option, Some, None, Result, Ok}
use Rattle.std.proofs.Common.{Err, refl, sym, ap, ◌∙◌, inl, inr}
use Rattle.std.proofs.lemmas.List.{append-nil, drop_all}
use Rattle.std.specs.FinMap.{insert}
use Rattle.hm_commands.proofs.Calling.{fault_before, made_after, memory_before}
use Rattle.hm_commands.specs.Calls.{MakesCalls, answer_way, to_end, to_fault, to_memory, way_of, with_calls}
use Rattle.hm_commands.specs.Effect.{Carries as CarriesOne, IsComplete, failure_of}
use Rattle.hm_commands.specs.declared.status.Status.{Status}
use Rattle.hm_commands.specs.declared.status.Status.TheVariants.{Done, Ended, HostFault, NoMemory, Refused, Usage}
use Rattle.hm_host.specs.Host.{Becomes, Call, Counts, FileMap, HostState, Made, Prints, Rose, Stays, Writes, print}
use Rattle.hm_host.specs.declared.host.HostErr.{HostErr}
use Rattle.hm_host.specs.declared.host.HostErr.TheVariants.{Failed, OutOfMemory, TooLarge}
use Rattle.hm_shake.specs.declared.filing.Written.{Written}
use Rattle.helium_shake.specs.Effects.{Carries, Effect, File, WritesFiles, calls_for, file_of, status_for, with_files, write_call}

-- ---- files

-- the first is written, and then the others
pub written_first : {T : Type 0} (file : File) (files : List File) (old mid new : Option FileMap) (r : Result T HostErr)
    → Becomes (λ F. insert F file.0 file.1) old mid
    → WritesFiles files mid new r → WritesFiles (file ∷ files) old new r
written_first file files old mid new (Ok x) first h = λ F is. h (insert F file.0 file.1) (first F is)
written_first file files old mid new (Err Failed) first h = record {
  done = file ∷ h.done;
  last = h.last;
  left = h.left;
  parts_are = ap (λ (fs : List File). file ∷ fs) h.parts_are;
  others = λ F is. h.others (insert F file.0 file.1) (first F is);
}
written_first file files old mid new (Err TooLarge) first h = h
written_first file files old mid new (Err OutOfMemory) first h = record {
  done = file ∷ h.done;
  left = h.left;
  parts_are = ap (λ (fs : List File). file ∷ fs) h.parts_are;
  files_are = λ F is. h.files_are (insert F file.0 file.1) (first F is);
}

-- the first is not written
pub first_fails : (e : HostErr) (file : File) (files : List File) (old new : Option FileMap) → Writes {T = ℕ} file.0 file.1 old new (Err e)
    → WritesFiles {T = ℕ} (file ∷ files) old new (Err e)
first_fails Failed file files old new h = record { done = []; last = file; left = files; parts_are = refl; others = h }
first_fails TooLarge file files old new h = h
first_fails OutOfMemory file files old new h = record { done = []; left = file ∷ files; parts_are = refl; files_are = h }

-- the first of some calls, which writes a file, was not done
pub first_call_fails : (e : HostErr) (file : File) (calls : List Call) (F G : Option FileMap) (old new : Option (List Made))
    → Writes {T = ℕ} file.0 file.1 F G (Err e)
    → MakesCalls (write_call file ∷ []) old new (answer_way {T = ℕ} (Err e)) → MakesCalls (write_call file ∷ calls) old new (answer_way {T = ℕ} (Err e))
first_call_fails Failed file calls F G old new writes h = fault_before (write_call file ∷ []) calls old new h
first_call_fails TooLarge file calls F G old new writes h = absurd writes
first_call_fails OutOfMemory file calls F G old new writes h = memory_before (write_call file ∷ []) calls old new h

-- the files that are left: the next one, and those behind it
left_at : (files : List Written) (i : ℕ) (d : Written) → i < length files → drop i files ≡ slice_index_or files i d ∷ drop (suc i) files
left_at [] i d h = absurd (omega arith)
left_at (w ∷ ws) zero d h = refl
left_at (w ∷ ws) (suc i) d h = left_at ws i d (omega arith)

pub left_is : (schedule : List ℕ) (files : List Written) (i : ℕ) (w : Written) → i < length files → w ≡ slice_index_or files i w
    → map (file_of schedule) (drop i files) ≡ file_of schedule w ∷ map (file_of schedule) (drop (i + 1) files)
left_is schedule files i w h is =
    let one_more : suc i ≡ i + 1 = omega arith in
    ap (map (file_of schedule)) (left_at files i w h ∙ ap (λ (n : ℕ). slice_index_or files i w ∷ drop n files) one_more
    ∙ ap (λ (x : Written). x ∷ drop (i + 1) files) (sym is))

pub left_none : (schedule : List ℕ) (files : List Written) (i : ℕ) → length files ≤ i → map (file_of schedule) (drop i files) ≡ []
left_none schedule files i h = ap (map (file_of schedule)) (drop_all i files h)

-- what is found ends by a status of an effect that was done
pub complete : (files : List Written) → IsComplete (status_for files)
complete [] = tt
complete (w ∷ ws) = tt

-- ---- an effect

pub cut_write_calls : (e : HostErr) (x : Effect) (old new : HostState) → WritesFiles {T = ℕ} x.files old.files new.files (Err e)
    → MakesCalls (map write_call x.files) old.calls new.calls (answer_way {T = ℕ} (Err e))
    → MakesCalls (calls_for x) old.calls new.calls (way_of (failure_of e))
cut_write_calls Failed x old new files h = fault_before (map write_call x.files) (print x.text ∷ []) old.calls new.calls h
cut_write_calls TooLarge x old new files h = absurd files
cut_write_calls OutOfMemory x old new files h = memory_before (map write_call x.files) (print x.text ∷ []) old.calls new.calls h

-- the print was cut
pub cut_print : (e : HostErr) (x : Effect) (old mid new : HostState) → Becomes (with_files x.files) old.files mid.files → Stays mid.files new.files
    → mid.faults ≡ old.faults
    → Stays old.printed mid.printed → Prints {T = ℕ} x.text mid.printed new.printed (Err e) → Counts {T = ℕ} mid.faults new.faults (Err e)
    → Carries x old new (failure_of e)
cut_print Failed x old mid new files stay same before h rose = (
  subst (λ (n : ℕ). Rose n new.faults) same rose,
  inr (record { files = λ F is. stay (with_files x.files F) (files F is); printed = λ P is. h P (before P is) }),
)
cut_print TooLarge x old mid new files stay same before h rose = absurd h
cut_print OutOfMemory x old mid new files stay same before h rose = record {
  faults = rose ∙ same;
  files = record { done = x.files; left = []; parts_are = sym (append-nil x.files); files_are = λ F is. stay (with_files x.files F) (files F is) };
  printed = λ P is. h P (before P is);
}

pub cut_print_calls : (e : HostErr) (x : Effect) (old mid new : Option (List Made)) (P Q : Option (List ℕ))
    → Becomes (with_calls (map write_call x.files)) old mid → Prints {T = ℕ} x.text P Q (Err e)
    → MakesCalls (print x.text ∷ []) mid new (answer_way {T = ℕ} (Err e)) → MakesCalls (calls_for x) old new (way_of (failure_of e))
cut_print_calls Failed x old mid new P Q before prints h = made_after (map write_call x.files) (print x.text ∷ []) old mid new to_fault before h
cut_print_calls TooLarge x old mid new P Q before prints h = absurd prints
cut_print_calls OutOfMemory x old mid new P Q before prints h = made_after (map write_call x.files) (print x.text ∷ []) old mid new to_memory before h

pub all_calls : (x : Effect) (old mid new : Option (List Made)) (s : Status) → IsComplete s → Becomes (with_calls (map write_call x.files)) old mid
    → Becomes (with_calls (print x.text ∷ [])) mid new → MakesCalls (calls_for x) old new (way_of s)
all_calls x old mid new HostFault complete before h = absurd complete
all_calls x old mid new NoMemory complete before h = absurd complete
all_calls x old mid new s complete before h = made_after (map write_call x.files) (print x.text ∷ []) old mid new to_end before h

-- ---- a line that is printed, with no file

module _ (s : Status) (line : List ℕ) where
  abbrev said : Effect
  said = record { status = s; files = []; text = line }

  pub says : (old new : HostState) (r : Status) → CarriesOne (record { status = s; file = None; text = Some line }) old new r → Carries said old new r
  says old new Done h = record { status_is = h.status_is; faults = h.faults; files = h.files; printed = h.printed }
  says old new Ended h = record { status_is = h.status_is; faults = h.faults; files = h.files; printed = h.printed }
  says old new Usage h = record { status_is = h.status_is; faults = h.faults; files = h.files; printed = h.printed }
  says old new Refused h = record { status_is = h.status_is; faults = h.faults; files = h.files; printed = h.printed }
  says old new HostFault h = (
    h.0,
    elim h.1 [
      | inl c ↦ inr (record {
        files = λ F is. let t = c.files F is in t.1 ∙ ap Some t.2;
        printed = λ P is. (P, c.printed P is, (0, sym (append-nil P)));
      })
      | inr c ↦ inr (record { files = c.files; printed = c.printed })
    ],
  )
  says old new NoMemory h = record {
    faults = h.faults;
    files = record { done = []; left = []; parts_are = refl; files_are = elim h.files [ inl stays ↦ stays | inr same ↦ same ] };
    printed = h.printed;
  }
