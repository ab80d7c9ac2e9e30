-- What the top call owes to the instructions in order.
use Rattle.std.specs.Prelude.{◌≡◌, ◌≢◌, ◌⊎◌, ℕ, ◌%◌, ◌≤◌, List, ◌++◌, length, Some, if◌then◌else◌}
use Rattle.std.specs.FinMap.{get, insert}
use Rattle.hm_base.specs.Image.{Segment, flash_byte}
use Rattle.hm_codes.specs.Listing.{Listing, IsListing}
use Rattle.hm_work.specs.Images.{IsImageOf}
use Rattle.hm_run_laws.specs.Runs.{run_out, shown_out}
use Rattle.hm_run_laws.specs.Taint.{TaintLies}
use Rattle.hm_host.specs.Host.{FileMap, HostState, longest}
use Rattle.hm_run.specs.Headline.{Headline, Riders}
use Rattle.hm_run.specs.InOrder.{in_order, in_order_report}
use Rattle.hm_sched.specs.Schedule.{Sched, plain}
use Rattle.hm_sched.specs.Written.{IsFile}
use Rattle.hm_state.specs.Start.{reset_pc}
use Rattle.hm_commands.specs.declared.status.Status.{Status}
use Rattle.hm_commands.specs.declared.status.Status.TheVariants.{Done, Ended, HostFault, NoMemory}
use Rattle.hm_work.specs.Run.{has_halted, is_halted}
use Rattle.hm_words.specs.Words.{Source, ticks, file, IsRun, IsSeq}

-- a source gives a schedule: its plain ticks, or what its file, which is there, writes
abbrev pub IsGiven : FileMap → Source → Sched → Type 0
IsGiven F (ticks n) s = s ≡ plain n
IsGiven F (file name) s = (text : List ℕ) × (get F name ≡ Some text) × (length text ≤ longest) × IsFile text s

-- The host tells the files F and the printed bytes P. The file that is named is there, not too large, and holds this image, whose reset
-- address is odd.
pub record IsSoundImage (old : HostState) (F : FileMap) (P name : List ℕ) (image : List Segment) : Type 0 where
  pub files : old.files ≡ Some F
  pub printed : old.printed ≡ Some P
  pub bytes : List ℕ
  pub there : get F name ≡ Some bytes
  pub short : length bytes ≤ longest
  pub holds : IsImageOf bytes image
  pub odd : reset_pc image % 2 ≡ 1

-- The words are those of a run of a sound image under this schedule.
pub record IsSoundRun (words : List (List ℕ)) (old : HostState) (F : FileMap) (P name memory : List ℕ) (image : List Segment) (s : Sched) : Type 0 where
  pub source : Source
  pub asked : IsRun words name source memory
  pub given : IsGiven F source s
  pub sound : IsSoundImage old F P name image

-- A report was printed and a file was written, and the headline and its riders hold of them. The status says whether the run halted.
pub record IsReported (F : FileMap) (P memory : List ℕ) (image : List Segment) (s : Sched) (new : HostState) (status : Status) : Type 0 where
  pub report : List ℕ
  pub file : List ℕ
  pub printed : new.printed ≡ Some (P ++ report)
  pub files : new.files ≡ Some (insert F memory file)
  pub headline : (listing : Listing) → IsListing (flash_byte image) listing → Headline listing image (shown_out listing image s) report file
  pub riders : (listing : Listing) → IsListing (flash_byte image) listing → Riders listing image (shown_out listing image s)
  -- after the run every tainted byte lies in the region, or from the floor up and below the main stack pointer at one of the entries, or from the
  -- process floor up and below the process stack pointer at one of those from that stack
  pub taint : (listing : Listing) → IsListing (flash_byte image) listing
      → TaintLies s (run_out listing image s).entries (shown_out listing image s).config.state
  pub ends : (listing : Listing) → IsListing (flash_byte image) listing → status ≡ (if is_halted (shown_out listing image s).outcome then Done else Ended)

-- each such run is reported, unless the status is the host's fault or memory was wanted
abbrev pub RunsToHeadline : List (List ℕ) → HostState → HostState → Status → Type 0
RunsToHeadline words old new status =
    (F : FileMap) (P name memory : List ℕ) (image : List Segment) (s : Sched) → IsSoundRun words old F P name memory image s → status ≢ HostFault
    → (status ≡ NoMemory) ⊎ IsReported F P memory image s new status

-- The words ask for n instructions in order of a sound image.
pub record IsSoundSeq (words : List (List ℕ)) (old : HostState) (F : FileMap) (P name : List ℕ) (image : List Segment) (n : ℕ) : Type 0 where
  pub asked : IsSeq words name n
  pub sound : IsSoundImage old F P name image

-- What n instructions in order come to was printed, of a fault the first line, and no file was touched. The status says whether they halted.
pub record IsShownInOrder (F : FileMap) (P : List ℕ) (image : List Segment) (n : ℕ) (new : HostState) (status : Status) : Type 0 where
  pub printed : (listing : Listing) → IsListing (flash_byte image) listing → new.printed ≡ Some (P ++ in_order_report (in_order listing image n))
  pub files : new.files ≡ Some F
  pub ends : (listing : Listing) → IsListing (flash_byte image) listing → status ≡ (if has_halted (in_order listing image n) then Done else Ended)

-- each n such instructions are shown, unless the status is the host's fault or memory was wanted
abbrev pub RunsInOrder : List (List ℕ) → HostState → HostState → Status → Type 0
RunsInOrder words old new status =
    (F : FileMap) (P name : List ℕ) (image : List Segment) (n : ℕ) → IsSoundSeq words old F P name image n → status ≢ HostFault
    → (status ≡ NoMemory) ⊎ IsShownInOrder F P image n new status
