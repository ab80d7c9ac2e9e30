-- What a run owes to the instructions in order.
use Rattle.std.specs.Prelude.{◌≡◌, ℕ, ◌+◌, ◌*◌, ◌/◌, ◌%◌, ◌^◌, ◌<◌, List, slice_index, Some}
use Rattle.hm_base.specs.Image.{Segment, sram_start, sram_size}
use Rattle.hm_base.specs.declared.Fault.{Fault}
use Rattle.hm_codes.specs.Listing.{Listing}
use Rattle.hm_run.specs.declared.Outcome.TheVariants as outcome
use Rattle.hm_run.specs.declared.Reason.{Reason}
use Rattle.hm_run.specs.declared.Who.TheVariants.{Thread}
use Rattle.hm_run.specs.InOrder.{InOrder, Running, Halted, Full, Faulted, in_order, in_order_report}
use Rattle.hm_run.specs.Report.{outcome_line, report_text, memory_text}
use Rattle.hm_run.specs.Timed.{Timed}
use Rattle.hm_state.specs.State.{State, Byte}

-- the taint bit of byte j of SRAM, in a memory file
abbrev pub taint_bit_in : List ℕ → ℕ → ℕ
taint_bit_in file j = slice_index file (sram_size + j / 8) / 2 ^ (j % 8) % 2

-- each byte of SRAM in a memory file whose taint bit is 0 is that of a state
abbrev pub HasBytesOf : State → List ℕ → Type 0
HasBytesOf s file = (j : ℕ) → j < sram_size → taint_bit_in file j ≡ 0 → slice_index file j ≡ (s.cell (Byte (sram_start + j))).n

-- The first n instructions in order halt at the last of them for this reason, and a report and a memory file are theirs.
pub record HaltsInOrder (listing : Listing) (image : List Segment) (report file : List ℕ) (reason : Reason) (n : ℕ) : Type 0 where
  pub state : State
  pub halts : in_order listing image n ≡ Halted reason n state
  pub report_is : report ≡ in_order_report (Halted reason n state)
  pub bytes : HasBytesOf state file

-- THE HEADLINE. A run comes to the value x of the beat machine. What is printed is its report, the file is its memory,
-- and where it halts after n instructions, both are those of the image's first n whole instructions in order, which halt there.
pub record Headline (listing : Listing) (image : List Segment) (x : Timed) (report file : List ℕ) : Type 0 where
  pub report_is : report ≡ report_text x
  pub file_is : file ≡ memory_text x
  pub in_order : (reason : Reason) (n : ℕ) → x.outcome ≡ Some (outcome.Halted reason n) → HaltsInOrder listing image report file reason n

-- The riders: what a run owes to the instructions in order where it does not halt.
pub record Riders (listing : Listing) (image : List Segment) (x : Timed) : Type 0 where
  -- A fault of the thread after n instructions is that of the next one in order.
  pub fault : (f : Fault) (pc n : ℕ) → x.outcome ≡ Some (outcome.Fault Thread f pc n) → in_order listing image (n + 1) ≡ Faulted f.kind pc f.addr n
  -- Where the output is full after n instructions, it has no room for that of the next one in order.
  pub full : (t : ℕ) → x.outcome ≡ Some (outcome.OutputFull t) → (s : State) × (in_order listing image (x.config.n + 1) ≡ Full (x.config.n + 1) s)
  -- Where the instructions in order halt at the n-th and the run is out of ticks, it had fewer than four steps of the older for each.
  pub few : (reason : Reason) (n : ℕ) (s : State) → in_order listing image n ≡ Halted reason n s → x.outcome ≡ Some outcome.OutOfTicks → x.config.steps < 4 * n

-- PLAIN RUNS. A run of n plain ticks reports what the first n instructions in order come to; of a fault the first line.
abbrev pub PlainReport : Timed → InOrder → Type 0
PlainReport x (Running s) = report_text x ≡ in_order_report (Running s)
PlainReport x (Halted reason k s) = report_text x ≡ in_order_report (Halted reason k s)
PlainReport x (Full k s) = report_text x ≡ in_order_report (Full k s)
PlainReport x (Faulted kind pc addr k) = outcome_line x.outcome ≡ in_order_report (Faulted kind pc addr k)
