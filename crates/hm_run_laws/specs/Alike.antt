-- Two runs of one image that halt.
use Rattle.std.specs.Prelude.{◌≡◌, ℕ, ◌<◌, slice_index}
use Rattle.hm_base.specs.Image.{sram_size}
use Rattle.hm_run.specs.Headline.{taint_bit_in}
use Rattle.hm_run.specs.Report.{memory_text, report_text}
use Rattle.hm_run.specs.Timed.{Timed}
use Rattle.hm_run.specs.declared.Reason.{Reason}

-- x halts for the reason r after n instructions, and y for q after m: for one reason, after as many; with one report; and the memory files agree
-- on each byte of SRAM that neither taints
pub record HaltAlike (x y : Timed) (r q : Reason) (n m : ℕ) : Type 0 where
  pub reason : r ≡ q
  pub number : n ≡ m
  pub report : report_text x ≡ report_text y
  pub bytes : (j : ℕ) → j < sram_size → taint_bit_in (memory_text x) j ≡ 0 → taint_bit_in (memory_text y) j ≡ 0
      → slice_index (memory_text x) j ≡ slice_index (memory_text y) j
