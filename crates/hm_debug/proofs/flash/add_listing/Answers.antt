use Rattle.std.proofs.Common.{ℕ, ◌≤◌, ◌-◌, ap, arith, subst}
use Rattle.hm_base.specs.Image.{flash_size}
use Rattle.hm_listing.proofs.LinesLeft.{IsAdded}
use Rattle.hm_mem.specs.Memory.{Memory, flash_at}
use Rattle.hm_debug.proofs.Flashes.{lines_done, lines_none, lines_on}
use Rattle.hm_debug.proofs.flash.add_listing.Goals as goal

pub returns-then-at-eq-FLASH_SIZE : goal.returns-then-at-eq-FLASH_SIZE
returns-then-at-eq-FLASH_SIZE c =
    let past : flash_size ≤ c.lines.at = omega arith in
    record {
      added = λ listing listed. lines_done (flash_at c.args.machine.now.memory) listing c.lines.at (c.args.count - c.lines._line) _ _ past
          (c.lines.invariant.left listing listed);
    }

pub lines-preserved : goal.lines-preserved
lines-preserved c =
    let added = subst (λ (f : ℕ → ℕ). IsAdded f c.lines.at c.in_ok-at.at flash_size c.lines.out.items c.add_line.new.out.items)
    (ap (λ (m : Memory). flash_at m) c.mem.ensures.value) c.in_ok-at.ensures.added in
    record {
      even = c.in_ok-at.ensures.goes_on.2;
      within = c.in_ok-at.ensures.goes_on.1;
      left = λ listing listed.
          lines_on (flash_at c.args.machine.now.memory) listing c.lines.at c.args.count c.lines._line c.in_ok-at.at _ _ _ (omega arith) c.lines-test.true listed
          added (c.lines.invariant.left listing listed);
    }

pub returns : goal.returns
returns c = record {
  added = λ listing listed. lines_none (flash_at c.args.machine.now.memory) listing c.lines.at c.args.count c.lines._line _ _ c.lines-test.false
      (c.lines.invariant.left listing listed);
}
