use Rattle.std.proofs.Common.{◌+◌, ◌-◌, ◌≤◌, ℕ, length}
use Rattle.std.specs.FinMap.{empty}
use Rattle.hm_line.specs.Labels.{LabelMap}
use Rattle.hm_line.specs.declared.errors.AsmKind.{AsmKind}
use Rattle.hm_source.specs.Lines.{source_lines}
use Rattle.hm_asm.specs.FirstPass.{AreFine, IsFirstRefused}
use Rattle.hm_asm.proofs.first.first_pass.Given as goal

-- what becomes of the lines that are left becomes of the source
abbrev pub invariant-loop-rest : goal.invariant-loop-rest
invariant-loop-rest l = record {
  counted : 1 ≤ l.number;
  numbered : l.number + length l.rest ≤ 1 + length l.source;
  fine : (all : LabelMap) → AreFine l.labels l.at (source_lines l.rest) all → AreFine empty 0 (source_lines l.source) all;
  refused : (kind : AsmKind) (n c : ℕ) → IsFirstRefused kind l.labels l.at (source_lines l.rest) n c
      → IsFirstRefused kind empty 0 (source_lines l.source) (l.number - 1 + n) c;
}

abbrev pub decreases-loop-rest : goal.decreases-loop-rest
decreases-loop-rest l = length l.rest
