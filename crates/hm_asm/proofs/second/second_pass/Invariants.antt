use Rattle.std.proofs.Common.{◌≡◌, ◌+◌, ◌-◌, ◌≤◌, ◌∷◌, ◌++◌, ℕ, List, length}
use Rattle.std.specs.FinMap.{get}
use Rattle.hm_base.specs.Image.{Segment, segment}
use Rattle.hm_line.specs.Labels.{LabelMap}
use Rattle.hm_line.specs.declared.errors.AsmKind.{AsmKind}
use Rattle.hm_asm.specs.FirstPass.{AreFine}
use Rattle.hm_source.specs.Lines.{source_lines}
use Rattle.hm_asm.specs.Making.{place_of}
use Rattle.hm_asm.specs.SecondPass.{AreGiven, IsNextRefused}
use Rattle.hm_asm.specs.Segments.{joined}
use Rattle.hm_asm.proofs.second.second_pass.Given as goal

-- the lines that are left are fine; what they give, behind what was made, is what the source gives; and their refusal is that of the source
abbrev pub invariant-loop-rest : goal.invariant-loop-rest
invariant-loop-rest l = record {
  counted : 1 ≤ l.number;
  numbered : l.number + length l.rest ≤ 1 + length l.source;
  fine : (m : LabelMap) × AreFine m (place_of l.out) (source_lines l.rest) l.labels;
  given : (pieces : List Segment) → AreGiven (get l.labels) (place_of l.out) (source_lines l.rest) pieces
      → (all : List Segment) × AreGiven (get l.labels) 0 (source_lines l.source) all
      × (l.out.whole ++ joined (segment l.out.start l.out.bytes ∷ pieces) ≡ joined all);
  refused : (kind : AsmKind) (n c : ℕ) → IsNextRefused kind (get l.labels) (place_of l.out) (source_lines l.rest) n c
      → IsNextRefused kind (get l.labels) 0 (source_lines l.source) (l.number - 1 + n) c;
}

abbrev pub decreases-loop-rest : goal.decreases-loop-rest
decreases-loop-rest l = length l.rest
