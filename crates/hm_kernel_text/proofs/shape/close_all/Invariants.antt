use Rattle.std.proofs.Common.{◌≡◌, drop}
use Rattle.std.specs.Prelude.{reverse}
use Rattle.hm_kernel_text.specs.Shapes.{closed_sides}
use Rattle.hm_kernel_text.proofs.shape.close_all.Given as goal

abbrev pub invariant-loop-bracket : goal.invariant-loop-bracket
invariant-loop-bracket l = closed_sides (reverse l.awaited.items) (drop l.bracket-index l.brackets) ≡ closed_sides (reverse l.initial.awaited.items) l.brackets
