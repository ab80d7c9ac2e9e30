use Rattle.std.specs.List.{AllWithin}
use Rattle.hm_shake.specs.Numbers.{HasNumbers}
use Rattle.hm_shake.proofs.naming.files_fit.Given as goal

abbrev pub invariant-loop-file : goal.invariant-loop-file
invariant-loop-file l = AllWithin (λ w. HasNumbers w.kind) l.files 0 l.file-index
