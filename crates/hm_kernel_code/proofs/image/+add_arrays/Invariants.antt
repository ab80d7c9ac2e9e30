use Rattle.std.proofs.Common.{length}
use Rattle.hm_kernel_code.proofs.image.+add_arrays.Given as goal

abbrev pub decreases-add_arrays : goal.decreases-add_arrays
decreases-add_arrays l = length l.arrays.now
