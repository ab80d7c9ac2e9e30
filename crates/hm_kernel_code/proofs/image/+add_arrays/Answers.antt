use Rattle.std.proofs.Common.{rules}
use Rattle.hm_kernel_code.proofs.Apart.{others_apart, others_placed}
use Rattle.hm_kernel_code.proofs.image.+add_arrays.Goals as goal

pub add_arrays-requires : goal.add_arrays-requires
add_arrays-requires t c = (
  search rules,
  (
    others_placed c.args.t c.args.arrays.now c.in-Some.first.now c.in-Some.others.now (search rules) c.requires.placed,
    others_apart c.args.t c.args.arrays.now c.in-Some.first.now c.in-Some.others.now c.args.image.now (search rules) c.requires.apart,
  ),
)
